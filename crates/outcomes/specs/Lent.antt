-- What is seen of a call that lists are lent to: its answer, each list that it may write as it stands at exit, and whose lists they are.
use base.Fml.{GName}
use Rattle.std.specs.Prelude.{ℕ, List, ℤ}
use Rattle.std.specs.Borrow.{MutBor}
use Rattle.shapes.specs.declared.Reply.{Reply}
use Rattle.shapes.specs.declared.Run.{Run}
use Rattle.tables.specs.World.{World}
use Rattle.lending.specs.declared.Lent.{Lent}
use Rattle.lending.specs.declared.Shown.{Shown}
use Rattle.tables.specs.Fresh.{Left, left}
use Rattle.steps.specs.Turn.{Ran}
use Rattle.running.specs.Loop.{ran}

-- ---- one list, or two

abbrev pub with : {R T : Type 0} → R → MutBor (List T) → R × List T
with r l = (r, l.now)

abbrev pub with_both : {R : Type 0} → R → MutBor (List ℕ) → MutBor (List ℕ) → R × List ℕ × List ℕ
with_both r l m = (r, l.now, m.now)

-- ---- the tables, lent as one value

abbrev pub Exit : Type 0 → Type 0
Exit R = R × List ℕ × List ℕ × List ℕ × List ℤ

abbrev pub exit : {R : Type 0} → R → MutBor Lent → Exit R
exit r l = (r, l.now.nodes.now, l.now.records.now, l.now.pending.now, l.now.found.now)

-- the names that the logic has for the four loans, which say whose lists they are
abbrev pub Names : Type 0
Names = GName × GName × GName × GName

abbrev pub names : Lent → Names
names l = (l.nodes.ghost_name, l.records.ghost_name, l.pending.ghost_name, l.found.ghost_name)

abbrev pub exit_named : {R : Type 0} → R → MutBor Lent → Exit R × Names
exit_named r l = (exit r l, names l.now)

abbrev pub shown : {R : Type 0} → R → Shown → Exit R
shown r l = (r, l.nodes.now, l.records.now, l.pending.now, l.found.now)

abbrev pub lists : {R : Type 0} → R → World → Exit R
lists r s = (r, s.nodes, s.records, s.pending, s.found)

-- what a reply, or a run, and the lists come to in a contract
abbrev pub all_left : Exit Reply → Left
all_left o = left o.0 o.1 o.2 o.3 o.4

abbrev pub all_ran : Exit Run → Ran
all_ran o = ran o.0 o.1 o.2 o.3 o.4

-- and back
abbrev pub reply_back : Left → Reply
reply_back d = record { board = d.world.board; outcome = d.outcome }

abbrev pub run_back : Ran → Run
run_back d = record { board = d.world.board; outcome = d.outcome; turns = d.turns }
