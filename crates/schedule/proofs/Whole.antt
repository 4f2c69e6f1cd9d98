-- Whole schedules: the bytes that read as a schedule are exactly those that the format says it is.
use Rattle.std.specs.Prelude.{◌≡◌, refl, List, [], ◌∷◌, ◌++◌, true, ℕ, zero, suc, ◌≤◌, eqb, length, drop, Some, None}
use Rattle.std.proofs.Common.{sym, ap, subst, ◌∙◌, arith, length-append, take-append-drop, eqb-true, ne_eqb}
use Rattle.std.proofs.Math.Seq.{drop-append_seam}
use Rattle.laws.specs.Choice.{pick, pick_false, fork}
use Rattle.laws.specs.Parts.{Below}
use Rattle.tables.specs.Fresh.{sizes_ok}
use Rattle.schedule.specs.Answers.{opening, OpeningReading, CommandReading}
use Rattle.schedule.specs.Numbers.{most_bytes}
use Rattle.schedule.specs.Format.{command_bytes, opening_bytes, Schedule, all_bytes, schedule_bytes, EachProper, Is}
use Rattle.schedule.specs.Reading.{opening_at, command_at, Listed, before, handed_on, commands_in, ScheduleReading, with_sizes, opened, schedule_at}
use Rattle.schedule.specs.Numerals.{below-drop}
use Rattle.schedule.specs.Openings.{opening_reads, Opens, opening_opens, opening_rewritten}
use Rattle.schedule.specs.Commands.{command_reads, command_some}
use Rattle.schedule.specs.Whole.{Relisted}
use Rattle.schedule.proofs.Standing.{command_stands, command_rewritten}
use Rattle.schedule.specs.declared.Command.{Command}

-- ---- the commands behind the opening

pub commands_read : (cs : List Command) (k : ℕ) → EachProper cs → length (all_bytes cs) ≤ k → commands_in k (all_bytes cs) ≡ Some cs
unfolding all_bytes EachProper commands_in handed_on before pick
commands_read [] zero each room = refl
commands_read [] (suc k) each room = refl
commands_read (c ∷ cs) zero each room = absurd (omega (arith, length-append (command_bytes c) (all_bytes cs), command_some c))
commands_read (c ∷ cs) (suc k) each room =
    let some : 1 ≤ length (command_bytes c ++ all_bytes cs) = omega (arith, length-append (command_bytes c) (all_bytes cs), command_some c) in
    pick_false _ _ _ (ne_eqb (length (command_bytes c ++ all_bytes cs)) 0 (λ e. omega arith))
    ∙ rw (command_reads c (all_bytes cs) each.0, drop-append_seam (command_bytes c) (all_bytes cs), commands_read cs k each.1 (omega (arith, length-append (command_bytes c) (all_bytes cs), command_some c)))

unfoldable OnListed : (List Command → Type 0) → Listed → Type 0
OnListed P (Some cs) = P cs
OnListed P None = Unit

none_left : (s : List ℕ) → length s ≡ 0 → Relisted s []
unfolding all_bytes EachProper
none_left [] e = record { bytes = refl; each = tt }
none_left (x ∷ s) e = absurd (omega arith)

one-before : (s : List ℕ) → Below 256 s → (c : Command) (end : ℕ) (cs : List Command) → command_at s ≡ Some (c, end) → Relisted (drop end s) cs → Relisted s (c ∷ cs)
unfolding all_bytes EachProper
one-before s b c end cs at rest = record { bytes = sym (take-append-drop end s) ∙ rw (command_rewritten s b c end at, rest.bytes); each = ((command_stands s c end at).proper, rest.each) }

relisted_by : (k : ℕ) (s : List ℕ) → Below 256 s
    → ((end : ℕ) (cs : List Command) → commands_in k (drop end s) ≡ Some cs → Relisted (drop end s) cs)
    → (r : CommandReading) → command_at s ≡ r → OnListed (Relisted s) (handed_on r (λ end. commands_in k (drop end s)))
unfolding OnListed handed_on before
relisted_by k s b rest None at = tt
relisted_by k s b rest (Some (c, end)) at = behind (commands_in k (drop end s)) refl
  where
    behind : (x : Listed) → commands_in k (drop end s) ≡ x → OnListed (Relisted s) (before c x)
    behind None e = tt
    behind (Some cs) e = one-before s b c end cs at (rest end cs e)

pub commands_rewritten : (k : ℕ) (s : List ℕ) → Below 256 s → (cs : List Command) → commands_in k s ≡ Some cs → Relisted s cs
unfolding OnListed commands_in
commands_rewritten zero s b cs e =
    subst (OnListed (Relisted s)) e (fork (OnListed (Relisted s)) (eqb (length s) 0) (λ t. none_left s (eqb-true (length s) 0 t)) (λ t. tt))
commands_rewritten (suc k) s b cs e =
    subst (OnListed (Relisted s)) e (fork (OnListed (Relisted s)) (eqb (length s) 0) (λ t. none_left s (eqb-true (length s) 0 t))
    (λ t. relisted_by k s b (λ end. commands_rewritten k (drop end s) (below-drop 256 end s b)) (command_at s) refl))

-- ---- the whole

bytes_read : (x : Schedule) → sizes_ok x.n x.m x.p ≡ true → EachProper x.commands → length (schedule_bytes x) ≤ most_bytes → schedule_at (schedule_bytes x) ≡ Some x
unfolding schedule_bytes schedule_at opened with_sizes
bytes_read x sizes each few =
    let head = opening_bytes x.n x.m x.p in
    let tail = all_bytes x.commands in
    let room : length tail ≤ length (head ++ tail) = omega (arith, length-append head tail) in
    rw (opening_reads x.n x.m x.p tail sizes few, drop-append_seam head tail, commands_read x.commands (length (head ++ tail)) each room)

-- what the format says is a schedule reads as that schedule
pub schedule_reads : (s : List ℕ) (x : Schedule) → Is s x → schedule_at s ≡ Some x
schedule_reads s x is = ap schedule_at is.bytes ∙ bytes_read x is.sizes is.each (subst (λ (l : List ℕ). length l ≤ most_bytes) is.bytes is.few)

unfoldable OnSchedule : (Schedule → Type 0) → ScheduleReading → Type 0
OnSchedule P (Some x) = P x
OnSchedule P None = Unit

-- what reads is a schedule by the format
pub read_is_schedule : (s : List ℕ) → Below 256 s → (x : Schedule) → schedule_at s ≡ Some x → Is s x
unfolding schedule_bytes schedule_at opened with_sizes OnSchedule
read_is_schedule s b x e = subst (OnSchedule (Is s)) e (by (opening_at s) refl)
  where
    behind : (n m p end : ℕ) → opening_at s ≡ Some (opening n m p, end) → (l : Listed) → commands_in (length s) (drop end s) ≡ l → OnSchedule (Is s) (with_sizes n m p l)
    behind n m p end head None at = tt
    behind n m p end head (Some cs) at =
        let tail : Relisted (drop end s) cs = commands_rewritten (length s) (drop end s) (below-drop 256 end s b) cs at in
        let it : Opens s n m p end = opening_opens s n m p end head in
        record { bytes = sym (take-append-drop end s) ∙ rw (opening_rewritten s b n m p end head, tail.bytes); sizes = it.sizes; each = tail.each; few = it.few }

    by : (r : OpeningReading) → opening_at s ≡ r → OnSchedule (Is s) (opened r s)
    by None at = tt
    by (Some (o, end)) at = behind o.n o.m o.p end at (commands_in (length s) (drop end s)) refl

-- "A fault": exactly what is no schedule by the format
pub fault_is_none : (s : List ℕ) → schedule_at s ≡ None → (x : Schedule) → Is s x → ⊥
fault_is_none s e x is = let z : ◌≡◌ {A = ℕ} 0 1 = cc (schedule_reads s x is) in omega arith

pub none_is_fault : (s : List ℕ) → Below 256 s → ((x : Schedule) → Is s x → ⊥) → schedule_at s ≡ None
none_is_fault s b none = by (schedule_at s) refl
  where
    by : (r : ScheduleReading) → schedule_at s ≡ r → r ≡ None
    by (Some x) e = absurd (none x (read_is_schedule s b x e))
    by None e = refl

-- no bytes are two schedules, and no schedule has two strings of bytes
pub one_schedule : (s : List ℕ) (x y : Schedule) → Is s x → Is s y → x ≡ y
one_schedule s x y is it = cc (schedule_reads s x is, schedule_reads s y it)

pub one_string : (s t : List ℕ) → Below 256 s → Below 256 t → (x : Schedule) → schedule_at s ≡ Some x → schedule_at t ≡ Some x → s ≡ t
one_string s t bs bt x es et = (read_is_schedule s bs x es).bytes ∙ sym (read_is_schedule t bt x et).bytes
