-- Worked examples of 'a turn decides by one changeable word': what does not matter, what does, and why its two provisos stand.
use Rattle.std.specs.Prelude.{◌≡◌, true, false}
use Rattle.shapes.specs.declared.Locals.{Locals}
use Rattle.shapes.specs.declared.Link.TheVariants.{Leaf64, Left187, Right188}
use Rattle.shapes.specs.declared.LinkStep.TheVariants.{Word52, Child57}
use Rattle.shapes.specs.declared.HelpStep.TheVariants.{Freeze117, Frozen119}
use Rattle.shapes.specs.declared.Back.TheVariants.{Again}
use Rattle.shapes.specs.declared.Place.TheVariants as place
use Rattle.shapes.specs.declared.Operation.TheVariants.{Delete, Find}
use Rattle.shapes.specs.declared.Effect.TheVariants as effect
use Rattle.shapes.specs.declared.Filling.{Filling}
use Rattle.shapes.specs.Outcomes.{Decision}
use Rattle.tables.specs.Names.{node, record_no, phase, update, root}
use Rattle.tables.specs.Records.{no_entry}
use Rattle.tables.specs.World.{Tables, tables_of}
use Rattle.steps.specs.Hand.{at_root, at_word, with_i, with_leaf, with_sibling, with_taken, does, goes, retries}
use Rattle.steps.specs.Apply.{apply}
use Rattle.steps.specs.Scan.{Lists}
use Rattle.steps.specs.Decide.{decide}
use Rattle.steps.specs.Play.{fresh}
use Rattle.kept.specs.Touched.{child, word}
use Rattle.looks.specs.Looked.{looked_at}

unfoldable pub base : Tables
base = tables_of (fresh 16 4)

abbrev pub no_lists : Lists
no_lists = record { top = root; pending = 0; found = 0 }

-- a find of 5 that stands at the Root; its left child is node 1
abbrev pub finds : Tables → Decision
finds s = decide s no_lists (Find (record { 0 = 5 }) place.Search39) (at_root (phase 0))

-- Counter, an update word, a state and the other child: none of them is what a search looks at
unfoldable pub elsewhere : Tables
elsewhere = apply effect.Bump (apply (effect.Freeze root (update 1 (record_no 1))) (apply (effect.SetState (record_no 1) 2) (apply (effect.Link root false (node 1)) base)))

-- records 1 and 2 with two nodes to list, both the Root, and entry 5 of record 1 in the hand: it stands in the row of record 2
abbrev pub two : Filling
two = record { count = 2; par = root; old = root; new = root; seq = phase 0; first = no_entry; second = no_entry; third = no_entry; fourth = no_entry }

unfoldable pub filled : Tables
filled = apply (effect.Fill (record_no 2) two) (apply (effect.Fill (record_no 1) two) base)

abbrev pub fifth : Locals
fifth = with_i (at_word (phase 0) root (record_no 1)) 5

abbrev pub freezes : Tables → Decision
freezes s = decide s no_lists (Find (record { 0 = 5 }) (place.Help Freeze117 Again)) fifth

-- line 187 for the Root as sibling, whose left child is node 1, and node 5 as copy, whose left child is node 3
unfoldable pub three : Tables
three = apply (effect.TakeThree (record { 0 = 5 }) (node 1) (phase 0)) base

abbrev pub copied : Locals
copied = with_taken (with_sibling (at_root (phase 0)) root) (node 5) (record_no 1)

abbrev pub compares : Tables → Decision
compares s = decide s no_lists (Delete (record { 0 = 5 }) (place.Link Left187 Child57)) copied

pub record Examples : Type 0 where
  pub looked : looked_at base no_lists (Find (record { 0 = 5 }) place.Search39) (at_root (phase 0)) ≡ child root true
  pub same : finds elsewhere ≡ finds base
  pub at_leaf : finds base ≡ goes (with_leaf (at_root (phase 0)) (node 1)) (place.Link Leaf64 Word52)
  pub at_other : finds (apply (effect.Link root true (node 2)) base) ≡ goes (with_leaf (at_root (phase 0)) (node 2)) (place.Link Leaf64 Word52)
  -- beyond the row the state of record 2 counts, though node 2's word is looked at
  pub beyond : looked_at filled no_lists (Find (record { 0 = 5 }) (place.Help Freeze117 Again)) fifth ≡ word (node 2)
  pub beyond_undecided : freezes filled ≡ does (effect.Freeze (node 2) (update 0 (record_no 1))) fifth (place.Help Frozen119 Again)
  pub beyond_trying : freezes (apply (effect.SetState (record_no 2) 1) filled) ≡ goes fifth (place.Help Frozen119 Again)
  -- whoever changes the copy changes what its maker decides, though the sibling's child is looked at
  pub copy : looked_at three no_lists (Delete (record { 0 = 5 }) (place.Link Left187 Child57)) copied ≡ child root true
  pub copy_differs : compares three ≡ retries
  pub copy_changed : compares (apply (effect.CopyChild (node 5) true (node 1)) three) ≡ goes copied (place.Link Right188 Word52)
