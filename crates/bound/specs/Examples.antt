-- Worked examples: what the definitions of the statement give for P6 to P9, and for a scan that comes within one turn of its bound.
use Rattle.std.specs.Prelude.{[], ℕ, ◌≡◌, List, ◌∷◌, ◌++◌, replicate, pos, None, Some, Ok}
use Rattle.shapes.specs.declared.Key.{Key}
use Rattle.shapes.specs.declared.Answer.TheVariants.{Keys}
use Rattle.shapes.specs.Outcomes.{Outcome}
use Rattle.tables.specs.Names.{key_of}
use Rattle.tables.specs.World.{World}
use Rattle.steps.specs.Play.{fresh}
use Rattle.bound.specs.Histories.{Call, insert, delete, scan, turn, asked, after, turns_of, inner_nodes}
use Rattle.bound.specs.Statement.{most_turns}

-- ---- histories; the last call stands first

abbrev pub key : ℕ → Key
key n = key_of (pos n)

-- so many turns of worker w, after h
abbrev pub turns : ℕ → ℕ → List Call → List Call
turns k w h = replicate k (turn w) ++ h

-- worker 0 inserts 5 and takes so many turns
abbrev pub inserts5 : ℕ → List Call → List Call
inserts5 k h = turns k 0 (insert 0 (key 5) ∷ h)

-- worker 1 scans 0 to 9 and takes so many turns
abbrev pub scans : ℕ → List Call → List Call
scans k h = turns k 1 (scan 1 (key 0) (key 9) ∷ h)

-- the scan takes its phase, 0; insert 5 passes whole in phase 1; delete 5 has frozen the Root and stops; the scan helps it with its four nodes
abbrev pub helps_delete : List Call
helps_delete = turns 15 1 (turns 22 0 (delete 0 (key 5) ∷ inserts5 18 (scans 2 [])))

-- ---- what is seen after a history

-- what the last call came to
unfoldable pub last_outcome : World → List Call → Outcome
last_outcome s [] = Ok None
last_outcome s (c ∷ h) = (asked (after s h) c).outcome

-- the last outcome, the turns of worker 1, I for phase 0, and the bound
pub record Seen : Type 0 where
  pub outcome : Outcome
  pub turns : ℕ
  pub inner : ℕ
  pub most : ℕ

unfoldable pub seen : List Call → Seen
seen h =
    let s = fresh 16 4 in
    record { outcome = last_outcome s h; turns = turns_of s 1 h; inner = inner_nodes (after s h) 0; most = most_turns (after s h) 0 }

abbrev pub keys_after : ℕ → ℕ → ℕ → ℕ → Seen
keys_after found turns inner most = record { outcome = Ok (Some (Keys found)); turns = turns; inner = inner; most = most }

pub record Examples : Type 0 where
  pub p6 : seen (scans 5 []) ≡ keys_after 0 5 1 18
  pub p7 : seen (scans 8 (inserts5 18 [])) ≡ keys_after 1 8 2 34
  pub p8 : seen (scans 5 (inserts5 1 [])) ≡ keys_after 0 5 1 18
  pub p9 : seen (scans 16 (inserts5 12 [])) ≡ keys_after 1 16 2 34
  -- 17 of 18: the Root alone is seen, and its left child alone is read, since its key is above every b
  pub tight : seen helps_delete ≡ keys_after 0 17 1 18
