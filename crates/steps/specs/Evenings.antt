-- 01, 'Evenings worked through': P1 to P10, by computation from the definitions.
use Rattle.std.specs.Prelude.{ℕ, ◌≡◌, refl, [], ◌∷◌, pos, Some, Ok}
use Rattle.shapes.specs.declared.Answer.TheVariants.{Yes, No, Keys, NoRoom}
use Rattle.tables.specs.World.{World}
use Rattle.steps.specs.Turn.{Ran, run_from}
use Rattle.steps.specs.Opened.{steps_opened}
use Rattle.steps.specs.Play.{fresh, insert, delete, find, scans, answer, to_the_end, shown, show, keys_of}

-- P2 and what follows it
unfoldable pub insert5 : Ran
insert5 = answer 0 (insert 0 (pos 5) (fresh 16 4))

unfoldable pub with5 : World
with5 = insert5.world

-- P8: one turn of the insert, a whole scan, then the insert again
unfoldable pub insert_past_scan : Ran
insert_past_scan =
    let s = (run_from 1 0 0 (insert 0 (pos 5) (fresh 16 4))).world in
    run_from to_the_end 1 0 (answer 1 (scans 1 (pos 0) (pos 9) s)).world

-- P9: twelve turns of the insert, then a scan, then the rest of the insert
unfoldable pub scan_helps : Ran
scan_helps = answer 1 (scans 1 (pos 0) (pos 9) (run_from 12 0 0 (insert 0 (pos 5) (fresh 16 4))).world)

unfoldable pub insert_helped : Ran
insert_helped = run_from to_the_end 12 0 scan_helps.world

-- P10: insert 5, insert 3 with so many nodes
unfoldable pub two_inserts : ℕ → Ran
two_inserts n = answer 0 (insert 0 (pos 3) (answer 0 (insert 0 (pos 5) (fresh n 4))).world)

-- each: the answer, the turns, nodes used, records used, Counter; and the keys of a scan
pub record Evenings : Type 0 where
  pub p1 : show (answer 0 (find 0 (pos 5) (fresh 16 4))) ≡ shown (Ok (Some No)) 6 3 1 0
  pub p2 : show insert5 ≡ shown (Ok (Some Yes)) 18 6 2 0
  pub p3 : show (answer 0 (find 0 (pos 5) with5)) ≡ shown (Ok (Some Yes)) 11 6 2 0
  pub p4 : show (answer 0 (insert 0 (pos 5) with5)) ≡ shown (Ok (Some No)) 11 6 2 0
  pub p5 : show (answer 0 (delete 0 (pos 5) with5)) ≡ shown (Ok (Some Yes)) 34 7 3 0
  pub p6 : show (answer 0 (scans 0 (pos 0) (pos 9) (fresh 16 4))) ≡ shown (Ok (Some (Keys 0))) 5 3 1 1
  pub p7 : show (answer 0 (scans 0 (pos 0) (pos 9) with5)) ≡ shown (Ok (Some (Keys 1))) 8 6 2 1
  pub p7_keys : keys_of 1 0 (answer 0 (scans 0 (pos 0) (pos 9) with5)) ≡ pos 5 ∷ []
  pub p8 : show insert_past_scan ≡ shown (Ok (Some Yes)) 33 9 3 1
  pub p9 : show scan_helps ≡ shown (Ok (Some (Keys 1))) 16 6 2 1
  pub p9_keys : keys_of 1 1 scan_helps ≡ pos 5 ∷ []
  pub p9_insert : show insert_helped ≡ shown (Ok (Some Yes)) 15 6 2 1
  pub p10 : show (two_inserts 8) ≡ shown (Ok (Some NoRoom)) 11 6 2 0
  pub p10_nine : show (two_inserts 9) ≡ shown (Ok (Some Yes)) 23 9 3 0

pub evenings : Evenings
unfolding steps_opened fresh insert delete find scans answer show keys_of insert5 with5 insert_past_scan scan_helps insert_helped two_inserts
evenings = record { p1 = refl; p2 = refl; p3 = refl; p4 = refl; p5 = refl; p6 = refl; p7 = refl; p7_keys = refl; p8 = refl; p9 = refl; p9_keys = refl; p9_insert = refl; p10 = refl; p10_nine = refl }
