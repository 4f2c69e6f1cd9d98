-- What a worker knows of a word that it has read, and of a state that it has read after it.
use Rattle.std.specs.Prelude.{ℕ, ◌<◌, ◌≡◌, refl, ◌≢◌}
use Rattle.std.proofs.Common.{inl, inr, arith}
use Rattle.shapes.specs.declared.Update.{Update}
use Rattle.tables.specs.Records.{aborted}
use Rattle.views.specs.View.{View}
use Rattle.protocol.specs.Ghost.{Ghost, Filled, Seen}
use Rattle.protocol.specs.Invariant.{Holds}
use Rattle.protocol.specs.Helper.{Shown, Helps}
use Rattle.shapes.specs.declared.HelpStep.TheVariants.{Counter111}

module _ (X : View) (G : Ghost) (H : Holds X G) where
  -- lines 52, 66, 139, 164, 189 and 190: the word that stands
  pub seen_now : (v : ℕ) → v < X.nodes → Seen X G v (X.update v)
  seen_now v l = let w = H.words v l in record { used = l; known = w.0; since = inl refl; mine = w.1 }

  -- a filled record is not the dummy
  pub not_dummy : (r : ℕ) → Filled X r → r ≢ 0
  not_dummy r f e = let none : (X.filling r).count ≡ 0 = rw e H.dummy.1 in omega (arith, f.some)

  -- the dummy stands in ABORT: a record that does not has been seen, so it may be helped (lines 54, 99 and 140)
  pub shown-word : (v : ℕ) (u : Update) → Seen X G v u → X.state u.info.0 < aborted → Shown X G u.info.0
  shown-word v u s l = elim s.known [
    | inl e ↦ let dummy : X.state 0 ≡ aborted = H.unfilled 0 H.dummy.0 H.dummy.1 in (let z : X.state 0 < aborted = rw e at l in absurd (omega (arith, z)))
    | inr f ↦ record { filled = f; first = (H.records u.info.0 f).in_order v (s.mine (not_dummy u.info.0 f)) }
  ]

  pub helps-word : (v : ℕ) (u : Update) → Seen X G v u → X.state u.info.0 < aborted → Helps X G u.info.0 0 Counter111
  helps-word v u s l = record { shown = shown-word v u s l; at = tt }
