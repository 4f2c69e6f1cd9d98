-- Both halves together: a write of another worker changes no decision, unless it is to the one word that the decision looks at.
use Rattle.std.specs.Prelude.{ℕ, ◌≡◌, refl, ◌≢◌, List}
use Rattle.shapes.specs.declared.NodeNo.{NodeNo}
use Rattle.shapes.specs.declared.RecordNo.{RecordNo}
use Rattle.shapes.specs.declared.Locals.{Locals}
use Rattle.shapes.specs.declared.Operation.{Operation}
use Rattle.shapes.specs.declared.Effect.{Effect}
use Rattle.shapes.specs.declared.Effect.TheVariants as effect
use Rattle.tables.specs.NodeWrites.{fixed_at, fixed_set_child, fixed_set_update}
use Rattle.tables.specs.RecordWrites.{filling_at, filling_set_state}
use Rattle.tables.specs.World.{Tables, tables}
use Rattle.steps.specs.Apply.{bumped, apply}
use Rattle.steps.specs.Scan.{Lists}
use Rattle.steps.specs.Decide.{decide}
use Rattle.kept.specs.Touched.{touched, UsedWord, one_word}
use Rattle.looks.specs.Looked.{looked_at}
use Rattle.looks.specs.Alike.{Alike, place_of, OwnCopy, InRow, Writes}
use Rattle.looks.proofs.ReadsOne.{reads-one}

changed : (s : Tables) (ns rs : List ℕ) → ((x : NodeNo) → fixed_at ns x ≡ fixed_at s.nodes x) → ((r : RecordNo) → filling_at rs r ≡ filling_at s.records r) → Alike s (tables s.totals ns rs)
changed s ns rs f g = record { n = refl; m = refl; p = refl; nodes = refl; records = refl; fixed = f; filling = g }

pub writes_alike : (e : Effect) (s : Tables) → Writes e → Alike s (apply e s)
unfolding apply bumped
writes_alike effect.Nothing s w = changed s _ _ (λ x. refl) (λ r. refl)
writes_alike effect.Bump s w = record { n = refl; m = refl; p = refl; nodes = refl; records = refl; fixed = λ x. refl; filling = λ r. refl }
writes_alike (effect.TakeThree k l q) s w = absurd w
writes_alike (effect.TakeCopy x p q) s w = absurd w
writes_alike (effect.CopyChild x left c) s w = changed s _ _ (fixed_set_child s.nodes x left c) (λ r. refl)
writes_alike (effect.Fill r f) s w = absurd w
writes_alike (effect.Freeze x u) s w = changed s _ _ (fixed_set_update s.nodes x u) (λ r. refl)
writes_alike (effect.SetState r v) s w = changed s _ _ (λ x. refl) (filling_set_state s.records r v)
writes_alike (effect.Link x left c) s w = changed s _ _ (fixed_set_child s.nodes x left c) (λ r. refl)

pub undisturbed : (e : Effect) (s : Tables) (ls : Lists) (o : Operation) (v : Locals) → Writes e → OwnCopy s (apply e s) v (place_of o) → InRow v (place_of o) → UsedWord s (looked_at s ls o v) → looked_at s ls o v ≢ touched e → decide (apply e s) ls o v ≡ decide s ls o v
undisturbed e s ls o v w own row used ne = reads-one s (apply e s) ls o v (writes_alike e s w) own row (one_word e s (looked_at s ls o v) used ne)
