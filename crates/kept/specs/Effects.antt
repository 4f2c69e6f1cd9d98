-- What an effect needs is enough: the tables stay sound.
use Rattle.std.specs.Prelude.{ℕ, List}
use Rattle.std.proofs.Math.Path.{refl}
use native.Mathlib.Omega.{arith}
use Rattle.shapes.specs.declared.Effect.{Effect}
use Rattle.shapes.specs.declared.Effect.TheVariants as effect
use Rattle.tables.specs.NodeWrites.{fixed_set_child, fixed_set_update}
use Rattle.tables.specs.World.{Tables, tables}
use Rattle.sound.specs.Meaning.{TablesSound}
use Rattle.steps.specs.Apply.{bumped, apply}
use Rattle.kept.specs.Later.{grows_same, node-later, KeepsFixed, record_later, Later}
use Rattle.kept.specs.Fits.{Fits}
use Rattle.kept.specs.Writes.{counts-fill, counts-set_state, sound-fill, sound-set_child, sound-set_update, sound-set_state}
use Rattle.kept.specs.Takings.{sound-taken, later-taken, three_kept, copy_kept, grows_bump}

-- ---- every effect

pub record Kept (s u : Tables) : Type 0 where
  pub sound : TablesSound u
  pub later : Later s u
  pub fixed : KeepsFixed s.totals.nodes s.nodes u.nodes

later_same : (s : Tables) (ns : List ℕ) → Later s (tables s.totals ns s.records)
later_same s ns = record { totals = grows_same s.totals; counts = λ r l c. refl }

pub effect_keeps : (e : Effect) (s : Tables) → TablesSound s → Fits e s → Kept s (apply e s)
unfolding apply
effect_keeps effect.Nothing s h f = record { sound = h; later = later_same s s.nodes; fixed = λ y l. refl }
effect_keeps effect.Bump s h f = unfold bumped in record {
  sound = record { node-rows = h.node-rows; record_rows = h.record_rows; used = record { least_nodes = h.used.least_nodes; most_nodes = h.used.most_nodes; least_records = h.used.least_records; most_records = h.used.most_records; counter = omega arith }; root-row = h.root-row; dummy-row = h.dummy-row; dummy_state = h.dummy_state; nodes = λ n l. node-later (grows_bump s) (h.nodes n l); records = λ n z l. record_later (grows_bump s) (λ y k. refl) (h.records n z l) };
  later = record { totals = grows_bump s; counts = λ r l c. refl };
  fixed = λ y l. refl;
}
effect_keeps (effect.TakeThree k l q) s h f =
    let made = three_kept s h k l q f.0 f.1 in
    record { sound = sound-taken s h 3 q f.0 _ made.0 made.1 made.2; later = later-taken s h 3 q f.0 _; fixed = made.1 }
effect_keeps (effect.TakeCopy sibling p q) s h f =
    let made = copy_kept s h sibling p q f.0 f.1 f.2 in
    record { sound = sound-taken s h 1 q f.0 _ made.0 made.1 made.2; later = later-taken s h 1 q f.0 _; fixed = made.1 }
effect_keeps (effect.CopyChild x left c) s h f = record { sound = sound-set_child s h x left c f.0 f.1; later = later_same s _; fixed = λ y l. fixed_set_child s.nodes x left c y }
effect_keeps (effect.Fill r g) s h f = record { sound = sound-fill s h r g f; later = record { totals = grows_same s.totals; counts = counts-fill s h r g f }; fixed = λ y l. refl }
effect_keeps (effect.Freeze x u) s h f = record { sound = sound-set_update s h x u f.0 f.1; later = later_same s _; fixed = λ y l. fixed_set_update s.nodes x u y }
effect_keeps (effect.SetState r v) s h f = record { sound = sound-set_state s h r v f.0 f.1 f.2; later = record { totals = grows_same s.totals; counts = counts-set_state s h r v f.0 f.1 f.2 }; fixed = λ y l. refl }
effect_keeps (effect.Link x left c) s h f = record { sound = sound-set_child s h x left c f.0 f.1; later = later_same s _; fixed = λ y l. fixed_set_child s.nodes x left c y }
