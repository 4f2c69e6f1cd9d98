-- Turns of other workers keep what a scan knows.
use Rattle.std.specs.Prelude.{ℕ, List}
use Rattle.std.proofs.Common.{ap, ◌∙◌}
use Rattle.tables.specs.Names.{update}
use Rattle.shapes.specs.declared.Locals.{Locals}
use Rattle.shapes.specs.declared.Place.{Place}
use Rattle.trees.specs.Scanning.{Stand}
use Rattle.views.specs.View.{View}
use Rattle.protocol.specs.Ghost.{Ghost}
use Rattle.protocol.specs.Invariant.{Holds}
use Rattle.protocol.specs.Rely.{Rely}
use Rattle.protocol.specs.Helper.{helps_kept}
use Rattle.protocol.specs.Trees.{leaf_of, TreeStep}
use Rattle.protocol.specs.Walks.{walks_kept}
use Rattle.protocol.specs.ScanPlaces.{OnWalk, AtNode, ScanKnows, by_place}

-- o may be any worker: nothing here is the scan's own
module _ (o : ℕ) (X X' : View) (G G' : Ghost) (H : Holds X G) (L : Rely o X X' G G') (t : TreeStep X X' G G') where
  module _ {i : ℕ} {us : List ℕ} {found T more : ℕ} where
    pub on_kept : {stand : Stand} → OnWalk X G i stand us found T more → OnWalk X' G' i stand us found T more
    on_kept k = record { visited = k.visited; leaves = k.leaves; walks = walks_kept o X X' G G' H L t k.walks; keys = k.keys; turns = k.turns }

    pub at_kept : {p : ℕ} → AtNode X G i p us found T more → AtNode X' G' i p us found T more
    at_kept {p} k = record { on = on_kept k.on; inner = ap leaf_of (L.fixed p (H.used p k.on.walks.here)) ∙ k.inner }

  pub scan_kept : (v : Locals) (us : List ℕ) (found T : ℕ) (q : Place) → ScanKnows X G v us found T q → ScanKnows X' G' v us found T q
  scan_kept v us found T = by_place X G v us found T (ScanKnows X' G' v us found T)
      (λ b k. (at_kept k.0, helps_kept o X X' G G' L v.info.0 v.i b k.1))
      (λ k. k)
      (λ k. k)
      at_kept
      (λ k. (at_kept k.0, (k.1.0, L.seen v.p.0 (update k.1.0 v.info) k.1.1)))
      at_kept
      (λ k. (on_kept k.0, k.1))
