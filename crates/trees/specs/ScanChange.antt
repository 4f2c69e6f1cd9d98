-- A scan under way is still one after a change of one child that fits its version.
use Rattle.std.specs.Prelude.{refl, ◌⊎◌, List, Bool, ℕ}
use Rattle.std.proofs.Common.{inl, inr}
use Rattle.trees.specs.Members.{All}
use Rattle.trees.specs.Shape.{Shape, both, node, In, Once, Free}
use Rattle.trees.specs.Grown.{Grown, unchanged, grown_as, apart_grown, from_grown, node_grown}
use Rattle.trees.specs.Version.{Store, set_kid}
use Rattle.trees.specs.Change.{Fits, Met, met_in, met_apart, child_changed, tree_changed}
use Rattle.trees.specs.Been.{been_changed}
use Rattle.trees.specs.Scanning.{Stand, at, between, Here, Pending, end, waits, Scanning}

module _ {S : Store} {d : Bool} {p new : ℕ} {New : ℕ → Type 0} {i : ℕ} (fits : Fits S d p new New i) where
  here_changed : (stand : Stand) {s : Shape} → Here S i stand s → Once s → Free New s → Grown (Here (set_kid S d p new) i stand) (λ n. New n × In p s) s
  here_changed (at cur) r o free = grown_as (λ x t. (r.0, t)) (λ n j. j) (tree_changed fits r.1 o free)
  here_changed between r o free = unchanged r o

  pending_changed : {a : Bool} {us : List ℕ} {t : Shape} → Pending S i a us t → Once t → Free New t → Grown (Pending (set_kid S d p new) i a us) (λ n. New n × In p t) t
  pending_changed end o free = unchanged end o
  pending_changed {a} (waits {u = u} {s = s} {t = t} w y P) o free =
      let free-left : Free New s = λ n e j. free n e (inr (inl j)) in
      let below = child_changed fits a w y o.3 o.0 free-left (tree_changed fits y o.0 free-left) in
      let rest = pending_changed P o.1 (λ n e j. free n e (inr (inr j))) in
      grown_as (λ x y. y) (λ n j. (j.0, inside j.1)) (node_grown (met_apart d p a u s t o) below rest o free (λ x y. waits x.walk x.tree y))
    where
      inside : Met d p a u s ⊎ In p t → In p (node u s t)
      inside (inl m) = elim (met_in d p a u s m) [ inl e ↦ inl e | inr j ↦ inr (inl j) ]
      inside (inr j) = inr (inr j)

  pub scan_changed : {a : Bool} {stand : Stand} {us vs ls : List ℕ} (G : Scanning S i a stand us vs ls) → Free New (both G.here G.there) → All (λ n. New n → ⊥) vs → All (λ n. New n → ⊥) ls
      → Scanning (set_kid S d p new) i a stand us vs ls
  scan_changed {stand = stand} G free old old-leaves =
      let x = here_changed stand G.reads G.once.0 (λ n e j. free n e (inl j)) in
      let y = pending_changed G.rest G.once.1 (λ n e j. free n e (inr j)) in
      let never : In p G.here → In p G.there → ⊥ = λ j k. G.once.2 p j k in
      record {
        here = x.to;
        there = y.to;
        reads = x.tree;
        rest = y.tree;
        once = (x.once, y.once, apart_grown never x y G.once.2 free);
        been = been_changed New old old-leaves (λ n j. elim (from_grown never x y n j) [ inl a ↦ inl a | inr b ↦ inr b.0 ]) (λ n m. (refl, refl)) (λ n m. refl) G.been;
      }
