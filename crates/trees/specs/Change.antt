-- What a change of one child does to the trees of a version: nothing where the new child is of a later phase, or is not met;
-- else what is read from the new child stands in the place of what was read there before.
use Rattle.std.specs.Prelude.{◌≡◌, refl, ◌⊎◌, Bool, true, false, ℕ, ◌<◌, Some}
use Rattle.std.proofs.Common.{sym, ◌∙◌, inl, inr, true≢false}
use Rattle.laws.specs.Changed.{change_on_case}
use Rattle.trees.specs.Shape.{Shape, node, In, Once, Free}
use Rattle.trees.specs.Grown.{Grown, unchanged, grown_as, node_grown}
use Rattle.trees.specs.Version.{Store, set_kid, node_no, Walk, here, back, Child, IsTree, leaf_t, node_t, Reads, tree_same}

module _ (S : Store) (d : Bool) (p new : ℕ) where
  -- the new child goes back to the child that was there
  abbrev pub Replaces : Type 0
  Replaces = S.prev new ≡ Some (node_no (S.kid d p))

  pub walk-set : {i n m : ℕ} → Walk S i n m → Walk (set_kid S d p new) i n m
  walk-set (here h) = here h
  walk-set (back h e w) = back h e (walk-set w)

  -- a tree that does not have p is as it was
  pub tree_without : {i v : ℕ} {s : Shape} → (In p s → ⊥) → IsTree S i v s → IsTree (set_kid S d p new) i v s
  tree_without {i} {v} {s} out = tree_same (λ n j. refl) (λ f n c j h w. change_on_case S.kid d p new (λ k. Walk (set_kid S d p new) i k c) f n
      (λ _ sn. absurd (out (rw sn at j)))
      (λ _. walk-set w))

-- in version i, what is read from the new child is made of what was read there before and of new nodes
pub record Fits (S : Store) (d : Bool) (p new : ℕ) (New : ℕ → Type 0) (i : ℕ) : Type 0 where
  pub read : (q : Shape) → Reads S i (S.kid d p) q → (In p q → ⊥) → Once q → Free New q → Grown (Reads (set_kid S d p new) i new) New q

pub later-fits : {S : Store} {d : Bool} {p new : ℕ} {New : ℕ → Type 0} {i : ℕ} → i < S.phase new → Replaces S d p new → Fits S d p new New i
later-fits {S} {d} {p} {new} early e = record {
  read = λ q r out once free. unchanged (record { end = r.end; walk = back early e (walk-set S d p new r.walk); tree = tree_without S d p new out r.tree }) once;
}

module _ (d : Bool) (p : ℕ) where
  -- the change is met on side e of v, where s hangs: at v itself, or further down
  abbrev pub Met : Bool → ℕ → Shape → Type 0
  Met e v s = ((e ≡ d) × (v ≡ p)) ⊎ In p s

  pub met_in : (e : Bool) (v : ℕ) (s : Shape) → Met e v s → (p ≡ v) ⊎ In p s
  met_in e v s = elim [ inl a ↦ inl (sym a.1) | inr j ↦ inr j ]

  pub met_apart : (e : Bool) (v : ℕ) (s t : Shape) → Once (node v s t) → Met e v s → In p t → ⊥
  met_apart e v s t o (inl a) k = o.4 (rw a.1 k)
  met_apart e v s t o (inr j) k = o.2 p j k

  met_once : (v : ℕ) (s t : Shape) → Once (node v s t) → Met true v s → Met false v t → ⊥
  met_once v s t o m (inr k) = met_apart true v s t o m k
  met_once v s t o (inl a) (inl b) = true≢false (a.0 ∙ sym b.0)
  met_once v s t o (inr j) (inl b) = o.3 (rw b.1 j)

module _ {S : Store} {d : Bool} {p new : ℕ} {New : ℕ → Type 0} {i : ℕ} (fits : Fits S d p new New i) where
  -- one side of a node, where the tree below has been changed already
  pub child_changed : (e : Bool) {v c : ℕ} {s : Shape} → Child S i e v c → IsTree S i c s → (In v s → ⊥) → Once s → Free New s
      → Grown (IsTree (set_kid S d p new) i c) (λ n. New n × In p s) s → Grown (Reads (set_kid S d p new) i ((set_kid S d p new).kid e v)) (λ n. New n × Met d p e v s) s
  child_changed e {v} {c} {s} w t out once free g = change_on_case S.kid d p new (λ k. Grown (Reads (set_kid S d p new) i k) (λ n. New n × Met d p e v s) s) e v
      (λ se sv. grown_as (λ x r. r) (λ n j. (j, inl (se, sv))) (fits.read s (record { end = c; walk = rw (se, sv) at w; tree = t }) (rw sv at out) once free))
      (λ _. grown_as (λ x y. record { end = c; walk = walk-set S d p new w; tree = y }) (λ n j. (j.0, inr j.1)) g)

  pub tree_changed : {v : ℕ} {s : Shape} → IsTree S i v s → Once s → Free New s → Grown (IsTree (set_kid S d p new) i v) (λ n. New n × In p s) s
  tree_changed (leaf_t h) o free = unchanged (leaf_t h) o
  tree_changed (node_t {v = v} {s = s} {t = t} h wa ta wb tb) o free =
      let free-left : Free New s = λ n e j. free n e (inr (inl j)) in
      let free-right : Free New t = λ n e j. free n e (inr (inr j)) in
      let left = child_changed true wa ta o.3 o.0 free-left (tree_changed ta o.0 free-left) in
      let right = child_changed false wb tb o.4 o.1 free-right (tree_changed tb o.1 free-right) in
      grown_as (λ x y. y) (λ n j. (j.0, inside j.1)) (node_grown (met_once d p v s t o) left right o free (λ x y. node_t h x.walk x.tree y.walk y.tree))
    where
      inside : Met d p true v s ⊎ Met d p false v t → In p (node v s t)
      inside (inl m) = elim (met_in d p true v s m) [ inl e ↦ inl e | inr j ↦ inr (inl j) ]
      inside (inr m) = elim (met_in d p false v t m) [ inl e ↦ inl e | inr j ↦ inr (inr j) ]
