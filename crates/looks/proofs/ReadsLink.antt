-- A turn inside VALIDATELINK decides by the one word that it looks at.
use Rattle.std.specs.Prelude.{◌≡◌, Bool, Option, None, Some}
use Rattle.std.proofs.Math.Path.{refl}
use Rattle.std.proofs.Common.{ap}
use Rattle.std.proofs.Math.Bool.{true, false}
use Rattle.laws.specs.Choice.{pick}
use Rattle.shapes.specs.declared.NodeNo.{NodeNo}
use Rattle.shapes.specs.declared.Key.{Key}
use Rattle.shapes.specs.declared.Locals.{Locals}
use Rattle.shapes.specs.declared.Link.{Link}
use Rattle.shapes.specs.declared.Link.TheVariants.{Leaf64, Parent65, Sibling183, Left187, Right188}
use Rattle.shapes.specs.declared.LinkStep.{LinkStep}
use Rattle.shapes.specs.declared.LinkStep.TheVariants.{Word52, State53, Child57}
use Rattle.shapes.specs.declared.LinkMove.{LinkMove}
use Rattle.shapes.specs.declared.LinkMove.TheVariants as link
use Rattle.shapes.specs.declared.Place.TheVariants as place
use Rattle.tables.specs.Nodes.{child_at}
use Rattle.tables.specs.Versions.{as_parent}
use Rattle.tables.specs.World.{Tables}
use Rattle.steps.specs.Validate.{word52, state53, child57, link_of, link_parent, copy_child, link_child, parent_left, link_left}
use Rattle.steps.specs.Attempt.{held, link_next, link_step}
use Rattle.looks.specs.Looked.{link_looks}
use Rattle.looks.specs.Alike.{Alike, OwnCopy}
use Rattle.looks.specs.Common.{SameAt, word_there, child_there, by_node, by_parent}
use Rattle.looks.proofs.ReadsAttempt.{same_goes, same_copy, same_sibling, same_frozen}

module _ (s t : Tables) (a : Alike s t) (v : Locals) where
  pub same_side : (k : Key) (c : Link) → link_left t.nodes k v c ≡ link_left s.nodes k v c
  unfolding link_left
  same_side k Leaf64 = same_goes s t a v k v.p
  same_side k Parent65 = of v.gp
    where
      of : (m : Option NodeNo) → parent_left t.nodes k m ≡ parent_left s.nodes k m
      of None = unfold parent_left in refl
      of (Some x) = unfold parent_left in same_goes s t a v k x
  same_side k Sibling183 = same_sibling s t a v
  same_side k Left187 = refl
  same_side k Right188 = refl

  same_of_copy : (left : Bool) → child_at t.nodes v.made left ≡ child_at s.nodes v.made left → copy_child t.nodes (as_parent t.nodes (Some v.made)) left ≡ copy_child s.nodes (as_parent s.nodes (Some v.made)) left
  unfolding copy_child
  same_of_copy left e = by_node s t a v.made (λ m. copy_child t.nodes m left) (λ m. copy_child s.nodes m left) refl (ap Some e)

  same_link_child : (c : Link) → OwnCopy s t v (place.Link c Child57) → link_child t.nodes v c ≡ link_child s.nodes v c
  unfolding link_child pick
  same_link_child Leaf64 own = refl
  same_link_child Parent65 own = refl
  same_link_child Sibling183 own = refl
  same_link_child Left187 own = same_of_copy true (own true refl)
  same_link_child Right188 own = same_of_copy false (own false refl)

  same_move : (k : Key) (c : Link) (b : LinkStep) → OwnCopy s t v (place.Link c b) → SameAt s t (link_looks s k v c b) → link_of t.nodes t.records (as_parent t.nodes (link_parent v c)) (link_child t.nodes v c) (link_left t.nodes k v c) v.up b ≡ link_of s.nodes s.records (as_parent s.nodes (link_parent v c)) (link_child s.nodes v c) (link_left s.nodes k v c) v.up b
  unfolding link_of link_looks word52 state53 child57
  same_move k c Word52 own e = by_parent s t a (link_parent v c) (word52 t.nodes) (word52 s.nodes) refl (λ x is. rw (word_there s t _ x is e))
  same_move k c State53 own e = rw (same_frozen s t a v v.up e)
  same_move k c Child57 own e = rw (same_side k c, same_link_child c own)
      (by_parent s t a (link_parent v c) (λ m. child57 t.nodes m (link_child s.nodes v c) (link_left s.nodes k v c)) (λ m. child57 s.nodes m (link_child s.nodes v c) (link_left s.nodes k v c)) refl
      (λ x is. compared x (link_child s.nodes v c) (child_there s t _ x _ is e)))
    where
      compared : (x : NodeNo) (m : Option NodeNo) → child_at t.nodes x (link_left s.nodes k v c) ≡ child_at s.nodes x (link_left s.nodes k v c) → child57 t.nodes (Some x) m (link_left s.nodes k v c) ≡ child57 s.nodes (Some x) m (link_left s.nodes k v c)
      compared x None e = unfold child57 in refl
      compared x (Some y) e = unfold child57 in rw e

  same_next : (c : Link) (m : Option LinkMove) → link_next t.totals t.nodes v c m ≡ link_next s.totals s.nodes v c m
  unfolding link_next held
  same_next c None = refl
  same_next c (Some (link.Goes b u)) = refl
  same_next c (Some (link.Helps r)) = refl
  same_next c (Some link.Fails) = refl
  same_next Leaf64 (Some link.Holds) = refl
  same_next Parent65 (Some link.Holds) = refl
  same_next Sibling183 (Some link.Holds) = same_copy s t a v
  same_next Left187 (Some link.Holds) = refl
  same_next Right188 (Some link.Holds) = refl

  pub link-one : (k : Key) (c : Link) (b : LinkStep) → OwnCopy s t v (place.Link c b) → SameAt s t (link_looks s k v c b) → link_step t k v c b ≡ link_step s k v c b
  unfolding link_step
  link-one k c b own e = rw (same_move k c b own e) (same_next c _)
