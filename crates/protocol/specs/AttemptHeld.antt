-- What follows a link that holds (lines 65 and 66, 184, 187 and 188), in each of VALIDATELINK's five calls.
use Rattle.std.specs.Prelude.{ℕ, refl, Bool, Option, None, Some}
use Rattle.std.proofs.Math.Path.{◌≡◌, sym, subst}
use Rattle.std.proofs.Common.{ap, ◌∙◌, arith, eqb-true}
use Rattle.std.proofs.Math.Bool.{true, false}
use Rattle.laws.specs.Choice.{fork}
use Rattle.shapes.specs.declared.NodeNo.{NodeNo}
use Rattle.shapes.specs.declared.Key.{Key}
use Rattle.shapes.specs.declared.Locals.{Locals}
use Rattle.shapes.specs.declared.Kind.{Kind}
use Rattle.shapes.specs.declared.Kind.TheVariants as kind
use Rattle.shapes.specs.declared.Link.{Link}
use Rattle.shapes.specs.declared.Link.TheVariants.{Leaf64, Parent65, Sibling183, Left187, Right188}
use Rattle.shapes.specs.declared.LinkStep.TheVariants.{Word52, Child57}
use Rattle.shapes.specs.declared.Place.TheVariants as place
use Rattle.tables.specs.Names.{root, same_node}
use Rattle.tables.specs.Nodes.{child_at, key_at}
use Rattle.tables.specs.NodeWrites.{fixed_at}
use Rattle.tables.specs.Versions.{as_parent}
use Rattle.tables.specs.World.{Tables}
use Rattle.sound.specs.Meaning.{TablesSound}
use Rattle.steps.specs.Hand.{with_pup, with_gpup, with_sup, goes}
use Rattle.steps.specs.Validate.{link_parent, copy_child, link_child, sibling_left, link_left}
use Rattle.steps.specs.Attempt.{held}
use Rattle.views.specs.View.{view}
use Rattle.protocol.specs.Ghost.{Ghost}
use Rattle.protocol.specs.Invariant.{Holds}
use Rattle.protocol.specs.Knowledge.{Settled, Watched}
use Rattle.protocol.specs.Deleting.{Deleting}
use Rattle.protocol.specs.AttemptPlaces.{OnLeaf, LeafHeld, ValidatesMaybe, Under, Paired, LeftCopied, OfDelete, LinkBase}
use Rattle.protocol.specs.AttemptKept.{under_map}
use Rattle.protocol.specs.AttemptHands.{deleting_words}
use Rattle.protocol.specs.AttemptTurns.{Decides, goes_knows, parent_is}
use Rattle.protocol.specs.AttemptSearch.{same_node_lem}
use Rattle.protocol.specs.AttemptCopies.{copy_decides}

module _ (w : ℕ) (s : Tables) (h : TablesSound s) (G : Ghost) (H : Holds (view s) G) (o : Kind) (k : Key) (v : Locals) where
  -- the child word of the parent, just read, is the child
  abbrev pub Holding : Link → Type 0
  Holding a = (x c : NodeNo) → link_parent v a ≡ Some x → link_child s.nodes v a ≡ Some c → (child_at s.nodes x (link_left s.nodes k v a)).0 ≡ c.0 → Decides w s G o k (held s.totals s.nodes v a)

  held_leaf : OnLeaf (view s) G k v → Settled (view s) G v.p.0 v.up → Decides w s G o k (held s.totals s.nodes v Leaf64)
  unfolding held same_node link_parent
  held_leaf l up = fork (λ q. Decides w s G o k (goes (with_pup v v.up) q)) (same_node v.p root)
      (λ e. goes_knows w s G H o k (with_pup v v.up) place.Word66 (record { leaf = record { landed = l; pup = up }; gpup = λ g _ other. absurd (other (eqb-true _ _ e)) }))
      (λ _. goes_knows w s G H o k (with_pup v v.up) (place.Link Parent65 Word52) (record { landed = l; pup = up }, only v.gp))
    where
      only : (m : Option NodeNo) → ValidatesMaybe (view s) G m v.up Word52
      only None = tt
      only (Some x) = tt

  held_parent : LeafHeld (view s) G k v → ValidatesMaybe (view s) G v.gp v.up Child57 → Decides w s G o k (held s.totals s.nodes v Parent65)
  unfolding held
  held_parent l up = goes_knows w s G H o k (with_gpup v v.up) place.Word66 (record {
    leaf = record { landed = l.landed; pup = l.pup };
    gpup = λ g e _. subst (λ m. ValidatesMaybe (view s) G m v.up Child57) e up;
  })

module _ (w : ℕ) (s : Tables) (h : TablesSound s) (G : Ghost) (H : Holds (view s) G) (k : Key) (v : Locals) where
  held_sibling : Under v.gp (Paired (view s) G v) → Holding w s h G H kind.Delete k v Sibling183
  unfolding held link_parent link_child link_left sibling_left key_at view fixed_at
  held_sibling u x c e d same =
      let p-is : x ≡ v.p = sym (same_node_lem e) in
      let c-is : c ≡ v.sibling = sym (same_node_lem d) in
      let there : (child_at s.nodes v.p (sibling_left s.nodes v)).0 ≡ v.sibling.0 = rw (p-is, c-is) at same in
      copy_decides w s h G H k v u there

  -- the copy's child, as it stands in the table
  copy_child_lem : (left : Bool) (m : Option NodeNo) (c : NodeNo) → ((x : NodeNo) → m ≡ Some x → v.made ≡ x) → copy_child s.nodes m left ≡ Some c → c.0 ≡ (view s).kid left v.made.0
  unfolding copy_child view
  copy_child_lem left None c is e = let z : ◌≡◌ {A = ℕ} 0 1 = cc in absurd (omega arith)
  copy_child_lem left (Some x) c is e = let same : child_at s.nodes x left ≡ c = same_node_lem e in sym (ap (λ (y : NodeNo). y.0) (rw (← is x refl) at same))

  made_child : (left : Bool) (c : NodeNo) → copy_child s.nodes (as_parent s.nodes (Some v.made)) left ≡ Some c → c.0 ≡ (view s).kid left v.made.0
  made_child left c e = copy_child_lem left (as_parent s.nodes (Some v.made)) c (λ x d. same_node_lem (parent_is s (Some v.made) x d).0) e

  held-left : Under v.gp (λ g. Deleting w (view s) G v g.0) → Settled (view s) G v.sibling.0 v.up → Holding w s h G H kind.Delete k v Left187
  unfolding held link_parent link_child link_left view
  held-left u up x c e d same =
      let s-is : x ≡ v.sibling = sym (same_node_lem e) in
      let there : (child_at s.nodes v.sibling true).0 ≡ c.0 = rw s-is at same in
      goes_knows w s G H kind.Delete k (with_sup v v.up) (place.Link Right188 Word52) (under_map (λ g a. (deleting_words w (view s) G v v.lup v.up v.i v.up g.0 a, record { sup = up; left = λ _. there ∙ made_child true c d })) u, tt)

  held_right : Under v.gp (λ g. Deleting w (view s) G v g.0 × LeftCopied (view s) G v) → Holding w s h G H kind.Delete k v Right188
  unfolding held link_parent link_child link_left view
  held_right u x c e d same =
      let s-is : x ≡ v.sibling = sym (same_node_lem e) in
      let there : (child_at s.nodes v.sibling false).0 ≡ c.0 = rw s-is at same in
      let right : (view s).kid false v.sibling.0 ≡ (view s).kid false v.made.0 = there ∙ made_child false c d in
      goes_knows w s G H kind.Delete k v place.Leaf190 (under_map (λ g a. record {
        deleting = a.0;
        siblings = record { seen = a.1.sup.seen; final = λ _. a.1.sup.final; copied = λ _ left. both left right a.1.left };
      }) u)
    where
      both : (left : Bool) → (view s).kid false v.sibling.0 ≡ (view s).kid false v.made.0 → Watched (view s) v.sibling.0 v.sup true ((view s).kid true v.made.0) → Watched (view s) v.sibling.0 v.sup left ((view s).kid left v.made.0)
      both true right l = l
      both false right l = λ _. right

  held_of_delete : (o : Kind) (a : Link) {A : Type 0} → OfDelete o A → (A → Holding w s h G H kind.Delete k v a) → Holding w s h G H o k v a
  held_of_delete kind.Insert a u f = absurd u
  held_of_delete kind.Delete a u f = f u
  held_of_delete kind.Find a u f = absurd u

  pub holds_decides : (o : Kind) (a : Link) → LinkBase w (view s) G o k v a → ValidatesMaybe (view s) G (link_parent v a) v.up Child57 → Holding w s h G H o k v a
  unfolding link_parent
  holds_decides o Leaf64 base up = λ x c e d same. held_leaf w s h G H o k v base up
  holds_decides o Parent65 base up = λ x c e d same. held_parent w s h G H o k v base up
  holds_decides o Sibling183 base up = held_of_delete o Sibling183 base held_sibling
  holds_decides o Left187 base up = held_of_delete o Left187 base (λ u. held-left u up)
  holds_decides o Right188 base up = held_of_delete o Right188 base held_right
