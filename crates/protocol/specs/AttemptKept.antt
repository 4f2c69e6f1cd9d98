-- What an attempt knows at its place is kept by the turns of every other worker.
use Rattle.std.specs.Prelude.{ℕ, ◌≡◌, ◌≢◌, true, not, ltb, leb, Option, None, Some}
use Rattle.std.proofs.Common.{sym, ap, ap₂, subst}
use Rattle.shapes.specs.declared.NodeNo.{NodeNo}
use Rattle.shapes.specs.declared.Key.{Key}
use Rattle.shapes.specs.declared.Locals.{Locals}
use Rattle.shapes.specs.declared.Update.{Update}
use Rattle.shapes.specs.declared.Kind.{Kind}
use Rattle.shapes.specs.declared.Kind.TheVariants as kind
use Rattle.shapes.specs.declared.Link.{Link}
use Rattle.shapes.specs.declared.Link.TheVariants.{Leaf64, Parent65, Sibling183, Left187, Right188}
use Rattle.shapes.specs.declared.LinkStep.{LinkStep}
use Rattle.shapes.specs.declared.LinkStep.TheVariants.{Word52, State53, Child57}
use Rattle.shapes.specs.declared.HelpStep.{HelpStep}
use Rattle.shapes.specs.declared.Back.{Back}
use Rattle.shapes.specs.declared.Back.TheVariants as back
use Rattle.shapes.specs.declared.Place.{Place}
use Rattle.shapes.specs.declared.Place.TheVariants as place
use Rattle.tables.specs.Names.{value}
use Rattle.tables.specs.NodeWrites.{Fixed}
use Rattle.steps.specs.Validate.{link_parent}
use Rattle.views.specs.View.{View}
use Rattle.protocol.specs.Ghost.{Ghost}
use Rattle.protocol.specs.Invariant.{Holds}
use Rattle.protocol.specs.Rely.{Rely}
use Rattle.protocol.specs.Trees.{Linked, TreeStep}
use Rattle.protocol.specs.Knowledge.{settled_kept, watched_kept, made_kids}
use Rattle.protocol.specs.OwnRecord.{own_kept}
use Rattle.protocol.specs.Inserting.{inserting_kept}
use Rattle.protocol.specs.Deleting.{Deleting, deleting_kept, siblings_kept}
use Rattle.protocol.specs.Searching.{Landed, searching_kept, landed_kept, p_linked, l_linked}
use Rattle.protocol.specs.Validating.{validates_kept}
use Rattle.protocol.specs.Helper.{helps_kept}
use Rattle.protocol.specs.AttemptPlaces.{searched, opposite, OnLeaf, LeafHeld, LinksHeld, ValidatesMaybe, Under, Siblingless, Paired, LeftCopied, LeafSibling, SiblingRead, InsertTests, DeleteTests, OfInsert, OfDelete, Tests, LinkBase, LinkKnows, HelpKnows, AttemptKnows}

pub under_map : {m : Option NodeNo} {P Q : NodeNo → Type 0} → ((g : NodeNo) → P g → Q g) → Under m P → Under m Q
under_map f u = record { grand = u.grand; is = u.is; knows = f u.grand u.knows }

pub of_insert : (o : Kind) {A B : Type 0} → (A → B) → OfInsert o A → OfInsert o B
of_insert kind.Insert f a = f a
of_insert kind.Delete f a = a
of_insert kind.Find f a = a

pub of_delete : (o : Kind) {A B : Type 0} → (A → B) → OfDelete o A → OfDelete o B
of_delete kind.Insert f a = a
of_delete kind.Delete f a = f a
of_delete kind.Find f a = a

-- ---- by any worker's turn, its own included

module _ (o : ℕ) (X X' : View) (G G' : Ghost) (H : Holds X G) (L : Rely o X X' G G') where
  pub fixed_same : (n : ℕ) → Linked G n → X'.fixed n ≡ X.fixed n
  fixed_same n l = L.fixed n (H.used n l)

  key_same : (n : ℕ) → Linked G n → value (X.fixed n).rank ≡ value (X'.fixed n).rank
  key_same n l = ap (λ (f : Fixed). value f.rank) (sym (fixed_same n l))

  module _ (t : TreeStep X X' G G') (v : Locals) where
    pub on_leaf_kept : (k : Key) → OnLeaf X G k v → OnLeaf X' G' k v
    on_leaf_kept k s =
        let same : searched X k v.p.0 ≡ searched X' k v.p.0 = ap (ltb k.0) (key_same v.p.0 (p_linked X G _ _ _ _ _ s)) in
        subst (λ b. Landed X' G' v.seq.0 v.gp v.p.0 v.l.0 (not b)) same (landed_kept o X X' G G' H L t v.seq.0 v.gp v.p.0 v.l.0 _ s)

    pub leaf_held_kept : (k : Key) → LeafHeld X G k v → LeafHeld X' G' k v
    leaf_held_kept k h = record { landed = on_leaf_kept k h.landed; pup = settled_kept o X X' G G' L _ _ h.pup }

    pub links-held_kept : (k : Key) → LinksHeld X G k v → LinksHeld X' G' k v
    links-held_kept k h = record { leaf = leaf_held_kept k h.leaf; gpup = λ g e n. settled_kept o X X' G G' L _ _ (h.gpup g e n) }

    pub siblingless_kept : (g : NodeNo) → Siblingless X G v g → Siblingless X' G' v g
    siblingless_kept g h =
        let same : opposite X v.p.0 v.l.0 ≡ opposite X' v.p.0 v.l.0 = ap₂ leb (key_same v.p.0 (p_linked X G _ _ _ _ _ h.landed)) (key_same v.l.0 (l_linked X G _ _ _ _ _ h.landed)) in
        record {
          landed = subst (λ b. Landed X' G' v.seq.0 (Some g) v.p.0 v.l.0 b) same (landed_kept o X X' G G' H L t v.seq.0 (Some g) v.p.0 v.l.0 _ h.landed);
          pup = settled_kept o X X' G G' L _ _ h.pup;
          gpup = settled_kept o X X' G G' L _ _ h.gpup;
        }

    pub paired_kept : (g : NodeNo) → Paired X G v g → Paired X' G' v g
    paired_kept g h = record { before = siblingless_kept g h.before; four = h.four; linked = L.linked _ h.linked; low = rw (fixed_same _ h.linked) h.low }

  pub maybe_kept : (m : Option NodeNo) (up : Update) (b : LinkStep) → ValidatesMaybe X G m up b → ValidatesMaybe X' G' m up b
  maybe_kept None up Word52 h = h
  maybe_kept None up State53 h = h
  maybe_kept None up Child57 h = h
  maybe_kept (Some x) up b h = validates_kept o X X' G G' L x.0 up b h

-- ---- by the others' turns

module _ (o : ℕ) (X X' : View) (G G' : Ghost) (H : Holds X G) (L : Rely o X X' G G') (t : TreeStep X X' G G') (w : ℕ) (differ : w ≢ o) (v : Locals) where
  delete_kept : (g : NodeNo) → Deleting w X G v g.0 → Deleting w X' G' v g.0
  delete_kept g h = deleting_kept o X X' G G' L w differ H v g.0 h

  left_kept : (g : NodeNo) → Deleting w X G v g.0 → LeftCopied X G v → LeftCopied X' G' v
  left_kept g h s = record {
    sup = settled_kept o X X' G G' L _ _ s.sup;
    left = rw (made_kids o X X' G G' L w differ H v.info.0 v.made.0 h.taken h.made true) (watched_kept o X X' G G' L _ _ true _ h.linked.3 s.sup s.left);
  }

  leaf_sibling_kept : (g : NodeNo) → LeafSibling w X G v g → LeafSibling w X' G' v g
  leaf_sibling_kept g h = record { deleting = delete_kept g h.deleting; leaf = rw (fixed_same o X X' G G' H L _ h.deleting.linked.3) h.leaf }

  read_kept : (g : NodeNo) → SiblingRead w X G v g → SiblingRead w X' G' v g
  read_kept g h = record { deleting = delete_kept g h.deleting; siblings = siblings_kept o X X' G G' L w differ H v g.0 h.deleting h.siblings }

  insert-tests_kept : InsertTests w X G v → InsertTests w X' G' v
  insert-tests_kept h = record { inserting = inserting_kept o X X' G G' L w differ H v h.inserting; lup = L.seen _ _ h.lup }

  delete-tests_kept : (g : NodeNo) → DeleteTests w X G v g → DeleteTests w X' G' v g
  delete-tests_kept g h = record { read = read_kept g h.read; lup = L.seen _ _ h.lup; tested = λ i. L.final v.lup h.lup.known (h.tested i) }

  tests_kept : (c : Kind) → Tests w X G c v → Tests w X' G' c v
  tests_kept kind.Insert h = insert-tests_kept h
  tests_kept kind.Delete h = under_map delete-tests_kept h
  tests_kept kind.Find h = h

  base_kept : (c : Kind) (k : Key) (a : Link) → LinkBase w X G c k v a → LinkBase w X' G' c k v a
  base_kept c k Leaf64 h = on_leaf_kept o X X' G G' H L t v k h
  base_kept c k Parent65 h = leaf_held_kept o X X' G G' H L t v k h
  base_kept c k Sibling183 h = of_delete c (under_map (paired_kept o X X' G G' H L t v)) h
  base_kept c k Left187 h = of_delete c (under_map delete_kept) h
  base_kept c k Right188 h = of_delete c (under_map (λ g d. (delete_kept g d.0, left_kept g d.0 d.1))) h

  links_kept : (c : Kind) (k : Key) (a : Link) (b : LinkStep) → LinkKnows w X G c k v a b → LinkKnows w X' G' c k v a b
  links_kept c k a b h = (base_kept c k a h.0, maybe_kept o X X' G G' H L (link_parent v a) v.up b h.1)

  helping_kept : (b : HelpStep) (c : Back) → HelpKnows X G v b c → HelpKnows X' G' v b c
  helping_kept b back.Own h = helps_kept o X X' G G' L _ _ b h
  helping_kept b back.Again h = helps_kept o X X' G G' L _ _ b h
  helping_kept b back.Node h = h

  pub attempts_kept : (c : Kind) (k : Key) (q : Place) → AttemptKnows w X G c k v q → AttemptKnows w X' G' c k v q
  attempts_kept c k place.Counter74 h = h
  attempts_kept c k place.Search39 h = searching_kept o X X' G G' H L t _ _ _ h
  attempts_kept c k (place.Link a b) h = links_kept c k a b h
  attempts_kept c k place.Word66 h = links-held_kept o X X' G G' H L t v k h
  attempts_kept c k place.Grand66 h = links-held_kept o X X' G G' H L t v k h
  attempts_kept c k place.Leaf164 h = of_insert c (inserting_kept o X X' G G' L w differ H v) h
  attempts_kept c k place.Sibling182 h = of_delete c (under_map (siblingless_kept o X X' G G' H L t v)) h
  attempts_kept c k place.CopyLeft h = of_delete c (under_map delete_kept) h
  attempts_kept c k place.CopyRight h = of_delete c (under_map delete_kept) h
  attempts_kept c k place.Word189 h = of_delete c (under_map leaf_sibling_kept) h
  attempts_kept c k place.Leaf190 h = of_delete c (under_map read_kept) h
  attempts_kept c k place.Frozen97 h = tests_kept c h
  attempts_kept c k place.State98 h = tests_kept c h
  attempts_kept c k place.Freeze103 h = own_kept o X X' G G' L w differ _ h
  attempts_kept c k (place.Help b d) h = helping_kept b d h
  attempts_kept c k place.Counter130 h = h
  attempts_kept c k place.Bump131 h = h
  attempts_kept c k place.Word139 h = h
  attempts_kept c k place.State140 h = h
  attempts_kept c k place.Child141 h = h
  attempts_kept c k place.Left144 h = h
