-- VALIDATELINK's steps (lines 52 to 58), once for its five calls.
use Rattle.std.specs.Prelude.{ℕ, ◌<◌, ◌≡◌, true, not, Option, None, Some}
use Rattle.std.proofs.Math.Path.{refl}
use Rattle.std.proofs.Common.{sym, subst, eqb-true}
use Rattle.laws.specs.Choice.{fork}
use Rattle.shapes.specs.declared.NodeNo.{NodeNo}
use Rattle.shapes.specs.declared.Key.{Key}
use Rattle.shapes.specs.declared.Locals.{Locals}
use Rattle.shapes.specs.declared.Update.{Update}
use Rattle.shapes.specs.declared.Kind.{Kind}
use Rattle.shapes.specs.declared.Kind.TheVariants as kind
use Rattle.shapes.specs.declared.Link.{Link}
use Rattle.shapes.specs.declared.Link.TheVariants.{Leaf64, Parent65, Sibling183, Left187, Right188}
use Rattle.shapes.specs.declared.LinkStep.{LinkStep}
use Rattle.shapes.specs.declared.LinkStep.TheVariants.{Word52, State53, Child57}
use Rattle.shapes.specs.declared.LinkMove.{LinkMove}
use Rattle.shapes.specs.declared.LinkMove.TheVariants as link
use Rattle.shapes.specs.declared.Place.TheVariants as place
use Rattle.tables.specs.Names.{same_node}
use Rattle.tables.specs.Nodes.{update_at}
use Rattle.tables.specs.Versions.{as_parent}
use Rattle.tables.specs.World.{Tables}
use Rattle.sound.specs.Meaning.{TablesSound}
use Rattle.steps.specs.Hand.{with_up, helps}
use Rattle.steps.specs.Execute.{frozen}
use Rattle.steps.specs.Validate.{word52, state53, child57, link_of, link_parent, link_child, link_left}
use Rattle.steps.specs.Attempt.{held, link_next, link_step}
use Rattle.views.specs.View.{View, view}
use Rattle.protocol.specs.Ghost.{Ghost, Seen, Final}
use Rattle.protocol.specs.Invariant.{Holds}
use Rattle.protocol.specs.Words.{seen_now}
use Rattle.protocol.specs.Frozen.{unfrozen_final, frozen_open}
use Rattle.protocol.specs.Searching.{Landed, p_linked, g_is_linked}
use Rattle.protocol.specs.AttemptPlaces.{searched, ValidatesMaybe, Under, OfDelete, LinkBase, LinkKnows}
use Rattle.protocol.specs.AttemptKept.{under_map, of_delete}
use Rattle.protocol.specs.AttemptHands.{deleting_words, paired_words, left_words}
use Rattle.protocol.specs.AttemptTurns.{Decides, goes_knows, retries_knows, helps_knows, parent_is}
use Rattle.protocol.specs.AttemptSearch.{same_node_lem}
use Rattle.protocol.specs.AttemptHeld.{Holding, holds_decides}

module _ (w : ℕ) (X : View) (G : Ghost) (o : Kind) (k : Key) (v : Locals) where
  -- a word more in the hand changes nothing of it
  joined : (u : Update) (a : Link) (b : LinkStep) → LinkBase w X G o k v a → ValidatesMaybe X G (link_parent v a) u b → LinkKnows w X G o k (with_up v u) a b
  unfolding link_parent
  joined u Leaf64 b h g = (h, g)
  joined u Parent65 b h g = (record { landed = h.landed; pup = h.pup }, g)
  joined u Sibling183 b h g = (of_delete o (under_map (paired_words w X G v v.lup u v.i)) h, g)
  joined u Left187 b h g = (of_delete o (under_map (λ x d. deleting_words w X G v v.lup u v.i v.sup x.0 d)) h, g)
  joined u Right188 b h g = (of_delete o (under_map (λ x p. (deleting_words w X G v v.lup u v.i v.sup x.0 p.0, left_words w X G v v.lup u v.i p.1))) h, g)

  -- the parent is linked
  deleted_used : Holds X G → (c : Kind) {P : NodeNo → Type 0} (y x : NodeNo) → ((g : NodeNo) → P g → G.linked y.0 ≡ true) → OfDelete c (Under v.gp P) → Some y ≡ Some x → x.0 < X.nodes
  deleted_used H kind.Insert y x f h e = absurd h
  deleted_used H kind.Delete y x f h e = let same : y ≡ x = same_node_lem e in rw (← same) (H.used _ (f h.grand h.knows))
  deleted_used H kind.Find y x f h e = absurd h

  parent_used : Holds X G → (a : Link) → LinkBase w X G o k v a → (x : NodeNo) → link_parent v a ≡ Some x → x.0 < X.nodes
  unfolding link_parent
  parent_used H Leaf64 h x e = let same : v.p ≡ x = same_node_lem e in rw (← same) (H.used _ (p_linked X G _ _ _ _ _ h))
  parent_used H Parent65 h x e = H.used _ (g_is_linked X G _ x _ _ _ (subst (λ m. Landed X G v.seq.0 m v.p.0 v.l.0 (not (searched X k v.p.0))) e h.landed))
  parent_used H Sibling183 h x e = deleted_used H o v.p x (λ g p. p_linked X G _ _ _ _ _ p.before.landed) h e
  parent_used H Left187 h x e = deleted_used H o v.sibling x (λ g d. d.linked.3) h e
  parent_used H Right188 h x e = deleted_used H o v.sibling x (λ g d. d.0.linked.3) h e

  -- past line 52 there is a parent
  word-seen : (m : Option NodeNo) (u : Update) → ValidatesMaybe X G m u State53 → (x : ℕ) × Seen X G x u
  word-seen None u h = absurd h
  word-seen (Some x) u h = (x.0, h)

  word_final : (m : Option NodeNo) (u : Update) → Final X u → ValidatesMaybe X G m u State53 → ValidatesMaybe X G m u Child57
  word_final None u f h = h
  word_final (Some x) u f h = record { seen = h; final = f }

-- ---- the steps

module _ (w : ℕ) (s : Tables) (h : TablesSound s) (G : Ghost) (H : Holds (view s) G) (o : Kind) (k : Key) (v : Locals) where
  abbrev LinkGives : Link → Option LinkMove → Type 0
  LinkGives a None = Unit {0}
  LinkGives a (Some (link.Goes b u)) = LinkKnows w (view s) G o k (with_up v u) a b
  LinkGives a (Some (link.Helps r)) = Decides w s G o k (helps r)
  LinkGives a (Some link.Fails) = Unit {0}
  LinkGives a (Some link.Holds) = Decides w s G o k (held s.totals s.nodes v a)

  next_decides : (a : Link) (m : Option LinkMove) → LinkGives a m → Decides w s G o k (link_next s.totals s.nodes v a m)
  unfolding link_next
  next_decides a None g = tt
  next_decides a (Some (link.Goes b u)) g = goes_knows w s G H o k (with_up v u) (place.Link a b) g
  next_decides a (Some (link.Helps r)) g = g
  next_decides a (Some link.Fails) g = retries_knows w s G H o k
  next_decides a (Some link.Holds) g = g

  -- line 52
  reads52 : (a : Link) → LinkBase w (view s) G o k v a → (m : Option NodeNo) → ((x : NodeNo) → m ≡ Some x → link_parent v a ≡ Some x) → LinkGives a (word52 s.nodes m)
  unfolding word52 view
  reads52 a base None is = tt
  reads52 a base (Some x) is = joined w (view s) G o k v (update_at s.nodes x) a State53 base
      (subst (λ m. ValidatesMaybe (view s) G m (update_at s.nodes x) State53) (sym (is x refl)) (seen_now (view s) G H x.0 (parent_used w (view s) G o k v H a base x (is x refl))))

  -- lines 53 and 54
  tests53 : (a : Link) → LinkBase w (view s) G o k v a → ValidatesMaybe (view s) G (link_parent v a) v.up State53 → LinkGives a (state53 s.records v.up)
  unfolding state53
  tests53 a base g = fork (LinkGives a) (frozen s.records v.up)
      (λ t. let at = word-seen w (view s) G o k v (link_parent v a) v.up g in helps_knows w s G H o k at.0 v.up at.1 (frozen_open s v.up t))
      (λ t. joined w (view s) G o k v v.up a Child57 base (word_final w (view s) G o k v (link_parent v a) v.up (unfrozen_final s v.up t) g))

  -- lines 57 and 58
  reads57 : (a : Link) → Holding w s h G H o k v a → (m c : Option NodeNo) → ((x : NodeNo) → m ≡ Some x → link_parent v a ≡ Some x) → link_child s.nodes v a ≡ c → LinkGives a (child57 s.nodes m c (link_left s.nodes k v a))
  unfolding child57 same_node
  reads57 a go None c is there = tt
  reads57 a go (Some x) None is there = tt
  reads57 a go (Some x) (Some c) is there = fork (LinkGives a) _ (λ e. go x c (is x refl) there (eqb-true _ _ e)) (λ _. tt)

  link_gives : (a : Link) (b : LinkStep) → LinkKnows w (view s) G o k v a b → LinkGives a (link_of s.nodes s.records (as_parent s.nodes (link_parent v a)) (link_child s.nodes v a) (link_left s.nodes k v a) v.up b)
  unfolding link_of
  link_gives a Word52 g = reads52 a g.0 _ (λ x e. (parent_is s (link_parent v a) x e).0)
  link_gives a State53 g = tests53 a g.0 g.1
  link_gives a Child57 g = reads57 a (holds_decides w s h G H k v o a g.0 g.1) _ _ (λ x e. (parent_is s (link_parent v a) x e).0) refl

  pub link_decides : (a : Link) (b : LinkStep) → LinkKnows w (view s) G o k v a b → Decides w s G o k (link_step s k v a b)
  unfolding link_step
  link_decides a b g = next_decides a _ (link_gives a b g)
