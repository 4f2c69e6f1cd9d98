-- Every turn of an insert, a delete or a find is a good decision.
use Prim.Native.Nat.{ℕ, zero, suc, ◌+◌, ◌-◌, ◌≤◌, ◌<◌}
use Rattle.std.specs.Prelude.{◌≡◌, Bool, eqb, Option, None, Some}
use Rattle.std.proofs.Math.Path.{refl}
use Rattle.std.proofs.Common.{sym, ap, inl}
use Rattle.std.proofs.Math.Logic.{inr}
use Rattle.std.proofs.Math.Bool.{true, false}
use Rattle.std.proofs.lemmas.Bool.{false≢true}
use native.Mathlib.Omega.{arith}
use borrow.Author.Tests.{ltb-true}
use Rattle.laws.specs.Choice.{pick, fork}
use Rattle.laws.specs.Tests.{says_and, says_le, says_eq, says_itself}
use Rattle.shapes.specs.declared.NodeNo.{NodeNo}
use Rattle.shapes.specs.declared.Key.{Key}
use Rattle.shapes.specs.declared.Update.{Update}
use Rattle.shapes.specs.declared.Totals.{Totals}
use Rattle.shapes.specs.declared.Locals.{Locals}
use Rattle.shapes.specs.declared.Filling.{Filling}
use Rattle.shapes.specs.declared.Place.{Place}
use Rattle.shapes.specs.declared.Place.TheVariants as place
use Rattle.shapes.specs.declared.Kind.{Kind}
use Rattle.shapes.specs.declared.Kind.TheVariants as kind
use Rattle.shapes.specs.declared.Link.{Link}
use Rattle.shapes.specs.declared.Link.TheVariants.{Leaf64, Parent65, Sibling183, Left187, Right188}
use Rattle.shapes.specs.declared.LinkStep.{LinkStep}
use Rattle.shapes.specs.declared.LinkStep.TheVariants.{Word52, State53, Child57}
use Rattle.shapes.specs.declared.LinkMove.{LinkMove}
use Rattle.shapes.specs.declared.LinkMove.TheVariants as link
use Rattle.shapes.specs.declared.HelpStep.{HelpStep}
use Rattle.shapes.specs.declared.HelpStep.TheVariants.{Counter111}
use Rattle.shapes.specs.declared.Back.{Back}
use Rattle.shapes.specs.declared.Back.TheVariants.{Own, Again, Node}
use Rattle.shapes.specs.declared.Effect.TheVariants as effect
use Rattle.shapes.specs.declared.Answer.TheVariants.{Yes, No, NoRoom}
use Rattle.shapes.specs.Outcomes.{Decision}
use Rattle.tables.specs.Names.{node, record_no, root, dummy, flag, update, same_node}
use Rattle.tables.specs.Nodes.{is_internal, child_at, update_at}
use Rattle.tables.specs.Records.{count_at, fillable, entry}
use Rattle.tables.specs.Versions.{as_parent}
use Rattle.tables.specs.World.{Tables}
use Rattle.sound.specs.Homes.{is_insert, is_delete, is_update, listed, link_home, back_home, attempt_home, in_list}
use Rattle.sound.specs.Meaning.{WordSound, MaybeSound, EntrySound, RecordSound, HandSound, Within, TablesSound, entry_of}
use Rattle.steps.specs.Hand.{holding, with_pup, with_taken, does, goes, retries, through}
use Rattle.steps.specs.Apply.{apply, taken}
use Rattle.steps.specs.Search.{landed, search39}
use Rattle.steps.specs.Validate.{word52, state53, child57, link_of, link_parent}
use Rattle.steps.specs.Attempt.{room, take_three, take_copy, reaches182, validated, word66, grand66, sibling182, copy_word, word189, leaf_word, held, link_next, link_step}
use Rattle.steps.specs.Execute.{frozen, old_update, insert_filling, delete_filling, fill_insert, fill_delete, fills, frozen97, state98, freeze103}
use Rattle.steps.specs.Help.{help_of, help_next}
use Rattle.steps.specs.Decide.{attempt}
use Rattle.kept.specs.Later.{hand-later}
use Rattle.kept.specs.Fits.{Parent, Room, Fillable}
use Rattle.kept.specs.Takings.{grows_taken}
use Rattle.kept.specs.Good.{Allowed, Good, hand-down_to, hand_leaf, hand_up, hand_pup, hand_gpup, hand_sup, hand_lup, hand_sibling, hand-taken, hand_i, hand_bare, hand-holding, good_does, good_goes, good_says, good_retries, good_helps, good_pick, good_through, parent_at, child_used, read_used}
use Rattle.kept.specs.Helping.{positive, helped, entry-sound, help_good, Returns, next_good}

-- ---- kinds

insert_updates : (o : Kind) → is_insert o ≡ true → is_update o ≡ true
unfolding is_insert is_update
insert_updates kind.Insert e = refl
insert_updates kind.Delete e = refl
insert_updates kind.Find e = e

delete_updates : (o : Kind) → is_delete o ≡ true → is_update o ≡ true
unfolding is_delete is_update
delete_updates kind.Insert e = refl
delete_updates kind.Delete e = refl
delete_updates kind.Find e = e

listed_some : (o : Kind) → is_update o ≡ true → 1 ≤ listed o
unfolding is_update listed
listed_some kind.Insert e = omega arith
listed_some kind.Delete e = omega arith
listed_some kind.Find e = absurd (false≢true e)

at_same : {x y : NodeNo} → Some x ≡ Some y → x ≡ y
at_same e = cc

-- ---- the words that are collected

update-sound : (s : Tables) → TablesSound s → (x : NodeNo) → x.0 < s.totals.nodes → WordSound s.totals (update_at s.nodes x)
update-sound s h x l = (h.nodes x.0 l).update

old-sound : {t : Totals} (o : Kind) (v : Locals) (i : ℕ) → HandSound t v → WordSound t (old_update o v i)
unfolding old_update
old-sound {t} kind.Insert v i hand = fork (WordSound t) (eqb i 1) (λ e. hand.pup) (λ e. hand.lup)
old-sound {t} kind.Delete v i hand = fork (WordSound t) (eqb i 1) (λ e. hand.gpup) (λ e. fork (WordSound t) (eqb i 2) (λ e. hand.pup) (λ e. fork (WordSound t) (eqb i 3) (λ e. hand.lup) (λ e. hand.sup)))
old-sound {t} kind.Find v i hand = hand.up

module _ (s : Tables) (h : TablesSound s) (o : Kind) (k : Key) (v : Locals) (hand : HandSound s.totals v) (n f : ℕ) where
  abbrev G : Decision → Type 0
  G = Good s (attempt_home o) (listed o) n f

  again : G retries
  unfolding attempt_home
  again = good_retries s h (attempt_home o) (listed o) n f refl

  go : (w : Locals) (q : Place) → HandSound s.totals w → attempt_home o q ≡ true → Within s.records (listed o) w n q → G (goes w q)
  go w q hw e i = good_goes s h (attempt_home o) (listed o) n f w q hw (e, i)

  if : (b : Bool) (x y : Decision) → (b ≡ true → G x) → (b ≡ false → G y) → G (pick b x y)
  if = good_pick s h (attempt_home o) (listed o) n f

  with-node : (m : Option NodeNo) (g : NodeNo → Decision) → ((x : NodeNo) → m ≡ Some x → G (g x)) → G (through m g)
  with-node = good_through s h (attempt_home o) (listed o) n f

  parent : (m : Option NodeNo) (x : NodeNo) → MaybeSound s.totals m → as_parent s.nodes m ≡ Some x → Parent s x
  parent m x l e = (parent_at s h m x e l).1

  -- ---- SEARCH

  landed_good : (c : NodeNo) → c.0 < s.totals.nodes → G (landed s.nodes v c)
  unfolding landed attempt_home link_home
  landed_good c l = if _ _ _ (λ e. go _ place.Search39 (hand-down_to hand c l) refl tt) (λ e. go _ (place.Link Leaf64 Word52) (hand_leaf hand c l) refl tt)

  search_good : G (search39 s.totals s.nodes k v)
  unfolding search39
  search_good = with-node _ _ (λ p e. with-node _ _ (λ c d. landed_good c (read_used s h _ p _ _ c (parent _ p hand.p e) d)))

  -- ---- taking

  room_fits : (j : ℕ) → room s.totals j ≡ true → Room s j v.seq
  unfolding room
  room_fits j e = let both = (says_and (says_le _ _) (says_le _ _)).out e in record { nodes = both.0; records = both.1; phase = hand.seq }

  taken-hand : (j : ℕ) → Room s j v.seq → (x : NodeNo) → x.0 < s.totals.nodes + j → HandSound (taken s.totals j) (with_taken v x (record_no s.totals.records))
  unfolding taken
  taken-hand j r x l = hand-taken (hand-later (grows_taken s h j v.seq r) hand) x (record_no s.totals.records) l (omega arith)

  three_good : is_insert o ≡ true → G (take_three s.totals k v)
  unfolding take_three attempt_home apply
  three_good e = if _ _ _
      (λ r. good_does s h (attempt_home o) (listed o) n f (effect.TakeThree k v.l v.seq) _ place.Leaf164 (room_fits 3 r, hand.l) (taken-hand 3 (room_fits 3 r) _ (omega arith)) (e, tt))
      (λ r. good_says s h (attempt_home o) (listed o) n f NoRoom)

  copy_good : is_delete o ≡ true → G (take_copy s.totals s.nodes v)
  unfolding take_copy attempt_home apply
  copy_good e = if _ _ _
      (λ r. fork (λ q. G (does (effect.TakeCopy v.sibling v.p v.seq) (with_taken v (node s.totals.nodes) (record_no s.totals.records)) q)) (is_internal s.nodes v.sibling)
      (λ _. good_does s h (attempt_home o) (listed o) n f (effect.TakeCopy v.sibling v.p v.seq) _ place.CopyLeft (room_fits 1 r, hand.sibling, hand.p) (taken-hand 1 (room_fits 1 r) _ (omega arith)) (e, tt))
      (λ _. good_does s h (attempt_home o) (listed o) n f (effect.TakeCopy v.sibling v.p v.seq) _ place.Word189 (room_fits 1 r, hand.sibling, hand.p) (taken-hand 1 (room_fits 1 r) _ (omega arith)) (e, tt)))
      (λ r. good_says s h (attempt_home o) (listed o) n f NoRoom)

  -- ---- the leaf is validated

  reaches_good : (m : Option NodeNo) → is_delete o ≡ true → G (reaches182 v m)
  unfolding reaches182 attempt_home
  reaches_good None e = tt
  reaches_good (Some x) e = if _ _ _ (λ _. tt) (λ _. go v place.Sibling182 hand e tt)

  validated_good : (c : Kind) → c ≡ o → G (validated s.totals s.nodes c k v)
  unfolding validated is_insert is_delete
  validated_good kind.Find e = if _ _ _ (λ _. good_says s h (attempt_home o) (listed o) n f Yes) (λ _. good_says s h (attempt_home o) (listed o) n f No)
  validated_good kind.Insert e = if _ _ _ (λ _. good_says s h (attempt_home o) (listed o) n f No) (λ _. three_good (ap is_insert (sym e)))
  validated_good kind.Delete e = if _ _ _ (λ _. reaches_good v.gp (ap is_delete (sym e))) (λ _. good_says s h (attempt_home o) (listed o) n f No)

  word66_good : G (word66 s.totals s.nodes o k v)
  unfolding word66 attempt_home
  word66_good = with-node _ _ (λ p e. if _ _ _ (λ _. if _ _ _ (λ _. validated_good o refl) (λ _. go v place.Grand66 hand refl tt)) (λ _. again))

  grand66_good : G (grand66 s.totals s.nodes o k v)
  unfolding grand66
  grand66_good = with-node _ _ (λ p e. if _ _ _ (λ _. validated_good o refl) (λ _. again))

  -- ---- the rest of DELETE

  sibling_good : is_delete o ≡ true → G (sibling182 s.totals s.nodes v)
  unfolding sibling182 attempt_home link_home
  sibling_good t = with-node _ _ (λ p e. with-node _ _ (λ c d. go _ (place.Link Sibling183 Word52) (hand_sibling hand c (read_used s h _ p _ _ c (parent _ p hand.p e) d)) t tt))

  copied_good : (left : Bool) → is_delete o ≡ true → G (copy_word s.nodes v left)
  unfolding copy_word attempt_home link_home apply
  copied_good left t = with-node _ _ (λ x e. with-node _ _ (λ c d.
      fork (λ q. G (does (effect.CopyChild c left (child_at s.nodes x left)) v q)) left
      (λ _. good_does s h (attempt_home o) (listed o) n f (effect.CopyChild c left (child_at s.nodes x left)) v place.CopyRight (parent _ c hand.made d, child_used s h x (parent _ x hand.sibling e) left) hand (t, tt))
      (λ _. good_does s h (attempt_home o) (listed o) n f (effect.CopyChild c left (child_at s.nodes x left)) v (place.Link Left187 Word52) (parent _ c hand.made d, child_used s h x (parent _ x hand.sibling e) left) hand (t, tt))))

  word189_good : is_delete o ≡ true → G (word189 s.nodes v)
  unfolding word189 attempt_home
  word189_good t = go _ place.Leaf190 (hand_sup hand _ (update-sound s h v.sibling hand.sibling)) t tt

  leaf_good : is_update o ≡ true → G (leaf_word s.nodes v)
  unfolding leaf_word attempt_home
  leaf_good t = go _ place.Frozen97 (hand_lup hand _ (update-sound s h v.l hand.l)) t (omega arith, listed_some o t)

  -- ---- VALIDATELINK

  held_good : (a : Link) → link_home o a ≡ true → G (held s.totals s.nodes v a)
  unfolding held attempt_home link_home
  held_good Leaf64 t = fork (λ q. G (goes (with_pup v v.up) q)) (same_node v.p root) (λ _. go _ place.Word66 (hand_pup hand _ hand.up) refl tt) (λ _. go _ (place.Link Parent65 Word52) (hand_pup hand _ hand.up) refl tt)
  held_good Parent65 t = go _ place.Word66 (hand_gpup hand _ hand.up) refl tt
  held_good Sibling183 t = copy_good t
  held_good Left187 t = go _ (place.Link Right188 Word52) (hand_sup hand _ hand.up) t tt
  held_good Right188 t = go v place.Leaf190 hand t tt

  abbrev GoodLink : Option LinkMove → Type 0
  GoodLink None = Unit {0}
  GoodLink (Some (link.Goes b u)) = WordSound s.totals u
  GoodLink (Some (link.Helps r)) = r.0 < s.totals.records
  GoodLink (Some link.Fails) = Unit {0}
  GoodLink (Some link.Holds) = Unit {0}

  link_next_good : (a : Link) (m : Option LinkMove) → link_home o a ≡ true → GoodLink m → G (link_next s.totals s.nodes v a m)
  unfolding link_next attempt_home link_home back_home
  link_next_good a None t g = tt
  link_next_good a (Some (link.Goes b u)) t g = go _ (place.Link a b) (hand_up hand u g) t tt
  link_next_good a (Some (link.Helps r)) t g = good_helps s h (attempt_home o) (listed o) n f r refl g
  link_next_good a (Some link.Fails) t g = again
  link_next_good a (Some link.Holds) t g = held_good a t

  link_good : (x c : Option NodeNo) (left : Bool) (b : LinkStep) → ((p : NodeNo) → x ≡ Some p → p.0 < s.totals.nodes) → GoodLink (link_of s.nodes s.records x c left v.up b)
  unfolding link_of word52 state53 child57
  link_good None c left Word52 l = tt
  link_good (Some p) c left Word52 l = update-sound s h p (l p refl)
  link_good x c left State53 l = fork GoodLink (frozen s.records v.up) (λ _. hand.up.info) (λ _. hand.up)
  link_good None c left Child57 l = tt
  link_good (Some p) None left Child57 l = tt
  link_good (Some p) (Some d) left Child57 l = fork GoodLink (same_node (child_at s.nodes p left) d) (λ _. tt) (λ _. tt)

  parent_sound : (a : Link) → MaybeSound s.totals (link_parent v a)
  unfolding link_parent
  parent_sound Leaf64 = hand.p
  parent_sound Parent65 = hand.gp
  parent_sound Sibling183 = hand.p
  parent_sound Left187 = hand.sibling
  parent_sound Right188 = hand.sibling

  validate_good : (a : Link) (b : LinkStep) → link_home o a ≡ true → G (link_step s k v a b)
  unfolding link_step
  validate_good a b t = link_next_good a _ t (link_good _ _ _ b (λ p e. (parent (link_parent v a) p (parent_sound a) e).used))

  -- ---- EXECUTE

  entry_of-hand : (x : NodeNo) (u : Update) (m : ℕ) → x.0 < s.totals.nodes → WordSound s.totals u → m ≤ 1 → EntrySound s.totals (entry x u m)
  entry_of-hand x u m a b c = record { node = a; old = b; mark = c }

  insert-filled : is_internal s.nodes v.p ≡ true → RecordSound s.totals s.nodes (insert_filling v) 0
  unfolding insert_filling entry_of
  insert-filled i = record { count = inr (inl refl, i); state = omega arith; par = hand.p; old = hand.l; new = hand.made; seq = hand.seq; entries = each }
    where
      each : (j : ℕ) → j < 2 → EntrySound s.totals (entry_of (insert_filling v) (suc j))
      each zero l = entry_of-hand v.p v.pup 0 hand.p hand.pup (omega arith)
      each (suc zero) l = entry_of-hand v.l v.lup 1 hand.l hand.lup (omega arith)
      each (suc (suc j)) l = absurd (omega arith)

  delete-filled : (g : NodeNo) → Parent s g → RecordSound s.totals s.nodes (delete_filling v g) 0
  unfolding delete_filling entry_of
  delete-filled g p = record { count = inr (inr refl, p.internal); state = omega arith; par = p.used; old = hand.p; new = hand.made; seq = hand.seq; entries = each }
    where
      each : (j : ℕ) → j < 4 → EntrySound s.totals (entry_of (delete_filling v g) (suc j))
      each zero l = entry_of-hand g v.gpup 0 p.used hand.gpup (omega arith)
      each (suc zero) l = entry_of-hand v.p v.pup 1 hand.p hand.pup (omega arith)
      each (suc (suc zero)) l = entry_of-hand v.l v.lup 1 hand.l hand.lup (omega arith)
      each (suc (suc (suc zero))) l = entry_of-hand v.sibling v.sup 1 hand.sibling hand.sup (omega arith)
      each (suc (suc (suc (suc j)))) l = absurd (omega arith)

  may_fill : (f : Filling) → fillable s.records v.info ≡ true → RecordSound s.totals s.nodes f 0 → Fillable s v.info f
  unfolding fillable
  may_fill f e r =
      let both = (says_and (says_itself _) (says_eq _ _)).out e in
      record { filled = r; other = positive v.info.0 both.0; used = hand.info; empty = both.1 }

  filled_good : (f' : Filling) → is_update o ≡ true → Fillable s v.info f' → G (does (effect.Fill v.info f') (holding v.info) place.Freeze103)
  unfolding attempt_home apply
  filled_good f' t g = good_does s h (attempt_home o) (listed o) n f (effect.Fill v.info f') (holding v.info) place.Freeze103 g (hand-holding s h v.info hand.info) (t, tt)

  fills_good : (c : Kind) → c ≡ o → fillable s.records v.info ≡ true → G (fills s.nodes c v)
  unfolding fills fill_insert fill_delete is_update
  fills_good kind.Insert e m = with-node _ _ (λ p d.
      let at = parent_at s h (Some v.p) p d hand.p in
      filled_good (insert_filling v) (ap is_update (sym e)) (may_fill _ m (insert-filled (rw (at_same at.0) at.1.internal))))
  fills_good kind.Delete e m = with-node _ _ (λ g d. with-node _ _ (λ p b. if _ _ _ (λ _. filled_good (delete_filling v g) (ap is_update (sym e)) (may_fill _ m (delete-filled g (parent v.gp g hand.gp d)))) (λ _. tt)))
  fills_good kind.Find e m = tt

  frozen97_good : is_update o ≡ true → (1 ≤ v.i) × (v.i ≤ listed o) → G (frozen97 s.nodes s.records o v)
  unfolding frozen97 attempt_home
  frozen97_good t i = if _ _ _ (λ _. go v place.State98 hand t i)
      (λ _. if _ _ _ (λ l. let m : v.i < listed o = ltb-true _ _ l in go _ place.Frozen97 (hand_i hand _) t (omega arith, omega arith))
      (λ _. if _ _ _ (λ m. fills_good o refl m) (λ _. tt)))

  state98_good : G (state98 s.records o v)
  unfolding state98 attempt_home back_home
  state98_good = if _ _ _ (λ _. good_helps s h (attempt_home o) (listed o) n f _ refl (old-sound o v v.i hand).info) (λ _. again)

  freeze_good : is_update o ≡ true → G (freeze103 s.nodes s.records v)
  unfolding freeze103 attempt_home back_home in_list apply
  freeze_good t = if _ _ _ (λ m.
      let g = helped s h v.info hand.info m in
      if _ _ _ (λ _. good_does s h (attempt_home o) (listed o) n f (effect.Freeze _ (update flag v.info)) (holding v.info) (place.Help Counter111 Own) ((entry-sound s v.info g 1 (omega arith) (omega (arith, g.two))).node, record { type = omega arith; info = hand.info }) (hand-holding s h v.info hand.info) (t, λ e. absurd (false≢true e)))
      (λ _. again)) (λ _. tt)

  -- ---- HELP

  returns : (b : Back) → back_home o b ≡ true → Returns (attempt_home o) b
  unfolding back_home attempt_home
  returns Own t = refl
  returns Again t = refl
  returns Node t = absurd (false≢true t)

  helps_good : (c : HelpStep) (b : Back) → back_home o b ≡ true → (in_list c ≡ true → (1 ≤ v.i) × (v.i ≤ count_at s.records v.info)) → G (help_next b v (help_of s v.info v.i c))
  unfolding attempt_home
  helps_good c b t w = next_good s h (attempt_home o) (listed o) n f b v _ hand (λ d. t) (returns b t) (help_good s h v.info hand.info v.i c w)

  -- ---- every place

  pub attempt_good : (q : Place) → Allowed (attempt_home o) (listed o) s.records v n q → G (attempt s o k v q)
  unfolding attempt attempt_home
  attempt_good place.Counter74 a = go _ place.Search39 (hand_bare s h _ root dummy (omega arith) (omega (arith, h.used.least_nodes)) (omega (arith, h.used.least_records))) refl tt
  attempt_good place.Search39 a = search_good
  attempt_good (place.Link c b) a = validate_good c b a.0
  attempt_good place.Word66 a = word66_good
  attempt_good place.Grand66 a = grand66_good
  attempt_good place.Leaf164 a = leaf_good (insert_updates o a.0)
  attempt_good place.Sibling182 a = sibling_good a.0
  attempt_good place.CopyLeft a = copied_good true a.0
  attempt_good place.CopyRight a = copied_good false a.0
  attempt_good place.Word189 a = word189_good a.0
  attempt_good place.Leaf190 a = leaf_good (delete_updates o a.0)
  attempt_good place.Frozen97 a = frozen97_good a.0 a.1
  attempt_good place.State98 a = state98_good
  attempt_good place.Freeze103 a = freeze_good a.0
  attempt_good (place.Help c b) a = helps_good c b a.0 a.1
  attempt_good place.Counter130 a = tt
  attempt_good place.Bump131 a = tt
  attempt_good place.Word139 a = tt
  attempt_good place.State140 a = tt
  attempt_good place.Child141 a = tt
  attempt_good place.Left144 a = tt
