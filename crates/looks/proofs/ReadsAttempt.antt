-- A turn of an attempt, outside VALIDATELINK and HELP, decides by the one word that it looks at.
use Rattle.std.specs.Prelude.{ℕ, ◌≡◌, Bool}
use Rattle.std.proofs.Math.Path.{refl}
use Rattle.std.proofs.Common.{arith}
use Rattle.shapes.specs.declared.NodeNo.{NodeNo}
use Rattle.shapes.specs.declared.Key.{Key}
use Rattle.shapes.specs.declared.Update.{Update}
use Rattle.shapes.specs.declared.Locals.{Locals}
use Rattle.shapes.specs.declared.Kind.{Kind}
use Rattle.shapes.specs.declared.Kind.TheVariants as kind
use Rattle.tables.specs.Records.{entry_at}
use Rattle.tables.specs.World.{Tables}
use Rattle.steps.specs.Search.{goes_left, landed, search39}
use Rattle.steps.specs.Validate.{sibling_left}
use Rattle.steps.specs.Execute.{frozen, old_update, fill_insert, fill_delete, fills, frozen97, state98, freeze103}
use Rattle.steps.specs.Attempt.{room, take_three, take_copy, validated, word66, grand66, sibling182, copy_word, word189, leaf_word}
use Rattle.kept.specs.Touched.{child, word, state}
use Rattle.looks.specs.Looked.{word_of}
use Rattle.looks.specs.Alike.{Alike}
use Rattle.looks.specs.Common.{SameAt, same_child, same_word, word_there, same_state, same_kind, same_internal, same_key, with-node, with_parent, with_child, same_entry, same_helpable, same_fillable}

module _ (s t : Tables) (a : Alike s t) (v : Locals) where
  -- ---- SEARCH

  pub same_goes : (k : Key) (x : NodeNo) → goes_left t.nodes k x ≡ goes_left s.nodes k x
  unfolding goes_left
  same_goes k x = rw (same_key s t a x)

  same_landed : (c : NodeNo) → landed t.nodes v c ≡ landed s.nodes v c
  unfolding landed
  same_landed c = rw (same_internal s t a c)

  pub search_one : (k : Key) → SameAt s t (child v.p (goes_left s.nodes k v.p)) → search39 t.totals t.nodes k v ≡ search39 s.totals s.nodes k v
  unfolding search39
  search_one k e = with-node s t a v.p _ _ (rw (same_goes k v.p) (with_child s t a v.p _ v.seq _ _ e same_landed))

  -- ---- taking, and a leaf that is validated

  same_room : (j : ℕ) → room t.totals j ≡ room s.totals j
  unfolding room
  same_room j = rw (a.n, a.m, a.nodes, a.records)

  same_three : (k : Key) → take_three t.totals k v ≡ take_three s.totals k v
  unfolding take_three
  same_three k = rw (same_room 3, a.nodes, a.records)

  pub same_copy : take_copy t.totals t.nodes v ≡ take_copy s.totals s.nodes v
  unfolding take_copy
  same_copy = rw (same_room 1, a.nodes, a.records, same_internal s t a v.sibling)

  same_validated : (o : Kind) (k : Key) → validated t.totals t.nodes o k v ≡ validated s.totals s.nodes o k v
  unfolding validated
  same_validated kind.Find k = rw (same_key s t a v.l)
  same_validated kind.Insert k = rw (same_key s t a v.l, same_three k)
  same_validated kind.Delete k = rw (same_key s t a v.l)

  pub word66-one : (o : Kind) (k : Key) → SameAt s t (word v.p) → word66 t.totals t.nodes o k v ≡ word66 s.totals s.nodes o k v
  unfolding word66
  word66-one o k e = with-node s t a v.p _ _ (rw (same_word s t v.p e, same_validated o k))

  pub grand66-one : (o : Kind) (k : Key) → SameAt s t (word_of v.gp) → grand66 t.totals t.nodes o k v ≡ grand66 s.totals s.nodes o k v
  unfolding grand66
  grand66-one o k e = with_parent s t a v.gp _ _ (λ x is. rw (word_there s t v.gp x is e, same_validated o k))

  -- ---- the rest of DELETE

  pub same_sibling : sibling_left t.nodes v ≡ sibling_left s.nodes v
  unfolding sibling_left
  same_sibling = rw (same_key s t a v.p, same_key s t a v.l)

  pub sibling_one : SameAt s t (child v.p (sibling_left s.nodes v)) → sibling182 t.totals t.nodes v ≡ sibling182 s.totals s.nodes v
  unfolding sibling182
  sibling_one e = with-node s t a v.p _ _ (rw same_sibling (with_child s t a v.p _ v.seq _ _ e (λ c. refl)))

  pub copy_one : (left : Bool) → SameAt s t (child v.sibling left) → copy_word t.nodes v left ≡ copy_word s.nodes v left
  unfolding copy_word
  copy_one left e = with-node s t a v.sibling _ _ (with-node s t a v.made _ _ (rw (same_child s t v.sibling left e)))

  pub sibling_word-one : SameAt s t (word v.sibling) → word189 t.nodes v ≡ word189 s.nodes v
  unfolding word189
  sibling_word-one e = rw (same_word s t v.sibling e)

  pub leaf_one : SameAt s t (word v.l) → leaf_word t.nodes v ≡ leaf_word s.nodes v
  unfolding leaf_word
  leaf_one e = rw (same_word s t v.l e)

  -- ---- EXECUTE

  pub same_frozen : (u : Update) → SameAt s t (state u.info) → frozen t.records u ≡ frozen s.records u
  unfolding frozen
  same_frozen u e = rw (same_state s t u.info e)

  same_fills : (o : Kind) → fills t.nodes o v ≡ fills s.nodes o v
  unfolding fills fill_insert fill_delete
  same_fills kind.Insert = with-node s t a v.p _ _ refl
  same_fills kind.Delete = with_parent s t a v.gp _ _ (λ g is. with-node s t a v.p _ _ (rw (same_kind s t a v.made, same_kind s t a v.sibling)))
  same_fills kind.Find = refl

  pub frozen97-one : (o : Kind) → SameAt s t (state (old_update o v v.i).info) → frozen97 t.nodes t.records o v ≡ frozen97 s.nodes s.records o v
  unfolding frozen97
  frozen97-one o e = rw (same_frozen (old_update o v v.i) e, same_fillable s t a v.info, same_fills o)

  pub state98-one : (o : Kind) → SameAt s t (state (old_update o v v.i).info) → state98 t.records o v ≡ state98 s.records o v
  unfolding state98
  state98-one o e = rw (same_state s t _ e)

  pub freeze103-one : SameAt s t (word (entry_at s.records v.info 1).node) → freeze103 t.nodes t.records v ≡ freeze103 s.nodes s.records v
  unfolding freeze103
  freeze103-one e = rw (same_helpable s t a v.info, same_entry s t a v.info 1 (omega arith) (omega arith), same_word s t _ e)
