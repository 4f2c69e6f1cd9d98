-- A delete takes its copy (line 185), reads the sibling's children into it, and reads the last words (lines 189 and 190); an insert reads its leaf's word (line 164).
use Rattle.std.specs.Prelude.{ℕ, ◌<◌, ◌≡◌, ◌≢◌, Bool, true, false, Some}
use Rattle.std.proofs.Math.Path.{refl, subst}
use Rattle.std.proofs.Common.{sym, ◌∙◌, true≢false, arith, eq-eqb}
use Rattle.laws.specs.Choice.{fork}
use Rattle.shapes.specs.declared.NodeNo.{NodeNo}
use Rattle.shapes.specs.declared.Key.{Key}
use Rattle.shapes.specs.declared.Locals.{Locals}
use Rattle.shapes.specs.declared.Kind.TheVariants as kind
use Rattle.shapes.specs.declared.Link.TheVariants.{Left187}
use Rattle.shapes.specs.declared.LinkStep.TheVariants.{Word52}
use Rattle.shapes.specs.declared.Effect.{Effect}
use Rattle.shapes.specs.declared.Effect.TheVariants as effect
use Rattle.shapes.specs.declared.Answer.TheVariants.{NoRoom}
use Rattle.shapes.specs.declared.Place.TheVariants as place
use Rattle.tables.specs.Names.{node, record_no}
use Rattle.tables.specs.Nodes.{is_internal, child_at, update_at}
use Rattle.tables.specs.NodeWrites.{fixed_at}
use Rattle.tables.specs.World.{Tables}
use Rattle.sound.specs.Meaning.{TablesSound}
use Rattle.steps.specs.Apply.{apply}
use Rattle.steps.specs.Hand.{with_sup, with_lup, with_taken, does}
use Rattle.steps.specs.Validate.{link_parent}
use Rattle.steps.specs.Attempt.{room, take_copy, copy_word, word189, leaf_word}
use Rattle.views.specs.View.{View, view, w_kid}
use Rattle.views.specs.Effects.{view-set_child}
use Rattle.protocol.specs.Ghost.{Ghost}
use Rattle.protocol.specs.Invariant.{Holds}
use Rattle.protocol.specs.Rely.{Rely}
use Rattle.protocol.specs.Trees.{inner_kind}
use Rattle.protocol.specs.Words.{seen_now}
use Rattle.protocol.specs.Knowledge.{Taken, Made, settled_kept, watched_kept}
use Rattle.protocol.specs.Taking.{copies}
use Rattle.protocol.specs.Inserting.{Inserting}
use Rattle.protocol.specs.Deleting.{NewCopy, Deleting}
use Rattle.protocol.specs.TakeMoves.{copy_moves}
use Rattle.protocol.specs.HelpTurns.{Gives}
use Rattle.protocol.specs.Searching.{p_linked, l_linked, p_inner, p_low, g_is_linked, g_inner}
use Rattle.protocol.specs.AttemptPlaces.{opposite, Under, Paired, LeafSibling, SiblingRead}
use Rattle.protocol.specs.AttemptKept.{fixed_same}
use Rattle.protocol.specs.AttemptHands.{inserting_words, deleting_words, read_words}
use Rattle.protocol.specs.AttemptTurns.{gives_more, Decides, does_knows, goes_knows, says_knows, with-node, by_test, parent_is}
use Rattle.protocol.specs.AttemptSearch.{same_node_lem}
use Rattle.protocol.specs.AttemptTakes.{room_fits}

-- ---- in the view

module _ (w : ℕ) (X X' : View) (G G' : Ghost) (H : Holds X G) (L : Rely w X X' G G') (v : Locals) where
  -- a record and a copy more; the link to the sibling holds
  deleting_starts : (g : NodeNo) (a : Paired X G v g) → X.kid (opposite X v.p.0 v.l.0) v.p.0 ≡ v.sibling.0 → (r x : ℕ) → Taken w X' G' r → Made X' G' r x → NewCopy (X'.fixed x) v.p.0 v.seq.0 (X.fixed v.sibling.0).kind → Deleting w X' G' (with_taken v (node x) (record_no r)) g.0
  deleting_starts g a holds r x taken made copy =
      let at = a.before.landed in
      let p-in = p_linked X G _ _ _ _ _ at in
      let g-in = g_is_linked X G _ g _ _ _ at in
      record {
        taken = taken;
        made = made;
        copy = rw (fixed_same w X X' G G' H L _ a.linked) copy;
        four = a.four;
        linked = (L.linked _ g-in, L.linked _ p-in, L.linked _ (l_linked X G _ _ _ _ _ at), L.linked _ a.linked);
        inner = (rw (fixed_same w X X' G G' H L _ g-in) (inner_kind _ (g_inner X G _ g _ _ _ at)), rw (fixed_same w X X' G G' H L _ p-in) (inner_kind _ (p_inner X G _ _ _ _ _ at)));
        phases = (rw (fixed_same w X X' G G' H L _ p-in) (p_low X G _ _ _ _ _ at), rw (fixed_same w X X' G G' H L _ a.linked) a.low);
        gpup = settled_kept w X X' G G' L _ _ a.before.gpup;
        pup = settled_kept w X X' G G' L _ _ a.before.pup;
        side = opposite X v.p.0 v.l.0;
        sibling = watched_kept w X X' G G' L _ _ _ _ p-in a.before.pup (λ _. holds);
      }

  -- a child of the copy is written
  deleting-goes : (g : ℕ) → Deleting w X G v g → Taken w X' G' v.info.0 → Made X' G' v.info.0 v.made.0 → X'.fixed v.made.0 ≡ X.fixed v.made.0 → Deleting w X' G' v g
  deleting-goes g h taken made same = record {
    taken = taken;
    made = made;
    copy = rw (same, fixed_same w X X' G G' H L _ h.linked.3) h.copy;
    four = h.four;
    linked = (L.linked _ h.linked.0, L.linked _ h.linked.1, L.linked _ h.linked.2, L.linked _ h.linked.3);
    inner = (rw (fixed_same w X X' G G' H L _ h.linked.0) h.inner.0, rw (fixed_same w X X' G G' H L _ h.linked.1) h.inner.1);
    phases = (rw (fixed_same w X X' G G' H L _ h.linked.1) h.phases.0, rw (fixed_same w X X' G G' H L _ h.linked.3) h.phases.1);
    gpup = settled_kept w X X' G G' L _ _ h.gpup;
    pup = settled_kept w X X' G G' L _ _ h.pup;
    side = h.side;
    sibling = watched_kept w X X' G G' L _ _ h.side _ h.linked.1 h.pup h.sibling;
  }

-- ---- in the tables

pub external_kind : (s : Tables) (x : NodeNo) → is_internal s.nodes x ≡ false → ((view s).fixed x.0).kind ≢ 1
unfolding is_internal view fixed_at
external_kind s x e one = true≢false (sym (eq-eqb _ _ one) ∙ e)

module _ (w : ℕ) (s : Tables) (h : TablesSound s) (G : Ghost) (H : Holds (view s) G) (k : Key) (v : Locals) where
  -- line 185
  module _ (u : Under v.gp (Paired (view s) G v)) (holds : (view s).kid (opposite (view s) v.p.0 v.l.0) v.p.0 ≡ v.sibling.0) where
    abbrev takes : Effect
    takes = effect.TakeCopy v.sibling v.p v.seq

    abbrev hand : Locals
    hand = with_taken v (node s.totals.nodes) (record_no s.totals.records)

    took : room s.totals 1 ≡ true → Gives w (view s) (view (apply takes s)) G (λ G'. Deleting w (view (apply takes s)) G' hand u.grand.0 × ((view (apply takes s)).fixed v.sibling.0 ≡ (view s).fixed v.sibling.0))
    unfolding view fixed_at
    took r =
        let fits = room_fits w s h G H k v 1 r in
        gives_more
        (λ G' L _ new. (
          deleting_starts w (view s) (view (apply takes s)) G G' H L v u.grand u.knows holds s.totals.records s.totals.nodes new.0 new.1 (rw new.2 (record { phase = refl; prev = refl; alike = refl })),
          fixed_same w (view s) (view (apply takes s)) G G' H L _ u.knows.linked,
        ))
        (copy_moves s h w G H v.sibling v.p v.seq fits.0 fits.1)

    pub copy_decides : Decides w s G kind.Delete k (take_copy s.totals s.nodes v)
    unfolding take_copy
    copy_decides = by_test w s G H kind.Delete k _ _ _
        (λ r. fork (λ q. Decides w s G kind.Delete k (does takes hand q)) (is_internal s.nodes v.sibling)
        (λ _. does_knows w s G H kind.Delete k takes hand place.CopyLeft (gives_more (λ G' _ _ d. record { grand = u.grand; is = u.is; knows = d.0 }) (took r)))
        (λ i. does_knows w s G H kind.Delete k takes hand place.Word189 (gives_more (λ G' _ _ d. record { grand = u.grand; is = u.is; knows = record { deleting = d.0; leaf = rw d.1 (external_kind s v.sibling i) } }) (took r))))
        (λ _. says_knows w s G H kind.Delete k NoRoom)

  -- a child word into the copy
  module _ (u : Under v.gp (λ g. Deleting w (view s) G v g.0)) where
    copied : (left : Bool) (c : NodeNo) → Gives w (view s) (view (apply (effect.CopyChild v.made left c) s)) G (λ G'. Under v.gp (λ g. Deleting w (view (apply (effect.CopyChild v.made left c) s)) G' v g.0))
    unfolding apply
    copied left c =
        let d = u.knows in
        subst (λ X. Gives w (view s) X G (λ G'. Under v.gp (λ g. Deleting w X G' v g.0)))
        (sym (view-set_child s.totals s.nodes s.records s.totals.n h.node-rows v.made left c (unfold view in let a : v.made.0 < s.totals.nodes = d.made.used in let b = h.used.most_nodes in omega arith)))
        (gives_more (λ G' L _ new. record { grand = u.grand; is = u.is; knows = deleting-goes w (view s) (w_kid (view s) left v.made.0 c.0) G G' H L v u.grand.0 d new.0 new.1 refl })
        (copies w (view s) G H v.info.0 v.made.0 d.taken d.made left c.0))

    pub copies_decide : (left : Bool) → Decides w s G kind.Delete k (copy_word s.nodes v left)
    unfolding copy_word link_parent
    copies_decide left = with-node w s G H kind.Delete k _ _ (λ x _. with-node w s G H kind.Delete k _ _ (λ c e.
        let same : v.made ≡ c = same_node_lem (parent_is s (Some v.made) c e).0 in
        rw (← same) (fork (λ q. Decides w s G kind.Delete k (does (effect.CopyChild v.made left (child_at s.nodes x left)) v q)) left
        (λ _. does_knows w s G H kind.Delete k (effect.CopyChild v.made left (child_at s.nodes x left)) v place.CopyRight (copied left (child_at s.nodes x left)))
        (λ _. does_knows w s G H kind.Delete k (effect.CopyChild v.made left (child_at s.nodes x left)) v (place.Link Left187 Word52) (gives_more (λ G' _ _ d. (d, tt)) (copied left (child_at s.nodes x left)))))))

  -- line 189
  pub sup_decides : Under v.gp (LeafSibling w (view s) G v) → Decides w s G kind.Delete k (word189 s.nodes v)
  unfolding word189 view
  sup_decides u =
      let d = u.knows.deleting in
      goes_knows w s G H kind.Delete k (with_sup v (update_at s.nodes v.sibling)) place.Leaf190 (record {
        grand = u.grand;
        is = u.is;
        knows = record {
          deleting = deleting_words w (view s) G v v.lup v.up v.i (update_at s.nodes v.sibling) u.grand.0 d;
          siblings = record { seen = seen_now (view s) G H v.sibling.0 (H.used _ d.linked.3); final = λ one. absurd (u.knows.leaf one); copied = λ one. absurd (u.knows.leaf one) };
        };
      })

  -- line 190
  pub delete_lup : Under v.gp (SiblingRead w (view s) G v) → Decides w s G kind.Delete k (leaf_word s.nodes v)
  unfolding leaf_word view
  delete_lup u =
      goes_knows w s G H kind.Delete k (with_lup v (update_at s.nodes v.l)) place.Frozen97 (record {
        grand = u.grand;
        is = u.is;
        knows = record {
          read = read_words w (view s) G v (update_at s.nodes v.l) v.up 1 u.grand u.knows;
          lup = seen_now (view s) G H v.l.0 (H.used _ u.knows.deleting.linked.2);
          tested = λ l. absurd (omega arith);
        };
      })

  -- line 164
  pub insert_lup : Inserting w (view s) G v → Decides w s G kind.Insert k (leaf_word s.nodes v)
  unfolding leaf_word view
  insert_lup a = goes_knows w s G H kind.Insert k (with_lup v (update_at s.nodes v.l)) place.Frozen97 (record {
    inserting = inserting_words w (view s) G v (update_at s.nodes v.l) v.up 1 a;
    lup = seen_now (view s) G H v.l.0 (H.used _ a.l_linked);
  })
