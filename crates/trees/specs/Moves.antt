-- A scan under way goes on: from the root, by one child or both of an internal node, past a leaf, to a pending node's left child.
use Rattle.std.specs.Prelude.{◌≡◌, refl, List, [], ◌∷◌, Bool, true, false, not, ℕ, ◌≤◌}
use Rattle.std.proofs.Common.{sym, ◌∙◌, inl, inr, true≢false}
use Rattle.trees.specs.Shape.{Shape, none, both, node, Once}
use Rattle.trees.specs.Version.{Store, Child, IsTree, leaf_t, node_t, walk-one, walk_low, tree_top, Side, tree_side}
use Rattle.trees.specs.Been.{Been, been_pushes, been_pops, been_visits, been_sees}
use Rattle.trees.specs.Scanning.{at, between, Pending, end, waits, Scanning, current_new}

pub scan_starts : {S : Store} {a : Bool} {i root : ℕ} {s : Shape} → S.phase root ≤ i → IsTree S i root s → Once s → Scanning S i a (at root) [] [] []
scan_starts {s = s} low t o = record {
  here = s;
  there = none;
  reads = (low, t);
  rest = end;
  once = (o, tt, λ n j k. k);
  been = record { distinct = tt; distinct_leaves = tt; inner = λ n m. absurd m; low = λ n m. absurd m; leaves = λ n m. absurd m; pending = λ n m. m; passed = λ n m j. m; seen = λ n m j. m };
}

-- line 143: one child, with the other to follow on side a
pub scan_pushes : {S : Store} {i : ℕ} (a : Bool) {us vs ls : List ℕ} {cur c : ℕ} → Scanning S i a (at cur) us vs ls → S.leaf cur ≡ false → Child S i (not a) cur c → Scanning S i a (at c) (cur ∷ us) (cur ∷ vs) ls
scan_pushes {S} {i} a {us} {vs} {ls} {cur} {c} G inner w = of a G.reads.1 G.once G.been w G.rest
  where
    of : (a : Bool) {s : Shape} → IsTree S i cur s → Once (both s G.there) → Been S i us vs ls (both s G.there) → Child S i (not a) cur c → Pending S i a us G.there → Scanning S i a (at c) (cur ∷ us) (cur ∷ vs) ls
    of a (leaf_t h) o B w P = absurd (true≢false (sym h ∙ inner))
    of true (node_t {s = s} {t = t} h wa ta wb tb) o B w P = record {
      here = t;
      there = node cur s G.there;
      reads = (walk_low w, rw (walk-one wb w) at tb);
      rest = waits wa ta P;
      once = (
        o.0.1,
        (o.0.0, o.1, λ n j. o.2 n (inr (inl j)), o.0.3, o.2 cur (inl refl)),
        λ n j. elim [ inl e ↦ o.0.4 (rw e at j) | inr (inl k) ↦ o.0.2 n k j | inr (inr k) ↦ o.2 n (inr (inr j)) k ],
      );
      been = been_pushes inner G.reads.0 (current_new G).0
          (λ n. elim [ inl j ↦ inl (inr (inr j)) | inr (inl e) ↦ inl (inl e) | inr (inr (inl j)) ↦ inl (inr (inl j)) | inr (inr (inr j)) ↦ inr j ]) B;
    }
    of false (node_t {s = s} {t = t} h wa ta wb tb) o B w P = record {
      here = s;
      there = node cur t G.there;
      reads = (walk_low w, rw (walk-one wa w) at ta);
      rest = waits wb tb P;
      once = (
        o.0.0,
        (o.0.1, o.1, λ n j. o.2 n (inr (inr j)), o.0.4, o.2 cur (inl refl)),
        λ n j. elim [ inl e ↦ o.0.3 (rw e at j) | inr (inl k) ↦ o.0.2 n j k | inr (inr k) ↦ o.2 n (inr (inl j)) k ],
      );
      been = been_pushes inner G.reads.0 (current_new G).0
          (λ n. elim [ inl j ↦ inl (inr (inl j)) | inr (inl e) ↦ inl (inl e) | inr (inr (inl j)) ↦ inl (inr (inr j)) | inr (inr (inr j)) ↦ inr j ]) B;
    }

module _ {S : Store} {i : ℕ} {a : Bool} {us vs ls : List ℕ} where
  -- lines 141 and 142: one child alone
  pub scan_visits : (e : Bool) {cur c : ℕ} → Scanning S i a (at cur) us vs ls → S.leaf cur ≡ false → Child S i e cur c → Scanning S i a (at c) us (cur ∷ vs) ls
  scan_visits e {cur} {c} G inner w =
      let side : Side S i e cur G.here = tree_side e G.reads.1 inner in
      record {
        here = side.part;
        there = G.there;
        reads = (walk_low w, rw (walk-one side.reads.walk w) at side.reads.tree);
        rest = G.rest;
        once = (side.once G.once.0, G.once.1, λ n j. G.once.2 n (side.sub n j));
        been = been_visits inner G.reads.0 (current_new G).0 (elim [ inl j ↦ side.off G.once.0 j | inr j ↦ G.once.2 cur (tree_top G.reads.1) j ])
            (λ n. elim [ inl j ↦ inl (side.sub n j) | inr j ↦ inr j ]) G.been;
      }

  -- line 137: a leaf is done with
  pub scan_sees : {cur : ℕ} → Scanning S i a (at cur) us vs ls → S.leaf cur ≡ true → Scanning S i a between us vs (cur ∷ ls)
  scan_sees {cur} G h = record {
    here = none;
    there = G.there;
    reads = refl;
    rest = G.rest;
    once = (tt, G.once.1, λ n j k. j);
    been = been_sees h (current_new G).2 (elim [ inl j ↦ j | inr j ↦ G.once.2 cur (tree_top G.reads.1) j ]) (λ n. elim [ inl j ↦ absurd j | inr j ↦ inr j ]) G.been;
  }

-- line 144: the other child of the node pushed last
pub scan_pops : {S : Store} {i : ℕ} {a : Bool} {us vs ls : List ℕ} {u c : ℕ} → Scanning S i a between (u ∷ us) vs ls → Child S i a u c → Scanning S i a (at c) us vs ls
scan_pops {S} {i} {a} {us} {vs} {ls} {u} {c} G w = of G.rest G.once.1 G.been
  where
    of : {t : Shape} → Pending S i a (u ∷ us) t → Once t → Been S i (u ∷ us) vs ls (both G.here t) → Scanning S i a (at c) us vs ls
    of (waits {s = s} {t = t} v y P) o B = record {
      here = s;
      there = t;
      reads = (walk_low w, rw (walk-one v w) at y);
      rest = P;
      once = (o.0, o.1, o.2);
      been = been_pops (elim [ inl j ↦ o.3 j | inr j ↦ o.4 j ]) (λ n. elim [ inl j ↦ inr (inr (inl j)) | inr j ↦ inr (inr (inr j)) ]) B;
    }
