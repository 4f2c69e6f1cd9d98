-- What a delete knows from the taking of its copy (line 185) to line 102, that the others keep it, and that it may fill its record.
use Prim.Native.Nat.{ℕ, zero, suc, ◌≤◌, ◌<◌}
use Rattle.std.specs.Prelude.{◌≡◌, refl, ◌≢◌, ◌⊎◌, Bool, true, Some}
use Rattle.std.proofs.Math.Path.{sym}
use Rattle.std.proofs.Common.{◌∙◌, subst, inl}
use Rattle.std.proofs.Math.Logic.{inr}
use native.Mathlib.Omega.{arith}
use Rattle.std.proofs.Math.Decide.{dec_le}
use Rattle.shapes.specs.declared.NodeNo.{NodeNo}
use Rattle.shapes.specs.declared.Locals.{Locals}
use Rattle.shapes.specs.declared.Update.{Update}
use Rattle.tables.specs.Names.{node}
use Rattle.tables.specs.NodeWrites.{Fixed}
use Rattle.tables.specs.Records.{undecided}
use Rattle.sound.specs.Meaning.{entry_of}
use Rattle.steps.specs.Execute.{delete_filling}
use Rattle.views.specs.View.{View, w_record}
use Rattle.protocol.specs.Ghost.{Ghost, Filled, Seen, Final}
use Rattle.protocol.specs.Invariant.{Copied, Holds}
use Rattle.protocol.specs.Fill.{Fills, g_filled}
use Rattle.protocol.specs.Rely.{Rely}
use Rattle.protocol.specs.Knowledge.{Settled, Watched, Taken, Made, settled_kept, watched_kept, taken_kept, made_kept, made_kids, made_fixed}

-- a copy of phase q whose prev is p, of the sibling's kind
pub record NewCopy (f : Fixed) (p q kind : ℕ) : Type 0 where
  pub phase : f.phase ≡ q
  pub prev : f.prev ≡ Some (node p)
  pub alike : f.kind ≡ kind

-- gp, p, l and the sibling are four nodes
pub record Four (g p l s : ℕ) : Type 0 where
  pub gp : g ≢ p
  pub gl : g ≢ l
  pub gs : g ≢ s
  pub pl : p ≢ l
  pub ps : p ≢ s
  pub ls : l ≢ s

pub record Deleting (w : ℕ) (X : View) (G : Ghost) (v : Locals) (g : ℕ) : Type 0 where
  pub taken : Taken w X G v.info.0
  pub made : Made X G v.info.0 v.made.0
  pub copy : NewCopy (X.fixed v.made.0) v.p.0 v.seq.0 (X.fixed v.sibling.0).kind
  pub four : Four g v.p.0 v.l.0 v.sibling.0
  pub linked : (G.linked g ≡ true) × (G.linked v.p.0 ≡ true) × (G.linked v.l.0 ≡ true) × (G.linked v.sibling.0 ≡ true)
  pub inner : ((X.fixed g).kind ≡ 1) × ((X.fixed v.p.0).kind ≡ 1)
  pub phases : ((X.fixed v.p.0).phase ≤ v.seq.0) × ((X.fixed v.sibling.0).phase ≤ v.seq.0)
  pub gpup : Settled X G g v.gpup
  pub pup : Settled X G v.p.0 v.pup
  pub side : Bool
  pub sibling : Watched X v.p.0 v.pup side v.sibling.0

-- and, the sibling's word being read, that its children are the copy's while that word stands
pub record Siblings (X : View) (G : Ghost) (v : Locals) : Type 0 where
  pub seen : Seen X G v.sibling.0 v.sup
  -- of an internal sibling lines 187 and 188 have been passed
  pub final : (X.fixed v.sibling.0).kind ≡ 1 → Final X v.sup
  pub copied : (X.fixed v.sibling.0).kind ≡ 1 → (s : Bool) → Watched X v.sibling.0 v.sup s (X.kid s v.made.0)

module _ (o : ℕ) (X X' : View) (G G' : Ghost) (L : Rely o X X' G G') (w : ℕ) (differ : w ≢ o) (H : Holds X G) (v : Locals) (g : ℕ) (h : Deleting w X G v g) where
  fixed_same : (n : ℕ) → G.linked n ≡ true → X'.fixed n ≡ X.fixed n
  fixed_same n l = L.fixed n (H.used n l)

  copy_same : X'.fixed v.made.0 ≡ X.fixed v.made.0
  copy_same = made_fixed o X X' G G' L w differ H v.info.0 v.made.0 h.taken h.made

  pub deleting_kept : Deleting w X' G' v g
  deleting_kept = record {
    taken = taken_kept o X X' G G' L w differ v.info.0 h.taken;
    made = made_kept o X X' G G' L w differ H v.info.0 v.made.0 h.taken h.made;
    copy = rw (copy_same, fixed_same _ h.linked.3) h.copy;
    four = h.four;
    linked = (L.linked _ h.linked.0, L.linked _ h.linked.1, L.linked _ h.linked.2, L.linked _ h.linked.3);
    inner = (rw (fixed_same _ h.linked.0) h.inner.0, rw (fixed_same _ h.linked.1) h.inner.1);
    phases = (rw (fixed_same _ h.linked.1) h.phases.0, rw (fixed_same _ h.linked.3) h.phases.1);
    gpup = settled_kept o X X' G G' L _ _ h.gpup;
    pup = settled_kept o X X' G G' L _ _ h.pup;
    side = h.side;
    sibling = watched_kept o X X' G G' L _ _ h.side _ h.linked.1 h.pup h.sibling;
  }

  pub siblings_kept : Siblings X G v → Siblings X' G' v
  siblings_kept s = record {
    seen = L.seen v.sibling.0 v.sup s.seen;
    final = λ k. L.final v.sup s.seen.known (s.final (was k));
    copied = λ k e. rw (made_kids o X X' G G' L w differ H v.info.0 v.made.0 h.taken h.made e) (watched_kept o X X' G G' L _ _ e _ h.linked.3 (record { seen = s.seen; final = s.final (was k) }) (s.copied (was k) e));
  }
    where
      was : (X'.fixed v.sibling.0).kind ≡ 1 → (X.fixed v.sibling.0).kind ≡ 1
      was k = rw (← fixed_same _ h.linked.3) k

-- line 102
module _ (w : ℕ) (X : View) (G : Ghost) (H : Holds X G) (v : Locals) (g : NodeNo) (h : Deleting w X G v g.0) (lup : Settled X G v.l.0 v.lup) (s : Siblings X G v) (sup : Final X v.sup) where
  each : (Q : ℕ → Update → Type 0) → Q g.0 v.gpup → Q v.p.0 v.pup → Q v.l.0 v.lup → Q v.sibling.0 v.sup → (j : ℕ) → 1 ≤ j → j ≤ 4 → Q (entry_of (delete_filling v g) j).node.0 (entry_of (delete_filling v g) j).old
  unfolding delete_filling entry_of
  each Q a b c d zero l m = absurd (omega arith)
  each Q a b c d (suc zero) l m = a
  each Q a b c d (suc (suc zero)) l m = b
  each Q a b c d (suc (suc (suc zero))) l m = c
  each Q a b c d (suc (suc (suc (suc zero)))) l m = d
  each Q a b c d (suc (suc (suc (suc (suc j))))) l m = absurd (omega arith)

  -- places in rising order have different nodes
  rising : (i j : ℕ) → 1 ≤ i → i < j → j ≤ 4 → (entry_of (delete_filling v g) i).node.0 ≢ (entry_of (delete_filling v g) j).node.0
  unfolding delete_filling entry_of
  rising zero j a b c = absurd (omega arith)
  rising (suc zero) zero a b c = absurd (omega arith)
  rising (suc zero) (suc zero) a b c = absurd (omega arith)
  rising (suc zero) (suc (suc zero)) a b c = h.four.gp
  rising (suc zero) (suc (suc (suc zero))) a b c = h.four.gl
  rising (suc zero) (suc (suc (suc (suc zero)))) a b c = h.four.gs
  rising (suc (suc zero)) (suc (suc (suc zero))) a b c = h.four.pl
  rising (suc (suc zero)) (suc (suc (suc (suc zero)))) a b c = h.four.ps
  rising (suc (suc (suc zero))) (suc (suc (suc (suc zero)))) a b c = h.four.ls
  rising (suc (suc zero)) zero a b c = absurd (omega arith)
  rising (suc (suc zero)) (suc zero) a b c = absurd (omega arith)
  rising (suc (suc zero)) (suc (suc zero)) a b c = absurd (omega arith)
  rising (suc (suc (suc i))) zero a b c = absurd (omega arith)
  rising (suc (suc (suc i))) (suc zero) a b c = absurd (omega arith)
  rising (suc (suc (suc i))) (suc (suc zero)) a b c = absurd (omega arith)
  rising (suc (suc (suc i))) (suc (suc (suc zero))) a b c = absurd (omega arith)
  rising (suc (suc (suc (suc i)))) (suc (suc (suc (suc zero)))) a b c = absurd (omega arith)
  rising (suc i) (suc (suc (suc (suc (suc j))))) a b c = absurd (omega arith)

  -- no word names a record that is not filled
  not_mine : (n : ℕ) → G.linked n ≡ true → (X.update n).info.0 ≢ v.info.0
  not_mine n l e = elim (H.words n (H.used n l)).0 [
    | inl z ↦ h.taken.other (sym e ∙ z)
    | inr f ↦ (let here : Filled X v.info.0 = subst (Filled X) e f in let none = h.taken.empty in omega (arith, here.some))
  ]

  stands : (n : ℕ) (u : Update) {A : Type 0} → G.linked n ≡ true → (X.update n ≡ u) ⊎ (((X.update n).info.0 ≡ v.info.0) × A) → X.update n ≡ u
  stands n u l (inl e) = e
  stands n u l (inr p) = absurd (not_mine n l p.0)

  copied_of : Copied (w_record X v.info.0 undecided (delete_filling v g)) (g_filled G v.info.0) v.info.0 (delete_filling v g)
  unfolding delete_filling entry_of
  copied_of = record {
    four = refl;
    side = h.side;
    inner = h.inner.1;
    sibling = λ held. h.sibling (stands _ _ h.linked.1 held.word);
    copy = λ k held e. sym (s.copied k e (stands _ _ h.linked.3 held.word));
    kind = h.copy.alike;
    phase = h.phases.1;
  }

  pub delete-fills : Fills X G v.info.0 (delete_filling v g)
  unfolding delete_filling entry_of
  delete-fills = record {
    used = h.taken.used;
    empty = h.taken.empty;
    other = h.taken.other;
    final = each (λ x u. Final X u) h.gpup.final h.pup.final lup.final sup;
    seen = each (λ x u. Seen X G x u) h.gpup.seen h.pup.seen lup.seen s.seen;
    lists = record {
      two = omega arith;
      most_listed = omega arith;
      first = refl;
      second = refl;
      linked = λ j i. each (λ x u. G.linked x ≡ true) h.linked.0 h.linked.1 h.linked.2 h.linked.3 j i.low i.high;
      apart = λ i j a b. by i j a.low a.high b.low b.high;
      inner = h.inner.0;
      old-phase = h.phases.0;
    };
    makes = record { new_used = h.made.used; made = h.made.maker; prev = h.copy.prev; new-phase = h.copy.phase };
    fresh = h.made.fresh;
    kind = inr copied_of;
  }
    where
      by : (i j : ℕ) → 1 ≤ i → i ≤ 4 → 1 ≤ j → j ≤ 4 → (entry_of (delete_filling v g) i).node.0 ≡ (entry_of (delete_filling v g) j).node.0 → i ≡ j
      by i j a b c d e = elim (dec_le (suc i) j) [
        | yes l ↦ absurd (rising i j a l d e)
        | no l ↦ elim (dec_le (suc j) i) [ yes m ↦ absurd (rising j i c m b (sym e)) | no m ↦ omega arith ]
      ]
