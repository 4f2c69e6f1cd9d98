-- What an insert knows from the taking of its nodes (line 161) to line 102, that the others keep it, and that it may fill its record.
use Prim.Native.Nat.{ℕ, zero, suc, ◌≤◌}
use Rattle.std.specs.Prelude.{◌≡◌, ◌≢◌, true}
use Rattle.std.proofs.Math.Path.{refl}
use Rattle.std.proofs.Common.{sym, arith}
use Rattle.std.proofs.Math.Logic.{inl}
use Rattle.shapes.specs.declared.Locals.{Locals}
use Rattle.shapes.specs.declared.Update.{Update}
use Rattle.sound.specs.Meaning.{entry_of}
use Rattle.steps.specs.Execute.{insert_filling}
use Rattle.views.specs.View.{View}
use Rattle.protocol.specs.Ghost.{Ghost, Seen, Final}
use Rattle.protocol.specs.Invariant.{Holds}
use Rattle.protocol.specs.Fill.{Fills}
use Rattle.protocol.specs.Rely.{Rely}
use Rattle.protocol.specs.Knowledge.{Settled, Taken, settled_kept, taken_kept}
use Rattle.protocol.specs.Plants.{Plants, plants_kept, planted}

pub record Inserting (w : ℕ) (X : View) (G : Ghost) (v : Locals) : Type 0 where
  pub taken : Taken w X G v.info.0
  pub plants : Plants X G v.info.0 v.made.0 v.l.0 v.seq.0
  pub p_linked : G.linked v.p.0 ≡ true
  pub l_linked : G.linked v.l.0 ≡ true
  pub inner : (X.fixed v.p.0).kind ≡ 1
  pub leaf : (X.fixed v.l.0).kind ≢ 1
  pub phase : (X.fixed v.l.0).phase ≤ v.seq.0
  pub pup : Settled X G v.p.0 v.pup

pub inserting_kept : (o : ℕ) (X X' : View) (G G' : Ghost) (L : Rely o X X' G G') (w : ℕ) (differ : w ≢ o) (H : Holds X G) (v : Locals) → Inserting w X G v → Inserting w X' G' v
inserting_kept o X X' G G' L w differ H v h =
    let same-p : X'.fixed v.p.0 ≡ X.fixed v.p.0 = L.fixed _ (H.used _ h.p_linked) in
    let same-l : X'.fixed v.l.0 ≡ X.fixed v.l.0 = L.fixed _ (H.used _ h.l_linked) in
    record {
      taken = taken_kept o X X' G G' L w differ v.info.0 h.taken;
      plants = plants_kept o X X' G G' L w differ H v.info.0 h.taken v.made.0 v.l.0 v.seq.0 h.plants;
      p_linked = L.linked _ h.p_linked;
      l_linked = L.linked _ h.l_linked;
      inner = rw same-p h.inner;
      leaf = rw same-l h.leaf;
      phase = rw same-l h.phase;
      pup = settled_kept o X X' G G' L _ _ h.pup;
    }

-- line 102
module _ (w : ℕ) (X : View) (G : Ghost) (H : Holds X G) (v : Locals) (h : Inserting w X G v) (lup : Settled X G v.l.0 v.lup) where
  -- of each of the two places: p with its word, l with its own
  each : (Q : ℕ → Update → Type 0) → Q v.p.0 v.pup → Q v.l.0 v.lup → (j : ℕ) → 1 ≤ j → j ≤ 2 → Q (entry_of (insert_filling v) j).node.0 (entry_of (insert_filling v) j).old
  unfolding insert_filling entry_of
  each Q a b zero l m = absurd (omega arith)
  each Q a b (suc zero) l m = a
  each Q a b (suc (suc zero)) l m = b
  each Q a b (suc (suc (suc j))) l m = absurd (omega arith)

  p_not_l : v.p.0 ≢ v.l.0
  p_not_l e = h.leaf (rw (← e) h.inner)

  apart : (i j : ℕ) → 1 ≤ i → i ≤ 2 → 1 ≤ j → j ≤ 2 → (entry_of (insert_filling v) i).node.0 ≡ (entry_of (insert_filling v) j).node.0 → i ≡ j
  unfolding insert_filling entry_of
  apart zero j a b c d e = absurd (omega arith)
  apart (suc zero) zero a b c d e = absurd (omega arith)
  apart (suc zero) (suc zero) a b c d e = refl
  apart (suc zero) (suc (suc zero)) a b c d e = absurd (p_not_l e)
  apart (suc zero) (suc (suc (suc j))) a b c d e = absurd (omega arith)
  apart (suc (suc zero)) zero a b c d e = absurd (omega arith)
  apart (suc (suc zero)) (suc zero) a b c d e = absurd (p_not_l (sym e))
  apart (suc (suc zero)) (suc (suc zero)) a b c d e = refl
  apart (suc (suc zero)) (suc (suc (suc j))) a b c d e = absurd (omega arith)
  apart (suc (suc (suc i))) j a b c d e = absurd (omega arith)

  pub insert-fills : Fills X G v.info.0 (insert_filling v)
  unfolding insert_filling entry_of
  insert-fills = record {
    used = h.taken.used;
    empty = h.taken.empty;
    other = h.taken.other;
    final = each (λ x u. Final X u) h.pup.final lup.final;
    seen = each (λ x u. Seen X G x u) h.pup.seen lup.seen;
    lists = record {
      two = omega arith;
      most_listed = omega arith;
      first = refl;
      second = refl;
      linked = λ j i. each (λ x u. G.linked x ≡ true) h.p_linked h.l_linked j i.low i.high;
      apart = λ i j a b. apart i j a.low a.high b.low b.high;
      inner = h.inner;
      old-phase = h.phase;
    };
    makes = record { new_used = h.plants.made.used; made = h.plants.made.maker; prev = h.plants.new_top.prev; new-phase = h.plants.new_top.phase };
    fresh = h.plants.made.fresh;
    kind = inl (planted X G v.info.0 (insert_filling v) h.plants);
  }
