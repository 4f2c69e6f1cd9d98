-- Where a scan of phase i has been, against what is still ahead of it.
use Rattle.std.specs.Prelude.{◌≡◌, ◌⊎◌, List, ◌∷◌, true, false, ℕ, ◌≤◌}
use Rattle.std.proofs.Common.{◌∙◌, inl, inr}
use Rattle.trees.specs.Members.{Mem, Distinct, All}
use Rattle.trees.specs.Shape.{Shape, In}
use Rattle.trees.specs.Version.{Store}

-- vs are the internal nodes and ls the leaves that it has been to; us, of vs, are pending: their left child is still to be read
pub record Been (S : Store) (i : ℕ) (us vs ls : List ℕ) (ahead : Shape) : Type 0 where
  pub distinct : Distinct vs
  pub distinct_leaves : Distinct ls
  pub inner : All (λ n. S.leaf n ≡ false) vs
  pub low : All (λ n. S.phase n ≤ i) vs
  pub leaves : All (λ n. S.leaf n ≡ true) ls
  pub pending : All (λ n. Mem n vs) us
  -- only a pending node is met again, and no leaf
  pub passed : (n : ℕ) → Mem n vs → In n ahead → Mem n us
  pub seen : (n : ℕ) → Mem n ls → In n ahead → ⊥

module _ {S : Store} {i : ℕ} {vs ls : List ℕ} {s t : Shape} where
  pub been_pushes : {cur : ℕ} {us : List ℕ} → S.leaf cur ≡ false → S.phase cur ≤ i → (Mem cur vs → ⊥) → ((n : ℕ) → In n t → In n s) → Been S i us vs ls s → Been S i (cur ∷ us) (cur ∷ vs) ls t
  been_pushes h l new sub B = record {
    distinct = (new, B.distinct);
    distinct_leaves = B.distinct_leaves;
    inner = λ n. elim [ inl e ↦ rw e h | inr m ↦ B.inner n m ];
    low = λ n. elim [ inl e ↦ rw e l | inr m ↦ B.low n m ];
    leaves = B.leaves;
    pending = λ n. elim [ inl e ↦ inl e | inr m ↦ inr (B.pending n m) ];
    passed = λ n. elim [ inl e ↦ λ j. inl e | inr m ↦ λ j. inr (B.passed n m (sub n j)) ];
    seen = λ n m j. B.seen n m (sub n j);
  }

  pub been_pops : {u : ℕ} {us : List ℕ} → (In u t → ⊥) → ((n : ℕ) → In n t → In n s) → Been S i (u ∷ us) vs ls s → Been S i us vs ls t
  been_pops out sub B = record {
    distinct = B.distinct;
    distinct_leaves = B.distinct_leaves;
    inner = B.inner;
    low = B.low;
    leaves = B.leaves;
    pending = λ n m. B.pending n (inr m);
    passed = λ n m j. elim (B.passed n m (sub n j)) [ inl e ↦ absurd (out (rw e at j)) | inr k ↦ k ];
    seen = λ n m j. B.seen n m (sub n j);
  }

  pub been_sees : {cur : ℕ} {us : List ℕ} → S.leaf cur ≡ true → (Mem cur ls → ⊥) → (In cur t → ⊥) → ((n : ℕ) → In n t → In n s) → Been S i us vs ls s → Been S i us vs (cur ∷ ls) t
  been_sees h new out sub B = record {
    distinct = B.distinct;
    distinct_leaves = (new, B.distinct_leaves);
    inner = B.inner;
    low = B.low;
    leaves = λ n. elim [ inl e ↦ rw e h | inr m ↦ B.leaves n m ];
    pending = B.pending;
    passed = λ n m j. B.passed n m (sub n j);
    seen = λ n. elim [ inl e ↦ λ j. out (rw e at j) | inr m ↦ λ j. B.seen n m (sub n j) ];
  }

  -- another store that agrees there, with new numbers ahead
  pub been_changed : {T : Store} {us : List ℕ} (New : ℕ → Type 0) → All (λ n. New n → ⊥) vs → All (λ n. New n → ⊥) ls → ((n : ℕ) → In n t → In n s ⊎ New n)
      → All (λ n. (T.leaf n ≡ S.leaf n) × (T.phase n ≡ S.phase n)) vs → All (λ n. T.leaf n ≡ S.leaf n) ls → Been S i us vs ls s → Been T i us vs ls t
  been_changed {T} {us} New old old-leaves from same same-leaves B = record {
    distinct = B.distinct;
    distinct_leaves = B.distinct_leaves;
    inner = λ n m. (same n m).0 ∙ B.inner n m;
    low = λ n m. rw (same n m).1 (B.low n m);
    leaves = λ n m. same-leaves n m ∙ B.leaves n m;
    pending = B.pending;
    passed = λ n m j. elim (from n j) [ inl a ↦ B.passed n m a | inr b ↦ absurd (old n m b) ];
    seen = λ n m j. elim (from n j) [ inl a ↦ B.seen n m a | inr b ↦ old-leaves n m b ];
  }

-- neither pushed nor met again
pub been_visits : {S : Store} {i : ℕ} {us vs ls : List ℕ} {s t : Shape} {cur : ℕ} → S.leaf cur ≡ false → S.phase cur ≤ i → (Mem cur vs → ⊥) → (In cur t → ⊥) → ((n : ℕ) → In n t → In n s)
    → Been S i us vs ls s → Been S i us (cur ∷ vs) ls t
been_visits {t = t} h l new out sub B = been_pops {s = t} out (λ n j. j) (been_pushes h l new sub B)
