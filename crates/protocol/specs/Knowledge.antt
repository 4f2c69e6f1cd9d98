-- What a worker w knows between its turns, and that turns of another worker keep it: words read, children watched, a record and nodes taken.
use Rattle.std.specs.Prelude.{ℕ, ◌<◌, ◌≡◌, ◌≢◌, Bool, true, false}
use Rattle.std.proofs.Common.{sym, ◌∙◌, inl, inr, arith}
use Rattle.shapes.specs.declared.Update.{Update}
use Rattle.tables.specs.Records.{committed}
use Rattle.views.specs.View.{View}
use Rattle.protocol.specs.Ghost.{Ghost, Filled, Seen, Final}
use Rattle.protocol.specs.Invariant.{Holds}
use Rattle.protocol.specs.Rely.{Rely}

-- a word was read at v, and its record is final
pub record Settled (X : View) (G : Ghost) (v : ℕ) (u : Update) : Type 0 where
  pub seen : Seen X G v u
  pub final : Final X u

-- while u stands at v, c is its child on side e
abbrev pub Watched : View → ℕ → Update → Bool → ℕ → Type 0
Watched X v u e c = X.update v ≡ u → X.kid e v ≡ c

-- a record that w has taken and not filled
pub record Taken (w : ℕ) (X : View) (G : Ghost) (r : ℕ) : Type 0 where
  pub used : r < X.records
  pub other : r ≢ 0
  pub mine : G.owner r ≡ w
  pub empty : (X.filling r).count ≡ 0

-- a node made with it, that nobody has linked
pub record Made (X : View) (G : Ghost) (r n : ℕ) : Type 0 where
  pub used : n < X.nodes
  pub fresh : G.linked n ≡ false
  pub maker : G.maker n ≡ r

-- ---- kept by the turn of worker o

module _ (o : ℕ) (X X' : View) (G G' : Ghost) (L : Rely o X X' G G') where
  pub settled_kept : (v : ℕ) (u : Update) → Settled X G v u → Settled X' G' v u
  settled_kept v u s = record { seen = L.seen v u s.seen; final = L.final u s.seen.known s.final }

  -- a child moves only where the word's record is in progress
  pub watched_kept : (v : ℕ) (u : Update) (e : Bool) (c : ℕ) → G.linked v ≡ true → Settled X G v u → Watched X v u e c → Watched X' v u e c
  watched_kept v u e c linked s k after =
      let was : X.update v ≡ u = L.stood v u s.seen after in
      elim (L.kids v linked) [ inl same ↦ same e ∙ k was | inr live ↦ (let z : X.state u.info.0 < committed = rw was at live in absurd (omega (arith, s.final))) ]

  module _ (w : ℕ) (differ : w ≢ o) where
    not_theirs : (r : ℕ) → G.owner r ≡ w → G.owner r ≢ o
    not_theirs r m e = differ (sym m ∙ e)

    pub taken_kept : (r : ℕ) → Taken w X G r → Taken w X' G' r
    taken_kept r t = record { used = omega (arith, t.used, L.records); other = t.other; mine = L.owner r t.used ∙ t.mine; empty = L.unfilled r t.used (not_theirs r t.mine) t.empty }

    module _ (H : Holds X G) (r n : ℕ) (t : Taken w X G r) (m : Made X G r n) where
      untouched : (G'.linked n ≡ false) × ((s : Bool) → X'.kid s n ≡ X.kid s n)
      untouched =
          let none : Filled X r → ⊥ = λ f. (let z = t.empty in omega (arith, f.some)) in
          L.mine n m.used m.fresh (rw m.maker t.used) (rw m.maker (not_theirs r t.mine)) (rw m.maker (H.blank r none).2)

      pub made_kept : Made X' G' r n
      made_kept = record { used = omega (arith, m.used, L.nodes); fresh = untouched.0; maker = L.maker n m.used ∙ m.maker }

      pub made_kids : (s : Bool) → X'.kid s n ≡ X.kid s n
      made_kids = untouched.1

      pub made_fixed : X'.fixed n ≡ X.fixed n
      made_fixed = L.fixed n m.used
