-- Keys order laps by difference, then by entry.
use Rattle.std.specs.Prelude.{◌≡◌, refl, ◌⊎◌, Bool, ℕ, suc, ◌+◌, ◌*◌, ◌-◌, ◌≤◌, ◌<◌, ℤ, pos, negsuc, nat_abs, ltb, ◌<ℤ◌}
use Rattle.std.proofs.Common.{sym, ap, inl, inr, ⊎_elim, arith, lt→ltb, ltb→lt, lt-ltb, ltb-true}
use Rattle.std.proofs.lemmas.Bool.{false≢true}
use Rattle.std.proofs.Math.Decide.{dec_le}
use Rattle.std.proofs.Math.IntN.{pos-ne-negsuc}
use Rattle.std.specs.Int.Signed.{lt_z}
use Rattle.laws.specs.Tests.{Says}
use Rattle.laps.specs.Laps.{last_entry, entries, key_of, lap_in_range, key_of_lap, gives}
use Rattle.laps.specs.Ranges.{says-lap, chosen}
use Rattle.laps.specs.Floor.{sum-below_zero}

-- of natural numbers: by the whole parts, then by the rests
by_parts : (q r q' r' : ℕ) → r ≤ last_entry → r' ≤ last_entry → Says (ltb (q * entries + r) (q' * entries + r')) ((q < q') ⊎ ((q ≡ q') × (r < r')))
by_parts q r q' r' h h' = record { out = λ e. parts (ltb-true _ _ e); back = λ s. lt-ltb _ _ (whole s) }
  where
    parts : q * entries + r < q' * entries + r' → (q < q') ⊎ ((q ≡ q') × (r < r'))
    parts l = elim (dec_le (suc q) q') [ yes below ↦ inl below | no same ↦ inr (omega arith, omega arith) ]

    whole : (q < q') ⊎ ((q ≡ q') × (r < r')) → q * entries + r < q' * entries + r'
    whole s = ⊎_elim (λ below. omega arith) (λ same. omega arith) s

-- the same test, said of other parts
said_of : {b : Bool} {A B : Type 0} → Says b A → (A → B) → (B → A) → Says b B
said_of s to from = record { out = λ e. to (s.out e); back = λ x. s.back (from x) }

pub key_order : (d : ℤ) (e : ℕ) (d' : ℤ) (e' : ℕ) → e ≤ last_entry → e' ≤ last_entry → Says (lt_z (key_of d e) (key_of d' e')) ((d <ℤ d') ⊎ ((d ≡ d') × (e < e')))
unfolding key_of
key_order (pos n) e (pos n') e' h h' =
    said_of (by_parts n e n' e' h h')
    (λ s. ⊎_elim (λ below. inl (record { lt = lt→ltb n n' below })) (λ same. inr (ap pos same.0, same.1)) s)
    (λ s. ⊎_elim (λ below. inl (ltb→lt n n' below.lt)) (λ same. inr (ap nat_abs same.0, same.1)) s)
key_order (pos n) e (negsuc n') e' h h' =
    rw (sum-below_zero entries (omega arith) n' e' (omega arith))
    (record { out = λ t. absurd (false≢true t); back = λ s. ⊎_elim (λ below. absurd below.lt) (λ same. absurd (pos-ne-negsuc n n' same.0)) s })
key_order (negsuc n) e (pos n') e' h h' =
    rw (sum-below_zero entries (omega arith) n e (omega arith))
    (record { out = λ t. inl (record { lt = tt }); back = λ s. refl })
key_order (negsuc n) e (negsuc n') e' h h' =
    rw (sum-below_zero entries (omega arith) n e (omega arith), sum-below_zero entries (omega arith) n' e' (omega arith))
    (said_of (by_parts n' (entries - suc e') n (entries - suc e) (omega arith) (omega arith))
    (λ s. ⊎_elim (λ below. inl (record { lt = lt→ltb n' n below })) (λ same. inr (ap negsuc (sym same.0), omega arith)) s)
    (λ s. ⊎_elim (λ below. inl (ltb→lt n' n below.lt)) (λ same. inr (pred (ap nat_abs (sym same.0)), omega arith)) s))
  where
    pred : suc n' ≡ suc n → n' ≡ n
    pred same = omega arith

-- of the keys that two laps are given, the first is below the second exactly when its lap stands before: by difference, then by entry
pub keys_order_laps : (d : ℤ) (e : ℕ) (key : ℤ) (d' : ℤ) (e' : ℕ) (key' : ℤ) → key_of_lap d e ≡ gives key → key_of_lap d' e' ≡ gives key' → Says (lt_z key key') ((d <ℤ d') ⊎ ((d ≡ d') × (e < e')))
unfolding key_of_lap
keys_order_laps d e key d' e' key' given given' =
    let passed = chosen (lap_in_range d e) (key_of d e) key given in
    let passed' = chosen (lap_in_range d' e') (key_of d' e') key' given' in
    rw (← passed.1, ← passed'.1) (key_order d e d' e' ((says-lap d e).out passed.0).1 ((says-lap d' e').out passed'.0).1)
