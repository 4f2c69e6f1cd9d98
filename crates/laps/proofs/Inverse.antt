-- The key of a lap and the lap of a key undo each other, both ways; so a key stands for one lap, or for none and is refused.
use Rattle.std.specs.Prelude.{◌≡◌, true, ℕ, ◌≤◌, ◌<◌, ℤ}
use Rattle.std.proofs.Common.{sym, ◌∙◌, arith}
use Rattle.laws.specs.Choice.{pick_true}
use Rattle.laps.specs.declared.Lap.{Lap}
use Rattle.laps.specs.Laps.{refused, gives, key_refusal, last_entry, entries, key_of, floor_div, floor_rest, lap_at, difference_in_range, lap_in_range, key_of_lap, lap_of_key}
use Rattle.laps.specs.Ranges.{says-lap, says_difference, chosen}
use Rattle.laps.specs.Inverse.{OneLap}
use Rattle.laps.specs.Floor.{rest_below}
use Rattle.laps.proofs.Floor.{floor_sum, floor_of_sum, rest_of_sum}

-- the key that a lap is given leads back to the lap
pub lap_of_its_key : (d : ℤ) (e : ℕ) (key : ℤ) → key_of_lap d e ≡ gives key → lap_of_key key ≡ gives (record { difference = d; entry = e })
unfolding key_of_lap lap_of_key lap_at key_of
lap_of_its_key d e key given =
    let passed = chosen (lap_in_range d e) (key_of d e) key given in
    let near = (says_difference d).back ((says-lap d e).out passed.0).0 in
    let low : e < entries = omega (arith, ((says-lap d e).out passed.0).1) in
    rw (← passed.1, floor_of_sum entries (omega arith) d e low, rest_of_sum entries (omega arith) d e low) (pick_true _ _ _ near)

-- the lap that a key leads to is given that key
pub key_of_its_lap : (key : ℤ) (l : Lap) → lap_of_key key ≡ gives l → key_of_lap l.difference l.entry ≡ gives key
unfolding key_of_lap lap_of_key lap_at key_of
key_of_its_lap key l given =
    let passed = chosen (difference_in_range (floor_div key entries)) (lap_at key) l given in
    let low : floor_rest key entries ≤ last_entry = omega (arith, rest_below entries (omega arith) key) in
    let inside = (says-lap (floor_div key entries) (floor_rest key entries)).back ((says_difference _).out passed.0, low) in
    rw (← passed.1, floor_sum entries (omega arith) key) (pick_true _ _ _ inside)

-- one lap has the key, and no other
pub one-lap : (key : ℤ) → difference_in_range (floor_div key entries) ≡ true → OneLap key
unfolding lap_of_key
one-lap key near = record { lap = lap_at key; has = key_of_its_lap key (lap_at key) leads; only = other }
  where
    leads : lap_of_key key ≡ gives (lap_at key)
    leads = pick_true _ _ _ near

    other : (d : ℤ) (e : ℕ) → key_of_lap d e ≡ gives key → (d ≡ (lap_at key).difference) × (e ≡ (lap_at key).entry)
    other d e given =
        let same : gives (lap_at key) ≡ gives (record { difference = d; entry = e }) = sym leads ∙ lap_of_its_key d e key given in
        (cc, cc)

-- a key that is refused is no lap's
pub refused_is_no_lap : (key : ℤ) → lap_of_key key ≡ refused key_refusal → (d : ℤ) (e : ℕ) → key_of_lap d e ≡ gives key → ⊥
refused_is_no_lap key refusal d e given =
    let back = lap_of_its_key d e key given in
    let clash : ◌≡◌ {A = ℕ} 0 1 = cc in
    omega arith
