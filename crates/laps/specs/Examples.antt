-- 01's worked lap and the places where division goes wrong, by computation: around zero, at both ends of a lap's ranges and one
-- beyond, at both ends of 32 bits. Each has a name.
use Rattle.std.specs.Prelude.{◌≡◌, refl, ℕ, ℤ, pos}
use Rattle.laws.specs.Choice.{pick}
use Rattle.laps.specs.declared.Lap.{Lap}
use Rattle.laps.specs.Laps.{minus, refused, gives, key_of_lap, lap_of_key, difference_of_pad, lap_at, between, difference_in_range, lap_in_range, pad_in_range, key_of, floor_div, floor_rest, pad_difference}

abbrev lap : ℤ → ℕ → Lap
lap d e = record { difference = d; entry = e }

pub record Examples : Type 0 where
  -- "So d = −1, e = 1,023 is key −1"
  pub key-minus-one : key_of_lap (minus 1) 1023 ≡ gives (minus 1)
  pub lap-minus-one : lap_of_key (minus 1) ≡ gives (lap (minus 1) 1023)
  -- keys of laps
  pub key_zero : key_of_lap (pos 0) 0 ≡ gives (pos 0)
  pub key_one : key_of_lap (pos 0) 1 ≡ gives (pos 1)
  pub key_lowest : key_of_lap (minus 1000000) 0 ≡ gives (minus 1024000000)
  pub key_highest : key_of_lap (pos 1000000) 1023 ≡ gives (pos 1024001023)
  pub key_difference_below : key_of_lap (minus 1000001) 1023 ≡ refused 6
  pub key_difference_above : key_of_lap (pos 1000001) 0 ≡ refused 6
  pub key-entry_above : key_of_lap (pos 0) 1024 ≡ refused 6
  pub key_difference_first : key_of_lap (minus 2147483648) 0 ≡ refused 6
  pub key_difference_last : key_of_lap (pos 2147483647) 0 ≡ refused 6
  pub key-entry_last : key_of_lap (pos 0) 4294967295 ≡ refused 6
  -- laps of keys
  pub lap_zero : lap_of_key (pos 0) ≡ gives (lap (pos 0) 0)
  pub lap-one : lap_of_key (pos 1) ≡ gives (lap (pos 0) 1)
  pub lap_1023 : lap_of_key (pos 1023) ≡ gives (lap (pos 0) 1023)
  pub lap_1024 : lap_of_key (pos 1024) ≡ gives (lap (pos 1) 0)
  pub lap-minus_1023 : lap_of_key (minus 1023) ≡ gives (lap (minus 1) 1)
  pub lap-minus_1024 : lap_of_key (minus 1024) ≡ gives (lap (minus 1) 0)
  pub lap-minus_1025 : lap_of_key (minus 1025) ≡ gives (lap (minus 2) 1023)
  pub lap_lowest : lap_of_key (minus 1024000000) ≡ gives (lap (minus 1000000) 0)
  pub lap_highest : lap_of_key (pos 1024001023) ≡ gives (lap (pos 1000000) 1023)
  pub lap-below : lap_of_key (minus 1024000001) ≡ refused 6
  pub lap_above : lap_of_key (pos 1024001024) ≡ refused 6
  pub lap-first : lap_of_key (minus 2147483648) ≡ refused 6
  pub lap_last : lap_of_key (pos 2147483647) ≡ refused 6
  -- the division itself at both ends of 32 bits
  pub split_first : lap_at (minus 2147483648) ≡ lap (minus 2097152) 0
  pub split_last : lap_at (pos 2147483647) ≡ lap (pos 2097151) 1023
  -- pads
  pub pad_lowest : difference_of_pad (minus 10000000) ≡ gives (minus 1000000)
  pub pad_minus_ten : difference_of_pad (minus 10) ≡ gives (minus 1)
  pub pad_minus-nine : difference_of_pad (minus 9) ≡ gives (pos 0)
  pub pad_minus-four : difference_of_pad (minus 4) ≡ gives (pos 0)
  pub pad_minus-one : difference_of_pad (minus 1) ≡ gives (pos 0)
  pub pad_zero : difference_of_pad (pos 0) ≡ gives (pos 0)
  pub pad_one : difference_of_pad (pos 1) ≡ gives (pos 0)
  pub pad_four : difference_of_pad (pos 4) ≡ gives (pos 0)
  pub pad_nine : difference_of_pad (pos 9) ≡ gives (pos 0)
  pub pad_ten : difference_of_pad (pos 10) ≡ gives (pos 1)
  pub pad_highest : difference_of_pad (pos 10000000) ≡ gives (pos 1000000)
  pub pad_below : difference_of_pad (minus 10000001) ≡ refused 6
  pub pad_above : difference_of_pad (pos 10000001) ≡ refused 6
  pub pad_first : difference_of_pad (minus 2147483648) ≡ refused 6
  pub pad_last : difference_of_pad (pos 2147483647) ≡ refused 6

pub examples : Examples
unfolding pick between difference_in_range lap_in_range pad_in_range key_of floor_div floor_rest lap_at pad_difference key_of_lap lap_of_key difference_of_pad
examples =
    record {
      key-minus-one = refl;
      lap-minus-one = refl;
      key_zero = refl;
      key_one = refl;
      key_lowest = refl;
      key_highest = refl;
      key_difference_below = refl;
      key_difference_above = refl;
      key-entry_above = refl;
      key_difference_first = refl;
      key_difference_last = refl;
      key-entry_last = refl;
      lap_zero = refl;
      lap-one = refl;
      lap_1023 = refl;
      lap_1024 = refl;
      lap-minus_1023 = refl;
      lap-minus_1024 = refl;
      lap-minus_1025 = refl;
      lap_lowest = refl;
      lap_highest = refl;
      lap-below = refl;
      lap_above = refl;
      lap-first = refl;
      lap_last = refl;
      split_first = refl;
      split_last = refl;
      pad_lowest = refl;
      pad_minus_ten = refl;
      pad_minus-nine = refl;
      pad_minus-four = refl;
      pad_minus-one = refl;
      pad_zero = refl;
      pad_one = refl;
      pad_four = refl;
      pad_nine = refl;
      pad_ten = refl;
      pad_highest = refl;
      pad_below = refl;
      pad_above = refl;
      pad_first = refl;
      pad_last = refl;
    }
