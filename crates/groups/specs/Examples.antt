-- P11 and P12 of 01, with the faults that stand beside them, computed from the definitions.
use Rattle.std.specs.Prelude.{◌≡◌, refl, [], ◌∷◌, pos, negsuc, Ok, Err}
use Rattle.laws.specs.Choice.{pick}
use Rattle.groups.specs.Format.{spelling, most_groups, spelled, held, joined, read_up_to, reading, code_of, groups_of, read_of}
use Rattle.groups.specs.declared.Fault.TheVariants.{CutShort, NotShortest, TooLong, TooLarge}

-- "127 is 7F, 128 is 80 01; 80 00 is a fault"
pub record P11 : Type 0 where
  pub is_7F : groups_of 127 ≡ 0x7F ∷ []
  pub from_7F : read_of (0x7F ∷ []) ≡ Ok (127, 1)
  pub is_80_01 : groups_of 128 ≡ 0x80 ∷ 0x01 ∷ []
  pub from_80_01 : read_of (0x80 ∷ 0x01 ∷ []) ≡ Ok (128, 2)
  pub fault_80_00 : read_of (0x80 ∷ 0x00 ∷ []) ≡ Err NotShortest

-- "FF FF FF FF 0F reads; FF FF FF FF 10 is a fault"
pub record P12 : Type 0 where
  pub from_FF_FF_FF_FF_0F : read_of (0xFF ∷ 0xFF ∷ 0xFF ∷ 0xFF ∷ 0x0F ∷ []) ≡ Ok (4294967295, 5)
  pub fault_FF_FF_FF_FF_10 : read_of (0xFF ∷ 0xFF ∷ 0xFF ∷ 0xFF ∷ 0x10 ∷ []) ≡ Err TooLarge

-- a number cut short at each byte, one too long, one padded to five groups; the ends of the signed numbers
pub record Beside : Type 0 where
  pub nothing : read_of [] ≡ Err CutShort
  pub one_of_five : read_of (0xFF ∷ []) ≡ Err CutShort
  pub two_of_five : read_of (0xFF ∷ 0xFF ∷ []) ≡ Err CutShort
  pub three_of-five : read_of (0xFF ∷ 0xFF ∷ 0xFF ∷ []) ≡ Err CutShort
  pub four_of_five : read_of (0xFF ∷ 0xFF ∷ 0xFF ∷ 0xFF ∷ []) ≡ Err CutShort
  pub six_groups : read_of (0xFF ∷ 0xFF ∷ 0xFF ∷ 0xFF ∷ 0x8F ∷ 0x01 ∷ []) ≡ Err TooLong
  pub padded : read_of (0x85 ∷ 0x80 ∷ 0x80 ∷ 0x80 ∷ 0x00 ∷ []) ≡ Err NotShortest
  pub rest_kept : read_of (0x05 ∷ 0xFF ∷ []) ≡ Ok (5, 1)
  pub lowest : code_of (negsuc 2147483647) ≡ 4294967295
  pub highest : code_of (pos 2147483647) ≡ 4294967294
  pub minus_one : code_of (negsuc 0) ≡ 1

pub record Examples : Type 0 where
  pub p11 : P11
  pub p12 : P12
  pub beside : Beside

pub examples : Examples
unfolding pick spelling most_groups spelled held joined read_up_to reading code_of
examples = record {
  p11 = record { is_7F = refl; from_7F = refl; is_80_01 = refl; from_80_01 = refl; fault_80_00 = refl };
  p12 = record { from_FF_FF_FF_FF_0F = refl; fault_FF_FF_FF_FF_10 = refl };
  beside = record { nothing = refl; one_of_five = refl; two_of_five = refl; three_of-five = refl; four_of_five = refl; six_groups = refl; padded = refl; rest_kept = refl; lowest = refl; highest = refl; minus_one = refl };
}
