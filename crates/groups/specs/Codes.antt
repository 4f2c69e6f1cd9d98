-- Every signed number of a width has one code of that width, and every number of the width is the code of exactly one. Over any width.
use Rattle.std.specs.Prelude.{◌≡◌, refl, List, ◌++◌, ℕ, suc, ◌+◌, ◌*◌, ◌-◌, ◌/◌, ◌%◌, eqb, ℤ, pos, negsuc, ◌*ℤ◌, ◌-ℤ◌, length, take, Ok, Err}
use Rattle.std.proofs.Common.{sym, ap, ◌∙◌, arith, Fits, SFits, le-ltb, eq-eqb, ne_eqb, eqb-true}
use Rattle.std.specs.Int.{Width, w32}
use mir.ValLaws.{pow-bits}
use Rattle.std.proofs.lemmas.Bool.{eqb-false}
use Rattle.laws.specs.Choice.{fork, pick_true, pick_false}
use Rattle.laws.specs.Parts.{Below}
use Rattle.groups.specs.Format.{code_of, signed_of, decoded, bits, groups_of, read_of, read_signed_of, Reading}
use Rattle.groups.specs.RoundTrip.{written_reads, read_is_written}

-- "n is sent as 2n, or −2n − 1 when negative"
pub sent_natural : (n : ℕ) → pos (code_of (pos n)) ≡ pos 2 *ℤ pos n
unfolding code_of
sent_natural n = refl

pub sent_negative : (m : ℕ) → pos (code_of (negsuc m)) ≡ negsuc 1 *ℤ negsuc m -ℤ pos 1
unfolding code_of
sent_negative m = let same : 2 * suc m - 1 ≡ 2 * m + 1 = omega arith in rw (le-ltb (2 * suc m) 1 (omega arith), same)

pub even_code : (c : ℕ) → c % 2 ≡ 0 → signed_of c ≡ pos (c / 2)
unfolding signed_of
even_code c e = pick_true _ _ _ (eq-eqb (c % 2) 0 e)

pub odd_code : (c : ℕ) → (c % 2 ≡ 0 → ⊥) → signed_of c ≡ negsuc (c / 2)
unfolding signed_of
odd_code c e = pick_false _ _ _ (ne_eqb (c % 2) 0 e)

-- a number, sent and received
pub signed_code : (z : ℤ) → signed_of (code_of z) ≡ z
unfolding code_of
signed_code (pos n) = even_code (2 * n) (omega arith) ∙ ap pos (omega arith)
signed_code (negsuc m) = odd_code (2 * m + 1) (λ e. omega arith) ∙ ap negsuc (omega arith)

-- a code, received and sent
pub code_signed : (c : ℕ) → code_of (signed_of c) ≡ c
unfolding signed_of code_of
code_signed c = fork (λ z. code_of z ≡ c) (eqb (c % 2) 0) (λ e. omega (arith, eqb-true (c % 2) 0 e)) (λ e. omega (arith, eqb-false (c % 2) 0 e))

-- both within the width
pub code_fits : (w : Width) (z : ℤ) → SFits w z → Fits w (code_of z)
unfolding code_of
code_fits w (pos n) f = record { fits = omega (arith, f.sfits, pow-bits w) }
code_fits w (negsuc m) f = record { fits = omega (arith, f.sfits, pow-bits w) }

pub signed-fits : (w : Width) (c : ℕ) → Fits w c → SFits w (signed_of c)
unfolding signed_of
signed-fits w c f = fork (SFits w) (eqb (c % 2) 0) (λ e. record { sfits = omega (arith, f.fits, pow-bits w) }) (λ e. record { sfits = omega (arith, f.fits, pow-bits w) })

-- no two numbers have the same code
pub one_code : (y z : ℤ) → code_of y ≡ code_of z → y ≡ z
one_code y z e = sym (signed_code y) ∙ ap signed_of e ∙ signed_code z

-- ---- signed numbers in groups

-- a signed number reads where its code does
pub decoded_code : (r : Reading) (z : ℤ) (taken : ℕ) → decoded r ≡ Ok (z, taken) → r ≡ Ok (code_of z, taken)
unfolding decoded
decoded_code (Ok (c, k)) z taken e =
    let same : ◌≡◌ {A = ℤ × ℕ} (signed_of c, k) (z, taken) = cc in
    rw (← ap (λ p. p.0) same, ← ap (λ p. p.1) same, code_signed c)
decoded_code (Err fault) z taken e = cc

pub written_signed-reads : (z : ℤ) (rest : List ℕ) → SFits w32 z → read_signed_of (groups_of (code_of z) ++ rest) ≡ Ok (z, length (groups_of (code_of z)))
unfolding decoded
written_signed-reads z rest f = rw (written_reads bits (code_of z) rest (code_fits w32 z f).fits, signed_code z)

pub read_signed_is_written : (s : List ℕ) → Below 256 s → {z : ℤ} {taken : ℕ} → read_signed_of s ≡ Ok (z, taken) → take taken s ≡ groups_of (code_of z)
read_signed_is_written s b {z} {taken} e = read_is_written bits s b (decoded_code (read_of s) z taken e)
