-- What is written reads back, what reads is written again as the same bytes, and no number has two spellings. Over any width.
use Rattle.std.specs.Prelude.{◌≡◌, List, [], ◌∷◌, ◌++◌, ℕ, zero, suc, ◌+◌, ◌*◌, ◌-◌, ◌/◌, ◌%◌, ◌^◌, ◌<◌, length, take, Ok}
use Rattle.std.proofs.Common.{sym, ◌∙◌, add-one, arith}
use Rattle.std.proofs.Math.Seq.{take-length}
use Rattle.laws.specs.Parts.{Below, below_head, below_tail}
use Rattle.groups.specs.Format.{group, spelling, most_groups, spelled, read_up_to, reading}
use Rattle.groups.specs.Spelling.{one-group, more_groups, each_spelling, power_below, room_of_width}
use Rattle.groups.specs.ByteByByte.{holds, reads_last, reads_on, joins, each_reading}

-- ---- what is written reads back, whatever follows it

pub spelled-reads : (width k n : ℕ) (rest : List ℕ) → n < 2 ^ width → n < group ^ suc k → read_up_to width (suc k) (spelling (suc k) n ++ rest) ≡ Ok (n, length (spelling (suc k) n))
spelled-reads width zero n rest fits room = each_spelling (λ l. read_up_to width 1 (l ++ rest) ≡ Ok (n, length l)) zero n
    (λ h. reads_last width zero n rest h ∙ holds width n 1 fits)
    (λ h. absurd (omega arith))
spelled-reads width (suc k) n rest fits room = each_spelling (λ l. read_up_to width (suc (suc k)) (l ++ rest) ≡ Ok (n, length l)) (suc k) n
    (λ h. reads_last width (suc k) n rest h ∙ holds width n 1 fits)
    (λ h. let whole : group + n % group - group + group * (n / group) ≡ n = omega arith in
    let above = spelled-reads width k (n / group) rest (omega arith) (power_below (suc k) n room) in
    rw (reads_on width (suc k) (group + n % group) _ (omega arith), above, joins width (group + n % group) (n / group) (length (spelling (suc k) (n / group))) (omega arith), whole, add-one) (holds width n _ fits))

pub written_reads : (width n : ℕ) (rest : List ℕ) → n < 2 ^ width → reading width (spelled width n ++ rest) ≡ Ok (n, length (spelled width n))
unfolding reading spelled most_groups
written_reads width n rest fits = spelled-reads width ((width - 1) / 7) n rest fits (omega (arith, room_of_width width))

-- ---- what reads is written again as the same bytes

pub reads-spelled : (width k : ℕ) (s : List ℕ) → Below 256 s → {n taken : ℕ} → read_up_to width k s ≡ Ok (n, taken) → take taken s ≡ spelling k n
unfolding read_up_to
reads-spelled width zero s b e = cc
reads-spelled width (suc k) [] b e = cc
reads-spelled width (suc k) (byte ∷ s) b e = each_reading (λ n taken. take taken (byte ∷ s) ≡ spelling (suc k) n) width k byte s
    (λ h fits. sym (one-group k byte h))
    (λ above taken e h some fits. let small : byte < 256 = below_head 256 byte s b in
    let same : take taken s ≡ spelling k above = reads-spelled width k s (below_tail 256 byte s b) e in
    let high : (byte - group + group * above) / group ≡ above = omega arith in
    let low : group + (byte - group + group * above) % group ≡ byte = omega arith in
    rw (add-one taken, more_groups k (byte - group + group * above) (omega arith), high, low, same))
    e

pub read_is_written : (width : ℕ) (s : List ℕ) → Below 256 s → {n taken : ℕ} → reading width s ≡ Ok (n, taken) → take taken s ≡ spelled width n
unfolding reading spelled
read_is_written width s b e = reads-spelled width (most_groups width) s b e

-- the bytes that read as a number are its only ones: two different byte strings never read as the same number
pub one-spelling : (width n : ℕ) (s t : List ℕ) (a b : ℕ) → Below 256 s → Below 256 t → reading width s ≡ Ok (n, a) → reading width t ≡ Ok (n, b) → take a s ≡ take b t
one-spelling width n s t a b bs bt es et = read_is_written width s bs es ∙ sym (read_is_written width t bt et)

pub one_string : (width n : ℕ) (s t : List ℕ) → Below 256 s → Below 256 t → reading width s ≡ Ok (n, length s) → reading width t ≡ Ok (n, length t) → s ≡ t
one_string width n s t bs bt es et = sym (take-length s) ∙ one-spelling width n s t (length s) (length t) bs bt es et ∙ take-length t
