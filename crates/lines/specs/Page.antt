-- A page that is written from its start.
use Rattle.std.specs.Prelude.{◌≡◌, refl, List, [], ◌∷◌, ◌++◌, ℕ, suc, ◌+◌, ◌≤◌, ◌<◌, ltb, length, get_or, set, take, drop}
use Rattle.std.proofs.Common.{sym, ap, ◌∙◌, add-one, zero-add, arith, length-set, length-append, drop_of_length-le, drop-cons, lt-ltb, le-ltb}
use Rattle.std.proofs.lemmas.List.Edits.{sets, sets-eq}
use Rattle.std.proofs.Math.Seq.{take-append_seam, take-suc}
use Rattle.laws.specs.Choice.{pick, pick_true, pick_false}
use Rattle.lines.specs.Text.{blank, line_feed, spaced, line_of}

-- a page, and where the next byte goes
pub record Page : Type 0 where
  pub at : ℕ
  pub bytes : List ℕ

abbrev pub page : ℕ → List ℕ → Page
page at bytes = record { at = at; bytes = bytes }

-- a text at the start of a page, all else as it was
unfoldable pub spelt : List ℕ → List ℕ → Page
spelt text bytes = page (length text) (text ++ drop (length text) bytes)

-- ---- byte by byte

-- one byte more; a full page stays
unfoldable pub one : ℕ → Page → Page
one b p = pick (ltb p.at (length p.bytes)) (page (p.at + 1) (set p.bytes p.at b)) p

unfoldable pub fill : List ℕ → Page → Page
fill [] p = p
fill (b ∷ text) p = fill text (one b p)

pub fill-append : (s t : List ℕ) (p : Page) → fill (s ++ t) p ≡ fill t (fill s p)
unfolding fill
fill-append [] t p = refl
fill-append (b ∷ s) t p = fill-append s t (one b p)

-- what a byte does to a page with room, and to a full one
pub fill_one : (b at : ℕ) (bytes : List ℕ) → at < length bytes → page (at + 1) (set bytes at b) ≡ fill (b ∷ []) (page at bytes)
unfolding fill one
fill_one b at bytes h = sym (pick_true _ _ _ (lt-ltb at (length bytes) h))

pub fill_full : (b at : ℕ) (bytes : List ℕ) → length bytes ≤ at → page at bytes ≡ fill (b ∷ []) (page at bytes)
unfolding fill one
fill_full b at bytes h = sym (pick_false _ _ _ (le-ltb at (length bytes) h))

-- the next byte of a text, in a loop that has put i of them
pub fill-drop : (text : List ℕ) (i : ℕ) (p : Page) → i < length text → fill (drop i text) p ≡ fill (drop (i + 1) text) (fill (get_or text i 0 ∷ []) p)
unfolding fill
fill-drop text i p h = rw (add-one, drop-cons text i 0 h)

pub fill_dropped : (text : List ℕ) (i : ℕ) (p : Page) → length text ≤ i → fill (drop i text) p ≡ p
unfolding fill
fill_dropped text i p h = rw (drop_of_length-le text h)

-- a text's first bytes: none of them, and one more
pub fill_none : (p : Page) → fill [] p ≡ p
unfolding fill
fill_none p = refl

pub fill_next : (text : List ℕ) (i : ℕ) (p : Page) → i < length text → fill (take (i + 1) text) p ≡ fill (get_or text i 0 ∷ []) (fill (take i text) p)
fill_next text i p h = rw (add-one, take-suc text i 0 h) (fill-append (take i text) (get_or text i 0 ∷ []) p)

-- where there is room, the bytes are stored one after the other
pub fill-sets : (text bytes : List ℕ) (at : ℕ) → at + length text ≤ length bytes → fill text (page at bytes) ≡ page (at + length text) (sets bytes at text)
unfolding fill one
fill-sets [] bytes at h = let e : at + 0 ≡ at = omega arith in rw e
fill-sets (b ∷ text) bytes at h =
    let e : suc at + length text ≡ at + suc (length text) = omega arith in
    let room : suc at + length text ≤ length (set bytes at b) = simp length-set (omega arith) in
    rw (pick_true _ (page (at + 1) (set bytes at b)) (page at bytes) (lt-ltb at (length bytes) (omega arith)), add-one, fill-sets text (set bytes at b) (suc at) room, e)

-- a text that fits, from the start
pub fills-page : (text bytes : List ℕ) → length text ≤ length bytes → fill text (page 0 bytes) ≡ spelt text bytes
unfolding spelt
fills-page text bytes h = rw (fill-sets text bytes 0 (omega arith), sets-eq text bytes 0 (omega arith), zero-add)

-- what a reader of the page counts and finds: the text at its start
pub spelt-counts : (r : ℕ) (after text bytes : List ℕ) → page r after ≡ spelt text bytes → (r ≤ length after) × (take r after ≡ text)
unfolding spelt
spelt-counts r after text bytes e =
    let count : r ≡ length text = ap (λ p. p.at) e in
    let stands : after ≡ text ++ drop (length text) bytes = ap (λ p. p.bytes) e in
    (rw (count, stands, length-append) (omega arith), rw (count, stands) (take-append_seam text _))

-- ---- word by word

pub fill_line : (word : List ℕ) (words : List (List ℕ)) (p : Page) → fill (line_of word words) p ≡ fill (line_feed ∷ []) (fill (spaced words) (fill word p))
unfolding line_of
fill_line word words p = fill-append word _ p ∙ fill-append (spaced words) (line_feed ∷ []) (fill word p)

pub fill-word : (word : List ℕ) (words : List (List ℕ)) (p : Page) → fill (spaced (word ∷ words)) p ≡ fill (spaced words) (fill (blank ∷ word) p)
unfolding spaced
fill-word word words p = fill-append (blank ∷ word) (spaced words) p

pub fill_no_words : (p : Page) → fill (spaced []) p ≡ p
unfolding fill spaced
fill_no_words p = refl
