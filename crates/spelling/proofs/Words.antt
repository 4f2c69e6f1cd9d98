-- What a line of words leaves of its page, where it fits.
use Rattle.std.proofs.Common.{◌≡◌, ℕ, ◌≤◌, List, [], ◌∷◌, length, ◌∙◌, sym}
use Rattle.lines.specs.Text.{line_feed, spaced, line_of}
use Rattle.lines.specs.Page.{page, fill, spelt, fills-page, fill_line, fill-word, fill_no_words}
use Rattle.lines.specs.Lengths.{refused-fits, answered-fits}

pub line_done : (word : List ℕ) (words : List (List ℕ)) (out : List ℕ) → length (line_of word words) ≤ length out → spelt (line_of word words) out ≡ fill (line_feed ∷ []) (fill (spaced words) (fill word (page 0 out)))
line_done word words out h = sym (fills-page _ out h) ∙ fill_line word words _

pub ruleset put = (line_done, fill-word, fill_no_words)

pub ruleset refused_fits = (refused-fits)

pub ruleset answered_fits = (answered-fits)
