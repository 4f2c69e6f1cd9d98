-- What a turn adds to is small enough that no sum wraps; sound tables always fit.
use Rattle.std.specs.Prelude.{ℕ, ◌≤◌, ◌≡◌, Bool, true, ◌&&◌, ◌||◌, ◌⊎◌, leb}
use Rattle.std.proofs.Common.{arith, inl, inr}
use Rattle.std.proofs.Math.Decide.{dec_le}
use Rattle.laws.specs.Choice.{pick, pick_true}
use Rattle.laws.specs.Tests.{Says, says_le, says_and, says_or}
use Rattle.shapes.specs.Numbers.{most_n}
use Rattle.shapes.specs.declared.Board.{Board}
use Rattle.shapes.specs.declared.Refusal.TheVariants as refusal
use Rattle.tables.specs.World.{World, totals_of, worker_at}
use Rattle.tables.specs.Fresh.{Left, refused}
use Rattle.sound.specs.Sound.{sound_of}
use Rattle.sound.specs.Meaning.{Sound, WorkerSound}
use Rattle.sound.specs.Agree.{says-sound}
use Rattle.steps.specs.Turn.{step_of}
use Rattle.effects.specs.Sizes.{WithinSizes, within, says-within, sound-within_sizes}
use Rattle.boards.specs.Boards.{worker_of}

-- the totals, and the counts of a worker that is one of P
unfoldable pub fits : Board → ℕ → Bool
fits b w = within b.totals && (leb b.totals.p w || (leb (worker_of b w).pending most_n && leb (worker_of b w).found most_n))

pub says-fits : (b : Board) (w : ℕ) → Says (fits b w) (WithinSizes b.totals × ((b.totals.p ≤ w) ⊎ (((worker_of b w).pending ≤ most_n) × ((worker_of b w).found ≤ most_n))))
unfolding fits
says-fits b w = says_and (says-within _) (says_or (says_le _ _) (says_and (says_le _ _) (says_le _ _)))

-- a turn on any tables: those that do not fit are not sound (01, refusal 1)
unfoldable pub step_within : World → ℕ → Left
step_within s w = pick (fits s.board w) (step_of s w) (refused s refusal.Table)

pub sound-fits : (s : World) (w : ℕ) → Sound s → fits s.board w ≡ true
unfolding worker_at
sound-fits s w h = (says-fits s.board w).back (sound-within_sizes (totals_of s) h.sizes h.shared.used, counts (dec_le (totals_of s).p w))
  where
    counts : Dec ((totals_of s).p ≤ w) → ((totals_of s).p ≤ w) ⊎ (((worker_of s.board w).pending ≤ most_n) × ((worker_of s.board w).found ≤ most_n))
    counts (yes l) = inl l
    counts (no n) =
        let k : WorkerSound (totals_of s) s.records _ (worker_at s w) = h.workers w (omega arith) in
        inr (omega (arith, k.most_pending, h.sizes.n_at_most), omega (arith, k.most_found, h.sizes.n_at_most))

-- on sound tables it is the turn of 01
pub sound_step : (s : World) (w : ℕ) → sound_of s ≡ true → step_within s w ≡ step_of s w
unfolding step_within
sound_step s w h = pick_true _ _ _ (sound-fits s w ((says-sound s).out h))
