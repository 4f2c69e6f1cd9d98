-- What specs/Cheats.antt says of cheats is so.
use Rattle.std.specs.Prelude.{[], refl, eqb}
use Rattle.std.proofs.Common.{sym, ap, ◌∙◌, true≢false}
use Rattle.std.proofs.lemmas.Bool.{false≢true}
use Rattle.tables.specs.World.{World, totals_of}
use Rattle.tables.specs.Fresh.{Left}
use Rattle.steps.specs.Opened.{steps_opened}
use Rattle.steps.specs.Play.{fresh}
use Rattle.steps.specs.Kept.{is_refused}
use Rattle.bound.specs.Histories.{asked, after, counted, turns_of}
use Rattle.bound.specs.Examples.{inserts5, scans, last_outcome}
use Rattle.bound.specs.Cheats.{outcomes, answered, Cheats}

pub cheats : Cheats
unfolding steps_opened fresh is_refused asked after counted turns_of last_outcome outcomes answered
cheats = record {
  eighth = refl;
  stops_early = λ t same a e. false≢true (ap answered (sym (ap (λ (l : Left). l.outcome) (same (after (fresh 16 4) (scans 2 (inserts5 18 []))) 1)) ∙ e));
  made_up_count = λ count same. true≢false (ap (eqb 5) (same 8 [] ∙ sym (same 8 (inserts5 18 []))));
  alters_nothing = λ same. false≢true (ap (λ (s : World). eqb (totals_of s).counter 0) (same (after (fresh 16 4) (scans 1 [])) 1));
  others = refl;
  refused_turns = refl;
  refused_start = refl;
  new_start = refl;
}
