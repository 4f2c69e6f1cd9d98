-- What is seen of a call can be had back from what its contract says of it: one outcome, for each way in which lists are lent.
use Rattle.std.specs.Prelude.{ℕ, ◌≡◌, refl, List}
use mathlib.Core.Path.{ap₂}
use Rattle.std.specs.Borrow.{MutBor}
use Rattle.laws.specs.Outcomes.{OneOutcome, one_outcome, answer}
use Rattle.shapes.specs.declared.Reply.{Reply}
use Rattle.shapes.specs.declared.Run.{Run}
use Rattle.tables.specs.Fresh.{Left}
use Rattle.steps.specs.Turn.{Ran}
use Rattle.lines.specs.Page.{Page, page}
use Rattle.lending.specs.declared.Lent.{Lent}
use Rattle.lending.specs.Lent.{SameLists}
use Rattle.lending.specs.declared.Shown.{Shown}
use Rattle.outcomes.specs.Lent.{with, exit, exit_named, Names, names, shown, lists, all_left, all_ran, reply_back, run_back}

-- ---- one list, or two

-- a list written, and nothing answered
pub puts : {K A R E T : Type 0} (list : E → MutBor (List T)) (f : K → A → List T) → OneOutcome (λ (k : K) (a : A) (r : R) (x : E). (list x).now ≡ f k a) (λ r x. (list x).now)
puts list = one_outcome (λ r x. (list x).now) (λ a o. o) (λ o. o) (λ a o. refl)

-- a page that a text is put on
pub fills : {K A E : Type 0} (out : E → MutBor (List ℕ)) (f : K → A → Page) → OneOutcome (λ (k : K) (a : A) (r : ℕ) (x : E). page r (out x).now ≡ f k a) (λ r x. with r (out x))
fills out = one_outcome (λ r x. with r (out x)) (λ a o. page o.0 o.1) (λ p. (p.at, p.bytes)) (λ a o. refl)

-- ---- the tables, lent as one value

-- lists that are both the ones lent have the same names
named : (l m n : Lent) → SameLists l n → SameLists m n → names l ≡ names m
named l m n e f = rw (e.0, e.1, e.2, e.3, f.0, f.1, f.2, f.3)

-- what a call leaves, where its contract says beside that it leaves the very lists that were lent
pub beside : {K A R E O L : Type 0} (given : A → MutBor Lent) (tables : E → MutBor Lent) (seen : R → E → O) (comes : A → O → L) (back : L → O) → ((a : A) (o : O) → back (comes a o) ≡ o) → (f : K → A → L) → OneOutcome {O = O × Names} (λ (k : K) (a : A) (r : R) (x : E). SameLists (tables x).now (given a).now × (comes a (seen r x) ≡ f k a)) (λ r x. (seen r x, names (tables x).now))
beside {O = O} given tables seen comes back returns f k a r q x y this that =
    let both : O → Names → O × Names = λ o n. (o, n) in
    ap₂ both (one_outcome seen comes back returns f k a r q x y this.1 that.1) (named (tables x).now (tables y).now (given a).now this.0 that.0)

-- a call that may write to them
pub writes : {K A E : Type 0} (given : A → MutBor Lent) (tables : E → MutBor Lent) (f : K → A → Left) → OneOutcome (λ (k : K) (a : A) (r : Reply) (x : E). SameLists (tables x).now (given a).now × (all_left (exit r (tables x)) ≡ f k a)) (λ r x. exit_named r (tables x))
writes given tables = beside given tables (λ r x. exit r (tables x)) (λ a. all_left) (λ d. lists (reply_back d) d.world) (λ a o. refl)

-- a call that only reads them: at exit they are what they were
pub reads : {K A E : Type 0} (tables : A → Shown) (f : K → A → Left) → OneOutcome (λ (k : K) (a : A) (r : Reply) (x : E). all_left (shown r (tables a)) ≡ f k a) answer
reads tables = one_outcome answer (λ a r. all_left (shown r (tables a))) reply_back (λ a r. refl)

-- turns in a row
pub runs : {K A E : Type 0} (given : A → MutBor Lent) (tables : E → MutBor Lent) (f : K → A → Ran) → OneOutcome (λ (k : K) (a : A) (r : Run) (x : E). SameLists (tables x).now (given a).now × (all_ran (exit r (tables x)) ≡ f k a)) (λ r x. exit_named r (tables x))
runs given tables = beside given tables (λ r x. exit r (tables x)) (λ a. all_ran) (λ d. lists (run_back d) d.world) (λ a o. refl)
