-- What VALIDATELINK knows of the parent's word at each of its steps, and that the others keep it.
use Rattle.std.specs.Prelude.{ℕ}
use Rattle.shapes.specs.declared.LinkStep.{LinkStep}
use Rattle.shapes.specs.declared.LinkStep.TheVariants.{Word52, State53, Child57}
use Rattle.shapes.specs.declared.Update.{Update}
use Rattle.views.specs.View.{View}
use Rattle.protocol.specs.Ghost.{Ghost, Seen}
use Rattle.protocol.specs.Rely.{Rely}
use Rattle.protocol.specs.Knowledge.{Settled, settled_kept}

-- nothing, then a word that was read, then a final one
abbrev pub Validates : View → Ghost → ℕ → Update → LinkStep → Type 0
Validates X G parent up Word52 = Unit {0}
Validates X G parent up State53 = Seen X G parent up
Validates X G parent up Child57 = Settled X G parent up

pub validates_kept : (o : ℕ) (X X' : View) (G G' : Ghost) → Rely o X X' G G' → (parent : ℕ) (up : Update) (b : LinkStep) → Validates X G parent up b → Validates X' G' parent up b
validates_kept o X X' G G' L parent up Word52 h = h
validates_kept o X X' G G' L parent up State53 h = L.seen parent up h
validates_kept o X X' G G' L parent up Child57 h = settled_kept o X X' G G' L parent up h
