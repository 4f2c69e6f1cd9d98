-- What a worker knows between its turns, by what it holds.
use Rattle.std.specs.Prelude.{ℕ, ◌≡◌, ◌≢◌, List, Option, None, Some}
use Rattle.shapes.specs.declared.Locals.{Locals}
use Rattle.shapes.specs.declared.Worker.{Worker}
use Rattle.shapes.specs.declared.Kind.TheVariants as kind
use Rattle.shapes.specs.declared.Operation.{Operation}
use Rattle.shapes.specs.declared.Operation.TheVariants.{Insert, Delete, Find, Scan}
use Rattle.views.specs.View.{View}
use Rattle.protocol.specs.Ghost.{Ghost}
use Rattle.protocol.specs.Invariant.{Holds}
use Rattle.protocol.specs.Rely.{Rely}
use Rattle.protocol.specs.Trees.{TreeStep}
use Rattle.protocol.specs.AttemptPlaces.{AttemptKnows}
use Rattle.protocol.specs.AttemptKept.{attempts_kept}
use Rattle.protocol.specs.ScanPlaces.{ScanKnows}
use Rattle.protocol.specs.ScanKept.{scan_kept}

-- worker w with v in hand, us pending, so many keys found, after T accepted turns of its operation
abbrev pub OperationKnows : (w : ℕ) → View → Ghost → Locals → List ℕ → ℕ → ℕ → Operation → Type 0
OperationKnows w X G v us found T (Insert k q) = AttemptKnows w X G kind.Insert k v q
OperationKnows w X G v us found T (Delete k q) = AttemptKnows w X G kind.Delete k v q
OperationKnows w X G v us found T (Find k q) = AttemptKnows w X G kind.Find k v q
OperationKnows w X G v us found T (Scan a b q) = ScanKnows X G v us found T q

-- an idle worker has none pending
abbrev pub ConditionKnows : (w : ℕ) → View → Ghost → Locals → ℕ → List ℕ → ℕ → ℕ → Option Operation → Type 0
ConditionKnows w X G v n us found T None = n ≡ 0
ConditionKnows w X G v n us found T (Some o) = OperationKnows w X G v us found T o

abbrev pub Knows : (w : ℕ) → View → Ghost → List ℕ → ℕ → Worker → Type 0
Knows w X G us T k = ConditionKnows w X G k.hand k.pending us k.found T k.operation

-- the turn of another worker o
module _ (o : ℕ) (X X' : View) (G G' : Ghost) (H : Holds X G) (L : Rely o X X' G G') (t : TreeStep X X' G G') (w : ℕ) (differ : w ≢ o) (us : List ℕ) (T : ℕ) where
  condition_kept : (v : Locals) (n found : ℕ) (c : Option Operation) → ConditionKnows w X G v n us found T c → ConditionKnows w X' G' v n us found T c
  condition_kept v n found None h = h
  condition_kept v n found (Some (Insert k q)) h = attempts_kept o X X' G G' H L t w differ v kind.Insert k q h
  condition_kept v n found (Some (Delete k q)) h = attempts_kept o X X' G G' H L t w differ v kind.Delete k q h
  condition_kept v n found (Some (Find k q)) h = attempts_kept o X X' G G' H L t w differ v kind.Find k q h
  condition_kept v n found (Some (Scan a b q)) h = scan_kept o X X' G G' H L t v us found T q h

  pub knows_kept : (k : Worker) → Knows w X G us T k → Knows w X' G' us T k
  knows_kept k h = condition_kept k.hand k.pending k.found k.operation h
