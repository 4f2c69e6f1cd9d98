-- Each type's variants in their order, and that a value stands at its own place among them; a variant that carries data
-- stands for itself. For the arms of a match that name several variants.
use mathlib.Core.Path.{◌≡◌, refl}
use mathlib.Core.List.{List, [], ◌∷◌}
use lib.ListN.{get_or}
use denote.Enum.Declared.{tag_of}
use Rattle.shapes.specs.declared.Kind.{Kind}
use Rattle.shapes.specs.contracts.Kind.{the_type as kind-type}
use Rattle.shapes.specs.declared.Kind.TheVariants as kind
use Rattle.shapes.specs.declared.Back.{Back}
use Rattle.shapes.specs.contracts.Back.{the_type as back-type}
use Rattle.shapes.specs.declared.Back.TheVariants as back
use Rattle.shapes.specs.declared.Link.{Link}
use Rattle.shapes.specs.contracts.Link.{the_type as link-type}
use Rattle.shapes.specs.declared.Link.TheVariants as link
use Rattle.shapes.specs.declared.HelpStep.{HelpStep}
use Rattle.shapes.specs.contracts.HelpStep.{the_type as step-type}
use Rattle.shapes.specs.declared.HelpStep.TheVariants as step
use Rattle.shapes.specs.declared.Place.{Place}
use Rattle.shapes.specs.contracts.Place.{the_type as place-type}
use Rattle.shapes.specs.declared.Place.TheVariants as place

abbrev pub kinds : List Kind
kinds = kind.Insert ∷ kind.Delete ∷ kind.Find ∷ []

pub kind_listed : (x : Kind) → get_or kinds (tag_of kind-type x) x ≡ x
kind_listed kind.Insert = refl
kind_listed kind.Delete = refl
kind_listed kind.Find = refl

abbrev pub backs : List Back
backs = back.Own ∷ back.Again ∷ back.Node ∷ []

pub back_listed : (x : Back) → get_or backs (tag_of back-type x) x ≡ x
back_listed back.Own = refl
back_listed back.Again = refl
back_listed back.Node = refl

abbrev pub links : List Link
links = link.Leaf64 ∷ link.Parent65 ∷ link.Sibling183 ∷ link.Left187 ∷ link.Right188 ∷ []

pub link-listed : (x : Link) → get_or links (tag_of link-type x) x ≡ x
link-listed link.Leaf64 = refl
link-listed link.Parent65 = refl
link-listed link.Sibling183 = refl
link-listed link.Left187 = refl
link-listed link.Right188 = refl

abbrev pub steps : List HelpStep
steps = step.Counter111 ∷ step.Abort112 ∷ step.Try113 ∷ step.State114 ∷ step.Freeze117 ∷ step.Frozen119 ∷ step.Child123 ∷ step.Commit124 ∷ step.State125 ∷ step.Abort126 ∷ step.State127 ∷ []

pub step_listed : (x : HelpStep) → get_or steps (tag_of step-type x) x ≡ x
step_listed step.Counter111 = refl
step_listed step.Abort112 = refl
step_listed step.Try113 = refl
step_listed step.State114 = refl
step_listed step.Freeze117 = refl
step_listed step.Frozen119 = refl
step_listed step.Child123 = refl
step_listed step.Commit124 = refl
step_listed step.State125 = refl
step_listed step.Abort126 = refl
step_listed step.State127 = refl

abbrev pub places : Place → List Place
places x = place.Counter74 ∷ place.Search39 ∷ x ∷ place.Word66 ∷ place.Grand66 ∷ place.Leaf164 ∷ place.Sibling182 ∷ place.CopyLeft ∷ place.CopyRight ∷ place.Word189 ∷ place.Leaf190 ∷ place.Frozen97 ∷ place.State98 ∷ place.Freeze103 ∷ x ∷ place.Counter130 ∷ place.Bump131 ∷ place.Word139 ∷ place.State140 ∷ place.Child141 ∷ place.Left144 ∷ []

pub place_listed : (x : Place) → get_or (places x) (tag_of place-type x) x ≡ x
place_listed place.Counter74 = refl
place_listed place.Search39 = refl
place_listed (place.Link a b) = refl
place_listed place.Word66 = refl
place_listed place.Grand66 = refl
place_listed place.Leaf164 = refl
place_listed place.Sibling182 = refl
place_listed place.CopyLeft = refl
place_listed place.CopyRight = refl
place_listed place.Word189 = refl
place_listed place.Leaf190 = refl
place_listed place.Frozen97 = refl
place_listed place.State98 = refl
place_listed place.Freeze103 = refl
place_listed (place.Help a b) = refl
place_listed place.Counter130 = refl
place_listed place.Bump131 = refl
place_listed place.Word139 = refl
place_listed place.State140 = refl
place_listed place.Child141 = refl
place_listed place.Left144 = refl
