-- What a turn may set: the word that it looks at, or the worker's own, which is the copy that it makes or the record that it took.
use Rattle.std.specs.Prelude.{ℕ, ◌≡◌, ◌⊎◌, List, Bool, Option, None, Some}
use Rattle.std.proofs.Math.Path.{refl}
use Rattle.std.proofs.Math.Logic.{inl}
use Rattle.laws.specs.Choice.{pick, fork}
use Rattle.shapes.specs.declared.NodeNo.{NodeNo}
use Rattle.shapes.specs.declared.Key.{Key}
use Rattle.shapes.specs.declared.Totals.{Totals}
use Rattle.shapes.specs.declared.Locals.{Locals}
use Rattle.shapes.specs.declared.Kind.{Kind}
use Rattle.shapes.specs.declared.Kind.TheVariants as kind
use Rattle.shapes.specs.declared.Link.{Link}
use Rattle.shapes.specs.declared.Link.TheVariants.{Leaf64, Parent65, Sibling183, Left187, Right188}
use Rattle.shapes.specs.declared.LinkMove.{LinkMove}
use Rattle.shapes.specs.declared.LinkMove.TheVariants as link
use Rattle.shapes.specs.declared.HelpMove.{HelpMove}
use Rattle.shapes.specs.declared.HelpMove.TheVariants as help
use Rattle.shapes.specs.declared.Effect.{Effect}
use Rattle.shapes.specs.declared.Effect.TheVariants as effect
use Rattle.shapes.specs.declared.PendingChange.{PendingChange}
use Rattle.shapes.specs.Outcomes.{Decision}
use Rattle.tables.specs.Nodes.{is_internal}
use Rattle.tables.specs.Versions.{as_parent}
use Rattle.steps.specs.Hand.{through}
use Rattle.steps.specs.Ways.{through_each}
use Rattle.steps.specs.Attempt.{take_three, take_copy, reaches182, validated, held, link_next}
use Rattle.steps.specs.Scan.{Range, leaves, comes_to, reads}
use Rattle.kept.specs.Touched.{Changeable, none, touched}

-- the copy that its worker makes, whose children line 185 sets, and the record that it took, which line 102 fills
abbrev pub Own : Locals → Effect → Type 0
Own v effect.Nothing = ⊥
Own v effect.Bump = ⊥
Own v (effect.TakeThree k l q) = ⊥
Own v (effect.TakeCopy x p q) = ⊥
Own v (effect.CopyChild x left c) = x ≡ v.made
Own v (effect.Fill r f) = r ≡ v.info
Own v (effect.Freeze x u) = ⊥
Own v (effect.SetState r n) = ⊥
Own v (effect.Link x left c) = ⊥

abbrev pub SetsOnly : Changeable → Locals → Effect → Type 0
SetsOnly c v e = (touched e ≡ none) ⊎ ((touched e ≡ c) ⊎ Own v e)

abbrev pub Sets : Changeable → Locals → Decision → Type 0
Sets c v None = Unit {0}
Sets c v (Some d) = SetsOnly c v d.effect

abbrev pub SetsMove : Changeable → Locals → Option HelpMove → Type 0
SetsMove c v None = Unit {0}
SetsMove c v (Some (help.Goes e i q)) = SetsOnly c v e
SetsMove c v (Some (help.Done done)) = Unit {0}

-- ---- decisions

module _ (c : Changeable) (v : Locals) where
  pub either : (b : Bool) (x y : Decision) → Sets c v x → Sets c v y → Sets c v (pick b x y)
  either b x y p q = fork (Sets c v) b (λ _. p) (λ _. q)

  pub with-node : (m : Option NodeNo) (g : NodeNo → Decision) → ((x : NodeNo) → Sets c v (g x)) → Sets c v (through m g)
  with-node = through_each (Sets c v) tt

  -- a parent, which is the very node
  pub as_parent_lem : (ns : List ℕ) (x : NodeNo) (g : NodeNo → Decision) → Sets c v (g x) → Sets c v (through (as_parent ns (Some x)) g)
  unfolding as_parent through
  as_parent_lem ns x g h = fork (λ m. Sets c v (through m g)) (is_internal ns x) (λ _. h) (λ _. tt)

  pub reads-sets : (t : Totals) (ns : List ℕ) (g : Range) (keys : ℕ) (change : PendingChange) (n : ℕ) (x : NodeNo) (left : Bool) → Sets c v (reads t ns g keys change n x left)
  unfolding reads comes_to leaves touched
  reads-sets t ns g keys change n x left = with-node _ _ (λ y. either _ _ _ (inl refl) (either _ _ _ (either _ _ _ (either _ _ _ (inl refl) (inl refl)) tt) (either _ _ _ (inl refl) (inl refl))))

  module _ (t : Totals) (ns : List ℕ) where
    pub validated-sets : (o : Kind) (k : Key) → Sets c v (validated t ns o k v)
    unfolding validated take_three touched
    validated-sets kind.Find k = either _ _ _ (inl refl) (inl refl)
    validated-sets kind.Insert k = either _ _ _ (inl refl) (either _ _ _ (inl refl) (inl refl))
    validated-sets kind.Delete k = either _ _ _ (reaches v.gp) (inl refl)
      where
        reaches : (m : Option NodeNo) → Sets c v (reaches182 v m)
        reaches None = unfold reaches182 in tt
        reaches (Some gp) = unfold reaches182 touched in either _ _ _ tt (inl refl)

    pub link-sets : (a : Link) (m : Option LinkMove) → Sets c v (link_next t ns v a m)
    unfolding link_next held take_copy touched
    link-sets a None = tt
    link-sets a (Some (link.Goes b u)) = inl refl
    link-sets a (Some (link.Helps r)) = inl refl
    link-sets a (Some link.Fails) = inl refl
    link-sets Leaf64 (Some link.Holds) = inl refl
    link-sets Parent65 (Some link.Holds) = inl refl
    link-sets Sibling183 (Some link.Holds) = either _ _ _ (inl refl) (inl refl)
    link-sets Left187 (Some link.Holds) = inl refl
    link-sets Right188 (Some link.Holds) = inl refl
