-- Lines 161 to 163 in the view: three new nodes and a record, and the insert knows its plants.
use Rattle.std.specs.Prelude.{ℕ, ◌+◌, ◌≤◌, ◌<◌, ◌≡◌, refl, ◌⊎◌}
use Rattle.std.proofs.Common.{◌∙◌, inl, inr, arith}
use Rattle.laws.specs.Changed.{change_same, change_other, change_case}
use Rattle.tables.specs.Names.{fresh_word}
use Rattle.tables.specs.NodeWrites.{Fixed}
use Rattle.views.specs.View.{View, w_node}
use Rattle.protocol.specs.Ghost.{Ghost}
use Rattle.protocol.specs.Invariant.{Holds}
use Rattle.protocol.specs.Knowledge.{Taken, Made}
use Rattle.protocol.specs.Taking.{Takes, takes}
use Rattle.protocol.specs.NewNodes.{kid_left, kid_right, behind_none, behind-one, w_taken, behind-takes}
use Rattle.protocol.specs.Plants.{NewLeaf, NewTop, Plants}
use Rattle.protocol.specs.HelpTurns.{Gives}

module _ (X : View) (f₀ f₁ f₂ : Fixed) (a b : ℕ) where
  -- two nodes behind the used ones, and a third above them
  abbrev pub w_pair : View
  w_pair = w_node (w_node X X.nodes f₀ 0 0) (X.nodes + 1) f₁ 0 0

  abbrev pub w_three : View
  w_three = w_node w_pair (X.nodes + 2) f₂ a b

  words : (v : ℕ) → X.nodes ≤ v → v < X.nodes + 3 → (w_three.update v).info.0 ≡ 0
  words v l m = change_case (λ u. u.info.0 ≡ 0) w_pair.update (X.nodes + 2) fresh_word v (λ _. refl)
      (λ c. change_case (λ u. u.info.0 ≡ 0) (w_node X X.nodes f₀ 0 0).update (X.nodes + 1) fresh_word v (λ _. refl)
      (λ d. change_case (λ u. u.info.0 ≡ 0) X.update X.nodes fresh_word v (λ _. refl) (λ e. absurd (omega arith))))

  three-takes : Takes X (w_taken X w_three 3)
  three-takes = behind-takes X w_three 3
      (behind-one X w_pair (behind-one X (w_node X X.nodes f₀ 0 0) (behind-one X X (behind_none X) X.nodes f₀ 0 0 (omega arith)) (X.nodes + 1) f₁ 0 0 (omega arith)) (X.nodes + 2) f₂ a b (omega arith))
      words

  first_fixed : w_three.fixed X.nodes ≡ f₀
  first_fixed = change_other w_pair.fixed (X.nodes + 2) f₂ X.nodes (λ d. omega arith) ∙ change_other (w_node X X.nodes f₀ 0 0).fixed (X.nodes + 1) f₁ X.nodes (λ d. omega arith) ∙ change_same X.fixed X.nodes f₀

  second_fixed : w_three.fixed (X.nodes + 1) ≡ f₁
  second_fixed = change_other w_pair.fixed (X.nodes + 2) f₂ (X.nodes + 1) (λ d. omega arith) ∙ change_same (w_node X X.nodes f₀ 0 0).fixed (X.nodes + 1) f₁

  -- the two below stand in either order
  pub takes-three : (w : ℕ) (G : Ghost) (H : Holds X G) (l q : ℕ) → NewLeaf f₀ q → NewLeaf f₁ q → NewTop f₂ l q → ((a ≡ X.nodes) × (b ≡ X.nodes + 1)) ⊎ ((a ≡ X.nodes + 1) × (b ≡ X.nodes))
      → Gives w X (w_taken X w_three 3) G (λ G'. Taken w (w_taken X w_three 3) G' X.records × Plants (w_taken X w_three 3) G' X.records (X.nodes + 2) l q)
  takes-three w G H l q n₀ n₁ n₂ order =
      let t = takes w X (w_taken X w_three 3) G H three-takes in
      record { after = t.after; holds = t.holds; rely = t.rely; trees = t.trees; knows = (t.knows.0, by t order) }
    where
      by : (t : Gives w X (w_taken X w_three 3) G (λ G'. Taken w (w_taken X w_three 3) G' X.records × ((n : ℕ) → X.nodes ≤ n → n < X.nodes + 3 → Made (w_taken X w_three 3) G' X.records n))) → ((a ≡ X.nodes) × (b ≡ X.nodes + 1)) ⊎ ((a ≡ X.nodes + 1) × (b ≡ X.nodes)) → Plants (w_taken X w_three 3) t.after X.records (X.nodes + 2) l q
      by t (inl o) = record {
        left = X.nodes;
        right = X.nodes + 1;
        made = t.knows.1 (X.nodes + 2) (omega arith) (omega arith);
        made-left = t.knows.1 X.nodes (omega arith) (omega arith);
        made_right = t.knows.1 (X.nodes + 1) (omega arith) (omega arith);
        kids = (kid_left w_pair (X.nodes + 2) f₂ a b ∙ o.0, kid_right w_pair (X.nodes + 2) f₂ a b ∙ o.1);
        new_top = rw (change_same w_pair.fixed (X.nodes + 2) f₂) n₂;
        new-left = rw first_fixed n₀;
        new_right = rw second_fixed n₁;
        differ = ((λ e. omega arith), (λ e. omega arith), λ e. omega arith);
      }
      by t (inr o) = record {
        left = X.nodes + 1;
        right = X.nodes;
        made = t.knows.1 (X.nodes + 2) (omega arith) (omega arith);
        made-left = t.knows.1 (X.nodes + 1) (omega arith) (omega arith);
        made_right = t.knows.1 X.nodes (omega arith) (omega arith);
        kids = (kid_left w_pair (X.nodes + 2) f₂ a b ∙ o.0, kid_right w_pair (X.nodes + 2) f₂ a b ∙ o.1);
        new_top = rw (change_same w_pair.fixed (X.nodes + 2) f₂) n₂;
        new-left = rw second_fixed n₁;
        new_right = rw first_fixed n₀;
        differ = ((λ e. omega arith), (λ e. omega arith), λ e. omega arith);
      }
