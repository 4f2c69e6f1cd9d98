-- Line 185 in the view: one new node and a record.
use Rattle.std.specs.Prelude.{ℕ, ◌≡◌, refl}
use Rattle.std.proofs.Common.{arith}
use Rattle.laws.specs.Changed.{change_same, change_case}
use Rattle.tables.specs.Names.{fresh_word}
use Rattle.tables.specs.NodeWrites.{Fixed}
use Rattle.views.specs.View.{View, w_node}
use Rattle.protocol.specs.Ghost.{Ghost}
use Rattle.protocol.specs.Invariant.{Holds}
use Rattle.protocol.specs.Knowledge.{Taken, Made}
use Rattle.protocol.specs.Taking.{Takes, takes}
use Rattle.protocol.specs.NewNodes.{behind_none, behind-one, w_taken, behind-takes}
use Rattle.protocol.specs.HelpTurns.{Gives}

module _ (X : View) (f : Fixed) where
  abbrev pub w_one : View
  w_one = w_node X X.nodes f 0 0

  one-takes : Takes X (w_taken X w_one 1)
  one-takes = behind-takes X w_one 1 (behind-one X X (behind_none X) X.nodes f 0 0 (omega arith)) (λ v l m. change_case (λ u. u.info.0 ≡ 0) X.update X.nodes fresh_word v (λ _. refl) (λ e. absurd (omega arith)))

  pub takes_copy : (w : ℕ) (G : Ghost) (H : Holds X G) → Gives w X (w_taken X w_one 1) G (λ G'. Taken w (w_taken X w_one 1) G' X.records × Made (w_taken X w_one 1) G' X.records X.nodes × ((w_taken X w_one 1).fixed X.nodes ≡ f))
  takes_copy w G H =
      let t = takes w X (w_taken X w_one 1) G H one-takes in
      record { after = t.after; holds = t.holds; rely = t.rely; trees = t.trees; knows = (t.knows.0, t.knows.1 X.nodes (omega arith) (omega arith), change_same X.fixed X.nodes f) }
