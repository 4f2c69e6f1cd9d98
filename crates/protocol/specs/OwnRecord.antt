-- A record that its worker has filled and nobody has seen: what the others keep of it, filling it, and the CAS of its first node.
use Rattle.std.specs.Prelude.{ℕ, ◌≡◌, refl, ◌≢◌, true}
use Rattle.std.proofs.Common.{sym, ◌∙◌, inl, arith}
use Rattle.laws.specs.Changed.{change, change_same}
use Rattle.shapes.specs.declared.Filling.{Filling}
use Rattle.shapes.specs.declared.HelpStep.TheVariants.{Counter111}
use Rattle.tables.specs.Names.{record_no, update}
use Rattle.tables.specs.Records.{undecided}
use Rattle.views.specs.View.{View, w_update, w_record}
use Rattle.protocol.specs.Ghost.{Ghost, node_of, old_of, Filled, InList, Live, Lost}
use Rattle.protocol.specs.Invariant.{RecordHolds, Holds}
use Rattle.protocol.specs.Freeze.{g_froze, freeze_holds}
use Rattle.protocol.specs.Fill.{g_filled, Fills, fill_holds}
use Rattle.protocol.specs.Rely.{Unseen, Rely, not_lost, rely_freeze, rely_fill}
use Rattle.protocol.specs.Helper.{Helps}
use Rattle.protocol.specs.HelpTurns.{Gives}

pub record Own (w : ℕ) (X : View) (G : Ghost) (r : ℕ) : Type 0 where
  pub filled : Filled X r
  pub unseen : Unseen G r
  pub mine : G.owner r ≡ w
  pub open' : X.state r ≡ undecided

pub own_kept : (o : ℕ) (X X' : View) (G G' : Ghost) → Rely o X X' G G' → (w : ℕ) → w ≢ o → (r : ℕ) → Own w X G r → Own w X' G' r
own_kept o X X' G G' L w differ r h =
    let was = L.unseen r h.filled (λ e. differ (sym h.mine ∙ e)) h.unseen in
    record { filled = L.filled r h.filled; unseen = was.0; mine = L.owner r h.filled.used ∙ h.mine; open' = was.1 ∙ h.open' }

-- line 102
pub fill102 : (w : ℕ) (X : View) (G : Ghost) (H : Holds X G) (r : ℕ) (f : Filling) (F : Fills X G r f) → G.owner r ≡ w → Gives w X (w_record X r undecided f) G (λ G'. Own w (w_record X r undecided f) G' r)
fill102 w X G H r f F mine = record {
  after = g_filled G r;
  holds = fill_holds X G H r f F;
  rely = rely_fill w X G H r f F mine;
  trees = inl (record { fixed = λ n u. refl; kid = λ e n u. refl });
  knows = record {
    filled = record { used = F.used; some = rw (change_same X.filling r f) (omega (arith, F.lists.two)) };
    unseen = (H.blank r (λ g. (let z = F.empty in omega (arith, g.some)))).2;
    mine = mine;
    open' = change_same X.state r undecided;
  };
}

-- lines 103 and 104: it is seen from now on
module _ (w : ℕ) (X : View) (G : Ghost) (H : Holds X G) (r : ℕ) (h : Own w X G r) where
  R : RecordHolds X G r (X.filling r)
  R = H.records r h.filled

  first_in : InList (X.filling r) 1
  first_in = record { low = omega arith; high = omega (arith, R.lists.two) }

  live : Live X r
  live = let e = h.open' in omega arith

  pub freeze103 : (m : ℕ) → X.update (node_of (X.filling r) 1) ≡ old_of (X.filling r) 1 → Gives w X (w_update X (node_of (X.filling r) 1) (update m (record_no r))) G (λ G'. Helps (w_update X (node_of (X.filling r) 1) (update m (record_no r))) G' r 0 Counter111)
  freeze103 m hit =
      let alive : Lost X G r (X.filling r) → ⊥ = not_lost X G r 1 R first_in (λ i a b. absurd (omega arith)) hit in
      record {
        after = g_froze G r (node_of (X.filling r) 1);
        holds = freeze_holds X G H r 1 m h.filled first_in live hit (inl refl);
        rely = rely_freeze w X G H r 1 m h.filled first_in live hit (inl refl) alive (λ _. h.mine);
        trees = inl (record { fixed = λ n u. refl; kid = λ e n u. refl });
        knows = record {
          shown = record { filled = record { used = h.filled.used; some = h.filled.some }; first = rw (change_same G.froze r (change (G.froze r) (node_of (X.filling r) 1) true)) (change_same (G.froze r) (node_of (X.filling r) 1) true) };
          at = tt;
        };
      }
