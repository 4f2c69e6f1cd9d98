-- Nodes and a record taken, and a child read into a copy: nobody else sees them yet.
use Rattle.std.specs.Prelude.{ℕ, suc, ◌≤◌, ◌<◌, ◌≡◌, refl, ◌≢◌, Bool, true, false, ltb}
use Rattle.std.proofs.Common.{sym, ap, ◌∙◌, subst, inl, true≢false, arith, lt-ltb, le-ltb}
use Rattle.laws.specs.Choice.{pick, pick_true, pick_false}
use Rattle.laws.specs.Changed.{change, change_same, change_other, change_on}
use Rattle.tables.specs.Records.{aborted}
use Rattle.views.specs.View.{View, w_kid}
use Rattle.protocol.specs.Ghost.{Ghost, Filled}
use Rattle.protocol.specs.Invariant.{Holds}
use Rattle.protocol.specs.Link.{kid_other}
use Rattle.protocol.specs.Frame.{Agrees, frame_holds}
use Rattle.protocol.specs.RelyMore.{rely_aside}
use Rattle.protocol.specs.Knowledge.{Taken, Made}
use Rattle.protocol.specs.HelpTurns.{Gives}

-- what was used stays; behind it nodes with the dummy in their words, and one record, unfilled
pub record Takes (X X' : View) : Type 0 where
  pub fixed : (v : ℕ) → v < X.nodes → X'.fixed v ≡ X.fixed v
  pub kid : (v : ℕ) → v < X.nodes → (s : Bool) → X'.kid s v ≡ X.kid s v
  pub update : (v : ℕ) → v < X.nodes → X'.update v ≡ X.update v
  pub state : (r : ℕ) → r < X.records → X'.state r ≡ X.state r
  pub filling : (r : ℕ) → r < X.records → X'.filling r ≡ X.filling r
  pub nodes : X.nodes ≤ X'.nodes
  pub records : X'.records ≡ suc X.records
  pub words : (v : ℕ) → X.nodes ≤ v → v < X'.nodes → (X'.update v).info.0 ≡ 0
  pub empty : (X'.filling X.records).count ≡ 0
  pub aborted' : X'.state X.records ≡ aborted

-- w takes them
abbrev pub g_taken : ℕ → View → Ghost → Ghost
g_taken w X G = record { stamp = G.stamp; next = G.next; froze = G.froze; tried = G.tried; linked = G.linked; maker = λ v. pick (ltb v X.nodes) (G.maker v) X.records; owner = change G.owner X.records w }

module _ (w : ℕ) (X X' : View) (G : Ghost) (H : Holds X G) (T : Takes X X') where
  new_record_lem : (r : ℕ) → X.records ≤ r → r < X'.records → r ≡ X.records
  new_record_lem r a b = let e = T.records in omega arith

  maker_same : (v : ℕ) → v < X.nodes → (g_taken w X G).maker v ≡ G.maker v
  maker_same v l = pick_true _ _ _ (lt-ltb _ _ l)

  agrees : Agrees X X' G (g_taken w X G) (λ v. v < X.nodes)
  agrees = record {
    fixed = T.fixed;
    kid = T.kid;
    update = T.update;
    state = T.state;
    filling = T.filling;
    nodes = T.nodes;
    records = let e = T.records in omega arith;
    new_words = T.words;
    new_records = λ r a b. let e : r ≡ X.records = new_record_lem r a b in rw e (T.empty, T.aborted');
    stamp = refl;
    next = refl;
    froze = refl;
    tried = refl;
    linked = refl;
    maker = maker_same;
    of_linked = H.used;
    of_record = λ r v f m l. l;
  }

  pub takes : Gives w X X' G (λ G'. Taken w X' G' X.records × ((n : ℕ) → X.nodes ≤ n → n < X'.nodes → Made X' G' X.records n))
  takes = record {
    after = g_taken w X G;
    holds = frame_holds X X' G (g_taken w X G) (λ v. v < X.nodes) H agrees;
    rely = rely_aside w X X' G (g_taken w X G) (λ v. v < X.nodes) H agrees (record {
      fixed = T.fixed;
      maker = maker_same;
      owner = λ r l. change_other G.owner X.records w r (λ e. omega arith);
      kids = λ v l _ _ _. T.kid v l;
    });
    trees = inl (record { fixed = λ n u. T.fixed n (H.used n u); kid = λ s n u. T.kid n (H.used n u) s });
    knows = (
      record { used = let e = T.records in omega arith; other = λ e. let z = H.dummy.0 in omega arith; mine = change_same G.owner X.records w; empty = T.empty },
      λ n a b. record { used = b; fresh = unlinked n a (G.linked n) refl; maker = pick_false _ _ _ (le-ltb _ _ a) },
    );
  }
    where
      unlinked : (n : ℕ) → X.nodes ≤ n → (b : Bool) → G.linked n ≡ b → G.linked n ≡ false
      unlinked n a true e = let z : n < X.nodes = H.used n e in absurd (omega arith)
      unlinked n a false e = e

-- line 185: a child of the copy
module _ (w : ℕ) (X : View) (G : Ghost) (H : Holds X G) (r x : ℕ) (t : Taken w X G r) (m : Made X G r x) (left : Bool) (c : ℕ) where
  unfilled : Filled X r → ⊥
  unfilled f = let z = t.empty in omega (arith, f.some)

  other_kid : (v : ℕ) → v ≢ x → (s : Bool) → change_on X.kid left x c s v ≡ X.kid s v
  other_kid v ne s = kid_other X.kid left x c s v ne

  linked_other : (v : ℕ) → G.linked v ≡ true → v ≢ x
  linked_other v l e = true≢false (sym l ∙ ap G.linked e ∙ m.fresh)

  copy_agrees : Agrees X (w_kid X left x c) G G (λ v. v ≢ x)
  copy_agrees = record {
    fixed = λ v _. refl;
    kid = other_kid;
    update = λ v _. refl;
    state = λ q _. refl;
    filling = λ q _. refl;
    nodes = omega arith;
    records = omega arith;
    new_words = λ v a b. absurd (omega arith);
    new_records = λ q a b. absurd (omega arith);
    stamp = refl;
    next = refl;
    froze = refl;
    tried = refl;
    linked = refl;
    maker = λ v _. refl;
    of_linked = linked_other;
    of_record = λ q v f k l e. unfilled (subst (Filled X) (sym k ∙ ap G.maker e ∙ m.maker) f);
  }

  pub copies : Gives w X (w_kid X left x c) G (λ G'. Taken w (w_kid X left x c) G' r × Made (w_kid X left x c) G' r x)
  copies = record {
    after = G;
    holds = frame_holds X (w_kid X left x c) G G (λ v. v ≢ x) H copy_agrees;
    rely = rely_aside w X (w_kid X left x c) G G (λ v. v ≢ x) H copy_agrees (record {
      fixed = λ v _. refl;
      maker = λ v _. refl;
      owner = λ q _. refl;
      kids = λ v l _ _ o. other_kid v (λ e. o (ap (λ n. G.owner (G.maker n)) e ∙ ap G.owner m.maker ∙ t.mine));
    });
    trees = inl (record { fixed = λ n u. refl; kid = λ s n u. other_kid n (linked_other n u) s });
    knows = (record { used = t.used; other = t.other; mine = t.mine; empty = t.empty }, record { used = m.used; fresh = m.fresh; maker = m.maker });
  }
