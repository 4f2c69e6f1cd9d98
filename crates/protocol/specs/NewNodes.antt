-- Views with new nodes: an insert's three and a delete's copy, each with a record, are takings.
use Rattle.std.specs.Prelude.{ℕ, ◌+◌, ◌≤◌, ◌<◌, ◌≡◌, refl, ◌≢◌, Bool, true, false}
use Rattle.std.proofs.Common.{ap, ◌∙◌, true≢false, arith}
use Rattle.laws.specs.Changed.{change_same, change_other, change_on, change_on_same, change_on_other}
use Rattle.tables.specs.Names.{fresh_word}
use Rattle.tables.specs.NodeWrites.{Fixed}
use Rattle.tables.specs.Records.{aborted, unfilled}
use Rattle.views.specs.View.{View, w_node, w_record, w_used}
use Rattle.protocol.specs.Link.{kid_other}
use Rattle.protocol.specs.Taking.{Takes}

-- ---- one new node

module _ (X : View) (x : ℕ) (f : Fixed) (a b : ℕ) where
  pub kid_left : (w_node X x f a b).kid true x ≡ a
  kid_left = change_on_other (change_on X.kid true x a) false x b true x (λ e _. true≢false e) ∙ change_on_same X.kid true x a

  pub kid_right : (w_node X x f a b).kid false x ≡ b
  kid_right = change_on_same (change_on X.kid true x a) false x b

  pub kid_elsewhere : (v : ℕ) → v ≢ x → (s : Bool) → (w_node X x f a b).kid s v ≡ X.kid s v
  kid_elsewhere v ne s = kid_other (change_on X.kid true x a) false x b s v ne ∙ kid_other X.kid true x a s v ne

-- ---- what is used stays behind any number of new nodes

pub record Behind (X Y : View) : Type 0 where
  pub fixed : (v : ℕ) → v < X.nodes → Y.fixed v ≡ X.fixed v
  pub kid : (v : ℕ) → v < X.nodes → (s : Bool) → Y.kid s v ≡ X.kid s v
  pub update : (v : ℕ) → v < X.nodes → Y.update v ≡ X.update v
  pub rest : (Y.state ≡ X.state) × (Y.filling ≡ X.filling)

pub behind_none : (X : View) → Behind X X
behind_none X = record { fixed = λ v _. refl; kid = λ v _ s. refl; update = λ v _. refl; rest = (refl, refl) }

pub behind-one : (X Y : View) → Behind X Y → (x : ℕ) (f : Fixed) (a b : ℕ) → X.nodes ≤ x → Behind X (w_node Y x f a b)
behind-one X Y B x f a b l = record {
  fixed = λ v k. change_other Y.fixed x f v (λ e. omega arith) ∙ B.fixed v k;
  kid = λ v k s. kid_elsewhere Y x f a b v (λ e. omega arith) s ∙ B.kid v k s;
  update = λ v k. change_other Y.update x fresh_word v (λ e. omega arith) ∙ B.update v k;
  rest = B.rest;
}

-- with a record more, and so many nodes whose words name the dummy
abbrev pub w_taken : View → View → ℕ → View
w_taken X Y k = w_used (w_record Y X.records aborted unfilled) (X.nodes + k) (X.records + 1)

pub behind-takes : (X Y : View) (k : ℕ) → Behind X Y → ((v : ℕ) → X.nodes ≤ v → v < X.nodes + k → (Y.update v).info.0 ≡ 0) → Takes X (w_taken X Y k)
behind-takes X Y k B words = record {
  fixed = B.fixed;
  kid = B.kid;
  update = B.update;
  state = λ r l. change_other Y.state X.records aborted r (λ e. omega arith) ∙ ap (λ h. h r) B.rest.0;
  filling = λ r l. change_other Y.filling X.records unfilled r (λ e. omega arith) ∙ ap (λ h. h r) B.rest.1;
  nodes = omega arith;
  records = omega arith;
  words = words;
  empty = rw (change_same Y.filling X.records unfilled) refl;
  aborted' = change_same Y.state X.records aborted;
}
