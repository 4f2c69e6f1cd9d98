-- A shape grown out of another: of its numbers and of new ones, no number twice. What grows in one part only grows as a whole.
use Rattle.std.specs.Prelude.{refl, ◌⊎◌, ℕ}
use Rattle.std.proofs.Common.{inl, inr}
use Rattle.trees.specs.Shape.{Shape, both, node, In, Apart, Once, Free}

-- Tree says what the grown shape is of: a tree of some version, what is ahead of a scan, ..
pub record Grown (Tree : Shape → Type 0) (New : ℕ → Type 0) (s : Shape) : Type 0 where
  pub to : Shape
  pub tree : Tree to
  pub once : Once to
  pub from : (n : ℕ) → In n to → In n s ⊎ New n

pub unchanged : {A : Shape → Type 0} {New : ℕ → Type 0} {s : Shape} → A s → Once s → Grown A New s
unchanged {s = s} a o = record { to = s; tree = a; once = o; from = λ n j. inl j }

pub grown_as : {A B : Shape → Type 0} {M N : ℕ → Type 0} {s : Shape} → ((t : Shape) → A t → B t) → ((n : ℕ) → M n → N n) → Grown A M s → Grown B N s
grown_as f g x = record { to = x.to; tree = f x.to x.tree; once = x.once; from = λ n j. elim (x.from n j) [ inl a ↦ inl a | inr b ↦ inr (g n b) ] }

pub grown_within : {A : Shape → Type 0} {New : ℕ → Type 0} {r s : Shape} → ((n : ℕ) → In n r → In n s) → Grown A New r → Grown A New s
grown_within sub x = record { to = x.to; tree = x.tree; once = x.once; from = λ n j. elim (x.from n j) [ inl a ↦ inl (sub n a) | inr b ↦ inr b ] }

-- new numbers come into s only if P, into t only if Q, and never into both
module _ {A B : Shape → Type 0} {New : ℕ → Type 0} {P Q : Type 0} {s t : Shape} (never : P → Q → ⊥) (x : Grown A (λ n. New n × P) s) (y : Grown B (λ n. New n × Q) t) where
  pub apart_grown : Apart s t → Free New (both s t) → Apart x.to y.to
  apart_grown apart free n j k = meet (x.from n j) (y.from n k)
    where
      meet : In n s ⊎ (New n × P) → In n t ⊎ (New n × Q) → ⊥
      meet (inl a) (inl b) = apart n a b
      meet (inl a) (inr b) = free n b.0 (inl a)
      meet (inr a) (inl b) = free n a.0 (inr b)
      meet (inr a) (inr b) = never a.1 b.1

  pub from_grown : (n : ℕ) → In n (both x.to y.to) → In n (both s t) ⊎ (New n × (P ⊎ Q))
  from_grown n (inl j) = elim (x.from n j) [ inl a ↦ inl (inl a) | inr b ↦ inr (b.0, inl b.1) ]
  from_grown n (inr j) = elim (y.from n j) [ inl a ↦ inl (inr a) | inr b ↦ inr (b.0, inr b.1) ]

  pub node_grown : {C : Shape → Type 0} {v : ℕ} → Once (node v s t) → Free New (node v s t) → (A x.to → B y.to → C (node v x.to y.to)) → Grown C (λ n. New n × (P ⊎ Q)) (node v s t)
  node_grown {v} o free f = record {
    to = node v x.to y.to;
    tree = f x.tree y.tree;
    once = (x.once, y.once, apart_grown o.2 (λ n e j. free n e (inr j)), λ j. out (from_grown v (inl j)), λ j. out (from_grown v (inr j)));
    from = λ n. elim [ inl e ↦ inl (inl e) | inr j ↦ elim (from_grown n j) [ inl a ↦ inl (inr a) | inr b ↦ inr b ] ];
  }
    where
      out : In v (both s t) ⊎ (New v × (P ⊎ Q)) → ⊥
      out (inl (inl j)) = o.3 j
      out (inl (inr j)) = o.4 j
      out (inr b) = free v b.0 (inl refl)
