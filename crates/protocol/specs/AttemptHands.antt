-- What an update knows does not hang on the words that it has still to read, nor on its place in the list.
use Rattle.std.specs.Prelude.{ℕ}
use Rattle.shapes.specs.declared.NodeNo.{NodeNo}
use Rattle.shapes.specs.declared.Locals.{Locals}
use Rattle.shapes.specs.declared.Update.{Update}
use Rattle.views.specs.View.{View}
use Rattle.protocol.specs.Ghost.{Ghost}
use Rattle.protocol.specs.Inserting.{Inserting}
use Rattle.protocol.specs.Deleting.{Deleting, Siblings}
use Rattle.protocol.specs.AttemptPlaces.{Paired, LeftCopied, SiblingRead}

-- other words of l, of the sibling and of VALIDATELINK, and another place in the list
abbrev pub with_words : Locals → Update → Update → Update → ℕ → Locals
with_words v lup sup up i = record { seq = v.seq; gp = v.gp; p = v.p; l = v.l; gpup = v.gpup; pup = v.pup; lup = lup; sup = sup; up = up; sibling = v.sibling; made = v.made; info = v.info; i = i }

module _ (w : ℕ) (X : View) (G : Ghost) (v : Locals) (lup up : Update) (i : ℕ) where
  pub inserting_words : Inserting w X G v → Inserting w X G (with_words v lup v.sup up i)
  inserting_words a = record { taken = a.taken; plants = a.plants; p_linked = a.p_linked; l_linked = a.l_linked; inner = a.inner; leaf = a.leaf; phase = a.phase; pup = a.pup }

  pub deleting_words : (sup : Update) (g : ℕ) → Deleting w X G v g → Deleting w X G (with_words v lup sup up i) g
  deleting_words sup g d = record { taken = d.taken; made = d.made; copy = d.copy; four = d.four; linked = d.linked; inner = d.inner; phases = d.phases; gpup = d.gpup; pup = d.pup; side = d.side; sibling = d.sibling }

  pub paired_words : (g : NodeNo) → Paired X G v g → Paired X G (with_words v lup v.sup up i) g
  paired_words g a = record { before = record { landed = a.before.landed; pup = a.before.pup; gpup = a.before.gpup }; four = a.four; linked = a.linked; low = a.low }

  pub left_words : LeftCopied X G v → LeftCopied X G (with_words v lup v.sup up i)
  left_words a = record { sup = a.sup; left = a.left }

  pub read_words : (g : NodeNo) → SiblingRead w X G v g → SiblingRead w X G (with_words v lup v.sup up i) g
  read_words g a =
      let b : Siblings X G v = a.siblings in
      record { deleting = deleting_words v.sup g.0 a.deleting; siblings = record { seen = b.seen; final = b.final; copied = b.copied } }
