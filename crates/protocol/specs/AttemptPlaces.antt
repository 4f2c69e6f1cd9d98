-- What an insert, a delete or a find knows at each of its places: only what its later effects need. An attempt may be crooked; then nothing changes.
use Rattle.std.specs.Prelude.{ℕ, ◌≤◌, ◌≡◌, ◌≢◌, Bool, true, not, ltb, leb, Option, None, Some}
use Rattle.shapes.specs.declared.NodeNo.{NodeNo}
use Rattle.shapes.specs.declared.Key.{Key}
use Rattle.shapes.specs.declared.Locals.{Locals}
use Rattle.shapes.specs.declared.Update.{Update}
use Rattle.shapes.specs.declared.Kind.{Kind}
use Rattle.shapes.specs.declared.Kind.TheVariants as kind
use Rattle.shapes.specs.declared.Link.{Link}
use Rattle.shapes.specs.declared.Link.TheVariants.{Leaf64, Parent65, Sibling183, Left187, Right188}
use Rattle.shapes.specs.declared.LinkStep.{LinkStep}
use Rattle.shapes.specs.declared.LinkStep.TheVariants.{Word52, State53, Child57}
use Rattle.shapes.specs.declared.HelpStep.{HelpStep}
use Rattle.shapes.specs.declared.Back.{Back}
use Rattle.shapes.specs.declared.Back.TheVariants as back
use Rattle.shapes.specs.declared.Place.{Place}
use Rattle.shapes.specs.declared.Place.TheVariants as place
use Rattle.shapes.specs.declared.Next.{Next}
use Rattle.shapes.specs.declared.Next.TheVariants as next
use Rattle.tables.specs.Names.{value}
use Rattle.steps.specs.Validate.{link_parent}
use Rattle.views.specs.View.{View}
use Rattle.protocol.specs.Ghost.{Ghost, Seen, Final}
use Rattle.protocol.specs.Knowledge.{Settled, Watched}
use Rattle.protocol.specs.OwnRecord.{Own}
use Rattle.protocol.specs.Inserting.{Inserting}
use Rattle.protocol.specs.Deleting.{Four, Deleting, Siblings}
use Rattle.protocol.specs.Searching.{Searching, Landed}
use Rattle.protocol.specs.Validating.{Validates}
use Rattle.protocol.specs.Helper.{Helps}
use Rattle.protocol.specs.Trees.{Linked}

-- ---- sides, as the view sees them

-- line 39: k less than p's key
abbrev pub searched : View → Key → ℕ → Bool
searched X k p = ltb k.0 (value (X.fixed p).rank)

-- lines 182 and 183: l's key no less than p's
abbrev pub opposite : View → ℕ → ℕ → Bool
opposite X p l = leb (value (X.fixed p).rank) (value (X.fixed l).rank)

-- ---- VALIDATELEAF

-- at leaf l, on the side of p that k is searched on
abbrev pub OnLeaf : View → Ghost → Key → Locals → Type 0
OnLeaf X G k v = Landed X G v.seq.0 v.gp v.p.0 v.l.0 (not (searched X k v.p.0))

-- line 65: the link to l held
pub record LeafHeld (X : View) (G : Ghost) (k : Key) (v : Locals) : Type 0 where
  pub landed : OnLeaf X G k v
  pub pup : Settled X G v.p.0 v.pup

-- line 66: so did the link to p, where it was looked at
pub record LinksHeld (X : View) (G : Ghost) (k : Key) (v : Locals) : Type 0 where
  pub leaf : LeafHeld X G k v
  pub gpup : (g : NodeNo) → v.gp ≡ Some g → v.p.0 ≢ 0 → Settled X G g.0 v.gpup

-- VALIDATELINK of a parent that may be absent: then it does not come past line 52
abbrev pub ValidatesMaybe : View → Ghost → Option NodeNo → Update → LinkStep → Type 0
ValidatesMaybe X G None up Word52 = Unit {0}
ValidatesMaybe X G None up State53 = ⊥
ValidatesMaybe X G None up Child57 = ⊥
ValidatesMaybe X G (Some x) up b = Validates X G x.0 up b

-- ---- DELETE

-- gp is there
pub record Under (gp : Option NodeNo) (Q : NodeNo → Type 0) : Type 0 where
  pub grand : NodeNo
  pub is : gp ≡ Some grand
  pub knows : Q grand

-- line 182: the leaf has the key, so the sibling stands opposite
pub record Siblingless (X : View) (G : Ghost) (v : Locals) (g : NodeNo) : Type 0 where
  pub landed : Landed X G v.seq.0 (Some g) v.p.0 v.l.0 (opposite X v.p.0 v.l.0)
  pub pup : Settled X G v.p.0 v.pup
  pub gpup : Settled X G g.0 v.gpup

-- line 183: the sibling was read
pub record Paired (X : View) (G : Ghost) (v : Locals) (g : NodeNo) : Type 0 where
  pub before : Siblingless X G v g
  pub four : Four g.0 v.p.0 v.l.0 v.sibling.0
  pub linked : Linked G v.sibling.0
  pub low : (X.fixed v.sibling.0).phase ≤ v.seq.0

-- line 188: the left child of the sibling is the copy's
pub record LeftCopied (X : View) (G : Ghost) (v : Locals) : Type 0 where
  pub sup : Settled X G v.sibling.0 v.sup
  pub left : Watched X v.sibling.0 v.sup true (X.kid true v.made.0)

-- line 189: the sibling is a leaf
pub record LeafSibling (w : ℕ) (X : View) (G : Ghost) (v : Locals) (g : NodeNo) : Type 0 where
  pub deleting : Deleting w X G v g.0
  pub leaf : (X.fixed v.sibling.0).kind ≢ 1

-- line 190: its word was read
pub record SiblingRead (w : ℕ) (X : View) (G : Ghost) (v : Locals) (g : NodeNo) : Type 0 where
  pub deleting : Deleting w X G v g.0
  pub siblings : Siblings X G v

-- ---- EXECUTE

-- line 97: l's own word was read
pub record InsertTests (w : ℕ) (X : View) (G : Ghost) (v : Locals) : Type 0 where
  pub inserting : Inserting w X G v
  pub lup : Seen X G v.l.0 v.lup

-- at the fourth word the third has been tested
pub record DeleteTests (w : ℕ) (X : View) (G : Ghost) (v : Locals) (g : NodeNo) : Type 0 where
  pub read : SiblingRead w X G v g
  pub lup : Seen X G v.l.0 v.lup
  pub tested : 4 ≤ v.i → Final X v.lup

-- ---- place by place

-- the places that only an insert, or only a delete, comes to
abbrev pub OfInsert : Kind → Type 0 → Type 0
OfInsert kind.Insert A = A
OfInsert kind.Delete A = ⊥
OfInsert kind.Find A = ⊥

abbrev pub OfDelete : Kind → Type 0 → Type 0
OfDelete kind.Insert A = ⊥
OfDelete kind.Delete A = A
OfDelete kind.Find A = ⊥

abbrev pub Tests : (w : ℕ) → View → Ghost → Kind → Locals → Type 0
Tests w X G kind.Insert v = InsertTests w X G v
Tests w X G kind.Delete v = Under v.gp (DeleteTests w X G v)
Tests w X G kind.Find v = ⊥

-- VALIDATELINK, whatever its step
abbrev pub LinkBase : (w : ℕ) → View → Ghost → Kind → Key → Locals → Link → Type 0
LinkBase w X G o k v Leaf64 = OnLeaf X G k v
LinkBase w X G o k v Parent65 = LeafHeld X G k v
LinkBase w X G o k v Sibling183 = OfDelete o (Under v.gp (Paired X G v))
LinkBase w X G o k v Left187 = OfDelete o (Under v.gp (λ g. Deleting w X G v g.0))
LinkBase w X G o k v Right188 = OfDelete o (Under v.gp (λ g. Deleting w X G v g.0 × LeftCopied X G v))

-- and with it the parent's word
abbrev pub LinkKnows : (w : ℕ) → View → Ghost → Kind → Key → Locals → Link → LinkStep → Type 0
LinkKnows w X G o k v a b = LinkBase w X G o k v a × ValidatesMaybe X G (link_parent v a) v.up b

-- HELP of a scan is none of an attempt's
abbrev pub HelpKnows : View → Ghost → Locals → HelpStep → Back → Type 0
HelpKnows X G v b back.Own = Helps X G v.info.0 v.i b
HelpKnows X G v b back.Again = Helps X G v.info.0 v.i b
HelpKnows X G v b back.Node = ⊥

abbrev pub AttemptKnows : (w : ℕ) → View → Ghost → Kind → Key → Locals → Place → Type 0
AttemptKnows w X G o k v place.Counter74 = Unit {0}
AttemptKnows w X G o k v place.Search39 = Searching X G v.seq.0 v.gp v.p.0
AttemptKnows w X G o k v (place.Link a b) = LinkKnows w X G o k v a b
AttemptKnows w X G o k v place.Word66 = LinksHeld X G k v
AttemptKnows w X G o k v place.Grand66 = LinksHeld X G k v
AttemptKnows w X G o k v place.Leaf164 = OfInsert o (Inserting w X G v)
AttemptKnows w X G o k v place.Sibling182 = OfDelete o (Under v.gp (Siblingless X G v))
AttemptKnows w X G o k v place.CopyLeft = OfDelete o (Under v.gp (λ g. Deleting w X G v g.0))
AttemptKnows w X G o k v place.CopyRight = OfDelete o (Under v.gp (λ g. Deleting w X G v g.0))
AttemptKnows w X G o k v place.Word189 = OfDelete o (Under v.gp (LeafSibling w X G v))
AttemptKnows w X G o k v place.Leaf190 = OfDelete o (Under v.gp (SiblingRead w X G v))
AttemptKnows w X G o k v place.Frozen97 = Tests w X G o v
AttemptKnows w X G o k v place.State98 = Tests w X G o v
AttemptKnows w X G o k v place.Freeze103 = Own w X G v.info.0
AttemptKnows w X G o k v (place.Help b c) = HelpKnows X G v b c
AttemptKnows w X G o k v place.Counter130 = ⊥
AttemptKnows w X G o k v place.Bump131 = ⊥
AttemptKnows w X G o k v place.Word139 = ⊥
AttemptKnows w X G o k v place.State140 = ⊥
AttemptKnows w X G o k v place.Child141 = ⊥
AttemptKnows w X G o k v place.Left144 = ⊥

-- after an answer the worker is idle, and knows nothing
abbrev pub NextKnows : (w : ℕ) → View → Ghost → Kind → Key → Locals → Next → Type 0
NextKnows w X G o k v (next.At q) = AttemptKnows w X G o k v q
NextKnows w X G o k v (next.Answers a) = Unit {0}
