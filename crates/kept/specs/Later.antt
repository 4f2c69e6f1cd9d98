-- Used counts and Counter never fall, sizes stay: what is sound of a number stays sound.
use Rattle.std.specs.Prelude.{ℕ, ◌≤◌, ◌<◌, ◌≡◌, refl, List, eqb, Option, None, Some}
use Rattle.std.proofs.Common.{ap, ◌∙◌, inl, inr, arith}
use Rattle.shapes.specs.declared.NodeNo.{NodeNo}
use Rattle.shapes.specs.declared.RecordNo.{RecordNo}
use Rattle.shapes.specs.declared.Update.{Update}
use Rattle.shapes.specs.declared.Entry.{Entry}
use Rattle.shapes.specs.declared.Filling.{Filling}
use Rattle.shapes.specs.declared.Totals.{Totals}
use Rattle.shapes.specs.declared.Locals.{Locals}
use Rattle.shapes.specs.declared.Worker.{Worker}
use Rattle.shapes.specs.declared.Place.{Place}
use Rattle.shapes.specs.declared.Place.TheVariants as place
use Rattle.shapes.specs.declared.Operation.TheVariants.{Insert, Delete, Find, Scan}
use Rattle.shapes.specs.declared.Operation.{Operation}
use Rattle.tables.specs.Nodes.{is_internal}
use Rattle.tables.specs.NodeWrites.{Fixed, fixed_at}
use Rattle.tables.specs.Records.{count_at}
use Rattle.tables.specs.World.{Tables}
use Rattle.sound.specs.Meaning.{WordSound, MaybeSound, NodeSound, EntrySound, CountSound, RecordSound, HandSound, Within, ConditionSound, WorkerSound}

pub record Grows (t u : Totals) : Type 0 where
  pub n : u.n ≡ t.n
  pub m : u.m ≡ t.m
  pub p : u.p ≡ t.p
  pub nodes : t.nodes ≤ u.nodes
  pub records : t.records ≤ u.records
  pub counter : t.counter ≤ u.counter

pub grows_same : (t : Totals) → Grows t t
grows_same t = record { n = refl; m = refl; p = refl; nodes = omega arith; records = omega arith; counter = omega arith }

module _ {t u : Totals} (g : Grows t u) where
  pub word-later : {x : Update} → WordSound t x → WordSound u x
  word-later h = record { type = h.type; info = omega (arith, h.info, g.records) }

  pub maybe_later : (x : Option NodeNo) → MaybeSound t x → MaybeSound u x
  maybe_later None h = h
  maybe_later (Some x) h = omega (arith, g.nodes)

  pub node-later : {n : ℕ} {f : Fixed} {left right : NodeNo} {x : Update} → NodeSound t n f left right x → NodeSound u n f left right x
  node-later h = record { kind = h.kind; rank = h.rank; phase = omega (arith, h.phase, g.counter); prev = h.prev; update = word-later h.update; parents = λ e. (omega (arith, (h.parents e).0, g.nodes), omega (arith, (h.parents e).1, g.nodes)); leaves = h.leaves }

  pub entry-later : {e : Entry} → EntrySound t e → EntrySound u e
  entry-later h = record { node = omega (arith, h.node, g.nodes); old = word-later h.old; mark = h.mark }

  pub hand-later : {v : Locals} → HandSound t v → HandSound u v
  hand-later {v} h = record {
    seq = omega (arith, h.seq, g.counter);
    gp = maybe_later v.gp h.gp;
    p = omega (arith, h.p, g.nodes);
    l = omega (arith, h.l, g.nodes);
    gpup = word-later h.gpup;
    pup = word-later h.pup;
    lup = word-later h.lup;
    sup = word-later h.sup;
    up = word-later h.up;
    sibling = omega (arith, h.sibling, g.nodes);
    made = omega (arith, h.made, g.nodes);
    info = omega (arith, h.info, g.records);
  }

-- ---- nodes keep their kind

-- the fixed fields of the first k nodes are those of before
abbrev pub KeepsFixed : ℕ → List ℕ → List ℕ → Type 0
KeepsFixed k ns ms = (y : NodeNo) → y.0 < k → fixed_at ms y ≡ fixed_at ns y

pub internal_fixed : (ns ms : List ℕ) (y : NodeNo) → fixed_at ms y ≡ fixed_at ns y → is_internal ms y ≡ is_internal ns y
unfolding is_internal fixed_at
internal_fixed ns ms y e = ap (λ (f : Fixed). eqb f.kind 1) e

pub count-later : (ns ms : List ℕ) (f : Filling) → is_internal ms f.par ≡ is_internal ns f.par → CountSound ns f → CountSound ms f
count-later ns ms f e (inl h) = inl h
count-later ns ms f e (inr h) = inr (h.0, e ∙ h.1)

pub record_later : {t u : Totals} {ns ms : List ℕ} {f : Filling} {s : ℕ} → Grows t u → KeepsFixed t.nodes ns ms → RecordSound t ns f s → RecordSound u ms f s
record_later {t} {u} {ns} {ms} {f} g k h = record {
  count = count-later ns ms f (internal_fixed ns ms f.par (k f.par h.par)) h.count;
  state = h.state;
  par = omega (arith, h.par, g.nodes);
  old = omega (arith, h.old, g.nodes);
  new = omega (arith, h.new, g.nodes);
  seq = omega (arith, h.seq, g.counter);
  entries = λ i l. entry-later g (h.entries i l);
}

-- ---- a filled record keeps its count

abbrev pub KeepsCounts : ℕ → List ℕ → List ℕ → Type 0
KeepsCounts k rs qs = (r : RecordNo) → r.0 < k → 0 < count_at rs r → count_at qs r ≡ count_at rs r

-- the tables grow
pub record Later (s u : Tables) : Type 0 where
  pub totals : Grows s.totals u.totals
  pub counts : KeepsCounts s.totals.records s.records u.records

module _ (s u : Tables) (g : Later s u) where
  within-later : (k : ℕ) (v : Locals) (n : ℕ) (q : Place) → v.info.0 < s.totals.records → Within s.records k v n q → Within u.records k v n q
  within-later k v n place.Counter74 i h = h
  within-later k v n place.Search39 i h = h
  within-later k v n (place.Link a b) i h = h
  within-later k v n place.Word66 i h = h
  within-later k v n place.Grand66 i h = h
  within-later k v n place.Leaf164 i h = h
  within-later k v n place.Sibling182 i h = h
  within-later k v n place.CopyLeft i h = h
  within-later k v n place.CopyRight i h = h
  within-later k v n place.Word189 i h = h
  within-later k v n place.Leaf190 i h = h
  within-later k v n place.Frozen97 i h = h
  within-later k v n place.State98 i h = h
  within-later k v n place.Freeze103 i h = h
  within-later k v n (place.Help a b) i h = λ e.
      let both : (1 ≤ v.i) × (v.i ≤ count_at s.records v.info) = h e in
      let same : count_at u.records v.info ≡ count_at s.records v.info = g.counts v.info i (omega (arith, both.0, both.1)) in
      (both.0, omega (arith, both.1, same))
  within-later k v n place.Counter130 i h = h
  within-later k v n place.Bump131 i h = h
  within-later k v n place.Word139 i h = h
  within-later k v n place.State140 i h = h
  within-later k v n place.Child141 i h = h
  within-later k v n place.Left144 i h = h

  place_later : (v : Locals) (n : ℕ) (c : Option Operation) → v.info.0 < s.totals.records → ConditionSound s.records v n c → ConditionSound u.records v n c
  place_later v n None i h = h
  place_later v n (Some (Insert k q)) i h = (h.0, within-later _ v n q i h.1)
  place_later v n (Some (Delete k q)) i h = (h.0, within-later _ v n q i h.1)
  place_later v n (Some (Find k q)) i h = (h.0, within-later _ v n q i h.1)
  place_later v n (Some (Scan a b q)) i h = (h.0, within-later _ v n q i h.1)

  -- a worker that took no turn
  pub worker_later : (pending later : ℕ → NodeNo) (k : Worker) → ((i : ℕ) → i < k.pending → later i ≡ pending i) → WorkerSound s.totals s.records pending k → WorkerSound u.totals u.records later k
  worker_later pending later k same h = record {
    most_pending = omega (arith, h.most_pending, g.totals.n);
    most_found = omega (arith, h.most_found, g.totals.n);
    pending_used = λ i l. rw (same i l) (omega (arith, h.pending_used i l, g.totals.nodes));
    hand = hand-later g.totals h.hand;
    place = place_later k.hand k.pending k.operation h.hand.info h.place;
  }
