-- Fresh tables: what the workers share holds of them, with the three nodes linked and no record filled.
use Rattle.std.specs.Prelude.{ℕ, ◌<◌, ◌≡◌, Bool, ltb}
use Rattle.std.proofs.Math.Path.{refl}
use Rattle.std.proofs.Common.{ap, inl}
use Rattle.std.proofs.Math.Bool.{true, false}
use native.Mathlib.Omega.{arith}
use borrow.Author.Tests.{ltb-true, lt-ltb}
use Rattle.shapes.specs.declared.Filling.{Filling}
use Rattle.tables.specs.Names.{record_no}
use Rattle.tables.specs.RecordWrites.{filling_at}
use Rattle.tables.specs.World.{Tables}
use Rattle.sound.specs.Meaning.{TablesSound}
use Rattle.views.specs.View.{view}
use Rattle.protocol.specs.Ghost.{Ghost, Filled}
use Rattle.protocol.specs.Invariant.{Holds}

-- all used nodes are linked; nothing was filled, frozen or tried
unfoldable pub no_ghost : ℕ → Ghost
no_ghost used = record { stamp = λ r. 0; next = 1; froze = λ r v. false; tried = λ r. false; linked = λ n. ltb n used; maker = λ n. 0; owner = λ r. 0 }

-- sound tables in which the dummy is the only record
module _ (s : Tables) (h : TablesSound s) (only : s.totals.records ≡ 1) where
  no_count : (r : ℕ) → r < s.totals.records → (filling_at s.records (record_no r)).count ≡ 0
  no_count r l = let zero : r ≡ 0 = omega arith in rw zero (ap (λ (f : Filling). f.count) h.dummy-row)

  none_filled : (r : ℕ) → Filled (view s) r → ⊥
  unfolding view
  none_filled r f = let e : (filling_at s.records (record_no r)).count ≡ 0 = no_count r f.used in let some : 0 < (filling_at s.records (record_no r)).count = f.some in omega arith

  -- a sound update word names the dummy
  word-dummy : (v : ℕ) → v < s.totals.nodes → ((view s).update v).info.0 ≡ 0
  unfolding view
  word-dummy v l = omega (arith, (h.nodes v l).update.info)

  kid_used : (v : ℕ) → v < s.totals.nodes → ((view s).fixed v).kind ≡ 1 → (side : Bool) → (view s).kid side v < s.totals.nodes
  unfolding view
  kid_used v l e true = ((h.nodes v l).parents e).0
  kid_used v l e false = ((h.nodes v l).parents e).1

  pub fresh_holds : Holds (view s) (no_ghost s.totals.nodes)
  unfolding view no_ghost
  fresh_holds = record {
    records = λ r f. absurd (none_filled r f);
    unfilled = λ r l c. let zero : r ≡ 0 = omega arith in rw zero h.dummy_state;
    blank = λ r n. (refl, refl, λ v. refl);
    dummy = (omega arith, no_count 0 (omega arith));
    stamps = λ r. omega arith;
    words = λ v l. (inl (word-dummy v l), λ ne. absurd (ne (word-dummy v l)));
    used = λ v l. ltb-true _ _ l;
    kids = λ v l e side. lt-ltb _ _ (kid_used v (ltb-true _ _ l) e side);
    prevs = λ v x l e. lt-ltb x s.totals.nodes (let below : v < s.totals.nodes = ltb-true _ _ l in let small : x < v = rw e at (h.nodes v below).prev in omega arith);
  }
