-- Sums over the records of entries, as a record comes, changes or goes.
use Rattle.std.proofs.Common.{◌≡◌, ℕ, ◌+◌, ◌≤◌, true, false, Option, Some, None, if◌then◌else◌, refl, arith}
use Rattle.ptl_types.specs.declared.handles.Handle.{Handle}
use Rattle.ni_model.specs.Tables.{Table, lookup, changed, without}
use Rattle.ni_objects.specs.users.Sums.{sum_of, named_as}
use Rattle.ni_objects.proofs.users.SumLemmas.{but_of, but-le, sum-without, named-changed, sum-changed}
use Rattle.target_engine.specs.declared.entry_records.EntryRecord.{EntryRecord}
use Rattle.target_engine.specs.PortalTable.{idle_as, is_idle, recorded_anew, changed_by, recorded_by}

-- ---- a record is put in the place of the old one, and goes where nothing needs it

pub sum-anew : (me : Handle) (f : Handle → EntryRecord → ℕ) (t : Table EntryRecord) (w v : EntryRecord) →
    sum_of (named_as me) t.live ≤ 1 → lookup me t.live ≡ Some w → (is_idle v ≡ true → f me v ≡ 0) →
    sum_of f (recorded_anew me v t).live ≡ sum_of (but_of me f) t.live + f me v
sum-anew me f t w v one at zero =
    elim (is_idle v) as (λ b. is_idle v ≡ b → sum_of f (if b then without me t else changed me (λ _. v) t).live ≡ sum_of (but_of me f)
    t.live + f me v) [
      | true ↦ λ e. omega (arith, sum-without me f t.live, zero e)
      | false ↦ λ e. sum-changed me f (λ _. v) t.live w one at
    ] refl

pub named-anew : (h me : Handle) (v : EntryRecord) (t : Table EntryRecord) → sum_of (named_as h) (recorded_anew me v t).live ≤ sum_of
    (named_as h) t.live
named-anew h me v t =
    elim (is_idle v) as (λ b. sum_of (named_as h) (if b then without me t else changed me (λ _. v) t).live ≤ sum_of (named_as h) t.live) [
      | true ↦ omega (arith, sum-without me (named_as h) t.live, but-le me (named_as h) t.live)
      | false ↦ omega (arith, named-changed h me (λ _. v) t.live)
    ]

pub busy-anew : (me : Handle) (t : Table EntryRecord) (w v : EntryRecord) → sum_of (named_as me) t.live ≤ 1 → lookup me t.live ≡ Some w →
    sum_of idle_as t.live ≡ 0 → sum_of idle_as (recorded_anew me v t).live ≡ 0
busy-anew me t w v one at busy =
    elim (is_idle v) as (λ b. is_idle v ≡ b → sum_of idle_as (if b then without me t else changed me (λ _. v) t).live ≡ 0) [
      | true ↦ λ e. omega (arith, sum-without me idle_as t.live, but-le me idle_as t.live)
      | false ↦ λ e.
          let z : idle_as me v ≡ 0 = rw e refl in
          omega (arith, sum-changed me idle_as (λ _. v) t.live w one at, but-le me idle_as t.live, z)
    ] refl

given-anew : (me : Handle) (v : EntryRecord) (t : Table EntryRecord) → (recorded_anew me v t).given ≡ t.given
given-anew me v t = elim (is_idle v) as (λ b. (if b then without me t else changed me (λ _. v) t).given ≡ t.given)
    [ true ↦ refl | false ↦ refl ]

limit-anew : (me : Handle) (v : EntryRecord) (t : Table EntryRecord) → (recorded_anew me v t).limit ≡ t.limit
limit-anew me v t = elim (is_idle v) as (λ b. (if b then without me t else changed me (λ _. v) t).limit ≡ t.limit)
    [ true ↦ refl | false ↦ refl ]

given-changed : (me : Handle) (f : EntryRecord → EntryRecord) (o : Option EntryRecord) (t : Table EntryRecord) →
    (changed_by me f o t).given ≡ t.given
given-changed me f None t = refl
given-changed me f (Some v) t = given-anew me (f v) t

limit-changed : (me : Handle) (f : EntryRecord → EntryRecord) (o : Option EntryRecord) (t : Table EntryRecord) →
    (changed_by me f o t).limit ≡ t.limit
limit-changed me f None t = refl
limit-changed me f (Some v) t = limit-anew me (f v) t

pub given-by : (me : Handle) (f : EntryRecord → EntryRecord) (t : Table EntryRecord) → (recorded_by me f t).given ≡ t.given
given-by me f t = given-changed me f (lookup me t.live) t

pub limit-by : (me : Handle) (f : EntryRecord → EntryRecord) (t : Table EntryRecord) → (recorded_by me f t).limit ≡ t.limit
limit-by me f t = limit-changed me f (lookup me t.live) t
