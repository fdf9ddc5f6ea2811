-- The calls of an interface under renamed handles: tables, counts, descriptors and operations.
use Rattle.std.proofs.Common.{◌≡◌, ℕ, false, List, [], length, filter, Option, Some, None, refl, ap, sym, ◌∙◌, option_map}
use Rattle.ptl_types.specs.declared.handles.Handle.{Handle}
use Rattle.ptl_types.specs.declared.handles.Count.{Count}
use Rattle.ptl_types.specs.declared.entries.Descriptor.{Descriptor}
use Rattle.ptl_types.specs.declared.calls.TriggeredOp.{TriggeredOp}
use Rattle.ni_model.specs.declared.Bound.{Bound}
use Rattle.ni_model.specs.Tables.{Table, changed, handle, lookup, with_new, without}
use Rattle.ni_model.specs.Counts.{plus, successes}
use Rattle.ni_model.specs.Queues.{Waiting, after_take, queue}
use Rattle.ni_model.specs.State.{State, Operations, home_of, with_home}
use Rattle.ni_model.specs.Starts.{Started, started}
use Rattle.ni_model.specs.Ready.{cancelled, waits_on}
use Rattle.ni_model.specs.Refusals.{action_fault, alloc_fault, bind_fault, ct_free_fault, ct_inc_fault, ct_set_fault, eq_free_fault}
use Rattle.ni_model.specs.Refusals.{release_fault, stale_fault, triggered_fault}
use Rattle.ni_model.specs.Calls.{awaits, awaits_of, bound, ct_alloc, ct_cancel, ct_free, ct_get, ct_inc, ct_set, eq_alloc}
use Rattle.ni_model.specs.Calls.{eq_free, eq_get, eq_get_at, found_or_stale, md_bind, md_release, start, triggered, with_bound}
use Rattle.ni_model.specs.Calls.{with_counter, with_operation, write_memory}
use Rattle.slot_laws.specs.Renaming.{IsRenaming, Renaming}
use Rattle.slot_laws.specs.Renamed.{renamed, renamed_action, renamed_bound, renamed_md, renamed_message, renamed_operations, renamed_table}
use Rattle.slot_laws.specs.Renamed.{renamed_things}
use Rattle.slot_laws.proofs.terms.Answered.{renamed_done, renamed_result}
use Rattle.slot_laws.proofs.Base.{changed_renamed, lookup_renamed, with_new_renamed, without_renamed}
use Rattle.slot_laws.proofs.Ending.{ends_by_alike, ends_by_renamed}
use Rattle.slot_laws.proofs.Refusing.{action_fault_renamed, alloc_fault_renamed, bind_fault_renamed, ct_free_fault_renamed}
use Rattle.slot_laws.proofs.Refusing.{ct_inc_fault_renamed, ct_set_fault_renamed, eq_free_fault_renamed, lookup_thing_renamed}
use Rattle.slot_laws.proofs.Refusing.{release_fault_renamed, stale_fault_renamed, triggered_fault_renamed}
use Rattle.slot_laws.proofs.Starting.{started_renamed}
use Rattle.slot_laws.proofs.Firing.{cancelled_renamed, waiting_on_renamed, with_posted_renamed}

-- ---- the region

pub write_memory_renamed : (r : Renaming) (at : ℕ) (bytes : List ℕ) (s : State) →
    write_memory at bytes (renamed r s) ≡ renamed r (write_memory at bytes s)
write_memory_renamed r at bytes s = refl

-- ---- counting events

-- a state with other counting events
pub with_cts_renamed : (r : Renaming) (s : State) (cts : Table Count) {cts' : Table Count} → cts' ≡ renamed_things r.ct cts →
    record (renamed r s) { cts = cts' } ≡ renamed r (record s { cts = cts })
with_cts_renamed r s cts is = rw is refl

pub with_eqs_renamed : (r : Renaming) (s : State) (eqs : Table Waiting) {eqs' : Table Waiting} → eqs' ≡ renamed_things r.eq eqs →
    record (renamed r s) { eqs = eqs' } ≡ renamed r (record s { eqs = eqs })
with_eqs_renamed r s eqs is = rw is refl

pub with_mds_renamed : (r : Renaming) (s : State) (mds : Table Bound) {mds' : Table Bound} →
    mds' ≡ renamed_table (r.md s.rank) (renamed_bound r) mds → record (renamed r s) { mds = mds' } ≡ renamed r (record s { mds = mds })
with_mds_renamed r s mds is = rw is refl

pub with_pending_renamed : (r : Renaming) (s : State) (ops : Operations) {ops' : Operations} →
    ops' ≡ renamed_operations r s.rank ops → record (renamed r s) { pending = ops' } ≡ renamed r (record s { pending = ops })
with_pending_renamed r s ops is = rw is refl

pub ct_alloc_renamed : (r : Renaming) (slot slot' : ℕ) (s : State) → r.ct (handle slot s.cts.given) ≡ handle slot' s.cts.given →
    ct_alloc slot' (renamed r s) ≡ renamed_done r (renamed_result r.ct) (ct_alloc slot s)
ct_alloc_renamed r slot slot' s is =
    ends_by_renamed r r.ct (alloc_fault s.cts) s (with_counter slot s) (handle slot s.cts.given)
    (alloc_fault_renamed r.ct (λ (c : Count). c) s.cts)
    (with_cts_renamed r s (with_new slot (successes 0) s.cts) (with_new_renamed r.ct (λ (c : Count). c) slot slot' (successes 0) s.cts is))
    (sym is)

pub ct_free_renamed : (r : Renaming) → IsRenaming r → (ct : Handle) (s : State) →
    ct_free (r.ct ct) (renamed r s) ≡ renamed_done r (λ x. x) (ct_free ct s)
ct_free_renamed r k ct s =
    ends_by_alike r (ct_free_fault ct s.cts s.indices s.mds s.pending) s (record s { cts = without ct s.cts }) tt
    (ct_free_fault_renamed r k s.rank ct s.cts s.indices s.mds s.pending)
    (with_cts_renamed r s (without ct s.cts) (without_renamed r.ct (λ (c : Count). c) k.ct ct s.cts))
    refl

pub ct_get_renamed : (r : Renaming) → IsRenaming r → (ct : Handle) (s : State) → ct_get (r.ct ct) (renamed r s) ≡ ct_get ct s
ct_get_renamed r k ct s = ap (λ (o : Option Count). found_or_stale o) (lookup_thing_renamed r.ct k.ct ct s.cts.live)

pub ct_set_renamed : (r : Renaming) → IsRenaming r → (ct : Handle) (to : Count) (s : State) →
    ct_set (r.ct ct) to (renamed r s) ≡ renamed_done r (λ x. x) (ct_set ct to s)
ct_set_renamed r k ct to s =
    ends_by_alike r (ct_set_fault ct to s.cts) s (record s { cts = changed ct (λ (c : Count). to) s.cts }) tt
    (ct_set_fault_renamed r k ct to s.cts)
    (with_cts_renamed r s (changed ct (λ (c : Count). to) s.cts)
    (changed_renamed r.ct (λ (c : Count). c) (λ (c : Count). to) (λ (c : Count). to) k.ct (λ x. refl) ct s.cts))
    refl

pub ct_inc_renamed : (r : Renaming) → IsRenaming r → (ct : Handle) (by : Count) (s : State) →
    ct_inc (r.ct ct) by (renamed r s) ≡ renamed_done r (λ x. x) (ct_inc ct by s)
ct_inc_renamed r k ct by s =
    ends_by_alike r (ct_inc_fault ct by s.cts) s (record s { cts = changed ct (plus by) s.cts }) tt
    (ct_inc_fault_renamed r k ct by s.cts)
    (with_cts_renamed r s (changed ct (plus by) s.cts)
    (changed_renamed r.ct (λ (c : Count). c) (plus by) (plus by) k.ct (λ x. refl) ct s.cts))
    refl

-- and as many are cancelled
pub ct_cancel_renamed : (r : Renaming) → IsRenaming r → (ct : Handle) (s : State) →
    ct_cancel (r.ct ct) (renamed r s) ≡ renamed_done r (λ x. x) (ct_cancel ct s)
ct_cancel_renamed r k ct s =
    ends_by_alike r (stale_fault ct s.cts) s (record s { pending = cancelled ct s.pending })
    (length (filter (waits_on ct) s.pending.waiting))
    (stale_fault_renamed r.ct (λ (c : Count). c) k.ct ct s.cts)
    (with_pending_renamed r s (cancelled ct s.pending) (cancelled_renamed r k s.rank ct s.pending))
    (waiting_on_renamed r k s.rank ct s.pending.waiting)

-- ---- event queues

pub eq_alloc_renamed : (r : Renaming) (slot slot' room : ℕ) (s : State) → r.eq (handle slot s.eqs.given) ≡ handle slot' s.eqs.given →
    eq_alloc slot' room (renamed r s) ≡ renamed_done r (renamed_result r.eq) (eq_alloc slot room s)
eq_alloc_renamed r slot slot' room s is =
    ends_by_renamed r r.eq (alloc_fault s.eqs) s (record s { eqs = with_new slot (queue room [] false) s.eqs }) (handle slot s.eqs.given)
    (alloc_fault_renamed r.eq (λ (q : Waiting). q) s.eqs)
    (with_eqs_renamed r s (with_new slot (queue room [] false) s.eqs)
    (with_new_renamed r.eq (λ (q : Waiting). q) slot slot' (queue room [] false) s.eqs is))
    (sym is)

pub eq_free_renamed : (r : Renaming) → IsRenaming r → (eq : Handle) (s : State) →
    eq_free (r.eq eq) (renamed r s) ≡ renamed_done r (λ x. x) (eq_free eq s)
eq_free_renamed r k eq s =
    ends_by_alike r (eq_free_fault eq s.eqs s.indices s.mds) s (record s { eqs = without eq s.eqs }) tt
    (eq_free_fault_renamed r k s.rank eq s.eqs s.indices s.mds)
    (with_eqs_renamed r s (without eq s.eqs) (without_renamed r.eq (λ (q : Waiting). q) k.eq eq s.eqs))
    refl

eq_get_at_renamed : (r : Renaming) → IsRenaming r → (eq : Handle) (s : State) (o : Option Waiting) →
    eq_get_at (r.eq eq) (renamed r s) o ≡ renamed_done r (λ x. x) (eq_get_at eq s o)
eq_get_at_renamed r k eq s None = refl
eq_get_at_renamed r k eq s (Some q) =
    rw (changed_renamed r.eq (λ (x : Waiting). x) after_take after_take k.eq (λ x. refl) eq s.eqs) refl

pub eq_get_renamed : (r : Renaming) → IsRenaming r → (eq : Handle) (s : State) →
    eq_get (r.eq eq) (renamed r s) ≡ renamed_done r (λ x. x) (eq_get eq s)
eq_get_renamed r k eq s =
    ap (λ (o : Option Waiting). eq_get_at (r.eq eq) (renamed r s) o) (lookup_thing_renamed r.eq k.eq eq s.eqs.live)
    ∙ eq_get_at_renamed r k eq s (lookup eq s.eqs.live)

-- ---- memory descriptors

pub md_bind_renamed : (r : Renaming) → IsRenaming r → (slot slot' : ℕ) (md : Descriptor) (s : State) →
    r.md s.rank (handle slot s.mds.given) ≡ handle slot' s.mds.given →
    md_bind slot' (renamed_md r md) (renamed r s) ≡ renamed_done r (renamed_result (r.md s.rank)) (md_bind slot md s)
md_bind_renamed r k slot slot' md s is =
    ends_by_renamed r (r.md s.rank) (bind_fault md (length s.memory) s.cts s.eqs s.mds) s (with_bound slot md s) (handle slot s.mds.given)
    (bind_fault_renamed r k s.rank md (length s.memory) s.cts s.eqs s.mds)
    (with_mds_renamed r s (with_new slot (bound md) s.mds)
    (with_new_renamed (r.md s.rank) (renamed_bound r) slot slot' (bound md) s.mds is))
    (sym is)

pub md_release_renamed : (r : Renaming) → IsRenaming r → (md : Handle) (s : State) →
    md_release (r.md s.rank md) (renamed r s) ≡ renamed_done r (λ x. x) (md_release md s)
md_release_renamed r k md s =
    ends_by_alike r (release_fault md s.mds s.pending) s (record s { mds = without md s.mds }) tt
    (release_fault_renamed r k s.rank md s.mds s.pending)
    (with_mds_renamed r s (without md s.mds) (without_renamed (r.md s.rank) (renamed_bound r) (k.md s.rank) md s.mds))
    refl

awaits_of_renamed : (r : Renaming) (o : Option Bound) → awaits_of (option_map (renamed_bound r) o) ≡ awaits_of o
awaits_of_renamed r None = refl
awaits_of_renamed r (Some b) = refl

pub awaits_renamed : (r : Renaming) → IsRenaming r → (md : Handle) (s : State) → awaits (r.md s.rank md) (renamed r s) ≡ awaits md s
awaits_renamed r k md s =
    ap (λ (o : Option Bound). awaits_of o) (lookup_renamed (r.md s.rank) (renamed_bound r) (k.md s.rank) md s.mds.live)
    ∙ awaits_of_renamed r (lookup md s.mds.live)

-- ---- operations

pub start_renamed : (r : Renaming) → IsRenaming r → (d : TriggeredOp) (s : State) →
    start (renamed_action r s.rank d) (renamed r s) ≡ renamed_done r (renamed_result (option_map (renamed_message r))) (start d s)
start_renamed r k d s =
    ends_by_renamed r (option_map (renamed_message r)) (action_fault d s.mds) s (with_home (started s.rank (home_of s) d).home s)
    (started s.rank (home_of s) d).message
    (action_fault_renamed r k s.rank d s.mds)
    (ap (λ (x : Started). with_home x.home (renamed r s)) (started_renamed r k s.rank (home_of s) d))
    (ap (λ (x : Started). x.message) (started_renamed r k s.rank (home_of s) d))

pub triggered_renamed : (r : Renaming) → IsRenaming r → (d : TriggeredOp) (ct : Handle) (threshold : ℕ) (s : State) →
    triggered (renamed_action r s.rank d) (r.ct ct) threshold (renamed r s) ≡ renamed_done r (λ x. x) (triggered d ct threshold s)
triggered_renamed r k d ct threshold s =
    ends_by_alike r (triggered_fault d ct s.cts s.mds s.pending) s (with_operation d ct threshold s) s.pending.given
    (triggered_fault_renamed r k s.rank d ct s.cts s.mds s.pending)
    (with_pending_renamed r s _ (with_posted_renamed r s.rank d ct threshold s.pending))
    refl
