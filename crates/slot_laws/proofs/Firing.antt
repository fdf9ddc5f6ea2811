-- Triggered operations under renamed handles: the same are ready, and a firing does the same.
use Rattle.std.proofs.Common.{◌≡◌, ℕ, not, List, [], ◌∷◌, ◌+◌, length, map, filter, Option, Some, None}
use Rattle.std.proofs.Common.{refl, ap, sym, ◌∙◌, option_map}
use Rattle.std.proofs.lemmas.List.{length-map, map-append}
use Rattle.std.proofs.lemmas.List.Elements.{filter_agree}
use Rattle.std.proofs.lemmas.Simd.{map-map}
use Rattle.ptl_types.specs.declared.handles.Handle.{Handle}
use Rattle.ptl_types.specs.declared.handles.Count.{Count}
use Rattle.ptl_types.specs.declared.calls.TriggeredOp.{TriggeredOp}
use Rattle.ptl_types.specs.declared.calls.TriggeredOp.TheVariants.{Put, Get, Atomic, FetchAtomic, Swap, Inc, Set}
use Rattle.ni_model.specs.Tables.{Table}
use Rattle.ni_model.specs.State.{State, Posted, Operations, home_of, with_home}
use Rattle.ni_model.specs.Starts.{Started, started}
use Rattle.ni_model.specs.Ready.{cancelled, done, fired, fired_op, fires, is_number, is_rank, is_reached, is_ready, is_ready_op}
use Rattle.ni_model.specs.Ready.{message_target, posted_at, ready_numbers, ready_numbers_to, target_at, target_of, waits_on, with_posted}
use Rattle.ni_model.specs.Ready.{without_number}
use Rattle.slot_laws.specs.Renaming.{IsRenaming, Renaming}
use Rattle.slot_laws.specs.Renamed.{renamed, renamed_action, renamed_operations, renamed_posted, renamed_things}
use Rattle.slot_laws.proofs.terms.Started.{renamed_fires, renamed_started}
use Rattle.slot_laws.proofs.Base.{changed_renamed, filter_mapped, find_mapped}
use Rattle.slot_laws.proofs.Telling.{counted_renamed}
use Rattle.slot_laws.proofs.Refusing.{lookup_thing_renamed}
use Rattle.slot_laws.proofs.Starting.{started_renamed}

-- ---- which are ready

pub posted_at_renamed : (r : Renaming) (rank t : ℕ) (ops : Operations) →
    posted_at t (renamed_operations r rank ops) ≡ option_map (renamed_posted r rank) (posted_at t ops)
posted_at_renamed r rank t ops = find_mapped (is_number t) (is_number t) (renamed_posted r rank) (λ x. refl) ops.waiting

is_ready_op_renamed : (r : Renaming) → IsRenaming r → (rank : ℕ) (cts : Table Count) (o : Option Posted) →
    is_ready_op (renamed_things r.ct cts) (option_map (renamed_posted r rank) o) ≡ is_ready_op cts o
is_ready_op_renamed r k rank cts None = refl
is_ready_op_renamed r k rank cts (Some p) =
    ap (λ (c : Option Count). is_reached c p.threshold) (lookup_thing_renamed r.ct k.ct p.ct cts.live)

pub is_ready_renamed : (r : Renaming) → IsRenaming r → (s : State) (t : ℕ) → is_ready (renamed r s) t ≡ is_ready s t
is_ready_renamed r k s t =
    ap (λ (o : Option Posted). is_ready_op (renamed_things r.ct s.cts) o) (posted_at_renamed r s.rank t s.pending)
    ∙ is_ready_op_renamed r k s.rank s.cts (posted_at t s.pending)

pub ready_numbers_renamed : (r : Renaming) → IsRenaming r → (s : State) → ready_numbers (renamed r s) ≡ ready_numbers s
ready_numbers_renamed r k s =
    ap (λ (ts : List ℕ). filter (is_ready (renamed r s)) ts)
    (map-map (λ (p : Posted). p.number) (renamed_posted r s.rank) s.pending.waiting)
    ∙ filter_agree (is_ready (renamed r s)) (is_ready s) (is_ready_renamed r k s) (map (λ (p : Posted). p.number) s.pending.waiting)

message_target_renamed : (r : Renaming) (rank : ℕ) (d : TriggeredOp) → message_target (renamed_action r rank d) ≡ message_target d
message_target_renamed r rank (Put a) = refl
message_target_renamed r rank (Get g) = refl
message_target_renamed r rank (Atomic a op ty) = refl
message_target_renamed r rank (FetchAtomic g a op ty) = refl
message_target_renamed r rank (Swap g a op ty operand) = refl
message_target_renamed r rank (Inc ct by) = refl
message_target_renamed r rank (Set ct to) = refl

target_of_renamed : (r : Renaming) (rank : ℕ) (o : Option Posted) → target_of (option_map (renamed_posted r rank) o) ≡ target_of o
target_of_renamed r rank None = refl
target_of_renamed r rank (Some p) = message_target_renamed r rank p.action

pub target_at_renamed : (r : Renaming) (s : State) (t : ℕ) → target_at (renamed r s) t ≡ target_at s t
target_at_renamed r s t = rw (posted_at_renamed r s.rank t s.pending) (target_of_renamed r s.rank (posted_at t s.pending))

pub ready_numbers_to_renamed : (r : Renaming) → IsRenaming r → (d : ℕ) (s : State) →
    ready_numbers_to d (renamed r s) ≡ ready_numbers_to d s
ready_numbers_to_renamed r k d s =
    ap (λ (ts : List ℕ). filter (λ t. is_rank d (target_at (renamed r s) t)) ts) (ready_numbers_renamed r k s)
    ∙ filter_agree (λ t. is_rank d (target_at (renamed r s) t)) (λ t. is_rank d (target_at s t))
    (λ t. ap (is_rank d) (target_at_renamed r s t)) (ready_numbers s)

-- ---- operations more and fewer

pub with_posted_renamed : (r : Renaming) (rank : ℕ) (d : TriggeredOp) (ct : Handle) (threshold : ℕ) (ops : Operations) →
    with_posted (renamed_action r rank d) (r.ct ct) threshold (renamed_operations r rank ops)
    ≡ renamed_operations r rank (with_posted d ct threshold ops)
with_posted_renamed r rank d ct threshold ops =
    ap (λ (ps : List Posted). record { waiting = ps; given = ops.given + 1; limit = ops.limit })
    (sym (map-append (renamed_posted r rank) ops.waiting
    ((record { number = ops.given; action = d; ct = ct; threshold = threshold }) ∷ [])))

pub without_number_renamed : (r : Renaming) (rank t : ℕ) (ops : Operations) →
    without_number t (renamed_operations r rank ops) ≡ renamed_operations r rank (without_number t ops)
without_number_renamed r rank t ops =
    ap (λ (ps : List Posted). record ops { waiting = ps })
    (filter_mapped (λ p. not (is_number t p)) (λ p. not (is_number t p)) (renamed_posted r rank) (λ x. refl) ops.waiting)

pub cancelled_renamed : (r : Renaming) → IsRenaming r → (rank : ℕ) (ct : Handle) (ops : Operations) →
    cancelled (r.ct ct) (renamed_operations r rank ops) ≡ renamed_operations r rank (cancelled ct ops)
cancelled_renamed r k rank ct ops =
    ap (λ (ps : List Posted). record ops { waiting = ps })
    (filter_mapped (λ p. not (waits_on (r.ct ct) p)) (λ p. not (waits_on ct p)) (renamed_posted r rank)
    (λ x. ap not (k.ct.same x.ct ct)) ops.waiting)

-- how many wait on a counting event
pub waiting_on_renamed : (r : Renaming) → IsRenaming r → (rank : ℕ) (ct : Handle) (ps : List Posted) →
    length (filter (waits_on (r.ct ct)) (map (renamed_posted r rank) ps)) ≡ length (filter (waits_on ct) ps)
waiting_on_renamed r k rank ct ps =
    ap length (filter_mapped (waits_on (r.ct ct)) (waits_on ct) (renamed_posted r rank) (λ x. k.ct.same x.ct ct) ps)
    ∙ length-map (filter (waits_on ct) ps) (renamed_posted r rank)

-- ---- firings

-- a start of its rank's, seen from the whole state
starts_renamed : (r : Renaming) → IsRenaming r → (s : State) (d : TriggeredOp) →
    started s.rank (home_of (renamed r s)) (renamed_action r s.rank d) ≡ renamed_started r s.rank (started s.rank (home_of s) d)
starts_renamed r k s d = started_renamed r k s.rank (home_of s) d

sends_renamed : (r : Renaming) → IsRenaming r → (s : State) (d : TriggeredOp) →
    fires (with_home (started s.rank (home_of (renamed r s)) (renamed_action r s.rank d)).home (renamed r s))
    (started s.rank (home_of (renamed r s)) (renamed_action r s.rank d)).message
    ≡ renamed_fires r (fires (with_home (started s.rank (home_of s) d).home s) (started s.rank (home_of s) d).message)
sends_renamed r k s d = ap (λ (x : Started). fires (with_home x.home (renamed r s)) x.message) (starts_renamed r k s d)

done_renamed : (r : Renaming) → IsRenaming r → (s : State) (d : TriggeredOp) →
    done (renamed r s) (renamed_action r s.rank d) ≡ renamed_fires r (done s d)
done_renamed r k s (Put a) = sends_renamed r k s (Put a)
done_renamed r k s (Get g) = sends_renamed r k s (Get g)
done_renamed r k s (Atomic a op ty) = sends_renamed r k s (Atomic a op ty)
done_renamed r k s (FetchAtomic g a op ty) = sends_renamed r k s (FetchAtomic g a op ty)
done_renamed r k s (Swap g a op ty operand) = sends_renamed r k s (Swap g a op ty operand)
done_renamed r k s (Inc ct by) =
    ap (λ (ts : Table Count). fires (record (renamed r s) { cts = ts }) None) (counted_renamed r.ct k.ct (Some ct) by s.cts)
done_renamed r k s (Set ct to) =
    ap (λ (ts : Table Count). fires (record (renamed r s) { cts = ts }) None)
    (changed_renamed r.ct (λ (c : Count). c) (λ (c : Count). to) (λ (c : Count). to) k.ct (λ x. refl) ct s.cts)

fired_op_renamed : (r : Renaming) → IsRenaming r → (s : State) (o : Option Posted) →
    fired_op (renamed r s) (option_map (renamed_posted r s.rank) o) ≡ renamed_fires r (fired_op s o)
fired_op_renamed r k s None = refl
fired_op_renamed r k s (Some p) =
    ap (λ (ops : Operations). done (record (renamed r s) { pending = ops }) (renamed_action r s.rank p.action))
    (without_number_renamed r s.rank p.number s.pending)
    ∙ done_renamed r k (record s { pending = without_number p.number s.pending }) p.action

pub fired_renamed : (r : Renaming) → IsRenaming r → (s : State) (t : ℕ) → fired (renamed r s) t ≡ renamed_fires r (fired s t)
unfolding fired
fired_renamed r k s t =
    ap (λ (o : Option Posted). fired_op (renamed r s) o) (posted_at_renamed r s.rank t s.pending)
    ∙ fired_op_renamed r k s (posted_at t s.pending)
