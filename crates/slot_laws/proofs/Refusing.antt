-- A call is refused alike under renamed handles.
use Rattle.std.proofs.Common.{◌≡◌, ℕ, Bool, ◌&&◌, ◌||◌, not, nat_le, ◌^◌, ◌-◌, List, [], ◌∷◌, map, Option, Some, None}
use Rattle.std.proofs.Common.{refl, ap, ◌∙◌, option_map}
use Rattle.std.proofs.lemmas.List.{length-map}
use Rattle.std.proofs.lemmas.Iterator.Adapters.{option_map_id}
use Rattle.ptl_types.specs.declared.handles.Handle.{Handle}
use Rattle.ptl_types.specs.declared.handles.Count.{Count}
use Rattle.ptl_types.specs.declared.entries.Descriptor.{Descriptor}
use Rattle.ptl_types.specs.declared.calls.NiFault.TheVariants.{Stale, NoSpace}
use Rattle.ptl_types.specs.declared.calls.PutArgs.{PutArgs}
use Rattle.ptl_types.specs.declared.calls.GetArgs.{GetArgs}
use Rattle.ptl_types.specs.declared.calls.Limits.{Limits}
use Rattle.ptl_types.specs.declared.calls.TriggeredOp.{TriggeredOp}
use Rattle.ptl_types.specs.declared.calls.TriggeredOp.TheVariants.{Put, Get, Atomic, FetchAtomic, Swap, Inc, Set}
use Rattle.ni_model.specs.declared.Bound.{Bound}
use Rattle.ni_model.specs.declared.Linked.{Linked}
use Rattle.ni_model.specs.Tables.{Live, Table, is_live, lookup}
use Rattle.ni_model.specs.Queues.{Waiting}
use Rattle.ni_model.specs.Lists.{Index}
use Rattle.ni_model.specs.Append.{need}
use Rattle.ni_model.specs.State.{Posted, Operations}
use Rattle.ni_model.specs.Refusals.{entry_names_ct, index_names_ct, index_names_eq, md_names_ct, md_names_eq, action_names_ct}
use Rattle.ni_model.specs.Refusals.{operation_names_ct}
use Rattle.ni_model.specs.Refusals.{action_names_md, operation_names_md, ct_free_fault, eq_free_fault, ct_set_fault, ct_inc_fault}
use Rattle.ni_model.specs.Refusals.{alloc_fault, stale_fault, bind_fault, awaits_something, release_fault, holds_part, action_is_live}
use Rattle.ni_model.specs.Refusals.{put_fits, get_fits, action_fits, action_fault, counts_on_live, action_passes, no_number}
use Rattle.ni_model.specs.Refusals.{triggered_fault}
use Rattle.guarded_ni.specs.Misuses.{start_misuse}
use Rattle.slot_laws.specs.Renaming.{KeepsApart, IsRenaming, Renaming}
use Rattle.slot_laws.specs.Renamed.{renamed_action, renamed_bound, renamed_get, renamed_indices, renamed_linked, renamed_live}
use Rattle.slot_laws.specs.Renamed.{renamed_md, renamed_operations, renamed_posted, renamed_put, renamed_table, renamed_things}
use Rattle.slot_laws.proofs.Base.{is_full_renamed, is_live_or_none_renamed, is_live_renamed, lookup_renamed, names_renamed}

-- ---- general: tables of things that hold no handle

pub lookup_thing_renamed : {A : Type 0} (f : Handle → Handle) → KeepsApart f → (h : Handle) (xs : List (Live A)) →
    lookup (f h) (map (renamed_live f (λ (x : A). x)) xs) ≡ lookup h xs
lookup_thing_renamed f k h xs = lookup_renamed f (λ x. x) k h xs ∙ option_map_id (lookup h xs)

-- ---- who names a counting event or an event queue

pub entry_names_ct_renamed : (r : Renaming) → IsRenaming r → (ct : Handle) (xs : List Linked) →
    entry_names_ct (r.ct ct) (map (renamed_linked r) xs) ≡ entry_names_ct ct xs
entry_names_ct_renamed r k ct [] = refl
entry_names_ct_renamed r k ct (x ∷ xs) = rw (names_renamed r.ct k.ct x.entry.ct ct, entry_names_ct_renamed r k ct xs) refl

pub index_names_ct_renamed : (r : Renaming) → IsRenaming r → (ct : Handle) (is : List (Option Index)) →
    index_names_ct (r.ct ct) (renamed_indices r is) ≡ index_names_ct ct is
index_names_ct_renamed r k ct [] = refl
index_names_ct_renamed r k ct (None ∷ is) = index_names_ct_renamed r k ct is
index_names_ct_renamed r k ct (Some i ∷ is) =
    rw (entry_names_ct_renamed r k ct i.priority, entry_names_ct_renamed r k ct i.overflow, index_names_ct_renamed r k ct is) refl

pub index_names_eq_renamed : (r : Renaming) → IsRenaming r → (eq : Handle) (is : List (Option Index)) →
    index_names_eq (r.eq eq) (renamed_indices r is) ≡ index_names_eq eq is
index_names_eq_renamed r k eq [] = refl
index_names_eq_renamed r k eq (None ∷ is) = index_names_eq_renamed r k eq is
index_names_eq_renamed r k eq (Some i ∷ is) = rw (names_renamed r.eq k.eq i.eq eq, index_names_eq_renamed r k eq is) refl

pub md_names_ct_renamed : (r : Renaming) → IsRenaming r → (rank : ℕ) (ct : Handle) (xs : List (Live Bound)) →
    md_names_ct (r.ct ct) (map (renamed_live (r.md rank) (renamed_bound r)) xs) ≡ md_names_ct ct xs
md_names_ct_renamed r k rank ct [] = refl
md_names_ct_renamed r k rank ct (x ∷ xs) = rw (names_renamed r.ct k.ct x.value.md.ct ct, md_names_ct_renamed r k rank ct xs) refl

pub md_names_eq_renamed : (r : Renaming) → IsRenaming r → (rank : ℕ) (eq : Handle) (xs : List (Live Bound)) →
    md_names_eq (r.eq eq) (map (renamed_live (r.md rank) (renamed_bound r)) xs) ≡ md_names_eq eq xs
md_names_eq_renamed r k rank eq [] = refl
md_names_eq_renamed r k rank eq (x ∷ xs) = rw (names_renamed r.eq k.eq x.value.md.eq eq, md_names_eq_renamed r k rank eq xs) refl

-- ---- what operations name

pub action_names_ct_renamed : (r : Renaming) → IsRenaming r → (rank : ℕ) (ct : Handle) (d : TriggeredOp) →
    action_names_ct (r.ct ct) (renamed_action r rank d) ≡ action_names_ct ct d
action_names_ct_renamed r k rank ct (Put a) = refl
action_names_ct_renamed r k rank ct (Get g) = refl
action_names_ct_renamed r k rank ct (Atomic a op ty) = refl
action_names_ct_renamed r k rank ct (FetchAtomic g a op ty) = refl
action_names_ct_renamed r k rank ct (Swap g a op ty operand) = refl
action_names_ct_renamed r k rank ct (Inc h by) = k.ct.same h ct
action_names_ct_renamed r k rank ct (Set h to) = k.ct.same h ct

pub operation_names_ct_renamed : (r : Renaming) → IsRenaming r → (rank : ℕ) (ct : Handle) (ps : List Posted) →
    operation_names_ct (r.ct ct) (map (renamed_posted r rank) ps) ≡ operation_names_ct ct ps
operation_names_ct_renamed r k rank ct [] = refl
operation_names_ct_renamed r k rank ct (p ∷ ps) =
    rw (k.ct.same p.ct ct, action_names_ct_renamed r k rank ct p.action, operation_names_ct_renamed r k rank ct ps) refl

pub action_names_md_renamed : (r : Renaming) → IsRenaming r → (rank : ℕ) (md : Handle) (d : TriggeredOp) →
    action_names_md (r.md rank md) (renamed_action r rank d) ≡ action_names_md md d
action_names_md_renamed r k rank md (Put a) = (k.md rank).same a.md md
action_names_md_renamed r k rank md (Get g) = (k.md rank).same g.md md
action_names_md_renamed r k rank md (Atomic a op ty) = (k.md rank).same a.md md
action_names_md_renamed r k rank md (FetchAtomic g a op ty) = rw ((k.md rank).same g.md md, (k.md rank).same a.md md) refl
action_names_md_renamed r k rank md (Swap g a op ty operand) = rw ((k.md rank).same g.md md, (k.md rank).same a.md md) refl
action_names_md_renamed r k rank md (Inc h by) = refl
action_names_md_renamed r k rank md (Set h to) = refl

pub operation_names_md_renamed : (r : Renaming) → IsRenaming r → (rank : ℕ) (md : Handle) (ps : List Posted) →
    operation_names_md (r.md rank md) (map (renamed_posted r rank) ps) ≡ operation_names_md md ps
operation_names_md_renamed r k rank md [] = refl
operation_names_md_renamed r k rank md (p ∷ ps) =
    rw (action_names_md_renamed r k rank md p.action, operation_names_md_renamed r k rank md ps) refl

-- ---- counting events and event queues

pub alloc_fault_renamed : {A : Type 0} (f : Handle → Handle) (g : A → A) (t : Table A) → alloc_fault (renamed_table f g t) ≡ alloc_fault t
alloc_fault_renamed f g t = ap (λ b. need (not b) NoSpace None) (is_full_renamed f g t)

pub stale_fault_renamed : {A : Type 0} (f : Handle → Handle) (g : A → A) → KeepsApart f → (h : Handle) (t : Table A) →
    stale_fault (f h) (renamed_table f g t) ≡ stale_fault h t
stale_fault_renamed f g k h t = ap (λ b. need b Stale None) (is_live_renamed f g k h t)

pub ct_free_fault_renamed : (r : Renaming) → IsRenaming r → (rank : ℕ) (ct : Handle) (cts : Table Count) (is : List (Option Index))
    (mds : Table Bound) (ops : Operations) →
    ct_free_fault (r.ct ct) (renamed_things r.ct cts) (renamed_indices r is) (renamed_table (r.md rank) (renamed_bound r) mds)
    (renamed_operations r rank ops)
    ≡ ct_free_fault ct cts is mds ops
ct_free_fault_renamed r k rank ct cts is mds ops =
    rw (
      is_live_renamed r.ct (λ (c : Count). c) k.ct ct cts,
      md_names_ct_renamed r k rank ct mds.live,
      index_names_ct_renamed r k ct is,
      operation_names_ct_renamed r k rank ct ops.waiting,
    )
    refl

pub eq_free_fault_renamed : (r : Renaming) → IsRenaming r → (rank : ℕ) (eq : Handle) (eqs : Table Waiting) (is : List (Option Index))
    (mds : Table Bound) →
    eq_free_fault (r.eq eq) (renamed_things r.eq eqs) (renamed_indices r is) (renamed_table (r.md rank) (renamed_bound r) mds)
    ≡ eq_free_fault eq eqs is mds
eq_free_fault_renamed r k rank eq eqs is mds =
    rw (
      is_live_renamed r.eq (λ (q : Waiting). q) k.eq eq eqs,
      index_names_eq_renamed r k eq is,
      md_names_eq_renamed r k rank eq mds.live,
    )
    refl

pub ct_set_fault_renamed : (r : Renaming) → IsRenaming r → (ct : Handle) (to : Count) (cts : Table Count) →
    ct_set_fault (r.ct ct) to (renamed_things r.ct cts) ≡ ct_set_fault ct to cts
ct_set_fault_renamed r k ct to cts = rw (is_live_renamed r.ct (λ (c : Count). c) k.ct ct cts) refl

pub ct_inc_fault_renamed : (r : Renaming) → IsRenaming r → (ct : Handle) (by : Count) (cts : Table Count) →
    ct_inc_fault (r.ct ct) by (renamed_things r.ct cts) ≡ ct_inc_fault ct by cts
ct_inc_fault_renamed r k ct by cts = rw (lookup_thing_renamed r.ct k.ct ct cts.live) refl

-- ---- memory descriptors

pub bind_fault_renamed : (r : Renaming) → IsRenaming r → (rank : ℕ) (md : Descriptor) (size : ℕ) (cts : Table Count) (eqs : Table Waiting)
    (mds : Table Bound) →
    bind_fault (renamed_md r md) size (renamed_things r.ct cts) (renamed_things r.eq eqs) (renamed_table (r.md rank) (renamed_bound r) mds)
    ≡ bind_fault md size cts eqs mds
bind_fault_renamed r k rank md size cts eqs mds =
    rw (
      is_live_or_none_renamed r.eq (λ (q : Waiting). q) k.eq md.eq eqs,
      is_live_or_none_renamed r.ct (λ (c : Count). c) k.ct md.ct cts,
      is_full_renamed (r.md rank) (renamed_bound r) mds,
    )
    refl

awaits_something_renamed : (r : Renaming) (o : Option Bound) → awaits_something (option_map (renamed_bound r) o) ≡ awaits_something o
awaits_something_renamed r None = refl
awaits_something_renamed r (Some b) = refl

pub release_fault_renamed : (r : Renaming) → IsRenaming r → (rank : ℕ) (md : Handle) (mds : Table Bound) (ops : Operations) →
    release_fault (r.md rank md) (renamed_table (r.md rank) (renamed_bound r) mds) (renamed_operations r rank ops)
    ≡ release_fault md mds ops
release_fault_renamed r k rank md mds ops =
    rw (
      is_live_renamed (r.md rank) (renamed_bound r) (k.md rank) md mds,
      operation_names_md_renamed r k rank md ops.waiting,
      lookup_renamed (r.md rank) (renamed_bound r) (k.md rank) md mds.live,
      awaits_something_renamed r (lookup md mds.live),
    )
    refl

-- ---- starts and triggered operations

holds_part_renamed : (r : Renaming) (o : Option Bound) (at n : ℕ) → holds_part (option_map (renamed_bound r) o) at n ≡ holds_part o at n
holds_part_renamed r None at n = refl
holds_part_renamed r (Some b) at n = refl

md_is_live_renamed : (r : Renaming) → IsRenaming r → (rank : ℕ) (md : Handle) (mds : Table Bound) →
    is_live (r.md rank md) (renamed_table (r.md rank) (renamed_bound r) mds) ≡ is_live md mds
md_is_live_renamed r k rank md mds = is_live_renamed (r.md rank) (renamed_bound r) (k.md rank) md mds

pub action_is_live_renamed : (r : Renaming) → IsRenaming r → (rank : ℕ) (d : TriggeredOp) (mds : Table Bound) →
    action_is_live (renamed_action r rank d) (renamed_table (r.md rank) (renamed_bound r) mds) ≡ action_is_live d mds
action_is_live_renamed r k rank (Put a) mds = md_is_live_renamed r k rank a.md mds
action_is_live_renamed r k rank (Get g) mds = md_is_live_renamed r k rank g.md mds
action_is_live_renamed r k rank (Atomic a op ty) mds = md_is_live_renamed r k rank a.md mds
action_is_live_renamed r k rank (FetchAtomic g a op ty) mds =
    rw (md_is_live_renamed r k rank g.md mds, md_is_live_renamed r k rank a.md mds) refl
action_is_live_renamed r k rank (Swap g a op ty operand) mds =
    rw (md_is_live_renamed r k rank g.md mds, md_is_live_renamed r k rank a.md mds) refl
action_is_live_renamed r k rank (Inc h by) mds = refl
action_is_live_renamed r k rank (Set h to) mds = refl

put_fits_renamed : (r : Renaming) → IsRenaming r → (rank : ℕ) (a : PutArgs) (mds : Table Bound) →
    put_fits (renamed_put r rank a) (renamed_table (r.md rank) (renamed_bound r) mds) ≡ put_fits a mds
put_fits_renamed r k rank a mds =
    ap (λ (o : Option Bound). holds_part o a.local_offset a.length) (lookup_renamed (r.md rank) (renamed_bound r) (k.md rank) a.md mds.live)
    ∙ holds_part_renamed r (lookup a.md mds.live) a.local_offset a.length

get_fits_renamed : (r : Renaming) → IsRenaming r → (rank : ℕ) (g : GetArgs) (mds : Table Bound) →
    get_fits (renamed_get r rank g) (renamed_table (r.md rank) (renamed_bound r) mds) ≡ get_fits g mds
get_fits_renamed r k rank g mds =
    ap (λ (o : Option Bound). holds_part o g.local_offset g.length) (lookup_renamed (r.md rank) (renamed_bound r) (k.md rank) g.md mds.live)
    ∙ holds_part_renamed r (lookup g.md mds.live) g.local_offset g.length

both : {a a' b b' : Bool} → a ≡ a' → b ≡ b' → (a && b) ≡ (a' && b')
both p q = rw (p, q) refl

pub action_fits_renamed : (r : Renaming) → IsRenaming r → (rank : ℕ) (d : TriggeredOp) (mds : Table Bound) →
    action_fits (renamed_action r rank d) (renamed_table (r.md rank) (renamed_bound r) mds) ≡ action_fits d mds
action_fits_renamed r k rank (Put a) mds = put_fits_renamed r k rank a mds
action_fits_renamed r k rank (Get g) mds = get_fits_renamed r k rank g mds
action_fits_renamed r k rank (Atomic a op ty) mds = put_fits_renamed r k rank a mds
action_fits_renamed r k rank (FetchAtomic g a op ty) mds = both (get_fits_renamed r k rank g mds) (put_fits_renamed r k rank a mds)
action_fits_renamed r k rank (Swap g a op ty operand) mds = both (get_fits_renamed r k rank g mds) (put_fits_renamed r k rank a mds)
action_fits_renamed r k rank (Inc h by) mds = refl
action_fits_renamed r k rank (Set h to) mds = refl

pub action_fault_renamed : (r : Renaming) → IsRenaming r → (rank : ℕ) (d : TriggeredOp) (mds : Table Bound) →
    action_fault (renamed_action r rank d) (renamed_table (r.md rank) (renamed_bound r) mds) ≡ action_fault d mds
action_fault_renamed r k rank d mds =
    rw (action_is_live_renamed r k rank d mds, action_fits_renamed r k rank d mds) refl

counts_on_live_renamed : (r : Renaming) → IsRenaming r → (rank : ℕ) (d : TriggeredOp) (cts : Table Count) →
    counts_on_live (renamed_action r rank d) (renamed_things r.ct cts) ≡ counts_on_live d cts
counts_on_live_renamed r k rank (Put a) cts = refl
counts_on_live_renamed r k rank (Get g) cts = refl
counts_on_live_renamed r k rank (Atomic a op ty) cts = refl
counts_on_live_renamed r k rank (FetchAtomic g a op ty) cts = refl
counts_on_live_renamed r k rank (Swap g a op ty operand) cts = refl
counts_on_live_renamed r k rank (Inc h by) cts = is_live_renamed r.ct (λ (c : Count). c) k.ct h cts
counts_on_live_renamed r k rank (Set h to) cts = is_live_renamed r.ct (λ (c : Count). c) k.ct h cts

action_passes_renamed : (r : Renaming) (rank : ℕ) (d : TriggeredOp) → action_passes (renamed_action r rank d) ≡ action_passes d
action_passes_renamed r rank (Put a) = refl
action_passes_renamed r rank (Get g) = refl
action_passes_renamed r rank (Atomic a op ty) = refl
action_passes_renamed r rank (FetchAtomic g a op ty) = refl
action_passes_renamed r rank (Swap g a op ty operand) = refl
action_passes_renamed r rank (Inc h by) = refl
action_passes_renamed r rank (Set h to) = refl

no_number_renamed : (r : Renaming) (rank : ℕ) (ops : Operations) → no_number (renamed_operations r rank ops) ≡ no_number ops
no_number_renamed r rank ops =
    ap (λ n. nat_le ops.limit n || nat_le (2 ^ 32 - 1) ops.given) (length-map ops.waiting (renamed_posted r rank))

pub triggered_fault_renamed : (r : Renaming) → IsRenaming r → (rank : ℕ) (d : TriggeredOp) (ct : Handle) (cts : Table Count)
    (mds : Table Bound) (ops : Operations) →
    triggered_fault (renamed_action r rank d) (r.ct ct) (renamed_things r.ct cts) (renamed_table (r.md rank) (renamed_bound r) mds)
    (renamed_operations r rank ops)
    ≡ triggered_fault d ct cts mds ops
triggered_fault_renamed r k rank d ct cts mds ops =
    rw (
      is_live_renamed r.ct (λ (c : Count). c) k.ct ct cts,
      counts_on_live_renamed r k rank d cts,
      action_is_live_renamed r k rank d mds,
      no_number_renamed r rank ops,
      action_fits_renamed r k rank d mds,
      action_passes_renamed r rank d,
    )
    refl

-- ---- what is wrong with the arguments of a start: no rule looks at a handle

pub start_misuse_renamed : (r : Renaming) (rank : ℕ) (d : TriggeredOp) (ranks : ℕ) (l : Limits) →
    start_misuse (renamed_action r rank d) ranks l ≡ start_misuse d ranks l
start_misuse_renamed r rank (Put a) ranks l = refl
start_misuse_renamed r rank (Get g) ranks l = refl
start_misuse_renamed r rank (Atomic a op ty) ranks l = refl
start_misuse_renamed r rank (FetchAtomic g a op ty) ranks l = refl
start_misuse_renamed r rank (Swap g a op ty operand) ranks l = refl
start_misuse_renamed r rank (Inc ct by) ranks l = refl
start_misuse_renamed r rank (Set ct to) ranks l = refl
