-- What an interface keeps, through each of its calls.
use Rattle.std.proofs.Common.{◌≡◌, ℕ, ◌+◌, ◌≤◌, Bool, true, false, not, ◌&&◌, ◌||◌, nat_le, Result, Ok, Err, List, Option, Some, None}
use Rattle.std.proofs.Common.{length, is_some, refl, sym, subst, ◌∙◌, arith}
use Rattle.std.specs.Prelude.{All, map, slice_set, IfOk, OnErr, OnOk}
use Rattle.std.proofs.lemmas.Bool.Decides.{nat_tests}
use Rattle.std.proofs.lemmas.List.Elements.{All-weaker, All-filter, All-push, All-set}
use Rattle.ptl_types.specs.declared.handles.Handle.{Handle}
use Rattle.ptl_types.specs.declared.handles.Count.{Count}
use Rattle.ptl_types.specs.declared.calls.Limits.{Limits}
use Rattle.ptl_types.specs.declared.entries.Descriptor.{Descriptor}
use Rattle.ptl_types.specs.declared.entries.Entry.{Entry}
use Rattle.ptl_types.specs.declared.entries.UnexpectedHeader.{UnexpectedHeader}
use Rattle.ptl_types.specs.declared.calls.NiFault.{NiFault}
use Rattle.ptl_types.specs.declared.calls.NiFault.TheVariants.{Stale, NoSpace, OutOfRegion}
use Rattle.ptl_types.specs.Handles.{top}
use Rattle.ptl_types.specs.declared.calls.TriggeredOp.{TriggeredOp}
use Rattle.ptl_types.specs.declared.calls.TriggeredOp.TheVariants.{Put, Get, Atomic, FetchAtomic, Swap, Inc, Set}
use Rattle.ni_model.specs.declared.Bound.{Bound}
use Rattle.ni_model.specs.Counts.{total}
use Rattle.ni_model.specs.Tables.{Table, lookup, with_new, is_live_or_none}
use Rattle.ptl_types.specs.declared.entries.List.{List as EntryList}
use Rattle.ptl_types.specs.declared.calls.Appended.{Appended}
use Rattle.ni_model.specs.Append.{Searched, need, search, is_within, is_allocated, linked_count, append_fault}
use Rattle.ni_model.specs.Calls.{bound, unlinked_in}
use Rattle.ni_model.specs.Refusals.{bind_fault, triggered_fault, action_passes}
use Rattle.ni_model.specs.State.{Operations as Posts}
use Rattle.ptl_types.specs.Filled.{Filled}
use Rattle.ni_model.specs.Queues.{Waiting}
use Rattle.ni_model.specs.Lists.{Index}
use Rattle.ni_model.specs.Arrive.{Side, Parts, parts}
use Rattle.ni_model.specs.Answers.{home}
use Rattle.ni_model.specs.Conditions.{HasPartsIn, IsBoundIn, MayStart}
use Rattle.initiator_engine.specs.Initiators.{Initiating, with_mds, room_for}
use Rattle.target_engine.specs.Sides.{has_searched, has_appended, AppendsSome}
use Rattle.triggered_ops.specs.Operations.{Operation, Operations, is_number, waits_on, told, with_posted, without_number, cancelled}
use Rattle.portals_ni.specs.declared.posted_op.PostedOp.{PostedOp}
use Rattle.portals_ni.specs.Answers.{action_counts, action_counter}
use Rattle.portals_ni.specs.Pendings.{told_by}
use Rattle.portals_ni.specs.Sound.{IsArmed, IsTold, IsSound}
use Rattle.initiator_engine.proofs.Starting.{need-test, need-later}
use Rattle.portals_ni.proofs.Counts.{ChangesAt, changes-none, changes-one, changes-counted, changes-new}
use Rattle.portals_ni.proofs.Parts.{unlink-parts}
use Rattle.portals_ni.proofs.Targets.{Keeps, search-keeps, AppendKeeps, append-keeps}
use Rattle.portals_ni.proofs.Homes.{HoldsOn, skips_none, skips-none, fits-on, holds-push, bound-push, KeepsHome}
use Rattle.portals_ni.proofs.Told.{all-told, told-again, actions-told, actions-told_by}
use Rattle.portals_ni.proofs.Firing.{post-told}

-- what was armed stays so where the descriptors hold what they held
pub still-armed : (old new : Table Bound) (ranks : ℕ) (limits : Limits) (ws : List (Operation PostedOp)) → HoldsOn skips_none old new →
    All (λ w. IsArmed old ranks limits w.action) ws → All (λ w. IsArmed new ranks limits w.action) ws
still-armed old new ranks limits ws holds all =
    All-weaker (λ (w : Operation PostedOp). IsArmed old ranks limits w.action)
    (λ (w : Operation PostedOp). IsArmed new ranks limits w.action)
    (λ w is. record {
      fits = fits-on skips_none old new w.action.action holds (skips-none w.action.action) is.fits;
      may = is.may;
      room =
          is.room;
      counts = is.counts;
    })
    ws all

-- the target changed, and a counting event
pub target-sound : (t u : Side) (r s : List ℕ) (c d : Table Count) (e f : Table Waiting) (i : Initiating) (ops : Operations PostedOp)
    (ct : Option Handle) → IsSound t r c i ops → Keeps (parts t r c e) (parts u s d f) ct → IsSound u s d i (told_by ct d ops)
target-sound t u r s c d e f i ops ct is keeps = record {
  rank = is.rank ∙ sym keeps.rank;
  limit = is.limit ∙ sym keeps.limit;
  parts = rw keeps.size keeps.parts;
  bound = rw keeps.size is.bound;
  armed = actions-told_by (IsArmed i.mds i.ranks i.limits) ct d ops is.armed;
  told = all-told ct c d ops keeps.counts is.told;
}

-- the initiator's descriptors changed, and a counting event
pub home-sound : (t : Side) (r s : List ℕ) (c d : Table Count) (e f : Table Waiting) (i : Initiating) (mds : Table Bound)
    (ops : Operations PostedOp) (ct : Option Handle) → IsSound t r c i ops → KeepsHome (home i.mds r c e) (home mds s d f) ct →
    IsSound t s d (with_mds mds i) (told_by ct d ops)
home-sound t r s c d e f i mds ops ct is keeps = record {
  rank = is.rank;
  limit = is.limit;
  parts = rw keeps.size is.parts;
  bound = rw keeps.size keeps.bound;
  armed = actions-told_by (IsArmed mds i.ranks i.limits) ct d ops (still-armed i.mds mds i.ranks i.limits ops.waiting keeps.holds is.armed);
  told = all-told ct c d ops keeps.counts is.told;
}

-- a counting event alone changed
pub count-sound : (t : Side) (r : List ℕ) (c d : Table Count) (i : Initiating) (ops : Operations PostedOp) (ct : Option Handle) →
    IsSound t r c i ops → ChangesAt ct c d → IsSound t r d i (told_by ct d ops)
count-sound t r c d i ops ct is changes = record {
  rank = is.rank;
  limit = is.limit;
  parts = is.parts;
  bound = is.bound;
  armed = actions-told_by (IsArmed i.mds i.ranks i.limits) ct d ops is.armed;
  told = all-told ct c d ops changes is.told;
}

-- some operations are gone
pub fewer-sound : (t : Side) (r : List ℕ) (c : Table Count) (i : Initiating) (ops left : Operations PostedOp) → IsSound t r c i ops →
    ((P : Operation PostedOp → Type 0) → All P ops.waiting → All P left.waiting) → IsSound t r c i left
fewer-sound t r c i ops left is fewer = record {
  rank = is.rank;
  limit = is.limit;
  parts = is.parts;
  bound = is.bound;
  armed = fewer (λ w. IsArmed i.mds i.ranks i.limits w.action) is.armed;
  told = fewer (IsTold c) is.told;
}

within-le : (start size n : ℕ) → is_within start size n ≡ true → start + size ≤ n
within-le start size n e = grind (arith, nat_tests)

-- what isn't refused lies in the region
pub unrefused-bound : (md : Descriptor) (size : ℕ) (c : Table Count) (e : Table Waiting) (mds : Table Bound) →
    bind_fault md size c e mds ≡ None → IsBoundIn size (bound md)
unrefused-bound md size c e mds none = within-le md.start md.length size (need-test _ _ _ (need-later _ _ _ (need-later _ _ _ none)))

-- a counting event more
pub made-sound : (t : Side) (r : List ℕ) (c k : Table Count) (i : Initiating) (ops : Operations PostedOp) (w : Count)
    (res : Result Handle NiFault) → IsSound t r c i ops → OnErr res (k ≡ c) → IfOk res (λ h. k ≡ with_new h.slot w c) → IsSound t r k i ops
made-sound t r c k i ops w (Ok h) is unchanged made =
    rw made (record {
      rank = is.rank;
      limit = is.limit;
      parts = is.parts;
      bound = is.bound;
      armed = is.armed;
      told =
          all-told None c (with_new h.slot w c) ops (changes-new None h.slot w c) is.told;
    })
made-sound t r c k i ops w (Err fault) is unchanged made = rw unchanged is

-- a descriptor more
pub bound-sound : (t : Side) (r : List ℕ) (c : Table Count) (e : Table Waiting) (i j : Initiating) (ops : Operations PostedOp)
    (md : Descriptor) (res : Result Handle NiFault) → IsSound t r c i ops → OnErr res (j ≡ i) →
    IfOk res (λ h. bind_fault md (length r) c e i.mds ≡ None) → IfOk res (λ h. j ≡ with_mds (with_new h.slot (bound md) i.mds) i) →
    IsSound t r c j ops
bound-sound t r c e i j ops md (Ok h) is unchanged ok made =
    rw made (record {
      rank = is.rank;
      limit = is.limit;
      parts = is.parts;
      bound = bound-push (length r) h.slot (bound md) i.mds is.bound (unrefused-bound md (length r) c e i.mds ok);
      armed = still-armed i.mds (with_new h.slot (bound md) i.mds) i.ranks i.limits ops.waiting (holds-push h.slot (bound md) i.mds)
          is.armed;
      told = is.told;
    })
bound-sound t r c e i j ops md (Err fault) is unchanged ok made = rw unchanged is

-- how far a counting event is, told again
pub told-sound : (t : Side) (r : List ℕ) (c : Table Count) (i : Initiating) (ops : Operations PostedOp) (ct : Handle) (count : Count) →
    IsSound t r c i ops → lookup ct c.live ≡ Some count → IsSound t r c i (told ct (total count) ops)
told-sound t r c i ops ct count is live = record {
  rank = is.rank;
  limit = is.limit;
  parts = is.parts;
  bound = is.bound;
  armed = actions-told (IsArmed i.mds i.ranks i.limits) (waits_on ct) (total count) ops.waiting is.armed;
  told = told-again ct count c ops live is.told;
}

-- an operation more
pub post-sound : (t : Side) (r : List ℕ) (c : Table Count) (i : Initiating) (ops : Operations PostedOp) (a : PostedOp) (ct : Handle)
    (threshold : ℕ) (count : Count) → IsSound t r c i ops → IsArmed i.mds i.ranks i.limits a → lookup ct c.live ≡ Some count →
    IsSound t r c i (with_posted a ct threshold (total count) (told ct (total count) ops))
post-sound t r c i ops a ct threshold count is armed live = record {
  rank = is.rank;
  limit = is.limit;
  parts = is.parts;
  bound = is.bound;
  armed = All-push (λ (w : Operation PostedOp). IsArmed i.mds i.ranks i.limits w.action) (told ct (total count) ops).waiting _
      (told-sound t r c i ops ct count is live).armed armed;
  told = post-told ct count c ops a threshold live is.told;
}

-- ---- the counting event of an action that counts
pub changes-action : (d : TriggeredOp) (cts : Table Count) → ChangesAt (action_counter d) cts (action_counts d cts)
changes-action (Put a) cts = changes-none None cts
changes-action (Get g) cts = changes-none None cts
changes-action (Atomic a op ty) cts = changes-none None cts
changes-action (FetchAtomic g a op ty) cts = changes-none None cts
changes-action (Swap g a op ty operand) cts = changes-none None cts
changes-action (Inc ct by) cts = changes-counted (Some ct) by cts
changes-action (Set ct to) cts = changes-one ct (λ c. to) cts

-- an operation less
pub taken-sound : (t : Side) (r : List ℕ) (c : Table Count) (i : Initiating) (ops : Operations PostedOp) (n : ℕ) → IsSound t r c i ops →
    IsSound t r c i (without_number n ops)
taken-sound t r c i ops n is = fewer-sound t r c i ops (without_number n ops) is
    (λ P all. All-filter (λ w. not (is_number n w)) P ops.waiting all)

-- those that wait on a counting event less
pub cancelled-sound : (t : Side) (r : List ℕ) (c : Table Count) (i : Initiating) (ops : Operations PostedOp) (ct : Handle) →
    IsSound t r c i ops → IsSound t r c i (cancelled ct ops)
cancelled-sound t r c i ops ct is = fewer-sound t r c i ops (cancelled ct ops) is
    (λ P all. All-filter (λ w. not (waits_on ct w)) P ops.waiting all)

-- a target in which headers may be gone
pub searched-sound : (t u : Side) (r : List ℕ) (c : Table Count) (e f : Table Waiting) (i : Initiating) (ops : Operations PostedOp)
    (pt : ℕ) (en : Entry) (delete : Bool) (res : Result (Option UnexpectedHeader) NiFault) → IsSound t r c i ops →
    OnErr res ((u ≡ t) × (f ≡ e)) → IfOk res (λ found. has_searched (parts u r c f) found ≡ search pt en delete (parts t r c e)) →
    IsSound u r c i ops
searched-sound t u r c e f i ops pt en delete (Ok found) is unchanged searched =
    let keeps : Keeps (parts t r c e) (parts u r c f) None = subst (λ (s : Searched). Keeps (parts t r c e) s.parts None) (sym searched)
    (search-keeps pt en delete (parts t r c e) is.parts) in
    record {
      rank = is.rank ∙ sym keeps.rank;
      limit = is.limit ∙ sym keeps.limit;
      parts = keeps.parts;
      bound = is.bound;
      armed =
          is.armed;
      told = is.told;
    }
searched-sound t u r c e f i ops pt en delete (Err fault) is unchanged searched = rw unchanged.0 is

-- the rank and the limit of a target after a search
pub search-rank : (t u : Side) (r : List ℕ) (c : Table Count) (e f : Table Waiting) (pt : ℕ) (en : Entry) (delete : Bool)
    (res : Result (Option UnexpectedHeader) NiFault) → All (HasPartsIn (length r)) t.indices →
    IfOk res (λ found. has_searched (parts u r c f) found ≡ search pt en delete (parts t r c e)) →
    OnOk res ((u.rank ≡ t.rank) × (u.limit ≡ t.limit))
search-rank t u r c e f pt en delete (Ok found) all searched =
    let keeps : Keeps (parts t r c e) (parts u r c f) None = subst (λ (s : Searched). Keeps (parts t r c e) s.parts None) (sym searched)
    (search-keeps pt en delete (parts t r c e) all) in
    (keeps.rank, keeps.limit)
search-rank t u r c e f pt en delete (Err fault) all searched = tt

-- ---- what a triggered operation that isn't refused has
there : {A : Type 0} (o : Option A) → is_some o ≡ true → (x : A) × (o ≡ Some x)
there None e = cc
there (Some x) e = (x, refl)

pub and-left : (a b : Bool) → a && b ≡ true → a ≡ true
and-left true b e = refl
and-left false b e = cc

pub and-right : (a b : Bool) → a && b ≡ true → b ≡ true
and-right true b e = e
and-right false b e = cc

pub not-false : (b : Bool) → not b ≡ true → b ≡ false
not-false true e = cc
not-false false e = refl

-- the limit of entries, which the target has, is no limit of a start
pub may-start : (d : TriggeredOp) (ranks n : ℕ) (l : Limits) → l.entries ≡ n → MayStart d ranks (record l { entries = n }) →
    MayStart d ranks l
may-start d ranks n l e may = let P : ℕ → Type 0 = λ x. MayStart d ranks (record l { entries = x }) in subst P (sym e) may

pub posts-armed : (d : TriggeredOp) (ct : Handle) (cts : Table Count) (mds : Table Bound) (ops : Posts) (ranks : ℕ) (limits : Limits)
    (room : Filled) → triggered_fault d ct cts mds ops ≡ None → MayStart d ranks limits → room_for d ≤ room.room →
    IsArmed mds ranks limits (record { action = d; room = room })
posts-armed d ct cts mds ops ranks limits room none may fits =
    let later = need-later _ _ _ (need-later _ _ _ none) in
    record {
      fits = need-test _ _ _ later;
      may = may;
      room = fits;
      counts = not-false (action_passes d) (need-test _ _ _ (need-later _ _ _ later));
    }

pub posts-live : (d : TriggeredOp) (ct : Handle) (cts : Table Count) (mds : Table Bound) (ops : Posts) →
    triggered_fault d ct cts mds ops ≡ None → (c : Count) × (lookup ct cts.live ≡ Some c)
posts-live d ct cts mds ops none = there (lookup ct cts.live) (and-left _ _ (need-test _ _ _ none))

-- ---- entries

append-le : (pt : ℕ) (e : Entry) (p : Parts) → append_fault pt e p ≡ None → e.start + e.length ≤ length p.region
append-le pt e p none =
    let within : Bool = is_within e.start e.length (length p.region) in
    let full : Bool = nat_le p.side.limit (linked_count p.side) || nat_le top p.side.given in
    let live : need (is_live_or_none e.ct p.cts) Stale (need (not full) NoSpace (need within OutOfRegion None)) ≡ None =
    need-later (is_allocated pt p.side) Stale _ none in
    let room : need (not full) NoSpace (need within OutOfRegion None) ≡ None = need-later (is_live_or_none e.ct p.cts) Stale _ live in
    let part : need within OutOfRegion None ≡ None = need-later (not full) NoSpace _ room in
    within-le e.start e.length (length p.region) (need-test within OutOfRegion None part)

-- a target after an append
pub appended-keeps : (pt : ℕ) (list : EntryList) (en : Entry) (p q : Parts) (answer : Appended) (ct : Option Handle) →
    All (HasPartsIn (length p.region)) p.side.indices → append_fault pt en p ≡ None → AppendsSome pt list en p (has_appended q answer ct)
    → Keeps p q ct
appended-keeps pt list en p q answer ct all none is =
    subst (AppendKeeps p) (sym is.ended) (append-keeps is.slot pt list en p all (append-le pt en p none))

-- an index that changed, and has its entries' parts in the region
pub indices-sound : (t u : Side) (r : List ℕ) (c : Table Count) (i : Initiating) (ops : Operations PostedOp) (pt : ℕ) (o : Option Index)
    (res : Result (Unit {0}) NiFault) → HasPartsIn (length r) o → IsSound t r c i ops → OnErr res (u ≡ t) →
    OnOk res (u ≡ record t { indices = slice_set t.indices pt o }) → IsSound u r c i ops
indices-sound t u r c i ops pt o (Ok x) has is unchanged made =
    rw made (record {
      rank = is.rank;
      limit = is.limit;
      parts = All-set (HasPartsIn (length r)) t.indices pt o has is.parts;
      bound =
          is.bound;
      armed = is.armed;
      told = is.told;
    })
indices-sound t u r c i ops pt o (Err fault) has is unchanged made = rw unchanged is

-- one entry fewer
pub unlinked-sound : (t u : Side) (r : List ℕ) (c : Table Count) (i : Initiating) (ops : Operations PostedOp) (me : Handle)
    (res : Result (Unit {0}) NiFault) → IsSound t r c i ops → OnErr res (u ≡ t) →
    OnOk res (u ≡ record t { indices = map (unlinked_in me) t.indices }) → IsSound u r c i ops
unlinked-sound t u r c i ops me (Ok x) is unchanged made =
    rw made (record {
      rank = is.rank;
      limit = is.limit;
      parts = unlink-parts (length r) me t.indices is.parts;
      bound = is.bound;
      armed =
          is.armed;
      told = is.told;
    })
unlinked-sound t u r c i ops me (Err fault) is unchanged made = rw unchanged is
