-- What an arriving message and a firing leave as it is: how much was given, which descriptors are bound, and the operations that wait.
use Rattle.std.proofs.Common.{◌≡◌, ◌<◌, ◌≤◌, ℕ, suc, ◌+◌, ◌==◌, Bool, true, false, not, ◌&&◌, List, [], ◌∷◌, Option, Some, None, length}
use Rattle.std.proofs.Common.{map, filter, find, if◌then◌else◌, refl, ap, ◌∙◌, sym, subst, arith}
use Rattle.std.proofs.lemmas.Bool.Decides.{nat_tests}
use Rattle.std.proofs.lemmas.List.Sums.{length-filter, count_by-le-length}
use Rattle.ptl_types.specs.declared.handles.Handle.{Handle}
use Rattle.ptl_types.specs.declared.handles.Count.{Count}
use Rattle.ptl_types.specs.declared.headers.Header.{Header}
use Rattle.ptl_types.specs.declared.entries.Entry.{Entry}
use Rattle.ptl_types.specs.declared.entries.List.{List as EntryList}
use Rattle.ptl_types.specs.declared.entries.List.TheVariants.{Priority, Overflow as InOverflow}
use Rattle.ptl_types.specs.declared.calls.TriggeredOp.{TriggeredOp}
use Rattle.ptl_types.specs.declared.calls.TriggeredOp.TheVariants.{Put, Get, Atomic, FetchAtomic, Swap, Inc, Set}
use Rattle.ptl_types.specs.declared.calls.Outcome.TheVariants.{Dropped, Violation}
use Rattle.ptl_types.specs.Kinds.{is_answer}
use Rattle.ptl_types.specs.Messages.{Sent}
use Rattle.ni_model.specs.declared.Bound.{Bound}
use Rattle.ni_model.specs.declared.Found.{Found}
use Rattle.ni_model.specs.Tables.{Table, Live, change, changed}
use Rattle.ni_model.specs.Counts.{counted, successes}
use Rattle.ni_model.specs.declared.IndexedHeader.{IndexedHeader}
use Rattle.ni_model.specs.Headers.{allows, no_room, oldest, found_in}
use Rattle.ni_model.specs.Append.{append, append_once, linked_as, take_all, each_counted, overflow_counter}
use Rattle.ni_model.specs.Arrive.{Parts, Received, received, refused, request, judged, accepted, chosen, is_overflow, counter_of}
use Rattle.ni_model.specs.Answers.{Home, Returned, answered, answered_at, came_home, lost_answer, bound_at, is_due, awaits_less, one_less}
use Rattle.ni_model.specs.Answers.{one_answer, counter_home}
use Rattle.ni_model.specs.Starts.{started, started_by, header_of, awaits_more, one_awaited, send_counter, counted_on}
use Rattle.ni_model.specs.State.{State, Posted, Operations, target, after_request, after_answer, parts_of, home_of, with_home}
use Rattle.ni_model.specs.Ready.{fired, fired_op, done, posted_at, is_number, without_number}
use Rattle.rank_node.specs.Handles.{Handles, AreAllOf, handle_of}

-- what stays of a table
pub record SameThings {A : Type 0} (old new : Table A) : Type 0 where
  pub given : new.given ≡ old.given
  pub handles : map handle_of new.live ≡ map handle_of old.live

same-things : {A : Type 0} (t : Table A) → SameThings t t
same-things t = record { given = refl; handles = refl }

same-twice : {A : Type 0} (a b c : Table A) → SameThings a b → SameThings b c → SameThings a c
same-twice a b c p q = record { given = q.given ∙ p.given; handles = q.handles ∙ p.handles }

handles-change : {A : Type 0} (h : Handle) (f : A → A) (xs : List (Live A)) → map handle_of (change h f xs) ≡ map handle_of xs
handles-change h f [] = refl
handles-change h f (x ∷ xs) = ap (λ l. x.handle ∷ l) (handles-change h f xs)

same-changed : {A : Type 0} (h : Handle) (f : A → A) (t : Table A) → SameThings t (changed h f t)
same-changed h f t = record { given = refl; handles = handles-change h f t.live }

pub same-counted : (ct : Option Handle) (by : Count) (t : Table Count) → SameThings t (counted ct by t)
same-counted None by t = same-things t
same-counted (Some h) by t = same-changed h _ t

pub same-each : (ct : Option Handle) (found : List IndexedHeader) (t : Table Count) → SameThings t (each_counted ct found t)
same-each ct [] t = same-things t
same-each ct (a ∷ found) t = same-twice t (counted ct (successes 1) t) (each_counted ct found (counted ct (successes 1) t))
    (same-counted ct (successes 1) t) (same-each ct found (counted ct (successes 1) t))

-- a persistent entry that is linked
pub linked-counters : (slot pt : ℕ) (list : EntryList) (e : Entry) (p : Parts) → e.use_once ≡ false →
    SameThings p.cts (append slot pt list e p).parts.cts
unfolding append
linked-counters slot pt Priority e p persistent = subst (λ b. SameThings p.cts
    (if b then append_once slot pt e p (oldest pt e p.side.headers.unexpected) else linked_as slot pt Priority e
    (found_in pt e p.side.headers.unexpected) (take_all pt e p)).parts.cts) (sym persistent)
    (same-each (overflow_counter e) (found_in pt e p.side.headers.unexpected) p.cts)
linked-counters slot pt InOverflow e p persistent = same-things p.cts

pub linked-given : (slot pt : ℕ) (list : EntryList) (e : Entry) (p : Parts) → e.use_once ≡ false →
    (append slot pt list e p).parts.side.given ≡ p.side.given + 1
unfolding append
linked-given slot pt Priority e p persistent = subst (λ b. (if b then append_once slot pt e p (oldest pt e p.side.headers.unexpected) else
    linked_as slot pt Priority e (found_in pt e p.side.headers.unexpected) (take_all pt e p)).parts.side.given ≡ p.side.given + 1)
    (sym persistent) refl
linked-given slot pt InOverflow e p persistent = refl

same-more : (h : Option Handle) (t : Table Bound) → SameThings t (awaits_more h t)
same-more None t = same-things t
same-more (Some h) t = same-changed h one_awaited t

same-less : (h : Option Handle) (t : Table Bound) → SameThings t (awaits_less h t)
same-less None t = same-things t
same-less (Some h) t = same-changed h one_less t

-- ---- a state
pub record IsSteady (s q : State) : Type 0 where
  pub entries : q.entries_given ≡ s.entries_given
  pub counters : SameThings s.cts q.cts
  pub descriptors : SameThings s.mds q.mds
  pub rank : q.rank ≡ s.rank

either : {D : Type 0} (P : D → Type 0) (b : Bool) (x y : D) → P x → P y → P (if b then x else y)
either P true x y px py = px
either P false x y px py = py

-- ---- a request
record KeepsParts (p : Parts) (r : Received) : Type 0 where
  given : r.parts.side.given ≡ p.side.given
  counters : SameThings p.cts r.parts.cts

judged-keeps : (p : Parts) (m : Sent) (o : Option Found) → KeepsParts p (judged p m o)
judged-keeps p m None = record { given = refl; counters = same-things p.cts }
judged-keeps p m (Some f) =
    either (KeepsParts p) (allows f.linked.entry m.header.kind)
    (if is_overflow f.list && no_room p.side.headers then received p (refused Dropped m.header) else accepted p m f)
    (received p (refused Violation m.header))
    (either (KeepsParts p) (is_overflow f.list && no_room p.side.headers) (received p (refused Dropped m.header)) (accepted p m f)
    (record { given = refl; counters = same-things p.cts })
    (record { given = refl; counters = same-counted (counter_of f.linked) (successes 1) p.cts }))
    (record { given = refl; counters = same-things p.cts })

request-keeps : (p : Parts) (m : Sent) → KeepsParts p (request p m)
unfolding request
request-keeps p m = judged-keeps p m (chosen m.header p.side.indices)

request-steady : (s : State) (m : Sent) → IsSteady s (after_request s (request (parts_of s) m)).state
request-steady s m =
    let k = request-keeps (parts_of s) m in
    record { entries = k.given; counters = k.counters; descriptors = same-things s.mds; rank = refl }

-- ---- an answer
record KeepsHome (p : Home) (q : Home) : Type 0 where
  counters : SameThings p.cts q.cts
  descriptors : SameThings p.mds q.mds

keeps-home : (p : Home) → KeepsHome p p
keeps-home p = record { counters = same-things p.cts; descriptors = same-things p.mds }

answered-keeps : (p : Home) (m : Sent) (o : Option Bound) → KeepsHome p (answered_at p m o).home
answered-keeps p m None = keeps-home p
answered-keeps p m (Some b) =
    either (λ (r : Returned). KeepsHome p r.home) (is_due m.header b) (came_home p m b) (lost_answer p)
    (record {
      counters = same-counted (counter_home m.header b) (one_answer m.header.ok) p.cts;
      descriptors =
          same-less m.header.home p.mds;
    })
    (keeps-home p)

answer-steady : (s : State) (m : Sent) → IsSteady s (after_answer s (answered (home_of s) m)).state
unfolding answered
answer-steady s m =
    let k = answered-keeps (home_of s) m (bound_at m.header.home s.mds) in
    record { entries = refl; counters = k.counters; descriptors = k.descriptors; rank = refl }

-- ---- any message
pub target-steady : (s : State) (m : Sent) → IsSteady s (target s m).state
unfolding target
target-steady s m = either (λ d. IsSteady s d.state) (is_answer m.header.kind) (after_answer s (answered (home_of s) m))
    (after_request s (request (parts_of s) m)) (answer-steady s m) (request-steady s m)

pub target-pending : (s : State) (m : Sent) → (target s m).state.pending ≡ s.pending
unfolding target
target-pending s m = either (λ d. d.state.pending ≡ s.pending) (is_answer m.header.kind) (after_answer s (answered (home_of s) m))
    (after_request s (request (parts_of s) m)) refl refl

-- ---- a firing
started-keeps : (p : Home) (d : TriggeredOp) (o : Option Header) → KeepsHome p (started_by p d o).home
started-keeps p d None = keeps-home p
started-keeps p d (Some h) = record {
  counters = same-counted (send_counter (bound_at (counted_on d) p.mds)) (successes 1) p.cts;
  descriptors = same-more h.home p.mds;
}

start-steady : (s : State) (d : TriggeredOp) → IsSteady s (with_home (started s.rank (home_of s) d).home s)
unfolding started
start-steady s d = let k = started-keeps (home_of s) d (header_of s.rank d) in
    record { entries = refl; counters = k.counters; descriptors = k.descriptors; rank = refl }

done-steady : (s : State) (d : TriggeredOp) → IsSteady s (done s d).state
done-steady s (Put a) = start-steady s (Put a)
done-steady s (Get g) = start-steady s (Get g)
done-steady s (Atomic a o ty) = start-steady s (Atomic a o ty)
done-steady s (FetchAtomic g a o ty) = start-steady s (FetchAtomic g a o ty)
done-steady s (Swap g a o ty x) = start-steady s (Swap g a o ty x)
done-steady s (Inc ct by) = record {
  entries = refl;
  counters = same-counted (Some ct) by s.cts;
  descriptors = same-things s.mds;
  rank =
      refl;
}
done-steady s (Set ct to) = record { entries = refl; counters = same-changed ct _ s.cts; descriptors = same-things s.mds; rank = refl }

done-pending : (s : State) (d : TriggeredOp) → (done s d).state.pending ≡ s.pending
done-pending s (Put a) = refl
done-pending s (Get g) = refl
done-pending s (Atomic a o ty) = refl
done-pending s (FetchAtomic g a o ty) = refl
done-pending s (Swap g a o ty x) = refl
done-pending s (Inc ct by) = refl
done-pending s (Set ct to) = refl

fired_op-steady : (s : State) (o : Option Posted) → IsSteady s (fired_op s o).state
fired_op-steady s None = record { entries = refl; counters = same-things s.cts; descriptors = same-things s.mds; rank = refl }
fired_op-steady s (Some p) =
    let k = done-steady (record s { pending = without_number p.number s.pending }) p.action in
    record { entries = k.entries; counters = k.counters; descriptors = k.descriptors; rank = k.rank }

pub fired-steady : (s : State) (t : ℕ) → IsSteady s (fired s t).state
unfolding fired
fired-steady s t = fired_op-steady s (posted_at t s.pending)

-- an operation that is found is taken out
is-equal : (a b : ℕ) → (a == b) ≡ true → a ≡ b
is-equal a b e = grind (arith, nat_tests)

equal-is : (a b : ℕ) → a ≡ b → (a == b) ≡ true
equal-is a b e = grind (arith, nat_tests)

found-number : (t : ℕ) (ps : List Posted) (p : Posted) → find (is_number t) ps ≡ Some p → p.number ≡ t
found-number t [] p e = cc
found-number t (q ∷ qs) p e =
    elim (q.number == t) as (λ b. (q.number == t) ≡ b → (if b then Some q else find (is_number t) qs) ≡ Some p → p.number ≡ t) [
      | true ↦ λ is found. let same : q ≡ p = cc in ap (λ (x : Posted). x.number) (sym same) ∙ is-equal q.number t is
      | false ↦ λ is found. found-number t qs p found
    ] refl e

-- the operations without number n
abbrev others : ℕ → List Posted → List Posted
others n ps = filter (λ (q : Posted). not (is_number n q)) ps

others-at_most : (n : ℕ) (ps : List Posted) → length (others n ps) ≤ length ps
others-at_most n ps =
    let f = length-filter (λ (q : Posted). not (is_number n q)) ps in
    let g = count_by-le-length (λ (q : Posted). not (is_number n q)) ps in
    omega arith

fewer : (t : ℕ) (ps : List Posted) (p : Posted) → find (is_number t) ps ≡ Some p → length (others p.number ps) < length ps
fewer t [] p e = cc
fewer t (q ∷ qs) p e =
    elim (q.number == t) as (λ b. (q.number == t) ≡ b → (if b then Some q else find (is_number t) qs) ≡ Some p →
    length (others p.number (q ∷ qs)) < length (q ∷ qs)) [
      | true ↦ λ is found.
          let same : q ≡ p = cc in
          let here : (q.number == p.number) ≡ true = equal-is q.number p.number (ap (λ (x : Posted). x.number) same) in
          let at_most = others-at_most p.number qs in
          subst (λ c. length (if not c then q ∷ others p.number qs else others p.number qs) < suc (length qs)) (sym here) (omega arith)
      | false ↦ λ is found.
          let less = fewer t qs p found in
          let small : length (others p.number (q ∷ qs)) ≤ suc (length (others p.number qs)) = at (q.number == p.number) in
          omega arith
    ] refl e
  where
    at : (c : Bool) → length (if not c then q ∷ others p.number qs else others p.number qs) ≤ suc (length (others p.number qs))
    at true = omega arith
    at false = omega arith

fired_op-fewer : (s : State) (t : ℕ) (o : Option Posted) (p : Posted) → posted_at t s.pending ≡ o → o ≡ Some p →
    length (fired_op s o).state.pending.waiting < length s.pending.waiting
fired_op-fewer s t None p e is = cc
fired_op-fewer s t (Some q) p e is =
    subst (λ (ops : Operations). length ops.waiting < length s.pending.waiting)
    (sym (done-pending (record s { pending = without_number q.number s.pending }) q.action)) (fewer t s.pending.waiting q e)

pub fired-fewer : (s : State) (t : ℕ) (p : Posted) → posted_at t s.pending ≡ Some p → length (fired s t).state.pending.waiting < length
    s.pending.waiting
unfolding fired
fired-fewer s t p e = fired_op-fewer s t (posted_at t s.pending) p refl e

-- ---- all handles are still kept
pub steady-all : (s q : State) (hs : Handles) → IsSteady s q → AreAllOf s hs → AreAllOf q hs
steady-all s q hs k all = record {
  counters = k.counters.given ∙ all.counters;
  entries = k.entries ∙ all.entries;
  descriptors = k.descriptors.given ∙ all.descriptors;
  live = k.counters.handles ∙ all.live;
}
