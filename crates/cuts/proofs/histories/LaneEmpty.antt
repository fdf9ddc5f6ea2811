-- No entry of a rank of a plan allows a get, so what it answers carries no bytes, whatever it receives.
use Rattle.std.proofs.Common.{ℕ, zero, suc, Bool, true, false, cond, not, ◌&&◌, ◌≡◌, ◌⊎◌, List, [], ◌∷◌, refl, ap, ◌∙◌, sym, subst, inl}
use Rattle.std.proofs.Common.{inr, map, find, Option, Some, None, if◌then◌else◌, length}
use Rattle.std.specs.Prelude.{slice_set}
use Rattle.std.proofs.lemmas.Bool.{and_right, cases_Bool}
use Rattle.ptl_types.specs.declared.calls.TriggeredOp.{TriggeredOp}
use Rattle.ptl_types.specs.declared.calls.TriggeredOp.TheVariants.{Put as PutAction, Get as GetAction, Atomic as AtomicAction}
use Rattle.ptl_types.specs.declared.calls.TriggeredOp.TheVariants.{FetchAtomic as FetchAtomicAction, Swap as SwapAction, Inc as IncAction}
use Rattle.ptl_types.specs.declared.calls.TriggeredOp.TheVariants.{Set as SetAction}
use Rattle.ptl_types.specs.declared.calls.NiFault.{NiFault}
use Rattle.ptl_types.specs.declared.calls.Outcome.TheVariants.{Dropped, Violation}
use Rattle.ptl_types.specs.declared.entries.Entry.{Entry}
use Rattle.ptl_types.specs.declared.entries.List.{List as EntryList}
use Rattle.ptl_types.specs.declared.entries.List.TheVariants.{Priority, Overflow as InOverflow}
use Rattle.ptl_types.specs.declared.handles.Handle.{Handle}
use Rattle.ptl_types.specs.declared.headers.Header.{Header}
use Rattle.ptl_types.specs.declared.headers.MessageKind.{MessageKind}
use Rattle.ptl_types.specs.declared.headers.MessageKind.TheVariants.{Ack as AckKind, Atomic as AtomicKind, FetchAtomic as FetchAtomicKind}
use Rattle.ptl_types.specs.declared.headers.MessageKind.TheVariants.{Get as GetKind, Put as PutKind, Reply as ReplyKind, Swap as SwapKind}
use Rattle.ptl_types.specs.Handles.{same_handle}
use Rattle.ptl_types.specs.Kinds.{is_answer, is_no_ack, is_put_or_atomic}
use Rattle.ptl_types.specs.Messages.{Sent, message}
use Rattle.ni_model.specs.declared.Found.{Found}
use Rattle.ni_model.specs.declared.Linked.{Linked}
use Rattle.ni_model.specs.Answers.{answered}
use Rattle.ni_model.specs.Append.{append, append_fault, fresh, linked_at, next_handle}
use Rattle.ni_model.specs.Arrive.{accepted, ack_header, answer, as_found, chosen, chosen_at, entries_after, is_over, is_overflow, judged}
use Rattle.ni_model.specs.Arrive.{or_else, received, refused, reply_header, request, running_after, updated_at}
use Rattle.ni_model.specs.Calls.{ends_by}
use Rattle.ni_model.specs.Counts.{plus, successes}
use Rattle.ni_model.specs.Tables.{changed}
use Rattle.ni_model.specs.Headers.{allows, no_room}
use Rattle.ni_model.specs.Lists.{Index, advance_one, advanced, fits, index_at, unlinked}
use Rattle.ni_model.specs.Ready.{done, fired, fired_op, posted_at}
use Rattle.ni_model.specs.Refusals.{ct_inc_fault}
use Rattle.ni_model.specs.State.{Posted, State, after_answer, after_request, home_of, parts_of, side_of, target, with_parts}
use Rattle.plan_core.specs.Members.{In}
use Rattle.plan_core.specs.Plan.{Plan, own}
use Rattle.plan_core.specs.Values.{Inputs}
use Rattle.plan_core.proofs.Lists.{In-append_cases, In-filter_cases, In-map_cases}
use Rattle.cuts.proofs.view.Tables.{find-In}
use Rattle.cuts.specs.view.Slots.{Slots, counter_at}
use Rattle.cuts.specs.histories.History.{Local, after, and_then, made, made_by}
use Rattle.cuts.specs.histories.History.Local.{Fire, Receive, Start}
use Rattle.cuts.proofs.histories.Origin.{IsOf, after_of, fired_link, from_link-request, some_one, without}
use Rattle.plan_core.specs.calls.Areas.{classes, longest_to}
use Rattle.cuts.specs.histories.Plans.{start_of}
use Rattle.plan_core.specs.calls.Calls.{own_cell}
use Rattle.cuts.specs.view.Calls.{prepare}
use Rattle.cuts.specs.start.Waiting.{area_linked}
use Rattle.cuts.specs.start.Start.{cell_started, cells_started, entry_of, with_brought}
use Rattle.plan_core.specs.declared.calls.OwnCell.{OwnCell}
use Rattle.cuts.proofs.start.Prepared.{prepared}
use Rattle.plan_core.specs.Sound.{SoundPlan}

-- ---- entries that allow no get
abbrev NoGets : List Linked → Type 0
NoGets xs = (x : Linked) → In x xs → x.entry.allow_get ≡ false

abbrev NoGetsAt : Option Index → Type 0
NoGetsAt None = Unit {0}
NoGetsAt (Some i) = NoGets i.priority × NoGets i.overflow

abbrev NoGetsIn : List (Option Index) → Type 0
NoGetsIn [] = Unit {0}
NoGetsIn (o ∷ os) = NoGetsAt o × NoGetsIn os

set-no_gets : (is : List (Option Index)) (pt : ℕ) (o : Option Index) → NoGetsIn is → NoGetsAt o → NoGetsIn (slice_set is pt o)
set-no_gets [] pt o g h = tt
set-no_gets (x ∷ xs) zero o g h = (h, g.1)
set-no_gets (x ∷ xs) (suc pt) o g h = (g.0, set-no_gets xs pt o g.1 h)

at-no_gets : (is : List (Option Index)) (pt : ℕ) → NoGetsIn is → NoGetsAt (index_at pt is)
at-no_gets [] pt g = tt
at-no_gets (x ∷ xs) zero g = g.0
at-no_gets (x ∷ xs) (suc pt) g = at-no_gets xs pt g.1

-- ---- a request that is taken
chosen-no_get : (h : Header) (o : Option Index) → NoGetsAt o → (f : Found) → chosen_at h o ≡ Some f → f.linked.entry.allow_get ≡ false
chosen-no_get h None g f e = cc
chosen-no_get h (Some i) g f e = at (find (fits h) i.priority) refl (is_put_or_atomic h.kind) (find (fits h) i.overflow) refl e
  where
    at : (a : Option Linked) → find (fits h) i.priority ≡ a → (b : Bool) (c : Option Linked) → find (fits h) i.overflow ≡ c →
        or_else (as_found Priority a) (if b then as_found InOverflow c else None) ≡ Some f → f.linked.entry.allow_get ≡ false
    at (Some x) q b c w e = sym (ap (λ (y : Found). y.linked.entry.allow_get) (some_one e)) ∙ g.0 x (find-In (fits h) i.priority x q).0
    at None q true (Some x) w e = sym (ap (λ (y : Found). y.linked.entry.allow_get) (some_one e))
        ∙ g.1 x (find-In (fits h) i.overflow x w).0
    at None q true None w e = cc
    at None q false c w e = cc

advance-same : (me : Handle) (to : ℕ) (x : Linked) → (advance_one me to x).entry.allow_get ≡ x.entry.allow_get
advance-same me to x = at (same_handle x.handle me)
  where
    at : (b : Bool) → (cond b (record x { running = to }) x).entry.allow_get ≡ x.entry.allow_get
    at true = refl
    at false = refl

entries-no_gets : (f : Linked) (h : Header) (xs : List Linked) → NoGets xs → NoGets (entries_after f h xs)
entries-no_gets f h xs g = at (is_over f h) f.entry.manage_local
  where
    at : (a b : Bool) → NoGets (cond a (unlinked f.handle xs) (cond b (advanced f.handle (running_after f h) xs) xs))
    at true b = λ x i. g x (In-filter_cases (λ x. not (same_handle x.handle f.handle)) x xs i).0
    at false true = λ x i. let q = In-map_cases (advance_one f.handle (running_after f h)) x xs i in
        sym (ap (λ (y : Linked). y.entry.allow_get) q.2) ∙ advance-same f.handle (running_after f h) q.0 ∙ g q.0 q.1
    at false false = g

updated-no_gets : (f : Found) (h : Header) (o : Option Index) → NoGetsAt o → NoGetsAt (updated_at f h o)
updated-no_gets f h None g = tt
updated-no_gets f h (Some i) g = at f.list
  where
    at : (l : EntryList) → NoGetsAt (updated_at (record { list = l; linked = f.linked }) h (Some i))
    at Priority = (entries-no_gets f.linked h i.priority g.0, g.1)
    at InOverflow = (g.0, entries-no_gets f.linked h i.overflow g.1)

-- ---- steps
target-no_gets : (v : State) (m : Sent) → NoGetsIn v.indices → NoGetsIn (target v m).state.indices
unfolding target request
target-no_gets v m g = at (is_answer m.header.kind)
  where
    by_choice : (o : Option Found) → NoGetsIn (after_request v (judged (parts_of v) m o)).state.indices
    by_choice None = g
    by_choice (Some f) = taken (allows f.linked.entry m.header.kind) (is_overflow f.list && no_room v.headers)
      where
        taken : (a b : Bool) → NoGetsIn (after_request v (cond a
            (cond b (received (parts_of v) (refused Dropped m.header)) (accepted (parts_of v) m f))
            (received (parts_of v) (refused Violation m.header)))).state.indices
        taken true true = g
        taken true false = set-no_gets v.indices m.header.pt (updated_at f m.header (index_at m.header.pt v.indices)) g
            (updated-no_gets f m.header (index_at m.header.pt v.indices) (at-no_gets v.indices m.header.pt g))
        taken false b = g

    at : (t : Bool) → NoGetsIn (cond t (after_answer v (answered (home_of v) m)) (after_request v (request (parts_of v) m))).state.indices
    at true = g
    at false = by_choice (chosen m.header v.indices)

done-indices : (v : State) (d : TriggeredOp) → (done v d).state.indices ≡ v.indices
done-indices v (PutAction a) = refl
done-indices v (GetAction g) = refl
done-indices v (AtomicAction a o t) = refl
done-indices v (FetchAtomicAction g a o t) = refl
done-indices v (SwapAction g a w t n) = refl
done-indices v (IncAction c b) = refl
done-indices v (SetAction c t) = refl

fired-indices : (v : State) (t : ℕ) → (fired v t).state.indices ≡ v.indices
unfolding fired
fired-indices v t = at (posted_at t v.pending)
  where
    at : (o : Option Posted) → (fired_op v o).state.indices ≡ v.indices
    at None = refl
    at (Some q) = done-indices (without q.number v) q.action

linked-no_gets : (x : Linked) → x.entry.allow_get ≡ false → (o : Option Index) → NoGetsAt o → NoGetsAt (linked_at Priority x o)
linked-no_gets x e None g = tt
linked-no_gets x e (Some i) g = (
  (λ y j. elim (In-append_cases y i.priority (x ∷ []) j) [
    | inl k ↦ g.0 y k
    | inr k ↦ elim k [ inl q ↦ sym (ap (λ (z : Linked). z.entry.allow_get) q) ∙ e | inr q ↦ absurd q ]
  ]),
  g.1,
)

cell-no_gets : (longest : ℕ) (f : ℕ → ℕ) (ct : Handle) (c : OwnCell) (v : State) → NoGetsIn v.indices →
    NoGetsIn (cell_started longest f ct c v).indices
unfolding cell_started append
cell-no_gets longest f ct c v g = at (append_fault 0 (entry_of ct c) (parts_of (with_brought longest ct c v)))
  where
    at : (o : Option NiFault) → NoGetsIn (ends_by o (with_brought longest ct c v)
        (with_parts (append (f v.entries_given) 0 Priority (entry_of ct c) (parts_of (with_brought longest ct c v))).parts
        (with_brought longest ct c v)) (append (f v.entries_given) 0 Priority (entry_of ct c)
        (parts_of (with_brought longest ct c v))).appended).state.indices
    at None = set-no_gets v.indices 0 (linked_at Priority (fresh (next_handle (f v.entries_given) (side_of v)) (entry_of ct c))
        (index_at 0 v.indices)) g (linked-no_gets (fresh (next_handle (f v.entries_given) (side_of v)) (entry_of ct c)) refl
        (index_at 0 v.indices) (at-no_gets v.indices 0 g))
    at (Some fault) = g

cells-no_gets : (longest : ℕ) (k : Slots) (cells : List ℕ) (cs : List OwnCell) (v : State) → NoGetsIn v.indices →
    NoGetsIn (cells_started longest k cells cs v).indices
cells-no_gets longest k cells [] v g = g
cells-no_gets longest k cells (c ∷ cs) v g = cells-no_gets longest k cells cs
    (cell_started longest k.me (counter_at k cells c.number) c v) (cell-no_gets longest k.me (counter_at k cells c.number) c v g)

start-no_gets : (p : Plan) (k : Slots) (r : ℕ) (v : State) → NoGetsIn v.indices → NoGetsIn ((start_of p k r).by v).indices
start-no_gets p k r v g = at (ct_inc_fault (counter_at k (own p r) r) (successes 1) started_all.cts)
    (cells-no_gets (longest_to p r) k (own p r) (map (own_cell p r) (own p r)) v g)
  where
    started_all : State
    started_all = cells_started (longest_to p r) k (own p r) (map (own_cell p r) (own p r)) v

    at : (o : Option NiFault) → NoGetsIn started_all.indices →
        NoGetsIn (ends_by {A = Unit {0}} o started_all (record started_all
        { cts = changed (counter_at k (own p r) r) (plus (successes 1)) started_all.cts }) tt).state.indices
    at None h = h
    at (Some fault) h = h

-- ---- answers
allows-none : (e : Entry) (k : MessageKind) → e.allow_get ≡ false → is_put_or_atomic k ≡ false → allows e k ≡ false
allows-none e PutKind g h = cc
allows-none e AtomicKind g h = cc
allows-none e GetKind g h = g
allows-none e FetchAtomicKind g h = and_right e.allow_put _ g
allows-none e SwapKind g h = and_right e.allow_put _ g
allows-none e AckKind g h = and_right e.allow_put _ g
allows-none e ReplyKind g h = and_right e.allow_put _ g

empty-answer : (ok : Bool) (n : ℕ) (bs : List ℕ) (h : Header) (m : Sent) → (is_put_or_atomic h.kind ≡ true) ⊎ (ok ≡ false) →
    answer ok n bs h ≡ Some m → m.bytes ≡ []
empty-answer ok n bs h m w e = at (is_put_or_atomic h.kind) (is_no_ack h.ack) ok w e
  where
    at : (a b ok : Bool) → (a ≡ true) ⊎ (ok ≡ false) → (if a then (if b then None else Some (message (ack_header ok n h) [])) else Some
        (message (reply_header ok n h) (if ok then bs else []))) ≡ Some m → m.bytes ≡ []
    at true true ok w e = cc
    at true false ok w e = sym (ap (λ (x : Sent). x.bytes) (some_one e))
    at false b true (inl q) e = cc
    at false b true (inr q) e = cc
    at false b false w e = sym (ap (λ (x : Sent). x.bytes) (some_one e))

judged-empty : (v : State) (q m : Sent) → NoGetsIn v.indices → (o : Option Found) → chosen q.header v.indices ≡ o →
    (judged (parts_of v) q o).arrived.answer ≡ Some m → m.bytes ≡ []
judged-empty v q m g None w e = empty-answer false 0 [] q.header m (inr refl) e
judged-empty v q m g (Some f) w e = elim (cases_Bool (is_put_or_atomic q.header.kind)) [
  | inl put ↦ at (allows f.linked.entry q.header.kind) (is_overflow f.list && no_room v.headers) put e
  | inr other ↦ (
      let none = allows-none f.linked.entry q.header.kind (chosen-no_get q.header (index_at q.header.pt v.indices)
      (at-no_gets v.indices q.header.pt g) f w) other in
      empty-answer false 0 [] q.header m (inr refl)
      (sym (ap (λ b. (cond b (cond (is_overflow f.list && no_room v.headers) (received (parts_of v) (refused Dropped q.header))
      (accepted (parts_of v) q f)) (received (parts_of v) (refused Violation q.header))).arrived.answer) none) ∙ e))
]
  where
    at : (a b : Bool) → is_put_or_atomic q.header.kind ≡ true →
        (cond a (cond b (received (parts_of v) (refused Dropped q.header)) (accepted (parts_of v) q f))
        (received (parts_of v) (refused Violation q.header))).arrived.answer ≡ Some m → m.bytes ≡ []
    at true true put e = empty-answer false 0 [] q.header m (inr refl) e
    at true false put e = empty-answer true _ _ q.header m (inl put) e
    at false b put e = empty-answer false 0 [] q.header m (inr refl) e

target-empty : (v : State) (q m : Sent) → NoGetsIn v.indices → (target v q).delivered.answer ≡ Some m → m.bytes ≡ []
unfolding target request
target-empty v q m g e = at (is_answer q.header.kind) e
  where
    at : (t : Bool) → (cond t (after_answer v (answered (home_of v) q)) (after_request v (request (parts_of v) q))).delivered.answer
        ≡ Some m → m.bytes ≡ []
    at true e = cc
    at false e = judged-empty v q m g (chosen q.header v.indices) refl e

after-no_gets : (p : Plan) (k : Slots) (r : ℕ) (v : State) (e : Local) → NoGetsIn v.indices → NoGetsIn (after (start_of p k r) v e).indices
after-no_gets p k r v Start g = start-no_gets p k r v g
after-no_gets p k r v (Receive source lane m) g = target-no_gets v m g
after-no_gets p k r v (Fire t) g = subst NoGetsIn (sym (fired-indices v t)) g

made-empty : (p : Plan) (k : Slots) (r : ℕ) (es : List Local) (v : State) (m : Sent) → IsOf p k r v → NoGetsIn v.indices →
    In m (made (start_of p k r) v es) → is_answer m.header.kind ≡ true → m.bytes ≡ []
made-empty p k r [] v m h g i a = absurd i
made-empty p k r (e ∷ es) v m h g i a = at (made_by v e) refl i
    (λ j. made-empty p k r es (after (start_of p k r) v e) m (after_of p k r (start_of p k r) v e h) (after-no_gets p k r v e g) j a)
  where
    both : {b : Bool} → b ≡ true → b ≡ false → ⊥
    both e i = cc

    now : (e : Local) (x : Sent) → made_by v e ≡ Some x → x ≡ m → m.bytes ≡ []
    now Start x q f = cc
    now (Fire t) x q f = absurd (both a (from_link-request p k r m (fired_link p k r t v m h (q ∙ ap Some f))))
    now (Receive source lane y) x q f = target-empty v y m g (q ∙ ap Some f)

    at : (o : Option Sent) → made_by v e ≡ o → In m (and_then o (made (start_of p k r) (after (start_of p k r) v e) es)) →
        (In m (made (start_of p k r) (after (start_of p k r) v e) es) → m.bytes ≡ []) → m.bytes ≡ []
    at None q i rest = rest i
    at (Some x) q (inl f) rest = now e x q f
    at (Some x) q (inr i) rest = rest i

prepared-no_gets : (p : Plan) (inputs : Inputs) → SoundPlan p (length inputs) → (k : Slots) (r : ℕ) →
    NoGetsIn (prepare p inputs k r).indices
prepared-no_gets p inputs sound k r = subst (λ (v : State). NoGetsIn v.indices)
    (sym (prepared p inputs k r (λ n. k) (length inputs) sound)) (
      (
        (λ x i. absurd i),
        (λ x i. let q = In-map_cases (area_linked p k r []) x (classes p r) i in
            subst (λ (y : Linked). y.entry.allow_get ≡ false) q.2 refl),
      ),
      tt,
    )

pub answers-empty : (p : Plan) (inputs : Inputs) → SoundPlan p (length inputs) → (k : Slots) (r : ℕ) (es : List Local) (m : Sent) →
    IsOf p k r (prepare p inputs k r) → In m (made (start_of p k r) (prepare p inputs k r) es) → is_answer m.header.kind ≡ true →
    m.bytes ≡ []
answers-empty p inputs sound k r es m h i a = made-empty p k r es (prepare p inputs k r) m h (prepared-no_gets p inputs sound k r) i a
