-- What a node keeps over its steps.
use Rattle.std.proofs.Common.{◌≡◌, ◌<◌, ◌≤◌, ℕ, suc, ◌+◌, ◌-◌, ◌*◌, Bool, true, false, ◌||◌, List, [], ◌∷◌, ◌++◌, Option, Some, None, Ok}
use Rattle.std.proofs.Common.{Err, length, map, get_or, count_by, if◌then◌else◌, refl, ap, ap₂, ◌∙◌, sym, subst, arith, IsTrue}
use Rattle.std.proofs.lemmas.List.{length-set}
use Rattle.ptl_types.specs.declared.calls.Limits.{Limits}
use Rattle.ptl_types.specs.declared.calls.NiFault.{NiFault}
use Rattle.ptl_types.specs.declared.handles.Count.{Count}
use Rattle.ptl_types.specs.declared.handles.Handle.{Handle}
use Rattle.ptl_types.specs.declared.headers.Lane.{Lane}
use Rattle.ptl_types.specs.Handles.{same_handle}
use Rattle.ptl_types.specs.Messages.{Sent}
use Rattle.ni_model.specs.Calls.{ct_get, ends_by, found_or_stale}
use Rattle.ni_model.specs.Counts.{successes, plus}
use Rattle.ni_model.specs.Ready.{fired, is_ready, is_ready_op, posted_at}
use Rattle.ni_model.specs.Refusals.{ct_inc_fault}
use Rattle.ni_model.specs.State.{State, Posted, Operations, target, opened}
use Rattle.ni_model.specs.Tables.{Table, Live, lookup, handle, changed}
use Rattle.ni_objects.proofs.users.SumLemmas.{same-self}
use Rattle.cuts.specs.view.Slots.{Slots, done_ct}
use Rattle.cuts.specs.histories.History.{Beginning, Local, Legal, May, after, state, is_start}
use Rattle.cuts.specs.histories.History.Local.{Start as Started, Receive as Received, Fire as Fired}
use Rattle.cuts.specs.histories.Lanes.{is_receipt}
use Rattle.cuts.specs.start.Start.{go_raised}
use Rattle.rank_node.specs.Calls.{AreMade, count_calls, none_made}
use Rattle.rank_node.specs.Copies.{Diary, bytes_received, has_start}
use Rattle.rank_node.specs.Handles.{Handles, Agrees, AreAllOf, Counted, handle_of, no_handles, room_under, slot_at, slots_of}
use Rattle.rank_node.specs.Node.{IsCompiled, IsNode, IsPrepared, IsStarted, NodeState, Task, entries_due, fired_node, gated_node, prepared}
use Rattle.rank_node.specs.Node.{received_node, start_of, start_room, stray_bytes}
use Rattle.rank_node.specs.Start.{OnlyEntries}
use Rattle.rank_node.proofs.Copies.{bytes-push, or-false, receipts-push, started-front, started-push}
use Rattle.rank_node.proofs.Steady.{target-steady, target-pending, fired-steady, fired-fewer, steady-all}

-- ---- a history and one step more
state-push : (go : Beginning) (s : State) (h : List Local) (e : Local) → state go s (h ++ e ∷ []) ≡ after go (state go s h) e
state-push go s [] e = refl
state-push go s (x ∷ h) e = state-push go (after go s x) h e

legal-push : (go : Beginning) (b : Bool) (s : State) (h : List Local) (e : Local) → Legal go b s h →
    May (b || has_start h) (state go s h) e → Legal go b s (h ++ e ∷ [])
legal-push go b s [] e l m = (subst (λ c. May c s e) (or-false b) m, tt)
legal-push go b s (x ∷ h) e l m = (
  l.0,
  legal-push go (b || is_start x) (after go s x) h e l.1
      (subst (λ c. May c (state go (after go s x) h) e) (sym (started-front b x h)) m),
)

-- there are slots that agree, where there is one descriptor
pub agrees : (hs : Handles) → length hs.descriptors ≡ 1 → Agrees (slots_of hs) hs
agrees hs one = record {
  counters = record { slots = λ n lt. refl };
  entries = record { slots = λ n lt. refl };
  descriptors = record { slots = λ n lt. let zero : 0 ≡ n = omega arith in ap (slot_at hs.descriptors) zero };
}

-- ---- a step more
pub record Grown (old new : NodeState) (e : Local) : Type 0 where
  pub task : new.task ≡ old.task
  pub strays : new.strays ≡ old.strays
  pub locals : new.diary.locals ≡ old.diary.locals ++ e ∷ []
  pub nic : (k : Slots) → Agrees k new.kept → new.nic ≡ after (start_of old.task k) old.nic e
  pub closed : new.closed ≡ old.closed
  pub slots : (k : Slots) → Agrees k new.kept → Agrees k old.kept
  pub may : May (has_start old.diary.locals) old.nic e
  pub all : AreAllOf new.nic new.kept
  pub counters : new.kept.counters ≡ old.kept.counters
  pub descriptors : new.kept.descriptors ≡ old.kept.descriptors
  pub entries : length new.kept.entries + entries_due (has_start old.diary.locals || is_start e) old.task.own ≤ new.kept.room.entries
  pub steps : start_room (has_start old.diary.locals || is_start e) + (length new.nic.pending.waiting + new.diary.receipts) ≤ new.diary.room
  pub receipts : new.diary.receipts + (count_by is_receipt old.diary.locals + count_by is_receipt (e ∷ [])) ≡ old.task.receipts + old.strays
  pub bytes : new.diary.bytes + (bytes_received old.diary.locals + bytes_received (e ∷ [])) ≡ old.task.bytes + stray_bytes * old.strays

pub grown-node : (old new : NodeState) (e : Local) → IsNode old → Grown old new e → IsNode new
grown-node old new e n g =
    let starts : has_start new.diary.locals ≡ (has_start old.diary.locals || is_start e) = ap has_start g.locals
    ∙ started-push old.diary.locals e in
    record {
      compiled = subst IsCompiled (sym g.task) n.compiled;
      state = λ k a.
          g.nic k a ∙ ap (λ v. after (start_of old.task k) v e) (n.state k (g.slots k a))
          ∙ sym (state-push (start_of old.task k) (prepared old.task k) old.diary.locals e)
          ∙ ap₂ (λ c h. state (start_of c k) (prepared c k) h) (sym g.task) (sym g.locals);
      legal = λ k a.
          let l = legal-push (start_of old.task k) false (prepared old.task k) old.diary.locals e (n.legal k (g.slots k a))
          (subst (λ v. May (has_start old.diary.locals) v e) (n.state k (g.slots k a)) g.may) in
          subst (λ c. Legal (start_of c k) false (prepared c k) new.diary.locals) (sym g.task)
          (subst (λ h. Legal (start_of old.task k) false (prepared old.task k) h) (sym g.locals) l);
      all = g.all;
      counters = ap length g.counters ∙ n.counters ∙ ap (λ (t : Task). suc (length t.cells)) (sym g.task);
      descriptors = ap length g.descriptors ∙ n.descriptors;
      entries = subst (λ (t : Task). length new.kept.entries + entries_due (has_start new.diary.locals) t.own ≤ new.kept.room.entries)
          (sym g.task) (subst (λ s. length new.kept.entries + entries_due s old.task.own ≤ new.kept.room.entries) (sym starts) g.entries);
      steps = subst (λ s. start_room s + (length new.nic.pending.waiting + new.diary.receipts) ≤ new.diary.room) (sym starts) g.steps;
      receipts = ap (λ n. new.diary.receipts + n) (ap (count_by is_receipt) g.locals ∙ receipts-push old.diary.locals e) ∙ g.receipts
          ∙ ap₂ (λ (t : Task) n. t.receipts + n) (sym g.task) (sym g.strays);
      gates = ap length g.closed ∙ n.gates ∙ ap (λ (t : Task). t.ranks) (sym g.task);
      bytes = ap (λ n. new.diary.bytes + n) (ap bytes_received g.locals ∙ bytes-push old.diary.locals e) ∙ g.bytes
          ∙ ap₂ (λ (t : Task) n. t.bytes + stray_bytes * n) (sym g.task) (sym g.strays);
    }

-- ---- a firing
ready-waits : (cts : Table Count) (o : Option Posted) → IsTrue (is_ready_op cts o) → (p : Posted) × (o ≡ Some p)
ready-waits cts None e = absurd cc
ready-waits cts (Some p) e = (p, refl)

-- an operation that is ready waits
pub ready-fewer : (s : State) (t : ℕ) → IsTrue (is_ready s t) → length (fired s t).state.pending.waiting < length s.pending.waiting
ready-fewer s t ready = let w = ready-waits s.cts (posted_at t s.pending) ready in fired-fewer s t w.0 w.1

pub fire-node : (n : NodeState) (t : ℕ) → IsTrue (is_ready n.nic t) → IsNode n → IsNode (fired_node t n)
fire-node n t ready is =
    let less = ready-fewer n.nic t ready in
    let same = or-false (has_start n.diary.locals) in
    let room = is.steps in
    let had = is.receipts in
    let held = is.bytes in
    grown-node n (fired_node t n) (Fired t) is (record {
      task = refl;
      strays = refl;
      closed = refl;
      locals = refl;
      nic = λ k a. refl;
      slots = λ k a. a;
      may = ready;
      all = steady-all n.nic (fired n.nic t).state n.kept (fired-steady n.nic t) is.all;
      counters = refl;
      descriptors = refl;
      entries = subst (λ b. length n.kept.entries + entries_due b n.task.own ≤ n.kept.room.entries) (sym same) is.entries;
      steps = subst (λ b. start_room b + (length (fired n.nic t).state.pending.waiting + n.diary.receipts) ≤ n.diary.room - 1) (sym same)
          (omega arith);
      receipts = omega arith;
      bytes = omega arith;
    })

-- ---- a receipt
pub receipt-node : (n : NodeState) (source : ℕ) (lane : Lane) (m : Sent) → May (has_start n.diary.locals) n.nic (Received source lane m) →
    0 < n.diary.receipts → length m.bytes ≤ n.diary.bytes → IsNode n → IsNode (received_node source lane m n)
receipt-node n source lane m may some fits is =
    let same = or-false (has_start n.diary.locals) in
    let room = is.steps in
    let had = is.receipts in
    let held = is.bytes in
    let count : length (target n.nic m).state.pending.waiting ≡ length n.nic.pending.waiting =
    ap (λ (o : Operations). length o.waiting) (target-pending n.nic m) in
    grown-node n (received_node source lane m n) (Received source lane m) is (record {
      task = refl;
      strays = refl;
      closed = refl;
      locals = refl;
      nic = λ k a. refl;
      slots = λ k a. a;
      may = may;
      all = steady-all n.nic (target n.nic m).state n.kept (target-steady n.nic m) is.all;
      counters = refl;
      descriptors = refl;
      entries = subst (λ b. length n.kept.entries + entries_due b n.task.own ≤ n.kept.room.entries) (sym same) is.entries;
      steps = subst (λ b. start_room b + (length (target n.nic m).state.pending.waiting + (n.diary.receipts - 1)) ≤ n.diary.room - 1)
          (sym same) (omega arith);
      receipts = omega arith;
      bytes = omega arith;
    })

-- ---- a start
pub start-node : (n new : NodeState) → has_start n.diary.locals ≡ false → IsStarted n new → AreAllOf new.nic new.kept →
    OnlyEntries n.kept new.kept (length n.task.own) → IsNode n → IsNode new
start-node n new fresh st all only is =
    let one : length new.kept.descriptors ≡ 1 = ap length only.descriptors ∙ is.descriptors in
    let waits : new.nic.pending ≡ n.nic.pending = ap (λ (v : State). v.pending) (st.nic (slots_of new.kept) (agrees new.kept one))
    ∙ (start_of n.task (slots_of new.kept)).pending n.nic in
    let count : length new.nic.pending.waiting ≡ length n.nic.pending.waiting = ap (λ (o : Operations). length o.waiting) waits in
    let room : 1 + (length n.nic.pending.waiting + n.diary.receipts) ≤ n.diary.room =
    subst (λ b. start_room b + (length n.nic.pending.waiting + n.diary.receipts) ≤ n.diary.room) fresh is.steps in
    let due : length n.kept.entries + length n.task.own ≤ n.kept.room.entries =
    subst (λ b. length n.kept.entries + entries_due b n.task.own ≤ n.kept.room.entries) fresh is.entries in
    let at_most = only.at_most in
    let wide : new.kept.room.entries ≡ n.kept.room.entries = ap (λ (c : Counted). c.entries) only.room in
    let left : new.diary.room ≡ n.diary.room - 1 = ap (λ (d : Diary). d.room) st.diary in
    let same : new.diary.receipts ≡ n.diary.receipts = ap (λ (d : Diary). d.receipts) st.diary in
    let bytes : new.diary.bytes ≡ n.diary.bytes = ap (λ (d : Diary). d.bytes) st.diary in
    let had = is.receipts in
    let held = is.bytes in
    grown-node n new Started is (record {
      task = st.task;
      strays = st.strays;
      closed = st.closed;
      locals = ap (λ (d : Diary). d.locals) st.diary;
      nic = st.nic;
      slots = st.slots;
      may = fresh;
      all = all;
      counters = only.counters;
      descriptors = only.descriptors;
      entries = subst (λ b. length new.kept.entries + entries_due (b || true) n.task.own ≤ new.kept.room.entries) (sym fresh) (omega arith);
      steps = subst (λ b. start_room (b || true) + (length new.nic.pending.waiting + new.diary.receipts) ≤ new.diary.room) (sym fresh)
          (omega arith);
      receipts = omega arith;
      bytes = omega arith;
    })

-- ---- the preparation
pub is_prepared : (t : Task) (nic : State) (hs : Handles) → AreMade t.cells t.calls (opened t.rank t.ranks t.limits t.region) nic
    (no_handles (room_under t.limits)) hs → IsPrepared t nic hs
is_prepared t nic hs m = record { state = m.state; all = m.all; made = m.counted; room = m.room }

pub installed-node : (n : NodeState) → IsCompiled n.task → IsPrepared n.task n.nic n.kept → n.diary.locals ≡ [] →
    1 + (length n.nic.pending.waiting + n.diary.receipts) ≤ n.diary.room
    → n.diary.receipts ≡ n.task.receipts + n.strays → n.diary.bytes ≡ n.task.bytes + stray_bytes * n.strays →
    length n.closed ≡ n.task.ranks → IsNode n
installed-node n is p none room receipts bytes gates =
    let enough = is.enough.entries in
    let entries : length n.kept.entries ≡ (count_calls n.task.calls none_made).entries = ap (λ (c : Counted). c.entries) p.made in
    let wide : n.kept.room.entries ≡ n.task.limits.entries = ap (λ (c : Counted). c.entries) p.room in
    record {
      compiled = is;
      state = λ k g. p.state k g ∙ ap (λ h. state (start_of n.task k) (prepared n.task k) h) (sym none);
      legal = λ k g. subst (λ h. Legal (start_of n.task k) false (prepared n.task k) h) (sym none) tt;
      all = p.all;
      counters = ap (λ (c : Counted). c.counters) p.made ∙ is.counters;
      descriptors = ap (λ (c : Counted). c.descriptors) p.made ∙ is.descriptors;
      entries = subst (λ h. length n.kept.entries + entries_due (has_start h) n.task.own ≤ n.kept.room.entries) (sym none) (omega arith);
      steps = subst (λ h. start_room (has_start h) + (length n.nic.pending.waiting + n.diary.receipts) ≤ n.diary.room) (sym none) room;
      receipts = subst (λ h. n.diary.receipts + count_by is_receipt h ≡ n.task.receipts + n.strays) (sym none) (omega arith);
      gates = gates;
      bytes = subst (λ h. n.diary.bytes + bytes_received h ≡ n.task.bytes + stray_bytes * n.strays) (sym none) (omega arith);
    }

-- nothing was given yet
pub all-none : (rank ranks : ℕ) (limits : Limits) (region : List ℕ) (room : Counted) →
    AreAllOf (opened rank ranks limits region) (no_handles room)
all-none rank ranks limits region room = record { counters = refl; entries = refl; descriptors = refl; live = refl }

-- ---- the go counter
pub go-all : (go : Handle) (s : State) (hs : Handles) → AreAllOf s hs → AreAllOf (go_raised go s) hs
go-all go s hs all = at (ct_inc_fault go (successes 1) s.cts)
  where
    handles : (xs : List (Live Count)) → map handle_of (changed go (plus (successes 1)) (record s.cts { live = xs })).live ≡ map handle_of
        xs
    handles [] = refl
    handles (x ∷ xs) = ap (λ l. x.handle ∷ l) (handles xs)

    at : (o : Option NiFault) → AreAllOf (ends_by {A = Unit {0}} o s (record s { cts = changed go (plus (successes 1)) s.cts }) tt).state hs
    at None = record { counters = all.counters; entries = all.entries; descriptors = all.descriptors; live = handles s.cts.live ∙ all.live }
    at (Some fault) = all

-- ---- the counting event of what is done
first-live : (xs : List (Live Count)) (hs : List Handle) → map handle_of xs ≡ hs → 0 < length hs → (c : Count) ×
    (lookup (get_or hs 0 (handle 0 0)) xs ≡ Some c)
first-live [] [] e some = absurd (omega arith)
first-live [] (h ∷ hs) e some = absurd cc
first-live (x ∷ xs) [] e some = absurd (omega arith)
first-live (x ∷ xs) (h ∷ hs) e some =
    let same : x.handle ≡ h = cc in (
      x.value,
      subst (λ k. (if same_handle x.handle k then Some x.value else lookup k xs) ≡ Some x.value) same
          (ap (λ b. if b then Some x.value else lookup x.handle xs) (same-self x.handle)),
    )

-- it is live
pub done-live : (s : State) (hs : Handles) → AreAllOf s hs → 0 < length hs.counters → (c : Count) ×
    (lookup (get_or hs.counters 0 (handle 0 0)) s.cts.live ≡ Some c)
done-live s hs all some = first-live s.cts.live hs.counters all.live some

-- so the answer is its count, under any slots that agree
pub done-told : (s : State) (hs : Handles) (h : Handle) (c : Count) → AreAllOf s hs → 0 < length hs.counters →
    h ≡ get_or hs.counters 0 (handle 0 0) → Ok c ≡ ct_get h s → ((k : Slots) → Agrees k hs → h ≡ done_ct k)
    → (k : Slots) → Agrees k hs → lookup (done_ct k) s.cts.live ≡ Some c
done-told s hs h c all some is told slots k g =
    let d = done-live s hs all some in
    let here : lookup h s.cts.live ≡ Some d.0 = ap (λ x. lookup x s.cts.live) is ∙ d.1 in
    let count : Ok c ≡ Ok d.0 = told ∙ ap found_or_stale here in
    let same : c ≡ d.0 = cc in
    ap (λ x. lookup x s.cts.live) (sym (slots k g)) ∙ here ∙ ap Some (sym same)

pub done-known : (s : State) (hs : Handles) (h : Handle) (fault : NiFault) → AreAllOf s hs → 0 < length hs.counters →
    h ≡ get_or hs.counters 0 (handle 0 0) → Err fault ≡ ct_get h s → ⊥
done-known s hs h fault all some is told =
    let d = done-live s hs all some in
    let here : lookup h s.cts.live ≡ Some d.0 = ap (λ x. lookup x s.cts.live) is ∙ d.1 in
    let count : Err fault ≡ Ok d.0 = told ∙ ap found_or_stale here in
    absurd cc

-- ---- a gate
pub gated-is : (n : NodeState) (d : ℕ) (b : Bool) → IsNode n → IsNode (gated_node d b n)
gated-is n d b is = record {
  compiled = is.compiled;
  state = is.state;
  legal = is.legal;
  all = is.all;
  counters = is.counters;
  descriptors = is.descriptors;
  entries = is.entries;
  steps = is.steps;
  receipts = is.receipts;
  bytes = is.bytes;
  gates = length-set n.closed d b ∙ is.gates;
}
