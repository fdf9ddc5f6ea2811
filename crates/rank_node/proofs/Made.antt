-- What the calls of an installation leave, one kind after the other.
use Rattle.std.proofs.Common.{◌≡◌, ◌<◌, ℕ, suc, ◌+◌, List, [], ◌∷◌, ◌++◌, length, refl, ap, ap₂, ◌∙◌, sym, subst, arith, add-one, None}
use Rattle.std.proofs.Common.{Bool, false, map, take, drop, get_or}
use Rattle.std.proofs.lemmas.List.{map-append, take_more, drop_more}
use Rattle.ptl_types.specs.declared.handles.Handle.{Handle}
use Rattle.ptl_types.specs.declared.entries.Entry.{Entry}
use Rattle.ptl_types.specs.declared.entries.List.{List as EntryList}
use Rattle.ptl_types.specs.declared.entries.List.TheVariants.{Priority, Overflow as InOverflow}
use Rattle.ptl_types.specs.declared.calls.TriggeredOp.{TriggeredOp}
use Rattle.ptl_types.specs.declared.calls.Limits.{Limits}
use Rattle.ni_model.specs.Tables.{handle}
use Rattle.ni_model.specs.State.{State, parts_of}
use Rattle.ni_model.specs.Calls.{with_index, with_counter, with_bound, with_operation}
use Rattle.cuts.specs.view.Slots.{Slots, counter_at}
use Rattle.ptl_types.specs.declared.steps.Call.{Call}
use Rattle.ptl_types.specs.declared.steps.Call.TheVariants.{PtAlloc, CtDone, CtCell, MdBind, Overflow, MeAppend, Trigger}
use Rattle.rank_node.specs.Handles.{Handles, Agrees, AreAllOf, Counted, Fits, Tells, counted_in, handle_of, with_counter_handle}
use Rattle.rank_node.specs.Handles.{with_entry_handle, with_descriptor_handle}
use Rattle.cuts.specs.view.Calls.{whole_region, action_at, call_made, calls_made, area_entry, with_entry, cell_entry}
use Rattle.ptl_types.specs.declared.steps.PlannedOp.{PlannedOp}
use Rattle.rank_node.specs.Calls.{AreMade, count_call, count_calls, MayCallAll, NewCounter, NewDescriptor, NewEntry}
use Rattle.rank_node.proofs.Steady.{linked-counters, linked-given}
use Rattle.rank_node.proofs.Lists.{tells-front, tells-last, length-push}

-- ---- no call at all
pub made-none : (cells : List ℕ) (s : State) (hs : Handles) → AreAllOf s hs → AreMade cells [] s s hs hs
made-none cells s hs all = record {
  state = λ k a. refl;
  kept = λ k a. a;
  all = all;
  counted = refl;
  room = refl;
  ranks = refl;
  limits =
      refl;
}

-- ---- a list of calls, and one more
calls-push : (k : Slots) (cells : List ℕ) (front : List Call) (call : Call) (s : State) →
    calls_made k cells (front ++ call ∷ []) s ≡ call_made k cells call (calls_made k cells front s)
calls-push k cells [] call s = refl
calls-push k cells (c ∷ front) call s = calls-push k cells front call (call_made k cells c s)

counts-push : (front : List Call) (call : Call) (n : Counted) → count_calls (front ++ call ∷ []) n ≡ count_call call (count_calls front n)
counts-push [] call n = refl
counts-push (c ∷ front) call n = counts-push front call (count_call c n)

pub made-next : (cells : List ℕ) (front : List Call) (call : Call) (s t u : State) (a b c : Handles) → AreMade cells front s t a b →
    AreMade cells (call ∷ []) t u b c → AreMade cells (front ++ call ∷ []) s u a c
made-next cells front call s t u a b c m n = record {
  state = λ k g. n.state k g ∙ ap (call_made k cells call) (m.state k (n.kept k g)) ∙ sym (calls-push k cells front call s);
  kept = λ k g. m.kept k (n.kept k g);
  all = n.all;
  counted = n.counted ∙ ap (count_call call) m.counted ∙ sym (counts-push front call (counted_in a));
  room = n.room ∙ m.room;
  ranks = n.ranks ∙ m.ranks;
  limits = n.limits ∙ m.limits;
}

-- ---- a call that makes nothing
pub made-plain : (cells : List ℕ) (call : Call) (s t : State) (hs : Handles) (f : State → State)
    → t ≡ f s → ((k : Slots) → Agrees k hs → call_made k cells call s ≡ f s) → count_call call (counted_in hs) ≡ counted_in hs
    → AreAllOf (f s) hs → (f s).ranks ≡ s.ranks → (f s).limits ≡ s.limits → AreMade cells (call ∷ []) s t hs hs
made-plain cells call s t hs f e is counts all ranks limits = record {
  state = λ k g. e ∙ sym (is k g);
  kept = λ k g. g;
  all = subst (λ (x : State). AreAllOf x hs) (sym e) all;
  counted = sym counts;
  room = refl;
  ranks = ap (λ (x : State). x.ranks) e ∙ ranks;
  limits = ap (λ (x : State). x.limits) e ∙ limits;
}

-- ---- a counting event
pub made-counter : (cells : List ℕ) (call : Call) (s t : State) (hs left : Handles) → NewCounter s t hs left → AreAllOf s hs
    → ((k : Slots) → call_made k cells call s ≡ with_counter (k.ct s.cts.given) s) →
    count_call call (counted_in hs) ≡ record (counted_in hs) { counters = suc (length hs.counters) }
    → AreMade cells (call ∷ []) s t hs left
made-counter cells call s t hs left made all is counts =
    subst (λ (x : Handles). AreMade cells (call ∷ []) s t hs x) (sym made.left)
    (subst (λ (x : State). AreMade cells (call ∷ []) s x hs (with_counter_handle made.ct hs)) (sym made.state) there)
  where
    front : (k : Slots) → Agrees k (with_counter_handle made.ct hs) → Agrees k hs
    front k g = record { counters = tells-front k.ct hs.counters made.ct g.counters; entries = g.entries; descriptors = g.descriptors }

    same : made.ct ≡ handle made.ct.slot s.cts.given
    same = ap (λ n. handle made.ct.slot n) made.stamp

    live : map handle_of (with_counter made.ct.slot s).cts.live ≡ hs.counters ++ made.ct ∷ []
    live = map-append handle_of s.cts.live _ ∙ ap₂ (λ xs h. xs ++ h ∷ []) all.live (sym same)

    there : AreMade cells (call ∷ []) s (with_counter made.ct.slot s) hs (with_counter_handle made.ct hs)
    there = record {
      state = λ k g. ap (λ n. with_counter n s) (sym (tells-last k.ct hs.counters made.ct g.counters) ∙ ap k.ct (sym all.counters))
          ∙ sym (is k);
      kept = front;
      all = record {
        counters = ap (λ n. n + 1) all.counters ∙ sym (length-push hs.counters made.ct);
        entries = all.entries;
        descriptors =
            all.descriptors;
        live = live;
      };
      counted = ap (λ n. record (counted_in hs) { counters = n }) (length-push hs.counters made.ct ∙ add-one (length hs.counters))
          ∙ sym counts;
      room = refl;
      ranks = refl;
      limits = refl;
    }

pub made-done : (cells : List ℕ) (s t : State) (hs left : Handles) → NewCounter s t hs left → AreAllOf s hs →
    AreMade cells (CtDone ∷ []) s t hs left
unfolding call_made
made-done cells s t hs left made all = made-counter cells CtDone s t hs left made all (λ k. refl) refl

pub made-cell : (cells : List ℕ) (c : ℕ) (s t : State) (hs left : Handles) → NewCounter s t hs left → AreAllOf s hs →
    AreMade cells (CtCell c ∷ []) s t hs left
unfolding call_made
made-cell cells c s t hs left made all = made-counter cells (CtCell c) s t hs left made all (λ k. refl) refl

-- ---- a portal table index
pub made-index : (cells : List ℕ) (s t : State) (hs : Handles) → t ≡ with_index 0 None s → AreAllOf s hs →
    AreMade cells (PtAlloc ∷ []) s t hs hs
unfolding call_made
made-index cells s t hs e all = made-plain cells PtAlloc s t hs (with_index 0 None) e (λ k g. refl) refl
    (record { counters = all.counters; entries = all.entries; descriptors = all.descriptors; live = all.live }) refl refl

-- ---- a descriptor, the first
pub made-bound : (cells : List ℕ) (n : ℕ) (remote : Bool) (done : Handle) (s t : State) (hs left : Handles) →
    NewDescriptor (whole_region done n remote) s t hs left
    → ((f : ℕ → ℕ) → Tells f hs.counters → done ≡ handle (f 0) 0) → AreAllOf s hs → AreMade cells (MdBind n remote ∷ []) s t hs left
unfolding call_made
made-bound cells n remote done s t hs left new is all =
    subst (λ (x : Handles). AreMade cells (MdBind n remote ∷ []) s t hs x) (sym new.left)
    (subst (λ (x : State). AreMade cells (MdBind n remote ∷ []) s x hs (with_descriptor_handle new.made hs)) (sym new.state) there)
  where
    there : AreMade cells (MdBind n remote ∷ []) s (with_bound new.made.slot (whole_region done n remote) s) hs
        (with_descriptor_handle new.made hs)
    there = record {
      state = λ k g. ap₂ (λ slot d. with_bound slot (whole_region d n remote) s)
          (sym (tells-last (λ n. k.md) hs.descriptors new.made g.descriptors)) (is k.ct g.counters);
      kept = λ k g. record {
        counters = g.counters;
        entries = g.entries;
        descriptors = tells-front (λ n. k.md) hs.descriptors new.made
            g.descriptors;
      };
      all = record {
        counters = all.counters;
        entries = all.entries;
        descriptors = ap (λ n. n + 1) all.descriptors
            ∙ sym (length-push hs.descriptors new.made);
        live = all.live;
      };
      counted = ap (λ n. record (counted_in hs) { descriptors = n }) (length-push hs.descriptors new.made
          ∙ add-one (length hs.descriptors));
      room = refl;
      ranks = refl;
      limits = refl;
    }

-- ---- an entry, in either list
made-linked : (cells : List ℕ) (call : Call) (list : EntryList) (e : Entry) (s t : State) (hs left : Handles) → e.use_once ≡ false →
    NewEntry list e s t hs left → AreAllOf s hs
    → ((k : Slots) → Agrees k hs → call_made k cells call s ≡ with_entry (k.me s.entries_given) list e s) →
    count_call call (counted_in hs) ≡ record (counted_in hs) { entries = suc (length hs.entries) } →
    AreMade cells (call ∷ []) s t hs left
made-linked cells call list e s t hs left persistent new all is counts =
    subst (λ (x : Handles). AreMade cells (call ∷ []) s t hs x) (sym new.left)
    (subst (λ (x : State). AreMade cells (call ∷ []) s x hs (with_entry_handle new.made hs)) (sym new.state) there)
  where
    front : (k : Slots) → Agrees k (with_entry_handle new.made hs) → Agrees k hs
    front k g = record { counters = g.counters; entries = tells-front k.me hs.entries new.made g.entries; descriptors = g.descriptors }

    there : AreMade cells (call ∷ []) s (with_entry new.made.slot list e s) hs (with_entry_handle new.made hs)
    there = record {
      state = λ k g. ap (λ slot. with_entry slot list e s) (sym (tells-last k.me hs.entries new.made g.entries)
          ∙ ap k.me (sym all.entries)) ∙ sym (is k (front k g));
      kept = front;
      all = record {
        counters = (linked-counters new.made.slot 0 list e (parts_of s) persistent).given ∙ all.counters;
        entries =
            linked-given new.made.slot 0 list e (parts_of s) persistent ∙ ap (λ n. n + 1) all.entries
            ∙ sym (length-push hs.entries new.made);
        descriptors = all.descriptors;
        live =
            (linked-counters new.made.slot 0 list e (parts_of s) persistent).handles ∙ all.live;
      };
      counted = ap (λ n. record (counted_in hs) { entries = n }) (length-push hs.entries new.made ∙ add-one (length hs.entries))
          ∙ sym counts;
      room = refl;
      ranks = refl;
      limits = refl;
    }

pub made-area : (cells : List ℕ) (start n bits ignored : ℕ) (s t : State) (hs left : Handles) →
    NewEntry InOverflow (area_entry start n bits ignored) s t hs left → AreAllOf s hs → AreMade cells (Overflow start n bits ignored ∷ [])
    s t hs left
unfolding call_made
made-area cells start n bits ignored s t hs left new all = made-linked cells (Overflow start n bits ignored) InOverflow
    (area_entry start n bits ignored) s t hs left refl new all (λ k g. refl) refl

pub made-entry : (cells : List ℕ) (c start n bits ignored : ℕ) (ct : Handle) (s t : State) (hs left : Handles) →
    NewEntry Priority (cell_entry ct start n bits ignored) s t hs left
    → ((k : Slots) → Agrees k hs → ct ≡ counter_at k cells c) → AreAllOf s hs → AreMade cells (MeAppend c start n bits ignored ∷ []) s t
    hs left
unfolding call_made
made-entry cells c start n bits ignored ct s t hs left new is all =
    made-linked cells (MeAppend c start n bits ignored) Priority (cell_entry ct start n bits ignored) s t hs left refl new all
    (λ k g. ap (λ h. with_entry (k.me s.entries_given) Priority (cell_entry h start n bits ignored) s) (sym (is k g))) refl

-- ---- a triggered operation
pub made-operation : (cells : List ℕ) (c threshold : ℕ) (act : PlannedOp) (action : TriggeredOp) (ct : Handle) (s t : State) (hs : Handles)
    → t ≡ with_operation action ct threshold s
    → ((k : Slots) → Agrees k hs → ct ≡ counter_at k cells c) → ((k : Slots) → Agrees k hs → action ≡ action_at k cells act) →
    AreAllOf s hs →
    AreMade cells (Trigger c threshold act ∷ []) s t hs hs
unfolding call_made
made-operation cells c threshold act action ct s t hs e is does all =
    made-plain cells (Trigger c threshold act) s t hs (with_operation action ct threshold) e
    (λ k g. ap₂ (λ d h. with_operation d h threshold s) (sym (does k g)) (sym (is k g))) refl
    (record { counters = all.counters; entries = all.entries; descriptors = all.descriptors; live = all.live }) refl refl

-- ---- a list of calls makes no fewer things than its first call
fits-trans : (a b c : Counted) → Fits a b → Fits b c → Fits a c
fits-trans a b c f g = let p = f.counters in let q = f.entries in let r = f.descriptors in let x = g.counters in let y = g.entries in
    let z = g.descriptors in record { counters = omega arith; entries = omega arith; descriptors = omega arith }

fits-self : (n : Counted) → Fits n n
fits-self n = record { counters = omega arith; entries = omega arith; descriptors = omega arith }

call-grows : (call : Call) (n : Counted) → Fits n (count_call call n)
call-grows PtAlloc n = fits-self n
call-grows CtDone n = record { counters = omega arith; entries = omega arith; descriptors = omega arith }
call-grows (CtCell c) n = record { counters = omega arith; entries = omega arith; descriptors = omega arith }
call-grows (MdBind size remote) n = record { counters = omega arith; entries = omega arith; descriptors = omega arith }
call-grows (Overflow start size bits ignored) n = record { counters = omega arith; entries = omega arith; descriptors = omega arith }
call-grows (MeAppend c start size bits ignored) n = record { counters = omega arith; entries = omega arith; descriptors = omega arith }
call-grows (Trigger c threshold act) n = fits-self n

calls-grow : (calls : List Call) (n : Counted) → Fits n (count_calls calls n)
calls-grow [] n = fits-self n
calls-grow (call ∷ calls) n = fits-trans n (count_call call n) (count_calls calls (count_call call n)) (call-grows call n)
    (calls-grow calls (count_call call n))

-- so the next call finds room
pub next-fits : (calls : List Call) (n room : Counted) (i : ℕ) (d : Call) → i < length calls → Fits (count_calls (drop i calls) n) room →
    Fits (count_call (get_or calls i d) n) room
next-fits calls n room i d lt fits =
    let rest : Fits (count_calls (get_or calls i d ∷ drop (i + 1) calls) n) room =
    subst (λ cs. Fits (count_calls cs n) room) (drop_more calls i d lt) fits in
    fits-trans (count_call (get_or calls i d) n) (count_calls (drop (i + 1) calls) (count_call (get_or calls i d) n)) room
    (calls-grow (drop (i + 1) calls) (count_call (get_or calls i d) n)) rest

-- ---- one turn of the loop over a list of calls
pub record Turned (cells : List ℕ) (calls : List Call) (ranks : ℕ) (limits : Limits) (s t : State) (a b : Handles) (i : ℕ) : Type 0 where
  pub made : AreMade cells (take i calls) s t a b
  pub may : MayCallAll cells ranks limits (counted_in b) (drop i calls)
  pub fits : Fits (count_calls (drop i calls) (counted_in b)) b.room

pub turned : (cells : List ℕ) (calls : List Call) (ranks : ℕ) (limits : Limits) (s t u : State) (a b c : Handles) (i : ℕ) (d : Call) →
    i < length calls
    → AreMade cells (take i calls) s t a b → MayCallAll cells ranks limits (counted_in b) (drop i calls) →
    Fits (count_calls (drop i calls) (counted_in b)) b.room
    → AreMade cells (get_or calls i d ∷ []) t u b c → Turned cells calls ranks limits s u a c (i + 1)
turned cells calls ranks limits s t u a b c i d lt made may fits one =
    let rest : MayCallAll cells ranks limits (counted_in b) (get_or calls i d ∷ drop (i + 1) calls) =
    subst (MayCallAll cells ranks limits (counted_in b)) (drop_more calls i d lt) may in
    let room : Fits (count_calls (drop (i + 1) calls) (count_call (get_or calls i d) (counted_in b))) b.room =
    subst (λ cs. Fits (count_calls cs (counted_in b)) b.room) (drop_more calls i d lt) fits in
    record {
      made = subst (λ cs. AreMade cells cs s u a c) (sym (take_more calls i d lt))
          (made-next cells (take i calls) (get_or calls i d) s t u a b c made one);
      may = subst (λ n. MayCallAll cells ranks limits n (drop (i + 1) calls)) (sym one.counted) rest.1;
      fits = subst (λ r. Fits (count_calls (drop (i + 1) calls) (counted_in c)) r) (sym one.room)
          (subst (λ n. Fits (count_calls (drop (i + 1) calls) n) b.room) (sym one.counted) room);
    }
