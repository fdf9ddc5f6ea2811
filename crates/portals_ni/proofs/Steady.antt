-- What a change of the counting events and of the event queues leaves: the limit, what is live, and sums within the range.
use Rattle.std.proofs.Common.{◌≡◌, ℕ, ◌+◌, ◌-◌, ◌≤◌, true, false, List, [], ◌∷◌, ◌++◌, Option, Some, None, min, if◌then◌else◌, refl, sym}
use Rattle.std.proofs.Common.{subst, arith, ◌∙◌}
use Rattle.std.specs.Prelude.{All, option_map}
use Rattle.std.proofs.Math.Nat.{min-le_right}
use Rattle.std.proofs.lemmas.List.Elements.{All-weaker}
use Rattle.ptl_types.specs.declared.handles.Handle.{Handle}
use Rattle.ptl_types.specs.declared.handles.Count.{Count}
use Rattle.ptl_types.specs.declared.events.Event.{Event}
use Rattle.ptl_types.specs.declared.events.EventKind.{EventKind}
use Rattle.ptl_types.specs.declared.entries.HiddenEntryEvents.{HiddenEntryEvents}
use Rattle.ptl_types.specs.declared.entries.HiddenDescriptorEvents.{HiddenDescriptorEvents}
use Rattle.ptl_types.specs.declared.calls.TriggeredOp.{TriggeredOp}
use Rattle.ptl_types.specs.declared.calls.TriggeredOp.TheVariants.{Put, Get, Atomic, FetchAtomic, Swap, Inc, Set}
use Rattle.ptl_types.specs.Handles.{same_handle, top}
use Rattle.ni_model.specs.declared.Bound.{Bound}
use Rattle.ni_model.specs.declared.IndexedHeader.{IndexedHeader}
use Rattle.ni_model.specs.Tables.{Live, Table, lookup, change, changed, is_live, is_live_or_none, with_new, without}
use Rattle.ni_model.specs.Counts.{total, successes, bump, counted}
use Rattle.ni_model.specs.Queues.{Waiting, add_event, raised}
use Rattle.ni_model.specs.Lists.{Index, queue_of}
use Rattle.ni_model.specs.Events.{header_event, kind_taken, free_event}
use Rattle.ni_model.specs.Shown.{descriptor_shows, entry_shows, told_of_descriptor, told_of_entry, where_shown}
use Rattle.ni_model.specs.Arrive.{Side}
use Rattle.ni_model.specs.Append.{each_counted, gone_raised, each_gone, queue_at, frees}
use Rattle.ni_model.specs.Refusals.{counts_on_live}
use Rattle.ni_model.specs.State.{Posted}
use Rattle.portals_ni.specs.Lasting.{HasEntries, EntryIsLive, QueueIsLive, BoundIsLive, OperationIsLive, SumsFit}
use Rattle.portals_ni.proofs.Counts.{live-change, live-push, lookup-change, lookup-changed, lookup-without, lookup-gone}
use Rattle.portals_ni.proofs.Parts.{weaker-entries}
use Rattle.ni_objects.proofs.users.SumLemmas.{same-is}

-- the limit is the same, and what was live is live
pub record Grows {A : Type 0} (old new : Table A) : Type 0 where
  pub limit : new.limit ≡ old.limit
  pub live : (k : Handle) → is_live k old ≡ true → is_live k new ≡ true

module _ {A : Type 0} where
  pub grows-same : (t : Table A) → Grows t t
  grows-same t = record { limit = refl; live = λ k is. is }

  pub grows-twice : (a b c : Table A) → Grows a b → Grows b c → Grows a c
  grows-twice a b c p q = record { limit = q.limit ∙ p.limit; live = λ k is. q.live k (p.live k is) }

  pub grows-changed : (h : Handle) (f : A → A) (t : Table A) → Grows t (changed h f t)
  grows-changed h f t = record { limit = refl; live = λ k is. live-change k h f t.live ∙ is }

  pub grows-new : (slot : ℕ) (w : A) (t : Table A) → Grows t (with_new slot w t)
  grows-new slot w t = record { limit = refl; live = λ k is. live-push k _ t.live is }

  pub grows-or-none : (o : Option Handle) (old new : Table A) → Grows old new → is_live_or_none o old ≡ true → is_live_or_none o new ≡ true
  grows-or-none None old new grows is = refl
  grows-or-none (Some h) old new grows is = grows.live h is

-- ---- event queues

pub grows-raised : (eq : Option Handle) (e : Event) (t : Table Waiting) → Grows t (raised eq e t)
grows-raised None e t = grows-same t
grows-raised (Some h) e t = grows-changed h (add_event e) t

pub grows-entry : (o : HiddenEntryEvents) (eq : Option Handle) (e : Event) (t : Table Waiting) → Grows t (told_of_entry o eq e t)
grows-entry o eq e t = grows-raised (where_shown (entry_shows o e) eq) e t

pub grows-descriptor : (o : HiddenDescriptorEvents) (eq : Option Handle) (e : Event) (t : Table Waiting) →
    Grows t (told_of_descriptor o eq e t)
grows-descriptor o eq e t = grows-raised (where_shown (descriptor_shows o e) eq) e t

pub grows-gone : (kind : EventKind) (o : HiddenEntryEvents) (s : Side) (left : List IndexedHeader) (a : IndexedHeader)
    (t : Table Waiting) → Grows t (gone_raised kind o s left a t)
grows-gone kind o s left a t =
    let told : Table Waiting = told_of_entry o (queue_at a.pt s) (header_event kind a) t in
    let freed : Table Waiting = told_of_entry a.hidden (queue_at a.pt s) (free_event a.pt) told in
    elim (frees s left a) as (λ b. Grows t (if b then freed else told)) [
      | true ↦ grows-twice t told freed (grows-entry o (queue_at a.pt s) (header_event kind a) t)
          (grows-entry a.hidden (queue_at a.pt s) (free_event a.pt) told)
      | false ↦ grows-entry o (queue_at a.pt s) (header_event kind a) t
    ]

pub grows-each_gone : (o : HiddenEntryEvents) (s : Side) (stay found : List IndexedHeader) (t : Table Waiting) →
    Grows t (each_gone o s stay found t)
grows-each_gone o s stay [] t = grows-same t
grows-each_gone o s stay (a ∷ found) t =
    let next : Table Waiting = gone_raised (kind_taken a.header.header.kind) o s (stay ++ found) a t in
    grows-twice t next (each_gone o s stay found next) (grows-gone (kind_taken a.header.header.kind) o s (stay ++ found) a t)
    (grows-each_gone o s stay found next)

-- ---- counting events

-- and sums stay within the range
pub record CountsOn (old new : Table Count) : Type 0 where
  pub grows : Grows old new
  pub sums : SumsFit old → SumsFit new

pub counts-same : (t : Table Count) → CountsOn t t
counts-same t = record { grows = grows-same t; sums = λ all. all }

pub counts-twice : (a b c : Table Count) → CountsOn a b → CountsOn b c → CountsOn a c
counts-twice a b c p q = record { grows = grows-twice a b c p.grows q.grows; sums = λ all. q.sums (p.sums all) }

-- what may be looked up
abbrev pub FitsAt : Handle → List (Live Count) → Type 0
FitsAt k xs = (c : Count) → lookup k xs ≡ Some c → total c ≤ top

sum-mapped : (f : Count → Count) (o : Option Count) (c : Count) → ((b : Count) → o ≡ Some b → total (f b) ≤ top) →
    option_map f o ≡ Some c → total c ≤ top
sum-mapped f None c fits e = cc
sum-mapped f (Some b) c fits e = let same : f b ≡ c = cc in subst (λ (x : Count). total x ≤ top) same (fits b refl)

sum-changed : (h k : Handle) (f : Count → Count) (xs : List (Live Count)) →
    ((c : Count) → lookup h xs ≡ Some c → total c ≤ top → total (f c) ≤ top) → FitsAt k xs → FitsAt k (change h f xs)
sum-changed h k f xs fits all = λ c e.
    elim (same_handle h k) as (λ b. same_handle h k ≡ b → total c ≤ top) [
      | true ↦ λ same.
          let is : h ≡ k = same-is h k same in
          let here : lookup h (change h f xs) ≡ Some c = subst (λ (x : Handle). lookup x (change h f xs) ≡ Some c) (sym is) e in
          sum-mapped f (lookup h xs) c (λ b found. fits b found (all b (subst (λ (x : Handle). lookup x xs ≡ Some b) is found)))
          (sym (lookup-changed h f xs) ∙ here)
      | false ↦ λ apart. all c (sym (lookup-change k h f xs apart) ∙ e)
    ] refl

pub counts-changed : (h : Handle) (f : Count → Count) (t : Table Count) →
    ((c : Count) → lookup h t.live ≡ Some c → total c ≤ top → total (f c) ≤ top) → CountsOn t (changed h f t)
counts-changed h f t fits = record { grows = grows-changed h f t; sums = λ all k. sum-changed h k f t.live fits (all k) }

sum-pushed : (k : Handle) (x : Live Count) (xs : List (Live Count)) → total x.value ≤ top → FitsAt k xs → FitsAt k (xs ++ x ∷ [])
sum-pushed k x [] new old = λ c e.
    elim (same_handle x.handle k) as (λ b. (if b then Some x.value else None) ≡ Some c → total c ≤ top) [
      | true ↦ λ is. let same : x.value ≡ c = cc in subst (λ (y : Count). total y ≤ top) same new
      | false ↦ λ is. cc
    ] e
sum-pushed k x (y ∷ ys) new old = λ c e.
    elim (same_handle y.handle k) as (λ b. ((d : Count) → (if b then Some y.value else lookup k ys) ≡ Some d → total d ≤ top) →
    (if b then Some y.value else lookup k (ys ++ x ∷ [])) ≡ Some c → total c ≤ top) [
      | true ↦ λ all is. all c is
      | false ↦ λ all is. sum-pushed k x ys new all c is
    ] old e

pub sums-without : (h : Handle) (t : Table Count) → SumsFit t → SumsFit (without h t)
sums-without h t all = λ k c e.
    elim (same_handle k h) as (λ b. same_handle k h ≡ b → total c ≤ top) [
      | true ↦ λ same. let none : lookup k (without h t).live ≡ None = lookup-gone k h t.live same in cc
      | false ↦ λ apart. all k c (sym (lookup-without k h t.live apart) ∙ e)
    ] refl

bump-fits : (by c : Count) → total c ≤ top → total (bump by c) ≤ top
bump-fits by c fits =
    let s : ℕ = min by.success (top - (c.success + c.failure)) in
    let first : s ≤ top - (c.success + c.failure) = min-le_right by.success (top - (c.success + c.failure)) in
    let second : min by.failure (top - (c.success + s + c.failure)) ≤ top - (c.success + s + c.failure) =
    min-le_right by.failure (top - (c.success + s + c.failure)) in
    omega (arith, first, second, fits)

pub counts-counted : (ct : Option Handle) (by : Count) (t : Table Count) → CountsOn t (counted ct by t)
counts-counted None by t = counts-same t
counts-counted (Some h) by t = counts-changed h (bump by) t (λ c found fits. bump-fits by c fits)

pub counts-each : (ct : Option Handle) (found : List IndexedHeader) (t : Table Count) → CountsOn t (each_counted ct found t)
counts-each ct [] t = counts-same t
counts-each ct (a ∷ found) t = counts-twice t (counted ct (successes 1) t) (each_counted ct found (counted ct (successes 1) t))
    (counts-counted ct (successes 1) t) (counts-each ct found (counted ct (successes 1) t))

pub counts-new : (slot : ℕ) (t : Table Count) → CountsOn t (with_new slot (successes 0) t)
counts-new slot t = record { grows = grows-new slot (successes 0) t; sums = λ all k. sum-pushed k _ t.live (omega arith) (all k) }

-- ---- what is named stays live

pub entries-on : (old new : Table Count) (is : List (Option Index)) → Grows old new → All (HasEntries (EntryIsLive old)) is →
    All (HasEntries (EntryIsLive new)) is
entries-on old new is grows all =
    All-weaker (HasEntries (EntryIsLive old)) (HasEntries (EntryIsLive new))
    (weaker-entries (EntryIsLive old) (EntryIsLive new) (λ x live. grows-or-none x.entry.ct old new grows live)) is all

pub queues-on : (old new : Table Waiting) (is : List (Option Index)) → Grows old new → All (QueueIsLive old) is → All (QueueIsLive new) is
queues-on old new is grows all = All-weaker (QueueIsLive old) (QueueIsLive new) (λ o live. grows-or-none (queue_of o) old new grows live)
    is all

pub bounds-on : (c d : Table Count) (e f : Table Waiting) (xs : List (Live Bound)) → Grows c d → Grows e f → All (BoundIsLive c e) xs →
    All (BoundIsLive d f) xs
bounds-on c d e f xs cts eqs all = All-weaker (BoundIsLive c e) (BoundIsLive d f)
    (λ x live. (grows-or-none x.value.md.ct c d cts live.0, grows-or-none x.value.md.eq e f eqs live.1)) xs all

action-on : (d : TriggeredOp) (old new : Table Count) → Grows old new → counts_on_live d old ≡ true → counts_on_live d new ≡ true
action-on (Put a) old new grows is = refl
action-on (Get g) old new grows is = refl
action-on (Atomic a op ty) old new grows is = refl
action-on (FetchAtomic g a op ty) old new grows is = refl
action-on (Swap g a op ty operand) old new grows is = refl
action-on (Inc ct by) old new grows is = grows.live ct is
action-on (Set ct to) old new grows is = grows.live ct is

pub operations-on : (old new : Table Count) (ps : List Posted) → Grows old new → All (OperationIsLive old) ps → All (OperationIsLive new) ps
operations-on old new ps grows all = All-weaker (OperationIsLive old) (OperationIsLive new)
    (λ p live. (grows.live p.ct live.0, action-on p.action old new grows live.1)) ps all
