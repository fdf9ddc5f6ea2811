-- What becomes of the tables: which handles are live after a thing comes, changes or goes, a start and an answer that comes home.
use Rattle.std.proofs.Common.{◌≡◌, ℕ, Bool, true, false, ◌&&◌, ◌||◌, not, ◌==◌, List, [], ◌∷◌, ◌++◌, filter, Option, Some, None}
use Rattle.std.proofs.Common.{if◌then◌else◌, refl, ap, sym, ◌∙◌, is_some}
use Rattle.std.proofs.Math.Bool.{or-true, or-false, and-false, and-true, or_assoc}
use Rattle.std.proofs.lemmas.Bool.{or_right}
use Rattle.ptl_types.specs.declared.handles.Handle.{Handle}
use Rattle.ptl_types.specs.declared.handles.Count.{Count}
use Rattle.ptl_types.specs.declared.entries.HiddenEntryEvents.{HiddenEntryEvents}
use Rattle.ptl_types.specs.declared.entries.HiddenDescriptorEvents.{HiddenDescriptorEvents}
use Rattle.ptl_types.specs.declared.entries.List.{List as EntryList}
use Rattle.ptl_types.specs.declared.entries.List.TheVariants.{Priority, Overflow}
use Rattle.ptl_types.specs.declared.headers.Header.{Header}
use Rattle.ptl_types.specs.declared.calls.TriggeredOp.{TriggeredOp}
use Rattle.ptl_types.specs.Messages.{Sent}
use Rattle.ptl_types.specs.declared.events.Event.{Event}
use Rattle.ptl_types.specs.declared.events.EventKind.{EventKind}
use Rattle.ptl_types.specs.Handles.{same_handle}
use Rattle.portals_ni.proofs.Counts.{live-change, lookup-without, lookup-gone}
use Rattle.ni_model.specs.declared.Bound.{Bound}
use Rattle.ni_model.specs.declared.Linked.{Linked}
use Rattle.ni_model.specs.declared.IndexedHeader.{IndexedHeader}
use Rattle.ni_model.specs.declared.Found.{Found}
use Rattle.ni_model.specs.Tables.{Live, Table, change, changed, has_slot, is_live, lookup, with_new, without}
use Rattle.ni_model.specs.Counts.{bump, counted, successes}
use Rattle.ni_model.specs.Queues.{Waiting, add_event, raised}
use Rattle.ni_model.specs.Lists.{Index, index_at, queue_of}
use Rattle.ni_model.specs.Shown.{where_shown, entry_shows, descriptor_shows, told_of_entry, told_of_descriptor}
use Rattle.ni_model.specs.Events.{header_event, free_event, kind_taken, unlink_event, send_event, answer_event, is_reply, asks_event}
use Rattle.ni_model.specs.Arrive.{Side, counter_of, counts_after, delivery_raised, events_after, is_over}
use Rattle.ni_model.specs.Append.{each_counted, each_gone, frees, gone_events, gone_raised}
use Rattle.ni_model.specs.Starts.{awaits_more, one_awaited, counted_on, header_of, send_told, started, started_by}
use Rattle.ni_model.specs.Answers.{Home, answered, answered_at, awaits_less, bound_at, came_home, counter_home, events_home, is_due}
use Rattle.ni_model.specs.Answers.{lost_answer, one_answer, one_less}
use Rattle.slot_laws.proofs.terms.Lasting.{Gains, Lasts, Loses}

-- ---- tests

-- of either, where each leads on
pub either_more : (a b c d : Bool) → (a ≡ true → c ≡ true) → (b ≡ true → d ≡ true) → (a || b) ≡ true → (c || d) ≡ true
either_more true b c d f g e = rw (f refl) refl
either_more false b c d f g e = or_right c d (g e)

module _ {A : Type 0} where
  -- ---- what lasts

  pub lasts_self : (t : Table A) → Lasts t t
  lasts_self t = record { given = refl; live = λ h. refl; slots = λ k. refl }

  pub lasts_twice : (a b c : Table A) → Lasts a b → Lasts b c → Lasts a c
  lasts_twice a b c p q = record {
    given = q.given ∙ p.given;
    live = λ h. q.live h ∙ p.live h;
    slots = λ k. q.slots k ∙ p.slots k;
  }

  slots_change : (k : ℕ) (h : Handle) (f : A → A) (xs : List (Live A)) → has_slot k (change h f xs) ≡ has_slot k xs
  slots_change k h f [] = refl
  slots_change k h f (x ∷ xs) = ap (λ b. (x.handle.slot == k) || b) (slots_change k h f xs)

  pub lasts_changed : (h : Handle) (f : A → A) (t : Table A) → Lasts t (changed h f t)
  lasts_changed h f t = record { given = refl; live = λ k. live-change k h f t.live; slots = λ k. slots_change k h f t.live }

  -- ---- a thing comes

  live_push : (h : Handle) (x : Live A) (xs : List (Live A)) →
      is_some (lookup h (xs ++ x ∷ [])) ≡ (same_handle x.handle h || is_some (lookup h xs))
  live_push h x [] = elim (same_handle x.handle h) as (λ b. is_some (if b then Some x.value else None) ≡ (b || false)) [
    | true ↦ refl
    | false ↦ refl
  ]
  live_push h x (y ∷ ys) =
      elim (same_handle y.handle h) as (λ b. is_some (if b then Some y.value else lookup h (ys ++ x ∷ []))
      ≡ (same_handle x.handle h || is_some (if b then Some y.value else lookup h ys))) [
        | true ↦ sym (or-true (same_handle x.handle h))
        | false ↦ live_push h x ys
      ]

  slots_push : (k : ℕ) (x : Live A) (xs : List (Live A)) → has_slot k (xs ++ x ∷ []) ≡ (has_slot k xs || x.handle.slot == k)
  slots_push k x [] = or-false (x.handle.slot == k)
  slots_push k x (y ∷ ys) =
      ap (λ b. (y.handle.slot == k) || b) (slots_push k x ys) ∙ sym (or_assoc (y.handle.slot == k) (has_slot k ys) (x.handle.slot == k))

  pub gains_new : (slot : ℕ) (w : A) (t : Table A) → Gains slot t (with_new slot w t)
  gains_new slot w t = record {
    given = refl;
    live = λ h. live_push h _ t.live;
    slots = λ k. slots_push k _ t.live;
  }

  -- ---- a thing goes

  live_without : (h gone : Handle) (t : Table A) → is_live h (without gone t) ≡ (is_live h t && not (same_handle h gone))
  live_without h gone t =
      elim (same_handle h gone) as (λ b. same_handle h gone ≡ b → is_live h (without gone t) ≡ (is_live h t && not b)) [
        | true ↦ λ e. ap is_some (lookup-gone h gone t.live e) ∙ sym (and-false (is_live h t))
        | false ↦ λ e. ap is_some (lookup-without h gone t.live e) ∙ sym (and-true (is_live h t))
      ] refl

  slots_filter : (p : Live A → Bool) (k : ℕ) (xs : List (Live A)) → has_slot k (filter p xs) ≡ true → has_slot k xs ≡ true
  slots_filter p k [] e = e
  slots_filter p k (x ∷ xs) e =
      elim (p x) as (λ b. has_slot k (if b then x ∷ filter p xs else filter p xs) ≡ true → (x.handle.slot == k || has_slot k xs) ≡ true) [
        | true ↦ λ is. either_more (x.handle.slot == k) _ (x.handle.slot == k) _ (λ here. here) (slots_filter p k xs) is
        | false ↦ λ is. or_right (x.handle.slot == k) _ (slots_filter p k xs is)
      ] e

  pub loses_without : (gone : Handle) (t : Table A) → Loses gone t (without gone t)
  loses_without gone t = record {
    given = refl;
    live = λ h. live_without h gone t;
    slots = λ k. slots_filter (λ x. not (same_handle x.handle gone)) k t.live;
  }

-- ---- the tables under what the network does

pub lasts_counted : (ct : Option Handle) (by : Count) (t : Table Count) → Lasts t (counted ct by t)
lasts_counted None by t = lasts_self t
lasts_counted (Some h) by t = lasts_changed h (bump by) t

pub lasts_each_counted : (ct : Option Handle) (found : List IndexedHeader) (t : Table Count) → Lasts t (each_counted ct found t)
lasts_each_counted ct [] t = lasts_self t
lasts_each_counted ct (a ∷ found) t =
    lasts_twice t (counted ct (successes 1) t) _ (lasts_counted ct (successes 1) t)
    (lasts_each_counted ct found (counted ct (successes 1) t))

pub lasts_counts_after : (x : Linked) (t : Table Count) → Lasts t (counts_after x t)
lasts_counts_after x t = lasts_counted (counter_of x) (successes 1) t

pub lasts_raised : (eq : Option Handle) (e : Event) (t : Table Waiting) → Lasts t (raised eq e t)
lasts_raised None e t = lasts_self t
lasts_raised (Some h) e t = lasts_changed h (add_event e) t

pub lasts_told_of_entry : (o : HiddenEntryEvents) (eq : Option Handle) (e : Event) (t : Table Waiting) → Lasts t (told_of_entry o eq e t)
lasts_told_of_entry o eq e t = lasts_raised (where_shown (entry_shows o e) eq) e t

pub lasts_told_of_descriptor : (o : HiddenDescriptorEvents) (eq : Option Handle) (e : Event) (t : Table Waiting) →
    Lasts t (told_of_descriptor o eq e t)
lasts_told_of_descriptor o eq e t = lasts_raised (where_shown (descriptor_shows o e) eq) e t

pub lasts_gone_events : (kind : EventKind) (o : HiddenEntryEvents) (is : List (Option Index)) (freed : Bool) (a : IndexedHeader)
    (t : Table Waiting) → Lasts t (gone_events kind o is freed a t)
lasts_gone_events kind o is false a t = lasts_told_of_entry o (queue_of (index_at a.pt is)) (header_event kind a) t
lasts_gone_events kind o is true a t =
    let told = told_of_entry o (queue_of (index_at a.pt is)) (header_event kind a) t in
    lasts_twice t told _ (lasts_told_of_entry o (queue_of (index_at a.pt is)) (header_event kind a) t)
    (lasts_told_of_entry a.hidden (queue_of (index_at a.pt is)) (free_event a.pt) told)

pub lasts_gone_raised : (kind : EventKind) (o : HiddenEntryEvents) (s : Side) (left : List IndexedHeader) (a : IndexedHeader)
    (t : Table Waiting) → Lasts t (gone_raised kind o s left a t)
lasts_gone_raised kind o s left a t = lasts_gone_events kind o s.indices (frees s left a) a t

pub lasts_each_gone : (o : HiddenEntryEvents) (s : Side) (stay found : List IndexedHeader) (t : Table Waiting) →
    Lasts t (each_gone o s stay found t)
lasts_each_gone o s stay [] t = lasts_self t
lasts_each_gone o s stay (a ∷ found) t =
    let gone = gone_raised (kind_taken a.header.header.kind) o s (stay ++ found) a t in
    lasts_twice t gone _ (lasts_gone_raised (kind_taken a.header.header.kind) o s (stay ++ found) a t)
    (lasts_each_gone o s stay found gone)

-- a message's event and the unlinking's
delivery_lasts : (list : EntryList) (x : Linked) (h : Header) (eq : Option Handle) (t : Table Waiting) →
    Lasts t (delivery_raised (record { list = list; linked = x }) h eq t)
delivery_lasts Priority x h eq t = lasts_told_of_entry x.entry.hidden eq _ t
delivery_lasts Overflow x h eq t = lasts_self t

pub lasts_events_after : (f : Found) (h : Header) (eq : Option Handle) (t : Table Waiting) → Lasts t (events_after f h eq t)
lasts_events_after f h eq t =
    let told = delivery_raised f h eq t in
    let first : Lasts t told = delivery_lasts f.list f.linked h eq t in
    let event = unlink_event h.pt f.linked.entry.match_bits in
    let unlinking = told_of_entry f.linked.entry.hidden eq event told in
    elim (is_over f.linked h) as (λ b. Lasts t (if b then unlinking else told)) [
      | true ↦ lasts_twice t told unlinking first (lasts_told_of_entry f.linked.entry.hidden eq event told)
      | false ↦ first
    ]

-- ---- and under starts and answers

pub lasts_awaits_more : (home : Option Handle) (t : Table Bound) → Lasts t (awaits_more home t)
lasts_awaits_more None t = lasts_self t
lasts_awaits_more (Some h) t = lasts_changed h one_awaited t

pub lasts_awaits_less : (home : Option Handle) (t : Table Bound) → Lasts t (awaits_less home t)
lasts_awaits_less None t = lasts_self t
lasts_awaits_less (Some h) t = lasts_changed h one_less t

pub lasts_send_told : (o : Option Bound) (h : Header) (t : Table Waiting) → Lasts t (send_told o h t)
lasts_send_told None h t = lasts_self t
lasts_send_told (Some b) h t = lasts_told_of_descriptor b.md.hidden b.md.eq (send_event h) t

pub lasts_events_home : (h : Header) (b : Bound) (t : Table Waiting) → Lasts t (events_home h b t)
lasts_events_home h b t =
    let told = told_of_descriptor b.md.hidden b.md.eq (answer_event b h) t in
    elim (is_reply h.kind || asks_event h.ack) as (λ c. Lasts t (if c then told else t)) [
      | true ↦ lasts_told_of_descriptor b.md.hidden b.md.eq (answer_event b h) t
      | false ↦ lasts_self t
    ]

-- the tables of an initiator
pub record LastsHome (p q : Home) : Type 0 where
  pub cts : Lasts p.cts q.cts
  pub eqs : Lasts p.eqs q.eqs
  pub mds : Lasts p.mds q.mds

home_self : (p : Home) → LastsHome p p
home_self p = record { cts = lasts_self p.cts; eqs = lasts_self p.eqs; mds = lasts_self p.mds }

started_by_lasts : (p : Home) (d : TriggeredOp) (o : Option Header) → LastsHome p (started_by p d o).home
started_by_lasts p d None = home_self p
started_by_lasts p d (Some h) = record {
  cts = lasts_counted _ (successes 1) p.cts;
  eqs = lasts_send_told (bound_at (counted_on d) p.mds) h p.eqs;
  mds = lasts_awaits_more h.home p.mds;
}

pub lasts_started : (rank : ℕ) (p : Home) (d : TriggeredOp) → LastsHome p (started rank p d).home
unfolding started
lasts_started rank p d = started_by_lasts p d (header_of rank d)

answered_at_lasts : (p : Home) (m : Sent) (o : Option Bound) → LastsHome p (answered_at p m o).home
answered_at_lasts p m None = home_self p
answered_at_lasts p m (Some b) =
    elim (is_due m.header b) as (λ c. LastsHome p (if c then came_home p m b else lost_answer p).home) [
      | true ↦ record {
        cts = lasts_counted (counter_home m.header b) (one_answer m.header.ok) p.cts;
        eqs = lasts_events_home m.header b p.eqs;
        mds = lasts_awaits_less m.header.home p.mds;
      }
      | false ↦ home_self p
    ]

pub lasts_answered : (p : Home) (m : Sent) → LastsHome p (answered p m).home
unfolding answered
lasts_answered p m = answered_at_lasts p m (bound_at m.header.home p.mds)
