-- Calls of a log that ask, set, add, take or free, and those that make a thing in a table: alike in two runs, in order in each.
use Rattle.std.proofs.Common.{◌≡◌, ℕ, true, false, nat_lt, [], Option, Some, None, refl, ap, ap₂, ◌∙◌, length}
use Rattle.ptl_types.specs.declared.handles.Handle.{Handle}
use Rattle.ptl_types.specs.declared.handles.Count.{Count}
use Rattle.ptl_types.specs.declared.entries.Descriptor.{Descriptor as Said}
use Rattle.ptl_types.specs.declared.calls.NiFault.{NiFault}
use Rattle.ni_model.specs.Tables.{handle, with_new}
use Rattle.ni_model.specs.Queues.{Waiting, queue}
use Rattle.ni_model.specs.Refusals.{alloc_fault, bind_fault}
use Rattle.ni_model.specs.State.{State}
use Rattle.ni_model.specs.Calls.{ct_alloc, ends_by, eq_alloc, md_bind, with_bound, with_counter}
use Rattle.std.specs.List.{slice_get}
use Rattle.ni_model.specs.Answers.{is_awaited}
use Rattle.ni_model.specs.Ready.{ready_numbers, ready_numbers_to}
use Rattle.match_lists.specs.unexpected.Places.{header_at}
use Rattle.guarded_ni.specs.declared.faults.Misuse.TheVariants as misuses
use Rattle.guarded_ni.specs.Misuses.{unless}
use Rattle.log_words.specs.declared.call_fields.said.MdSaid.{MdSaid}
use Rattle.log_lines.specs.declared.calls.Call.{Call}
use Rattle.log_lines.specs.declared.calls.Call.TheVariants as said
use Rattle.log_answers.specs.declared.owed.Owed.{Owed}
use Rattle.log_answers.specs.declared.owed.Owed.TheVariants as owed
use Rattle.log_answers.specs.declared.owed.Sort.{Sort}
use Rattle.log_answers.specs.declared.owed.Sort.TheVariants.{Counter, Queue, Descriptor}
use Rattle.log_seats.specs.Answers.{After, Answers, EntryAnswers, TableAnswers, is_ready_at, md_of, new, tells, told, unless_misused}
use Rattle.log_seats.specs.Seats.{handle_of, operation_of}
use Rattle.log_seats.specs.declared.seats.Seat.{Seat}
use Rattle.slot_laws.specs.Renaming.{IsRenaming, Renaming}
use Rattle.slot_laws.specs.Told.{renaming_of}
use Rattle.slot_laws.specs.Alike.{AftersAlike, IsConsistent, IsConsistentAfter, KeepsNone, SeatsAlike}
use Rattle.slot_laws.proofs.Refusing.{alloc_fault_renamed, bind_fault_renamed}
use Rattle.slot_laws.proofs.Handles.{md_of_renamed}
use Rattle.slot_laws.proofs.Named.{AreRising}
use Rattle.slot_laws.proofs.SeatOrder.{Stays, ended_ordered, ended_stays, stays_ordered}
use Rattle.slot_laws.proofs.SeatCounts.{ct_inc_stays, ct_set_stays, eq_get_stays}
use Rattle.slot_laws.proofs.SeatAsks.{awaits_alike, awaits_any_alike, ct_get_alike, drops_alike, header_alike, headers_alike}
use Rattle.slot_laws.proofs.SeatAsks.{is_ready_alike, lane_of_alike, pending_alike, read_alike, ready_alike, ready_at_alike}
use Rattle.slot_laws.proofs.SeatAsks.{ready_count_alike, ready_count_to_alike, violations_alike}
use Rattle.slot_laws.proofs.SeatTables.{ct_alloc_alike, eq_alloc_alike, md_bind_alike}
use Rattle.slot_laws.proofs.SeatTables.{ct_free_alike, ct_inc_alike, ct_set_alike, eq_free_alike, eq_get_alike, md_release_alike}
use Rattle.slot_laws.proofs.TableOrder.{awaits_stays, ct_free_ordered, ct_get_stays, eq_free_ordered, header_stays}
use Rattle.slot_laws.proofs.TableOrder.{lane_of_stays, md_release_ordered, number_stays, read_stays}
use Rattle.slot_laws.proofs.TableOrder.{ready_at_stays, ready_stays, yes_stays}
use Rattle.slot_laws.proofs.SeatAnswers.{ended_alike}

-- it leaves the interface as it was
abbrev pub Asks : Call → Type 0
Asks (said.CtGet ct) = Unit {0}
Asks (said.Awaits md) = Unit {0}
Asks said.AwaitsAny = Unit {0}
Asks said.Headers = Unit {0}
Asks (said.Header pt i) = Unit {0}
Asks (said.IsReady t) = Unit {0}
Asks said.Ready = Unit {0}
Asks said.ReadyCount = Unit {0}
Asks (said.ReadyAt i) = Unit {0}
Asks (said.ReadyCountTo rank) = Unit {0}
Asks (said.LaneOf t) = Unit {0}
Asks (said.Read start n) = Unit {0}
Asks said.Pending = Unit {0}
Asks said.Drops = Unit {0}
Asks said.Violations = Unit {0}
Asks _ = ⊥

pub asked_alike : (r : Renaming) → IsRenaming r → KeepsNone r → (s t : Seat) → SeatsAlike r s t → (call : Call) → Asks call →
    (x y : After) → Answers call s x → Answers call t y → AftersAlike r x y
unfolding Answers
asked_alike r k none s t a (said.CtGet ct) asks x y is is' = ended_alike r _ _ x y is is' (ct_get_alike r k none s t a ct)
asked_alike r k none s t a (said.Awaits md) asks x y is is' = ended_alike r _ _ x y is is' (awaits_alike r k none s t a md)
asked_alike r k none s t a said.AwaitsAny asks x y is is' = ended_alike r _ _ x y is is' (awaits_any_alike r k none s t a)
asked_alike r k none s t a said.Headers asks x y is is' = ended_alike r _ _ x y is is' (headers_alike r k none s t a)
asked_alike r k none s t a (said.Header pt i) asks x y is is' = ended_alike r _ _ x y is is' (header_alike r k none s t a pt i)
asked_alike r k none s t a (said.IsReady w) asks x y is is' = ended_alike r _ _ x y is is' (is_ready_alike r k none s t a w)
asked_alike r k none s t a said.Ready asks x y is is' = ended_alike r _ _ x y is is' (ready_alike r k none s t a)
asked_alike r k none s t a said.ReadyCount asks x y is is' = ended_alike r _ _ x y is is' (ready_count_alike r k none s t a)
asked_alike r k none s t a (said.ReadyAt i) asks x y is is' = ended_alike r _ _ x y is is' (ready_at_alike r k none s t a i)
asked_alike r k none s t a (said.ReadyCountTo rank) asks x y is is' =
    ended_alike r _ _ x y is is' (ready_count_to_alike r k none s t a rank)
asked_alike r k none s t a (said.LaneOf w) asks x y is is' = ended_alike r _ _ x y is is' (lane_of_alike r k none s t a w)
asked_alike r k none s t a (said.Read start n) asks x y is is' = ended_alike r _ _ x y is is' (read_alike r k none s t a start n)
asked_alike r k none s t a said.Pending asks x y is is' = ended_alike r _ _ x y is is' (pending_alike r k none s t a)
asked_alike r k none s t a said.Drops asks x y is is' = ended_alike r _ _ x y is is' (drops_alike r k none s t a)
asked_alike r k none s t a said.Violations asks x y is is' = ended_alike r _ _ x y is is' (violations_alike r k none s t a)
asked_alike r k none s t a _ asks x y is is' = absurd asks

pub asked_stays : (s : Seat) (call : Call) → Asks call → (x : After) → Answers call s x → Stays s x
unfolding Answers
asked_stays s (said.CtGet ct) asks x is = ended_stays s _ x is (ct_get_stays s (handle_of Counter s ct))
asked_stays s (said.Awaits md) asks x is = ended_stays s _ x is (awaits_stays s (handle_of Descriptor s md))
asked_stays s said.AwaitsAny asks x is = ended_stays s _ x is (yes_stays s (is_awaited s.nic.mds.live))
asked_stays s said.Headers asks x is = ended_stays s _ x is (number_stays s (length s.nic.headers.unexpected))
asked_stays s (said.Header pt i) asks x is = ended_stays s _ x is (header_stays s (header_at pt i s.nic.headers.unexpected))
asked_stays s (said.IsReady w) asks x is = ended_stays s _ x is (yes_stays s (is_ready_at s.nic (operation_of s w)))
asked_stays s said.Ready asks x is = ended_stays s _ x is (ready_stays s (ready_numbers s.nic))
asked_stays s said.ReadyCount asks x is = ended_stays s _ x is (number_stays s (length (ready_numbers s.nic)))
asked_stays s (said.ReadyAt i) asks x is = ended_stays s _ x is (ready_at_stays s (slice_get (ready_numbers s.nic) i))
asked_stays s (said.ReadyCountTo rank) asks x is = ended_stays s _ x is (number_stays s (length (ready_numbers_to rank s.nic)))
asked_stays s (said.LaneOf w) asks x is = ended_stays s _ x is (lane_of_stays s (operation_of s w))
asked_stays s (said.Read start n) asks x is = ended_stays s _ x is (read_stays s start n)
asked_stays s said.Pending asks x is = ended_stays s _ x is (number_stays s (length s.nic.pending.waiting))
asked_stays s said.Drops asks x is = ended_stays s _ x is (number_stays s s.nic.drops)
asked_stays s said.Violations asks x is = ended_stays s _ x is (number_stays s s.nic.violations)
asked_stays s _ asks x is = absurd asks

pub asked_ordered : (s : Seat) → IsConsistent s → (call : Call) → Asks call → (x : After) → Answers call s x → IsConsistentAfter x
asked_ordered s ordered call asks x is = stays_ordered s x (asked_stays s call asks x is) ordered

-- ---- it sets, adds, takes or frees

abbrev pub Alters : Call → Type 0
Alters (said.CtSet ct to) = Unit {0}
Alters (said.CtInc ct by) = Unit {0}
Alters (said.EqGet eq) = Unit {0}
Alters (said.CtFree ct) = Unit {0}
Alters (said.EqFree eq) = Unit {0}
Alters (said.MdRelease md) = Unit {0}
Alters _ = ⊥

pub altered_alike : (r : Renaming) → IsRenaming r → KeepsNone r → (s t : Seat) → SeatsAlike r s t → IsConsistent s → IsConsistent t →
    (call : Call) → Alters call → (x y : After) → Answers call s x → Answers call t y → AftersAlike r x y
unfolding Answers EntryAnswers TableAnswers
altered_alike r k none s t a o o' (said.CtSet ct to) alters x y is is' = ended_alike r _ _ x y is is' (ct_set_alike r k none s t a ct to)
altered_alike r k none s t a o o' (said.CtInc ct by) alters x y is is' = ended_alike r _ _ x y is is' (ct_inc_alike r k none s t a ct by)
altered_alike r k none s t a o o' (said.EqGet eq) alters x y is is' = ended_alike r _ _ x y is is' (eq_get_alike r k none s t a eq)
altered_alike r k none s t a o o' (said.CtFree ct) alters x y is is' = ended_alike r _ _ x y is is' (ct_free_alike r k none s t a o o' ct)
altered_alike r k none s t a o o' (said.EqFree eq) alters x y is is' = ended_alike r _ _ x y is is' (eq_free_alike r k none s t a o o' eq)
altered_alike r k none s t a o o' (said.MdRelease md) alters x y is is' =
    ended_alike r _ _ x y is is' (md_release_alike r k none s t a o o' md)
altered_alike r k none s t a o o' _ alters x y is is' = absurd alters

pub altered_ordered : (s : Seat) → AreRising s → IsConsistent s → (call : Call) → Alters call → (x : After) → Answers call s x →
    IsConsistentAfter x
unfolding Answers EntryAnswers TableAnswers
altered_ordered s rising o (said.CtSet ct to) alters x is =
    ended_ordered _ x is (stays_ordered s _ (ct_set_stays (handle_of Counter s ct) to s) o)
altered_ordered s rising o (said.CtInc ct by) alters x is =
    ended_ordered _ x is (stays_ordered s _ (ct_inc_stays (handle_of Counter s ct) by s) o)
altered_ordered s rising o (said.EqGet eq) alters x is = ended_ordered _ x is (stays_ordered s _ (eq_get_stays (handle_of Queue s eq) s) o)
altered_ordered s rising o (said.CtFree ct) alters x is = ended_ordered _ x is (ct_free_ordered s rising o (handle_of Counter s ct))
altered_ordered s rising o (said.EqFree eq) alters x is = ended_ordered _ x is (eq_free_ordered s rising o (handle_of Queue s eq))
altered_ordered s rising o (said.MdRelease md) alters x is =
    ended_ordered _ x is (md_release_ordered s rising o (handle_of Descriptor s md))
altered_ordered s rising o _ alters x is = absurd alters

-- ---- it makes a thing

-- what is new in both is one thing
abbrev pub OneNew : Renaming → ℕ → Sort → Owed → Owed → Type 0
OneNew r rank sort o o' = (h h' : Handle) → o ≡ owed.New sort h → o' ≡ owed.New sort h' → renaming_of r rank sort h ≡ h'

-- of two calls that are not refused
new_told : (sort : Sort) (o : Option NiFault) (old made : State) (h : Handle) → o ≡ None →
    told (new sort) (ends_by o old made h).answer ≡ owed.New sort h
new_told sort None old made h e = refl
new_told sort (Some f) old made h e = cc

module _ (r : Renaming) (s t : Seat) (a : SeatsAlike r s t) (slot slot' : ℕ) where
  counter_matches : OneNew r s.nic.rank Counter (tells (new Counter) (ct_alloc slot s.nic) s).owed
      (tells (new Counter) (ct_alloc slot' t.nic) t).owed → alloc_fault s.nic.cts ≡ None →
      r.ct (handle slot s.nic.cts.given) ≡ handle slot' s.nic.cts.given
  counter_matches one room =
      one (handle slot s.nic.cts.given) (handle slot' t.nic.cts.given)
      (new_told Counter (alloc_fault s.nic.cts) s.nic (with_counter slot s.nic) (handle slot s.nic.cts.given) room)
      (new_told Counter (alloc_fault t.nic.cts) t.nic (with_counter slot' t.nic) (handle slot' t.nic.cts.given)
      (ap (λ (n : State). alloc_fault n.cts) a.near.nic ∙ alloc_fault_renamed r.ct (λ (c : Count). c) s.nic.cts ∙ room))
      ∙ ap (λ (n : State). handle slot' n.cts.given) a.near.nic

  pub counter_made_alike : (x y : After) → x ≡ tells (new Counter) (ct_alloc slot s.nic) s →
      y ≡ tells (new Counter) (ct_alloc slot' t.nic) t → OneNew r s.nic.rank Counter x.owed y.owed → AftersAlike r x y
  counter_made_alike x y is is' one =
      ended_alike r _ _ x y is is' (ct_alloc_alike r s t a slot slot' (counter_matches
      (λ h h' e e'. one h h' (ap (λ (z : After). z.owed) is ∙ e) (ap (λ (z : After). z.owed) is' ∙ e'))))

  queue_matches : (room : ℕ) → OneNew r s.nic.rank Queue (tells (new Queue) (eq_alloc slot room s.nic) s).owed
      (tells (new Queue) (eq_alloc slot' room t.nic) t).owed → alloc_fault s.nic.eqs ≡ None →
      r.eq (handle slot s.nic.eqs.given) ≡ handle slot' s.nic.eqs.given
  queue_matches room one free =
      one (handle slot s.nic.eqs.given) (handle slot' t.nic.eqs.given)
      (new_told Queue (alloc_fault s.nic.eqs) s.nic (record s.nic { eqs = with_new slot (queue room [] false) s.nic.eqs })
      (handle slot s.nic.eqs.given) free)
      (new_told Queue (alloc_fault t.nic.eqs) t.nic (record t.nic { eqs = with_new slot' (queue room [] false) t.nic.eqs })
      (handle slot' t.nic.eqs.given)
      (ap (λ (n : State). alloc_fault n.eqs) a.near.nic ∙ alloc_fault_renamed r.eq (λ (q : Waiting). q) s.nic.eqs ∙ free))
      ∙ ap (λ (n : State). handle slot' n.eqs.given) a.near.nic

  pub queue_made_alike : (room : ℕ) (x y : After) →
      x ≡ unless_misused (unless (nat_lt 0 room) misuses.NoRoom) s (tells (new Queue) (eq_alloc slot room s.nic) s) →
      y ≡ unless_misused (unless (nat_lt 0 room) misuses.NoRoom) t (tells (new Queue) (eq_alloc slot' room t.nic) t) →
      OneNew r s.nic.rank Queue x.owed y.owed → AftersAlike r x y
  queue_made_alike room x y is is' one =
      ended_alike r _ _ x y is is' (eq_alloc_alike r s t a slot slot' room (λ holds. queue_matches room
      (λ h h' e e'. one h h' (ap (λ (z : After). z.owed) (is ∙ kept s slot holds) ∙ e)
      (ap (λ (z : After). z.owed) (is' ∙ kept t slot' holds) ∙ e'))))
    where
      kept : (u : Seat) (k : ℕ) → nat_lt 0 room ≡ true →
          unless_misused (unless (nat_lt 0 room) misuses.NoRoom) u (tells (new Queue) (eq_alloc k room u.nic) u)
          ≡ tells (new Queue) (eq_alloc k room u.nic) u
      kept u k holds = ap (λ b. unless_misused (unless b misuses.NoRoom) u (tells (new Queue) (eq_alloc k room u.nic) u)) holds

  module _ (k : IsRenaming r) (none : KeepsNone r) (md : MdSaid) where
    bind_same : bind_fault (md_of t md) (length t.nic.memory) t.nic.cts t.nic.eqs t.nic.mds
        ≡ bind_fault (md_of s md) (length s.nic.memory) s.nic.cts s.nic.eqs s.nic.mds
    bind_same =
        ap₂ (λ (d : Said) (n : State). bind_fault d (length n.memory) n.cts n.eqs n.mds) (md_of_renamed r s t a.near none md) a.near.nic
        ∙ bind_fault_renamed r k s.nic.rank (md_of s md) (length s.nic.memory) s.nic.cts s.nic.eqs s.nic.mds

    descriptor_matches : OneNew r s.nic.rank Descriptor (tells (new Descriptor) (md_bind slot (md_of s md) s.nic) s).owed
        (tells (new Descriptor) (md_bind slot' (md_of t md) t.nic) t).owed →
        bind_fault (md_of s md) (length s.nic.memory) s.nic.cts s.nic.eqs s.nic.mds ≡ None →
        r.md s.nic.rank (handle slot s.nic.mds.given) ≡ handle slot' s.nic.mds.given
    descriptor_matches one free =
        one (handle slot s.nic.mds.given) (handle slot' t.nic.mds.given)
        (new_told Descriptor (bind_fault (md_of s md) (length s.nic.memory) s.nic.cts s.nic.eqs s.nic.mds) s.nic
        (with_bound slot (md_of s md) s.nic) (handle slot s.nic.mds.given) free)
        (new_told Descriptor (bind_fault (md_of t md) (length t.nic.memory) t.nic.cts t.nic.eqs t.nic.mds) t.nic
        (with_bound slot' (md_of t md) t.nic) (handle slot' t.nic.mds.given) (bind_same ∙ free))
        ∙ ap (λ (n : State). handle slot' n.mds.given) a.near.nic

    pub descriptor_made_alike : (x y : After) → x ≡ tells (new Descriptor) (md_bind slot (md_of s md) s.nic) s →
        y ≡ tells (new Descriptor) (md_bind slot' (md_of t md) t.nic) t → OneNew r s.nic.rank Descriptor x.owed y.owed → AftersAlike r x y
    descriptor_made_alike x y is is' one =
        ended_alike r _ _ x y is is' (md_bind_alike r s t a slot slot' k none md (descriptor_matches
        (λ h h' e e'. one h h' (ap (λ (z : After). z.owed) is ∙ e) (ap (λ (z : After). z.owed) is' ∙ e'))))
