-- Where things end: counts, queues and tables; and what a new interface holds.
use Rattle.std.specs.Prelude.{ℕ, true, false, ◌≡◌, ◌-◌, [], ◌∷◌, Some, None, Result, Ok, refl}
use Rattle.ptl_types.specs.declared.handles.Handle.{Handle}
use Rattle.ptl_types.specs.declared.handles.Count.{Count}
use Rattle.ptl_types.specs.declared.entries.List.TheVariants.{Priority, Overflow}
use Rattle.ptl_types.specs.declared.events.Event.{Event}
use Rattle.ptl_types.specs.declared.calls.NiFault.{NiFault}
use Rattle.ptl_types.specs.declared.calls.EqGot.TheVariants.{Got, Empty, Dropped}
use Rattle.ptl_types.specs.Handles.{top, one_more}
use Rattle.ni_model.specs.Append.{append}
use Rattle.ni_model.specs.Counts.{bump, failures, total}
use Rattle.ni_model.specs.Tables.{has_slot}
use Rattle.ni_model.specs.State.{State, opened}
use Rattle.ni_model.specs.Calls.{Done, Makes, ct_alloc, entry_slot, eq_alloc, eq_get, me_append, pt_alloc}
use Rattle.law_cases.proofs.model.Setting.{entry, first}
use Rattle.law_cases.proofs.model.Wide.{base, linked_event, many, region}

-- ---- a new interface: each limit is that of its own table
starts_empty : opened 1 4 many region ≡ record {
  rank = 1;
  ranks = 4;
  limits = many;
  memory = region;
  indices = None ∷ None ∷ None ∷ [];
  entries_given = 0;
  headers = record { unexpected = []; limit = 5 };
  cts = record { live = []; given = 0; limit = 3 };
  eqs = record { live = []; given = 0; limit = 2 };
  mds = record { live = []; given = 0; limit = 2 };
  pending = record { waiting = []; given = 0; limit = 7 };
  drops = 0;
  violations = 0;
}
starts_empty = refl

-- ---- counts that the network makes
abbrev near : Count
near = record { success = top - 6; failure = 2 }

fits_whole : bump (record { success = 3; failure = 1 }) near ≡ record { success = top - 3; failure = 3 }
fits_whole = refl

success_alone_fits : bump (record { success = 9; failure = 5 }) near ≡ record { success = top - 2; failure = 2 }
success_alone_fits = refl

failures_are_cut : bump (failures 9) near ≡ record { success = top - 6; failure = 6 }
failures_are_cut = refl

sum_of_both : total (record { success = 5; failure = 7 }) ≡ 12
sum_of_both = refl

register_rises : one_more 7 ≡ 8
register_rises = refl

register_ends : one_more (top - 1) ≡ top
register_ends = refl

register_stays : one_more top ≡ top
register_stays = refl

-- ---- a queue of room 2 on index 1, and entries that are linked there
abbrev told : State
told = (pt_alloc 1 (Some first) (eq_alloc 0 2 (opened 0 2 many region)).state).state

abbrev link : ℕ → State → State
link bits s = (me_append bits 1 Priority (record (entry 0 4) { match_bits = bits }) s).state

abbrev of_link : ℕ → Event
of_link bits = record linked_event { match_bits = bits }

abbrev three_links : State
three_links = link 3 (link 2 (link 1 told))

abbrev behind : State → State
behind s = (eq_get first s).state

two_fit : (eq_get first (link 2 (link 1 told))).answer ≡ Ok (Got (of_link 1))
unfolding append
two_fit = refl

loss_is_told_first : (eq_get first three_links).answer ≡ Ok Dropped
unfolding append
loss_is_told_first = refl

oldest_then : (eq_get first (behind three_links)).answer ≡ Ok (Got (of_link 1))
unfolding append
oldest_then = refl

younger_then : (eq_get first (behind (behind three_links))).answer ≡ Ok (Got (of_link 2))
unfolding append
younger_then = refl

none_then : (eq_get first (behind (behind (behind three_links)))).answer ≡ Ok Empty
unfolding append
none_then = refl

-- once, however many were lost; and there is room again after a get
loss_is_told_once : (eq_get first (behind (link 4 three_links))).answer ≡ Ok (Got (of_link 1))
unfolding append
loss_is_told_once = refl

room_again : (eq_get first (behind (link 4 (behind (behind three_links))))).answer ≡ Ok (Got (of_link 4))
unfolding append
room_again = refl

-- ---- slots: that of a handle counts, and not its stamp
abbrev slotted : State
slotted = (ct_alloc 7 base).state

abbrev slotted_call : Done (Result Handle NiFault)
slotted_call = ct_alloc 7 base

taken_slot : has_slot 7 slotted.cts.live ≡ true
taken_slot = refl

free_slot : has_slot 2 slotted.cts.live ≡ false
free_slot = refl

abbrev entries_slotted : State
entries_slotted = (me_append 5 1 Overflow (entry 0 4) (me_append 6 1 Priority (entry 0 4) told).state).state

slot_in_priority : entry_slot entries_slotted.indices 6 ≡ true
unfolding append
slot_in_priority = refl

slot_in_overflow : entry_slot entries_slotted.indices 5 ≡ true
unfolding append
slot_in_overflow = refl

slot_of_the_younger : entry_slot (me_append 4 1 Priority (entry 0 4) entries_slotted).state.indices 4 ≡ true
unfolding append
slot_of_the_younger = refl

-- a new thing gets a slot that no live thing has
makes_a_counter : Makes (λ slot. has_slot slot base.cts.live) (λ slot. ct_alloc slot base) slotted_call
makes_a_counter = record { slot = 7; free = refl; ended = refl }

slot_of_no_entry : entry_slot entries_slotted.indices 1 ≡ false
unfolding append
slot_of_no_entry = refl
