-- An open interface, and what words name there.
use Rattle.std.specs.Prelude.{ℕ, Bool, true, not, is_some, List, Option, option_map, unwrap_or}
use Rattle.ptl_types.specs.declared.handles.Handle.{Handle}
use Rattle.ni_model.specs.State.{State}
use Rattle.log_words.specs.Words.{Word}
use Rattle.log_words.specs.declared.call_fields.said.TheConstants.{NO_HANDLE}
use Rattle.log_answers.specs.declared.owed.Sort.{Sort}
use Rattle.log_answers.specs.declared.owed.Sort.TheVariants.{Counter, Queue, Descriptor, Entry}
use Rattle.log_answers.specs.declared.names.names.Names.{Names}
use Rattle.log_answers.specs.declared.names.postings.Postings.{Postings}
use Rattle.log_answers.specs.names.Names.{bound, cleared, no_names, thing_of}
use Rattle.log_answers.specs.names.Postings.{no_postings, number_of}
use Rattle.log_seats.specs.declared.seats.Seat.{Seat}

-- a new interface, of which nothing is named
abbrev pub new_seat : State → Seat
new_seat nic = record {
  nic = nic;
  counters = no_names;
  queues = no_names;
  descriptors = no_names;
  entries = no_names;
  operations = no_postings;
}

abbrev pub names_at : Sort → Seat → Names
names_at Counter s = s.counters
names_at Queue s = s.queues
names_at Descriptor s = s.descriptors
names_at Entry s = s.entries

abbrev pub with_names : Sort → Names → Seat → Seat
with_names Counter n s = record s { counters = n }
with_names Queue n s = record s { queues = n }
with_names Descriptor n s = record s { descriptors = n }
with_names Entry n s = record s { entries = n }

abbrev pub with_nic : State → Seat → Seat
with_nic t s = record s { nic = t }

abbrev pub with_operations : Postings → Seat → Seat
with_operations p s = record s { operations = p }

-- the thing that a word names; a word that names nothing is a handle that no thing has
abbrev pub handle_of : Sort → Seat → Word → Handle
handle_of sort s w = unwrap_or (thing_of w.text (names_at sort s)) NO_HANDLE

-- of a word that may be absent
abbrev pub handle_if : Sort → Seat → Option Word → Option Handle
handle_if sort s w = option_map (handle_of sort s) w

-- the number of the operation that a word names
abbrev pub operation_of : Seat → Word → Option ℕ
operation_of s w = number_of w.text s.operations

-- A device may give a word again once the thing that had it is gone; of entries, whose end a device may not tell, at any time.
abbrev pub is_free : Sort → Seat → List ℕ → Bool
is_free Entry s word = true
is_free sort s word = not (is_some (thing_of word (names_at sort s)))

-- a new thing, with the word that was given for it; and a thing that is gone
abbrev pub with_thing : Sort → Handle → Option (List ℕ) → Seat → Seat
with_thing sort h word s = with_names sort (bound h word (names_at sort s)) s

abbrev pub without_thing : Sort → Handle → Seat → Seat
without_thing sort h s = with_names sort (cleared h.slot (names_at sort s)) s
