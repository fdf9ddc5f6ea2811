-- What stands after some lines of a log: the open interfaces, what words name there, and the messages under way.
use Rattle.std.specs.Prelude.{ℕ, Bool, false, ◌==◌, List, [], Option, Some, None, if◌then◌else◌}
use Rattle.ptl_types.specs.declared.handles.Handle.{Handle}
use Rattle.ptl_types.specs.Elements.{part}
use Rattle.ni_model.specs.Ready.{is_ready}
use Rattle.log_answers.specs.Known.{Known}
use Rattle.log_answers.specs.declared.owed.Sort.{Sort}
use Rattle.log_answers.specs.names.Keys.{number_lookup}
use Rattle.log_answers.specs.names.Names.{word_of}
use Rattle.log_answers.specs.names.Postings.{number_of, word_of_number}
use Rattle.log_answers.specs.names.Flights.{no_flights}
use Rattle.log_seats.specs.Seats.{is_free}
use Rattle.log_seats.specs.declared.seats.Seat.{Seat}
use Rattle.log_verdict.specs.declared.scenes.Scene.{Scene}

-- no interface is open yet
abbrev pub no_interfaces : ℕ → Bool → Scene
no_interfaces ranks any_order = record { ranks = ranks; any_order = any_order; seats = []; flights = no_flights }

abbrev pub seat_at : ℕ → Scene → Option Seat
seat_at rank scene = number_lookup rank scene.seats

-- ---- what an answer is compared with: what words name at its rank, and the bytes of the message that is told

abbrev pub free_at : Option Seat → Sort → List ℕ → Bool
free_at None sort word = false
free_at (Some s) sort word = is_free sort s word

abbrev pub is_ready_if : Seat → Option ℕ → Bool
is_ready_if s None = false
is_ready_if s (Some t) = is_ready s.nic t

abbrev pub ready_at : Option Seat → List ℕ → Bool
ready_at None word = false
ready_at (Some s) word = is_ready_if s (number_of word s.operations)

abbrev pub descriptor_word_at : Option Seat → Handle → Option (List ℕ)
descriptor_word_at None md = None
descriptor_word_at (Some s) md = word_of md s.descriptors

-- of the interface of a rank, which is the one that answers or one of the others
abbrev pub seat_of : Option Seat → Scene → ℕ → Option Seat
seat_of None others rank = seat_at rank others
seat_of (Some s) others rank = if s.nic.rank == rank then Some s else seat_at rank others

abbrev pub entry_word_at : Option Seat → Handle → Option (List ℕ)
entry_word_at None entry = None
entry_word_at (Some s) entry = word_of entry s.entries

abbrev pub operation_word_at : Option Seat → ℕ → Option (List ℕ)
operation_word_at None t = None
operation_word_at (Some s) t = word_of_number t s.operations

abbrev pub part_of : Seat → ℕ → ℕ → List ℕ
part_of s start n = part start n s.nic.memory

abbrev pub part_at : Option Seat → ℕ → ℕ → List ℕ
part_at None start n = []
part_at (Some s) start n = part_of s start n

abbrev pub known_at : Option Seat → List ℕ → Scene → Known
known_at seat bytes others = record {
  free = free_at seat;
  ready = ready_at seat;
  descriptor_word = λ rank md. descriptor_word_at (seat_of seat others rank) md;
  entry_word = entry_word_at seat;
  operation_word = operation_word_at seat;
  part = part_at seat;
  message = bytes;
}
