-- How many things of each sort were made, after each call of an open interface and after a message that it was handed.
use Rattle.std.proofs.Common.{◌≡◌, [], refl}
use Rattle.ptl_types.specs.Messages.{Sent}
use Rattle.log_lines.specs.declared.calls.Call.{Call}
use Rattle.log_lines.specs.declared.calls.Call.TheVariants as said
use Rattle.log_answers.specs.declared.owed.Sort.TheVariants.{Counter, Queue, Descriptor as Md, Entry as Me}
use Rattle.log_seats.specs.Answers.{After, Answers, EntryAnswers, TableAnswers, arrived, says, deed_of, entry_of}
use Rattle.log_seats.specs.Answers.{md_of}
use Rattle.log_seats.specs.Bytes.{bytes_in}
use Rattle.log_seats.specs.Seats.{handle_if, handle_of, operation_of}
use Rattle.log_seats.specs.declared.seats.Seat.{Seat}
use Rattle.slot_laws.proofs.terms.Counting.{Counts}
use Rattle.slot_laws.proofs.SeatOrder.{Stays, arrived_stays, asks_stays, cancels_stays, fires_at_stays, me_search_stays}
use Rattle.slot_laws.proofs.SeatOrder.{me_unlink_stays, posts_stays, pt_alloc_stays, pt_free_stays, starts_stays}
use Rattle.slot_laws.proofs.SeatOrder.{writes_stays}
use Rattle.slot_laws.proofs.SeatAsked.{Asks, asked_stays}
use Rattle.slot_laws.proofs.SeatCounts.{ct_alloc_counts, ct_free_counts, ct_inc_stays, ct_set_stays, eq_alloc_counts, eq_free_counts}
use Rattle.slot_laws.proofs.SeatCounts.{eq_get_stays, md_bind_counts, md_release_counts, me_append_counts, stays_counts}

-- ---- each call

ended_counts : (s : Seat) (x y : After) → x ≡ y → Counts s y → Counts s x
ended_counts s x y is counted = rw is counted

stays_as : (s : Seat) (x y : After) → x ≡ y → Stays s y → Counts s x
stays_as s x y is stays = ended_counts s x y is (stays_counts s y stays)

-- a call that asks
asks_as : (s : Seat) (call : Call) → Asks call → (x : After) → Answers call s x → Counts s x
asks_as s call asks x is = stays_counts s x (asked_stays s call asks x is)

pub answers_counts : (call : Call) (s : Seat) (x : After) → Answers call s x → Counts s x
unfolding Answers EntryAnswers TableAnswers
answers_counts (said.Open o) s x is = stays_as s x _ is (asks_stays s (says []) refl)
answers_counts (said.PtAlloc pt eq) s x is = stays_as s x _ is (pt_alloc_stays pt (handle_if Queue s eq) s)
answers_counts (said.PtFree pt) s x is = stays_as s x _ is (pt_free_stays pt s)
answers_counts said.CtAlloc s x is = ended_counts s x _ is.ended (ct_alloc_counts is.slot s)
answers_counts (said.CtFree ct) s x is = ended_counts s x _ is (ct_free_counts (handle_of Counter s ct) s)
answers_counts (said.CtGet ct) s x is = asks_as s (said.CtGet ct) tt x is
answers_counts (said.CtSet ct to) s x is = stays_as s x _ is (ct_set_stays (handle_of Counter s ct) to s)
answers_counts (said.CtInc ct by) s x is = stays_as s x _ is (ct_inc_stays (handle_of Counter s ct) by s)
answers_counts (said.CtCancel ct) s x is = stays_as s x _ is (cancels_stays (handle_of Counter s ct) s)
answers_counts (said.EqAlloc room) s x is = ended_counts s x _ is.ended (eq_alloc_counts is.slot room s)
answers_counts (said.EqFree eq) s x is = ended_counts s x _ is (eq_free_counts (handle_of Queue s eq) s)
answers_counts (said.EqGet eq) s x is = stays_as s x _ is (eq_get_stays (handle_of Queue s eq) s)
answers_counts (said.MdBind md) s x is = ended_counts s x _ is.ended (md_bind_counts is.slot (md_of s md) s)
answers_counts (said.MdRelease md) s x is = ended_counts s x _ is (md_release_counts (handle_of Md s md) s)
answers_counts (said.Awaits md) s x is = asks_as s (said.Awaits md) tt x is
answers_counts said.AwaitsAny s x is = asks_as s said.AwaitsAny tt x is
answers_counts (said.MeAppend pt list e) s x is = ended_counts s x _ is.ended (me_append_counts is.slot pt list (entry_of s e) s)
answers_counts (said.MeUnlink me) s x is = stays_as s x _ is (me_unlink_stays (handle_of Me s me) s)
answers_counts (said.MeSearch pt delete e) s x is = stays_as s x _ is (me_search_stays pt (entry_of s e) delete s)
answers_counts said.Headers s x is = asks_as s said.Headers tt x is
answers_counts (said.Header pt i) s x is = asks_as s (said.Header pt i) tt x is
answers_counts (said.Start d) s x is = stays_as s x _ is (starts_stays (deed_of s d) s)
answers_counts (said.Triggered t ct threshold d) s x is =
    stays_as s x _ is (posts_stays t.text (deed_of s d) (handle_of Counter s ct) threshold s)
answers_counts (said.IsReady t) s x is = asks_as s (said.IsReady t) tt x is
answers_counts said.Ready s x is = asks_as s said.Ready tt x is
answers_counts said.ReadyCount s x is = asks_as s said.ReadyCount tt x is
answers_counts (said.ReadyAt i) s x is = asks_as s (said.ReadyAt i) tt x is
answers_counts (said.ReadyCountTo rank) s x is = asks_as s (said.ReadyCountTo rank) tt x is
answers_counts (said.LaneOf t) s x is = asks_as s (said.LaneOf t) tt x is
answers_counts (said.Fire t) s x is = stays_as s x _ is (fires_at_stays (operation_of s t) s)
answers_counts (said.Deliver m) s x is = stays_as s x _ is (asks_stays s (says []) refl)
answers_counts (said.Read start n) s x is = asks_as s (said.Read start n) tt x is
answers_counts (said.Write start word) s x is = stays_as s x _ is (writes_stays start (bytes_in word.text) s)
answers_counts said.Pending s x is = asks_as s said.Pending tt x is
answers_counts said.Drops s x is = asks_as s said.Drops tt x is
answers_counts said.Violations s x is = asks_as s said.Violations tt x is

-- ---- and a message

pub arrived_counts : (m : Sent) (s : Seat) → Counts s (arrived m s)
arrived_counts m s = stays_counts s (arrived m s) (arrived_stays m s)
