-- Each call of an open interface, and a message that it is handed: alike in two runs, in order in each.
use Rattle.std.proofs.Common.{◌≡◌, ℕ, false, List, [], refl, subst, arith}
use Rattle.std.proofs.lemmas.Bool.{or_parts}
use Rattle.ptl_types.specs.Messages.{Sent}
use Rattle.log_lines.specs.declared.calls.Call.{Call}
use Rattle.log_lines.specs.declared.calls.Call.TheVariants as said
use Rattle.log_answers.specs.declared.owed.Owed.TheVariants as owed
use Rattle.log_answers.specs.declared.owed.Owed.{Owed}
use Rattle.log_answers.specs.declared.owed.Sort.{Sort}
use Rattle.log_answers.specs.declared.owed.Sort.TheVariants.{Counter, Queue, Descriptor, Entry}
use Rattle.log_seats.specs.Answers.{After, Answers, EntryAnswers, TableAnswers, after, arrived, says}
use Rattle.log_seats.specs.Bytes.{bytes_in}
use Rattle.log_seats.specs.Answers.{deed_of, entry_of, md_of}
use Rattle.log_seats.specs.Seats.{handle_if, handle_of, operation_of}
use Rattle.log_seats.specs.declared.seats.Seat.{Seat}
use Rattle.ni_model.specs.Calls.{entry_slot, header_slot}
use Rattle.slot_laws.proofs.SeatCounts.{none_made}
use Rattle.slot_laws.specs.Renaming.{IsRenaming, Renaming}
use Rattle.slot_laws.specs.Renamed.{renamed_message}
use Rattle.slot_laws.specs.Alike.{AftersAlike, IsConsistent, IsConsistentAfter, KeepsNone, SeatsAlike}
use Rattle.slot_laws.proofs.terms.Counting.{Counts, made}
use Rattle.slot_laws.specs.Alike.{Matches}
use Rattle.slot_laws.proofs.Named.{AreRising}
use Rattle.slot_laws.proofs.SeatAnswers.{after_alike, ended_alike}
use Rattle.slot_laws.proofs.SeatAsked.{OneNew, altered_alike, altered_ordered, asked_alike, asked_ordered, counter_made_alike}
use Rattle.slot_laws.proofs.SeatAsked.{descriptor_made_alike, queue_made_alike}
use Rattle.slot_laws.proofs.SeatCalls.{appended_alike, on_entries_alike}
use Rattle.slot_laws.proofs.SeatMessages as messages
use Rattle.slot_laws.proofs.SeatOrder as order
use Rattle.slot_laws.proofs.TableOrder as tables
use Rattle.slot_laws.proofs.SeatOrder.{ended_ordered}

-- an answer that says a word, and leaves the interface
pub stayed_alike : (r : Renaming) (s t : Seat) (word : List ℕ) → SeatsAlike r s t →
    AftersAlike r (after s (says word)) (after t (says word))
stayed_alike r s t word alike = after_alike r s t (owed.Word word) (owed.Word word) alike refl tt

pub stayed_ordered : (s : Seat) (word : List ℕ) → IsConsistent s → IsConsistentAfter (after s (says word))
stayed_ordered s word here = record { seat = here; is_new = tt }

pub stayed_counts : (s : Seat) (word : List ℕ) → Counts s (after s (says word))
stayed_counts s word = record { given = λ sort. omega arith; stamped = tt; rank = refl }

-- ---- a call

-- where what is new matches, it is one thing
matches_one : (r : Renaming) (rank : ℕ) (sort : Sort) (o o' : Owed) → Matches r rank o o' → OneNew r rank sort o o'
matches_one r rank sort o o' m h h' e e' =
    (subst (λ z. Matches r rank (owed.New sort h) z) e' (subst (λ z. Matches r rank z o') e m)) refl

pub answers_alike : (r : Renaming) → IsRenaming r → KeepsNone r → (call : Call) (s t : Seat) (x y : After) → SeatsAlike r s t →
    IsConsistent s →
    IsConsistent t → Answers call s x → Answers call t y → Matches r s.nic.rank x.owed y.owed → AftersAlike r x y
unfolding Answers EntryAnswers TableAnswers
answers_alike r k none (said.Open o) s t x y a here there m n same = ended_alike r _ _ x y m n (stayed_alike r s t [] a)
answers_alike r k none (said.Deliver w) s t x y a here there m n same = ended_alike r _ _ x y m n (stayed_alike r s t [] a)
answers_alike r k none said.CtAlloc s t x y a here there m n same =
    counter_made_alike r s t a m.slot n.slot x y m.ended n.ended (matches_one r s.nic.rank Counter x.owed y.owed same)
answers_alike r k none (said.EqAlloc room) s t x y a here there m n same =
    queue_made_alike r s t a m.slot n.slot room x y m.ended n.ended (matches_one r s.nic.rank Queue x.owed y.owed same)
answers_alike r k none (said.MdBind md) s t x y a here there m n same =
    descriptor_made_alike r s t a m.slot n.slot k none md x y m.ended n.ended (matches_one r s.nic.rank Descriptor x.owed y.owed same)
answers_alike r k none (said.MeAppend pt list e) s t x y a here there m n same =
    appended_alike r k none s t a m.slot n.slot pt list e x y m.ended n.ended same
answers_alike r k none (said.CtGet ct) s t x y a here there m n same = asked_alike r k none s t a (said.CtGet ct) tt x y m n
answers_alike r k none (said.Awaits md) s t x y a here there m n same = asked_alike r k none s t a (said.Awaits md) tt x y m n
answers_alike r k none said.AwaitsAny s t x y a here there m n same = asked_alike r k none s t a said.AwaitsAny tt x y m n
answers_alike r k none said.Headers s t x y a here there m n same = asked_alike r k none s t a said.Headers tt x y m n
answers_alike r k none (said.Header pt i) s t x y a here there m n same = asked_alike r k none s t a (said.Header pt i) tt x y m n
answers_alike r k none (said.IsReady w) s t x y a here there m n same = asked_alike r k none s t a (said.IsReady w) tt x y m n
answers_alike r k none said.Ready s t x y a here there m n same = asked_alike r k none s t a said.Ready tt x y m n
answers_alike r k none said.ReadyCount s t x y a here there m n same = asked_alike r k none s t a said.ReadyCount tt x y m n
answers_alike r k none (said.ReadyAt i) s t x y a here there m n same = asked_alike r k none s t a (said.ReadyAt i) tt x y m n
answers_alike r k none (said.ReadyCountTo rank) s t x y a here there m n same =
    asked_alike r k none s t a (said.ReadyCountTo rank) tt x y m n
answers_alike r k none (said.LaneOf w) s t x y a here there m n same = asked_alike r k none s t a (said.LaneOf w) tt x y m n
answers_alike r k none (said.Read start size) s t x y a here there m n same = asked_alike r k none s t a (said.Read start size) tt x y m n
answers_alike r k none said.Pending s t x y a here there m n same = asked_alike r k none s t a said.Pending tt x y m n
answers_alike r k none said.Drops s t x y a here there m n same = asked_alike r k none s t a said.Drops tt x y m n
answers_alike r k none said.Violations s t x y a here there m n same = asked_alike r k none s t a said.Violations tt x y m n
answers_alike r k none (said.CtSet ct to) s t x y a here there m n same =
    altered_alike r k none s t a here there (said.CtSet ct to) tt x y m n
answers_alike r k none (said.CtInc ct by) s t x y a here there m n same =
    altered_alike r k none s t a here there (said.CtInc ct by) tt x y m n
answers_alike r k none (said.EqGet eq) s t x y a here there m n same = altered_alike r k none s t a here there (said.EqGet eq) tt x y m n
answers_alike r k none (said.CtFree ct) s t x y a here there m n same = altered_alike r k none s t a here there (said.CtFree ct) tt x y m n
answers_alike r k none (said.EqFree eq) s t x y a here there m n same = altered_alike r k none s t a here there (said.EqFree eq) tt x y m n
answers_alike r k none (said.MdRelease md) s t x y a here there m n same =
    altered_alike r k none s t a here there (said.MdRelease md) tt x y m n
answers_alike r k none (said.PtAlloc pt eq) s t x y a here there m n same =
    on_entries_alike r k none s t a here there here.nothing (said.PtAlloc pt eq) tt x y m n
answers_alike r k none (said.PtFree pt) s t x y a here there m n same =
    on_entries_alike r k none s t a here there here.nothing (said.PtFree pt) tt x y m n
answers_alike r k none (said.CtCancel ct) s t x y a here there m n same =
    on_entries_alike r k none s t a here there here.nothing (said.CtCancel ct) tt x y m n
answers_alike r k none (said.MeUnlink me) s t x y a here there m n same =
    on_entries_alike r k none s t a here there here.nothing (said.MeUnlink me) tt x y m n
answers_alike r k none (said.MeSearch pt delete e) s t x y a here there m n same =
    on_entries_alike r k none s t a here there here.nothing (said.MeSearch pt delete e) tt x y m n
answers_alike r k none (said.Start d) s t x y a here there m n same =
    on_entries_alike r k none s t a here there here.nothing (said.Start d) tt x y m n
answers_alike r k none (said.Triggered w ct threshold d) s t x y a here there m n same =
    on_entries_alike r k none s t a here there here.nothing (said.Triggered w ct threshold d) tt x y m n
answers_alike r k none (said.Fire w) s t x y a here there m n same =
    on_entries_alike r k none s t a here there here.nothing (said.Fire w) tt x y m n
answers_alike r k none (said.Write start w) s t x y a here there m n same =
    on_entries_alike r k none s t a here there here.nothing (said.Write start w) tt x y m n

-- ---- order is kept

pub answers_ordered : (call : Call) (s : Seat) (x : After) → AreRising s → IsConsistent s → Answers call s x → IsConsistentAfter x
unfolding Answers EntryAnswers TableAnswers
answers_ordered (said.Open o) s x rising here m = ended_ordered _ x m (stayed_ordered s [] here)
answers_ordered (said.Deliver w) s x rising here m = ended_ordered _ x m (stayed_ordered s [] here)
answers_ordered said.CtAlloc s x rising here m = ended_ordered _ x m.ended (tables.ct_alloc_ordered m.slot s here m.free)
answers_ordered (said.EqAlloc room) s x rising here m = ended_ordered _ x m.ended (tables.eq_alloc_ordered m.slot s here room m.free)
answers_ordered (said.MdBind md) s x rising here m = ended_ordered _ x m.ended (tables.md_bind_ordered m.slot s here (md_of s md) m.free)
answers_ordered (said.MeAppend pt list e) s x rising here m =
    let free : (entry_slot s.nic.indices m.slot ≡ false) × (header_slot x.seat.nic.headers.unexpected m.slot ≡ false) =
    or_parts (entry_slot s.nic.indices m.slot) (header_slot x.seat.nic.headers.unexpected m.slot) m.free in
    order.me_append_ordered m.slot pt list (entry_of s e) s x m.ended free.0 free.1 here
answers_ordered (said.PtAlloc pt eq) s x rising here m = ended_ordered _ x m (order.pt_alloc_ordered pt (handle_if Queue s eq) s here)
answers_ordered (said.PtFree pt) s x rising here m = ended_ordered _ x m (order.pt_free_ordered pt s here)
answers_ordered (said.CtCancel ct) s x rising here m = ended_ordered _ x m (order.cancels_ordered (handle_of Counter s ct) s here)
answers_ordered (said.MeUnlink me) s x rising here m = ended_ordered _ x m (order.me_unlink_ordered (handle_of Entry s me) s here)
answers_ordered (said.MeSearch pt delete e) s x rising here m =
    ended_ordered _ x m (order.me_search_ordered pt (entry_of s e) delete s here)
answers_ordered (said.Start d) s x rising here m = ended_ordered _ x m (order.starts_ordered (deed_of s d) s here)
answers_ordered (said.Triggered w ct threshold d) s x rising here m =
    ended_ordered _ x m (order.posts_ordered w.text (deed_of s d) (handle_of Counter s ct) threshold s here)
answers_ordered (said.Fire w) s x rising here m = ended_ordered _ x m (order.fires_at_ordered (operation_of s w) s here)
answers_ordered (said.Write start w) s x rising here m = ended_ordered _ x m (order.writes_ordered start (bytes_in w.text) s here)
answers_ordered (said.CtGet ct) s x rising here m = asked_ordered s here (said.CtGet ct) tt x m
answers_ordered (said.Awaits md) s x rising here m = asked_ordered s here (said.Awaits md) tt x m
answers_ordered said.AwaitsAny s x rising here m = asked_ordered s here said.AwaitsAny tt x m
answers_ordered said.Headers s x rising here m = asked_ordered s here said.Headers tt x m
answers_ordered (said.Header pt i) s x rising here m = asked_ordered s here (said.Header pt i) tt x m
answers_ordered (said.IsReady w) s x rising here m = asked_ordered s here (said.IsReady w) tt x m
answers_ordered said.Ready s x rising here m = asked_ordered s here said.Ready tt x m
answers_ordered said.ReadyCount s x rising here m = asked_ordered s here said.ReadyCount tt x m
answers_ordered (said.ReadyAt i) s x rising here m = asked_ordered s here (said.ReadyAt i) tt x m
answers_ordered (said.ReadyCountTo rank) s x rising here m = asked_ordered s here (said.ReadyCountTo rank) tt x m
answers_ordered (said.LaneOf w) s x rising here m = asked_ordered s here (said.LaneOf w) tt x m
answers_ordered (said.Read start n) s x rising here m = asked_ordered s here (said.Read start n) tt x m
answers_ordered said.Pending s x rising here m = asked_ordered s here said.Pending tt x m
answers_ordered said.Drops s x rising here m = asked_ordered s here said.Drops tt x m
answers_ordered said.Violations s x rising here m = asked_ordered s here said.Violations tt x m
answers_ordered (said.CtSet ct to) s x rising here m = altered_ordered s rising here (said.CtSet ct to) tt x m
answers_ordered (said.CtInc ct by) s x rising here m = altered_ordered s rising here (said.CtInc ct by) tt x m
answers_ordered (said.EqGet eq) s x rising here m = altered_ordered s rising here (said.EqGet eq) tt x m
answers_ordered (said.CtFree ct) s x rising here m = altered_ordered s rising here (said.CtFree ct) tt x m
answers_ordered (said.EqFree eq) s x rising here m = altered_ordered s rising here (said.EqFree eq) tt x m
answers_ordered (said.MdRelease md) s x rising here m = altered_ordered s rising here (said.MdRelease md) tt x m

-- ---- a message arrives

pub arrived_alike : (r : Renaming) → IsRenaming r → (m : Sent) (s t : Seat) → SeatsAlike r s t →
    AftersAlike r (arrived m s) (arrived (renamed_message r m) t)
arrived_alike r is m s t alike = messages.arrived_alike r is s t alike m

pub arrived_makes : (m : Sent) (s : Seat) (sort : Sort) → made sort (arrived m s).owed ≡ 0
arrived_makes m s sort = none_made (arrived m s).owed (order.arrived_stays m s).none sort
