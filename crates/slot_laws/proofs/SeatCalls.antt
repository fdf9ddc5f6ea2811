-- Calls of a log on portal table indices, match entries, operations and the region: alike in two runs.
use Rattle.std.proofs.Common.{◌≡◌, ℕ, subst}
use Rattle.ptl_types.specs.declared.entries.List.{List as EntryList}
use Rattle.ni_model.specs.Calls.{me_append}
use Rattle.log_words.specs.declared.call_fields.said.EntrySaid.{EntrySaid}
use Rattle.log_lines.specs.declared.calls.Call.{Call}
use Rattle.log_lines.specs.declared.calls.Call.TheVariants as said
use Rattle.log_seats.specs.Answers.{After, Answers, EntryAnswers, TableAnswers, appended, entry_of, tells}
use Rattle.log_seats.specs.Bytes.{bytes_in}
use Rattle.log_seats.specs.declared.seats.Seat.{Seat}
use Rattle.slot_laws.specs.Renaming.{IsRenaming, Renaming}
use Rattle.slot_laws.specs.Alike.{Matches}
use Rattle.slot_laws.specs.Alike.{AftersAlike, IsConsistent, KeepsNone, SeatsAlike}
use Rattle.slot_laws.proofs.Nothing.{NothingKnown}
use Rattle.slot_laws.proofs.SeatEntries.{me_append_matched, me_search_alike, pt_alloc_alike, pt_free_alike}
use Rattle.slot_laws.proofs.SeatUnlink.{me_unlink_alike}
use Rattle.slot_laws.proofs.SeatOperations.{cancel_alike, fire_alike, start_alike, triggered_alike, write_alike}
use Rattle.slot_laws.proofs.SeatAnswers.{ended_alike}

-- it is on an index, an entry, an operation or the region, and makes no thing
abbrev pub IsOnEntries : Call → Type 0
IsOnEntries (said.PtAlloc pt eq) = Unit {0}
IsOnEntries (said.PtFree pt) = Unit {0}
IsOnEntries (said.CtCancel ct) = Unit {0}
IsOnEntries (said.MeUnlink me) = Unit {0}
IsOnEntries (said.MeSearch pt delete e) = Unit {0}
IsOnEntries (said.Start d) = Unit {0}
IsOnEntries (said.Triggered t ct threshold d) = Unit {0}
IsOnEntries (said.Fire t) = Unit {0}
IsOnEntries (said.Write start word) = Unit {0}
IsOnEntries _ = ⊥

pub on_entries_alike : (r : Renaming) → IsRenaming r → KeepsNone r → (s t : Seat) → SeatsAlike r s t → IsConsistent s → IsConsistent t →
    NothingKnown s.nic → (call : Call) → IsOnEntries call → (x y : After) → Answers call s x → Answers call t y → AftersAlike r x y
unfolding Answers EntryAnswers TableAnswers
on_entries_alike r k none s t a o o' n (said.PtAlloc pt eq) on x y is is' =
    ended_alike r _ _ x y is is' (pt_alloc_alike r k none s t a pt eq)
on_entries_alike r k none s t a o o' n (said.PtFree pt) on x y is is' = ended_alike r _ _ x y is is' (pt_free_alike r k none s t a pt)
on_entries_alike r k none s t a o o' n (said.CtCancel ct) on x y is is' = ended_alike r _ _ x y is is' (cancel_alike r k s t a none ct)
on_entries_alike r k none s t a o o' n (said.MeUnlink me) on x y is is' =
    ended_alike r _ _ x y is is' (me_unlink_alike r k s t a none n o o' me)
on_entries_alike r k none s t a o o' n (said.MeSearch pt delete e) on x y is is' =
    ended_alike r _ _ x y is is' (me_search_alike r k none s t a pt delete e)
on_entries_alike r k none s t a o o' n (said.Start d) on x y is is' = ended_alike r _ _ x y is is' (start_alike r k s t a none d)
on_entries_alike r k none s t a o o' n (said.Triggered w ct threshold d) on x y is is' =
    ended_alike r _ _ x y is is' (triggered_alike r k s t a none w ct threshold d)
on_entries_alike r k none s t a o o' n (said.Fire w) on x y is is' = ended_alike r _ _ x y is is' (fire_alike r k s t a w)
on_entries_alike r k none s t a o o' n (said.Write start w) on x y is is' =
    ended_alike r _ _ x y is is' (write_alike r k s t a start (bytes_in w.text))
on_entries_alike r k none s t a o o' n _ on x y is is' = absurd on

-- an append, at whatever slots
pub appended_alike : (r : Renaming) → IsRenaming r → KeepsNone r → (s t : Seat) → SeatsAlike r s t → (slot slot' pt : ℕ) (list : EntryList)
    (e : EntrySaid) (x y : After) → x ≡ tells appended (me_append slot pt list (entry_of s e) s.nic) s →
    y ≡ tells appended (me_append slot' pt list (entry_of t e) t.nic) t → Matches r s.nic.rank x.owed y.owed → AftersAlike r x y
appended_alike r k none s t a slot slot' pt list e x y is is' same =
    ended_alike r _ _ x y is is'
    (me_append_matched r k none s t a slot slot' pt list e
    (subst (λ z. Matches r s.nic.rank z.owed (tells appended (me_append slot' pt list (entry_of t e) t.nic) t).owed) is
    (subst (λ z. Matches r s.nic.rank x.owed z.owed) is' same)))
