-- Calls that are none of some.
use Rattle.std.proofs.Common.{◌≡◌, ℕ, [], Option, Bool, refl, subst, sym}
use Rattle.ptl_types.specs.declared.handles.Count.{Count}
use Rattle.ptl_types.specs.declared.entries.List.{List as MatchList}
use Rattle.log_words.specs.Words.{Word}
use Rattle.log_words.specs.declared.call_fields.said.EntrySaid.{EntrySaid}
use Rattle.log_words.specs.declared.call_fields.said.MdSaid.{MdSaid}
use Rattle.log_lines.specs.declared.calls.Call.{Call}
use Rattle.log_lines.specs.declared.calls.Call.TheVariants as said
use Rattle.log_lines.specs.declared.calls.TriggeredOpSaid.{TriggeredOpSaid}
use Rattle.log_answers.specs.declared.owed.Sort.TheVariants.{Counter}
use Rattle.log_seats.specs.Answers.{After, Answers, EntryAnswers, TableAnswers, after, deed_of, posts, says}
use Rattle.log_seats.specs.Seats.{handle_of}
use Rattle.log_seats.specs.declared.seats.Seat.{Seat}

-- none of counting events, queues, indices and descriptors
pub record NoTable (call : Call) : Type 0 where
  pub not_PtAlloc : (x0 : ℕ) (x1 : Option Word) → (call ≡ said.PtAlloc x0 x1 → ⊥)
  pub not_PtFree : (x0 : ℕ) → (call ≡ said.PtFree x0 → ⊥)
  pub not_CtAlloc : (call ≡ said.CtAlloc → ⊥)
  pub not_CtFree : (x0 : Word) → (call ≡ said.CtFree x0 → ⊥)
  pub not_CtSet : (x0 : Word) (x1 : Count) → (call ≡ said.CtSet x0 x1 → ⊥)
  pub not_CtInc : (x0 : Word) (x1 : Count) → (call ≡ said.CtInc x0 x1 → ⊥)
  pub not_CtCancel : (x0 : Word) → (call ≡ said.CtCancel x0 → ⊥)
  pub not_EqAlloc : (x0 : ℕ) → (call ≡ said.EqAlloc x0 → ⊥)
  pub not_EqFree : (x0 : Word) → (call ≡ said.EqFree x0 → ⊥)
  pub not_EqGet : (x0 : Word) → (call ≡ said.EqGet x0 → ⊥)
  pub not_MdBind : (x0 : MdSaid) → (call ≡ said.MdBind x0 → ⊥)
  pub not_MdRelease : (x0 : Word) → (call ≡ said.MdRelease x0 → ⊥)

-- nothing is done then
pub no_table : (call : Call) (s : Seat) (x : After) → NoTable call → x ≡ after s (says []) → TableAnswers call s x
unfolding TableAnswers
no_table (said.PtAlloc x0 x1) s x n h = absurd (n.not_PtAlloc x0 x1 refl)
no_table (said.PtFree x0) s x n h = absurd (n.not_PtFree x0 refl)
no_table said.CtAlloc s x n h = absurd (n.not_CtAlloc refl)
no_table (said.CtFree x0) s x n h = absurd (n.not_CtFree x0 refl)
no_table (said.CtSet x0 x1) s x n h = absurd (n.not_CtSet x0 x1 refl)
no_table (said.CtInc x0 x1) s x n h = absurd (n.not_CtInc x0 x1 refl)
no_table (said.CtCancel x0) s x n h = absurd (n.not_CtCancel x0 refl)
no_table (said.EqAlloc x0) s x n h = absurd (n.not_EqAlloc x0 refl)
no_table (said.EqFree x0) s x n h = absurd (n.not_EqFree x0 refl)
no_table (said.EqGet x0) s x n h = absurd (n.not_EqGet x0 refl)
no_table (said.MdBind x0) s x n h = absurd (n.not_MdBind x0 refl)
no_table (said.MdRelease x0) s x n h = absurd (n.not_MdRelease x0 refl)
no_table _ s x n h = h

-- none of entries, operations and the region
pub record NoEntry (call : Call) : Type 0 where
  pub not_MeAppend : (x0 : ℕ) (x1 : MatchList) (x2 : EntrySaid) → (call ≡ said.MeAppend x0 x1 x2 → ⊥)
  pub not_MeUnlink : (x0 : Word) → (call ≡ said.MeUnlink x0 → ⊥)
  pub not_MeSearch : (x0 : ℕ) (x1 : Bool) (x2 : EntrySaid) → (call ≡ said.MeSearch x0 x1 x2 → ⊥)
  pub not_Start : (x0 : TriggeredOpSaid) → (call ≡ said.Start x0 → ⊥)
  pub not_Triggered : (x0 : Word) (x1 : Word) (x2 : ℕ) (x3 : TriggeredOpSaid) → (call ≡ said.Triggered x0 x1 x2 x3 → ⊥)
  pub not_Fire : (x0 : Word) → (call ≡ said.Fire x0 → ⊥)
  pub not_Write : (x0 : ℕ) (x1 : Word) → (call ≡ said.Write x0 x1 → ⊥)

-- then it is one of tables
pub no_entry : (call : Call) (s : Seat) (x : After) → NoEntry call → TableAnswers call s x → EntryAnswers call s x
unfolding EntryAnswers
no_entry (said.MeAppend x0 x1 x2) s x n h = absurd (n.not_MeAppend x0 x1 x2 refl)
no_entry (said.MeUnlink x0) s x n h = absurd (n.not_MeUnlink x0 refl)
no_entry (said.MeSearch x0 x1 x2) s x n h = absurd (n.not_MeSearch x0 x1 x2 refl)
no_entry (said.Start x0) s x n h = absurd (n.not_Start x0 refl)
no_entry (said.Triggered x0 x1 x2 x3) s x n h = absurd (n.not_Triggered x0 x1 x2 x3 refl)
no_entry (said.Fire x0) s x n h = absurd (n.not_Fire x0 refl)
no_entry (said.Write x0 x1) s x n h = absurd (n.not_Write x0 x1 refl)
no_entry _ s x n h = h

-- an operation is posted
pub by_triggered : (call : Call) (t ct : Word) (threshold : ℕ) (d : TriggeredOpSaid) (s : Seat) (x : After)
    → call ≡ said.Triggered t ct threshold d → x ≡ posts t.text (deed_of s d) (handle_of Counter s ct) threshold s → EntryAnswers call s x
unfolding EntryAnswers
by_triggered call t ct threshold d s x is e = subst (λ (q : Call). EntryAnswers q s x) (sym is) e

-- none that only asks
pub record NoAsking (call : Call) : Type 0 where
  pub not_CtGet : (x0 : Word) → (call ≡ said.CtGet x0 → ⊥)
  pub not_Awaits : (x0 : Word) → (call ≡ said.Awaits x0 → ⊥)
  pub not_AwaitsAny : (call ≡ said.AwaitsAny → ⊥)
  pub not_Headers : (call ≡ said.Headers → ⊥)
  pub not_Header : (x0 : ℕ) (x1 : ℕ) → (call ≡ said.Header x0 x1 → ⊥)
  pub not_IsReady : (x0 : Word) → (call ≡ said.IsReady x0 → ⊥)
  pub not_Ready : (call ≡ said.Ready → ⊥)
  pub not_ReadyCount : (call ≡ said.ReadyCount → ⊥)
  pub not_ReadyAt : (x0 : ℕ) → (call ≡ said.ReadyAt x0 → ⊥)
  pub not_ReadyCountTo : (x0 : ℕ) → (call ≡ said.ReadyCountTo x0 → ⊥)
  pub not_LaneOf : (x0 : Word) → (call ≡ said.LaneOf x0 → ⊥)
  pub not_Read : (x0 : ℕ) (x1 : ℕ) → (call ≡ said.Read x0 x1 → ⊥)
  pub not_Pending : (call ≡ said.Pending → ⊥)
  pub not_Drops : (call ≡ said.Drops → ⊥)
  pub not_Violations : (call ≡ said.Violations → ⊥)

-- then it may change something
pub no_asking : (call : Call) (s : Seat) (x : After) → NoAsking call → EntryAnswers call s x → Answers call s x
unfolding Answers
no_asking (said.CtGet x0) s x n h = absurd (n.not_CtGet x0 refl)
no_asking (said.Awaits x0) s x n h = absurd (n.not_Awaits x0 refl)
no_asking said.AwaitsAny s x n h = absurd (n.not_AwaitsAny refl)
no_asking said.Headers s x n h = absurd (n.not_Headers refl)
no_asking (said.Header x0 x1) s x n h = absurd (n.not_Header x0 x1 refl)
no_asking (said.IsReady x0) s x n h = absurd (n.not_IsReady x0 refl)
no_asking said.Ready s x n h = absurd (n.not_Ready refl)
no_asking said.ReadyCount s x n h = absurd (n.not_ReadyCount refl)
no_asking (said.ReadyAt x0) s x n h = absurd (n.not_ReadyAt x0 refl)
no_asking (said.ReadyCountTo x0) s x n h = absurd (n.not_ReadyCountTo x0 refl)
no_asking (said.LaneOf x0) s x n h = absurd (n.not_LaneOf x0 refl)
no_asking (said.Read x0 x1) s x n h = absurd (n.not_Read x0 x1 refl)
no_asking said.Pending s x n h = absurd (n.not_Pending refl)
no_asking said.Drops s x n h = absurd (n.not_Drops refl)
no_asking said.Violations s x n h = absurd (n.not_Violations refl)
no_asking _ s x n h = h
