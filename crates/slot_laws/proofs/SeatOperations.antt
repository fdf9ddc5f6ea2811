-- Starts, triggered operations, their firing and cancelling, and writes are alike at two interfaces of a log that differ in the slots of
-- handles alone.
use Rattle.std.proofs.Common.{◌≡◌, ℕ, List, length, Option, Some, None, Result, Ok, Err, option_map}
use Rattle.std.proofs.Common.{refl, ap, ap₂, sym, ◌∙◌, subst}
use Rattle.ptl_types.specs.declared.handles.Handle.{Handle}
use Rattle.ptl_types.specs.declared.calls.NiFault.{NiFault}
use Rattle.ptl_types.specs.declared.calls.TriggeredOp.{TriggeredOp}
use Rattle.ptl_types.specs.Messages.{Sent}
use Rattle.ni_model.specs.State.{State}
use Rattle.ni_model.specs.Calls.{Done, ct_cancel, start, triggered, write_memory}
use Rattle.ni_model.specs.Ready.{Fires, fired, is_ready}
use Rattle.guarded_ni.specs.declared.faults.Misuse.TheVariants as misuses
use Rattle.guarded_ni.specs.Misuses.{start_misuse, unless}
use Rattle.log_words.specs.Words.{Word}
use Rattle.log_lines.specs.declared.calls.TriggeredOpSaid.{TriggeredOpSaid}
use Rattle.log_answers.specs.declared.owed.Sort.TheVariants.{Counter}
use Rattle.log_answers.specs.declared.owed.Owed.TheVariants as owed
use Rattle.log_answers.specs.names.Postings.{cancelled, posted, removed}
use Rattle.log_seats.specs.Answers.{After, after, cancels, deed_of, fires_as, fires_at, message_owed, misuse_word, ok, outside}
use Rattle.log_seats.specs.Answers.{posts, says, sent_by, starts, tells, told, with_posted, without_waiting, writes}
use Rattle.log_seats.specs.Seats.{handle_of, operation_of, with_nic, with_operations}
use Rattle.log_seats.specs.declared.seats.Seat.{Seat}
use Rattle.slot_laws.specs.Renaming.{IsRenaming, Renaming}
use Rattle.slot_laws.specs.Renamed.{renamed, renamed_action, renamed_message}
use Rattle.slot_laws.proofs.terms.Answered.{renamed_done, renamed_result}
use Rattle.slot_laws.proofs.terms.Started.{renamed_fires}
use Rattle.slot_laws.specs.Told.{HoldsOfNamed, renamed_owed}
use Rattle.slot_laws.proofs.terms.Lasting.{Keeps}
use Rattle.slot_laws.specs.Alike.{AftersAlike, KeepsNone, KnownIn, AlikeButEntries, SeatsAlike}
use Rattle.slot_laws.proofs.Refusing.{start_misuse_renamed}
use Rattle.slot_laws.proofs.Calling.{ct_cancel_renamed, start_renamed, triggered_renamed, write_memory_renamed}
use Rattle.slot_laws.proofs.Firing.{fired_renamed, is_ready_renamed}
use Rattle.slot_laws.proofs.Numbered.{cancelled_renamed, posted_renamed, removed_renamed}
use Rattle.slot_laws.proofs.Leaving.{ct_cancel_keeps, fired_keeps, start_keeps, triggered_keeps, write_memory_keeps}
use Rattle.slot_laws.proofs.Handles.{deed_of_renamed, handle_of_renamed, operation_of_alike}
use Rattle.slot_laws.proofs.SeatAnswers.{after_alike, leaves_alike, near_with_nic, near_with_operations, told_names}
use Rattle.slot_laws.proofs.SeatAnswers.{told_renamed, told_same, unless_alike}

-- ---- what a posting and a cancelling leave

abbrev posted_after : List ℕ → Handle → Done (Result ℕ NiFault) → Seat → After
posted_after word ct x s = after (with_posted word ct x.answer (with_nic x.state s)) (told (λ n. ok tt) x.answer)

abbrev cancelled_after : Handle → Done (Result ℕ NiFault) → Seat → After
cancelled_after ct x s = after (without_waiting ct x.answer (with_nic x.state s)) (told (λ n. owed.Amount n) x.answer)

-- ---- what is owed and sent

message_owed_renamed : (r : Renaming) (rank : ℕ) (m : Option Sent) →
    message_owed (option_map (renamed_message r) m) ≡ renamed_owed r rank (message_owed m)
message_owed_renamed r rank None = refl
message_owed_renamed r rank (Some m) = refl

message_owed_named : (Known : Handle → Type 0) (m : Option Sent) → HoldsOfNamed Known (message_owed m)
message_owed_named Known None = tt
message_owed_named Known (Some m) = tt

sent_by_renamed : (r : Renaming) (x : Result (Option Sent) NiFault) →
    sent_by (renamed_result (option_map (renamed_message r)) x) ≡ option_map (renamed_message r) (sent_by x)
sent_by_renamed r (Ok m) = refl
sent_by_renamed r (Err fault) = refl

module _ (r : Renaming) (k : IsRenaming r) (s t : Seat) (alike : SeatsAlike r s t) where
  misuse_alike : (d : TriggeredOp) →
      start_misuse (renamed_action r s.nic.rank d) t.nic.ranks t.nic.limits ≡ start_misuse d s.nic.ranks s.nic.limits
  misuse_alike d =
      ap (λ (n : State). start_misuse (renamed_action r s.nic.rank d) n.ranks n.limits) alike.near.nic
      ∙ start_misuse_renamed r s.nic.rank d s.nic.ranks s.nic.limits

  -- ---- starts

  start_leaves : (x : Done (Result (Option Sent) NiFault)) → Keeps s.nic x.state →
      AftersAlike r (record (tells message_owed x s) { sent = sent_by x.answer })
      (record (tells message_owed (renamed_done r (renamed_result (option_map (renamed_message r))) x) t) {
        sent = sent_by (renamed_result (option_map (renamed_message r)) x.answer);
      })
  start_leaves x keeps =
      leaves_alike r s t (with_nic x.state s) (with_nic (renamed r x.state) t) (told message_owed x.answer)
      (told message_owed (renamed_result (option_map (renamed_message r)) x.answer)) (sent_by x.answer)
      (sent_by (renamed_result (option_map (renamed_message r)) x.answer)) alike refl refl
      (near_with_nic r s t x.state (renamed r x.state) alike.near keeps.rank refl)
      (told_renamed r x.state.rank message_owed (option_map (renamed_message r)) x.answer (message_owed_renamed r x.state.rank))
      (sent_by_renamed r x.answer)
      (λ h is other. keeps.known h is)
      (told_names (KnownIn s.nic) message_owed x.answer (λ m is. message_owed_named (KnownIn s.nic) m))

  starts_alike : (d : TriggeredOp) → AftersAlike r (starts d s) (starts (renamed_action r s.nic.rank d) t)
  starts_alike d =
      unless_alike r s t (start_misuse d s.nic.ranks s.nic.limits)
      (start_misuse (renamed_action r s.nic.rank d) t.nic.ranks t.nic.limits) _ _ alike (misuse_alike d)
      (λ kept.
      subst (λ y. AftersAlike r (record (tells message_owed (start d s.nic) s) { sent = sent_by (start d s.nic).answer })
      (record (tells message_owed y t) { sent = sent_by y.answer }))
      (sym (ap (start (renamed_action r s.nic.rank d)) alike.near.nic ∙ start_renamed r k d s.nic))
      (start_leaves (start d s.nic) (start_keeps d s.nic)))

  pub start_alike : KeepsNone r → (d : TriggeredOpSaid) → AftersAlike r (starts (deed_of s d) s) (starts (deed_of t d) t)
  start_alike none d =
      subst (λ x. AftersAlike r (starts (deed_of s d) s) (starts x t)) (sym (deed_of_renamed r s t alike.near none d))
      (starts_alike (deed_of s d))

  -- ---- triggered operations

  with_posted_near : (u v : Seat) (word : List ℕ) (ct : Handle) (x : Result ℕ NiFault) → AlikeButEntries r u v →
      AlikeButEntries r (with_posted word ct x u) (with_posted word (r.ct ct) x v)
  with_posted_near u v word ct (Ok n) near =
      near_with_operations r u v (posted n ct word u.operations) (posted n (r.ct ct) word v.operations) near
      (ap (posted n (r.ct ct) word) near.operations ∙ posted_renamed r.ct n ct word u.operations)
  with_posted_near u v word ct (Err fault) near = near

  with_posted_entries : (u : Seat) (word : List ℕ) (ct : Handle) (x : Result ℕ NiFault) → (with_posted word ct x u).entries ≡ u.entries
  with_posted_entries u word ct (Ok n) = refl
  with_posted_entries u word ct (Err fault) = refl

  with_posted_nic : (u : Seat) (word : List ℕ) (ct : Handle) (x : Result ℕ NiFault) → (with_posted word ct x u).nic ≡ u.nic
  with_posted_nic u word ct (Ok n) = refl
  with_posted_nic u word ct (Err fault) = refl

  posted_leaves : (word : List ℕ) (ct : Handle) (x : Done (Result ℕ NiFault)) → Keeps s.nic x.state →
      AftersAlike r (posted_after word ct x s) (posted_after word (r.ct ct) (renamed_done r (λ y. y) x) t)
  posted_leaves word ct x keeps =
      let u : Seat = with_posted word ct x.answer (with_nic x.state s) in
      let v : Seat = with_posted word (r.ct ct) x.answer (with_nic (renamed r x.state) t) in
      leaves_alike r s t u v (told (λ n. ok tt) x.answer) (told (λ n. ok tt) x.answer) None None alike
      (with_posted_entries (with_nic x.state s) word ct x.answer)
      (with_posted_entries (with_nic (renamed r x.state) t) word (r.ct ct) x.answer)
      (with_posted_near (with_nic x.state s) (with_nic (renamed r x.state) t) word ct x.answer
      (near_with_nic r s t x.state (renamed r x.state) alike.near keeps.rank refl))
      (told_same r u.nic.rank (λ (n : ℕ). ok tt) x.answer (λ n. refl)) refl
      (λ h is other. keeps.known h (subst (λ n. KnownIn n h) (with_posted_nic (with_nic x.state s) word ct x.answer) is))
      (told_names (KnownIn s.nic) (λ (n : ℕ). ok tt) x.answer (λ n is. tt))

  posts_alike : (word : List ℕ) (d : TriggeredOp) (ct : Handle) (threshold : ℕ) →
      AftersAlike r (posts word d ct threshold s) (posts word (renamed_action r s.nic.rank d) (r.ct ct) threshold t)
  posts_alike word d ct threshold =
      unless_alike r s t (start_misuse d s.nic.ranks s.nic.limits)
      (start_misuse (renamed_action r s.nic.rank d) t.nic.ranks t.nic.limits) _ _ alike (misuse_alike d)
      (λ kept.
      subst (λ y. AftersAlike r (posted_after word ct (triggered d ct threshold s.nic) s) (posted_after word (r.ct ct) y t))
      (sym (ap (triggered (renamed_action r s.nic.rank d) (r.ct ct) threshold) alike.near.nic
      ∙ triggered_renamed r k d ct threshold s.nic))
      (posted_leaves word ct (triggered d ct threshold s.nic) (triggered_keeps d ct threshold s.nic)))

  pub triggered_alike : KeepsNone r → (word ct : Word) (threshold : ℕ) (d : TriggeredOpSaid) →
      AftersAlike r (posts word.text (deed_of s d) (handle_of Counter s ct) threshold s)
      (posts word.text (deed_of t d) (handle_of Counter t ct) threshold t)
  triggered_alike none word ct threshold d =
      subst (λ x. AftersAlike r (posts word.text (deed_of s d) (handle_of Counter s ct) threshold s) x)
      (sym (ap₂ (λ x h. posts word.text x h threshold t) (deed_of_renamed r s t alike.near none d)
      (handle_of_renamed r s t alike.near none Counter tt ct)))
      (posts_alike word.text (deed_of s d) (handle_of Counter s ct) threshold)

  -- ---- firings

  fired_leaves : (n : ℕ) (f : Fires) → Keeps s.nic f.state → AftersAlike r (fires_as n f s) (fires_as n (renamed_fires r f) t)
  fired_leaves n f keeps =
      leaves_alike r s t (with_operations (removed n s.operations) (with_nic f.state s))
      (with_operations (removed n t.operations) (with_nic (renamed r f.state) t)) (message_owed f.message)
      (message_owed (option_map (renamed_message r) f.message)) f.message (option_map (renamed_message r) f.message) alike refl refl
      (near_with_operations r (with_nic f.state s) (with_nic (renamed r f.state) t) (removed n s.operations) (removed n t.operations)
      (near_with_nic r s t f.state (renamed r f.state) alike.near keeps.rank refl)
      (ap (removed n) alike.near.operations ∙ removed_renamed r.ct n s.operations))
      (message_owed_renamed r f.state.rank f.message) refl
      (λ h is other. keeps.known h is)
      (message_owed_named (KnownIn s.nic) f.message)

  pub fires_alike : (o : Option ℕ) → AftersAlike r (fires_at o s) (fires_at o t)
  fires_alike None =
      after_alike r s t (says (misuse_word misuses.NotReady)) (says (misuse_word misuses.NotReady)) alike refl tt
  fires_alike (Some n) =
      unless_alike r s t (unless (is_ready s.nic n) misuses.NotReady) (unless (is_ready t.nic n) misuses.NotReady) _ _ alike
      (ap (λ b. unless b misuses.NotReady) (ap (λ x. is_ready x n) alike.near.nic ∙ is_ready_renamed r k s.nic n))
      (λ kept.
      subst (λ y. AftersAlike r (fires_as n (fired s.nic n) s) (fires_as n y t))
      (sym (ap (λ x. fired x n) alike.near.nic ∙ fired_renamed r k s.nic n))
      (fired_leaves n (fired s.nic n) (fired_keeps s.nic n)))

  pub fire_alike : (w : Word) → AftersAlike r (fires_at (operation_of s w) s) (fires_at (operation_of t w) t)
  fire_alike w =
      subst (λ o. AftersAlike r (fires_at (operation_of s w) s) (fires_at o t)) (sym (operation_of_alike r s t alike.near w))
      (fires_alike (operation_of s w))

  -- ---- cancelled operations

  without_waiting_near : (u v : Seat) (ct : Handle) (x : Result ℕ NiFault) → AlikeButEntries r u v →
      AlikeButEntries r (without_waiting ct x u) (without_waiting (r.ct ct) x v)
  without_waiting_near u v ct (Ok n) near =
      near_with_operations r u v (cancelled ct u.operations) (cancelled (r.ct ct) v.operations) near
      (ap (cancelled (r.ct ct)) near.operations ∙ cancelled_renamed r.ct k.ct ct u.operations)
  without_waiting_near u v ct (Err fault) near = near

  without_waiting_entries : (u : Seat) (ct : Handle) (x : Result ℕ NiFault) → (without_waiting ct x u).entries ≡ u.entries
  without_waiting_entries u ct (Ok n) = refl
  without_waiting_entries u ct (Err fault) = refl

  without_waiting_nic : (u : Seat) (ct : Handle) (x : Result ℕ NiFault) → (without_waiting ct x u).nic ≡ u.nic
  without_waiting_nic u ct (Ok n) = refl
  without_waiting_nic u ct (Err fault) = refl

  cancelled_leaves : (ct : Handle) (x : Done (Result ℕ NiFault)) → Keeps s.nic x.state →
      AftersAlike r (cancelled_after ct x s) (cancelled_after (r.ct ct) (renamed_done r (λ y. y) x) t)
  cancelled_leaves ct x keeps =
      let u : Seat = without_waiting ct x.answer (with_nic x.state s) in
      let v : Seat = without_waiting (r.ct ct) x.answer (with_nic (renamed r x.state) t) in
      leaves_alike r s t u v (told (λ n. owed.Amount n) x.answer) (told (λ n. owed.Amount n) x.answer) None None alike
      (without_waiting_entries (with_nic x.state s) ct x.answer)
      (without_waiting_entries (with_nic (renamed r x.state) t) (r.ct ct) x.answer)
      (without_waiting_near (with_nic x.state s) (with_nic (renamed r x.state) t) ct x.answer
      (near_with_nic r s t x.state (renamed r x.state) alike.near keeps.rank refl))
      (told_same r u.nic.rank (λ (n : ℕ). owed.Amount n) x.answer (λ n. refl)) refl
      (λ h is other. keeps.known h (subst (λ n. KnownIn n h) (without_waiting_nic (with_nic x.state s) ct x.answer) is))
      (told_names (KnownIn s.nic) (λ (n : ℕ). owed.Amount n) x.answer (λ n is. tt))

  cancels_alike : (ct : Handle) → AftersAlike r (cancels ct s) (cancels (r.ct ct) t)
  cancels_alike ct =
      subst (λ y. AftersAlike r (cancelled_after ct (ct_cancel ct s.nic) s) (cancelled_after (r.ct ct) y t))
      (sym (ap (ct_cancel (r.ct ct)) alike.near.nic ∙ ct_cancel_renamed r k ct s.nic))
      (cancelled_leaves ct (ct_cancel ct s.nic) (ct_cancel_keeps ct s.nic))

  pub cancel_alike : KeepsNone r → (ct : Word) → AftersAlike r (cancels (handle_of Counter s ct) s) (cancels (handle_of Counter t ct) t)
  cancel_alike none ct =
      subst (λ h. AftersAlike r (cancels (handle_of Counter s ct) s) (cancels h t))
      (sym (handle_of_renamed r s t alike.near none Counter tt ct)) (cancels_alike (handle_of Counter s ct))

  -- ---- the region

  pub write_alike : (start : ℕ) (bytes : List ℕ) → AftersAlike r (writes start bytes s) (writes start bytes t)
  write_alike start bytes =
      unless_alike r s t (outside s.nic start (length bytes)) (outside t.nic start (length bytes)) _ _ alike
      (ap (λ (n : State). outside n start (length bytes)) alike.near.nic)
      (λ kept.
      leaves_alike r s t (with_nic (write_memory start bytes s.nic) s) (with_nic (write_memory start bytes t.nic) t) (ok tt) (ok tt)
      None None alike refl refl
      (near_with_nic r s t (write_memory start bytes s.nic) (write_memory start bytes t.nic) alike.near refl
      (ap (write_memory start bytes) alike.near.nic ∙ write_memory_renamed r start bytes s.nic))
      refl refl (λ h is other. (write_memory_keeps start bytes s.nic).known h is) tt)
