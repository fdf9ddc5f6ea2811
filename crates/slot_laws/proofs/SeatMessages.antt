-- A message that comes is taken alike at two interfaces of a log that differ in the slots of handles alone.
use Rattle.std.proofs.Common.{◌≡◌, ◌==◌, Bool, true, false, is_some, Option, Some, None, option_map, if◌then◌else◌}
use Rattle.std.proofs.Common.{refl, ap, sym, ◌∙◌, subst}
use Rattle.std.proofs.lemmas.Bool.{eqb-true}
use Rattle.ptl_types.specs.Kinds.{is_answer}
use Rattle.ptl_types.specs.Messages.{Sent}
use Rattle.ni_model.specs.Arrive.{Received, request}
use Rattle.ni_model.specs.Answers.{Returned, answered}
use Rattle.ni_model.specs.State.{Delivers, State, after_answer, after_request, home_of, parts_of, target}
use Rattle.guarded_ni.specs.declared.faults.Misuse.TheVariants as misuses
use Rattle.guarded_ni.specs.Misuses.{unless}
use Rattle.log_answers.specs.declared.owed.Owed.TheVariants as owed
use Rattle.log_seats.specs.Answers.{arrived, arrives, delivers_as}
use Rattle.log_seats.specs.Seats.{with_nic}
use Rattle.log_seats.specs.declared.seats.Seat.{Seat}
use Rattle.slot_laws.specs.Renaming.{IsRenaming, Renaming}
use Rattle.slot_laws.specs.Renamed.{renamed, renamed_message}
use Rattle.slot_laws.proofs.terms.Lasting.{Keeps}
use Rattle.slot_laws.specs.Alike.{AftersAlike, SeatsAlike}
use Rattle.slot_laws.proofs.Arriving.{request_renamed}
use Rattle.slot_laws.proofs.Starting.{answered_renamed, home_of_answer}
use Rattle.slot_laws.proofs.Leaving.{target_keeps}
use Rattle.slot_laws.proofs.SeatTables.{is_kept}
use Rattle.slot_laws.proofs.SeatAnswers.{leaves_alike, near_with_nic, unless_alike}

is_some_mapped : {A B : Type 0} (f : A → B) (o : Option A) → is_some (option_map f o) ≡ is_some o
is_some_mapped f None = refl
is_some_mapped f (Some x) = refl

-- what a message leaves and answers
abbrev pub renamed_delivers : Renaming → Delivers → Delivers
renamed_delivers r d = record {
  state = renamed r d.state;
  delivered = record d.delivered { answer = option_map (renamed_message r) d.delivered.answer };
}

pub target_renamed : (r : Renaming) → IsRenaming r → (s : State) (m : Sent) → m.header.target ≡ s.rank →
    target (renamed r s) (renamed_message r m) ≡ renamed_delivers r (target s m)
unfolding target
target_renamed r k s m at = by_kind (is_answer m.header.kind) refl
  where
    by_kind : (b : Bool) → is_answer m.header.kind ≡ b →
        (if b then after_answer (renamed r s) (answered (home_of (renamed r s)) (renamed_message r m))
        else after_request (renamed r s) (request (parts_of (renamed r s)) (renamed_message r m)))
        ≡ renamed_delivers r (if b then after_answer s (answered (home_of s) m) else after_request s (request (parts_of s) m))
    by_kind true comes =
        ap (λ (x : Returned). after_answer (renamed r s) x)
        (answered_renamed r k s.rank (home_of s) m (home_of_answer s.rank m.header comes at))
    by_kind false asks = ap (λ (x : Received). after_request (renamed r s) x) (request_renamed r k (parts_of s) m asks)

-- ---- at the interface that it is for

module _ (r : Renaming) (k : IsRenaming r) (s t : Seat) (alike : SeatsAlike r s t) where
  delivered_leaves : (d : Delivers) → Keeps s.nic d.state → AftersAlike r (delivers_as d s) (delivers_as (renamed_delivers r d) t)
  delivered_leaves d keeps =
      leaves_alike r s t (with_nic d.state s) (with_nic (renamed r d.state) t)
      (owed.Delivered d.delivered.outcome (is_some d.delivered.answer))
      (owed.Delivered d.delivered.outcome (is_some (option_map (renamed_message r) d.delivered.answer))) d.delivered.answer
      (option_map (renamed_message r) d.delivered.answer) alike refl refl
      (near_with_nic r s t d.state (renamed r d.state) alike.near keeps.rank refl)
      (ap (owed.Delivered d.delivered.outcome) (is_some_mapped (renamed_message r) d.delivered.answer)) refl
      (λ h is other. keeps.known h is) tt

  pub arrived_alike : (m : Sent) → AftersAlike r (arrived m s) (arrived (renamed_message r m) t)
  arrived_alike m =
      unless_alike r s t (unless (m.header.target == s.nic.rank) misuses.Elsewhere)
      (unless (m.header.target == t.nic.rank) misuses.Elsewhere) _ _ alike
      (ap (λ (n : State). unless (m.header.target == n.rank) misuses.Elsewhere) alike.near.nic)
      (λ kept.
      subst (λ d. AftersAlike r (arrives m s) (delivers_as d t))
      (sym (ap (λ n. target n (renamed_message r m)) alike.near.nic
      ∙ target_renamed r k s.nic m
      (eqb-true m.header.target s.nic.rank (is_kept (m.header.target == s.nic.rank) misuses.Elsewhere kept))))
      (delivered_leaves (target s.nic m) (target_keeps s.nic m)))
