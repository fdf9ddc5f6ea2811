-- Strays of three ranks: one is put at the end of a used request lane; and what is no such step, by one fault each.
use Rattle.std.proofs.Common.{ℕ, Bool, true, false, cond, ◌&&◌, ◌==◌, ◌≡◌, ◌*◌, ◌^◌, List, [], ◌∷◌, ◌++◌, get_or}
use Rattle.std.proofs.Common.{refl}
use Rattle.std.proofs.Common.{None, arith, ap, subst, sym, ◌∙◌, lit<, if◌then◌else◌, eqb-true}
use Rattle.ni_model.specs.Conditions.{IsKept}
use Rattle.cuts.specs.histories.Cut.{is_stray}
use Rattle.ptl_types.specs.Messages.{Sent}
use Rattle.ptl_types.specs.declared.headers.AckRequest.TheVariants.{NoAck}
use Rattle.ptl_types.specs.declared.headers.Lane.{Lane}
use Rattle.ptl_types.specs.declared.headers.Lane.TheVariants.{Answer, Request}
use Rattle.cuts.specs.view.TriggeredOps.{link_header}
use Rattle.cuts.specs.histories.History.Local.{Start}
use Rattle.cuts.specs.histories.Moment.{IsStrayStep, Lanes, is_request_lane}
use Rattle.cuts.specs.histories.System.{Histories, System}
use Rattle.law_cases.proofs.plans.Acknowledged.{each, says, system, three}
use Rattle.law_cases.proofs.plans.Broadcast.{slots}

-- an empty put of job 2 from rank 0 to rank d
abbrev stray_to : ℕ → Sent
stray_to d = record {
  header = record (link_header three slots 8) { target = d; match_bits = 2 * 2 ^ 48; ack = NoAck; home = None };
  bytes = [];
}

abbrev none : Histories
none r = []

-- these lie on the lane from rank 0 to rank d, and nothing on another
abbrev requests : ℕ → List Sent → Lanes
requests d ms q u Request = if (q == 0) && (u == d) then ms else []
requests d ms q u Answer = []

-- the message of the job comes first, and the stray after it
put_last : IsStrayStep system none (requests 2 (says 8 [] ∷ [])) none (requests 2 (says 8 [] ∷ stray_to 2 ∷ []))
put_last = record {
  s = 0;
  d = 2;
  m = stray_to 2;
  from = lit< tt;
  to = lit< tt;
  used = refl;
  stray = record { stray = refl; asks = refl; source = refl; target = refl; kept = refl };
  same = λ q. refl;
  put = λ q u lane. put_by q u (q == 0) (u == 2) lane;
}
  where
    two_lists : (a b : Bool) → cond {A = List Sent} (a && b) (says 8 [] ∷ stray_to 2 ∷ []) []
        ≡ cond (a && b) (says 8 [] ∷ []) [] ++ cond (a && (b && true)) (stray_to 2 ∷ []) []
    two_lists true true = refl
    two_lists true false = refl
    two_lists false b = refl

    no_lists : (a b : Bool) → [] ≡ cond {A = List Sent} (a && (b && false)) (stray_to 2 ∷ []) []
    no_lists true true = refl
    no_lists true false = refl
    no_lists false b = refl

    put_by : (q u : ℕ) (a b : Bool) (lane : Lane) → requests 2 (says 8 [] ∷ stray_to 2 ∷ []) q u lane
        ≡ requests 2 (says 8 [] ∷ []) q u lane ++ (if is_request_lane 0 2 q u lane then stray_to 2 ∷ [] else [])
    put_by q u a b Request = two_lists (q == 0) (u == 2)
    put_by q u a b Answer = no_lists (q == 0) (u == 2)

-- ---- on which lane it is put
both : (a b c : Bool) (x m : Sent) → x ∷ [] ≡ cond (a && (b && c)) (m ∷ []) [] → (a ≡ true) × (b ≡ true) × (c ≡ true) × (x ≡ m)
both true true true x m e = (refl, refl, refl, ap (λ (ms : List Sent). get_or ms 0 x) e)
both true true false x m e = cc
both true false c x m e = cc
both false b c x m e = cc

-- a step after which one message is on an empty lane put it there
record IsPutThere (s d : ℕ) (x : Sent) (k : System) (w : Histories) (held : Lanes) (next : Histories) (after : Lanes)
    (h : IsStrayStep k w held next after) : Type 0 where
  from : s ≡ h.s
  to : d ≡ h.d
  message : x ≡ h.m

put_there : (k : System) (w : Histories) (held : Lanes) (next : Histories) (after : Lanes) (h : IsStrayStep k w held next after) (s d : ℕ)
    (x : Sent) → held s d Request ≡ [] → after s d Request ≡ x ∷ [] → IsPutThere s d x k w held next after h
put_there k w held next after h s d x before behind =
    let e : x ∷ [] ≡ [] ++ (if is_request_lane h.s h.d s d Request then h.m ∷ [] else []) =
    sym behind ∙ h.put s d Request ∙ ap (λ ms. ms ++ (if is_request_lane h.s h.d s d Request then h.m ∷ [] else [])) before in
    let b = both (s == h.s) (d == h.d) true x h.m e in
    record { from = eqb-true s h.s b.0; to = eqb-true d h.d b.1; message = b.3 }

-- no message of the plan goes from rank 0 to rank 1
on_an_unused_lane : IsStrayStep system none (requests 1 []) none (requests 1 (stray_to 1 ∷ [])) → ⊥
on_an_unused_lane h =
    let p = put_there system none (requests 1 []) none (requests 1 (stray_to 1 ∷ [])) h 0 1 (stray_to 1) refl refl in
    let q : false ≡ true = ap (λ s. system.used s 1 Request) p.from ∙ ap (λ d. system.used h.s d Request) p.to ∙ h.used in cc

-- ranks end at the third, where every lane is used
abbrev wide : System
wide = record system { used = λ s d lane. true }

to_a_fourth : IsStrayStep wide none (requests 3 []) none (requests 3 (stray_to 3 ∷ [])) → ⊥
to_a_fourth h =
    let p = put_there wide none (requests 3 []) none (requests 3 (stray_to 3 ∷ [])) h 0 3 (stray_to 3) refl refl in
    let e = p.to in let q = h.to in absurd (omega (arith, e, q))

abbrev from_fourth : List Sent → Lanes
from_fourth ms q u Request = if (q == 3) && (u == 0) then ms else []
from_fourth ms q u Answer = []

from_a_fourth : IsStrayStep wide none (from_fourth []) none (from_fourth (stray_to 0 ∷ [])) → ⊥
from_a_fourth h =
    let p = put_there wide none (from_fourth []) none (from_fourth (stray_to 0 ∷ [])) h 3 0 (stray_to 0) refl refl in
    let e = p.from in let q = h.from in absurd (omega (arith, e, q))

-- ---- what is put
of_this_job : IsStrayStep system none (requests 2 []) none (requests 2 (says 8 [] ∷ [])) → ⊥
of_this_job h =
    let p = put_there system none (requests 2 []) none (requests 2 (says 8 [] ∷ [])) h 0 2 (says 8 []) refl refl in
    let q : false ≡ true = ap (λ m. is_stray m) p.message ∙ h.stray.stray in cc

abbrev of_rank_1 : Sent
of_rank_1 = record (stray_to 2) { header = record (stray_to 2).header { source = 1 } }

of_another_source : IsStrayStep system none (requests 2 []) none (requests 2 (of_rank_1 ∷ [])) → ⊥
of_another_source h =
    let p = put_there system none (requests 2 []) none (requests 2 (of_rank_1 ∷ [])) h 0 2 of_rank_1 refl refl in
    let q : 1 ≡ 0 = ap (λ (m : Sent). m.header.source) p.message ∙ h.stray.source ∙ sym p.from in absurd (omega (arith, q))

for_another_target : IsStrayStep system none (requests 2 []) none (requests 2 (stray_to 1 ∷ [])) → ⊥
for_another_target h =
    let p = put_there system none (requests 2 []) none (requests 2 (stray_to 1 ∷ [])) h 0 2 (stray_to 1) refl refl in
    let q : 1 ≡ 2 = ap (λ (m : Sent). m.header.target) p.message ∙ h.stray.target ∙ sym p.to in absurd (omega (arith, q))

-- its header speaks of a byte that it hasn't
abbrev shortened : Sent
shortened = record (stray_to 2) { header = record (stray_to 2).header { length = 1 } }

without_its_byte : IsStrayStep system none (requests 2 []) none (requests 2 (shortened ∷ [])) → ⊥
without_its_byte h =
    let p = put_there system none (requests 2 []) none (requests 2 (shortened ∷ [])) h 0 2 shortened refl refl in
    let q : 0 ≡ 1 = subst (λ m. IsKept m) (sym p.message) h.stray.kept in absurd (omega (arith, q))

-- ---- where it is put
before_what_waits : IsStrayStep system none (requests 2 (says 8 [] ∷ [])) none (requests 2 (stray_to 2 ∷ says 8 [] ∷ [])) → ⊥
before_what_waits h =
    let q : 2 * 2 ^ 48 ≡ (says 8 []).header.match_bits =
    ap (λ (ms : List Sent). (get_or ms 0 (says 8 [])).header.match_bits) (h.put 0 2 Request) in
    absurd (omega (arith, q))

abbrev answers : List Sent → Lanes
answers ms q u Request = []
answers ms q u Answer = if (q == 0) && (u == 2) then ms else []

on_an_answer_lane : IsStrayStep system none (answers []) none (answers (stray_to 2 ∷ [])) → ⊥
on_an_answer_lane h = let q : false ≡ true = (both (0 == h.s) (2 == h.d) false (stray_to 2) h.m (h.put 0 2 Answer)).2 in cc

a_rank_makes_a_step : IsStrayStep system none (requests 2 []) (each [] [] (Start ∷ [])) (requests 2 (stray_to 2 ∷ [])) → ⊥
a_rank_makes_a_step h = let q : Start ∷ [] ≡ [] = h.same 2 in cc
