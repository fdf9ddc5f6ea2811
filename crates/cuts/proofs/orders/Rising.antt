-- The numbers of a rank's operations rise in the order in which they wait.
use Rattle.std.proofs.Common.{ℕ, zero, suc, Bool, true, false, cond, not, ◌≡◌, ◌<◌, List, [], ◌∷◌, refl, length, map, filter, ap, ◌∙◌, sym}
use Rattle.std.proofs.Common.{subst, arith}
use Rattle.ni_model.specs.Ready.{is_ready, ready_numbers}
use Rattle.ni_model.specs.State.{Operations, Posted}
use Rattle.op_laws.specs.Combining.{CombineStarts}
use Rattle.plan_core.specs.Members.{In}
use Rattle.plan_core.specs.Plan.{Plan, from_to}
use Rattle.plan_core.specs.Sound.{AreInputsOf, SoundPlan}
use Rattle.plan_core.specs.Values.{Inputs}
use Rattle.plan_core.proofs.Links.{from_to-In}
use Rattle.plan_core.proofs.Lists.{In-filter_cases, In-map, In-map_cases}
use Rattle.plan_core.specs.calls.RankOps.{RankOp, number_of, rank_ops}
use Rattle.cuts.specs.machine.Machine.{all_seen}
use Rattle.cuts.specs.machine.Seen.{was_fired}
use Rattle.cuts.specs.view.TriggeredOps.{operation}
use Rattle.cuts.specs.view.Slots.{Slots}
use Rattle.cuts.proofs.view.Installed.{new_op, pending_are, placed}
use Rattle.cuts.specs.histories.Cut.{IsCut}
use Rattle.cuts.specs.histories.Plans.{system_of}
use Rattle.cuts.specs.histories.System.{Histories, state_at}
use Rattle.cuts.proofs.histories.FromCut.{moves_at}
use Rattle.cuts.proofs.histories.Shape.{shape}
use Rattle.cuts.specs.orders.Rising.{Rises}

rises-from_to : (k n : ℕ) → Rises (from_to k n)
rises-from_to k zero = tt
rises-from_to k (suc n) = ((λ y i. let q = from_to-In (suc k) n y i in let z = q.0 in omega arith), rises-from_to (suc k) n)

rises-filter : (q : ℕ → Bool) (xs : List ℕ) → Rises xs → Rises (filter q xs)
rises-filter q [] h = tt
rises-filter q (x ∷ xs) h = at (q x) (rises-filter q xs h.1)
  where
    at : (b : Bool) → Rises (filter q xs) → Rises (cond b (x ∷ filter q xs) (filter q xs))
    at true rest = ((λ y i. h.0 y (In-filter_cases q y xs i).0), rest)
    at false rest = rest

rises-map : {X : Type 0} (f : X → ℕ) (q : X → Bool) (xs : List X) → Rises (map f xs) → Rises (map f (filter q xs))
rises-map f q [] h = tt
rises-map f q (x ∷ xs) h = at (q x) (rises-map f q xs h.1)
  where
    at : (b : Bool) → Rises (map f (filter q xs)) → Rises (map f (cond b (x ∷ filter q xs) (filter q xs)))
    at true rest = (
      (λ y i. let z = In-map_cases f y (filter q xs) i in
          h.0 y (subst (λ v. In v (map f xs)) z.2 (In-map f z.0 xs (In-filter_cases q z.0 xs z.1).0))),
      rest,
    )
    at false rest = rest

abbrev number : Posted → ℕ
number x = x.number

placed-number : (p : Plan) (s : Slots) (i : ℕ) (ws : List RankOp) → map number (placed (new_op p s) i ws) ≡ from_to i (length ws)
placed-number p s i [] = refl
placed-number p s i (w ∷ ws) = ap (λ v. i ∷ v) (placed-number p s (suc i) ws)

all-number : (p : Plan) (s : Slots) (r : ℕ) (ws : List RankOp) →
    map number (map (operation p s r) (filter (λ w. not (was_fired [] w)) ws)) ≡ map (number_of p r) ws
all-number p s r [] = refl
all-number p s r (w ∷ ws) = ap (λ v. number_of p r w ∷ v) (all-number p s r ws)

rank_ops-rise : (p : Plan) (s : Slots) (r : ℕ) → Rises (map (number_of p r) (rank_ops p r))
rank_ops-rise p s r =
    subst Rises (sym (placed-number p s 0 (rank_ops p r)) ∙ ap (map number) (pending_are p s r) ∙ all-number p s r (rank_ops p r))
    (rises-from_to 0 (length (rank_ops p r)))

waiting-number : (p : Plan) (s : Slots) (r : ℕ) (ws : List RankOp) → map number (map (operation p s r) ws) ≡ map (number_of p r) ws
waiting-number p s r [] = refl
waiting-number p s r (w ∷ ws) = ap (λ v. number_of p r w ∷ v) (waiting-number p s r ws)

pub ready_rise : (starts : CombineStarts) (p : Plan) (inputs : Inputs) (sound : SoundPlan p (length inputs)) (fit : AreInputsOf p inputs)
    (slots : ℕ → Slots) (w : Histories) (cut : IsCut (system_of p inputs slots) w)
    (r : ℕ) → r < p.ranks → Rises (ready_numbers (state_at (system_of p inputs slots) w r))
ready_rise starts p inputs sound fit slots w cut r h =
    let sh = shape starts p inputs sound fit slots w cut r h in
    let g = all_seen p (moves_at p w) r in
    rises-filter (is_ready (state_at (system_of p inputs slots) w r)) (map number (state_at (system_of p inputs slots) w r).pending.waiting)
    (subst Rises
    (sym (ap (λ (ops : Operations). map number ops.waiting) sh.pending
    ∙ waiting-number p (slots r) r (filter (λ v. not (was_fired g.fired v)) (rank_ops p r))))
    (rises-map (number_of p r) (λ v. not (was_fired g.fired v)) (rank_ops p r) (rank_ops-rise p (slots r) r)))
