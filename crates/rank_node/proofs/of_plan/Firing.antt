-- What a node finds ready after its open lanes.
use Rattle.std.proofs.Common.{ℕ, zero, suc, Bool, true, false, not, ◌≡◌, ◌<◌, ◌≤◌, ◌∙◌, List, [], ◌∷◌, Option, Some, None, refl, ap, ap₂}
use Rattle.std.proofs.Common.{sym, arith, inl, inr, map, filter, length, get_or, nat_lt, if◌then◌else◌, lt-ltb}
use Rattle.std.proofs.lemmas.Bool.{cases_lt}
use Rattle.std.proofs.lemmas.List.{get_or_default}
use Rattle.ptl_types.specs.Messages.{Sent}
use Rattle.ptl_types.specs.declared.headers.Lane.TheVariants.{Request}
use Rattle.ni_model.specs.Ready.{fired, ready_numbers, target_at}
use Rattle.ni_model.specs.State.{State}
use Rattle.cuts.specs.histories.System.{System, state_at}
use Rattle.rank_node.specs.of_plan.Ranks.{AreGates}
use Rattle.cuts.specs.orders.Chosen.{Scene, firings_at}
use Rattle.cuts.specs.declared.orders.Step.TheVariants.{Fire}
use Rattle.cuts.specs.windows.Possible.{finds_room, is_possible}
use Rattle.rank_node.proofs.Sending.{fired-target, rank_of}
use Rattle.rank_node.specs.Gates.{goes_out, open_numbers}

-- ---- gates
filter-same : {X : Type 0} (p q : X → Bool) (xs : List X) → ((x : X) → p x ≡ q x) → filter p xs ≡ filter q xs
filter-same p q [] e = refl
filter-same p q (x ∷ xs) e = ap₂ (λ b ys. if b then x ∷ ys else ys) (e x) (filter-same p q xs e)

filter-map : {X Y : Type 0} (f : X → Y) (p : Y → Bool) (xs : List X) → filter p (map f xs) ≡ map f (filter (λ x. p (f x)) xs)
filter-map f p [] = refl
filter-map {X} {Y} f p (x ∷ xs) = ap (λ ys. if p (f x) then f x ∷ ys else ys) (filter-map f p xs) ∙ at (p (f x))
  where
    at : (b : Bool) → (if b then f x ∷ map f (filter (λ x. p (f x)) xs) else map f (filter (λ x. p (f x)) xs)) ≡ map f
        (if b then x ∷ filter (λ x. p (f x)) xs else filter (λ x. p (f x)) xs)
    at true = refl
    at false = refl

not-not : (b : Bool) → not (not b) ≡ b
not-not true = refl
not-not false = refl

get-past : (closed : List Bool) (d : ℕ) → length closed ≤ d → get_or closed d false ≡ false
get-past [] d le = refl
get-past (b ∷ closed) zero le = absurd (omega arith)
get-past (b ∷ closed) (suc d) le = get-past closed d (omega arith)

module _ (z : Scene) (window r : ℕ) (some : 0 < window) (closed : List Bool) (gates : AreGates z window r closed) where
  room : (o : Option Sent) → finds_room window z r o ≡ goes_out closed (rank_of o)
  room None = refl
  room (Some m) = elim (cases_lt m.header.target (length closed)) [
    | inl lt ↦ sym (ap not (get_or_default closed m.header.target false true lt ∙ gates.full m.header.target lt)
        ∙ not-not (nat_lt (length (z.held r m.header.target Request)) window))
    | inr le ↦ ap (λ ms. nat_lt (length ms) window) (gates.past m.header.target le) ∙ lt-ltb 0 window some
        ∙ sym (ap not (get-past closed m.header.target le))
  ]

  pub open-possible : (k : System) (s : State) → s ≡ state_at k z.world r → filter (is_possible k window z) (firings_at k z r) ≡ map
      (Fire r) (open_numbers closed s)
  open-possible k s e =
      filter-map (Fire r) (is_possible k window z) (ready_numbers (state_at k z.world r))
      ∙ ap (map (Fire r)) (filter-same (λ t. is_possible k window z (Fire r t))
      (λ t. goes_out closed (target_at (state_at k z.world r) t)) (ready_numbers (state_at k z.world r))
      (λ t. room (fired (state_at k z.world r) t).message ∙ ap (goes_out closed) (fired-target (state_at k z.world r) t)))
      ∙ ap (λ v. map (Fire r) (open_numbers closed v)) (sym e)
