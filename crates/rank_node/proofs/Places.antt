-- The place of a cell among rising cells.
use Rattle.std.proofs.Common.{◌≡◌, ◌<◌, ◌≤◌, ◌==◌, ℕ, suc, true, false, List, [], ◌∷◌, length, if◌then◌else◌, refl, ap, arith, get_or, ◌⊎◌}
use Rattle.std.proofs.Common.{inl, inr}
use Rattle.std.proofs.lemmas.Bool.Decides.{nat_tests}
use Rattle.plan_core.specs.Places.{place_in}
use Rattle.rank_node.specs.Handles.{IsRising}

-- a cell stands at its place
pub at_place : (cells : List ℕ) (c : ℕ) → place_in cells c < length cells → get_or cells (place_in cells c) 0 ≡ c
at_place [] c lt = absurd (omega arith)
at_place (k ∷ ks) c lt =
    elim (k == c) as (λ b. (k == c) ≡ b → (if b then 0 else suc (place_in ks c)) < suc (length ks) →
    get_or (k ∷ ks) (if b then 0 else suc (place_in ks c)) 0 ≡ c) [
      | true ↦ λ e less. grind (arith, nat_tests)
      | false ↦ λ e less. at_place ks c (omega arith)
    ] refl lt

order : (a b : ℕ) → (a ≤ b) ⊎ (b < a)
order a b = grind arith

-- a cell that is no greater stands no later
pub not_later : (cells : List ℕ) (c m : ℕ) → IsRising cells → place_in cells c < length cells → m < length cells → get_or cells m 0 ≤ c →
    m ≤ place_in cells c
not_later cells c m rising there lt le =
    let at : get_or cells (place_in cells c) 0 ≡ c = at_place cells c there in
    elim (order m (place_in cells c)) [
      | inl no_more ↦ no_more
      | inr more ↦ let up = rising.below (place_in cells c) m more lt in absurd (omega arith)
    ]

-- a greater one stands later
pub later : (cells : List ℕ) (c m : ℕ) → IsRising cells → place_in cells c < length cells → c < get_or cells m 0 → place_in cells c < m
later cells c m rising there gt =
    let at : get_or cells (place_in cells c) 0 ≡ c = at_place cells c there in
    elim (order m (place_in cells c)) [
      | inl no_more ↦ elim (order (place_in cells c) m) [
        | inl less ↦ let same : m ≡ place_in cells c = omega arith in let is = ap (λ n. get_or cells n 0) same in absurd (omega arith)
        | inr below ↦ let up = rising.below m (place_in cells c) below there in absurd (omega arith)
      ]
      | inr more ↦ more
    ]
