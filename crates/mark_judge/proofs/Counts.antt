-- Things counted by their keys: one more counts at its key alone.
use Rattle.std.proofs.Common.{ℕ, Bool, true, false, cond, ◌+◌, ◌^◌, ◌≡◌, ◌≤◌, ◌<◌, ◌==◌, List, [], ◌∷◌, ◌++◌, length, map, set, get_or}
use Rattle.std.proofs.Common.{count_by, refl, ap, sym, ◌∙◌, arith}
use Rattle.std.specs.Prelude.{if◌then◌else◌}
use Rattle.std.proofs.lemmas.List.Sums.{sum_by-cons}
use Rattle.number_lists.specs.Numbers.{from_to}
use Rattle.plan_core.proofs.Lists.{count-append}
use Rattle.plan_tables.specs.Rising.{of_key}
use Rattle.plan_tables.proofs.Indexed.{at_most-filtered}
use Rattle.plan_tables.proofs.Passes.{get-row, keyed-more}

-- how much the things below k of each key are
abbrev pub amounts : (ℕ → ℕ) → (List ℕ → ℕ) → ℕ → ℕ → List ℕ
amounts key g k n = map (λ r. g (of_key key k r)) (from_to 0 n)

module _ (key : ℕ → ℕ) (g : List ℕ → ℕ) (k n : ℕ) (now : List ℕ) (known : key k < n) (e : now ≡ amounts key g k n) where
  at-key : get_or now (key k) 0 ≡ g (of_key key k (key k))
  at-key = ap (λ v. get_or v (key k) 0) e ∙ get-row (λ r. g (of_key key k r)) n (key k) 0 known

  pub counted-more : (b : ℕ) → g (of_key key k (key k) ++ k ∷ []) ≡ g (of_key key k (key k)) + b
      → set now (key k) (get_or now (key k) 0 + b) ≡ amounts key g (k + 1) n
  counted-more b more =
      ap (λ v. set v (key k) (get_or now (key k) 0 + b)) e
      ∙ keyed-more key g k n (get_or now (key k) 0 + b) known (ap (λ m. m + b) at-key ∙ sym more)

  pub few-counted : ((xs : List ℕ) → g xs ≤ length xs) → k < 2 ^ 32 → get_or now (key k) 0 + 1 < 2 ^ 64
  few-counted small few =
      let a = at-key in
      let b = small (of_key key k (key k)) in
      let d = at_most-filtered (λ j. key j == key k) k in
      omega (arith, a, b, d, few)

bit : (b : Bool) → cond b 1 0 + 0 ≡ (if b then 1 else 0)
bit true = refl
bit false = refl

pub count-one-more : (t : ℕ → Bool) (xs : List ℕ) (k : ℕ) → count_by t (xs ++ k ∷ []) ≡ count_by t xs + (if t k then 1 else 0)
count-one-more t xs k =
    count-append t xs (k ∷ []) ∙ ap (λ n. count_by t xs + n) (sum_by-cons (λ x. cond (t x) 1 0) k [] ∙ bit (t k))
