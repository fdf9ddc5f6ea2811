-- What passes a test among the numbers below one, and one more.
use Rattle.std.proofs.Common.{ℕ, Bool, true, false, cond, ◌≡◌, ◌+◌, ◌≤◌, min, [], ◌∷◌, refl, length, filter, ap, ◌∙◌, length-append, arith}
use Rattle.std.specs.Prelude.{◌&&◌, count_by, sum_by}
use Rattle.std.proofs.lemmas.List.Sums.{sum_by-append}
use Rattle.plan_core.specs.Plan.{from_to}
use Rattle.plan_tables.proofs.Passes.{upto-more}

length-one : (b : Bool) (n : ℕ) → length (cond b (n ∷ []) []) ≡ cond b 1 0
length-one true n = refl
length-one false n = refl

pub count_more : (t : ℕ → Bool) (n : ℕ) → length (filter t (from_to 0 (n + 1))) ≡ length (filter t (from_to 0 n)) + cond (t n) 1 0
count_more t n =
    ap length (upto-more t n)
    ∙ length-append (filter t (from_to 0 n)) (cond (t n) (n ∷ []) [])
    ∙ ap (λ k. length (filter t (from_to 0 n)) + k) (length-one (t n) n)

sum-one : (w : ℕ → ℕ) (b : Bool) (n : ℕ) → sum_by w (cond b (n ∷ []) []) ≡ cond b (w n) 0
sum-one w true n = omega arith
sum-one w false n = refl

pub sum_more : (w : ℕ → ℕ) (t : ℕ → Bool) (n : ℕ)
    → sum_by w (filter t (from_to 0 (n + 1))) ≡ sum_by w (filter t (from_to 0 n)) + cond (t n) (w n) 0
sum_more w t n =
    ap (sum_by w) (upto-more t n)
    ∙ sum_by-append w (filter t (from_to 0 n)) (cond (t n) (n ∷ []) [])
    ∙ ap (λ k. sum_by w (filter t (from_to 0 n)) + k) (sum-one w (t n) n)

abbrev one : Bool → ℕ
one b = cond b 1 0

both : (a b : Bool) → cond a (one b) 0 ≡ one (a && b)
both true b = refl
both false b = refl

pub passed_more : (q t : ℕ → Bool) (n : ℕ)
    → count_by q (filter t (from_to 0 (n + 1))) ≡ count_by q (filter t (from_to 0 n)) + cond (t n && q n) 1 0
passed_more q t n = sum_more (λ k. one (q k)) t n ∙ ap (λ k. count_by q (filter t (from_to 0 n)) + k) (both (t n) (q n))

-- one turn of a count, and of a sum that stops at the greatest number
pub counted : (count one q more next l : ℕ) → count ≡ q → count ≤ l → one ≡ more → one ≤ 1 → next ≡ q + more
    → (count + one ≡ next) × (count + one ≤ l + 1)
counted count one q more next l is few same most e = (omega arith, omega arith)

pub capped : (sum put q more next result most : ℕ) → sum ≡ min q most → result ≡ min (sum + put) most → put ≡ more → next ≡ q + more
    → result ≡ min next most
capped sum put q more next result most is now same e = omega arith
