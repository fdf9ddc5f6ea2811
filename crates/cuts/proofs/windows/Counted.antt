-- Things of the places of a fixed order, found by their counts.
use Rattle.std.proofs.Common.{ℕ, zero, suc, ◌+◌, ◌<◌, ◌≡◌, ◌∙◌, List, refl, sym, ap, subst, inl, inr, flat_map, take, get_or, length, sum}
use Rattle.std.proofs.Common.{arith}
use Rattle.std.proofs.Math.ListN.{set}
use Rattle.std.proofs.lemmas.Bool.{cases_eq}
use Rattle.std.proofs.lemmas.List.{ext_get_or, get_or-map, get_or-set_same, get_or-set_other, length-map, take-map}
use Rattle.std.proofs.lemmas.List.Concat.{get_or-flat_map, length-flat_map}
use Rattle.std.proofs.lemmas.List.Sums.{sum-map}
use Rattle.plan_core.specs.Plan.{from_to}
use Rattle.cuts.specs.windows.Places.{counts}

pub length-from_to : (k n : ℕ) → length (from_to k n) ≡ n
length-from_to k zero = refl
length-from_to k (suc n) = ap suc (length-from_to (suc k) n)

pub get_or-from_to : (k n i d : ℕ) → i < n → get_or (from_to k n) i d ≡ k + i
get_or-from_to k zero i d h = absurd (omega arith)
get_or-from_to k (suc n) zero d h = omega arith
get_or-from_to k (suc n) (suc i) d h = get_or-from_to (suc k) n i d (omega arith) ∙ omega arith

module _ {X : Type 0} (f : ℕ → List X) (n : ℕ) where
  pub length-counts : length (counts f n) ≡ n
  length-counts = length-map (from_to 0 n) (λ k. length (f k)) ∙ length-from_to 0 n

  pub count_at : (i : ℕ) → i < n → get_or (counts f n) i 0 ≡ length (f i)
  count_at i h =
      let l = length-from_to 0 n in
      get_or-map (λ k. length (f k)) (from_to 0 n) i 0 0 (omega arith) ∙ ap (λ k. length (f k)) (get_or-from_to 0 n i 0 h ∙ omega arith)

  pub length-all : length (flat_map f (from_to 0 n)) ≡ sum (counts f n)
  length-all = length-flat_map f (from_to 0 n) ∙ sym (sum-map (λ k. length (f k)) (from_to 0 n))

  -- the thing number i stands at the place that its count tells
  pub listed : (place rest i : ℕ) (d : X) → place < n → sum (take place (counts f n)) + rest ≡ i → rest < get_or (counts f n) place 0 →
      get_or (flat_map f (from_to 0 n)) i d ≡ get_or (f place) rest d
  listed place rest i d h before within =
      let l = length-from_to 0 n in
      let here : get_or (from_to 0 n) place 0 ≡ place = get_or-from_to 0 n place 0 h ∙ omega arith in
      let front : length (flat_map f (take place (from_to 0 n))) ≡ sum (take place (counts f n)) =
      length-flat_map f (take place (from_to 0 n)) ∙ sym (ap sum (take-map (λ k. length (f k)) place (from_to 0 n))
      ∙ sum-map (λ k. length (f k)) (take place (from_to 0 n))) in
      let c = count_at place h in
      let m = ap (λ k. length (f k)) here in
      ap (λ k. get_or (flat_map f (from_to 0 n)) k d) (sym before ∙ ap (λ k. k + rest) (sym front))
      ∙ get_or-flat_map f (from_to 0 n) place rest 0 d (omega arith) (omega arith)
      ∙ ap (λ k. get_or (f k) rest d) here

  -- right at each place is right
  pub counts_by : (xs : List ℕ) → length xs ≡ n → ((i : ℕ) → i < n → get_or xs i 0 ≡ length (f i)) → xs ≡ counts f n
  counts_by xs size right = ext_get_or 0 xs (counts f n) (size ∙ sym length-counts) (λ i h. right i (omega arith)
      ∙ sym (count_at i (omega arith)))

-- a count that is set right is right, and the others stay
pub set_right : {X : Type 0} (f : ℕ → List X) (xs : List ℕ) (a v i : ℕ) → a < length xs → v ≡ length (f a) →
    ((i ≡ a → ⊥) → get_or xs i 0 ≡ length (f i)) → get_or (set xs a v) i 0 ≡ length (f i)
set_right f xs a v i h right rest = elim (cases_eq i a) [
  | inl e ↦ subst (λ k. get_or (set xs a v) k 0 ≡ length (f k)) (sym e) (get_or-set_same xs a v 0 h ∙ right)
  | inr n ↦ get_or-set_other xs a i v 0 n ∙ rest n
]
