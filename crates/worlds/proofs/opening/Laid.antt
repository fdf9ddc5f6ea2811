-- What is laid out pair by pair of ranks: for each pair one thing for its requests and one for its answers.
use Rattle.std.proofs.Common.{ℕ, ◌+◌, ◌*◌, ◌/◌, ◌%◌, ◌≡◌, ◌≢◌, ◌<◌, ◌≤◌, ◌∙◌, List, [], ◌∷◌, ◌++◌, get_or, length, ap, ap₂, sym, arith}
use Rattle.std.proofs.Common.{below_more}
use Rattle.std.proofs.Math.ListN.{set, length-set}
use Rattle.std.proofs.Math.Nat.{mul-le-mul}
use Rattle.std.proofs.lemmas.List.{get_or-set_other, get_or-set_same, get_or_append_left, get_or_push, length_push}
use Rattle.std.proofs.lemmas.Nat.{div-add-mod', div-mul-add, mod-mul-add, mul-add-lt}
use Rattle.ptl_types.specs.declared.headers.Lane.{Lane}
use Rattle.ptl_types.specs.declared.headers.Lane.TheVariants.{Request, Answer}
use Rattle.cuts.specs.windows.Places.{lane_place}

-- there are few pairs
pub at_most-pairs : (n : ℕ) → n ≤ 256 → n * n ≤ 65536
at_most-pairs n h = mul-le-mul h h

-- the two things of pair k
pub record IsLaid {X : Type 0} (f : ℕ → ℕ → Lane → X) (n : ℕ) (xs : List X) (none : X) (k : ℕ) : Type 0 where
  pub request : get_or xs (2 * k) none ≡ f (k / n) (k % n) Request
  pub answer : get_or xs (2 * k + 1) none ≡ f (k / n) (k % n) Answer

-- where the things of pair i stand
pub pair-place : (n i : ℕ) → (lane_place n (i / n) (i % n) Request ≡ 2 * i) × (lane_place n (i / n) (i % n) Answer ≡ 2 * i + 1)
pair-place n i = let p = div-add-mod' i n in (omega (arith, p), omega (arith, p))

module _ {X : Type 0} where
  -- ---- one after the other
  pub one-pair : (f : ℕ → ℕ → Lane → X) (n : ℕ) (xs : List X) (none a b : X) (i : ℕ) → length xs ≡ 2 * i
      → ((k : ℕ) → k < i → IsLaid f n xs none k)
      → a ≡ f (i / n) (i % n) Request → b ≡ f (i / n) (i % n) Answer
      → (k : ℕ) → k < i + 1 → IsLaid f n ((xs ++ a ∷ []) ++ b ∷ []) none k
  one-pair f n xs none a b i size before ea eb =
      below_more (IsLaid f n ((xs ++ a ∷ []) ++ b ∷ []) none) i
      (λ k h. record {
        request = under (2 * k) (omega (arith, size, h)) ∙ (before k h).request;
        answer = under (2 * k + 1) (omega (arith, size, h)) ∙ (before k h).answer;
      })
      (record {
        request = get_or_append_left (xs ++ a ∷ []) (b ∷ []) none (2 * i) (omega (arith, size, more)) ∙ get_or_push xs a none (2 * i) size
            ∙ ea;
        answer = get_or_push (xs ++ a ∷ []) b none (2 * i + 1) (omega (arith, size, more)) ∙ eb;
      })
    where
      more : length (xs ++ a ∷ []) ≡ length xs + 1
      more = length_push xs a

      under : (j : ℕ) → j < length xs → get_or ((xs ++ a ∷ []) ++ b ∷ []) j none ≡ get_or xs j none
      under j h = get_or_append_left (xs ++ a ∷ []) (b ∷ []) none j (omega (arith, more, h)) ∙ get_or_append_left xs (a ∷ []) none j h

  pub two-more : (xs : List X) (a b : X) (i : ℕ) → length xs ≡ 2 * i → length ((xs ++ a ∷ []) ++ b ∷ []) ≡ 2 * (i + 1)
  two-more xs a b i size = let x = length_push xs a in let y = length_push (xs ++ a ∷ []) b in omega (arith, size, x, y)

  -- ---- set where they stand
  -- the list with the two of pair i set, at places p and q
  pub pair-set : (f : ℕ → ℕ → Lane → X) (n : ℕ) (xs : List X) (none : X) (i p q : ℕ) → 2 * i + 1 < length xs → p ≡ 2 * i → q ≡ 2 * i + 1
      → ((k : ℕ) → k < i → IsLaid f n xs none k)
      → (k : ℕ) → k < i + 1 → IsLaid f n (set (set xs p (f (i / n) (i % n) Request)) q (f (i / n) (i % n) Answer)) none k
  pair-set f n xs none i p q room ep eq before =
      below_more (IsLaid f n twice none) i
      (λ k h. record {
        request = apart (2 * k) (omega (arith, ep, h)) (omega (arith, eq, h)) ∙ (before k h).request;
        answer = apart (2 * k + 1) (omega (arith, ep, h)) (omega (arith, eq, h)) ∙ (before k h).answer;
      })
      (record {
        request =
            get_or-set_other once q (2 * i) v none (omega (arith, eq))
            ∙ ap (λ j. get_or once j none) (sym ep)
            ∙ get_or-set_same xs p u none (omega (arith, room, ep));
        answer = ap (λ j. get_or twice j none) (sym eq) ∙ get_or-set_same once q v none (omega (arith, room, eq, size));
      })
    where
      u : X
      u = f (i / n) (i % n) Request

      v : X
      v = f (i / n) (i % n) Answer

      once : List X
      once = set xs p u

      twice : List X
      twice = set once q v

      size : length once ≡ length xs
      size = length-set xs p u

      apart : (j : ℕ) → j ≢ p → j ≢ q → get_or twice j none ≡ get_or xs j none
      apart j a b = get_or-set_other once q j v none b ∙ get_or-set_other xs p j u none a

  -- ---- each lane is that of a pair
  pub all-laid : (f : ℕ → ℕ → Lane → X) (n : ℕ) (xs : List X) (none : X) → ((k : ℕ) → k < n * n → IsLaid f n xs none k)
      → (s d : ℕ) (lane : Lane) → s < n → d < n → get_or xs (lane_place n s d lane) none ≡ f s d lane
  all-laid f n xs none all s d Request hs hd =
      (all (s * n + d) (mul-add-lt s n d n hs hd)).request ∙ ap₂ (λ a b. f a b Request) (div-mul-add s n d hd) (mod-mul-add s n d hd)
  all-laid f n xs none all s d Answer hs hd =
      (all (s * n + d) (mul-add-lt s n d n hs hd)).answer ∙ ap₂ (λ a b. f a b Answer) (div-mul-add s n d hd) (mod-mul-add s n d hd)
