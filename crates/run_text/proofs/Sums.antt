-- Sums, one more value at a time.
use Rattle.std.proofs.Common.{◌≡◌, ℕ, suc, ◌+◌, ◌-◌, ◌%◌, ◌^◌, ◌<◌, ◌≤◌, List, length, get_or, take, drop, sym, ◌∙◌, ap, arith}
use Rattle.std.specs.Prelude.{sum, sum_by}
use Rattle.std.proofs.lemmas.List.{get_or_default, take-take}
use Rattle.std.proofs.lemmas.List.Sums.{sum_by-cons}
use Rattle.ptl_types.specs.declared.elements.ElemType.{ElemType}
use Rattle.ptl_types.specs.Elements.{pattern}
use Rattle.ptl_types.specs.Operations.{bytes_of}
use Rattle.number_lists.specs.Numbers.{from_to}
use Rattle.coll_text.specs.Elements.{elements}
use Rattle.coll_text.proofs.Writes.{first_of, none_of}
use Rattle.coll_shape.specs.declared.types.Buffer.{Buffer}
use Rattle.coll_shape.specs.Outline.{Outline, buffer_at, no_buffer}

-- a value more, of a sum modulo 2 ^ 64
pub added : (total x more all step : ℕ) → step ≡ (total + x) % 2 ^ 64 → (total + (x + more)) % 2 ^ 64 ≡ all % 2 ^ 64 →
    (step + more) % 2 ^ 64 ≡ all % 2 ^ 64
added total x more all step is before = omega (arith, is, before)

pub added-part : (total x part more all step : ℕ) → part ≡ x % 2 ^ 64 → step ≡ (total + part) % 2 ^ 64 →
    (total + (x + more)) % 2 ^ 64 ≡ all % 2 ^ 64
    → (step + more) % 2 ^ 64 ≡ all % 2 ^ 64
added-part total x part more all step partly is before = omega (arith, partly, is, before)

pub sum-next : (ty : ElemType) (rest element behind : List ℕ) (size n : ℕ) → size ≡ bytes_of ty → size ≤ length rest →
    element ≡ take size rest → behind ≡ drop size rest → n ≡ pattern (take (bytes_of ty) element)
    → sum (elements ty rest) ≡ n + sum (elements ty behind)
sum-next ty rest element behind size n e le front back is =
    let fits : bytes_of ty ≤ length rest = omega (arith, e, le) in
    let own : n ≡ pattern (take (bytes_of ty) rest) = is ∙ ap (λ v. pattern (take (bytes_of ty) v)) (front ∙ ap (λ v. take v rest) e)
    ∙ ap pattern (take-take (bytes_of ty) (bytes_of ty) rest (omega arith)) in
    ap sum (first_of ty rest fits)
    ∙ sum_by-cons (λ x. x) (pattern (take (bytes_of ty) rest)) (elements ty (drop (bytes_of ty) rest))
    ∙ ap (λ v. v + sum (elements ty (drop (bytes_of ty) rest))) (sym own)
    ∙ ap (λ v. n + sum (elements ty v)) (sym (back ∙ ap (λ v. drop v rest) e))

pub sum-none : (ty : ElemType) (rest : List ℕ) → length rest < bytes_of ty → sum (elements ty rest) ≡ 0
sum-none ty rest l = ap sum (none_of ty rest l)

-- the sum over n numbers from r on
abbrev pub sum_from : (ℕ → ℕ) → ℕ → ℕ → ℕ
sum_from f r n = sum_by f (from_to r n)

pub sum_from-next : (f : ℕ → ℕ) (r n : ℕ) → r < n → sum_from f r (n - r) ≡ f r + sum_from f (r + 1) (n - (r + 1))
sum_from-next f r n in_range =
    ap (sum_from f r) (let left : n - r ≡ suc (n - (r + 1)) = omega arith in left)
    ∙ sum_by-cons f r (from_to (suc r) (n - (r + 1)))
    ∙ ap (λ v. f r + sum_from f v (n - (r + 1))) (let next : suc r ≡ r + 1 = omega arith in next)

pub sum_from-none : (f : ℕ → ℕ) (r n : ℕ) → n ≤ r → sum_from f r (n - r) ≡ 0
sum_from-none f r n past = ap (sum_from f r) (let none : n - r ≡ 0 = omega arith in none)

-- what a buffer is, as it is looked up
pub buffer-is : (o : Outline) (b : ℕ) (x : Buffer) (bs : List Buffer) → b < length o.buffers → bs ≡ o.buffers → x ≡ get_or bs b x →
    x ≡ buffer_at o b
buffer-is o b x bs l told is = is ∙ ap (λ v. get_or v b x) told ∙ get_or_default o.buffers b x no_buffer l
