-- How long blocks and lists in a row are.
use Rattle.std.proofs.Common.{◌≡◌, ℕ, zero, suc, ◌+◌, ◌*◌, ◌/◌, ◌%◌, ◌<◌, ◌≤◌, Bool, true, false, cond, List, ◌∷◌, length, ap, sym, ◌∙◌}
use Rattle.std.proofs.Common.{arith, div-add-mod'}
use Rattle.std.specs.Prelude.{filter}
use Rattle.std.specs.List.{flat_map}
use Rattle.std.proofs.lemmas.List.{length-append}
use Rattle.std.proofs.Math.Nat.{mul_assoc, mul_comm, mul-div_cancel, mul-le-mul_right, div-mul-le_self, add-mul-mod_self_right}
use Rattle.number_lists.specs.Numbers.{from_to}

pub whole_mod : (n w : ℕ) → (n * w) % w ≡ 0
whole_mod n w =
    ap (λ v. v % w) (let e : n * w ≡ 0 + n * w = omega arith in e) ∙ add-mul-mod_self_right 0 n w ∙ zero_mod w
  where
    zero_mod : (w : ℕ) → 0 % w ≡ 0
    zero_mod w = omega arith

parts : (n m : ℕ) → n % m ≡ 0 → n / m * m ≡ n
parts n m e = let d = div-add-mod' n m in omega (arith, d, e)

-- a block of n elements of w bytes in m blocks
pub block_bytes : (n m w : ℕ) → 0 < m → n % m ≡ 0 → (n * w) / m ≡ (n / m) * w
block_bytes n m w l e =
    ap (λ v. v / m) (ap (λ v. v * w) (sym (parts n m e)) ∙ mul_assoc (n / m) m w ∙ ap (λ v. n / m * v) (mul_comm m w)
    ∙ sym (mul_assoc (n / m) w m))
    ∙ mul-div_cancel (n / m * w) l

-- all of them
pub blocks_bytes : (n m w : ℕ) → 0 < m → n % m ≡ 0 → m * ((n * w) / m) ≡ n * w
blocks_bytes n m w l e =
    ap (λ v. m * v) (block_bytes n m w l e) ∙ sym (mul_assoc m (n / m) w) ∙ ap (λ v. v * w) (mul_comm m (n / m) ∙ parts n m e)

-- a place's block lies within the list
pub block_fits : (all m i : ℕ) → i < m → i * (all / m) + all / m ≤ all
block_fits all m i l =
    let size = all / m in
    let most : suc i * size ≤ m * size = mul-le-mul_right size l in
    let within : size * m ≤ all = div-mul-le_self all m in
    let swap : m * size ≡ size * m = mul_comm m size in
    let one : suc i * size ≡ i * size + size = grind arith in
    omega (arith, most, within, swap, one)

-- lists that are so long where a test passes, and empty elsewhere
pub flat_long : (f : ℕ → List ℕ) (p : ℕ → Bool) (long k n : ℕ) → ((i : ℕ) → i < k + n → length (f i) ≡ cond (p i) long 0) →
    length (flat_map f (from_to k n)) ≡ length (filter p (from_to k n)) * long
flat_long f p long k zero h = omega arith
flat_long f p long k (suc n) h =
    length-append (f k) (flat_map f (from_to (suc k) n))
    ∙ ap (λ v. v + length (flat_map f (from_to (suc k) n))) (h k (omega arith))
    ∙ ap (λ v. cond (p k) long 0 + v) (flat_long f p long (suc k) n (λ i l. h i (omega arith)))
    ∙ one_more (p k) k (filter p (from_to (suc k) n))
  where
    one_more : (b : Bool) (x : ℕ) (xs : List ℕ) → cond b long 0 + length xs * long ≡ length (cond b (x ∷ xs) xs) * long
    one_more true x xs = suc_times long (length xs)
      where
        suc_times : (a b : ℕ) → a + b * a ≡ suc b * a
        suc_times a b = grind arith
    one_more false x xs = omega arith

-- lists that are all so long
pub flat_even : (f : ℕ → List ℕ) (long k n : ℕ) → ((i : ℕ) → i < k + n → length (f i) ≡ long) → length (flat_map f (from_to k n)) ≡ n * long
flat_even f long k zero h = omega arith
flat_even f long k (suc n) h =
    length-append (f k) (flat_map f (from_to (suc k) n))
    ∙ ap (λ v. v + length (flat_map f (from_to (suc k) n))) (h k (omega arith))
    ∙ ap (λ v. long + v) (flat_even f long (suc k) n (λ i l. h i (omega arith)))
    ∙ suc_times long n
  where
    suc_times : (a b : ℕ) → a + b * a ≡ suc b * a
    suc_times a b = grind arith
