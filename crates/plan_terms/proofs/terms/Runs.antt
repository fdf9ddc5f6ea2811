-- Runs of places, and what stands at lists of places.
use Rattle.std.proofs.Common.{ℕ, zero, suc, ◌+◌, ◌≡◌, ◌<◌, List, [], ◌∷◌, ◌++◌, length, map, take, drop, get_or, replicate, refl, ap}
use Rattle.std.proofs.Common.{ap₂, sym}
use Rattle.std.proofs.Common.{◌∙◌, arith}
use Rattle.std.proofs.lemmas.List.{append_assoc, drop-map, length-map, map-append, take-map}
use Rattle.number_lists.specs.Numbers.{from_to}
use Rattle.plan_core.proofs.Drawing.{from_to-more}
use Rattle.ptl_types.specs.Elements.{part, written}

-- one place more
pub run_more : (old : List ℕ) (first k : ℕ) → (old ++ from_to first k) ++ (first + k) ∷ [] ≡ old ++ from_to first (k + 1)
run_more old first k =
    append_assoc old (from_to first k) ((first + k) ∷ [])
    ∙ ap (λ (xs : List ℕ). old ++ xs) (sym (from_to-more first k) ∙ ap (from_to first) (let e : suc k ≡ k + 1 = omega arith in e))

-- what is taken, and what is written
pub map-part : (V : ℕ → ℕ) (at n : ℕ) (xs : List ℕ) → map V (part at n xs) ≡ part at n (map V xs)
map-part V at n xs = sym (take-map V n (drop at xs)) ∙ ap (take n) (sym (drop-map V at xs))

pub map-written : (V : ℕ → ℕ) (at : ℕ) (bs xs : List ℕ) → map V (written at bs xs) ≡ written at (map V bs) (map V xs)
map-written V at bs xs =
    map-append V (take at xs) (bs ++ drop (at + length bs) xs)
    ∙ ap₂ (λ (p q : List ℕ). p ++ q) (sym (take-map V at xs))
    (map-append V bs (drop (at + length bs) xs)
    ∙ ap (λ (q : List ℕ). map V bs ++ q)
    (sym (drop-map V (at + length bs) xs) ∙ ap (λ n. drop (at + n) (map V xs)) (sym (length-map bs V))))

pub get-map : (V : ℕ → ℕ) (xss : List (List ℕ)) (i : ℕ) → get_or (map (map V) xss) i [] ≡ map V (get_or xss i [])
get-map V [] i = refl
get-map V (xs ∷ xss) zero = refl
get-map V (xs ∷ xss) (suc i) = get-map V xss i

pub map-replicate : (V : ℕ → ℕ) (n x : ℕ) → map V (replicate n x) ≡ replicate n (V x)
map-replicate V zero x = refl
map-replicate V (suc n) x = ap (λ (xs : List ℕ). V x ∷ xs) (map-replicate V n x)

-- places that rise by one
pub run_list : (a : ℕ) (xs : List ℕ) → ((k : ℕ) → k < length xs → get_or xs k 0 ≡ a + k) → xs ≡ from_to a (length xs)
run_list a [] h = refl
run_list a (x ∷ xs) h =
    ap₂ (λ y (ys : List ℕ). y ∷ ys)
    (h 0 (let l : 0 < suc (length xs) = omega arith in l) ∙ (let e : a + 0 ≡ a = omega arith in e))
    (run_list (suc a) xs
    (λ k l. h (suc k) (let m : suc k < suc (length xs) = omega arith in m) ∙ (let e : a + suc k ≡ suc a + k = omega arith in e)))
