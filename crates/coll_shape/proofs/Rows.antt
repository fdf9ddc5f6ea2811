-- What stands in which row.
use Rattle.std.proofs.Common.{◌≡◌, ℕ, zero, suc, ◌+◌, ◌-◌, ◌*◌, ◌<◌, ◌≤◌, List, [], ◌∷◌, ◌++◌, length, take, drop, get_or, refl, sym, ap}
use Rattle.std.proofs.Common.{◌∙◌, arith, length-drop}
use Rattle.std.proofs.lemmas.List.{get_or-drop, get_or-take, take-append-drop, length-take-le}
use Rattle.std.proofs.Math.Nat.{mul-le-mul_right}
use Rattle.coll_shape.specs.Rows.{in_rows, joined}

pub rows-many : {X : Type 0} (n m : ℕ) (xs : List X) → length (in_rows n m xs) ≡ m
rows-many n zero xs = refl
rows-many n (suc m) xs = ap (λ v. suc v) (rows-many n m (drop n xs))

more : (m n l : ℕ) → l ≡ suc m * n → (n ≤ l) × (l - n ≡ m * n)
more m n l e = (grind arith, grind arith)

pub rows-joined : {X : Type 0} (n m : ℕ) (xs : List X) → length xs ≡ m * n → joined (in_rows n m xs) ≡ xs
rows-joined n zero [] e = refl
rows-joined n zero (x ∷ xs) e = absurd (omega arith)
rows-joined n (suc m) xs e =
    let h = more m n (length xs) e in
    ap (λ v. take n xs ++ v) (rows-joined n m (drop n xs) (length-drop n xs ∙ h.1)) ∙ take-append-drop n xs

pub row-long : {X : Type 0} (n m i : ℕ) (xs : List X) → length xs ≡ m * n → i < m → length (get_or (in_rows n m xs) i []) ≡ n
row-long n zero i xs e l = absurd (omega arith)
row-long n (suc m) zero xs e l = length-take-le n xs (more m n (length xs) e).0
row-long n (suc m) (suc i) xs e l = row-long n m i (drop n xs) (length-drop n xs ∙ (more m n (length xs) e).1) (omega arith)

pub row-at : {X : Type 0} (n m i r : ℕ) (xs : List X) (d : X) → i < m → r < n → get_or (get_or (in_rows n m xs) i []) r d ≡ get_or xs
    (i * n + r) d
row-at n zero i r xs d l k = absurd (omega arith)
row-at n (suc m) zero r xs d l k = get_or-take n xs r d k ∙ ap (λ v. get_or xs v d) (let z : r ≡ 0 * n + r = grind arith in z)
row-at n (suc m) (suc i) r xs d l k = row-at n m i r (drop n xs) d (omega arith) k ∙ get_or-drop n xs (i * n + r) d
    ∙ ap (λ v. get_or xs v d) (let z : n + (i * n + r) ≡ suc i * n + r = grind arith in z)

-- a place in the rows, as what the rows are says it
pub record IsPlaceIn (n m i r : ℕ) : Type 0 where
  pub row : i < m
  pub place : r < n

pub place-in : {X : Type 0} (n m i r : ℕ) (xs : List X) (v : List (List X)) → length xs ≡ m * n → in_rows n m xs ≡ v → i < length v →
    r < length (get_or v i []) → IsPlaceIn n m i r
place-in n m i r xs v e is l k =
    let a = ap length (sym is) ∙ rows-many n m xs in
    let row : i < m = omega (arith, a, l) in
    let b = ap (λ w. length (get_or w i [])) (sym is) ∙ row-long n m i xs e row in
    record { row = row; place = omega (arith, b, k) }

pub before-end : (n m i r : ℕ) → IsPlaceIn n m i r → i * n + r < m * n
before-end n m i r h =
    let a = h.row in
    let b = h.place in
    let c : suc i * n ≤ m * n = mul-le-mul_right n (let z : suc i ≤ m = omega (arith, a) in z) in
    let d : suc i * n ≡ i * n + n = grind arith in
    omega (arith, b, c, d)
