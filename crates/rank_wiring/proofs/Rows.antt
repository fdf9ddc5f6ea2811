-- Wires that come and go one after the other, the last one last, and the ends that come and go with them.
use Rattle.std.proofs.Common.{◌≡◌, ℕ, zero, suc, ◌+◌, ◌<◌, Bool, true, false, List, [], ◌∷◌, ◌++◌, length, map, sym, refl, ap, ap₂, ◌∙◌}
use Rattle.std.proofs.Common.{subst, arith, append-nil, length-append, if◌then◌else◌}
use mathlib.Core.Option.{some, some-injective, some-ne-none}
use lib.ListN.{get_elem?}
use Rattle.pair_wires.specs.declared.bounds.Bounds.{Bounds}
use Rattle.pair_wires.specs.Wires.{WireState}
use Rattle.atomic_table.proofs.Lists.{at_map}
use Rattle.rank_slots.specs.Lists.{Each}
use Rattle.rank_slots.specs.Joints.{Fits, Joint}
use Rattle.rank_wiring.specs.Wiring.{IsRow, bounds_of, places_of}
use Rattle.rank_slots.proofs.Pairs.{at_map_back}
use Rattle.rank_slots.proofs.Snocs.{each_front, each_last, each_nil, each_snoc, front_at, front_some, last_at, length_map, map_snoc}
use Rattle.rank_slots.proofs.Snocs.{snoc_injective}

abbrev pub number_of : Joint → ℕ
number_of j = j.number

-- an end of the wire of this number stands among these
pub record HasEnd (js : List Joint) (k : ℕ) : Type 0 where
  pub at : ℕ
  pub joint : Joint
  pub there : get_elem? js at ≡ some joint
  pub number : joint.number ≡ k

put_before : (c : Bool) (n k m : ℕ) (xs : List ℕ) → get_elem? xs m ≡ some k → (i : ℕ) × (get_elem? (if c then n ∷ xs else xs) i ≡ some k)
put_before true n k m xs e = (suc m, e)
put_before false n k m xs e = (m, e)

-- the place of each of which p holds stands among the places
place-has : (p : Bounds → Bool) (n : ℕ) (bs : List Bounds) (i : ℕ) (b : Bounds) → get_elem? bs i ≡ some b → p b ≡ true
    → (m : ℕ) × (get_elem? (places_of p n bs) m ≡ some (n + i))
place-has p n [] i b e is = absurd (some-ne-none b (sym e))
place-has p n (c ∷ cs) zero b e is =
    let yes : p c ≡ true = ap p (some-injective c b e) ∙ is in (
      0,
      ap (λ (x : Bool). get_elem? (if x then n ∷ places_of p (suc n) cs else places_of p (suc n) cs) 0) yes
          ∙ ap some {x = n} {y = n + 0} (omega arith),
    )
place-has p n (c ∷ cs) (suc i) b e is =
    let r = place-has p (suc n) cs i b e is in
    put_before (p c) n (n + suc i) r.0 (places_of p (suc n) cs) (r.1 ∙ ap some {x = suc n + i} {y = n + suc i} (omega arith))

pub row-has : (wires : List WireState) (p : Bounds → Bool) (js : List Joint) → IsRow wires p js → (k : ℕ) (w : WireState) →
    get_elem? wires k ≡ some w → p w.bounds ≡ true → HasEnd js k
row-has wires p js row k w at is =
    let m = place-has p 0 (bounds_of wires) k w.bounds (at_map (λ (w : WireState). w.bounds) wires k w at) is in
    let j = at_map_back number_of js m.0 (0 + k) (ap (λ (l : List ℕ). get_elem? l m.0) row.numbers ∙ m.1) in
    record { at = m.0; joint = j.0; there = j.1; number = j.2 ∙ (omega arith) }

-- ---- a wire more, and a wire less
abbrev one_place : (Bounds → Bool) → ℕ → Bounds → List ℕ
one_place p n b = if p b then n ∷ [] else []

one_more : (c : Bool) (n : ℕ) (xs ys zs : List ℕ) → xs ≡ ys ++ zs → (if c then n ∷ xs else xs) ≡ (if c then n ∷ ys else ys) ++ zs
one_more true n xs ys zs e = ap (λ l. n ∷ l) e
one_more false n xs ys zs e = e

places_snoc : (p : Bounds → Bool) (n : ℕ) (bs : List Bounds) (b : Bounds) → places_of p n (bs ++ b ∷ []) ≡ places_of p n bs ++ one_place p
    (n + length bs) b
places_snoc p n [] b = ap (λ m. one_place p m b) (omega arith)
places_snoc p n (c ∷ cs) b = one_more (p c) n (places_of p (suc n) (cs ++ b ∷ [])) (places_of p (suc n) cs)
    (one_place p (n + suc (length cs)) b)
    (places_snoc p (suc n) cs b ∙ ap (λ m. places_of p (suc n) cs ++ one_place p m b) (omega arith))

below_one : (c : Bool) (n top : ℕ) (xs : List ℕ) → n < top → ((i k : ℕ) → get_elem? xs i ≡ some k → k < top) → (i k : ℕ) →
    get_elem? (if c then n ∷ xs else xs) i ≡ some k → k < top
below_one true n top xs h f zero k e = subst (λ k. k < top) (some-injective n k e) h
below_one true n top xs h f (suc i) k e = f i k e
below_one false n top xs h f i k e = f i k e

-- a place is below the end
places_below : (p : Bounds → Bool) (n : ℕ) (bs : List Bounds) (i k : ℕ) → get_elem? (places_of p n bs) i ≡ some k → k < n + length bs
places_below p n [] i k e = absurd (some-ne-none k (sym e))
places_below p n (b ∷ bs) i k e = below_one (p b) n (n + suc (length bs)) (places_of p (suc n) bs) (omega arith)
    (λ j m at. let h = places_below p (suc n) bs j m at in omega (arith, h)) i k e

abbrev pub bound_of : WireState → Bounds
bound_of w = w.bounds

counted : (wires : List WireState) → 0 + length (map bound_of wires) ≡ length wires
counted wires = let h = length_map bound_of wires in omega (arith, h)

-- the places with one wire more
grown : (wires : List WireState) (w : WireState) (p : Bounds → Bool) (c : Bool) → p w.bounds ≡ c →
    places_of p 0 (bounds_of (wires ++ w ∷ [])) ≡ places_of p 0 (bounds_of wires) ++ (if c then length wires ∷ [] else [])
grown wires w p c is = ap (places_of p 0) (map_snoc bound_of wires w)
    ∙ (places_snoc p 0 (map bound_of wires) w.bounds ∙ ap₂ (λ (m : ℕ) (b : Bool). places_of p 0 (bounds_of wires) ++
    (if b then m ∷ [] else [])) (counted wires) is)

-- the number of an end is below the number of wires
pub row_below : (wires : List WireState) (p : Bounds → Bool) (js : List Joint) → map number_of js ≡ places_of p 0 (bounds_of wires) →
    (i : ℕ) (j : Joint) → get_elem? js i ≡ some j → j.number < length wires
row_below wires p js e i j at = let h = places_below p 0 (bounds_of wires) i j.number (ap (λ (l : List ℕ). get_elem? l i) (sym e)
    ∙ at_map number_of js i j at) in let m = length_map bound_of wires in omega (arith, h, m)

fits_more : (wires : List WireState) (w : WireState) (j : Joint) → Fits wires j → Fits (wires ++ w ∷ []) j
fits_more wires w j f = record {
  inside = (let h = f.inside in let n = length-append wires (w ∷ []) in omega (arith, h, n));
  is = λ v e. f.is v (sym (front_at wires (w ∷ []) j.number f.inside) ∙ e);
}

pub row_nil : (p : Bounds → Bool) → IsRow [] p []
row_nil p = record { numbers = refl; fits = each_nil (Fits []) }

pub row_more : (wires : List WireState) (w : WireState) (p : Bounds → Bool) (js : List Joint) (j : Joint) → IsRow wires p js →
    p w.bounds ≡ true → j.number ≡ length wires → j.wire ≡ w.id → j.bounds ≡ w.bounds → IsRow (wires ++ w ∷ []) p (js ++ j ∷ [])
row_more wires w p js j r is n id b = record {
  numbers = map_snoc number_of js j ∙ (ap₂ (λ l m. l ++ m ∷ []) r.numbers n ∙ sym (grown wires w p true is));
  fits = each_snoc (Fits (wires ++ w ∷ [])) js j (λ i x e. fits_more wires w x (r.fits i x e)) (record {
    inside = (let k = length-append wires (w ∷ []) in omega (arith, n, k));
    is = λ v e. (let is = some-injective w v (sym (last_at wires w) ∙ (ap (get_elem? (wires ++ w ∷ [])) (sym n) ∙ e)) in
        (id ∙ ap (λ (x : WireState). x.id) is, b ∙ ap (λ (x : WireState). x.bounds) is));
  });
}

pub row_same : (wires : List WireState) (w : WireState) (p : Bounds → Bool) (js : List Joint) → IsRow wires p js → p w.bounds ≡ false →
    IsRow (wires ++ w ∷ []) p js
row_same wires w p js r is = record {
  numbers = r.numbers ∙ sym (grown wires w p false is ∙ append-nil (places_of p 0 (bounds_of wires)));
  fits = λ i x e. fits_more wires w x (r.fits i x e);
}

pub row_grows : (wires : List WireState) (w : WireState) (p : Bounds → Bool) (js : List Joint) (j : Joint) (c : Bool) → p w.bounds ≡ c →
    IsRow wires p js → j.number ≡ length wires → j.wire ≡ w.id → j.bounds ≡ w.bounds →
    IsRow (wires ++ w ∷ []) p (js ++ (if c then j ∷ [] else []))
row_grows wires w p js j true is r n i b = row_more wires w p js j r is n i b
row_grows wires w p js j false is r n i b = subst (IsRow (wires ++ w ∷ []) p) (sym (append-nil js)) (row_same wires w p js r is)

fits_less : (wires : List WireState) (w : WireState) (p : Bounds → Bool) (js : List Joint) →
    map number_of js ≡ places_of p 0 (bounds_of wires) → Each (Fits (wires ++ w ∷ [])) js → Each (Fits wires) js
fits_less wires w p js e f i j at = record {
  inside = row_below wires p js e i j at;
  is = λ v is. (f i j at).is v (front_some wires (w ∷ []) j.number v is);
}

-- the last end is the last wire's, and the others are those of the other wires
pub record Ends (wires : List WireState) (w : WireState) (p : Bounds → Bool) (js : List Joint) (j : Joint) : Type 0 where
  pub row : IsRow wires p js
  pub id : j.wire ≡ w.id
  pub bounds : j.bounds ≡ w.bounds

pub row_less : (wires : List WireState) (w : WireState) (p : Bounds → Bool) (js : List Joint) (j : Joint) →
    IsRow (wires ++ w ∷ []) p (js ++ j ∷ []) → p w.bounds ≡ true → Ends wires w p js j
row_less wires w p js j r is =
    let s = snoc_injective (map number_of js) (places_of p 0 (bounds_of wires)) j.number (length wires) (sym (map_snoc number_of js j)
    ∙ (r.numbers ∙ grown wires w p true is)) in
    let f = (each_last (Fits (wires ++ w ∷ [])) js j r.fits).is w (ap (get_elem? (wires ++ w ∷ [])) s.1 ∙ last_at wires w) in record {
      row = record { numbers = s.0; fits = fits_less wires w p js s.0 (each_front (Fits (wires ++ w ∷ [])) js (j ∷ []) r.fits) };
      id = f.0;
      bounds = f.1;
    }

row_others : (wires : List WireState) (w : WireState) (p : Bounds → Bool) (js : List Joint) → IsRow (wires ++ w ∷ []) p js →
    p w.bounds ≡ false → IsRow wires p js
row_others wires w p js r is = let n : map number_of js ≡ places_of p 0 (bounds_of wires) = r.numbers
    ∙ (grown wires w p false is ∙ append-nil (places_of p 0 (bounds_of wires))) in
    record { numbers = n; fits = fits_less wires w p js n r.fits }

pub row_shrinks : (wires : List WireState) (w : WireState) (p : Bounds → Bool) (js : List Joint) (j : Joint) (c : Bool) → p w.bounds ≡ c →
    IsRow (wires ++ w ∷ []) p (js ++ (if c then j ∷ [] else [])) → IsRow wires p js
row_shrinks wires w p js j true is r = (row_less wires w p js j r is).row
row_shrinks wires w p js j false is r = row_others wires w p js (subst (IsRow (wires ++ w ∷ []) p) (append-nil js) r) is

-- where the last wire is one of these, there is an end
pub row_some : (wires : List WireState) (w : WireState) (p : Bounds → Bool) (js : List Joint) → IsRow (wires ++ w ∷ []) p js →
    p w.bounds ≡ true → 0 < length js
row_some wires w p js r is =
    let e = length-append (places_of p 0 (bounds_of wires)) (length wires ∷ []) in
    let n = ap (λ (l : List ℕ). length l) (r.numbers ∙ grown wires w p true is) in
    let m = length_map number_of js in omega (arith, e, n, m)
