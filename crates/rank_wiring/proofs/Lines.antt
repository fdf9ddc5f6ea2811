-- Wires with their ends, one after the other.
use Rattle.std.proofs.Common.{ℕ, zero, suc, ◌+◌, ◌≡◌, ◌∙◌, Bool, true, false, List, [], ◌∷◌, ◌++◌, length, sym, refl, ap, subst, arith}
use Rattle.std.proofs.Common.{append-nil, append_assoc, length-append}
use mathlib.Core.Option.{some, some-injective, some-ne-none}
use lib.ListN.{get_elem?}
use Rattle.pair_wires.specs.declared.bounds.Bounds.{Bounds}
use Rattle.pair_wires.specs.Wires.{WireState}
use Rattle.rank_wiring.specs.declared.open.WireEnd.{WireEnd}
use Rattle.rank_slots.specs.Joints.{Joint, joint}
use Rattle.rank_slots.specs.Lists.{Each}
use Rattle.rank_wiring.specs.Opening.{AreLines, IsLine}
use Rattle.rank_wiring.specs.Wiring.{IsRow, joints_from}
use Rattle.rank_wiring.proofs.Rows.{row_more, row_nil, row_same}

-- ---- the ends of wires
pub joints-snoc : (n : ℕ) (ws : List WireState) (w : WireState)
    → joints_from n (ws ++ w ∷ []) ≡ joints_from n ws ++ joint (n + length ws) w ∷ []
joints-snoc n [] w = let e : n ≡ n + 0 = omega arith in ap (λ m. joint m w ∷ []) e
joints-snoc n (v ∷ ws) w =
    let e : suc n + length ws ≡ n + suc (length ws) = omega arith in
    ap (λ l. joint n v ∷ l) (joints-snoc (suc n) ws w ∙ ap (λ m. joints_from (suc n) ws ++ joint m w ∷ []) e)

pub joints-at : (n : ℕ) (ws : List WireState) (i : ℕ) (j : Joint) → get_elem? (joints_from n ws) i ≡ some j
    → (w : WireState) × (get_elem? ws i ≡ some w) × (joint (n + i) w ≡ j)
joints-at n [] i j e = absurd (some-ne-none j (sym e))
joints-at n (w ∷ ws) zero j e = let k : n + 0 ≡ n = omega arith in (w, refl, ap (λ m. joint m w) k ∙ some-injective (joint n w) j e)
joints-at n (w ∷ ws) (suc i) j e =
    let r = joints-at (suc n) ws i j e in let k : n + suc i ≡ suc n + i = omega arith in (r.0, r.1, ap (λ m. joint m r.0) k ∙ r.2)

-- ---- a line more
pub lines-snoc : (n : ℕ) (ls : List WireEnd) (l : WireEnd) → AreLines n ls → IsLine (n + length ls) l → AreLines n (ls ++ l ∷ [])
lines-snoc n [] l h is = let e : n + 0 ≡ n = omega arith in (subst (λ m. IsLine m l) e is, tt)
lines-snoc n (k ∷ ls) l h is =
    let e : n + suc (length ls) ≡ suc n + length ls = omega arith in (h.0, lines-snoc (suc n) ls l h.1 (subst (λ m. IsLine m l) e is))

-- ---- many wires more, all of which are of a row, or none
pub row-grows : (p : Bounds → Bool) (before ws : List WireState) (js : List Joint) → IsRow before p js
    → Each (λ (w : WireState). p w.bounds ≡ true) ws
    → IsRow (before ++ ws) p (js ++ joints_from (length before) ws)
row-grows p before [] js r h = subst (λ l. IsRow l p (js ++ [])) (sym (append-nil before)) (subst (IsRow before p) (sym (append-nil js)) r)
row-grows p before (w ∷ ws) js r h =
    let j = joint (length before) w in
    let one = row_more before w p js j r (h 0 w refl) refl refl refl in
    let rest = row-grows p (before ++ w ∷ []) ws (js ++ j ∷ []) one (λ i x e. h (suc i) x e) in
    let many : length (before ++ w ∷ []) ≡ suc (length before) = (let k = length-append before (w ∷ []) in omega (arith, k)) in
    subst (λ l. IsRow l p (js ++ j ∷ joints_from (suc (length before)) ws)) (append_assoc before (w ∷ []) ws)
    (subst (IsRow ((before ++ w ∷ []) ++ ws) p) (append_assoc js (j ∷ []) (joints_from (suc (length before)) ws))
    (subst (λ m. IsRow ((before ++ w ∷ []) ++ ws) p ((js ++ j ∷ []) ++ joints_from m ws)) many rest))

pub row-stays : (p : Bounds → Bool) (before ws : List WireState) (js : List Joint) → IsRow before p js
    → Each (λ (w : WireState). p w.bounds ≡ false) ws → IsRow (before ++ ws) p js
row-stays p before [] js r h = subst (λ l. IsRow l p js) (sym (append-nil before)) r
row-stays p before (w ∷ ws) js r h =
    subst (λ l. IsRow l p js) (append_assoc before (w ∷ []) ws)
    (row-stays p (before ++ w ∷ []) ws js (row_same before w p js r (h 0 w refl)) (λ i x e. h (suc i) x e))

pub row-none : (p : Bounds → Bool) (ws : List WireState) → Each (λ (w : WireState). p w.bounds ≡ false) ws → IsRow ws p []
row-none p ws h = row-stays p [] ws [] (row_nil p) h
