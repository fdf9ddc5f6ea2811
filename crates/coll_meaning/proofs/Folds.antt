-- Folds of lists, one list more at a time.
use Rattle.std.proofs.Common.{◌≡◌, ℕ, zero, suc, ◌+◌, ◌%◌, ◌<◌, List, [], ◌∷◌, ◌++◌, length, take, drop, refl, ap, sym, ◌∙◌, arith, rules}
use Rattle.std.proofs.lemmas.List.{places, same_lists}
use Rattle.ptl_types.specs.declared.elements.AtomicOp.{AtomicOp}
use Rattle.ptl_types.specs.declared.elements.ElemType.{ElemType}
use Rattle.ptl_types.specs.Elements.{combined, starting}
use Rattle.ptl_types.specs.Operations.{bytes_of}
use Rattle.op_laws.proofs.Bytes.{length-combined, length-repeated}
use Rattle.coll_shape.specs.Folding.{at, folded, front, reduced}
use Rattle.coll_meaning.specs.Lengths.{AreEven}
use Rattle.coll_meaning.proofs.Rows.{row_more}

folded_more : (o : AtomicOp) (ty : ElemType) (xs : List (List ℕ)) (x z : List ℕ) →
    folded o ty (xs ++ x ∷ []) z ≡ combined o ty (folded o ty xs z) x
folded_more o ty [] x z = refl
folded_more o ty (y ∷ ys) x z = folded_more o ty ys x (combined o ty z y)

pub reduced_more : (o : AtomicOp) (ty : ElemType) (i : ℕ) (xs : List (List ℕ)) →
    reduced o ty (i + 1) xs ≡ combined o ty (reduced o ty i xs) (at xs i)
reduced_more o ty i xs =
    ap (λ v. folded o ty v (starting o ty (length (at xs 0)))) (row_more (at xs) i)
    ∙ folded_more o ty (front i xs) (at xs i) (starting o ty (length (at xs 0)))

pub length_reduced : (o : AtomicOp) (ty : ElemType) (i : ℕ) (xs : List (List ℕ)) → length (at xs 0) % bytes_of ty ≡ 0 →
    length (reduced o ty i xs) ≡ length (at xs 0)
length_reduced o ty zero xs h = length-repeated o ty (length (at xs 0)) h
length_reduced o ty (suc i) xs h =
    let before : length (reduced o ty i xs) ≡ length (at xs 0) = length_reduced o ty i xs h in
    ap (λ n. length (reduced o ty n xs)) (let e : suc i ≡ i + 1 = omega arith in e)
    ∙ ap length (reduced_more o ty i xs)
    ∙ length-combined o ty (reduced o ty i xs) (at xs i) (ap (λ n. n % bytes_of ty) before ∙ h)
    ∙ before

pub whole_reduced : (o : AtomicOp) (ty : ElemType) (i : ℕ) (xs : List (List ℕ)) → AreEven ty xs →
    length (reduced o ty i xs) % bytes_of ty ≡ 0
whole_reduced o ty i xs e = ap (λ n. n % bytes_of ty) (length_reduced o ty i xs e.whole) ∙ e.whole

pub same_reduced : (o : AtomicOp) (ty : ElemType) (i : ℕ) (xs : List (List ℕ)) → AreEven ty xs → i < length xs →
    length (reduced o ty i xs) ≡ length (at xs i)
same_reduced o ty i xs e l = length_reduced o ty i xs e.whole ∙ sym (e.even i l)

-- what is written over a whole list is all that is left
pub written_whole : (n : ℕ) (new old : List ℕ) → length new ≡ n → length old ≡ n → take n (new ++ drop (length new) old) ≡ new
written_whole n new old h k = same_lists _ _ (search (rules, places)) (λ i d l. grind (arith, places))

pub length_of_combined : (o : AtomicOp) (ty : ElemType) (xs ys : List ℕ) → length xs % bytes_of ty ≡ 0 →
    length (combined o ty xs ys) ≡ length xs
length_of_combined o ty xs ys h = length-combined o ty xs ys h

-- a fold of one list more, of whole elements, as long as before
pub ruleset fold_by_fold = (reduced_more, whole_reduced, same_reduced)
