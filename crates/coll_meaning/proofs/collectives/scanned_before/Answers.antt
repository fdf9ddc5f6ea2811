use Rattle.std.proofs.Common.{◌≡◌, ◌<◌, ◌-◌, ◌++◌, ◌∷◌, [], ℕ, List, suc, length, map, get_or, ap, ◌∙◌, arith}
use Rattle.ptl_types.specs.declared.elements.AtomicOp.{AtomicOp}
use Rattle.ptl_types.specs.declared.elements.ElemType.{ElemType}
use Rattle.number_lists.specs.Numbers.{from_to}
use Rattle.coll_shape.specs.Folding.{before_place, reduced}
use Rattle.coll_meaning.proofs.Rows.{before_get}
use Rattle.coll_meaning.proofs.collectives.scanned_before.Goals as goal

before_all : (o : AtomicOp) (ty : ElemType) (xs folds start : List (List ℕ)) (n : ℕ) → start ≡ [] ∷ [] →
    folds ≡ start ++ map (λ i. reduced o ty (suc i) xs) (from_to 0 n) → n ≡ length xs - 1
    → (i : ℕ) → i < length xs → get_or folds i [] ≡ before_place o ty xs i
before_all o ty xs folds start n e f k i l =
    ap (λ v. get_or v i []) (f ∙ ap (λ v. v ++ map (λ i. reduced o ty (suc i) xs) (from_to 0 n)) e
    ∙ ap (λ v. [] ∷ map (λ i. reduced o ty (suc i) xs) (from_to 0 v)) k)
    ∙ before_get o ty xs i l

pub returns : goal.returns
returns c =
    before_all c.args.op c.args.ty c.args.xs.now _ _ c.saturating_sub.result
    (c.in_ok-push.ensures.items ∙ ap (λ v. v ++ c.in_ok-copied.field-0 ∷ []) c.in_ok-lists.ensures.items
    ∙ ap (λ v. v ∷ []) c.in_ok-copied.ensures)
    c.in_ok-push_folds.ensures (omega arith)
