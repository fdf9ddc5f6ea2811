-- A value that is combined many times.
use Rattle.std.proofs.Common.{ℕ, zero, suc, ◌+◌, ◌≡◌, ◌<◌, refl, ap, sym, ◌∙◌, arith}
use Rattle.ptl_types.specs.declared.elements.AtomicOp.{AtomicOp}
use Rattle.ptl_types.specs.declared.elements.ElemType.{ElemType}
use Rattle.ptl_types.specs.Operations.{op, span}
use Rattle.op_laws.proofs.OpLaws.{associates, op-below, stays, swaps}
use Rattle.plan_terms.specs.terms.Terms.{again}
use Rattle.plan_terms.specs.terms.Folds.{IsSettled}

pub again-below : (o : AtomicOp) (ty : ElemType) (x n z : ℕ) → x < span ty → z < span ty → again n (λ y. op o ty y x) z < span ty
again-below o ty x zero z h l = l
again-below o ty x (suc n) z h l = again-below o ty x n (op o ty z x) h (op-below o ty z x l h)

-- what comes may come before or after
pub again-past : (o : AtomicOp) (ty : ElemType) (x a n z : ℕ) → x < span ty → a < span ty → z < span ty
    → again n (λ y. op o ty y x) (op o ty z a) ≡ op o ty (again n (λ y. op o ty y x) z) a
again-past o ty x a zero z h i l = refl
again-past o ty x a (suc n) z h i l =
    ap (again n (λ y. op o ty y x)) (swaps o ty z a x l i h) ∙ again-past o ty x a n (op o ty z x) h i (op-below o ty z x l h)

pub again-swap : (o : AtomicOp) (ty : ElemType) (x v n m z : ℕ) → x < span ty → v < span ty → z < span ty
    → again n (λ y. op o ty y x) (again m (λ y. op o ty y v) z) ≡ again m (λ y. op o ty y v) (again n (λ y. op o ty y x) z)
again-swap o ty x v n zero z h i l = refl
again-swap o ty x v n (suc m) z h i l =
    again-swap o ty x v n m (op o ty z v) h i (op-below o ty z v l i)
    ∙ ap (again m (λ y. op o ty y v)) (again-past o ty x v n z h i l)

-- first m times, then n times more
pub again-add : (f : ℕ → ℕ) (m n z : ℕ) → again (m + n) f z ≡ again n f (again m f z)
again-add f zero n z = ap (λ k. again k f z) (let e : 0 + n ≡ n = omega arith in e)
again-add f (suc m) n z = ap (λ k. again k f z) (let e : suc m + n ≡ suc (m + n) = omega arith in e) ∙ again-add f m n (f z)

-- partial results may be combined
pub op-again : (o : AtomicOp) (ty : ElemType) (x a n z : ℕ) → x < span ty → a < span ty → z < span ty
    → op o ty a (again n (λ y. op o ty y x) z) ≡ again n (λ y. op o ty y x) (op o ty a z)
op-again o ty x a zero z h i l = refl
op-again o ty x a (suc n) z h i l =
    op-again o ty x a n (op o ty z x) h i (op-below o ty z x l h)
    ∙ ap (again n (λ y. op o ty y x)) (sym (associates o ty a z x i l h))

pub again-settled : (o : AtomicOp) (ty : ElemType) (x n z : ℕ) → x < span ty → z < span ty → IsSettled o ty z
    → IsSettled o ty (again n (λ y. op o ty y x) z)
again-settled o ty x zero z h l s = s
again-settled o ty x (suc n) z h l s = again-settled o ty x n (op o ty z x) h (op-below o ty z x l h) (stays o ty z x l h)
