-- The step at which a shape is refused.
use Rattle.std.proofs.Common.{◌≡◌, ℕ, zero, suc, ◌+◌, ◌<◌, length, Option, Some, None, sym, ap, arith}
use Rattle.coll_shape.specs.Outline.{Outline}
use Rattle.schedule_compiler.specs.shapes.Footprint.{Excess, Refused, footprint, judged, refusal, refusal_from, refused_at}

same-step : (k : ℕ) (name : Excess) (r : Refused) → Some (record { step = k; name = name }) ≡ Some r → r.step ≡ k
same-step k name r is = let same : record { step = k; name = name } ≡ r = cc in ap (λ (x : Refused). x.step) (sym same)

within : (o : Outline) (n k : ℕ) (r : Refused) → refusal_from o k n ≡ Some r → r.step < k + n
within o zero k r is = absurd (cc)
within o (suc n) k r is = at (judged (footprint o k)) (within o n (suc k) r) is
  where
    at : (x : Option Excess) → (refusal_from o (suc k) n ≡ Some r → r.step < suc k + n) → refused_at k x (refusal_from o (suc k) n) ≡ Some
        r → r.step < k + suc n
    at None rest later = let less : r.step < suc k + n = rest later in omega arith
    at (Some name) rest here = let same : r.step ≡ k = same-step k name r here in omega arith

-- it is one of the steps
pub refused-within : (o : Outline) (r : Refused) → refusal o ≡ Some r → r.step < length o.steps
unfolding refusal
refused-within o r is = let less : r.step < 0 + length o.steps = within o (length o.steps) 0 r is in omega arith

pub at-step : (o : Outline) (k : ℕ) (name : Excess) → refusal o ≡ Some (record { step = k; name = name }) → k < length o.steps
at-step o k name is = refused-within o (record { step = k; name = name }) is
