-- Small facts: limits that are kept, calls that nothing refuses.
use Rattle.std.proofs.Common.{ℕ, zero, suc, Bool, true, false, not, ◌-◌, ◌≡◌, ◌<◌, nat_le}
use Rattle.std.proofs.Common.{refl, length, ap, ap₂, arith}
use Rattle.std.proofs.Common.{None}
use Rattle.std.proofs.lemmas.Bool.{false_from_ne_true, leb-true}
use Rattle.ni_model.specs.Append.{need}
use Rattle.plan_core.specs.Plan.{from_to}
use Rattle.ptl_types.specs.declared.calls.NiFault.{NiFault}
use Rattle.ptl_types.specs.Handles.{top}
use Rattle.std.specs.Prelude.{◌||◌}

pub above : (n m : ℕ) → n < m → nat_le m n ≡ false
above n m h = false_from_ne_true _ (λ e. let l = leb-true _ _ e in absurd (omega arith))

pub none_of : (a b : Bool) → a ≡ false → b ≡ false → not (a || b) ≡ true
none_of a b e f = ap₂ (λ x y. not (x || y)) e f

pub room : (limit n given : ℕ) → n < limit → given < top → not (nat_le limit n || nat_le top given) ≡ true
room limit n given h k = none_of (nat_le limit n) (nat_le top given) (above n limit h) (above given top k)

need2 : (a b : Bool) (x y : NiFault) → a ≡ true → b ≡ true → need a x (need b y None) ≡ None
need2 true true x y e f = refl
need2 true false x y e f = cc
need2 false b x y e f = cc

pub need4 : (a b c d : Bool) (w x y z : NiFault) → a ≡ true → b ≡ true → c ≡ true → d ≡ true →
    need a w (need b x (need c y (need d z None))) ≡ None
need4 true true c d w x y z e f g h = need2 c d y z g h
need4 true false c d w x y z e f g h = cc
need4 false b c d w x y z e f g h = cc

pub length-from_to : (k n : ℕ) → length (from_to k n) ≡ n
length-from_to k zero = refl
length-from_to k (suc n) = ap suc (length-from_to (suc k) n)
