use Rattle.std.proofs.Common.{arith}
use Rattle.std.proofs.Math.Logic.{∥∥₁_map}
use Rattle.coll_shape.proofs.Formed.{whole}
use Rattle.coll_shape.proofs.shape.Shape.group_count.Goals as goal

pub overflow_cast-result : goal.overflow_cast-result
overflow_cast-result c = let w = whole _ (∥∥₁_map c.self.invariant (λ h. h.0)) in let f = w.shape.few_groups in omega (arith, f)
