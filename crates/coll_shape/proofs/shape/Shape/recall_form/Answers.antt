use Rattle.std.proofs.Common.{subst}
use Rattle.std.proofs.Math.Logic.{∥∥₁_map}
use Rattle.coll_shape.specs.WellFormed.{IsWellFormed}
use Rattle.coll_shape.proofs.Formed.{whole}
use Rattle.coll_shape.proofs.shape.Shape.recall_form.Goals as goal

pub returns : goal.returns
returns c = record { shape = subst IsWellFormed c.self.view_is (whole _ (∥∥₁_map c.self.invariant (λ h. h.0))) }
