use Rattle.ptl_types.specs.declared.elements.AtomicOp.TheVariants.{Bxor}
use Rattle.op_laws.proofs.OpLaws.{op-below}
use Rattle.lane_ops.proofs.operations.BitwiseXorCombine.op.Goals as goal

pub returns-clause-pattern : goal.returns-clause-pattern
returns-clause-pattern c = op-below Bxor c.args.ty c.args.x c.args.y c.requires.patterns.0 c.requires.patterns.1
