use Rattle.log_verdict.specs.Settling.Reaches.{Here}
use Rattle.log_verdict.proofs.Comings.{moved_on}
use Rattle.log_verdict.proofs.settling.settle.Goals as goal

pub moves-init : goal.moves-init
moves-init c = Here

pub moves-preserved : goal.moves-preserved
moves-preserved c =
    moved_on c.args.scene.now c.moves.scene c.step_once.new.scene c.in_ok-moved.moved c.moves.invariant c.in_ok-moved.ensures
    c.if-not-moved.false
