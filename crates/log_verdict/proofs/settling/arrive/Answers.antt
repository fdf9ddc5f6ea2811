use Rattle.std.proofs.Common.{refl}
use Rattle.log_seats.specs.Answers.{left}
use Rattle.log_verdict.specs.declared.scenes.Scene.{Scene}
use Rattle.log_verdict.proofs.Comings.{arrived_as}
use Rattle.log_verdict.proofs.settling.arrive.Goals as goal

pub returns : goal.returns
returns c =
    let s = c.args.scene.now in
    let t : Scene = record s { seats = c.take.new.self; flights = c.take-2.new.self } in
    arrived_as s t c.in-Some.seat (left c.arrives-after.new.self c.arrives-after.result) c.args.age c.args.target
    c.in-Some-take.message (cc) c.in-Some-take.ensures.message
    c.arrives-after.ensures (rw (c.take.ensures.rest, c.take-2.ensures.after, c.from.ensures) refl)
    _ c.in_ok-takes.ensures
