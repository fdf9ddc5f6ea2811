-- By the test of the room.
use Rattle.std.proofs.Common.{refl, arith}
use Rattle.guarded_ni.specs.declared.faults.Misuse.TheVariants.{NoRoom}
use Rattle.guarded_ni.specs.Guarded.Guards.{Answers, Misuses, Refuses}
use Rattle.guarded_ni.proofs.Testing.{above, not_above, positive}
use Rattle.guarded_ni.proofs.calls.eq_alloc.Goals as goal

pub returns-then-room-eq0 : goal.returns-then-room-eq0
returns-then-room-eq0 c = Misuses NoRoom (not_above 0 c.args.room NoRoom (let e = c.if-room-eq0.true in omega (arith, e))) refl

pub returns-in-Ok : goal.returns-in-Ok
returns-in-Ok c = Answers c.in-Ok.eq (above 0 c.args.room NoRoom (positive c.args.room c.if-room-eq0.false)) c.in-Ok.ensures.makes

pub returns-in-Err : goal.returns-in-Err
returns-in-Err c = Refuses c.in-Err.fault (above 0 c.args.room NoRoom (positive c.args.room c.if-room-eq0.false)) c.in-Err.ensures.makes
