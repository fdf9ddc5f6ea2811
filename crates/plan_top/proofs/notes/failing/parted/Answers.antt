-- Among no lists.
use Rattle.std.proofs.Common.{sym}
use Rattle.std.proofs.Math.Nat.{div-zero, mod-zero}
use Rattle.plan_top.proofs.notes.failing.parted.Goals as goal

pub returns-then-ranks-eq0 : goal.returns-then-ranks-eq0
returns-then-ranks-eq0 c = rw c.if-ranks-eq0.true (record { input = sym (div-zero c.args.place); rank = sym (mod-zero c.args.place) })
