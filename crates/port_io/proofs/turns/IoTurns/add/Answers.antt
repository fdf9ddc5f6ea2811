use Rattle.std.proofs.Common.{rules}
use Rattle.port_io.proofs.Turning.{AreTurns-push}
use Rattle.port_io.proofs.turns.IoTurns.add.Goals as goal
use Rattle.port_io.proofs.turns.IoTurns.add.Goals.{in-Ok, in-Err}

pub invariant_of-self : goal.invariant_of-self
invariant_of-self c =
    let more = AreTurns-push c.self.inside.turns.items c.args.turn c.self.invariant c.requires in
    elim c.match-push_back.branch [
      | in-Ok w ↦ search (rules, more)
      | in-Err w ↦ search (rules, more)
    ]
