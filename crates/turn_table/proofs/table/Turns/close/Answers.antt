use Rattle.turn_table.proofs.Gathering.{leaves}
use Rattle.turn_table.proofs.table.Turns.close.Goals as goal

pub returns-clause-values : goal.returns-clause-values
returns-clause-values g c k x e = leaves g.T.Past.past g.T.Past.name c.args.self.start c.args.hands.items c.join_all-seat.result.0.me.0 k
    x c.join_all-seat.ensures.all (c.take_values.ensures.values k x e)
