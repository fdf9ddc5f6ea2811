use Rattle.std.proofs.Common.{sym}
use Rattle.rank_process.proofs.lines.places.place_at.Goals as goal

pub place-requires : goal.place-requires
place-requires c = (c.in-Some.ensures.cell c.in-Some.cell (sym c.in-Some.ensures.value)).0
