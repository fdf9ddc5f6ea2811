-- Each buffer of what a text asks for has a place.
use Rattle.rank_process.proofs.opening.open.Goals as goal

pub ready_rank-requires-clause-buffers : goal.ready_rank-requires-clause-buffers
ready_rank-requires-clause-buffers c = c.in_ok-asked.ensures.asks.buffers
