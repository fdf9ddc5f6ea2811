use Rattle.rank_node.proofs.history.History.with_room.Given as goal

-- the bounds that the caller names
abbrev pub ghost-none : goal.ghost-none
ghost-none g a = g.bounds
