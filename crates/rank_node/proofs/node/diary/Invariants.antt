use Rattle.rank_node.proofs.node.diary.Given as goal

-- the bounds that the caller names
abbrev pub ghost-with_room : goal.ghost-with_room
ghost-with_room g a = g.bounds
