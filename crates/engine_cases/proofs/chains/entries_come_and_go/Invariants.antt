use Rattle.engine_cases.proofs.chains.entries_come_and_go.Given as goal

abbrev pub ghosts-all : goal.ghosts-all
ghosts-all b a = record { name = a.blank.name; parts = a.blank.parts }
