use Rattle.target_engine.proofs.index.Index.link.Given as goal

abbrev pub ghosts-append : goal.ghosts-append
ghosts-append a = record { name = a.blank.name; parts = a.blank.parts }
