use Rattle.target_engine.proofs.index.Index.choose.Given as goal

abbrev pub ghosts-find_entry : goal.ghosts-find_entry
ghosts-find_entry a = record { name = a.blank.name; parts = a.blank.parts }
