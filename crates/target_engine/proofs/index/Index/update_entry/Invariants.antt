use Rattle.target_engine.proofs.index.Index.update_entry.Given as goal

abbrev pub ghosts-update_entry : goal.ghosts-update_entry
ghosts-update_entry a = record { name = a.blank.name; parts = a.blank.parts }
