use Rattle.target_engine.proofs.index.Index.names_ct.Given as goal

abbrev pub ghosts-names_ct : goal.ghosts-names_ct
ghosts-names_ct a = record { name = a.blank.name; parts = a.blank.parts }
