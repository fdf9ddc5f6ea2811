use Rattle.target_engine.proofs.index.Index.unlink.Given as goal

abbrev pub ghosts-unlink : goal.ghosts-unlink
ghosts-unlink a = record { name = a.blank.name; parts = a.blank.parts }
