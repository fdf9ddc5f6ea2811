use Rattle.engine_cases.proofs.lists.an_entry_is_linked_and_unlinked_a_thousand_times.Given as goal

abbrev pub ghosts-in_one_place : goal.ghosts-in_one_place
ghosts-in_one_place b a = record { name = a.blank.name; parts = a.blank.parts }
