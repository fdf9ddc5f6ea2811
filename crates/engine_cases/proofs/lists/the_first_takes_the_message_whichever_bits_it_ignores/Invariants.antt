use Rattle.engine_cases.proofs.lists.the_first_takes_the_message_whichever_bits_it_ignores.Given as goal

abbrev pub ghosts-kinds_of_ignored_bits : goal.ghosts-kinds_of_ignored_bits
ghosts-kinds_of_ignored_bits b a = record { name = a.blank.name; parts = a.blank.parts }
