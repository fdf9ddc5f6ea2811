use Rattle.engine_cases.proofs.lists.entries_that_ignore_bits_stand_in_the_order_of_the_list.Given as goal

abbrev pub ghosts-wild_entries : goal.ghosts-wild_entries
ghosts-wild_entries b a = record { name = a.blank.name; parts = a.blank.parts }
