use Rattle.ns_tests.proofs.running.spending.spent_entries_go_one_by_one.Given as goal

abbrev pub ghosts-spend_three : goal.ghosts-spend_three
ghosts-spend_three g a = record { name = a.blank.name; parts = a.blank.parts }
