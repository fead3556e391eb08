use Rattle.ns_tests.proofs.running.rotating.due_by_its_text.Given as goal

abbrev pub ghosts-is_due : goal.ghosts-is_due
ghosts-is_due g a = record { name = a.blank.name; parts = a.blank.parts }
