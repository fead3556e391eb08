use Rattle.ns_tests.proofs.running.rotating.rotation_and_settle.Given as goal

abbrev pub ghosts-base : goal.ghosts-base
ghosts-base g a = record { name = a.blank.name; parts = a.blank.parts }

abbrev pub ghosts-settled : goal.ghosts-settled
ghosts-settled g a = record { name = a.blank.name; parts = a.blank.parts }
