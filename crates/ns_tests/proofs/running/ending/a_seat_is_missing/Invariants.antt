use Rattle.ns_tests.proofs.running.ending.a_seat_is_missing.Given as goal

abbrev pub ghosts-one_is_missing : goal.ghosts-one_is_missing
ghosts-one_is_missing g a = record { name = a.blank.name; parts = a.blank.parts }
