use Rattle.ns_tests.proofs.running.full.a_full_log_is_waited_for.Given as goal

abbrev pub ghosts-counted : goal.ghosts-counted
ghosts-counted g a = record { name = a.blank.name; parts = a.blank.parts }
