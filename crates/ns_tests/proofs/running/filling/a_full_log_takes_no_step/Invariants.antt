use Rattle.ns_tests.proofs.running.filling.a_full_log_takes_no_step.Given as goal

abbrev pub ghosts-fills : goal.ghosts-fills
ghosts-fills g a = record { name = a.blank.name; parts = a.blank.parts }
