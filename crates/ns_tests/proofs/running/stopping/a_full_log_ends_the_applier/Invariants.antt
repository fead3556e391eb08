use Rattle.ns_tests.proofs.running.stopping.a_full_log_ends_the_applier.Given as goal

abbrev pub ghosts-applier_ends : goal.ghosts-applier_ends
ghosts-applier_ends g a = record { name = a.blank.name; parts = a.blank.parts }
