use Rattle.ns_tests.proofs.running.stopping.no_step_out_of_turn.Given as goal

abbrev pub ghosts-stay_idle : goal.ghosts-stay_idle
ghosts-stay_idle g a = record { name = a.blank.name; parts = a.blank.parts }
