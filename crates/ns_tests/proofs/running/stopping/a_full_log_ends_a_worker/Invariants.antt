use Rattle.ns_tests.proofs.running.stopping.a_full_log_ends_a_worker.Given as goal

abbrev pub ghosts-worker_ends : goal.ghosts-worker_ends
ghosts-worker_ends g a = record { name = a.blank.name; parts = a.blank.parts }
