use Rattle.ns_tests.proofs.running.scheduling.a_worker_ends_at_each_of_its_points.Given as goal

abbrev pub ghosts-settles : goal.ghosts-settles
ghosts-settles g a = record { name = a.blank.name; parts = a.blank.parts }
