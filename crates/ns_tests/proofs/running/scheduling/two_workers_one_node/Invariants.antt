use Rattle.ns_tests.proofs.running.scheduling.two_workers_one_node.Given as goal

abbrev pub ghosts-settles : goal.ghosts-settles
ghosts-settles g a = record { name = a.blank.name; parts = a.blank.parts }
