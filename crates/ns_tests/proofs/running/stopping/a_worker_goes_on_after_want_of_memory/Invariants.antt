use Rattle.ns_tests.proofs.running.stopping.a_worker_goes_on_after_want_of_memory.Given as goal

abbrev pub ghosts-places_later : goal.ghosts-places_later
ghosts-places_later g a = record { name = a.blank.name; parts = a.blank.parts }
