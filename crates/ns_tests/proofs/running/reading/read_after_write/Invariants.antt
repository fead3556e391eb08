use Rattle.ns_tests.proofs.running.reading.read_after_write.Given as goal

abbrev pub ghosts-reads_what_it_wrote : goal.ghosts-reads_what_it_wrote
ghosts-reads_what_it_wrote g a = record { name = a.blank.name; parts = a.blank.parts }
