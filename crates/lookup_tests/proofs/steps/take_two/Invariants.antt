use Rattle.lookup_tests.proofs.steps.take_two.Given as goal

abbrev pub ghosts-start_over : goal.ghosts-start_over
ghosts-start_over a = record { name = a.blank.name; parts = a.blank.parts }
