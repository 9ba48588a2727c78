use Rattle.fib_run.proofs.report.answers.Given as goal

abbrev pub ghosts-look_up_all : goal.ghosts-look_up_all
ghosts-look_up_all a = record { name = a.blank.name; parts = a.blank.parts }
