use Rattle.cert_check.proofs.runs.+sweep.Given as goal

abbrev pub decreases-sweep : goal.decreases-sweep
decreases-sweep l = l.left
