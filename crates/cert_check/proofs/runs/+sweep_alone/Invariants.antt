use Rattle.cert_check.proofs.runs.+sweep_alone.Given as goal

abbrev pub decreases-sweep_alone : goal.decreases-sweep_alone
decreases-sweep_alone l = l.left
