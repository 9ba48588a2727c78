use Rattle.std.proofs.lemmas.Result.{err_from_is_err_and}
use Rattle.std.proofs.Common.{[], ◌∷◌}
use Rattle.fib_due.specs.declared.outcome.Which.TheVariants as which
use Rattle.fib_due.specs.InTime.{TextMayGoOn}
use Rattle.fib_due.proofs.Passes.{out_of_memory}
use Rattle.fib_run.proofs.run.vrps_in.Goals as goal

pub returns-in_err-octets-clause-reads : goal.returns-in_err-octets-clause-reads
returns-in_err-octets-clause-reads g c =
    let p = err_from_is_err_and c.from_residual.result c.from_residual.ensures.1 in
    rw (p.1, p.2) c.in_err-octets.ensures.reads

pub returns-clause-reads : goal.returns-clause-reads
returns-clause-reads g c = out_of_memory (g.I.Inputs.content c.args.inputs.now) TextMayGoOn _ _ ((which.Vrps, c.args.name.now) ∷ []) c.in_ok-octets.ensures.reads
