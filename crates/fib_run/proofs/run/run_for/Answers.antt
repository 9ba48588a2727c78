use Rattle.std.proofs.lemmas.Result.{err_from_is_err_and}
use Rattle.std.proofs.Common.{◌++◌}
use Rattle.fib_words.specs.Commands.{named_as}
use Rattle.fib_due.specs.declared.outcome.Which.TheVariants as which
use Rattle.fib_due.specs.InTime.{RunMayGoOn}
use Rattle.fib_due.specs.Passes.{feed_inputs, input_for}
use Rattle.fib_due.proofs.Passes.{reads_next, stopped_first, stopped_next}
use Rattle.fib_due.proofs.Due.{run_read}
use Rattle.fib_run.proofs.run.run_for.Goals as goal

pub returns-in_err-asks-clause-reads : goal.returns-in_err-asks-clause-reads
returns-in_err-asks-clause-reads g c =
    let p = err_from_is_err_and c.from_residual.result c.from_residual.ensures.1 in
    let named = named_as c.args.command.now in
    let content = g.I.Inputs.content c.args.inputs.now in
    rw (p.1, p.2) (stopped_first content (RunMayGoOn content named) _ _ (input_for which.Asks named.asks) (input_for which.Vrps named.vrps ++ feed_inputs named) _ c.in_err-asks.ensures.reads)

pub returns-in_err-vrps-clause-reads : goal.returns-in_err-vrps-clause-reads
returns-in_err-vrps-clause-reads g c =
    let p = err_from_is_err_and c.from_residual-in_err-vrps.result c.from_residual-in_err-vrps.ensures.1 in
    let named = named_as c.args.command.now in
    let content = g.I.Inputs.content c.args.inputs.now in
    let later = rw c.in_ok-asks.ensures.same at c.in_err-vrps.ensures.reads in
    rw (p.1, p.2) (stopped_next content (RunMayGoOn content named) _ _ _ (input_for which.Asks named.asks) (input_for which.Vrps named.vrps ++ feed_inputs named) _ c.in_ok-asks.ensures.reads
    (stopped_first content (RunMayGoOn content named) _ _ (input_for which.Vrps named.vrps) (feed_inputs named) _ later))

pub returns-clause-reads : goal.returns-clause-reads
returns-clause-reads g c =
    let named = named_as c.args.command.now in
    let content = g.I.Inputs.content c.args.inputs.now in
    let list = rw c.in_ok-asks.ensures.same at c.in_ok-vrps.ensures.reads in
    let later = rw c.in_ok-asks.ensures.same at (rw c.in_ok-vrps.ensures.same at c.text_of.ensures.reads) in
    reads_next content (RunMayGoOn content named) _ _ _ (input_for which.Asks named.asks) (input_for which.Vrps named.vrps ++ feed_inputs named) c.text_of.result c.in_ok-asks.ensures.reads
    (reads_next content (RunMayGoOn content named) _ _ _ (input_for which.Vrps named.vrps) (feed_inputs named) c.text_of.result list later)

pub returns-clause-cause : goal.returns-clause-cause
returns-clause-cause g c =
    let named = named_as c.args.command.now in
    let list = rw c.in_ok-asks.ensures.same at c.in_ok-vrps.ensures.due in
    let later = rw c.in_ok-asks.ensures.same at (rw c.in_ok-vrps.ensures.same at c.text_of.ensures.cause) in
    run_read (g.I.Inputs.content c.args.inputs.now) named _ _ _ _ _ _ c.text_of.result c.in_ok-asks.ensures.due list c.in_ok-asks.ensures.cause c.in_ok-vrps.ensures.cause later
