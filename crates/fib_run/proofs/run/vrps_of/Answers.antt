use Rattle.std.proofs.Common.{List, ℕ, Option, ap, sym, subst}
use Rattle.std.specs.Prelude.{option_map}
use Rattle.fib_io.specs.Reads.{Makes}
use Rattle.fib_words.specs.Commands.{named_as}
use Rattle.fib_due.specs.declared.outcome.Which.TheVariants as which
use Rattle.fib_due.specs.InTime.{RunMayGoOn}
use Rattle.fib_due.specs.Passes.{ReadsOf, input_for}
use Rattle.fib_run.proofs.Judging.{list_reads}
use Rattle.fib_run.proofs.run.vrps_of.Goals as goal

pub returns-in-Some-clause-reads : goal.returns-in-Some-clause-reads
returns-in-Some-clause-reads g c =
    let content = g.I.Inputs.content c.args.inputs.now in
    let named = named_as c.args.command.now in
    subst (λ (name : Option (List ℕ)). Makes (g.I.Inputs.reads c.args.inputs.now) (g.I.Inputs.reads c.vrps_in.new.inputs) (ReadsOf content (RunMayGoOn content named) (input_for which.Vrps name) c.vrps_in.result)) (sym (ap (option_map (λ n. n.now)) c.in-Some.is))
    (list_reads content named c.in-Some.name.now _ _ c.vrps_in.result c.vrps_in.ensures.reads)
