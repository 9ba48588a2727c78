use Rattle.std.proofs.Common.{[], Ok, map, subst}
use Rattle.std.proofs.lemmas.Result.{err_from_is_err_and}
use Rattle.fib_addr.specs.Views.{addr_as}
use Rattle.fib_words.specs.Commands.{named_as}
use Rattle.fib_due.specs.declared.outcome.MrtInput.TheVariants.{Dump}
use Rattle.fib_due.specs.Due.{limits_of, printed_text}
use Rattle.fib_run.specs.Standing.{StateStands}
use Rattle.fib_due.proofs.Due.{all_due, feeds_fail}
use Rattle.fib_due.specs.InTime.{RunMayGoOn}
use Rattle.fib_due.specs.Passes.{feed_inputs}
use Rattle.fib_due.proofs.Passes.{out_of_memory}
use Rattle.fib_due.specs.declared.outcome.Which.TheVariants as which
use Rattle.fib_run.proofs.run.text_of_load.Goals as goal

pub returns-in-Ok-clause-due : goal.returns-in-Ok-clause-due
returns-in-Ok-clause-due g c =
    let named = named_as c.args.command.now in
    let stands = subst (λ l. StateStands Dump l [] [] c.new-state.result) c.limits_of.ensures c.new-state.ensures.stands in
    let both = c.in_ok-fed.ensures.due stands in
    all_due _ _ named (map addr_as c.args.asks.now) printed_text both.1.0 _ both.1.2 (c.in-Ok.ensures.text (limits_of named) both.1.0.0 both.1.0.1 both.0 both.1.1 both.2)

pub returns-in-Ok-clause-yes : goal.returns-in-Ok-clause-yes
returns-in-Ok-clause-yes g c =
    let named = named_as c.args.command.now in
    let stands = subst (λ l. StateStands Dump l [] [] c.new-state.result) c.limits_of.ensures c.new-state.ensures.stands in
    let both = c.in_ok-fed.ensures.due stands in
    c.in-Ok.ensures.yes (limits_of named) both.1.0.0 both.1.0.1 both.0 both.1.1 both.2

pub returns-in_err-fed-clause-due : goal.returns-in_err-fed-clause-due
returns-in_err-fed-clause-due g c =
    let named = named_as c.args.command.now in
    let stands = subst (λ l. StateStands Dump l [] [] c.new-state.result) c.limits_of.ensures c.new-state.ensures.stands in
    let p = err_from_is_err_and c.from_residual.result c.from_residual.ensures.1 in
    rw (p.1, p.2) (feeds_fail _ _ named (map addr_as c.args.asks.now) (λ q. Ok (printed_text q)) _ (c.in_err-fed.ensures.due stands))

pub returns-in_err-fed-clause-stops : goal.returns-in_err-fed-clause-stops
returns-in_err-fed-clause-stops g c =
    let p = err_from_is_err_and c.from_residual.result c.from_residual.ensures.1 in
    rw (p.1, p.2) c.in_err-fed.ensures.stops

pub returns-in_err-fed-clause-cause : goal.returns-in_err-fed-clause-cause
returns-in_err-fed-clause-cause g c =
    let stands = subst (λ l. StateStands Dump l [] [] c.new-state.result) c.limits_of.ensures c.new-state.ensures.stands in
    let p = err_from_is_err_and c.from_residual.result c.from_residual.ensures.1 in
    rw (p.1, p.2) (c.in_err-fed.ensures.cause stands)

pub returns-in_err-fed-clause-reads : goal.returns-in_err-fed-clause-reads
returns-in_err-fed-clause-reads g c =
    let stands = subst (λ l. StateStands Dump l [] [] c.new-state.result) c.limits_of.ensures c.new-state.ensures.stands in
    let p = err_from_is_err_and c.from_residual.result c.from_residual.ensures.1 in
    rw (p.1, p.2) (c.in_err-fed.ensures.reads stands)

pub returns-clause-reads : goal.returns-clause-reads
returns-clause-reads g c =
    let named = named_as c.args.command.now in
    let content = g.I.Inputs.content c.args.inputs.now in
    let stands = subst (λ l. StateStands Dump l [] [] c.new-state.result) c.limits_of.ensures c.new-state.ensures.stands in
    out_of_memory content (RunMayGoOn content named) _ _ (feed_inputs named) (c.in_ok-fed.ensures.reads stands)

pub returns-in-Ok-clause-reads : goal.returns-in-Ok-clause-reads
returns-in-Ok-clause-reads g c =
    let stands = subst (λ l. StateStands Dump l [] [] c.new-state.result) c.limits_of.ensures c.new-state.ensures.stands in
    c.in_ok-fed.ensures.reads stands

pub returns-clause-stops : goal.returns-clause-stops
returns-clause-stops g c = (which.Dump, tt, tt)
