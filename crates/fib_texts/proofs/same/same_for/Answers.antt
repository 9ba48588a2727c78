use Rattle.std.proofs.Common.{◌∷◌, refl}
use Rattle.fib_same.specs.Gives.{names_at}
use Rattle.fib_same.specs.Due.{same_at}
use Rattle.fib_words.specs.Commands.{same_as}
use Rattle.std.specs.Prelude.{option_map}
use Rattle.fib_same.specs.Due.{answer_of}
use Rattle.fib_same.specs.Views.{difference_as}
use Rattle.fib_words.specs.Commands.{Same}
use Rattle.fib_texts.specs.Comparing.{answer_reply, answer_says}
use Rattle.fib_due.specs.Due.{Alike}
use Rattle.fib_due.specs.Owned.{IsOfTexts}
use Rattle.fib_texts.proofs.Comparing.{answers_differ, answers_never, reply_cause, reply_due, reply_own, reply_owns, reply_reads, same_some}
use Rattle.fib_texts.proofs.same.same_for.Goals as goal

pub returns-clause-due : goal.returns-clause-due
returns-clause-due g c =
    let named = same_as c.args.command.now in
    let due = rw c.deref.ensures.value at c.compare_texts-compared.ensures.due in
    reply_due (option_map difference_as) answer_reply Alike answer_of (λ t. refl) (same_at (g.I.Inputs.content c.args.inputs.now) named.rows named.first named.rest) c.compare_texts-compared.result c.reply_to.result c.reply_to.ensures due

pub returns-clause-some : goal.returns-clause-some
returns-clause-some g c =
    let named = same_as c.args.command.now in
    let answers = rw c.deref.ensures.value at c.compare_texts-compared.ensures.answers in
    same_some (same_at (g.I.Inputs.content c.args.inputs.now) named.rows named.first named.rest) c.compare_texts-compared.result c.reply_to.result c.reply_to.ensures answers

pub returns-clause-own : goal.returns-clause-own
returns-clause-own g c = reply_own answer_says (Same (same_as c.args.command.now)) (λ n. tt) c.compare_texts-compared.result c.reply_to.result c.reply_to.ensures

pub returns-clause-owns : goal.returns-clause-owns
returns-clause-owns g c = reply_owns answer_says IsOfTexts (λ x. tt) answers_differ c.compare_texts-compared.result c.reply_to.result c.reply_to.ensures

pub returns-clause-cause : goal.returns-clause-cause
returns-clause-cause g c =
    let named = same_as c.args.command.now in
    let cause = rw c.deref.ensures.value at c.compare_texts-compared.ensures.cause in
    reply_cause answer_says (names_at (g.I.Inputs.content c.args.inputs.now) named.rows named.first named.rest) (g.I.Inputs.faults c.args.inputs.now) (g.I.Inputs.faults c.compare_texts-compared.new.inputs) c.compare_texts-compared.result c.reply_to.result c.reply_to.ensures cause

pub returns-clause-reads : goal.returns-clause-reads
returns-clause-reads g c =
    let named = same_as c.args.command.now in
    let reads = rw c.deref.ensures.value at c.compare_texts-compared.ensures.reads in
    reply_reads answer_says answers_never (g.I.Inputs.content c.args.inputs.now) _ _ (named.first ∷ named.rest) c.compare_texts-compared.result c.reply_to.result c.reply_to.ensures reads
