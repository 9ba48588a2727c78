use Rattle.std.proofs.Common.{[], ◌∷◌, refl}
use Rattle.fib_words.specs.Commands.{CheckMoves, check_moves_as}
use Rattle.router_moves.specs.Checked.{claimed_at, names_claimed, verdict_for}
use Rattle.router_moves.specs.Judged.{verdict_as}
use Rattle.fib_texts.specs.Comparing.{verdict_reply, verdict_says}
use Rattle.fib_due.specs.Due.{Claimed}
use Rattle.fib_due.specs.Owned.{IsOfMoves}
use Rattle.fib_texts.proofs.Comparing.{reply_cause, reply_due, reply_own, reply_owns, reply_reads, verdict_some, verdicts_never, verdicts_refute}
use Rattle.fib_texts.proofs.claims.check_moves_for.Goals as goal

pub returns-clause-due : goal.returns-clause-due
returns-clause-due g c =
    let named = check_moves_as c.args.command.now in
    reply_due verdict_as verdict_reply Claimed verdict_for (λ t. refl) (claimed_at (g.I.Inputs.content c.args.inputs.now) named.router named.printed named.moves) c.check_router_moves-verdict.result c.reply_to.result c.reply_to.ensures c.check_router_moves-verdict.ensures.due

pub returns-clause-some : goal.returns-clause-some
returns-clause-some g c =
    let named = check_moves_as c.args.command.now in
    verdict_some (claimed_at (g.I.Inputs.content c.args.inputs.now) named.router named.printed named.moves) c.check_router_moves-verdict.result c.reply_to.result c.reply_to.ensures c.check_router_moves-verdict.ensures.judged

pub returns-clause-own : goal.returns-clause-own
returns-clause-own g c = reply_own verdict_says (CheckMoves (check_moves_as c.args.command.now)) (λ n. tt) c.check_router_moves-verdict.result c.reply_to.result c.reply_to.ensures

pub returns-clause-owns : goal.returns-clause-owns
returns-clause-owns g c = reply_owns verdict_says IsOfMoves (λ x. tt) verdicts_refute c.check_router_moves-verdict.result c.reply_to.result c.reply_to.ensures

pub returns-clause-cause : goal.returns-clause-cause
returns-clause-cause g c =
    let named = check_moves_as c.args.command.now in
    reply_cause verdict_says (names_claimed (g.I.Inputs.content c.args.inputs.now) named.router named.printed named.moves) (g.I.Inputs.faults c.args.inputs.now) (g.I.Inputs.faults c.check_router_moves-verdict.new.inputs) c.check_router_moves-verdict.result c.reply_to.result c.reply_to.ensures c.check_router_moves-verdict.ensures.cause

pub returns-clause-reads : goal.returns-clause-reads
returns-clause-reads g c =
    let named = check_moves_as c.args.command.now in
    reply_reads verdict_says verdicts_never (g.I.Inputs.content c.args.inputs.now) _ _ (named.router ∷ named.printed ∷ named.moves ∷ []) c.check_router_moves-verdict.result c.reply_to.result c.reply_to.ensures c.check_router_moves-verdict.ensures.reads
