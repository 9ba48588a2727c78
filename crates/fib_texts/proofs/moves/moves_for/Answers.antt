use Rattle.std.proofs.Common.{[], ◌∷◌, refl}
use Rattle.fib_words.specs.Commands.{Moves, named_moves}
use Rattle.router_moves.specs.Due.{router_at, moves_for, names_asked}
use Rattle.router_moves.specs.Views.{shortest_as}
use Rattle.fib_texts.specs.Comparing.{moves_reply, moves_say}
use Rattle.fib_due.specs.Due.{Moved}
use Rattle.fib_due.specs.Owned.{IsNo}
use Rattle.fib_texts.proofs.Comparing.{moves_accept, moves_never, moves_some, reply_cause, reply_due, reply_own, reply_owns, reply_reads}
use Rattle.fib_texts.proofs.moves.moves_for.Goals as goal

pub returns-clause-due : goal.returns-clause-due
returns-clause-due g c =
    let named = named_moves c.args.command.now in
    reply_due shortest_as moves_reply (Moved named.steady) (moves_for named.steady) (λ t. refl) (router_at (g.I.Inputs.content c.args.inputs.now) named.router named.printed) c.moves_to_routes-moves.result c.reply_to.result c.reply_to.ensures c.moves_to_routes-moves.ensures.due

pub returns-clause-some : goal.returns-clause-some
returns-clause-some g c =
    let named = named_moves c.args.command.now in
    moves_some named.steady (router_at (g.I.Inputs.content c.args.inputs.now) named.router named.printed) c.moves_to_routes-moves.result c.reply_to.result c.reply_to.ensures c.moves_to_routes-moves.ensures.shortest

pub returns-clause-own : goal.returns-clause-own
returns-clause-own g c = reply_own moves_say (Moves (named_moves c.args.command.now)) (λ n. tt) c.moves_to_routes-moves.result c.reply_to.result c.reply_to.ensures

pub returns-clause-owns : goal.returns-clause-owns
returns-clause-owns g c = reply_owns moves_say IsNo (λ x. tt) moves_accept c.moves_to_routes-moves.result c.reply_to.result c.reply_to.ensures

pub returns-clause-cause : goal.returns-clause-cause
returns-clause-cause g c =
    let named = named_moves c.args.command.now in
    reply_cause moves_say (names_asked (g.I.Inputs.content c.args.inputs.now) named.router named.printed) (g.I.Inputs.faults c.args.inputs.now) (g.I.Inputs.faults c.moves_to_routes-moves.new.inputs) c.moves_to_routes-moves.result c.reply_to.result c.reply_to.ensures c.moves_to_routes-moves.ensures.cause

pub returns-clause-reads : goal.returns-clause-reads
returns-clause-reads g c =
    let named = named_moves c.args.command.now in
    reply_reads moves_say moves_never (g.I.Inputs.content c.args.inputs.now) _ _ (named.router ∷ named.printed ∷ []) c.moves_to_routes-moves.result c.reply_to.result c.reply_to.ensures c.moves_to_routes-moves.ensures.reads
