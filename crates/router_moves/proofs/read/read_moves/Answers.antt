use Rattle.std.proofs.Common.{ap, ◌∙◌, Err}
use Rattle.std.proofs.lemmas.Result.{err_from_is_err_and}
use Rattle.printed_text.proofs.LinesTaken.{empty_line, taken_line, no_line}
use Rattle.router_moves.specs.SaidViews.{said_moves_as}
use Rattle.router_moves.proofs.Reading.{bad_moves_line, moves_way}
use Rattle.router_moves.proofs.read.read_moves.Goals as goal

pub returns-clause-read : goal.returns-clause-read
returns-clause-read c = no_line (moves_way c.args.hops.now.list) _ _ _ _ c.in-None.ensures.steps.0 c.loop-line.invariant

pub returns-in_err-take_line-clause-read : goal.returns-in_err-take_line-clause-read
returns-in_err-take_line-clause-read c =
    let p = err_from_is_err_and c.from_residual.result c.from_residual.ensures.1 in
    bad_moves_line c.args.hops.now.list c.in_err-take_line.field-0.0 c.from_residual.result c.take_line.new.hops (said_moves_as c.loop-line.said c.loop-line.hops) (said_moves_as c.take_line.new.self c.take_line.new.hops) _ c.in-Some.line.now _ _ _
    c.in-Some.ensures.steps c.if-not-is_empty.ensures (p.1 ∙ ap Err p.2) c.in_err-take_line.ensures c.loop-line.invariant

pub loop-line-preserved-in-Continue-1 : goal.loop-line-preserved-in-Continue-1
loop-line-preserved-in-Continue-1 c =
    taken_line (moves_way c.args.hops.now.list) (said_moves_as c.loop-line.said c.loop-line.hops) _ _ c.in-Some.line.now _ _ _ c.in-Some.ensures.steps c.if-not-is_empty.ensures c.in_ok-take_line.ensures c.loop-line.invariant

pub loop-line-preserved : goal.loop-line-preserved
loop-line-preserved c = empty_line (moves_way c.args.hops.now.list) _ _ c.in-Some.line.now _ _ _ c.in-Some.ensures.steps c.if-not-is_empty.ensures c.loop-line.invariant
