use Rattle.std.proofs.Common.{ap, ◌∙◌, Err}
use Rattle.std.proofs.lemmas.Result.{err_from_is_err_and}
use Rattle.printed_text.specs.Printed.{kind_as}
use Rattle.printed_text.proofs.LinesTaken.{empty_line, taken_line, bad_kind_line, no_line, kind_way}
use Rattle.printed_text.proofs.kind_rows.read_rows.Goals as goal

pub returns-clause-read : goal.returns-clause-read
returns-clause-read c = no_line (kind_way c.args.kind c.args.hops.now.list) _ _ _ _ c.in-None.ensures.steps.0 c.loop-line.invariant

pub returns-in_err-take_line-clause-read : goal.returns-in_err-take_line-clause-read
returns-in_err-take_line-clause-read c =
    let p = err_from_is_err_and c.from_residual.result c.from_residual.ensures.1 in
    bad_kind_line c.args.kind c.args.hops.now.list c.in_err-take_line.field-0.0 c.from_residual.result c.take_line.new.hops (kind_as c.loop-line.entries c.loop-line.hops) (kind_as c.take_line.new.entries c.take_line.new.hops) _ c.in-Some.line.now _ _ _
    c.in-Some.ensures.steps c.if-not-is_empty.ensures (p.1 ∙ ap Err p.2) c.in_err-take_line.ensures c.loop-line.invariant

pub loop-line-preserved-in-Continue-1 : goal.loop-line-preserved-in-Continue-1
loop-line-preserved-in-Continue-1 c =
    taken_line (kind_way c.args.kind c.args.hops.now.list) (kind_as c.loop-line.entries c.loop-line.hops) _ _ c.in-Some.line.now _ _ _ c.in-Some.ensures.steps c.if-not-is_empty.ensures c.in_ok-take_line.ensures c.loop-line.invariant

pub loop-line-preserved : goal.loop-line-preserved
loop-line-preserved c = empty_line (kind_way c.args.kind c.args.hops.now.list) _ _ c.in-Some.line.now _ _ _ c.in-Some.ensures.steps c.if-not-is_empty.ensures c.loop-line.invariant
