use Rattle.std.proofs.Common.{Option}
use Rattle.std.proofs.lemmas.Result.{err_from_is_err_and}
use Rattle.printed_text.specs.Printed.{kind_as}
use Rattle.fib_same.specs.declared.compare.Difference.{Difference}
use Rattle.fib_same.specs.declared.compare.Found.{Found}
use Rattle.fib_same.proofs.Going.{texts}
use Rattle.fib_same.proofs.Whole.{due_if_alike, due_if_differs, ends_if_alike, ends_if_differs, first_fails, first_stops, found_ends, memory_stops, others_fail, others_read, others_stop, refused_cause}
use Rattle.fib_same.proofs.compare.compare_texts.Goals as goal

pub returns-in_err-entries-clause-reads : goal.returns-in_err-entries-clause-reads
returns-in_err-entries-clause-reads g c =
    let p = err_from_is_err_and c.from_residual.result c.from_residual.ensures.1 in
    rw (p.1, p.2) (first_stops c.args.first.now _ c.in_err-entries.field-0.0 _ _ c.in_err-entries.ensures.reads)

pub returns-in_err-runs-clause-reads : goal.returns-in_err-runs-clause-reads
returns-in_err-runs-clause-reads g c =
    let p = err_from_is_err_and c.from_residual-in_err-runs.result c.from_residual-in_err-runs.ensures.1 in
    rw (p.1, p.2) (memory_stops c.args.first.now _ _ _ c.in_ok-entries.ensures.reads)

pub returns-in_err-found-clause-reads : goal.returns-in_err-found-clause-reads
returns-in_err-found-clause-reads g c =
    let p = err_from_is_err_and c.from_residual-in_err-found.result c.from_residual-in_err-found.ensures.1 in
    rw (p.1, p.2) (others_stop c.args.first.now _ c.in_err-found.field-0.0 _ _ _ c.in_ok-entries.ensures.reads c.in_err-found.ensures.reads)

pub returns-in-Some-clause-reads : goal.returns-in-Some-clause-reads
returns-in-Some-clause-reads g c = others_read c.args.first.now _ _ _ _ c.in_ok-entries.ensures.reads c.in_ok-found.ensures.reads

pub returns-clause-reads : goal.returns-clause-reads
returns-clause-reads g c = others_read c.args.first.now _ _ _ _ c.in_ok-entries.ensures.reads c.in_ok-found.ensures.reads

pub returns-in_err-entries-clause-due : goal.returns-in_err-entries-clause-due
returns-in_err-entries-clause-due g c =
    let p = err_from_is_err_and c.from_residual.result c.from_residual.ensures.1 in
    rw (p.1, p.2) (first_fails (g.I.Inputs.content c.args.inputs.now) c.args.kind c.args.first.now _ c.in_err-entries.field-0.0 (rw c.new-hops.ensures at c.in_err-entries.ensures.due))

pub returns-in_err-found-clause-due : goal.returns-in_err-found-clause-due
returns-in_err-found-clause-due g c =
    let p = err_from_is_err_and c.from_residual-in_err-found.result c.from_residual-in_err-found.ensures.1 in
    let read = kind_as c.in_ok-entries.entries c.read_text.new.hops in
    rw (p.1, p.2) (others_fail (g.I.Inputs.content c.args.inputs.now) c.args.kind c.args.first.now _ read c.in_err-found.field-0.0 (rw c.new-hops.ensures at c.in_ok-entries.ensures.due) (rw c.in_ok-entries.ensures.same at c.in_err-found.ensures.refused))

pub returns-in-Some-clause-due : goal.returns-in-Some-clause-due
returns-in-Some-clause-due g c =
    let ended =
    found_ends (g.I.Inputs.content c.args.inputs.now) _ c.args.kind c.args.first.now _ _ c.read_text.new.hops c.compare_others.new.hops _ c.in_ok-runs.runs c.in_ok-found.found c.new-hops.ensures c.in_ok-entries.ensures.same c.in_ok-entries.ensures.due
    (rw c.deref.ensures.value at c.in_ok-runs.ensures.tells) c.in_ok-found.ensures.found in
    due_if_differs _ c.args.kind c.args.first.now _ _ c.in_ok-found.found c.in-Some.found c.difference_of.result ended c.in-Some.is c.difference_of.ensures

pub returns-in-Some-clause-answers : goal.returns-in-Some-clause-answers
returns-in-Some-clause-answers g c =
    let ended =
    found_ends (g.I.Inputs.content c.args.inputs.now) _ c.args.kind c.args.first.now _ _ c.read_text.new.hops c.compare_others.new.hops _ c.in_ok-runs.runs c.in_ok-found.found c.new-hops.ensures c.in_ok-entries.ensures.same c.in_ok-entries.ensures.due
    (rw c.deref.ensures.value at c.in_ok-runs.ensures.tells) c.in_ok-found.ensures.found in
    ends_if_differs _ c.args.kind c.args.first.now _ _ c.in_ok-found.found c.in-Some.found c.difference_of.result ended c.in-Some.is c.difference_of.ensures

pub returns-clause-due : goal.returns-clause-due
returns-clause-due g c =
    let ended =
    found_ends (g.I.Inputs.content c.args.inputs.now) _ c.args.kind c.args.first.now _ _ c.read_text.new.hops c.compare_others.new.hops _ c.in_ok-runs.runs c.in_ok-found.found c.new-hops.ensures c.in_ok-entries.ensures.same c.in_ok-entries.ensures.due
    (rw c.deref.ensures.value at c.in_ok-runs.ensures.tells) c.in_ok-found.ensures.found in
    due_if_alike _ c.args.kind c.args.first.now _ _ c.in_ok-found.found ended c.in-None.is

pub returns-clause-answers : goal.returns-clause-answers
returns-clause-answers g c =
    let ended =
    found_ends (g.I.Inputs.content c.args.inputs.now) _ c.args.kind c.args.first.now _ _ c.read_text.new.hops c.compare_others.new.hops _ c.in_ok-runs.runs c.in_ok-found.found c.new-hops.ensures c.in_ok-entries.ensures.same c.in_ok-entries.ensures.due
    (rw c.deref.ensures.value at c.in_ok-runs.ensures.tells) c.in_ok-found.ensures.found in
    ends_if_alike _ c.args.kind c.args.first.now _ _ c.in_ok-found.found ended c.in-None.is

pub returns-in_err-found-clause-cause : goal.returns-in_err-found-clause-cause
returns-in_err-found-clause-cause g c =
    let p = err_from_is_err_and c.from_residual-in_err-found.result c.from_residual-in_err-found.ensures.1 in
    let read = kind_as c.in_ok-entries.entries c.read_text.new.hops in
    refused_cause (Option Found) (Option Difference) (g.I.Inputs.content c.args.inputs.now) (g.I.Inputs.content c.read_text.new.inputs) c.args.kind c.args.first.now (texts c.args.rest.now) _ read
    (g.I.Inputs.faults c.args.inputs.now) (g.I.Inputs.faults c.read_text.new.inputs) (g.I.Inputs.faults c.compare_others.new.inputs) c.in_err-found.field-0.0 p.0 c.from_residual-in_err-found.result
    c.new-hops.ensures c.in_ok-entries.ensures.same c.in_ok-entries.ensures.cause c.in_ok-entries.ensures.due c.in_err-found.ensures.cause p.1 p.2
