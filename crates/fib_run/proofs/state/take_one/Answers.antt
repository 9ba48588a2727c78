use Rattle.std.proofs.Common.{map, ap, ◌∙◌}
use Rattle.fib_prefix.specs.Views.{elem_as, event_as}
use Rattle.fib_run.proofs.Counting.{fits_elems}
use Rattle.fib_run.proofs.state.take_one.Goals as goal

pub take_elems-requires-clause-few : goal.take_elems-requires-clause-few
take_elems-requires-clause-few c =
    let held = c.args.state.now.engine.candidates in
    fits_elems elem_as c.from_ref.result.now held (event_as c.args.event.now) _ c.requires.few (ap (map elem_as) c.from_ref.ensures.value ∙ c.in-Some.ensures held)

pub take_elems-requires-in-None-clause-few : goal.take_elems-requires-in-None-clause-few
take_elems-requires-in-None-clause-few c =
    fits_elems elem_as c.deref.result.now c.args.state.now.engine.candidates (event_as c.args.event.now) _ c.requires.few (ap (map elem_as) c.deref.ensures.value ∙ c.in_ok-elems-in-None.ensures)
