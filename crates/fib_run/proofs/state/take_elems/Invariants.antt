use Rattle.std.proofs.Common.{◌≡◌, ◌+◌, List, ◌++◌, length, take, map}
use Rattle.route_model.specs.Events.{Elem}
use Rattle.route_model.specs.Choice.{after_elems}
use Rattle.fib_prefix.specs.Views.{elem_as}
use Rattle.fib_due.specs.Refusals.{Limits}
use Rattle.fib_run.specs.Standing.{IsAtEvent, StateStands}
use Rattle.fib_run.proofs.state.take_elems.Given as goal

-- the elementary events so far were counted and taken
abbrev pub invariant-loop-elem : goal.invariant-loop-elem
invariant-loop-elem l = record {
  counted : l.count ≡ l.fn.before + length (map elem_as (take l.elem-index l.elems));
  candidates : l.state.engine.candidates ≡ after_elems l.fn.state.engine.candidates (map elem_as (take l.elem-index l.elems));
  ready : IsAtEvent l.fn.which l.count l.state.engine;
  taken : (limits : Limits) (before done : List Elem) → l.fn.before ≡ length done → StateStands l.fn.which limits before done l.fn.state → (l.count ≡ length (done ++ map elem_as (take l.elem-index l.elems))) × StateStands l.fn.which limits before (done ++ map elem_as (take l.elem-index l.elems)) l.state;
}
