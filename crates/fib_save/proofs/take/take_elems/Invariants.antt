use Rattle.std.proofs.Common.{◌≡◌, drop, map}
use Rattle.fib_prefix.specs.Views.{elem_as}
use Rattle.route_model.specs.Choice.{after_elems}
use Rattle.fib_save.proofs.take.take_elems.Given as goal

abbrev pub invariant-loop-elem : goal.invariant-loop-elem
invariant-loop-elem l = after_elems l.candidates.candidates (map elem_as (drop l.elem-index l.elems)) ≡ after_elems l.fn.candidates.candidates (map elem_as l.elems)
