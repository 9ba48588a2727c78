use Rattle.fib_addr.specs.Views.{prefix_as}
use Rattle.fib_rov.proofs.Same.{is_prefix}
use Rattle.fib_rov.proofs.Lasts.{last_of_all, linked_fewer, up_to_place}
use Rattle.fib_rov.proofs.index.last_covering.Goals as goal

pub last_cover-requires-clause-linked : goal.last_cover-requires-clause-linked
last_cover-requires-clause-linked c = linked_fewer c.args.sorted.now c.args.links.now c.place_of.result _ c.place_of.ensures.bound c.requires.linked

pub last_cover-requires-clause-up_to : goal.last_cover-requires-clause-up_to
last_cover-requires-clause-up_to c = up_to_place (prefix_as c.args.prefix.now) c.args.sorted.now c.place_of.result c.place_of.ensures.bound c.place_of.ensures.placed

pub returns : goal.returns
returns c = last_of_all (prefix_as c.args.prefix.now) c.args.sorted.now c.place_of.result c.last_cover.result (is_prefix c.args.prefix.now) c.place_of.ensures.bound c.place_of.ensures.placed c.last_cover.ensures
