use Rattle.table_model.specs.Bits.{bits_of}
use Rattle.fib_addr.specs.Views.{prefix_as}
use Rattle.orig_tree.specs.Walk.{behind}
use Rattle.orig_tree.proofs.Above.{above_is}
use Rattle.smalta_keep.proofs.Seeking.{found_at}
use Rattle.smalta_keep.proofs.place.walk_to.Goals as goal

pub returns-clause-entries : goal.returns-clause-entries
returns-clause-entries c =
    let k = c.args.tree.now in
    let p = c.args.prefix.now in
    found_at k.family (bits_of p.len c.path_bits.result) (prefix_as p).bits c.root.result.entries (behind c.walk.result.node).entries k.entries c.root.ensures.entries c.path_bits.ensures c.walk.ensures.entries

pub returns-clause-routes : goal.returns-clause-routes
returns-clause-routes c =
    let k = c.args.tree.now in
    let p = c.args.prefix.now in
    found_at k.family (bits_of p.len c.path_bits.result) (prefix_as p).bits c.root.result.routes (behind c.walk.result.node).routes k.routes c.root.ensures.routes c.path_bits.ensures c.walk.ensures.routes

pub returns-clause-hop : goal.returns-clause-hop
returns-clause-hop c =
    let k = c.args.tree.now in
    let p = c.args.prefix.now in
    above_is k.family (bits_of p.len c.path_bits.result) (prefix_as p).bits c.root.result.entries k.entries c.walk.result.hop c.root.ensures.entries c.path_bits.ensures c.walk.ensures.hop
