use Rattle.std.proofs.Common.{rules, arith, ◌+◌, ◌<◌}
use Rattle.poptrie_build.proofs.Directing.{small_len}
use Rattle.path_copying.proofs.Child.{child_place, child_is}
use Rattle.path_copying.proofs.children.child_at.Goals as goal

pub overflow_add-node : goal.overflow_add-node
overflow_add-node c =
    let p = child_place c.args.nodes.now c.args.node c.in-Some.node c.args.slot c.requires.slot c.in-Some.is c.requires.node c.if-node-slot-eq0.false in
    let m = small_len c.args.nodes.now c.requires.sized in
    let h : c.in-Some.node.base1 + c.rank.result < 4294967296 = omega (arith, p.within, m, c.rank.ensures, p.some) in
    search (rules, h)

pub overflow_sub-node : goal.overflow_sub-node
overflow_sub-node c =
    let p = child_place c.args.nodes.now c.args.node c.in-Some.node c.args.slot c.requires.slot c.in-Some.is c.requires.node c.if-node-slot-eq0.false in
    omega (arith, c.rank.ensures, p.some)

pub read-requires : goal.read-requires
read-requires c =
    let p = child_place c.args.nodes.now c.args.node c.in-Some.node c.args.slot c.requires.slot c.in-Some.is c.requires.node c.if-node-slot-eq0.false in
    omega (arith, c.rank.ensures, p.within)

pub returns-else-node-slot-eq0 : goal.returns-else-node-slot-eq0
returns-else-node-slot-eq0 c =
    let p = child_place c.args.nodes.now c.args.node c.in-Some.node c.args.slot c.requires.slot c.in-Some.is c.requires.node c.if-node-slot-eq0.false in
    child_is c.args.nodes.now c.args.node c.in-Some.node c.read.result c.args.slot c.rank.result c.in-Some.is c.rank.ensures p c.read.ensures
