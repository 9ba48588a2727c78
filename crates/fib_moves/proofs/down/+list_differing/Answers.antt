use Rattle.std.proofs.Common.{refl, ap, arith, true, false}
use Rattle.orig_tree.specs.Spots.{spot_answers}
use Rattle.table_model.specs.Address.{Prefix}
use Rattle.table_model.specs.Width.{width}
use Rattle.fib_addr.specs.Views.{prefix_as}
use Rattle.orig_tree.proofs.Telling.{half_longer}
use Rattle.fib_moves.proofs.Passing.{knows_down, table_down, own_due, pass_end, pass_join}
use Rattle.fib_moves.proofs.down.+list_differing.Goals as goal

pub due_hop-gets-requires : goal.due_hop-gets-requires
due_hop-gets-requires t c =
    let s = c.args.region.now in
    c.hops_of-found.ensures s.bits (spot_answers s) s.entries c.requires.knows

pub is_end-requires-clause-found : goal.is_end-requires-clause-found
is_end-requires-clause-found t c =
    let s = c.args.region.now in
    c.hops_of-found.ensures s.bits (spot_answers s) s.entries c.requires.knows

pub returns-then-is_end : goal.returns-then-is_end
returns-then-is_end t c =
    pass_end c.args.region.now (prefix_as c.args.prefix) c.args.inherited c.entry-had.result c.due_hop-gets.result c.if_differing-old.result.0 c.if_differing-old.result.1 c.args.out.now
    (record { had = c.push_entry.new.out; gets = c.push_entry-2.new.out }) (c.is_end.ensures.end c.if-is_end.true) c.entry-had.ensures (own_due c.args.region.now c.args.inherited c.entry-had.result c.due_hop-gets.result c.entry-had.ensures c.due_hop-gets.ensures) c.if_differing-old.ensures c.in_ok-push_entry.ensures c.in_ok-push_entry-2.ensures

pub list_differing-requires : goal.list_differing-requires
list_differing-requires t c =
    let s = c.args.region.now in
    let h = c.half.result in
    let e = c.half.ensures in
    (omega (arith, e.bits), (omega (arith, c.requires.bits, e.bits, half_longer c.args.prefix c.half-2.result false c.half-2.ensures, ap (λ (x : Prefix). width x.family) c.half-2.ensures), (table_down s h false e.bits e.entries c.requires.table, knows_down s h false c.args.needs.now _ c.half_of-low.result.now e.bits e.routes e.entries e.hop c.requires.knows refl c.half_of-low.ensures)))

pub list_differing-requires-2 : goal.list_differing-requires-2
list_differing-requires-2 t c =
    let s = c.args.region.now in
    let h = c.half-3.result in
    let e = c.half-3.ensures in
    (omega (arith, e.bits), (omega (arith, c.requires.bits, e.bits, half_longer c.args.prefix c.half-4.result true c.half-4.ensures, ap (λ (x : Prefix). width x.family) c.half-4.ensures), (table_down s h true e.bits e.entries c.requires.table, knows_down s h true c.args.needs.now _ c.half_of-high.result.now e.bits e.routes e.entries e.hop c.requires.knows refl c.half_of-high.ensures)))

pub returns : goal.returns
returns t c =
    let s = c.args.region.now in
    let l = c.half.ensures in
    let h = c.half-3.ensures in
    pass_join (prefix_as c.args.prefix) c.half-2.result c.half-4.result s c.half.result c.half-3.result c.args.inherited c.below-inherited.result c.entry-had.result c.due_hop-gets.result c.if_differing-old.result.0 c.if_differing-old.result.1
    c.args.out.now (record { had = c.push_entry.new.out; gets = c.push_entry-2.new.out }) c.list_differing.new.out c.list_differing-2.new.out
    c.entry-had.ensures (own_due c.args.region.now c.args.inherited c.entry-had.result c.due_hop-gets.result c.entry-had.ensures c.due_hop-gets.ensures) c.below-inherited.ensures c.if_differing-old.ensures c.in_ok-push_entry.ensures c.in_ok-push_entry-2.ensures
    l.bits l.routes l.entries l.hop h.bits h.routes h.entries h.hop c.half-2.ensures c.half-4.ensures c.in_ok-list_differing.ensures c.in_ok-list_differing-2.ensures
