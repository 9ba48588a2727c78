use Rattle.std.proofs.Common.{ap, subst, ◌∙◌, arith}
use Rattle.table_model.specs.Address.{Prefix}
use Rattle.table_model.specs.Width.{width}
use Rattle.table_model.specs.Table.{inherit}
use Rattle.fib_addr.specs.Views.{prefix_as}
use Rattle.orig_tree.proofs.Telling.{half_longer}
use Rattle.smalta_keep.specs.Passes.{IsPass}
use Rattle.smalta_keep.proofs.Passing.{place_half, pass_nothing, pass_end, pass_join, half_left}
use Rattle.smalta_keep.proofs.pass.+list_differing.Goals as goal

pub list_differing-returns-then-is_clear : goal.list_differing-returns-then-is_clear
list_differing-returns-then-is_clear t c = pass_nothing c.args.place.now (prefix_as c.args.prefix) c.args.inherited.had c.args.inherited.gets c.args.out.now c.requires.place (c.is_clear.ensures c.if-is_clear.true) c.if-inherited.true

pub list_differing-returns-then-is_end : goal.list_differing-returns-then-is_end
list_differing-returns-then-is_end t c =
    pass_end c.args.place.now.region (prefix_as c.args.prefix) c.args.inherited.gets c.entry-had.result c.own_hop-gets.result c.if_differing-told.result.0 c.if_differing-told.result.1 c.args.out.now
    (record { had = c.push_entry.new.out; gets = c.push_entry-2.new.out }) (c.is_end.ensures.end c.if-is_end.true) c.entry-had.ensures c.own_hop-gets.ensures c.if_differing-told.ensures c.in_ok-push_entry.ensures c.in_ok-push_entry-2.ensures

pub list_differing-list_half-requires : goal.list_differing-list_half-requires
list_differing-list_half-requires t c =
    let more = c.is_end.ensures.more c.if-is_end.false in
    (omega (arith, more), (c.requires.bits, (more, record { above = c.args.inherited.had; place = c.requires.place; below = c.below.ensures ∙ ap (λ o. inherit o c.args.inherited.had) c.entry-had.ensures })))

pub list_differing-list_half-requires-2 : goal.list_differing-list_half-requires-2
list_differing-list_half-requires-2 t c =
    let more = c.is_end.ensures.more c.if-is_end.false in
    (omega (arith, more), (c.requires.bits, (more, record { above = c.args.inherited.had; place = c.requires.place; below = c.below.ensures ∙ ap (λ o. inherit o c.args.inherited.had) c.entry-had.ensures })))

pub list_differing-returns : goal.list_differing-returns
list_differing-returns t c =
    pass_join (prefix_as c.args.prefix) c.args.place.now.region c.args.inherited.gets c.below-2.result c.entry-had.result c.own_hop-gets.result c.if_differing-told.result.0 c.if_differing-told.result.1
    c.args.out.now (record { had = c.push_entry.new.out; gets = c.push_entry-2.new.out }) c.list_half.new.out c.list_half-2.new.out
    c.entry-had.ensures c.own_hop-gets.ensures c.below-2.ensures c.if_differing-told.ensures c.in_ok-push_entry.ensures c.in_ok-push_entry-2.ensures
    c.in_ok-list_half.ensures c.in_ok-list_half-2.ensures

pub list_half-returns-then-is_half_clear : goal.list_half-returns-then-is_half_clear
list_half-returns-then-is_half_clear t c = half_left c.args.place.now c.args.bit (prefix_as c.args.prefix) c.args.inherited.had c.args.inherited.gets c.args.out.now c.requires.more c.requires.place (c.is_half_clear.ensures c.if-is_half_clear.true) c.if-inherited.true

pub list_half-list_differing-requires : goal.list_half-list_differing-requires
list_half-list_differing-requires t c =
    let x = c.requires.place in
    let e = c.half.ensures in
    (omega (arith, e.bits), (omega (arith, c.requires.bits, e.bits, half_longer c.args.prefix c.half-2.result c.args.bit c.half-2.ensures, ap (λ (x : Prefix). width x.family) c.half-2.ensures), place_half c.args.place.now c.half.result c.args.bit x.above c.args.inherited.had x.place e.bits e.routes e.entries e.hop e.paths e.node e.dirty e.marked e.rerouted x.below))

pub list_half-returns : goal.list_half-returns
list_half-returns t c =
    let e = c.half.ensures in
    let s = c.half.result.region in
    record {
      spot = s;
      bits = e.bits;
      routes = e.routes;
      entries = e.entries;
      hop = e.hop;
      pass = subst (λ (q : Prefix). IsPass q s c.args.inherited.gets c.args.out.now c.list_differing.new.out) c.half-2.ensures c.in_ok-list_differing.ensures;
    }
