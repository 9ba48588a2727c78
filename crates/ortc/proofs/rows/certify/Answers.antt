use Rattle.std.proofs.Common.{◌≡◌, [], ap, ◌∙◌}
use Rattle.table_model.specs.Address.{Prefix}
use Rattle.fib_addr.specs.Views.{prefix_as}
use Rattle.ortc.proofs.Proving.{handed_all}
use Rattle.ortc.proofs.rows.certify.Goals as goal

pub returns-clause-takes : goal.returns-clause-takes
returns-clause-takes g c =
    let f = c.args.tree.now.family in
    let p = c.whole-whole.result in
    let whole : prefix_as p ≡ record { family = f; bits = [] } = c.whole-whole.ensures ∙ ap (λ k. let q : Prefix = record { family = k; bits = [] } in q) c.family.ensures.family in
    handed_all g.S.RowSink.takes g.met.S.RowSink.more f p c.args.tree.now.routes c.region-region.result c.in_ok-bound_of.field-0 c.args.out.now c.emit_rows.new.out c.put.new.self whole c.region-region.ensures.bits c.region-region.ensures.answers c.in_ok-bound_of.ensures c.in_ok-emit_rows.ensures.takes c.in_ok-put.ensures.takes
