use Rattle.std.proofs.Common.{sym, ap, ◌∙◌}
use Rattle.std.specs.Ordering.{is_eq}
use Rattle.mrt_write.proofs.Indices.{place_tried}
use Rattle.mrt_write.proofs.index.index_near.Goals as goal

pub returns-then-is_eq : goal.returns-then-is_eq
returns-then-is_eq c =
    place_tried c.args.list.now c.args.peer.now c.index-list-near.result c.from-near.result c.requires.sorted c.if-near-list.true c.index-list-near.is (ap is_eq (sym c.cmp.ensures) ∙ (sym c.is_eq.ensures ∙ c.if-is_eq.true))
