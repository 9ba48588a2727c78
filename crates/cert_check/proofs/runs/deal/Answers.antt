use Rattle.std.proofs.Common.{◌≡◌, ◌∙◌, ◌+◌, true, false, ap, refl, take, take_all}
use Rattle.table_model.specs.Table.{root, half}
use Rattle.cert_check.specs.Runs.{parts_table}
use Rattle.cert_check.proofs.Deals.{own_next, half_next}
use Rattle.cert_check.proofs.runs.deal.Goals as goal

pub loop-part-preserved : goal.loop-part-preserved
loop-part-preserved c =
    let parts = c.deref-part-items.result.now in
    let i = c.loop-part.part-index in
    let so_far = c.loop-part.invariant in
    let put = c.in_ok-put.ensures in (
      own_next (c.args.left + 1) i parts _ _ _ _ c.loop-part-test.true refl so_far.0 put.own,
      half_next false (c.args.left + 1) i parts _ _ _ _ c.loop-part-test.true refl so_far.1 put.low,
      half_next true (c.args.left + 1) i parts _ _ _ _ c.loop-part-test.true refl so_far.2 put.high,
    )

pub returns : goal.returns
returns c =
    let parts = c.args.parts.items in
    let all : take c.loop-part.part-index c.deref-part-items.result.now ≡ parts = take_all c.loop-part.part-index c.deref-part-items.result.now c.loop-part-test.false ∙ c.deref-part-items.ensures.value in
    let dealt = c.loop-part.invariant in
    record {
      own = dealt.0 ∙ ap (λ ps. root (parts_table (c.args.left + 1) ps)) all;
      low = dealt.1 ∙ ap (λ ps. half false (parts_table (c.args.left + 1) ps)) all;
      high = dealt.2 ∙ ap (λ ps. half true (parts_table (c.args.left + 1) ps)) all;
    }
