use Rattle.std.proofs.Common.{ap, arith, true, false}
use Rattle.std.proofs.lemmas.Result.{IfOk-weaker}
use Rattle.table_model.specs.Address.{Prefix}
use Rattle.table_model.specs.Width.{width}
use Rattle.orig_tree.specs.Spots.{spot_answers}
use Rattle.orig_tree.specs.Walk.{behind}
use Rattle.orig_tree.proofs.Telling.{half_longer}
use Rattle.fib_moves.proofs.Parts.{place_half}
use Rattle.fib_moves.specs.Found.{FoundHops, FoundInHalf, JoinsHops}
use Rattle.fib_moves.proofs.Settled.{halves_give, half_gives}
use Rattle.fib_moves.proofs.Finding.{settled_none, hops_join}
use Rattle.fib_moves.proofs.found.+climb.Goals as goal

pub climb_half-returns-then-is_settled : goal.climb_half-returns-then-is_settled
climb_half-returns-then-is_settled t c = settled_none c.args.place.now c.is_settled.result c.is_settled.ensures c.if-is_settled.true

pub climb_half-climb-requires : goal.climb_half-climb-requires
climb_half-climb-requires t c = (omega arith, (c.requires.bits, (c.requires.place, halves_give c.args.place.now c.args.inherited c.requires.right)))

pub climb_half-returns : goal.climb_half-returns
climb_half-returns t c =
    let p = c.args.place.now in
    IfOk-weaker c.climb.result (FoundHops p.region.bits (spot_answers p.region) (behind p.node).routes p.region.entries) (FoundInHalf p) (λ x k e. k) c.climb.ensures

pub climb-climb_half-requires : goal.climb-climb_half-requires
climb-climb_half-requires t c =
    let p = c.args.place.now in
    let q = c.half-low.result in
    let e = c.half-low.ensures in (
      omega (arith, e.bits),
      (
        omega (arith, c.requires.bits, e.bits, half_longer c.args.prefix.now c.half.result false c.half.ensures, ap (λ (x : Prefix). width x.family) c.half.ensures),
        (place_half p q false c.requires.place e.bits e.entries e.node, half_gives p q false c.args.inherited c.below-inherited.result c.entry.result c.requires.right e.bits e.routes e.entries e.hop e.node_routes c.below-inherited.ensures c.entry.ensures),
      ),
    )

pub climb-climb_half-requires-2 : goal.climb-climb_half-requires-2
climb-climb_half-requires-2 t c =
    let p = c.args.place.now in
    let q = c.half-high.result in
    let e = c.half-high.ensures in (
      omega (arith, e.bits),
      (
        omega (arith, c.requires.bits, e.bits, half_longer c.args.prefix.now c.half-2.result true c.half-2.ensures, ap (λ (x : Prefix). width x.family) c.half-2.ensures),
        (place_half p q true c.requires.place e.bits e.entries e.node, half_gives p q true c.args.inherited c.below-inherited.result c.entry.result c.requires.right e.bits e.routes e.entries e.hop e.node_routes c.below-inherited.ensures c.entry.ensures),
      ),
    )

pub climb-join-requires-clause-low : goal.climb-join-requires-clause-low
climb-join-requires-clause-low t c =
    let e = c.half-low.ensures in
    place_half c.args.place.now c.half-low.result false c.requires.place e.bits e.entries e.node

pub climb-join-requires-clause-high : goal.climb-join-requires-clause-high
climb-join-requires-clause-high t c =
    let e = c.half-high.ensures in
    place_half c.args.place.now c.half-high.result true c.requires.place e.bits e.entries e.node

pub climb-join-requires-clause-low_right : goal.climb-join-requires-clause-low_right
climb-join-requires-clause-low_right t c =
    let e = c.half-low.ensures in
    half_gives c.args.place.now c.half-low.result false c.args.inherited c.below-inherited.result c.entry.result c.requires.right e.bits e.routes e.entries e.hop e.node_routes c.below-inherited.ensures c.entry.ensures

pub climb-join-requires-clause-high_right : goal.climb-join-requires-clause-high_right
climb-join-requires-clause-high_right t c =
    let e = c.half-high.ensures in
    half_gives c.args.place.now c.half-high.result true c.args.inherited c.below-inherited.result c.entry.result c.requires.right e.bits e.routes e.entries e.hop e.node_routes c.below-inherited.ensures c.entry.ensures

pub climb-returns : goal.climb-returns
climb-returns t c =
    let p = c.args.place.now in
    let l = c.half-low.ensures in
    let h = c.half-high.ensures in
    IfOk-weaker c.join.result (JoinsHops c.half-low.result c.half-high.result) (FoundHops p.region.bits (spot_answers p.region) (behind p.node).routes p.region.entries)
    (λ x j. hops_join p c.half-low.result c.half-high.result l.bits l.routes l.entries l.hop l.node_routes h.bits h.routes h.entries h.hop h.node_routes x j)
    c.join.ensures
