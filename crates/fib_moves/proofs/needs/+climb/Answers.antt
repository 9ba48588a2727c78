use Rattle.std.proofs.Common.{ap, arith, true, false}
use Rattle.std.proofs.lemmas.Result.{IfOk-weaker}
use Rattle.table_model.specs.Address.{Prefix}
use Rattle.table_model.specs.Width.{width}
use Rattle.orig_tree.specs.Spots.{spot_answers}
use Rattle.orig_tree.proofs.Telling.{half_longer}
use Rattle.fib_moves.specs.Needs.{Knows, IsJoined}
use Rattle.fib_moves.proofs.Parts.{place_half, knows_join}
use Rattle.fib_moves.proofs.needs.+climb.Goals as goal

pub climb-requires : goal.climb-requires
climb-requires t c =
    let p = c.args.place.now in
    let e = c.half-low.ensures in
    (omega (arith, e.bits), (omega (arith, c.requires.bits, e.bits, half_longer c.args.prefix.now c.half.result false c.half.ensures, ap (λ (x : Prefix). width x.family) c.half.ensures), place_half p c.half-low.result false c.requires.place e.bits e.entries e.node))

pub climb-requires-2 : goal.climb-requires-2
climb-requires-2 t c =
    let p = c.args.place.now in
    let e = c.half-high.ensures in
    (omega (arith, e.bits), (omega (arith, c.requires.bits, e.bits, half_longer c.args.prefix.now c.half-2.result true c.half-2.ensures, ap (λ (x : Prefix). width x.family) c.half-2.ensures), place_half p c.half-high.result true c.requires.place e.bits e.entries e.node))

pub returns : goal.returns
returns t c =
    let s = c.args.place.now.region in
    let l = c.half-low.ensures in
    let h = c.half-high.ensures in
    IfOk-weaker c.join.result (IsJoined c.half-low.result.region c.half-high.result.region) (Knows s.bits (spot_answers s) s.entries)
    (λ x j. knows_join s c.half-low.result.region c.half-high.result.region l.bits l.routes l.entries l.hop h.bits h.routes h.entries h.hop x j)
    c.join.ensures
