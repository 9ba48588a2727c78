use Rattle.std.proofs.Common.{◌≡◌, ℕ, Option, true, false, not, ap, ◌∙◌, arith}
use Rattle.table_model.specs.Table.{inherit}
use Rattle.fib_moves.specs.declared.way.LastBlocked.{LastBlocked}
use Rattle.fib_moves.specs.declared.way.Way.{Way}
use Rattle.fib_moves.proofs.Parts.{place_half}
use Rattle.fib_moves.proofs.Passing.{table_down}
use Rattle.fib_moves.proofs.Ways.{breaks_is, turn_told}
use Rattle.fib_moves.proofs.way.step.Goals.{then-is_blocked, else-is_blocked}
use Rattle.fib_moves.proofs.way.step.Goals as goal

pub is_blocked-requires : goal.is_blocked-requires
is_blocked-requires c = table_down c.args.way.place.region c.half-beside.result (not c.args.bit) c.half-beside.ensures.bits c.half-beside.ensures.entries c.requires.place.table

pub returns : goal.returns
returns c =
    let x = c.args.way in
    let y : Way = record { place = c.half-place.result; at = c.half-at.result; comes = c.below-comes.result; turn = c.if-is_blocked.turn } in
    let h = c.half-place.ensures in
    let m = c.half-beside.ensures in
    let same : c.half-beside.result.bits ≡ c.half-place.result.region.bits = omega (arith, h.bits, m.bits) in
    let e = breaks_is c.args.bit c.is_blocked.result c.half-place.result.region.entries c.half-beside.result.entries x.place.region.entries c.half-place.result.region.bits c.half-beside.result.bits c.is_blocked.ensures h.entries m.entries same in
    record {
      place = place_half x.place c.half-place.result c.args.bit c.requires.place h.bits h.entries h.node;
      at = c.half-at.ensures;
      bits = h.bits;
      routes = h.node_routes;
      entries = h.entries;
      comes = c.below-comes.ensures ∙ ap (λ o. inherit o x.comes) c.entry.ensures;
      turn = elim c.if-is_blocked.branch [
        | then-is_blocked w ↦ turn_told c.args.bit true c.is_blocked.result x y w.if-is_blocked.true e (w.turn-is ∙ ap (λ (o : Option ℕ). let t : LastBlocked = record { prefix = c.half-at.result; old = o; inherited = c.below-comes.result } in t) w.entry-then-is_blocked.ensures)
        | else-is_blocked w ↦ turn_told c.args.bit false c.is_blocked.result x y w.if-is_blocked.false e w.turn-is
      ];
    }
