use Rattle.std.proofs.Common.{◌^◌, ◌+◌, ◌∷◌, ◌++◌, [], ap, ◌∙◌, arith}
use Rattle.std.specs.Prelude.{slice_set}
use Rattle.buddy_arena.specs.Space.{padded}
use Rattle.buddy_arena.proofs.Totals.{small_pow}
use Rattle.buddy_arena.proofs.Calls.{set_beyond, set_padded}
use Rattle.buddy_arena.proofs.arena.Arena.write.Goals as goal

pub overflow_add-index : goal.overflow_add-index
overflow_add-index g c = omega (arith, c.requires.out.within, c.requires.within, ap (λ s. 2 ^ s.order) c.self.view_is, small_pow c.self.inside.places.order c.self.invariant.3)

pub returns-then-index-len-clause-cells : goal.returns-then-index-len-clause-cells
returns-then-index-len-clause-cells g c =
    let t = c.self.inside in
    set_padded (2 ^ t.places.order) (c.args.block.now.place + c.args.at) t.fill c.args.value t.cells.items (omega (arith, c.if-index-len.true, c.len.ensures, t.cells.ok.0))
    ∙ ap (λ s. slice_set s.cells (c.args.block.now.place + c.args.at) c.args.value) c.self.view_is

pub returns-clause-cells : goal.returns-clause-cells
returns-clause-cells g c =
    let t = c.self.inside in
    ap (padded (2 ^ t.places.order) t.fill) (c.push_reserved.ensures.items ∙ ap (λ r. r ++ c.args.value ∷ []) c.fill_up.ensures.items)
    ∙ (set_beyond (2 ^ t.places.order) (c.args.block.now.place + c.args.at) t.fill c.args.value t.cells.items (omega (arith, c.if-index-len.false, c.len.ensures, t.cells.ok.0)) (omega (arith, c.requires.out.within, c.requires.within, ap (λ s. 2 ^ s.order) c.self.view_is))
    ∙ ap (λ s. slice_set s.cells (c.args.block.now.place + c.args.at) c.args.value) c.self.view_is)
