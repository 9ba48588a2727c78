use Rattle.std.proofs.Common.{refl}
use Rattle.buddy_arena.proofs.Placing.{none_taken, none_left, taken}
use Rattle.path_copying.proofs.Gaining.{gains_none, gains_same, only_none, taken_gains}
use Rattle.path_copying.proofs.blocks.take_block.Goals as goal

pub returns-then-count-eq0-clause-gains : goal.returns-then-count-eq0-clause-gains
returns-then-count-eq0-clause-gains g c = λ empty. gains_none empty c.args.arena.now c.args.blocks.now c.args.blocks.now c.requires (only_none c.args.blocks.now)

pub returns-then-count-eq0-clause-takes : goal.returns-then-count-eq0-clause-takes
returns-then-count-eq0-clause-takes g c = none_taken c.args.count _ _ _ c.if-count-eq0.true

pub returns-then-count-eq0-clause-left : goal.returns-then-count-eq0-clause-left
returns-then-count-eq0-clause-left g c = none_left c.args.count _ c.if-count-eq0.true

pub returns-in_err-block-clause-gains : goal.returns-in_err-block-clause-gains
returns-in_err-block-clause-gains g c = λ empty. gains_same empty c.args.arena.now c.take.new.arena c.args.blocks.now c.take.new.self c.in_err-block.ensures.err.0 c.in_err-block.ensures.err.1 c.requires

pub returns-clause-gains : goal.returns-clause-gains
returns-clause-gains g c =
    λ empty. taken_gains empty c.args.arena.now c.take.new.arena c.args.blocks.now c.take.new.self c.in_ok-block.block.place c.in_ok-block.block.order _ c.in_ok-block.ensures.ok c.in_ok-block.ensures.out refl c.in_ok-block.ensures.left c.take.ensures.kept.1 c.take.ensures.kept.0 c.take.ensures.kept.2 c.take.ensures.sized c.in_ok-block.ensures.taken

pub returns-clause-takes : goal.returns-clause-takes
returns-clause-takes g c = taken c.args.arena.now c.take.new.arena c.in_ok-block.block.place c.in_ok-block.block.order _ c.in_ok-block.ensures.ok c.in_ok-block.ensures.out c.take.ensures.sized c.in_ok-block.ensures.size
