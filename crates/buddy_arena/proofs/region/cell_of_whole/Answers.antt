use Rattle.std.proofs.Common.{sym, ◌∙◌}
use Rattle.buddy_arena.proofs.Steps.{whole_cell_word, whole_cell_mask, at_pow}
use Rattle.buddy_arena.proofs.region.cell_of_whole.Goals as goal

pub returns-then-height-eq0 : goal.returns-then-height-eq0
returns-then-height-eq0 c = c.ones.ensures ∙ sym (whole_cell_word c.args.base c.args.height c.if-height-eq0.true)

pub returns : goal.returns
returns c = c.whole_mask.ensures ∙ at_pow c.args.base c.args.height ∙ sym (whole_cell_mask c.args.base c.args.height c.if-height-eq0.false)
