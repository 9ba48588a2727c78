use Rattle.buddy_arena.proofs.Steps.{made_whole, some_masks}
use Rattle.buddy_arena.proofs.region.make_whole.Goals as goal

pub bounds-s-0 : goal.bounds-s-0
bounds-s-0 c = some_masks c.args.base c.args.height c.args.s.now c.requires.right

pub returns-clause-right : goal.returns-clause-right
returns-clause-right c = (made_whole c.args.base c.args.height c.cell_of_whole.result c.args.s.now c.requires.right c.requires.bare c.cell_of_whole.ensures).0

pub returns-clause-root : goal.returns-clause-root
returns-clause-root c = (made_whole c.args.base c.args.height c.cell_of_whole.result c.args.s.now c.requires.right c.requires.bare c.cell_of_whole.ensures).1

pub returns-clause-free : goal.returns-clause-free
returns-clause-free c = (made_whole c.args.base c.args.height c.cell_of_whole.result c.args.s.now c.requires.right c.requires.bare c.cell_of_whole.ensures).2
