use Rattle.std.proofs.Common.{ap}
use Rattle.buddy_arena.specs.Blocks.{Held}
use Rattle.poptrie_build.specs.Stands.{blank}
use Rattle.poptrie_set.proofs.Ready.{undone}
use Rattle.poptrie_set.proofs.Restored.{restored, taken_held}
use Rattle.poptrie_set.proofs.rebuilding.rebuild_or_undo.Goals as goal

pub cancel-requires-clause-held : goal.cancel-requires-clause-held
cancel-requires-clause-held g c = taken_held blank c.args.arenas.now.nodes c.rebuild-rebuilt.new.arenas.nodes c.args.arenas.now.node_blocks c.rebuild-rebuilt.new.arenas.node_blocks (ap (λ (h : Held). h.taken) c.requires.nodes_quiet) c.rebuild-rebuilt.ensures.nodes c.requires.nodes_held

pub cancel-requires-in-Err-clause-held : goal.cancel-requires-in-Err-clause-held
cancel-requires-in-Err-clause-held g c = taken_held 0 c.args.arenas.now.leaves c.rebuild-rebuilt.new.arenas.leaves c.args.arenas.now.leaf_blocks c.rebuild-rebuilt.new.arenas.leaf_blocks (ap (λ (h : Held). h.taken) c.requires.leaves_quiet) c.rebuild-rebuilt.ensures.leaves c.requires.leaves_held

pub returns-in-Err-clause-nodes_back : goal.returns-in-Err-clause-nodes_back
returns-in-Err-clause-nodes_back g c = (
  restored blank c.args.arenas.now.nodes c.rebuild-rebuilt.new.arenas.nodes c.cancel.new.arena c.args.arenas.now.node_blocks c.rebuild-rebuilt.new.arenas.node_blocks (ap (λ (h : Held). h.taken) c.requires.nodes_quiet) c.requires.nodes_sized c.rebuild-rebuilt.ensures.nodes c.cancel.ensures.gives c.cancel.ensures.sized,
  undone c.args.arenas.now.node_blocks c.rebuild-rebuilt.new.arenas.node_blocks c.cancel.new.self c.requires.nodes_quiet c.cancel.ensures.cancelled c.rebuild-rebuilt.ensures.nodes.retired c.rebuild-rebuilt.ensures.nodes.time,
)

pub returns-in-Err-clause-leaves_back : goal.returns-in-Err-clause-leaves_back
returns-in-Err-clause-leaves_back g c = (
  restored 0 c.args.arenas.now.leaves c.rebuild-rebuilt.new.arenas.leaves c.cancel-in-Err.new.arena c.args.arenas.now.leaf_blocks c.rebuild-rebuilt.new.arenas.leaf_blocks (ap (λ (h : Held). h.taken) c.requires.leaves_quiet) c.requires.leaves_sized c.rebuild-rebuilt.ensures.leaves c.cancel-in-Err.ensures.gives c.cancel-in-Err.ensures.sized,
  undone c.args.arenas.now.leaf_blocks c.rebuild-rebuilt.new.arenas.leaf_blocks c.cancel-in-Err.new.self c.requires.leaves_quiet c.cancel-in-Err.ensures.cancelled c.rebuild-rebuilt.ensures.leaves.retired c.rebuild-rebuilt.ensures.leaves.time,
)
