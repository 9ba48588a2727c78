use Rattle.orig_tree.specs.Arena.{cells_of}
use Rattle.orig_tree.specs.declared.node.Label.TheVariants.{Entry}
use Rattle.orig_tree.proofs.Roots.{set_whole}
use Rattle.orig_tree.proofs.whole.change.Goals as goal

pub returns-clause-arena : goal.returns-clause-arena
returns-clause-arena c = (set_whole c.args.family Entry c.args.path.bits c.args.path.left c.args.nodes.now.free c.assign.new.nodes.free c.args.hop (cells_of c.args.nodes.now) (cells_of c.assign.new.nodes) c.requires.few c.assign.ensures.free c.requires.arena c.requires.allowed c.assign.ensures.set).1

pub returns-clause-walks : goal.returns-clause-walks
returns-clause-walks c = (set_whole c.args.family Entry c.args.path.bits c.args.path.left c.args.nodes.now.free c.assign.new.nodes.free c.args.hop (cells_of c.args.nodes.now) (cells_of c.assign.new.nodes) c.requires.few c.assign.ensures.free c.requires.arena c.requires.allowed c.assign.ensures.set).0
