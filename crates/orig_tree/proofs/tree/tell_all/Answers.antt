use Rattle.orig_tree.specs.Arena.{cells_of}
use Rattle.orig_tree.proofs.Roots.{told_root}
use Rattle.orig_tree.proofs.tree.tell_all.Goals as goal

pub returns-clause-takes : goal.returns-clause-takes
returns-clause-takes g c = told_root g.S.EntrySink.takes c.args.family c.whole.result (cells_of c.args.nodes.now) c.args.label c.args.out.now c.tell.new.out c.whole.ensures c.requires.fits c.in_ok-tell.ensures.takes
