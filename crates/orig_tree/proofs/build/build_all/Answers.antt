use Rattle.orig_tree.specs.Arena.{cells_of}
use Rattle.orig_tree.specs.Bests.{best_in}
use Rattle.orig_tree.proofs.Building.{built_whole}
use Rattle.orig_tree.proofs.build.build_all.Goals as goal

pub returns-clause-lays : goal.returns-clause-lays
returns-clause-lays g c =
    (built_whole c.args.family c.whole-root.result c.args.nodes.now.free c.build.new.nodes.free (best_in c.args.nodes.now) (best_in c.build.new.nodes) c.whole-root.ensures (cells_of c.args.nodes.now) (cells_of c.build.new.nodes) (g.S.EntrySource.left c.args.routes.now) (g.S.EntrySource.left c.build.new.routes)
    c.requires.prefixes c.requires.bare c.requires.arena c.in_ok-build.ensures.built).0

pub returns-clause-best : goal.returns-clause-best
returns-clause-best g c =
    (built_whole c.args.family c.whole-root.result c.args.nodes.now.free c.build.new.nodes.free (best_in c.args.nodes.now) (best_in c.build.new.nodes) c.whole-root.ensures (cells_of c.args.nodes.now) (cells_of c.build.new.nodes) (g.S.EntrySource.left c.args.routes.now) (g.S.EntrySource.left c.build.new.routes)
    c.requires.prefixes c.requires.bare c.requires.arena c.in_ok-build.ensures.built).1
