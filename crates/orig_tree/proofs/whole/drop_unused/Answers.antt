use Rattle.std.proofs.Common.{ℕ, sym, subst}
use Rattle.orig_tree.specs.Bests.{best_in, KeepsBest}
use Rattle.orig_tree.specs.declared.best.Best.{Best}
use Rattle.orig_tree.proofs.Stores.{kept_is}
use Rattle.orig_tree.specs.Arena.{cells_of}
use Rattle.table_model.specs.Bits.{bits_of}
use Rattle.orig_tree.proofs.Roots.{trim_whole}
use Rattle.orig_tree.proofs.whole.drop_unused.Goals as goal

pub returns-clause-routes : goal.returns-clause-routes
returns-clause-routes c = (trim_whole c.args.family (bits_of c.args.path.left c.args.path.bits) c.width.result c.args.nodes.now.free c.trim.new.nodes.free (cells_of c.args.nodes.now) (cells_of c.trim.new.nodes) c.trim.result c.width.ensures c.requires.arena c.trim.ensures.trimmed).0

pub returns-clause-entries : goal.returns-clause-entries
returns-clause-entries c = (trim_whole c.args.family (bits_of c.args.path.left c.args.path.bits) c.width.result c.args.nodes.now.free c.trim.new.nodes.free (cells_of c.args.nodes.now) (cells_of c.trim.new.nodes) c.trim.result c.width.ensures c.requires.arena c.trim.ensures.trimmed).1

pub returns-clause-trimmed : goal.returns-clause-trimmed
returns-clause-trimmed c = (trim_whole c.args.family (bits_of c.args.path.left c.args.path.bits) c.width.result c.args.nodes.now.free c.trim.new.nodes.free (cells_of c.args.nodes.now) (cells_of c.trim.new.nodes) c.trim.result c.width.ensures c.requires.arena c.trim.ensures.trimmed).2

pub returns-clause-arena : goal.returns-clause-arena
returns-clause-arena c = (trim_whole c.args.family (bits_of c.args.path.left c.args.path.bits) c.width.result c.args.nodes.now.free c.trim.new.nodes.free (cells_of c.args.nodes.now) (cells_of c.trim.new.nodes) c.trim.result c.width.ensures c.requires.arena c.trim.ensures.trimmed).3

pub returns-clause-best : goal.returns-clause-best
returns-clause-best c = λ k. subst (λ (K : ℕ → Best). KeepsBest c.args.family (cells_of c.trim.new.nodes) K) (sym (kept_is c.args.nodes.now c.trim.new.nodes c.trim.ensures.kept)) ((trim_whole c.args.family (bits_of c.args.path.left c.args.path.bits) c.width.result c.args.nodes.now.free c.trim.new.nodes.free (cells_of c.args.nodes.now) (cells_of c.trim.new.nodes) c.trim.result c.width.ensures c.requires.arena c.trim.ensures.trimmed).4 (best_in c.args.nodes.now) k)
