use Rattle.std.proofs.Common.{ℕ, subst, sym}
use Rattle.orig_tree.specs.Arena.{cells_of, IsArena}
use Rattle.orig_tree.proofs.Roots.{one_node}
use Rattle.orig_tree.proofs.whole.empty.Goals as goal

pub returns-clause-arena : goal.returns-clause-arena
returns-clause-arena c = subst (λ (x : ℕ). IsArena c.args.family (cells_of c.root_alone.result) x) (sym c.root_alone.ensures.free) (one_node c.args.family (cells_of c.root_alone.result) c.root_alone.ensures.cells).1

pub returns-clause-bare : goal.returns-clause-bare
returns-clause-bare c = (one_node c.args.family (cells_of c.root_alone.result) c.root_alone.ensures.cells).0
