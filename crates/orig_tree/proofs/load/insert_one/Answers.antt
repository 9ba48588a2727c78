use Rattle.std.proofs.Common.{sym, ◌∙◌}
use Rattle.fib_addr.specs.Views.{entry_as}
use Rattle.orig_tree.specs.Arena.{cells_of}
use Rattle.orig_tree.specs.Bests.{best_in}
use Rattle.orig_tree.proofs.Loading.{lays_other, lays_one}
use Rattle.orig_tree.proofs.load.insert_one.Goals as goal

pub returns-then-not-is_of : goal.returns-then-not-is_of
returns-then-not-is_of c = λ rest. lays_other c.args.family c.args.label (cells_of c.args.nodes.now) c.args.nodes.now.free (best_in c.args.nodes.now) (entry_as c.args.entry.now) rest (sym c.is_of.ensures ∙ c.if-not-is_of.true) c.requires.arena c.requires.order

pub returns : goal.returns
returns c = λ rest.
    lays_one c.args.family c.args.label c.path_bits.result c.args.entry.now (cells_of c.args.nodes.now) (cells_of c.set_label.new.nodes) c.args.nodes.now.free c.set_label.new.nodes.free (best_in c.args.nodes.now) (best_in c.set_label.new.nodes) c.in_ok-set_label.field-0 rest
    (sym c.is_of.ensures ∙ c.if-not-is_of.false) c.path_bits.ensures c.requires.arena c.requires.order c.in_ok-set_label.ensures.made
