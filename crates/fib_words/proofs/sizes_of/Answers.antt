use Rattle.std.proofs.Common.{◌∙◌, ap}
use Rattle.std.specs.Prelude.{option_map}
use Rattle.fib_words.specs.Commands.{named_sizes_as}
use Rattle.fib_words.proofs.Words.{no_direct, no_nodes, no_leaves, all_sizes}
use Rattle.fib_words.proofs.sizes_of.Goals as goal

pub returns-in_err-direct-clause-same : goal.returns-in_err-direct-clause-same
returns-in_err-direct-clause-same c =
    ap (option_map named_sizes_as) c.from_residual.ensures ∙ no_direct _ _ c.get_str.ensures c.in_err-direct.ensures.same

pub returns-in_err-nodes-clause-same : goal.returns-in_err-nodes-clause-same
returns-in_err-nodes-clause-same c =
    ap (option_map named_sizes_as) c.from_residual-in_err-nodes.ensures
    ∙ no_nodes _ _ _ _ c.get_str.ensures c.in_ok-direct.ensures.same c.get_str-2.ensures c.in_err-nodes.ensures.same

pub returns-in_err-leaves-clause-same : goal.returns-in_err-leaves-clause-same
returns-in_err-leaves-clause-same c =
    ap (option_map named_sizes_as) c.from_residual-in_err-leaves.ensures
    ∙ no_leaves _ _ _ _ _ _ c.get_str.ensures c.in_ok-direct.ensures.same c.get_str-2.ensures c.in_ok-nodes.ensures.same c.get_str-3.ensures c.in_err-leaves.ensures.same

pub returns-clause-same : goal.returns-clause-same
returns-clause-same c =
    all_sizes _ _ _ _ _ _ _ c.get_str.ensures c.in_ok-direct.ensures.same c.get_str-2.ensures c.in_ok-nodes.ensures.same c.get_str-3.ensures c.in_ok-leaves.ensures.same
