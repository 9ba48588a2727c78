use Rattle.std.proofs.Common.{ℕ, ap, ◌∙◌}
use Rattle.std.specs.Ordering.{nat_cmp, ordering_then}
use Rattle.table_model.specs.Order.{prefix_cmp}
use Rattle.fib_addr.specs.Views.{prefix_as}
use Rattle.kept_model.specs.Turns.{turn_of}
use Rattle.fib_delta.proofs.Turned.{set_is, added}
use Rattle.fib_delta.proofs.turns.compare_added.Goals as goal

pub returns : goal.returns
returns c =
    let a = c.args.a.now in
    let b = c.args.b.now in
    c.then_prefixes.ensures
    ∙ ap (λ o. ordering_then o (prefix_cmp (prefix_as a.prefix) (prefix_as b.prefix)))
    (c.cmp-turns.ensures ∙ (ap (λ (n : ℕ). nat_cmp n c.set_turn-2.result) (c.set_turn.ensures ∙ set_is a.prefix) ∙ ap (nat_cmp (turn_of (added a))) (c.set_turn-2.ensures ∙ set_is b.prefix)))
