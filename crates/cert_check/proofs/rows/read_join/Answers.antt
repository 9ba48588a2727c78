use Rattle.std.proofs.Common.{◌∙◌, ◌∷◌, sym, ap, List}
use Rattle.std.proofs.lemmas.Result.{IfOk-weaker}
use Rattle.std.specs.Prelude.{option_map}
use Rattle.cert_model.specs.Right.{Item}
use Rattle.fib_addr.specs.Views.{prefix_as}
use Rattle.cert_check.specs.Views.{no_as}
use Rattle.cert_check.specs.Stack.{item_as, stack_as}
use Rattle.cert_check.proofs.Stacks.{join_empty, join_single, join_apart, join_done}
use Rattle.cert_check.proofs.rows.read_join.Goals as goal

pub returns-in-None-clause-read : goal.returns-in-None-clause-read
returns-in-None-clause-read c = join_empty (prefix_as c.args.prefix.now) c.args.said c.args.row (stack_as c.args.stack.now.items) (stack_as c.pop_item.new.stack.items) c.in-None.ensures.0

pub returns-in-None-pop_item-clause-read : goal.returns-in-None-pop_item-clause-read
returns-in-None-pop_item-clause-read c =
    join_single (prefix_as c.args.prefix.now) c.args.said c.args.row (stack_as c.args.stack.now.items) (stack_as c.pop_item-in-Some.new.stack.items) (item_as c.in-Some.high)
    (c.in-Some.ensures ∙ ap (λ (xs : List Item). item_as c.in-Some.high ∷ xs) c.in-None-pop_item.ensures.0)

pub returns-then-are_halves-clause-read : goal.returns-then-are_halves-clause-read
returns-then-are_halves-clause-read c =
    IfOk-weaker c.join_items.result _ _
    (λ no d. join_done (prefix_as c.args.prefix.now) c.args.said c.args.row (stack_as c.args.stack.now.items) (stack_as c.join_items.new.stack.items) (item_as c.in-Some-pop_item.low) (item_as c.in-Some.high)
    (stack_as c.pop_item-in-Some.new.stack.items) (option_map no_as no) (c.in-Some.ensures ∙ ap (λ (xs : List Item). item_as c.in-Some.high ∷ xs) c.in-Some-pop_item.ensures) (sym c.are_halves.ensures ∙ c.if-are_halves.true) d)
    c.join_items.ensures.done

pub returns-else-are_halves-clause-read : goal.returns-else-are_halves-clause-read
returns-else-are_halves-clause-read c =
    join_apart (prefix_as c.args.prefix.now) c.args.said c.args.row (stack_as c.args.stack.now.items) (stack_as c.pop_item-in-Some.new.stack.items) (item_as c.in-Some-pop_item.low) (item_as c.in-Some.high)
    (stack_as c.pop_item-in-Some.new.stack.items) (c.in-Some.ensures ∙ ap (λ (xs : List Item). item_as c.in-Some.high ∷ xs) c.in-Some-pop_item.ensures) (sym c.are_halves.ensures ∙ c.if-are_halves.false)
