use Rattle.std.proofs.Common.{◌∙◌, ◌∷◌, sym, ap, List}
use Rattle.cert_model.specs.Right.{Item}
use Rattle.cert_check.specs.Stack.{item_as, stack_as}
use Rattle.cert_check.proofs.Stacks.{whole_empty, whole_more, whole_other}
use Rattle.cert_check.proofs.rows.whole_of.Goals as goal

pub returns-in-None : goal.returns-in-None
returns-in-None c = whole_empty c.args.family (stack_as c.args.stack.now.items) (stack_as c.pop_item.new.stack.items) c.in-None.ensures.0

pub returns-in-Some-pop_item : goal.returns-in-Some-pop_item
returns-in-Some-pop_item c =
    whole_more c.args.family (stack_as c.args.stack.now.items) (stack_as c.pop_item-in-Some.new.stack.items) (item_as c.in-Some.item) _ _
    (c.in-Some.ensures ∙ ap (λ (xs : List Item). item_as c.in-Some.item ∷ xs) c.in-Some-pop_item.ensures)

pub returns-else-is_whole : goal.returns-else-is_whole
returns-else-is_whole c =
    whole_other c.args.family (stack_as c.args.stack.now.items) (stack_as c.pop_item-in-Some.new.stack.items) (item_as c.in-Some.item)
    (c.in-Some.ensures ∙ ap (λ (xs : List Item). item_as c.in-Some.item ∷ xs) c.in-None-pop_item.ensures.0) (sym c.is_whole.ensures ∙ c.if-is_whole.false)
