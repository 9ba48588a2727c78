use Rattle.std.proofs.Common.{◌≡◌, ◌∙◌, sym, refl, ap, ◌++◌, ◌∷◌, [], List, ℕ, arith}
use Rattle.cert_model.specs.Right.{Item}
use Rattle.fib_addr.specs.Views.{prefix_as}
use Rattle.cert_check.proofs.Stacks.{push_as}
use Rattle.cert_check.specs.Stack.{stack_as, leaf_weight}
use Rattle.cert_check.proofs.rows.read_leaf.Goals as goal

pub returns-then-not-holds-clause-read : goal.returns-then-not-holds-clause-read
returns-then-not-holds-clause-read c = λ R t. (sym (c.holds.ensures R (c.of.ensures.tells R t)) ∙ c.if-not-holds.true, refl)

pub returns-clause-weight : goal.returns-clause-weight
returns-clause-weight c = λ e.
    let grown : stack_as c.push-2.new.self.items ≡ _ = ap stack_as c.in_ok-push-2.ensures.items ∙ push_as c.args.stack.now.items _ in
    omega (arith, ap leaf_weight grown)

pub returns-clause-read : goal.returns-clause-read
returns-clause-read c = λ R t. (
  sym (c.holds.ensures R (c.of.ensures.tells R t)) ∙ c.if-not-holds.false,
  ap stack_as c.in_ok-push-2.ensures.items ∙ (push_as c.args.stack.now.items _
      ∙ ap (λ (xs : List ℕ). let i : Item = record { prefix = prefix_as c.args.prefix.now; hops = xs; k = 0 } in i ∷ stack_as c.args.stack.now.items) (c.in_ok-push.ensures.ok ∙ ap (λ (xs : List ℕ). xs ++ c.args.hop.0 ∷ []) c.new-hops.ensures.items)),
)
