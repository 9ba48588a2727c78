use Rattle.std.proofs.Common.{◌≡◌, ◌∙◌, ℕ, ◌+◌, List, [], ◌∷◌, ◌++◌, ap, refl, eq-eqb}
use Rattle.table_model.specs.Address.{Prefix as ModelPrefix}
use Rattle.table_model.specs.Sets.{common, one_if_empty, or_else, joint}
use Rattle.cert_model.specs.Right.{join_item, joint_k}
use Rattle.cert_model.specs.Right.{Item as ModelItem}
use Rattle.fib_addr.specs.Views.{prefix_as}
use Rattle.cert_check.specs.Stack.{item_as, stack_as}
use Rattle.cert_check.specs.declared.rows.Item.{Item}
use Rattle.cert_check.proofs.Stacks.{push_as}
use Rattle.cert_check.proofs.rows.join_items.Goals as goal

-- the region was put on top, with its hops and its k
put_joined : (p : ModelPrefix) (low high : ModelItem) (hops : List ℕ) (k : ℕ) (old new : List Item) (x : Item) → new ≡ old ++ x ∷ [] → item_as x ≡ record { prefix = p; hops = hops; k = k }
    → hops ≡ joint low.hops high.hops → k ≡ joint_k low high → stack_as new ≡ join_item p low high ∷ stack_as old
put_joined p low high hops k old new x put is set sum =
    ap stack_as put ∙ (push_as old x ∙ ap (λ (i : ModelItem). i ∷ stack_as old)
    (is ∙ (ap (λ (hs : List ℕ). let i : ModelItem = record { prefix = p; hops = hs; k = k } in i) set ∙ ap (λ (n : ℕ). let i : ModelItem = record { prefix = p; hops = joint low.hops high.hops; k = n } in i) sum)))

pub returns : goal.returns
returns c =
    let low = item_as c.args.halves.low in
    let high = item_as c.args.halves.high in
    let both : c.in_ok-common.common.items ≡ common low.hops high.hops =
    c.in_ok-common.ensures.common ∙ (ap (λ S. common S c.deref-2.result.now) c.deref.ensures ∙ ap (common low.hops) c.deref-2.ensures)
    in
    let sum : low.k + high.k + c.one_if_none.result ≡ joint_k low high = ap (λ n. low.k + high.k + n) (c.one_if_none.ensures ∙ ap one_if_empty (c.deref-3.ensures ∙ both)) in
    let set : c.in_ok-hops.hops.items ≡ joint low.hops high.hops =
    c.in_ok-hops.ensures ∙ (ap (λ S. or_else S (low.hops ++ c.deref-4.result.now)) both ∙ ap (λ S. or_else (common low.hops high.hops) (low.hops ++ S)) c.deref-4.ensures)
    in
    record {
      marks = c.common_hops.ensures.marks;
      done = (eq-eqb c.args.said (joint_k low high) (c.if-said-due.false ∙ sum), put_joined (prefix_as c.args.prefix.now) low high _ _ _ _ _ c.in_ok-push.ensures.items refl set sum);
    }
