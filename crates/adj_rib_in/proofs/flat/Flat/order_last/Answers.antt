use Rattle.std.proofs.Common.{ap, sym, ◌∙◌}
use Rattle.fib_addr.specs.Order.{code_cmp}
use Rattle.adj_rib_in.proofs.Flats.{all_behind, last_row, none_behind}
use Rattle.adj_rib_in.proofs.flat.Flat.order_last.Goals as goal

pub returns-in-Some-clause-less : goal.returns-in-Some-clause-less
returns-in-Some-clause-less c = λ e. all_behind c.args.self.now c.args.prefix.now c.in-Some.last c.requires (sym c.last.ensures ∙ c.in-Some.is) (ap (λ p. code_cmp p c.args.prefix.now) (sym c.prefix.ensures) ∙ (sym c.cmp.ensures ∙ e))

pub returns-in-Some-clause-equal : goal.returns-in-Some-clause-equal
returns-in-Some-clause-equal c = λ e. last_row c.args.self.now.rows.items c.args.prefix.now c.in-Some.last (sym c.last.ensures ∙ c.in-Some.is) (ap (λ p. code_cmp p c.args.prefix.now) (sym c.prefix.ensures) ∙ (sym c.cmp.ensures ∙ e))

pub returns-in-None-clause-less : goal.returns-in-None-clause-less
returns-in-None-clause-less c = λ e. none_behind c.args.self.now.rows.items c.args.prefix.now (sym c.last.ensures ∙ c.in-None.is)
