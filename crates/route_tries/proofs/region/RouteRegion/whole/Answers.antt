use Rattle.std.proofs.Common.{◌≡◌, [], length, ap, sym, ◌∙◌, arith}
use Rattle.table_model.specs.Address.{Prefix}
use Rattle.fib_addr.specs.Views.{prefix_as}
use Rattle.fib_addr.proofs.Prefixes.{prefix_length}
use Rattle.route_tries.proofs.Going.{prefix_answers}
use Rattle.route_tries.proofs.region.RouteRegion.whole.Goals as goal

pub returns-clause-bits : goal.returns-clause-bits
returns-clause-bits c =
    let none : c.whole.result.len ≡ 0 = sym (prefix_length c.whole.result) ∙ ap (λ (p : Prefix). length p.bits) c.whole.ensures in
    omega (arith, c.region.ensures.bits, none)

pub returns-clause-answers : goal.returns-clause-answers
returns-clause-answers c = prefix_answers c.region.result c.args.tree.now.family c.args.tree.now.routes (prefix_as c.whole.result).bits [] c.region.ensures.answers (ap (λ (p : Prefix). p.bits) c.whole.ensures)
