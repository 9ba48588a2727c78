use Rattle.std.proofs.Common.{◌≡◌, ◌+◌, suc, ap, ◌∙◌, map, drop, arith}
use Rattle.fib_prefix.specs.Views.{elem_as}
use Rattle.router_steps.proofs.Coming.{passed}
use Rattle.router_steps.proofs.upcoming.Upcoming.pass.Goals as goal

pub returns-clause-hand : goal.returns-clause-hand
returns-clause-hand c = λ e more is. let u = c.args.self.now in let p = passed u.elems.items u.over e more is in let up : u.over + 1 ≡ suc u.over = omega arith in ap (λ n. map elem_as (drop n u.elems.items)) up ∙ p.1
