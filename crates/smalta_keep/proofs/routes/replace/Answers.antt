use Rattle.std.proofs.Common.{sym, ◌∙◌}
use Rattle.fib_addr.specs.Views.{prefix_as}
use Rattle.fib_delta.proofs.Held.{is_prefix}
use Rattle.smalta_keep.proofs.Making.{back_again}
use Rattle.smalta_keep.proofs.routes.replace.Goals as goal

pub returns-clause-former : goal.returns-clause-former
returns-clause-former c = record {
  family = c.requires ∙ sym c.exchange.ensures.keeps.family;
  routes = back_again (prefix_as c.args.prefix.now) c.args.hop.0 _ c.exchange.new.tree.routes _ (is_prefix c.args.prefix.now) c.exchange.ensures.order c.in_ok-had.ensures.former c.in_ok-had.ensures.routes;
  before = c.in_ok-had.ensures.before;
}
