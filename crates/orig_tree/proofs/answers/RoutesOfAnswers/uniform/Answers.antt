use Rattle.table_model.proofs.Sums.{in_order_again}
use Rattle.orig_tree.proofs.answers.RoutesOfAnswers.uniform.Goals as goal

pub returns-clause-one : goal.returns-clause-one
returns-clause-one c = rw (in_order_again c.args.self.now.0.now.routes c.uniform_route.ensures.order.1) c.uniform_route.ensures.one

pub returns-clause-differ : goal.returns-clause-differ
returns-clause-differ c = rw (in_order_again c.args.self.now.0.now.routes c.uniform_route.ensures.order.1) c.uniform_route.ensures.differ
