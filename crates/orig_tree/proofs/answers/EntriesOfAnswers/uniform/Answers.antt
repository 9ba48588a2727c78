use Rattle.table_model.proofs.Sums.{in_order_again}
use Rattle.orig_tree.proofs.answers.EntriesOfAnswers.uniform.Goals as goal

pub returns-clause-one : goal.returns-clause-one
returns-clause-one c = rw (in_order_again c.args.self.now.0.now.entries c.uniform_entry.ensures.order.1) c.uniform_entry.ensures.one

pub returns-clause-differ : goal.returns-clause-differ
returns-clause-differ c = rw (in_order_again c.args.self.now.0.now.entries c.uniform_entry.ensures.order.1) c.uniform_entry.ensures.differ
