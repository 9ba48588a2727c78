use Rattle.std.proofs.Common.{subst}
use Rattle.table_model.specs.Entries.{Entries}
use Rattle.fib_delta.specs.Views.{InPlace}
use Rattle.fib_delta.proofs.Held.{in_place}
use Rattle.fib_delta.proofs.table.Table.entries.Goals as goal

pub returns-in_err-entries-clause-order : goal.returns-in_err-entries-clause-order
returns-in_err-entries-clause-order c = subst (λ (L : Entries). InPlace L) c.self.view_is (in_place c.self.inside.held.entries c.len.ensures.ordered)

pub returns-in_err-push-clause-order : goal.returns-in_err-push-clause-order
returns-in_err-push-clause-order c = subst (λ (L : Entries). InPlace L) c.self.view_is (in_place c.self.inside.held.entries c.len.ensures.ordered)

pub returns-clause-order : goal.returns-clause-order
returns-clause-order c = subst (λ (L : Entries). InPlace L) c.self.view_is (in_place c.self.inside.held.entries c.len.ensures.ordered)
