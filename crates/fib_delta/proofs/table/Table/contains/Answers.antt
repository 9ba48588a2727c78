use Rattle.std.proofs.Common.{ap, ◌∙◌}
use Rattle.table_model.specs.Entries.{Entries}
use Rattle.table_model.specs.Changes.{is_held}
use Rattle.fib_addr.specs.Views.{prefix_as}
use Rattle.fib_delta.proofs.Held.{contains_is}
use Rattle.fib_delta.proofs.table.Table.contains.Goals as goal

pub returns : goal.returns
returns c = c.contains_key.ensures ∙ (contains_is c.args.prefix.now c.self.inside.held.entries ∙ ap (λ (L : Entries). is_held (prefix_as c.args.prefix.now) L) c.self.view_is)
