use Rattle.std.proofs.Common.{ap, ◌∙◌}
use Rattle.std.specs.Map.{remove_entry}
use Rattle.table_model.specs.Address.{same_prefix}
use Rattle.table_model.specs.Entries.{Entries}
use Rattle.fib_addr.specs.Views.{prefix_as}
use Rattle.fib_delta.specs.Views.{held_as}
use Rattle.fib_delta.proofs.Held.{take_is}
use Rattle.fib_delta.proofs.table.Table.take.Goals as goal

pub returns : goal.returns
returns c = ap held_as c.remove.ensures.entries ∙ (take_is c.args.prefix.now c.self.inside.held.entries ∙ ap (λ (L : Entries). remove_entry (same_prefix (prefix_as c.args.prefix.now)) L) c.self.view_is)
