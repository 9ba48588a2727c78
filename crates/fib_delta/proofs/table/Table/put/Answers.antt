use Rattle.std.proofs.Common.{ap, ◌∙◌}
use Rattle.std.specs.Prelude.{is_some}
use Rattle.table_model.specs.Entries.{Entries, with_entry}
use Rattle.table_model.specs.Changes.{is_held}
use Rattle.fib_addr.specs.Views.{prefix_as, entry_as}
use Rattle.fib_delta.specs.Views.{held_as}
use Rattle.fib_delta.proofs.Held.{contains_is, put_is}
use Rattle.fib_delta.proofs.table.Table.put.Goals as goal

pub returns-in_err-insert-clause-held : goal.returns-in_err-insert-clause-held
returns-in_err-insert-clause-held c = λ h.
    let e = c.args.entry.now in
    let held = contains_is e.prefix c.self.inside.held.entries ∙ (ap (λ (L : Entries). is_held (prefix_as e.prefix) L) c.self.view_is ∙ h) in
    let none = ap is_some c.in_err-insert.ensures.absent in
    absurd cc

pub returns-clause-ok : goal.returns-clause-ok
returns-clause-ok c =
    let e = c.args.entry.now in
    ap held_as c.in_ok-insert.ensures.entries ∙ (put_is e.prefix e.hop c.self.inside.held.entries ∙ ap (λ (L : Entries). with_entry L (entry_as e)) c.self.view_is)
