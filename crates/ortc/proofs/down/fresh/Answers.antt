use Rattle.std.proofs.Common.{◌++◌, map, ap, ◌∙◌}
use Rattle.fib_addr.specs.Views.{entry_as}
use Rattle.cert_model.specs.Views.{row_as}
use Rattle.cert_model.specs.Rows.{family_rows}
use Rattle.ortc.proofs.Proving.{certified}
use Rattle.ortc.proofs.down.fresh.Goals as goal

pub returns-clause-proof : goal.returns-clause-proof
returns-clause-proof c = c.in_ok-certify.ensures.takes ∙ ap (λ xs. map row_as xs ++ family_rows c.args.tree.now.family c.args.tree.now.routes) c.new-proof.ensures.items

pub returns-clause-certificate : goal.returns-clause-certificate
returns-clause-certificate c = certified c.args.tree.now.family c.args.tree.now.routes (map entry_as c.in_ok-table.table.items) (map row_as c.certify.new.out.items) (returns-clause-proof c) c.in_ok-table.ensures.least
