use Rattle.std.proofs.Common.{ap, refl}
use Rattle.adj_rib_in.specs.declared.rows.Row.{Row}
use Rattle.adj_rib_in.proofs.RowLists.{near_found}
use Rattle.adj_rib_in.proofs.row_list.find_within.Goals as goal

pub returns-in-Ok : goal.returns-in-Ok
returns-in-Ok c = near_found c.args.rows.now _ c.args.range.from c.args.range.to c.new.result c.args.prefix.now (ap (λ (r : Row). r.prefix) c.new.ensures) refl c.in-Ok.at c.in-Ok.ensures.bound c.in-Ok.ensures.position
