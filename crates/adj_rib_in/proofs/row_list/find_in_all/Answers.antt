use Rattle.std.proofs.Common.{ap}
use Rattle.adj_rib_in.specs.declared.rows.Row.{Row}
use Rattle.adj_rib_in.proofs.RowLists.{found, none_found}
use Rattle.adj_rib_in.proofs.row_list.find_in_all.Goals as goal

pub returns-in-Ok : goal.returns-in-Ok
returns-in-Ok c = found c.args.rows.now c.new.result c.args.prefix.now (ap (λ (r : Row). r.prefix) c.new.ensures) c.in-Ok.at c.in-Ok.ensures.bound c.in-Ok.ensures.position

pub returns-in-Err : goal.returns-in-Err
returns-in-Err c = none_found c.args.rows.now c.new.result c.args.prefix.now (ap (λ (r : Row). r.prefix) c.new.ensures) c.in-Err.field-0 c.requires c.in-Err.ensures.position
