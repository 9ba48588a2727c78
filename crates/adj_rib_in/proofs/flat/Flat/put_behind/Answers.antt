use Rattle.adj_rib_in.specs.Flat.{IsLastRow}
use Rattle.adj_rib_in.proofs.Flats.{if_some}
use Rattle.adj_rib_in.proofs.flat.Flat.put_behind.Goals as goal

pub put_last-requires-clause-row : goal.put_last-requires-clause-row
put_last-requires-clause-row c = (c.args.prefix.now, if_some (IsLastRow c.row_behind.new.self.rows.items c.args.prefix.now) c.in_ok-row.field-0 c.in-Some.row c.in-Some.is c.in_ok-row.ensures.row)
