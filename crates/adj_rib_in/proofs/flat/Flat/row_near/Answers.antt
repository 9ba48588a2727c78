use Rattle.std.proofs.Common.{sym, ◌∙◌}
use Rattle.adj_rib_in.proofs.Gathers.{near_row}
use Rattle.adj_rib_in.proofs.flat.Flat.row_near.Goals as goal

pub returns-then-eq : goal.returns-then-eq
returns-then-eq c = near_row c.args.self.now.rows.items c.args.near c.args.prefix.now c.in-Some.held c.eq.result (sym c.in-Some.is ∙ c.prefix_of.ensures) c.eq.ensures c.if-eq.true
