use Rattle.std.proofs.Common.{arith}
use Rattle.adj_rib_in.proofs.Packs.{row_halves}
use Rattle.adj_rib_in.proofs.rows.Row.new.Goals as goal

pub returns : goal.returns
returns c = row_halves c.args.prefix.now c.args.off _ (omega arith) _ _ _
