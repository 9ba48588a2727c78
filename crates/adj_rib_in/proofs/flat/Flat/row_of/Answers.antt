use Rattle.std.proofs.Common.{subst, rules}
use Rattle.adj_rib_in.specs.Flat.{IsRowPlace}
use Rattle.adj_rib_in.proofs.Flats.{behind_none}
use Rattle.adj_rib_in.proofs.flat.Flat.row_of.Goals as goal

pub returns-in-Less : goal.returns-in-Less
returns-in-Less c = behind_none c.args.self.now.rows.items c.args.prefix.now (c.order_last.ensures.less c.in-Less.is)

pub returns-in-Equal : goal.returns-in-Equal
returns-in-Equal c = subst (IsRowPlace c.args.self.now.rows.items c.args.prefix.now) (search rules) (c.order_last.ensures.equal c.in-Equal.is).0
