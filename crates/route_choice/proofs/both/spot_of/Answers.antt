use Rattle.std.proofs.Common.{subst}
use Rattle.adj_rib_in.specs.Flat.{IsRowPlace, HasNoRow}
use Rattle.adj_rib_in.proofs.Flats.{no_row_key}
use Rattle.route_choice.proofs.both.spot_of.Goals as goal

pub find_in-requires-clause-row : goal.find_in-requires-clause-row
find_in-requires-clause-row c = subst (λ p. IsRowPlace c.args.flat.now.rows.items p c.in-Some.row) c.prefix.ensures c.in-Some.ensures

pub returns-in-None : goal.returns-in-None
returns-in-None c = no_row_key c.args.flat.now c.args.key.now (subst (HasNoRow c.args.flat.now.rows.items) c.prefix.ensures c.in-None.ensures)
