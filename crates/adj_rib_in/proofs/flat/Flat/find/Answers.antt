use Rattle.std.proofs.Common.{subst}
use Rattle.adj_rib_in.specs.Flat.{HasNoRow, IsRowPlace}
use Rattle.adj_rib_in.proofs.Flats.{no_row_key, no_key}
use Rattle.adj_rib_in.proofs.flat.Flat.find.Goals as goal

pub returns-in_err-row : goal.returns-in_err-row
returns-in_err-row c = no_key c.args.self.now c.args.key.now (no_row_key c.args.self.now c.args.key.now (subst (HasNoRow c.args.self.now.rows.items) c.prefix.ensures c.in_err-row.ensures)) c.from_residual.result c.from_residual.ensures

pub find_in-requires-clause-row : goal.find_in-requires-clause-row
find_in-requires-clause-row c = subst (λ p. IsRowPlace c.args.self.now.rows.items p c.in_ok-row.row) c.prefix.ensures c.in_ok-row.ensures
