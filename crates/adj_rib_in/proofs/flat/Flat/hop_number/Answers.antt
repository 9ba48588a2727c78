use Rattle.adj_rib_in.proofs.Flats.{hop_told, no_number_told}
use Rattle.adj_rib_in.proofs.flat.Flat.hop_number.Goals as goal

pub returns-in_err-at-clause-none : goal.returns-in_err-at-clause-none
returns-in_err-at-clause-none c = no_number_told c.args.hop.now _ c.in_err-at.ensures.index c.from_residual.result

pub returns-clause-number : goal.returns-clause-number
returns-clause-number c = hop_told c.args.hop.now _ c.in_ok-at.at c.in_ok-at.ensures.index
