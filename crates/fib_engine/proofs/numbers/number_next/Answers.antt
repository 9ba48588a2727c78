use Rattle.std.proofs.Common.{refl, ap, sym}
use Rattle.std.specs.Prelude.{is_err}
use Rattle.std.proofs.lemmas.Result.{err_from_is_err_and}
use Rattle.fib_addr.specs.Views.{addr_as}
use Rattle.fib_engine.proofs.Numbering.{full_hop, fits_hop}
use Rattle.fib_engine.proofs.numbers.number_next.Goals as goal

pub returns-in_err-own-clause-full : goal.returns-in_err-own-clause-full
returns-in_err-own-clause-full c = (
  λ e. let full = c.in_err-own.ensures.full.0 refl in full_hop c.args.hops.now.list (addr_as c.args.hop.now) full.0 full.1,
  λ over. ap is_err (err_from_is_err_and c.from_residual.result c.from_residual.ensures.1).1,
)

pub returns-clause-full : goal.returns-clause-full
returns-clause-full c = (
  λ e. absurd cc,
  λ over. c.in_ok-own.ensures.full.1 (fits_hop c.args.hops.now.list (addr_as c.args.hop.now) c.requires over),
)

pub returns-clause-own : goal.returns-clause-own
returns-clause-own c = sym c.in_ok-own.ensures.number
