use Rattle.std.proofs.Common.{refl, ap}
use Rattle.std.specs.Prelude.{is_err}
use Rattle.std.proofs.lemmas.Result.{err_from_is_err_and}
use Rattle.fib_engine.proofs.Numbering.{full_put, fits_put, new_put}
use Rattle.fib_engine.proofs.numbers.number_put.Goals as goal

pub returns-in_err-next-in-Put-clause-full : goal.returns-in_err-next-in-Put-clause-full
returns-in_err-next-in-Put-clause-full c = (
  λ e. full_put c.args.hops.now.list c.args.elem.now c.in-Put.field-0 c.in-Put.field-1 c.in-Put.field-2 c.in-Put.hop c.in-Put.is (c.in_err-next-in-Put.ensures.full.0 refl),
  λ over. ap is_err (err_from_is_err_and c.from_residual.result c.from_residual.ensures.1).1,
)

pub returns-in_ok-next-in-Put-clause-full : goal.returns-in_ok-next-in-Put-clause-full
returns-in_ok-next-in-Put-clause-full c = (
  λ e. absurd cc,
  λ over. c.in_ok-next-in-Put.ensures.full.1 (fits_put c.args.hops.now.list c.args.elem.now c.in-Put.field-0 c.in-Put.field-1 c.in-Put.field-2 c.in-Put.hop c.in-Put.is c.requires over),
)

pub returns-in_ok-next-in-Put-clause-number : goal.returns-in_ok-next-in-Put-clause-number
returns-in_ok-next-in-Put-clause-number c = new_put c.args.hops.now.list c.args.elem.now c.in-Put.field-0 c.in-Put.field-1 c.in-Put.field-2 c.in-Put.hop c.in_ok-next-in-Put.field-0 c.in-Put.is c.in_ok-next-in-Put.ensures.number
