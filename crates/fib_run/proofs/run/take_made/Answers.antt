use Rattle.std.proofs.Common.{List, Ok, Result, Some, ap, sym}
use Rattle.printed_text.specs.Rows.{Vrp}
use Rattle.fib_due.specs.Stops.{Stop}
use Rattle.std.proofs.lemmas.Result.{err_from_is_err_and}
use Rattle.fib_due.specs.Due.{limits_of, made_named, vrps_at}
use Rattle.fib_run.proofs.Making.{made_due, made_fails, made_stops}
use Rattle.fib_due.specs.declared.outcome.Which.TheVariants as which
use Rattle.fib_run.proofs.run.take_made.Goals as goal

pub returns-in_err-fed-clause-due : goal.returns-in_err-fed-clause-due
returns-in_err-fed-clause-due c =
    let p = err_from_is_err_and c.from_residual.result c.from_residual.ensures.1 in
    rw (p.1, p.2) (made_fails c.args.made.now.routes c.args.made.now.seed _ _ (ap Some c.requires.holds.0) (ap Some c.requires.holds.1) (rw c.none.ensures at (c.in_err-fed.ensures.due c.requires.stands)))

pub returns-in_err-fed-clause-stops : goal.returns-in_err-fed-clause-stops
returns-in_err-fed-clause-stops c =
    let p = err_from_is_err_and c.from_residual.result c.from_residual.ensures.1 in
    rw (p.1, p.2) (made_stops c.args.made.now.routes c.args.made.now.seed _ c.in_err-fed.ensures.stops)

pub returns-in-Ok-clause-due : goal.returns-in-Ok-clause-due
returns-in-Ok-clause-due c =
    let both = rw c.none.ensures at (c.in_ok-fed.ensures.due c.requires.stands) in
    made_due c.args.made.now.routes c.args.made.now.seed _ both.0 _ (ap Some c.requires.holds.0) (ap Some c.requires.holds.1) both.2 (c.in-Ok.ensures (limits_of made_named) both.0.0 both.0.1 both.1)

abbrev listed : List Vrp → Result (List Vrp) Stop
listed vrps = Ok vrps

pub feed_both-requires-clause-told : goal.feed_both-requires-clause-told
unfolding vrps_at
feed_both-requires-clause-told c = ap listed (sym c.none.ensures)

pub returns-clause-stops : goal.returns-clause-stops
returns-clause-stops c = (which.Dump, tt, tt)
