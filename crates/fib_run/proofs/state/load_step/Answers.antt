use Rattle.std.proofs.Common.{refl}
use Rattle.fib_due.specs.declared.outcome.MrtInput.TheVariants.{Dump}
use Rattle.fib_prefix.specs.Views.{elem_as}
use Rattle.fib_prefix.specs.declared.event.Elem.TheVariants.{Put}
use Rattle.fib_run.proofs.FeedPasses.{load_numbered}
use Rattle.fib_run.proofs.Steps.{loads_one, not_loaded, took_it}
use Rattle.fib_run.proofs.state.load_step.Goals as goal

pub returns-in-Ok-clause-takes : goal.returns-in-Ok-clause-takes
returns-in-Ok-clause-takes c =
    let elem = elem_as (Put c.args.via.now c.args.prefix.now c.args.path c.args.hop.now) in
    loads_one c.args.event elem c.args.state.now _ c.in-Ok.ensures.loads c.in-Ok.ensures.loading (took_it c.in-Ok.field-0 elem c.args.state.now c.in-Ok.ensures.full.1) refl refl refl refl

pub returns-in-Err-clause-takes : goal.returns-in-Err-clause-takes
returns-in-Err-clause-takes c =
    let elem = elem_as (Put c.args.via.now c.args.prefix.now c.args.path c.args.hop.now) in
    not_loaded Dump c.args.event elem c.args.state.now _ c.in-Err.error c.refusal_at.result c.refusal_at.ensures c.in-Err.ensures.full.0 c.in-Err.ensures.fits

pub returns-in-Err-clause-numbered : goal.returns-in-Err-clause-numbered
returns-in-Err-clause-numbered c = load_numbered Dump c.args.event c.in-Err.error c.refusal_at.result c.refusal_at.ensures c.requires.first c.in-Err.ensures.fits
