use Rattle.std.proofs.Common.{◌-◌, refl, arith}
use Rattle.table_model.specs.declared.family.Family.TheVariants.{V4, V6}
use Rattle.step_script.specs.Script.{goes}
use Rattle.router_steps.proofs.Assembled.{leads_as}
use Rattle.router_steps.proofs.Looking.{fits_here, gone_from}
use Rattle.router_steps.proofs.stepper.Stepper.go.Goals as goal

pub go-read-requires : goal.go-read-requires
go-read-requires c = let x = c.requires.somewhere in record { fits = fits_here x.0 x.1 c.args.self.now V4 c.live.result.now c.live.ensures x.2 }

pub returns-then-number-lt64-clause-leads : goal.returns-then-number-lt64-clause-leads
returns-then-number-lt64-clause-leads c = λ w s h. leads_as w s (goes c.args.number) _ _ _ _ c.row_of_read.ensures refl (gone_from w s c.args.self.now V4 c.args.number c.args.number c.go-read.new.self h refl c.if-number-lt64.true c.live.result.now c.live.ensures c.go-read.result c.go-read.ensures.not_open c.go-read.ensures.is_open c.go-read.ensures.first c.go-read.ensures.further)

pub go-read-requires-else-number-lt64 : goal.go-read-requires-else-number-lt64
go-read-requires-else-number-lt64 c = let x = c.requires.somewhere in record { fits = fits_here x.0 x.1 c.args.self.now V6 c.live-else-number-lt64.result.now c.live-else-number-lt64.ensures x.2 }

pub returns-else-number-lt64-clause-leads : goal.returns-else-number-lt64-clause-leads
returns-else-number-lt64-clause-leads c = λ w s h. leads_as w s (goes c.args.number) _ _ _ _ c.row_of_read-else-number-lt64.ensures refl (gone_from w s c.args.self.now V6 (c.args.number - 64) c.args.number c.go-read-else-number-lt64.new.self h (omega (arith, c.if-number-lt64.false)) (omega (arith, c.requires.few, c.if-number-lt64.false)) c.live-else-number-lt64.result.now c.live-else-number-lt64.ensures c.go-read-else-number-lt64.result c.go-read-else-number-lt64.ensures.not_open c.go-read-else-number-lt64.ensures.is_open c.go-read-else-number-lt64.ensures.first c.go-read-else-number-lt64.ensures.further)
