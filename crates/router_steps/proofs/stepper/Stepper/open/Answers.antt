use Rattle.std.proofs.Common.{refl, sym, ◌∙◌}
use Rattle.table_model.specs.declared.family.Family.TheVariants.{V4, V6}
use Rattle.fib_addr.specs.Views.{addr_as}
use Rattle.step_script.specs.Script.{opens}
use Rattle.router_steps.proofs.Assembled.{leads_as}
use Rattle.router_steps.proofs.Looking.{family_here, few_numbers, opened_from}
use Rattle.router_steps.proofs.stepper.Stepper.open.Goals as goal

pub start-opened-requires : goal.start-opened-requires
start-opened-requires c = let x = c.requires in record { family = c.in-V4.is ∙ sym (family_here x.0 x.1 c.args.self.now V4 c.live.result.now c.live.ensures x.2) }

pub row_of_open-requires : goal.row_of_open-requires
row_of_open-requires c = few_numbers c.start-opened.result _ _ _ _ c.start-opened.ensures.started

pub returns-in-V4-clause-leads : goal.returns-in-V4-clause-leads
returns-in-V4-clause-leads c = λ w s h. leads_as w s (opens (addr_as c.args.addr.now)) _ _ _ _ c.row_of_open.ensures refl (opened_from w s c.args.self.now V4 c.args.addr.now c.start-opened.new.self c.start-opened.result c.live.result.now c.live.ensures c.in-V4.is c.start-opened.ensures.fits c.start-opened.ensures.started c.start-opened.ensures.full h)

pub start-opened-requires-in-V6 : goal.start-opened-requires-in-V6
start-opened-requires-in-V6 c = let x = c.requires in record { family = c.in-V6.is ∙ sym (family_here x.0 x.1 c.args.self.now V6 c.live-in-V6.result.now c.live-in-V6.ensures x.2) }

pub row_of_open-requires-in-V6 : goal.row_of_open-requires-in-V6
row_of_open-requires-in-V6 c = few_numbers c.start-opened-in-V6.result _ _ _ _ c.start-opened-in-V6.ensures.started

pub returns-in-V6-clause-leads : goal.returns-in-V6-clause-leads
returns-in-V6-clause-leads c = λ w s h. leads_as w s (opens (addr_as c.args.addr.now)) _ _ _ _ c.row_of_open-in-V6.ensures refl (opened_from w s c.args.self.now V6 c.args.addr.now c.start-opened-in-V6.new.self c.start-opened-in-V6.result c.live-in-V6.result.now c.live-in-V6.ensures c.in-V6.is c.start-opened-in-V6.ensures.fits c.start-opened-in-V6.ensures.started c.start-opened-in-V6.ensures.full h)
