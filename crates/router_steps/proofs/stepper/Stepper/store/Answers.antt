use Rattle.std.proofs.Common.{sym, ◌∙◌}
use Rattle.step_script.specs.Script.{stores}
use Rattle.router_steps.proofs.Assembled.{as_begun, event_of, leads_as}
use Rattle.router_steps.proofs.Events.{stored_by}
use Rattle.router_steps.proofs.stepper.Stepper.store.Goals as goal

pub store-is_made-requires : goal.store-is_made-requires
store-is_made-requires c = let x = c.requires in (event_of x.0 x.1 c.args.self.now c.in-Some.begun (sym c.take.ensures.value ∙ c.in-Some.is) x.2).2.token

pub returns-clause-leads : goal.returns-clause-leads
returns-clause-leads c = λ w s h. leads_as w s stores _ _ _ _ c.row_of_store.ensures (as_begun c.args.self.now c.store-is_made.new.self c.args.self.now.upcoming c.args.self.now.ended _ _ c.keep.ensures)
    (stored_by w s c.args.self.now c.in-Some.begun (sym c.take.ensures.value ∙ c.in-Some.is) h c.store-is_made.new.begun c.store-is_made.new.self c.store-is_made.result
    (record { begun = c.store-is_made.ensures.begun; elem = c.store-is_made.ensures.elem; brings = c.store-is_made.ensures.brings; held = c.store-is_made.ensures.held; made = c.store-is_made.ensures.made; none = c.store-is_made.ensures.none; own = c.store-is_made.ensures.own; other = c.store-is_made.ensures.other }))
