use Rattle.std.proofs.Common.{None, Some, refl, ap}
use Rattle.route_choice.specs.Held.{HeldCandidates}
use Rattle.fib_save.proofs.Saving.{brings_dump, brings_updates, fault_of, later_fault, reads_of_same, updates_read}
use Rattle.fib_save.proofs.save.candidates_of.Goals as goal

pub returns-in_default-updates-clause-brings : goal.returns-in_default-updates-clause-brings
returns-in_default-updates-clause-brings g c =
    rw c.in_default-updates.is (brings_dump (g.I.Inputs.content c.args.inputs.now) c.args.dump.now None _ c.take_input.new.candidates.candidates (ap (λ (h : HeldCandidates). h.candidates) c.new-candidates.ensures) refl c.in_default.ensures.takes)

pub returns-in-Err-take_input-clause-cause : goal.returns-in-Err-take_input-clause-cause
returns-in-Err-take_input-clause-cause g c = (
  c.in-Some.updates.now,
  rw c.in-Some.is refl,
  later_fault _ (g.I.Inputs.faults c.take_input.new.inputs) _ c.in-Some.updates.now c.in-Err-take_input.error c.in_default.ensures.cause
      (fault_of _ _ c.in-Some.updates.now c.take_input-2.result c.in-Err-take_input.error c.in-Err-take_input.is c.take_input-2.ensures.cause),
)

pub returns-in-Err-take_input-clause-reads : goal.returns-in-Err-take_input-clause-reads
returns-in-Err-take_input-clause-reads g c =
    let content = g.I.Inputs.content c.args.inputs.now in
    let name = c.in-Some.updates.now in
    rw c.in-Some.is (updates_read content _ (g.I.Inputs.reads c.take_input.new.inputs) _ c.args.dump.now name (Some name) c.in-Err-take_input.error refl c.in_default.ensures.reads
    (reads_of_same content (g.I.Inputs.content c.take_input.new.inputs) _ _ _ name c.in_default.ensures.same c.in-Err-take_input.ensures.reads))

pub returns-clause-brings : goal.returns-clause-brings
returns-clause-brings g c =
    let name = c.in-Some.updates.now in
    rw c.in-Some.is (brings_updates (g.I.Inputs.content c.args.inputs.now) (g.I.Inputs.content c.take_input.new.inputs) c.args.dump.now name (Some name) _ c.take_input.new.candidates.candidates _ (ap (λ (h : HeldCandidates). h.candidates) c.new-candidates.ensures) refl c.in_default.ensures.same c.in_default.ensures.takes c.in_default-take_input.ensures.takes)
