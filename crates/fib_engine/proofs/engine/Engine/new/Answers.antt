use Rattle.std.proofs.Common.{ap, sym, ◌∙◌}
use Rattle.route_choice.specs.Held.{HeldCandidates}
use Rattle.route_tries.specs.Sizes.{sizes_as}
use Rattle.route_tries.proofs.Short.{no_needs, no_shortage}
use Rattle.fib_engine.specs.Tables.{Both}
use Rattle.fib_engine.proofs.Taking.{sound_start}
use Rattle.fib_engine.proofs.engine.Engine.new.Goals as goal

pub invariant_of-result : goal.invariant_of-result
invariant_of-result c = (
  sound_start c.new.result.candidates c.new-2.result.list c.new-3.result (ap (λ (h : HeldCandidates). h.candidates) c.new.ensures) c.new-2.ensures
      (ap (λ (b : Both). b.v4.family) c.new-3.ensures, ap (λ (b : Both). b.v6.family) c.new-3.ensures) (ap (λ (b : Both). b.v4.routes) c.new-3.ensures) (ap (λ (b : Both). b.v6.routes) c.new-3.ensures) (ap (λ (b : Both). b.v4.entries) c.new-3.ensures) (ap (λ (b : Both). b.v6.entries) c.new-3.ensures),
  record { needs = c.none.ensures ∙ sym (no_needs c.args.limits.sizes.direct c.args.limits.sizes.few_direct); fit = no_shortage (sizes_as c.args.limits.sizes) c.args.limits.sizes.few_direct },
)
