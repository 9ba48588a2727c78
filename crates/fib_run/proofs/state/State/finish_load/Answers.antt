use Rattle.std.proofs.Common.{◌≡◌, refl, sym, ap, subst, ◌∙◌}
use Rattle.std.specs.List.Sorted.{IsStrictlySortedBy}
use Rattle.std.specs.Map.{keys_of}
use Rattle.table_model.specs.Order.{prefix_cmp}
use Rattle.table_model.specs.Entries.{Entries}
use Rattle.table_model.specs.Changes.{additions}
use Rattle.kept_model.specs.Told.{steady_if}
use Rattle.fib_run.proofs.Steps.{ends_short, load_ended, of_load}
use Rattle.fib_run.proofs.state.State.finish_load.Goals as goal

pub returns-clause-stands : goal.returns-clause-stands
returns-clause-stands c = λ limits load s.
    let told = c.in-Ok.ensures in
    let there : IsStrictlySortedBy prefix_cmp (keys_of c.finish_load_packed.new.self.table) → additions c.in_ok-added-in-Ok.added ≡ steady_if c.args.self.now.steady (additions c.finish_load_packed.new.self.table) =
    λ sorted. c.in_ok-added-in-Ok.ensures (subst (λ (L : Entries). IsStrictlySortedBy prefix_cmp (keys_of L)) (sym told.entries) sorted) ∙ ap (λ (L : Entries). steady_if c.args.self.now.steady (additions L)) told.entries
    in
    load_ended limits load c.args.self.now _ told.ends told.stands refl refl there refl refl s

pub returns-in-Err-clause-short : goal.returns-in-Err-clause-short
returns-in-Err-clause-short c = λ limits load s. ends_short limits load c.args.self.now c.in-Err.error c.refusal_at.result c.refusal_at.ensures c.in-Err.ensures.hops c.in-Err.ensures.short s

pub returns-in-Err-clause-kinds : goal.returns-in-Err-clause-kinds
returns-in-Err-clause-kinds c = of_load c.in-Err.error c.refusal_at.result c.refusal_at.ensures c.in-Err.ensures.hops
