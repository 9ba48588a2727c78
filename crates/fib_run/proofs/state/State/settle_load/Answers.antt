use Rattle.std.proofs.Common.{◌++◌, refl, sym, ap, ◌∙◌}
use Rattle.table_model.specs.Changes.{additions}
use Rattle.table_model.specs.Entries.{Entries}
use Rattle.kept_model.specs.Feed.{at_event}
use Rattle.kept_model.specs.Told.{steady_if}
use Rattle.fib_engine.specs.Stands.{after_load}
use Rattle.fib_run.specs.declared.state.State.{State}
use Rattle.fib_run.specs.Told.{changes_as}
use Rattle.fib_run.proofs.Steps.{ends_short, load_ended, of_load}
use Rattle.fib_run.proofs.state.State.settle_load.Goals as goal

pub returns-in-Ok-clause-ends : goal.returns-in-Ok-clause-ends
returns-in-Ok-clause-ends c = λ limits load n s.
    let old = c.args.self in
    let told = c.in-Ok.ensures in
    let e = after_load old.engine in
    let new : State = record { engine = e; added = e.table; changes = old.changes; moves = old.moves; fewest = old.fewest; steady = old.steady } in (
      new,
      load_ended limits load old new (record { candidates = refl; hops = refl; every = refl; fewest = refl; sizes = refl; table = refl; loaded = refl; events = refl; moves = refl }) told.stands refl refl
          (λ sorted. ap (λ b. steady_if b (additions e.table)) (sym (s.steady_is ∙ n))) refl refl s,
      record {
        sizes = told.sizes;
        routes = told.routes;
        table = told.table;
        hops = told.hop_list;
        changes = ap (λ (T : Entries). at_event 0 (additions T) ++ changes_as old.changes.items) told.table;
        moves = refl;
      },
    )

pub returns-in-Err-clause-short : goal.returns-in-Err-clause-short
returns-in-Err-clause-short c = λ limits load s. ends_short limits load c.args.self c.in-Err.error c.refusal_at.result c.refusal_at.ensures c.in-Err.ensures.hops c.in-Err.ensures.short s

pub returns-in-Err-clause-kinds : goal.returns-in-Err-clause-kinds
returns-in-Err-clause-kinds c = of_load c.in-Err.error c.refusal_at.result c.refusal_at.ensures c.in-Err.ensures.hops
