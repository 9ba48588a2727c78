use Rattle.std.proofs.Common.{◌+◌, ◌++◌, ◌∷◌, [], refl, sym, ap, map, ◌∙◌, append_assoc}
use Rattle.table_model.specs.Changes.{additions}
use Rattle.kept_model.specs.Feed.{at_event, hops_after}
use Rattle.moves_model.specs.Moved.{moved_by, table_by}
use Rattle.fib_delta.specs.Views.{change_as}
use Rattle.fib_prefix.specs.Views.{elem_as}
use Rattle.fib_run.specs.Told.{changes_as, moves_told, told_moves}
use Rattle.fib_run.proofs.FeedPasses.{load_numbered, update_numbered}
use Rattle.fib_run.proofs.Steps.{all_changed, loads_one, not_loaded, not_taken, takes_one, took_it}
use Rattle.fib_run.proofs.state.step.Goals as goal

pub returns-in-Ok-clause-takes : goal.returns-in-Ok-clause-takes
returns-in-Ok-clause-takes c = rw c.in-Dump.is (loads_one _ _ c.args.state.now _ c.in-Ok.ensures.loads c.in-Ok.ensures.loading (took_it c.in-Ok.field-0 _ c.args.state.now c.in-Ok.ensures.full.1) refl refl refl refl)

pub returns-in-Err-clause-takes : goal.returns-in-Err-clause-takes
returns-in-Err-clause-takes c = not_loaded c.args.which c.args.event _ c.args.state.now _ c.in-Err.error c.refusal_at.result c.refusal_at.ensures c.in-Err.ensures.full.0 c.in-Err.ensures.fits

pub returns-in_ok-push_moves-in-Ok-apply-clause-takes : goal.returns-in_ok-push_moves-in-Ok-apply-clause-takes
returns-in_ok-push_moves-in-Ok-apply-clause-takes c =
    let told = c.in-Ok-apply.ensures in
    let old = c.args.state.now in
    let elem = elem_as c.args.elem.now in
    let hops = hops_after old.engine.hops (elem ∷ []) in
    let moved = moved_by old.engine.fewest hops old.engine.candidates old.engine.table elem in
    let kept = table_by old.engine.fewest old.engine.every hops (old.engine.events + 1) old.engine.candidates old.engine.table elem in
    let ordered = c.order_event.ensures.told old.engine.table moved kept (ap (map change_as) c.deref_mut.ensures.value ∙ told.changes) (sym told.first) in
    let whole = all_changed c.in-Ok-apply.told.changes.len c.order_event.new.changes c.in-Ok-apply.told.changes.items (c.order_event.ensures.same ∙ c.deref_mut.ensures.len) in
    let load = at_event 0 (additions old.added) in
    let grown = ap (λ cs. load ++ cs) c.in_ok-push_changes-in-Ok-apply.ensures ∙ sym (append_assoc load (changes_as old.changes.items) _) in
    let counted = c.in_ok-push_moves-in-Ok-apply.ensures ∙ ap (λ m. told_moves old ++ moves_told old.fewest c.args.event m) c.last_moves-moves.ensures in
    rw c.in-Updates.is (takes_one _ elem old _ _ told.takes told.stands (took_it c.in-Ok-apply.told _ old told.full.1) told.fits refl refl (ap (map change_as) (c.deref.ensures.value ∙ whole) ∙ ordered) grown counted)

pub returns-in-Err-apply-clause-takes : goal.returns-in-Err-apply-clause-takes
returns-in-Err-apply-clause-takes c =
    let no = c.in-Err-apply.ensures in
    not_taken c.args.which c.args.event _ c.args.state.now _ c.in-Err-apply.error c.refusal_at-in-Err-apply.result c.in-Updates.is c.refusal_at-in-Err-apply.ensures no.full.0 no.full.1 no.short

pub returns-in-Err-clause-numbered : goal.returns-in-Err-clause-numbered
returns-in-Err-clause-numbered c = load_numbered c.args.which c.args.event c.in-Err.error c.refusal_at.result c.refusal_at.ensures c.requires.first c.in-Err.ensures.fits

pub returns-in-Err-apply-clause-numbered : goal.returns-in-Err-apply-clause-numbered
returns-in-Err-apply-clause-numbered c = update_numbered c.args.which c.args.event c.in-Err-apply.error c.refusal_at-in-Err-apply.result c.in-Updates.is c.refusal_at-in-Err-apply.ensures c.requires.first
