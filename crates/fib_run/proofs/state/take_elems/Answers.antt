use Rattle.std.proofs.Common.{◌≡◌, ◌+◌, ◌^◌, ◌<◌, ◌++◌, List, [], ◌∷◌, suc, take, drop, map, length, refl, sym, ap, ◌∙◌, arith, subst}
use Rattle.std.proofs.lemmas.Result.{err_from_is_err_and}
use Rattle.route_model.specs.Events.{Elem}
use Rattle.route_model.specs.Choice.{after_elem, after_elems}
use Rattle.fib_prefix.specs.Views.{elem_as}
use Rattle.fib_run.specs.Standing.{StateStands, next_elems}
use Rattle.fib_run.proofs.Counting.{counts_one, counted_push, fits_in_all}
use Rattle.fib_run.proofs.Steps.{refused_step, after_push, taken_push, take_next, next_counted, next_one, one_of_more, all_taken}
use Rattle.fib_run.proofs.state.take_elems.Goals as goal

pub returns-in_err-step-clause-takes : goal.returns-in_err-step-clause-takes
returns-in_err-step-clause-takes c = λ event are.
    let p = err_from_is_err_and c.from_residual.result c.from_residual.ensures.1 in
    rw (p.1, p.2) (refused_step _ _ (c.loop-elem.count + 1) _ (elem_as c.elem-item.result) c.args.state.now c.loop-elem.state c.step.new.state _ _ c.in_err-step.ensures.takes (λ limits before done counted s.
    let so_far = c.loop-elem.invariant.taken limits before done counted s in
    let items = c.args.elems.now in
    record {
      front = done ++ map elem_as (take c.loop-elem.elem-index items);
      rest = map elem_as (drop (suc c.loop-elem.elem-index) items);
      counted = next_counted _ _ (c.loop-elem.count + 1) _ so_far.0 refl;
      stands = so_far.1;
      same = one_of_more elem_as items c.loop-elem.elem-index _ done c.loop-elem-test.true c.elem-item.is ∙ ap (λ es. done ++ es) (are ∙ sym (next_one _ limits before done event _ s));
    }))

pub returns-clause-takes : goal.returns-clause-takes
returns-clause-takes c = λ event are limits before done counted s.
    let so_far = c.loop-elem.invariant.taken limits before done counted s in
    let items = c.args.elems.now in
    let all : map elem_as (take c.loop-elem.elem-index items) ≡ next_elems before done (event ∷ []) = all_taken elem_as items c.loop-elem.elem-index (omega (arith, c.loop-elem-test.false)) ∙ (are ∙ sym (next_one _ limits before done event _ s)) in
    let P : List Elem → Type 0 = λ es. (c.loop-elem.count ≡ length (done ++ es)) × StateStands c.args.which limits before (done ++ es) c.loop-elem.state in
    subst P all so_far

pub returns-clause-counts : goal.returns-clause-counts
returns-clause-counts c = λ event are.
    let items = c.args.elems.now in
    counts_one _ _ event _ _ _ (all_taken elem_as items c.loop-elem.elem-index (omega (arith, c.loop-elem-test.false)) ∙ are) c.loop-elem.invariant.counted c.loop-elem.invariant.candidates

pub loop-elem-preserved : goal.loop-elem-preserved
loop-elem-preserved c =
    let items = c.args.elems.now in
    let next = take_next elem_as items c.loop-elem.elem-index _ c.loop-elem-test.true c.elem-item.is in record {
      counted = counted_push _ _ _ (elem_as c.elem-item.result) _ c.loop-elem.invariant.counted next;
      candidates = c.in_ok-step.ensures.candidates ∙ (ap (λ h. after_elem h (elem_as c.elem-item.result)) c.loop-elem.invariant.candidates ∙ (sym (after_push c.args.state.now.engine.candidates (map elem_as (take c.loop-elem.elem-index items)) (elem_as c.elem-item.result)) ∙ ap (after_elems c.args.state.now.engine.candidates) (sym next)));
      ready = c.in_ok-step.ensures.ready;
      taken = λ limits before done counted s. taken_push _ limits before done _ _ _ _ _ _ (c.loop-elem.invariant.taken limits before done counted s) c.in_ok-step.ensures.takes next;
    }

pub overflow_add-count : goal.overflow_add-count
overflow_add-count c =
    let items = c.args.elems.now in
    let fits : c.loop-elem.count + 1 < 2 ^ 64 = fits_in_all elem_as items (map elem_as (take c.loop-elem.elem-index items)) (map elem_as (drop (suc c.loop-elem.elem-index) items)) (elem_as c.elem-item.result) _ _ c.requires.few (one_of_more elem_as items c.loop-elem.elem-index _ [] c.loop-elem-test.true c.elem-item.is) c.loop-elem.invariant.counted in
    omega (arith, fits)

pub returns-in_err-step-clause-numbered : goal.returns-in_err-step-clause-numbered
returns-in_err-step-clause-numbered c =
    let p = err_from_is_err_and c.from_residual.result c.from_residual.ensures.1 in
    rw (p.1, p.2) c.in_err-step.ensures.numbered
