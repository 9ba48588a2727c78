use Rattle.std.proofs.Common.{◌+◌, ℕ, List, get_or, subst, ◌∙◌, Ok}
use Rattle.std.proofs.lemmas.Result.{err_from_is_err_and}
use Rattle.printed_text.specs.Printed.{kind_as}
use Rattle.fib_same.specs.Due.{text_at}
use Rattle.fib_same.specs.Gives.{MatchesIfTold}
use Rattle.fib_same.proofs.Finding.{small_more}
use Rattle.fib_same.proofs.Going.{Content, Going, front_stops, going_ends, going_on, next_read, next_refused, no_name, none_left, opened, texts}
use Rattle.fib_same.proofs.compare.compare_others.Goals as goal

pub returns-in_err-entries-clause-reads : goal.returns-in_err-entries-clause-reads
returns-in_err-entries-clause-reads g c =
    let p = err_from_is_err_and c.from_residual.result c.from_residual.ensures.1 in
    rw (p.1, p.2) (next_refused c.args.names.now c.loop-name.place c.loop-name.name-index _ c.in_err-entries.field-0.0 _ _ _ c.loop-name-test.true c.loop-name.invariant.made c.in_err-entries.ensures.reads)

pub returns-in_err-differ-clause-reads : goal.returns-in_err-differ-clause-reads
returns-in_err-differ-clause-reads g c =
    let p = err_from_is_err_and c.from_residual-in_err-differ.result c.from_residual-in_err-differ.ensures.1 in
    rw (p.1, p.2) (front_stops _ _ _ _ (next_read c.args.names.now c.loop-name.place c.loop-name.name-index _ _ _ _ c.loop-name-test.true c.loop-name.invariant.made c.in_ok-entries.ensures.reads))

pub loop-name-preserved : goal.loop-name-preserved
loop-name-preserved g c =
    let read = kind_as c.in_ok-entries.entries c.read_text.new.hops in
    record {
      going = going_on (g.I.Inputs.content c.args.inputs.now) c.args.kind c.args.hops.now.list (texts c.args.names.now) c.args.runs.now c.loop-name.hops.list c.loop-name.place _ _ _ c.loop-name.best c.lesser-best.result read c.in_ok-differ.differ
          (opened c.args.names.now c.loop-name.name-index no_name c.loop-name-test.true)
          (subst (λ (content : Content). MatchesIfTold (text_at content c.args.kind c.loop-name.hops.list (c.loop-name.place + 2) (get_or c.args.names.now c.loop-name.name-index no_name).now) (Ok read)) c.loop-name.invariant.same c.in_ok-entries.ensures.due)
          (λ first tells. rw c.deref.ensures.value at (c.in_ok-differ.ensures first tells))
          (rw c.found_at.ensures.found at c.lesser-best.ensures.least) (rw c.found_at.ensures.found at c.lesser-best.ensures.one) c.loop-name.invariant.going;
      small = small_more c.loop-name.best c.found_at.result c.lesser-best.result c.found_at.ensures.small c.lesser-best.ensures.one c.loop-name.invariant.small;
      few = c.in_ok-entries.ensures.few;
      same = c.in_ok-entries.ensures.same ∙ c.loop-name.invariant.same;
      kept = c.in_ok-entries.ensures.cause ∙ c.loop-name.invariant.kept;
      made = next_read c.args.names.now c.loop-name.place c.loop-name.name-index _ _ _ _ c.loop-name-test.true c.loop-name.invariant.made c.in_ok-entries.ensures.reads;
    }

pub returns-clause-found : goal.returns-clause-found
returns-clause-found g c =
    going_ends (g.I.Inputs.content c.args.inputs.now) c.args.kind c.args.hops.now c.loop-name.hops (texts c.args.names.now) c.args.runs.now c.loop-name.place c.loop-name.best
    (subst (λ (left : List (List ℕ)). Going (g.I.Inputs.content c.args.inputs.now) c.args.kind c.args.hops.now.list (texts c.args.names.now) c.args.runs.now c.loop-name.hops.list c.loop-name.place left c.loop-name.best) (none_left c.args.names.now c.loop-name.name-index c.loop-name-test.false) c.loop-name.invariant.going)
