use Rattle.std.proofs.Common.{◌+◌, ◌∙◌, Err, Ok, arith, inr, refl, rules}
use Rattle.std.proofs.lemmas.Grind.{common_steps}
use Rattle.std.proofs.lemmas.Result.{err_from_is_err_and}
use Rattle.fib_io.specs.Pieces.{ComeNext, IsEnd, IsLarge}
use Rattle.mrt_read.proofs.Arriving.{told_before}
use Rattle.mrt_read.proofs.Nexts.{cuts_begin, cuts_go_on, fed_none, fed_piece, fed_still, from_ends, from_refused, from_stops, from_stops_at_end, held_failed, held_more, held_still, held_takes, lead_begins, lead_goes_on, next_breaks, next_stops}
use Rattle.mrt_read.proofs.Passes.{end_of_input, end_of_read}
use Rattle.mrt_read.proofs.input_reader.read_next.Goals as goal

pub loop-inputs-init : goal.loop-inputs-init
loop-inputs-init g c = record {
  some = c.requires.some;
  within = c.requires.within;
  few = c.requires.few;
  fed = fed_none _ c.args.at.now c.args.reader.now;
  same = refl;
  kept = refl;
  leads = lead_begins _ c.args.name.now c.args.at.now;
  cuts = cuts_begin _ _ c.args.at.now c.args.reader.now;
}

pub returns-in_err-read_events-clause-few : goal.returns-in_err-read_events-clause-few
returns-in_err-read_events-clause-few g c = held_failed c.loop-inputs.reader c.read_events.new.self c.loop-inputs.at c.in_err-read_events.field-0.0 c.loop-inputs.invariant.few c.in_err-read_events.ensures.after

pub returns-in_err-read_events-clause-next : goal.returns-in_err-read_events-clause-next
returns-in_err-read_events-clause-next g c =
    let p = err_from_is_err_and c.from_residual.result c.from_residual.ensures.1 in
    rw (p.1, p.2) (next_breaks _ c.args.at.now c.loop-inputs.at c.args.reader.now c.loop-inputs.reader _ c.in_err-read_events.field-0.0 _ c.loop-inputs.invariant.fed c.in_err-read_events.ensures.gives c.in_err-read_events.ensures.after)

pub returns-in_err-read_events-clause-leads : goal.returns-in_err-read_events-clause-leads
returns-in_err-read_events-clause-leads g c =
    let p = err_from_is_err_and c.from_residual.result c.from_residual.ensures.1 in
    rw (p.1, p.2, end_of_read c.in_err-read_events.field-0.0) (from_stops _ _ c.args.name.now c.args.at.now c.loop-inputs.at c.loop-inputs.invariant.within c.loop-inputs.invariant.leads)

pub returns-then-branch-clause-few : goal.returns-then-branch-clause-few
returns-then-branch-clause-few g c = held_takes c.loop-inputs.reader _ c.loop-inputs.at _ c.loop-inputs.invariant.few (rw c.if-branch.true at c.in_ok-read_events.ensures.gives) (rw c.if-branch.true at c.in_ok-read_events.ensures.after)

pub returns-then-branch-clause-next : goal.returns-then-branch-clause-next
returns-then-branch-clause-next g c = (c.loop-inputs.reader, c.loop-inputs.invariant.fed, rw c.if-branch.true at c.in_ok-read_events.ensures.after)

pub returns-in_err-n-clause-next : goal.returns-in_err-n-clause-next
returns-in_err-n-clause-next g c =
    let p = err_from_is_err_and c.from_residual-in_err-n.result c.from_residual-in_err-n.ensures.1 in
    let next = rw c.if-branch.false at c.in_ok-read_events.ensures.gives in
    let nothing = rw c.if-branch.false at c.in_ok-read_events.ensures.after in
    rw (p.1, p.2) (next_stops _ c.args.at.now c.loop-inputs.at c.args.reader.now c.read_events.new.self _ c.in_err-n.field-0.0 (fed_still _ _ _ _ c.loop-inputs.reader _ c.loop-inputs.invariant.fed next nothing) nothing.is_cut (λ e. told_before _ _ c.args.name.now (λ o. IsLarge o c.loop-inputs.at) c.loop-inputs.invariant.same (c.in_err-n.ensures.large e)))

pub returns-in_err-n-clause-leads : goal.returns-in_err-n-clause-leads
returns-in_err-n-clause-leads g c =
    let p = err_from_is_err_and c.from_residual-in_err-n.result c.from_residual-in_err-n.ensures.1 in
    rw (p.1, p.2, end_of_input c.in_err-n.field-0.0) (from_refused _ _ _ c.args.name.now c.args.at.now c.loop-inputs.at c.in_err-n.field-0.0 c.loop-inputs.invariant.within c.loop-inputs.invariant.leads c.in_err-n.ensures.made)

pub returns-in_err-n-clause-cuts : goal.returns-in_err-n-clause-cuts
returns-in_err-n-clause-cuts g c =
    let next = rw c.if-branch.false at c.in_ok-read_events.ensures.gives in
    let nothing = rw c.if-branch.false at c.in_ok-read_events.ensures.after in
    cuts_go_on _ _ _ _ c.args.at.now c.loop-inputs.at c.args.reader.now c.read_events.new.self c.args.name.now (Err c.in_err-n.field-0.0) (fed_still _ _ _ _ c.loop-inputs.reader _ c.loop-inputs.invariant.fed next nothing) nothing.is_cut c.loop-inputs.invariant.cuts c.in_err-n.ensures.made

pub returns-in_err-finish-clause-next : goal.returns-in_err-finish-clause-next
returns-in_err-finish-clause-next g c =
    let p = err_from_is_err_and c.from_residual-in_err-finish.result c.from_residual-in_err-finish.ensures.1 in
    let next = rw c.if-branch.false at c.in_ok-read_events.ensures.gives in
    let nothing = rw c.if-branch.false at c.in_ok-read_events.ensures.after in
    rw (p.1, p.2) (c.loop-inputs.at, c.read_events.new.self, fed_still _ _ _ _ c.loop-inputs.reader _ c.loop-inputs.invariant.fed next nothing, inr (told_before _ _ c.args.name.now (λ o. IsEnd o c.loop-inputs.at) c.loop-inputs.invariant.same (c.in_ok-n.ensures.end c.if-n-eq0.true), c.in_err-finish.ensures.tells))

pub returns-in_err-finish-clause-leads : goal.returns-in_err-finish-clause-leads
returns-in_err-finish-clause-leads g c =
    let p = err_from_is_err_and c.from_residual-in_err-finish.result c.from_residual-in_err-finish.ensures.1 in
    rw (p.1, p.2) (from_stops_at_end _ _ c.args.name.now c.args.at.now (from_ends _ _ _ c.args.name.now c.args.at.now c.loop-inputs.at c.in_ok-n.n c.loop-inputs.invariant.within c.if-n-eq0.true c.loop-inputs.invariant.leads c.in_ok-n.ensures.made))

pub returns-in_err-finish-clause-cuts : goal.returns-in_err-finish-clause-cuts
returns-in_err-finish-clause-cuts g c =
    let next = rw c.if-branch.false at c.in_ok-read_events.ensures.gives in
    let nothing = rw c.if-branch.false at c.in_ok-read_events.ensures.after in
    cuts_go_on _ _ _ _ c.args.at.now c.loop-inputs.at c.args.reader.now c.read_events.new.self c.args.name.now (Ok c.in_ok-n.n) (fed_still _ _ _ _ c.loop-inputs.reader _ c.loop-inputs.invariant.fed next nothing) nothing.is_cut c.loop-inputs.invariant.cuts c.in_ok-n.ensures.made

pub returns-then-n-eq0-clause-next : goal.returns-then-n-eq0-clause-next
returns-then-n-eq0-clause-next g c =
    let next = rw c.if-branch.false at c.in_ok-read_events.ensures.gives in
    let nothing = rw c.if-branch.false at c.in_ok-read_events.ensures.after in
    (fed_still _ _ _ _ c.loop-inputs.reader _ c.loop-inputs.invariant.fed next nothing, told_before _ _ c.args.name.now (λ o. IsEnd o c.loop-inputs.at) c.loop-inputs.invariant.same (c.in_ok-n.ensures.end c.if-n-eq0.true), c.in_ok-finish.ensures.tells)

pub returns-then-n-eq0-clause-leads : goal.returns-then-n-eq0-clause-leads
returns-then-n-eq0-clause-leads g c = from_ends _ _ _ c.args.name.now c.args.at.now c.loop-inputs.at c.in_ok-n.n c.loop-inputs.invariant.within c.if-n-eq0.true c.loop-inputs.invariant.leads c.in_ok-n.ensures.made

pub returns-then-n-eq0-clause-cuts : goal.returns-then-n-eq0-clause-cuts
returns-then-n-eq0-clause-cuts g c =
    let next = rw c.if-branch.false at c.in_ok-read_events.ensures.gives in
    let nothing = rw c.if-branch.false at c.in_ok-read_events.ensures.after in
    cuts_go_on _ _ _ _ c.args.at.now c.loop-inputs.at c.args.reader.now c.read_events.new.self c.args.name.now (Ok c.in_ok-n.n) (fed_still _ _ _ _ c.loop-inputs.reader _ c.loop-inputs.invariant.fed next nothing) nothing.is_cut c.loop-inputs.invariant.cuts c.in_ok-n.ensures.made

pub returns-in_err-feed-clause-leads : goal.returns-in_err-feed-clause-leads
returns-in_err-feed-clause-leads g c =
    let p = err_from_is_err_and c.from_residual-in_err-feed.result c.from_residual-in_err-feed.ensures.1 in
    rw (p.1, p.2) (from_stops _ _ c.args.name.now c.args.at.now (c.loop-inputs.at + c.in_ok-n.n) c.in_ok-n.ensures.within (lead_goes_on _ _ _ c.args.name.now c.args.at.now c.loop-inputs.at (c.loop-inputs.at + c.in_ok-n.n) c.in_ok-n.n refl (grind (arith, common_steps)) c.loop-inputs.invariant.leads c.in_ok-n.ensures.made))

pub returns-in_err-feed-clause-cuts : goal.returns-in_err-feed-clause-cuts
returns-in_err-feed-clause-cuts g c =
    let next = rw c.if-branch.false at c.in_ok-read_events.ensures.gives in
    let nothing = rw c.if-branch.false at c.in_ok-read_events.ensures.after in
    cuts_go_on _ _ _ _ c.args.at.now c.loop-inputs.at c.args.reader.now c.read_events.new.self c.args.name.now (Ok c.in_ok-n.n) (fed_still _ _ _ _ c.loop-inputs.reader _ c.loop-inputs.invariant.fed next nothing) nothing.is_cut c.loop-inputs.invariant.cuts c.in_ok-n.ensures.made

pub loop-inputs-preserved : goal.loop-inputs-preserved
loop-inputs-preserved g c =
    let next = rw c.if-branch.false at c.in_ok-read_events.ensures.gives in
    let nothing = rw c.if-branch.false at c.in_ok-read_events.ensures.after in
    let still = fed_still _ _ _ _ c.loop-inputs.reader _ c.loop-inputs.invariant.fed next nothing in
    record {
      some = c.in_ok-n.ensures.some;
      within = c.in_ok-n.ensures.within;
      few = held_more c.read_events.new.self _ _ c.loop-inputs.at c.in_ok-n.n (held_still c.loop-inputs.reader _ c.loop-inputs.at c.loop-inputs.invariant.few next nothing) c.in_ok-feed.ensures.ok (search rules);
      fed = fed_piece _ _ c.loop-inputs.at _ c.in_ok-n.n _ c.read_events.new.self _ c.read_piece.new.room still refl c.in_ok-n.ensures.most (told_before _ _ c.args.name.now (λ o. ComeNext o c.loop-inputs.at c.read_piece.new.room c.in_ok-n.n) c.loop-inputs.invariant.same c.in_ok-n.ensures.comes) c.in_ok-feed.ensures.ok;
      same = c.in_ok-n.ensures.same ∙ c.loop-inputs.invariant.same;
      kept = c.in_ok-n.ensures.cause ∙ c.loop-inputs.invariant.kept;
      leads = lead_goes_on _ _ _ c.args.name.now c.args.at.now c.loop-inputs.at _ c.in_ok-n.n refl (grind (arith, common_steps)) c.loop-inputs.invariant.leads c.in_ok-n.ensures.made;
      cuts = cuts_go_on _ _ _ _ c.args.at.now c.loop-inputs.at c.args.reader.now c.read_events.new.self c.args.name.now (Ok c.in_ok-n.n) still nothing.is_cut c.loop-inputs.invariant.cuts c.in_ok-n.ensures.made;
    }
