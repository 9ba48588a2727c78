use Rattle.std.proofs.Common.{◌≢◌, ◌-◌, [], None, refl, sym, ◌∙◌, arith}
use Rattle.table_model.specs.Bits.{bits_of}
use Rattle.table_model.proofs.Same.{cut_nil}
use Rattle.smalta_keep.proofs.Seeking.{sought_end, sought_step, sought_none, around_end, around_step}
use Rattle.smalta_keep.proofs.place.seek_below.Goals as goal

pub loop-left-preserved : goal.loop-left-preserved
loop-left-preserved c =
    let l = c.loop-left in
    let some : l.left ≢ 0 = λ e. omega (arith, e, c.loop-left-test.true) in
    record {
      few = omega (arith, l.invariant.few);
      routes = sought_step l.left c.args.q c.bit_at.result l.node.routes c.in-Some.next.routes some c.bit_at.ensures c.in-Some.ensures.routes ∙ l.invariant.routes;
      entries = sought_step l.left c.args.q c.bit_at.result l.node.entries c.in-Some.next.entries some c.bit_at.ensures c.in-Some.ensures.entries ∙ l.invariant.entries;
      marked = λ x. l.invariant.marked (around_step l.left c.args.q c.bit_at.result l.node.entries c.in-Some.next.entries l.marked c.meets-marked.result some c.bit_at.ensures c.in-Some.ensures.entries c.meets-marked.ensures x);
    }

pub returns-in-None-clause-routes : goal.returns-in-None-clause-routes
returns-in-None-clause-routes c =
    let l = c.loop-left in
    let some : l.left ≢ 0 = λ e. omega (arith, e, c.loop-left-test.true) in
    sym (cut_nil (bits_of (l.left - 1) c.args.q)) ∙ (sought_step l.left c.args.q c.bit_at.result l.node.routes [] some c.bit_at.ensures c.in-None.ensures.routes ∙ l.invariant.routes)

pub returns-in-None-clause-entries : goal.returns-in-None-clause-entries
returns-in-None-clause-entries c =
    let l = c.loop-left in
    let some : l.left ≢ 0 = λ e. omega (arith, e, c.loop-left-test.true) in
    sym (cut_nil (bits_of (l.left - 1) c.args.q)) ∙ (sought_step l.left c.args.q c.bit_at.result l.node.entries [] some c.bit_at.ensures c.in-None.ensures.entries ∙ l.invariant.entries)

pub returns-in-None-clause-marked : goal.returns-in-None-clause-marked
returns-in-None-clause-marked c = λ e.
    let l = c.loop-left in
    let some : l.left ≢ 0 = λ z. omega (arith, z, c.loop-left-test.true) in
    l.invariant.marked (around_step l.left c.args.q c.bit_at.result l.node.entries [] l.marked c.meets-marked.result some c.bit_at.ensures c.in-None.ensures.entries c.meets-marked.ensures (e, (sought_none None (bits_of (l.left - 1) c.args.q) refl).2))

pub returns-clause-routes : goal.returns-clause-routes
returns-clause-routes c =
    let l = c.loop-left in
    sought_end l.left c.args.q l.node.routes (omega (arith, c.loop-left-test.false)) ∙ l.invariant.routes

pub returns-clause-entries : goal.returns-clause-entries
returns-clause-entries c =
    let l = c.loop-left in
    sought_end l.left c.args.q l.node.entries (omega (arith, c.loop-left-test.false)) ∙ l.invariant.entries

pub returns-clause-marked : goal.returns-clause-marked
returns-clause-marked c = λ e.
    let l = c.loop-left in
    l.invariant.marked (around_end l.left c.args.q l.node.entries l.marked (omega (arith, c.loop-left-test.false)) e)
