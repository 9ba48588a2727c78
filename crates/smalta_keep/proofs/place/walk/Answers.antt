use Rattle.std.proofs.Common.{◌≡◌, ◌≢◌, ◌-◌, [], sym, ap, ◌∙◌, arith}
use Rattle.std.specs.Option.{unwrap_or}
use Rattle.table_model.specs.Bits.{bits_of}
use Rattle.table_model.specs.Table.{root, inherit}
use Rattle.table_model.proofs.Same.{cut_nil}
use Rattle.orig_tree.proofs.Steps.{given_is}
use Rattle.smalta_keep.proofs.Seeking.{sought_end, sought_step, above_none, above_step, above_end}
use Rattle.smalta_keep.proofs.place.walk.Goals as goal

pub loop-left-preserved : goal.loop-left-preserved
loop-left-preserved c =
    let l = c.loop-left in
    let q = c.args.q in
    let b = c.bit_at.result in
    let some : l.left ≢ 0 = λ e. omega (arith, e, c.loop-left-test.true) in
    let given : c.unwrap_or-hop.result ≡ inherit (root l.node.entries) l.hop = c.unwrap_or-hop.ensures ∙ (ap (λ o. unwrap_or o l.hop) c.hop.ensures ∙ sym (given_is (root l.node.entries) l.hop)) in
    record {
      few = omega (arith, l.invariant.few);
      routes = sought_step l.left q b l.node.routes c.in-Some.next.routes some c.bit_at.ensures c.in-Some.ensures.routes ∙ l.invariant.routes;
      entries = sought_step l.left q b l.node.entries c.in-Some.next.entries some c.bit_at.ensures c.in-Some.ensures.entries ∙ l.invariant.entries;
      hop = above_step l.left q b l.node.entries c.in-Some.next.entries l.hop c.unwrap_or-hop.result some c.bit_at.ensures c.in-Some.ensures.entries given ∙ l.invariant.hop;
    }

pub returns-in-None-clause-routes : goal.returns-in-None-clause-routes
returns-in-None-clause-routes c =
    let l = c.loop-left in
    let some : l.left ≢ 0 = λ e. omega (arith, e, c.loop-left-test.true) in
    sym (cut_nil (bits_of (l.left - 1) c.args.q)) ∙ (sought_step l.left c.args.q c.bit_at.result l.node.routes [] some c.bit_at.ensures c.in-None.ensures.routes ∙ l.invariant.routes)

pub returns-in-None-clause-entries : goal.returns-in-None-clause-entries
returns-in-None-clause-entries c =
    let l = c.loop-left in
    let some : l.left ≢ 0 = λ e. omega (arith, e, c.loop-left-test.true) in
    sym (cut_nil (bits_of (l.left - 1) c.args.q)) ∙ (sought_step l.left c.args.q c.bit_at.result l.node.entries [] some c.bit_at.ensures c.in-None.ensures.entries ∙ l.invariant.entries)

pub returns-in-None-clause-hop : goal.returns-in-None-clause-hop
returns-in-None-clause-hop c =
    let l = c.loop-left in
    let some : l.left ≢ 0 = λ e. omega (arith, e, c.loop-left-test.true) in
    let given : c.unwrap_or-hop.result ≡ inherit (root l.node.entries) l.hop = c.unwrap_or-hop.ensures ∙ (ap (λ o. unwrap_or o l.hop) c.hop.ensures ∙ sym (given_is (root l.node.entries) l.hop)) in
    above_none (bits_of (l.left - 1) c.args.q) c.unwrap_or-hop.result
    ∙ (above_step l.left c.args.q c.bit_at.result l.node.entries [] l.hop c.unwrap_or-hop.result some c.bit_at.ensures c.in-None.ensures.entries given ∙ l.invariant.hop)

pub returns-clause-routes : goal.returns-clause-routes
returns-clause-routes c =
    let l = c.loop-left in
    sought_end l.left c.args.q l.node.routes (omega (arith, c.loop-left-test.false)) ∙ l.invariant.routes

pub returns-clause-entries : goal.returns-clause-entries
returns-clause-entries c =
    let l = c.loop-left in
    sought_end l.left c.args.q l.node.entries (omega (arith, c.loop-left-test.false)) ∙ l.invariant.entries

pub returns-clause-hop : goal.returns-clause-hop
returns-clause-hop c =
    let l = c.loop-left in
    above_end l.left c.args.q l.node.entries l.hop (omega (arith, c.loop-left-test.false)) ∙ l.invariant.hop
