use Rattle.std.proofs.Common.{◌<◌, ◌∙◌, sym, refl, length, arith, eq-eqb}
use Rattle.std.proofs.lemmas.Bool.{ne_eqb}
use Rattle.cert_check.proofs.Holding.{at_end, at_next, at_other}
use Rattle.cert_check.proofs.runs.holds.Goals as goal

pub returns-then-here-runs : goal.returns-then-here-runs
returns-then-here-runs c = λ L t.
    at_end c.args.prefix.now L c.args.runs.now c.begun-here.result c.args.hop _ t (c.begun-here.ensures.begun t.1) (sym c.hop_before.ensures ∙ c.if-hop_before-hop.true) c.if-here-runs.true (eq-eqb _ _ c.if-here-runs.true)

pub returns-else-here-runs : goal.returns-else-here-runs
returns-else-here-runs c = λ L t.
    let lt : c.begun-here.result < length c.args.runs.now = omega (arith, c.begun-here.ensures.bound, c.if-here-runs.false) in
    at_next c.args.prefix.now L c.args.runs.now c.begun-here.result c.args.hop _ _ c.is_past.result t (c.begun-here.ensures.begun t.1) (sym c.hop_before.ensures ∙ c.if-hop_before-hop.true) lt refl c.is_past.ensures

pub returns-else-hop_before-hop : goal.returns-else-hop_before-hop
returns-else-hop_before-hop c = λ L t.
    at_other c.args.prefix.now L c.args.runs.now c.begun-here.result c.args.hop _ t (c.begun-here.ensures.begun t.1) (λ e. c.if-hop_before-hop.false (c.hop_before.ensures ∙ e)) (ne_eqb _ _ c.if-hop_before-hop.false)
