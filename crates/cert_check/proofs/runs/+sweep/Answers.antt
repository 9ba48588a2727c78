use Rattle.std.proofs.Common.{◌≡◌, ◌<◌, ◌-◌, ◌^◌, length, ◌+◌, refl, sym, ap, ◌∙◌, arith, rules, subst, ℕ}
use Rattle.std.proofs.lemmas.Result.{on_ok_weaker}
use Rattle.std.proofs.lemmas.Nat.{one_shl, pow_pos}
use Rattle.cert_check.proofs.Sweeps.{swept_empty, swept_address, swept_region, first_hop, given_is, double}
use Rattle.table_model.specs.Table.{Table}
use Rattle.cert_check.specs.Runs.{Swept}
use Rattle.cert_check.proofs.Alone.{one_part}
use Rattle.cert_check.proofs.runs.+sweep.Goals as goal

pub returns-then-is_empty : goal.returns-then-is_empty
returns-then-is_empty t c =
    let none : length c.args.parts.items ≡ 0 = search rules in
    on_ok_weaker c.note.result (λ n. swept_empty c.args.left c.args.inherited c.args.start c.args.parts.items c.args.runs.now.items c.note.new.runs.items none n) c.note.ensures

pub returns-then-len-eq1 : goal.returns-then-len-eq1
returns-then-len-eq1 t c =
    on_ok_weaker c.sweep_alone.result (λ s. subst (λ (T : Table). Swept c.args.left T c.args.inherited c.args.start c.args.runs.now.items c.sweep_alone.new.runs.items) (one_part c.args.left c.args.parts.items c.index.result.now c.index.result.now (omega (arith, c.len.ensures, c.if-len-eq1.true)) c.index.ensures) s) c.sweep_alone.ensures

pub returns-then-left-eq0 : goal.returns-then-left-eq0
returns-then-left-eq0 t c =
    let some : 0 < length c.args.parts.items = search rules in
    on_ok_weaker c.note-then-left-eq0.result
    (λ n. swept_address c.args.left c.args.inherited c.args.start c.index-then-left-eq0.result.now.hop c.args.parts.items c.args.runs.now.items c.note-then-left-eq0.new.runs.items c.if-left-eq0.true
    (first_hop c.args.parts.items c.index-then-left-eq0.result.now c.index-then-left-eq0.result.now some c.index-then-left-eq0.ensures) n) c.note-then-left-eq0.ensures

pub sweep-requires : goal.sweep-requires
sweep-requires t c =
    let e : c.args.left - 1 + 1 ≡ c.args.left = omega (arith, c.if-left-eq0.false) in
    let p : 2 ^ c.args.left ≡ 2 ^ (c.args.left - 1) + 2 ^ (c.args.left - 1) = sym (ap (λ (j : ℕ). 2 ^ j) e) ∙ double (c.args.left - 1) in
    let d : c.args.left ≡ t = c.decreases in
    (omega (arith, d, e), (omega (arith, c.requires.left), omega (arith, p, c.requires.fits)))

pub overflow_add-start : goal.overflow_add-start
overflow_add-start t c =
    let e : c.args.left - 1 + 1 ≡ c.args.left = omega (arith, c.if-left-eq0.false) in
    let p : 2 ^ c.args.left ≡ 2 ^ (c.args.left - 1) + 2 ^ (c.args.left - 1) = sym (ap (λ (j : ℕ). 2 ^ j) e) ∙ double (c.args.left - 1) in
    omega (arith, p, c.requires.fits, pow_pos (c.args.left - 1), one_shl (c.args.left - 1) 128 (omega (arith, c.requires.left)))

pub sweep-requires-2 : goal.sweep-requires-2
sweep-requires-2 t c =
    let e : c.args.left - 1 + 1 ≡ c.args.left = omega (arith, c.if-left-eq0.false) in
    let p : 2 ^ c.args.left ≡ 2 ^ (c.args.left - 1) + 2 ^ (c.args.left - 1) = sym (ap (λ (j : ℕ). 2 ^ j) e) ∙ double (c.args.left - 1) in
    let d : c.args.left ≡ t = c.decreases in
    let one = one_shl (c.args.left - 1) 128 (omega (arith, c.requires.left)) in
    (omega (arith, d, e), (omega (arith, c.requires.left), omega (arith, p, c.requires.fits, one)))

pub returns : goal.returns
returns t c =
    swept_region c.args.left (c.args.left - 1) c.args.start _ c.args.inherited c.unwrap_or-hop.result c.args.parts.items c.in_ok-halves.halves.low.items c.in_ok-halves.halves.high.items c.in_ok-halves.halves.own
    c.args.runs.now.items c.sweep.new.runs.items c.sweep-2.new.runs.items c.if-left-eq0.false refl
    (ap (λ (j : ℕ). c.args.start + j) (one_shl (c.args.left - 1) 128 (omega (arith, c.requires.left)))) c.in_ok-halves.ensures.own c.in_ok-halves.ensures.low c.in_ok-halves.ensures.high
    (c.unwrap_or-hop.ensures ∙ given_is c.in_ok-halves.halves.own c.args.inherited) c.in_ok-sweep.ensures c.in_ok-sweep-2.ensures
