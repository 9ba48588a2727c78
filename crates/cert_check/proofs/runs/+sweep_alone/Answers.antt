use Rattle.std.proofs.Common.{◌≡◌, ◌-◌, ◌^◌, ◌+◌, ℕ, refl, sym, ap, ◌∙◌, arith}
use Rattle.std.proofs.lemmas.Result.{on_ok_weaker}
use Rattle.std.proofs.lemmas.Nat.{one_shl, pow_pos}
use Rattle.cert_check.proofs.Sweeps.{double}
use Rattle.cert_check.proofs.Alone.{alone_here, alone_address, alone_high, alone_low}
use Rattle.cert_check.proofs.runs.+sweep_alone.Goals as goal

pub returns-then-part-eq0 : goal.returns-then-part-eq0
returns-then-part-eq0 t c = on_ok_weaker c.note.result (λ n. alone_here c.args.left c.args.inherited c.args.start c.args.part.now c.args.runs.now.items c.note.new.runs.items c.if-part-eq0.true n) c.note.ensures

pub returns-then-left-eq0 : goal.returns-then-left-eq0
returns-then-left-eq0 t c =
    on_ok_weaker c.note-then-left-eq0.result (λ n. alone_address c.args.left c.args.inherited c.args.start c.args.part.now c.args.runs.now.items c.note-then-left-eq0.new.runs.items c.if-left-eq0.true n)
    c.note-then-left-eq0.ensures

pub overflow_add-middle : goal.overflow_add-middle
overflow_add-middle t c =
    let e : c.args.left - 1 + 1 ≡ c.args.left = omega (arith, c.if-left-eq0.false) in
    let p : 2 ^ c.args.left ≡ 2 ^ (c.args.left - 1) + 2 ^ (c.args.left - 1) = sym (ap (λ (j : ℕ). 2 ^ j) e) ∙ double (c.args.left - 1) in
    omega (arith, p, c.requires.fits, pow_pos (c.args.left - 1), one_shl (c.args.left - 1) 128 (omega (arith, c.requires.left)))

pub sweep_alone-requires : goal.sweep_alone-requires
sweep_alone-requires t c =
    let e : c.args.left - 1 + 1 ≡ c.args.left = omega (arith, c.if-left-eq0.false) in
    let p : 2 ^ c.args.left ≡ 2 ^ (c.args.left - 1) + 2 ^ (c.args.left - 1) = sym (ap (λ (j : ℕ). 2 ^ j) e) ∙ double (c.args.left - 1) in
    let d : c.args.left ≡ t = c.decreases in
    let one = one_shl (c.args.left - 1) 128 (omega (arith, c.requires.left)) in
    (omega (arith, d, e), (omega (arith, c.requires.left), omega (arith, p, c.requires.fits, one)))

pub sweep_alone-requires-else-bit_at : goal.sweep_alone-requires-else-bit_at
sweep_alone-requires-else-bit_at t c =
    let e : c.args.left - 1 + 1 ≡ c.args.left = omega (arith, c.if-left-eq0.false) in
    let p : 2 ^ c.args.left ≡ 2 ^ (c.args.left - 1) + 2 ^ (c.args.left - 1) = sym (ap (λ (j : ℕ). 2 ^ j) e) ∙ double (c.args.left - 1) in
    let d : c.args.left ≡ t = c.decreases in
    (omega (arith, d, e), (omega (arith, c.requires.left), omega (arith, p, c.requires.fits)))

pub returns-in_ok-sweep_alone : goal.returns-in_ok-sweep_alone
returns-in_ok-sweep_alone t c =
    alone_high c.args.left (c.args.left - 1) c.args.start _ c.args.inherited c.args.part.now _ c.args.runs.now.items c.note-then-bit_at.new.runs.items c.sweep_alone.new.runs.items c.if-left-eq0.false refl
    (ap (λ (j : ℕ). c.args.start + j) (one_shl (c.args.left - 1) 128 (omega (arith, c.requires.left)))) c.if-part-eq0.false refl c.if-bit_at.ensures c.in_ok-note.ensures c.in_ok-sweep_alone.ensures

pub returns-in_ok-note-2 : goal.returns-in_ok-note-2
returns-in_ok-note-2 t c =
    alone_low c.args.left (c.args.left - 1) c.args.start _ c.args.inherited c.args.part.now _ c.args.runs.now.items c.sweep_alone-else-bit_at.new.runs.items c.note-else-bit_at.new.runs.items c.if-left-eq0.false refl
    (ap (λ (j : ℕ). c.args.start + j) (one_shl (c.args.left - 1) 128 (omega (arith, c.requires.left)))) c.if-part-eq0.false refl c.if-bit_at.ensures c.in_ok-sweep_alone-2.ensures c.in_ok-note-2.ensures
