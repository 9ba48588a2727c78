use Rattle.std.proofs.Common.{◌≡◌, ◌∷◌, ◌++◌, ◌+◌, ◌-◌, [], length, replicate, append-nil, append_assoc, refl, sym, ap, ◌∙◌, arith}
use Rattle.std.proofs.lemmas.List.{replicate_more}
use Rattle.buddy_arena.proofs.arena.fill_up.Goals as goal

pub loop-i-init : goal.loop-i-init
loop-i-init g c =
    let e : c.len-i.result - length c.args.cells.now.items ≡ 0 = omega (arith, c.len-i.ensures, c.args.cells.now.ok.0) in
    record {
      items = sym (ap (λ k. c.args.cells.now.items ++ replicate k c.args.value) e ∙ append-nil c.args.cells.now.items);
      len = sym c.len-i.ensures;
      capacity = refl;
    }

pub loop-i-preserved : goal.loop-i-preserved
loop-i-preserved g c =
    let xs = c.args.cells.now.items in
    let k = c.loop-i.i - length xs in
    let e : k + 1 ≡ c.loop-i.i + 1 - length xs = omega (arith, c.loop-i.auto.i, c.len-i.ensures, c.args.cells.now.ok.0) in
    record {
      items = c.push_reserved.ensures.items ∙ (ap (λ r. r ++ c.args.value ∷ []) c.loop-i.invariant.items ∙ (append_assoc xs (replicate k c.args.value) (c.args.value ∷ []) ∙ (ap (λ r. xs ++ r) (replicate_more k c.args.value) ∙ ap (λ j. xs ++ replicate j c.args.value) e)));
      len = omega (arith, c.push_reserved.ensures.len, c.loop-i.invariant.len);
      capacity = c.push_reserved.ensures.capacity ∙ c.loop-i.invariant.capacity;
    }

pub returns-clause-items : goal.returns-clause-items
returns-clause-items g c =
    let e : c.loop-i.i ≡ c.args.end = omega (arith, c.loop-i-test.false, c.loop-i.auto.i-end (omega (arith, c.requires.from, c.len-i.ensures, c.args.cells.now.ok.0))) in
    c.loop-i.invariant.items ∙ ap (λ j. c.args.cells.now.items ++ replicate (j - length c.args.cells.now.items) c.args.value) e
