use Rattle.std.proofs.Common.{◌≡◌, ◌^◌, sym, ◌∙◌, inl, inr}
use Rattle.std.specs.Prelude.{bit_or}
use Rattle.buddy_arena.specs.Masks.{ord}
use Rattle.buddy_arena.proofs.Steps.{at_pow, top_pow, or_of}
use Rattle.buddy_arena.proofs.Gives.{merged, unmerged}
use Rattle.buddy_arena.proofs.merges.rejoin.Goals as goal

pub make_bare-requires-clause-bare : goal.make_bare-requires-clause-bare
make_bare-requires-clause-bare c = sym c.mask_of-x.ensures ∙ c.if-x-whole.true ∙ c.whole_mask-whole.ensures ∙ at_pow c.args.base c.args.at

pub make_bare-requires-then-y-whole-clause-bare : goal.make_bare-requires-then-y-whole-clause-bare
make_bare-requires-then-y-whole-clause-bare c = sym c.mask_of-y.ensures ∙ c.if-y-whole.true ∙ c.whole_mask-whole.ensures ∙ at_pow c.args.base c.args.at

pub returns-then-y-whole-clause-right : goal.returns-then-y-whole-clause-right
returns-then-y-whole-clause-right c =
    (merged c.args.base c.args.at c.whole_mask.result c.args.low.now c.args.high.now c.make_bare.new.s c.make_bare-then-y-whole.new.s (c.whole_mask.ensures ∙ top_pow c.args.base c.args.at) c.requires.right.0 c.requires.right.1
    (sym c.mask_of-x.ensures ∙ c.if-x-whole.true ∙ c.whole_mask-whole.ensures ∙ at_pow c.args.base c.args.at) (sym c.mask_of-y.ensures ∙ c.if-y-whole.true ∙ c.whole_mask-whole.ensures ∙ at_pow c.args.base c.args.at) c.make_bare.ensures.right c.make_bare-then-y-whole.ensures.right c.make_bare.ensures.root c.make_bare-then-y-whole.ensures.root).0

pub returns-then-y-whole-clause-free : goal.returns-then-y-whole-clause-free
returns-then-y-whole-clause-free c =
    (merged c.args.base c.args.at c.whole_mask.result c.args.low.now c.args.high.now c.make_bare.new.s c.make_bare-then-y-whole.new.s (c.whole_mask.ensures ∙ top_pow c.args.base c.args.at) c.requires.right.0 c.requires.right.1
    (sym c.mask_of-x.ensures ∙ c.if-x-whole.true ∙ c.whole_mask-whole.ensures ∙ at_pow c.args.base c.args.at) (sym c.mask_of-y.ensures ∙ c.if-y-whole.true ∙ c.whole_mask-whole.ensures ∙ at_pow c.args.base c.args.at) c.make_bare.ensures.right c.make_bare-then-y-whole.ensures.right c.make_bare.ensures.root c.make_bare-then-y-whole.ensures.root).1

pub returns-clause-right : goal.returns-clause-right
returns-clause-right c =
    (unmerged c.args.base c.args.at (bit_or c.mask_of-x.result c.mask_of-y.result) c.args.low.now c.args.high.now c.requires.right.0 c.requires.right.1 (or_of _ _ c.mask_of-x.result c.mask_of-y.result c.mask_of-x.ensures c.mask_of-y.ensures)
    (λ u v.
    let w : c.whole_mask-whole.result ≡ 2 ^ ord c.args.base c.args.at = c.whole_mask-whole.ensures ∙ at_pow c.args.base c.args.at in
    elim c.else-x-whole.either [ inl h ↦ h.1 (c.mask_of-y.ensures ∙ v ∙ sym w) | inr h ↦ h (c.mask_of-x.ensures ∙ u ∙ sym w) ])).0

pub returns-clause-free : goal.returns-clause-free
returns-clause-free c =
    (unmerged c.args.base c.args.at (bit_or c.mask_of-x.result c.mask_of-y.result) c.args.low.now c.args.high.now c.requires.right.0 c.requires.right.1 (or_of _ _ c.mask_of-x.result c.mask_of-y.result c.mask_of-x.ensures c.mask_of-y.ensures)
    (λ u v.
    let w : c.whole_mask-whole.result ≡ 2 ^ ord c.args.base c.args.at = c.whole_mask-whole.ensures ∙ at_pow c.args.base c.args.at in
    elim c.else-x-whole.either [ inl h ↦ h.1 (c.mask_of-y.ensures ∙ v ∙ sym w) | inr h ↦ h (c.mask_of-x.ensures ∙ u ∙ sym w) ])).1
