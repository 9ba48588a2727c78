use Rattle.std.proofs.Common.{ℕ, refl, sym, ap, subst, ◌∙◌, ◌^◌, false, arith, ◌+◌, ◌/◌}
use Rattle.std.specs.Int.Count.{count_trailing_zeros}
use Rattle.buddy_arena.specs.Space.{marked, blocks}
use Rattle.buddy_arena.specs.Masks.{ord, free_of}
use Rattle.buddy_arena.proofs.Masks.{free_len, ord_is}
use Rattle.buddy_arena.proofs.Totals.{few_free, one_each, taken_total}
use Rattle.buddy_arena.proofs.Calls.{none_above, none_from, least_at, marked_twice}
use Rattle.buddy_arena.proofs.Counts.{splits_same}
use Rattle.buddy_arena.proofs.Firsts.{IsCarved, carved}
use Rattle.buddy_arena.proofs.Others.{still_out, taken_apart}
use Rattle.buddy_arena.proofs.splits.take_from.Goals as goal

pub returns-then-order-base-clause-full : goal.returns-then-order-base-clause-full
returns-then-order-base-clause-full c = (refl, none_above c.args.base c.args.height c.args.masks.now c.requires.right c.args.order (omega (arith, ord_is c.args.base c.args.height)), c.largest_in-largest.ensures)

pub returns-then-above-eq0-clause-full : goal.returns-then-above-eq0-clause-full
returns-then-above-eq0-clause-full c = (refl, none_from c.args.base c.args.height c.args.masks.now c.requires.right c.args.order (ap (λ x. x / 2 ^ c.args.order) (sym c.mask_of.ensures) ∙ c.if-above-eq0.true), c.largest_in-largest-then-above-eq0.ensures)

pub carve-place-requires-clause-orders : goal.carve-place-requires-clause-orders
carve-place-requires-clause-orders c = (omega arith, c.requires.few.0, c.requires.few.1)

pub carve-place-requires-clause-has : goal.carve-place-requires-clause-has
carve-place-requires-clause-has c = (least_at c.args.base c.args.height c.args.masks.now c.requires.right c.args.order c.mask_of.result c.mask_of.ensures c.mask_of.type_inv c.if-above-eq0.false).there

pub returns-clause-ok : goal.returns-clause-ok
returns-clause-ok c =
    let l = least_at c.args.base c.args.height c.args.masks.now c.requires.right c.args.order c.mask_of.result c.mask_of.ensures c.mask_of.type_inv c.if-above-eq0.false in
    let r = subst (λ (p : ℕ). IsCarved (ord c.args.base c.args.height) (c.args.order + count_trailing_zeros 64 (c.mask_of.result / 2 ^ c.args.order)) c.args.order p (free_of c.args.base c.args.height c.args.masks.now)) (sym c.carve-place.ensures.place) (carved (ord c.args.base c.args.height) (c.args.order + count_trailing_zeros 64 (c.mask_of.result / 2 ^ c.args.order)) c.args.order (free_of c.args.base c.args.height c.args.masks.now) (free_len c.args.base c.args.height c.args.masks.now) l.from l.there) in (
      refl,
      record {
        chosen = ((c.args.order + count_trailing_zeros 64 (c.mask_of.result / 2 ^ c.args.order)), l, c.carve-place.ensures.place, splits_same c.args.order (c.args.order + count_trailing_zeros 64 (c.mask_of.result / 2 ^ c.args.order)) (blocks (ord c.args.base c.args.height) (free_of c.args.base c.args.height c.args.masks.now)) (blocks (ord c.args.base c.args.height) (marked c.carve-place.result (2 ^ c.args.order) false (free_of c.args.base c.args.height c.args.masks.now))) (blocks (ord c.args.base c.args.height) (free_of c.args.base c.args.height c.args.masks.now)) (blocks (ord c.args.base c.args.height) (free_of c.args.base c.args.height c.carve-place.new.s)) refl (ap (blocks (ord c.args.base c.args.height)) c.carve-place.ensures.free) r.splits);
        were = r.were;
        free = c.carve-place.ensures.free;
      },
    )

pub returns-clause-out : goal.returns-clause-out
returns-clause-out c =
    let l = least_at c.args.base c.args.height c.args.masks.now c.requires.right c.args.order c.mask_of.result c.mask_of.ensures c.mask_of.type_inv c.if-above-eq0.false in
    let r = subst (λ (p : ℕ). IsCarved (ord c.args.base c.args.height) (c.args.order + count_trailing_zeros 64 (c.mask_of.result / 2 ^ c.args.order)) c.args.order p (free_of c.args.base c.args.height c.args.masks.now)) (sym c.carve-place.ensures.place) (carved (ord c.args.base c.args.height) (c.args.order + count_trailing_zeros 64 (c.mask_of.result / 2 ^ c.args.order)) c.args.order (free_of c.args.base c.args.height c.args.masks.now) (free_len c.args.base c.args.height c.args.masks.now) l.from l.there) in
    record {
      aligned = r.aligned;
      small = omega (arith, ord_is c.args.base c.args.height);
      within = r.within;
      out = ap (marked c.carve-place.result (2 ^ c.args.order) false) c.carve-place.ensures.free ∙ marked_twice c.carve-place.result (2 ^ c.args.order) false (free_of c.args.base c.args.height c.args.masks.now) ∙ sym c.carve-place.ensures.free;
    }

pub returns-then-order-base-clause-few : goal.returns-then-order-base-clause-few
returns-then-order-base-clause-few c = λ o. few_free (ord c.args.base c.args.height) c.args.order (free_of c.args.base c.args.height c.args.masks.now) (free_len c.args.base c.args.height c.args.masks.now) (none_above c.args.base c.args.height c.args.masks.now c.requires.right c.args.order (omega (arith, ord_is c.args.base c.args.height))) o

pub returns-then-above-eq0-clause-few : goal.returns-then-above-eq0-clause-few
returns-then-above-eq0-clause-few c = λ o. few_free (ord c.args.base c.args.height) c.args.order (free_of c.args.base c.args.height c.args.masks.now) (free_len c.args.base c.args.height c.args.masks.now) (none_from c.args.base c.args.height c.args.masks.now c.requires.right c.args.order (ap (λ x. x / 2 ^ c.args.order) (sym c.mask_of.ensures) ∙ c.if-above-eq0.true)) o

pub returns-clause-total : goal.returns-clause-total
returns-clause-total c =
    let l = least_at c.args.base c.args.height c.args.masks.now c.requires.right c.args.order c.mask_of.result c.mask_of.ensures c.mask_of.type_inv c.if-above-eq0.false in
    let r = subst (λ (p : ℕ). IsCarved (ord c.args.base c.args.height) (c.args.order + count_trailing_zeros 64 (c.mask_of.result / 2 ^ c.args.order)) c.args.order p (free_of c.args.base c.args.height c.args.masks.now)) (sym c.carve-place.ensures.place) (carved (ord c.args.base c.args.height) (c.args.order + count_trailing_zeros 64 (c.mask_of.result / 2 ^ c.args.order)) c.args.order (free_of c.args.base c.args.height c.args.masks.now) (free_len c.args.base c.args.height c.args.masks.now) l.from l.there) in
    (omega arith, taken_total c.carve-place.result (2 ^ c.args.order) (free_of c.args.base c.args.height c.args.masks.now) (free_of c.args.base c.args.height c.carve-place.new.s) (omega (arith, free_len c.args.base c.args.height c.args.masks.now, r.within)) r.were c.carve-place.ensures.free)

pub returns-clause-fresh : goal.returns-clause-fresh
returns-clause-fresh c =
    let l = least_at c.args.base c.args.height c.args.masks.now c.requires.right c.args.order c.mask_of.result c.mask_of.ensures c.mask_of.type_inv c.if-above-eq0.false in
    let r = subst (λ (p : ℕ). IsCarved (ord c.args.base c.args.height) (c.args.order + count_trailing_zeros 64 (c.mask_of.result / 2 ^ c.args.order)) c.args.order p (free_of c.args.base c.args.height c.args.masks.now)) (sym c.carve-place.ensures.place) (carved (ord c.args.base c.args.height) (c.args.order + count_trailing_zeros 64 (c.mask_of.result / 2 ^ c.args.order)) c.args.order (free_of c.args.base c.args.height c.args.masks.now) (free_len c.args.base c.args.height c.args.masks.now) l.from l.there) in (
    one_each c.args.order (c.args.order + count_trailing_zeros 64 (c.mask_of.result / 2 ^ c.args.order)) (blocks (ord c.args.base c.args.height) (free_of c.args.base c.args.height c.args.masks.now)) (blocks (ord c.args.base c.args.height) (free_of c.args.base c.args.height c.carve-place.new.s)) l (splits_same c.args.order (c.args.order + count_trailing_zeros 64 (c.mask_of.result / 2 ^ c.args.order)) (blocks (ord c.args.base c.args.height) (free_of c.args.base c.args.height c.args.masks.now)) (blocks (ord c.args.base c.args.height) (marked c.carve-place.result (2 ^ c.args.order) false (free_of c.args.base c.args.height c.args.masks.now))) (blocks (ord c.args.base c.args.height) (free_of c.args.base c.args.height c.args.masks.now)) (blocks (ord c.args.base c.args.height) (free_of c.args.base c.args.height c.carve-place.new.s)) refl (ap (blocks (ord c.args.base c.args.height)) c.carve-place.ensures.free) r.splits))

pub returns-clause-still : goal.returns-clause-still
returns-clause-still c = λ p i o. still_out (ord c.args.base c.args.height) (free_of c.args.base c.args.height c.args.masks.now) (free_of c.args.base c.args.height c.carve-place.new.s) c.carve-place.result c.args.order p i (returns-clause-ok c).1 o

pub returns-clause-apart : goal.returns-clause-apart
returns-clause-apart c = λ p i o. taken_apart (ord c.args.base c.args.height) (ord c.args.base c.args.height) (free_of c.args.base c.args.height c.args.masks.now) (free_of c.args.base c.args.height c.carve-place.new.s) c.carve-place.result c.args.order p i refl (free_len c.args.base c.args.height c.args.masks.now) (returns-clause-ok c).1 (returns-clause-out c) o
