use Rattle.std.proofs.Common.{◌≤◌, subst, refl}
use Rattle.table_model.specs.Width.{width}
use Rattle.table_model.specs.declared.family.Family.{Family}
use Rattle.fib_addr.specs.Views.{prefix_as}
use Rattle.orig_tree.specs.Spots.{spot_answers}
use Rattle.fib_addr.proofs.Prefixes.{prefix_length}
use Rattle.route_tries.proofs.Under.{counted_slots, counted_way}
use Rattle.route_tries.proofs.needs.need_at.Goals as goal

pub returns-then-prefix-direct : goal.returns-then-prefix-direct
returns-then-prefix-direct c =
    counted_way c.args.tree.now.family c.args.direct c.min-common.result c.args.prefix.now.len c.of_first-region.result.region.bits c.args.tree.now.routes (prefix_as c.args.prefix.now) (spot_answers c.of_first-region.result.region) c.count_slot.result c.requires.family (prefix_length c.args.prefix.now)
    (subst (λ (f : Family). c.args.prefix.now.len ≤ width f) c.requires.family c.args.prefix.now.fits) c.min-common.ensures c.requires.few c.of_first-region.ensures.bits c.of_first-region.ensures.answers
    c.path_bits.result _ c.path_bits.ensures c.if-prefix-direct.true refl c.count_slot.ensures.nodes c.count_slot.ensures.leaves

pub returns : goal.returns
returns c =
    counted_slots c.args.tree.now.family c.args.direct c.min-common.result c.args.prefix.now.len c.of_first-region.result.region.bits c.args.tree.now.routes (prefix_as c.args.prefix.now) (spot_answers c.of_first-region.result.region) c.count_words.result c.requires.family (prefix_length c.args.prefix.now)
    (subst (λ (f : Family). c.args.prefix.now.len ≤ width f) c.requires.family c.args.prefix.now.fits) c.min-common.ensures c.requires.few c.of_first-region.ensures.bits c.of_first-region.ensures.answers c.if-prefix-direct.false c.count_words.ensures.nodes c.count_words.ensures.leaves
