use Rattle.std.proofs.Common.{rules, arith, ◌≡◌, ◌+◌, ◌-◌, ◌*◌, ◌<◌, Option, Some, None, ℕ, List, Bool, set, refl, sym, ap, ◌∙◌, subst}
use Rattle.std.proofs.lemmas.Result.{err_from_is_err_and}
use Rattle.poptrie_build.specs.Strides.{slots, slot}
use Rattle.poptrie_build.specs.Stands.{blank}
use Rattle.poptrie_build.specs.Making.{slot_kind}
use Rattle.poptrie_build.proofs.Counting.{canonical_same, children_same, runs_same, kinds_agree, six_bits, descended_slot}
use Rattle.poptrie_build.proofs.Going.{child_none}
use Rattle.path_copying.specs.Kids.{kid_in}
use Rattle.path_copying.specs.Ways.{bits_left, IsOldSlot}
use Rattle.path_copying.proofs.Beside.{old_below, slot_child, slot_kid}
use Rattle.path_copying.specs.Changes.{Replaces}
use Rattle.path_copying.specs.Written.{Matches, WritesCells}
use Rattle.poptrie_build.specs.declared.node.Node.{Node}
use Rattle.path_copying.proofs.Gaining.{gains_none, gains_then, gains_written, only_none}
use Rattle.path_copying.proofs.Renewing.{copying_start, copying_next, copying_end, block_out}
use Rattle.path_copying.specs.Asks.{MeetsAll, MeetsNotAll, MeetsNotChanged}
use Rattle.path_copying.specs.declared.blocks.Refusal.{Refusal}
use Rattle.path_copying.proofs.Asked.{Changes, asked_start, asked_next, asked_end, asked_out, children_out, leaves_refused, meets_uniform, meets_same, meets_copied, refused_copied, changes_node, changes_none}
use Rattle.path_copying.proofs.Sharing.{replaces_shared, replaces_nothing, replaces_gone, replaces_at, kid_bits}
use Rattle.path_copying.proofs.copying.+copies.Goals.{copy_slot-in-Some-was-2+else-is_child_same, copy_slot-in_default-was}
use Rattle.path_copying.proofs.copying.+copies.Goals as goal

pub copy_node-returns-in_err-open_node-clause-nodes : goal.copy_node-returns-in_err-open_node-clause-nodes
copy_node-returns-in_err-open_node-clause-nodes g t c = gains_none blank c.args.arenas.now.nodes c.args.arenas.now.node_blocks c.open_node.new.node_blocks c.requires.nodes_sized c.open_node.ensures.nodes

pub copy_node-returns-in_err-open_node-clause-leaves : goal.copy_node-returns-in_err-open_node-clause-leaves
copy_node-returns-in_err-open_node-clause-leaves g t c = gains_none 0 c.args.arenas.now.leaves c.args.arenas.now.leaf_blocks c.open_node.new.leaf_blocks c.requires.leaves_sized c.open_node.ensures.leaves

pub copy_node-returns-in-Err-clause-nodes : goal.copy_node-returns-in-Err-clause-nodes
copy_node-returns-in-Err-clause-nodes g t c =
    gains_then blank c.args.arenas.now.nodes c.args.arenas.now.nodes c.take_block.new.arena c.args.arenas.now.node_blocks c.open_node.new.node_blocks c.take_block.new.blocks
    (gains_none blank c.args.arenas.now.nodes c.args.arenas.now.node_blocks c.open_node.new.node_blocks c.requires.nodes_sized c.open_node.ensures.nodes) (c.take_block.ensures.gains blank)

pub copy_node-returns-in-Err-clause-leaves : goal.copy_node-returns-in-Err-clause-leaves
copy_node-returns-in-Err-clause-leaves g t c = gains_none 0 c.args.arenas.now.leaves c.args.arenas.now.leaf_blocks c.open_node.new.leaf_blocks c.requires.leaves_sized c.open_node.ensures.leaves

pub copy_node-returns-in-Err-take_block-clause-nodes : goal.copy_node-returns-in-Err-take_block-clause-nodes
copy_node-returns-in-Err-take_block-clause-nodes g t c =
    gains_then blank c.args.arenas.now.nodes c.args.arenas.now.nodes c.take_block.new.arena c.args.arenas.now.node_blocks c.open_node.new.node_blocks c.take_block.new.blocks
    (gains_none blank c.args.arenas.now.nodes c.args.arenas.now.node_blocks c.open_node.new.node_blocks c.requires.nodes_sized c.open_node.ensures.nodes) (c.take_block.ensures.gains blank)

pub copy_node-returns-in-Err-take_block-clause-leaves : goal.copy_node-returns-in-Err-take_block-clause-leaves
copy_node-returns-in-Err-take_block-clause-leaves g t c =
    gains_then 0 c.args.arenas.now.leaves c.args.arenas.now.leaves c.take_block-2.new.arena c.args.arenas.now.leaf_blocks c.open_node.new.leaf_blocks c.take_block-2.new.blocks
    (gains_none 0 c.args.arenas.now.leaves c.args.arenas.now.leaf_blocks c.open_node.new.leaf_blocks c.requires.leaves_sized c.open_node.ensures.leaves) (c.take_block-2.ensures.gains 0)

pub copy_node-loop-slot-init : goal.copy_node-loop-slot-init
copy_node-loop-slot-init g t c = (
  copying_start (g.R.Region.bits c.args.region.now) (bits_left c.args.way.now) (g.R.Region.answers c.args.region.now) c.ask.new.slots c.args.was c.args.arenas.now.nodes c.args.arenas.now.node_blocks c.args.arenas.now.leaves c.args.arenas.now.leaf_blocks c.open_node.new.node_blocks c.open_node.new.leaf_blocks c.take_block.new.arena c.take_block.new.blocks c.take_block-2.new.arena c.take_block-2.new.blocks c.open_node.new.kids c.in-Ok.base c.make_vectors-made.result.nodes c.in-Ok-take_block.base c.make_vectors-made.result.leaves
      c.open_node.ensures.many c.requires.was c.open_node.ensures.kids c.in_ok-open_node.ensures.children c.in_ok-open_node.ensures.leaf (c.take_block.ensures.gains blank) (c.take_block-2.ensures.gains 0) c.take_block.ensures.replaced c.take_block-2.ensures.replaced c.take_block.ensures.cells
      c.in-Ok.ensures.takes c.in-Ok-take_block.ensures.takes c.in-Ok.ensures.aligned c.in-Ok-take_block.ensures.aligned c.in-Ok.ensures.left c.in-Ok-take_block.ensures.left,
  asked_start (g.R.Region.bits c.args.region.now) (g.R.Region.answers c.args.region.now) c.make_vectors-made.result.nodes c.make_vectors-made.result.leaves c.args.was c.args.arenas.now.nodes c.args.arenas.now.leaves c.take_block.new.arena c.take_block-2.new.arena c.open_node.new.kids c.open_node.ensures.kids (c.take_block.ensures.gains blank).keeps (c.take_block-2.ensures.gains 0).keeps
      (c.take_block.ensures.gains blank).order (c.take_block-2.ensures.gains 0).order c.in-Ok.ensures.met c.in-Ok-take_block.ensures.met,
)

pub copy_node-returns-in_err-kids-clause-nodes : goal.copy_node-returns-in_err-kids-clause-nodes
copy_node-returns-in_err-kids-clause-nodes g t c =
    gains_then blank c.args.arenas.now.nodes c.args.arenas.now.nodes c.copy_slot.new.arenas.nodes c.args.arenas.now.node_blocks c.open_node.new.node_blocks c.copy_slot.new.arenas.node_blocks
    (gains_none blank c.args.arenas.now.nodes c.args.arenas.now.node_blocks c.open_node.new.node_blocks c.requires.nodes_sized c.open_node.ensures.nodes)
    (gains_then blank c.args.arenas.now.nodes c.take_block.new.arena c.copy_slot.new.arenas.nodes c.open_node.new.node_blocks c.take_block.new.blocks c.copy_slot.new.arenas.node_blocks (c.take_block.ensures.gains blank)
    (gains_then blank c.take_block.new.arena c.loop-slot.arenas.nodes c.copy_slot.new.arenas.nodes c.take_block.new.blocks c.loop-slot.arenas.node_blocks c.copy_slot.new.arenas.node_blocks c.loop-slot.invariant.0.nodes c.copy_slot.ensures.nodes))

pub copy_node-returns-in_err-kids-clause-leaves : goal.copy_node-returns-in_err-kids-clause-leaves
copy_node-returns-in_err-kids-clause-leaves g t c =
    gains_then 0 c.args.arenas.now.leaves c.args.arenas.now.leaves c.copy_slot.new.arenas.leaves c.args.arenas.now.leaf_blocks c.open_node.new.leaf_blocks c.copy_slot.new.arenas.leaf_blocks
    (gains_none 0 c.args.arenas.now.leaves c.args.arenas.now.leaf_blocks c.open_node.new.leaf_blocks c.requires.leaves_sized c.open_node.ensures.leaves)
    (gains_then 0 c.args.arenas.now.leaves c.take_block-2.new.arena c.copy_slot.new.arenas.leaves c.open_node.new.leaf_blocks c.take_block-2.new.blocks c.copy_slot.new.arenas.leaf_blocks (c.take_block-2.ensures.gains 0)
    (gains_then 0 c.take_block-2.new.arena c.loop-slot.arenas.leaves c.copy_slot.new.arenas.leaves c.take_block-2.new.blocks c.loop-slot.arenas.leaf_blocks c.copy_slot.new.arenas.leaf_blocks c.loop-slot.invariant.0.leaves c.copy_slot.ensures.leaves))

pub copy_node-copy_slot-requires : goal.copy_node-copy_slot-requires
copy_node-copy_slot-requires g t c κs within =
    let d = g.R.Region.bits c.args.region.now in
    let a = kinds_agree d (g.R.Region.answers c.args.region.now) c.ask.new.slots c.ask.ensures in
    let less : 2 * g.R.Region.bits c.args.region.now < 2 * g.R.Region.bits c.args.region.now + 1 = omega arith in
    let w = c.loop-slot.invariant.0 in (
      search (rules, less),
      (
        search rules,
        (
          c.loop-slot-test.true,
          (
            ap (slot_kind c.ask.new.slots) c.from-at.ensures ∙ a c.loop-slot.slot c.loop-slot-test.true,
            (
              c.requires.way,
              (
                w.nodes.sized,
                (
                  w.leaves.sized,
                  ((let x = c.take_block.ensures.gains blank in omega (arith, w.nodes.time, x.time, c.open_node.ensures.nodes.time, c.requires.nodes_time)), ((let x = c.take_block-2.ensures.gains 0 in omega (arith, w.leaves.time, x.time, c.open_node.ensures.leaves.time, c.requires.leaves_time)), subst (λ (i : ℕ). IsOldSlot c.loop-slot.arenas.nodes c.loop-slot.arenas.leaves (kid_in c.loop-slot.kids i) c.loop-slot.slot (bits_left c.args.way.now) (g.R.Region.bits c.args.region.now) (g.R.Region.answers c.args.region.now)) (sym c.from-at.ensures) (w.rest c.loop-slot.slot (omega arith) c.loop-slot-test.true))),
                ),
              ),
            ),
          ),
        ),
      ),
    )

pub copy_node-loop-slot-preserved : goal.copy_node-loop-slot-preserved
copy_node-loop-slot-preserved g t c =
    let w = c.loop-slot.invariant.0 in (
      copying_next (g.R.Region.bits c.args.region.now) (bits_left c.args.way.now) (g.R.Region.answers c.args.region.now) c.ask.new.slots c.args.was c.args.arenas.now.nodes c.args.arenas.now.node_blocks c.args.arenas.now.leaves c.args.arenas.now.leaf_blocks c.take_block.new.arena c.take_block.new.blocks c.take_block-2.new.arena c.take_block-2.new.blocks
          c.loop-slot.arenas.nodes c.loop-slot.arenas.node_blocks c.loop-slot.arenas.leaves c.loop-slot.arenas.leaf_blocks c.loop-slot.kids (set c.loop-slot.kids c.from-at.result c.in_ok-kids.field-0) c.in-Ok.base c.make_vectors-made.result.nodes c.in-Ok-take_block.base c.make_vectors-made.result.leaves c.loop-slot.slot
          c.copy_slot.new.arenas.nodes c.copy_slot.new.arenas.node_blocks c.copy_slot.new.arenas.leaves c.copy_slot.new.arenas.leaf_blocks c.in_ok-kids.field-0
          c.loop-slot-test.true (ap (λ i. set c.loop-slot.kids i c.in_ok-kids.field-0) c.from-at.ensures)
          (gains_then blank c.take_block.new.arena c.loop-slot.arenas.nodes c.copy_slot.new.arenas.nodes c.take_block.new.blocks c.loop-slot.arenas.node_blocks c.copy_slot.new.arenas.node_blocks w.nodes c.copy_slot.ensures.nodes)
          (gains_then 0 c.take_block-2.new.arena c.loop-slot.arenas.leaves c.copy_slot.new.arenas.leaves c.take_block-2.new.blocks c.loop-slot.arenas.leaf_blocks c.copy_slot.new.arenas.leaf_blocks w.leaves c.copy_slot.ensures.leaves)
          c.copy_slot.ensures.nodes c.copy_slot.ensures.leaves
          (subst (λ (i : ℕ). Matches (slot_kind c.ask.new.slots i) c.in_ok-kids.field-0) c.from-at.ensures c.in_ok-kids.ensures.kind)
          (subst (λ (i : ℕ). Replaces c.loop-slot.arenas.nodes c.loop-slot.arenas.node_blocks c.loop-slot.arenas.leaves c.loop-slot.arenas.leaf_blocks (kid_in c.loop-slot.kids i) c.copy_slot.new.arenas.nodes c.copy_slot.new.arenas.node_blocks c.copy_slot.new.arenas.leaves c.copy_slot.new.arenas.leaf_blocks c.in_ok-kids.field-0 (g.R.Region.bits c.args.region.now - 6) (slot (g.R.Region.bits c.args.region.now) (g.R.Region.answers c.args.region.now) c.loop-slot.slot)) c.from-at.ensures c.in_ok-kids.ensures.replaces)
          w,
      asked_next (g.R.Region.bits c.args.region.now) (g.R.Region.answers c.args.region.now) c.make_vectors-made.result.nodes c.make_vectors-made.result.leaves c.args.was c.args.arenas.now.nodes c.args.arenas.now.leaves c.loop-slot.arenas.nodes c.loop-slot.arenas.leaves c.loop-slot.kids c.loop-slot.slot (set c.loop-slot.kids c.from-at.result c.in_ok-kids.field-0) c.in_ok-kids.field-0 c.copy_slot.new.arenas.nodes c.copy_slot.new.arenas.leaves
          c.loop-slot-test.true (ap (λ i. set c.loop-slot.kids i c.in_ok-kids.field-0) c.from-at.ensures) c.copy_slot.ensures.nodes.keeps c.copy_slot.ensures.leaves.keeps c.copy_slot.ensures.nodes.order c.copy_slot.ensures.leaves.order
          (subst (λ (i : ℕ). MeetsAll c.loop-slot.arenas.nodes c.loop-slot.arenas.leaves (kid_in c.loop-slot.kids i) c.copy_slot.new.arenas.nodes c.copy_slot.new.arenas.leaves (g.R.Region.bits c.args.region.now - 6) (slot (g.R.Region.bits c.args.region.now) (g.R.Region.answers c.args.region.now) c.loop-slot.slot)) c.from-at.ensures c.in_ok-kids.ensures.met)
          c.loop-slot.invariant.1,
    )

pub copy_node-write_slots-requires-clause-nodes_out : goal.copy_node-write_slots-requires-clause-nodes_out
copy_node-write_slots-requires-clause-nodes_out g t c = block_out blank c.take_block.new.arena c.loop-slot.arenas.nodes c.take_block.new.blocks c.loop-slot.arenas.node_blocks c.in-Ok.base c.make_vectors-made.result.nodes _ _ c.in-Ok.ensures.takes c.loop-slot.invariant.0.nodes c.make_vectors-made.ensures.nodes

pub copy_node-write_slots-requires-clause-leaves_out : goal.copy_node-write_slots-requires-clause-leaves_out
copy_node-write_slots-requires-clause-leaves_out g t c = block_out 0 c.take_block-2.new.arena c.loop-slot.arenas.leaves c.take_block-2.new.blocks c.loop-slot.arenas.leaf_blocks c.in-Ok-take_block.base c.make_vectors-made.result.leaves _ _ c.in-Ok-take_block.ensures.takes c.loop-slot.invariant.0.leaves c.make_vectors-made.ensures.leaves

pub copy_slot-overflow_sub-way : goal.copy_slot-overflow_sub-way
copy_slot-overflow_sub-way g t c = let l = kid_bits c.args.arenas.now.nodes c.args.arenas.now.leaves c.args.was c.in-Some-was.node (g.R.Region.bits c.args.region.now - 6) c.in-Some-was.is (c.requires.was.0, slot (g.R.Region.bits c.args.region.now) c.requires.was.1 c.args.slot, c.requires.was.2) in omega (arith, l, c.requires.way)

pub copy_slot-copy_node-requires : goal.copy_slot-copy_node-requires
copy_slot-copy_node-requires g t c κs within =
    let none : None ≡ slots (g.R.Region.bits c.args.region.now) (g.R.Region.answers c.args.region.now) c.args.slot = sym c.in-None.is ∙ c.requires.kind in
    let down = descended_slot (g.R.Region.bits c.args.region.now) c.args.slot (g.R.Region.bits c.descend-child.result) (g.R.Region.answers c.args.region.now) (g.R.Region.answers c.descend-child.result) c.descend-child.ensures.bits c.descend-child.ensures.answers in
    let one = child_none (g.R.Region.bits c.args.region.now) (g.R.Region.bits c.descend-child.result) c.args.slot (g.R.Region.answers c.args.region.now) (g.R.Region.answers c.descend-child.result) down.0 down.1 none in
    let less : 2 * g.R.Region.bits c.descend-child.result + 1 < 2 * g.R.Region.bits c.args.region.now = omega (arith, c.descend-child.ensures.bits) in
    let was_is : c.match-was-2.was ≡ c.args.was = elim c.match-was-2.branch [
      | copy_slot-in-Some-was-2+else-is_child_same w ↦ w.was-is ∙ sym w.in-Some-was-2.is
      | copy_slot-in_default-was w ↦ w.was-is
    ] in (
      search (rules, less),
      (
        search rules,
        (
          one,
          (
            omega (arith, c.requires.way, c.below.ensures.bits, down.0),
            (
              c.requires.nodes_sized,
              (
                c.requires.leaves_sized,
                (
                  c.requires.nodes_time,
                  (
                    c.requires.leaves_time,
                    old_below c.args.way.now c.below.result c.args.arenas.now.nodes c.args.arenas.now.leaves c.match-was-2.was c.args.was c.args.slot (g.R.Region.bits c.args.region.now) (g.R.Region.bits c.descend-child.result) (g.R.Region.answers c.args.region.now) (g.R.Region.answers c.descend-child.result) was_is c.below.ensures.prefix c.below.ensures.bits c.requires.way (six_bits (g.R.Region.bits c.args.region.now) c.args.slot (g.R.Region.answers c.args.region.now) none) down.0 down.1 c.requires.was,
                  ),
                ),
              ),
            ),
          ),
        ),
      ),
    )

pub copy_node-returns-clause-nodes : goal.copy_node-returns-clause-nodes
copy_node-returns-clause-nodes g t c =
    gains_written blank c.args.arenas.now.nodes c.loop-slot.arenas.nodes c.write_slots.new.nodes c.args.arenas.now.node_blocks c.loop-slot.arenas.node_blocks c.in-Ok.base c.make_vectors-made.result.nodes _ _
    (gains_then blank c.args.arenas.now.nodes c.args.arenas.now.nodes c.loop-slot.arenas.nodes c.args.arenas.now.node_blocks c.open_node.new.node_blocks c.loop-slot.arenas.node_blocks
    (gains_none blank c.args.arenas.now.nodes c.args.arenas.now.node_blocks c.open_node.new.node_blocks c.requires.nodes_sized c.open_node.ensures.nodes)
    (gains_then blank c.args.arenas.now.nodes c.take_block.new.arena c.loop-slot.arenas.nodes c.open_node.new.node_blocks c.take_block.new.blocks c.loop-slot.arenas.node_blocks (c.take_block.ensures.gains blank) c.loop-slot.invariant.0.nodes))
    c.in-Ok.ensures.takes (subst (λ (n : ℕ). WritesCells blank c.in-Ok.base n c.loop-slot.arenas.nodes c.write_slots.new.nodes) (sym c.make_vectors-made.ensures.nodes) c.write_slots.ensures.nodes)

pub copy_node-returns-clause-leaves : goal.copy_node-returns-clause-leaves
copy_node-returns-clause-leaves g t c =
    gains_written 0 c.args.arenas.now.leaves c.loop-slot.arenas.leaves c.write_slots.new.leaves c.args.arenas.now.leaf_blocks c.loop-slot.arenas.leaf_blocks c.in-Ok-take_block.base c.make_vectors-made.result.leaves _ _
    (gains_then 0 c.args.arenas.now.leaves c.args.arenas.now.leaves c.loop-slot.arenas.leaves c.args.arenas.now.leaf_blocks c.open_node.new.leaf_blocks c.loop-slot.arenas.leaf_blocks
    (gains_none 0 c.args.arenas.now.leaves c.args.arenas.now.leaf_blocks c.open_node.new.leaf_blocks c.requires.leaves_sized c.open_node.ensures.leaves)
    (gains_then 0 c.args.arenas.now.leaves c.take_block-2.new.arena c.loop-slot.arenas.leaves c.open_node.new.leaf_blocks c.take_block-2.new.blocks c.loop-slot.arenas.leaf_blocks (c.take_block-2.ensures.gains 0) c.loop-slot.invariant.0.leaves))
    c.in-Ok-take_block.ensures.takes (subst (λ (n : ℕ). WritesCells 0 c.in-Ok-take_block.base n c.loop-slot.arenas.leaves c.write_slots.new.leaves) (sym c.make_vectors-made.ensures.leaves) c.write_slots.ensures.leaves)

pub copy_node-returns-clause-replaces : goal.copy_node-returns-clause-replaces
copy_node-returns-clause-replaces g t c =
    let d = g.R.Region.bits c.args.region.now in
    let f = g.R.Region.answers c.args.region.now in
    let a = kinds_agree (g.R.Region.bits c.args.region.now) (g.R.Region.answers c.args.region.now) c.ask.new.slots c.ask.ensures in
    let can = canonical_same c.make_vectors-made.result.vector c.make_vectors-made.result.leafvec (slot_kind c.ask.new.slots) (slots (g.R.Region.bits c.args.region.now) (g.R.Region.answers c.args.region.now)) a c.make_vectors-made.ensures.canonical in
    let cs = children_same c.make_vectors-made.result.nodes (slot_kind c.ask.new.slots) (slots (g.R.Region.bits c.args.region.now) (g.R.Region.answers c.args.region.now)) a c.make_vectors-made.ensures.nodes in
    let es = runs_same c.make_vectors-made.result.leaves (slot_kind c.ask.new.slots) (slots (g.R.Region.bits c.args.region.now) (g.R.Region.answers c.args.region.now)) a c.make_vectors-made.ensures.leaves in
    copying_end (g.R.Region.bits c.args.region.now) (bits_left c.args.way.now) (g.R.Region.answers c.args.region.now) c.ask.new.slots c.args.was c.args.arenas.now.nodes c.args.arenas.now.node_blocks c.args.arenas.now.leaves c.args.arenas.now.leaf_blocks c.take_block.new.arena c.take_block.new.blocks c.take_block-2.new.arena c.take_block-2.new.blocks
    c.loop-slot.arenas.nodes c.loop-slot.arenas.node_blocks c.loop-slot.arenas.leaves c.loop-slot.arenas.leaf_blocks c.loop-slot.kids c.in-Ok.base c.make_vectors-made.result.nodes c.in-Ok-take_block.base c.make_vectors-made.result.leaves c.loop-slot.slot c.make_vectors-made.result.vector c.make_vectors-made.result.leafvec c.write_slots.new.nodes c.write_slots.new.leaves
    c.loop-slot-test.false c.requires.mixed a can c.make_vectors-made.ensures.nodes cs c.make_vectors-made.ensures.leaves es c.write_slots.ensures.nodes c.write_slots.ensures.leaves c.write_slots.ensures.children c.write_slots.ensures.leaf
    (block_out blank c.take_block.new.arena c.loop-slot.arenas.nodes c.take_block.new.blocks c.loop-slot.arenas.node_blocks c.in-Ok.base c.make_vectors-made.result.nodes _ _ c.in-Ok.ensures.takes c.loop-slot.invariant.0.nodes c.make_vectors-made.ensures.nodes)
    c.loop-slot.invariant.0

pub copy_slot-returns-in_err-set_aside_all-in-Some-clause-nodes : goal.copy_slot-returns-in_err-set_aside_all-in-Some-clause-nodes
copy_slot-returns-in_err-set_aside_all-in-Some-clause-nodes g t c = gains_none blank c.args.arenas.now.nodes c.args.arenas.now.node_blocks c.set_aside_all.new.node_blocks c.requires.nodes_sized c.set_aside_all.ensures.nodes

pub copy_slot-returns-in_err-set_aside_all-in-Some-clause-leaves : goal.copy_slot-returns-in_err-set_aside_all-in-Some-clause-leaves
copy_slot-returns-in_err-set_aside_all-in-Some-clause-leaves g t c = gains_none 0 c.args.arenas.now.leaves c.args.arenas.now.leaf_blocks c.set_aside_all.new.leaf_blocks c.requires.leaves_sized c.set_aside_all.ensures.leaves

pub copy_slot-descend-child-requires-clause-fits : goal.copy_slot-descend-child-requires-clause-fits
copy_slot-descend-child-requires-clause-fits g t c =
    let none : None ≡ slots (g.R.Region.bits c.args.region.now) (g.R.Region.answers c.args.region.now) c.args.slot = sym c.in-None.is ∙ c.requires.kind in
    six_bits (g.R.Region.bits c.args.region.now) c.args.slot (g.R.Region.answers c.args.region.now) none

pub copy_slot-is_child_same-requires-clause-child : goal.copy_slot-is_child_same-requires-clause-child
copy_slot-is_child_same-requires-clause-child g t c = slot_child c.args.arenas.now.nodes c.args.arenas.now.leaves c.args.was c.in-Some-was-2.node c.args.slot (bits_left c.args.way.now) (g.R.Region.bits c.args.region.now) (g.R.Region.answers c.args.region.now) c.in-Some-was-2.is c.requires.was

pub copy_slot-returns-then-is_child_same-clause-nodes : goal.copy_slot-returns-then-is_child_same-clause-nodes
copy_slot-returns-then-is_child_same-clause-nodes g t c = gains_none blank c.args.arenas.now.nodes c.args.arenas.now.node_blocks c.args.arenas.now.node_blocks c.requires.nodes_sized (only_none c.args.arenas.now.node_blocks)

pub copy_slot-returns-then-is_child_same-clause-leaves : goal.copy_slot-returns-then-is_child_same-clause-leaves
copy_slot-returns-then-is_child_same-clause-leaves g t c = gains_none 0 c.args.arenas.now.leaves c.args.arenas.now.leaf_blocks c.args.arenas.now.leaf_blocks c.requires.leaves_sized (only_none c.args.arenas.now.leaf_blocks)

pub copy_slot-returns-then-is_child_same-clause-replaces : goal.copy_slot-returns-then-is_child_same-clause-replaces
copy_slot-returns-then-is_child_same-clause-replaces g t c =
    replaces_shared c.args.arenas.now.nodes c.args.arenas.now.node_blocks c.args.arenas.now.leaves c.args.arenas.now.leaf_blocks c.args.was c.in-Some-was-2.node (g.R.Region.bits c.args.region.now - 6) (g.R.Region.bits c.args.region.now - 6)
    (slot (g.R.Region.bits c.args.region.now) (g.R.Region.answers c.args.region.now) c.args.slot) (slot (g.R.Region.bits c.args.region.now) (g.R.Region.answers c.args.region.now) c.args.slot) c.in-Some-was-2.is refl refl
    (λ k N L h s. (c.is_child_same.ensures.alike k N L h s).0 c.if-is_child_same.true)

pub copy_slot-returns-in_ok-set_aside_all-in-Some-clause-nodes : goal.copy_slot-returns-in_ok-set_aside_all-in-Some-clause-nodes
copy_slot-returns-in_ok-set_aside_all-in-Some-clause-nodes g t c = gains_none blank c.args.arenas.now.nodes c.args.arenas.now.node_blocks c.set_aside_all.new.node_blocks c.requires.nodes_sized c.set_aside_all.ensures.nodes

pub copy_slot-returns-in_ok-set_aside_all-in-Some-clause-leaves : goal.copy_slot-returns-in_ok-set_aside_all-in-Some-clause-leaves
copy_slot-returns-in_ok-set_aside_all-in-Some-clause-leaves g t c = gains_none 0 c.args.arenas.now.leaves c.args.arenas.now.leaf_blocks c.set_aside_all.new.leaf_blocks c.requires.leaves_sized c.set_aside_all.ensures.leaves

pub copy_slot-returns-in_ok-set_aside_all-in-Some-clause-replaces : goal.copy_slot-returns-in_ok-set_aside_all-in-Some-clause-replaces
copy_slot-returns-in_ok-set_aside_all-in-Some-clause-replaces g t c =
    replaces_gone c.args.arenas.now.nodes c.args.arenas.now.node_blocks c.set_aside_all.new.node_blocks c.args.arenas.now.leaves c.args.arenas.now.leaf_blocks c.set_aside_all.new.leaf_blocks c.args.was c.in-Some-was.node (c.args.way.now.bits - 6) (g.R.Region.bits c.args.region.now - 6) c.in-Some._hop
    (slot (g.R.Region.bits c.args.region.now) (g.R.Region.answers c.args.region.now) c.args.slot) c.in-Some-was.is (ap (λ n. n - 6) c.requires.way) (sym c.requires.kind ∙ c.in-Some.is) c.in_ok-set_aside_all-in-Some.ensures.gone

pub copy_slot-returns-in_default-clause-nodes : goal.copy_slot-returns-in_default-clause-nodes
copy_slot-returns-in_default-clause-nodes g t c = gains_none blank c.args.arenas.now.nodes c.args.arenas.now.node_blocks c.args.arenas.now.node_blocks c.requires.nodes_sized (only_none c.args.arenas.now.node_blocks)

pub copy_slot-returns-in_default-clause-leaves : goal.copy_slot-returns-in_default-clause-leaves
copy_slot-returns-in_default-clause-leaves g t c = gains_none 0 c.args.arenas.now.leaves c.args.arenas.now.leaf_blocks c.args.arenas.now.leaf_blocks c.requires.leaves_sized (only_none c.args.arenas.now.leaf_blocks)

pub copy_slot-returns-in_default-clause-replaces : goal.copy_slot-returns-in_default-clause-replaces
copy_slot-returns-in_default-clause-replaces g t c =
    replaces_nothing c.args.arenas.now.nodes c.args.arenas.now.node_blocks c.args.arenas.now.leaves c.args.arenas.now.leaf_blocks c.args.was (g.R.Region.bits c.args.region.now - 6) c.in-Some._hop (slot (g.R.Region.bits c.args.region.now) (g.R.Region.answers c.args.region.now) c.args.slot) c.in_default.is (sym c.requires.kind ∙ c.in-Some.is)

pub copy_slot-returns-in_ok-node-in-None-clause-replaces : goal.copy_slot-returns-in_ok-node-in-None-clause-replaces
copy_slot-returns-in_ok-node-in-None-clause-replaces g t c =
    let down = descended_slot (g.R.Region.bits c.args.region.now) c.args.slot (g.R.Region.bits c.descend-child.result) (g.R.Region.answers c.args.region.now) (g.R.Region.answers c.descend-child.result) c.descend-child.ensures.bits c.descend-child.ensures.answers in
    let was_is : c.match-was-2.was ≡ c.args.was = elim c.match-was-2.branch [
      | copy_slot-in-Some-was-2+else-is_child_same w ↦ w.was-is ∙ sym w.in-Some-was-2.is
      | copy_slot-in_default-was w ↦ w.was-is
    ] in
    subst (λ (x : Option Node). Replaces c.args.arenas.now.nodes c.args.arenas.now.node_blocks c.args.arenas.now.leaves c.args.arenas.now.leaf_blocks x c.copy_node.new.arenas.nodes c.copy_node.new.arenas.node_blocks c.copy_node.new.arenas.leaves c.copy_node.new.arenas.leaf_blocks (Some c.in_ok-node-in-None.node) (g.R.Region.bits c.args.region.now - 6) (slot (g.R.Region.bits c.args.region.now) (g.R.Region.answers c.args.region.now) c.args.slot)) was_is
    (replaces_at c.args.arenas.now.nodes c.copy_node.new.arenas.nodes c.args.arenas.now.node_blocks c.copy_node.new.arenas.node_blocks c.args.arenas.now.leaves c.copy_node.new.arenas.leaves c.args.arenas.now.leaf_blocks c.copy_node.new.arenas.leaf_blocks c.match-was-2.was (Some c.in_ok-node-in-None.node) (g.R.Region.bits c.descend-child.result) (g.R.Region.bits c.args.region.now - 6) (g.R.Region.answers c.descend-child.result) (slot (g.R.Region.bits c.args.region.now) (g.R.Region.answers c.args.region.now) c.args.slot) down.0 down.1 c.in_ok-node-in-None.ensures.replaces)

pub copy_node-returns-clause-met : goal.copy_node-returns-clause-met
copy_node-returns-clause-met g t c =
    let a = kinds_agree (g.R.Region.bits c.args.region.now) (g.R.Region.answers c.args.region.now) c.ask.new.slots c.ask.ensures in
    let cs = children_same c.make_vectors-made.result.nodes (slot_kind c.ask.new.slots) (slots (g.R.Region.bits c.args.region.now) (g.R.Region.answers c.args.region.now)) a c.make_vectors-made.ensures.nodes in
    let es = runs_same c.make_vectors-made.result.leaves (slot_kind c.ask.new.slots) (slots (g.R.Region.bits c.args.region.now) (g.R.Region.answers c.args.region.now)) a c.make_vectors-made.ensures.leaves in
    asked_end (g.R.Region.bits c.args.region.now) (g.R.Region.answers c.args.region.now) c.make_vectors-made.result.nodes c.make_vectors-made.result.leaves c.args.was c.args.arenas.now.nodes c.args.arenas.now.leaves c.loop-slot.arenas.nodes c.loop-slot.arenas.leaves c.loop-slot.kids c.loop-slot.slot c.write_slots.new.nodes c.write_slots.new.leaves
    c.loop-slot.auto.slot-end c.loop-slot-test.false c.requires.mixed cs es c.write_slots.ensures.nodes.free c.write_slots.ensures.leaves.free c.loop-slot.invariant.1

pub copy_node-returns-in_err-kids-clause-refused : goal.copy_node-returns-in_err-kids-clause-refused
copy_node-returns-in_err-kids-clause-refused g t c =
    let a = kinds_agree (g.R.Region.bits c.args.region.now) (g.R.Region.answers c.args.region.now) c.ask.new.slots c.ask.ensures in
    let cs = children_same c.make_vectors-made.result.nodes (slot_kind c.ask.new.slots) (slots (g.R.Region.bits c.args.region.now) (g.R.Region.answers c.args.region.now)) a c.make_vectors-made.ensures.nodes in
    let es = runs_same c.make_vectors-made.result.leaves (slot_kind c.ask.new.slots) (slots (g.R.Region.bits c.args.region.now) (g.R.Region.answers c.args.region.now)) a c.make_vectors-made.ensures.leaves in
    let out = asked_out (g.R.Region.bits c.args.region.now) (g.R.Region.answers c.args.region.now) c.make_vectors-made.result.nodes c.make_vectors-made.result.leaves c.args.was c.args.arenas.now.nodes c.args.arenas.now.leaves c.loop-slot.arenas.nodes c.loop-slot.arenas.leaves c.loop-slot.kids c.loop-slot.slot c.in_err-kids.field-0.0
    c.loop-slot-test.true c.requires.mixed cs es
    (subst (λ (i : ℕ). MeetsNotAll c.loop-slot.arenas.nodes c.loop-slot.arenas.leaves (kid_in c.loop-slot.kids i) (g.R.Region.bits c.args.region.now - 6) (slot (g.R.Region.bits c.args.region.now) (g.R.Region.answers c.args.region.now) c.loop-slot.slot) c.in_err-kids.field-0.0) c.from-at.ensures c.in_err-kids.ensures.refused)
    c.loop-slot.invariant.1 in
    let p = err_from_is_err_and c.from_residual-in_err-kids.result c.from_residual-in_err-kids.ensures.1 in
    rw (p.1, p.2) out

pub copy_node-returns-in_err-open_node-clause-refused : goal.copy_node-returns-in_err-open_node-clause-refused
copy_node-returns-in_err-open_node-clause-refused g t c =
    let p = err_from_is_err_and c.from_residual.result c.from_residual.ensures.1 in
    rw (p.1, p.2) (λ k h few s al. tt)

pub copy_node-returns-in-Err-clause-refused : goal.copy_node-returns-in-Err-clause-refused
copy_node-returns-in-Err-clause-refused g t c =
    let a = kinds_agree (g.R.Region.bits c.args.region.now) (g.R.Region.answers c.args.region.now) c.ask.new.slots c.ask.ensures in
    let cs = children_same c.make_vectors-made.result.nodes (slot_kind c.ask.new.slots) (slots (g.R.Region.bits c.args.region.now) (g.R.Region.answers c.args.region.now)) a c.make_vectors-made.ensures.nodes in
    subst (λ (r : Refusal). MeetsNotChanged c.args.arenas.now.nodes c.args.arenas.now.leaves c.args.was (g.R.Region.bits c.args.region.now) (g.R.Region.answers c.args.region.now) r) (sym c.of_nodes.ensures)
    (children_out (g.R.Region.bits c.args.region.now) (g.R.Region.answers c.args.region.now) c.make_vectors-made.result.nodes c.make_vectors-made.result.leaves c.args.was c.args.arenas.now.nodes c.args.arenas.now.leaves c.in-Err.refused c.requires.mixed cs c.in-Err.ensures.full.0 c.in-Err.ensures.full.1)

pub copy_node-returns-in-Err-take_block-clause-refused : goal.copy_node-returns-in-Err-take_block-clause-refused
copy_node-returns-in-Err-take_block-clause-refused g t c =
    let a = kinds_agree (g.R.Region.bits c.args.region.now) (g.R.Region.answers c.args.region.now) c.ask.new.slots c.ask.ensures in
    let cs = children_same c.make_vectors-made.result.nodes (slot_kind c.ask.new.slots) (slots (g.R.Region.bits c.args.region.now) (g.R.Region.answers c.args.region.now)) a c.make_vectors-made.ensures.nodes in
    let es = runs_same c.make_vectors-made.result.leaves (slot_kind c.ask.new.slots) (slots (g.R.Region.bits c.args.region.now) (g.R.Region.answers c.args.region.now)) a c.make_vectors-made.ensures.leaves in
    subst (λ (r : Refusal). MeetsNotChanged c.args.arenas.now.nodes c.args.arenas.now.leaves c.args.was (g.R.Region.bits c.args.region.now) (g.R.Region.answers c.args.region.now) r) (sym c.of_leaves.ensures)
    (leaves_refused (g.R.Region.bits c.args.region.now) (g.R.Region.answers c.args.region.now) c.make_vectors-made.result.nodes c.make_vectors-made.result.leaves c.args.was c.args.arenas.now.nodes c.args.arenas.now.leaves c.take_block.new.arena c.in-Err-take_block.refused c.requires.mixed cs es c.in-Ok.ensures.met c.in-Err-take_block.ensures.full.0 c.in-Err-take_block.ensures.full.1)

pub copy_slot-returns-in_err-set_aside_all-in-Some-clause-refused : goal.copy_slot-returns-in_err-set_aside_all-in-Some-clause-refused
copy_slot-returns-in_err-set_aside_all-in-Some-clause-refused g t c =
    let p = err_from_is_err_and c.from_residual.result c.from_residual.ensures.1 in
    rw (p.1, p.2) (λ k h few s. tt)

pub copy_slot-returns-in_ok-set_aside_all-in-Some-clause-met : goal.copy_slot-returns-in_ok-set_aside_all-in-Some-clause-met
copy_slot-returns-in_ok-set_aside_all-in-Some-clause-met g t c =
    meets_uniform c.args.arenas.now.nodes c.args.arenas.now.leaves c.args.was (g.R.Region.bits c.args.region.now - 6) c.in-Some._hop (slot (g.R.Region.bits c.args.region.now) (g.R.Region.answers c.args.region.now) c.args.slot) (sym c.requires.kind ∙ c.in-Some.is)

pub copy_slot-returns-in_default-clause-met : goal.copy_slot-returns-in_default-clause-met
copy_slot-returns-in_default-clause-met g t c =
    meets_uniform c.args.arenas.now.nodes c.args.arenas.now.leaves c.args.was (g.R.Region.bits c.args.region.now - 6) c.in-Some._hop (slot (g.R.Region.bits c.args.region.now) (g.R.Region.answers c.args.region.now) c.args.slot) (sym c.requires.kind ∙ c.in-Some.is)

pub copy_slot-returns-then-is_child_same-clause-met : goal.copy_slot-returns-then-is_child_same-clause-met
copy_slot-returns-then-is_child_same-clause-met g t c =
    meets_same c.args.arenas.now.nodes c.args.arenas.now.leaves c.args.was c.in-Some-was-2.node (g.R.Region.bits c.args.region.now - 6) (g.R.Region.bits c.args.region.now - 6) (slot (g.R.Region.bits c.args.region.now) (g.R.Region.answers c.args.region.now) c.args.slot) (slot (g.R.Region.bits c.args.region.now) (g.R.Region.answers c.args.region.now) c.args.slot) c.in-Some-was-2.is refl refl
    (λ k N L h s. (c.is_child_same.ensures.alike k N L h s).0 c.if-is_child_same.true)

pub copy_slot-returns-in_ok-node-in-None-clause-met : goal.copy_slot-returns-in_ok-node-in-None-clause-met
copy_slot-returns-in_ok-node-in-None-clause-met g t c =
    let down = descended_slot (g.R.Region.bits c.args.region.now) c.args.slot (g.R.Region.bits c.descend-child.result) (g.R.Region.answers c.args.region.now) (g.R.Region.answers c.descend-child.result) c.descend-child.ensures.bits c.descend-child.ensures.answers in
    let none : None ≡ slots (g.R.Region.bits c.args.region.now) (g.R.Region.answers c.args.region.now) c.args.slot = sym c.in-None.is ∙ c.requires.kind in
    let was_is : c.match-was-2.was ≡ c.args.was = elim c.match-was-2.branch [
      | copy_slot-in-Some-was-2+else-is_child_same w ↦ w.was-is ∙ sym w.in-Some-was-2.is
      | copy_slot-in_default-was w ↦ w.was-is
    ] in
    let differs : Changes c.args.arenas.now.nodes c.args.arenas.now.leaves c.match-was-2.was (g.R.Region.bits c.args.region.now - 6) (slot (g.R.Region.bits c.args.region.now) (g.R.Region.answers c.args.region.now) c.args.slot) = elim c.match-was-2.branch [
      | copy_slot-in-Some-was-2+else-is_child_same w ↦ changes_node c.args.arenas.now.nodes c.args.arenas.now.leaves c.match-was-2.was w.in-Some-was-2.node (g.R.Region.bits c.args.region.now - 6) (slot (g.R.Region.bits c.args.region.now) (g.R.Region.answers c.args.region.now) c.args.slot) w.is_child_same.result w.was-is (λ k N L h s al. (w.is_child_same.ensures.alike k N L h s).1 al) w.if-is_child_same.false
      | copy_slot-in_default-was w ↦ changes_none c.args.arenas.now.nodes c.args.arenas.now.leaves c.match-was-2.was (g.R.Region.bits c.args.region.now - 6) (slot (g.R.Region.bits c.args.region.now) (g.R.Region.answers c.args.region.now) c.args.slot) (w.was-is ∙ w.in_default-was.is) (sym none)
    ] in
    let changes = subst (λ (n : ℕ). Changes c.args.arenas.now.nodes c.args.arenas.now.leaves c.match-was-2.was n (g.R.Region.answers c.descend-child.result)) (sym down.0) (subst (λ (h : List Bool → ℕ). Changes c.args.arenas.now.nodes c.args.arenas.now.leaves c.match-was-2.was (g.R.Region.bits c.args.region.now - 6) h) (sym down.1) differs) in
    meets_copied c.args.arenas.now.nodes c.copy_node.new.arenas.nodes c.args.arenas.now.leaves c.copy_node.new.arenas.leaves c.match-was-2.was c.args.was (g.R.Region.bits c.args.region.now - 6) (g.R.Region.bits c.descend-child.result) (slot (g.R.Region.bits c.args.region.now) (g.R.Region.answers c.args.region.now) c.args.slot) (g.R.Region.answers c.descend-child.result) was_is down.0 down.1 changes c.in_ok-node-in-None.ensures.met

pub copy_slot-returns-in_err-node-in-None-clause-refused : goal.copy_slot-returns-in_err-node-in-None-clause-refused
copy_slot-returns-in_err-node-in-None-clause-refused g t c =
    let down = descended_slot (g.R.Region.bits c.args.region.now) c.args.slot (g.R.Region.bits c.descend-child.result) (g.R.Region.answers c.args.region.now) (g.R.Region.answers c.descend-child.result) c.descend-child.ensures.bits c.descend-child.ensures.answers in
    let none : None ≡ slots (g.R.Region.bits c.args.region.now) (g.R.Region.answers c.args.region.now) c.args.slot = sym c.in-None.is ∙ c.requires.kind in
    let was_is : c.match-was-2.was ≡ c.args.was = elim c.match-was-2.branch [
      | copy_slot-in-Some-was-2+else-is_child_same w ↦ w.was-is ∙ sym w.in-Some-was-2.is
      | copy_slot-in_default-was w ↦ w.was-is
    ] in
    let differs : Changes c.args.arenas.now.nodes c.args.arenas.now.leaves c.match-was-2.was (g.R.Region.bits c.args.region.now - 6) (slot (g.R.Region.bits c.args.region.now) (g.R.Region.answers c.args.region.now) c.args.slot) = elim c.match-was-2.branch [
      | copy_slot-in-Some-was-2+else-is_child_same w ↦ changes_node c.args.arenas.now.nodes c.args.arenas.now.leaves c.match-was-2.was w.in-Some-was-2.node (g.R.Region.bits c.args.region.now - 6) (slot (g.R.Region.bits c.args.region.now) (g.R.Region.answers c.args.region.now) c.args.slot) w.is_child_same.result w.was-is (λ k N L h s al. (w.is_child_same.ensures.alike k N L h s).1 al) w.if-is_child_same.false
      | copy_slot-in_default-was w ↦ changes_none c.args.arenas.now.nodes c.args.arenas.now.leaves c.match-was-2.was (g.R.Region.bits c.args.region.now - 6) (slot (g.R.Region.bits c.args.region.now) (g.R.Region.answers c.args.region.now) c.args.slot) (w.was-is ∙ w.in_default-was.is) (sym none)
    ] in
    let changes = subst (λ (n : ℕ). Changes c.args.arenas.now.nodes c.args.arenas.now.leaves c.match-was-2.was n (g.R.Region.answers c.descend-child.result)) (sym down.0) (subst (λ (h : List Bool → ℕ). Changes c.args.arenas.now.nodes c.args.arenas.now.leaves c.match-was-2.was (g.R.Region.bits c.args.region.now - 6) h) (sym down.1) differs) in
    let out = refused_copied c.args.arenas.now.nodes c.args.arenas.now.leaves c.match-was-2.was c.args.was (g.R.Region.bits c.args.region.now - 6) (g.R.Region.bits c.descend-child.result) (slot (g.R.Region.bits c.args.region.now) (g.R.Region.answers c.args.region.now) c.args.slot) (g.R.Region.answers c.descend-child.result) c.in_err-node-in-None.field-0.0 was_is down.0 down.1 changes c.in_err-node-in-None.ensures.refused in
    let p = err_from_is_err_and c.from_residual-in_err-node-in-None.result c.from_residual-in_err-node-in-None.ensures.1 in
    rw (p.1, p.2) out

pub copy_slot-below-requires : goal.copy_slot-below-requires
copy_slot-below-requires g t c =
    let six = six_bits (g.R.Region.bits c.args.region.now) c.args.slot (g.R.Region.answers c.args.region.now) (sym c.in-None.is ∙ c.requires.kind) in
    omega (arith, six, c.requires.way)

pub copy_slot-is_child_same-requires-clause-fits : goal.copy_slot-is_child_same-requires-clause-fits
copy_slot-is_child_same-requires-clause-fits g t c = six_bits (g.R.Region.bits c.args.region.now) c.args.slot (g.R.Region.answers c.args.region.now) (sym c.in-None.is ∙ c.requires.kind)

pub copy_node-open_node-requires-clause-node : goal.copy_node-open_node-requires-clause-node
copy_node-open_node-requires-clause-node g t c = (c.args.arenas.now.leaves, g.R.Region.bits c.args.region.now, (c.requires.was.0, c.requires.was.1, c.requires.was.2))

pub copy_slot-set_aside_all-requires-clause-node : goal.copy_slot-set_aside_all-requires-clause-node
copy_slot-set_aside_all-requires-clause-node g t c = (c.args.arenas.now.leaves, slot_kid c.args.arenas.now.nodes c.args.arenas.now.leaves c.args.was c.in-Some-was.node c.args.slot (bits_left c.args.way.now) (g.R.Region.bits c.args.region.now) c.args.way.now.bits (g.R.Region.answers c.args.region.now) c.in-Some-was.is c.requires.way c.requires.was)
