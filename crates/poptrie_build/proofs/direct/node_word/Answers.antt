use Rattle.std.proofs.Common.{refl, ap, sym, ◌∙◌, arith, ◌+◌}
use Rattle.buddy_arena.specs.Space as arena
use Rattle.poptrie_build.specs.Need.{need_nodes}
use Rattle.buddy_arena.specs.Places.{is_out}
use Rattle.poptrie_build.specs.Stands.{blank}
use Rattle.poptrie_build.proofs.Directing.{never, one_refused, one_fits, one_fits_leaves, first_out, keeps_put, keeps_both, keeps_all, word_node, small_len, one_nodes, one_leaves}
use Rattle.poptrie_build.proofs.Wording.{put_apart, put_apart_leaves}
use Rattle.poptrie_build.proofs.direct.node_word.Goals as goal

pub returns-in_err-word-clause-fits : goal.returns-in_err-word-clause-fits
returns-in_err-word-clause-fits g c = λ k h fn fl n l. absurd (one_refused k _ _ _ c.requires.mixed (c.in_err-word.ensures.refused fn) n)

pub returns-in_err-node-clause-fits : goal.returns-in_err-node-clause-fits
returns-in_err-node-clause-fits g c =
    λ k h fn fl n l.
    let z = c.in_err-node.ensures.fits k h (c.take_places.ensures.fresh fn) fl (one_fits k _ _ _ _ c.requires.mixed c.in_ok-word.ensures.left n) (one_fits_leaves k _ _ _ l) in
    never z

pub put-requires-clause-out : goal.put-requires-clause-out
put-requires-clause-out g c = c.build_node.ensures.nodes.still c.in_ok-word.word (first_out _ _ _ _ c.in_ok-word.ensures.takes).1

pub put-requires-clause-within : goal.put-requires-clause-within
put-requires-clause-within g c = omega (arith, (first_out _ _ _ _ c.in_ok-word.ensures.takes).2, c.build_node.ensures.nodes.long)

pub returns-clause-nodes : goal.returns-clause-nodes
returns-clause-nodes g c =
    keeps_put blank _ _ _ _ _ _ c.in_ok-word.word c.in_ok-node.node (first_out _ _ _ _ c.in_ok-word.ensures.takes).0
    (keeps_both blank _ _ _ _ _ _ (keeps_all blank _ _ _ _ c.take_places.ensures.cells c.take_places.ensures.still) c.build_node.ensures.nodes) c.put.ensures.cells (ap is_out c.put.ensures.free)

pub returns-clause-stands : goal.returns-clause-stands
returns-clause-stands g c =
    λ k h. word_node _ k c.in_ok-word.word _ c.in_ok-node.node _ _ _ _ _ _ _ _ _ _ c.requires.mixed c.in_ok-word.ensures.takes (sym c.build_node.ensures.nodes.long) (small_len c.take_places.new.arena c.take_places.ensures.sized) c.take_places.ensures.still c.build_node.ensures.nodes.still c.put.ensures.cells (ap is_out c.put.ensures.free) (c.in_ok-node.ensures.stands k h)

pub returns-clause-nodes_left : goal.returns-clause-nodes_left
returns-clause-nodes_left g c = λ k h. one_nodes k _ _ _ _ _ c.requires.mixed c.in_ok-word.ensures.left (ap (λ x. arena.free_count x + need_nodes k (g.R.Region.bits c.args.region.now) (g.R.Region.answers c.args.region.now)) c.put.ensures.free ∙ c.in_ok-node.ensures.nodes_left k h)

pub returns-clause-leaves_left : goal.returns-clause-leaves_left
returns-clause-leaves_left g c = λ k h. one_leaves k _ _ _ _ (c.in_ok-node.ensures.leaves_left k h)

pub returns-clause-small : goal.returns-clause-small
returns-clause-small g c = omega (arith, (first_out _ _ _ _ c.in_ok-word.ensures.takes).2, small_len c.take_places.new.arena c.take_places.ensures.sized)

pub returns-clause-nodes_apart : goal.returns-clause-nodes_apart
returns-clause-nodes_apart g c =
    λ k. put_apart c.in_ok-word.word _ k c.in_ok-node.node c.build_node.new.nodes.cells c.put.new.arena.cells (is_out c.args.nodes.now.free) (is_out c.take_places.new.arena.free) (is_out c.build_node.new.nodes.free) (is_out c.put.new.arena.free) c.in_ok-word.ensures.takes (omega (arith, (first_out _ _ _ _ c.in_ok-word.ensures.takes).2, c.build_node.ensures.nodes.long)) c.take_places.ensures.still c.build_node.ensures.nodes.still c.put.ensures.cells (ap is_out c.put.ensures.free) (c.in_ok-node.ensures.nodes_apart k)

pub returns-clause-leaves_apart : goal.returns-clause-leaves_apart
returns-clause-leaves_apart g c =
    λ k. put_apart_leaves c.in_ok-word.word _ k c.in_ok-node.node c.build_node.new.nodes.cells c.put.new.arena.cells (is_out c.args.nodes.now.free) (is_out c.take_places.new.arena.free) (is_out c.build_node.new.nodes.free) (is_out c.put.new.arena.free) c.in_ok-word.ensures.takes (omega (arith, (first_out _ _ _ _ c.in_ok-word.ensures.takes).2, c.build_node.ensures.nodes.long)) c.take_places.ensures.still c.build_node.ensures.nodes.still c.put.ensures.cells (ap is_out c.put.ensures.free) (c.in_ok-node.ensures.nodes_apart k) _ (c.in_ok-node.ensures.leaves_apart k)

pub returns-in_err-word-clause-nodes : goal.returns-in_err-word-clause-nodes
returns-in_err-word-clause-nodes g c = keeps_all blank _ _ _ _ c.take_places.ensures.cells c.take_places.ensures.still

pub returns-in_err-word-clause-leaves : goal.returns-in_err-word-clause-leaves
returns-in_err-word-clause-leaves g c = keeps_all 0 _ _ _ _ refl (λ i o. o)

pub returns-in_err-word-clause-orders : goal.returns-in_err-word-clause-orders
returns-in_err-word-clause-orders g c = (c.take_places.ensures.order, refl)

pub returns-in_err-word-clause-fills : goal.returns-in_err-word-clause-fills
returns-in_err-word-clause-fills g c = (c.take_places.ensures.fill, refl)

pub returns-in_err-word-clause-nodes_fresh : goal.returns-in_err-word-clause-nodes_fresh
returns-in_err-word-clause-nodes_fresh g c = c.take_places.ensures.fresh

pub returns-in_err-node-clause-nodes : goal.returns-in_err-node-clause-nodes
returns-in_err-node-clause-nodes g c = keeps_both blank _ _ _ _ _ _ (keeps_all blank _ _ _ _ c.take_places.ensures.cells c.take_places.ensures.still) c.build_node.ensures.nodes

pub returns-in_err-node-clause-leaves : goal.returns-in_err-node-clause-leaves
returns-in_err-node-clause-leaves g c = c.build_node.ensures.leaves

pub returns-in_err-node-clause-orders : goal.returns-in_err-node-clause-orders
returns-in_err-node-clause-orders g c = (c.build_node.ensures.orders.0 ∙ c.take_places.ensures.order, c.build_node.ensures.orders.1)

pub returns-in_err-node-clause-fills : goal.returns-in_err-node-clause-fills
returns-in_err-node-clause-fills g c = (c.build_node.ensures.fills.0 ∙ c.take_places.ensures.fill, c.build_node.ensures.fills.1)

pub returns-in_err-node-clause-nodes_fresh : goal.returns-in_err-node-clause-nodes_fresh
returns-in_err-node-clause-nodes_fresh g c = λ f. c.build_node.ensures.nodes_fresh (c.take_places.ensures.fresh f)

pub returns-in_err-node-clause-leaves_fresh : goal.returns-in_err-node-clause-leaves_fresh
returns-in_err-node-clause-leaves_fresh g c = c.build_node.ensures.leaves_fresh

pub returns-clause-leaves : goal.returns-clause-leaves
returns-clause-leaves g c = c.build_node.ensures.leaves

pub returns-clause-orders : goal.returns-clause-orders
returns-clause-orders g c = (c.put.ensures.order ∙ c.build_node.ensures.orders.0 ∙ c.take_places.ensures.order, c.build_node.ensures.orders.1)

pub returns-clause-fills : goal.returns-clause-fills
returns-clause-fills g c = (c.put.ensures.fill ∙ c.build_node.ensures.fills.0 ∙ c.take_places.ensures.fill, c.build_node.ensures.fills.1)

pub returns-clause-nodes_fresh : goal.returns-clause-nodes_fresh
returns-clause-nodes_fresh g c = λ f. rw (c.put.ensures.order, c.put.ensures.free) (c.build_node.ensures.nodes_fresh (c.take_places.ensures.fresh f))

pub returns-clause-leaves_fresh : goal.returns-clause-leaves_fresh
returns-clause-leaves_fresh g c = c.build_node.ensures.leaves_fresh
