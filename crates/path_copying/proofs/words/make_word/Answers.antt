use Rattle.std.proofs.Common.{ℕ, ◌+◌, refl, sym, ap, ◌∙◌, subst, arith, Option, Some, length}
use Rattle.buddy_arena.specs.Places.{TakesPlaces, is_out, count_free}
use Rattle.poptrie_build.specs.Stands.{blank}
use Rattle.poptrie_build.specs.declared.node.Node.{Node}
use Rattle.poptrie_build.proofs.Directing.{small_len, first_out}
use Rattle.path_copying.specs.Ways.{bits_left, IsOldKid}
use Rattle.path_copying.proofs.Old_words.{old_is_word}
use Rattle.path_copying.specs.Changes.{Replaces}
use Rattle.path_copying.proofs.Gaining.{gains_none, gains_then, gains_written, only_none}
use Rattle.std.proofs.lemmas.Result.{err_from_is_err_and}
use Rattle.path_copying.specs.declared.blocks.Refusal.{Refusal}
use Rattle.path_copying.specs.Asks.{MeetsChanged, MeetsNotChanged, MeetsNotChangedWord}
use Rattle.path_copying.proofs.Word_asked.{word_met, word_below_refused, word_own_refused}
use Rattle.path_copying.proofs.Word_copy.{word_kid, word_kept, word_made, writes_place, up_one}
use Rattle.path_copying.proofs.words.make_word.Goals as goal

pub returns-in_err-set_aside_word-clause-nodes : goal.returns-in_err-set_aside_word-clause-nodes
returns-in_err-set_aside_word-clause-nodes g c = gains_none blank c.args.arenas.now.nodes c.args.arenas.now.node_blocks c.set_aside_word.new.node_blocks c.requires.nodes_sized c.set_aside_word.ensures.nodes

pub returns-in_err-set_aside_word-clause-leaves : goal.returns-in_err-set_aside_word-clause-leaves
returns-in_err-set_aside_word-clause-leaves g c = gains_none 0 c.args.arenas.now.leaves c.args.arenas.now.leaf_blocks c.args.arenas.now.leaf_blocks c.requires.leaves_sized (only_none c.args.arenas.now.leaf_blocks)

pub returns-in-Err-clause-nodes : goal.returns-in-Err-clause-nodes
returns-in-Err-clause-nodes g c =
    gains_then blank c.args.arenas.now.nodes c.args.arenas.now.nodes c.take_block.new.arena c.args.arenas.now.node_blocks c.set_aside_word.new.node_blocks c.take_block.new.blocks
    (gains_none blank c.args.arenas.now.nodes c.args.arenas.now.node_blocks c.set_aside_word.new.node_blocks c.requires.nodes_sized c.set_aside_word.ensures.nodes) (c.take_block.ensures.gains blank)

pub returns-in-Err-clause-leaves : goal.returns-in-Err-clause-leaves
returns-in-Err-clause-leaves g c = gains_none 0 c.args.arenas.now.leaves c.args.arenas.now.leaf_blocks c.args.arenas.now.leaf_blocks c.requires.leaves_sized (only_none c.args.arenas.now.leaf_blocks)

pub copy_node-requires-clause-nodes_sized : goal.copy_node-requires-clause-nodes_sized
copy_node-requires-clause-nodes_sized g c = (c.take_block.ensures.gains blank).sized

pub copy_node-requires-clause-nodes_time : goal.copy_node-requires-clause-nodes_time
copy_node-requires-clause-nodes_time g c = let x = c.take_block.ensures.gains blank in omega (arith, x.time, c.set_aside_word.ensures.nodes.time, c.requires.nodes_time)

pub copy_node-requires-clause-was : goal.copy_node-requires-clause-was
copy_node-requires-clause-was g c =
    let x = c.take_block.ensures.gains blank in
    subst (λ (z : Option Node). IsOldKid c.take_block.new.arena c.args.arenas.now.leaves z (bits_left c.args.way.now) (g.R.Region.bits c.args.region.now) (g.R.Region.answers c.args.region.now)) (sym c.word_node-was.ensures)
    (word_kept c.args.arenas.now.nodes c.take_block.new.arena c.args.arenas.now.leaves c.args.arenas.now.leaves _ (bits_left c.args.way.now) (g.R.Region.bits c.args.region.now) (g.R.Region.answers c.args.region.now) x.keeps (record { still = λ i h. h; same = λ i h. refl; long = refl }) (word_kid c.args.arenas.now.nodes c.args.arenas.now.leaves c.args.word (bits_left c.args.way.now) (g.R.Region.bits c.args.region.now) (g.R.Region.answers c.args.region.now) c.requires.word))

pub returns-in_err-node-clause-nodes : goal.returns-in_err-node-clause-nodes
returns-in_err-node-clause-nodes g c =
    gains_then blank c.args.arenas.now.nodes c.args.arenas.now.nodes c.copy_node.new.arenas.nodes c.args.arenas.now.node_blocks c.set_aside_word.new.node_blocks c.copy_node.new.arenas.node_blocks
    (gains_none blank c.args.arenas.now.nodes c.args.arenas.now.node_blocks c.set_aside_word.new.node_blocks c.requires.nodes_sized c.set_aside_word.ensures.nodes)
    (gains_then blank c.args.arenas.now.nodes c.take_block.new.arena c.copy_node.new.arenas.nodes c.set_aside_word.new.node_blocks c.take_block.new.blocks c.copy_node.new.arenas.node_blocks (c.take_block.ensures.gains blank) c.copy_node.ensures.nodes)

pub put-requires-clause-out : goal.put-requires-clause-out
put-requires-clause-out g c = c.copy_node.ensures.nodes.keeps.still c.in-Ok.place (first_out _ _ _ _ c.in-Ok.ensures.takes).1

pub returns-clause-nodes : goal.returns-clause-nodes
returns-clause-nodes g c =
    gains_written blank c.args.arenas.now.nodes c.copy_node.new.arenas.nodes c.put.new.arena c.args.arenas.now.node_blocks c.copy_node.new.arenas.node_blocks c.in-Ok.place 1 _ _
    (gains_then blank c.args.arenas.now.nodes c.args.arenas.now.nodes c.copy_node.new.arenas.nodes c.args.arenas.now.node_blocks c.set_aside_word.new.node_blocks c.copy_node.new.arenas.node_blocks
    (gains_none blank c.args.arenas.now.nodes c.args.arenas.now.node_blocks c.set_aside_word.new.node_blocks c.requires.nodes_sized c.set_aside_word.ensures.nodes)
    (gains_then blank c.args.arenas.now.nodes c.take_block.new.arena c.copy_node.new.arenas.nodes c.set_aside_word.new.node_blocks c.take_block.new.blocks c.copy_node.new.arenas.node_blocks (c.take_block.ensures.gains blank) c.copy_node.ensures.nodes))
    c.in-Ok.ensures.takes (writes_place blank c.copy_node.new.arenas.nodes c.put.new.arena c.in-Ok.place c.in_ok-node.node c.put.ensures.cells c.put.ensures.free c.put.ensures.order c.put.ensures.fill c.put.ensures.sized)

pub returns-clause-replaces : goal.returns-clause-replaces
returns-clause-replaces g c =
    let x = c.take_block.ensures.gains blank in
    word_made c.args.arenas.now.nodes c.take_block.new.arena c.copy_node.new.arenas.nodes c.put.new.arena c.args.arenas.now.node_blocks c.set_aside_word.new.node_blocks c.take_block.new.blocks c.copy_node.new.arenas.node_blocks c.args.arenas.now.leaves c.copy_node.new.arenas.leaves c.args.arenas.now.leaf_blocks c.copy_node.new.arenas.leaf_blocks c.in_ok-node.node c.args.word c.in-Ok.place
    (g.R.Region.bits c.args.region.now) (g.R.Region.answers c.args.region.now) c.in_ok-set_aside_word.ensures.own c.take_block.ensures.replaced c.requires.mixed x.keeps c.take_block.ensures.cells
    (subst (λ (n : ℕ). TakesPlaces c.in-Ok.place n (is_out c.args.arenas.now.nodes.free) (is_out c.take_block.new.arena.free) (length c.take_block.new.arena.cells)) up_one c.in-Ok.ensures.takes)
    (c.in-Ok.place, omega arith) (ap (λ n. count_free c.take_block.new.arena + n) (sym up_one) ∙ c.in-Ok.ensures.left) c.copy_node.ensures.nodes.keeps.long (small_len c.take_block.new.arena x.sized) c.put.ensures.cells c.put.ensures.free
    (subst (λ (z : Option Node). Replaces c.take_block.new.arena c.take_block.new.blocks c.args.arenas.now.leaves c.args.arenas.now.leaf_blocks z c.copy_node.new.arenas.nodes c.copy_node.new.arenas.node_blocks c.copy_node.new.arenas.leaves c.copy_node.new.arenas.leaf_blocks (Some c.in_ok-node.node) (g.R.Region.bits c.args.region.now) (g.R.Region.answers c.args.region.now)) c.word_node-was.ensures c.in_ok-node.ensures.replaces)

pub returns-in_err-set_aside_word-clause-refused : goal.returns-in_err-set_aside_word-clause-refused
returns-in_err-set_aside_word-clause-refused g c =
    let p = err_from_is_err_and c.from_residual.result c.from_residual.ensures.1 in
    rw (p.1, p.2) (λ k h few s al. tt)

pub returns-in-Err-clause-refused : goal.returns-in-Err-clause-refused
returns-in-Err-clause-refused g c =
    subst (λ (r : Refusal). MeetsNotChangedWord c.args.arenas.now.nodes c.args.arenas.now.leaves c.args.word (g.R.Region.bits c.args.region.now) (g.R.Region.answers c.args.region.now) r) (sym c.of_nodes.ensures)
    (word_own_refused c.args.arenas.now.nodes c.args.arenas.now.leaves c.args.word (g.R.Region.bits c.args.region.now) (g.R.Region.answers c.args.region.now) c.in-Err.refused c.requires.mixed c.in-Err.ensures.full.1)

pub returns-in_err-node-clause-refused : goal.returns-in_err-node-clause-refused
returns-in_err-node-clause-refused g c =
    let x = c.take_block.ensures.gains blank in
    let out = word_below_refused c.args.arenas.now.nodes c.take_block.new.arena c.args.arenas.now.leaves c.args.word (g.R.Region.bits c.args.region.now) (g.R.Region.answers c.args.region.now) c.requires.mixed c.in_err-node.field-0.0 c.in-Ok.ensures.met x.keeps x.order
    (subst (λ (z : Option Node). MeetsNotChanged c.take_block.new.arena c.args.arenas.now.leaves z (g.R.Region.bits c.args.region.now) (g.R.Region.answers c.args.region.now) c.in_err-node.field-0.0) c.word_node-was.ensures c.in_err-node.ensures.refused) in
    let p = err_from_is_err_and c.from_residual-in_err-node.result c.from_residual-in_err-node.ensures.1 in
    rw (p.1, p.2) out

pub returns-clause-met : goal.returns-clause-met
returns-clause-met g c =
    let x = c.take_block.ensures.gains blank in
    word_met c.args.arenas.now.nodes c.take_block.new.arena c.args.arenas.now.leaves c.args.word (g.R.Region.bits c.args.region.now) (g.R.Region.answers c.args.region.now) c.requires.mixed c.copy_node.new.arenas.nodes c.put.new.arena c.copy_node.new.arenas.leaves c.in-Ok.ensures.met x.keeps x.order c.put.ensures.free
    (subst (λ (z : Option Node). MeetsChanged c.take_block.new.arena c.args.arenas.now.leaves z c.copy_node.new.arenas.nodes c.copy_node.new.arenas.leaves (g.R.Region.bits c.args.region.now) (g.R.Region.answers c.args.region.now)) c.word_node-was.ensures c.in_ok-node.ensures.met)

pub word_node-was-requires-clause-word : goal.word_node-was-requires-clause-word
word_node-was-requires-clause-word g c = (c.args.arenas.now.leaves, g.R.Region.bits c.args.region.now, old_is_word c.args.arenas.now.nodes c.args.arenas.now.leaves c.args.word (bits_left c.args.way.now) (g.R.Region.bits c.args.region.now) (g.R.Region.answers c.args.region.now) c.requires.word)
