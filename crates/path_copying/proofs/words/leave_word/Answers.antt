use Rattle.std.proofs.Common.{refl, sym, ◌∙◌, subst}
use Rattle.buddy_arena.specs.Blocks.{Held}
use Rattle.path_copying.specs.Words.{ReplacesWord, node_of}
use Rattle.path_copying.proofs.Sharing.{replaces_gone, replaces_nothing}
use Rattle.path_copying.proofs.Word_copy.{word_left}
use Rattle.path_copying.proofs.words.leave_word.Goals.{in-Some+in_ok-set_aside_all, in_default}
use Rattle.path_copying.proofs.words.leave_word.Goals as goal

pub returns-clause-gone : goal.returns-clause-gone
returns-clause-gone c = λ leaves f one.
    elim c.match-was.branch [
      | in-Some+in_ok-set_aside_all w ↦
          subst (λ (x : Held). ReplacesWord c.args.nodes.now c.args.node_blocks.now leaves c.args.leaf_blocks.now c.args.word c.args.nodes.now x leaves c.match-was.leaf_blocks c.hop_word.result c.args.bits f) (sym w.node_blocks-is)
          (subst (λ (x : Held). ReplacesWord c.args.nodes.now c.args.node_blocks.now leaves c.args.leaf_blocks.now c.args.word c.args.nodes.now w.set_aside_all.new.node_blocks leaves x c.hop_word.result c.args.bits f) (sym w.leaf_blocks-is)
          (word_left c.args.nodes.now c.args.node_blocks.now c.set_aside_word.new.node_blocks w.set_aside_all.new.node_blocks leaves c.args.leaf_blocks.now w.set_aside_all.new.leaf_blocks c.args.word c.hop_word.result c.args.bits c.args.hop.0 f c.in_ok-set_aside_word.ensures.own one c.hop_word.ensures.small c.hop_word.ensures.word
          (replaces_gone c.args.nodes.now c.set_aside_word.new.node_blocks w.set_aside_all.new.node_blocks leaves c.args.leaf_blocks.now w.set_aside_all.new.leaf_blocks (node_of c.args.nodes.now.cells c.args.word) w.in-Some.node c.args.bits c.args.bits c.args.hop.0 f (sym c.word_node-was.ensures ∙ w.in-Some.is) refl one w.in_ok-set_aside_all.ensures.gone)))
      | in_default w ↦
          subst (λ (x : Held). ReplacesWord c.args.nodes.now c.args.node_blocks.now leaves c.args.leaf_blocks.now c.args.word c.args.nodes.now x leaves c.match-was.leaf_blocks c.hop_word.result c.args.bits f) (sym w.node_blocks-is)
          (subst (λ (x : Held). ReplacesWord c.args.nodes.now c.args.node_blocks.now leaves c.args.leaf_blocks.now c.args.word c.args.nodes.now c.set_aside_word.new.node_blocks leaves x c.hop_word.result c.args.bits f) (sym w.leaf_blocks-is)
          (word_left c.args.nodes.now c.args.node_blocks.now c.set_aside_word.new.node_blocks c.set_aside_word.new.node_blocks leaves c.args.leaf_blocks.now c.args.leaf_blocks.now c.args.word c.hop_word.result c.args.bits c.args.hop.0 f c.in_ok-set_aside_word.ensures.own one c.hop_word.ensures.small c.hop_word.ensures.word
          (replaces_nothing c.args.nodes.now c.set_aside_word.new.node_blocks leaves c.args.leaf_blocks.now (node_of c.args.nodes.now.cells c.args.word) c.args.bits c.args.hop.0 f (sym c.word_node-was.ensures ∙ w.in_default.is) one)))
    ]
