use Rattle.std.proofs.Common.{ℕ, refl, sym, ap, ◌∙◌, subst}
use Rattle.fib_addr.specs.Answers.{one_answer}
use Rattle.poptrie_build.specs.Stands.{blank}
use Rattle.path_copying.specs.Words.{IsWord, ReplacesWord}
use Rattle.path_copying.specs.Ways.{bits_left}
use Rattle.path_copying.proofs.Old_words.{old_is_word}
use Rattle.path_copying.proofs.Gaining.{gains_none, only_none}
use Rattle.std.proofs.lemmas.Result.{err_from_is_err_and}
use Rattle.path_copying.specs.Asks.{MeetsNotWord}
use Rattle.path_copying.proofs.Word_asked.{WordChanges, word_meets_same, word_meets_uniform, word_changes_node, word_changes_none}
use Rattle.path_copying.proofs.Kept_word.{kept_hop, kept_changed}
use Rattle.path_copying.proofs.Word_copy.{word_is_node, word_shared}
use Rattle.path_copying.proofs.words.copy_word.Goals.{in-Some-word_node+else-is_same, in_default}
use Rattle.path_copying.proofs.words.copy_word.Goals as goal

pub returns-in_err-word-in-Some-clause-nodes : goal.returns-in_err-word-in-Some-clause-nodes
returns-in_err-word-in-Some-clause-nodes g c = gains_none blank c.args.arenas.now.nodes c.args.arenas.now.node_blocks c.leave_word.new.node_blocks c.requires.nodes_sized c.leave_word.ensures.nodes

pub returns-in_err-word-in-Some-clause-leaves : goal.returns-in_err-word-in-Some-clause-leaves
returns-in_err-word-in-Some-clause-leaves g c = gains_none 0 c.args.arenas.now.leaves c.args.arenas.now.leaf_blocks c.leave_word.new.leaf_blocks c.requires.leaves_sized c.leave_word.ensures.leaves

pub returns-then-is_same-clause-nodes : goal.returns-then-is_same-clause-nodes
returns-then-is_same-clause-nodes g c = gains_none blank c.args.arenas.now.nodes c.args.arenas.now.node_blocks c.args.arenas.now.node_blocks c.requires.nodes_sized (only_none c.args.arenas.now.node_blocks)

pub returns-then-is_same-clause-leaves : goal.returns-then-is_same-clause-leaves
returns-then-is_same-clause-leaves g c = gains_none 0 c.args.arenas.now.leaves c.args.arenas.now.leaf_blocks c.args.arenas.now.leaf_blocks c.requires.leaves_sized (only_none c.args.arenas.now.leaf_blocks)

pub returns-then-is_same-clause-replaces : goal.returns-then-is_same-clause-replaces
returns-then-is_same-clause-replaces g c =
    word_shared c.args.arenas.now.nodes c.args.arenas.now.node_blocks c.args.arenas.now.leaves c.args.arenas.now.leaf_blocks c.args.word (g.R.Region.bits c.args.region.now) (g.R.Region.answers c.args.region.now) c.in-Some-word_node.node (sym c.word_node.ensures ∙ c.in-Some-word_node.is)
    (λ k N L h s. (c.is_same.ensures.alike k N L h s).0 c.if-is_same.true)

pub returns-in_ok-word-in-Some-clause-nodes : goal.returns-in_ok-word-in-Some-clause-nodes
returns-in_ok-word-in-Some-clause-nodes g c = gains_none blank c.args.arenas.now.nodes c.args.arenas.now.node_blocks c.leave_word.new.node_blocks c.requires.nodes_sized c.leave_word.ensures.nodes

pub returns-in_ok-word-in-Some-clause-leaves : goal.returns-in_ok-word-in-Some-clause-leaves
returns-in_ok-word-in-Some-clause-leaves g c = gains_none 0 c.args.arenas.now.leaves c.args.arenas.now.leaf_blocks c.leave_word.new.leaf_blocks c.requires.leaves_sized c.leave_word.ensures.leaves

pub returns-in_ok-word-in-Some-clause-replaces : goal.returns-in_ok-word-in-Some-clause-replaces
returns-in_ok-word-in-Some-clause-replaces g c =
    let one = c.in-Some.ensures.one in
    subst (λ (n : ℕ). ReplacesWord c.args.arenas.now.nodes c.args.arenas.now.node_blocks c.args.arenas.now.leaves c.args.arenas.now.leaf_blocks c.args.word c.args.arenas.now.nodes c.leave_word.new.node_blocks c.args.arenas.now.leaves c.leave_word.new.leaf_blocks c.in_ok-word-in-Some.word n (g.R.Region.answers c.args.region.now)) c.requires.way
    (c.in_ok-word-in-Some.ensures.gone c.args.arenas.now.leaves (g.R.Region.answers c.args.region.now) (ap (λ n. one_answer n (g.R.Region.answers c.args.region.now)) c.requires.way ∙ one))

pub returns-then-is_same-clause-met : goal.returns-then-is_same-clause-met
returns-then-is_same-clause-met g c =
    word_meets_same c.args.arenas.now.nodes c.args.arenas.now.leaves c.args.word (g.R.Region.bits c.args.region.now) (g.R.Region.answers c.args.region.now) c.in-Some-word_node.node (sym c.word_node.ensures ∙ c.in-Some-word_node.is)
    (λ k N L h s. (c.is_same.ensures.alike k N L h s).0 c.if-is_same.true)

pub returns-in_ok-word-in-Some-clause-met : goal.returns-in_ok-word-in-Some-clause-met
returns-in_ok-word-in-Some-clause-met g c = word_meets_uniform c.args.arenas.now.nodes c.args.arenas.now.leaves c.args.word (g.R.Region.bits c.args.region.now) c.in-Some.hop.0 (g.R.Region.answers c.args.region.now) c.in-Some.ensures.one

pub returns-in_ok-word-in-None-clause-met : goal.returns-in_ok-word-in-None-clause-met
returns-in_ok-word-in-None-clause-met g c =
    let changes : WordChanges c.args.arenas.now.nodes c.args.arenas.now.leaves c.args.word (g.R.Region.bits c.args.region.now) (g.R.Region.answers c.args.region.now) = elim c.match-word_node.branch [
      | in-Some-word_node+else-is_same w ↦ word_changes_node c.args.arenas.now.nodes c.args.arenas.now.leaves c.args.word (g.R.Region.bits c.args.region.now) (g.R.Region.answers c.args.region.now) w.in-Some-word_node.node w.is_same.result (sym c.word_node.ensures ∙ w.in-Some-word_node.is) (λ k N L h s al. (w.is_same.ensures.alike k N L h s).1 al) w.if-is_same.false
      | in_default w ↦ word_changes_none c.args.arenas.now.nodes c.args.arenas.now.leaves c.args.word (g.R.Region.bits c.args.region.now) (g.R.Region.answers c.args.region.now) (sym c.word_node.ensures ∙ w.in_default.is) c.in-None.ensures.differ
    ] in
    λ k h few s. c.in_ok-word-in-None.ensures.met k h few s (changes k h s)

pub returns-in_err-word-in-None-clause-refused : goal.returns-in_err-word-in-None-clause-refused
returns-in_err-word-in-None-clause-refused g c =
    let changes : WordChanges c.args.arenas.now.nodes c.args.arenas.now.leaves c.args.word (g.R.Region.bits c.args.region.now) (g.R.Region.answers c.args.region.now) = elim c.match-word_node.branch [
      | in-Some-word_node+else-is_same w ↦ word_changes_node c.args.arenas.now.nodes c.args.arenas.now.leaves c.args.word (g.R.Region.bits c.args.region.now) (g.R.Region.answers c.args.region.now) w.in-Some-word_node.node w.is_same.result (sym c.word_node.ensures ∙ w.in-Some-word_node.is) (λ k N L h s al. (w.is_same.ensures.alike k N L h s).1 al) w.if-is_same.false
      | in_default w ↦ word_changes_none c.args.arenas.now.nodes c.args.arenas.now.leaves c.args.word (g.R.Region.bits c.args.region.now) (g.R.Region.answers c.args.region.now) (sym c.word_node.ensures ∙ w.in_default.is) c.in-None.ensures.differ
    ] in
    let out : MeetsNotWord c.args.arenas.now.nodes c.args.arenas.now.leaves c.args.word (g.R.Region.bits c.args.region.now) (g.R.Region.answers c.args.region.now) c.in_err-word-in-None.field-0.0 = λ k h few s. c.in_err-word-in-None.ensures.refused k h few s (changes k h s) in
    let p = err_from_is_err_and c.from_residual-in_err-word-in-None.result c.from_residual-in_err-word-in-None.ensures.1 in
    rw (p.1, p.2) out

pub returns-then-is_same-clause-kept : goal.returns-then-is_same-clause-kept
returns-then-is_same-clause-kept g c = λ k h s a. refl

pub returns-in_ok-word-in-Some-clause-kept : goal.returns-in_ok-word-in-Some-clause-kept
returns-in_ok-word-in-Some-clause-kept g c = kept_hop c.args.arenas.now.nodes c.args.arenas.now.leaves c.args.word c.in_ok-word-in-Some.word c.in-Some.hop.0 (g.R.Region.bits c.args.region.now) (g.R.Region.answers c.args.region.now) c.in-Some.ensures.one c.in_ok-word-in-Some.ensures.hop

pub returns-in_ok-word-in-None-clause-kept : goal.returns-in_ok-word-in-None-clause-kept
returns-in_ok-word-in-None-clause-kept g c =
    let changes : WordChanges c.args.arenas.now.nodes c.args.arenas.now.leaves c.args.word (g.R.Region.bits c.args.region.now) (g.R.Region.answers c.args.region.now) = elim c.match-word_node.branch [
      | in-Some-word_node+else-is_same w ↦ word_changes_node c.args.arenas.now.nodes c.args.arenas.now.leaves c.args.word (g.R.Region.bits c.args.region.now) (g.R.Region.answers c.args.region.now) w.in-Some-word_node.node w.is_same.result (sym c.word_node.ensures ∙ w.in-Some-word_node.is) (λ k N L h s al. (w.is_same.ensures.alike k N L h s).1 al) w.if-is_same.false
      | in_default w ↦ word_changes_none c.args.arenas.now.nodes c.args.arenas.now.leaves c.args.word (g.R.Region.bits c.args.region.now) (g.R.Region.answers c.args.region.now) (sym c.word_node.ensures ∙ w.in_default.is) c.in-None.ensures.differ
    ] in
    kept_changed c.args.arenas.now.nodes c.args.arenas.now.leaves c.args.word c.in_ok-word-in-None.word (g.R.Region.bits c.args.region.now) (g.R.Region.answers c.args.region.now) changes

pub word_node-requires-clause-word : goal.word_node-requires-clause-word
word_node-requires-clause-word g c = (c.args.arenas.now.leaves, g.R.Region.bits c.args.region.now, old_is_word c.args.arenas.now.nodes c.args.arenas.now.leaves c.args.word (bits_left c.args.way.now) (g.R.Region.bits c.args.region.now) (g.R.Region.answers c.args.region.now) c.requires.word)

pub leave_word-requires-clause-word : goal.leave_word-requires-clause-word
leave_word-requires-clause-word g c = (c.args.arenas.now.leaves, subst (λ (n : ℕ). IsWord c.args.arenas.now.nodes c.args.arenas.now.leaves c.args.word n) (sym c.requires.way) (old_is_word c.args.arenas.now.nodes c.args.arenas.now.leaves c.args.word (bits_left c.args.way.now) (g.R.Region.bits c.args.region.now) (g.R.Region.answers c.args.region.now) c.requires.word))

pub is_same-requires-clause-node : goal.is_same-requires-clause-node
is_same-requires-clause-node g c = word_is_node c.args.arenas.now.nodes c.args.arenas.now.leaves c.args.word (bits_left c.args.way.now) (g.R.Region.bits c.args.region.now) (g.R.Region.answers c.args.region.now) c.in-Some-word_node.node (sym c.word_node.ensures ∙ c.in-Some-word_node.is) c.requires.word
