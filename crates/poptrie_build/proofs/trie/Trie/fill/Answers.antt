use Rattle.std.proofs.Common.{arith, ◌≡◌, ◌++◌, ap, sym, ◌∙◌, [], replicate, take, drop, length, ◌^◌}
use Rattle.std.proofs.lemmas.List.{take_at}
use Rattle.table_model.specs.Width.{width}
use Rattle.fib_addr.specs.Answers.{all_answers}
use Rattle.poptrie_build.specs.Tries.{Shown, HasAnswers}
use Rattle.poptrie_build.proofs.Filled.{stands_none, stands_built, stands_for_answers, all_either, all_ok, all_err}
use Rattle.poptrie_build.proofs.trie.Trie.fill.Goals as goal

pub returns-clause-built : goal.returns-clause-built
returns-clause-built g c =
    let same : take c.self.inside.words.len (c.fill_all.new.words ++ drop (length c.fill_all.new.words) c.self.inside.words.items) ≡ c.fill_all.new.words =
    take_at c.fill_all.new.words (drop (length c.fill_all.new.words) c.self.inside.words.items) c.self.inside.words.len (c.fill_all.auto.words ∙ c.deref_mut.ensures.len) in
    rw same
    (all_ok c.fill_all.result c.fill_all.ensures.words c.fill_all.ensures.nodes c.fill_all.ensures.leaves c.fill_all.ensures.nodes_apart c.fill_all.ensures.leaves_apart
    (λ w n l na la. λ L e.
    stands_built c.self.inside.family c.self.inside.direct_bits c.fill_all.new.words c.fill_all.new.nodes c.fill_all.new.leaves L _ _ _ _ (c.requires ∙ ap (λ (s : Shown). width s.family) (sym c.self.view_is)) (e ∙ ap (λ (s : Shown). all_answers s.family L) (sym c.self.view_is)) c.fill_all.ensures.orders.0 c.fill_all.ensures.orders.1 w n l na la))

pub returns-clause-none : goal.returns-clause-none
returns-clause-none g c =
    let same : take c.self.inside.words.len (c.fill_all.new.words ++ drop (length c.fill_all.new.words) c.self.inside.words.items) ≡ c.fill_all.new.words =
    take_at c.fill_all.new.words (drop (length c.fill_all.new.words) c.self.inside.words.items) c.self.inside.words.len (c.fill_all.auto.words ∙ c.deref_mut.ensures.len) in
    let n : length c.deref_mut.result.now ≡ 2 ^ c.self.inside.direct_bits = omega (arith, ap length c.deref_mut.ensures.value, c.self.invariant.0.words) in
    rw same
    (all_err c.fill_all.result c.fill_all.ensures.cleared_words c.fill_all.ensures.cleared_nodes c.fill_all.ensures.cleared_leaves
    (λ w x y. stands_none (record { family = c.self.inside.family; direct_bits = c.self.inside.direct_bits; words = c.fill_all.new.words; nodes = c.fill_all.new.nodes; leaves = c.fill_all.new.leaves }) _ _ _ _ c.self.invariant.0.few (w ∙ ap (λ m. replicate m 2147483648) n) x y))

pub invariant_of-self : goal.invariant_of-self
invariant_of-self g c =
    let same : take c.self.inside.words.len (c.fill_all.new.words ++ drop (length c.fill_all.new.words) c.self.inside.words.items) ≡ c.fill_all.new.words =
    take_at c.fill_all.new.words (drop (length c.fill_all.new.words) c.self.inside.words.items) c.self.inside.words.len (c.fill_all.auto.words ∙ c.deref_mut.ensures.len) in
    let n : length c.deref_mut.result.now ≡ 2 ^ c.self.inside.direct_bits = omega (arith, ap length c.deref_mut.ensures.value, c.self.invariant.0.words) in
    let t : Shown = record { family = c.self.inside.family; direct_bits = c.self.inside.direct_bits; words = c.fill_all.new.words; nodes = c.fill_all.new.nodes; leaves = c.fill_all.new.leaves } in
    let has : HasAnswers t =
    all_either c.fill_all.result c.fill_all.ensures.words c.fill_all.ensures.nodes c.fill_all.ensures.leaves c.fill_all.ensures.nodes_apart c.fill_all.ensures.leaves_apart c.fill_all.ensures.cleared_words c.fill_all.ensures.cleared_nodes c.fill_all.ensures.cleared_leaves
    (λ w n l na la. record {
      answers = _;
      stands = stands_for_answers c.self.inside.family c.self.inside.direct_bits c.fill_all.new.words c.fill_all.new.nodes c.fill_all.new.leaves _ _ _ _ (c.requires ∙ ap (λ (s : Shown). width s.family) (sym c.self.view_is)) c.fill_all.ensures.orders.0 c.fill_all.ensures.orders.1 w n l na la;
    })
    (λ w x y. record { answers = all_answers c.self.inside.family []; stands = stands_none t _ _ _ _ c.self.invariant.0.few (w ∙ ap (λ m. replicate m 2147483648) n) x y }) in
    rw same
    (record { few = c.self.invariant.0.few; words = c.fill_all.auto.words ∙ n; nodes = c.fill_all.ensures.nodes_sized; leaves = c.fill_all.ensures.leaves_sized }, has)

pub returns-clause-orders : goal.returns-clause-orders
returns-clause-orders g c = (c.fill_all.ensures.orders.0 ∙ ap (λ (s : Shown). s.nodes.order) c.self.view_is, c.fill_all.ensures.orders.1 ∙ ap (λ (s : Shown). s.leaves.order) c.self.view_is)
