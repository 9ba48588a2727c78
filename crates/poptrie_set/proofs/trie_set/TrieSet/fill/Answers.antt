use Rattle.std.proofs.Common.{arith, [], ◌≡◌, ◌++◌, ap, sym, subst, ◌∙◌, replicate, take, drop, length, ◌^◌, false}
use Rattle.std.proofs.lemmas.List.{take_at}
use Rattle.table_model.specs.Width.{width}
use Rattle.fib_addr.specs.Answers.{all_answers}
use Rattle.poptrie_build.specs.Tries.{Shown}
use Rattle.poptrie_build.proofs.Filled.{stands_none, stands_built, stands_for_answers, wide_enough, all_either, all_ok, all_err}
use Rattle.poptrie_set.specs.Lives.{Seen, ShowsIn, ShowsSome}
use Rattle.poptrie_set.proofs.Quiet.{fresh, fresh_is, fresh_shows, fresh_some, fresh_kept}
use Rattle.poptrie_set.proofs.trie_set.TrieSet.fill.Goals as goal

pub invariant_of-self : goal.invariant_of-self
invariant_of-self g c =
    let same : take c.self.inside.words.len (c.fill_all.new.words ++ drop (length c.fill_all.new.words) c.self.inside.words.items) ≡ c.fill_all.new.words =
    take_at c.fill_all.new.words (drop (length c.fill_all.new.words) c.self.inside.words.items) c.self.inside.words.len (c.fill_all.auto.words ∙ c.deref_mut.ensures.len) in
    let none : c.self.inside.pending ≡ false = subst (λ (l : Seen). l.pending ≡ false) (sym c.self.view_is) c.requires.quiet in
    let q = c.self.invariant.0.quiet none in
    let n : length c.fill_all.new.words ≡ 2 ^ c.self.inside.direct_bits = c.fill_all.auto.words ∙ (ap length c.deref_mut.ensures.value ∙ c.self.invariant.0.many) in
    let t : Shown = record { family = c.self.inside.family; direct_bits = c.self.inside.direct_bits; words = c.fill_all.new.words; nodes = c.fill_all.new.nodes; leaves = c.fill_all.new.leaves } in
    let z : length c.deref_mut.result.now ≡ 2 ^ c.self.inside.direct_bits = omega (arith, ap length c.deref_mut.ensures.value, c.self.invariant.0.many) in
    let some : ShowsSome (fresh t c.self.inside.arenas.node_blocks.time) =
    all_either c.fill_all.result c.fill_all.ensures.words c.fill_all.ensures.nodes c.fill_all.ensures.leaves c.fill_all.ensures.nodes_apart c.fill_all.ensures.leaves_apart c.fill_all.ensures.cleared_words c.fill_all.ensures.cleared_nodes c.fill_all.ensures.cleared_leaves
    (λ w n l na la. fresh_some t c.self.inside.arenas.node_blocks.time _ (wide_enough c.self.inside.family c.self.inside.direct_bits c.self.invariant.0.few) (stands_for_answers c.self.inside.family c.self.inside.direct_bits c.fill_all.new.words c.fill_all.new.nodes c.fill_all.new.leaves _ _ _ _ (c.requires.bits ∙ ap (λ (s : Seen). width s.family) (sym c.self.view_is)) c.fill_all.ensures.orders.0 c.fill_all.ensures.orders.1 w n l na la))
    (λ w x y. record { before = []; after = []; shows = fresh_shows t c.self.inside.arenas.node_blocks.time [] (stands_none t _ _ _ _ c.self.invariant.0.few (w ∙ ap (λ m. replicate m 2147483648) z) x y) }) in (
      fresh_kept c.self.inside.direct_bits _ c.fill_all.new.nodes c.fill_all.new.leaves c.clear.new.self c.clear-2.new.self c.self.inside.pending c.self.inside.stores.items c.self.inside.made c.self.inside.arenas.node_blocks.time c.self.inside.arenas.leaf_blocks.time c.self.invariant.0.few (ap length same ∙ n) c.fill_all.ensures.nodes_sized c.fill_all.ensures.leaves_sized c.clear.ensures c.clear-2.ensures c.self.invariant.0.times q.no_stores q.none_made,
      rw same (subst (λ (m : Seen). ShowsSome m) (sym (fresh_is c.self.inside.family c.self.inside.direct_bits c.fill_all.new.words c.fill_all.new.nodes c.fill_all.new.leaves c.clear.new.self c.clear-2.new.self c.self.inside.pending c.self.inside.stores.items c.self.inside.made c.self.inside.arenas.node_blocks.time c.self.inside.arenas.leaf_blocks.time c.clear.ensures c.clear-2.ensures none q.no_stores q.none_made)) some),
    )

pub returns-clause-built : goal.returns-clause-built
returns-clause-built g c =
    let same : take c.self.inside.words.len (c.fill_all.new.words ++ drop (length c.fill_all.new.words) c.self.inside.words.items) ≡ c.fill_all.new.words =
    take_at c.fill_all.new.words (drop (length c.fill_all.new.words) c.self.inside.words.items) c.self.inside.words.len (c.fill_all.auto.words ∙ c.deref_mut.ensures.len) in
    let none : c.self.inside.pending ≡ false = subst (λ (l : Seen). l.pending ≡ false) (sym c.self.view_is) c.requires.quiet in
    let q = c.self.invariant.0.quiet none in
    rw same
    (all_ok c.fill_all.result c.fill_all.ensures.words c.fill_all.ensures.nodes c.fill_all.ensures.leaves c.fill_all.ensures.nodes_apart c.fill_all.ensures.leaves_apart
    (λ w n l na la. λ L e.
    subst (λ (m : Seen). ShowsIn m L L) (sym (fresh_is c.self.inside.family c.self.inside.direct_bits c.fill_all.new.words c.fill_all.new.nodes c.fill_all.new.leaves c.clear.new.self c.clear-2.new.self c.self.inside.pending c.self.inside.stores.items c.self.inside.made c.self.inside.arenas.node_blocks.time c.self.inside.arenas.leaf_blocks.time c.clear.ensures c.clear-2.ensures none q.no_stores q.none_made))
    (fresh_shows _ c.self.inside.arenas.node_blocks.time L
    (stands_built c.self.inside.family c.self.inside.direct_bits c.fill_all.new.words c.fill_all.new.nodes c.fill_all.new.leaves L _ _ _ _ (c.requires.bits ∙ ap (λ (s : Seen). width s.family) (sym c.self.view_is)) (e ∙ ap (λ (s : Seen). all_answers s.family L) (sym c.self.view_is)) c.fill_all.ensures.orders.0 c.fill_all.ensures.orders.1 w n l na la))))

pub returns-clause-none : goal.returns-clause-none
returns-clause-none g c =
    let same : take c.self.inside.words.len (c.fill_all.new.words ++ drop (length c.fill_all.new.words) c.self.inside.words.items) ≡ c.fill_all.new.words =
    take_at c.fill_all.new.words (drop (length c.fill_all.new.words) c.self.inside.words.items) c.self.inside.words.len (c.fill_all.auto.words ∙ c.deref_mut.ensures.len) in
    let none : c.self.inside.pending ≡ false = subst (λ (l : Seen). l.pending ≡ false) (sym c.self.view_is) c.requires.quiet in
    let q = c.self.invariant.0.quiet none in
    let n : length c.deref_mut.result.now ≡ 2 ^ c.self.inside.direct_bits = omega (arith, ap length c.deref_mut.ensures.value, c.self.invariant.0.many) in
    rw same
    (all_err c.fill_all.result c.fill_all.ensures.cleared_words c.fill_all.ensures.cleared_nodes c.fill_all.ensures.cleared_leaves
    (λ w x y.
    subst (λ (m : Seen). ShowsIn m [] []) (sym (fresh_is c.self.inside.family c.self.inside.direct_bits c.fill_all.new.words c.fill_all.new.nodes c.fill_all.new.leaves c.clear.new.self c.clear-2.new.self c.self.inside.pending c.self.inside.stores.items c.self.inside.made c.self.inside.arenas.node_blocks.time c.self.inside.arenas.leaf_blocks.time c.clear.ensures c.clear-2.ensures none q.no_stores q.none_made))
    (fresh_shows _ c.self.inside.arenas.node_blocks.time []
    (stands_none (record { family = c.self.inside.family; direct_bits = c.self.inside.direct_bits; words = c.fill_all.new.words; nodes = c.fill_all.new.nodes; leaves = c.fill_all.new.leaves }) _ _ _ _ c.self.invariant.0.few (w ∙ ap (λ m. replicate m 2147483648) n) x y))))
