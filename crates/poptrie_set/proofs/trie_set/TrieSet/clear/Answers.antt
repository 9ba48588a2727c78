use Rattle.std.proofs.Common.{arith, [], ◌≡◌, ◌++◌, ap, sym, subst, ◌∙◌, replicate, take, drop, length, ◌^◌, refl}
use Rattle.std.proofs.lemmas.List.{take_at}
use Rattle.poptrie_build.proofs.Filled.{stands_none}
use Rattle.poptrie_set.specs.Lives.{Seen, ShowsIn}
use Rattle.poptrie_set.proofs.Quiet.{fresh_is, fresh_shows, fresh_kept, empty_sized}
use Rattle.poptrie_set.proofs.trie_set.TrieSet.clear.Goals as goal

pub invariant_of-self : goal.invariant_of-self
invariant_of-self c =
    let same : take c.self.inside.words.len (c.clear_all.new.words ++ drop (length c.clear_all.new.words) c.self.inside.words.items) ≡ c.clear_all.new.words =
    take_at c.clear_all.new.words (drop (length c.clear_all.new.words) c.self.inside.words.items) c.self.inside.words.len (c.clear_all.auto.words ∙ c.deref_mut.ensures.len) in
    let n : length c.clear_all.new.words ≡ 2 ^ c.self.inside.direct_bits = c.clear_all.auto.words ∙ (ap length c.deref_mut.ensures.value ∙ c.self.invariant.0.many) in
    let m : length c.deref_mut.result.now ≡ 2 ^ c.self.inside.direct_bits = omega (arith, ap length c.deref_mut.ensures.value, c.self.invariant.0.many) in (
      fresh_kept c.self.inside.direct_bits _ c.clear_all.new.nodes c.clear_all.new.leaves c.clear.new.self c.clear-2.new.self _ c.clear-3.new.self.items 0 c.self.inside.arenas.node_blocks.time c.self.inside.arenas.leaf_blocks.time c.self.invariant.0.few (ap length same ∙ n) (empty_sized c.clear_all.new.nodes c.self.inside.arenas.nodes.order _ c.self.invariant.0.nodes_sized.small c.clear_all.ensures.nodes) (empty_sized c.clear_all.new.leaves c.self.inside.arenas.leaves.order _ c.self.invariant.0.leaves_sized.small c.clear_all.ensures.leaves) c.clear.ensures c.clear-2.ensures c.self.invariant.0.times c.clear-3.ensures.items refl,
      record {
        before = [];
        after = [];
        shows =
            rw same
            (subst (λ (m : Seen). ShowsIn m [] []) (sym (fresh_is c.self.inside.family c.self.inside.direct_bits c.clear_all.new.words c.clear_all.new.nodes c.clear_all.new.leaves c.clear.new.self c.clear-2.new.self _ c.clear-3.new.self.items 0 c.self.inside.arenas.node_blocks.time c.self.inside.arenas.leaf_blocks.time c.clear.ensures c.clear-2.ensures refl c.clear-3.ensures.items refl))
            (fresh_shows _ c.self.inside.arenas.node_blocks.time []
            (stands_none (record { family = c.self.inside.family; direct_bits = c.self.inside.direct_bits; words = c.clear_all.new.words; nodes = c.clear_all.new.nodes; leaves = c.clear_all.new.leaves }) _ _ _ _ c.self.invariant.0.few (c.clear_all.ensures.words ∙ ap (λ j. replicate j 2147483648) m) c.clear_all.ensures.nodes c.clear_all.ensures.leaves)));
      },
    )

pub returns-clause-none : goal.returns-clause-none
returns-clause-none c =
    let same : take c.self.inside.words.len (c.clear_all.new.words ++ drop (length c.clear_all.new.words) c.self.inside.words.items) ≡ c.clear_all.new.words =
    take_at c.clear_all.new.words (drop (length c.clear_all.new.words) c.self.inside.words.items) c.self.inside.words.len (c.clear_all.auto.words ∙ c.deref_mut.ensures.len) in
    let n : length c.deref_mut.result.now ≡ 2 ^ c.self.inside.direct_bits = omega (arith, ap length c.deref_mut.ensures.value, c.self.invariant.0.many) in
    rw same
    (subst (λ (m : Seen). ShowsIn m [] []) (sym (fresh_is c.self.inside.family c.self.inside.direct_bits c.clear_all.new.words c.clear_all.new.nodes c.clear_all.new.leaves c.clear.new.self c.clear-2.new.self _ c.clear-3.new.self.items 0 c.self.inside.arenas.node_blocks.time c.self.inside.arenas.leaf_blocks.time c.clear.ensures c.clear-2.ensures refl c.clear-3.ensures.items refl))
    (fresh_shows _ c.self.inside.arenas.node_blocks.time []
    (stands_none (record { family = c.self.inside.family; direct_bits = c.self.inside.direct_bits; words = c.clear_all.new.words; nodes = c.clear_all.new.nodes; leaves = c.clear_all.new.leaves }) _ _ _ _ c.self.invariant.0.few (c.clear_all.ensures.words ∙ ap (λ m. replicate m 2147483648) n) c.clear_all.ensures.nodes c.clear_all.ensures.leaves)))
