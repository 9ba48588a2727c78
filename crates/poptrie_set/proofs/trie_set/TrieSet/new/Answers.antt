use Rattle.std.proofs.Common.{[], ◌∙◌, ◌^◌, arith, length, refl, sym, ap, subst}
use Rattle.std.proofs.lemmas.List.{length-replicate}
use Rattle.poptrie_build.proofs.Filled.{stands_none}
use Rattle.poptrie_set.specs.Lives.{Seen, ShowsIn}
use Rattle.poptrie_set.proofs.Quiet.{fresh_is, fresh_shows, fresh_kept, empty_sized}
use Rattle.poptrie_set.proofs.trie_set.TrieSet.new.Goals as goal

pub invariant_of-result : goal.invariant_of-result
invariant_of-result c = (
  fresh_kept c.args.direct_bits c.in_ok-words.words.items c.in_ok-nodes.nodes c.in_ok-leaves.leaves c.new-3.result c.new-4.result _ c.new-5.result.items 0 0 0 c.requires.direct (ap length c.in_ok-words.ensures ∙ length-replicate (2 ^ c.args.direct_bits) 2147483648) (empty_sized c.in_ok-nodes.nodes c.args.node_order _ (omega (arith, c.requires.nodes)) c.in_ok-nodes.ensures.made) (empty_sized c.in_ok-leaves.leaves c.args.leaf_order _ (omega (arith, c.requires.leaves)) c.in_ok-leaves.ensures.made) c.new-3.ensures c.new-4.ensures refl c.new-5.ensures.items refl,
  record {
    before = [];
    after = [];
    shows =
        subst (λ (l : Seen). ShowsIn l [] []) (sym (fresh_is c.args.family c.args.direct_bits c.in_ok-words.words.items c.in_ok-nodes.nodes c.in_ok-leaves.leaves c.new-3.result c.new-4.result _ c.new-5.result.items 0 0 0 c.new-3.ensures c.new-4.ensures refl c.new-5.ensures.items refl))
        (fresh_shows _ 0 [] (stands_none _ _ _ _ _ c.requires.direct c.in_ok-words.ensures c.in_ok-nodes.ensures.made c.in_ok-leaves.ensures.made));
  },
)

pub returns-clause-shows : goal.returns-clause-shows
returns-clause-shows c =
    subst (λ (l : Seen). ShowsIn l [] []) (sym (fresh_is c.args.family c.args.direct_bits c.in_ok-words.words.items c.in_ok-nodes.nodes c.in_ok-leaves.leaves c.new-3.result c.new-4.result _ c.new-5.result.items 0 0 0 c.new-3.ensures c.new-4.ensures refl c.new-5.ensures.items refl))
    (fresh_shows _ 0 [] (stands_none _ _ _ _ _ c.requires.direct c.in_ok-words.ensures c.in_ok-nodes.ensures.made c.in_ok-leaves.ensures.made))
