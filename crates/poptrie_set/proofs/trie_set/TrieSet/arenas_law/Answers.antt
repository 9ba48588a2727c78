use Rattle.std.proofs.Common.{ℕ, ap, subst}
use Rattle.buddy_arena.specs.Blocks.{AreRetiredBy}
use Rattle.poptrie_set.specs.Lives.{KeepsBlocks, stores_of}
use Rattle.poptrie_set.proofs.trie_set.TrieSet.arenas_law.Goals as goal

pub returns : goal.returns
returns c =
    let kept = c.self.invariant.0 in
    subst KeepsBlocks c.self.view_is
    (record {
      shows = c.self.invariant.1;
      nodes_over = c.retired_law.ensures;
      leaves_over = subst (λ (t : ℕ). AreRetiredBy t c.self.inside.arenas.leaf_blocks.retired) kept.times c.retired_law-2.ensures;
      quiet = λ e. record {
        no_stores = ap stores_of (kept.quiet e).no_stores;
        nodes_taken = (kept.quiet e).nodes_taken;
        nodes_replaced = (kept.quiet e).nodes_replaced;
        leaves_taken = (kept.quiet e).leaves_taken;
        leaves_replaced = (kept.quiet e).leaves_replaced;
      };
    })
