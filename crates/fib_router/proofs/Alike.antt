-- A trie shows entries by their answers alone.
use Rattle.std.proofs.Common.{◌≡◌, ℕ, ◌+◌, ◌≤◌, List, Bool, false, sym, ap, ◌∙◌, subst}
use Rattle.table_model.specs.declared.family.Family.{Family}
use Rattle.table_model.specs.Entries.{Entries}
use Rattle.buddy_arena.specs.Space.{Space}
use Rattle.buddy_arena.specs.Arrays.{Array, places_of}
use Rattle.buddy_arena.specs.Places.{count_free}
use Rattle.fib_addr.specs.Answers.{all_answers}
use Rattle.poptrie_build.specs.Need.{trie_nodes, trie_leaves}
use Rattle.poptrie_build.specs.Stands.{TrieStands}
use Rattle.poptrie_build.specs.Strides.{strides}
use Rattle.poptrie_build.specs.Tries.{rest, node_need, leaf_need}
use Rattle.poptrie_build.specs.declared.node.Node.{Node}
use Rattle.poptrie_set.specs.Lives.{Seen, ShowsIn}
use Rattle.poptrie_set.specs.Version.{IsVersion}
use Rattle.poptrie_update.specs.Lives.{ShowsBy, is_selecting}
use Rattle.poptrie_update.specs.declared.live.Other.{Other}
use Rattle.poptrie_update.specs.declared.live.Other.TheVariants as other

pub node_need_alike : (f : Family) (s : ℕ) (L M : Entries) → all_answers f L ≡ all_answers f M → node_need f s L ≡ node_need f s M
node_need_alike f s L M e = ap (trie_nodes s (strides (rest f s)) (rest f s)) e

pub leaf_need_alike : (f : Family) (s : ℕ) (L M : Entries) → all_answers f L ≡ all_answers f M → leaf_need f s L ≡ leaf_need f s M
leaf_need_alike f s L M e = ap (trie_leaves s (strides (rest f s)) (rest f s)) e

version_alike : (f : Family) (s : ℕ) (nodes : Space Node) (leaves : Space ℕ) (direct : List ℕ) (L M : Entries) (ns ls : List Array) → all_answers f L ≡ all_answers f M → IsVersion f s nodes leaves direct L ns ls → IsVersion f s nodes leaves direct M ns ls
version_alike f s nodes leaves direct L M ns ls e v = record {
  words = subst (λ (g : List Bool → ℕ). TrieStands s direct (strides (rest f s)) nodes.cells leaves.cells (rest f s) g) e v.words;
  nodes_apart = v.nodes_apart;
  leaves_apart = v.leaves_apart;
  nodes_fill = ap (λ (n : ℕ). count_free nodes + (places_of ns + n)) (sym (node_need_alike f s L M e)) ∙ v.nodes_fill;
  leaves_fill = ap (λ (n : ℕ). count_free leaves + (places_of ls + n)) (sym (leaf_need_alike f s L M e)) ∙ v.leaves_fill;
}

pub shows_alike : (l : Seen) (L M E F : Entries) → all_answers l.family L ≡ all_answers l.family E → all_answers l.family M ≡ all_answers l.family F → ShowsIn l L M → ShowsIn l E F
shows_alike l L M E F d e sh = (
  sh.0,
  sh.1,
  record {
    before = version_alike l.family l.direct_bits l.nodes.space l.leaves.space sh.0 L E _ _ d sh.2.before;
    after = version_alike l.family l.direct_bits l.nodes.space l.leaves.space sh.1 M F _ _ e sh.2.after;
    nodes_few = subst (λ (n : ℕ). places_of l.nodes.replaced ≤ n) (node_need_alike l.family l.direct_bits L E d) sh.2.nodes_few;
    leaves_few = subst (λ (n : ℕ). places_of l.leaves.replaced ≤ n) (leaf_need_alike l.family l.direct_bits L E d) sh.2.leaves_few;
    made = sh.2.made;
    words = sh.2.words;
    stored = sh.2.stored;
    unstored = sh.2.unstored;
    shared = sh.2.shared;
    due = sh.2.due;
  },
)

-- where no selector is pending
pub live_alike : (o : Other) (l r : Seen) (L M E F : Entries) → is_selecting o ≡ false → all_answers l.family L ≡ all_answers l.family E → all_answers l.family M ≡ all_answers l.family F → ShowsBy o l r L M → ShowsBy o l r E F
live_alike other.Free l r L M E F q d e sh = shows_alike l L M E F d e sh
live_alike (other.Retired end) l r L M E F q d e sh = shows_alike l L M E F d e sh
live_alike other.Built l r L M E F q d e sh = absurd (cc)
live_alike other.Replaced l r L M E F q d e sh = absurd (cc)
