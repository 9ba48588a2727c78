use Rattle.std.proofs.Common.{◌≡◌, sym, subst}
use Rattle.poptrie_build.specs.Tries.{node_need, leaf_need}
use Rattle.poptrie_set.specs.Lives.{Seen, ShowsIn}
use Rattle.poptrie_set.proofs.trie_set.TrieSet.needs.Goals as goal

pub returns : goal.returns
returns c = λ L M sh.
    let at = subst (λ (l : Seen). ShowsIn l L M) (sym c.self.view_is) sh in
    let nodes = c.own_places.ensures (node_need c.self.inside.family c.self.inside.direct_bits L) at.2.before.nodes_fill in
    let leaves = c.own_places-2.ensures (leaf_need c.self.inside.family c.self.inside.direct_bits L) at.2.before.leaves_fill in
    (subst (λ (l : Seen). c.own_places.result ≡ node_need l.family l.direct_bits L) c.self.view_is nodes, subst (λ (l : Seen). c.own_places-2.result ≡ leaf_need l.family l.direct_bits L) c.self.view_is leaves)
