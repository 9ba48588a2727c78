use Rattle.std.proofs.Common.{rules, ◌≡◌, ◌∙◌, sym, ◌<◌, ◌≤◌, ◌/◌, ◌-◌, ◌^◌, ℕ, length, get_or, refl, subst, arith}
use Rattle.poptrie_build.proofs.Bits.{short}
use Rattle.poptrie_build.proofs.Word.{slot_by, small_by}
use Rattle.poptrie_set.specs.Lives.{Seen}
use Rattle.poptrie_set.specs.First.{slot_of}
use Rattle.poptrie_set.proofs.First_read.{node_starts, hop_starts, word_read}
use Rattle.poptrie_set.proofs.trie_set.TrieSet.first.Goals as goal

pub overflow_cast-key_of : goal.overflow_cast-key_of
overflow_cast-key_of c =
    let few = c.self.invariant.0.few in
    let h = small_by c.self.inside.direct_bits c.key_of.result (omega arith) c.key_of.type_inv in
    search (rules, h)

pub index-word-requires : goal.index-word-requires
index-word-requires c =
    let few = c.self.invariant.0.few in
    let many = c.self.invariant.0.many in
    let same = slot_by c.self.inside.direct_bits c.key_of.result (omega arith) in
    let b = short c.key_of.result c.self.inside.direct_bits c.key_of.type_inv (omega arith) in
    let h : c.key_of.result / 2 / 2 ^ (127 - c.self.inside.direct_bits) < length c.self.inside.words.items = omega arith in
    search (rules, h)

pub returns-in-Hop : goal.returns-in-Hop
returns-in-Hop c = λ L M sh.
    let few = c.self.invariant.0.few in
    let w = word_read c.self.inside.direct_bits c.self.inside.words.items c.key_of.result c.args.addr.now c.index-word.result.now (omega arith) c.key_of.ensures.key c.index-word.ensures (omega (arith, c.self.invariant.0.many)) c.key_of.type_inv in
    let h = hop_starts c.args.self.now L M sh c.args.addr.now c.requires.family (subst (λ (l : Seen). l.direct_bits ≤ 32) c.self.view_is (omega arith)) (subst (λ (k : ℕ). k < 2 ^ 128) c.key_of.ensures.key c.key_of.type_inv) c.index-word.result.now (subst (λ (l : Seen). c.index-word.result.now ≡ get_or l.words (slot_of l.direct_bits c.args.addr.now) 0) c.self.view_is w) c.in-Hop.ensures.0 in
    let is : c.in-Hop.hop.0 ≡ c.index-word.result.now - 2 ^ 31 = omega (arith, c.in-Hop.ensures.0, c.in-Hop.ensures.1 (omega (arith, h.0, c.in-Hop.ensures.0))) in
    (is ∙ h.1, h.2)

pub returns-in-Node : goal.returns-in-Node
returns-in-Node c = λ L M sh.
    let few = c.self.invariant.0.few in
    let w = word_read c.self.inside.direct_bits c.self.inside.words.items c.key_of.result c.args.addr.now c.index-word.result.now (omega arith) c.key_of.ensures.key c.index-word.ensures (omega (arith, c.self.invariant.0.many)) c.key_of.type_inv in
    let at = subst (λ (l : Seen). c.index-word.result.now ≡ get_or l.words (slot_of l.direct_bits c.args.addr.now) 0) c.self.view_is w in
    (refl, node_starts c.args.self.now L M sh c.args.addr.now c.requires.family (subst (λ (l : Seen). l.direct_bits ≤ 32) c.self.view_is (omega arith)) (subst (λ (k : ℕ). k < 2 ^ 128) c.key_of.ensures.key c.key_of.type_inv) c.in-Node.node (c.in-Node.ensures.1 ∙ at) (subst (λ (x : ℕ). x < 2 ^ 31) (sym c.in-Node.ensures.1) c.in-Node.ensures.0))
