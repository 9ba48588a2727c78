use Rattle.std.proofs.Common.{ℕ, ◌+◌, ◌*◌, ◌%◌, ◌^◌, ◌<◌, ap, subst, sym, arith}
use Rattle.poptrie_set.specs.Lives.{Seen}
use Rattle.poptrie_set.specs.Reading.{ReadsOn, CanRead, LeadsIn, IsKeyOf, bits_after}
use Rattle.poptrie_set.proofs.Key_bits.{key_of_rest}
use Rattle.poptrie_set.proofs.First_read.{leads_at}
use Rattle.poptrie_set.proofs.trie_set.TrieSet.next.Goals as goal

pub visit-requires-clause-can : goal.visit-requires-clause-can
visit-requires-clause-can c =
    let key = ap (λ (k : ℕ). k * 2 ^ (c.self.inside.direct_bits + 6 * c.args.stride) % 2 ^ 128) c.key_of.ensures.key in
    let few = subst (λ (q : Seen). q.direct_bits + 6 * c.args.stride < 128) (sym c.self.view_is) c.requires.stride in (
      bits_after c.self.inside.direct_bits c.args.stride c.args.addr.now,
      subst (λ (k : ℕ). IsKeyOf k (bits_after c.self.inside.direct_bits c.args.stride c.args.addr.now)) (sym key) (key_of_rest c.args.addr.now c.self.inside.direct_bits c.args.stride (omega (arith, few))),
      subst (λ (q : Seen). CanRead q.nodes.space.cells q.leaves.space.cells c.args.node (bits_after q.direct_bits c.args.stride c.args.addr.now)) (sym c.self.view_is) c.requires.can,
    )

pub returns : goal.returns
returns c = λ left h N L r.
    let key = ap (λ (k : ℕ). k * 2 ^ (c.self.inside.direct_bits + 6 * c.args.stride) % 2 ^ 128) c.key_of.ensures.key in
    let few = subst (λ (q : Seen). q.direct_bits + 6 * c.args.stride < 128) (sym c.self.view_is) c.requires.stride in
    let bits = bits_after c.self.inside.direct_bits c.args.stride c.args.addr.now in
    let is = subst (λ (k : ℕ). IsKeyOf k bits) (sym key) (key_of_rest c.args.addr.now c.self.inside.direct_bits c.args.stride (omega (arith, few))) in
    let reads = subst (λ (q : Seen). ReadsOn left q.nodes.space.cells N q.leaves.space.cells L c.args.node (bits_after q.direct_bits c.args.stride c.args.addr.now) h) (sym c.self.view_is) r in
    subst (λ (q : Seen). LeadsIn c.visit.result left q.nodes.space.cells N q.leaves.space.cells L q.direct_bits c.args.stride c.args.addr.now h) c.self.view_is
    (leads_at c.visit.result left c.self.inside.arenas.nodes.cells N c.self.inside.arenas.leaves.cells L c.self.inside.direct_bits c.args.stride c.args.addr.now h (c.visit.ensures.leads bits left h N L is reads))
