use Rattle.std.proofs.Common.{rules, ◌+◌, ◌<◌, ◌≤◌, subst, arith}
use Rattle.poptrie_set.specs.Lives.{Seen, ShowsSome}
use Rattle.poptrie_set.specs.First.{published_in}
use Rattle.poptrie_set.specs.declared.reading.At.{At}
use Rattle.poptrie_set.proofs.On_way.{OnWay, Way, way_starts, way_leads, way_few, way_can}
use Rattle.poptrie_set.proofs.trie_set.TrieSet.lookup.Goals as goal

pub walk-init : goal.walk-init
walk-init g c = (omega arith, λ E F sh. way_starts c.first-at.result c.args.self.now (published_in c.args.self.now E F c.args.addr.now) c.args.addr.now (c.first-at.ensures E F sh))

pub overflow_add-visits : goal.overflow_add-visits
overflow_add-visits g c =
    let some : ShowsSome c.args.self.now = subst (λ (l : Seen). ShowsSome l) c.self.view_is c.self.invariant.1 in
    let way : Way c.args.self.now (published_in c.args.self.now some.before some.after c.args.addr.now) c.args.addr.now c.in-Node.node c.in-Node.stride c.walk.visits = subst (λ (r : At). OnWay r c.args.self.now (published_in c.args.self.now some.before some.after c.args.addr.now) c.args.addr.now c.walk.visits) c.in-Node.is (c.walk.invariant.1 some.before some.after some.shows) in
    let few = way_few c.args.self.now (published_in c.args.self.now some.before some.after c.args.addr.now) c.args.addr.now c.in-Node.node c.in-Node.stride c.walk.visits c.requires.family (subst (λ (l : Seen). l.direct_bits ≤ 18) c.self.view_is c.self.invariant.0.few) way in
    let h : c.walk.visits + 1 < 256 = omega (arith, few.1) in
    search (rules, h)

pub next-at-requires-clause-stride : goal.next-at-requires-clause-stride
next-at-requires-clause-stride g c =
    let some : ShowsSome c.args.self.now = subst (λ (l : Seen). ShowsSome l) c.self.view_is c.self.invariant.1 in
    let way : Way c.args.self.now (published_in c.args.self.now some.before some.after c.args.addr.now) c.args.addr.now c.in-Node.node c.in-Node.stride c.walk.visits = subst (λ (r : At). OnWay r c.args.self.now (published_in c.args.self.now some.before some.after c.args.addr.now) c.args.addr.now c.walk.visits) c.in-Node.is (c.walk.invariant.1 some.before some.after some.shows) in
    (way_few c.args.self.now (published_in c.args.self.now some.before some.after c.args.addr.now) c.args.addr.now c.in-Node.node c.in-Node.stride c.walk.visits c.requires.family (subst (λ (l : Seen). l.direct_bits ≤ 18) c.self.view_is c.self.invariant.0.few) way).0

pub next-at-requires-clause-can : goal.next-at-requires-clause-can
next-at-requires-clause-can g c =
    let some : ShowsSome c.args.self.now = subst (λ (l : Seen). ShowsSome l) c.self.view_is c.self.invariant.1 in
    let way : Way c.args.self.now (published_in c.args.self.now some.before some.after c.args.addr.now) c.args.addr.now c.in-Node.node c.in-Node.stride c.walk.visits = subst (λ (r : At). OnWay r c.args.self.now (published_in c.args.self.now some.before some.after c.args.addr.now) c.args.addr.now c.walk.visits) c.in-Node.is (c.walk.invariant.1 some.before some.after some.shows) in
    way_can c.args.self.now (published_in c.args.self.now some.before some.after c.args.addr.now) c.args.addr.now c.in-Node.node c.in-Node.stride c.walk.visits way

pub walk-smaller : goal.walk-smaller
walk-smaller g c =
    let some : ShowsSome c.args.self.now = subst (λ (l : Seen). ShowsSome l) c.self.view_is c.self.invariant.1 in
    let way : Way c.args.self.now (published_in c.args.self.now some.before some.after c.args.addr.now) c.args.addr.now c.in-Node.node c.in-Node.stride c.walk.visits = subst (λ (r : At). OnWay r c.args.self.now (published_in c.args.self.now some.before some.after c.args.addr.now) c.args.addr.now c.walk.visits) c.in-Node.is (c.walk.invariant.1 some.before some.after some.shows) in
    let few = way_few c.args.self.now (published_in c.args.self.now some.before some.after c.args.addr.now) c.args.addr.now c.in-Node.node c.in-Node.stride c.walk.visits c.requires.family (subst (λ (l : Seen). l.direct_bits ≤ 18) c.self.view_is c.self.invariant.0.few) way in
    omega (arith, few.1)

pub walk-preserved : goal.walk-preserved
walk-preserved g c = (
  omega (arith, c.walk.invariant.0, c.tick.ensures),
  λ E F sh.
      let way : Way c.args.self.now (published_in c.args.self.now E F c.args.addr.now) c.args.addr.now c.in-Node.node c.in-Node.stride c.walk.visits = subst (λ (r : At). OnWay r c.args.self.now (published_in c.args.self.now E F c.args.addr.now) c.args.addr.now c.walk.visits) c.in-Node.is (c.walk.invariant.1 E F sh) in
      way_leads c.next-at.result c.args.self.now (published_in c.args.self.now E F c.args.addr.now) c.args.addr.now c.in-Node.node c.in-Node.stride c.walk.visits (c.walk.visits + 1) way (omega arith) (c.next-at.ensures way.left _ way.N way.L way.reads),
)
