use Rattle.std.proofs.Common.{◌≡◌, ℕ, [], ◌∙◌, ◌≤◌, sym, ap, subst, false}
use Rattle.std.specs.List.{AllByRecursion}
use Rattle.poptrie_set.specs.Lives.{Seen, ShowsIn}
use Rattle.poptrie_set.specs.Fits.{Reader, FitsIn, until}
use Rattle.poptrie_set.specs.Past.{PastIn}
use Rattle.poptrie_set.specs.declared.trie_set.Oldest.{Oldest}
use Rattle.poptrie_set.proofs.Lived.{seen_as}
use Rattle.poptrie_set.proofs.Fitting.{release_fits}
use Rattle.poptrie_set.proofs.Quiet.{release_is, release_keeps, release_shows, release_past, since_all}
use Rattle.poptrie_set.specs.Cells.{KeepsCells}
use Rattle.poptrie_set.specs.Prepares.{GaveBack}
use Rattle.poptrie_set.proofs.Given_once.{given_once}
use Rattle.poptrie_set.proofs.Unwritten.{release_cells}
use Rattle.poptrie_set.proofs.trie_set.TrieSet.give_back.Goals as goal
use Rattle.poptrie_set.proofs.trie_set.TrieSet.give_back.Goals.{in-Nobody, in-Started}

pub invariant_of-self : goal.invariant_of-self
invariant_of-self c =
    let none : c.self.inside.pending ≡ false = subst (λ (l : Seen). l.pending ≡ false) (sym c.self.view_is) c.requires in
    let q = c.self.invariant.0.quiet none in
    let some = c.self.invariant.1 in (
      release_keeps c.self.inside.direct_bits c.self.inside.words.items c.self.inside.arenas.nodes c.release.new.arena c.self.inside.arenas.leaves c.release-2.new.arena c.self.inside.arenas.node_blocks c.self.inside.arenas.leaf_blocks c.release.new.self c.release-2.new.self c.self.inside.pending c.self.inside.stores.items c.self.inside.made c.match-oldest.since c.release.ensures.released c.release-2.ensures.released c.release.ensures.sized c.release-2.ensures.sized c.release.ensures.held c.release-2.ensures.held c.self.invariant.0,
      record {
        before = some.before;
        after = some.after;
        shows =
            subst (λ (l : Seen). ShowsIn l some.before some.after) (sym (release_is c.self.inside.family c.self.inside.direct_bits c.self.inside.words.items c.self.inside.arenas.nodes c.release.new.arena c.self.inside.arenas.leaves c.release-2.new.arena c.self.inside.arenas.node_blocks c.self.inside.arenas.leaf_blocks c.release.new.self c.release-2.new.self c.self.inside.pending c.self.inside.stores.items c.self.inside.made c.match-oldest.since c.release.ensures.released c.release-2.ensures.released q.nodes_taken q.nodes_replaced q.leaves_taken q.leaves_replaced))
            (release_shows (seen_as c.self.inside.family c.self.inside.direct_bits c.self.inside.words.items c.self.inside.arenas.nodes c.self.inside.arenas.leaves c.self.inside.arenas.node_blocks c.self.inside.arenas.leaf_blocks c.self.inside.pending c.self.inside.stores.items c.self.inside.made) c.release.new.arena c.release-2.new.arena c.match-oldest.since q.nodes_taken q.nodes_replaced q.leaves_taken q.leaves_replaced c.release.ensures.first c.release-2.ensures.first c.release.ensures.gives c.release-2.ensures.gives some.before some.after some.shows);
      },
    )

pub returns-clause-still : goal.returns-clause-still
returns-clause-still c =
    let none : c.self.inside.pending ≡ false = subst (λ (l : Seen). l.pending ≡ false) (sym c.self.view_is) c.requires in
    let q = c.self.invariant.0.quiet none in
    subst (λ (l : Seen). (l.nodes.taken ≡ []) × (l.leaves.taken ≡ [])) c.self.view_is (q.nodes_taken, q.leaves_taken)

pub returns-clause-shows : goal.returns-clause-shows
returns-clause-shows c = λ L M sh.
    let none : c.self.inside.pending ≡ false = subst (λ (l : Seen). l.pending ≡ false) (sym c.self.view_is) c.requires in
    let q = c.self.invariant.0.quiet none in
    subst (λ (l : Seen). ShowsIn l L M) (sym (release_is c.self.inside.family c.self.inside.direct_bits c.self.inside.words.items c.self.inside.arenas.nodes c.release.new.arena c.self.inside.arenas.leaves c.release-2.new.arena c.self.inside.arenas.node_blocks c.self.inside.arenas.leaf_blocks c.release.new.self c.release-2.new.self c.self.inside.pending c.self.inside.stores.items c.self.inside.made c.match-oldest.since c.release.ensures.released c.release-2.ensures.released q.nodes_taken q.nodes_replaced q.leaves_taken q.leaves_replaced))
    (release_shows (seen_as c.self.inside.family c.self.inside.direct_bits c.self.inside.words.items c.self.inside.arenas.nodes c.self.inside.arenas.leaves c.self.inside.arenas.node_blocks c.self.inside.arenas.leaf_blocks c.self.inside.pending c.self.inside.stores.items c.self.inside.made) c.release.new.arena c.release-2.new.arena c.match-oldest.since q.nodes_taken q.nodes_replaced q.leaves_taken q.leaves_replaced c.release.ensures.first c.release-2.ensures.first c.release.ensures.gives c.release-2.ensures.gives L M (subst (λ (l : Seen). ShowsIn l L M) (sym c.self.view_is) sh))

pub returns-clause-fits : goal.returns-clause-fits
returns-clause-fits c = λ os o f.
    let none : c.self.inside.pending ≡ false = subst (λ (l : Seen). l.pending ≡ false) (sym c.self.view_is) c.requires in
    let q = c.self.invariant.0.quiet none in
    let e : until c.args.oldest c.self.inside.arenas.node_blocks.time ≡ c.match-oldest.since = elim c.match-oldest.branch [
      | in-Nobody w ↦ ap (λ (o : Oldest). until o c.self.inside.arenas.node_blocks.time) w.in-Nobody.is ∙ sym (w.since-is ∙ w.time-since.ensures)
      | in-Started w ↦ ap (λ (o : Oldest). until o c.self.inside.arenas.node_blocks.time) w.in-Started.is ∙ sym w.since-is
    ] in
    subst (λ (l : Seen). FitsIn l os) (sym (release_is c.self.inside.family c.self.inside.direct_bits c.self.inside.words.items c.self.inside.arenas.nodes c.release.new.arena c.self.inside.arenas.leaves c.release-2.new.arena c.self.inside.arenas.node_blocks c.self.inside.arenas.leaf_blocks c.release.new.self c.release-2.new.self c.self.inside.pending c.self.inside.stores.items c.self.inside.made c.match-oldest.since c.release.ensures.released c.release-2.ensures.released q.nodes_taken q.nodes_replaced q.leaves_taken q.leaves_replaced))
    (release_fits (seen_as c.self.inside.family c.self.inside.direct_bits c.self.inside.words.items c.self.inside.arenas.nodes c.self.inside.arenas.leaves c.self.inside.arenas.node_blocks c.self.inside.arenas.leaf_blocks c.self.inside.pending c.self.inside.stores.items c.self.inside.made) os (subst (λ (l : Seen). FitsIn l os) (sym c.self.view_is) f) c.release.new.arena c.release-2.new.arena c.match-oldest.since (subst (λ s. AllByRecursion (λ (x : Reader). s ≤ x.since) os) e (since_all c.args.oldest os c.self.inside.arenas.node_blocks.time o)) q.nodes_taken q.leaves_taken c.release.ensures.gives c.release-2.ensures.gives)

pub returns-clause-past : goal.returns-clause-past
returns-clause-past c = λ ns ls p.
    let none : c.self.inside.pending ≡ false = subst (λ (l : Seen). l.pending ≡ false) (sym c.self.view_is) c.requires in
    let q = c.self.invariant.0.quiet none in
    subst (λ (l : Seen). PastIn l ns ls) (sym (release_is c.self.inside.family c.self.inside.direct_bits c.self.inside.words.items c.self.inside.arenas.nodes c.release.new.arena c.self.inside.arenas.leaves c.release-2.new.arena c.self.inside.arenas.node_blocks c.self.inside.arenas.leaf_blocks c.release.new.self c.release-2.new.self c.self.inside.pending c.self.inside.stores.items c.self.inside.made c.match-oldest.since c.release.ensures.released c.release-2.ensures.released q.nodes_taken q.nodes_replaced q.leaves_taken q.leaves_replaced))
    (release_past (seen_as c.self.inside.family c.self.inside.direct_bits c.self.inside.words.items c.self.inside.arenas.nodes c.self.inside.arenas.leaves c.self.inside.arenas.node_blocks c.self.inside.arenas.leaf_blocks c.self.inside.pending c.self.inside.stores.items c.self.inside.made) c.release.new.arena c.release-2.new.arena c.match-oldest.since ns ls (subst (λ (l : Seen). PastIn l ns ls) (sym c.self.view_is) p))

pub returns-clause-cells : goal.returns-clause-cells
returns-clause-cells c =
    let none : c.self.inside.pending ≡ false = subst (λ (l : Seen). l.pending ≡ false) (sym c.self.view_is) c.requires in
    let q = c.self.invariant.0.quiet none in
    let e : until c.args.oldest c.self.inside.arenas.node_blocks.time ≡ c.match-oldest.since = elim c.match-oldest.branch [
      | in-Nobody w ↦ ap (λ (o : Oldest). until o c.self.inside.arenas.node_blocks.time) w.in-Nobody.is ∙ sym (w.since-is ∙ w.time-since.ensures)
      | in-Started w ↦ ap (λ (o : Oldest). until o c.self.inside.arenas.node_blocks.time) w.in-Started.is ∙ sym w.since-is
    ] in
    let l = seen_as c.self.inside.family c.self.inside.direct_bits c.self.inside.words.items c.self.inside.arenas.nodes c.self.inside.arenas.leaves c.self.inside.arenas.node_blocks c.self.inside.arenas.leaf_blocks c.self.inside.pending c.self.inside.stores.items c.self.inside.made in
    let m = seen_as c.self.inside.family c.self.inside.direct_bits c.self.inside.words.items c.release.new.arena c.release-2.new.arena c.release.new.self c.release-2.new.self c.self.inside.pending c.self.inside.stores.items c.self.inside.made in
    subst (λ (x : Seen). KeepsCells (until c.args.oldest x.time) x m) c.self.view_is
    (subst (λ (s : ℕ). KeepsCells s l m) (sym e)
    (subst (λ (x : Seen). KeepsCells c.match-oldest.since l x) (sym (release_is c.self.inside.family c.self.inside.direct_bits c.self.inside.words.items c.self.inside.arenas.nodes c.release.new.arena c.self.inside.arenas.leaves c.release-2.new.arena c.self.inside.arenas.node_blocks c.self.inside.arenas.leaf_blocks c.release.new.self c.release-2.new.self c.self.inside.pending c.self.inside.stores.items c.self.inside.made c.match-oldest.since c.release.ensures.released c.release-2.ensures.released q.nodes_taken q.nodes_replaced q.leaves_taken q.leaves_replaced))
    (release_cells l c.release.new.arena c.release-2.new.arena c.match-oldest.since q.nodes_taken q.leaves_taken c.release.ensures.gives c.release-2.ensures.gives)))

pub returns-clause-just : goal.returns-clause-just
returns-clause-just c = λ nodes leaves g.
    let e : until c.args.oldest c.self.inside.arenas.node_blocks.time ≡ c.match-oldest.since = elim c.match-oldest.branch [
      | in-Nobody w ↦ ap (λ (o : Oldest). until o c.self.inside.arenas.node_blocks.time) w.in-Nobody.is ∙ sym (w.since-is ∙ w.time-since.ensures)
      | in-Started w ↦ ap (λ (o : Oldest). until o c.self.inside.arenas.node_blocks.time) w.in-Started.is ∙ sym w.since-is
    ] in
    let l = seen_as c.self.inside.family c.self.inside.direct_bits c.self.inside.words.items c.self.inside.arenas.nodes c.self.inside.arenas.leaves c.self.inside.arenas.node_blocks c.self.inside.arenas.leaf_blocks c.self.inside.pending c.self.inside.stores.items c.self.inside.made in
    let given = subst (λ (s : ℕ). GaveBack s l nodes leaves) e (subst (λ (x : Seen). GaveBack (until c.args.oldest x.time) x nodes leaves) (sym c.self.view_is) g) in
    let live = c.self.invariant.0 in (
      given_once c.match-oldest.since c.self.inside.arenas.nodes c.release.new.arena nodes c.self.inside.arenas.node_blocks live.nodes_sized c.release.ensures.sized given.nodes_sized live.nodes_held c.release.ensures.gives given.nodes,
      given_once c.match-oldest.since c.self.inside.arenas.leaves c.release-2.new.arena leaves c.self.inside.arenas.leaf_blocks live.leaves_sized c.release-2.ensures.sized given.leaves_sized live.leaves_held c.release-2.ensures.gives given.leaves,
    )
