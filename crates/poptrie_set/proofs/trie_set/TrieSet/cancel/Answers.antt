use Rattle.std.proofs.Common.{◌≡◌, ◌∙◌, sym, ap, subst, arith}
use Rattle.buddy_arena.specs.Blocks.{GivesBack}
use Rattle.poptrie_set.specs.Lives.{Seen, ShowsIn}
use Rattle.poptrie_set.specs.Fits.{FitsIn}
use Rattle.poptrie_set.proofs.Steps.{at_its_cancel}
use Rattle.poptrie_set.proofs.Lived.{seen_as, cancel_is, cancel_step, cancel_keeps}
use Rattle.poptrie_set.proofs.Fitting.{cancel_fits}
use Rattle.poptrie_set.specs.Cells.{KeepsCells}
use Rattle.poptrie_set.proofs.Unwritten.{cancel_cells}
use Rattle.poptrie_set.specs.Undone.{IsReadyFrom, IsAsBefore}
use Rattle.poptrie_set.proofs.Taken_back.{set_back}
use Rattle.poptrie_set.proofs.trie_set.TrieSet.cancel.Goals as goal

pub invariant_of-self : goal.invariant_of-self
invariant_of-self c =
    let z : c.self.inside.made ≡ 0 = omega arith in
    let some = c.self.invariant.1 in
    let l = seen_as c.self.inside.family c.self.inside.direct_bits c.self.inside.words.items c.self.inside.arenas.nodes c.self.inside.arenas.leaves c.self.inside.arenas.node_blocks c.self.inside.arenas.leaf_blocks c.self.inside.pending c.self.inside.stores.items c.self.inside.made in
    let is = cancel_is c.self.inside.family c.self.inside.direct_bits c.self.inside.words.items c.self.inside.arenas.nodes c.self.inside.arenas.leaves c.self.inside.arenas.node_blocks c.self.inside.arenas.leaf_blocks c.cancel.new.self c.cancel-2.new.self c.self.inside.pending c.self.inside.stores.items c.clear.new.self.items c.self.inside.made c.cancel.new.arena c.cancel-2.new.arena c.cancel.ensures.cancelled c.cancel-2.ensures.cancelled c.clear.ensures.items z in (
      cancel_keeps c.self.inside.direct_bits c.self.inside.words.items c.self.inside.arenas.nodes c.cancel.new.arena c.self.inside.arenas.leaves c.cancel-2.new.arena c.self.inside.arenas.node_blocks c.self.inside.arenas.leaf_blocks c.cancel.new.self c.cancel-2.new.self c.self.inside.pending c.self.inside.stores.items c.clear.new.self.items c.self.inside.made z c.clear.ensures.items c.cancel.ensures.cancelled c.cancel-2.ensures.cancelled c.cancel.ensures.sized c.cancel-2.ensures.sized c.cancel.ensures.held c.cancel-2.ensures.held c.self.invariant.0,
      record {
        before = some.before;
        after = some.before;
        shows = subst (λ (m : Seen). ShowsIn m some.before some.before) (sym is) (cancel_step l c.cancel.new.arena c.cancel-2.new.arena z c.cancel.ensures.gives c.cancel-2.ensures.gives some.before some.after some.shows);
      },
    )

pub returns-clause-shows : goal.returns-clause-shows
returns-clause-shows c = λ L M sh.
    let z : c.self.inside.made ≡ 0 = omega arith in
    let is = cancel_is c.self.inside.family c.self.inside.direct_bits c.self.inside.words.items c.self.inside.arenas.nodes c.self.inside.arenas.leaves c.self.inside.arenas.node_blocks c.self.inside.arenas.leaf_blocks c.cancel.new.self c.cancel-2.new.self c.self.inside.pending c.self.inside.stores.items c.clear.new.self.items c.self.inside.made c.cancel.new.arena c.cancel-2.new.arena c.cancel.ensures.cancelled c.cancel-2.ensures.cancelled c.clear.ensures.items z ∙ ap (λ (l : Seen). at_its_cancel l c.cancel.new.arena c.cancel-2.new.arena) c.self.view_is in
    subst (λ (l : Seen). ShowsIn l L L) (sym is)
    (cancel_step c.args.self.now c.cancel.new.arena c.cancel-2.new.arena (subst (λ (l : Seen). l.made ≡ 0) c.self.view_is z) (subst (λ (l : Seen). GivesBack l.nodes.taken l.nodes.space c.cancel.new.arena) c.self.view_is c.cancel.ensures.gives) (subst (λ (l : Seen). GivesBack l.leaves.taken l.leaves.space c.cancel-2.new.arena) c.self.view_is c.cancel-2.ensures.gives) L M sh)

pub returns-clause-fits : goal.returns-clause-fits
returns-clause-fits c = λ os f.
    let z : c.self.inside.made ≡ 0 = omega arith in
    let is = cancel_is c.self.inside.family c.self.inside.direct_bits c.self.inside.words.items c.self.inside.arenas.nodes c.self.inside.arenas.leaves c.self.inside.arenas.node_blocks c.self.inside.arenas.leaf_blocks c.cancel.new.self c.cancel-2.new.self c.self.inside.pending c.self.inside.stores.items c.clear.new.self.items c.self.inside.made c.cancel.new.arena c.cancel-2.new.arena c.cancel.ensures.cancelled c.cancel-2.ensures.cancelled c.clear.ensures.items z ∙ ap (λ (l : Seen). at_its_cancel l c.cancel.new.arena c.cancel-2.new.arena) c.self.view_is in
    subst (λ (l : Seen). FitsIn l os) (sym is)
    (cancel_fits c.args.self.now os f c.cancel.new.arena c.cancel-2.new.arena (subst (λ (l : Seen). l.made ≡ 0) c.self.view_is z) (subst (λ (l : Seen). GivesBack l.nodes.taken l.nodes.space c.cancel.new.arena) c.self.view_is c.cancel.ensures.gives) (subst (λ (l : Seen). GivesBack l.leaves.taken l.leaves.space c.cancel-2.new.arena) c.self.view_is c.cancel-2.ensures.gives))

pub returns-clause-cells : goal.returns-clause-cells
returns-clause-cells c =
    let z : c.self.inside.made ≡ 0 = omega arith in
    let is = cancel_is c.self.inside.family c.self.inside.direct_bits c.self.inside.words.items c.self.inside.arenas.nodes c.self.inside.arenas.leaves c.self.inside.arenas.node_blocks c.self.inside.arenas.leaf_blocks c.cancel.new.self c.cancel-2.new.self c.self.inside.pending c.self.inside.stores.items c.clear.new.self.items c.self.inside.made c.cancel.new.arena c.cancel-2.new.arena c.cancel.ensures.cancelled c.cancel-2.ensures.cancelled c.clear.ensures.items z ∙ ap (λ (l : Seen). at_its_cancel l c.cancel.new.arena c.cancel-2.new.arena) c.self.view_is in
    subst (λ (l : Seen). KeepsCells 0 c.args.self.now l) (sym is)
    (cancel_cells c.args.self.now c.cancel.new.arena c.cancel-2.new.arena 0 (subst (λ (l : Seen). l.made ≡ 0) c.self.view_is z) (subst (λ (l : Seen). GivesBack l.nodes.taken l.nodes.space c.cancel.new.arena) c.self.view_is c.cancel.ensures.gives) (subst (λ (l : Seen). GivesBack l.leaves.taken l.leaves.space c.cancel-2.new.arena) c.self.view_is c.cancel-2.ensures.gives))

pub returns-clause-before : goal.returns-clause-before
returns-clause-before c = λ b ready.
    let z : c.self.inside.made ≡ 0 = omega arith in
    let l = seen_as c.self.inside.family c.self.inside.direct_bits c.self.inside.words.items c.self.inside.arenas.nodes c.self.inside.arenas.leaves c.self.inside.arenas.node_blocks c.self.inside.arenas.leaf_blocks c.self.inside.pending c.self.inside.stores.items c.self.inside.made in
    let is = cancel_is c.self.inside.family c.self.inside.direct_bits c.self.inside.words.items c.self.inside.arenas.nodes c.self.inside.arenas.leaves c.self.inside.arenas.node_blocks c.self.inside.arenas.leaf_blocks c.cancel.new.self c.cancel-2.new.self c.self.inside.pending c.self.inside.stores.items c.clear.new.self.items c.self.inside.made c.cancel.new.arena c.cancel-2.new.arena c.cancel.ensures.cancelled c.cancel-2.ensures.cancelled c.clear.ensures.items z in
    subst (λ (x : Seen). IsAsBefore b x) (sym is)
    (set_back l c.cancel.new.arena c.cancel-2.new.arena b c.self.invariant.0.nodes_sized c.cancel.ensures.sized c.self.invariant.0.leaves_sized c.cancel-2.ensures.sized c.cancel.ensures.gives c.cancel-2.ensures.gives (subst (λ (x : Seen). IsReadyFrom b x) (sym c.self.view_is) ready))
