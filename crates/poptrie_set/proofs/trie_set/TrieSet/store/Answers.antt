use Rattle.std.proofs.Common.{rules, ◌≡◌, ◌<◌, ◌≤◌, ◌+◌, suc, true, length, get_or, refl, sym, ap, ◌∙◌, arith, subst}
use Rattle.poptrie_set.specs.Lives.{Seen, ShowsIn, stores_of}
use Rattle.poptrie_set.specs.Fits.{FitsIn}
use Rattle.path_copying.specs.declared.slots.Store.{Store as Stored}
use Rattle.poptrie_set.proofs.Lived.{length_stores, store_at, store_step, store_keeps, store_keeps_fits, seen_as, after_store}
use Rattle.poptrie_set.specs.Cells.{KeepsCells}
use Rattle.poptrie_set.proofs.Unwritten.{store_cells, still_cells}
use Rattle.poptrie_set.proofs.trie_set.TrieSet.store.Goals as goal

pub returns-then-self-len-clause-none : goal.returns-then-self-len-clause-none
returns-then-self-len-clause-none c = λ _.
    let n = length_stores c.self.inside.stores.items in
    let h : c.self.inside.made ≡ length c.self.inside.stores.items = search rules in
    (subst (λ (l : Seen). length l.stores ≤ l.made) c.self.view_is (omega arith), refl)

pub invariant_of-self : goal.invariant_of-self
invariant_of-self c =
    let n = length_stores c.self.inside.stores.items in
    let l : c.self.inside.made < length c.self.inside.stores.items = search rules in
    let more : c.self.inside.made < length (stores_of c.self.inside.stores.items) = omega arith in
    let at : get_or (stores_of c.self.inside.stores.items) c.self.inside.made (0, 0) ≡ (c.index-next.result.now.slot, c.index-next.result.now.word) = store_at c.self.inside.stores.items c.self.inside.made c.index-next.result.now l ∙ ap (λ (y : Stored). (y.slot, y.word)) (sym c.index-next.ensures) in
    let some = c.self.invariant.1 in
    let pending = subst (λ (q : Seen). q.pending ≡ true) (sym c.self.view_is) c.requires.0 in (
      store_keeps c.self.inside.direct_bits c.self.inside.words.items c.self.inside.arenas.nodes c.self.inside.arenas.leaves c.self.inside.arenas.node_blocks c.self.inside.arenas.leaf_blocks c.self.inside.pending c.self.inside.stores.items c.self.inside.made c.index-next.result.now.slot c.index-next.result.now.word pending l c.self.invariant.0,
      record {
        before = some.before;
        after = some.after;
        shows = store_step (seen_as c.self.inside.family c.self.inside.direct_bits c.self.inside.words.items c.self.inside.arenas.nodes c.self.inside.arenas.leaves c.self.inside.arenas.node_blocks c.self.inside.arenas.leaf_blocks c.self.inside.pending c.self.inside.stores.items c.self.inside.made) c.index-next.result.now.slot c.index-next.result.now.word more at some.before some.after some.shows;
      },
    )

pub returns-clause-made : goal.returns-clause-made
returns-clause-made c = λ _.
    let n = length_stores c.self.inside.stores.items in
    let l : c.self.inside.made < length c.self.inside.stores.items = search rules in
    let next : c.self.inside.made + 1 ≡ suc c.self.inside.made = omega arith in
    (subst (λ (l : Seen). l.made < length l.stores) c.self.view_is (omega arith), next ∙ ap (λ (l : Seen). suc l.made) c.self.view_is)

pub returns-clause-shows : goal.returns-clause-shows
returns-clause-shows c = λ L M sh.
    let n = length_stores c.self.inside.stores.items in
    let l : c.self.inside.made < length c.self.inside.stores.items = search rules in
    let more : c.self.inside.made < length (stores_of c.self.inside.stores.items) = omega arith in
    let at : get_or (stores_of c.self.inside.stores.items) c.self.inside.made (0, 0) ≡ (c.index-next.result.now.slot, c.index-next.result.now.word) = store_at c.self.inside.stores.items c.self.inside.made c.index-next.result.now l ∙ ap (λ (y : Stored). (y.slot, y.word)) (sym c.index-next.ensures) in
    store_step (seen_as c.self.inside.family c.self.inside.direct_bits c.self.inside.words.items c.self.inside.arenas.nodes c.self.inside.arenas.leaves c.self.inside.arenas.node_blocks c.self.inside.arenas.leaf_blocks c.self.inside.pending c.self.inside.stores.items c.self.inside.made) c.index-next.result.now.slot c.index-next.result.now.word more at L M (subst (λ (q : Seen). ShowsIn q L M) (sym c.self.view_is) sh)

pub returns-clause-fits : goal.returns-clause-fits
returns-clause-fits c = λ os f.
    store_keeps_fits (seen_as c.self.inside.family c.self.inside.direct_bits c.self.inside.words.items c.self.inside.arenas.nodes c.self.inside.arenas.leaves c.self.inside.arenas.node_blocks c.self.inside.arenas.leaf_blocks c.self.inside.pending c.self.inside.stores.items c.self.inside.made) c.index-next.result.now.slot c.index-next.result.now.word os (subst (λ (q : Seen). FitsIn q os) (sym c.self.view_is) f)

pub returns-then-self-len-clause-cells : goal.returns-then-self-len-clause-cells
returns-then-self-len-clause-cells c = still_cells c.args.self.now 0

pub returns-clause-cells : goal.returns-clause-cells
returns-clause-cells c =
    let l = seen_as c.self.inside.family c.self.inside.direct_bits c.self.inside.words.items c.self.inside.arenas.nodes c.self.inside.arenas.leaves c.self.inside.arenas.node_blocks c.self.inside.arenas.leaf_blocks c.self.inside.pending c.self.inside.stores.items c.self.inside.made in
    let m = after_store l c.index-next.result.now.slot c.index-next.result.now.word in
    subst (λ (x : Seen). KeepsCells 0 x m) c.self.view_is (store_cells l 0 c.index-next.result.now.slot c.index-next.result.now.word)
