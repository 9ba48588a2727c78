use Rattle.std.proofs.Common.{rules, ◌<◌, ◌≤◌, ◌++◌, ◌∷◌, [], length, refl, sym, subst, ap, ◌∙◌, arith}
use Rattle.poptrie_build.specs.Tries.{node_need, leaf_need}
use Rattle.poptrie_set.specs.Lives.{Seen, ShowsIn}
use Rattle.poptrie_set.specs.Fits.{FitsIn}
use Rattle.poptrie_set.specs.Past.{PastIn}
use Rattle.poptrie_set.proofs.Steps.{at_its_end}
use Rattle.poptrie_set.proofs.Lived.{length_stores, seen_as, end_is, end_step, end_keeps, past_step}
use Rattle.poptrie_set.proofs.Fitting.{end_fits}
use Rattle.poptrie_set.specs.Cells.{KeepsCells}
use Rattle.poptrie_set.proofs.Unwritten.{end_cells}
use Rattle.poptrie_set.proofs.trie_set.TrieSet.end.Goals as goal

pub returns-then-self-len-clause-left : goal.returns-then-self-len-clause-left
returns-then-self-len-clause-left c =
    let n = length_stores c.self.inside.stores.items in
    let l : c.self.inside.made < length c.self.inside.stores.items = search rules in
    (refl, refl, subst (λ (l : Seen). l.made < length l.stores) c.self.view_is (omega arith))

pub invariant_of-self : goal.invariant_of-self
invariant_of-self c =
    let n = length_stores c.self.inside.stores.items in
    let h : length c.self.inside.stores.items ≤ c.self.inside.made = search rules in
    let m = c.self.invariant.0.counted in
    let some = c.self.invariant.1 in
    let is = end_is c.self.inside.family c.self.inside.direct_bits c.self.inside.words.items c.self.inside.arenas.nodes c.self.inside.arenas.leaves c.self.inside.arenas.node_blocks c.self.inside.arenas.leaf_blocks c.end.new.self c.end-2.new.self c.self.inside.pending c.self.inside.stores.items c.clear.new.self.items c.self.inside.made c.end.ensures c.end-2.ensures c.clear.ensures.items c.self.invariant.0.times in (
      end_keeps c.self.inside.direct_bits c.self.inside.words.items c.self.inside.arenas.nodes c.self.inside.arenas.leaves c.self.inside.arenas.node_blocks c.self.inside.arenas.leaf_blocks c.end.new.self c.end-2.new.self c.self.inside.pending c.self.inside.stores.items c.clear.new.self.items c.self.inside.made c.end.ensures c.end-2.ensures c.clear.ensures.items c.self.invariant.0,
      record {
        before = some.after;
        after = some.after;
        shows = subst (λ (l : Seen). ShowsIn l some.after some.after) (sym is) (end_step (seen_as c.self.inside.family c.self.inside.direct_bits c.self.inside.words.items c.self.inside.arenas.nodes c.self.inside.arenas.leaves c.self.inside.arenas.node_blocks c.self.inside.arenas.leaf_blocks c.self.inside.pending c.self.inside.stores.items c.self.inside.made) (omega arith) (omega arith) some.before some.after some.shows);
      },
    )

pub returns-clause-all : goal.returns-clause-all
returns-clause-all c =
    let n = length_stores c.self.inside.stores.items in
    let h : length c.self.inside.stores.items ≤ c.self.inside.made = search rules in
    subst (λ (l : Seen). length l.stores ≤ l.made) c.self.view_is (omega arith)

pub returns-clause-shows : goal.returns-clause-shows
returns-clause-shows c = λ L M sh.
    let n = length_stores c.self.inside.stores.items in
    let h : length c.self.inside.stores.items ≤ c.self.inside.made = search rules in
    let m = c.self.invariant.0.counted in
    let is = end_is c.self.inside.family c.self.inside.direct_bits c.self.inside.words.items c.self.inside.arenas.nodes c.self.inside.arenas.leaves c.self.inside.arenas.node_blocks c.self.inside.arenas.leaf_blocks c.end.new.self c.end-2.new.self c.self.inside.pending c.self.inside.stores.items c.clear.new.self.items c.self.inside.made c.end.ensures c.end-2.ensures c.clear.ensures.items c.self.invariant.0.times ∙ ap at_its_end c.self.view_is in
    subst (λ (l : Seen). ShowsIn l M M) (sym is) (end_step c.args.self.now (subst (λ (l : Seen). length l.stores ≤ l.made) c.self.view_is (omega arith)) (subst (λ (l : Seen). l.made ≤ length l.stores) c.self.view_is (omega arith)) L M sh)

pub returns-clause-fits : goal.returns-clause-fits
returns-clause-fits c = λ os f.
    let is = end_is c.self.inside.family c.self.inside.direct_bits c.self.inside.words.items c.self.inside.arenas.nodes c.self.inside.arenas.leaves c.self.inside.arenas.node_blocks c.self.inside.arenas.leaf_blocks c.end.new.self c.end-2.new.self c.self.inside.pending c.self.inside.stores.items c.clear.new.self.items c.self.inside.made c.end.ensures c.end-2.ensures c.clear.ensures.items c.self.invariant.0.times ∙ ap at_its_end c.self.view_is in
    subst (λ (l : Seen). FitsIn l os) (sym is) (end_fits c.args.self.now os f)

pub returns-clause-past : goal.returns-clause-past
returns-clause-past c = λ L M ns ls sh p.
    let is = end_is c.self.inside.family c.self.inside.direct_bits c.self.inside.words.items c.self.inside.arenas.nodes c.self.inside.arenas.leaves c.self.inside.arenas.node_blocks c.self.inside.arenas.leaf_blocks c.end.new.self c.end-2.new.self c.self.inside.pending c.self.inside.stores.items c.clear.new.self.items c.self.inside.made c.end.ensures c.end-2.ensures c.clear.ensures.items c.self.invariant.0.times ∙ ap at_its_end c.self.view_is in
    subst (λ (l : Seen). PastIn l (ns ++ node_need c.args.self.now.family c.args.self.now.direct_bits L ∷ []) (ls ++ leaf_need c.args.self.now.family c.args.self.now.direct_bits L ∷ [])) (sym is) (past_step c.args.self.now L M ns ls sh p)

pub returns-clause-cells : goal.returns-clause-cells
returns-clause-cells c =
    let is = end_is c.self.inside.family c.self.inside.direct_bits c.self.inside.words.items c.self.inside.arenas.nodes c.self.inside.arenas.leaves c.self.inside.arenas.node_blocks c.self.inside.arenas.leaf_blocks c.end.new.self c.end-2.new.self c.self.inside.pending c.self.inside.stores.items c.clear.new.self.items c.self.inside.made c.end.ensures c.end-2.ensures c.clear.ensures.items c.self.invariant.0.times ∙ ap at_its_end c.self.view_is in
    subst (λ (l : Seen). KeepsCells 0 c.args.self.now l) (sym is) (end_cells c.args.self.now 0)
