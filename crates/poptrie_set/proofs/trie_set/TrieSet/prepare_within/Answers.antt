use Rattle.std.proofs.Common.{◌≡◌, ℕ, List, true, false, ◌-◌, sym, ap, ◌∙◌, subst}
use Rattle.table_model.specs.Width.{width}
use Rattle.buddy_arena.specs.Places.{is_out}
use Rattle.buddy_arena.specs.Blocks.{blocks_of}
use Rattle.buddy_arena.proofs.Parting.{part_right}
use Rattle.fib_addr.specs.Views.{prefix_as}
use Rattle.fib_addr.specs.Answers.{all_answers}
use Rattle.poptrie_build.specs.Tries.{rest}
use Rattle.poptrie_set.specs.Lives.{Seen, ShowsIn, ShowsSome, stores_of}
use Rattle.poptrie_set.specs.Fits.{FitsIn}
use Rattle.poptrie_set.specs.Prepares.{MergesSlots, StoresJust, AsksRun, AsksRunOut}
use Rattle.poptrie_set.proofs.Lived.{seen_as}
use Rattle.poptrie_set.proofs.Ready.{agree_merged, merged_by, Renewed, ready_is, ready_fits, ready_held, ready_asks, ready_shows, ready_some, ready_changes, ready_kept, back_shows, back_fits, back_kept, refused_reason, ready_cells, back_cells, ready, ready_from, back_before}
use Rattle.poptrie_set.proofs.Prepared.{quiet_version, quiet_shows}
use Rattle.table_model.specs.Bits.{bits_of}
use Rattle.fib_addr.specs.Answers.{part}
use Rattle.path_copying.specs.Ways.{IsOldWord}
use Rattle.poptrie_set.proofs.Within.{words_within}
use Rattle.std.specs.Prelude.{drop, slice_index}
use Rattle.poptrie_set.specs.Renewals.{MeetsNotRenewal}
use Rattle.poptrie_set.specs.Cells.{KeepsCells}
use Rattle.poptrie_set.specs.Undone.{IsReadyFrom, IsAsBefore}
use Rattle.poptrie_set.proofs.trie_set.TrieSet.prepare_within.Goals as goal

pub returns-in-Ok-clause-shows : goal.returns-in-Ok-clause-shows
returns-in-Ok-clause-shows g c =
    λ L M sh0 e0 agree0.
    let none : c.self.inside.pending ≡ false = subst (λ (l : Seen). l.pending ≡ false) (sym c.self.view_is) c.requires.quiet in
    let q = c.self.invariant.0.quiet none in
    let d = g.R.Region.bits c.args.region.now - c.self.inside.direct_bits in
    let wide : g.R.Region.bits c.args.region.now ≡ width c.self.inside.family = c.requires.bits ∙ ap (λ (l : Seen). width l.family) (sym c.self.view_is) in
    let ed : d ≡ rest c.self.inside.family c.self.inside.direct_bits = ap (λ n. n - c.self.inside.direct_bits) wide in
    let sh : ShowsIn (seen_as c.self.inside.family c.self.inside.direct_bits c.self.inside.words.items c.self.inside.arenas.nodes c.self.inside.arenas.leaves c.self.inside.arenas.node_blocks c.self.inside.arenas.leaf_blocks c.self.inside.pending c.self.inside.stores.items c.self.inside.made) L L = subst (λ (l : Seen). ShowsIn l L L) (sym c.self.view_is) sh0 in
    let e : g.R.Region.answers c.args.region.now ≡ all_answers c.self.inside.family M = e0 ∙ ap (λ (l : Seen). all_answers l.family M) (sym c.self.view_is) in
    let family : (prefix_as c.args.prefix.now).family ≡ c.self.inside.family = c.requires.family ∙ ap (λ (l : Seen). l.family) (sym c.self.view_is) in
    let agree = agree_merged c.self.inside.family c.self.inside.direct_bits (prefix_as c.args.prefix.now) (g.R.Region.answers c.args.region.now) L M family c.self.invariant.0.few e agree0 in
    let r = subst (λ (w : List ℕ). Renewed c.self.inside.arenas.nodes c.rebuild_or_undo-made.new.arenas.nodes c.self.inside.arenas.node_blocks c.rebuild_or_undo-made.new.arenas.node_blocks c.self.inside.arenas.leaves c.rebuild_or_undo-made.new.arenas.leaves c.self.inside.arenas.leaf_blocks c.rebuild_or_undo-made.new.arenas.leaf_blocks w c.rebuild_or_undo-made.new.stores.items (prefix_as c.args.prefix.now).bits c.self.inside.direct_bits d (g.R.Region.answers c.args.region.now)) c.deref.ensures.value (record { stores = c.in-Ok.ensures.stores; rebuilds = c.in-Ok.ensures.rebuilds; aside = c.in-Ok.ensures.aside; kept = c.in-Ok.ensures.kept; met = c.in-Ok.ensures.met }) in
    let is = ready_is c.self.inside.family c.self.inside.direct_bits c.self.inside.words.items c.self.inside.arenas.nodes c.rebuild_or_undo-made.new.arenas.nodes c.self.inside.arenas.leaves c.rebuild_or_undo-made.new.arenas.leaves c.self.inside.arenas.node_blocks c.rebuild_or_undo-made.new.arenas.node_blocks c.self.inside.arenas.leaf_blocks c.rebuild_or_undo-made.new.arenas.leaf_blocks c.self.inside.pending c.self.inside.stores.items c.rebuild_or_undo-made.new.stores.items c.self.inside.made c.in-Ok.ensures.nodes.retired c.in-Ok.ensures.leaves.retired c.in-Ok.ensures.nodes.time q.none_made in
    subst (λ (l : Seen). ShowsIn l L M) (sym is)
    (ready_shows c.self.inside.family c.self.inside.direct_bits c.self.inside.words.items c.self.inside.arenas.nodes c.rebuild_or_undo-made.new.arenas.nodes c.self.inside.arenas.leaves c.rebuild_or_undo-made.new.arenas.leaves c.self.inside.arenas.node_blocks c.rebuild_or_undo-made.new.arenas.node_blocks c.self.inside.arenas.leaf_blocks c.rebuild_or_undo-made.new.arenas.leaf_blocks c.self.inside.pending c.self.inside.stores.items c.rebuild_or_undo-made.new.stores.items c.self.inside.made c.in-Ok.ensures.nodes c.in-Ok.ensures.leaves q d ed (g.R.Region.answers c.args.region.now) (prefix_as c.args.prefix.now).bits L M sh agree r.met r.stores r.rebuilds)

pub returns-in-Ok-clause-merged : goal.returns-in-Ok-clause-merged
returns-in-Ok-clause-merged g c =
    λ L M N sh0 e0 merges0.
    let none : c.self.inside.pending ≡ false = subst (λ (l : Seen). l.pending ≡ false) (sym c.self.view_is) c.requires.quiet in
    let q = c.self.invariant.0.quiet none in
    let d = g.R.Region.bits c.args.region.now - c.self.inside.direct_bits in
    let wide : g.R.Region.bits c.args.region.now ≡ width c.self.inside.family = c.requires.bits ∙ ap (λ (l : Seen). width l.family) (sym c.self.view_is) in
    let ed : d ≡ rest c.self.inside.family c.self.inside.direct_bits = ap (λ n. n - c.self.inside.direct_bits) wide in
    let sh : ShowsIn (seen_as c.self.inside.family c.self.inside.direct_bits c.self.inside.words.items c.self.inside.arenas.nodes c.self.inside.arenas.leaves c.self.inside.arenas.node_blocks c.self.inside.arenas.leaf_blocks c.self.inside.pending c.self.inside.stores.items c.self.inside.made) L L = subst (λ (l : Seen). ShowsIn l L L) (sym c.self.view_is) sh0 in
    let e : g.R.Region.answers c.args.region.now ≡ all_answers c.self.inside.family M = e0 ∙ ap (λ (l : Seen). all_answers l.family M) (sym c.self.view_is) in
    let family : (prefix_as c.args.prefix.now).family ≡ c.self.inside.family = c.requires.family ∙ ap (λ (l : Seen). l.family) (sym c.self.view_is) in
    let merges = merged_by c.self.inside.family c.self.inside.direct_bits (prefix_as c.args.prefix.now) (g.R.Region.answers c.args.region.now) L M N family c.self.invariant.0.few e (subst (λ (l : Seen). MergesSlots (prefix_as c.args.prefix.now) l.direct_bits L M N) (sym c.self.view_is) merges0) in
    let r = subst (λ (w : List ℕ). Renewed c.self.inside.arenas.nodes c.rebuild_or_undo-made.new.arenas.nodes c.self.inside.arenas.node_blocks c.rebuild_or_undo-made.new.arenas.node_blocks c.self.inside.arenas.leaves c.rebuild_or_undo-made.new.arenas.leaves c.self.inside.arenas.leaf_blocks c.rebuild_or_undo-made.new.arenas.leaf_blocks w c.rebuild_or_undo-made.new.stores.items (prefix_as c.args.prefix.now).bits c.self.inside.direct_bits d (g.R.Region.answers c.args.region.now)) c.deref.ensures.value (record { stores = c.in-Ok.ensures.stores; rebuilds = c.in-Ok.ensures.rebuilds; aside = c.in-Ok.ensures.aside; kept = c.in-Ok.ensures.kept; met = c.in-Ok.ensures.met }) in
    let is = ready_is c.self.inside.family c.self.inside.direct_bits c.self.inside.words.items c.self.inside.arenas.nodes c.rebuild_or_undo-made.new.arenas.nodes c.self.inside.arenas.leaves c.rebuild_or_undo-made.new.arenas.leaves c.self.inside.arenas.node_blocks c.rebuild_or_undo-made.new.arenas.node_blocks c.self.inside.arenas.leaf_blocks c.rebuild_or_undo-made.new.arenas.leaf_blocks c.self.inside.pending c.self.inside.stores.items c.rebuild_or_undo-made.new.stores.items c.self.inside.made c.in-Ok.ensures.nodes.retired c.in-Ok.ensures.leaves.retired c.in-Ok.ensures.nodes.time q.none_made in
    subst (λ (l : Seen). ShowsIn l L N) (sym is)
    (ready_shows c.self.inside.family c.self.inside.direct_bits c.self.inside.words.items c.self.inside.arenas.nodes c.rebuild_or_undo-made.new.arenas.nodes c.self.inside.arenas.leaves c.rebuild_or_undo-made.new.arenas.leaves c.self.inside.arenas.node_blocks c.rebuild_or_undo-made.new.arenas.node_blocks c.self.inside.arenas.leaf_blocks c.rebuild_or_undo-made.new.arenas.leaf_blocks c.self.inside.pending c.self.inside.stores.items c.rebuild_or_undo-made.new.stores.items c.self.inside.made c.in-Ok.ensures.nodes c.in-Ok.ensures.leaves q d ed (g.R.Region.answers c.args.region.now) (prefix_as c.args.prefix.now).bits L N sh merges r.met r.stores r.rebuilds)

pub returns-in-Ok-clause-changes : goal.returns-in-Ok-clause-changes
returns-in-Ok-clause-changes g c =
    λ L M sh0 e0 agree0.
    let none : c.self.inside.pending ≡ false = subst (λ (l : Seen). l.pending ≡ false) (sym c.self.view_is) c.requires.quiet in
    let q = c.self.invariant.0.quiet none in
    let d = g.R.Region.bits c.args.region.now - c.self.inside.direct_bits in
    let wide : g.R.Region.bits c.args.region.now ≡ width c.self.inside.family = c.requires.bits ∙ ap (λ (l : Seen). width l.family) (sym c.self.view_is) in
    let ed : d ≡ rest c.self.inside.family c.self.inside.direct_bits = ap (λ n. n - c.self.inside.direct_bits) wide in
    let sh : ShowsIn (seen_as c.self.inside.family c.self.inside.direct_bits c.self.inside.words.items c.self.inside.arenas.nodes c.self.inside.arenas.leaves c.self.inside.arenas.node_blocks c.self.inside.arenas.leaf_blocks c.self.inside.pending c.self.inside.stores.items c.self.inside.made) L L = subst (λ (l : Seen). ShowsIn l L L) (sym c.self.view_is) sh0 in
    let e : g.R.Region.answers c.args.region.now ≡ all_answers c.self.inside.family M = e0 ∙ ap (λ (l : Seen). all_answers l.family M) (sym c.self.view_is) in
    let family : (prefix_as c.args.prefix.now).family ≡ c.self.inside.family = c.requires.family ∙ ap (λ (l : Seen). l.family) (sym c.self.view_is) in
    let agree = agree_merged c.self.inside.family c.self.inside.direct_bits (prefix_as c.args.prefix.now) (g.R.Region.answers c.args.region.now) L M family c.self.invariant.0.few e agree0 in
    let r = subst (λ (w : List ℕ). Renewed c.self.inside.arenas.nodes c.rebuild_or_undo-made.new.arenas.nodes c.self.inside.arenas.node_blocks c.rebuild_or_undo-made.new.arenas.node_blocks c.self.inside.arenas.leaves c.rebuild_or_undo-made.new.arenas.leaves c.self.inside.arenas.leaf_blocks c.rebuild_or_undo-made.new.arenas.leaf_blocks w c.rebuild_or_undo-made.new.stores.items (prefix_as c.args.prefix.now).bits c.self.inside.direct_bits d (g.R.Region.answers c.args.region.now)) c.deref.ensures.value (record { stores = c.in-Ok.ensures.stores; rebuilds = c.in-Ok.ensures.rebuilds; aside = c.in-Ok.ensures.aside; kept = c.in-Ok.ensures.kept; met = c.in-Ok.ensures.met }) in
    subst (λ (l : Seen). StoresJust l.family l.direct_bits L M (stores_of c.rebuild_or_undo-made.new.stores.items)) c.self.view_is
    (ready_changes c.self.inside.family c.self.inside.direct_bits c.self.inside.words.items c.self.inside.arenas.nodes c.rebuild_or_undo-made.new.arenas.nodes c.self.inside.arenas.leaves c.rebuild_or_undo-made.new.arenas.leaves c.self.inside.arenas.node_blocks c.rebuild_or_undo-made.new.arenas.node_blocks c.self.inside.arenas.leaf_blocks c.rebuild_or_undo-made.new.arenas.leaf_blocks c.self.inside.pending c.self.inside.stores.items c.rebuild_or_undo-made.new.stores.items c.self.inside.made c.in-Ok.ensures.nodes c.in-Ok.ensures.leaves q d ed (g.R.Region.answers c.args.region.now) (prefix_as c.args.prefix.now).bits L M sh agree r.met c.self.invariant.0.few r.stores r.rebuilds r.kept)

pub returns-in-Ok-clause-asks : goal.returns-in-Ok-clause-asks
returns-in-Ok-clause-asks g c =
    λ L M sh0 e0 agree0.
    let none : c.self.inside.pending ≡ false = subst (λ (l : Seen). l.pending ≡ false) (sym c.self.view_is) c.requires.quiet in
    let q = c.self.invariant.0.quiet none in
    let d = g.R.Region.bits c.args.region.now - c.self.inside.direct_bits in
    let wide : g.R.Region.bits c.args.region.now ≡ width c.self.inside.family = c.requires.bits ∙ ap (λ (l : Seen). width l.family) (sym c.self.view_is) in
    let ed : d ≡ rest c.self.inside.family c.self.inside.direct_bits = ap (λ n. n - c.self.inside.direct_bits) wide in
    let sh : ShowsIn (seen_as c.self.inside.family c.self.inside.direct_bits c.self.inside.words.items c.self.inside.arenas.nodes c.self.inside.arenas.leaves c.self.inside.arenas.node_blocks c.self.inside.arenas.leaf_blocks c.self.inside.pending c.self.inside.stores.items c.self.inside.made) L L = subst (λ (l : Seen). ShowsIn l L L) (sym c.self.view_is) sh0 in
    let e : g.R.Region.answers c.args.region.now ≡ all_answers c.self.inside.family M = e0 ∙ ap (λ (l : Seen). all_answers l.family M) (sym c.self.view_is) in
    let family : (prefix_as c.args.prefix.now).family ≡ c.self.inside.family = c.requires.family ∙ ap (λ (l : Seen). l.family) (sym c.self.view_is) in
    let agree = agree_merged c.self.inside.family c.self.inside.direct_bits (prefix_as c.args.prefix.now) (g.R.Region.answers c.args.region.now) L M family c.self.invariant.0.few e agree0 in
    let r = subst (λ (w : List ℕ). Renewed c.self.inside.arenas.nodes c.rebuild_or_undo-made.new.arenas.nodes c.self.inside.arenas.node_blocks c.rebuild_or_undo-made.new.arenas.node_blocks c.self.inside.arenas.leaves c.rebuild_or_undo-made.new.arenas.leaves c.self.inside.arenas.leaf_blocks c.rebuild_or_undo-made.new.arenas.leaf_blocks w c.rebuild_or_undo-made.new.stores.items (prefix_as c.args.prefix.now).bits c.self.inside.direct_bits d (g.R.Region.answers c.args.region.now)) c.deref.ensures.value (record { stores = c.in-Ok.ensures.stores; rebuilds = c.in-Ok.ensures.rebuilds; aside = c.in-Ok.ensures.aside; kept = c.in-Ok.ensures.kept; met = c.in-Ok.ensures.met }) in
    let is = ready_is c.self.inside.family c.self.inside.direct_bits c.self.inside.words.items c.self.inside.arenas.nodes c.rebuild_or_undo-made.new.arenas.nodes c.self.inside.arenas.leaves c.rebuild_or_undo-made.new.arenas.leaves c.self.inside.arenas.node_blocks c.rebuild_or_undo-made.new.arenas.node_blocks c.self.inside.arenas.leaf_blocks c.rebuild_or_undo-made.new.arenas.leaf_blocks c.self.inside.pending c.self.inside.stores.items c.rebuild_or_undo-made.new.stores.items c.self.inside.made c.in-Ok.ensures.nodes.retired c.in-Ok.ensures.leaves.retired c.in-Ok.ensures.nodes.time q.none_made in
    subst (λ (l : Seen). AsksRun c.args.self.now l L M) (sym is)
    (subst (λ (l : Seen). AsksRun l (seen_as c.self.inside.family c.self.inside.direct_bits c.self.inside.words.items c.rebuild_or_undo-made.new.arenas.nodes c.rebuild_or_undo-made.new.arenas.leaves c.rebuild_or_undo-made.new.arenas.node_blocks c.rebuild_or_undo-made.new.arenas.leaf_blocks true c.rebuild_or_undo-made.new.stores.items c.self.inside.made) L M) c.self.view_is
    (ready_asks c.self.inside.family c.self.inside.direct_bits c.self.inside.words.items c.self.inside.arenas.nodes c.rebuild_or_undo-made.new.arenas.nodes c.self.inside.arenas.leaves c.rebuild_or_undo-made.new.arenas.leaves c.self.inside.arenas.node_blocks c.rebuild_or_undo-made.new.arenas.node_blocks c.self.inside.arenas.leaf_blocks c.rebuild_or_undo-made.new.arenas.leaf_blocks c.self.inside.pending c.self.inside.stores.items c.rebuild_or_undo-made.new.stores.items c.self.inside.made c.in-Ok.ensures.nodes c.in-Ok.ensures.leaves q d ed (g.R.Region.answers c.args.region.now) (prefix_as c.args.prefix.now).bits L M sh agree r.met))

pub returns-in-Ok-clause-fits : goal.returns-in-Ok-clause-fits
returns-in-Ok-clause-fits g c =
    λ os fits0.
    let none : c.self.inside.pending ≡ false = subst (λ (l : Seen). l.pending ≡ false) (sym c.self.view_is) c.requires.quiet in
    let q = c.self.invariant.0.quiet none in
    let is = ready_is c.self.inside.family c.self.inside.direct_bits c.self.inside.words.items c.self.inside.arenas.nodes c.rebuild_or_undo-made.new.arenas.nodes c.self.inside.arenas.leaves c.rebuild_or_undo-made.new.arenas.leaves c.self.inside.arenas.node_blocks c.rebuild_or_undo-made.new.arenas.node_blocks c.self.inside.arenas.leaf_blocks c.rebuild_or_undo-made.new.arenas.leaf_blocks c.self.inside.pending c.self.inside.stores.items c.rebuild_or_undo-made.new.stores.items c.self.inside.made c.in-Ok.ensures.nodes.retired c.in-Ok.ensures.leaves.retired c.in-Ok.ensures.nodes.time q.none_made in
    subst (λ (l : Seen). FitsIn l os) (sym is) (ready_fits c.self.inside.family c.self.inside.direct_bits c.self.inside.words.items c.self.inside.arenas.nodes c.rebuild_or_undo-made.new.arenas.nodes c.self.inside.arenas.leaves c.rebuild_or_undo-made.new.arenas.leaves c.self.inside.arenas.node_blocks c.rebuild_or_undo-made.new.arenas.node_blocks c.self.inside.arenas.leaf_blocks c.rebuild_or_undo-made.new.arenas.leaf_blocks c.self.inside.pending c.self.inside.stores.items c.rebuild_or_undo-made.new.stores.items c.self.inside.made c.in-Ok.ensures.nodes c.in-Ok.ensures.leaves q os (subst (λ (l : Seen). FitsIn l os) (sym c.self.view_is) fits0))

pub returns-in-Err-clause-still : goal.returns-in-Err-clause-still
returns-in-Err-clause-still g c =
    λ L M sh0.
    let none : c.self.inside.pending ≡ false = subst (λ (l : Seen). l.pending ≡ false) (sym c.self.view_is) c.requires.quiet in
    let q = c.self.invariant.0.quiet none in
    back_shows c.self.inside.family c.self.inside.direct_bits c.self.inside.words.items c.self.inside.arenas.nodes c.rebuild_or_undo-made.new.arenas.nodes c.self.inside.arenas.leaves c.rebuild_or_undo-made.new.arenas.leaves c.self.inside.arenas.node_blocks c.rebuild_or_undo-made.new.arenas.node_blocks c.self.inside.arenas.leaf_blocks c.rebuild_or_undo-made.new.arenas.leaf_blocks c.self.inside.pending c.self.inside.stores.items c.rebuild_or_undo-made.new.stores.items c.self.inside.made c.in-Err.ensures.nodes_back.0 c.in-Err.ensures.leaves_back.0 c.in-Err.ensures.nodes_back.1 c.in-Err.ensures.leaves_back.1 (c.in-Err.ensures.no_stores ∙ sym q.no_stores) L M (subst (λ (l : Seen). ShowsIn l L M) (sym c.self.view_is) sh0)

pub returns-in-Err-clause-fits : goal.returns-in-Err-clause-fits
returns-in-Err-clause-fits g c =
    λ os fits0.
    let none : c.self.inside.pending ≡ false = subst (λ (l : Seen). l.pending ≡ false) (sym c.self.view_is) c.requires.quiet in
    let q = c.self.invariant.0.quiet none in
    back_fits c.self.inside.family c.self.inside.direct_bits c.self.inside.words.items c.self.inside.arenas.nodes c.rebuild_or_undo-made.new.arenas.nodes c.self.inside.arenas.leaves c.rebuild_or_undo-made.new.arenas.leaves c.self.inside.arenas.node_blocks c.rebuild_or_undo-made.new.arenas.node_blocks c.self.inside.arenas.leaf_blocks c.rebuild_or_undo-made.new.arenas.leaf_blocks c.self.inside.pending c.self.inside.stores.items c.rebuild_or_undo-made.new.stores.items c.self.inside.made c.in-Err.ensures.nodes_back.0 c.in-Err.ensures.leaves_back.0 c.in-Err.ensures.nodes_back.1 c.in-Err.ensures.leaves_back.1 (c.in-Err.ensures.no_stores ∙ sym q.no_stores) os (subst (λ (l : Seen). FitsIn l os) (sym c.self.view_is) fits0)

pub invariant_of-self : goal.invariant_of-self
invariant_of-self g c =
    let none : c.self.inside.pending ≡ false = subst (λ (l : Seen). l.pending ≡ false) (sym c.self.view_is) c.requires.quiet in
    let q = c.self.invariant.0.quiet none in
    let d = g.R.Region.bits c.args.region.now - c.self.inside.direct_bits in
    let wide : g.R.Region.bits c.args.region.now ≡ width c.self.inside.family = c.requires.bits ∙ ap (λ (l : Seen). width l.family) (sym c.self.view_is) in
    let ed : d ≡ rest c.self.inside.family c.self.inside.direct_bits = ap (λ n. n - c.self.inside.direct_bits) wide in
    let r = subst (λ (w : List ℕ). Renewed c.self.inside.arenas.nodes c.rebuild_or_undo-made.new.arenas.nodes c.self.inside.arenas.node_blocks c.rebuild_or_undo-made.new.arenas.node_blocks c.self.inside.arenas.leaves c.rebuild_or_undo-made.new.arenas.leaves c.self.inside.arenas.leaf_blocks c.rebuild_or_undo-made.new.arenas.leaf_blocks w c.rebuild_or_undo-made.new.stores.items (prefix_as c.args.prefix.now).bits c.self.inside.direct_bits d (g.R.Region.answers c.args.region.now)) c.deref.ensures.value (record { stores = c.in-Ok.ensures.stores; rebuilds = c.in-Ok.ensures.rebuilds; aside = c.in-Ok.ensures.aside; kept = c.in-Ok.ensures.kept; met = c.in-Ok.ensures.met }) in
    let some = c.self.invariant.1 in
    let l = seen_as c.self.inside.family c.self.inside.direct_bits c.self.inside.words.items c.self.inside.arenas.nodes c.self.inside.arenas.leaves c.self.inside.arenas.node_blocks c.self.inside.arenas.leaf_blocks c.self.inside.pending c.self.inside.stores.items c.self.inside.made in
    let old : ShowsIn l some.before some.before = quiet_shows l some.before some.after some.shows (ap stores_of q.no_stores) q.nodes_taken q.nodes_replaced q.leaves_taken q.leaves_replaced in
    let is = ready_is c.self.inside.family c.self.inside.direct_bits c.self.inside.words.items c.self.inside.arenas.nodes c.rebuild_or_undo-made.new.arenas.nodes c.self.inside.arenas.leaves c.rebuild_or_undo-made.new.arenas.leaves c.self.inside.arenas.node_blocks c.rebuild_or_undo-made.new.arenas.node_blocks c.self.inside.arenas.leaf_blocks c.rebuild_or_undo-made.new.arenas.leaf_blocks c.self.inside.pending c.self.inside.stores.items c.rebuild_or_undo-made.new.stores.items c.self.inside.made c.in-Ok.ensures.nodes.retired c.in-Ok.ensures.leaves.retired c.in-Ok.ensures.nodes.time q.none_made in (
      ready_kept c.self.inside.family c.self.inside.direct_bits c.self.inside.words.items c.self.inside.arenas.nodes c.rebuild_or_undo-made.new.arenas.nodes c.self.inside.arenas.leaves c.rebuild_or_undo-made.new.arenas.leaves c.self.inside.arenas.node_blocks c.rebuild_or_undo-made.new.arenas.node_blocks c.self.inside.arenas.leaf_blocks c.rebuild_or_undo-made.new.arenas.leaf_blocks c.self.inside.pending c.self.inside.stores.items c.rebuild_or_undo-made.new.stores.items c.self.inside.made c.in-Ok.ensures.nodes c.in-Ok.ensures.leaves q c.self.invariant.0 r.stores
          (ready_held c.self.inside.family c.self.inside.direct_bits c.self.inside.words.items c.self.inside.arenas.nodes c.rebuild_or_undo-made.new.arenas.nodes c.self.inside.arenas.leaves c.rebuild_or_undo-made.new.arenas.leaves c.self.inside.arenas.node_blocks c.rebuild_or_undo-made.new.arenas.node_blocks c.self.inside.arenas.leaf_blocks c.rebuild_or_undo-made.new.arenas.leaf_blocks c.self.inside.pending c.self.inside.stores.items c.rebuild_or_undo-made.new.stores.items c.self.inside.made c.in-Ok.ensures.nodes c.in-Ok.ensures.leaves q d ed r.aside some.before some.after some.shows)
          (part_right (is_out c.self.inside.arenas.nodes.free) c.self.inside.arenas.node_blocks.taken (blocks_of c.self.inside.arenas.node_blocks.retired) c.self.invariant.0.nodes_held.with_taken)
          (part_right (is_out c.self.inside.arenas.leaves.free) c.self.inside.arenas.leaf_blocks.taken (blocks_of c.self.inside.arenas.leaf_blocks.retired) c.self.invariant.0.leaves_held.with_taken),
      subst (λ (m : Seen). ShowsSome m) (sym is) (ready_some c.self.inside.family c.self.inside.direct_bits c.self.inside.words.items c.self.inside.arenas.nodes c.rebuild_or_undo-made.new.arenas.nodes c.self.inside.arenas.leaves c.rebuild_or_undo-made.new.arenas.leaves c.self.inside.arenas.node_blocks c.rebuild_or_undo-made.new.arenas.node_blocks c.self.inside.arenas.leaf_blocks c.rebuild_or_undo-made.new.arenas.leaf_blocks c.self.inside.pending c.self.inside.stores.items c.rebuild_or_undo-made.new.stores.items c.self.inside.made c.in-Ok.ensures.nodes c.in-Ok.ensures.leaves q d ed (g.R.Region.answers c.args.region.now) (prefix_as c.args.prefix.now).bits some.before c.self.invariant.0.few old r.met r.stores r.rebuilds),
    )

pub invariant_of-self-in-Err : goal.invariant_of-self-in-Err
invariant_of-self-in-Err g c =
    let none : c.self.inside.pending ≡ false = subst (λ (l : Seen). l.pending ≡ false) (sym c.self.view_is) c.requires.quiet in
    let q = c.self.invariant.0.quiet none in
    let some = c.self.invariant.1 in (
      back_kept c.self.inside.family c.self.inside.direct_bits c.self.inside.words.items c.self.inside.arenas.nodes c.rebuild_or_undo-made.new.arenas.nodes c.self.inside.arenas.leaves c.rebuild_or_undo-made.new.arenas.leaves c.self.inside.arenas.node_blocks c.rebuild_or_undo-made.new.arenas.node_blocks c.self.inside.arenas.leaf_blocks c.rebuild_or_undo-made.new.arenas.leaf_blocks c.self.inside.pending c.self.inside.stores.items c.rebuild_or_undo-made.new.stores.items c.self.inside.made c.in-Err.ensures.nodes_back.0 c.in-Err.ensures.leaves_back.0 c.in-Err.ensures.nodes_back.1 c.in-Err.ensures.leaves_back.1 (c.in-Err.ensures.no_stores ∙ sym q.no_stores) c.self.invariant.0,
      record { before = some.before; after = some.after; shows = back_shows c.self.inside.family c.self.inside.direct_bits c.self.inside.words.items c.self.inside.arenas.nodes c.rebuild_or_undo-made.new.arenas.nodes c.self.inside.arenas.leaves c.rebuild_or_undo-made.new.arenas.leaves c.self.inside.arenas.node_blocks c.rebuild_or_undo-made.new.arenas.node_blocks c.self.inside.arenas.leaf_blocks c.rebuild_or_undo-made.new.arenas.leaf_blocks c.self.inside.pending c.self.inside.stores.items c.rebuild_or_undo-made.new.stores.items c.self.inside.made c.in-Err.ensures.nodes_back.0 c.in-Err.ensures.leaves_back.0 c.in-Err.ensures.nodes_back.1 c.in-Err.ensures.leaves_back.1 (c.in-Err.ensures.no_stores ∙ sym q.no_stores) some.before some.after some.shows },
    )

pub rebuild_or_undo-made-requires-clause-words : goal.rebuild_or_undo-made-requires-clause-words
rebuild_or_undo-made-requires-clause-words g c =
    λ v low.
    let none : c.self.inside.pending ≡ false = subst (λ (l : Seen). l.pending ≡ false) (sym c.self.view_is) c.requires.quiet in
    let q = c.self.invariant.0.quiet none in
    let d = g.R.Region.bits c.args.region.now - c.self.inside.direct_bits in
    let wide : g.R.Region.bits c.args.region.now ≡ width c.self.inside.family = c.requires.bits ∙ ap (λ (l : Seen). width l.family) (sym c.self.view_is) in
    let ed : d ≡ rest c.self.inside.family c.self.inside.direct_bits = ap (λ n. n - c.self.inside.direct_bits) wide in
    let L = c.requires.outside.0 in
    let sh : ShowsIn (seen_as c.self.inside.family c.self.inside.direct_bits c.self.inside.words.items c.self.inside.arenas.nodes c.self.inside.arenas.leaves c.self.inside.arenas.node_blocks c.self.inside.arenas.leaf_blocks c.self.inside.pending c.self.inside.stores.items c.self.inside.made) L L = subst (λ (l : Seen). ShowsIn l L L) (sym c.self.view_is) c.requires.outside.1 in
    let family : (prefix_as c.args.within.now).family ≡ c.self.inside.family = c.requires.within ∙ ap (λ (l : Seen). l.family) (sym c.self.view_is) in
    let ver = quiet_version (seen_as c.self.inside.family c.self.inside.direct_bits c.self.inside.words.items c.self.inside.arenas.nodes c.self.inside.arenas.leaves c.self.inside.arenas.node_blocks c.self.inside.arenas.leaf_blocks c.self.inside.pending c.self.inside.stores.items c.self.inside.made) L L sh.0 sh.1 sh.2 (ap stores_of q.no_stores) q.nodes_taken q.leaves_taken in
    subst (λ (w : List ℕ). IsOldWord c.self.inside.arenas.nodes c.self.inside.arenas.leaves (slice_index w v) (drop c.self.inside.direct_bits (prefix_as c.args.within.now).bits) d (part (bits_of c.self.inside.direct_bits v) (g.R.Region.answers c.args.region.now))) (sym c.deref.ensures.value)
    (words_within c.self.inside.family c.self.inside.direct_bits c.self.inside.arenas.nodes c.self.inside.arenas.leaves c.self.inside.words.items L (blocks_of c.self.inside.arenas.node_blocks.retired) (blocks_of c.self.inside.arenas.leaf_blocks.retired) d (prefix_as c.args.within.now) (g.R.Region.answers c.args.region.now) ed c.self.invariant.0.few family ver c.requires.outside.2 v low)

pub returns-in-Err-clause-refused : goal.returns-in-Err-clause-refused
returns-in-Err-clause-refused g c =
    λ L M sh0 e0 agree0.
    let none : c.self.inside.pending ≡ false = subst (λ (l : Seen). l.pending ≡ false) (sym c.self.view_is) c.requires.quiet in
    let q = c.self.invariant.0.quiet none in
    let d = g.R.Region.bits c.args.region.now - c.self.inside.direct_bits in
    let wide : g.R.Region.bits c.args.region.now ≡ width c.self.inside.family = c.requires.bits ∙ ap (λ (l : Seen). width l.family) (sym c.self.view_is) in
    let ed : d ≡ rest c.self.inside.family c.self.inside.direct_bits = ap (λ n. n - c.self.inside.direct_bits) wide in
    let sh : ShowsIn (seen_as c.self.inside.family c.self.inside.direct_bits c.self.inside.words.items c.self.inside.arenas.nodes c.self.inside.arenas.leaves c.self.inside.arenas.node_blocks c.self.inside.arenas.leaf_blocks c.self.inside.pending c.self.inside.stores.items c.self.inside.made) L L = subst (λ (l : Seen). ShowsIn l L L) (sym c.self.view_is) sh0 in
    let e : g.R.Region.answers c.args.region.now ≡ all_answers c.self.inside.family M = e0 ∙ ap (λ (l : Seen). all_answers l.family M) (sym c.self.view_is) in
    let family : (prefix_as c.args.prefix.now).family ≡ c.self.inside.family = c.requires.family ∙ ap (λ (l : Seen). l.family) (sym c.self.view_is) in
    let agree = agree_merged c.self.inside.family c.self.inside.direct_bits (prefix_as c.args.prefix.now) (g.R.Region.answers c.args.region.now) L M family c.self.invariant.0.few e agree0 in
    let ver = quiet_version (seen_as c.self.inside.family c.self.inside.direct_bits c.self.inside.words.items c.self.inside.arenas.nodes c.self.inside.arenas.leaves c.self.inside.arenas.node_blocks c.self.inside.arenas.leaf_blocks c.self.inside.pending c.self.inside.stores.items c.self.inside.made) L L sh.0 sh.1 sh.2 (ap stores_of q.no_stores) q.nodes_taken q.leaves_taken in
    let out = subst (λ (w : List ℕ). MeetsNotRenewal c.self.inside.arenas.nodes c.self.inside.arenas.leaves w (prefix_as c.args.prefix.now).bits c.self.inside.direct_bits d (g.R.Region.answers c.args.region.now) c.in-Err.refusal) c.deref.ensures.value c.in-Err.ensures.refused in
    subst (λ (l : Seen). AsksRunOut l L M c.reason.result) c.self.view_is
    (refused_reason c.self.inside.family c.self.inside.direct_bits c.self.inside.words.items c.self.inside.arenas.nodes c.self.inside.arenas.leaves L M (blocks_of c.self.inside.arenas.node_blocks.retired) (blocks_of c.self.inside.arenas.leaf_blocks.retired) d c.rebuild_or_undo-made.new.arenas.nodes.order c.rebuild_or_undo-made.new.arenas.leaves.order (g.R.Region.answers c.args.region.now) (prefix_as c.args.prefix.now).bits c.reason.result c.in-Err.refusal ver ed e agree c.in-Err.ensures.nodes_back.0.order c.in-Err.ensures.leaves_back.0.order c.reason.ensures out)

pub returns-in-Ok-clause-cells : goal.returns-in-Ok-clause-cells
returns-in-Ok-clause-cells g c =
    let none : c.self.inside.pending ≡ false = subst (λ (l : Seen). l.pending ≡ false) (sym c.self.view_is) c.requires.quiet in
    let q = c.self.invariant.0.quiet none in
    let is = ready_is c.self.inside.family c.self.inside.direct_bits c.self.inside.words.items c.self.inside.arenas.nodes c.rebuild_or_undo-made.new.arenas.nodes c.self.inside.arenas.leaves c.rebuild_or_undo-made.new.arenas.leaves c.self.inside.arenas.node_blocks c.rebuild_or_undo-made.new.arenas.node_blocks c.self.inside.arenas.leaf_blocks c.rebuild_or_undo-made.new.arenas.leaf_blocks c.self.inside.pending c.self.inside.stores.items c.rebuild_or_undo-made.new.stores.items c.self.inside.made c.in-Ok.ensures.nodes.retired c.in-Ok.ensures.leaves.retired c.in-Ok.ensures.nodes.time q.none_made in
    subst (λ (l : Seen). KeepsCells 0 c.args.self.now l) (sym is)
    (subst (λ (x : Seen). KeepsCells 0 x (ready c.self.inside.family c.self.inside.direct_bits c.self.inside.words.items c.self.inside.arenas.nodes c.rebuild_or_undo-made.new.arenas.nodes c.self.inside.arenas.leaves c.rebuild_or_undo-made.new.arenas.leaves c.self.inside.arenas.node_blocks c.rebuild_or_undo-made.new.arenas.node_blocks c.self.inside.arenas.leaf_blocks c.rebuild_or_undo-made.new.arenas.leaf_blocks c.self.inside.pending c.self.inside.stores.items c.rebuild_or_undo-made.new.stores.items c.self.inside.made)) c.self.view_is
    (ready_cells c.self.inside.family c.self.inside.direct_bits c.self.inside.words.items c.self.inside.arenas.nodes c.rebuild_or_undo-made.new.arenas.nodes c.self.inside.arenas.leaves c.rebuild_or_undo-made.new.arenas.leaves c.self.inside.arenas.node_blocks c.rebuild_or_undo-made.new.arenas.node_blocks c.self.inside.arenas.leaf_blocks c.rebuild_or_undo-made.new.arenas.leaf_blocks c.self.inside.pending c.self.inside.stores.items c.rebuild_or_undo-made.new.stores.items c.self.inside.made c.in-Ok.ensures.nodes c.in-Ok.ensures.leaves q 0))

pub returns-in-Err-clause-cells : goal.returns-in-Err-clause-cells
returns-in-Err-clause-cells g c =
    let none : c.self.inside.pending ≡ false = subst (λ (l : Seen). l.pending ≡ false) (sym c.self.view_is) c.requires.quiet in
    let q = c.self.invariant.0.quiet none in
    let m = seen_as c.self.inside.family c.self.inside.direct_bits c.self.inside.words.items c.rebuild_or_undo-made.new.arenas.nodes c.rebuild_or_undo-made.new.arenas.leaves c.rebuild_or_undo-made.new.arenas.node_blocks c.rebuild_or_undo-made.new.arenas.leaf_blocks c.self.inside.pending c.rebuild_or_undo-made.new.stores.items c.self.inside.made in
    subst (λ (x : Seen). KeepsCells 0 x m) c.self.view_is
    (back_cells c.self.inside.family c.self.inside.direct_bits c.self.inside.words.items c.self.inside.arenas.nodes c.rebuild_or_undo-made.new.arenas.nodes c.self.inside.arenas.leaves c.rebuild_or_undo-made.new.arenas.leaves c.self.inside.arenas.node_blocks c.rebuild_or_undo-made.new.arenas.node_blocks c.self.inside.arenas.leaf_blocks c.rebuild_or_undo-made.new.arenas.leaf_blocks c.self.inside.pending c.self.inside.stores.items c.rebuild_or_undo-made.new.stores.items c.self.inside.made c.in-Err.ensures.nodes_back.0 c.in-Err.ensures.leaves_back.0 c.in-Err.ensures.nodes_back.1 c.in-Err.ensures.leaves_back.1 (c.in-Err.ensures.no_stores ∙ sym q.no_stores) 0)

pub returns-in-Ok-clause-ready : goal.returns-in-Ok-clause-ready
returns-in-Ok-clause-ready g c =
    let none : c.self.inside.pending ≡ false = subst (λ (l : Seen). l.pending ≡ false) (sym c.self.view_is) c.requires.quiet in
    let q = c.self.invariant.0.quiet none in
    let is = ready_is c.self.inside.family c.self.inside.direct_bits c.self.inside.words.items c.self.inside.arenas.nodes c.rebuild_or_undo-made.new.arenas.nodes c.self.inside.arenas.leaves c.rebuild_or_undo-made.new.arenas.leaves c.self.inside.arenas.node_blocks c.rebuild_or_undo-made.new.arenas.node_blocks c.self.inside.arenas.leaf_blocks c.rebuild_or_undo-made.new.arenas.leaf_blocks c.self.inside.pending c.self.inside.stores.items c.rebuild_or_undo-made.new.stores.items c.self.inside.made c.in-Ok.ensures.nodes.retired c.in-Ok.ensures.leaves.retired c.in-Ok.ensures.nodes.time q.none_made in
    subst (λ (l : Seen). IsReadyFrom c.args.self.now l) (sym is)
    (subst (λ (x : Seen). IsReadyFrom x (ready c.self.inside.family c.self.inside.direct_bits c.self.inside.words.items c.self.inside.arenas.nodes c.rebuild_or_undo-made.new.arenas.nodes c.self.inside.arenas.leaves c.rebuild_or_undo-made.new.arenas.leaves c.self.inside.arenas.node_blocks c.rebuild_or_undo-made.new.arenas.node_blocks c.self.inside.arenas.leaf_blocks c.rebuild_or_undo-made.new.arenas.leaf_blocks c.self.inside.pending c.self.inside.stores.items c.rebuild_or_undo-made.new.stores.items c.self.inside.made)) c.self.view_is
    (ready_from c.self.inside.family c.self.inside.direct_bits c.self.inside.words.items c.self.inside.arenas.nodes c.rebuild_or_undo-made.new.arenas.nodes c.self.inside.arenas.leaves c.rebuild_or_undo-made.new.arenas.leaves c.self.inside.arenas.node_blocks c.rebuild_or_undo-made.new.arenas.node_blocks c.self.inside.arenas.leaf_blocks c.rebuild_or_undo-made.new.arenas.leaf_blocks c.self.inside.pending c.self.inside.stores.items c.rebuild_or_undo-made.new.stores.items c.self.inside.made c.in-Ok.ensures.nodes c.in-Ok.ensures.leaves q c.self.invariant.0.nodes_sized c.self.invariant.0.leaves_sized))

pub returns-in-Err-clause-back : goal.returns-in-Err-clause-back
returns-in-Err-clause-back g c =
    let none : c.self.inside.pending ≡ false = subst (λ (l : Seen). l.pending ≡ false) (sym c.self.view_is) c.requires.quiet in
    let q = c.self.invariant.0.quiet none in
    let m = seen_as c.self.inside.family c.self.inside.direct_bits c.self.inside.words.items c.rebuild_or_undo-made.new.arenas.nodes c.rebuild_or_undo-made.new.arenas.leaves c.rebuild_or_undo-made.new.arenas.node_blocks c.rebuild_or_undo-made.new.arenas.leaf_blocks c.self.inside.pending c.rebuild_or_undo-made.new.stores.items c.self.inside.made in
    subst (λ (x : Seen). IsAsBefore x m) c.self.view_is
    (back_before c.self.inside.family c.self.inside.direct_bits c.self.inside.words.items c.self.inside.arenas.nodes c.rebuild_or_undo-made.new.arenas.nodes c.self.inside.arenas.leaves c.rebuild_or_undo-made.new.arenas.leaves c.self.inside.arenas.node_blocks c.rebuild_or_undo-made.new.arenas.node_blocks c.self.inside.arenas.leaf_blocks c.rebuild_or_undo-made.new.arenas.leaf_blocks c.self.inside.pending c.self.inside.stores.items c.rebuild_or_undo-made.new.stores.items c.self.inside.made c.in-Err.ensures.nodes_back.0 c.in-Err.ensures.leaves_back.0 c.in-Err.ensures.nodes_back.1 c.in-Err.ensures.leaves_back.1 (c.in-Err.ensures.no_stores ∙ sym q.no_stores))
