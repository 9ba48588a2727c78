use Rattle.std.proofs.Common.{◌≡◌, ◌∷◌, ℕ, refl, sym, ap, ◌∙◌, subst, drop}
use Rattle.table_model.specs.Address.{Prefix}
use Rattle.table_model.specs.Entries.{Entries}
use Rattle.fib_addr.specs.Views.{prefix_as}
use Rattle.orig_tree.specs.Arena.{cells_of}
use Rattle.orig_tree.specs.Merged.{Merges}
use Rattle.orig_tree.specs.Bests.{best_in}
use Rattle.orig_tree.specs.declared.best.Best.{Best}
use Rattle.orig_tree.proofs.Stores.{kept_is}
use Rattle.orig_tree.proofs.Weaving.{merges_none, merges_own, same_code}
use Rattle.orig_tree.proofs.merge.merge_own.Goals as goal

pub returns-in-Some-clause-merged : goal.returns-in-Some-clause-merged
returns-in-Some-clause-merged g c = λ h levels.
    let S = best_in c.args.nodes.now in
    let E = g.S.EntrySource.left c.args.entries.now in
    let rest = drop 1 E in
    let x = c.in-Some.first in
    let P = prefix_as c.args.at.now in
    let is : E ≡ (P, x.hop.0) ∷ rest = c.in-Some.ensures.some ∙ ap (λ (p : Prefix). (p, x.hop.0) ∷ rest) (same_code x.prefix c.args.at.now c.if-eq.ensures) in
    subst (λ (R : Entries). Merges c.args.label h levels P (cells_of c.args.nodes.now) (cells_of c.update_node.new.nodes) c.args.nodes.now.free c.update_node.new.nodes.free S (best_in c.update_node.new.nodes) c.args.i E R) (sym c.pass.ensures)
    (subst (λ (K : ℕ → Best). Merges c.args.label h levels P (cells_of c.args.nodes.now) (cells_of c.update_node.new.nodes) c.args.nodes.now.free c.update_node.new.nodes.free S K c.args.i E rest) (sym (kept_is c.args.nodes.now c.update_node.new.nodes c.update_node.ensures.kept))
    (subst (λ (F : Entries). Merges c.args.label h levels P (cells_of c.args.nodes.now) (cells_of c.update_node.new.nodes) c.args.nodes.now.free c.update_node.new.nodes.free S S c.args.i F rest) (sym is)
    (merges_own c.args.label h levels P _ _ (cells_of c.args.nodes.now) (cells_of c.update_node.new.nodes) c.args.nodes.now.free c.update_node.new.nodes.free S c.args.i x.hop.0 rest refl refl c.update_node.ensures.cells c.update_node.ensures.free)))

pub returns-else-eq-clause-merged : goal.returns-else-eq-clause-merged
returns-else-eq-clause-merged g c = λ h levels. merges_none c.args.label h levels (prefix_as c.args.at.now) (cells_of c.args.nodes.now) c.args.nodes.now.free (best_in c.args.nodes.now) c.args.i (g.S.EntrySource.left c.args.entries.now)

pub returns-else-first-at-clause-merged : goal.returns-else-first-at-clause-merged
returns-else-first-at-clause-merged g c = λ h levels. merges_none c.args.label h levels (prefix_as c.args.at.now) (cells_of c.args.nodes.now) c.args.nodes.now.free (best_in c.args.nodes.now) c.args.i (g.S.EntrySource.left c.args.entries.now)

pub returns-clause-merged : goal.returns-clause-merged
returns-clause-merged g c = λ h levels. merges_none c.args.label h levels (prefix_as c.args.at.now) (cells_of c.args.nodes.now) c.args.nodes.now.free (best_in c.args.nodes.now) c.args.i (g.S.EntrySource.left c.args.entries.now)
