use Rattle.std.proofs.Common.{ℕ, subst, sym, ap, ◌∙◌}
use Rattle.table_model.specs.Bits.{bits_of}
use Rattle.table_model.specs.Address.{Prefix, same_prefix}
use Rattle.std.specs.Map.{remove_entry}
use Rattle.orig_tree.specs.Walk.{Walks}
use Rattle.table_model.specs.Entries.{of_table}
use Rattle.orig_tree.specs.Views.{Labels}
use Rattle.orig_tree.specs.Arena.{cells_of, whole}
use Rattle.orig_tree.proofs.Places.{in_place_without, same_rows, entries_without, labels_are}
use Rattle.orig_tree.specs.Bests.{best_in, KeepsBest}
use Rattle.orig_tree.specs.declared.best.Best.{Best}
use Rattle.orig_tree.proofs.Stores.{kept_is}
use Rattle.orig_tree.proofs.Laying.{stays_by}
use Rattle.orig_tree.proofs.Undoing.{can_stay}
use Rattle.orig_tree.specs.Undos.{routes_before, CanUndo}
use Rattle.orig_tree.proofs.tree.Tree.clear_entry.Goals as goal

pub invariant_of-self : goal.invariant_of-self
invariant_of-self c = (
  c.change.ensures.arena,
  same_rows c.self.inside.family (whole c.self.inside.family (cells_of c.self.inside.nodes)).routes (whole c.self.inside.family (cells_of c.change.new.nodes)).routes (ap (λ (n : Walks). n.routes) c.change.ensures.walks) c.self.invariant.1,
  in_place_without c.self.inside.family (bits_of c.args.prefix.now.len c.path_bits.result) (whole c.self.inside.family (cells_of c.self.inside.nodes)).entries (whole c.self.inside.family (cells_of c.change.new.nodes)).entries (ap (λ (n : Walks). n.entries) c.change.ensures.walks) c.self.invariant.2,
  subst (λ (K : ℕ → Best). KeepsBest c.self.inside.family (cells_of c.change.new.nodes) K) (sym (kept_is c.self.inside.nodes c.change.new.nodes c.change.ensures.kept))
      (stays_by c.self.inside.family (cells_of c.self.inside.nodes) (cells_of c.change.new.nodes) (best_in c.self.inside.nodes) c.change.ensures.halves (ap (λ (n : Walks). n.routes) c.change.ensures.walks) c.self.invariant.3),
  subst (λ (K : ℕ → Best). CanUndo c.self.inside.family (cells_of c.change.new.nodes) K c.self.inside.undo) (sym (kept_is c.self.inside.nodes c.change.new.nodes c.change.ensures.kept))
      (can_stay c.self.inside.family (cells_of c.self.inside.nodes) (cells_of c.change.new.nodes) (best_in c.self.inside.nodes) c.self.inside.undo c.change.ensures.halves (ap (λ (n : Walks). n.routes) c.change.ensures.walks) (ap (λ (n : Walks). n.nodes) c.change.ensures.walks) c.self.invariant.4),
)

pub returns : goal.returns
returns c =
    let p = c.args.prefix.now in
    labels_are _ _ _ _ _ _ _ _ _ _ (ap (λ (s : Labels). s.family) c.self.view_is)
    (ap (λ (n : Walks). of_table c.self.inside.family n.routes) c.change.ensures.walks ∙ ap (λ (s : Labels). s.routes) c.self.view_is)
    (entries_without c.self.inside.family p.family (bits_of p.len c.path_bits.result) (whole c.self.inside.family (cells_of c.self.inside.nodes)).entries (whole c.self.inside.family (cells_of c.change.new.nodes)).entries c.args.self.now.entries (c.requires ∙ sym (ap (λ (s : Labels). s.family) c.self.view_is)) (ap (λ (n : Walks). n.entries) c.change.ensures.walks) (ap (λ (s : Labels). s.entries) c.self.view_is)
    ∙ ap (λ b. remove_entry (same_prefix (let x : Prefix = record { family = p.family; bits = b } in x)) c.args.self.now.entries) c.path_bits.ensures)
    (ap (λ (n : Walks). n.nodes) c.change.ensures.walks ∙ ap (λ (s : Labels). s.nodes) c.self.view_is)
    (ap (λ (n : Walks). of_table c.self.inside.family (routes_before c.self.inside.undo n.routes)) c.change.ensures.walks ∙ ap (λ (s : Labels). s.before) c.self.view_is)
