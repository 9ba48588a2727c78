use Rattle.std.proofs.Common.{◌≡◌, subst}
use Rattle.std.specs.List.{AllByRecursion}
use Rattle.std.specs.Map.{keys_of}
use Rattle.table_model.specs.Address.{Prefix}
use Rattle.orig_tree.specs.Arena.{cells_of, whole}
use Rattle.orig_tree.specs.Views.{Labels}
use Rattle.orig_tree.proofs.Within.{of_one_family}
use Rattle.orig_tree.proofs.tree.Tree.entries.Goals as goal

pub returns-clause-family : goal.returns-clause-family
returns-clause-family c = subst (λ (s : Labels). AllByRecursion (λ (p : Prefix). p.family ≡ s.family) (keys_of s.entries)) c.self.view_is (of_one_family c.self.inside.family (whole c.self.inside.family (cells_of c.self.inside.nodes)).entries)

pub returns-in_err-emit_entries-clause-family : goal.returns-in_err-emit_entries-clause-family
returns-in_err-emit_entries-clause-family c = subst (λ (s : Labels). AllByRecursion (λ (p : Prefix). p.family ≡ s.family) (keys_of s.entries)) c.self.view_is (of_one_family c.self.inside.family (whole c.self.inside.family (cells_of c.self.inside.nodes)).entries)
