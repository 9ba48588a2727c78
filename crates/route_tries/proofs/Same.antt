-- Tries and needs of a table read one family's entries alone.
use Rattle.std.proofs.Common.{◌≡◌, ℕ, ap, sym, ◌∙◌}
use Rattle.table_model.specs.Address.{Address}
use Rattle.table_model.specs.declared.family.Family.{Family}
use Rattle.table_model.specs.Table.{Table, lpm}
use Rattle.table_model.specs.Entries.{Entries, match_in, of_family}
use Rattle.poptrie_build.specs.Strides.{strides, trie_visits}
use Rattle.poptrie_build.specs.Need.{trie_nodes, trie_leaves}
use Rattle.poptrie_build.specs.Tries.{rest, visits_of}
use Rattle.poptrie_build.specs.declared.counts.Needs.{Needs}
use Rattle.route_tries.specs.Sizes.{need_of}

pub same_need : (f : Family) (s : ℕ) (L M : Entries) → of_family f L ≡ of_family f M → need_of f s L ≡ need_of f s M
same_need f s L M e = ap (λ (T : Table). let n : Needs = record { nodes = trie_nodes s (strides (rest f s)) (rest f s) (λ a. lpm T a 0); leaves = trie_leaves s (strides (rest f s)) (rest f s) (λ a. lpm T a 0) } in n) e

pub same_match : (f : Family) (L M : Entries) (a : Address) → a.family ≡ f → of_family f L ≡ of_family f M → match_in L a ≡ match_in M a
same_match f L M a g e = ap (λ (T : Table). lpm T a.bits 0) (ap (λ (h : Family). of_family h L) g ∙ (e ∙ ap (λ (h : Family). of_family h M) (sym g)))

pub same_visits : (f : Family) (s t : ℕ) (L M : Entries) (a : Address) → a.family ≡ f → s ≡ t → of_family f L ≡ of_family f M → visits_of s L a ≡ visits_of t M a
same_visits f s t L M a g d e =
    ap (λ n. visits_of n L a) d
    ∙ ap (λ (T : Table). trie_visits t (strides (rest a.family t)) (rest a.family t) (λ b. lpm T b 0) a.bits) (ap (λ (h : Family). of_family h L) g ∙ (e ∙ ap (λ (h : Family). of_family h M) (sym g)))
