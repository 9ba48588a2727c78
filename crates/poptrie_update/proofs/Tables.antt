-- The needs of the versions so far, as those of their tables.
use Rattle.std.proofs.Common.{◌≡◌, ℕ, List, [], ◌∷◌, ◌++◌, map, refl, sym, ap, subst}
use Rattle.table_model.specs.Entries.{Entries}
use Rattle.table_model.specs.declared.family.Family.{Family}
use Rattle.poptrie_build.specs.Tries.{node_need, leaf_need}
use Rattle.poptrie_set.specs.Past.{PastIn}
use Rattle.poptrie_update.specs.Lives.{Living, HasShapeOf, Past, PastTables}

more : (f : Entries → ℕ) (Ls : List Entries) (L : Entries) → map f (Ls ++ L ∷ []) ≡ map f Ls ++ f L ∷ []
more f [] L = refl
more f (x ∷ Ls) L = ap (λ (ns : List ℕ). f x ∷ ns) (more f Ls L)

module _ (l m : Living) (shape : HasShapeOf l m) where
  -- a trie of the same family and direct bits needs the same
  same_needs : (Ls : List Entries) → PastIn m.selected (map (λ (L : Entries). node_need l.selected.family l.selected.direct_bits L) Ls) (map (λ (L : Entries). leaf_need l.selected.family l.selected.direct_bits L) Ls) → PastTables m Ls
  same_needs Ls p =
      subst (λ (f : Family). PastIn m.selected (map (λ (L : Entries). node_need f m.selected.direct_bits L) Ls) (map (λ (L : Entries). leaf_need f m.selected.direct_bits L) Ls)) (sym shape.0)
      (subst (λ (d : ℕ). PastIn m.selected (map (λ (L : Entries). node_need l.selected.family d L) Ls) (map (λ (L : Entries). leaf_need l.selected.family d L) Ls)) (sym shape.1) p)

  pub tables_kept : ((ns ls : List ℕ) → Past l ns ls → Past m ns ls) → (Ls : List Entries) → PastTables l Ls → PastTables m Ls
  tables_kept h Ls p = same_needs Ls (h _ _ p)

  pub tables_more : (L : Entries) → ((ns ls : List ℕ) → Past l ns ls → Past m (ns ++ node_need l.selected.family l.selected.direct_bits L ∷ []) (ls ++ leaf_need l.selected.family l.selected.direct_bits L ∷ [])) → (Ls : List Entries) → PastTables l Ls → PastTables m (Ls ++ L ∷ [])
  tables_more L h Ls p =
      same_needs (Ls ++ L ∷ [])
      (subst (λ (ns : List ℕ). PastIn m.selected ns (map (λ (E : Entries). leaf_need l.selected.family l.selected.direct_bits E) (Ls ++ L ∷ []))) (sym (more (λ (E : Entries). node_need l.selected.family l.selected.direct_bits E) Ls L))
      (subst (λ (ls : List ℕ). PastIn m.selected (map (λ (E : Entries). node_need l.selected.family l.selected.direct_bits E) Ls ++ node_need l.selected.family l.selected.direct_bits L ∷ []) ls) (sym (more (λ (E : Entries). leaf_need l.selected.family l.selected.direct_bits E) Ls L)) (h _ _ p)))
