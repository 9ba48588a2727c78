-- The prefixes of rows and ranks, put in order.
use Rattle.std.proofs.Common.{append_assoc, ◌+◌, ◌≡◌, ◌≤◌, ℕ, length, List, [], ◌∷◌, ◌++◌, Bool, true, false, cond, Some, refl, sym, ap, subst, ◌∙◌, append-nil}
use Rattle.std.specs.Prelude.{◌||◌, slice_get}
use Rattle.std.specs.List.{dedup, dedup_from}
use Rattle.std.specs.List.Sorted.{IsPermutation, IsSorted, IsStrictlySortedBy}
use Rattle.std.specs.Ordering.{is_eq}
use Rattle.std.specs.BTreeMap.{is_at}
use Rattle.std.specs.declared.cmp.Ordering.TheVariants.{Equal}
use Rattle.std.proofs.lemmas.Cmp.{alike_right, tied_itself}
use Rattle.std.proofs.lemmas.List.Folds.{list_any-append}
use Rattle.std.proofs.lemmas.List.Kept.{IsStrictlySortedBy-dedup}
use Rattle.std.proofs.lemmas.List.Sorted.{list_any-IsPermutation}
use Rattle.fib_addr.specs.Order.{code_cmp}
use Rattle.fib_addr.specs.contracts.prefix.PrefixPartialEq.TheImpl as prefix_test
use Rattle.fib_addr.specs.declared.prefix.Prefix as code
use Rattle.adj_rib_in.specs.declared.rows.Row.{Row}
use Rattle.adj_rib_in.specs.declared.keys.Rank.{Rank}
use Rattle.adj_rib_in.proofs.Equals.{prefix_eq}
use Rattle.adj_rib_in.proofs.Orders.{is_equal, prefix_total}
use Rattle.route_choice.specs.Walks.{has_prefix, row_prefixes, rank_prefixes, HasRows, HasRanks}
use Rattle.route_choice.proofs.AllRoutes.{first_rows, no_rows, prefix_or, one_row_more, past_rows, all_rows}

abbrev Prefixes : Type 0
Prefixes = List code.Prefix

-- ---- pushed one after another

pub no_rows_yet : (rows : List Row) (old : Prefixes) → old ≡ old ++ first_rows 0 rows
no_rows_yet rows old = sym (ap (λ xs. old ++ xs) (no_rows rows) ∙ append-nil old)

pub row_pushed : (rows : List Row) (n : ℕ) (p : code.Prefix) (old now new : Prefixes) → Some p ≡ prefix_or (slice_get rows n) → new ≡ now ++ p ∷ [] → now ≡ old ++ first_rows n rows → new ≡ old ++ first_rows (n + 1) rows
row_pushed rows n p old now new e h told =
    h ∙ (ap (λ xs. xs ++ p ∷ []) told ∙ (append_assoc old (first_rows n rows) (p ∷ []) ∙ ap (λ xs. old ++ xs) (sym (one_row_more rows n p (slice_get rows n) refl e))))

pub rows_pushed : (rows : List Row) (n : ℕ) (old now : Prefixes) → length rows ≤ n → now ≡ old ++ first_rows n rows → now ≡ old ++ row_prefixes rows
rows_pushed rows n old now l h = h ∙ ap (λ xs. old ++ xs) (past_rows rows n l)

pub rank_pushed : (now new whole : Prefixes) (p : code.Prefix) (r : Rank) (it rest : List Rank) → it ≡ r ∷ rest → p ≡ r.prefix → new ≡ now ++ p ∷ [] → now ++ rank_prefixes it ≡ whole → new ++ rank_prefixes rest ≡ whole
rank_pushed now new whole p r it rest i e h told =
    ap (λ xs. xs ++ rank_prefixes rest) h
    ∙ (append_assoc now (p ∷ []) (rank_prefixes rest) ∙ (ap (λ q. now ++ q ∷ rank_prefixes rest) e ∙ (ap (λ rs. now ++ rank_prefixes rs) (sym i) ∙ told)))

pub ranks_pushed : (now whole : Prefixes) (it : List Rank) → it ≡ [] → now ++ rank_prefixes it ≡ whole → now ≡ whole
ranks_pushed now whole it i told = sym (append-nil now) ∙ (ap (λ rs. now ++ rank_prefixes rs) (sym i) ∙ told)

-- ---- in order, each once

abbrev pub same : code.Prefix → code.Prefix → Bool
same = (prefix_test.ghosts).eq

still_from : (p k : code.Prefix) (ps : Prefixes) → has_prefix (dedup_from same k ps) p ≡ (is_at (code_cmp p) k || has_prefix ps p)
still_from p k [] = refl
still_from p k (q ∷ ps) = by_test (same q k) refl (still_from p k ps) (still_from p q ps)
  where
    twice : (a b h : Bool) → a ≡ b → (a || h) ≡ (a || (b || h))
    twice true b h e = refl
    twice false true h e = absurd cc
    twice false false h e = refl

    by_test : (b : Bool) → same q k ≡ b → has_prefix (dedup_from same k ps) p ≡ (is_at (code_cmp p) k || has_prefix ps p) → has_prefix (dedup_from same q ps) p ≡ (is_at (code_cmp p) q || has_prefix ps p)
        → has_prefix (cond b (dedup_from same k ps) (k ∷ dedup_from same q ps)) p ≡ (is_at (code_cmp p) k || (is_at (code_cmp p) q || has_prefix ps p))
    by_test true t ih jh =
        let tied : code_cmp q k ≡ Equal = is_equal _ (sym (prefix_eq q k) ∙ t) in
        ih ∙ twice (is_at (code_cmp p) k) (is_at (code_cmp p) q) (has_prefix ps p) (ap is_eq (sym (alike_right prefix_total q k p tied)))
    by_test false t ih jh = ap (λ b. is_at (code_cmp p) k || b) jh

still : (p : code.Prefix) (ps : Prefixes) → has_prefix (dedup same ps) p ≡ has_prefix ps p
still p [] = refl
still p (k ∷ ps) = still_from p k ps

-- what the list has after the sort, each once
pub have_all : (all sorted once : Prefixes) → IsPermutation all sorted → once ≡ dedup same sorted → (p : code.Prefix) → has_prefix all p ≡ true → has_prefix once p ≡ true
have_all all sorted once perm e p h = ap (λ ps. has_prefix ps p) e ∙ (still p sorted ∙ (sym (list_any-IsPermutation (is_at (code_cmp p)) all sorted perm) ∙ h))

pub once_sorted : (sorted once : Prefixes) → IsSorted code_cmp sorted → once ≡ dedup same sorted → IsStrictlySortedBy code_cmp once
once_sorted sorted once s e = subst (IsStrictlySortedBy code_cmp) (sym e) (IsStrictlySortedBy-dedup prefix_total prefix_eq sorted s)

left : (a b : Bool) → a ≡ true → (a || b) ≡ true
left a b e = ap (λ x. x || b) e

right : (a b : Bool) → b ≡ true → (a || b) ≡ true
right true b e = refl
right false b e = e

pub have_rows : (rows : List Row) (ranks : List Rank) (all once : Prefixes) → all ≡ row_prefixes rows ++ rank_prefixes ranks → ((p : code.Prefix) → has_prefix all p ≡ true → has_prefix once p ≡ true) → HasRows rows once
have_rows rows ranks all once e h i row g =
    h row.prefix (ap (λ ps. has_prefix ps row.prefix) e ∙ (list_any-append (is_at (code_cmp row.prefix)) (row_prefixes rows) (rank_prefixes ranks) ∙ left _ (has_prefix (rank_prefixes ranks) row.prefix) (all_rows rows i row g)))

ranks_there : (ranks : List Rank) (once : Prefixes) → ((p : code.Prefix) → has_prefix (rank_prefixes ranks) p ≡ true → has_prefix once p ≡ true) → HasRanks ranks once
ranks_there [] once h = tt
ranks_there (r ∷ ranks) once h = (
  h r.prefix (left (is_at (code_cmp r.prefix) r.prefix) (has_prefix (rank_prefixes ranks) r.prefix) (ap is_eq (tied_itself prefix_total r.prefix))),
  ranks_there ranks once (λ p g. h p (right (is_at (code_cmp p) r.prefix) (has_prefix (rank_prefixes ranks) p) g)),
)

pub have_ranks : (rows : List Row) (ranks : List Rank) (all once : Prefixes) → all ≡ row_prefixes rows ++ rank_prefixes ranks → ((p : code.Prefix) → has_prefix all p ≡ true → has_prefix once p ≡ true) → HasRanks ranks once
have_ranks rows ranks all once e h =
    ranks_there ranks once (λ p g. h p (ap (λ ps. has_prefix ps p) e ∙ (list_any-append (is_at (code_cmp p)) (row_prefixes rows) (rank_prefixes ranks) ∙ right (has_prefix (row_prefixes rows) p) _ g)))
