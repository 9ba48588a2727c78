-- Routes with the numbers of their hops.
use Rattle.std.proofs.Common.{append_assoc, append-nil, ◌+◌, ◌≡◌, ◌≤◌, ℕ, length, List, [], ◌∷◌, ◌++◌, true, false, Option, Some, None, refl, sym, ap, ◌∙◌}
use Rattle.std.specs.Prelude.{map, slice_get}
use Rattle.std.proofs.lemmas.List.{map-append}
use Rattle.table_model.specs.Address.{Address}
use Rattle.table_model.specs.Entries.{Entries}
use Rattle.kept_model.specs.Feed.{number_in}
use Rattle.fib_addr.specs.Views.{addr_as, entry_as, prefix_as}
use Rattle.fib_addr.specs.declared.entry.Entry.{Entry}
use Rattle.fib_addr.specs.declared.entry.Hop.{Hop}
use Rattle.fib_addr.specs.declared.prefix.Prefix as code
use Rattle.adj_rib_in.specs.declared.keys.Candidate.{Candidate}
use Rattle.adj_rib_in.specs.declared.keys.Rank.{Rank}
use Rattle.adj_rib_in.specs.declared.rows.Row.{Row}
use Rattle.adj_rib_in.specs.Paths.{Paths, held_in, rank_at}
use Rattle.adj_rib_in.specs.Bests.{IsBestHeld}
use Rattle.adj_rib_in.proofs.Holds.{code_of}
use Rattle.route_model.specs.Choice.{chosen_for}
use Rattle.route_choice.specs.Paths.{IsIndexed, has_rank}
use Rattle.route_choice.specs.Walks.{OffersNothing, entries_at, routes_at, row_prefixes, with_hop_number}
use Rattle.route_choice.proofs.AllRoutes.{first_rows, no_rows, one_route, one_row_more, past_rows, prefix_or, routes_more}
use Rattle.route_choice.proofs.Choose.{chosen_best}
use Rattle.std.proofs.Common.{subst}

-- ---- where nothing is offered

pub nothing_best : (over : Paths) (p : code.Prefix) → OffersNothing over → IsBestHeld over None p None
nothing_best over p n d h e = let x = code_of over d h in absurd (n x.key x.attrs x.here)

pub unranked : (over : Paths) (ranks : List Rank) → IsIndexed over ranks → ranks ≡ [] → OffersNothing over
unranked over ranks i none s o e = let x : false ≡ true = ap (λ rs. has_rank rs (rank_at s o.path)) (sym none) ∙ i s o e in absurd cc

-- ---- entries one after another

pub entries_more : (hops : List Address) (paths : Paths) (ps qs : List code.Prefix) → entries_at hops paths (ps ++ qs) ≡ entries_at hops paths ps ++ entries_at hops paths qs
entries_more hops paths ps qs = ap (map (with_hop_number hops)) (routes_more paths ps qs) ∙ map-append (with_hop_number hops) (routes_at paths ps) (routes_at paths qs)

pub entry_pushed : (hops : List Address) (paths : Paths) (p : code.Prefix) (best : Option Candidate) (c : Candidate) (hop : Hop) (old new : List Entry) → IsBestHeld paths None p best → best ≡ Some c → hop.0 ≡ number_in hops (addr_as c.attrs.hop) → new ≡ old ++ (let e : Entry = record { prefix = p; hop = hop } in e) ∷ [] → map entry_as new ≡ map entry_as old ++ entries_at hops paths (p ∷ [])
entry_pushed hops paths p best c hop old new b e h n =
    let x : Some (addr_as c.attrs.hop) ≡ chosen_for (held_in paths) (prefix_as p) = chosen_best paths p (Some c) (subst (IsBestHeld paths None p) e b) in
    ap (map entry_as) n ∙ (map-append entry_as old _ ∙ (ap (λ k. map entry_as old ++ (prefix_as p, k) ∷ []) h ∙ ap (λ xs. map entry_as old ++ map (with_hop_number hops) xs) (sym (one_route paths p (Some (addr_as c.attrs.hop)) x))))

pub no_entry : (hops : List Address) (paths : Paths) (p : code.Prefix) (best : Option Candidate) (old : List Entry) → IsBestHeld paths None p best → best ≡ None → map entry_as old ≡ map entry_as old ++ entries_at hops paths (p ∷ [])
no_entry hops paths p best old b e =
    let x : None ≡ chosen_for (held_in paths) (prefix_as p) = chosen_best paths p None (subst (IsBestHeld paths None p) e b) in
    sym (ap (λ xs. map entry_as old ++ map (with_hop_number hops) xs) (one_route paths p None x) ∙ append-nil (map entry_as old))

-- ---- walks over prefixes and rows

pub entry_told : (hops : List Address) (paths : Paths) (old new whole : Entries) (p : code.Prefix) (it rest : List code.Prefix) → it ≡ p ∷ rest → new ≡ old ++ entries_at hops paths (p ∷ []) → old ++ entries_at hops paths it ≡ whole → new ++ entries_at hops paths rest ≡ whole
entry_told hops paths old new whole p it rest i n h =
    ap (λ xs. xs ++ entries_at hops paths rest) n
    ∙ (append_assoc old (entries_at hops paths (p ∷ [])) (entries_at hops paths rest) ∙ (ap (λ xs. old ++ xs) (sym (entries_more hops paths (p ∷ []) rest)) ∙ (ap (λ ps. old ++ entries_at hops paths ps) (sym i) ∙ h)))

pub all_entries_told : (hops : List Address) (paths : Paths) (old whole : Entries) (it : List code.Prefix) → it ≡ [] → old ++ entries_at hops paths it ≡ whole → old ≡ whole
unfolding routes_at
all_entries_told hops paths old whole it i h = sym (append-nil old) ∙ (ap (λ ps. old ++ entries_at hops paths ps) (sym i) ∙ h)

pub row_entry : (hops : List Address) (paths : Paths) (rows : List Row) (n : ℕ) (old new : Entries) (p : code.Prefix) → Some p ≡ prefix_or (slice_get rows n) → new ≡ old ++ entries_at hops paths (p ∷ []) → old ≡ entries_at hops paths (first_rows n rows) → new ≡ entries_at hops paths (first_rows (n + 1) rows)
row_entry hops paths rows n old new p e h told =
    h ∙ (ap (λ xs. xs ++ entries_at hops paths (p ∷ [])) told ∙ (sym (entries_more hops paths (first_rows n rows) (p ∷ [])) ∙ ap (entries_at hops paths) (sym (one_row_more rows n p (slice_get rows n) refl e))))

pub entries_start : (hops : List Address) (paths : Paths) (rows : List Row) (entries : List Entry) → entries ≡ [] → map entry_as entries ≡ entries_at hops paths (first_rows 0 rows)
unfolding routes_at
entries_start hops paths rows entries e = ap (map entry_as) e ∙ sym (ap (entries_at hops paths) (no_rows rows))

pub entries_end : (hops : List Address) (paths : Paths) (rows : List Row) (n : ℕ) (entries : Entries) → length rows ≤ n → entries ≡ entries_at hops paths (first_rows n rows) → entries ≡ entries_at hops paths (row_prefixes rows)
entries_end hops paths rows n entries l h = h ∙ ap (entries_at hops paths) (past_rows rows n l)
