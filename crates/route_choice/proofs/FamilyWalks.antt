-- The routes of a family, row by row.
use Rattle.std.proofs.Common.{◌+◌, ◌≡◌, ◌≤◌, ℕ, zero, suc, length, List, [], ◌∷◌, ◌++◌, true, false, Option, Some, None, refl, sym, ap, ◌∙◌, arith, subst, cond}
use Rattle.std.specs.Prelude.{map, filter, slice_get, option_map, is_some}
use Rattle.std.specs.Option.{option_to_list}
use Rattle.std.proofs.lemmas.List.Elements.{filter-append}
use Rattle.table_model.specs.Address.{Address, Prefix, same_family}
use Rattle.table_model.specs.declared.family.Family.{Family}
use Rattle.table_model.specs.Entries.{Entries}
use Rattle.kept_model.specs.Feed.{number_in}
use Rattle.fib_addr.specs.Views.{addr_as, entry_as, prefix_as}
use Rattle.fib_addr.specs.declared.entry.Entry.{Entry}
use Rattle.fib_addr.specs.declared.entry.Hop.{Hop}
use Rattle.fib_addr.specs.declared.prefix.Prefix as code
use Rattle.adj_rib_in.specs.declared.keys.Candidate.{Candidate}
use Rattle.adj_rib_in.specs.declared.rows.Row.{Row}
use Rattle.adj_rib_in.specs.Paths.{Paths, held_in}
use Rattle.adj_rib_in.specs.Bests.{IsBestHeld}
use Rattle.route_model.specs.Choice.{chosen_for}
use Rattle.route_choice.specs.Walks.{entries_at, family_entries_at, route_or, routes_at, row_prefixes, rows_from, with_hop_number}
use Rattle.route_choice.proofs.AllEntries.{entries_more}
use Rattle.route_choice.proofs.AllRoutes.{one_route, prefix_or}
use Rattle.route_choice.proofs.Choose.{chosen_best}

-- ---- one prefix more

family_more : (f : Family) (hops : List Address) (paths : Paths) (p : code.Prefix) (ps : List code.Prefix) → family_entries_at f hops paths (p ∷ ps) ≡ family_entries_at f hops paths (p ∷ []) ++ family_entries_at f hops paths ps
family_more f hops paths p ps =
    let t = λ (e : Prefix × ℕ). same_family f e.0.family in
    ap (filter t) (entries_more hops paths (p ∷ []) ps) ∙ filter-append t (entries_at hops paths (p ∷ [])) (entries_at hops paths ps)

pub none_in : (f : Family) (hops : List Address) (paths : Paths) (ps : List code.Prefix) → ps ≡ [] → family_entries_at f hops paths ps ≡ []
unfolding routes_at
none_in f hops paths ps e = ap (family_entries_at f hops paths) e

-- ---- the route of one prefix

abbrev of_one : (f : Family) (hops : List Address) (p : code.Prefix) → Option Address → Entries
of_one f hops p o = filter (λ e. same_family f e.0.family) (map (with_hop_number hops) (route_or (prefix_as p) o []))

one_in : (f : Family) (hops : List Address) (paths : Paths) (p : code.Prefix) (o : Option Address) → o ≡ chosen_for (held_in paths) (prefix_as p) → family_entries_at f hops paths (p ∷ []) ≡ of_one f hops p o
one_in f hops paths p o e = ap (λ xs. filter (λ (e : Prefix × ℕ). same_family f e.0.family) (map (with_hop_number hops) xs)) (one_route paths p o e)

pub other_family : (f : Family) (hops : List Address) (paths : Paths) (p : code.Prefix) → same_family f p.family ≡ false → [] ≡ family_entries_at f hops paths (p ∷ [])
other_family f hops paths p other = sym (one_in f hops paths p (chosen_for (held_in paths) (prefix_as p)) refl ∙ by_hop (chosen_for (held_in paths) (prefix_as p)))
  where
    by_hop : (o : Option Address) → of_one f hops p o ≡ []
    by_hop None = refl
    by_hop (Some h) = ap (λ b. cond b ((prefix_as p, number_in hops h) ∷ []) []) other

pub no_best : (f : Family) (hops : List Address) (paths : Paths) (p : code.Prefix) (best : Option Candidate) → IsBestHeld paths None p best → best ≡ None → [] ≡ family_entries_at f hops paths (p ∷ [])
no_best f hops paths p best b e =
    let x : None ≡ chosen_for (held_in paths) (prefix_as p) = chosen_best paths p None (subst (IsBestHeld paths None p) e b) in
    sym (one_in f hops paths p None x ∙ bare)
  where
    bare : of_one f hops p None ≡ []
    bare = refl

pub own_best : (f : Family) (hops : List Address) (paths : Paths) (p : code.Prefix) (best : Option Candidate) (c : Candidate) (hop : Hop) → same_family f p.family ≡ true → IsBestHeld paths None p best → best ≡ Some c → hop.0 ≡ number_in hops (addr_as c.attrs.hop) → (prefix_as p, hop.0) ∷ [] ≡ family_entries_at f hops paths (p ∷ [])
own_best f hops paths p best c hop own b e h =
    let x : Some (addr_as c.attrs.hop) ≡ chosen_for (held_in paths) (prefix_as p) = chosen_best paths p (Some c) (subst (IsBestHeld paths None p) e b) in
    ap (λ n. (prefix_as p, n) ∷ []) h ∙ sym (one_in f hops paths p (Some (addr_as c.attrs.hop)) x ∙ here)
  where
    here : of_one f hops p (Some (addr_as c.attrs.hop)) ≡ (prefix_as p, number_in hops (addr_as c.attrs.hop)) ∷ []
    here = ap (λ b. cond b ((prefix_as p, number_in hops (addr_as c.attrs.hop)) ∷ []) []) own

-- ---- row by row

row_step : (rows : List Row) (n : ℕ) (p : code.Prefix) → Some p ≡ prefix_or (slice_get rows n) → rows_from n rows ≡ p ∷ rows_from (suc n) rows
row_step [] n p e = cc
row_step (r ∷ rows) zero p e = ap (λ q. q ∷ row_prefixes rows) (sym (same p r.prefix e))
  where
    same : (v w : code.Prefix) → Some v ≡ Some w → v ≡ w
    same v w i = cc
row_step (r ∷ rows) (suc n) p e = row_step rows n p e

pub row_left : (f : Family) (hops : List Address) (paths : Paths) (rows : List Row) (n : ℕ) (p : code.Prefix) (here : Entries) → Some p ≡ prefix_or (slice_get rows n) → here ≡ family_entries_at f hops paths (p ∷ []) → family_entries_at f hops paths (rows_from n rows) ≡ here ++ family_entries_at f hops paths (rows_from (n + 1) rows)
row_left f hops paths rows n p here e h =
    ap (family_entries_at f hops paths) (row_step rows n p e)
    ∙ (family_more f hops paths p (rows_from (suc n) rows)
    ∙ (ap (λ xs. xs ++ family_entries_at f hops paths (rows_from (suc n) rows)) (sym h) ∙ ap (λ m. here ++ family_entries_at f hops paths (rows_from m rows)) (next n)))
  where
    next : (n : ℕ) → suc n ≡ n + 1
    next n = omega arith

pub rows_end : (rows : List Row) (n : ℕ) → length rows ≤ n → rows_from n rows ≡ []
rows_end [] zero l = refl
rows_end [] (suc n) l = refl
rows_end (r ∷ rows) zero l = absurd (omega (arith, l))
rows_end (r ∷ rows) (suc n) l = rows_end rows n (omega (arith, l))

pub none_listed : (o : Option Entry) → is_some o ≡ false → [] ≡ option_to_list (option_map entry_as o)
none_listed None e = refl
none_listed (Some x) e = cc
