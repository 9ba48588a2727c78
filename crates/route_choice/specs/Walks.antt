-- What walks over path keys and ranks find.
use Rattle.std.specs.Prelude.{◌≡◌, ◌==◌, ◌&&◌, ◌||◌, nat_lt, ℕ, List, [], ◌∷◌, Bool, true, Option, Some, None, map, filter, flat_map, drop, slice_get, if◌then◌else◌}
use Rattle.std.specs.List.{AllByRecursion, list_any}
use Rattle.std.specs.BTreeMap.{is_at}
use Rattle.table_model.specs.Address.{Address, Prefix, same_family, same_prefix}
use Rattle.table_model.specs.declared.family.Family.{Family}
use Rattle.table_model.specs.Entries.{Entries}
use Rattle.kept_model.specs.Feed.{number_in}
use Rattle.fib_addr.specs.Views.{prefix_as}
use Rattle.route_model.specs.Choice as model
use Rattle.route_model.specs.Choice.{Place, Candidates, chosen_for}
use Rattle.adj_rib_in.specs.declared.rows.Row.{Row}
use Rattle.adj_rib_in.specs.Paths.{held_in}
use Rattle.adj_rib_in.specs.Bests.{is_excluded, candidate_as}
use Rattle.adj_rib_in.specs.Ways.{Ways}
use Rattle.std.specs.Ordering.{is_eq, is_lt}
use Rattle.fib_addr.specs.Order.{code_cmp}
use Rattle.fib_addr.specs.declared.addr.Addr.{Addr}
use Rattle.fib_addr.specs.declared.prefix.Prefix as code
use Rattle.fib_prefix.specs.declared.event.Peer.{Peer}
use Rattle.fib_prefix.specs.declared.event.Via.{Via}
use Rattle.fib_prefix.specs.declared.event.Elem.{Elem}
use Rattle.fib_prefix.specs.declared.event.Elem.TheVariants.{Cut}
use Rattle.adj_rib_in.specs.declared.keys.PathKey.{PathKey}
use Rattle.adj_rib_in.specs.declared.keys.Rank.{Rank}
use Rattle.adj_rib_in.specs.declared.keys.PathAttrs.{PathAttrs}
use Rattle.adj_rib_in.specs.declared.keys.Candidate.{Candidate}
use Rattle.fib_prefix.specs.Order.{code_peer_cmp, code_via_cmp}
use Rattle.adj_rib_in.specs.Paths.{Paths, attrs_at, key_of}

-- the ranks of a prefix, and the path keys of a peer
abbrev pub ranks_of : code.Prefix → List Rank → List Rank
ranks_of p ranks = filter (λ r. is_eq (code_cmp p r.prefix)) ranks

abbrev pub paths_of : Peer → Paths → Paths
paths_of q paths = filter (λ e. is_eq (code_peer_cmp q e.0.via.peer)) paths

-- the offer, if it has this path
abbrev pub attrs_with_path : ℕ → Option PathAttrs → Option PathAttrs
attrs_with_path path None = None
attrs_with_path path (Some attrs) = if attrs.path == path then Some attrs else None

-- the offer of a rank
abbrev pub attrs_ranked : Paths → Rank → Option PathAttrs
attrs_ranked paths r = attrs_with_path r.path (attrs_at paths (key_of r))

-- the candidate of the first of these ranks that has an offer, that of a path source left out
abbrev pub or_next : Via → Option PathAttrs → Option Candidate → Option Candidate
or_next v None next = next
or_next v (Some attrs) next = Some (record { via = v; attrs = attrs })

unfoldable pub first_in : Paths → Option Via → List Rank → Option Candidate
first_in paths but [] = None
first_in paths but (r ∷ ranks) = if is_excluded but r.via then first_in paths but ranks else or_next r.via (attrs_ranked paths r) (first_in paths but ranks)

-- the hop of the better of the offer that comes from a path source and another candidate
abbrev pub better_of : Via → Option PathAttrs → Option Candidate → Option Addr
better_of v None None = None
better_of v None (Some other) = Some other.attrs.hop
better_of v (Some attrs) None = Some attrs.hop
better_of v (Some attrs) (Some other) = if nat_lt attrs.path other.attrs.path || (attrs.path == other.attrs.path && is_lt (code_via_cmp v other.via)) then Some attrs.hop else Some other.attrs.hop

-- a cut at a path key
abbrev pub key_cut : PathKey → Elem
key_cut s = Cut s.via s.prefix

-- a cut for each of these path keys where something is offered
abbrev pub cut_or : PathKey → Option PathAttrs → List Elem → List Elem
cut_or s None cuts = cuts
cut_or s (Some attrs) cuts = Cut s.via s.prefix ∷ cuts

unfoldable pub cuts_in : Paths → List Elem
cuts_in [] = []
cuts_in (e ∷ paths) = cut_or e.0 e.1 (cuts_in paths)

-- the routes of these prefixes, each that has one, in their order
abbrev pub route_or : Prefix → Option Address → List (Prefix × Address) → List (Prefix × Address)
route_or p None routes = routes
route_or p (Some hop) routes = (p, hop) ∷ routes

unfoldable pub routes_at : Paths → List code.Prefix → List (Prefix × Address)
routes_at paths [] = []
routes_at paths (p ∷ ps) = route_or (prefix_as p) (chosen_for (held_in paths) (prefix_as p)) (routes_at paths ps)

-- the same with the numbers of hops
abbrev pub with_hop_number : List Address → Prefix × Address → Prefix × ℕ
with_hop_number hops r = (r.0, number_in hops r.1)

abbrev pub entries_at : List Address → Paths → List code.Prefix → Entries
entries_at hops paths ps = map (with_hop_number hops) (routes_at paths ps)

-- those of them that are of the family
abbrev pub family_entries_at : Family → List Address → Paths → List code.Prefix → Entries
family_entries_at f hops paths ps = filter (λ e. same_family f e.0.family) (entries_at hops paths ps)

-- nothing is offered at any path key
abbrev pub OffersNothing : Paths → Type 0
OffersNothing paths = (s : PathKey) (attrs : PathAttrs) → attrs_at paths s ≡ Some attrs → ⊥

-- whether a prefix is among these, and whether those of all rows and ranks are
abbrev pub has_prefix : List code.Prefix → code.Prefix → Bool
has_prefix ps p = list_any (is_at (code_cmp p)) ps

abbrev pub HasRows : List Row → List code.Prefix → Type 0
HasRows rows ps = (i : ℕ) (row : Row) → slice_get rows i ≡ Some row → has_prefix ps row.prefix ≡ true

abbrev pub HasRanks : List Rank → List code.Prefix → Type 0
HasRanks ranks ps = AllByRecursion (λ r. has_prefix ps r.prefix ≡ true) ranks

-- the prefixes of rows, and those of ranks
abbrev pub row_prefixes : List Row → List code.Prefix
row_prefixes rows = map (λ (r : Row). r.prefix) rows

-- the prefixes of the rows from a place on
abbrev pub rows_from : ℕ → List Row → List code.Prefix
rows_from n rows = drop n (row_prefixes rows)

abbrev pub rank_prefixes : List Rank → List code.Prefix
rank_prefixes ranks = map (λ (r : Rank). r.prefix) ranks

-- the candidates of a prefix, and those of these prefixes, in their order
abbrev pub held_at : Paths → code.Prefix → Candidates
held_at paths p = filter (λ c. same_prefix c.0.prefix (prefix_as p)) (held_in paths)

unfoldable pub held_for : Paths → List code.Prefix → Candidates
held_for paths ps = flat_map (held_at paths) ps

-- what comes from path sources for a prefix, as candidates
abbrev pub by_way : code.Prefix → Via × PathAttrs → Place × model.PathAttrs
by_way p e = candidate_as (prefix_as p) (record { via = e.0; attrs = e.1 })

abbrev pub by_ways : code.Prefix → Ways → Candidates
by_ways p ways = map (by_way p) ways
