-- Repairs and snapshots of a kept table, one that answers as the routes and is made least again now and then (after Uzmi and
-- others, 'SMALTA: Practical and Near-Optimal FIB Aggregation', CoNEXT 2011; the rule of repair is our own). Its parts are
-- the aggregates of `table_model` (Draves and others, 'Constructing Optimal IP Routing Tables', INFOCOM 1999, section 3).
-- R are the routes, T is the kept table; both hold entries of both families.
use Rattle.std.specs.Prelude.{◌≡◌, ℕ, zero, suc, ◌++◌, Bool, true, false, not, Option, Some, None}
use Rattle.std.specs.List.{filter, AllByRecursion}
use Rattle.std.specs.List.Sorted.{IsStrictlySortedBy}
use Rattle.std.specs.Map.{keys_of, remove_entry}
use Rattle.table_model.specs.Address.{Prefix, IsPrefix, same_prefix}
use Rattle.table_model.specs.Order.{prefix_cmp}
use Rattle.table_model.specs.declared.family.Family.TheVariants.{V4, V6}
use Rattle.table_model.specs.Width.{width}
use Rattle.table_model.specs.Entries.{Entries, of_family, of_table, with_entry, in_order}
use Rattle.table_model.specs.Regions.{above}
use Rattle.table_model.specs.Least.{aggregate}
use Rattle.table_model.specs.Both.{aggregate_in}
use Rattle.table_model.specs.declared.family.Family.{Family}
use Rattle.table_model.specs.Halves.{is_within}

-- the entries within p, p's own among them
abbrev pub entries_within : Prefix → Entries → Entries
entries_within p T = filter (λ e. is_within e.0 p) T

-- the entries that aren't within p
abbrev pub entries_outside : Prefix → Entries → Entries
entries_outside p T = filter (λ e. not (is_within e.0 p)) T

-- the aggregate of p's region for the routes: it inherits the hop of T's longest entry strictly above p, and T is its old table
abbrev pub region_aggregate : Entries → Prefix → Entries → Entries
region_aggregate R p T = of_table p.family (aggregate (width p.family) (of_family p.family R) p.bits (above p.bits (of_family p.family T) 0) (of_family p.family T))

-- the patch at p: T with its entries within p replaced by that aggregate, and every other entry as it was
unfoldable pub patch_of : Entries → Prefix → Entries → Entries
patch_of R p T = in_order (entries_outside p T ++ region_aggregate R p T)

-- the routes with this hop at p; hop 0 takes the route away
abbrev pub with_route : Prefix → ℕ → Entries → Entries
with_route p zero R = remove_entry (same_prefix p) R
with_route p (suc h) R = with_entry R (p, suc h)

-- the table after the repair at this prefix, if there is one
abbrev pub after_repair : Entries → Option Prefix → Entries → Entries
after_repair R None T = T
after_repair R (Some p) T = patch_of R p T

-- a family's table after a snapshot, if there is one: the aggregate of the whole space with T as the old table
abbrev pub after_snapshot : Family → Entries → Bool → Entries → Entries
after_snapshot f R false T = T
after_snapshot f R true T = aggregate_in f R T

-- tables in order, the first of IPv4 and the second of IPv6
pub record IsPair (A B : Entries) : Type 0 where
  pub first : AllByRecursion IsPrefix (keys_of A) × IsStrictlySortedBy prefix_cmp (keys_of A)
  pub second : AllByRecursion IsPrefix (keys_of B) × IsStrictlySortedBy prefix_cmp (keys_of B)
  pub v4 : AllByRecursion (λ p. p.family ≡ V4) (keys_of A)
  pub v6 : AllByRecursion (λ p. p.family ≡ V6) (keys_of B)
