-- What holds of what a run prints.
use Rattle.std.specs.Prelude.{◌≡◌, ◌≤◌, Some, Result, ℕ, List, length}
use Rattle.std.specs.List.{AllByRecursion, IsDistinct}
use Rattle.std.specs.List.Sorted.{IsStrictlySortedBy}
use Rattle.std.specs.Map.{keys_of}
use Rattle.table_model.specs.Address.{Address, Prefix, same_address}
use Rattle.table_model.specs.Order.{prefix_cmp}
use Rattle.table_model.specs.Entries.{Entries, match_in, AlikeInBoth}
use Rattle.table_model.specs.Changes.{Change, Add, Replace, Remove, sum_of}
use Rattle.table_model.specs.Both.{LeastInBoth, AggregateInBoth}
use Rattle.cert_model.specs.Right.{IsCertificate}
use Rattle.cert_model.specs.Rows.{CertRow, leaf_row, join_row, bound_row}
use Rattle.printed_text.specs.Numbered.{HaveHops}
use Rattle.kept_model.specs.Feed.{changes_in}
use Rattle.poptrie_build.specs.Tries.{visits_of}
use Rattle.fib_report.specs.Views.{Answer, Told}
use Rattle.fib_due.specs.Stops.{Stop}
use Rattle.fib_due.specs.Due.{Output, Printed}
use Rattle.fib_due.specs.Proves.{IfRan}

-- if a run is due, this holds of what is reported
abbrev pub IfDue : Result Output Stop → (Told → Type 0) → Type 0
IfDue output P = IfRan output (λ p. P p.told)

-- the sum of the changes, begun at the empty table, is the table
abbrev pub SumsUp : Told → Type 0
SumsUp told = sum_of (changes_in told.changes) ≡ Some told.table

-- the table sends every address where the routes send it
abbrev pub Forwards : Told → Type 0
Forwards told = AlikeInBoth told.table told.routes

-- Each answer is the longest match among the routes, and its visits are as many as the address's regions of s, s + 6, s + 12, .. bits that hold two different answers, s being the direct bits.
abbrev pub Answers : Printed → Type 0
Answers p = AllByRecursion (λ (a : Answer). (a.hop ≡ match_in p.told.routes a.addr) × (a.visits ≡ visits_of p.limits.sizes.direct p.told.routes a.addr)) p.told.answers

-- The least table sends every address where the routes send it, and in either family no table that does so has fewer entries, drop entries counted.
abbrev pub HasLeast : Told → Type 0
HasLeast told = LeastInBoth told.routes told.least

-- In either family the least table is the aggregate of the whole space: at each prefix it has an entry exactly if what is inherited there is no best hop, and the entry's hop is best: the table's own there if that is best, else the least.
abbrev pub HasAggregate : Told → Type 0
HasAggregate told = AggregateInBoth told.routes told.table told.least

-- The rows of the certificate prove the least table least for the routes, to whoever trusts the rules of certificates alone.
abbrev pub Certified : Told → Type 0
Certified told = IsCertificate told.routes told.least told.cert

-- the entries stand in the order of prefixes, each prefix once
abbrev pub InPrefixOrder : Entries → Type 0
InPrefixOrder L = IsStrictlySortedBy prefix_cmp (keys_of L)

-- the routes, the table and the least table do
pub record IsInOrder (told : Told) : Type 0 where
  pub routes : InPrefixOrder told.routes
  pub table : InPrefixOrder told.table
  pub least : InPrefixOrder told.least

-- ---- what is printed has its addresses

-- the number is 0, or the place of one of the hops, counted from 1
abbrev pub NumbersHop : List Address → ℕ → Type 0
NumbersHop hops n = n ≤ length hops

abbrev pub ChangeHasHop : List Address → Change → Type 0
ChangeHasHop hops (Add p n) = NumbersHop hops n
ChangeHasHop hops (Replace p n) = NumbersHop hops n
ChangeHasHop hops (Remove p) = Unit {0}

abbrev pub RowHasHop : List Address → CertRow → Type 0
RowHasHop hops (leaf_row p n) = NumbersHop hops n
RowHasHop hops (join_row p k) = Unit {0}
RowHasHop hops (bound_row f n) = Unit {0}

abbrev pub EntryHasHop : List Address → Prefix × ℕ → Type 0
EntryHasHop hops e = NumbersHop hops e.1

-- No two hops are one, so different numbers have different addresses. Each route has a hop, and so has its row; every other number that is printed is 0 or has a hop.
pub record HasHops (p : Printed) : Type 0 where
  pub distinct : IsDistinct same_address p.hops
  pub routes : HaveHops p.hops p.told.routes
  pub changes : AllByRecursion (λ (c : ℕ × Change). ChangeHasHop p.hops c.1) p.told.changes
  pub answers : AllByRecursion (λ (a : Answer). NumbersHop p.hops a.hop) p.told.answers
  pub table : AllByRecursion (EntryHasHop p.hops) p.told.table
  pub least : AllByRecursion (EntryHasHop p.hops) p.told.least
  pub cert : AllByRecursion (RowHasHop p.hops) p.told.cert
