-- Several tables that are compared with the first.
use Rattle.std.specs.Prelude.{◌≡◌, ◌≢◌, ℕ, ◌+◌, List, [], ◌∷◌, ◌++◌, length, Option, Some, None, option_map}
use Rattle.std.specs.List.{AllByRecursion}
use Rattle.std.specs.Option.{option_or}
use Rattle.std.specs.Ordering.{match_ordering}
use Rattle.std.specs.declared.cmp.Ordering.TheVariants.{Less}
use Rattle.table_model.specs.Address.{Address, IsAddress}
use Rattle.table_model.specs.Width.{width}
use Rattle.table_model.specs.declared.family.Family.{Family}
use Rattle.table_model.specs.declared.family.Family.TheVariants.{V4, V6}
use Rattle.table_model.specs.Entries.{Entries, match_in, of_family, AlikeInBoth}
use Rattle.table_model.specs.Sets.{answers}
use Rattle.cert_model.specs.Verdict.{address_cmp, least_differing, IsLeastDiffering}

-- a table that differs from the first, by its number among the others, from 0, and an address at which it does
pub record Difference : Type 0 where
  pub text : ℕ
  pub addr : Address

-- of two, the one at the lesser address; the first if that is the same
abbrev pub lesser : Option Difference → Option Difference → Option Difference
lesser None next = next
lesser (Some x) None = Some x
lesser (Some x) (Some y) = match_ordering (address_cmp y.addr x.addr) (Some y) (Some x) (Some x)

-- the least address at which a table, which has this number, differs from the first, if it does anywhere
abbrev pub IsDifferenceOf : Entries → ℕ → Entries → Option Difference → Type 0
IsDifferenceOf first n t None = AlikeInBoth first t
IsDifferenceOf first n t (Some x) = (x.text ≡ n) × IsLeastDiffering first t x.addr

-- the least address of a family that gets different answers from two tables, if there is one
abbrev pub differing_in : Entries → Entries → Family → Option Address
differing_in L M f = option_map (λ a. record { family = f; bits = a }) (least_differing (width f) (answers (of_family f L) []) (answers (of_family f M) []))

-- the least address of both, IPv4 before IPv6
abbrev pub differing : Entries → Entries → Option Address
differing L M = option_or (differing_in L M V4) (differing_in L M V6)

-- where a table, which has this number, first differs from the first, if it does
abbrev pub difference_at : Entries → ℕ → Entries → Option Difference
difference_at first n t = option_map (λ a. record { text = n; addr = a }) (differing first t)

-- the least of this difference and of those of tables that are numbered from n
abbrev pub least_after : Entries → Option Difference → ℕ → List Entries → Option Difference
least_after first best n [] = best
least_after first best n (t ∷ others) = least_after first (lesser best (difference_at first n t)) (n + 1) others

-- the least difference of tables from the first, if one differs from it anywhere
abbrev pub least_difference : Entries → List Entries → Option Difference
least_difference first others = least_after first None 0 others

-- all tables answer as the first at every address before this one
abbrev pub SameBefore : Entries → Address → Entries → Type 0
SameBefore first a t = (b : Address) → IsAddress b → address_cmp b a ≡ Less → match_in first b ≡ match_in t b

-- The least address at which a table differs from the first, and the first table that does there.
pub record IsLeastDifference (first : Entries) (others : List Entries) (x : Difference) : Type 0 where
  pub before : List Entries
  pub other : Entries
  pub after : List Entries
  pub split : others ≡ before ++ other ∷ after
  pub number : x.text ≡ length before
  pub address : IsAddress x.addr
  pub differ : match_in first x.addr ≢ match_in other x.addr
  pub earlier : AllByRecursion (λ t. match_in first x.addr ≡ match_in t x.addr) before
  pub least : AllByRecursion (SameBefore first x.addr) others

-- what comparing all of them comes to: none differs from the first, or the least difference
abbrev pub ComparesTo : Entries → List Entries → Option Difference → Type 0
ComparesTo first others None = AllByRecursion (AlikeInBoth first) others
ComparesTo first others (Some x) = IsLeastDifference first others x

-- it holds of every two tables
abbrev pub EveryTwo : (Entries → Entries → Type 0) → List Entries → Type 0
EveryTwo P tables = AllByRecursion (λ t. AllByRecursion (P t) tables) tables
