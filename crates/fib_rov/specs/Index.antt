-- The index of a list of VRPs: they stand in the order of their prefixes, each with a link to the last before it that encloses it.
use Rattle.std.specs.Prelude.{◌≡◌, ℕ, ◌+◌, ◌-◌, ◌<◌, ◌≤◌, Bool, true, false, not, ◌&&◌, List, [], ◌∷◌, length, get_or, nat_lt, Option, Some, None, if◌then◌else◌}
use Rattle.std.specs.List.Sorted.{IsPermutation, IsPartitionPoint, IsSortedByKey}
use Rattle.std.specs.Ordering.{is_le}
use Rattle.table_model.specs.Address.{Prefix, same_prefix}
use Rattle.table_model.specs.Order.{prefix_cmp}
use Rattle.table_model.specs.Halves.{is_within}
use Rattle.fib_addr.specs.Views.{prefix_as}
use Rattle.fib_addr.specs.declared.prefix.Prefix as code
use Rattle.fib_rov.specs.declared.vrp.Vrp.{Vrp}
use Rattle.fib_rov.specs.declared.numbered.Numbered.{Numbered}

-- ---- VRPs with their numbers

abbrev pub with_number : ℕ → Vrp → Numbered
with_number n v = record { bits = v.prefix.bits; number = n; asn = v.asn; family = v.prefix.family; len = v.prefix.len; maxlen = v.maxlen; fits = v.prefix.fits; below = v.prefix.below; cleared = v.prefix.cleared }

abbrev pub prefix_of : Numbered → code.Prefix
prefix_of r = record { bits = r.bits; family = r.family; len = r.len; fits = r.fits; below = r.below; cleared = r.cleared }

abbrev pub vrp_of : Numbered → Vrp
vrp_of r = record { prefix = prefix_of r; maxlen = r.maxlen; asn = r.asn }

-- the VRPs of a list with their numbers, counted from n
unfoldable pub numbered : ℕ → List Vrp → List Numbered
numbered n [] = []
numbered n (v ∷ list) = with_number n v ∷ numbered (n + 1) list

-- ---- their order

-- in the order of their prefixes
abbrev pub AreSorted : List Numbered → Type 0
AreSorted = IsSortedByKey (λ (r : Numbered). prefix_as (prefix_of r)) prefix_cmp

-- its prefix comes before q in the order of prefixes, or is q
abbrev pub stands_up_to : Prefix → Numbered → Bool
stands_up_to q r = is_le (prefix_cmp (prefix_as (prefix_of r)) q)

-- n stand up to q, and the others after it
abbrev pub IsVrpPlace : Prefix → List Numbered → ℕ → Type 0
IsVrpPlace q = IsPartitionPoint (λ r. stands_up_to q r ≡ true) (λ r. stands_up_to q r ≡ false)

-- the first n stand up to q
pub record AreUpTo (q : Prefix) (sorted : List Numbered) (count : ℕ) : Type 0 where
  pub few : count ≤ length sorted
  pub each : (i : ℕ) (r : Numbered) → i < count → stands_up_to q (get_or sorted i r) ≡ true

-- ---- what covers a prefix

-- its prefix contains q
abbrev pub vrp_covers : Prefix → Numbered → Bool
vrp_covers q r = is_within q (prefix_as (prefix_of r))

-- its prefix contains q, and is another
abbrev pub encloses : Prefix → Numbered → Bool
encloses q r = vrp_covers q r && not (same_prefix (prefix_as (prefix_of r)) q)

-- of the first `count` of a list the last that passes the test is the one of number `at`, counted from 1; if `at` is 0 none passes
pub record IsLast (f : Numbered → Bool) (sorted : List Numbered) (count at : ℕ) : Type 0 where
  pub few : at ≤ count
  pub passes : (r : Numbered) → 0 < at → f (get_or sorted (at - 1) r) ≡ true
  pub none : (i : ℕ) (r : Numbered) → at ≤ i → i < count → f (get_or sorted i r) ≡ false

-- each of the first `count` has a link to the last before it that encloses its prefix
pub record AreLinked (sorted : List Numbered) (count : ℕ) (links : List ℕ) : Type 0 where
  pub many : count ≤ length links
  pub each : (i : ℕ) (r : Numbered) → i < count → IsLast (encloses (prefix_as (prefix_of (get_or sorted i r)))) sorted i (get_or links i 0)

-- ---- the index

pub record IsIndex (list : List Vrp) (sorted : List Numbered) (links : List ℕ) : Type 0 where
  pub same : IsPermutation (numbered 0 list) sorted
  pub ordered : AreSorted sorted
  pub linked : AreLinked sorted (length sorted) links

-- a number below the count is a VRP's; the count itself is none's
abbrev pub place_at : ℕ → ℕ → Option ℕ
place_at number count = if nat_lt number count then Some number else None
