-- Changes in an order in which no packet goes astray: while a router makes them one by one, each address gets its old answer or
-- its new one, and once it has the new one it keeps it.
use Rattle.std.specs.Prelude.{◌≡◌, ℕ, zero, suc, ◌⊎◌, ◌&&◌, List, ◌++◌, Bool, false, Some, length, nat_eq}
use Rattle.std.specs.List.{filter}
use Rattle.table_model.specs.Width.{width}
use Rattle.table_model.specs.Address.{Address, Prefix, IsAddress, same_family}
use Rattle.table_model.specs.declared.family.Family.{Family}
use Rattle.table_model.specs.declared.family.Family.TheVariants.{V4, V6}
use Rattle.table_model.specs.Entries.{Entries, match_in}
use Rattle.table_model.specs.Changes.{Change, Add, Replace, Remove, after_changes}

-- ---- the order

-- whether the prefix is of the family and has n bits
abbrev pub has_length : Family → ℕ → Prefix → Bool
has_length f n p = same_family f p.family && nat_eq (length p.bits) n

-- whether the change sets the entry of such a prefix
abbrev pub sets : Family → ℕ → Change → Bool
sets f n (Add p h) = has_length f n p
sets f n (Replace p h) = has_length f n p
sets f n (Remove p) = false

-- whether it removes the entry of such a prefix
abbrev pub removes : Family → ℕ → Change → Bool
removes f n (Add p h) = false
removes f n (Replace p h) = false
removes f n (Remove p) = has_length f n p

-- what passes the test of each length, from n bits down to none; what is of one length as it stands
abbrev pub longest_first : (ℕ → Change → Bool) → ℕ → List Change → List Change
longest_first test zero cs = filter (test 0) cs
longest_first test (suc n) cs = filter (test (suc n)) cs ++ longest_first test n cs

-- the same from none up to n bits
abbrev pub shortest_first : (ℕ → Change → Bool) → ℕ → List Change → List Change
shortest_first test zero cs = filter (test 0) cs
shortest_first test (suc n) cs = shortest_first test n cs ++ filter (test (suc n)) cs

-- a family's changes: what sets an entry, from the longest prefix to the shortest, then what removes one, from the shortest to
-- the longest
unfoldable pub steady_of : Family → List Change → List Change
steady_of f cs = longest_first (sets f) (width f) cs ++ shortest_first (removes f) (width f) cs

-- those of IPv4, then those of IPv6
unfoldable pub in_steady_order : List Change → List Change
in_steady_order cs = steady_of V4 cs ++ steady_of V6 cs

-- ---- what it is for

-- While the changes are made one by one from T on, no packet goes astray: R answers as before them, S as after them.
pub record AnswerSteadily (cs : List Change) (T R S : Entries) : Type 0 where
  -- after the first ones, however many, each address has the answer of R or that of S
  pub either : (done left : List Change) (M : Entries) (a : Address) → cs ≡ done ++ left → after_changes done T ≡ Some M → IsAddress a → (match_in M a ≡ match_in R a) ⊎ (match_in M a ≡ match_in S a)
  -- and one that has the answer of S keeps it
  pub stays : (done more left : List Change) (M N : Entries) (a : Address) → cs ≡ done ++ (more ++ left) → after_changes done T ≡ Some M → after_changes (done ++ more) T ≡ Some N → IsAddress a → match_in M a ≡ match_in S a → match_in N a ≡ match_in S a

-- each of the changes is possible in its turn, they lead from T to U, and no packet goes astray
pub record LeadSteadily (cs : List Change) (T U : Entries) : Type 0 where
  pub sum : after_changes cs T ≡ Some U
  pub answers : AnswerSteadily cs T T U
