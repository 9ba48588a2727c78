-- What a checker answers: the first thing that is wrong, if anything is.
use Rattle.std.specs.Prelude.{◌≡◌, ◌≢◌, ℕ, zero, suc, ◌+◌, ◌-◌, List, [], ◌∷◌, Bool, true, false, ◌&&◌, cond, Option, Some, None, option_map, length, nat_eq, nat_lt}
use Rattle.std.specs.List.{list_any}
use Rattle.std.specs.Map.{keys_of}
use Rattle.std.specs.Option.{option_or}
use Rattle.std.specs.Ordering.{nat_cmp, ordering_then}
use Rattle.std.specs.declared.cmp.Ordering.{Ordering}
use Rattle.std.specs.declared.cmp.Ordering.TheVariants.{Less}
use Rattle.table_model.specs.Bits.{value_of}
use Rattle.table_model.specs.Width.{width}
use Rattle.table_model.specs.Address.{Address, Prefix, IsAddress, IsPrefix, same_family, same_prefix}
use Rattle.table_model.specs.Order.{family_cmp}
use Rattle.table_model.specs.Halves.{half_at}
use Rattle.table_model.specs.declared.family.Family.{Family}
use Rattle.table_model.specs.declared.family.Family.TheVariants.{V4, V6}
use Rattle.table_model.specs.Entries.{Entries, of_family, match_in}
use Rattle.table_model.specs.Sets.{side, answers}
use Rattle.table_model.specs.Least.{bound}
use Rattle.fib_addr.specs.Answers.{one_answer}
use Rattle.cert_model.specs.Rows.{CertRow, leaf_row, join_row, bound_row, whole_prefix}
use Rattle.cert_model.specs.Right.{Item, leaf_item, join_item, joint_k, bound_by}

-- What is wrong. `Twice`: the prefix stands twice in the routes or in the table. `NotSame`: the address gets the first hop
-- from the routes and the second from the table. `Shape`: the row, counted from 1, isn't one that may stand there.
-- `LeafWrong`: some address of the leaf's region gets another hop from the routes. `JoinWrong`: the row says the first number
-- where the second is due. `NotLeast`: the table has as many entries of the family as the first number says,
-- and a least one fewer, the second number.
pub data No : Type 0 where
  Twice : Prefix → No
  NotSame : Address → ℕ → ℕ → No
  Shape : ℕ → No
  LeafWrong : ℕ → No
  JoinWrong : ℕ → ℕ → ℕ → No
  NotLeast : Family → ℕ → ℕ → No

-- ---- the tables

-- the first prefix that stands again later in the list
abbrev pub twice : Entries → Option Prefix
twice [] = None
twice (e ∷ L) = cond (list_any (same_prefix e.0) (keys_of L)) (Some e.0) (twice L)

-- the order of addresses: IPv4 before IPv6, then by their numbers
abbrev pub address_cmp : Address → Address → Ordering
address_cmp a b = ordering_then (family_cmp a.family b.family) (nat_cmp (value_of a.bits) (value_of b.bits))

-- the address gets different answers from the routes and the table, and every lesser address the same from both
pub record IsLeastDiffering (R T : Entries) (a : Address) : Type 0 where
  pub address : IsAddress a
  pub differ : match_in R a ≢ match_in T a
  pub least : (b : Address) → IsAddress b → address_cmp b a ≡ Less → match_in R b ≡ match_in T b

-- the least of the addresses of d bits that get different answers: the lower half's, else the upper half's
unfoldable pub least_differing : ℕ → (List Bool → ℕ) → (List Bool → ℕ) → Option (List Bool)
least_differing zero f g = cond (nat_eq (f []) (g [])) None (Some [])
least_differing (suc d) f g =
    option_or (option_map (λ a. false ∷ a) (least_differing d (side false f) (side false g))) (option_map (λ a. true ∷ a) (least_differing d (side true f) (side true g)))

-- what both tables answer at an address of the family
abbrev pub not_same_at : Entries → Entries → Family → Option (List Bool) → Option No
not_same_at R T f None = None
not_same_at R T f (Some a) = Some (NotSame (record { family = f; bits = a }) (answers (of_family f R) [] a) (answers (of_family f T) [] a))

abbrev pub not_same_in : Entries → Entries → Family → Option No
not_same_in R T f = not_same_at R T f (least_differing (width f) (answers (of_family f R) []) (answers (of_family f T) []))

-- the least address that gets different answers
abbrev pub not_same : Entries → Entries → Option No
not_same R T = option_or (not_same_in R T V4) (not_same_in R T V6)

-- ---- the rows

-- whether this is the one answer
abbrev pub is_answer : ℕ → Option ℕ → Bool
is_answer h None = false
is_answer h (Some g) = nat_eq g h

-- whether every address of the prefix gets the hop
abbrev pub all_get : Entries → Prefix → ℕ → Bool
all_get R p h = is_answer h (one_answer (width p.family - length p.bits) (answers (of_family p.family R) p.bits))

-- the row's prefix is one
abbrev pub RowFits : CertRow → Type 0
RowFits (leaf_row p h) = IsPrefix p
RowFits (join_row p k) = IsPrefix p
RowFits (bound_row f n) = Unit {0}

-- whether these are the halves of the prefix's region
abbrev pub are_halves : Prefix → Item → Item → Bool
are_halves p low high = same_prefix low.prefix (half_at false p) && same_prefix high.prefix (half_at true p)

-- The first row that is wrong. The rows are counted from n, `due` are the families whose bounds are still to come, and st is
-- the stack. Rows that end before the last bound are wrong after their end.
unfoldable pub wrong_row : Entries → List CertRow → List Family → List Item → ℕ → Option No
wrong_row R [] [] st n = None
wrong_row R [] (f ∷ due) st n = Some (Shape n)
wrong_row R (row ∷ rows) [] st n = Some (Shape n)
wrong_row R (leaf_row p h ∷ rows) (f ∷ due) st n = cond (all_get R p h) (wrong_row R rows (f ∷ due) (leaf_item p h ∷ st) (n + 1)) (Some (LeafWrong n))
wrong_row R (join_row p k ∷ rows) (f ∷ due) (high ∷ low ∷ st) n =
    cond (are_halves p low high) (cond (nat_eq k (joint_k low high)) (wrong_row R rows (f ∷ due) (join_item p low high ∷ st) (n + 1)) (Some (JoinWrong n k (joint_k low high)))) (Some (Shape n))
wrong_row R (join_row p k ∷ rows) (f ∷ due) (i ∷ []) n = Some (Shape n)
wrong_row R (join_row p k ∷ rows) (f ∷ due) [] n = Some (Shape n)
wrong_row R (bound_row g m ∷ rows) (f ∷ due) (i ∷ []) n =
    cond (same_family g f && same_prefix i.prefix (whole_prefix f)) (cond (nat_eq m (bound_by i.hops i.k)) (wrong_row R rows due [] (n + 1)) (Some (JoinWrong n m (bound_by i.hops i.k)))) (Some (Shape n))
wrong_row R (bound_row g m ∷ rows) (f ∷ due) (i ∷ j ∷ st) n = Some (Shape n)
wrong_row R (bound_row g m ∷ rows) (f ∷ due) [] n = Some (Shape n)

-- ---- the whole

-- the table has more entries of the family than a least one
abbrev pub too_many_in : Entries → Entries → Family → Option No
too_many_in R T f =
    cond (nat_lt (bound (width f) (of_family f R)) (length (of_family f T))) (Some (NotLeast f (length (of_family f T)) (bound (width f) (of_family f R)))) None

-- The first of these, in this order: a prefix that stands twice in the routes, then in the table; an address whose answers
-- differ; a row that is wrong; a family with too many entries.
abbrev pub verdict : Entries → Entries → List CertRow → Option No
verdict R T rows =
    option_or (option_map Twice (twice R))
    (option_or (option_map Twice (twice T)) (option_or (not_same R T) (option_or (wrong_row R rows (V4 ∷ V6 ∷ []) [] 1) (option_or (too_many_in R T V4) (too_many_in R T V6)))))
