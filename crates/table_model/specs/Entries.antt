-- Tables of both families: prefixes with the numbers of their next hops.
use Rattle.std.specs.Prelude.{◌≡◌, ℕ, List, [], ◌∷◌, cond, fold, map}
use Rattle.std.specs.BTreeMap.{insert_entry}
use Rattle.table_model.specs.Address.{Address, Prefix, IsAddress, same_family}
use Rattle.table_model.specs.Order.{prefix_cmp}
use Rattle.table_model.specs.declared.family.Family.{Family}
use Rattle.table_model.specs.Table.{Table, lpm}

-- Entries of both families. A drop entry has hop 0.
abbrev pub Entries : Type 0
Entries = List (Prefix × ℕ)

-- the table of one family: the entries that are of it
abbrev pub of_family : Family → Entries → Table
of_family f [] = []
of_family f (e ∷ L) = cond (same_family f e.0.family) (record { prefix = e.0.bits; hop = e.1 } ∷ of_family f L) (of_family f L)

-- the entries of a family's table
abbrev pub of_table : Family → Table → Entries
of_table f L = map (λ e. (record { family = f; bits = e.prefix }, e.hop)) L

-- longest match: the number of the address's next hop, or 0 for none
abbrev pub match_in : Entries → Address → ℕ
match_in L a = lpm (of_family a.family L) a.bits 0

-- both answer alike at every address of both families
abbrev pub AlikeInBoth : Entries → Entries → Type 0
AlikeInBoth L M = (a : Address) → IsAddress a → match_in L a ≡ match_in M a

-- the entry put in its place in the order of prefixes
abbrev pub with_entry : Entries → Prefix × ℕ → Entries
with_entry L e = insert_entry prefix_cmp L e.0 e.1

-- the entries in the order of prefixes
abbrev pub in_order : Entries → Entries
in_order L = fold with_entry [] L
