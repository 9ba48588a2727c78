-- Where a prefix's place is among entries in order.
use Rattle.std.specs.Prelude.{◌≡◌, ℕ, List, Bool, true, false, ◌&&◌, ◌||◌}
use Rattle.std.specs.List.Sorted.{IsPartitionPoint}
use Rattle.std.specs.Ordering.{is_lt, is_eq}
use Rattle.table_model.specs.Address.{Prefix}
use Rattle.table_model.specs.Order.{prefix_cmp}
use Rattle.fib_addr.specs.Views.{prefix_as}
use Rattle.fib_addr.specs.declared.entry.Entry as code_entry

-- whether q comes before p, or is p, if that counts
abbrev pub stands_before : Prefix → Bool → Prefix → Bool
stands_before p itself q = is_lt (prefix_cmp q p) || (itself && is_eq (prefix_cmp q p))

-- n entries stand before p, or at p if that counts
abbrev pub IsPlaceOf : Prefix → Bool → List code_entry.Entry → ℕ → Type 0
IsPlaceOf p itself es n = IsPartitionPoint (λ (e : code_entry.Entry). stands_before p itself (prefix_as e.prefix) ≡ true) (λ (e : code_entry.Entry). stands_before p itself (prefix_as e.prefix) ≡ false) es n
