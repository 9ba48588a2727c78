-- Whether all addresses of a prefix get one answer from a table, by longest match.
use Rattle.std.specs.Prelude.{◌≡◌, ◌≢◌, ℕ, true}
use Rattle.table_model.specs.Address.{Address, Prefix, IsAddress, contains}
use Rattle.table_model.specs.Entries.{Entries, match_in}

-- every address within the prefix gets the hop
abbrev pub AllGet : Entries → Prefix → ℕ → Type 0
AllGet L p h = (a : Address) → IsAddress a → contains p a ≡ true → match_in L a ≡ h

-- two addresses within the prefix get different hops
pub record TwoDiffer (L : Entries) (p : Prefix) : Type 0 where
  pub one : Address
  pub other : Address
  pub is_one : IsAddress one
  pub is_other : IsAddress other
  pub one_within : contains p one ≡ true
  pub other_within : contains p other ≡ true
  pub differ : match_in L one ≢ match_in L other
