-- The tries of both families.
use Rattle.std.specs.Prelude.{◌≡◌, ℕ}
use Rattle.table_model.specs.declared.family.Family.{Family}
use Rattle.table_model.specs.declared.family.Family.TheVariants.{V4, V6}
use Rattle.table_model.specs.Entries.{Entries, of_family}
use Rattle.poptrie_build.specs.Tries.{Shown, StandsFor}

-- how many bits of an address both look up directly, and the routes of IPv4 and of IPv6 that they stand for
pub record TwoTries : Type 0 where
  pub direct : ℕ
  pub v4 : Entries
  pub v6 : Entries

-- a family's trie stands for the routes
pub record IsFilled (f : Family) (s : ℕ) (R : Entries) (t : Shown) : Type 0 where
  pub family : t.family ≡ f
  pub direct : t.direct_bits ≡ s
  pub stands : StandsFor t R

-- they have s direct bits, and in each family they stand for the routes of a table of both
pub record AreTriesOf (s : ℕ) (E : Entries) (t : TwoTries) : Type 0 where
  pub direct : t.direct ≡ s
  pub v4 : of_family V4 t.v4 ≡ of_family V4 E
  pub v6 : of_family V6 t.v6 ≡ of_family V6 E
