-- How far changes reach.
use Rattle.std.specs.Prelude.{◌≡◌, List, true}
use Rattle.std.specs.List.{AllByRecursion}
use Rattle.table_model.specs.Address.{Prefix}
use Rattle.table_model.specs.Halves.{is_within}
use Rattle.table_model.specs.Changes.{Change}
use Rattle.kept_model.specs.Between.{place_of}

-- the changes are at prefixes within p
abbrev pub AreWithin : Prefix → List Change → Type 0
AreWithin p cs = AllByRecursion (λ c. is_within (place_of c) p ≡ true) cs
