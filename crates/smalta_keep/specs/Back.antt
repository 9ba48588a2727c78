-- Changes that take others back.
use Rattle.std.specs.Prelude.{ℕ, Option, Some, None}
use Rattle.table_model.specs.Address.{Prefix}
use Rattle.table_model.specs.Entries.{Entries}
use Rattle.table_model.specs.Changes.{Change, Add, Replace, Remove}
use Rattle.kept_model.specs.Between.{entry_hop_at}

-- the prefix gets this hop in place of another
abbrev pub replaced_again : Prefix → Option ℕ → Change
replaced_again p None = Remove p
replaced_again p (Some h) = Replace p h

-- the prefix gets this hop again
abbrev pub added_again : Prefix → Option ℕ → Change
added_again p None = Remove p
added_again p (Some h) = Add p h

-- what takes a change of T back
abbrev pub taken_back : Entries → Change → Change
taken_back T (Add p h) = Remove p
taken_back T (Replace p h) = replaced_again p (entry_hop_at p T)
taken_back T (Remove p) = added_again p (entry_hop_at p T)
