-- What a clause sees of packed entries.
use Rattle.std.specs.Prelude.{ℕ, ◌+◌, ◌*◌, ◌^◌, take}
use Rattle.table_model.specs.Bits.{bits_of}
use Rattle.table_model.specs.Width.{width}
use Rattle.table_model.specs.Address.{Prefix}
use Rattle.ortc.specs.declared.packed.PackedEntry.{PackedEntry}

-- its prefix: the first len of its bits
abbrev pub packed_entry_prefix : PackedEntry → Prefix
packed_entry_prefix e = record { family = e.family; bits = take e.len (bits_of (width e.family) (e.high * 2 ^ 64 + e.low)) }

-- the entry that it packs: its prefix and its hop's number
abbrev pub packed_entry_as : PackedEntry → Prefix × ℕ
packed_entry_as e = (packed_entry_prefix e, e.hop)
