-- What a clause sees of addresses, prefixes and entries: their bits, without what their types keep.
use Rattle.std.specs.Prelude.{ℕ, take}
use Rattle.table_model.specs.Bits.{bits_of}
use Rattle.table_model.specs.Width.{width}
use Rattle.table_model.specs.Address.{Address, Prefix}
use Rattle.fib_addr.specs.declared.addr.Addr as code_addr
use Rattle.fib_addr.specs.declared.prefix.Prefix as code_prefix
use Rattle.fib_addr.specs.declared.entry.Entry as code_entry

-- the address: as many bits as its family has
abbrev pub addr_as : code_addr.Addr → Address
addr_as a = record { family = a.family; bits = bits_of (width a.family) a.bits }

-- the prefix: the first len of these bits
abbrev pub prefix_as : code_prefix.Prefix → Prefix
prefix_as p = record { family = p.family; bits = take p.len (bits_of (width p.family) p.bits) }

-- the entry: its prefix and its hop's number
abbrev pub entry_as : code_entry.Entry → Prefix × ℕ
entry_as e = (prefix_as e.prefix, e.hop.0)

-- a route: its prefix and its next hop
abbrev pub route_as : code_prefix.Prefix × code_addr.Addr → Prefix × Address
route_as r = (prefix_as r.0, addr_as r.1)
