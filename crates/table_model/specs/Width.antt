-- How many bits an address has.
use Rattle.std.specs.Prelude.{ℕ}
use Rattle.table_model.specs.declared.family.Family.{Family}
use Rattle.table_model.specs.declared.family.Family.TheVariants.{V4, V6}

-- 32 for IPv4 (RFC 791), 128 for IPv6 (RFC 4291, 2)
abbrev pub width : Family → ℕ
width V4 = 32
width V6 = 128
