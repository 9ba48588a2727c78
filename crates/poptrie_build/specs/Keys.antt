-- The bits of an address as a number.
use Rattle.std.specs.Prelude.{ℕ, ◌-◌, ◌*◌, ◌%◌, ◌^◌, ◌<◌}
use Rattle.std.proofs.lemmas.Nat.{mod_below, pow_pos}
use Rattle.table_model.specs.Width.{width}
use Rattle.fib_addr.specs.declared.addr.Addr.{Addr}

-- as the first of 128, the most significant first
abbrev pub key_as : Addr → ℕ
key_as a = a.bits * 2 ^ (128 - width a.family) % 2 ^ 128

-- a number of w bits as the first of 128
abbrev pub widened : ℕ → ℕ → ℕ
widened w bits = bits * 2 ^ (128 - w) % 2 ^ 128

pub widened_fits : (w key : ℕ) → widened w key < 2 ^ 128
widened_fits w key = mod_below (key * 2 ^ (128 - w)) (2 ^ 128) (pow_pos 128)
