-- Inputs that are longer than what is read of them, and records that are cut there.
use Rattle.std.specs.Prelude.{ℕ, ◌^◌, List, length, Result, Ok, Err, Bool, true, false, ◌&&◌, ◌==◌, nat_le}
use Rattle.wire_model.specs.declared.rule.Rule.{Rule}
use Rattle.wire_model.specs.declared.rule.Rule.TheVariants.{HeaderCut, BodyCut}
use Rattle.wire_model.specs.Record.{Record, Fault, records_in}

-- the octets are few enough for an input: 2^36 at most
abbrev pub is_small : List ℕ → Bool
is_small octets = nat_le (length octets) (2 ^ 36)

-- a record that breaks this rule is cut, in its header or in its body
abbrev pub is_cut_by : Rule → Bool
is_cut_by HeaderCut = true
is_cut_by BodyCut = true
is_cut_by rule = false

-- the record of this number is cut by the end of the octets (RFC 6396, 2)
abbrev pub cut_at : ℕ → Result (List Record) Fault → Bool
cut_at n (Ok records) = false
cut_at n (Err fault) = fault.number == n && is_cut_by fault.rule

abbrev pub is_cut : List ℕ → ℕ → Bool
is_cut octets n = cut_at n (records_in octets)
