-- What a reader returned is what the definition gives, unless memory ran out.
use Rattle.std.specs.Prelude.{◌≡◌, ℕ, List, drop, Result, Ok, Err}
use Rattle.fib_addr.specs.declared.prefix.Prefix as code
use Rattle.fib_addr.specs.Views.{prefix_as}
use Rattle.table_model.specs.Address.{Prefix}
use Rattle.wire_model.specs.Wire.{Nlri}
use Rattle.bgp_attrs.specs.declared.wire_prefix.Nlri as code_nlri
use Rattle.bgp_attrs.specs.declared.refusal.Refusal.{Refusal}
use Rattle.wire_model.specs.declared.rule.Rule.{Rule}
use Rattle.wire_model.specs.declared.rule.Rule.TheVariants.{PrefixLength}
use Rattle.bgp_attrs.specs.declared.refusal.Refusal.TheVariants.{NoMemory, Rule as Broken}
use Rattle.bgp_attrs.specs.declared.wire_prefix.WireFault.{WireFault}
use Rattle.bgp_attrs.specs.declared.wire_prefix.WireFault.TheVariants.{Cut, TooLong}

-- the refusal is the definition's; running out of memory says nothing
abbrev pub Refuses : {Y : Type 0} → Refusal → Result Y Rule → Type 0
Refuses NoMemory read = Unit {0}
Refuses (Broken rule) read = read ≡ Err rule

-- a reader that takes memory
abbrev pub GivesInMemory : {X Y : Type 0} → (X → Y) → Result X Refusal → Result Y Rule → Type 0
GivesInMemory view (Ok x) read = read ≡ Ok (view x)
GivesInMemory view (Err refusal) read = Refuses refusal read

abbrev pub rule_of : Rule → WireFault → Rule
rule_of cut Cut = cut
rule_of cut TooLong = PrefixLength

abbrev pub nlri_as : code_nlri.Nlri → Nlri
nlri_as n = record { prefix = prefix_as n.prefix; id = n.id }

-- a prefix and how many octets it takes; a cut breaks this rule
abbrev pub GivesPrefix : Rule → List ℕ → Result (code.Prefix × ℕ) WireFault → Result (Prefix × List ℕ) Rule → Type 0
GivesPrefix cut octets (Ok x) read = read ≡ Ok (prefix_as x.0, drop x.1 octets)
GivesPrefix cut octets (Err fault) read = read ≡ Err (rule_of cut fault)

-- an identifier, a prefix and how many octets both take; a cut breaks this rule
abbrev pub GivesNlri : Rule → List ℕ → Result (ℕ × code.Prefix × ℕ) WireFault → Result (Nlri × List ℕ) Rule → Type 0
GivesNlri cut octets (Ok (id, prefix, taken)) read = read ≡ Ok (record { prefix = prefix_as prefix; id = id }, drop taken octets)
GivesNlri cut octets (Err fault) read = read ≡ Err (rule_of cut fault)

-- a walk that keeps no value: there is one, or the rule is the definition's
abbrev pub Passes : {X Y : Type 0} → Result X Rule → Result Y Rule → Type 0
Passes {Y = Y} (Ok x) read = (y : Y) × (read ≡ Ok y)
Passes (Err rule) read = read ≡ Err rule
