-- The numbers of the rules of reading.
use Rattle.std.specs.Prelude.{ℕ}
use Rattle.wire_model.specs.declared.rule.Rule.{Rule}
use Rattle.wire_model.specs.declared.rule.Rule.TheVariants as rule

abbrev pub rule_number : Rule → ℕ
rule_number rule.HeaderCut = 1
rule_number rule.BodyCut = 2
rule_number rule.TooLong = 3
rule_number rule.PeerTableForm = 4
rule_number rule.NoPeerTable = 5
rule_number rule.PrefixLength = 6
rule_number rule.PeerIndex = 7
rule_number rule.RibForm = 8
rule_number rule.AttributeCut = 9
rule_number rule.AttributeValue = 10
rule_number rule.SecondMp = 11
rule_number rule.SessionForm = 12
rule_number rule.MessageLength = 13
rule_number rule.UpdateLengths = 14
