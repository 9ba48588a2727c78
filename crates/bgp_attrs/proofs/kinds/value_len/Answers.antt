use Rattle.std.proofs.Common.{eq-eqb}
use Rattle.wire_model.specs.declared.rule.Rule.TheVariants.{AttributeCut}
use Rattle.bgp_attrs.proofs.Octets.{number_octet}
use Rattle.bgp_attrs.proofs.kinds.value_len.Goals as goal

pub returns-clause-value : goal.returns-clause-value
returns-clause-value c = rw (eq-eqb _ 0 c.if-flags-ne0.false, c.from.ensures) (number_octet AttributeCut _ _ _ c.in_ok-len.ensures.value)
