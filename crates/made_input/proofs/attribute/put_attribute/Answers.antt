use Rattle.std.proofs.Common.{rules, append_assoc}
use Rattle.std.proofs.lemmas.Result.{IfOk-equal}
use Rattle.wire_model.specs.Octets.{attribute_octets}
use Rattle.made_input.proofs.attribute.put_attribute.Goals as goal

pub returns : goal.returns
unfolding attribute_octets
returns c = search (rules, IfOk-equal, append_assoc)
