use Rattle.std.proofs.Common.{rules, append_assoc}
use Rattle.wire_model.specs.Octets.{number_octets}
use Rattle.wire_model.proofs.put.put_u32.Goals as goal

pub returns : goal.returns
unfolding number_octets
returns c = search (rules, append_assoc)
