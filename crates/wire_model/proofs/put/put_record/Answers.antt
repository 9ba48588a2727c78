use Rattle.std.proofs.Common.{rules, append_assoc}
use Rattle.std.proofs.lemmas.Result.{IfOk-equal}
use Rattle.wire_model.specs.Octets.{record_octets}
use Rattle.wire_model.proofs.put.put_record.Goals as goal

pub returns : goal.returns
unfolding record_octets
returns c = search (rules, IfOk-equal, append_assoc)
