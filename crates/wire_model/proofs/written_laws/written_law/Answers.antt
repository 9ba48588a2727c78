use Rattle.std.proofs.Common.{arith}
use Rattle.wire_model.proofs.Fields.{number_read}
use Rattle.wire_model.proofs.Addresses.{address_read}
use Rattle.wire_model.proofs.Prefixes.{prefix_read}
use Rattle.wire_model.proofs.Attributes.{path_read, path_long}
use Rattle.wire_model.proofs.Records.{record_found}
use Rattle.wire_model.proofs.written_laws.written_law.Goals as goal

pub returns : goal.returns
returns c = record {
  number = number_read;
  address = address_read;
  prefix = prefix_read;
  path = path_read;
  path_length = path_long;
  mrt_record = λ kind subtype body rest k s few. record_found kind subtype body rest (omega arith) (omega arith) few;
}
