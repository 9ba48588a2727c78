use Rattle.wire_model.proofs.End.{nlri_ends, path_ends, attributes_end, records_end, input_ends}
use Rattle.wire_model.proofs.reading_laws.end_law.Goals as goal

pub returns : goal.returns
returns c = record { nlri = nlri_ends; path = path_ends; attributes = attributes_end; records = records_end; input = input_ends }
