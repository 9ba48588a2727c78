use Rattle.std.proofs.Common.{◌/◌}
use Rattle.std.proofs.lemmas.List.FromFn.{length-map-range_with_len}
use Rattle.wire_model.proofs.Told.{read_events}
use Rattle.made_input.specs.Files.{dump_octets, updates_octets}
use Rattle.made_input.proofs.MadeReading.{dump_read, updates_read}
use Rattle.made_input.proofs.made_laws.events_law.Goals as goal

pub returns : goal.returns
returns c = record {
  dump_many = λ seed n. length-map-range_with_len _ 0 n;
  updates_many = λ seed n. length-map-range_with_len _ 0 (n / 2);
  dump = λ seed n. read_events (dump_octets seed n) _ (dump_read seed n);
  updates = λ seed n. read_events (updates_octets seed n) _ (updates_read seed n);
}
