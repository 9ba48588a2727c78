use Rattle.std.proofs.Common.{refl}
use Rattle.table_model.specs.Bits.{bits_of, value_of, same_bits}
use Rattle.wire_model.specs.Octets.{number_octets, prefix_octets, attribute_octets, as_path_octets, record_octets}
use Rattle.mrt_write.specs.Entries.{table_peer, path_octets, path_attribute, hop_attribute, attributes_of, entry_octets}
use Rattle.mrt_write.specs.Checkpoint.{table_body, piece_body, piece_record, piece_records}
use Rattle.mrt_write.specs.Saved.{peers_with_candidates, has_place, pieces_from, pieces_of}
use Rattle.mrt_write.proofs.saved_laws.examples_law.Goals as goal

pub returns-clause-none : goal.returns-clause-none
unfolding same_bits bits_of value_of number_octets prefix_octets attribute_octets as_path_octets record_octets table_peer path_octets path_attribute hop_attribute attributes_of entry_octets table_body piece_body piece_record piece_records peers_with_candidates has_place pieces_from pieces_of
returns-clause-none c = refl

pub returns-clause-one : goal.returns-clause-one
unfolding same_bits bits_of value_of number_octets prefix_octets attribute_octets as_path_octets record_octets table_peer path_octets path_attribute hop_attribute attributes_of entry_octets table_body piece_body piece_record piece_records peers_with_candidates has_place pieces_from pieces_of
returns-clause-one c = refl

pub returns-clause-three : goal.returns-clause-three
unfolding same_bits bits_of value_of number_octets prefix_octets attribute_octets as_path_octets record_octets table_peer path_octets path_attribute hop_attribute attributes_of entry_octets table_body piece_body piece_record piece_records peers_with_candidates has_place pieces_from pieces_of
returns-clause-three c = refl
