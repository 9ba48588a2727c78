use Rattle.std.proofs.Common.{ap, ◌∙◌, length, ◌+◌, Ok, Some, map}
use Rattle.wire_model.proofs.Records.{read_so}
use Rattle.mrt_write.specs.Checkpoint.{announced, has_ids}
use Rattle.mrt_write.specs.Saved.{peers_with_candidates, pieces_of}
use Rattle.mrt_write.proofs.Records.{checkpoint_read}
use Rattle.mrt_write.proofs.Sharing.{all_there, all_writable}
use Rattle.mrt_write.proofs.saved_laws.saved_law.Goals as goal

pub returns : goal.returns
returns c = λ held h code few short.
    let peers = peers_with_candidates held in
    let ids = has_ids held in
    let pieces = pieces_of peers ids held in
    checkpoint_read peers ids pieces (all_writable held h code few short)
    ∙ ap (λ all. Ok (read_so (Some peers) (map announced all) (1 + length pieces))) (all_there peers ids held)
