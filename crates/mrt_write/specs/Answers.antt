-- What a writer of checkpoints answers.
use Rattle.std.specs.Prelude.{◌≡◌, ℕ, ◌<◌, ◌≤◌, length, Some, None, Result, Ok, Err, ⊤}
use Rattle.std.specs.declared.vec.Vec.{Vec}
use Rattle.fib_addr.specs.Views.{prefix_as}
use Rattle.route_model.specs.Choice.{Place, PathAttrs, Candidates}
use Rattle.mrt_write.specs.Saved.{peers_with_candidates, most_peers, long_one, saved}
use Rattle.mrt_write.specs.declared.write.WriteError.{WriteError}
use Rattle.mrt_write.specs.declared.write.WriteError.TheVariants.{PeersFull, PathTooLong, NoMemory}

abbrev pub no_memory : WriteError
no_memory = NoMemory

-- The octets, if no more peers than a table holds have a candidate and no path is too long; else how many peers there are; else the first candidate whose path is; or memory ran out.
abbrev pub WriterAnswers : {A : Type 0} → Candidates → Result (Vec ℕ A) WriteError → Type 0
WriterAnswers held (Ok v) = (length (peers_with_candidates held) ≤ most_peers) × (long_one held ≡ None) × (v.items ≡ saved held)
WriterAnswers held (Err (PeersFull n)) = (most_peers < length (peers_with_candidates held)) × (n ≡ length (peers_with_candidates held))
WriterAnswers held (Err (PathTooLong prefix n)) = (length (peers_with_candidates held) ≤ most_peers) × (c : Place × PathAttrs) × (long_one held ≡ Some c) × (prefix_as prefix ≡ c.0.prefix) × (n ≡ c.1.path)
WriterAnswers held (Err NoMemory) = ⊤
