-- A checkpoint is read as the candidates that it was written of.
use Rattle.std.proofs.Common.{◌≡◌, ◌≤◌, ◌+◌, List, [], ◌∷◌, ◌++◌, length, map, Some, None, Ok, refl, sym, ap, subst, ◌∙◌}
use Rattle.std.specs.List.{AllByRecursion}
use Rattle.route_model.specs.Choice.{AreCandidates, Candidates}
use Rattle.wire_model.specs.Input.{Progress, input}
use Rattle.fib_prefix.specs.Views.{IsOfOctets, cand_as}
use Rattle.fib_prefix.specs.declared.event.Cand.{Cand}
use Rattle.fib_prefix.proofs.Cands.{of_octets}
use Rattle.mrt_write.specs.Checkpoint.{announced, has_ids}
use Rattle.mrt_write.specs.Saved.{IsCode, long_one, most_peers, peers_with_candidates, pieces_of, saved}
use Rattle.mrt_write.proofs.Records.{checkpoint_read}
use Rattle.mrt_write.proofs.Sharing.{all_there, all_writable}
use Rattle.mrt_write.proofs.Held.{held_again, said_again}
use Rattle.mrt_write.specs.Reads.{ReadsAs, after_events}

all_code : (held : Candidates) → AllByRecursion IsOfOctets held → AllByRecursion IsCode held
all_code [] a = tt
all_code (c ∷ held) a = (record { asn = a.0.asn; id = a.0.id; hop = a.0.hop }, all_code held a.1)

pub cands_octets : (cs : List Cand) → AllByRecursion IsOfOctets (map cand_as cs)
cands_octets [] = tt
cands_octets (c ∷ cs) = (of_octets c, cands_octets cs)

-- what is read of it
abbrev read_again : Candidates → Progress
read_again held = record {
  peers = Some (peers_with_candidates held);
  events = map announced held;
  records = 1 + length (pieces_of (peers_with_candidates held) (has_ids held) held);
  skipped = 0;
  treated = 0;
}

saved_again : (held : Candidates) → AreCandidates held → AllByRecursion IsCode held → length (peers_with_candidates held) ≤ most_peers → long_one held ≡ None → input (saved held) ≡ Ok (read_again held)
saved_again held are code few short =
    let peers = peers_with_candidates held in
    let ids = has_ids held in
    let pieces = pieces_of peers ids held in
    checkpoint_read peers ids pieces (all_writable held are code few short)
    ∙ ap (λ (all : Candidates). Ok (record { peers = Some peers; events = map announced all; records = 1 + length pieces; skipped = 0; treated = 0 })) (all_there peers ids held)

pub saved_reads : (held : Candidates) → AreCandidates held → AllByRecursion IsOfOctets held → length (peers_with_candidates held) ≤ most_peers → long_one held ≡ None → ReadsAs (saved held) held
saved_reads held are octets few short = record {
  read = read_again held;
  accepted = saved_again held are (all_code held octets) few short;
  none_skipped = refl;
  none_treated = refl;
  again = held_again held are;
  replay = λ said later e. ap (λ (h : Candidates). after_events [] (map announced h ++ later)) (sym e) ∙ said_again said later (subst AreCandidates (sym e) are);
}
