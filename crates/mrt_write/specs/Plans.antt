-- What a plan knows of candidates, and what it begins.
use Rattle.std.specs.Prelude.{◌≡◌, ℕ, ◌≤◌, List, [], ◌++◌, length, map, option_map, None, Result, Ok, Err}
use Rattle.std.proofs.Common.{sym, subst, append_assoc, append-nil}
use Rattle.route_model.specs.Choice.{Candidates}
use Rattle.std.specs.List.Sorted.{IsStrictlySortedBy}
use Rattle.fib_prefix.specs.Order.{code_peer_cmp}
use Rattle.fib_prefix.specs.Views.{cand_as, peer_as}
use Rattle.fib_prefix.specs.declared.event.Cand.{Cand}
use Rattle.mrt_write.specs.Checkpoint.{has_ids}
use Rattle.mrt_write.specs.Saved.{peers_with_candidates, most_peers, long_one, saved}
use Rattle.mrt_write.specs.Answers.{WriterAnswers}
use Rattle.mrt_write.specs.Met.{AreAmong}
use Rattle.mrt_write.specs.Dumps.{WritesDump}
use Rattle.mrt_write.specs.declared.plan.DumpPlan.{DumpPlan}
use Rattle.mrt_write.specs.declared.dump.DumpWriter.{DumpWriter}
use Rattle.mrt_write.specs.declared.write.WriteError.{WriteError}

-- which peers have one, whether any has a path identifier, and the first whose path is too long
pub record PlansDump (plan : DumpPlan) (cands : List Cand) : Type 0 where
  pub peers : map peer_as plan.peers.keys ≡ peers_with_candidates (map cand_as cands)
  pub ids : plan.ids ≡ has_ids (map cand_as cands)
  pub long : option_map cand_as plan.long ≡ long_one (map cand_as cands)

-- its peers are in their order, and those that are found at once are among them
pub record HasMet (plan : DumpPlan) : Type 0 where
  pub sorted : IsStrictlySortedBy code_peer_cmp plan.peers.keys
  pub among : AreAmong (map peer_as plan.peers.keys) plan.met

-- it knows of these candidates, after all of which it knew
abbrev pub Learns : DumpPlan → List Cand → DumpPlan → Type 0
Learns before cands now = (old : List Cand) → PlansDump before old → PlansDump now (old ++ cands)

-- Checkpoint begun, which becomes that of the candidates once they were put into it; or why there is none.
abbrev pub PlanAnswers : Candidates → Result DumpWriter WriteError → Type 0
PlanAnswers held (Ok w) = (length (peers_with_candidates held) ≤ most_peers) × (long_one held ≡ None) × WritesDump w held (saved held)
PlanAnswers held (Err error) = WriterAnswers {A = ℕ} held (Err error)

-- ---- candidates after candidates

pub learns_none : (a : DumpPlan) → Learns a [] a
learns_none a = λ old k. subst (PlansDump a) (sym (append-nil old)) k

pub learns_more : (a b c : DumpPlan) (cands more : List Cand) → Learns a cands b → Learns b more c → Learns a (cands ++ more) c
learns_more a b c cands more first next = λ old k. subst (PlansDump c) (append_assoc old cands more) (next (old ++ cands) (first old k))
