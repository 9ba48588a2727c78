-- Each candidate's peer is among the peers, and its path short where none is long.
use Rattle.std.proofs.Common.{◌≡◌, ℕ, Bool, true, false, cond, List, [], ◌∷◌, map, Some, None, refl, sym, ap, ◌∙◌, subst}
use Rattle.std.specs.Prelude.{◌||◌, nat_lt, fold}
use Rattle.std.specs.List.{AllByRecursion, list_any}
use Rattle.std.specs.BTreeSet.{insert_key}
use Rattle.std.specs.Ordering.{match_ordering}
use Rattle.std.specs.declared.cmp.Ordering.{Ordering}
use Rattle.std.specs.declared.cmp.Ordering.TheVariants.{Less, Equal, Greater}
use Rattle.std.proofs.lemmas.Bool.{ltb-false}
use Rattle.route_model.specs.Events.{Peer, IsPeer, same_peer, peer_cmp}
use Rattle.route_model.specs.Choice.{Candidates}
use Rattle.route_model.proofs.Places.{peer_key}
use Rattle.fib_prefix.specs.Views.{peer_as}
use Rattle.mrt_write.specs.Saved.{peers_with_candidates, long_one, most_path}
use Rattle.mrt_write.proofs.Sharing.{stays_in, all_key}
use Rattle.fib_prefix.specs.Views.{cand_as}
use Rattle.table_model.specs.Width.{width}
use Rattle.table_model.proofs.BitLaws.{length-bits_of}
use Rattle.fib_prefix.specs.declared.event.Peer as code
use Rattle.mrt_write.specs.Dumps.{AreIn, AreShort}
use Rattle.mrt_write.specs.Plans.{PlanAnswers}
use Rattle.mrt_write.specs.declared.dump.DumpWriter.{DumpWriter}
use Rattle.std.specs.Prelude.{Result, Ok, Err, IsErr}
use Rattle.std.specs.Result.{IsErrAnd}
use Rattle.std.specs.declared.vec.Vec.{Vec}
use Rattle.mrt_write.specs.Answers.{WriterAnswers, no_memory}
use Rattle.mrt_write.specs.declared.write.WriteError.{WriteError}
use Rattle.fib_prefix.specs.declared.event.Cand.{Cand}

pub has_peer : (r : Peer) (peers : List Peer) → IsPeer r → AllByRecursion IsPeer peers → list_any (same_peer r) (insert_key peer_cmp peers r) ≡ true
has_peer r [] h a = ap (λ b. b || false) (peer_key.itself r)
has_peer r (x ∷ peers) h a = by_order (peer_cmp r x) refl (has_peer r peers h a.1)
  where
    or_true : (b : Bool) → (b || true) ≡ true
    or_true true = refl
    or_true false = refl

    by_order : (o : Ordering) → peer_cmp r x ≡ o → list_any (same_peer r) (insert_key peer_cmp peers r) ≡ true → list_any (same_peer r) (match_ordering o (r ∷ x ∷ peers) (x ∷ peers) (x ∷ insert_key peer_cmp peers r)) ≡ true
    by_order Less e ih = ap (λ b. b || (same_peer r x || list_any (same_peer r) peers)) (peer_key.itself r)
    by_order Equal e ih =
        let same : r ≡ x = peer_key.exact r x h a.0 e in
        ap (λ q. same_peer r q || list_any (same_peer r) peers) (sym same) ∙ ap (λ b. b || list_any (same_peer r) peers) (peer_key.itself r)
    by_order Greater e ih = ap (λ b. same_peer r x || b) ih ∙ or_true (same_peer r x)

abbrev gathered : List Peer → Candidates → List Peer
gathered peers held = fold (λ ps c. insert_key peer_cmp ps c.0.via.peer) peers held

pub is_peer : (q : code.Peer) → IsPeer (peer_as q)
is_peer q = length-bits_of (width q.addr.family) q.addr.bits

all_there : (peers : List Peer) (cs : List Cand) → AllByRecursion IsPeer peers → AreIn (gathered peers (map cand_as cs)) (map cand_as cs)
all_there peers [] a = tt
all_there peers (c ∷ cs) a = (
  stays_in (peer_as c.via.peer) (insert_key peer_cmp peers (peer_as c.via.peer)) (map cand_as cs) (has_peer (peer_as c.via.peer) peers (is_peer c.via.peer) a),
  all_there (insert_key peer_cmp peers (peer_as c.via.peer)) cs (all_key IsPeer (peer_as c.via.peer) peers (is_peer c.via.peer) a),
)

pub are_in : (cs : List Cand) → AreIn (peers_with_candidates (map cand_as cs)) (map cand_as cs)
unfolding peers_with_candidates
are_in cs = all_there [] cs tt

pub are_short : (held : Candidates) → long_one held ≡ None → AreShort held
are_short [] e = tt
are_short (c ∷ held) e = by_test (nat_lt most_path c.1.path) refl e (are_short held)
  where
    by_test : (b : Bool) → nat_lt most_path c.1.path ≡ b → cond b (Some c) (long_one held) ≡ None → (long_one held ≡ None → AreShort held) → AreShort (c ∷ held)
    by_test true t e ih = absurd cc
    by_test false t e ih = (ltb-false _ _ t, ih e)

-- where memory ran out nothing is owed
pub nothing_owed : {A : Type 0} (held : Candidates) (r : Result (Vec ℕ A) WriteError) → IsErr r → IsErrAnd r (λ e. e ≡ no_memory) → WriterAnswers held r
nothing_owed held (Ok v) i e = absurd e
nothing_owed {A = A} held (Err x) i e = subst (λ y. WriterAnswers {A = A} held (Err y)) (sym e) tt

pub nothing_begun : (held : Candidates) (r : Result DumpWriter WriteError) → IsErr r → IsErrAnd r (λ e. e ≡ no_memory) → PlanAnswers held r
nothing_begun held (Ok w) i e = absurd e
nothing_begun held (Err x) i e = subst (λ y. PlanAnswers held (Err y)) (sym e) tt
