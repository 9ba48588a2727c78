-- What a checkpoint that is being written is, and what it becomes.
use Rattle.std.specs.Prelude.{◌≡◌, ℕ, ◌≤◌, Bool, true, false, None, List, [], ◌∷◌, ◌++◌, length, map, IfSome}
use Rattle.std.proofs.Common.{ap, subst, refl}
use Rattle.std.specs.List.{AllByRecursion, list_any}
use Rattle.std.specs.List.Sorted.{IsStrictlySortedBy}
use Rattle.route_model.specs.Events.{Peer, same_peer}
use Rattle.route_model.specs.Choice.{Candidates}
use Rattle.wire_model.specs.Octets.{record_octets}
use Rattle.fib_prefix.specs.Order.{code_peer_cmp}
use Rattle.fib_prefix.specs.Views.{cand_as, peer_as}
use Rattle.fib_prefix.specs.declared.event.Cand.{Cand}
use Rattle.fib_prefix.specs.declared.event.Peer as code
use Rattle.mrt_write.specs.Entries.{peer_index}
use Rattle.mrt_write.specs.Checkpoint.{table_body}
use Rattle.mrt_write.specs.Saved.{most_path}
use Rattle.mrt_write.specs.Holds.{LeadsTo}
use Rattle.mrt_write.specs.declared.growing.Open.{Open}
use Rattle.mrt_write.specs.declared.dump.DumpWriter.{DumpWriter}

-- ---- places of peers

abbrev pub HasNoIndex : List Peer → Peer → Type 0
HasNoIndex peers q = list_any (same_peer q) peers ≡ false

abbrev pub IsPeerIndex : List Peer → Peer → ℕ → Type 0
IsPeerIndex peers q i = (list_any (same_peer q) peers ≡ true) × (i ≡ peer_index peers q)

-- ---- candidates that can be put into it

-- each one's peer is among these
abbrev pub AreIn : List Peer → Candidates → Type 0
AreIn peers held = AllByRecursion (λ c. list_any (same_peer c.0.via.peer) peers ≡ true) held

-- each one's path is short enough
abbrev pub AreShort : Candidates → Type 0
AreShort held = AllByRecursion (λ c. c.1.path ≤ most_path) held

-- ---- the checkpoint

-- it can take a candidate: its peers are few and in their order, and the open record isn't too long
pub record CanPut (w : DumpWriter) : Type 0 where
  pub few : length w.peers.items ≤ 65535
  pub sorted : IsStrictlySortedBy code_peer_cmp w.peers.items
  pub small : IfSome w.open (λ (o : Open). length o.entries.items ≤ 16777216)

-- the table of these peers is written, and nothing after it
pub record IsTableWritten (peers : List code.Peer) (ids : Bool) (w : DumpWriter) : Type 0 where
  pub peers_are : w.peers.items ≡ peers
  pub ids_are : w.ids ≡ ids
  pub none : w.open ≡ None
  pub table : w.out.items ≡ record_octets 13 1 (table_body (map peer_as peers))

-- What is put, the open record, and what is to come of the rest of the candidates make the whole.
pub record WritesDump (w : DumpWriter) (rest : Candidates) (whole : List ℕ) : Type 0 where
  pub there : AreIn (map peer_as w.peers.items) rest
  pub short : AreShort rest
  pub leads : LeadsTo (map peer_as w.peers.items) w.ids w.open w.out.items rest whole

-- these candidates were put into it, whatever follows
abbrev pub PutsCands : DumpWriter → List Cand → DumpWriter → Type 0
PutsCands before cands now = (rest : Candidates) (whole : List ℕ) → WritesDump before (map cand_as cands ++ rest) whole → WritesDump now rest whole

-- ---- candidates after candidates

pub puts_none : (a : DumpWriter) → PutsCands a [] a
puts_none a = λ rest whole w. w

regrouped : (cs more : List Cand) (rest : Candidates) → map cand_as (cs ++ more) ++ rest ≡ map cand_as cs ++ (map cand_as more ++ rest)
regrouped [] more rest = refl
regrouped (c ∷ cs) more rest = ap (λ xs. cand_as c ∷ xs) (regrouped cs more rest)

pub puts_more : (a b c : DumpWriter) (cands more : List Cand) → PutsCands a cands b → PutsCands b more c → PutsCands a (cands ++ more) c
puts_more a b c cands more first next = λ rest whole w. next rest whole (first (map cand_as more ++ rest) whole (subst (λ held. WritesDump a held whole) (regrouped cands more rest) w))
