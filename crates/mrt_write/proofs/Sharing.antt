-- Candidates that are shared out among records are all there, and each record can be written.
use Rattle.std.proofs.Common.{◌≡◌, ℕ, suc, ◌+◌, ◌%◌, ◌^◌, ◌<◌, ◌≤◌, Bool, true, false, cond, not, List, [], ◌∷◌, ◌++◌, length, Some, None, refl, sym, ap, ◌∙◌, append_assoc, length-append, arith}
use Rattle.std.specs.Prelude.{◌||◌, ◌==◌, nat_lt, flat_map, fold, slice_get, unwrap_or, if◌then◌else◌}
use Rattle.std.specs.List.{AllByRecursion, list_any, position_or_len}
use Rattle.std.specs.Map.{keys_of}
use Rattle.std.specs.BTreeSet.{insert_key}
use Rattle.std.specs.Ordering.{match_ordering}
use Rattle.std.specs.declared.cmp.Ordering.{Ordering}
use Rattle.std.specs.declared.cmp.Ordering.TheVariants.{Less, Equal, Greater}
use Rattle.std.proofs.lemmas.Bool.{ltb-true, ltb-false, lt-ltb, eqb-true, and_parts}
use Rattle.table_model.specs.declared.family.Family.{Family}
use Rattle.table_model.specs.declared.family.Family.TheVariants.{V4, V6}
use Rattle.table_model.specs.Address.{Prefix, IsPrefix, same_prefix}
use Rattle.table_model.specs.Width.{width}
use Rattle.table_model.proofs.SamePrefix.{same_prefix_is}
use Rattle.wire_model.specs.Record.{most_length}
use Rattle.wire_model.specs.Wire.{octets_for, id_size}
use Rattle.route_model.specs.Events.{Peer, IsPeer, same_peer, peer_cmp}
use Rattle.route_model.specs.Choice.{Place, PathAttrs, Candidates, AreCandidates, IsPlace}
use Rattle.route_model.proofs.Places.{peer_key}
use Rattle.wire_model.specs.Octets.{number_octets, prefix_octets}
use Rattle.wire_model.proofs.Fields.{length-number_octets}
use Rattle.mrt_write.specs.Entries.{peer_index, id_octets, attributes_of, entry_octets}
use Rattle.mrt_write.proofs.Attributes.{length-attributes}
use Rattle.table_model.specs.Order.{filled}
use Rattle.std.proofs.lemmas.List.{length-take}
use Rattle.mrt_write.specs.Checkpoint.{Piece, most_entries, has_ids, piece_body}
use Rattle.mrt_write.specs.Writable.{IsWritablePeer, IsWritable, IsPiece, AreWritable, all_of}
use Rattle.mrt_write.specs.Saved.{peers_with_candidates, piece_of, with_candidate, has_place, pieces_from, pieces_of, most_peers, most_path, long_one, IsCode}

-- ---- all are there

pub all_from : (peers : List Peer) (ids : Bool) (p : Piece) (held : Candidates) → all_of (pieces_from peers ids p held) ≡ p.candidates ++ held
unfolding pieces_from
all_from peers ids p [] = refl
all_from peers ids p (c ∷ held) = by_test (has_place peers ids p c) (all_from peers ids (with_candidate p c) held) (all_from peers ids (piece_of c) held)
  where
    by_test : (b : Bool) → all_of (pieces_from peers ids (with_candidate p c) held) ≡ (p.candidates ++ c ∷ []) ++ held → all_of (pieces_from peers ids (piece_of c) held) ≡ c ∷ held
        → all_of (if b then pieces_from peers ids (with_candidate p c) held else p ∷ pieces_from peers ids (piece_of c) held) ≡ p.candidates ++ c ∷ held
    by_test true more other = more ∙ append_assoc p.candidates (c ∷ []) held
    by_test false more other = ap (λ xs. p.candidates ++ xs) other

pub all_there : (peers : List Peer) (ids : Bool) (held : Candidates) → all_of (pieces_of peers ids held) ≡ held
unfolding pieces_of
all_there peers ids [] = refl
all_there peers ids (c ∷ held) = all_from peers ids (piece_of c) held

-- ---- the peers

in_key : (q r : Peer) (peers : List Peer) → list_any (same_peer q) peers ≡ true → list_any (same_peer q) (insert_key peer_cmp peers r) ≡ true
in_key q r [] e = absurd cc
in_key q r (x ∷ peers) e = by_order (peer_cmp r x) e (in_key q r peers)
  where
    or_true : (b : Bool) → (b || true) ≡ true
    or_true true = refl
    or_true false = refl

    kept : (b c d : Bool) → (b || c) ≡ true → (c ≡ true → d ≡ true) → (b || d) ≡ true
    kept true c d e h = refl
    kept false c d e h = h e

    by_order : (o : Ordering) → (same_peer q x || list_any (same_peer q) peers) ≡ true → (list_any (same_peer q) peers ≡ true → list_any (same_peer q) (insert_key peer_cmp peers r) ≡ true)
        → list_any (same_peer q) (match_ordering o (r ∷ x ∷ peers) (x ∷ peers) (x ∷ insert_key peer_cmp peers r)) ≡ true
    by_order Less e ih = ap (λ b. same_peer q r || b) e ∙ or_true (same_peer q r)
    by_order Equal e ih = e
    by_order Greater e ih = kept (same_peer q x) (list_any (same_peer q) peers) (list_any (same_peer q) (insert_key peer_cmp peers r)) e ih

pub all_key : (P : Peer → Type 0) (r : Peer) (peers : List Peer) → P r → AllByRecursion P peers → AllByRecursion P (insert_key peer_cmp peers r)
all_key P r [] h a = (h, tt)
all_key P r (x ∷ peers) h a = by_order (peer_cmp r x) (all_key P r peers h a.1)
  where
    by_order : (o : Ordering) → AllByRecursion P (insert_key peer_cmp peers r) → AllByRecursion P (match_ordering o (r ∷ x ∷ peers) (x ∷ peers) (x ∷ insert_key peer_cmp peers r))
    by_order Less more = (h, a)
    by_order Equal more = a
    by_order Greater more = (a.0, more)

has_key : (r : Peer) (peers : List Peer) → IsPeer r → AllByRecursion IsWritablePeer peers → list_any (same_peer r) (insert_key peer_cmp peers r) ≡ true
has_key r [] h a = ap (λ b. b || false) (peer_key.itself r)
has_key r (x ∷ peers) h a = by_order (peer_cmp r x) refl (has_key r peers h a.1)
  where
    or_true : (b : Bool) → (b || true) ≡ true
    or_true true = refl
    or_true false = refl

    by_order : (o : Ordering) → peer_cmp r x ≡ o → list_any (same_peer r) (insert_key peer_cmp peers r) ≡ true → list_any (same_peer r) (match_ordering o (r ∷ x ∷ peers) (x ∷ peers) (x ∷ insert_key peer_cmp peers r)) ≡ true
    by_order Less e ih = ap (λ b. b || (same_peer r x || list_any (same_peer r) peers)) (peer_key.itself r)
    by_order Equal e ih =
        let same : r ≡ x = peer_key.exact r x h a.0.addr e in
        ap (λ q. same_peer r q || list_any (same_peer r) peers) (sym same) ∙ ap (λ b. b || list_any (same_peer r) peers) (peer_key.itself r)
    by_order Greater e ih = ap (λ b. same_peer r x || b) ih ∙ or_true (same_peer r x)

abbrev gathered : List Peer → Candidates → List Peer
gathered peers held = fold (λ ps c. insert_key peer_cmp ps c.0.via.peer) peers held

-- what a candidate is in the code and among candidates
abbrev IsGood : Place × PathAttrs → Type 0
IsGood c = IsPlace c.0 × IsCode c

writable_peer : (c : Place × PathAttrs) → IsGood c → IsWritablePeer c.0.via.peer
writable_peer c g = record { addr = g.0.1; asn = g.1.asn }

pub each_good : (peers : List Peer) (held : Candidates) → AllByRecursion IsGood held → AllByRecursion IsWritablePeer peers → AllByRecursion IsWritablePeer (gathered peers held)
each_good peers [] g a = a
each_good peers (c ∷ held) g a = each_good (insert_key peer_cmp peers c.0.via.peer) held g.1 (all_key IsWritablePeer c.0.via.peer peers (writable_peer c g.0) a)

pub stays_in : (q : Peer) (peers : List Peer) (held : Candidates) → list_any (same_peer q) peers ≡ true → list_any (same_peer q) (gathered peers held) ≡ true
stays_in q peers [] e = e
stays_in q peers (c ∷ held) e = stays_in q (insert_key peer_cmp peers c.0.via.peer) held (in_key q c.0.via.peer peers e)

abbrev IsIn : List Peer → Place × PathAttrs → Type 0
IsIn peers c = list_any (same_peer c.0.via.peer) peers ≡ true

pub all_in : (peers : List Peer) (held : Candidates) → AllByRecursion IsGood held → AllByRecursion IsWritablePeer peers → AllByRecursion (IsIn (gathered peers held)) held
all_in peers [] g a = tt
all_in peers (c ∷ held) g a =
    let more = insert_key peer_cmp peers c.0.via.peer in
    (stays_in c.0.via.peer more held (has_key c.0.via.peer peers g.0.0.1 a), all_in more held g.1 (all_key IsWritablePeer c.0.via.peer peers (writable_peer c g.0) a))

pub there_at : (q : Peer) (peers : List Peer) → list_any (same_peer q) peers ≡ true → (position_or_len (same_peer q) peers < length peers) × (slice_get peers (position_or_len (same_peer q) peers) ≡ Some q)
there_at q [] e = absurd cc
there_at q (x ∷ peers) e = by_test (same_peer q x) refl e (there_at q peers)
  where
    by_test : (b : Bool) → same_peer q x ≡ b → (b || list_any (same_peer q) peers) ≡ true → (list_any (same_peer q) peers ≡ true → (position_or_len (same_peer q) peers < length peers) × (slice_get peers (position_or_len (same_peer q) peers) ≡ Some q))
        → (cond (not b) (1 + position_or_len (same_peer q) peers) 0 < suc (length peers)) × (slice_get (x ∷ peers) (cond (not b) (1 + position_or_len (same_peer q) peers) 0) ≡ Some q)
    by_test true t e ih = (omega arith, ap (λ r. Some r) (sym (peer_key.same q x t)))
    by_test false t e ih =
        let rest = ih e in
        let n : 1 + position_or_len (same_peer q) peers ≡ suc (position_or_len (same_peer q) peers) = omega arith in
        (omega (arith, rest.0), ap (slice_get (x ∷ peers)) n ∙ rest.1)

pub index_is : (q : Peer) (peers : List Peer) → list_any (same_peer q) peers ≡ true → peer_index peers q ≡ position_or_len (same_peer q) peers
index_is q peers e = ap (λ b. unwrap_or (cond b (Some (position_or_len (same_peer q) peers)) None) 0) (lt-ltb _ _ (there_at q peers e).0)

-- ---- each can be written

-- it can be written behind these peers
abbrev IsReady : List Peer → Bool → Place × PathAttrs → Type 0
IsReady peers ids c = IsPrefix c.0.prefix × IsWritable peers ids c.0.prefix c

pub ready_at : (peers : List Peer) (ids : Bool) (c : Place × PathAttrs) → IsGood c → IsIn peers c → length peers ≤ 65535 → c.1.path ≤ 15000 → c.0.via.id < 256 ^ id_size ids → IsReady peers ids c
ready_at peers ids c g e few short id =
    let there = there_at c.0.via.peer peers e in
    let index = index_is c.0.via.peer peers e in (
      g.0.0,
      record {
        prefix = refl;
        peer = ap (slice_get peers) index ∙ there.1;
        index = omega (arith, index, there.0);
        id = id;
        asn = g.1.asn;
        path = short;
        hop = g.1.hop;
      },
    )

-- ---- the pieces

-- the number of a record doesn't change how long it is
pub length_body : (peers : List Peer) (ids : Bool) (number : ℕ) (p : Piece) → length (piece_body peers ids number p) ≡ length (piece_body peers ids 0 p)
unfolding piece_body
length_body peers ids number p =
    let rest = prefix_octets p.prefix ++ (number_octets 2 (length p.candidates) ++ flat_map (entry_octets peers ids) p.candidates) in
    omega (arith, length-append (number_octets 4 (number % 2 ^ 32)) rest, length-append (number_octets 4 (0 % 2 ^ 32)) rest, length-number_octets 4 (number % 2 ^ 32), length-number_octets 4 (0 % 2 ^ 32))

id_few : (ids : Bool) → id_size ids ≤ 4
id_few true = omega arith
id_few false = omega arith

pub length_entry : (peers : List Peer) (ids : Bool) (c : Place × PathAttrs) → c.1.path ≤ 15000 → length (entry_octets peers ids c) ≤ 65548
unfolding entry_octets
length_entry peers ids c short =
    let index = number_octets 2 (peer_index peers c.0.via.peer) in
    let time = number_octets 4 0 in
    let id = id_octets ids c.0.via.id in
    let list = attributes_of c in
    let area = number_octets 2 (length list) ++ list in
    omega (arith, length-append index (time ++ (id ++ area)), length-append time (id ++ area), length-append id area, length-append (number_octets 2 (length list)) list, length-number_octets 2 (peer_index peers c.0.via.peer), length-number_octets 4 0, length-number_octets (id_size ids) c.0.via.id, id_few ids, length-number_octets 2 (length list), length-attributes c short)

few_octets : (f : Family) → octets_for (width f) ≤ 16
few_octets V4 = omega arith
few_octets V6 = omega arith

pub length_prefix : (p : Prefix) → length (prefix_octets p) ≤ 17
unfolding prefix_octets
length_prefix p =
    let octets = number_octets (octets_for (width p.family)) (filled p) in
    omega (arith, length-take (octets_for (length p.bits)) octets, length-number_octets (octets_for (width p.family)) (filled p), few_octets p.family)

length_one : (peers : List Peer) (ids : Bool) (c : Place × PathAttrs) → c.1.path ≤ 15000 → length (piece_body peers ids 0 (piece_of c)) ≤ most_length
unfolding piece_body
length_one peers ids c short =
    let entries = entry_octets peers ids c ++ [] in
    let count = number_octets 2 1 in
    let prefix = prefix_octets c.0.prefix in
    omega (arith, length-append (number_octets 4 (0 % 2 ^ 32)) (prefix ++ (count ++ entries)), length-append prefix (count ++ entries), length-append count entries, length-append (entry_octets peers ids c) [], length-number_octets 4 (0 % 2 ^ 32), length_prefix c.0.prefix, length-number_octets 2 1, length_entry peers ids c short)

piece_starts : (peers : List Peer) (ids : Bool) (c : Place × PathAttrs) → IsReady peers ids c → IsPiece peers ids (piece_of c)
piece_starts peers ids c r = record {
  is_prefix = r.0;
  candidates = (r.1, tt);
  few = omega arith;
  small = λ number. omega (arith, length_body peers ids number (piece_of c), length_one peers ids c r.1.path);
}

all_push : {X : Type 0} (P : X → Type 0) (xs : List X) (x : X) → AllByRecursion P xs → P x → AllByRecursion P (xs ++ x ∷ [])
all_push P [] x a h = (h, tt)
all_push P (y ∷ xs) x a h = (a.0, all_push P xs x a.1 h)

moved : (peers : List Peer) (ids : Bool) (p : Prefix) (c : Place × PathAttrs) → p ≡ c.0.prefix → IsWritable peers ids c.0.prefix c → IsWritable peers ids p c
moved peers ids p c e w = record { prefix = sym e; peer = w.peer; index = w.index; id = w.id; asn = w.asn; path = w.path; hop = w.hop }

piece_grows : (peers : List Peer) (ids : Bool) (p : Piece) (c : Place × PathAttrs) → IsPiece peers ids p → IsReady peers ids c → has_place peers ids p c ≡ true → IsPiece peers ids (with_candidate p c)
unfolding has_place
piece_grows peers ids p c w r e =
    let one = and_parts (same_prefix p.prefix c.0.prefix) _ e in
    let two = and_parts (nat_lt (length p.candidates) most_entries) _ one.1 in
    let prefix : p.prefix ≡ c.0.prefix = same_prefix_is p.prefix c.0.prefix one.0 in
    let some : length p.candidates < most_entries = ltb-true _ _ two.0 in
    let small : length (piece_body peers ids 0 (with_candidate p c)) ≤ most_length = ltb-false _ _ (not_true _ two.1) in
    record {
      is_prefix = w.is_prefix;
      candidates = all_push (IsWritable peers ids p.prefix) p.candidates c w.candidates (moved peers ids p.prefix c prefix r.1);
      few = omega (arith, length-append p.candidates (c ∷ []));
      small = λ number. omega (arith, length_body peers ids number (with_candidate p c));
    }
  where
    not_true : (b : Bool) → not b ≡ true → b ≡ false
    not_true true e = let no : false ≡ true = e in absurd cc
    not_true false e = refl

pieces_whole : (peers : List Peer) (ids : Bool) (p : Piece) (held : Candidates) → IsPiece peers ids p → AllByRecursion (IsReady peers ids) held → AllByRecursion (IsPiece peers ids) (pieces_from peers ids p held)
unfolding pieces_from
pieces_whole peers ids p [] w r = (w, tt)
pieces_whole peers ids p (c ∷ held) w r = by_test (has_place peers ids p c) refl (λ x. pieces_whole peers ids (with_candidate p c) held x r.1) (pieces_whole peers ids (piece_of c) held (piece_starts peers ids c r.0) r.1)
  where
    by_test : (b : Bool) → has_place peers ids p c ≡ b → (IsPiece peers ids (with_candidate p c) → AllByRecursion (IsPiece peers ids) (pieces_from peers ids (with_candidate p c) held)) → AllByRecursion (IsPiece peers ids) (pieces_from peers ids (piece_of c) held)
        → AllByRecursion (IsPiece peers ids) (if b then pieces_from peers ids (with_candidate p c) held else p ∷ pieces_from peers ids (piece_of c) held)
    by_test true e more other = more (piece_grows peers ids p c w r.0 e)
    by_test false e more other = (w, other)

all_whole : (peers : List Peer) (ids : Bool) (held : Candidates) → AllByRecursion (IsReady peers ids) held → AllByRecursion (IsPiece peers ids) (pieces_of peers ids held)
unfolding pieces_of
all_whole peers ids [] r = tt
all_whole peers ids (c ∷ held) r = pieces_whole peers ids (piece_of c) held (piece_starts peers ids c r.0) r.1

-- ---- the candidates

short_at : (held : Candidates) → long_one held ≡ None → AllByRecursion (λ c. c.1.path ≤ 15000) held
short_at [] e = tt
short_at (c ∷ held) e = by_test (nat_lt most_path c.1.path) refl e (short_at held)
  where
    by_test : (b : Bool) → nat_lt most_path c.1.path ≡ b → cond b (Some c) (long_one held) ≡ None → (long_one held ≡ None → AllByRecursion (λ c. c.1.path ≤ 15000) held) → AllByRecursion (λ c. c.1.path ≤ 15000) (c ∷ held)
    by_test true t e ih = absurd cc
    by_test false t e ih = (ltb-false _ _ t, ih e)

-- no identifier other than 0
no_ids : (held : Candidates) → has_ids held ≡ false → AllByRecursion (λ c. c.0.via.id ≡ 0) held
no_ids [] e = tt
no_ids (c ∷ held) e = by_test (c.0.via.id == 0) refl e (no_ids held)
  where
    by_test : (b : Bool) → (c.0.via.id == 0) ≡ b → (not b || has_ids held) ≡ false → (has_ids held ≡ false → AllByRecursion (λ c. c.0.via.id ≡ 0) held) → AllByRecursion (λ c. c.0.via.id ≡ 0) (c ∷ held)
    by_test true t e ih = (eqb-true _ _ t, ih e)
    by_test false t e ih = absurd cc

ids_fit : (ids : Bool) (held : Candidates) → AllByRecursion IsGood held → (ids ≡ false → AllByRecursion (λ c. c.0.via.id ≡ 0) held) → AllByRecursion (λ c. c.0.via.id < 256 ^ id_size ids) held
ids_fit ids [] g h = tt
ids_fit true (c ∷ held) g h = (let small : c.0.via.id < 2 ^ 32 = g.0.1.id in omega arith, ids_fit true held g.1 (λ e. let no : true ≡ false = e in absurd cc))
ids_fit false (c ∷ held) g h = (let none : c.0.via.id ≡ 0 = (h refl).0 in omega arith, ids_fit false held g.1 (λ e. (h refl).1))

ready_all : (peers : List Peer) (ids : Bool) (held : Candidates) → AllByRecursion IsGood held → AllByRecursion (IsIn peers) held → length peers ≤ 65535 → AllByRecursion (λ c. c.1.path ≤ 15000) held → AllByRecursion (λ c. c.0.via.id < 256 ^ id_size ids) held → AllByRecursion (IsReady peers ids) held
ready_all peers ids [] g i few s d = tt
ready_all peers ids (c ∷ held) g i few s d = (ready_at peers ids c g.0 i.0 few s.0 d.0, ready_all peers ids held g.1 i.1 few s.1 d.1)

good_all : (held : Candidates) → AllByRecursion IsPlace (keys_of held) → AllByRecursion IsCode held → AllByRecursion IsGood held
good_all [] a c = tt
good_all (x ∷ held) a c = ((a.0, c.0), good_all held a.1 c.1)

pub all_writable : (held : Candidates) → AreCandidates held → AllByRecursion IsCode held → length (peers_with_candidates held) ≤ most_peers → long_one held ≡ None → AreWritable (peers_with_candidates held) (has_ids held) (pieces_of (peers_with_candidates held) (has_ids held) held)
unfolding peers_with_candidates
all_writable held h c few short =
    let g = good_all held h.0 c in
    let peers = gathered [] held in
    let ready = ready_all peers (has_ids held) held g (all_in [] held g tt) few (short_at held short) (ids_fit (has_ids held) held g (no_ids held)) in
    record { few = few; each = each_good [] held g tt; whole = all_whole peers (has_ids held) held ready }
