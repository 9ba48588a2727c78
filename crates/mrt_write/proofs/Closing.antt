-- An open record takes a candidate, or is closed before it.
use Rattle.std.proofs.Common.{◌≡◌, ℕ, ◌+◌, ◌%◌, ◌^◌, Bool, true, false, List, [], ◌∷◌, ◌++◌, length, None, refl, sym, ap, ◌∙◌, append_assoc, append-nil, length-append, arith}
use Rattle.std.specs.Prelude.{flat_map, if◌then◌else◌}
use Rattle.route_model.specs.Events.{Peer}
use Rattle.route_model.specs.Choice.{Place, PathAttrs, Candidates}
use Rattle.fib_addr.specs.Views.{prefix_as}
use Rattle.mrt_write.specs.Entries.{entry_octets}
use Rattle.wire_model.specs.Octets.{number_octets, prefix_octets, record_octets}
use Rattle.mrt_write.specs.Checkpoint.{Piece, piece_body, piece_record, piece_records, rib_subtype}
use Rattle.mrt_write.specs.Saved.{has_place, piece_of, with_candidate, pieces_from, pieces_of}
use Rattle.mrt_write.specs.declared.growing.Open.{Open}
use Rattle.mrt_write.specs.Holds.{LeadsTo, OpenHolds, OpenLeadsTo}

push : (f : Place × PathAttrs → List ℕ) (cs : Candidates) (c : Place × PathAttrs) → flat_map f (cs ++ c ∷ []) ≡ flat_map f cs ++ f c
push f [] c = append-nil (f c)
push f (x ∷ cs) c = ap (λ xs. f x ++ xs) (push f cs c) ∙ sym (append_assoc (f x) (flat_map f cs) (f c))

-- what is known of the test of room
abbrev pub Tells : Bool → List Peer → Bool → Open → List ℕ → Place × PathAttrs → Type 0
Tells b peers ids old entry c = (p : Piece) → p.prefix ≡ prefix_as old.prefix → length p.candidates ≡ old.count → length (flat_map (entry_octets peers ids) p.candidates) ≡ length old.entries.items → length (entry_octets peers ids c) ≡ length entry → b ≡ has_place peers ids p c

told : (b : Bool) (peers : List Peer) (ids : Bool) (old : Open) (entry : List ℕ) (c : Place × PathAttrs) (p : Piece) → Tells b peers ids old entry c → entry ≡ entry_octets peers ids c → OpenHolds peers ids old p → b ≡ has_place peers ids p c
told b peers ids old entry c p tells e h = tells p h.prefix h.count (ap length (sym h.entries)) (ap length (sym e))

pub open_grows : (peers : List Peer) (ids : Bool) (old new : Open) (out : List ℕ) (c : Place × PathAttrs) (entry : List ℕ) (rest : Candidates) (whole : List ℕ)
    → new.number ≡ old.number → new.prefix ≡ old.prefix → new.count ≡ old.count + 1 → new.entries.items ≡ old.entries.items ++ entry → entry ≡ entry_octets peers ids c → Tells true peers ids old entry c
    → OpenLeadsTo peers ids old out (c ∷ rest) whole → OpenLeadsTo peers ids new out rest whole
unfolding pieces_from
open_grows peers ids old new out c entry rest whole e1 e2 e3 e4 e5 tells o =
    let p = o.piece in
    let yes_fits : has_place peers ids p c ≡ true = sym (told true peers ids old entry c p tells e5 o.holds) in
    let more : pieces_from peers ids p (c ∷ rest) ≡ pieces_from peers ids (with_candidate p c) rest = ap (λ b. if b then pieces_from peers ids (with_candidate p c) rest else p ∷ pieces_from peers ids (piece_of c) rest) yes_fits in
    record {
      piece = with_candidate p c;
      holds = record {
        prefix = o.holds.prefix ∙ ap (λ q. prefix_as q) (sym e2);
        count = omega (arith, length-append p.candidates (c ∷ []), o.holds.count, e3);
        entries = e4 ∙ (ap (λ xs. xs ++ entry) o.holds.entries ∙ (ap (λ xs. flat_map (entry_octets peers ids) p.candidates ++ xs) e5 ∙ sym (push (entry_octets peers ids) p.candidates c)));
      };
      makes = ap (λ n. out ++ piece_records peers ids n (pieces_from peers ids (with_candidate p c) rest)) e1 ∙ (ap (λ ps. out ++ piece_records peers ids old.number ps) (sym more) ∙ o.makes);
    }

-- numbers have four octets, so that behind the last of these comes 0
round_number : (peers : List Peer) (ids : Bool) (n m : ℕ) (p : Piece) → n % 2 ^ 32 ≡ m % 2 ^ 32 → piece_record peers ids n p ≡ piece_record peers ids m p
unfolding piece_record piece_body
round_number peers ids n m p e = ap (λ k. record_octets 13 (rib_subtype ids p.prefix.family) (number_octets 4 k ++ (prefix_octets p.prefix ++ (number_octets 2 (length p.candidates) ++ flat_map (entry_octets peers ids) p.candidates)))) e

rounded : (peers : List Peer) (ids : Bool) (n m : ℕ) (ps : List Piece) → n % 2 ^ 32 ≡ m % 2 ^ 32 → piece_records peers ids n ps ≡ piece_records peers ids m ps
unfolding piece_records
rounded peers ids n m [] e = refl
rounded peers ids n m (p ∷ ps) e = ap (λ xs. xs ++ piece_records peers ids (n + 1) ps) (round_number peers ids n m p e) ∙ ap (λ xs. piece_record peers ids m p ++ xs) (rounded peers ids (n + 1) (m + 1) ps (omega (arith, e)))

round_numbers : (peers : List Peer) (ids : Bool) (n : ℕ) (ps : List Piece) → piece_records peers ids n ps ≡ piece_records peers ids (n % 2 ^ 32) ps
round_numbers peers ids n ps = rounded peers ids n (n % 2 ^ 32) ps (omega arith)

pub open_closes : (peers : List Peer) (ids : Bool) (old new : Open) (out after : List ℕ) (c : Place × PathAttrs) (entry : List ℕ) (rest : Candidates) (whole : List ℕ)
    → new.number ≡ (old.number + 1) % 2 ^ 32 → prefix_as new.prefix ≡ c.0.prefix → new.count ≡ 1 → new.entries.items ≡ entry → entry ≡ entry_octets peers ids c → Tells false peers ids old entry c
    → ((p : Piece) → p.prefix ≡ prefix_as old.prefix → length p.candidates ≡ old.count → old.entries.items ≡ flat_map (entry_octets peers ids) p.candidates → after ≡ out ++ piece_record peers ids old.number p)
    → OpenLeadsTo peers ids old out (c ∷ rest) whole → OpenLeadsTo peers ids new after rest whole
unfolding pieces_from piece_records
open_closes peers ids old new out after c entry rest whole e1 e2 e3 e4 e5 tells put o =
    let p = o.piece in
    let no_fits : has_place peers ids p c ≡ false = sym (told false peers ids old entry c p tells e5 o.holds) in
    let behind = pieces_from peers ids (piece_of c) rest in
    let more : pieces_from peers ids p (c ∷ rest) ≡ p ∷ behind = ap (λ b. if b then pieces_from peers ids (with_candidate p c) rest else p ∷ pieces_from peers ids (piece_of c) rest) no_fits in
    let written : after ≡ out ++ piece_record peers ids old.number p = put p o.holds.prefix o.holds.count o.holds.entries in
    record {
      piece = piece_of c;
      holds = record {
        prefix = sym e2;
        count = sym e3;
        entries = e4 ∙ (e5 ∙ sym (append-nil (entry_octets peers ids c)));
      };
      makes = ap (λ n. after ++ piece_records peers ids n behind) e1
          ∙ (ap (λ xs. after ++ xs) (sym (round_numbers peers ids (old.number + 1) behind))
          ∙ (ap (λ xs. xs ++ piece_records peers ids (old.number + 1) behind) written
          ∙ (append_assoc out (piece_record peers ids old.number p) (piece_records peers ids (old.number + 1) behind)
          ∙ (ap (λ ps. out ++ piece_records peers ids old.number ps) (sym more) ∙ o.makes))));
    }

-- ---- over all candidates

-- the first record is opened
pub open_starts : (peers : List Peer) (ids : Bool) (o : Open) (out : List ℕ) (c : Place × PathAttrs) (rest : Candidates) (whole : List ℕ) → o.number ≡ 0 → prefix_as o.prefix ≡ c.0.prefix → o.count ≡ 1 → o.entries.items ≡ entry_octets peers ids c
    → LeadsTo peers ids None out (c ∷ rest) whole → OpenLeadsTo peers ids o out rest whole
unfolding pieces_of
open_starts peers ids o out c rest whole e1 e2 e3 e4 h = record {
  piece = piece_of c;
  holds = record { prefix = sym e2; count = sym e3; entries = e4 ∙ sym (append-nil (entry_octets peers ids c)) };
  makes = ap (λ n. out ++ piece_records peers ids n (pieces_from peers ids (piece_of c) rest)) e1 ∙ h;
}

-- the last one is put
pub open_ends : (peers : List Peer) (ids : Bool) (o : Open) (out after whole : List ℕ) → OpenLeadsTo peers ids o out [] whole
    → ((p : Piece) → p.prefix ≡ prefix_as o.prefix → length p.candidates ≡ o.count → o.entries.items ≡ flat_map (entry_octets peers ids) p.candidates → after ≡ out ++ piece_record peers ids o.number p) → after ≡ whole
unfolding pieces_from piece_records
open_ends peers ids o out after whole is put =
    let p = is.piece in
    put p is.holds.prefix is.holds.count is.holds.entries ∙ (ap (λ xs. out ++ xs) (sym (append-nil (piece_record peers ids o.number p))) ∙ is.makes)

-- or there is none
pub none_ends : (peers : List Peer) (ids : Bool) (out whole : List ℕ) → LeadsTo peers ids None out [] whole → out ≡ whole
unfolding pieces_of piece_records
none_ends peers ids out whole h = sym (append-nil out) ∙ h
