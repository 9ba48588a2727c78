-- Parts that were put one behind the other are what they are to be.
use Rattle.std.proofs.Common.{◌≡◌, ℕ, zero, suc, ◌+◌, ◌-◌, ◌*◌, ◌/◌, ◌%◌, ◌^◌, ◌<◌, ◌≤◌, min, Bool, true, false, List, [], ◌∷◌, ◌++◌, length, take, replicate, refl, sym, ap, ◌∙◌, append_assoc, append-nil, mod-eq_of_lt, add-one, subst, arith}
use Rattle.std.specs.Prelude.{flat_map, Result, Ok, Err, OnOk, nat_lt, ◌==◌, if◌then◌else◌}
use Rattle.std.specs.Int.{bytes_high_first}
use Rattle.std.proofs.lemmas.List.{length-take-le, length-replicate}
use Rattle.std.proofs.lemmas.Nat.{mod_below, shr_split, shr_below}
use Rattle.table_model.specs.declared.family.Family.{Family}
use Rattle.table_model.specs.Address.{Address, Prefix}
use Rattle.table_model.specs.Bits.{bits_of, value_of}
use Rattle.table_model.specs.Order.{filled}
use Rattle.table_model.specs.Width.{width}
use Rattle.table_model.proofs.BitLaws.{length-bits_of, value-bits_of, value-append, value-zeros, bits_take}
use Rattle.wire_model.specs.Wire.{octets_for}
use Rattle.wire_model.specs.Octets.{number_octets, prefix_octets, as_path_octets, record_octets}
use Rattle.mrt_write.specs.Checkpoint.{Piece, rib_subtype, piece_body, piece_record}
use Rattle.wire_model.specs.Octets.{behind_length}
use Rattle.wire_model.proofs.Fields.{length-number_octets}
use Rattle.mrt_write.proofs.Sharing.{length_prefix}
use Rattle.std.proofs.lemmas.List.{length-append}
use Rattle.wire_model.specs.Octets.{address_octets}
use Rattle.mrt_write.specs.Entries.{path_octets, path_attribute, id_octets, attributes_of, peer_index, entry_octets}
use Rattle.route_model.specs.Events.{Peer}
use Rattle.route_model.specs.Choice.{Place, PathAttrs}
use Rattle.std.proofs.lemmas.Bool.{ne_eqb, lt-ltb, le-ltb}
use Rattle.fib_addr.specs.Views.{addr_as, prefix_as}
use Rattle.mrt_write.specs.Views.{as_path_of}
use Rattle.fib_addr.specs.declared.addr.Addr as code_addr
use Rattle.fib_addr.specs.declared.prefix.Prefix as code_prefix

-- the octets of an address by the number of its bits
pub address_written : (f : Family) (n : ℕ) → n < 2 ^ width f → (let a : Address = record { family = f; bits = bits_of (width f) n } in bytes_high_first (octets_for (width f)) n ≡ address_octets a)
unfolding number_octets
address_written f n h = ap (bytes_high_first (octets_for (width f))) (sym (value-bits_of (width f) n ∙ mod-eq_of_lt h))

-- ---- sequences

abbrev pub sequences : ℕ → ℕ → List ℕ
sequences asn m = flat_map (as_path_octets asn) (replicate m 255)

sequences_behind : (asn m : ℕ) → as_path_octets asn 255 ++ sequences asn m ≡ sequences asn m ++ as_path_octets asn 255
sequences_behind asn zero = append-nil (as_path_octets asn 255)
sequences_behind asn (suc m) = ap (λ xs. as_path_octets asn 255 ++ xs) (sequences_behind asn m) ∙ sym (append_assoc (as_path_octets asn 255) (sequences asn m) (as_path_octets asn 255))

pub sequence_put : (before after new : List ℕ) (asn m : ℕ) → after ≡ before ++ sequences asn m → new ≡ after ++ as_path_octets asn 255 → new ≡ before ++ sequences asn (m + 1)
sequence_put before after new asn m e h =
    let more : sequences asn m ++ as_path_octets asn 255 ≡ sequences asn (m + 1) = sym (sequences_behind asn m) ∙ ap (sequences asn) (sym (add-one m)) in
    h ∙ (ap (λ xs. xs ++ as_path_octets asn 255) e ∙ (append_assoc before (sequences asn m) (as_path_octets asn 255) ∙ ap (λ xs. before ++ xs) more))

pub path_whole : (before : List ℕ) (asn n : ℕ) → n % 255 ≡ 0 → before ++ sequences asn (n / 255) ≡ before ++ path_octets asn n
unfolding path_octets
path_whole before asn n e =
    let none : (n % 255 == 0) ≡ true = ap (λ k. k == 0) e in
    ap (λ xs. before ++ xs) (sym (append-nil (sequences asn (n / 255))) ∙ ap (λ b. sequences asn (n / 255) ++ (if b then [] else as_path_octets asn (n % 255))) (sym none))

pub path_rest : (before : List ℕ) (asn n : ℕ) → (n % 255 == 0) ≡ false → (before ++ sequences asn (n / 255)) ++ as_path_octets asn (n % 255) ≡ before ++ path_octets asn n
unfolding path_octets
path_rest before asn n e =
    append_assoc before (sequences asn (n / 255)) (as_path_octets asn (n % 255)) ∙ ap (λ b. before ++ (sequences asn (n / 255) ++ (if b then [] else as_path_octets asn (n % 255)))) (sym e)

-- ---- addresses and prefixes of the code

pub addr_written : (a : code_addr.Addr) (f : Family) → a.family ≡ f → bytes_high_first (octets_for (width f)) a.bits ≡ address_octets (addr_as a)
addr_written a f e = ap (λ g. bytes_high_first (octets_for (width g)) a.bits) (sym e) ∙ address_written a.family a.bits a.below

pub ceiling : (n : ℕ) → n / 8 + min 1 (n % 8) ≡ octets_for n
ceiling n = by_rest (n % 8) (mod_below n 8 (omega arith)) refl
  where
    by_rest : (r : ℕ) → r < 8 → n % 8 ≡ r → n / 8 + min 1 r ≡ (n + 7) / 8
    by_rest zero h e = omega arith
    by_rest (suc r) h e = let one : min 1 (suc r) ≡ 1 = omega arith in omega arith

-- the least address of a prefix of an address whose other bits are cleared
filled_is : (f : Family) (n len : ℕ) → len ≤ width f → n < 2 ^ width f → n % 2 ^ (width f - len) ≡ 0 → (let p : Prefix = record { family = f; bits = take len (bits_of (width f) n) } in filled p ≡ n)
filled_is f n len has_place below cleared =
    let w = width f in
    let s = w - len in
    let bits = take len (bits_of w n) in
    let long : length bits ≡ len = length-take-le len (bits_of w n) (omega (arith, length-bits_of w n)) in
    let zeros = replicate (w - length bits) false in
    let spare : length zeros ≡ s = length-replicate (w - length bits) false ∙ ap (λ k. w - k) long in
    let whole : len + s ≡ w = omega arith in
    let high : n / 2 ^ s < 2 ^ len = shr_below n len s (subst (λ k. n < 2 ^ k) (sym whole) below) in
    let value : value_of bits ≡ n / 2 ^ s = ap value_of (bits_take w len n has_place) ∙ (value-bits_of len (n / 2 ^ s) ∙ mod-eq_of_lt high) in
    let none : value_of zeros ≡ 0 = value-zeros (w - length bits) in
    let split : n / 2 ^ s * 2 ^ s + n % 2 ^ s ≡ n = shr_split n s in
    let moved : value_of bits * 2 ^ length zeros ≡ n / 2 ^ s * 2 ^ s = ap (λ k. value_of bits * 2 ^ k) spare ∙ ap (λ k. k * 2 ^ s) value in
    value-append bits zeros ∙ omega arith

prefix_written : (p : code_prefix.Prefix) → p.len ∷ take (octets_for p.len) (bytes_high_first (octets_for (width p.family)) p.bits) ≡ prefix_octets (prefix_as p)
unfolding prefix_octets number_octets
prefix_written p =
    let long : length (take p.len (bits_of (width p.family) p.bits)) ≡ p.len = length-take-le p.len (bits_of (width p.family) p.bits) (let has_place : p.len ≤ width p.family = p.fits in omega (arith, length-bits_of (width p.family) p.bits)) in
    rw (filled_is p.family p.bits p.len p.fits p.below p.cleared, long) refl

pub prefix_put : (before octets : List ℕ) (p : code_prefix.Prefix) (f : Family) → p.family ≡ f → octets ≡ bytes_high_first (octets_for (width f)) p.bits → before ++ p.len ∷ take (octets_for p.len) octets ≡ before ++ prefix_octets (prefix_as p)
prefix_put before octets p f e h =
    ap (λ xs. before ++ p.len ∷ take (octets_for p.len) xs) (h ∙ ap (λ g. bytes_high_first (octets_for (width g)) p.bits) (sym e)) ∙ ap (λ xs. before ++ xs) (prefix_written p)

-- ---- AS_PATH

pub path_none : (before : List ℕ) (asn n : ℕ) → n ≡ 0 → before ≡ before ++ path_attribute asn n
unfolding path_attribute
path_none before asn n e = let none : (n == 0) ≡ true = ap (λ k. k == 0) e in sym (append-nil before) ∙ ap (λ xs. before ++ xs) (sym (rw none refl))

-- three octets, one by one
pub three_behind : (before one two three : List ℕ) (a b c : ℕ) → one ≡ before ++ a ∷ [] → two ≡ one ++ b ∷ [] → three ≡ two ++ c ∷ [] → three ≡ before ++ a ∷ b ∷ c ∷ []
three_behind before one two three a b c e f g =
    g ∙ (ap (λ xs. xs ++ c ∷ []) (f ∙ ap (λ xs. xs ++ b ∷ []) e) ∙ (ap (λ xs. xs ++ c ∷ []) (append_assoc before (a ∷ []) (b ∷ [])) ∙ append_assoc before (a ∷ b ∷ []) (c ∷ [])))

pub value_short : (before value : List ℕ) → length value < 256 → (before ++ 64 ∷ 2 ∷ length value ∷ []) ++ value ≡ before ++ as_path_of value
value_short before value few =
    let short : nat_lt (length value) 256 ≡ true = lt-ltb _ _ few in
    append_assoc before (64 ∷ 2 ∷ length value ∷ []) value ∙ ap (λ b. before ++ (if b then 64 ∷ 2 ∷ length value ∷ value else 80 ∷ 2 ∷ behind_length value)) (sym short)

pub value_long : (before value : List ℕ) → 256 ≤ length value → (before ++ 80 ∷ 2 ∷ []) ++ behind_length value ≡ before ++ as_path_of value
value_long before value many =
    let long : nat_lt (length value) 256 ≡ false = le-ltb _ _ many in
    append_assoc before (80 ∷ 2 ∷ []) (behind_length value) ∙ ap (λ b. before ++ (if b then 64 ∷ 2 ∷ length value ∷ value else 80 ∷ 2 ∷ behind_length value)) (sym long)

pub path_some : (before value : List ℕ) (asn n : ℕ) → (n ≡ 0 → ⊥) → value ≡ path_octets asn n → before ++ as_path_of value ≡ before ++ path_attribute asn n
unfolding path_attribute
path_some before value asn n some e =
    let not_none : (n == 0) ≡ false = ne_eqb n 0 some in
    ap (λ xs. before ++ as_path_of xs) e ∙ ap (λ b. before ++ (if b then [] else as_path_of (path_octets asn n))) (sym not_none)

-- ---- an entry

pub on_ok : {X E P Q : Type 0} (r : Result X E) → OnOk r P → (P → Q) → OnOk r Q
on_ok (Ok x) p f = f p
on_ok (Err d) p f = tt

pub no_id : (before : List ℕ) (ids : Bool) (id : ℕ) → ids ≡ false → before ≡ before ++ id_octets ids id
unfolding number_octets
no_id before ids id e = sym (append-nil before) ∙ ap (λ b. before ++ id_octets b id) (sym e)

pub part_is : (deref part cleared list : List ℕ) → deref ≡ part → part ≡ cleared ++ list → cleared ≡ [] → deref ≡ list
part_is deref part cleared list e h k = e ∙ (h ∙ ap (λ xs. xs ++ list) k)

pub entry_put : (before a b d part : List ℕ) (index : ℕ) (ids : Bool) (c : Place × PathAttrs) (peers : List Peer) → a ≡ before ++ number_octets 2 index → b ≡ a ++ number_octets 4 0 → d ≡ b ++ id_octets ids c.0.via.id → part ≡ attributes_of c → peer_index peers c.0.via.peer ≡ index
    → d ++ behind_length part ≡ before ++ entry_octets peers ids c
unfolding entry_octets
entry_put before a b d part index ids c peers e1 e2 e3 e4 e5 = rw (e4, e3, e2, e1, e5) (simp append_assoc refl)

-- ---- a record

pub body_is : (cleared a b d body entries : List ℕ) (number count : ℕ) (ids : Bool) (prefix : Prefix) (peers : List Peer) (p : Piece) → cleared ≡ [] → a ≡ cleared ++ number_octets 4 (number % 2 ^ 32) → b ≡ a ++ prefix_octets prefix → d ≡ b ++ number_octets 2 count → body ≡ d ++ entries
    → p.prefix ≡ prefix → length p.candidates ≡ count → entries ≡ flat_map (entry_octets peers ids) p.candidates → body ≡ piece_body peers ids number p
unfolding piece_body
body_is cleared a b d body entries number count ids prefix peers p e0 e1 e2 e3 e4 e5 e6 e7 = rw (e4, e3, e2, e1, e0, e5, e6, e7) (simp append_assoc refl)

pub record_is : (out old body : List ℕ) (number : ℕ) (ids : Bool) (f : Family) (peers : List Peer) (p : Piece) → out ≡ old ++ record_octets 13 (rib_subtype ids f) body → p.prefix.family ≡ f → body ≡ piece_body peers ids number p → out ≡ old ++ piece_record peers ids number p
unfolding piece_record
record_is out old body number ids f peers p e h k = e ∙ (ap (λ g. old ++ record_octets 13 (rib_subtype ids g) body) (sym h) ∙ ap (λ xs. old ++ record_octets 13 (rib_subtype ids p.prefix.family) xs) k)

pub body_few : (cleared a b d body entries : List ℕ) (number count : ℕ) (prefix : Prefix) → cleared ≡ [] → a ≡ cleared ++ number_octets 4 number → b ≡ a ++ prefix_octets prefix → d ≡ b ++ number_octets 2 count → body ≡ d ++ entries → length body ≤ 23 + length entries
body_few cleared a b d body entries number count prefix e0 e1 e2 e3 e4 =
    omega (arith, ap length e0, ap length e1, ap length e2, ap length e3, ap length e4, length-append cleared (number_octets 4 number), length-append a (prefix_octets prefix), length-append b (number_octets 2 count), length-append d entries, length-number_octets 4 number, length-number_octets 2 count, length_prefix prefix)
