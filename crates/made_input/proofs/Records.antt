-- Records that were put one behind the other.
use Rattle.std.proofs.Common.{◌≡◌, ℕ, zero, suc, ◌+◌, ◌≤◌, true, false, List, [], ◌∷◌, ◌++◌, length, replicate, refl, sym, ap, ◌∙◌, append_assoc, append-nil, arith}
use Rattle.std.specs.Prelude.{flat_map}
use Rattle.std.specs.List.{range_with_len}
use Rattle.std.proofs.lemmas.List.{length-take-le}
use Rattle.table_model.specs.declared.family.Family.TheVariants.{V4}
use Rattle.table_model.specs.Address.{Prefix, first_bits}
use Rattle.table_model.specs.Bits.{bits_of}
use Rattle.table_model.proofs.BitLaws.{length-bits_of}
use Rattle.wire_model.proofs.Prefixes.{length-prefix}
use Rattle.made_input.specs.Drawn.{DrawnRoute, DrawnOffer, peer_octets, made_asn}
use Rattle.wire_model.specs.Octets.{number_octets, behind_length, prefix_octets}
use Rattle.made_input.specs.Files.{attrs_attributes, peer_entry, peer_table_body, rib_body, message_octets, session_body, update_body}
use Rattle.made_input.proofs.AttributeReading.{length-attributes}

-- the piece of one more number
pub pieces_more : (f : ℕ → List ℕ) (a n j : ℕ) → a + n ≡ j → flat_map f (range_with_len a (n + 1)) ≡ flat_map f (range_with_len a n) ++ f j
pieces_more f a zero j e = let same : a ≡ j = omega arith in ap (λ (i : ℕ). f i ++ []) same ∙ append-nil (f j)
pieces_more f a (suc n) j e =
    let more : suc n + 1 ≡ suc (n + 1) = omega arith in
    ap (λ (k : ℕ). flat_map f (range_with_len a k)) more
    ∙ (ap (λ (xs : List ℕ). f a ++ xs) (pieces_more f (a + 1) n j (omega arith)) ∙ sym (append_assoc (f a) (flat_map f (range_with_len (a + 1) n)) (f j)))

-- ---- the dump

pub peer_put : (before a b c : List ℕ) (address : List ℕ) (peer : ℕ) → address ≡ peer_octets peer → a ≡ before ++ 2 ∷ [] → b ≡ a ++ address → c ≡ b ++ address → c ++ number_octets 4 (made_asn peer) ≡ before ++ peer_entry peer
unfolding peer_entry
peer_put before a b c address peer s e f g = rw (g, f, e, s) (simp append_assoc refl)

pub table_put : (before a b c : List ℕ) → a ≡ before ++ number_octets 4 0 → b ≡ a ++ number_octets 2 0 → c ≡ b ++ number_octets 2 8 → c ++ flat_map peer_entry (range_with_len 0 8) ≡ before ++ peer_table_body
unfolding peer_table_body
table_put before a b c e f g = rw (g, f, e) (simp append_assoc refl)

-- a part behind nothing
pub alone : (cleared part xs : List ℕ) → cleared ≡ [] → part ≡ cleared ++ xs → part ≡ xs
alone cleared part xs e h = h ∙ ap (λ (ys : List ℕ). ys ++ xs) e

pub attributes_few : (part : List ℕ) (peer : ℕ) (o : DrawnOffer) → o.path ≤ 4 → part ≡ attrs_attributes peer o → length part ≤ 32
attributes_few part peer o short e = omega (arith, ap length e, length-attributes peer o)

pub rib_put : (before a b c d f part : List ℕ) (i : ℕ) (r : DrawnRoute) (o : DrawnOffer) → a ≡ before ++ number_octets 4 i → b ≡ a ++ prefix_octets r.prefix → c ≡ b ++ number_octets 2 1 → d ≡ c ++ number_octets 2 r.peer → f ≡ d ++ number_octets 4 0 → part ≡ attrs_attributes r.peer o → f ++ behind_length part ≡ before ++ rib_body i r o
unfolding rib_body
rib_put before a b c d f part i r o e1 e2 e3 e4 e5 e6 = rw (e6, e5, e4, e3, e2, e1) (simp append_assoc refl)

-- ---- the updates

pub prefix_few : (part : List ℕ) (address len : ℕ) → len ≤ 24 → part ≡ prefix_octets (first_bits len (record { family = V4; bits = bits_of 32 address })) → length part ≤ 4
prefix_few part address len few e =
    let p : Prefix = first_bits len (record { family = V4; bits = bits_of 32 address }) in
    let long : length p.bits ≡ len = length-take-le len (bits_of 32 address) (omega (arith, length-bits_of 32 address)) in
    omega (arith, ap length e, length-prefix p refl (omega arith))

pub withdrawal_put : (before a part : List ℕ) (r : DrawnRoute) (o : DrawnOffer) → part ≡ prefix_octets r.prefix → a ≡ before ++ behind_length part → a ++ number_octets 2 0 ≡ before ++ update_body true r o
unfolding update_body
withdrawal_put before a part r o e h = rw (h, e) (append_assoc before (behind_length (prefix_octets r.prefix)) (number_octets 2 0))

pub announcement_put : (before a b part : List ℕ) (r : DrawnRoute) (o : DrawnOffer) → part ≡ attrs_attributes r.peer o → a ≡ before ++ number_octets 2 0 → b ≡ a ++ behind_length part → b ++ prefix_octets r.prefix ≡ before ++ update_body false r o
unfolding update_body
announcement_put before a b part r o e f g = rw (g, f, e) (simp append_assoc refl)

pub message_put : (before a b c update : List ℕ) → a ≡ before ++ replicate 16 255 → b ≡ a ++ number_octets 2 (19 + length update) → c ≡ b ++ 2 ∷ [] → c ++ update ≡ before ++ message_octets update
unfolding message_octets
message_put before a b c update e f g = rw (g, f, e) (simp append_assoc refl)

pub session_put : (before a b c d f g message address : List ℕ) (peer : ℕ) → a ≡ before ++ number_octets 4 (made_asn peer) → b ≡ a ++ number_octets 4 64511 → c ≡ b ++ number_octets 2 0 → d ≡ c ++ number_octets 2 1 → f ≡ d ++ address → address ≡ peer_octets peer → g ≡ f ++ (192 ∷ 0 ∷ 2 ∷ 254 ∷ []) → g ++ message ≡ before ++ session_body peer message
unfolding session_body
session_put before a b c d f g message address peer e1 e2 e3 e4 e5 e6 e7 = rw (e7, e5, e6, e4, e3, e2, e1) (simp append_assoc refl)

-- ---- one piece behind others

pub piece_put : (f : ℕ → List ℕ) (start after new : List ℕ) (i : ℕ) → after ≡ start ++ flat_map f (range_with_len 0 i) → new ≡ after ++ f i → new ≡ start ++ flat_map f (range_with_len 0 (i + 1))
piece_put f start after new i e h =
    h ∙ (ap (λ (xs : List ℕ). xs ++ f i) e ∙ (append_assoc start (flat_map f (range_with_len 0 i)) (f i)
    ∙ ap (λ (xs : List ℕ). start ++ xs) (sym (pieces_more f 0 i i (omega arith)))))
