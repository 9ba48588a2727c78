-- The two directions of address text.
use Rattle.std.proofs.Common.{◌≡◌, ℕ, ◌*◌, ◌^◌, ◌<◌, ◌≤◌, List, [], ◌∷◌, ◌++◌, Bool, Some, length, take, drop, sym, ap, ◌∙◌, arith}
use Rattle.std.proofs.lemmas.List.{take-append-drop, length-take, length-drop}
use Rattle.std.proofs.Common.{length-append}
use Rattle.std.proofs.Math.Pow.{pow_mono}
use Rattle.table_model.specs.Width.{width}
use Rattle.table_model.specs.Bits.{bits_of, octet_bits}
use Rattle.table_model.specs.Address.{Address, IsAddress}
use Rattle.table_model.specs.declared.family.Family.{Family}
use Rattle.table_model.specs.declared.family.Family.TheVariants.{V4, V6}
use Rattle.table_model.proofs.BitLaws.{length-bits_of, value-lt}
use Rattle.std.proofs.Common.{true, false, cond}
use Rattle.std.specs.List.{list_any}
use Rattle.std.proofs.lemmas.Bool.{cond-true}
use Rattle.fib_addr.specs.Text.{octet_of, bits_text, address_text, address_in, ipv4_in, ipv6_in, is_dot}
use Rattle.fib_addr.proofs.Texts.{ipv4_in-dotted, address_read, octets_back}
use Rattle.fib_addr.proofs.GroupTexts.{dotted_has_dot}
use Rattle.fib_addr.proofs.GroupLaws.{same_number, drop_more, none_left, ipv6_written, ipv6_read, ipv6_family}

pub octet_lt : (bits : List Bool) (k : ℕ) → octet_of k bits < 256
octet_lt bits k =
    let part = take 8 (drop (8 * k) bits) in
    let most : 2 ^ length part ≤ 2 ^ 8 = pow_mono {j = 8} (omega (arith, length-take 8 (drop (8 * k) bits))) in
    omega (arith, value-lt part, most)

first_octet : (bits : List Bool) → 8 ≤ length bits → bits ≡ bits_of 8 (octet_of 0 bits) ++ drop 8 bits
first_octet bits h = sym (take-append-drop 8 bits) ∙ ap (λ x. x ++ drop 8 bits) (same_number 8 (take 8 bits) (omega (arith, length-take 8 bits)))

four : (bits : List Bool) → length bits ≡ 32 → bits ≡ octet_bits (octet_of 0 bits ∷ octet_of 1 bits ∷ octet_of 2 bits ∷ octet_of 3 bits ∷ [])
unfolding octet_bits
four bits e =
    first_octet bits (omega arith)
    ∙ ap (λ x. bits_of 8 (octet_of 0 bits) ++ x)
    (first_octet (drop 8 bits) (omega (arith, length-drop 8 bits))
    ∙ ap (λ x. bits_of 8 (octet_of 1 bits) ++ x)
    (sym (drop_more 8 8 bits)
    ∙ (first_octet (drop 16 bits) (omega (arith, length-drop 16 bits))
    ∙ ap (λ x. bits_of 8 (octet_of 2 bits) ++ x)
    (sym (drop_more 16 8 bits)
    ∙ (first_octet (drop 24 bits) (omega (arith, length-drop 24 bits))
    ∙ ap (λ x. bits_of 8 (octet_of 3 bits) ++ x) (sym (drop_more 24 8 bits) ∙ none_left (drop 32 bits) (omega (arith, length-drop 32 bits))))))))

ipv4_bits : (bits : List Bool) → length bits ≡ 32 → address_in (bits_text V4 bits) ≡ Some (record { family = V4; bits = bits })
ipv4_bits bits e =
    cond-true _ _ _ (dotted_has_dot (octet_of 0 bits) (octet_of 1 bits) (octet_of 2 bits) (octet_of 3 bits))
    ∙ (ipv4_in-dotted _ _ _ _ (octet_lt bits 0) (octet_lt bits 1) (octet_lt bits 2) (octet_lt bits 3)
    ∙ ap (λ x. let a : Address = record { family = V4; bits = x } in Some a) (sym (four bits e)))

-- what is written of an address is read as it
pub written_is_read : (a : Address) → IsAddress a → address_in (address_text a) ≡ Some a
written_is_read a h = by_family a.family h
  where
    by_family : (f : Family) → length a.bits ≡ width f → address_in (bits_text f a.bits) ≡ Some (record { family = f; bits = a.bits })
    by_family V4 e = ipv4_bits a.bits e
    by_family V6 e = ipv6_written a.bits e

-- an IPv4 address that is read has 32 bits, and was written so
ipv4_read : (text : List ℕ) (a : Address) → ipv4_in text ≡ Some a → IsAddress a × (text ≡ address_text a)
unfolding octet_bits
ipv4_read text a e =
    let r = address_read text a e in
    let len : length (octet_bits (r.a ∷ r.b ∷ r.c ∷ r.d ∷ [])) ≡ 32 = simp (length-append, length-bits_of) in (
      ap (λ (x : Address). length x.bits) r.address ∙ (len ∙ sym (ap (λ (x : Address). width x.family) r.address)),
      r.spelled ∙ (sym (octets_back r.a r.b r.c r.d r.fit.0 r.fit.1 r.fit.2 r.fit.3) ∙ sym (ap address_text r.address)),
    )

-- what is read as an address is one
pub read_is_address : (text : List ℕ) (a : Address) → address_in text ≡ Some a → IsAddress a
read_is_address text a e = by_dot (list_any is_dot text) e
  where
    by_dot : (t : Bool) → cond t (ipv4_in text) (ipv6_in text) ≡ Some a → IsAddress a
    by_dot true f = (ipv4_read text a f).0
    by_dot false f = ipv6_read text a f

-- what is read as an IPv4 address was written of it
pub read_is_written : (text : List ℕ) (a : Address) → address_in text ≡ Some a → a.family ≡ V4 → text ≡ address_text a
read_is_written text a e v = by_dot (list_any is_dot text) e
  where
    by_dot : (t : Bool) → cond t (ipv4_in text) (ipv6_in text) ≡ Some a → text ≡ address_text a
    by_dot true f = (ipv4_read text a f).1
    by_dot false f = let no : V6 ≡ V4 = sym (ipv6_family text a f) ∙ v in absurd cc
