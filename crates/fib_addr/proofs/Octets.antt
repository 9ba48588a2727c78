-- Addresses as std's four octets.
use Rattle.std.proofs.Common.{◌≡◌, ℕ, ◌+◌, ◌-◌, ◌/◌, ◌%◌, ◌^◌, ◌<◌, List, [], ◌∷◌, Option, Some, None, length, take, drop, refl, sym, ap, ◌∙◌, arith, get_or, zero, suc}
use Rattle.std.specs.Int.{w32, to_be_bytes, from_be_bytes}
use Rattle.std.specs.Net.Text.{dotted_text, ipv4_text}
use Rattle.std.specs.Net.Grammar.{IsDotted, IsIpv4Text}
use Rattle.std.specs.declared.net.ipv4_addr.Ipv4Addr.{Ipv4Addr}
use Rattle.std.proofs.Math.Seq.{drop-append-add}
use Rattle.table_model.specs.Bits.{bits_of, value_of, number, octet_bits}
use Rattle.table_model.specs.Width.{width}
use Rattle.table_model.specs.Address.{Address}
use Rattle.table_model.specs.declared.family.Family.{Family}
use Rattle.table_model.specs.declared.family.Family.TheVariants.{V4}
use Rattle.table_model.proofs.BitLaws.{length-bits_of, value-bits_of, bits_split, bits_take, bits_of-number}
use Rattle.fib_addr.specs.Text.{octet_of, bits_text, ipv4_in}
use Rattle.fib_addr.proofs.Texts.{ipv4_in-dotted, address_read, IsDottedText}

pub drop_bits : (j k n : ℕ) → drop j (bits_of (j + k) n) ≡ bits_of k n
drop_bits j k n =
    let e : length (bits_of j (n / 2 ^ k)) + 0 ≡ j = omega (arith, length-bits_of j (n / 2 ^ k)) in
    ap (λ i. drop i (bits_of (j + k) n)) (sym e) ∙ (ap (drop (length (bits_of j (n / 2 ^ k)) + 0)) (bits_split j k n) ∙ drop-append-add (bits_of j (n / 2 ^ k)) (bits_of k n) 0)

octet_front : (k n : ℕ) → value_of (take 8 (bits_of (8 + k) n)) ≡ n / 2 ^ k % 2 ^ 8
octet_front k n =
    let e : (8 + k) - 8 ≡ k = omega arith in
    ap value_of (bits_take (8 + k) 8 n (omega arith)) ∙ (value-bits_of 8 (n / 2 ^ ((8 + k) - 8)) ∙ ap (λ j. n / 2 ^ j % 2 ^ 8) e)

-- the octets of a number are written as those of its bits
octets_written : (n : ℕ) → ipv4_text (to_be_bytes w32 n) ≡ bits_text V4 (bits_of 32 n)
octets_written n =
    let a : n / 2 ^ 24 % 2 ^ 8 ≡ octet_of 0 (bits_of 32 n) = sym (octet_front 24 n) in
    let b : n / 2 ^ 16 % 2 ^ 8 ≡ octet_of 1 (bits_of 32 n) = sym (ap (λ x. value_of (take 8 x)) (drop_bits 8 24 n) ∙ octet_front 16 n) in
    let c : n / 2 ^ 8 % 2 ^ 8 ≡ octet_of 2 (bits_of 32 n) = sym (ap (λ x. value_of (take 8 x)) (drop_bits 16 16 n) ∙ octet_front 8 n) in
    let last : n % 2 ^ 8 ≡ n / 2 ^ 0 % 2 ^ 8 = ap (λ x. x % 2 ^ 8) (omega arith) in
    let d : n % 2 ^ 8 ≡ octet_of 3 (bits_of 32 n) = last ∙ sym (ap (λ x. value_of (take 8 x)) (drop_bits 24 8 n) ∙ octet_front 0 n) in
    ap (λ i. dotted_text i (n / 2 ^ 16 % 2 ^ 8) (n / 2 ^ 8 % 2 ^ 8) (n % 2 ^ 8)) a
    ∙ (ap (λ i. dotted_text (octet_of 0 (bits_of 32 n)) i (n / 2 ^ 8 % 2 ^ 8) (n % 2 ^ 8)) b
    ∙ (ap (λ i. dotted_text (octet_of 0 (bits_of 32 n)) (octet_of 1 (bits_of 32 n)) i (n % 2 ^ 8)) c
    ∙ ap (dotted_text (octet_of 0 (bits_of 32 n)) (octet_of 1 (bits_of 32 n)) (octet_of 2 (bits_of 32 n))) d))

pub address_written : (f : Family) (n : ℕ) (octets text : List ℕ) → f ≡ V4 → octets ≡ to_be_bytes w32 n → text ≡ ipv4_text octets → text ≡ bits_text f (bits_of (width f) n)
address_written f n octets text e o t = t ∙ (ap ipv4_text o ∙ (octets_written n ∙ ap (λ k. bits_text k (bits_of (width k) n)) (sym e)))

-- ---- reading

of_four : (a b c d : ℕ) → from_be_bytes w32 (a ∷ b ∷ c ∷ d ∷ []) ≡ number (a ∷ b ∷ c ∷ d ∷ [])
unfolding number
of_four a b c d = omega arith

pub dotted_read : (text octets : List ℕ) (n : ℕ) → IsDotted text octets → n ≡ from_be_bytes w32 octets → Some (record { family = V4; bits = bits_of 32 n }) ≡ ipv4_in text
dotted_read text octets n t e =
    let same : n ≡ number (t.a ∷ t.b ∷ t.c ∷ t.d ∷ []) = e ∙ (ap (from_be_bytes w32) t.value ∙ of_four t.a t.b t.c t.d) in
    let bits : bits_of 32 n ≡ octet_bits (t.a ∷ t.b ∷ t.c ∷ t.d ∷ []) = ap (bits_of 32) same ∙ bits_of-number (t.a ∷ t.b ∷ t.c ∷ t.d ∷ []) fits in
    ap (λ x. let a : Address = record { family = V4; bits = x } in Some a) bits ∙ sym (ap ipv4_in t.spelled ∙ ipv4_in-dotted t.a t.b t.c t.d t.fit.0 t.fit.1 t.fit.2 t.fit.3)
  where
    fits : (i : ℕ) → get_or (t.a ∷ t.b ∷ t.c ∷ t.d ∷ []) i 0 < 256
    fits zero = t.fit.0
    fits (suc zero) = t.fit.1
    fits (suc (suc zero)) = t.fit.2
    fits (suc (suc (suc zero))) = t.fit.3
    fits (suc (suc (suc (suc i)))) = omega arith

pub not_dotted : (text : List ℕ) → ((a : Ipv4Addr) → IsIpv4Text text a → ⊥) → None ≡ ipv4_in text
not_dotted text no_address = by_read (ipv4_in text) refl
  where
    by_read : (o : Option Address) → ipv4_in text ≡ o → None ≡ o
    by_read None e = refl
    by_read (Some x) e =
        let r : IsDottedText text x = address_read text x e in
        let octets : List ℕ = r.a ∷ r.b ∷ r.c ∷ r.d ∷ [] in
        let ip : Ipv4Addr = record { octets = octets } in
        absurd (no_address ip (record { a = r.a; b = r.b; c = r.c; d = r.d; fit = r.fit; value = refl; spelled = r.spelled }))
