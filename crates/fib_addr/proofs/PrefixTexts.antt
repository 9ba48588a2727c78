-- The text of prefixes: an address, a slash and a length.
use Rattle.std.proofs.Common.{◌≡◌, ℕ, zero, suc, ◌+◌, ◌-◌, ◌≤◌, List, [], ◌∷◌, ◌++◌, Bool, true, false, cond, not, Option, Some, None, length, take, drop, replicate, refl, sym, ap, ◌∙◌, arith}
use Rattle.std.specs.Prelude.{◌&&◌, nat_lt, option_map, position}
use Rattle.std.specs.Bool.{then_some}
use Rattle.std.specs.Option.{option_and_then}
use Rattle.std.specs.List.{list_any, position_or_len}
use Rattle.std.proofs.lemmas.Bool.{cond-true, cond-false, false≢true}
use Rattle.std.proofs.lemmas.Option.{none-some, same_Some}
use Rattle.std.proofs.lemmas.List.{take_rest, take-append-drop, length-take, length-drop}
use Rattle.table_model.specs.Bits.{same_bits}
use Rattle.table_model.specs.Width.{width}
use Rattle.table_model.specs.Address.{Prefix, first_bits, same_address}
use Rattle.table_model.specs.declared.family.Family.{Family}
use Rattle.table_model.proofs.BitLaws.{length-bits_of}
use Rattle.table_model.proofs.SamePrefix.{same_family_itself}
use Rattle.fib_addr.specs.declared.addr.Addr.{Addr}
use Rattle.fib_addr.specs.declared.prefix.Prefix as code_prefix
use Rattle.fib_addr.specs.Views.{addr_as, prefix_as}
use Rattle.fib_addr.specs.Text.{address_in, first_address, number_below, prefix_from, prefix_in, is_slash}
use Rattle.fib_addr.proofs.HopLemmas.{same_is, same_code, any_before}

abbrev pub is_set : Bool → Bool
is_set b = b

-- ---- where the slash is

pub no_slash : (text : List ℕ) → None ≡ position is_slash text → None ≡ prefix_in text
no_slash text e = by_test (nat_lt (position_or_len is_slash text) (length text)) refl e
  where
    by_test : (t : Bool) → nat_lt (position_or_len is_slash text) (length text) ≡ t → None ≡ cond t (Some (position_or_len is_slash text)) None → None ≡ prefix_in text
    by_test true t f = absurd (none-some _ f)
    by_test false t f = sym (cond-false _ _ _ (any_before is_slash text ∙ t))

slash_place : (text : List ℕ) (k : ℕ) → Some k ≡ position is_slash text → (list_any is_slash text ≡ true) × (position_or_len is_slash text ≡ k)
slash_place text k e = by_test (nat_lt (position_or_len is_slash text) (length text)) refl e
  where
    by_test : (t : Bool) → nat_lt (position_or_len is_slash text) (length text) ≡ t → Some k ≡ cond t (Some (position_or_len is_slash text)) None → (list_any is_slash text ≡ true) × (position_or_len is_slash text ≡ k)
    by_test true t f = (any_before is_slash text ∙ t, sym (same_Some k (position_or_len is_slash text) f))
    by_test false t f = absurd (none-some k (sym f))

abbrev pub of_parts : List ℕ → List ℕ → Option Prefix
of_parts front back = option_and_then (λ a. option_and_then (prefix_from a) (number_below (width a.family + 1) back)) (address_in front)

with_slash : (text : List ℕ) (k : ℕ) → Some k ≡ position is_slash text → prefix_in text ≡ of_parts (take k text) (drop (k + 1) text)
with_slash text k e =
    let h = slash_place text k e in
    cond-true _ _ _ h.0 ∙ ap (λ (n : ℕ). of_parts (take n text) (drop (n + 1) text)) h.1

-- ---- bits past the length

same_bits-append : (xs ys zs : List Bool) → same_bits (xs ++ ys) (xs ++ zs) ≡ same_bits ys zs
unfolding same_bits
same_bits-append [] ys zs = refl
same_bits-append (true ∷ xs) ys zs = same_bits-append xs ys zs
same_bits-append (false ∷ xs) ys zs = same_bits-append xs ys zs

zeros_same : (bits : List Bool) → same_bits (replicate (length bits) false) bits ≡ not (list_any is_set bits)
unfolding same_bits
zeros_same [] = refl
zeros_same (true ∷ bits) = refl
zeros_same (false ∷ bits) = zeros_same bits

pub zeros_are : (bits : List Bool) → list_any is_set bits ≡ false → bits ≡ replicate (length bits) false
zeros_are [] e = refl
zeros_are (true ∷ bits) e = absurd cc
zeros_are (false ∷ bits) e = ap (λ xs. false ∷ xs) (zeros_are bits e)

pub none_in_zeros : (n : ℕ) → list_any is_set (replicate n false) ≡ false
none_in_zeros zero = refl
none_in_zeros (suc n) = none_in_zeros n

-- an address is the first one of its first bits' region where no bit past them is set
filled_same : (f : Family) (len : ℕ) (bits : List Bool) → len ≤ length bits → length bits ≡ width f
    → same_address (first_address (first_bits len (record { family = f; bits = bits }))) (record { family = f; bits = bits }) ≡ not (list_any is_set (drop len bits))
filled_same f len bits h w =
    let front = take len bits in
    let rest : width f - length front ≡ length (drop len bits) = omega (arith, length-take len bits, length-drop len bits) in
    ap (λ t. t && same_bits (front ++ replicate (width f - length front) false) bits) (same_family_itself f)
    ∙ (ap (λ (n : ℕ). same_bits (front ++ replicate n false) bits) rest
    ∙ (ap (same_bits (front ++ replicate (length (drop len bits)) false)) (sym (take-append-drop len bits))
    ∙ (same_bits-append front (replicate (length (drop len bits)) false) (drop len bits) ∙ zeros_same (drop len bits))))

-- ---- what the reader answers

pub prefix_read : (text : List ℕ) (k len w : ℕ) (a first : Addr) (p : code_prefix.Prefix) (test : Bool) (result : Option code_prefix.Prefix)
    → Some k ≡ position is_slash text → Some (addr_as a) ≡ address_in (take k text) → Some len ≡ number_below (w + 1) (take (length text - (k + 1)) (drop (k + 1) text)) → w ≡ width a.family → len ≤ w
    → prefix_as p ≡ first_bits len (addr_as a) → addr_as first ≡ first_address (prefix_as p) → test ≡ same_code first a → result ≡ then_some test p
    → option_map prefix_as result ≡ prefix_in text
prefix_read text k len w a first p test result slash front back wide fits is_first is_filled t r =
    let A = addr_as a in
    let long : length A.bits ≡ width a.family = length-bits_of (width a.family) a.bits in
    let back_is : number_below (width a.family + 1) (drop (k + 1) text) ≡ Some len = ap (λ (n : ℕ). number_below (n + 1) (drop (k + 1) text)) (sym wide) ∙ sym (back ∙ ap (number_below (w + 1)) (take_rest text (k + 1))) in
    let same : test ≡ not (list_any is_set (drop len A.bits)) =
    t ∙ (same_is first a ∙ (ap (λ x. same_address x A) (is_filled ∙ ap first_address is_first) ∙ filled_same a.family len A.bits (omega arith) long)) in
    ap (option_map prefix_as) r
    ∙ (by_test (list_any is_set (drop len A.bits)) test same
    ∙ sym (with_slash text k slash
    ∙ (ap (option_and_then (λ x. option_and_then (prefix_from x) (number_below (width x.family + 1) (drop (k + 1) text)))) (sym front)
    ∙ ap (option_and_then (prefix_from A)) back_is)))
  where
    by_test : (b s : Bool) → s ≡ not b → option_map prefix_as (then_some s p) ≡ cond b None (Some (first_bits len (addr_as a)))
    by_test true true e = absurd (false≢true (sym e))
    by_test true false e = refl
    by_test false true e = ap Some is_first
    by_test false false e = absurd (false≢true e)
