-- What the tests of addresses and prefixes say.
use Rattle.std.proofs.Common.{◌≡◌, List, [], ◌∷◌, Bool, true, false, refl, ap, ◌∙◌}
use Rattle.std.proofs.lemmas.Bool.{and_parts, and_from}
use Rattle.table_model.specs.Bits.{same_bit, same_bits}
use Rattle.table_model.specs.Address.{Address, Prefix, same_family, same_address, same_prefix}
use Rattle.table_model.specs.declared.family.Family.{Family}
use Rattle.table_model.specs.declared.family.Family.TheVariants.{V4, V6}

bit_is : (b c : Bool) → same_bit b c ≡ true → b ≡ c
bit_is true true e = refl
bit_is true false e = cc
bit_is false true e = cc
bit_is false false e = refl

bit_itself : (b : Bool) → same_bit b b ≡ true
bit_itself true = refl
bit_itself false = refl

pub same_bits_are : (p q : List Bool) → same_bits p q ≡ true → p ≡ q
unfolding same_bits
same_bits_are [] [] e = refl
same_bits_are [] (c ∷ q) e = cc
same_bits_are (b ∷ p) [] e = cc
same_bits_are (b ∷ p) (c ∷ q) e =
    let h = and_parts (same_bit b c) (same_bits p q) e in
    let x : b ≡ c = bit_is b c h.0 in
    let y : p ≡ q = same_bits_are p q h.1 in
    cc

pub same_bits_itself : (p : List Bool) → same_bits p p ≡ true
unfolding same_bits
same_bits_itself [] = refl
same_bits_itself (b ∷ p) = and_from (same_bit b b) (same_bits p p) (bit_itself b) (same_bits_itself p)

pub same_family_is : (f g : Family) → same_family f g ≡ true → f ≡ g
same_family_is V4 V4 e = refl
same_family_is V4 V6 e = cc
same_family_is V6 V4 e = cc
same_family_is V6 V6 e = refl

pub same_family_itself : (f : Family) → same_family f f ≡ true
same_family_itself V4 = refl
same_family_itself V6 = refl

pub same_address_is : (a b : Address) → same_address a b ≡ true → a ≡ b
same_address_is a b e =
    let h = and_parts (same_family a.family b.family) (same_bits a.bits b.bits) e in
    let f : a.family ≡ b.family = same_family_is a.family b.family h.0 in
    let g : a.bits ≡ b.bits = same_bits_are a.bits b.bits h.1 in
    ap (λ x. let r : Address = record { family = x; bits = a.bits } in r) f ∙ ap (λ x. let r : Address = record { family = b.family; bits = x } in r) g

pub same_address_itself : (a : Address) → same_address a a ≡ true
same_address_itself a = and_from _ _ (same_family_itself a.family) (same_bits_itself a.bits)

pub same_prefix_is : (p q : Prefix) → same_prefix p q ≡ true → p ≡ q
same_prefix_is p q e =
    let h = and_parts (same_family p.family q.family) (same_bits p.bits q.bits) e in
    let f : p.family ≡ q.family = same_family_is p.family q.family h.0 in
    let g : p.bits ≡ q.bits = same_bits_are p.bits q.bits h.1 in
    ap (λ x. let r : Prefix = record { family = x; bits = p.bits } in r) f ∙ ap (λ x. let r : Prefix = record { family = q.family; bits = x } in r) g

pub same_prefix_itself : (p : Prefix) → same_prefix p p ≡ true
same_prefix_itself p = and_from _ _ (same_family_itself p.family) (same_bits_itself p.bits)
