-- States one after another, and what draws lead to.
use Rattle.std.proofs.Common.{◌≡◌, ℕ, zero, suc, ◌+◌, ◌-◌, ◌*◌, ◌/◌, ◌%◌, ◌^◌, ◌<◌, ◌≤◌, take, refl, sym, ap, ◌∙◌, add-zero, mod-eq_of_lt, arith}
use Rattle.std.proofs.Math.Nat.{mod-add-mod, mul_comm}
use Rattle.std.proofs.lemmas.Nat.{shl-shr, shr_split, mod_below, mod-mul-add, pow_pos}
use Rattle.table_model.specs.declared.family.Family.TheVariants.{V4}
use Rattle.table_model.specs.Address.{first_bits}
use Rattle.table_model.specs.Bits.{bits_of}
use Rattle.table_model.proofs.BitLaws.{bits_take}
use Rattle.made_input.specs.Draws.{next_state, state_after, draw}
use Rattle.made_input.specs.Drawn.{DrawnRoute, DrawnOffer, route, attrs}

-- the product and the sum, each kept in 64 bits
pub stepped : (x : ℕ) → (x * 6364136223846793005 % 2 ^ 64 + 1442695040888963407) % 2 ^ 64 ≡ state_after x 1
unfolding state_after next_state
stepped x =
    mod-add-mod (x * 6364136223846793005) (2 ^ 64) 1442695040888963407
    ∙ ap (λ (p : ℕ). (p + 1442695040888963407) % 2 ^ 64) (mul_comm x 6364136223846793005)

pub drawn : (x y : ℕ) → y ≡ state_after x 1 → y / 2 ^ 33 ≡ draw x 0
unfolding draw
drawn x y e = ap (λ (s : ℕ). s / 2 ^ 33) e

-- so many steps after so many
pub state-add : (x a b : ℕ) → state_after (state_after x a) b ≡ state_after x (a + b)
unfolding state_after
state-add x a zero = ap (state_after x) (sym (add-zero a))
state-add x a (suc b) = let e : suc (a + b) ≡ a + suc b = omega arith in ap next_state (state-add x a b) ∙ ap (state_after x) e

-- a draw behind others
pub draw-add : (x a k : ℕ) → draw (state_after x a) k ≡ draw x (a + k)
unfolding draw
draw-add x a k = let e : a + (k + 1) ≡ a + k + 1 = omega arith in ap (λ (s : ℕ). s / 2 ^ 33) (state-add x a (k + 1) ∙ ap (state_after x) e)

-- the first bits of an address don't change where the others are cleared
pub cleared_bits : (w n a : ℕ) → n ≤ w → take n (bits_of w (a / 2 ^ (w - n) * 2 ^ (w - n))) ≡ take n (bits_of w a)
cleared_bits w n a h =
    bits_take w n (a / 2 ^ (w - n) * 2 ^ (w - n)) h
    ∙ (ap (bits_of n) (shl-shr (a / 2 ^ (w - n)) (w - n)) ∙ sym (bits_take w n a h))

-- two draws are an offer
pub attrs_drawn : (x y d e : ℕ) → y ≡ state_after x 1 → d ≡ draw x 0 → e ≡ draw y 0 → (let o : DrawnOffer = record { path = 1 + d % 4; hop = e % 16 } in o ≡ attrs x)
unfolding attrs
attrs_drawn x y d e first p q =
    let second : e ≡ draw x 1 = q ∙ (ap (λ (s : ℕ). draw s 0) first ∙ draw-add x 1 0) in
    rw (p, second) refl

-- an address whose bits past the length are cleared fits
cleared_fits : (s a : ℕ) → a < 2 ^ 32 → (a / 2 ^ s * 2 ^ s) % 2 ^ 32 ≡ a / 2 ^ s * 2 ^ s
cleared_fits s a h =
    let below : a / 2 ^ s * 2 ^ s < 2 ^ 32 = omega (arith, shr_split a s) in
    mod-eq_of_lt below

-- the length of a prefix that is drawn, and its peer
pub few_bits : (d : ℕ) → 8 + d % 17 ≤ 24
few_bits d = let len : d % 17 < 17 = mod_below d 17 (omega arith) in omega arith

pub few_peers : (f : ℕ) → f % 8 < 8
few_peers f = mod_below f 8 (omega arith)

-- its address fits, and the bits past the length are 0
address_below : (e : ℕ) → e % 2 ^ 24 * 256 < 2 ^ 32
address_below e = let small : e % 2 ^ 24 < 2 ^ 24 = mod_below e (2 ^ 24) (omega arith) in omega arith

pub cleared_below : (s e : ℕ) → (e % 2 ^ 24 * 256 / 2 ^ s * 2 ^ s) % 2 ^ 32 < 2 ^ 32
cleared_below s e = mod_below (e % 2 ^ 24 * 256 / 2 ^ s * 2 ^ s) (2 ^ 32) (pow_pos 32)

pub bits_cleared : (s e : ℕ) → (e % 2 ^ 24 * 256 / 2 ^ s * 2 ^ s) % 2 ^ 32 % 2 ^ s ≡ 0
bits_cleared s e =
    let a = e % 2 ^ 24 * 256 in
    let none : (a / 2 ^ s * 2 ^ s + 0) % 2 ^ s ≡ 0 = mod-mul-add (a / 2 ^ s) (2 ^ s) 0 (pow_pos s) in
    ap (λ (n : ℕ). n % 2 ^ s) (cleared_fits s a (address_below e) ∙ sym (add-zero (a / 2 ^ s * 2 ^ s))) ∙ none

-- three draws are a route
pub route_drawn : (x y z d e f : ℕ) → y ≡ state_after x 1 → z ≡ state_after y 1 → d ≡ draw x 0 → e ≡ draw y 0 → f ≡ draw z 0
    → (let r : DrawnRoute = record { prefix = first_bits (8 + d % 17) (record { family = V4; bits = bits_of 32 ((e % 2 ^ 24 * 256 / 2 ^ (32 - (8 + d % 17)) * 2 ^ (32 - (8 + d % 17))) % 2 ^ 32) }); peer = f % 8 } in r ≡ route x)
unfolding route
route_drawn x y z d e f first second p q r =
    let both : z ≡ state_after x 2 = second ∙ (ap (λ (s : ℕ). state_after s 1) first ∙ state-add x 1 1) in
    let address : e ≡ draw x 1 = q ∙ (ap (λ (s : ℕ). draw s 0) first ∙ draw-add x 1 0) in
    let peer : f ≡ draw x 2 = r ∙ (ap (λ (s : ℕ). draw s 0) both ∙ draw-add x 2 0) in
    let len = few_bits d in
    let fits = cleared_fits (32 - (8 + d % 17)) (e % 2 ^ 24 * 256) (address_below e) in
    rw (fits, cleared_bits 32 (8 + d % 17) (e % 2 ^ 24 * 256) (omega arith), p, address, peer) refl
