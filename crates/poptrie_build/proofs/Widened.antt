-- The bits of a key of fewer than 128.
use Rattle.std.proofs.Common.{◌≡◌, ℕ, ◌+◌, ◌-◌, ◌*◌, ◌/◌, ◌%◌, ◌^◌, ◌<◌, ◌≤◌, sym, ap, ◌∙◌, arith}
use Rattle.std.proofs.Math.Nat.{mod-eq_of_lt, mul_assoc, mul_comm}
use Rattle.std.proofs.lemmas.Nat.{mod_below, mul-mod_first, pow_pos, shr-shr}
use Rattle.poptrie_build.specs.Keys.{widened}
use Rattle.poptrie_build.proofs.Address.{shl_mod, shl_shr}

-- what stands above t of the 128 bits
pub above : (w i t key : ℕ) → w ≤ 128 → t ≡ 128 - w + i → key < 2 ^ w → key / 2 ^ i ≡ widened w key / 2 ^ t
above w i t key h e l =
    let j = 128 - w in
    let s : 128 ≡ w + j = omega arith in
    ap (λ x. x / 2 ^ i) (sym (mod-eq_of_lt l))
    ∙ (ap (λ x. x / 2 ^ i) (sym (shl_shr j w key))
    ∙ (shr-shr (key * 2 ^ j % 2 ^ (w + j)) j i
    ∙ (ap (λ n. key * 2 ^ j % 2 ^ (w + j) / 2 ^ n) (sym e)
    ∙ ap (λ n. key * 2 ^ j % 2 ^ n / 2 ^ t) (sym s))))

-- moved up by c bits
pub moved : (w c key : ℕ) → w ≤ 128 → widened w (key * 2 ^ c % 2 ^ w) ≡ widened w key * 2 ^ c % 2 ^ 128
moved w c key h =
    let j = 128 - w in
    let s : 128 ≡ w + j = omega arith in
    let n = key * 2 ^ c in
    let once : n % 2 ^ w % 2 ^ w ≡ n % 2 ^ w = mod-eq_of_lt (mod_below n (2 ^ w) (pow_pos w)) in
    let low : widened w (n % 2 ^ w) ≡ n * 2 ^ j % 2 ^ 128 =
    ap (λ m. n % 2 ^ w * 2 ^ j % 2 ^ m) s
    ∙ (shl_mod j w (n % 2 ^ w)
    ∙ (ap (λ x. x * 2 ^ j) once
    ∙ (sym (shl_mod j w n)
    ∙ ap (λ m. n * 2 ^ j % 2 ^ m) (sym s)))) in
    let turned : n * 2 ^ j ≡ key * 2 ^ j * 2 ^ c =
    mul_assoc key (2 ^ c) (2 ^ j) ∙ (ap (λ x. key * x) (mul_comm (2 ^ c) (2 ^ j)) ∙ sym (mul_assoc key (2 ^ j) (2 ^ c))) in
    low ∙ (ap (λ x. x % 2 ^ 128) turned ∙ sym (mul-mod_first (key * 2 ^ j) (2 ^ c) (2 ^ 128)))

-- ---- the two widths
pub head_v4 : (key count : ℕ) → key < 2 ^ 32 → count < 32 → key / 2 ^ (32 - count) ≡ widened 32 key / 2 ^ (128 - count)
head_v4 key count l h = above 32 (32 - count) (128 - count) key (omega arith) (omega arith) l

pub slot_v4 : (key : ℕ) → key < 2 ^ 32 → key / 2 ^ 26 ≡ widened 32 key / 2 ^ 122
slot_v4 key l = above 32 26 122 key (omega arith) (omega arith) l

pub rest_v4 : (key count : ℕ) → widened 32 (key * 2 ^ count % 2 ^ 32) ≡ widened 32 key * 2 ^ count % 2 ^ 128
rest_v4 key count = moved 32 count key (omega arith)

pub head_v6 : (key count : ℕ) → key < 2 ^ 128 → count < 32 → key / 2 ^ 96 / 2 ^ (32 - count) ≡ widened 128 key / 2 ^ (128 - count)
head_v6 key count l h =
    let e : 96 + (32 - count) ≡ 128 - count = omega arith in
    shr-shr key 96 (32 - count) ∙ (ap (λ n. key / 2 ^ n) e ∙ above 128 (128 - count) (128 - count) key (omega arith) (omega arith) l)

pub slot_v6 : (key : ℕ) → key < 2 ^ 128 → key / 2 ^ 122 ≡ widened 128 key / 2 ^ 122
slot_v6 key l = above 128 122 122 key (omega arith) (omega arith) l

pub rest_v6 : (key count : ℕ) → widened 128 (key * 2 ^ count % 2 ^ 128) ≡ widened 128 key * 2 ^ count % 2 ^ 128
rest_v6 key count = moved 128 count key (omega arith)
