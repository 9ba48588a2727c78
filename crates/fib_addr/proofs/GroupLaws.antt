-- The two directions of IPv6 text.
use Rattle.std.proofs.Common.{◌≡◌, ℕ, zero, suc, ◌+◌, ◌*◌, ◌^◌, ◌<◌, ◌≤◌, List, [], ◌∷◌, ◌++◌, Bool, true, false, cond, Some, length, take, drop, codes, nat_lt, refl, sym, ap, ◌∙◌, arith, mod-eq_of_lt, subst, length-append}
use Rattle.std.specs.Prelude.{◌||◌, ◌==◌, map, option_map, flat_map}
use Rattle.std.specs.List.{list_any}
use Rattle.std.specs.Char.{digit_char}
use Rattle.std.specs.Net.Text.{hex, leading_zero_digits, groups_text, longest_zero_run, hex_groups_text}
use Rattle.std.specs.Net.Grammar.{IsColonHex}
use Rattle.std.proofs.NetLemmas.Texts.{IsColonHex-hex_groups_text, IsZeroRun-longest_zero_run, longest_zero_run_first}
use Rattle.std.proofs.Math.Pow.{pow_mono}
use Rattle.std.proofs.lemmas.Bool.{ne_eqb, cond-false}
use Rattle.std.proofs.lemmas.List.{take-append-drop, length-take, length-drop}
use Rattle.std.proofs.lemmas.List.Folds.{list_any-append}
use Rattle.table_model.specs.Width.{width}
use Rattle.table_model.specs.Bits.{bits_of, value_of}
use Rattle.table_model.specs.Address.{Address, IsAddress}
use Rattle.table_model.specs.declared.family.Family.TheVariants.{V6}
use Rattle.table_model.proofs.BitLaws.{length-bits_of, value-bits_of, bits_from_value, value-lt}
use Rattle.fib_addr.specs.Groups.{group_of, groups_of, group_bits, shortened, ipv6_text, groups_in, IsLongestZeroRun}
use Rattle.fib_addr.specs.Text.{bits_text, address_in, ipv6_in, is_dot}
use Rattle.fib_addr.proofs.Texts.{some_map}
use Rattle.fib_addr.proofs.GroupTexts.{Fit, fit_at, hex_is_read, groups_are_hex, hex_is_eight}

-- ---- bits in groups

-- as many bits are those of their number
pub same_number : (n : ℕ) (bits : List Bool) → length bits ≡ n → bits ≡ bits_of n (value_of bits)
same_number n bits e =
    let lt : value_of bits < 2 ^ n = subst (λ (k : ℕ). value_of bits < 2 ^ k) e (value-lt bits) in
    bits_from_value bits (bits_of n (value_of bits)) (e ∙ sym (length-bits_of n (value_of bits))) (sym (value-bits_of n (value_of bits) ∙ mod-eq_of_lt lt))

pub drop_more : (n m : ℕ) (xs : List Bool) → drop (n + m) xs ≡ drop m (drop n xs)
drop_more zero m xs = let e : zero + m ≡ m = omega arith in ap (λ k. drop k xs) e
drop_more (suc n) zero [] = let e : suc n + zero ≡ suc n = omega arith in ap (λ k. drop {A = Bool} k []) e
drop_more (suc n) (suc m) [] = let e : suc n + suc m ≡ suc (n + suc m) = omega arith in ap (λ k. drop {A = Bool} k []) e
drop_more (suc n) m (x ∷ xs) = let e : suc n + m ≡ suc (n + m) = omega arith in ap (λ k. drop k (x ∷ xs)) e ∙ drop_more n m xs

pub none_left : (bits : List Bool) → length bits ≡ 0 → bits ≡ []
none_left [] e = refl
none_left (b ∷ bits) e = absurd (omega arith)

group_lt : (bits : List Bool) (place : ℕ) → group_of bits place < 2 ^ 16
group_lt bits place =
    let part = take 16 (drop (16 * place) bits) in
    let most : 2 ^ length part ≤ 2 ^ 16 = pow_mono {j = 16} (omega (arith, length-take 16 (drop (16 * place) bits))) in
    omega (arith, value-lt part, most)

groups_fit : (bits : List Bool) (places : List ℕ) → Fit (map (group_of bits) places)
groups_fit bits [] = tt
groups_fit bits (k ∷ places) = (group_lt bits k, groups_fit bits places)

piece : (bits : List Bool) (place : ℕ) → 16 * place + 16 ≤ length bits → drop (16 * place) bits ≡ bits_of 16 (group_of bits place) ++ drop (16 * place + 16) bits
piece bits place h =
    let rest = drop (16 * place) bits in
    let long : length (take 16 rest) ≡ 16 = omega (arith, length-take 16 rest, length-drop (16 * place) bits) in
    sym (take-append-drop 16 rest) ∙ (ap (λ x. x ++ drop 16 rest) (same_number 16 (take 16 rest) long) ∙ ap (λ x. bits_of 16 (group_of bits place) ++ x) (sym (drop_more (16 * place) 16 bits)))

eight_pieces : (bits : List Bool) → length bits ≡ 128 → group_bits (groups_of bits) ≡ bits
unfolding group_bits
eight_pieces bits e =
    let g = λ (k : ℕ) (x : List Bool). bits_of 16 (group_of bits k) ++ x in
    sym (piece bits 0 (omega arith)
    ∙ ap (g 0) (piece bits 1 (omega arith)
    ∙ ap (g 1) (piece bits 2 (omega arith)
    ∙ ap (g 2) (piece bits 3 (omega arith)
    ∙ ap (g 3) (piece bits 4 (omega arith)
    ∙ ap (g 4) (piece bits 5 (omega arith)
    ∙ ap (g 5) (piece bits 6 (omega arith)
    ∙ ap (g 6) (piece bits 7 (omega arith)
    ∙ ap (g 7) (none_left (drop 128 bits) (omega (arith, length-drop 128 bits)))))))))))

length-group_bits : (groups : List ℕ) → length (group_bits groups) ≡ 16 * length groups
unfolding group_bits
length-group_bits [] = refl
length-group_bits (s ∷ groups) = omega (arith, length-append (bits_of 16 s) (group_bits groups), length-bits_of 16 s, length-group_bits groups)

-- ---- no character below the digits is written, so no dot and no slash

abbrev pub is_mark : ℕ → ℕ → Bool
is_mark mark b = b == mark

pub none_of_both : (mark : ℕ) (xs ys : List ℕ) → list_any (is_mark mark) xs ≡ false → list_any (is_mark mark) ys ≡ false → list_any (is_mark mark) (xs ++ ys) ≡ false
none_of_both mark xs ys a b = list_any-append (is_mark mark) xs ys ∙ (ap (λ t. t || list_any (is_mark mark) ys) a ∙ b)

char_is_none : (mark d : ℕ) → mark < 48 → is_mark mark (digit_char d) ≡ false
char_is_none mark d low = by_test (nat_lt d 10)
  where
    by_test : (t : Bool) → is_mark mark (cond t (48 + d) (87 + d)) ≡ false
    by_test true = ne_eqb (48 + d) mark (λ e. absurd (omega arith))
    by_test false = ne_eqb (87 + d) mark (λ e. absurd (omega arith))

none_dropped : (mark n : ℕ) (xs : List ℕ) → list_any (is_mark mark) xs ≡ false → list_any (is_mark mark) (drop n xs) ≡ false
none_dropped mark zero xs e = e
none_dropped mark (suc n) [] e = refl
none_dropped mark (suc n) (x ∷ xs) e = none_dropped mark n xs (by_test (is_mark mark x) e)
  where
    by_test : (t : Bool) → (t || list_any (is_mark mark) xs) ≡ false → list_any (is_mark mark) xs ≡ false
    by_test true f = absurd cc
    by_test false f = f

four_chars : (mark a b c d : ℕ) → mark < 48 → list_any (is_mark mark) (digit_char a ∷ digit_char b ∷ digit_char c ∷ digit_char d ∷ []) ≡ false
four_chars mark a b c d low =
    none_of_both mark (digit_char a ∷ []) (digit_char b ∷ digit_char c ∷ digit_char d ∷ []) (one a)
    (none_of_both mark (digit_char b ∷ []) (digit_char c ∷ digit_char d ∷ []) (one b) (none_of_both mark (digit_char c ∷ []) (digit_char d ∷ []) (one c) (one d)))
  where
    one : (n : ℕ) → list_any (is_mark mark) (digit_char n ∷ []) ≡ false
    one n = ap (λ t. t || false) (char_is_none mark n low)

none_in_hex : (mark n : ℕ) → mark < 48 → list_any (is_mark mark) (hex n) ≡ false
unfolding hex
none_in_hex mark n low = none_dropped mark (leading_zero_digits n) _ (four_chars mark _ _ _ _ low)

none_in_colon : (mark : ℕ) → mark < 48 → list_any (is_mark mark) (codes ":") ≡ false
none_in_colon mark low = ap (λ t. t || false) (ne_eqb 58 mark (λ e. absurd (omega arith)))

none_in_colons : (mark : ℕ) → mark < 48 → list_any (is_mark mark) (codes "::") ≡ false
none_in_colons mark low = none_of_both mark (codes ":") (codes ":") (none_in_colon mark low) (none_in_colon mark low)

none_in_more : (mark : ℕ) (groups : List ℕ) → mark < 48 → list_any (is_mark mark) (flat_map (λ t. codes ":" ++ hex t) groups) ≡ false
none_in_more mark [] low = refl
none_in_more mark (s ∷ groups) low = none_of_both mark (codes ":" ++ hex s) _ (none_of_both mark (codes ":") (hex s) (none_in_colon mark low) (none_in_hex mark s low)) (none_in_more mark groups low)

none_in_groups : (mark : ℕ) (groups : List ℕ) → mark < 48 → list_any (is_mark mark) (groups_text groups) ≡ false
none_in_groups mark [] low = refl
none_in_groups mark (s ∷ groups) low = none_of_both mark (hex s) _ (none_in_hex mark s low) (none_in_more mark groups low)

pub none_in_text : (mark : ℕ) (groups : List ℕ) → mark < 48 → list_any (is_mark mark) (ipv6_text groups) ≡ false
unfolding ipv6_text
none_in_text mark groups low =
    let run = longest_zero_run groups in
    by_test (nat_lt 1 run.1) (shortened groups run) (groups_text groups)
    (none_of_both mark (groups_text (take run.0 groups) ++ codes "::") (groups_text (drop (run.0 + run.1) groups))
    (none_of_both mark (groups_text (take run.0 groups)) (codes "::") (none_in_groups mark (take run.0 groups) low) (none_in_colons mark low))
    (none_in_groups mark (drop (run.0 + run.1) groups) low))
    (none_in_groups mark groups low)
  where
    by_test : (t : Bool) (xs ys : List ℕ) → list_any (is_mark mark) xs ≡ false → list_any (is_mark mark) ys ≡ false → list_any (is_mark mark) (cond t xs ys) ≡ false
    by_test true xs ys a b = a
    by_test false xs ys a b = b

-- ---- both ways

same_text : (groups : List ℕ) → hex_groups_text groups ≡ ipv6_text groups
unfolding ipv6_text hex_groups_text
same_text groups = refl

pub ipv6_written : (bits : List Bool) → length bits ≡ 128 → address_in (bits_text V6 bits) ≡ Some (record { family = V6; bits = bits })
ipv6_written bits e =
    let groups = groups_of bits in
    let text = ipv6_text groups in
    let none : list_any is_dot text ≡ false = none_in_text 46 groups (omega arith) in
    let spelled : IsColonHex text groups = subst (λ xs. IsColonHex xs groups) (same_text groups) (IsColonHex-hex_groups_text groups refl (fit_at groups (groups_fit bits (0 ∷ 1 ∷ 2 ∷ 3 ∷ 4 ∷ 5 ∷ 6 ∷ 7 ∷ [])))) in
    cond-false _ _ _ none
    ∙ (ap (option_map (λ gs. let a : Address = record { family = V6; bits = group_bits gs } in a)) (hex_is_read text groups none spelled)
    ∙ ap (λ x. let a : Address = record { family = V6; bits = x } in Some a) (eight_pieces bits e))

pub ipv6_family : (text : List ℕ) (a : Address) → ipv6_in text ≡ Some a → a.family ≡ V6
ipv6_family text a e =
    let m = some_map (λ gs. let b : Address = record { family = V6; bits = group_bits gs } in b) (groups_in text) a e in
    ap (λ (x : Address). x.family) m.2

pub ipv6_read : (text : List ℕ) (a : Address) → ipv6_in text ≡ Some a → IsAddress a
ipv6_read text a e =
    let m = some_map (λ gs. let b : Address = record { family = V6; bits = group_bits gs } in b) (groups_in text) a e in
    let eight : length m.0 ≡ 8 = hex_is_eight text m.0 (groups_are_hex text m.0 m.1) in
    ap (λ (x : Address). length x.bits) m.2 ∙ (length-group_bits m.0 ∙ (ap (λ (n : ℕ). 16 * n) eight ∙ sym (ap width (ipv6_family text a e))))

pub run_is_longest : (groups : List ℕ) → IsLongestZeroRun groups (longest_zero_run groups)
run_is_longest groups = record {
  zeros = IsZeroRun-longest_zero_run groups;
  longest = λ place len h. (longest_zero_run_first groups place len h).0;
  first = λ place len h. (longest_zero_run_first groups place len h).1;
}
