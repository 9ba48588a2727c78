-- The text of groups: what is read is in std's grammar of IPv6 text, and all of that without dots is read.
use Rattle.std.proofs.Common.{◌≡◌, ℕ, zero, suc, ◌+◌, ◌-◌, ◌<◌, ◌≤◌, List, [], ◌∷◌, ◌++◌, Bool, true, false, cond, Option, Some, None, length, replicate, codes, decimal, refl, sym, ap, ◌∙◌, arith, append_assoc, append-nil, length-append, subst, inl, inr}
use Rattle.std.specs.Prelude.{◌==◌, ◌&&◌, ◌||◌, nat_le, option_map, map}
use Rattle.std.specs.Option.{option_and_then}
use Rattle.std.specs.List.{AllByRecursion, All, slice_split, join_with_byte, list_any, list_all}
use Rattle.std.specs.Char.{digit_value, is_digit}
use Rattle.std.specs.Net.Text.{dotted_text}
use Rattle.std.specs.Net.Grammar.{IsGroup, IsGroupsAfter, IsGroups, IsColonHex}
use Rattle.std.specs.Str.Parse.{AllDigits, digits_value}
use Rattle.std.proofs.lemmas.Option.{none-some, same_Some}
use Rattle.std.proofs.lemmas.Bool.{ne_eqb, eq-eqb, eqb-true, and_parts, and_from, lt-ltb, ltb-true, le-leb, leb-true, false≢true}
use Rattle.std.proofs.lemmas.List.{length-replicate}
use Rattle.std.proofs.lemmas.List.Elements.{All-from_recursion}
use Rattle.std.proofs.lemmas.List.Folds.{list_any-append}
use Rattle.std.proofs.lemmas.List.Splits.{slice_split_at, slice_split_none, join_with_byte-slice_split}
use Rattle.fib_addr.specs.Groups.{group_in, all_there, single_groups_in, around_gap, eight, filled_up, split_groups_in, groups_in}
use Rattle.std.proofs.Common.{◌^◌}
use Rattle.std.proofs.Math.Nat.{pow-le-pow_right}
use Rattle.std.proofs.Common.{lit≤}
use Rattle.std.proofs.lemmas.Int.Digits.{digits_value-lt}
use Rattle.std.specs.declared.net.ipv6_addr.Ipv6Addr.{Ipv6Addr}
use Rattle.std.specs.Net.Addr.{ipv6_bits}
use Rattle.std.specs.Net.Grammar.{IsIpv6Text}
use Rattle.table_model.specs.Bits.{bits_of}
use Rattle.table_model.specs.Address.{Address}
use Rattle.table_model.specs.declared.family.Family.TheVariants.{V6}
use Rattle.fib_addr.specs.Groups.{group_bits, is_colon}
use Rattle.fib_addr.specs.Text.{ipv6_in, is_dot}
use Rattle.fib_addr.proofs.GroupBits.{AreGroups, ipv6_bits_are}
use Rattle.fib_addr.proofs.Texts.{dots, some_map}

-- ---- one group

digits_pass : (cs : List ℕ) → AllDigits 16 cs → list_all (λ c. is_digit c 16) cs ≡ true
digits_pass [] h = refl
digits_pass (c ∷ cs) h = and_from _ _ (lt-ltb (digit_value c) 16 h.0) (digits_pass cs h.1)

digits_are : (cs : List ℕ) → list_all (λ c. is_digit c 16) cs ≡ true → AllDigits 16 cs
digits_are [] e = tt
digits_are (c ∷ cs) e = let h = and_parts _ _ e in (ltb-true (digit_value c) 16 h.0, digits_are cs h.1)

group_read : (text : List ℕ) (s : ℕ) → IsGroup text s → group_in text ≡ Some s
group_read text s h =
    let one : nat_le 1 (length text) ≡ true = le-leb 1 (length text) (omega (arith, h.0.0.0)) in
    let four : nat_le (length text) 4 ≡ true = le-leb (length text) 4 h.1 in
    ap (λ (t : Bool). cond t (Some (digits_value 16 text)) None) (and_from _ _ (and_from _ _ one four) (digits_pass text h.0.0.1)) ∙ ap Some h.0.1

group_is : (text : List ℕ) (s : ℕ) → group_in text ≡ Some s → IsGroup text s
group_is text s e = by_test (nat_le 1 (length text) && nat_le (length text) 4 && list_all (λ c. is_digit c 16) text) refl e
  where
    by_test : (t : Bool) → (nat_le 1 (length text) && nat_le (length text) 4 && list_all (λ c. is_digit c 16) text) ≡ t → cond t (Some (digits_value 16 text)) None ≡ Some s → IsGroup text s
    by_test true t f =
        let x = and_parts _ _ t in
        let y = and_parts _ _ x.0 in
        let one : 1 ≤ length text = leb-true 1 (length text) y.0 in
        (((omega arith, digits_are text x.1), same_Some (digits_value 16 text) s f), leb-true (length text) 4 y.1)
    by_test false t f = absurd (none-some s f)

-- a hexadecimal digit is no colon and no dot
no_colon : (c : ℕ) → digit_value c < 16 → is_colon c ≡ false
no_colon c h = ne_eqb c 58 (λ e. absurd (omega (arith, ap digit_value e)))

digits_no_colon : (cs : List ℕ) → AllDigits 16 cs → AllByRecursion (λ b. is_colon b ≡ false) cs
digits_no_colon [] h = tt
digits_no_colon (c ∷ cs) h = (no_colon c h.0, digits_no_colon cs h.1)

no_colons : (cs : List ℕ) → AllDigits 16 cs → All (λ b. is_colon b ≡ false) cs
no_colons cs h = All-from_recursion _ _ (digits_no_colon cs h)

-- ---- no dots

or_true : (b : Bool) → (b || true) ≡ true
or_true true = refl
or_true false = refl

or_none : (a b : Bool) → (a || b) ≡ false → (a ≡ false) × (b ≡ false)
or_none true b e = absurd cc
or_none false b e = (refl, e)

pub dotted_has_dot : (a b c d : ℕ) → list_any is_dot (dotted_text a b c d) ≡ true
dotted_has_dot a b c d =
    let rest = decimal b ++ (46 ∷ (decimal c ++ (46 ∷ decimal d))) in
    ap (list_any is_dot) (dots (decimal a) (decimal b) (decimal c) (decimal d)) ∙ (list_any-append is_dot (decimal a) (46 ∷ rest) ∙ or_true (list_any is_dot (decimal a)))

no_dots_after : (xs ys : List ℕ) → list_any is_dot (xs ++ ys) ≡ false → (list_any is_dot xs ≡ false) × (list_any is_dot ys ≡ false)
no_dots_after xs ys e = or_none _ _ (sym (list_any-append is_dot xs ys) ∙ e)

-- groups without dots have no dotted part
plain : (lead text segments : List ℕ) → list_any is_dot text ≡ false → IsGroupsAfter true lead text segments → IsGroupsAfter false lead text segments
plain lead text [] n h = h
plain lead text (s ∷ segments) n (inl h) =
    let parts = no_dots_after (lead ++ h.0) h.1 (ap (list_any is_dot) (sym h.2) ∙ n) in
    inl (h.0, h.1, h.2, h.3, plain (codes ":") h.1 segments parts.1 h.4)
plain lead text (s ∷ segments) n (inr h) =
    let none : list_any is_dot h.0 ≡ false = (no_dots_after lead h.0 (ap (list_any is_dot) (sym h.3) ∙ n)).1 in
    let d = h.4 in
    let some : list_any is_dot h.0 ≡ true = ap (list_any is_dot) d.spelled ∙ dotted_has_dot d.a d.b d.c d.d in
    absurd (false≢true (sym none ∙ some))

-- ---- the first `::`

abbrev before : List ℕ → Option (List ℕ × List ℕ) → Option (List ℕ × List ℕ)
before front o = option_map (λ sides. (front ++ sides.0, sides.1)) o

abbrev in_front : ℕ → Option (List ℕ × List ℕ) → Option (List ℕ × List ℕ)
in_front c o = option_map (λ sides. (c ∷ sides.0, sides.1)) o

before_nothing : (o : Option (List ℕ × List ℕ)) → o ≡ before [] o
before_nothing None = refl
before_nothing (Some s) = refl

in_front_before : (c : ℕ) (xs : List ℕ) (o : Option (List ℕ × List ℕ)) → in_front c (before xs o) ≡ before (c ∷ xs) o
in_front_before c xs None = refl
in_front_before c xs (Some s) = refl

before_both : (xs ys : List ℕ) (o : Option (List ℕ × List ℕ)) → before xs (before ys o) ≡ before (xs ++ ys) o
before_both xs ys None = refl
before_both xs ys (Some s) = ap (λ zs. Some (zs, s.1)) (sym (append_assoc xs ys s.0))

gap_after_other : (c : ℕ) (text : List ℕ) → is_colon c ≡ false → around_gap (c ∷ text) ≡ in_front c (around_gap text)
gap_after_other c [] e = refl
gap_after_other c (d ∷ text) e = ap (λ t. cond (t && (d == 58)) (Some ([], text)) (in_front c (around_gap (d ∷ text)))) e

gap_before_other : (d : ℕ) (text : List ℕ) → is_colon d ≡ false → around_gap (58 ∷ d ∷ text) ≡ in_front 58 (around_gap (d ∷ text))
gap_before_other d text e = ap (λ t. cond t (Some ([], text)) (in_front 58 (around_gap (d ∷ text)))) e

gap_after_digits : (cs text : List ℕ) → AllDigits 16 cs → around_gap (cs ++ text) ≡ before cs (around_gap text)
gap_after_digits [] text h = before_nothing (around_gap text)
gap_after_digits (c ∷ cs) text h = gap_after_other c (cs ++ text) (no_colon c h.0) ∙ (ap (in_front c) (gap_after_digits cs text h.1) ∙ in_front_before c cs (around_gap text))

-- a colon and a group
gap_after_colon : (cs text : List ℕ) → 0 < length cs → AllDigits 16 cs → around_gap (58 ∷ (cs ++ text)) ≡ before (58 ∷ cs) (around_gap text)
gap_after_colon [] text long h = absurd (omega arith)
gap_after_colon (c ∷ cs) text long h = gap_before_other c (cs ++ text) (no_colon c h.0) ∙ (ap (in_front 58) (gap_after_digits (c ∷ cs) text h) ∙ in_front_before 58 (c ∷ cs) (around_gap text))

gap_after_more : (text segments rest : List ℕ) → IsGroupsAfter false (codes ":") text segments → around_gap (text ++ rest) ≡ before text (around_gap rest)
gap_after_more text [] rest h = ap (λ xs. around_gap (xs ++ rest)) h ∙ (before_nothing (around_gap rest) ∙ ap (λ xs. before xs (around_gap rest)) (sym h))
gap_after_more text (s ∷ segments) rest (inl (g, more, e, is, later)) =
    ap around_gap (ap (λ xs. xs ++ rest) e ∙ ap (λ xs. 58 ∷ xs) (append_assoc g more rest))
    ∙ (gap_after_colon g (more ++ rest) is.0.0.0 is.0.0.1
    ∙ (ap (before (58 ∷ g)) (gap_after_more more segments rest later) ∙ (before_both (58 ∷ g) more (around_gap rest) ∙ ap (λ xs. before xs (around_gap rest)) (sym e))))
gap_after_more text (s ∷ segments) rest (inr h) = absurd (false≢true h.2)

gap_after_groups : (text segments rest : List ℕ) → IsGroupsAfter false [] text segments → around_gap (text ++ rest) ≡ before text (around_gap rest)
gap_after_groups text [] rest h = ap (λ xs. around_gap (xs ++ rest)) h ∙ (before_nothing (around_gap rest) ∙ ap (λ xs. before xs (around_gap rest)) (sym h))
gap_after_groups text (s ∷ segments) rest (inl (g, more, e, is, later)) =
    ap around_gap (ap (λ xs. xs ++ rest) e ∙ append_assoc g more rest)
    ∙ (gap_after_digits g (more ++ rest) is.0.0.1
    ∙ (ap (before g) (gap_after_more more segments rest later) ∙ (before_both g more (around_gap rest) ∙ ap (λ xs. before xs (around_gap rest)) (sym e))))
gap_after_groups text (s ∷ segments) rest (inr h) = absurd (false≢true h.2)

gap_is : (text : List ℕ) (sides : List ℕ × List ℕ) → around_gap text ≡ Some sides → text ≡ sides.0 ++ (58 ∷ 58 ∷ sides.1)
gap_is [] sides e = absurd (none-some sides e)
gap_is (c ∷ []) sides e = absurd (none-some sides e)
gap_is (c ∷ d ∷ text) sides e = by_test ((c == 58) && (d == 58)) refl e (λ s f. gap_is (d ∷ text) s f)
  where
    by_test : (t : Bool) → ((c == 58) && (d == 58)) ≡ t → cond t (Some ([], text)) (in_front c (around_gap (d ∷ text))) ≡ Some sides
        → ((s : List ℕ × List ℕ) → around_gap (d ∷ text) ≡ Some s → d ∷ text ≡ s.0 ++ (58 ∷ 58 ∷ s.1)) → c ∷ d ∷ text ≡ sides.0 ++ (58 ∷ 58 ∷ sides.1)
    by_test true t f later =
        let h = and_parts (c == 58) (d == 58) t in
        let x : c ≡ 58 = eqb-true c 58 h.0 in
        let y : d ≡ 58 = eqb-true d 58 h.1 in
        let s = same_Some ([], text) sides f in
        rw (← s, x, y) refl
    by_test false t f later =
        let m = some_map (λ (s : List ℕ × List ℕ). (c ∷ s.0, s.1)) (around_gap (d ∷ text)) sides f in
        ap (λ xs. c ∷ xs) (later m.0 m.1) ∙ ap (λ (s : List ℕ × List ℕ). s.0 ++ (58 ∷ 58 ∷ s.1)) (sym m.2)

-- ---- groups with single colons between them

split_groups : (g rest : List ℕ) (s : ℕ) (more : List ℕ) → IsGroup g s → IsGroupsAfter false (codes ":") rest more → all_there (map group_in (slice_split is_colon (g ++ rest))) ≡ Some (s ∷ more)
split_groups g rest s [] is later =
    ap (λ xs. all_there (map group_in (slice_split is_colon xs))) (ap (λ xs. g ++ xs) later ∙ append-nil g)
    ∙ (ap (λ parts. all_there (map group_in parts)) (slice_split_none is_colon g (no_colons g is.0.0.1)) ∙ ap (λ o. all_there (o ∷ [])) (group_read g s is))
split_groups g rest s (r ∷ more) is (inl (h, last, e, is_next, later)) =
    ap (λ xs. all_there (map group_in (slice_split is_colon (g ++ xs)))) e
    ∙ (ap (λ parts. all_there (map group_in parts)) (slice_split_at is_colon g 58 (h ++ last) (no_colons g is.0.0.1) refl)
    ∙ (ap (λ o. all_there (o ∷ map group_in (slice_split is_colon (h ++ last)))) (group_read g s is)
    ∙ ap (option_map (λ ns. s ∷ ns)) (split_groups h last r more is_next later)))
split_groups g rest s (r ∷ more) is (inr h) = absurd (false≢true h.2)

filled_single : (g rest : List ℕ) → 0 < length g → single_groups_in (g ++ rest) ≡ all_there (map group_in (slice_split is_colon (g ++ rest)))
filled_single [] rest h = absurd (omega arith)
filled_single (c ∷ g) rest h = refl

single_read : (text segments : List ℕ) → IsGroupsAfter false [] text segments → single_groups_in text ≡ Some segments
single_read text [] h = ap single_groups_in h
single_read text (s ∷ segments) (inl (g, rest, e, is, later)) = ap single_groups_in e ∙ (filled_single g rest is.0.0.0 ∙ split_groups g rest s segments is later)
single_read text (s ∷ segments) (inr h) = absurd (false≢true h.2)

parts_are : (b : Bool) (lead p : List ℕ) (parts : List (List ℕ)) (segments : List ℕ) → all_there (map group_in (p ∷ parts)) ≡ Some segments → IsGroupsAfter b lead (lead ++ join_with_byte 58 (p ∷ parts)) segments
parts_are b lead p [] segments e = by_first (group_in p) refl e
  where
    by_first : (o : Option ℕ) → group_in p ≡ o → all_there (o ∷ []) ≡ Some segments → IsGroupsAfter b lead (lead ++ p) segments
    by_first None o f = absurd (none-some segments f)
    by_first (Some s) o f =
        subst (IsGroupsAfter b lead (lead ++ p)) (same_Some (s ∷ []) segments f) (inl (p, [], sym (append-nil (lead ++ p)), group_is p s o, refl))
parts_are b lead p (q ∷ parts) segments e = by_first (group_in p) refl e (λ more f. parts_are b (codes ":") q parts more f)
  where
    by_first : (o : Option ℕ) → group_in p ≡ o → all_there (o ∷ map group_in (q ∷ parts)) ≡ Some segments
        → ((more : List ℕ) → all_there (map group_in (q ∷ parts)) ≡ Some more → IsGroupsAfter b (codes ":") (58 ∷ join_with_byte 58 (q ∷ parts)) more)
        → IsGroupsAfter b lead (lead ++ (p ++ (58 ∷ join_with_byte 58 (q ∷ parts)))) segments
    by_first None o f later = absurd (none-some segments f)
    by_first (Some s) o f later =
        let m = some_map (λ (ns : List ℕ). s ∷ ns) (all_there (map group_in (q ∷ parts))) segments f in
        subst (IsGroupsAfter b lead (lead ++ (p ++ (58 ∷ join_with_byte 58 (q ∷ parts))))) (sym m.2)
        (inl (p, 58 ∷ join_with_byte 58 (q ∷ parts), sym (append_assoc lead p (58 ∷ join_with_byte 58 (q ∷ parts))), group_is p s o, later m.0 m.1))

single_is : (b : Bool) (text segments : List ℕ) → single_groups_in text ≡ Some segments → IsGroups b text segments
single_is b [] segments e = subst (IsGroupsAfter b [] []) (same_Some [] segments e) refl
single_is b (c ∷ text) segments e = by_parts (slice_split is_colon (c ∷ text)) (join_with_byte-slice_split 58 (c ∷ text)) e
  where
    by_parts : (parts : List (List ℕ)) → join_with_byte 58 parts ≡ c ∷ text → all_there (map group_in parts) ≡ Some segments → IsGroups b (c ∷ text) segments
    by_parts [] j f = absurd cc
    by_parts (p ∷ parts) j f = subst (λ xs. IsGroupsAfter b [] xs segments) j (parts_are b [] p parts segments f)

-- ---- eight groups, or fewer around `::`

pub then_some_is : {A B : Type 0} (f : A → Option B) (o : Option A) (y : B) → option_and_then f o ≡ Some y → (x : A) × (o ≡ Some x) × (f x ≡ Some y)
then_some_is f None y e = absurd (none-some y e)
then_some_is f (Some x) y e = (x, refl, e)

eight_is : (groups segments : List ℕ) → eight groups ≡ Some segments → (groups ≡ segments) × (length groups ≡ 8)
eight_is groups segments e = by_test (length groups == 8) refl e
  where
    by_test : (t : Bool) → (length groups == 8) ≡ t → cond t (Some groups) None ≡ Some segments → (groups ≡ segments) × (length groups ≡ 8)
    by_test true t f = (same_Some groups segments f, eqb-true (length groups) 8 t)
    by_test false t f = absurd (none-some segments f)

filled_is : (head tail segments : List ℕ) → filled_up head tail ≡ Some segments → (length head + length tail < 8) × (segments ≡ head ++ replicate (8 - length head - length tail) 0 ++ tail)
filled_is head tail segments e = by_test (nat_le (length head + length tail) 7) refl e
  where
    by_test : (t : Bool) → nat_le (length head + length tail) 7 ≡ t → cond t (Some (head ++ replicate (8 - length head - length tail) 0 ++ tail)) None ≡ Some segments → (length head + length tail < 8) × (segments ≡ head ++ replicate (8 - length head - length tail) 0 ++ tail)
    by_test true t f =
        let l : length head + length tail ≤ 7 = leb-true (length head + length tail) 7 t in
        (omega arith, sym (same_Some (head ++ replicate (8 - length head - length tail) 0 ++ tail) segments f))
    by_test false t f = absurd (none-some segments f)

-- what is read is in the grammar
pub groups_are_hex : (text segments : List ℕ) → groups_in text ≡ Some segments → IsColonHex text segments
unfolding groups_in
groups_are_hex text segments e = by_gap (around_gap text) refl e
  where
    by_gap : (o : Option (List ℕ × List ℕ)) → around_gap text ≡ o → split_groups_in text o ≡ Some segments → IsColonHex text segments
    by_gap None o f =
        let m = then_some_is eight (single_groups_in text) segments f in
        let r = eight_is m.0 segments m.2 in
        inl (subst (IsGroups true text) r.0 (single_is true text m.0 m.1), sym (ap length r.0) ∙ r.1)
    by_gap (Some sides) o f =
        let m = then_some_is (λ (head : List ℕ). option_and_then (filled_up head) (single_groups_in sides.1)) (single_groups_in sides.0) segments f in
        let n = then_some_is (filled_up m.0) (single_groups_in sides.1) segments m.2 in
        let r = filled_is m.0 n.0 segments n.2 in
        inr (record {
          head_text = sides.0;
          tail_text = sides.1;
          head = m.0;
          tail = n.0;
          spelled = gap_is text sides o ∙ sym (append_assoc sides.0 (58 ∷ 58 ∷ []) sides.1);
          head_groups = single_is false sides.0 m.0 m.1;
          tail_groups = single_is true sides.1 n.0 n.1;
          room = r.0;
          value = r.1;
        })

-- and what is in the grammar and has no dot is read
pub hex_is_read : (text segments : List ℕ) → list_any is_dot text ≡ false → IsColonHex text segments → groups_in text ≡ Some segments
unfolding groups_in
hex_is_read text segments n (inl h) =
    let groups = plain [] text segments n h.0 in
    let no_gap : around_gap text ≡ None = ap around_gap (sym (append-nil text)) ∙ gap_after_groups text segments [] groups in
    ap (split_groups_in text) no_gap ∙ (ap (option_and_then eight) (single_read text segments groups) ∙ ap (λ (t : Bool). cond t (Some segments) None) (eq-eqb (length segments) 8 h.1))
hex_is_read text segments n (inr h) =
    let shown : text ≡ h.head_text ++ (58 ∷ 58 ∷ h.tail_text) = h.spelled ∙ append_assoc h.head_text (58 ∷ 58 ∷ []) h.tail_text in
    let parts = no_dots_after (h.head_text ++ (58 ∷ 58 ∷ [])) h.tail_text (ap (list_any is_dot) (sym h.spelled) ∙ n) in
    let gap : around_gap text ≡ Some (h.head_text, h.tail_text) =
    ap around_gap shown ∙ (gap_after_groups h.head_text h.head (58 ∷ 58 ∷ h.tail_text) h.head_groups ∙ ap (λ xs. Some (xs, h.tail_text)) (append-nil h.head_text)) in
    let head : single_groups_in h.head_text ≡ Some h.head = single_read h.head_text h.head h.head_groups in
    let tail : single_groups_in h.tail_text ≡ Some h.tail = single_read h.tail_text h.tail (plain [] h.tail_text h.tail parts.1 h.tail_groups) in
    let fits : nat_le (length h.head + length h.tail) 7 ≡ true = le-leb (length h.head + length h.tail) 7 (omega (arith, h.room)) in
    ap (split_groups_in text) gap
    ∙ (ap (option_and_then (λ (head : List ℕ). option_and_then (filled_up head) (single_groups_in h.tail_text))) head
    ∙ (ap (option_and_then (filled_up h.head)) tail
    ∙ (ap (λ (t : Bool). cond t (Some (h.head ++ replicate (8 - length h.head - length h.tail) 0 ++ h.tail)) None) fits ∙ ap Some (sym h.value))))

-- there are eight
pub hex_is_eight : (text segments : List ℕ) → IsColonHex text segments → length segments ≡ 8
hex_is_eight text segments (inl h) = h.1
hex_is_eight text segments (inr h) =
    let n = 8 - length h.head - length h.tail in
    ap length h.value ∙ omega (arith, h.room, length-append (h.head ++ replicate n 0) h.tail, length-append h.head (replicate n 0), length-replicate {A = ℕ} n 0)

-- and each is below 2 ^ 16
abbrev pub Fit : List ℕ → Type 0
Fit groups = AllByRecursion (λ s. s < 2 ^ 16) groups

group_fits : (text : List ℕ) (s : ℕ) → IsGroup text s → s < 2 ^ 16
group_fits text s h =
    let below = digits_value-lt 16 text h.0.0.1 in
    let most : 16 ^ length text ≤ 16 ^ 4 = pow-le-pow_right (lit≤ tt) h.1 in
    omega (arith, h.0.1)

after_fit : (lead text groups : List ℕ) → IsGroupsAfter false lead text groups → Fit groups
after_fit lead text [] h = tt
after_fit lead text (s ∷ groups) (inl h) = (group_fits h.0 s h.3, after_fit (codes ":") h.1 groups h.4)
after_fit lead text (s ∷ groups) (inr h) = absurd (false≢true h.2)

both_fit : (xs ys : List ℕ) → Fit xs → Fit ys → Fit (xs ++ ys)
both_fit [] ys h k = k
both_fit (x ∷ xs) ys h k = (h.0, both_fit xs ys h.1 k)

zeros_fit : (n : ℕ) → Fit (replicate n 0)
zeros_fit zero = tt
zeros_fit (suc n) = (omega arith, zeros_fit n)

pub fit_at : (groups : List ℕ) → Fit groups → AreGroups groups
fit_at [] h i = omega arith
fit_at (s ∷ groups) h zero = h.0
fit_at (s ∷ groups) h (suc i) = fit_at groups h.1 i

pub hex_fits : (text segments : List ℕ) → list_any is_dot text ≡ false → IsColonHex text segments → AreGroups segments
hex_fits text segments n (inl h) = fit_at segments (after_fit [] text segments (plain [] text segments n h.0))
hex_fits text segments n (inr h) =
    let parts = no_dots_after (h.head_text ++ (58 ∷ 58 ∷ [])) h.tail_text (ap (list_any is_dot) (sym h.spelled) ∙ n) in
    let head = after_fit [] h.head_text h.head h.head_groups in
    let tail = after_fit [] h.tail_text h.tail (plain [] h.tail_text h.tail parts.1 h.tail_groups) in
    fit_at segments (subst Fit (sym h.value) (both_fit _ h.tail (both_fit h.head _ head (zeros_fit _)) tail))

-- ---- addresses

pub address_of_hex : (text : List ℕ) (a : Ipv6Addr) (n : ℕ) → list_any is_dot text ≡ false → IsColonHex text a.segments → n ≡ ipv6_bits a → Some (record { family = V6; bits = bits_of 128 n }) ≡ ipv6_in text
address_of_hex text a n none h e =
    let bits : bits_of 128 n ≡ group_bits a.segments = ap (bits_of 128) e ∙ ipv6_bits_are a (hex_is_eight text a.segments h) (hex_fits text a.segments none h) in
    ap (λ x. let b : Address = record { family = V6; bits = x } in Some b) bits
    ∙ sym (ap (option_map (λ groups. let b : Address = record { family = V6; bits = group_bits groups } in b)) (hex_is_read text a.segments none h))

pub no_hex : (text : List ℕ) → ((a : Ipv6Addr) → IsIpv6Text text a → ⊥) → None ≡ ipv6_in text
no_hex text no_address = by_groups (groups_in text) refl
  where
    by_groups : (o : Option (List ℕ)) → groups_in text ≡ o → None ≡ option_map (λ groups. let b : Address = record { family = V6; bits = group_bits groups } in b) o
    by_groups None e = refl
    by_groups (Some segments) e = let a : Ipv6Addr = record { segments = segments } in absurd (no_address a (groups_are_hex text segments e))
