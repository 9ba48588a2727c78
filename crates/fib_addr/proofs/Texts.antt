-- What is written is read, and what is read was written so.
use Rattle.std.proofs.Common.{◌≡◌, ℕ, ◌+◌, ◌<◌, List, [], ◌∷◌, ◌++◌, Bool, true, false, cond, Option, Some, None, length, take, drop, codes, decimal, refl, sym, ap, ◌∙◌, arith, append_assoc, mod-eq_of_lt, subst}
use Rattle.std.specs.Prelude.{◌&&◌, nat_lt, bytes_eq, option_map, if◌then◌else◌}
use Rattle.std.specs.Option.{option_and_then}
use Rattle.std.specs.List.{AllByRecursion, All, slice_split, join_with_byte}
use Rattle.std.specs.Net.Text.{dotted_text}
use Rattle.std.specs.Str.Parse.{AllDigits, digits_value}
use Rattle.std.proofs.Math.Seq.{drop-append-add, take-append_seam}
use Rattle.std.proofs.lemmas.Bool.{ne_eqb, eq-eqb, eqb-true, and_parts, and_from, lt-ltb, ltb-true}
use Rattle.std.proofs.lemmas.Option.{none-some, same_Some}
use Rattle.std.proofs.lemmas.Fmt.{decimal_is_IsNumeral}
use Rattle.std.proofs.lemmas.Str.Parse.{digit_from_value}
use Rattle.std.proofs.lemmas.List.Elements.{All-from_recursion}
use Rattle.std.proofs.lemmas.List.Splits.{slice_split_at, slice_split_none, join_with_byte-slice_split}
use Rattle.table_model.specs.Bits.{bits_of, value_of, octet_bits}
use Rattle.table_model.specs.Address.{Address}
use Rattle.table_model.specs.declared.family.Family.TheVariants.{V4}
use Rattle.table_model.proofs.BitLaws.{length-bits_of, value-bits_of}
use Rattle.fib_addr.specs.Text.{octet_of, bits_text, number_below, octets_in, ipv4_in, is_dot}

digits_no_dot : (cs : List ℕ) → AllDigits 10 cs → AllByRecursion (λ b. is_dot b ≡ false) cs
digits_no_dot [] h = tt
digits_no_dot (c ∷ cs) h = let d = digit_from_value c h.0 in (ne_eqb c 46 (omega (arith, d.0)), digits_no_dot cs h.1)

pub no_dot : (n : ℕ) → n < 256 → All (λ b. is_dot b ≡ false) (decimal n)
no_dot n h = All-from_recursion _ _ (digits_no_dot (decimal n) (decimal_is_IsNumeral n (omega arith)).0.1)

pub dots : (a b c d : List ℕ) → (((((a ++ codes ".") ++ b) ++ codes ".") ++ c) ++ codes ".") ++ d ≡ a ++ (46 ∷ (b ++ (46 ∷ (c ++ (46 ∷ d)))))
dots a b c d = simp append_assoc

split_dotted : (a b c d : ℕ) → a < 256 → b < 256 → c < 256 → d < 256 → slice_split is_dot (dotted_text a b c d) ≡ decimal a ∷ decimal b ∷ decimal c ∷ decimal d ∷ []
split_dotted a b c d ha hb hc hd =
    ap (slice_split is_dot) (dots (decimal a) (decimal b) (decimal c) (decimal d))
    ∙ (slice_split_at is_dot (decimal a) 46 _ (no_dot a ha) refl
    ∙ (ap (λ x. decimal a ∷ x) (slice_split_at is_dot (decimal b) 46 _ (no_dot b hb) refl)
    ∙ (ap (λ x. decimal a ∷ decimal b ∷ x) (slice_split_at is_dot (decimal c) 46 _ (no_dot c hc) refl)
    ∙ ap (λ x. decimal a ∷ decimal b ∷ decimal c ∷ x) (slice_split_none is_dot (decimal d) (no_dot d hd)))))

pub bytes_eq_refl : (xs : List ℕ) → bytes_eq xs xs ≡ true
bytes_eq_refl [] = refl
bytes_eq_refl (x ∷ xs) = and_from _ _ (eq-eqb x x refl) (bytes_eq_refl xs)

pub bytes_eq_is : (xs ys : List ℕ) → bytes_eq xs ys ≡ true → xs ≡ ys
bytes_eq_is [] [] e = refl
bytes_eq_is [] (y ∷ ys) e = cc
bytes_eq_is (x ∷ xs) [] e = cc
bytes_eq_is (x ∷ xs) (y ∷ ys) e =
    let h = and_parts _ _ e in
    let a : x ≡ y = eqb-true x y h.0 in
    let b : xs ≡ ys = bytes_eq_is xs ys h.1 in
    cc

number_read : (n : ℕ) → n < 256 → number_below 256 (decimal n) ≡ Some n
number_read n h =
    let v : digits_value 10 (decimal n) ≡ n = (decimal_is_IsNumeral n (omega arith)).1 in
    ap (λ x. if bytes_eq (decimal x) (decimal n) && nat_lt x 256 then Some x else None) v
    ∙ ap (λ (t : Bool). cond t (Some n) None) (and_from _ _ (bytes_eq_refl (decimal n)) (lt-ltb n 256 h))

-- four numbers with dots between them are read as the address of these octets
pub ipv4_in-dotted : (a b c d : ℕ) → a < 256 → b < 256 → c < 256 → d < 256 → ipv4_in (dotted_text a b c d) ≡ Some (record { family = V4; bits = octet_bits (a ∷ b ∷ c ∷ d ∷ []) })
ipv4_in-dotted a b c d ha hb hc hd =
    rw (split_dotted a b c d ha hb hc hd, number_read a ha, number_read b hb, number_read c hc, number_read d hd) refl

-- ---- what is written

drop_past : (xs ys : List Bool) (n m : ℕ) → length xs ≡ n → drop (n + m) (xs ++ ys) ≡ drop m ys
drop_past xs ys n m e = ap (λ j. drop (j + m) (xs ++ ys)) (sym e) ∙ drop-append-add xs ys m

take_front : (xs ys : List Bool) (n : ℕ) → length xs ≡ n → take n (xs ++ ys) ≡ xs
take_front xs ys n e = ap (λ j. take j (xs ++ ys)) (sym e) ∙ take-append_seam xs ys

-- an octet's bits in front, and the place of the next octets
octet_front : (x : ℕ) (rest : List Bool) → x < 256 → value_of (take 8 (bits_of 8 x ++ rest)) ≡ x
octet_front x rest h = ap value_of (take_front (bits_of 8 x) rest 8 (length-bits_of 8 x)) ∙ (value-bits_of 8 x ∙ mod-eq_of_lt h)

same_dotted : (i j k l a b c d : ℕ) → i ≡ a → j ≡ b → k ≡ c → l ≡ d → dotted_text i j k l ≡ dotted_text a b c d
same_dotted i j k l a b c d w x y z = cc

pub octets_back : (a b c d : ℕ) → a < 256 → b < 256 → c < 256 → d < 256 → bits_text V4 (octet_bits (a ∷ b ∷ c ∷ d ∷ [])) ≡ dotted_text a b c d
unfolding octet_bits
octets_back a b c d ha hb hc hd =
    let Z = bits_of 8 d ++ [] in
    let Y = bits_of 8 c ++ Z in
    let X = bits_of 8 b ++ Y in
    let W = bits_of 8 a ++ X in
    let w : octet_of 0 W ≡ a = octet_front a X ha in
    let x : octet_of 1 W ≡ b = ap (λ l. value_of (take 8 l)) (drop_past (bits_of 8 a) X 8 0 (length-bits_of 8 a)) ∙ octet_front b Y hb in
    let y : octet_of 2 W ≡ c = ap (λ l. value_of (take 8 l)) (drop_past (bits_of 8 a) X 8 8 (length-bits_of 8 a) ∙ drop_past (bits_of 8 b) Y 8 0 (length-bits_of 8 b)) ∙ octet_front c Z hc in
    let z : octet_of 3 W ≡ d = ap (λ l. value_of (take 8 l)) (drop_past (bits_of 8 a) X 8 16 (length-bits_of 8 a) ∙ (drop_past (bits_of 8 b) Y 8 8 (length-bits_of 8 b) ∙ drop_past (bits_of 8 c) Z 8 0 (length-bits_of 8 c))) ∙ octet_front d [] hd in
    same_dotted (octet_of 0 W) (octet_of 1 W) (octet_of 2 W) (octet_of 3 W) a b c d w x y z

-- four numbers that were read are below 256, and the text is theirs
record IsRead (parts : List (List ℕ)) (octets : List ℕ) : Type 0 where
  a : ℕ
  b : ℕ
  c : ℕ
  d : ℕ
  fit : (a < 256) × (b < 256) × (c < 256) × (d < 256)
  octets_are : octets ≡ a ∷ b ∷ c ∷ d ∷ []
  parts_are : parts ≡ decimal a ∷ decimal b ∷ decimal c ∷ decimal d ∷ []

number_is : (text : List ℕ) (n : ℕ) → number_below 256 text ≡ Some n → (text ≡ decimal n) × (n < 256)
number_is text n e = by_test (bytes_eq (decimal (digits_value 10 text)) text) (nat_lt (digits_value 10 text) 256) refl refl e
  where
    by_test : (s t : Bool) → bytes_eq (decimal (digits_value 10 text)) text ≡ s → nat_lt (digits_value 10 text) 256 ≡ t → cond (s && t) (Some (digits_value 10 text)) None ≡ Some n → (text ≡ decimal n) × (n < 256)
    by_test true true s t f = let v : digits_value 10 text ≡ n = cc in (sym (bytes_eq_is _ _ s) ∙ ap decimal v, subst (λ (x : ℕ). x < 256) v (ltb-true _ _ t))
    by_test true false s t f = absurd cc
    by_test false b s t f = absurd cc

same_four : (p q r s t u v w : List ℕ) → p ≡ t → q ≡ u → r ≡ v → s ≡ w → p ∷ q ∷ r ∷ s ∷ [] ≡ t ∷ u ∷ v ∷ w ∷ []
same_four p q r s t u v w a b c d = cc

octets_read : (parts : List (List ℕ)) (octets : List ℕ) → octets_in parts ≡ Some octets → IsRead parts octets
octets_read [] octets e = absurd (none-some octets e)
octets_read (p ∷ []) octets e = absurd (none-some octets e)
octets_read (p ∷ q ∷ []) octets e = absurd (none-some octets e)
octets_read (p ∷ q ∷ r ∷ []) octets e = absurd (none-some octets e)
octets_read (p ∷ q ∷ r ∷ s ∷ t ∷ more) octets e = absurd (none-some octets e)
octets_read (p ∷ q ∷ r ∷ s ∷ []) octets e = by_numbers (number_below 256 p) (number_below 256 q) (number_below 256 r) (number_below 256 s) refl refl refl refl e
  where
    by_numbers : (w x y z : Option ℕ) → number_below 256 p ≡ w → number_below 256 q ≡ x → number_below 256 r ≡ y → number_below 256 s ≡ z
        → option_and_then (λ i. option_and_then (λ j. option_and_then (λ k. option_map (λ l. i ∷ j ∷ k ∷ l ∷ []) z) y) x) w ≡ Some octets → IsRead (p ∷ q ∷ r ∷ s ∷ []) octets
    by_numbers (Some i) (Some j) (Some k) (Some l) a b c d f =
        let m = number_is p i a in
        let n = number_is q j b in
        let o = number_is r k c in
        let u = number_is s l d in
        record { a = i; b = j; c = k; d = l; fit = (m.1, n.1, o.1, u.1); octets_are = sym (same_Some (i ∷ j ∷ k ∷ l ∷ []) octets f); parts_are = same_four p q r s (decimal i) (decimal j) (decimal k) (decimal l) m.0 n.0 o.0 u.0 }
    by_numbers None x y z a b c d f = absurd (none-some octets f)
    by_numbers (Some i) None y z a b c d f = absurd (none-some octets f)
    by_numbers (Some i) (Some j) None z a b c d f = absurd (none-some octets f)
    by_numbers (Some i) (Some j) (Some k) None a b c d f = absurd (none-some octets f)

-- a text that is read as an address
pub record IsDottedText (text : List ℕ) (x : Address) : Type 0 where
  pub a : ℕ
  pub b : ℕ
  pub c : ℕ
  pub d : ℕ
  pub fit : (a < 256) × (b < 256) × (c < 256) × (d < 256)
  pub address : x ≡ record { family = V4; bits = octet_bits (a ∷ b ∷ c ∷ d ∷ []) }
  pub spelled : text ≡ dotted_text a b c d

pub some_map : {A B : Type 0} (f : A → B) (o : Option A) (y : B) → option_map f o ≡ Some y → (x : A) × (o ≡ Some x) × (y ≡ f x)
some_map f None y e = absurd cc
some_map f (Some x) y e = (x, refl, let h : f x ≡ y = cc in sym h)

pub address_read : (text : List ℕ) (x : Address) → ipv4_in text ≡ Some x → IsDottedText text x
address_read text x e =
    let m = some_map (λ octets. let a : Address = record { family = V4; bits = octet_bits octets } in a) (octets_in (slice_split is_dot text)) x e in
    let r = octets_read (slice_split is_dot text) m.0 m.1 in
    record {
      a = r.a;
      b = r.b;
      c = r.c;
      d = r.d;
      fit = r.fit;
      address = m.2 ∙ ap (λ o. let a : Address = record { family = V4; bits = octet_bits o } in a) r.octets_are;
      spelled = sym (join_with_byte-slice_split 46 text) ∙ (ap (join_with_byte 46) r.parts_are ∙ sym (dots (decimal r.a) (decimal r.b) (decimal r.c) (decimal r.d)));
    }
