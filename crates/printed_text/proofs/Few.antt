-- Printed rows have no more hops than what they print, so their text is read as them.
use Rattle.std.proofs.Common.{◌≡◌, ℕ, zero, suc, ◌<◌, ◌≤◌, List, [], ◌∷◌, ◌++◌, Bool, true, false, cond, Option, Some, None, Ok, length, nat_eq, map, refl, sym, ap, subst, ◌∙◌, arith}
use Rattle.std.specs.Prelude.{◌||◌, flat_map, fold, slice_get, option_to_list}
use Rattle.std.specs.List.{AllByRecursion, IsDistinct, list_any, position_or_len}
use Rattle.std.proofs.lemmas.Bool.{eqb-true, ne_eqb}
use Rattle.std.proofs.lemmas.Grind.{flat_map-append}
use Rattle.std.proofs.lemmas.List.{length-map}
use Rattle.std.proofs.lemmas.Map.Steps.{length-le_from_distinct_below}
use Rattle.octet_fields.specs.Field.{◌>>=◌}
use Rattle.table_model.specs.Address.{Address, same_address}
use Rattle.table_model.proofs.SamePrefix.{same_address_itself}
use Rattle.table_model.specs.Entries.{Entries}
use Rattle.fib_addr.specs.Hops.{hop_at, with_hop, most_hops}
use Rattle.fib_addr.proofs.HopLists.{folded_distinct, none_distinct, passes_within, place_holds}
use Rattle.cert_model.specs.Rows.{CertRow, leaf_row, join_row, bound_row}
use Rattle.printed_text.specs.Rows.{PrintedRow, IsRow, text_of}
use Rattle.printed_text.specs.Texts.{numbered_hop, hops_in}
use Rattle.printed_text.specs.Used.{used_of, printed_in}
use Rattle.printed_text.specs.Numbered.{route_row_by, of_route, of_least, of_cert, IsOther, rows_with}
use Rattle.printed_text.proofs.Texts.{text_again}
use Rattle.printed_text.proofs.Renamed.{other_hop, said}

-- the hop is one of these
abbrev IsAmong : List Address → Address → Type 0
IsAmong hops a = list_any (same_address a) hops ≡ true

place_among : (hops : List Address) (n : ℕ) (a : Address) → slice_get hops n ≡ Some a → IsAmong hops a
place_among [] n a e = absurd cc
place_among (b ∷ hops) zero a e = let s : b ≡ a = cc in ap (λ t. t || list_any (same_address a) hops) (ap (same_address a) s ∙ same_address_itself a)
place_among (b ∷ hops) (suc n) a e = later (same_address a b) (place_among hops n a e)
  where
    later : (t : Bool) → IsAmong hops a → (t || list_any (same_address a) hops) ≡ true
    later true i = refl
    later false i = i

number_is_among : (hops : List Address) (n : ℕ) (a : Address) → hop_at hops n ≡ Some a → IsAmong hops a
number_is_among hops zero a e = absurd cc
number_is_among hops (suc n) a e = place_among hops n a e

both_among : (hops xs ys : List Address) → AllByRecursion (IsAmong hops) xs → AllByRecursion (IsAmong hops) ys → AllByRecursion (IsAmong hops) (xs ++ ys)
both_among hops [] ys a b = b
both_among hops (x ∷ xs) ys a b = (a.0, both_among hops xs ys a.1 b)

listed_among : (hops : List Address) (n : ℕ) → AllByRecursion (IsAmong hops) (option_to_list (hop_at hops n))
listed_among hops n = by_hop (hop_at hops n) refl
  where
    by_hop : (o : Option Address) → hop_at hops n ≡ o → AllByRecursion (IsAmong hops) (option_to_list o)
    by_hop None e = tt
    by_hop (Some a) e = (number_is_among hops n a e, tt)

routes_among : (hops : List Address) (R : Entries) → AllByRecursion (IsAmong hops) (flat_map numbered_hop (flat_map (of_route hops) R))
routes_among hops [] = tt
routes_among hops (e ∷ R) =
    subst (λ (xs : List Address). AllByRecursion (IsAmong hops) xs) (sym (flat_map-append numbered_hop (of_route hops e) (flat_map (of_route hops) R)))
    (both_among hops (flat_map numbered_hop (of_route hops e)) (flat_map numbered_hop (flat_map (of_route hops) R)) (by_hop (hop_at hops e.1) refl) (routes_among hops R))
  where
    by_hop : (o : Option Address) → hop_at hops e.1 ≡ o → AllByRecursion (IsAmong hops) (flat_map numbered_hop (route_row_by e.0 o))
    by_hop None x = tt
    by_hop (Some a) x = (number_is_among hops e.1 a x, tt)

least_among : (hops : List Address) (T : Entries) → AllByRecursion (IsAmong hops) (flat_map numbered_hop (map (of_least hops) T))
least_among hops [] = tt
least_among hops (e ∷ T) = both_among hops (option_to_list (hop_at hops e.1)) (flat_map numbered_hop (map (of_least hops) T)) (listed_among hops e.1) (least_among hops T)

cert_among : (hops : List Address) (C : List CertRow) → AllByRecursion (IsAmong hops) (flat_map numbered_hop (map (of_cert hops) C))
cert_among hops [] = tt
cert_among hops (leaf_row p h ∷ C) = both_among hops (option_to_list (hop_at hops h)) (flat_map numbered_hop (map (of_cert hops) C)) (listed_among hops h) (cert_among hops C)
cert_among hops (join_row p k ∷ C) = cert_among hops C
cert_among hops (bound_row f n ∷ C) = cert_among hops C

-- the different hops of what is among them are among them
folded_among : (hops new used : List Address) → AllByRecursion (IsAmong hops) new → AllByRecursion (IsAmong hops) used → AllByRecursion (IsAmong hops) (fold with_hop new used)
folded_among hops new [] n u = n
folded_among hops new (a ∷ used) n u = folded_among hops (with_hop new a) used (by_test (list_any (same_address a) new)) u.1
  where
    by_test : (t : Bool) → AllByRecursion (IsAmong hops) (cond t new (new ++ a ∷ []))
    by_test true = n
    by_test false = both_among hops new (a ∷ []) n (u.0, tt)

-- ---- there are no more different hops than those that they are among

abbrev place_of : List Address → Address → ℕ
place_of hops a = position_or_len (same_address a) hops

place_is : (hops : List Address) (a : Address) → IsAmong hops a → slice_get hops (place_of hops a) ≡ Some a
place_is hops a i = place_holds hops a (passes_within (same_address a) hops i)

places_apart : (hops : List Address) (a : Address) (xs : List Address) → IsAmong hops a → AllByRecursion (IsAmong hops) xs → AllByRecursion (λ b. same_address a b ≡ false) xs
    → AllByRecursion (λ n. nat_eq (place_of hops a) n ≡ false) (map (place_of hops) xs)
places_apart hops a [] i j d = tt
places_apart hops a (b ∷ xs) i j d = (ne_eqb (place_of hops a) (place_of hops b) apart, places_apart hops a xs i j.1 d.1)
  where
    apart : place_of hops a ≡ place_of hops b → ⊥
    apart e =
        let s : Some a ≡ Some b = sym (place_is hops a i) ∙ (ap (slice_get hops) e ∙ place_is hops b j.0) in
        let t : a ≡ b = cc in
        let no : true ≡ false = sym (same_address_itself a) ∙ (ap (same_address a) t ∙ d.0) in
        absurd cc

places_distinct : (hops xs : List Address) → AllByRecursion (IsAmong hops) xs → IsDistinct same_address xs → IsDistinct nat_eq (map (place_of hops) xs)
unfolding IsDistinct
places_distinct hops [] i d = tt
places_distinct hops (a ∷ xs) i d = (places_apart hops a xs i.0 i.1 d.0, places_distinct hops xs i.1 d.1)

places_below : (hops xs : List Address) → AllByRecursion (IsAmong hops) xs → (q : ℕ) → list_any (nat_eq q) (map (place_of hops) xs) ≡ true → q < length hops
places_below hops [] i q e = absurd cc
places_below hops (a ∷ xs) i q e = by_test (nat_eq q (place_of hops a)) refl e (places_below hops xs i.1 q)
  where
    by_test : (t : Bool) → nat_eq q (place_of hops a) ≡ t → (t || list_any (nat_eq q) (map (place_of hops) xs)) ≡ true
        → (list_any (nat_eq q) (map (place_of hops) xs) ≡ true → q < length hops) → q < length hops
    by_test true f g later = omega (arith, eqb-true q (place_of hops a) f, passes_within (same_address a) hops i.0)
    by_test false f g later = later g

few_among : (hops xs : List Address) → AllByRecursion (IsAmong hops) xs → IsDistinct same_address xs → length xs ≤ length hops
few_among hops xs i d =
    let l = length-le_from_distinct_below (map (place_of hops) xs) (length hops) (places_distinct hops xs i d) (places_below hops xs i) in
    omega (arith, l, length-map xs (place_of hops))

few_hops : (hops : List Address) (R T : Entries) (C : List CertRow) (between after : List PrintedRow) → AllByRecursion IsOther between → AllByRecursion IsOther after
    → length (hops_in (rows_with hops R T C between after)) ≤ length hops
few_hops hops R T C between after b a =
    let used : List Address = flat_map numbered_hop (rows_with hops R T C between after) in
    let least : List Address = flat_map numbered_hop (map (of_least hops) T) in
    let cert : List Address = flat_map numbered_hop (map (of_cert hops) C) in
    let all : AllByRecursion (IsAmong hops) used =
    subst (λ (xs : List Address). AllByRecursion (IsAmong hops) xs) (sym (said numbered_hop hops R T C between after other_hop b a))
    (both_among hops (flat_map numbered_hop (flat_map (of_route hops) R)) (least ++ cert) (routes_among hops R) (both_among hops least cert (least_among hops T) (cert_among hops C)))
    in
    few_among hops (fold with_hop [] used) (folded_among hops [] used tt all) (folded_distinct [] used none_distinct)

pub printed_read : (hops : List Address) (R T : Entries) (C : List CertRow) (between after : List PrintedRow) → length hops ≤ most_hops → AllByRecursion IsOther between → AllByRecursion IsOther after
    → AllByRecursion IsRow (rows_with hops R T C between after) → printed_in (text_of (rows_with hops R T C between after)) ≡ Ok (used_of (rows_with hops R T C between after))
printed_read hops R T C between after l b a r =
    let rows : List PrintedRow = rows_with hops R T C between after in
    let few : length (hops_in rows) ≤ most_hops = omega (arith, few_hops hops R T C between after b a, l) in
    ap (λ x. x >>= λ rows. Ok (used_of rows)) (text_again rows r few)
