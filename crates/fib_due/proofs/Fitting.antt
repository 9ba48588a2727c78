-- The rows that were read are of prefixes.
use Rattle.std.proofs.Common.{◌≡◌, ℕ, List, [], ◌∷◌, ◌++◌, Bool, true, false, cond, Option, Some, None, Result, Ok, Err, map, refl, ap, subst, codes}
use Rattle.std.specs.Prelude.{flat_map, bytes_eq}
use Rattle.std.specs.List.{AllByRecursion, filter}
use Rattle.octet_fields.specs.Field.{◌>>=◌}
use Rattle.table_model.specs.Address.{Address, Prefix, IsPrefix}
use Rattle.cert_model.specs.Verdict.{RowFits}
use Rattle.fib_addr.specs.Text.{prefix_in}
use Rattle.fib_addr.proofs.PrefixLaws.{read_is_prefix}
use Rattle.printed_text.specs.Rows.{PrintedRow, route_row, invalid_row, add_row, replace_row, remove_row, moves_row, answer_row, visits_row, table_row, least_row, cert_leaf_row, cert_join_row, cert_bound_row, report_row}
use Rattle.printed_text.specs.Reading.{or_why, bad_prefix, line_in, row_in, named_in, route_row_in, change_in, signed_in, moves_in, answer_in, visits_in, cert_in, part_in, join_in, bound_in, report_in, entry_in, next_field, one_field, two_fields, prefix_field, address_field, number_field, hop_field, count_field, family_field, invalid_row_in, announced_fields, vrp_fields, announced_in, printed_vrp_in}
use Rattle.printed_text.specs.Texts.{BadLine, hops_in, line_texts, rows_in}
use Rattle.printed_text.specs.Used.{Used, cert_part, printed_in, used_of}
use Rattle.printed_text.specs.Whole.{is_filled}
use Rattle.printed_text.proofs.Whole.{printed_rows}

-- the row's prefix is one, if it is a route's, an entry's, a change's, or of a certificate
abbrev pub Fits : PrintedRow → Type 0
Fits (route_row p a) = IsPrefix p
Fits (add_row event p hop) = IsPrefix p
Fits (replace_row event p hop) = IsPrefix p
Fits (remove_row event p) = IsPrefix p
Fits (table_row p hop) = IsPrefix p
Fits (least_row p hop) = IsPrefix p
Fits (cert_leaf_row p hop) = IsPrefix p
Fits (cert_join_row p k) = IsPrefix p
Fits row = Unit {0}

-- so is the row that was read, if one was
abbrev pub FitsIn : Result PrintedRow ℕ → Type 0
FitsIn (Ok row) = Fits row
FitsIn (Err why) = Unit {0}

-- ---- one row

-- whatever was read before
before : {A : Type 0} (r : Result A ℕ) (f : A → Result PrintedRow ℕ) → ((x : A) → r ≡ Ok x → FitsIn (f x)) → FitsIn (r >>= f)
before (Ok x) f fits = fits x refl
before (Err why) f fits = tt

either : (t : Bool) (a b : Result PrintedRow ℕ) → FitsIn a → FitsIn b → FitsIn (cond t a b)
either true a b x y = x
either false a b x y = y

abbrev read : {A : Type 0} → A → Result A ℕ
read x = Ok x

same_read : {A : Type 0} (x y : A) → read x ≡ read y → x ≡ y
same_read x y e = cc

or_read : {A : Type 0} (why : ℕ) (o : Option A) (x : A) → or_why why o ≡ Ok x → o ≡ Some x
or_read why (Some y) x e = ap Some (same_read y x e)
or_read why None x e = absurd cc

prefix_read : (text : List ℕ) (p : Prefix) → prefix_field text ≡ Ok p → IsPrefix p
prefix_read text p e = read_is_prefix text p (or_read bad_prefix (prefix_in text) p e)

entry_read : (word : List ℕ) (fields : List (List ℕ)) (e : Prefix × Option Address) → entry_in word fields ≡ Ok e → IsPrefix e.0
unfolding entry_in
entry_read word fields e is = by_fields (two_fields fields) is
  where
    by_hop : (p : Prefix) (h : Result (Option Address) ℕ) → IsPrefix p → (h >>= λ hop. read (p, hop)) ≡ Ok e → IsPrefix e.0
    by_hop p (Ok hop) fits is = subst (λ (x : Prefix × Option Address). IsPrefix x.0) (same_read (p, hop) e is) fits
    by_hop p (Err why) fits is = absurd cc

    by_prefix : (f : List ℕ × List ℕ) (r : Result Prefix ℕ) → prefix_field f.0 ≡ r → (r >>= λ p. hop_field word f.1 >>= λ hop. read (p, hop)) ≡ Ok e → IsPrefix e.0
    by_prefix f (Ok p) at is = by_hop p (hop_field word f.1) (prefix_read f.0 p at) is
    by_prefix f (Err why) at is = absurd cc

    by_fields : (r : Result (List ℕ × List ℕ) ℕ) → (r >>= λ f. prefix_field f.0 >>= λ p. hop_field word f.1 >>= λ hop. read (p, hop)) ≡ Ok e → IsPrefix e.0
    by_fields (Ok f) is = by_prefix f (prefix_field f.0) refl is
    by_fields (Err why) is = absurd cc

route_fits : (fields : List (List ℕ)) → FitsIn (route_row_in fields)
unfolding route_row_in
route_fits fields = before (two_fields fields) _ (λ f e. before (prefix_field f.0) _ (λ p is. before (address_field f.1) _ (λ a e. prefix_read f.0 p is)))

signed_fits : (event : ℕ) (sign : List ℕ) (fields : List (List ℕ)) → FitsIn (signed_in event sign fields)
unfolding signed_in
signed_fits event sign fields =
    either (bytes_eq sign (codes "+")) _ _ (before (entry_in (codes "drop") fields) _ (λ e is. entry_read (codes "drop") fields e is))
    (either (bytes_eq sign (codes "=")) _ _ (before (entry_in (codes "drop") fields) _ (λ e is. entry_read (codes "drop") fields e is))
    (either (bytes_eq sign (codes "-")) _ _ (before (one_field fields) _ (λ f is. before (prefix_field f) _ (λ p is. prefix_read f p is))) tt))

change_fits : (fields : List (List ℕ)) → FitsIn (change_in fields)
unfolding change_in
change_fits fields = before (next_field fields) _ (λ first e. before (number_field first.0) _ (λ event e. before (next_field first.1) _ (λ sign e. signed_fits event sign.0 sign.1)))

moves_fits : (fields : List (List ℕ)) → FitsIn (moves_in fields)
unfolding moves_in
moves_fits fields = before (two_fields fields) _ (λ f e. before (number_field f.0) _ (λ event e. before (number_field f.1) _ (λ n e. tt)))

answer_fits : (fields : List (List ℕ)) → FitsIn (answer_in fields)
unfolding answer_in
answer_fits fields = before (two_fields fields) _ (λ f e. before (address_field f.0) _ (λ a e. before (hop_field (codes "none") f.1) _ (λ hop e. tt)))

visits_fits : (fields : List (List ℕ)) → FitsIn (visits_in fields)
unfolding visits_in
visits_fits fields = before (two_fields fields) _ (λ f e. before (address_field f.0) _ (λ a e. before (number_field f.1) _ (λ n e. tt)))

join_fits : (fields : List (List ℕ)) → FitsIn (join_in fields)
unfolding join_in
join_fits fields = before (two_fields fields) _ (λ f e. before (prefix_field f.0) _ (λ p is. before (number_field f.1) _ (λ k e. prefix_read f.0 p is)))

bound_fits : (fields : List (List ℕ)) → FitsIn (bound_in fields)
unfolding bound_in
bound_fits fields = before (two_fields fields) _ (λ f e. before (family_field f.0) _ (λ family e. before (number_field f.1) _ (λ n e. tt)))

part_fits : (word : List ℕ) (fields : List (List ℕ)) → FitsIn (part_in word fields)
unfolding part_in
part_fits word fields =
    either (bytes_eq word (codes "leaf")) _ _ (before (entry_in (codes "none") fields) _ (λ e is. entry_read (codes "none") fields e is))
    (either (bytes_eq word (codes "join")) _ _ (join_fits fields) (either (bytes_eq word (codes "bound")) _ _ (bound_fits fields) tt))

cert_fits : (fields : List (List ℕ)) → FitsIn (cert_in fields)
unfolding cert_in
cert_fits fields = before (next_field fields) _ (λ word e. part_fits word.0 word.1)

report_fits : (fields : List (List ℕ)) → FitsIn (report_in fields)
unfolding report_in
report_fits fields = before (two_fields fields) _ (λ f e. before (count_field f.0) _ (λ count e. before (number_field f.1) _ (λ n e. tt)))

invalid_fits : (fields : List (List ℕ)) → FitsIn (invalid_row_in fields)
unfolding invalid_row_in
invalid_fits fields = before (announced_fields fields) _ (λ a e. before (vrp_fields a.1) _ (λ v e. before (announced_in a.0) _ (λ x e. before (printed_vrp_in v) _ (λ y e. tt))))

named_fits : (name : List ℕ) (fields : List (List ℕ)) → FitsIn (named_in name fields)
unfolding named_in
named_fits name fields =
    either (bytes_eq name (codes "route")) _ _ (route_fits fields)
    (either (bytes_eq name (codes "invalid")) _ _ (invalid_fits fields)
    (either (bytes_eq name (codes "change")) _ _ (change_fits fields)
    (either (bytes_eq name (codes "moves")) _ _ (moves_fits fields)
    (either (bytes_eq name (codes "answer")) _ _ (answer_fits fields)
    (either (bytes_eq name (codes "visits")) _ _ (visits_fits fields)
    (either (bytes_eq name (codes "table")) _ _ (before (entry_in (codes "drop") fields) _ (λ e is. entry_read (codes "drop") fields e is))
    (either (bytes_eq name (codes "least")) _ _ (before (entry_in (codes "drop") fields) _ (λ e is. entry_read (codes "drop") fields e is))
    (either (bytes_eq name (codes "cert")) _ _ (cert_fits fields)
    (either (bytes_eq name (codes "report")) _ _ (report_fits fields) tt)))))))))

row_fits : (fields : List (List ℕ)) → FitsIn (row_in fields)
unfolding row_in
row_fits fields = before (next_field fields) _ (λ name e. named_fits name.0 name.1)

-- ---- all rows

pub all_append : {A : Type 0} (P : A → Type 0) (xs ys : List A) → AllByRecursion P xs → AllByRecursion P ys → AllByRecursion P (xs ++ ys)
all_append P [] ys all more = more
all_append P (x ∷ xs) ys all more = (all.0, all_append P xs ys all.1 more)

head_same : (r : Result PrintedRow ℕ) (rs : List (Result PrintedRow ℕ)) (row : PrintedRow) (rows : List PrintedRow) → r ∷ rs ≡ map read (row ∷ rows) → (r ≡ Ok row) × (rs ≡ map read rows)
head_same r rs row rows e = (cc, cc)

-- the rows of lines that were read
pub lines_fit : (lines : List (List ℕ)) (rows : List PrintedRow) → map line_in lines ≡ map read rows → AllByRecursion Fits rows
lines_fit lines [] e = tt
lines_fit [] (row ∷ rows) e = absurd cc
lines_fit (line ∷ lines) (row ∷ rows) e =
    let parts = head_same (line_in line) (map line_in lines) row rows e in
    (subst FitsIn parts.0 (row_fits _), lines_fit lines rows parts.1)

-- what a row says of a certificate is of a prefix, whatever numbers the hops have
part_fits_in : (hops : List Address) (row : PrintedRow) → Fits row → AllByRecursion RowFits (cert_part hops row)
part_fits_in hops (cert_leaf_row p hop) f = (f, tt)
part_fits_in hops (cert_join_row p k) f = (f, tt)
part_fits_in hops (cert_bound_row g n) f = (tt, tt)
part_fits_in hops (route_row p a) f = tt
part_fits_in hops (invalid_row a v) f = tt
part_fits_in hops (add_row event p hop) f = tt
part_fits_in hops (replace_row event p hop) f = tt
part_fits_in hops (remove_row event p) f = tt
part_fits_in hops (moves_row event n) f = tt
part_fits_in hops (answer_row a hop) f = tt
part_fits_in hops (visits_row a n) f = tt
part_fits_in hops (table_row p hop) f = tt
part_fits_in hops (least_row p hop) f = tt
part_fits_in hops (report_row count n) f = tt

pub all_fit : (hops : List Address) (rows : List PrintedRow) → AllByRecursion Fits rows → AllByRecursion RowFits (flat_map (cert_part hops) rows)
all_fit hops [] f = tt
all_fit hops (row ∷ rows) f = all_append RowFits (cert_part hops row) (flat_map (cert_part hops) rows) (part_fits_in hops row f.0) (all_fit hops rows f.1)

abbrev found : Used → Result Used BadLine
found used = Ok used

same_used : (u v : Used) → found u ≡ found v → u ≡ v
same_used u v e = cc

-- what is used of a text that was read
pub read_fits : (text : List ℕ) (used : Used) → printed_in text ≡ Ok used → AllByRecursion RowFits used.cert
read_fits text used e = by_rows (rows_in text) refl e
  where
    by_rows : (r : Result (List PrintedRow) BadLine) → rows_in text ≡ r → (r >>= λ rows. Ok (used_of rows)) ≡ Ok used → AllByRecursion RowFits used.cert
    by_rows (Ok rows) is e =
        let have = (printed_rows text rows).0 is in
        subst (λ (u : Used). AllByRecursion RowFits u.cert) (same_used (used_of rows) used e) (all_fit (hops_in rows) rows (lines_fit (filter is_filled (line_texts text)) rows have.said))
    by_rows (Err bad) is e = absurd cc
