-- The text of rows is read as these rows.
use Rattle.std.proofs.Common.{◌≡◌, ℕ, zero, suc, ◌+◌, ◌-◌, ◌≤◌, ◌<◌, List, [], ◌∷◌, ◌++◌, Bool, true, false, cond, Ok, length, take, map, refl, sym, ap, subst, ◌∙◌, arith, append_assoc, append-nil, length-append}
use Rattle.std.specs.Prelude.{◌||◌, ◌&&◌, ◌==◌, nat_lt, flat_map, fold, slice_index}
use Rattle.std.specs.List.{AllByRecursion, All, list_any, slice_split, join_with_byte}
use Rattle.std.proofs.lemmas.Bool.{le-ltb, lt-ltb, cond-false}
use Rattle.std.proofs.lemmas.Grind.{flat_map-append}
use Rattle.std.proofs.lemmas.List.Sums.{fold-append}
use Rattle.std.proofs.lemmas.List.Elements.{All-from_recursion}
use Rattle.std.proofs.lemmas.List.Splits.{slice_split_at, slice_split_none}
use Rattle.std.proofs.Math.Seq.{take-append_seam}
use Rattle.octet_fields.specs.Field.{◌>>=◌}
use Rattle.bstr.specs.Text.{without_terminator, no_cr}
use Rattle.table_model.specs.Address.{Address, same_address}
use Rattle.fib_addr.specs.Hops.{with_hop, most_hops}
use Rattle.fib_addr.proofs.GroupLaws.{is_mark, none_of_both}
use Rattle.printed_text.specs.Rows.{PrintedRow, route_row, invalid_row, add_row, replace_row, remove_row, moves_row, answer_row, visits_row, table_row, least_row, cert_leaf_row, cert_join_row, cert_bound_row, report_row, IsRow, fields_of, text_of}
use Rattle.printed_text.specs.Reading.{is_comma, row_in, line_in}
use Rattle.printed_text.specs.Texts.{in_front, lines_of, line_texts, numbered_hop, hops_in, with_row, rows_after, rows_by, rows_in}
use Rattle.printed_text.proofs.Rows.{row_again}
use Rattle.printed_text.proofs.Plain.{Lacks, IsPlain, fields_plain}

parts_lack : (mark : ℕ) (x : ℕ) (xs : List ℕ) → Lacks mark (x ∷ xs) → (is_mark mark x ≡ false) × Lacks mark xs
parts_lack mark x xs h = by_test (is_mark mark x) refl h
  where
    by_test : (t : Bool) → is_mark mark x ≡ t → (t || list_any (is_mark mark) xs) ≡ false → (is_mark mark x ≡ false) × Lacks mark xs
    by_test true e f = absurd cc
    by_test false e f = (e, f)

-- ---- the fields of a line

each_lacks : (mark : ℕ) (xs : List ℕ) → Lacks mark xs → AllByRecursion (λ x. is_mark mark x ≡ false) xs
each_lacks mark [] h = tt
each_lacks mark (x ∷ xs) h = let p = parts_lack mark x xs h in (p.0, each_lacks mark xs p.1)

no_comma : (xs : List ℕ) → Lacks 44 xs → All (λ x. is_comma x ≡ false) xs
no_comma xs h = All-from_recursion _ _ (each_lacks 44 xs h)

split_again : (field : List ℕ) (fields : List (List ℕ)) → AllByRecursion IsPlain (field ∷ fields) → slice_split is_comma (join_with_byte 44 (field ∷ fields)) ≡ field ∷ fields
split_again field [] h = slice_split_none is_comma field (no_comma field h.0.2)
split_again field (next ∷ more) h = slice_split_at is_comma field 44 (join_with_byte 44 (next ∷ more)) (no_comma field h.0.2) refl ∙ ap (λ fs. field ∷ fs) (split_again next more h.1)

-- ---- the line of a row

abbrev line_text : PrintedRow → List ℕ
line_text row = join_with_byte 44 (fields_of row)

joined_lacks : (mark : ℕ) → is_mark mark 44 ≡ false → (fields : List (List ℕ)) → AllByRecursion (Lacks mark) fields → Lacks mark (join_with_byte 44 fields)
joined_lacks mark other [] h = refl
joined_lacks mark other (field ∷ []) h = h.0
joined_lacks mark other (field ∷ next ∷ more) h =
    none_of_both mark field (44 ∷ join_with_byte 44 (next ∷ more)) h.0 (ap (λ t. t || list_any (is_mark mark) (join_with_byte 44 (next ∷ more))) other ∙ joined_lacks mark other (next ∷ more) h.1)

all_lack : {P Q : List ℕ → Type 0} → ((x : List ℕ) → P x → Q x) → (xs : List (List ℕ)) → AllByRecursion P xs → AllByRecursion Q xs
all_lack f [] h = tt
all_lack f (x ∷ xs) h = (f x h.0, all_lack f xs h.1)

-- a row has a first field, and so its line a first octet
record Begins (row : PrintedRow) : Type 0 where
  first : ℕ
  rest : List ℕ
  field : List ℕ
  fields : List (List ℕ)
  line : line_text row ≡ first ∷ rest
  split : fields_of row ≡ field ∷ fields

begins : (row : PrintedRow) → Begins row
begins (route_row p a) = record { first = _; rest = _; field = _; fields = _; line = refl; split = refl }
begins (invalid_row a v) = record { first = _; rest = _; field = _; fields = _; line = refl; split = refl }
begins (add_row event p hop) = record { first = _; rest = _; field = _; fields = _; line = refl; split = refl }
begins (replace_row event p hop) = record { first = _; rest = _; field = _; fields = _; line = refl; split = refl }
begins (remove_row event p) = record { first = _; rest = _; field = _; fields = _; line = refl; split = refl }
begins (moves_row event n) = record { first = _; rest = _; field = _; fields = _; line = refl; split = refl }
begins (answer_row a hop) = record { first = _; rest = _; field = _; fields = _; line = refl; split = refl }
begins (visits_row a n) = record { first = _; rest = _; field = _; fields = _; line = refl; split = refl }
begins (table_row p hop) = record { first = _; rest = _; field = _; fields = _; line = refl; split = refl }
begins (least_row p hop) = record { first = _; rest = _; field = _; fields = _; line = refl; split = refl }
begins (cert_leaf_row p hop) = record { first = _; rest = _; field = _; fields = _; line = refl; split = refl }
begins (cert_join_row p k) = record { first = _; rest = _; field = _; fields = _; line = refl; split = refl }
begins (cert_bound_row f n) = record { first = _; rest = _; field = _; fields = _; line = refl; split = refl }
begins (report_row count n) = record { first = _; rest = _; field = _; fields = _; line = refl; split = refl }

line_again : (row : PrintedRow) → IsRow row → line_in (line_text row) ≡ Ok row
line_again row h = by_fields (fields_of row) refl
  where
    by_fields : (fields : List (List ℕ)) → fields_of row ≡ fields → line_in (join_with_byte 44 fields) ≡ Ok row
    by_fields [] e = absurd (let b = begins row in let none : b.field ∷ b.fields ≡ [] = sym b.split ∙ e in cc)
    by_fields (field ∷ fields) e = ap row_in (split_again field fields (subst (AllByRecursion IsPlain) e (fields_plain row h))) ∙ (ap row_in (sym e) ∙ row_again row h)

-- ---- lines

cut_line : (line rest : List ℕ) → Lacks 10 line → lines_of (line ++ 10 ∷ rest) ≡ (line ++ 10 ∷ []) ∷ lines_of rest
unfolding lines_of
cut_line [] rest h = refl
cut_line (c ∷ line) rest h =
    let p = parts_lack 10 c line h in
    cond-false (c == 10) ((c ∷ []) ∷ lines_of (line ++ 10 ∷ rest)) (in_front c (lines_of (line ++ 10 ∷ rest))) p.0 ∙ ap (in_front c) (cut_line line rest p.1)

at_end : (line : List ℕ) (b : ℕ) → slice_index (line ++ b ∷ []) (length line) ≡ b
at_end [] b = refl
at_end (c ∷ line) b = at_end line b

index_lacks : (mark : ℕ) (xs : List ℕ) (i : ℕ) → Lacks mark xs → i < length xs → (slice_index xs i == mark) ≡ false
index_lacks mark [] i h l = absurd (omega arith)
index_lacks mark (x ∷ xs) zero h l = (parts_lack mark x xs h).0
index_lacks mark (x ∷ xs) (suc i) h l = index_lacks mark xs i (parts_lack mark x xs h).1 (omega arith)

keeps_end : (line : List ℕ) → Lacks 13 line → no_cr line ≡ line
keeps_end [] h = refl
keeps_end (c ∷ line) h =
    let n = length (c ∷ line) - 1 in
    ap (λ t. cond (nat_lt 0 (length (c ∷ line)) && t) (take n (c ∷ line)) (c ∷ line)) (index_lacks 13 (c ∷ line) n h (omega arith))
    ∙ ap (λ t. cond (t && false) (take n (c ∷ line)) (c ∷ line)) (lt-ltb 0 (length (c ∷ line)) (omega arith))

ended : (line : List ℕ) → Lacks 13 line → without_terminator (line ++ 10 ∷ []) ≡ line
ended line h =
    let whole = line ++ 10 ∷ [] in
    let n : length whole - 1 ≡ length line = omega (arith, length-append line (10 ∷ [])) in
    ap (λ t. cond (t && slice_index whole (length whole - 1) == 10) (no_cr (take (length whole - 1) whole)) whole) (lt-ltb 0 (length whole) (omega (arith, length-append line (10 ∷ []))))
    ∙ (ap (λ (k : ℕ). cond (slice_index whole k == 10) (no_cr (take k whole)) whole) n
    ∙ (ap (λ (b : ℕ). cond (b == 10) (no_cr (take (length line) whole)) whole) (at_end line 10)
    ∙ (ap no_cr (take-append_seam line (10 ∷ [])) ∙ keeps_end line h)))

texts_again : (rows : List PrintedRow) → AllByRecursion IsRow rows → line_texts (text_of rows) ≡ map line_text rows
unfolding lines_of
texts_again [] h = refl
texts_again (row ∷ rows) h =
    let plain = fields_plain row h.0 in
    let no_feed = joined_lacks 10 refl (fields_of row) (all_lack (λ x p. p.0) (fields_of row) plain) in
    let no_return = joined_lacks 13 refl (fields_of row) (all_lack (λ x p. p.1) (fields_of row) plain) in
    ap line_texts (append_assoc (line_text row) (10 ∷ []) (text_of rows))
    ∙ (ap (map without_terminator) (cut_line (line_text row) (text_of rows) no_feed)
    ∙ (ap (λ t. t ∷ line_texts (text_of rows)) (ended (line_text row) no_return) ∙ ap (λ ts. line_text row ∷ ts) (texts_again rows h.1)))

-- ---- few hops

grows_once : (hops : List Address) (a : Address) → length hops ≤ length (with_hop hops a)
grows_once hops a = by_test (list_any (same_address a) hops)
  where
    by_test : (t : Bool) → length hops ≤ length (cond t hops (hops ++ a ∷ []))
    by_test true = omega arith
    by_test false = omega (arith, length-append hops (a ∷ []))

grows : (hops used : List Address) → length hops ≤ length (fold with_hop hops used)
grows hops [] = omega arith
grows hops (a ∷ used) = omega (arith, grows_once hops a, grows (with_hop hops a) used)

pub few_before : (brings : PrintedRow → List Address) (hops : List Address) (before rows : List PrintedRow)
    → length (fold with_hop hops (flat_map brings before)) ≤ length (fold with_hop hops (flat_map brings (before ++ rows)))
few_before brings hops before rows =
    let first : List Address = fold with_hop hops (flat_map brings before) in
    let same : fold with_hop hops (flat_map brings (before ++ rows)) ≡ fold with_hop first (flat_map brings rows) =
    ap (fold with_hop hops) (flat_map-append brings before rows) ∙ fold-append with_hop hops (flat_map brings before) (flat_map brings rows) in
    omega (arith, ap length same, grows first (flat_map brings rows))

-- ---- rows after rows

filled : (rows : List PrintedRow) (n : ℕ) (line : List ℕ) (lines : List (List ℕ)) (c : ℕ) (rest : List ℕ) → line ≡ c ∷ rest
    → rows_after hops_in rows n (line ∷ lines) ≡ (with_row hops_in n rows (line_in line) >>= λ more. rows_after hops_in more (n + 1) lines)
unfolding rows_after
filled rows n [] lines c rest e = absurd cc
filled rows n (b ∷ line) lines c rest e = refl

rows_again : (before rows : List PrintedRow) (n : ℕ) → AllByRecursion IsRow rows → length (hops_in (before ++ rows)) ≤ most_hops → rows_after hops_in before n (map line_text rows) ≡ Ok (before ++ rows)
unfolding rows_after
rows_again before [] n h few = ap Ok (sym (append-nil before))
rows_again before (row ∷ rows) n h few =
    let b = begins row in
    let joined : (before ++ row ∷ []) ++ rows ≡ before ++ row ∷ rows = append_assoc before (row ∷ []) rows in
    let few_now : length (hops_in ((before ++ row ∷ []) ++ rows)) ≤ most_hops = omega (arith, ap (λ rs. length (hops_in rs)) joined, few) in
    let fits : nat_lt most_hops (length (hops_in (before ++ row ∷ []))) ≡ false = le-ltb most_hops (length (hops_in (before ++ row ∷ []))) (omega (arith, few_before numbered_hop [] (before ++ row ∷ []) rows, few_now)) in
    let next : with_row hops_in n before (line_in (line_text row)) ≡ Ok (before ++ row ∷ []) = ap (with_row hops_in n before) (line_again row h.0) ∙ cond-false _ _ _ fits in
    filled before n (line_text row) (map line_text rows) b.first b.rest b.line
    ∙ (ap (λ read. read >>= λ more. rows_after hops_in more (n + 1) (map line_text rows)) next
    ∙ (rows_again (before ++ row ∷ []) rows (n + 1) h.1 few_now ∙ ap Ok joined))

pub text_again : (rows : List PrintedRow) → AllByRecursion IsRow rows → length (hops_in rows) ≤ most_hops → rows_in (text_of rows) ≡ Ok rows
unfolding rows_by
text_again rows h few = ap (rows_after hops_in [] 1) (texts_again rows h) ∙ rows_again [] rows 1 h few
