-- One line after another.
use Rattle.std.proofs.Common.{◌≡◌, ℕ, suc, ◌+◌, ◌≤◌, List, [], ◌∷◌, ◌++◌, true, false, Result, Ok, Err, length, map, refl, sym, ap, subst, ◌∙◌, arith}
use Rattle.std.specs.Prelude.{◌==◌}
use Rattle.octet_fields.specs.Field.{◌>>=◌}
use Rattle.std.proofs.lemmas.Bool.{eqb-true, le-ltb, lt-ltb, cond-true, cond-false}
use Rattle.std.proofs.lemmas.List.{length-map}
use Rattle.bstr.specs.Text.{without_terminator, lines_of as cut_lines}
use Rattle.table_model.specs.Address.{Address}
use Rattle.table_model.specs.Entries.{Entries}
use Rattle.cert_model.specs.Rows.{CertRow}
use Rattle.fib_addr.specs.Hops.{Hops, most_hops}
use Rattle.fib_addr.specs.Views.{entry_as}
use Rattle.fib_addr.specs.declared.entry.Entry.{Entry}
use Rattle.std.specs.declared.vec.Vec.{Vec}
use Rattle.printed_text.specs.declared.kind.Kind.{Kind}
use Rattle.printed_text.specs.Kinds.{KindEntries, kind_entries, kind_hops, kind_in}
use Rattle.printed_text.specs.Rows.{PrintedRow}
use Rattle.printed_text.specs.Reading.{line_in}
use Rattle.printed_text.specs.Texts.{BadLine, lines_of, line_texts, hops_in, with_row, rows_after, rows_by}
use Rattle.printed_text.specs.Used.{Used, used_of}
use Rattle.printed_text.proofs.Hops.{hops_more, routes_more, least_more, cert_more, kind_entries_more, kind_hops_more}
use Rattle.printed_text.proofs.Lines.{lines_same, few_lines}
use Rattle.printed_text.specs.declared.error.PrintedError.{PrintedError}
use Rattle.printed_text.specs.declared.error.PrintedError.TheVariants as error
use Rattle.printed_text.specs.Printed.{IsKind, kind_as}
use Rattle.printed_text.specs.Steps.{kind_after, used_after, Refused, Taken, TakesLine, TakesLines}

-- How rows are read one after another: which hops have numbers after rows; what is kept of rows; what one more row makes of that; and which
-- hops it has.
pub record Way (U : Type 0) : Type 0 where
  pub hops : List PrintedRow → List Address
  pub kept : List PrintedRow → U
  pub after : U → PrintedRow → U
  pub hops_of : U → List Address
  pub more : (rows : List PrintedRow) (row : PrintedRow) → kept (rows ++ row ∷ []) ≡ after (kept rows) row
  pub same : (rows : List PrintedRow) → hops_of (kept rows) ≡ hops rows

-- what comes of lines, and how many lines there are at most, those before them too
pub record Whole : Type 0 where
  pub due : Result (List PrintedRow) BadLine
  pub most : ℕ

-- what is kept of the rows of the n lines so far, and the lines left
pub record Left {U : Type 0} (way : Way U) (p : U) (n : ℕ) (lines : List (List ℕ)) (whole : Whole) : Type 0 where
  pub rows : List PrintedRow
  pub all : rows_after way.hops rows (n + 1) lines ≡ whole.due
  pub kept : p ≡ way.kept rows
  pub few_hops : length (way.hops_of p) ≤ most_hops
  pub few : n + length lines ≤ whole.most

-- the lines of a text
abbrev pub whole_text : {U : Type 0} → Way U → List ℕ → Whole
whole_text way text = record { due = rows_by way.hops text; most = length text }

-- these lines, behind the n lines that these rows are of
abbrev pub lines_behind : {U : Type 0} → Way U → List PrintedRow → ℕ → List (List ℕ) → Whole
lines_behind way rows n lines = record { due = rows_after way.hops rows (n + 1) lines; most = n + length lines }

-- the lines of a text, as they are cut
pub lines_cut : (text : List ℕ) (lines : List (List ℕ)) → lines ≡ map without_terminator (cut_lines text) → lines ≡ line_texts text
lines_cut text lines l = l ∙ ap (map without_terminator) (lines_same text)

pub few_texts : (text : List ℕ) → length (line_texts text) ≤ length text
few_texts text = omega (arith, few_lines text, length-map (lines_of text) without_terminator)

pub starts : {U : Type 0} (way : Way U) (text : List ℕ) (p : U) (lines : List (List ℕ)) → p ≡ way.kept [] → length (way.hops_of p) ≤ most_hops → lines ≡ map without_terminator (cut_lines text) → Left way p 0 lines (whole_text way text)
unfolding rows_by
starts way text p lines e few l =
    let same = lines_cut text lines l in
    record {
      rows = [];
      all = ap (rows_after way.hops [] 1) same;
      kept = e;
      few_hops = few;
      few = omega (arith, few_texts text, ap length same);
    }

-- lines behind others
pub goes_on : {U : Type 0} (way : Way U) (rows : List PrintedRow) (n : ℕ) (text : List ℕ) (p : U) (lines : List (List ℕ)) → p ≡ way.kept rows → length (way.hops_of p) ≤ most_hops → lines ≡ map without_terminator (cut_lines text)
    → Left way p n lines (lines_behind way rows n (line_texts text))
goes_on way rows n text p lines e few l =
    let same = lines_cut text lines l in
    record {
      rows = rows;
      all = ap (rows_after way.hops rows (n + 1)) same;
      kept = e;
      few_hops = few;
      few = omega (arith, ap length same);
    }

empty_here : (hops : List PrintedRow → List Address) (rows : List PrintedRow) (n : ℕ) (line : List ℕ) (lines : List (List ℕ)) → true ≡ (length line == 0) → rows_after hops rows n (line ∷ lines) ≡ rows_after hops rows (n + 1) lines
unfolding rows_after
empty_here hops rows n [] lines e = refl
empty_here hops rows n (b ∷ line) lines e = absurd (not_empty (sym e)) where
  not_empty : (suc (length line) == 0) ≡ true → ⊥
  not_empty h = let z : suc (length line) ≡ 0 = eqb-true (suc (length line)) 0 h in omega arith

filled_here : (hops : List PrintedRow → List Address) (rows : List PrintedRow) (n : ℕ) (line : List ℕ) (lines : List (List ℕ)) → false ≡ (length line == 0)
    → rows_after hops rows n (line ∷ lines) ≡ (with_row hops n rows (line_in line) >>= λ more. rows_after hops more (n + 1) lines)
unfolding rows_after
filled_here hops rows n [] lines e = absurd cc
filled_here hops rows n (b ∷ line) lines e = refl

pub empty_line : {U : Type 0} (way : Way U) (p : U) (n : ℕ) (line : List ℕ) (lines left : List (List ℕ)) (whole : Whole) → lines ≡ line ∷ left → true ≡ (length line == 0) → Left way p n lines whole → Left way p (n + 1) left whole
empty_line way p n line lines left whole e t l = record {
  rows = l.rows;
  all = sym (ap (rows_after way.hops l.rows (n + 1)) e ∙ empty_here way.hops l.rows (n + 1) line left t) ∙ l.all;
  kept = l.kept;
  few_hops = l.few_hops;
  few = omega (arith, l.few, ap length e);
}

-- ---- a line with a row

hops_are : {U : Type 0} (way : Way U) (old : U) (rows : List PrintedRow) (row : PrintedRow) → old ≡ way.kept rows → way.hops (rows ++ row ∷ []) ≡ way.hops_of (way.after old row)
hops_are way old rows row k = sym (way.same (rows ++ row ∷ [])) ∙ ap way.hops_of (way.more rows row ∙ ap (λ u. way.after u row) (sym k))

row_fits : {U : Type 0} (way : Way U) (n : ℕ) (old new : U) (rows : List PrintedRow) (row : PrintedRow) → old ≡ way.kept rows → new ≡ way.after old row → length (way.hops_of new) ≤ most_hops
    → with_row way.hops n rows (Ok row) ≡ Ok (rows ++ row ∷ [])
row_fits way n old new rows row k e few =
    let len : length (way.hops (rows ++ row ∷ [])) ≡ length (way.hops_of new) = ap length (hops_are way old rows row k) ∙ sym (ap (λ u. length (way.hops_of u)) e) in
    cond-false _ _ _ (le-ltb most_hops (length (way.hops (rows ++ row ∷ []))) (omega (arith, len, few)))

pub taken_line : {U : Type 0} (way : Way U) (old new : U) (n : ℕ) (line : List ℕ) (lines left : List (List ℕ)) (whole : Whole) → lines ≡ line ∷ left → false ≡ (length line == 0)
    → Taken way.after way.hops_of old new (line_in line) → Left way old n lines whole → Left way new (n + 1) left whole
taken_line {U} way old new n line lines left whole e t taken l = by_read (line_in line) refl taken
  where
    by_read : (read : Result PrintedRow ℕ) → line_in line ≡ read → Taken way.after way.hops_of old new read → Left way new (n + 1) left whole
    by_read (Err why) r h = absurd h
    by_read (Ok row) r h =
        let rows = l.rows in
        let next : with_row way.hops (n + 1) rows (line_in line) ≡ Ok (rows ++ row ∷ []) = ap (with_row way.hops (n + 1) rows) r ∙ row_fits way (n + 1) old new rows row l.kept h.0 h.1 in
        record {
          rows = rows ++ row ∷ [];
          all = sym (ap (rows_after way.hops rows (n + 1)) e ∙ (filled_here way.hops rows (n + 1) line left t ∙ ap (λ read. read >>= λ more. rows_after way.hops more (n + 1 + 1) left) next)) ∙ l.all;
          kept = h.0 ∙ (ap (λ u. way.after u row) l.kept ∙ sym (way.more rows row));
          few_hops = h.1;
          few = omega (arith, l.few, ap length e);
        }

-- after it there are few hops
pub taken_few : {U : Type 0} (way : Way U) (old new : U) (read : Result PrintedRow ℕ) → Taken way.after way.hops_of old new read → length (way.hops_of new) ≤ most_hops
taken_few way old new (Ok row) h = h.1
taken_few way old new (Err why) h = absurd h

-- ---- a bad line

bad_row : {U : Type 0} (way : Way U) (n why : ℕ) (old : U) (rows : List PrintedRow) (read : Result PrintedRow ℕ) → old ≡ way.kept rows → Refused way.after way.hops_of why old read
    → with_row way.hops n rows read ≡ Err (record { line = n; why = why })
bad_row way n why old rows (Err reason) k h = ap (λ (w : ℕ). let bad : BadLine = record { line = n; why = w } in Err bad) (sym h)
bad_row way n why old rows (Ok row) k h =
    let len : length (way.hops (rows ++ row ∷ [])) ≡ length (way.hops_of (way.after old row)) = ap length (hops_are way old rows row k) in
    cond-true _ _ _ (lt-ltb most_hops (length (way.hops (rows ++ row ∷ []))) (omega (arith, len, h.1)))
    ∙ ap (λ (w : ℕ). let bad : BadLine = record { line = n; why = w } in Err bad) (sym h.0)

pub wrong_line : {U : Type 0} (way : Way U) (bad : BadLine) (old : U) (n : ℕ) (line : List ℕ) (lines left : List (List ℕ)) (whole : Whole)
    → lines ≡ line ∷ left → false ≡ (length line == 0) → bad.line ≡ n + 1 → Refused way.after way.hops_of bad.why old (line_in line) → Left way old n lines whole → whole.due ≡ Err bad
wrong_line way bad old n line lines left whole e t number refused l =
    sym (l.all)
    ∙ (ap (rows_after way.hops l.rows (n + 1)) e
    ∙ (filled_here way.hops l.rows (n + 1) line left t
    ∙ (ap (λ read. read >>= λ more. rows_after way.hops more (n + 1 + 1) left) (bad_row way (n + 1) bad.why old l.rows (line_in line) l.kept refused)
    ∙ ap (λ (m : ℕ). let b : BadLine = record { line = m; why = bad.why } in Err b) (sym number))))

-- ---- no line more

-- the rows are those of the lines
pub rows_are : {U : Type 0} (way : Way U) (p : U) (n : ℕ) (lines : List (List ℕ)) (whole : Whole) → lines ≡ [] → (l : Left way p n lines whole) → whole.due ≡ Ok l.rows
unfolding rows_after
rows_are way p n lines whole e l = sym (l.all) ∙ ap (rows_after way.hops l.rows (n + 1)) e

pub no_line : {U : Type 0} (way : Way U) (p : U) (n : ℕ) (lines : List (List ℕ)) (text : List ℕ) → lines ≡ [] → Left way p n lines (whole_text way text) → (rows_by way.hops text >>= λ rows. Ok (way.kept rows)) ≡ Ok p
no_line way p n lines text e l = ap (λ read. read >>= λ rows. Ok (way.kept rows)) (rows_are way p n lines (whole_text way text) e l) ∙ ap Ok (sym l.kept)

-- ---- the rows that a checker uses

abbrev made : Entries → Entries → List CertRow → List Address → Used
made routes least cert hops = record { routes = routes; least = least; cert = cert; hops = hops }

pub used_more : (rows : List PrintedRow) (row : PrintedRow) → used_of (rows ++ row ∷ []) ≡ used_after (used_of rows) row
used_more rows row =
    let u = used_of (rows ++ row ∷ []) in
    let v = used_after (used_of rows) row in
    ap (λ routes. made routes u.least u.cert u.hops) (routes_more rows row)
    ∙ (ap (λ least. made v.routes least u.cert u.hops) (least_more rows row)
    ∙ (ap (λ cert. made v.routes v.least cert u.hops) (cert_more rows row) ∙ ap (made v.routes v.least v.cert) (hops_more rows row)))

abbrev pub printed_way : Way Used
printed_way = record { hops = hops_in; kept = used_of; after = used_after; hops_of = λ u. u.hops; more = used_more; same = λ rows. refl }

pub bad_line : (e : PrintedError) (s : Result ℕ PrintedError) (first : List PrintedRow) (before : ℕ) (all : List (List ℕ)) (old new : Used) (n : ℕ) (line : List ℕ) (lines left : List (List ℕ))
    → lines ≡ line ∷ left → false ≡ (length line == 0) → s ≡ Err e → TakesLine {A = Unit {0}} used_after (λ u. u.hops) (Err e) old new (n + 1) (line_in line) → Left printed_way old n lines (lines_behind printed_way first before all) → TakesLines s first before all new
bad_line error.NoMemory s first before all old new n line lines left le t se taken l = subst (λ x. TakesLines x first before all new) (sym se) tt
bad_line (error.BadRow bad) s first before all old new n line lines left le t se taken l =
    subst (λ x. TakesLines x first before all new) (sym se)
    (wrong_line printed_way (record { line = bad.line; why = bad.why }) old n line lines left (lines_behind printed_way first before all) le t taken.0 taken.1 l)

-- no line is left
pub last_line : (first : List PrintedRow) (before : ℕ) (all : List (List ℕ)) (p : Used) (n : ℕ) (lines : List (List ℕ)) → lines ≡ [] → n + length lines ≡ before + length all → Left printed_way p n lines (lines_behind printed_way first before all) → TakesLines (Ok n) first before all p
last_line first before all p n lines e count l = (l.rows, rows_are printed_way p n lines (lines_behind printed_way first before all) e l, l.kept, omega (arith, count, ap length e))

-- ---- the rows of one kind

abbrev kind_made : Entries → List Address → KindEntries
kind_made entries hops = record { entries = entries; hops = hops }

pub kind_more : (kind : Kind) (before : List Address) (rows : List PrintedRow) (row : PrintedRow) → kind_entries kind before (rows ++ row ∷ []) ≡ kind_after kind (kind_entries kind before rows) row
kind_more kind before rows row =
    let k = kind_entries kind before (rows ++ row ∷ []) in
    let v = kind_after kind (kind_entries kind before rows) row in
    ap (λ entries. kind_made entries k.hops) (kind_entries_more kind before rows row) ∙ ap (kind_made v.entries) (kind_hops_more kind before rows row)

abbrev pub kind_way : Kind → List Address → Way KindEntries
kind_way kind before = record { hops = kind_hops kind before; kept = kind_entries kind before; after = kind_after kind; hops_of = λ k. k.hops; more = kind_more kind before; same = λ rows. refl }

pub kind_starts : {A : Type 0} (kind : Kind) (entries : Vec Entry A) (hops : Hops) (text : List ℕ) (lines : List (List ℕ)) → entries.items ≡ [] → length hops.list ≤ most_hops
    → lines ≡ map without_terminator (cut_lines text) → Left (kind_way kind hops.list) (kind_as entries hops) 0 lines (whole_text (kind_way kind hops.list) text)
kind_starts kind entries hops text lines e few l = starts (kind_way kind hops.list) text (kind_as entries hops) lines (ap (λ es. kind_made (map entry_as es) hops.list) e) few l

pub bad_kind_line : {A : Type 0} (kind : Kind) (before : List Address) (e : PrintedError) (s : Result (Vec Entry A) PrintedError) (hops : Hops) (old new : KindEntries) (n : ℕ) (line : List ℕ) (lines left : List (List ℕ)) (text : List ℕ)
    → lines ≡ line ∷ left → false ≡ (length line == 0) → s ≡ Err e → TakesLine {A = Unit {0}} (kind_after kind) (λ k. k.hops) (Err e) old new (n + 1) (line_in line)
    → Left (kind_way kind before) old n lines (whole_text (kind_way kind before) text) → IsKind s hops (kind_in kind before text)
bad_kind_line kind before error.NoMemory s hops old new n line lines left text le t se taken l = subst (λ x. IsKind x hops (kind_in kind before text)) (sym se) tt
bad_kind_line kind before (error.BadRow bad) s hops old new n line lines left text le t se taken l =
    subst (λ x. IsKind x hops (kind_in kind before text)) (sym se)
    (ap (λ read. read >>= λ rows. Ok (kind_entries kind before rows)) (wrong_line (kind_way kind before) (record { line = bad.line; why = bad.why }) old n line lines left (whole_text (kind_way kind before) text) le t taken.0 taken.1 l))
