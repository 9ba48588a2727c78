-- The rows of a text, and its first bad line.
use Rattle.std.proofs.Common.{◌≡◌, ℕ, ◌+◌, ◌≤◌, List, [], ◌∷◌, ◌++◌, Bool, true, false, cond, Result, Ok, Err, length, map, refl, sym, ap, subst, ◌∙◌, arith, append_assoc, append-nil}
use Rattle.std.specs.Prelude.{◌↔◌, nat_lt}
use Rattle.std.specs.List.{filter}
use Rattle.std.proofs.lemmas.Bool.{le-ltb, lt-ltb, ltb-true, ltb-false, cond-true, cond-false}
use Rattle.octet_fields.specs.Field.{◌>>=◌}
use Rattle.table_model.specs.Address.{Address}
use Rattle.fib_addr.specs.Hops.{most_hops}
use Rattle.printed_text.specs.declared.kind.Kind.{Kind}
use Rattle.printed_text.specs.Rows.{PrintedRow}
use Rattle.printed_text.specs.Reading.{too_many_hops, line_in}
use Rattle.printed_text.specs.Texts.{BadLine, hops_in, numbered_hop, with_row, rows_after, rows_by, rows_in, line_texts}
use Rattle.printed_text.specs.Used.{kind_hop}
use Rattle.printed_text.specs.Kinds.{kind_hops}
use Rattle.printed_text.proofs.Texts.{few_before}
use Rattle.printed_text.specs.Whole.{is_filled, HaveRows, IsWhy, IsFirstBad}

-- which hops have numbers after rows
abbrev Numbering : Type 0
Numbering = List PrintedRow → List Address

abbrev Few : Numbering → List PrintedRow → Type 0
Few hops rows = length (hops rows) ≤ most_hops

-- there are no fewer after more rows
abbrev Grows : Numbering → Type 0
Grows hops = (before rows : List PrintedRow) → length (hops before) ≤ length (hops (before ++ rows))

abbrev said : List (List ℕ) → List (Result PrintedRow ℕ)
said lines = map line_in (filter is_filled lines)

abbrev bad_at : ℕ → ℕ → Result (List PrintedRow) BadLine
bad_at n why = Err (record { line = n; why = why })

regroup : (before rows : List PrintedRow) (row : PrintedRow) → (before ++ row ∷ []) ++ rows ≡ before ++ row ∷ rows
regroup before rows row = append_assoc before (row ∷ []) rows

-- ---- what was read are the rows

record OkAfter (hops : Numbering) (before : List PrintedRow) (lines : List (List ℕ)) (all : List PrintedRow) : Type 0 where
  rows : List PrintedRow
  all_are : all ≡ before ++ rows
  lines_say : said lines ≡ map Ok rows
  few : Few hops all

ok_after : (hops : Numbering) (lines : List (List ℕ)) (before : List PrintedRow) (n : ℕ) (all : List PrintedRow) → Few hops before → rows_after hops before n lines ≡ Ok all → OkAfter hops before lines all
unfolding rows_after
ok_after hops [] before n all few e =
    let same : before ≡ all = cc in
    record { rows = []; all_are = sym same ∙ sym (append-nil before); lines_say = refl; few = subst (Few hops) same few }
ok_after hops ([] ∷ lines) before n all few e =
    let r = ok_after hops lines before (n + 1) all few e in
    record { rows = r.rows; all_are = r.all_are; lines_say = r.lines_say; few = r.few }
ok_after hops ((b ∷ line) ∷ lines) before n all few e = by_read (line_in (b ∷ line)) refl e (λ more f g. ok_after hops lines more (n + 1) all f g)
  where
    by_many : (row : PrintedRow) → line_in (b ∷ line) ≡ Ok row → (t : Bool) → nat_lt most_hops (length (hops (before ++ row ∷ []))) ≡ t
        → (cond t (bad_at n too_many_hops) (Ok (before ++ row ∷ [])) >>= λ more. rows_after hops more (n + 1) lines) ≡ Ok all
        → ((more : List PrintedRow) → Few hops more → rows_after hops more (n + 1) lines ≡ Ok all → OkAfter hops more lines all) → OkAfter hops before ((b ∷ line) ∷ lines) all
    by_many row r true t f ih = absurd cc
    by_many row r false t f ih =
        let x = ih (before ++ row ∷ []) (ltb-false most_hops (length (hops (before ++ row ∷ []))) t) f in
        record { rows = row ∷ x.rows; all_are = x.all_are ∙ regroup before x.rows row; lines_say = ap (λ s. s ∷ said lines) r ∙ ap (λ ss. Ok row ∷ ss) x.lines_say; few = x.few }

    by_read : (read : Result PrintedRow ℕ) → line_in (b ∷ line) ≡ read → (with_row hops n before read >>= λ more. rows_after hops more (n + 1) lines) ≡ Ok all
        → ((more : List PrintedRow) → Few hops more → rows_after hops more (n + 1) lines ≡ Ok all → OkAfter hops more lines all) → OkAfter hops before ((b ∷ line) ∷ lines) all
    by_read (Err why) r f ih = absurd cc
    by_read (Ok row) r f ih = by_many row r (nat_lt most_hops (length (hops (before ++ row ∷ [])))) refl f ih

-- ---- where reading stopped is the first bad line

record BadAfter (hops : Numbering) (before : List PrintedRow) (n : ℕ) (lines : List (List ℕ)) (bad : BadLine) : Type 0 where
  front : List (List ℕ)
  line : List ℕ
  back : List (List ℕ)
  parts : lines ≡ front ++ line ∷ back
  number : bad.line ≡ n + length front
  rows : List PrintedRow
  front_says : said front ≡ map Ok rows
  few : Few hops (before ++ rows)
  filled : is_filled line ≡ true
  reason : IsWhy hops (before ++ rows) (line_in line) bad.why

same_bad : (n why : ℕ) (bad : BadLine) → bad_at n why ≡ Err bad → (bad.line ≡ n) × (bad.why ≡ why)
same_bad n why bad e =
    let this : BadLine = record { line = n; why = why } in
    let same : this ≡ bad = cc in
    (ap (λ (x : BadLine). x.line) (sym same), ap (λ (x : BadLine). x.why) (sym same))

bad_after : (hops : Numbering) (lines : List (List ℕ)) (before : List PrintedRow) (n : ℕ) (bad : BadLine) → Few hops before → rows_after hops before n lines ≡ Err bad → BadAfter hops before n lines bad
unfolding rows_after
bad_after hops [] before n bad few e = absurd cc
bad_after hops ([] ∷ lines) before n bad few e =
    let r = bad_after hops lines before (n + 1) bad few e in
    record {
      front = [] ∷ r.front;
      line = r.line;
      back = r.back;
      parts = ap (λ ls. [] ∷ ls) r.parts;
      number = omega (arith, r.number);
      rows = r.rows;
      front_says = r.front_says;
      few = r.few;
      filled = r.filled;
      reason = r.reason;
    }
bad_after hops ((b ∷ line) ∷ lines) before n bad few e = by_read (line_in (b ∷ line)) refl e (λ more f g. bad_after hops lines more (n + 1) bad f g)
  where
    here : IsWhy hops before (line_in (b ∷ line)) bad.why → bad.line ≡ n → BadAfter hops before n ((b ∷ line) ∷ lines) bad
    here why at = record {
      front = [];
      line = b ∷ line;
      back = lines;
      parts = refl;
      number = omega (arith, at);
      rows = [];
      front_says = refl;
      few = subst (Few hops) (sym (append-nil before)) few;
      filled = refl;
      reason = subst (λ rows. IsWhy hops rows (line_in (b ∷ line)) bad.why) (sym (append-nil before)) why;
    }

    by_many : (row : PrintedRow) → line_in (b ∷ line) ≡ Ok row → (t : Bool) → nat_lt most_hops (length (hops (before ++ row ∷ []))) ≡ t
        → (cond t (bad_at n too_many_hops) (Ok (before ++ row ∷ [])) >>= λ more. rows_after hops more (n + 1) lines) ≡ Err bad
        → ((more : List PrintedRow) → Few hops more → rows_after hops more (n + 1) lines ≡ Err bad → BadAfter hops more (n + 1) lines bad) → BadAfter hops before n ((b ∷ line) ∷ lines) bad
    by_many row r true t f ih =
        let s = same_bad n too_many_hops bad f in
        here (subst (λ read. IsWhy hops before read bad.why) (sym r) (s.1, ltb-true most_hops (length (hops (before ++ row ∷ []))) t)) s.0
    by_many row r false t f ih =
        let x = ih (before ++ row ∷ []) (ltb-false most_hops (length (hops (before ++ row ∷ []))) t) f in
        record {
          front = (b ∷ line) ∷ x.front;
          line = x.line;
          back = x.back;
          parts = ap (λ ls. (b ∷ line) ∷ ls) x.parts;
          number = omega (arith, x.number);
          rows = row ∷ x.rows;
          front_says = ap (λ s. s ∷ said x.front) r ∙ ap (λ ss. Ok row ∷ ss) x.front_says;
          few = subst (Few hops) (regroup before x.rows row) x.few;
          filled = x.filled;
          reason = subst (λ rows. IsWhy hops rows (line_in x.line) bad.why) (regroup before x.rows row) x.reason;
        }

    by_read : (read : Result PrintedRow ℕ) → line_in (b ∷ line) ≡ read → (with_row hops n before read >>= λ more. rows_after hops more (n + 1) lines) ≡ Err bad
        → ((more : List PrintedRow) → Few hops more → rows_after hops more (n + 1) lines ≡ Err bad → BadAfter hops more (n + 1) lines bad) → BadAfter hops before n ((b ∷ line) ∷ lines) bad
    by_read (Err why) r f ih = let s = same_bad n why bad f in here (subst (λ read. IsWhy hops before read bad.why) (sym r) s.1) s.0
    by_read (Ok row) r f ih = by_many row r (nat_lt most_hops (length (hops (before ++ row ∷ [])))) refl f ih

-- ---- and the other way

few_before_row : (hops : Numbering) → Grows hops → (before rows : List PrintedRow) (row : PrintedRow) → Few hops (before ++ row ∷ rows) → Few hops (before ++ row ∷ [])
few_before_row hops g before rows row few =
    omega (arith, g (before ++ row ∷ []) rows, ap (λ rs. length (hops rs)) (regroup before rows row), few)

takes_row : (hops : Numbering) → Grows hops → (n : ℕ) (before rows : List PrintedRow) (row : PrintedRow) → Few hops (before ++ row ∷ rows) → with_row hops n before (Ok row) ≡ Ok (before ++ row ∷ [])
takes_row hops g n before rows row few = cond-false _ _ _ (le-ltb most_hops (length (hops (before ++ row ∷ []))) (few_before_row hops g before rows row few))

-- what follows lines that have rows is read after these
goes_on : (hops : Numbering) → Grows hops → (front back : List (List ℕ)) (before rows : List PrintedRow) (n : ℕ) → said front ≡ map Ok rows → Few hops (before ++ rows) → rows_after hops before n (front ++ back) ≡ rows_after hops (before ++ rows) (n + length front) back
unfolding rows_after
goes_on hops g [] back before [] n e few = ap (λ rows. rows_after hops rows n back) (sym (append-nil before)) ∙ ap (λ (k : ℕ). rows_after hops (before ++ []) k back) (omega arith)
goes_on hops g [] back before (row ∷ rows) n e few = absurd cc
goes_on hops g ([] ∷ front) back before rows n e few = goes_on hops g front back before rows (n + 1) e few ∙ ap (λ (k : ℕ). rows_after hops (before ++ rows) k back) (omega arith)
goes_on hops g ((b ∷ line) ∷ front) back before [] n e few = absurd cc
goes_on hops g ((b ∷ line) ∷ front) back before (row ∷ rows) n e few =
    let head : line_in (b ∷ line) ≡ Ok row = cc in
    let tail : said front ≡ map Ok rows = cc in
    ap (λ read. with_row hops n before read >>= λ more. rows_after hops more (n + 1) (front ++ back)) head
    ∙ (ap (λ read. read >>= λ more. rows_after hops more (n + 1) (front ++ back)) (takes_row hops g n before rows row few)
    ∙ (goes_on hops g front back (before ++ row ∷ []) rows (n + 1) tail (subst (Few hops) (sym (regroup before rows row)) few)
    ∙ (ap (λ rs. rows_after hops rs (n + 1 + length front) back) (regroup before rows row) ∙ ap (λ (k : ℕ). rows_after hops (before ++ row ∷ rows) k back) (omega arith))))

stops : (hops : Numbering) (before : List PrintedRow) (n : ℕ) (line : List ℕ) (back : List (List ℕ)) (bad : BadLine) → is_filled line ≡ true → bad.line ≡ n → IsWhy hops before (line_in line) bad.why → rows_after hops before n (line ∷ back) ≡ Err bad
unfolding rows_after
stops hops before n [] back bad f at why = absurd cc
stops hops before n (b ∷ line) back bad f at why = ap (λ read. read >>= λ more. rows_after hops more (n + 1) back) (by_read (line_in (b ∷ line)) why)
  where
    same : (reason : ℕ) → bad.why ≡ reason → bad_at n reason ≡ Err bad
    same reason w = ap (λ (k : ℕ). bad_at k reason) (sym at) ∙ ap (λ (k : ℕ). bad_at bad.line k) (sym w)

    by_read : (read : Result PrintedRow ℕ) → IsWhy hops before read bad.why → with_row hops n before read ≡ Err bad
    by_read (Err reason) w = same reason w
    by_read (Ok row) w = cond-true _ _ _ (lt-ltb most_hops (length (hops (before ++ row ∷ []))) w.1) ∙ same too_many_hops w.0

-- ---- whole texts

pub rows_of_text : (hops : Numbering) → Grows hops → Few hops [] → (text : List ℕ) (rows : List PrintedRow) → rows_by hops text ≡ Ok rows ↔ HaveRows hops (line_texts text) rows
unfolding rows_by rows_after
rows_of_text hops g none_few text rows = (
  λ e. let r = ok_after hops (line_texts text) [] 1 rows none_few e in record { said = r.lines_say ∙ ap (map Ok) (sym r.all_are); few = r.few },
  λ h. ap (rows_after hops [] 1) (sym (append-nil (line_texts text))) ∙ goes_on hops g (line_texts text) [] [] rows 1 h.said h.few,
)

pub bad_of_text : (hops : Numbering) → Grows hops → Few hops [] → (text : List ℕ) (bad : BadLine) → rows_by hops text ≡ Err bad ↔ IsFirstBad hops (line_texts text) bad
unfolding rows_by
bad_of_text hops g none_few text bad = (
  λ e.
      let r = bad_after hops (line_texts text) [] 1 bad none_few e in
      record {
        before = r.front;
        line = r.line;
        after = r.back;
        parts = r.parts;
        number = omega (arith, r.number);
        rows = r.rows;
        have = record { said = r.front_says; few = r.few };
        filled = r.filled;
        reason = r.reason;
      },
  λ h.
      ap (rows_after hops [] 1) h.parts
      ∙ (goes_on hops g h.before (h.line ∷ h.after) [] h.rows 1 h.have.said h.have.few
      ∙ stops hops h.rows (1 + length h.before) h.line h.after bad h.filled (omega (arith, h.number)) h.reason),
)

-- ---- where the hops of all rows that a checker uses get numbers, or those of one kind, after those that have some

printed_grows : Grows hops_in
printed_grows before rows = few_before numbered_hop [] before rows

pub printed_rows : (text : List ℕ) (rows : List PrintedRow) → rows_in text ≡ Ok rows ↔ HaveRows hops_in (line_texts text) rows
printed_rows text rows = rows_of_text hops_in printed_grows (omega arith) text rows

pub printed_bad : (text : List ℕ) (bad : BadLine) → rows_in text ≡ Err bad ↔ IsFirstBad hops_in (line_texts text) bad
printed_bad text bad = bad_of_text hops_in printed_grows (omega arith) text bad

kind_grows : (kind : Kind) (hops : List Address) → Grows (kind_hops kind hops)
kind_grows kind hops before rows = few_before (kind_hop kind) hops before rows

pub kind_rows : (kind : Kind) (hops : List Address) (text : List ℕ) (rows : List PrintedRow) → length hops ≤ most_hops
    → rows_by (kind_hops kind hops) text ≡ Ok rows ↔ HaveRows (kind_hops kind hops) (line_texts text) rows
kind_rows kind hops text rows few = rows_of_text (kind_hops kind hops) (kind_grows kind hops) few text rows

pub kind_bad : (kind : Kind) (hops : List Address) (text : List ℕ) (bad : BadLine) → length hops ≤ most_hops
    → rows_by (kind_hops kind hops) text ≡ Err bad ↔ IsFirstBad (kind_hops kind hops) (line_texts text) bad
kind_bad kind hops text bad few = bad_of_text (kind_hops kind hops) (kind_grows kind hops) few text bad
