-- Texts that come in pieces.
use Rattle.std.proofs.Common.{◌≡◌, ℕ, ◌+◌, ◌<◌, ◌≤◌, List, [], ◌∷◌, ◌++◌, Bool, true, false, cond, Result, Ok, Err, length, map, take, drop, get_or, refl, sym, ap, subst, ◌∙◌, arith, append_assoc, append-nil, add-one, length-append}
use Rattle.std.specs.Prelude.{◌==◌}
use Rattle.std.proofs.lemmas.Bool.{eqb-true}
use Rattle.std.proofs.lemmas.List.{length-map, map-append, take-append-drop}
use Rattle.std.proofs.Math.Seq.{take-suc}
use Rattle.octet_fields.specs.Field.{◌>>=◌}
use Rattle.bstr.specs.Text.{without_terminator}
use Rattle.table_model.specs.Address.{Address}
use Rattle.fib_addr.specs.Hops.{most_hops}
use Rattle.printed_text.specs.Rows.{PrintedRow}
use Rattle.printed_text.specs.Reading.{line_in}
use Rattle.printed_text.specs.Texts.{BadLine, hops_in, in_front, line_texts, lines_of, rows_after, rows_by, rows_in, with_row}
use Rattle.printed_text.specs.Used.{Used, printed_in, used_of}
use Rattle.printed_text.specs.declared.error.BadRow as code_bad
use Rattle.printed_text.specs.declared.error.PrintedError.{PrintedError}
use Rattle.printed_text.specs.declared.error.PrintedError.TheVariants as error
use Rattle.printed_text.specs.declared.pieces.PrintedReader.{PrintedReader}
use Rattle.printed_text.specs.declared.printed.Printed.{Printed}
use Rattle.printed_text.specs.Printed.{IsRead, bad_as, printed_as}
use Rattle.printed_text.specs.Steps.{TakesLines}
use Rattle.printed_text.specs.Pieces.{EndLines, BreaksAtLine, PrintedFed, PrintedStands}

-- ---- octets up to a line feed

-- these octets and a line feed are lines, whatever follows
record Apart (front : List ℕ) : Type 0 where
  first : List ℕ
  others : List (List ℕ)
  apart : (rest : List ℕ) → lines_of (front ++ 10 ∷ rest) ≡ first ∷ (others ++ lines_of rest)

apart_at : (front : List ℕ) → Apart front
unfolding lines_of
apart_at [] = record { first = 10 ∷ []; others = []; apart = λ rest. refl }
apart_at (b ∷ front) = by_test (b == 10) refl (apart_at front)
  where
    by_test : (t : Bool) → (b == 10) ≡ t → Apart front → Apart (b ∷ front)
    by_test true e f = record {
      first = b ∷ [];
      others = f.first ∷ f.others;
      apart = λ rest. ap (λ t. cond t ((b ∷ []) ∷ lines_of (front ++ 10 ∷ rest)) (in_front b (lines_of (front ++ 10 ∷ rest)))) e ∙ ap (λ ls. (b ∷ []) ∷ ls) (f.apart rest);
    }
    by_test false e f = record {
      first = b ∷ f.first;
      others = f.others;
      apart = λ rest. ap (λ t. cond t ((b ∷ []) ∷ lines_of (front ++ 10 ∷ rest)) (in_front b (lines_of (front ++ 10 ∷ rest)))) e ∙ ap (in_front b) (f.apart rest);
    }

end_feed : (front : List ℕ) → EndLines (front ++ 10 ∷ [])
unfolding lines_of
end_feed front more =
    let f = apart_at front in
    let alone : lines_of (front ++ 10 ∷ []) ≡ f.first ∷ f.others = f.apart [] ∙ ap (λ ls. f.first ∷ ls) (append-nil f.others) in
    ap lines_of (append_assoc front (10 ∷ []) more) ∙ (f.apart more ∙ ap (λ ls. ls ++ lines_of more) (sym alone))

end_both : (a b : List ℕ) → EndLines a → EndLines b → EndLines (a ++ b)
end_both a b x y more =
    ap lines_of (append_assoc a b more) ∙ (x (b ++ more) ∙ (ap (λ ls. lines_of a ++ ls) (y more) ∙ (sym (append_assoc (lines_of a) (lines_of b) (lines_of more)) ∙ ap (λ ls. ls ++ lines_of more) (sym (x b)))))

-- the front of a piece, with a line feed at its end, ends lines
end_piece : (held piece : List ℕ) (last : ℕ) → last < length piece → (get_or piece last 0 == 10) ≡ true → EndLines (held ++ take (last + 1) piece)
end_piece held piece last h e =
    let cut : take (last + 1) piece ≡ take last piece ++ 10 ∷ [] = ap (λ k. take k piece) (add-one last) ∙ (take-suc piece last 0 h ∙ ap (λ b. take last piece ++ b ∷ []) (eqb-true (get_or piece last 0) 10 e)) in
    let all : held ++ take (last + 1) piece ≡ (held ++ take last piece) ++ 10 ∷ [] = ap (λ z. held ++ z) cut ∙ sym (append_assoc held (take last piece) (10 ∷ [])) in
    subst EndLines (sym all) (end_feed (held ++ take last piece))

-- ---- rows of lines behind others

-- what is read of lines is that of the first, and then that of the others
rows_both : (hops : List PrintedRow → List Address) (rows : List PrintedRow) (n : ℕ) (xs ys : List (List ℕ)) → rows_after hops rows n (xs ++ ys) ≡ (rows_after hops rows n xs >>= λ all. rows_after hops all (n + length xs) ys)
unfolding rows_after
rows_both hops rows n [] ys = ap (λ (m : ℕ). rows_after hops rows m ys) (let e : n ≡ n + 0 = omega arith in e)
rows_both hops rows n ([] ∷ xs) ys =
    rows_both hops rows (n + 1) xs ys
    ∙ ap (λ (m : ℕ). rows_after hops rows (n + 1) xs >>= λ all. rows_after hops all m ys) (let e : n + 1 + length xs ≡ n + length ([] ∷ xs) = omega arith in e)
rows_both hops rows n ((b ∷ line) ∷ xs) ys = by_row (with_row hops n rows (line_in (b ∷ line))) (λ more. rows_both hops more (n + 1) xs ys)
  where
    by_row : (r : Result (List PrintedRow) BadLine) → ((more : List PrintedRow) → rows_after hops more (n + 1) (xs ++ ys) ≡ (rows_after hops more (n + 1) xs >>= λ all. rows_after hops all (n + 1 + length xs) ys)) → (r >>= λ more. rows_after hops more (n + 1) (xs ++ ys)) ≡ ((r >>= λ more. rows_after hops more (n + 1) xs) >>= λ all. rows_after hops all (n + length ((b ∷ line) ∷ xs)) ys)
    by_row (Ok more) same =
        same more
        ∙ ap (λ (m : ℕ). rows_after hops more (n + 1) xs >>= λ all. rows_after hops all m ys) (let e : n + 1 + length xs ≡ n + length ((b ∷ line) ∷ xs) = omega arith in e)
    by_row (Err bad) same = refl

lines_both : (front more : List ℕ) → EndLines front → line_texts (front ++ more) ≡ line_texts front ++ line_texts more
lines_both front more ends = ap (map without_terminator) (ends more) ∙ map-append without_terminator (lines_of front) (lines_of more)

both_texts : (front more : List ℕ) → EndLines front → rows_in (front ++ more) ≡ (rows_in front >>= λ all. rows_after hops_in all (1 + length (line_texts front)) (line_texts more))
unfolding rows_by
both_texts front more ends = ap (rows_after hops_in [] 1) (lines_both front more ends) ∙ rows_both hops_in [] 1 (line_texts front) (line_texts more)

-- octets behind whole lines
reads_more : (front more : List ℕ) (rows : List PrintedRow) (n : ℕ) → EndLines front → rows_in front ≡ Ok rows → n ≡ length (lines_of front) → rows_in (front ++ more) ≡ rows_after hops_in rows (n + 1) (line_texts more)
reads_more front more rows n ends read l =
    both_texts front more ends
    ∙ (ap (λ (r : Result (List PrintedRow) BadLine). r >>= λ all. rows_after hops_in all (1 + length (line_texts front)) (line_texts more)) read
    ∙ ap (λ (m : ℕ). rows_after hops_in rows m (line_texts more)) (let e : 1 + length (line_texts front) ≡ n + 1 = omega (arith, l, length-map (lines_of front) without_terminator) in e))

-- whole lines of which one is bad, and more octets
bad_more : (front more : List ℕ) (bad : BadLine) → EndLines front → rows_in front ≡ Err bad → printed_in (front ++ more) ≡ Err bad
bad_more front more bad ends e =
    ap (λ (r : Result (List PrintedRow) BadLine). r >>= λ rows. Ok (used_of rows))
    (both_texts front more ends ∙ ap (λ (r : Result (List PrintedRow) BadLine). r >>= λ all. rows_after hops_in all (1 + length (line_texts front)) (line_texts more)) e)

-- ---- a reader

pub reader_starts : (reader : PrintedReader) → printed_as reader.printed ≡ used_of [] → reader.held.items ≡ [] → reader.lines ≡ 0 → PrintedStands [] reader
unfolding rows_by rows_after lines_of
reader_starts reader p h l = record {
  front = [];
  ends = λ more. refl;
  parts = sym h;
  rows = [];
  read = refl;
  kept = p;
  lines = l;
}

pub no_hops : (p : Printed) → printed_as p ≡ used_of [] → length p.hops.list ≤ most_hops
no_hops p e = let none : length p.hops.list ≡ 0 = ap (λ (u : Used). length u.hops) e in omega (arith, none)

-- a piece without a line feed is held
pub holds_more : (fed piece : List ℕ) (old new : PrintedReader) → new.printed ≡ old.printed → new.lines ≡ old.lines → new.held.items ≡ old.held.items ++ piece → PrintedStands fed old → PrintedStands (fed ++ piece) new
holds_more fed piece old new p l h s = record {
  front = s.front;
  ends = s.ends;
  parts = ap (λ z. z ++ piece) s.parts ∙ (append_assoc s.front old.held.items piece ∙ ap (λ z. s.front ++ z) (sym h));
  rows = s.rows;
  read = s.read;
  kept = ap printed_as p ∙ s.kept;
  lines = l ∙ s.lines;
}

all_parts : (fed piece front held : List ℕ) (k : ℕ) → fed ≡ front ++ held → fed ++ piece ≡ (front ++ (held ++ take k piece)) ++ drop k piece
all_parts fed piece front held k e =
    ap (λ z. z ++ piece) e
    ∙ (ap (λ z. (front ++ held) ++ z) (sym (take-append-drop k piece))
    ∙ (sym (append_assoc (front ++ held) (take k piece) (drop k piece)) ∙ ap (λ z. z ++ drop k piece) (append_assoc front held (take k piece))))

-- what was taken of lines that end with a piece
abbrev pub Took : Printed → ℕ → List ℕ → Result ℕ PrintedError → Printed → Type 0
Took old lines read result new = (rows : List PrintedRow) → printed_as old ≡ used_of rows → TakesLines result rows lines (line_texts read) (printed_as new)

-- lines that end with a piece are read, and what follows them is held
pub reads_lines : (fed piece read : List ℕ) (last : ℕ) (old new : PrintedReader) → last < length piece → (get_or piece last 0 == 10) ≡ true → read ≡ old.held.items ++ take (last + 1) piece → new.held.items ≡ drop (last + 1) piece
    → Took old.printed old.lines read (Ok new.lines) new.printed → PrintedStands fed old → PrintedStands (fed ++ piece) new
reads_lines fed piece read last old new lt here e h took s =
    let text : List ℕ = old.held.items ++ take (last + 1) piece in
    let r : TakesLines (Ok new.lines) s.rows old.lines (line_texts text) (printed_as new.printed) = subst (λ z. TakesLines (Ok new.lines) s.rows old.lines (line_texts z) (printed_as new.printed)) e (took s.rows s.kept) in
    let ends : EndLines text = end_piece old.held.items piece last lt here in
    record {
      front = s.front ++ text;
      ends = end_both s.front text s.ends ends;
      parts = all_parts fed piece s.front old.held.items (last + 1) s.parts ∙ ap (λ z. (s.front ++ text) ++ z) (sym h);
      rows = r.0;
      read = reads_more s.front text s.rows old.lines s.ends s.read s.lines ∙ r.1;
      kept = r.2;
      lines = omega (arith, r.3, s.lines, ap length (s.ends text), length-append (lines_of s.front) (lines_of text), length-map (lines_of text) without_terminator);
    }

-- they are no more lines than octets, with one for each octet behind them
pub counts_lines : (lines m last : ℕ) (held piece read rest : List ℕ) → read ≡ held ++ take (last + 1) piece → rest ≡ drop (last + 1) piece → m ≤ lines + length read → m + length rest ≤ lines + length held + length piece
counts_lines lines m last held piece read rest e h some =
    omega (arith, some, ap length e, ap length h, length-append held (take (last + 1) piece), length-append (take (last + 1) piece) (drop (last + 1) piece), ap length (take-append-drop (last + 1) piece))

-- one of them is bad
pub reads_bad : (fed piece read : List ℕ) (last : ℕ) (old : PrintedReader) (new : Printed) (bad : code_bad.BadRow) → last < length piece → (get_or piece last 0 == 10) ≡ true → read ≡ old.held.items ++ take (last + 1) piece
    → Took old.printed old.lines read (Err (error.BadRow bad)) new → PrintedStands fed old → BreaksAtLine (fed ++ piece) bad
reads_bad fed piece read last old new bad lt here e took s more =
    let text : List ℕ = old.held.items ++ take (last + 1) piece in
    let r : TakesLines (Err (error.BadRow bad)) s.rows old.lines (line_texts text) (printed_as new) = subst (λ z. TakesLines (Err (error.BadRow bad)) s.rows old.lines (line_texts z) (printed_as new)) e (took s.rows s.kept) in
    let ends : EndLines (s.front ++ text) = end_both s.front text s.ends (end_piece old.held.items piece last lt here) in
    ap printed_in (ap (λ z. z ++ more) (all_parts fed piece s.front old.held.items (last + 1) s.parts) ∙ append_assoc (s.front ++ text) (drop (last + 1) piece) more)
    ∙ bad_more (s.front ++ text) (drop (last + 1) piece ++ more) (bad_as bad) ends (reads_more s.front text s.rows old.lines s.ends s.read s.lines ∙ r)

-- what became of it, if it isn't read
pub feed_fails : (fed piece read : List ℕ) (last : ℕ) (old : PrintedReader) (new : Printed) (e : PrintedError) (result : Result PrintedReader PrintedError) → last < length piece → (get_or piece last 0 == 10) ≡ true → read ≡ old.held.items ++ take (last + 1) piece
    → Took old.printed old.lines read (Err e) new → result ≡ Err e → PrintedStands fed old → PrintedFed (fed ++ piece) result
feed_fails fed piece read last old new (error.BadRow bad) result lt here e took is s = subst (PrintedFed (fed ++ piece)) (sym is) (reads_bad fed piece read last old new bad lt here e took s)
feed_fails fed piece read last old new error.NoMemory result lt here e took is s = subst (PrintedFed (fed ++ piece)) (sym is) tt

-- ---- the end

-- all that is read of what was fed
all_read : (fed : List ℕ) (reader : PrintedReader) (s : PrintedStands fed reader) → printed_in fed ≡ (rows_after hops_in s.rows (reader.lines + 1) (line_texts reader.held.items) >>= λ rows. Ok (used_of rows))
all_read fed reader s = ap printed_in s.parts ∙ ap (λ (r : Result (List PrintedRow) BadLine). r >>= λ rows. Ok (used_of rows)) (reads_more s.front reader.held.items s.rows reader.lines s.ends s.read s.lines)

pub finishes : (fed read : List ℕ) (reader : PrintedReader) (m : ℕ) (new : Printed) → read ≡ reader.held.items → Took reader.printed reader.lines read (Ok m) new → PrintedStands fed reader → printed_in fed ≡ Ok (printed_as new)
finishes fed read reader m new e took s =
    let r : TakesLines (Ok m) s.rows reader.lines (line_texts reader.held.items) (printed_as new) = subst (λ z. TakesLines (Ok m) s.rows reader.lines (line_texts z) (printed_as new)) e (took s.rows s.kept) in
    all_read fed reader s ∙ (ap (λ (r : Result (List PrintedRow) BadLine). r >>= λ rows. Ok (used_of rows)) r.1 ∙ ap Ok (sym r.2))

pub finish_fails : (fed read : List ℕ) (reader : PrintedReader) (new : Printed) (e : PrintedError) (result : Result Printed PrintedError) → read ≡ reader.held.items → Took reader.printed reader.lines read (Err e) new → result ≡ Err e → PrintedStands fed reader → IsRead result (printed_in fed)
finish_fails fed read reader new (error.BadRow bad) result e took is s =
    let r : TakesLines (Err (error.BadRow bad)) s.rows reader.lines (line_texts reader.held.items) (printed_as new) = subst (λ z. TakesLines (Err (error.BadRow bad)) s.rows reader.lines (line_texts z) (printed_as new)) e (took s.rows s.kept) in
    subst (λ x. IsRead x (printed_in fed)) (sym is) (all_read fed reader s ∙ ap (λ (r : Result (List PrintedRow) BadLine). r >>= λ rows. Ok (used_of rows)) r)
finish_fails fed read reader new error.NoMemory result e took is s = subst (λ x. IsRead x (printed_in fed)) (sym is) tt

-- ---- a whole text

whole_rows : (text : List ℕ) → rows_after hops_in [] (0 + 1) (line_texts text) ≡ rows_in text
unfolding rows_by
whole_rows text = refl

pub whole_read : (text : List ℕ) (m : ℕ) (old new : Printed) → printed_as old ≡ used_of [] → Took old 0 text (Ok m) new → printed_in text ≡ Ok (printed_as new)
whole_read text m old new e took =
    let r = took [] e in
    ap (λ (r : Result (List PrintedRow) BadLine). r >>= λ rows. Ok (used_of rows)) (sym (whole_rows text) ∙ r.1) ∙ ap Ok (sym r.2)

pub whole_fails : (text : List ℕ) (old new : Printed) (e : PrintedError) (result : Result Printed PrintedError) → printed_as old ≡ used_of [] → Took old 0 text (Err e) new → result ≡ Err e → IsRead result (printed_in text)
whole_fails text old new (error.BadRow bad) result k took is =
    subst (λ x. IsRead x (printed_in text)) (sym is) (ap (λ (r : Result (List PrintedRow) BadLine). r >>= λ rows. Ok (used_of rows)) (sym (whole_rows text) ∙ took [] k))
whole_fails text old new error.NoMemory result k took is = subst (λ x. IsRead x (printed_in text)) (sym is) tt

-- ---- a bad line

-- a bad line stays one, whatever is fed
pub still_bad : (fed piece : List ℕ) (bad : code_bad.BadRow) → BreaksAtLine fed bad → BreaksAtLine (fed ++ piece) bad
still_bad fed piece bad s more = ap printed_in (append_assoc fed piece more) ∙ s (piece ++ more)

pub bad_end : (fed : List ℕ) (bad : code_bad.BadRow) → BreaksAtLine fed bad → printed_in fed ≡ Err (bad_as bad)
bad_end fed bad s = ap printed_in (sym (append-nil fed)) ∙ s []
