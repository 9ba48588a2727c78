-- Rows written one after the other.
use Rattle.std.proofs.Common.{◌≡◌, ℕ, ◌+◌, ◌<◌, List, [], ◌∷◌, ◌++◌, Option, None, Some, Result, Ok, Err, MatchResult, IfOk, is_ok, length, take, map, get_or, ap, sym, subst, append-nil, ◌∙◌}
use Rattle.std.specs.List.{flat_map}
use Rattle.std.proofs.lemmas.Grind.{flat_map-append}
use Rattle.std.proofs.lemmas.List.{take_more, map-append}
use Rattle.csv.proofs.WriteFacts.{appends-more}
use Rattle.std.specs.Io.KnownBytes.{Appends, Keeps}
use Rattle.csv.specs.Writing.{text_written}
use Rattle.csv.specs.declared.writer.Writer.{Writer}
use Rattle.printed_text.specs.Rows.{PrintedRow, line_of, text_of}
use Rattle.fib_report.specs.Writing.{AddsRows}

-- rows, and then more
pub AddsRows-more : {W : Type 0} (contents : W → Option (List ℕ)) (u v w : Writer W) (rows more : List ℕ)
    → AddsRows contents u v rows → AddsRows contents v w more → AddsRows contents u w (rows ++ more)
AddsRows-more contents u v w rows more first next = record { at = next.at; text = appends-more _ _ _ rows more first.text next.text }

-- the text of one row
pub one_row : (row : PrintedRow) → text_of (row ∷ []) ≡ line_of row
one_row row = append-nil (line_of row)

-- the rows of one more item
rows-more : {X Y : Type 0} (rows : Y → List PrintedRow) (seen : X → Y) (xs : List X) (i : ℕ) (d : X) → i < length xs
    → text_of (flat_map rows (map seen (take (i + 1) xs))) ≡ text_of (flat_map rows (map seen (take i xs))) ++ text_of (rows (seen (get_or xs i d)))
rows-more rows seen xs i d inside =
    ap (λ ys. text_of (flat_map rows (map seen ys))) (take_more xs i d inside)
    ∙ (ap (λ ys. text_of (flat_map rows ys)) (map-append seen (take i xs) (get_or xs i d ∷ []))
    ∙ (ap text_of (flat_map-append rows (map seen (take i xs)) (seen (get_or xs i d) ∷ []))
    ∙ (flat_map-append line_of (flat_map rows (map seen (take i xs))) (flat_map rows (seen (get_or xs i d) ∷ []))
    ∙ ap (λ rs. text_of (flat_map rows (map seen (take i xs))) ++ text_of rs) (append-nil (rows (seen (get_or xs i d)))))))

-- and the rows of one more item
pub AddsRows-items : {W X Y : Type 0} (contents : W → Option (List ℕ)) (u v w : Writer W) (rows : Y → List PrintedRow) (seen : X → Y) (xs : List X) (i : ℕ) (x : X) → i < length xs → x ≡ get_or xs i x
    → AddsRows contents u v (text_of (flat_map rows (map seen (take i xs)))) → AddsRows contents v w (text_of (rows (seen x)))
    → AddsRows contents u w (text_of (flat_map rows (map seen (take (i + 1) xs))))
AddsRows-items contents u v w rows seen xs i x inside at first next =
    subst (AddsRows contents u w) (sym (rows-more rows seen xs i x inside)) (AddsRows-more contents u v w _ _ first (subst (λ y. AddsRows contents v w (text_of (rows (seen y)))) at next))

-- the row of one more item
row-more : {X Y : Type 0} (row : Y → PrintedRow) (seen : X → Y) (xs : List X) (i : ℕ) (d : X) → i < length xs
    → text_of (map row (map seen (take (i + 1) xs))) ≡ text_of (map row (map seen (take i xs))) ++ line_of (row (seen (get_or xs i d)))
row-more row seen xs i d inside =
    ap (λ ys. text_of (map row (map seen ys))) (take_more xs i d inside)
    ∙ (ap (λ ys. text_of (map row ys)) (map-append seen (take i xs) (get_or xs i d ∷ []))
    ∙ (ap text_of (map-append row (map seen (take i xs)) (seen (get_or xs i d) ∷ []))
    ∙ (flat_map-append line_of (map row (map seen (take i xs))) (row (seen (get_or xs i d)) ∷ [])
    ∙ ap (λ text. text_of (map row (map seen (take i xs))) ++ text) (one_row (row (seen (get_or xs i d)))))))

-- and the row of one more item, which is written
pub AddsRows-item : {W X Y : Type 0} (contents : W → Option (List ℕ)) (u v w : Writer W) (row : Y → PrintedRow) (seen : X → Y) (xs : List X) (i : ℕ) (x : X) (r : PrintedRow) → i < length xs → x ≡ get_or xs i x
    → r ≡ row (seen x) → AddsRows contents u v (text_of (map row (map seen (take i xs)))) → AddsRows contents v w (line_of r)
    → AddsRows contents u w (text_of (map row (map seen (take (i + 1) xs))))
AddsRows-item contents u v w row seen xs i x r inside at is first next =
    subst (AddsRows contents u w) (sym (row-more row seen xs i x inside)) (AddsRows-more contents u v w _ _ first (subst (λ y. AddsRows contents v w (line_of (row (seen y)))) at (subst (λ s. AddsRows contents v w (line_of s)) is next)))

known : (o : Option (List ℕ)) (rows : List ℕ) → Appends (Some []) o rows → o ≡ Some rows
known None rows h = absurd h
known (Some text) rows h = ap Some h

-- one row
pub AddsRows-one : {W : Type 0} (contents : W → Option (List ℕ)) (u v : Writer W) (a : PrintedRow) → AddsRows contents u v (line_of a) → AddsRows contents u v (text_of (a ∷ []))
AddsRows-one contents u v a p = subst (AddsRows contents u v) (sym (one_row a)) p

-- and one before others
pub AddsRows-before : {W : Type 0} (contents : W → Option (List ℕ)) (u v w : Writer W) (a : PrintedRow) (more : List PrintedRow) → AddsRows contents u v (line_of a) → AddsRows contents v w (text_of more) → AddsRows contents u w (text_of (a ∷ more))
AddsRows-before contents u v w a more p q = AddsRows-more contents u v w _ _ p q

-- the text of a writer that began with none
pub text_written-rows : {W : Type 0} (contents : W → Option (List ℕ)) (u v : Writer W) (rows : List ℕ) → text_written contents u ≡ Some [] → AddsRows contents u v rows → text_written contents v ≡ Some rows
text_written-rows contents u v rows empty all = known _ _ (subst (λ o. Appends o (text_written contents v) rows) empty all.text)

-- what `map_err` hands on of a text that `into_inner` gives
pub IfOk-passed : {X E F : Type 0} (contents : X → Option (List ℕ)) (old : Option (List ℕ)) (rows : List ℕ) (r : Result X E) (s : Result X F) (Q : E → Type 0)
    → MatchResult r (λ x. s ≡ Ok x) Q → is_ok s ≡ is_ok r → IfOk r (λ x. Keeps old (contents x)) → old ≡ Some rows → IfOk s (λ x. Keeps (Some rows) (contents x))
IfOk-passed contents old rows (Ok x) s Q e v p is = subst (λ t. IfOk t (λ y. Keeps (Some rows) (contents y))) (sym e) (subst (λ o. Keeps o (contents x)) is p)
IfOk-passed contents old rows (Err x) (Ok y) Q e v p is = absurd cc
IfOk-passed contents old rows (Err x) (Err y) Q e v p is = tt
