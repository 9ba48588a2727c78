-- The rows of a section, item by item.
use Rattle.std.proofs.Common.{◌≡◌, ℕ, ◌+◌, ◌<◌, List, [], ◌∷◌, ◌++◌, length, take, map, get_or, sym, ap, subst, ◌∙◌}
use Rattle.std.proofs.lemmas.List.{take_more, map-append}
use Rattle.table_model.specs.Address.{Prefix}
use Rattle.fib_addr.specs.Views.{entry_as}
use Rattle.fib_addr.specs.declared.entry.Entry.{Entry}
use Rattle.printed_text.specs.Rows.{PrintedRow}
use Rattle.fib_report.specs.Rows.{section_rows}
use Rattle.fib_report.specs.Sections.{WritesRows, text_hops, writes_more}
use Rattle.fib_report.specs.SectionRows.{rows_more}
use Rattle.fib_report.specs.declared.run_text.RunText.{RunText}
use Rattle.fib_report.specs.declared.section.Section.{Section}

-- the rows of one more entry
pub entries_one : (s : Section) (t u v : RunText) (es : List Entry) (i : ℕ) (e : Entry) → i < length es → e ≡ get_or es i e
    → WritesRows t u (section_rows s (text_hops t) (map entry_as (take i es)))
    → WritesRows u v (section_rows s (text_hops u) (entry_as e ∷ []))
    → WritesRows t v (section_rows s (text_hops t) (map entry_as (take (i + 1) es)))
entries_one s t u v es i e inside at first next =
    let hops = text_hops t in
    let so_far : List (Prefix × ℕ) = map entry_as (take i es) in
    let one : List (Prefix × ℕ) = entry_as (get_or es i e) ∷ [] in
    let grown : map entry_as (take (i + 1) es) ≡ so_far ++ one = ap (map entry_as) (take_more es i e inside) ∙ map-append entry_as (take i es) (get_or es i e ∷ []) in
    let then : WritesRows u v (section_rows s hops one) =
    subst (λ x. WritesRows u v (section_rows s hops (entry_as x ∷ []))) at (subst (λ hs. WritesRows u v (section_rows s hs (entry_as e ∷ []))) first.hops next)
    in
    subst (WritesRows t v) (sym (ap (section_rows s hops) grown ∙ rows_more s hops so_far one)) (writes_more t u v (section_rows s hops so_far) (section_rows s hops one) first then)

-- the row of one more item of a list, where each item has one
pub items_one : {X Y : Type 0} (row : Y → PrintedRow) (seen : X → Y) (t u v : RunText) (xs : List X) (n : ℕ) (x : X) → n < length xs → x ≡ get_or xs n x
    → WritesRows t u (map row (map seen (take n xs)))
    → WritesRows u v (row (seen x) ∷ [])
    → WritesRows t v (map row (map seen (take (n + 1) xs)))
items_one {X = X} {Y = Y} row seen t u v xs n x inside at first next =
    let so_far : List Y = map seen (take n xs) in
    let one : List Y = seen (get_or xs n x) ∷ [] in
    let grown : map seen (take (n + 1) xs) ≡ so_far ++ one = ap (map seen) (take_more xs n x inside) ∙ map-append seen (take n xs) (get_or xs n x ∷ []) in
    subst (WritesRows t v) (sym (ap (map row) grown ∙ map-append row so_far one))
    (writes_more t u v (map row so_far) (map row one) first (subst (λ y. WritesRows u v (row (seen y) ∷ [])) at next))
