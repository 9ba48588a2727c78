-- The text of a run within a section of entries.
use Rattle.std.specs.Prelude.{◌≡◌, ℕ, ◌+◌, List, [], ◌++◌, length, map}
use Rattle.std.proofs.Common.{refl, sym, ap, subst, ◌∙◌, add-zero}
use Rattle.std.proofs.Math.Nat.{add_assoc}
use Rattle.std.proofs.lemmas.Grind.{flat_map-append}
use Rattle.std.proofs.lemmas.List.{length-append, map-append}
use Rattle.table_model.specs.Address.{Address, Prefix}
use Rattle.table_model.specs.Changes.{Change, Add, additions}
use Rattle.table_model.specs.Entries.{Entries}
use Rattle.printed_text.specs.Numbered.{of_least, of_route}
use Rattle.fib_report.specs.Rows.{of_change, section_rows, table_entry_row}
use Rattle.fib_report.specs.Sections.{IsReady, WritesRows, text_hops, writes_more, writes_none}
use Rattle.fib_report.specs.declared.run_text.RunText.{RunText}
use Rattle.fib_report.specs.declared.section.Section.{Section}
use Rattle.fib_report.specs.declared.section.Section.TheVariants as section
use Rattle.fib_report.specs.declared.section_text.SectionText.{SectionText}

-- the text so far
abbrev pub run_in : SectionText → RunText
run_in s = s.text

-- the section
abbrev pub section_in : SectionText → Section
section_in s = s.section

-- how many entries it took
abbrev pub taken_in : SectionText → ℕ
taken_in s = s.count

-- the rows of these entries follow, in the same section, and the entries are counted
pub record TakesEntries (old : SectionText) (entries : Entries) (new : SectionText) : Type 0 where
  pub writes : WritesRows (run_in old) (run_in new) (section_rows (section_in old) (text_hops (run_in old)) entries)
  pub section : section_in new ≡ section_in old
  pub count : taken_in new ≡ taken_in old + length entries

-- ---- no entries, and one after the other

no_rows : (s : Section) (hops : List Address) → section_rows s hops [] ≡ []
no_rows section.Routes hops = refl
no_rows section.Added hops = refl
no_rows section.Table hops = refl
no_rows section.Least hops = refl

pub takes_none : (a : SectionText) → IsReady (run_in a) → TakesEntries a [] a
takes_none a ready = record {
  writes = subst (WritesRows (run_in a) (run_in a)) (sym (no_rows (section_in a) (text_hops (run_in a)))) (writes_none (run_in a) ready);
  section = refl;
  count = sym (add-zero (taken_in a));
}

pub rows_more : (s : Section) (hops : List Address) (entries more : Entries) → section_rows s hops (entries ++ more) ≡ section_rows s hops entries ++ section_rows s hops more
rows_more section.Routes hops entries more = flat_map-append (of_route hops) entries more
rows_more section.Added hops entries more =
    let add : Prefix × ℕ → Change = λ e. Add e.0 e.1 in
    let first : Change → ℕ × Change = λ c. (0, c) in
    ap (λ cs. map (of_change hops) (map first cs)) (map-append add entries more)
    ∙ (ap (map (of_change hops)) (map-append first (additions entries) (additions more)) ∙ map-append (of_change hops) (map first (additions entries)) (map first (additions more)))
rows_more section.Table hops entries more = map-append (table_entry_row hops) entries more
rows_more section.Least hops entries more = map-append (of_least hops) entries more

pub takes_more : (a b c : SectionText) (entries more : Entries) → TakesEntries a entries b → TakesEntries b more c → TakesEntries a (entries ++ more) c
takes_more a b c entries more first next =
    let s = section_in a in
    let hops = text_hops (run_in a) in
    let then : WritesRows (run_in b) (run_in c) (section_rows s hops more) =
    subst (λ hs. WritesRows (run_in b) (run_in c) (section_rows s hs more)) first.writes.hops
    (subst (λ t. WritesRows (run_in b) (run_in c) (section_rows t (text_hops (run_in b)) more)) first.section next.writes)
    in
    record {
      writes = subst (WritesRows (run_in a) (run_in c)) (sym (rows_more s hops entries more)) (writes_more (run_in a) (run_in b) (run_in c) (section_rows s hops entries) (section_rows s hops more) first.writes then);
      section = next.section ∙ first.section;
      count = next.count ∙ (ap (λ n. n + length more) first.count ∙ (add_assoc (taken_in a) (length entries) (length more) ∙ ap (λ n. taken_in a + n) (sym (length-append entries more))));
    }
