-- The text of a run so far, and what a section adds to it.
use Rattle.std.specs.Prelude.{◌≡◌, ℕ, List, ◌++◌, map}
use Rattle.std.specs.List.{AllByRecursion}
use Rattle.std.proofs.Common.{[], ◌∷◌, refl, sym, ap, subst, ◌∙◌, append-nil, append_assoc}
use Rattle.std.proofs.lemmas.Grind.{flat_map-append}
use Rattle.std.proofs.lemmas.List.{map-append}
use Rattle.table_model.specs.Address.{Address}
use Rattle.cert_model.specs.Rows.{CertRow}
use Rattle.csv.specs.Writing.{writer_under, writer_pending}
use Rattle.printed_text.specs.Rows.{IsRow, PrintedRow, line_of, text_of}
use Rattle.printed_text.specs.Numbered.{of_cert}
use Rattle.fib_report.specs.Writing.{IsAtRow}
use Rattle.fib_report.specs.declared.run_text.RunText.{RunText}

-- rows can be written to it
abbrev pub IsReady : RunText → Type 0
IsReady t = IsAtRow t.out

-- the text so far
abbrev pub text_in : RunText → List ℕ
text_in t = (writer_under t.out).items ++ writer_pending t.out

-- the hops that numbers stand for
abbrev pub text_hops : RunText → List Address
text_hops t = t.hops

-- these rows follow the text so far, and each is one that is read as it is; more can be written, with the same hops
pub record WritesRows (old new : RunText) (rows : List PrintedRow) : Type 0 where
  pub ready : IsReady new
  pub hops : text_hops new ≡ text_hops old
  pub text : text_in new ≡ text_in old ++ text_of rows
  pub proper : AllByRecursion IsRow rows

-- these rows of a certificate follow
abbrev pub TakesRows : RunText → List CertRow → RunText → Type 0
TakesRows old rows new = WritesRows old new (map (of_cert (text_hops old)) rows)

-- ---- one after the other

both : (a b : List PrintedRow) → AllByRecursion IsRow a → AllByRecursion IsRow b → AllByRecursion IsRow (a ++ b)
both [] b p q = q
both (x ∷ a) b p q = (p.0, both a b p.1 q)

pub writes_none : (a : RunText) → IsReady a → WritesRows a a []
writes_none a ready = record { ready = ready; hops = refl; text = sym (append-nil (text_in a)); proper = tt }

pub writes_more : (a b c : RunText) (rows more : List PrintedRow) → WritesRows a b rows → WritesRows b c more → WritesRows a c (rows ++ more)
writes_more a b c rows more first next = record {
  ready = next.ready;
  hops = next.hops ∙ first.hops;
  text = next.text ∙ (ap (λ t. t ++ text_of more) first.text ∙ (append_assoc (text_in a) (text_of rows) (text_of more) ∙ ap (λ t. text_in a ++ t) (sym (flat_map-append line_of rows more))));
  proper = both rows more first.proper next.proper;
}

pub takes_more : (a b c : RunText) (rows more : List CertRow) → TakesRows a rows b → TakesRows b more c → TakesRows a (rows ++ more) c
takes_more a b c rows more first next =
    let row = of_cert (text_hops a) in
    subst (WritesRows a c) (sym (map-append row rows more)) (writes_more a b c (map row rows) (map row more) first (subst (λ hops. WritesRows b c (map (of_cert hops) more)) first.hops next))
