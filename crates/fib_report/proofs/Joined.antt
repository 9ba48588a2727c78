-- A row of two fields or more, as csv's writer writes it without quotes.
use Rattle.std.proofs.Common.{◌≡◌, ◌≢◌, ℕ, ◌≤◌, List, [], ◌∷◌, ◌++◌, ◌<◌, Bool, Option, Result, Ok, Err, is_ok, false, OnOk, length, ap, append-nil, arith, subst, ◌∙◌}
use Rattle.std.specs.Io.KnownBytes.{Appends}
use Rattle.std.specs.List.{join_with_byte}
use Rattle.std.specs.Prelude.{if◌then◌else◌}
use Rattle.std.proofs.lemmas.Bool.{ne_eqb}
use Rattle.csv.specs.Writing.{fields_text, is_blank, row_text, writer_setup, fields_written, has_written, text_written}
use Rattle.csv.specs.declared.writer.QuoteStyle.TheVariants.{Never, NonNumeric}
use Rattle.csv.specs.declared.writer.Writer.{Writer}
use Rattle.csv.specs.declared.writer.WriterBuilder.{WriterBuilder}
use Rattle.fib_report.specs.Writing.{setup, IsAtRow, AddsRows}
use Rattle.printed_text.specs.Rows.{line}

joined : (field : List ℕ) (rest : List (List ℕ)) → field ++ fields_text setup rest ≡ join_with_byte 44 (field ∷ rest)
unfolding fields_text
joined field [] = append-nil field
joined field (next ∷ rest) = ap (λ (text : List ℕ). field ++ 44 ∷ text) (joined next rest)

pub row_text-plain : (fields : List (List ℕ)) → 2 ≤ length fields → row_text setup fields ≡ line fields
unfolding is_blank
row_text-plain [] h = absurd (omega arith)
row_text-plain (field ∷ []) h = absurd (omega arith)
row_text-plain (field ∷ next ∷ rest) h = ap (λ (text : List ℕ). text ++ 10 ∷ []) (joined field (next ∷ rest))

plain_style : (cfg : WriterBuilder) → cfg ≡ setup → cfg.style ≢ NonNumeric
plain_style cfg at e = let never : cfg.style ≡ Never = ap (λ (c : WriterBuilder). c.style) at in cc

-- one field that isn't empty
pub row_text-one : (field : List ℕ) → 0 < length field → row_text setup (field ∷ []) ≡ field ++ 10 ∷ []
unfolding is_blank fields_text
row_text-one field some =
    ap (λ (blank : Bool). (field ++ []) ++ ((if blank then 34 ∷ 34 ∷ [] else []) ++ 10 ∷ [])) (ne_eqb (length field) 0 (λ none. omega arith)) ∙ ap (λ (text : List ℕ). text ++ 10 ∷ []) (append-nil field)

Appends-row : (old new : Option (List ℕ)) (cfg : WriterBuilder) (fields : List (List ℕ)) (text : List ℕ) → cfg ≡ setup → row_text setup fields ≡ text
    → ((cfg.style ≢ NonNumeric) → Appends old new (row_text cfg fields)) → Appends old new text
Appends-row old new cfg fields text at same written = subst (Appends old new) (ap (λ c. row_text c fields) at ∙ same) (written (plain_style cfg at))

-- what `write_fields` says where it is Ok, of a result that is Ok only there
pub OnOk-fields : {W A B E F : Type 0} (contents : W → Option (List ℕ)) (old new : Writer W) (fields : List (List ℕ)) (text : List ℕ) (r : Result A E) (s : Result B F)
    → IsAtRow old → row_text setup fields ≡ text → is_ok s ≡ is_ok r
    → OnOk r (fields_written old ≡ 0 → has_written old ≡ false → ((writer_setup old).style ≢ NonNumeric) → Appends (text_written contents old) (text_written contents new) (row_text (writer_setup old) fields))
    → OnOk r (fields_written new ≡ 0) → OnOk r (has_written new ≡ false) → OnOk r (writer_setup new ≡ writer_setup old)
    → OnOk s (AddsRows contents old new text)
OnOk-fields contents old new fields text (Ok x) (Ok y) at same e written ended clean set = record {
  at = record { set = set ∙ at.set; fields = ended; wrote = clean };
  text = Appends-row _ _ _ fields text at.set same (written at.fields at.wrote);
}
OnOk-fields contents old new fields text (Err x) (Ok y) at same e written ended clean set = absurd cc
OnOk-fields contents old new fields text r (Err y) at same e written ended clean set = tt
