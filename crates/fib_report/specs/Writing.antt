-- What csv's writer is between two rows, and what rows add to its text.
use Rattle.std.specs.Prelude.{◌≡◌, ℕ, true, false, List, Option}
use Rattle.std.specs.Io.KnownBytes.{Appends}
use Rattle.csv.specs.Writing.{default_writer, with_style, with_flexible, writer_setup, fields_written, has_written, text_written}
use Rattle.csv.specs.declared.writer.QuoteStyle.TheVariants.{Never}
use Rattle.csv.specs.declared.writer.Writer.{Writer}
use Rattle.csv.specs.declared.writer.WriterBuilder.{WriterBuilder}

-- commas and line feeds, no quotes, rows of any number of fields
abbrev pub setup : WriterBuilder
setup = with_flexible (with_style default_writer Never) true

-- the writer has this setup and stands before a row
pub record IsAtRow {W : Type 0} (w : Writer W) : Type 0 where
  pub set : writer_setup w ≡ setup
  pub fields : fields_written w ≡ 0
  pub wrote : has_written w ≡ false

-- these rows follow the text that was written, and the writer stands before a row again
pub record AddsRows {W : Type 0} (contents : W → Option (List ℕ)) (old new : Writer W) (rows : List ℕ) : Type 0 where
  pub at : IsAtRow new
  pub text : Appends (text_written contents old) (text_written contents new) rows
