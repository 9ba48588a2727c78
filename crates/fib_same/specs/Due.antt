-- What comparing texts comes to, by what the inputs hold.
use Rattle.std.specs.Prelude.{◌≡◌, ℕ, ◌+◌, ◌^◌, List, [], ◌∷◌, length, nat_lt, if◌then◌else◌, Option, Some, None, Result, Ok, Err}
use Rattle.std.specs.List.{slice_get}
use Rattle.std.specs.Option.{option_and_then, option_map}
use Rattle.octet_fields.specs.Field.{◌>>=◌}
use Rattle.table_model.specs.Address.{Address, Prefix}
use Rattle.table_model.specs.Entries.{Entries, match_in}
use Rattle.cert_model.specs.Verdict.{twice}
use Rattle.fib_addr.specs.Hops.{hop_at}
use Rattle.printed_text.specs.declared.kind.Kind.{Kind}
use Rattle.printed_text.specs.Kinds.{KindEntries, kind_in}
use Rattle.printed_text.specs.Texts.{BadLine as BadRow}
use Rattle.fib_same.specs.Texts.{ComparesTo, Difference, least_difference}

-- What is wrong with a text of a number, from 1: it has more than 2^36 octets; its line of a number is bad for a reason; or a prefix
-- stands twice in its rows of the kind.
pub data TextRefusal : Type 0 where
  TooLarge : ℕ → TextRefusal
  BadLine : ℕ → ℕ → ℕ → TextRefusal
  Twice : ℕ → Prefix → TextRefusal

-- what isn't known, since an input's content isn't; or a refusal
pub data TextStop : Type 0 where
  Untold : TextStop
  Refused : TextRefusal → TextStop

-- ---- one text

-- the content of an input, if it is known
abbrev pub text_content : Option (List ℕ) → Result (List ℕ) TextStop
text_content None = Err Untold
text_content (Some octets) = Ok octets

-- unless they are more than are read
unfoldable pub sized_text : ℕ → List ℕ → Result (List ℕ) TextStop
sized_text n octets = if nat_lt (2 ^ 36) (length octets) then Err (Refused (TooLarge n)) else Ok octets

-- the octets of the text of this number and name
unfoldable pub text_octets : (List ℕ → Option (List ℕ)) → ℕ → List ℕ → Result (List ℕ) TextStop
text_octets content n name = text_content (content name) >>= sized_text n

-- the entries that were read of it, or its first bad line
abbrev pub rowed_text : ℕ → Result KindEntries BadRow → Result KindEntries TextStop
rowed_text n (Ok read) = Ok read
rowed_text n (Err bad) = Err (Refused (BadLine n bad.line bad.why))

-- unless a prefix stands twice
abbrev pub unless_twice : ℕ → KindEntries → Option Prefix → Result KindEntries TextStop
unless_twice n read None = Ok read
unless_twice n read (Some p) = Err (Refused (Twice n p))

-- what is read of a text with these octets: it must be in the grammar, and then have each prefix once
unfoldable pub text_entries : Kind → List Address → ℕ → List ℕ → Result KindEntries TextStop
text_entries kind hops n octets = rowed_text n (kind_in kind hops octets) >>= λ read. unless_twice n read (twice read.entries)

-- the same of the text of a number and name; these hops have numbers before
unfoldable pub text_at : (List ℕ → Option (List ℕ)) → Kind → List Address → ℕ → List ℕ → Result KindEntries TextStop
text_at content kind hops n name = text_octets content n name >>= text_entries kind hops n

-- ---- all texts

-- The tables of texts, one for each, and the hops that have numbers after them.
pub record Tables : Type 0 where
  pub tables : List Entries
  pub hops : List Address

abbrev pub with_table : Entries → Tables → Tables
with_table table more = record { tables = table ∷ more.tables; hops = more.hops }

-- those of the texts of these names, which are numbered from n, or the first refusal: each text is judged before the next one
abbrev pub texts_at : (List ℕ → Option (List ℕ)) → Kind → List Address → ℕ → List (List ℕ) → Result Tables TextStop
texts_at content kind hops n [] = Ok (record { tables = []; hops = hops })
texts_at content kind hops n (name ∷ names) = text_at content kind hops n name >>= λ read. texts_at content kind read.hops (n + 1) names >>= λ more. Ok (with_table read.entries more)

-- The first text's table, the others' tables, and the hops of all, by which the numbers in them stand for addresses.
pub record Compared : Type 0 where
  pub first : Entries
  pub others : List Entries
  pub hops : List Address

-- those of the texts of these names: the first is text 1
unfoldable pub same_at : (List ℕ → Option (List ℕ)) → Kind → List ℕ → List (List ℕ) → Result Compared TextStop
same_at content kind first rest = do
  read ← text_at content kind [] 1 first
  more ← texts_at content kind read.hops 2 rest
  Ok (record { first = read.entries; others = more.tables; hops = more.hops })

-- ---- the answer

-- a text, by its number from 1, that differs from the first at an address, and the hops of that address from both
pub record TextDifference : Type 0 where
  pub text : ℕ
  pub addr : Address
  pub first : Option Address
  pub other : Option Address

-- the hop of an address from a table, if it has one
abbrev pub hop_from : List Address → Entries → Address → Option Address
hop_from hops table a = hop_at hops (match_in table a)

-- a difference, in terms of the tables
abbrev pub told_difference : Compared → Difference → TextDifference
told_difference t x = record {
  text = x.text + 2;
  addr = x.addr;
  first = hop_from t.hops t.first x.addr;
  other = option_and_then (λ table. hop_from t.hops table x.addr) (slice_get t.others x.text);
}

-- the least address at which a text differs from the first, and the least text that does there; none if all are alike
abbrev pub answer_of : Compared → Option TextDifference
answer_of t = option_map (told_difference t) (least_difference t.first t.others)

-- The least difference is what comparing these tables comes to, and the answer says it.
abbrev pub TellsDifference : Compared → Option TextDifference → Type 0
TellsDifference t answer = ComparesTo t.first t.others (least_difference t.first t.others) × (answer ≡ answer_of t)

-- the answer that is due
abbrev pub answer_at : (List ℕ → Option (List ℕ)) → Kind → List ℕ → List (List ℕ) → Result (Option TextDifference) TextStop
answer_at content kind first rest = same_at content kind first rest >>= λ t. Ok (answer_of t)
