-- A list of VRPs as text: lines PREFIX,MAXLEN,AS.
use Rattle.std.specs.Prelude.{ℕ, ◌+◌, ◌^◌, Bool, ◌&&◌, nat_le, List, [], ◌∷◌, length, Result, Ok, Err, if◌then◌else◌}
use Rattle.std.specs.List.{slice_split}
use Rattle.octet_fields.specs.Field.{◌>>=◌}
use Rattle.table_model.specs.Width.{width}
use Rattle.table_model.specs.Address.{Prefix}
use Rattle.fib_addr.specs.Text.{number_below}
use Rattle.printed_text.specs.Reading.{bad_number, is_comma, or_why, prefix_field, vrp_fields}
use Rattle.printed_text.specs.Rows.{Vrp}
use Rattle.printed_text.specs.Texts.{BadLine, line_texts}

-- ---- a line

-- MAXLEN is below the prefix's length or above its family's width
abbrev pub bad_maxlen : ℕ
bad_maxlen = 7

abbrev pub maxlen_field : List ℕ → Result ℕ ℕ
maxlen_field text = or_why bad_number (number_below 256 text)

-- an AS number has four octets (RFC 6793, 3)
abbrev pub as_field : List ℕ → Result ℕ ℕ
as_field text = or_why bad_number (number_below (2 ^ 32) text)

-- MAXLEN is at least the prefix's length, and at most its family's width (RFC 6482, 3.3)
abbrev pub is_maxlen : Prefix → ℕ → Bool
is_maxlen p maxlen = nat_le (length p.bits) maxlen && nat_le maxlen (width p.family)

abbrev pub with_maxlen : Prefix → ℕ → ℕ → Result Vrp ℕ
with_maxlen p maxlen asn = if is_maxlen p maxlen then Ok (record { prefix = p; maxlen = maxlen; asn = asn }) else Err bad_maxlen

-- The VRP of a line, or why it has none: there must be three fields, each must be what it stands for, and at last MAXLEN must be one of the
-- prefix.
unfoldable pub vrp_in : List ℕ → Result Vrp ℕ
vrp_in line = do
  texts ← vrp_fields (slice_split is_comma line)
  p ← prefix_field texts.prefix
  maxlen ← maxlen_field texts.maxlen
  asn ← as_field texts.asn
  with_maxlen p maxlen asn

-- ---- a text

-- the VRP of the line of this number, or that line and why it has none
abbrev pub at_line : ℕ → Result Vrp ℕ → Result Vrp BadLine
at_line n (Err why) = Err (record { line = n; why = why })
at_line n (Ok vrp) = Ok vrp

-- the VRPs of lines that are numbered from n, or the first bad line; an empty line has no VRP, and is counted
unfoldable pub vrps_of : ℕ → List (List ℕ) → Result (List Vrp) BadLine
vrps_of n [] = Ok []
vrps_of n ([] ∷ lines) = vrps_of (n + 1) lines
vrps_of n ((b ∷ line) ∷ lines) = at_line n (vrp_in (b ∷ line)) >>= λ vrp. vrps_of (n + 1) lines >>= λ more. Ok (vrp ∷ more)

-- the VRPs of a text in the order of its lines, the first line being line 1
unfoldable pub vrps_in : List ℕ → Result (List Vrp) BadLine
vrps_in text = vrps_of 1 (line_texts text)
