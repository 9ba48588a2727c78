-- The list of addresses that are asked for.
use Rattle.std.specs.Prelude.{ℕ, ◌+◌, List, [], ◌∷◌, Bool, Option, Some, None, Result, Ok, Err, filter, map, ◌==◌}
use Rattle.std.specs.List.{list_any}
use Rattle.bstr.specs.Text.{without_terminator}
use Rattle.octet_fields.specs.Field.{◌>>=◌}
use Rattle.table_model.specs.Address.{Address}
use Rattle.fib_addr.specs.Text.{address_in}
use Rattle.printed_text.specs.Texts.{lines_of, line_texts}

-- the address before more, or the number of its line if it is none
abbrev pub address_or : ℕ → Option Address → Result (List Address) ℕ → Result (List Address) ℕ
address_or n None more = Err n
address_or n (Some a) more = more >>= λ addresses. Ok (a ∷ addresses)

-- The addresses of lines that are numbered from n, or the number of the first that is neither empty nor an address. An empty line is counted all the same.
unfoldable pub addresses_from : ℕ → List (List ℕ) → Result (List Address) ℕ
addresses_from n [] = Ok []
addresses_from n ([] ∷ lines) = addresses_from (n + 1) lines
addresses_from n ((b ∷ line) ∷ lines) = address_or n (address_in (b ∷ line)) (addresses_from (n + 1) lines)

-- the asks: an address on each line that isn't empty, the first line being line 1
unfoldable pub asks_in : List ℕ → Result (List Address) ℕ
asks_in text = addresses_from 1 (line_texts text)

-- ---- the lines of a text that goes on

-- some octet is a line feed
abbrev pub has_feed : List ℕ → Bool
has_feed octets = list_any (λ b. b == 10) octets

-- the lines that have their line feed: all but what follows the last line feed
abbrev pub ended_lines : List ℕ → List (List ℕ)
ended_lines text = filter has_feed (lines_of text)

-- the asks of the lines that have their line feed
unfoldable pub ended_asks_in : List ℕ → Result (List Address) ℕ
ended_asks_in text = addresses_from 1 (map without_terminator (ended_lines text))
