-- A line of printed text: its row, or why it has none. The fields are read from left to right, and the first that fails says why.
use Rattle.std.specs.Prelude.{ℕ, ◌^◌, Bool, List, [], ◌∷◌, codes, bytes_eq, Option, Some, None, Result, Ok, Err, ◌==◌, if◌then◌else◌}
use Rattle.std.specs.List.{slice_split}
use Rattle.octet_fields.specs.Field.{◌>>=◌}
use Rattle.table_model.specs.Address.{Address, Prefix}
use Rattle.table_model.specs.declared.family.Family.{Family}
use Rattle.table_model.specs.declared.family.Family.TheVariants.{V4, V6}
use Rattle.fib_addr.specs.Text.{address_in, prefix_in, number_below}
use Rattle.printed_text.specs.Rows.{Count, Records, Skipped, Events, Routes, Entries, Nodes, Leaves, Treated, Announced, Vrp, PrintedRow, route_row, invalid_row, add_row, replace_row, remove_row, moves_row, answer_row, visits_row, table_row, least_row, cert_leaf_row, cert_join_row, cert_bound_row, report_row}

-- ---- why

-- an address or a hop isn't one that the row allows
abbrev pub bad_hop : ℕ
bad_hop = 1

-- a word isn't one of those that may stand there
abbrev pub bad_word : ℕ
bad_word = 2

-- there are too few fields or too many
abbrev pub bad_count : ℕ
bad_count = 3

-- a field isn't a prefix
abbrev pub bad_prefix : ℕ
bad_prefix = 4

-- a number isn't plain decimal without leading zeros, or not below 2^64
abbrev pub bad_number : ℕ
bad_number = 5

-- the hop is one too many
abbrev pub too_many_hops : ℕ
too_many_hops = 6

-- ---- one field

-- the value, or why there is none
abbrev pub or_why : {A : Type 0} → ℕ → Option A → Result A ℕ
or_why why None = Err why
or_why why (Some x) = Ok x

abbrev pub address_field : List ℕ → Result Address ℕ
address_field text = or_why bad_hop (address_in text)

abbrev pub prefix_field : List ℕ → Result Prefix ℕ
prefix_field text = or_why bad_prefix (prefix_in text)

abbrev pub number_field : List ℕ → Result ℕ ℕ
number_field text = or_why bad_number (number_below (2 ^ 64) text)

-- an address, or no hop if the field is this word
unfoldable pub hop_field : List ℕ → List ℕ → Result (Option Address) ℕ
hop_field word text = if bytes_eq text word then Ok None else (address_field text >>= λ a. Ok (Some a))

-- the number of an AS, or `none`
unfoldable pub origin_field : List ℕ → Result (Option ℕ) ℕ
origin_field text = if bytes_eq text (codes "none") then Ok None else (number_field text >>= λ n. Ok (Some n))

unfoldable pub count_field : List ℕ → Result Count ℕ
count_field text =
    if bytes_eq text (codes "records") then Ok Records
    else if bytes_eq text (codes "skipped") then Ok Skipped
    else if bytes_eq text (codes "events") then Ok Events
    else if bytes_eq text (codes "routes") then Ok Routes
    else if bytes_eq text (codes "entries") then Ok Entries
    else if bytes_eq text (codes "nodes") then Ok Nodes
    else if bytes_eq text (codes "leaves") then Ok Leaves
    else if bytes_eq text (codes "treated") then Ok Treated
    else Err bad_word

unfoldable pub family_field : List ℕ → Result Family ℕ
family_field text = if bytes_eq text (codes "4") then Ok V4 else if bytes_eq text (codes "6") then Ok V6 else Err bad_word

-- ---- n fields, and no more

abbrev pub one_field : List (List ℕ) → Result (List ℕ) ℕ
one_field (x ∷ []) = Ok x
one_field [] = Err bad_count
one_field (x ∷ y ∷ more) = Err bad_count

abbrev pub two_fields : List (List ℕ) → Result (List ℕ × List ℕ) ℕ
two_fields (x ∷ y ∷ []) = Ok (x, y)
two_fields [] = Err bad_count
two_fields (x ∷ []) = Err bad_count
two_fields (x ∷ y ∷ z ∷ more) = Err bad_count

-- the field that decides how many follow, and those; if the line ends before it, fields are missing
abbrev pub next_field : List (List ℕ) → Result (List ℕ × List (List ℕ)) ℕ
next_field [] = Err bad_count
next_field (x ∷ more) = Ok (x, more)

-- the fields of an announcement
pub record AnnouncedTexts : Type 0 where
  pub prefix : List ℕ
  pub peer : List ℕ
  pub peer_as : List ℕ
  pub origin : List ℕ

-- those that stand first, and the fields after them
unfoldable pub announced_fields : List (List ℕ) → Result (AnnouncedTexts × List (List ℕ)) ℕ
announced_fields fields = do
  prefix ← next_field fields
  peer ← next_field prefix.1
  peer_as ← next_field peer.1
  origin ← next_field peer_as.1
  Ok (record { prefix = prefix.0; peer = peer.0; peer_as = peer_as.0; origin = origin.0 }, origin.1)

-- the fields of a VRP
pub record VrpTexts : Type 0 where
  pub prefix : List ℕ
  pub maxlen : List ℕ
  pub asn : List ℕ

-- those that stand there, and no more
unfoldable pub vrp_fields : List (List ℕ) → Result VrpTexts ℕ
vrp_fields fields = do
  prefix ← next_field fields
  others ← two_fields prefix.1
  Ok (record { prefix = prefix.0; maxlen = others.0; asn = others.1 })

-- ---- one row, of the fields after the words that name it

-- PREFIX,HOP, if this word is no hop
unfoldable pub entry_in : List ℕ → List (List ℕ) → Result (Prefix × Option Address) ℕ
entry_in word fields = do
  f ← two_fields fields
  p ← prefix_field f.0
  hop ← hop_field word f.1
  Ok (p, hop)

-- PREFIX,ADDRESS
unfoldable pub route_row_in : List (List ℕ) → Result PrintedRow ℕ
route_row_in fields = do
  f ← two_fields fields
  p ← prefix_field f.0
  a ← address_field f.1
  Ok (route_row p a)

-- PREFIX,ADDRESS,NUMBER,ORIGIN
unfoldable pub announced_in : AnnouncedTexts → Result Announced ℕ
announced_in texts = do
  p ← prefix_field texts.prefix
  a ← address_field texts.peer
  n ← number_field texts.peer_as
  origin ← origin_field texts.origin
  Ok (record { prefix = p; peer = a; peer_as = n; origin = origin })

-- PREFIX,NUMBER,NUMBER
unfoldable pub printed_vrp_in : VrpTexts → Result Vrp ℕ
printed_vrp_in texts = do
  p ← prefix_field texts.prefix
  maxlen ← number_field texts.maxlen
  asn ← number_field texts.asn
  Ok (record { prefix = p; maxlen = maxlen; asn = asn })

-- an announcement, and then a VRP
unfoldable pub invalid_row_in : List (List ℕ) → Result PrintedRow ℕ
invalid_row_in fields = do
  first ← announced_fields fields
  second ← vrp_fields first.1
  announced ← announced_in first.0
  vrp ← printed_vrp_in second
  Ok (invalid_row announced vrp)

-- ADDRESS,HOP
unfoldable pub answer_in : List (List ℕ) → Result PrintedRow ℕ
answer_in fields = do
  f ← two_fields fields
  a ← address_field f.0
  hop ← hop_field (codes "none") f.1
  Ok (answer_row a hop)

-- ADDRESS,NUMBER
unfoldable pub visits_in : List (List ℕ) → Result PrintedRow ℕ
visits_in fields = do
  f ← two_fields fields
  a ← address_field f.0
  n ← number_field f.1
  Ok (visits_row a n)

-- PREFIX,HOP after + or =, and PREFIX after -
unfoldable pub signed_in : ℕ → List ℕ → List (List ℕ) → Result PrintedRow ℕ
signed_in event sign fields =
    if bytes_eq sign (codes "+") then (entry_in (codes "drop") fields >>= λ e. Ok (add_row event e.0 e.1))
    else if bytes_eq sign (codes "=") then (entry_in (codes "drop") fields >>= λ e. Ok (replace_row event e.0 e.1))
    else if bytes_eq sign (codes "-") then (one_field fields >>= λ f. prefix_field f >>= λ p. Ok (remove_row event p))
    else Err bad_word

-- NUMBER,SIGN and what the sign asks for
unfoldable pub change_in : List (List ℕ) → Result PrintedRow ℕ
change_in fields = do
  first ← next_field fields
  event ← number_field first.0
  sign ← next_field first.1
  signed_in event sign.0 sign.1

-- NUMBER,NUMBER
unfoldable pub moves_in : List (List ℕ) → Result PrintedRow ℕ
moves_in fields = do
  f ← two_fields fields
  event ← number_field f.0
  n ← number_field f.1
  Ok (moves_row event n)

-- PREFIX,NUMBER
unfoldable pub join_in : List (List ℕ) → Result PrintedRow ℕ
join_in fields = do
  f ← two_fields fields
  p ← prefix_field f.0
  k ← number_field f.1
  Ok (cert_join_row p k)

-- FAMILY,NUMBER
unfoldable pub bound_in : List (List ℕ) → Result PrintedRow ℕ
bound_in fields = do
  f ← two_fields fields
  family ← family_field f.0
  n ← number_field f.1
  Ok (cert_bound_row family n)

-- the part of a certificate that the word names
unfoldable pub part_in : List ℕ → List (List ℕ) → Result PrintedRow ℕ
part_in word fields =
    if bytes_eq word (codes "leaf") then (entry_in (codes "none") fields >>= λ e. Ok (cert_leaf_row e.0 e.1))
    else if bytes_eq word (codes "join") then join_in fields
    else if bytes_eq word (codes "bound") then bound_in fields
    else Err bad_word

unfoldable pub cert_in : List (List ℕ) → Result PrintedRow ℕ
cert_in fields = do
  word ← next_field fields
  part_in word.0 word.1

-- NAME,NUMBER
unfoldable pub report_in : List (List ℕ) → Result PrintedRow ℕ
report_in fields = do
  f ← two_fields fields
  count ← count_field f.0
  n ← number_field f.1
  Ok (report_row count n)

-- the row of this name
unfoldable pub named_in : List ℕ → List (List ℕ) → Result PrintedRow ℕ
named_in name fields =
    if bytes_eq name (codes "route") then route_row_in fields
    else if bytes_eq name (codes "invalid") then invalid_row_in fields
    else if bytes_eq name (codes "change") then change_in fields
    else if bytes_eq name (codes "moves") then moves_in fields
    else if bytes_eq name (codes "answer") then answer_in fields
    else if bytes_eq name (codes "visits") then visits_in fields
    else if bytes_eq name (codes "table") then (entry_in (codes "drop") fields >>= λ e. Ok (table_row e.0 e.1))
    else if bytes_eq name (codes "least") then (entry_in (codes "drop") fields >>= λ e. Ok (least_row e.0 e.1))
    else if bytes_eq name (codes "cert") then cert_in fields
    else if bytes_eq name (codes "report") then report_in fields
    else Err bad_word

-- a row's fields, its name first
unfoldable pub row_in : List (List ℕ) → Result PrintedRow ℕ
row_in fields = do
  name ← next_field fields
  named_in name.0 name.1

-- ','
abbrev pub is_comma : ℕ → Bool
is_comma b = b == 44

-- a line: fields with commas between them
abbrev pub line_in : List ℕ → Result PrintedRow ℕ
line_in line = row_in (slice_split is_comma line)
