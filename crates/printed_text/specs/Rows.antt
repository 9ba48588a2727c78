-- The rows of printed text.
use Rattle.std.specs.Prelude.{ℕ, ◌^◌, ◌<◌, List, [], ◌∷◌, ◌++◌, codes, decimal, Option, option_map, unwrap_or, flat_map, IfSome}
use Rattle.std.specs.List.{join_with_byte}
use Rattle.table_model.specs.Address.{Address, Prefix, IsAddress, IsPrefix}
use Rattle.table_model.specs.declared.family.Family.{Family}
use Rattle.table_model.specs.declared.family.Family.TheVariants.{V4, V6}
use Rattle.fib_addr.specs.Text.{address_text, prefix_text}

-- what a run counts; Treated are the messages that were treated as withdrawals (RFC 7606, 2)
pub data Count : Type 0 where
  Records : Count
  Skipped : Count
  Events : Count
  Routes : Count
  Entries : Count
  Nodes : Count
  Leaves : Count
  Treated : Count

-- An announcement of a route: its prefix, the address and the AS of the peer that it came from, and the AS in which the route originates
-- (RFC 6811, 2), if it has one.
pub record Announced : Type 0 where
  pub prefix : Prefix
  pub peer : Address
  pub peer_as : ℕ
  pub origin : Option ℕ

-- A validated ROA payload (RFC 6811, 2): the AS may announce the prefix, and prefixes within it of at most n bits.
pub record Vrp : Type 0 where
  pub prefix : Prefix
  pub maxlen : ℕ
  pub asn : ℕ

-- A printed row: a chosen route; an announcement that is Invalid (RFC 6811, 2), with a VRP that covers it; what the event of a number adds
-- to the table, replaces in it or removes from it, and how many changes that event needed; the hop of an address, and how many nodes its lookup visits; an entry of the kept
-- table, and of a least one; what a certificate says of a region with one hop, of one put together from its halves, and of a whole
-- family; and a count. A hop is an address, or none.
pub data PrintedRow : Type 0 where
  route_row : Prefix → Address → PrintedRow
  invalid_row : Announced → Vrp → PrintedRow
  add_row : ℕ → Prefix → Option Address → PrintedRow
  replace_row : ℕ → Prefix → Option Address → PrintedRow
  remove_row : ℕ → Prefix → PrintedRow
  moves_row : ℕ → ℕ → PrintedRow
  answer_row : Address → Option Address → PrintedRow
  visits_row : Address → ℕ → PrintedRow
  table_row : Prefix → Option Address → PrintedRow
  least_row : Prefix → Option Address → PrintedRow
  cert_leaf_row : Prefix → Option Address → PrintedRow
  cert_join_row : Prefix → ℕ → PrintedRow
  cert_bound_row : Family → ℕ → PrintedRow
  report_row : Count → ℕ → PrintedRow

-- ---- the text of a row

abbrev pub count_name : Count → List ℕ
count_name Records = codes "records"
count_name Skipped = codes "skipped"
count_name Events = codes "events"
count_name Routes = codes "routes"
count_name Entries = codes "entries"
count_name Nodes = codes "nodes"
count_name Leaves = codes "leaves"
count_name Treated = codes "treated"

abbrev pub family_name : Family → List ℕ
family_name V4 = codes "4"
family_name V6 = codes "6"

-- the address of the hop, or this word for none
abbrev pub hop_text : List ℕ → Option Address → List ℕ
hop_text word hop = unwrap_or (option_map address_text hop) word

-- the AS in which a route originates, or `none`
abbrev pub origin_text : Option ℕ → List ℕ
origin_text origin = unwrap_or (option_map decimal origin) (codes "none")

-- The fields. No hop is `none` in an answer and a leaf, and `drop` in a table and its changes.
abbrev pub fields_of : PrintedRow → List (List ℕ)
fields_of (route_row p a) = codes "route" ∷ prefix_text p ∷ address_text a ∷ []
fields_of (invalid_row a v) = codes "invalid" ∷ prefix_text a.prefix ∷ address_text a.peer ∷ decimal a.peer_as ∷ origin_text a.origin ∷ prefix_text v.prefix ∷ decimal v.maxlen ∷ decimal v.asn ∷ []
fields_of (add_row event p hop) = codes "change" ∷ decimal event ∷ codes "+" ∷ prefix_text p ∷ hop_text (codes "drop") hop ∷ []
fields_of (replace_row event p hop) = codes "change" ∷ decimal event ∷ codes "=" ∷ prefix_text p ∷ hop_text (codes "drop") hop ∷ []
fields_of (remove_row event p) = codes "change" ∷ decimal event ∷ codes "-" ∷ prefix_text p ∷ []
fields_of (moves_row event n) = codes "moves" ∷ decimal event ∷ decimal n ∷ []
fields_of (answer_row a hop) = codes "answer" ∷ address_text a ∷ hop_text (codes "none") hop ∷ []
fields_of (visits_row a n) = codes "visits" ∷ address_text a ∷ decimal n ∷ []
fields_of (table_row p hop) = codes "table" ∷ prefix_text p ∷ hop_text (codes "drop") hop ∷ []
fields_of (least_row p hop) = codes "least" ∷ prefix_text p ∷ hop_text (codes "drop") hop ∷ []
fields_of (cert_leaf_row p hop) = codes "cert" ∷ codes "leaf" ∷ prefix_text p ∷ hop_text (codes "none") hop ∷ []
fields_of (cert_join_row p k) = codes "cert" ∷ codes "join" ∷ prefix_text p ∷ decimal k ∷ []
fields_of (cert_bound_row f n) = codes "cert" ∷ codes "bound" ∷ family_name f ∷ decimal n ∷ []
fields_of (report_row count n) = codes "report" ∷ count_name count ∷ decimal n ∷ []

-- a line: its fields with commas between them, and a line feed
abbrev pub line : List (List ℕ) → List ℕ
line fields = join_with_byte 44 fields ++ 10 ∷ []

abbrev pub line_of : PrintedRow → List ℕ
line_of row = line (fields_of row)

-- a text: a line for each row
abbrev pub text_of : List PrintedRow → List ℕ
text_of rows = flat_map line_of rows

-- ---- rows that have a text

abbrev pub IsNumber : ℕ → Type 0
IsNumber n = n < 2 ^ 64

abbrev pub IsHop : Option Address → Type 0
IsHop hop = IfSome hop IsAddress

abbrev pub IsOrigin : Option ℕ → Type 0
IsOrigin origin = IfSome origin IsNumber

-- its addresses and prefixes are such, and its numbers are below 2^64
abbrev pub IsRow : PrintedRow → Type 0
IsRow (route_row p a) = IsPrefix p × IsAddress a
IsRow (invalid_row a v) = IsPrefix a.prefix × IsAddress a.peer × IsNumber a.peer_as × IsOrigin a.origin × IsPrefix v.prefix × IsNumber v.maxlen × IsNumber v.asn
IsRow (add_row event p hop) = IsNumber event × IsPrefix p × IsHop hop
IsRow (replace_row event p hop) = IsNumber event × IsPrefix p × IsHop hop
IsRow (remove_row event p) = IsNumber event × IsPrefix p
IsRow (moves_row event n) = IsNumber event × IsNumber n
IsRow (answer_row a hop) = IsAddress a × IsHop hop
IsRow (visits_row a n) = IsAddress a × IsNumber n
IsRow (table_row p hop) = IsPrefix p × IsHop hop
IsRow (least_row p hop) = IsPrefix p × IsHop hop
IsRow (cert_leaf_row p hop) = IsPrefix p × IsHop hop
IsRow (cert_join_row p k) = IsPrefix p × IsNumber k
IsRow (cert_bound_row f n) = IsNumber n
IsRow (report_row count n) = IsNumber n
