-- A table of one family, and longest match, over plain lists of bits.
use Rattle.std.specs.Prelude.{◌≡◌, ◌≢◌, ℕ, ◌≤◌, List, [], ◌∷◌, Bool, true, false, cond, Option, Some, None, length, nat_lt}
use Rattle.std.specs.List.{AllByRecursion, filter}
use Rattle.table_model.specs.Bits.{begins}

-- a prefix with its next hop's number; hop 0 drops what it matches
pub record Entry : Type 0 where
  pub prefix : List Bool
  pub hop : ℕ

abbrev pub Table : Type 0
Table = List Entry

-- the longer of two entries, the first if they are equally long
abbrev pub longer : Entry → Option Entry → Entry
longer e None = e
longer e (Some f) = cond (nat_lt (length e.prefix) (length f.prefix)) f e

-- the entry with the longest prefix
abbrev pub longest : Table → Option Entry
longest [] = None
longest (e ∷ L) = Some (longer e (longest L))

-- the hop of the entry, or h if there is none
abbrev pub hop_or : ℕ → Option Entry → ℕ
hop_or h None = h
hop_or h (Some e) = e.hop

-- the entries whose prefix the address begins with
abbrev pub containing : List Bool → Table → Table
containing a L = filter (λ e. begins e.prefix a) L

-- longest match (RFC 1812, 5.2.4.3): of the entries that contain the address the longest one's hop, or h if none does
abbrev pub lpm : Table → List Bool → ℕ → ℕ
lpm L a h = hop_or h (longest (containing a L))

-- no two entries have one prefix
abbrev pub Distinct : Table → Type 0
Distinct [] = Unit {0}
Distinct (e ∷ L) = AllByRecursion (λ f. e.prefix ≢ f.prefix) L × Distinct L

-- a table for addresses of w bits
abbrev pub IsTable : ℕ → Table → Type 0
IsTable w L = Distinct L × AllByRecursion (λ e. length e.prefix ≤ w) L

-- both tables answer alike at every address of w bits
abbrev pub Alike : ℕ → Table → Table → Type 0
Alike w L M = (a : List Bool) → length a ≡ w → lpm L a 0 ≡ lpm M a 0

-- ---- a table cut at its first bit

-- g if the prefix is empty, else o
abbrev pub root_of : List Bool → ℕ → Option ℕ → Option ℕ
root_of [] g o = Some g
root_of (b ∷ p) g o = o

-- the hop of the entry at the empty prefix
abbrev pub root : Table → Option ℕ
root [] = None
root (e ∷ L) = root_of e.prefix e.hop (root L)

-- what the halves inherit: the entry's hop, or h without an entry
abbrev pub inherit : Option ℕ → ℕ → ℕ
inherit None h = h
inherit (Some g) h = g

-- the entry without its first bit b, before the entries L
abbrev pub half_of : Bool → List Bool → ℕ → Table → Table
half_of true (true ∷ p) g L = record { prefix = p; hop = g } ∷ L
half_of false (false ∷ p) g L = record { prefix = p; hop = g } ∷ L
half_of b p g L = L

-- the entries whose prefix begins with b, without that bit
abbrev pub half : Bool → Table → Table
half b [] = []
half b (e ∷ L) = half_of b e.prefix e.hop (half b L)

-- the entries within p, without the bits of p
abbrev pub cut : List Bool → Table → Table
cut [] L = L
cut (b ∷ p) L = cut p (half b L)

-- the entry at the empty prefix, if any
abbrev pub here : Option ℕ → Table
here None = []
here (Some g) = record { prefix = []; hop = g } ∷ []
