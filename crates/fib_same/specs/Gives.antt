-- What a call gives of what is due.
use Rattle.std.specs.Prelude.{◌≡◌, ℕ, ◌+◌, List, [], ◌∷◌, Result, Ok, Err, ◌⊎◌, Option}
use Rattle.fib_io.specs.Causes.{Rose}
use Rattle.fib_addr.specs.Views.{prefix_as}
use Rattle.printed_text.specs.declared.kind.Kind.{Kind}
use Rattle.printed_text.specs.Kinds.{KindEntries}
use Rattle.table_model.specs.Address.{Address}
use Rattle.fib_same.specs.Due.{TextStop, Untold, Refused, TooLarge, BadLine, Twice, text_at}
use Rattle.fib_same.specs.declared.error.SameError.{SameError}
use Rattle.fib_same.specs.declared.error.SameError.TheVariants as error

-- what is due is this, if all that it rests on is known
abbrev pub MatchesIfTold : {Y : Type 0} → Result Y TextStop → Result Y TextStop → Type 0
MatchesIfTold (Err Untold) answer = Unit {0}
MatchesIfTold (Err (Refused r)) answer = Err (Refused r) ≡ answer
MatchesIfTold (Ok y) answer = Ok y ≡ answer

-- an error is the refusal that is due; a fault of reading or running out of memory may come in its place
abbrev pub RefusesDue : {Y : Type 0} → SameError → Result Y TextStop → Type 0
RefusesDue error.Fault due = Unit {0}
RefusesDue error.NoMemory due = Unit {0}
RefusesDue (error.TooLarge text) due = MatchesIfTold due (Err (Refused (TooLarge text)))
RefusesDue (error.BadLine text line why) due = MatchesIfTold due (Err (Refused (BadLine text line why)))
RefusesDue (error.Twice text prefix) due = MatchesIfTold due (Err (Refused (Twice text (prefix_as prefix))))

-- what a call returned, seen by view, is what is due, but for faults and running out of memory
abbrev pub ReturnsDue : {X Y : Type 0} → (X → Y) → Result X SameError → Result Y TextStop → Type 0
ReturnsDue view (Ok x) due = MatchesIfTold due (Ok (view x))
ReturnsDue view (Err e) due = RefusesDue e due

-- ---- counts of faults

-- the count of one of these names rose
abbrev pub OneRose : List (List ℕ) → (List ℕ → ℕ) → (List ℕ → ℕ) → Type 0
OneRose [] before now = ⊥
OneRose (name ∷ names) before now = Rose (before name) (now name) ⊎ OneRose names before now

-- a fault of reading comes only if the count of one of these names rose, and all else leaves all counts
abbrev pub ReadsNamedTexts : {X : Type 0} → List (List ℕ) → (List ℕ → ℕ) → (List ℕ → ℕ) → Result X SameError → Type 0
ReadsNamedTexts names before now (Ok x) = now ≡ before
ReadsNamedTexts names before now (Err error.Fault) = OneRose names before now
ReadsNamedTexts names before now (Err error.NoMemory) = now ≡ before
ReadsNamedTexts names before now (Err (error.TooLarge text)) = now ≡ before
ReadsNamedTexts names before now (Err (error.BadLine text line why)) = now ≡ before
ReadsNamedTexts names before now (Err (error.Twice text prefix)) = now ≡ before

-- ---- the names of the texts that are due to be read

-- those after a text: none after one that is refused
abbrev pub names_after : Result KindEntries TextStop → List (List ℕ) → (KindEntries → List (List ℕ)) → List (List ℕ)
names_after (Err Untold) names next = names
names_after (Err (Refused r)) names next = []
names_after (Ok read) names next = next read

-- of texts that are numbered from n, those up to the first that is refused
abbrev pub names_due : (List ℕ → Option (List ℕ)) → Kind → List Address → ℕ → List (List ℕ) → List (List ℕ)
names_due content kind hops n [] = []
names_due content kind hops n (name ∷ names) = name ∷ names_after (text_at content kind hops n name) names (λ read. names_due content kind read.hops (n + 1) names)

-- of all texts
abbrev pub names_at : (List ℕ → Option (List ℕ)) → Kind → List ℕ → List (List ℕ) → List (List ℕ)
names_at content kind first rest = names_due content kind [] 1 (first ∷ rest)

-- ---- a text that was read to its end

-- it isn't refused for how it was read, and its refusal has its number
abbrev pub IsOfText : {X : Type 0} → ℕ → Result X SameError → Type 0
IsOfText n (Ok x) = Unit {0}
IsOfText n (Err error.Fault) = ⊥
IsOfText n (Err error.NoMemory) = Unit {0}
IsOfText n (Err (error.TooLarge text)) = ⊥
IsOfText n (Err (error.BadLine text line why)) = text ≡ n
IsOfText n (Err (error.Twice text prefix)) = text ≡ n
