-- Which reads are made of inputs that are read one after another. An input has a name, and what it is for.
use Rattle.std.specs.Prelude.{◌≡◌, ℕ, ◌+◌, List, [], ◌∷◌, ◌++◌, Result, Ok, Err}
use Rattle.fib_io.specs.Reads.{Anywhere, AtEnd, AtFault, Pass, PassEnd, PastMost, Read}
use Rattle.fib_same.specs.declared.error.SameError.{SameError}
use Rattle.fib_same.specs.declared.error.SameError.TheVariants as error

-- one pass over each of these inputs, one after another, each to the input's end
abbrev pub TextsRead : {W : Type 0} → List (W × List ℕ) → List Read → Type 0
TextsRead [] reads = reads ≡ []
TextsRead (input ∷ inputs) reads = (first rest : List Read) × (reads ≡ first ++ rest) × Pass AtEnd input.1 first × TextsRead inputs rest

-- the inputs before this one are read, each to its end, then this one by a pass that ends so, and none after it
pub record TextsReadUpTo {W : Type 0} (inputs : List (W × List ℕ)) (which : W) (end : PassEnd) (reads : List Read) : Type 0 where
  pub before : List (W × List ℕ)
  pub name : List ℕ
  pub after : List (W × List ℕ)
  pub order : inputs ≡ before ++ (which, name) ∷ after
  pub first : List Read
  pub whole : TextsRead before first
  pub last : List Read
  pub pass : Pass end name last
  pub all : reads ≡ first ++ last

-- the first of these inputs may be begun, and none after it
abbrev pub TextMayBegin : {W : Type 0} → List (W × List ℕ) → List Read → Type 0
TextMayBegin [] reads = reads ≡ []
TextMayBegin (input ∷ inputs) reads = Pass Anywhere input.1 reads

-- some of the inputs are read, each to its end, in their order, and the next may be begun
pub record TextsReadInPart {W : Type 0} (inputs : List (W × List ℕ)) (reads : List Read) : Type 0 where
  pub before : List (W × List ℕ)
  pub after : List (W × List ℕ)
  pub order : inputs ≡ before ++ after
  pub first : List Read
  pub whole : TextsRead before first
  pub last : List Read
  pub begun : TextMayBegin after last
  pub all : reads ≡ first ++ last

-- ---- texts

-- the texts of these names, numbered from n
abbrev pub numbered_texts : ℕ → List (List ℕ) → List (ℕ × List ℕ)
numbered_texts n [] = []
numbered_texts n (name ∷ names) = (n, name) ∷ numbered_texts (n + 1) names

-- The reads up to a refusal are those of the texts before the one that is refused, and of this one: a text is judged once it was read to
-- its end, a fault of reading is that of the last read, and a text is too large if a read after the last octet that is read gave some.
abbrev pub StopsReadingTexts : List (ℕ × List ℕ) → SameError → List Read → Type 0
StopsReadingTexts inputs error.Fault reads = (text : ℕ) × TextsReadUpTo inputs text AtFault reads
StopsReadingTexts inputs error.NoMemory reads = TextsReadInPart inputs reads
StopsReadingTexts inputs (error.TooLarge text) reads = TextsReadUpTo inputs text PastMost reads
StopsReadingTexts inputs (error.BadLine text line why) reads = TextsReadUpTo inputs text AtEnd reads
StopsReadingTexts inputs (error.Twice text prefix) reads = TextsReadUpTo inputs text AtEnd reads

-- the reads of a call: all of its texts, or those up to the refusal
abbrev pub ReadsOfTexts : {X : Type 0} → List (ℕ × List ℕ) → Result X SameError → List Read → Type 0
ReadsOfTexts inputs (Ok x) reads = TextsRead inputs reads
ReadsOfTexts inputs (Err e) reads = StopsReadingTexts inputs e reads
