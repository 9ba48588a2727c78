-- Inputs that are read in pieces.
use Rattle.std.specs.Prelude.{◌≡◌, ℕ, ◌+◌, ◌^◌, ◌≤◌, ◌<◌, List, [], ◌++◌, length, take, drop, Result, Ok, Err}
use Rattle.fib_io.specs.Causes.{Rose}
use Rattle.fib_io.specs.declared.InFault.{InFault}
use Rattle.fib_io.specs.declared.InFault.TheVariants.{Failed, NoMemory}
use Rattle.fib_io.specs.declared.pieces.ReadError.{ReadError}
use Rattle.fib_io.specs.declared.pieces.ReadError.TheVariants as read

-- the octets of an input that are read: at most 2^36
abbrev pub octets_read : List ℕ → List ℕ
octets_read octets = take (2 ^ 36) octets

-- those of them from this place on
abbrev pub octets_from : ℕ → List ℕ → List ℕ
octets_from at octets = drop at (octets_read octets)

-- the first n octets of the room come next, and then those after them
abbrev pub ComeNext : List ℕ → ℕ → List ℕ → ℕ → Type 0
ComeNext octets at room n = octets_from at octets ≡ take n room ++ octets_from (at + n) octets

-- nothing comes from this place on, and the input has no more octets than are read
abbrev pub IsEnd : List ℕ → ℕ → Type 0
IsEnd octets at = (octets_from at octets ≡ []) × (length octets ≤ 2 ^ 36)

-- nothing comes from this place on, and the input has more octets than are read
abbrev pub IsLarge : List ℕ → ℕ → Type 0
IsLarge octets at = (octets_from at octets ≡ []) × (2 ^ 36 < length octets)

-- what a read that gave nothing comes to
abbrev pub refusal_of : InFault → ReadError
refusal_of Failed = read.Fault
refusal_of NoMemory = read.NoMemory

-- a fault comes only if the count of the name rose, and every other answer leaves all counts
abbrev pub IsReadOf : {T : Type 0} → (List ℕ → ℕ) → (List ℕ → ℕ) → List ℕ → Result T ReadError → Type 0
IsReadOf before now name (Err read.Fault) = Rose (before name) (now name)
IsReadOf before now name (Err read.TooLarge) = now ≡ before
IsReadOf before now name (Err read.NoMemory) = now ≡ before
IsReadOf before now name (Ok x) = now ≡ before
