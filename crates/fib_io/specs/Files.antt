-- What inputs over files are: readers that are opened by name and go to places.
use Rattle.std.specs.Prelude.{◌≡◌, ℕ, ◌+◌, ◌^◌, ◌≤◌, ◌==◌, Bool, bytes_eq, List, [], ◌∷◌, ◌++◌, Option, Some, None, option_map, unwrap_or, Result, IfSome, IsSome, IsSomeAnd, MatchOption, MatchResult, ◌⊎◌, if◌then◌else◌}
use Rattle.std.specs.Option.{ForSome}
use Rattle.std.specs.List.{All, find}
use Rattle.std.specs.String.{string_bytes}
use Rattle.fib_io.specs.Octets.{AreAt}
use Rattle.fib_io.specs.declared.files.OpenInput.{OpenInput}

-- if the content is known, the reader says it too, and stands at its beginning
abbrev pub IsOpened : Option (List ℕ) → Option (List ℕ) → Option ℕ → Type 0
IsOpened content octets place = IfSome content (λ all. (octets ≡ Some all) × (place ≡ Some 0))

-- if a reader says its octets and its place, a read gave what stands there and went on after it, or failed and moved nothing
abbrev pub ReadsForward : {E : Type 0} → Option (List ℕ) → Option ℕ → Option ℕ → List ℕ → Result ℕ E → Type 0
ReadsForward octets old new buf result = ForSome octets (λ all. ForSome old (λ at. MatchResult result (λ n. AreAt all at buf n × (new ≡ Some (at + n))) (λ _. new ≡ Some at)))

-- if the content is known, the reader says it too, and stands at the place, if that is known
abbrev pub IsOpen : Option (List ℕ) → Option (List ℕ) → Option ℕ → Option ℕ → Type 0
IsOpen content octets position place = ForSome content (λ all. (octets ≡ Some all) × IsSome position × ForSome place (λ at. position ≡ Some at))

-- the input reads what its name holds
abbrev pub ReadsContent : {R : Type 0} → (List ℕ → Option (List ℕ)) → (R → Option (List ℕ)) → (R → Option ℕ) → OpenInput R → Type 0
ReadsContent content octets position input = IsOpen (content (string_bytes input.name)) (octets input.reader) (position input.reader) input.place

-- each of the inputs does
abbrev pub AllOpen : {R : Type 0} → (List ℕ → Option (List ℕ)) → (R → Option (List ℕ)) → (R → Option ℕ) → List (OpenInput R) → Type 0
AllOpen content octets position inputs = All (ReadsContent content octets position) inputs

-- ---- what is asked of a system

-- a call that a reader met: it went to a place, or a read gave n octets
pub data Call : Type 0 where
  Went : ℕ → Call
  Gave : ℕ → Call

-- one call more was met, if the calls are known
abbrev pub with_call : Call → Option (List Call) → Option (List Call)
with_call call calls = option_map (λ met. met ++ call ∷ []) calls

-- one name more was opened, if the names are known
abbrev pub with_name : List ℕ → Option (List (List ℕ)) → Option (List (List ℕ))
with_name name names = option_map (λ opened. opened ++ name ∷ []) names

-- a reader went to a place, or failed and met no call
abbrev pub SeeksTo : {T E : Type 0} → ℕ → Option (List Call) → Option (List Call) → Result T E → Type 0
SeeksTo at old new result = MatchResult result (λ _. new ≡ with_call (Went at) old) (λ _. new ≡ old)

-- a reader gave octets, or failed and met no call
abbrev pub GivesOctets : {E : Type 0} → Option (List Call) → Option (List Call) → Result ℕ E → Type 0
GivesOctets old new result = MatchResult result (λ n. new ≡ with_call (Gave n) old) (λ _. new ≡ old)

-- where calls leave a reader that stood at this place
abbrev pub place_after : ℕ → List Call → ℕ
place_after at [] = at
place_after at (Went to ∷ calls) = place_after to calls
place_after at (Gave n ∷ calls) = place_after (at + n) calls

-- it goes to a place unless these calls left it there
abbrev pub way_to : ℕ → List Call → List Call
way_to at calls = if place_after 0 calls == at then [] else Went at ∷ []

-- the calls of a read from this place on, which gave n octets, after earlier calls
abbrev pub calls_of_read : ℕ → ℕ → List Call → List Call
calls_of_read at n calls = way_to at calls ++ Gave n ∷ []

-- if the calls are known, the place is the one where they left the reader, if a u64 holds it
abbrev pub StandsAfter : Option (List Call) → Option ℕ → Type 0
StandsAfter calls place = ForSome calls (λ met. ForSome place (λ at. at ≡ place_after 0 met) × (place ≡ None → 2 ^ 64 ≤ place_after 0 met))

-- so stands each of the inputs
abbrev pub AllStand : {R : Type 0} → (R → Option (List Call)) → List (OpenInput R) → Type 0
AllStand calls inputs = All (λ input. StandsAfter (calls input.reader) input.place) inputs

-- ---- open inputs

-- the input has this name
abbrev pub has_name : {R : Type 0} → List ℕ → OpenInput R → Bool
has_name name input = bytes_eq (string_bytes input.name) name

-- the first of the inputs that has this name, if there is one
abbrev pub open_under : {R : Type 0} → List ℕ → List (OpenInput R) → Option (OpenInput R)
open_under name inputs = find (has_name name) inputs

-- this name was opened once, and no other; if the call failed, maybe none
abbrev pub OpensName : {T E : Type 0} → List ℕ → Option (List (List ℕ)) → Option (List (List ℕ)) → Result T E → Type 0
OpensName name old new result = MatchResult result (λ _. new ≡ with_name name old) (λ _. (new ≡ old) ⊎ (new ≡ with_name name old))

-- a name that is open isn't opened again, nor is any other
abbrev pub OpensOnce : {R T E : Type 0} → Option (OpenInput R) → List ℕ → Option (List (List ℕ)) → Option (List (List ℕ)) → Result T E → Type 0
OpensOnce input name old new result = MatchOption input (OpensName name old new result) (λ _. new ≡ old)

-- the calls that the input met, none if it isn't open yet
abbrev pub calls_met : {R : Type 0} → (R → Option (List Call)) → Option (OpenInput R) → List Call
calls_met calls None = []
calls_met calls (Some input) = unwrap_or (calls input.reader) []

-- the input is open now, and if its reader's calls are known, it met those of the read, and no more
abbrev pub ReadsOnce : {R : Type 0} → (R → Option (List Call)) → Option (OpenInput R) → Option (OpenInput R) → ℕ → ℕ → Type 0
ReadsOnce calls old new at n = IsSomeAnd new (λ input. IfSome (calls input.reader) (λ met. met ≡ calls_met calls old ++ calls_of_read at n (calls_met calls old)))

-- the open inputs of other names are as they were, and what is open stays open
pub record KeepsOpen {R : Type 0} (name : List ℕ) (old new : List (OpenInput R)) : Type 0 where
  pub others : (other : List ℕ) → (other ≡ name → ⊥) → open_under other new ≡ open_under other old
  pub stays : IsSome (open_under name old) → IsSome (open_under name new)
