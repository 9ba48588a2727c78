-- The script of a run in steps: a step on each line that isn't empty.
use Rattle.std.specs.Prelude.{ℕ, ◌+◌, List, [], ◌∷◌, ◌++◌, codes, bytes_eq, Bool, Result, Ok, Err, ◌==◌, if◌then◌else◌}
use Rattle.std.specs.List.{slice_split}
use Rattle.octet_fields.specs.Field.{◌>>=◌}
use Rattle.table_model.specs.Address.{Address}
use Rattle.fib_addr.specs.Text.{number_below}
use Rattle.printed_text.specs.Reading.{address_field, bad_count, bad_number, bad_word, next_field, one_field, or_why}
use Rattle.printed_text.specs.Texts.{BadLine, line_texts}

-- A step: a lookup of an address is opened; the open lookup of this printed number goes on by one read; the next event is prepared; the
-- event that was begun makes its next store, is ended, or is cancelled.
pub data Step : Type 0 where
  opens : Address → Step
  goes : ℕ → Step
  prepares : Step
  stores : Step
  ends : Step
  cancels : Step

-- ---- a line

-- a space stands between two fields
abbrev pub is_space : ℕ → Bool
is_space b = b == 32

-- the printed number of a lookup
abbrev pub cursor_field : List ℕ → Result ℕ ℕ
cursor_field text = or_why bad_number (number_below 128 text)

-- a step that has no more fields
abbrev pub fieldless : Step → List (List ℕ) → Result Step ℕ
fieldless step [] = Ok step
fieldless step (x ∷ more) = Err bad_count

-- the step of this word and the fields after it, or why there is none: the word is judged first, then how many fields follow it
unfoldable pub step_of : List ℕ → List (List ℕ) → Result Step ℕ
step_of word fields =
    if bytes_eq word (codes "open") then (one_field fields >>= λ f. address_field f >>= λ a. Ok (opens a))
    else if bytes_eq word (codes "go") then (one_field fields >>= λ f. cursor_field f >>= λ n. Ok (goes n))
    else if bytes_eq word (codes "prepare") then fieldless prepares fields
    else if bytes_eq word (codes "store") then fieldless stores fields
    else if bytes_eq word (codes "end") then fieldless ends fields
    else if bytes_eq word (codes "cancel") then fieldless cancels fields
    else Err bad_word

-- the step of a line, or why it has none
unfoldable pub step_in : List ℕ → Result Step ℕ
step_in line = next_field (slice_split is_space line) >>= λ f. step_of f.0 f.1

-- ---- a script

-- the steps with one more, which a line of this number has
abbrev pub with_step : ℕ → List Step → Result Step ℕ → Result (List Step) BadLine
with_step n steps (Err why) = Err (record { line = n; why = why })
with_step n steps (Ok step) = Ok (steps ++ step ∷ [])

-- these steps and those of lines that are numbered from n, or the first bad line; an empty line has no step, and is counted
unfoldable pub steps_after : List Step → ℕ → List (List ℕ) → Result (List Step) BadLine
steps_after steps n [] = Ok steps
steps_after steps n ([] ∷ lines) = steps_after steps (n + 1) lines
steps_after steps n ((b ∷ line) ∷ lines) = with_step n steps (step_in (b ∷ line)) >>= λ more. steps_after more (n + 1) lines

-- the steps of a script, the first line being line 1
unfoldable pub script_in : List ℕ → Result (List Step) BadLine
script_in text = steps_after [] 1 (line_texts text)
