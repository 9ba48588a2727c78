-- The numbers that a script's steps have.
use Rattle.std.proofs.Common.{◌≡◌, ℕ, ◌+◌, List, [], ◌∷◌, ◌++◌, Bool, true, false, Option, Some, None, Result, Ok, Err, refl, subst}
use Rattle.std.specs.Prelude.{if◌then◌else◌, codes, bytes_eq}
use Rattle.std.specs.List.{slice_split}
use Rattle.octet_fields.specs.Field.{◌>>=◌}
use Rattle.table_model.specs.Address.{Address}
use Rattle.fib_addr.specs.Text.{number_below}
use Rattle.fib_addr.proofs.Numbers.{number_is}
use Rattle.printed_text.specs.Reading.{address_field, bad_number, next_field, one_field, or_why}
use Rattle.printed_text.specs.Texts.{BadLine, line_texts}
use Rattle.step_script.specs.Script.{Step, opens, goes, prepares, stores, ends, cancels, fieldless, cursor_field, is_space, step_of, step_in, steps_after, script_in, with_step}
use Rattle.router_steps.specs.Runs.{IsPrinted, ArePrinted}

-- the step of a line, if it has one, has a number below 128
abbrev Fine : Result Step ℕ → Type 0
Fine (Ok step) = IsPrinted step
Fine (Err why) = Unit {0}

abbrev as_step : Step → Result Step ℕ
as_step step = Ok step

bare_fine : (step : Step) → IsPrinted step → (fields : List (List ℕ)) → Fine (fieldless step fields)
bare_fine step p [] = p
bare_fine step p (x ∷ more) = tt

opens_fine : (r : Result Address ℕ) → Fine (r >>= λ a. as_step (opens a))
opens_fine (Ok a) = tt
opens_fine (Err why) = tt

open_fine : (r : Result (List ℕ) ℕ) → Fine (r >>= λ f. address_field f >>= λ a. as_step (opens a))
open_fine (Ok f) = opens_fine (address_field f)
open_fine (Err why) = tt

goes_fine : (text : List ℕ) (o : Option ℕ) → number_below 128 text ≡ o → Fine (or_why bad_number o >>= λ n. as_step (goes n))
goes_fine text (Some n) e = (number_is 128 text n e).1
goes_fine text None e = tt

go_fine : (r : Result (List ℕ) ℕ) → Fine (r >>= λ f. cursor_field f >>= λ n. as_step (goes n))
go_fine (Ok f) = goes_fine f (number_below 128 f) refl
go_fine (Err why) = tt

by_word : (b : Bool) (x y : Result Step ℕ) → Fine x → Fine y → Fine (if b then x else y)
by_word true x y p q = p
by_word false x y p q = q

word_fine : (word : List ℕ) (fields : List (List ℕ)) → Fine (step_of word fields)
unfolding step_of
word_fine word fields =
    by_word (bytes_eq word (codes "open")) _ _ (open_fine (one_field fields))
    (by_word (bytes_eq word (codes "go")) _ _ (go_fine (one_field fields))
    (by_word (bytes_eq word (codes "prepare")) _ _ (bare_fine prepares tt fields)
    (by_word (bytes_eq word (codes "store")) _ _ (bare_fine stores tt fields)
    (by_word (bytes_eq word (codes "end")) _ _ (bare_fine ends tt fields)
    (by_word (bytes_eq word (codes "cancel")) _ _ (bare_fine cancels tt fields) tt)))))

line_fine : (line : List ℕ) → Fine (step_in line)
unfolding step_in
line_fine line = by_fields (next_field (slice_split is_space line))
  where
    by_fields : (r : Result (List ℕ × List (List ℕ)) ℕ) → Fine (r >>= λ f. step_of f.0 f.1)
    by_fields (Ok f) = word_fine f.0 f.1
    by_fields (Err why) = tt

-- so have all steps of a script
abbrev AllFine : Result (List Step) BadLine → Type 0
AllFine (Ok steps) = ArePrinted steps
AllFine (Err bad) = Unit {0}

more_fine : (steps : List Step) (step : Step) → ArePrinted steps → IsPrinted step → ArePrinted (steps ++ step ∷ [])
more_fine [] step a p = (p, tt)
more_fine (x ∷ steps) step a p = (a.0, more_fine steps step a.1 p)

steps_fine : (steps : List Step) (n : ℕ) (lines : List (List ℕ)) → ArePrinted steps → AllFine (steps_after steps n lines)
unfolding steps_after
steps_fine steps n [] a = a
steps_fine steps n ([] ∷ lines) a = steps_fine steps (n + 1) lines a
steps_fine steps n ((b ∷ line) ∷ lines) a = by_line (step_in (b ∷ line)) (line_fine (b ∷ line)) (λ more p. steps_fine more (n + 1) lines p)
  where
    by_line : (r : Result Step ℕ) → Fine r → ((more : List Step) → ArePrinted more → AllFine (steps_after more (n + 1) lines)) → AllFine (with_step n steps r >>= λ more. steps_after more (n + 1) lines)
    by_line (Ok step) p next = next (steps ++ step ∷ []) (more_fine steps step a p)
    by_line (Err why) p next = tt

pub script_printed : (text : List ℕ) (steps : List Step) → script_in text ≡ Ok steps → ArePrinted steps
unfolding script_in
script_printed text steps e = subst AllFine e (steps_fine [] 1 (line_texts text) tt)
