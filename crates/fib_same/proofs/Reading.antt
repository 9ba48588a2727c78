-- One text: the reads that are made of it, and what is due of it.
use Rattle.std.proofs.Common.{◌≡◌, ℕ, List, [], ◌∷◌, ◌++◌, Option, Result, Ok, Err, refl, sym, ap, subst, ◌∙◌, append-nil}
use Rattle.octet_fields.specs.Field.{◌>>=◌}
use Rattle.fib_io.specs.Reads.{Anywhere, AtEnd, AtFault, Makes, Pass, PassEnd, PastMost, Read}
use Rattle.fib_io.proofs.Passing.{ended_anywhere, makes_as}
use Rattle.fib_same.specs.declared.error.SameError.{SameError}
use Rattle.fib_same.specs.declared.error.SameError.TheVariants as error
use Rattle.fib_same.specs.Due.{TextRefusal, Refused, TextStop, Untold}
use Rattle.fib_same.specs.Gives.{RefusesDue, IsOfText}
use Rattle.fib_same.specs.Passes.{TextsRead, TextsReadInPart, TextsReadUpTo, ReadsOfTexts, StopsReadingTexts}

abbrev one : ℕ → List ℕ → List (ℕ × List ℕ)
one text name = (text, name) ∷ []

up_to_one : (text : ℕ) (end : PassEnd) (name : List ℕ) (reads : List Read) → Pass end name reads → TextsReadUpTo (one text name) text end reads
up_to_one text end name reads p = record { before = []; name = name; after = []; order = refl; first = []; whole = refl; last = reads; pass = p; all = refl }

part_one : (text : ℕ) (name : List ℕ) (reads : List Read) → Pass Anywhere name reads → TextsReadInPart (one text name) reads
part_one text name reads p = record { before = []; after = one text name; order = refl; first = []; whole = refl; last = reads; begun = p; all = refl }

-- it was read to its end
pub text_read : (before now : Option (List Read)) (text : ℕ) (name : List ℕ) → Makes before now (Pass AtEnd name) → Makes before now (TextsRead (one text name))
text_read before now text name made = makes_as before now (Pass AtEnd name) (TextsRead (one text name)) made (λ reads p. (reads, [], sym (append-nil reads), p, refl))

-- or it wasn't
pub text_fails : (before now : Option (List Read)) (text : ℕ) (name : List ℕ) → Makes before now (Pass AtFault name) → Makes before now (StopsReadingTexts (one text name) error.Fault)
text_fails before now text name made = makes_as before now (Pass AtFault name) (StopsReadingTexts (one text name) error.Fault) made (λ reads p. (text, up_to_one text AtFault name reads p))

pub text_large : (before now : Option (List Read)) (text : ℕ) (name : List ℕ) → Makes before now (Pass PastMost name) → Makes before now (StopsReadingTexts (one text name) (error.TooLarge text))
text_large before now text name made = makes_as before now (Pass PastMost name) (TextsReadUpTo (one text name) text PastMost) made (up_to_one text PastMost name)

pub text_begun : (before now : Option (List Read)) (text : ℕ) (name : List ℕ) → Makes before now (Pass Anywhere name) → Makes before now (StopsReadingTexts (one text name) error.NoMemory)
text_begun before now text name made = makes_as before now (Pass Anywhere name) (TextsReadInPart (one text name)) made (part_one text name)

-- ---- a text that was read to its end is judged

whole_pass : (text : ℕ) (name : List ℕ) (reads : List Read) → TextsRead (one text name) reads → Pass AtEnd name reads
whole_pass text name reads p = subst (Pass AtEnd name) (sym (p.2 ∙ ap (λ rest. p.0 ++ rest) p.4 ∙ append-nil p.0)) p.3

refused : (before now : Option (List Read)) (n text : ℕ) (name : List ℕ) → text ≡ n → Makes before now (TextsRead (one n name)) → Makes before now (TextsReadUpTo (one n name) text AtEnd)
refused before now n text name e made =
    makes_as before now (TextsRead (one n name)) (TextsReadUpTo (one n name) text AtEnd) made
    (λ reads p. subst (λ (k : ℕ). TextsReadUpTo (one n name) k AtEnd reads) (sym e) (up_to_one n AtEnd name reads (whole_pass n name reads p)))

pub judged_reads : {X : Type 0} (before now : Option (List Read)) (n : ℕ) (name : List ℕ) (r : Result X SameError) → IsOfText n r → Makes before now (TextsRead (one n name)) → Makes before now (ReadsOfTexts (one n name) r)
judged_reads before now n name (Ok x) j made = made
judged_reads before now n name (Err error.Fault) j made = absurd j
judged_reads before now n name (Err error.NoMemory) j made =
    makes_as before now (TextsRead (one n name)) (TextsReadInPart (one n name)) made (λ reads p. part_one n name reads (ended_anywhere name reads (whole_pass n name reads p)))
judged_reads before now n name (Err (error.TooLarge text)) j made = absurd j
judged_reads before now n name (Err (error.BadLine text line why)) j made = refused before now n text name j made
judged_reads before now n name (Err (error.Twice text prefix)) j made = refused before now n text name j made

-- ---- what is due

pub untold_fails : (Y : Type 0) (e : SameError) → RefusesDue {Y = Y} e (Err Untold)
untold_fails Y error.Fault = tt
untold_fails Y error.NoMemory = tt
untold_fails Y (error.TooLarge text) = tt
untold_fails Y (error.BadLine text line why) = tt
untold_fails Y (error.Twice text prefix) = tt

-- what was read is refused
fails_on : {A Y : Type 0} (e : SameError) (x : A) (due : Result Y TextStop) → RefusesDue e (let ok : Result A TextStop = Ok x in ok) → RefusesDue e due
fails_on error.Fault x due f = tt
fails_on error.NoMemory x due f = tt
fails_on (error.TooLarge text) x due f = absurd cc
fails_on (error.BadLine text line why) x due f = absurd cc
fails_on (error.Twice text prefix) x due f = absurd cc

same_refusal : (A Y : Type 0) (e : SameError) (r : TextRefusal) → RefusesDue e (let err : Result A TextStop = Err (Refused r) in err) → RefusesDue e (let err : Result Y TextStop = Err (Refused r) in err)
same_refusal A Y error.Fault r f = tt
same_refusal A Y error.NoMemory r f = tt
same_refusal A Y (error.TooLarge text) r f = cc
same_refusal A Y (error.BadLine text line why) r f = cc
same_refusal A Y (error.Twice text prefix) r f = cc

pub fails_then : {A Y : Type 0} (e : SameError) (d : Result A TextStop) (next : A → Result Y TextStop) → RefusesDue e d → RefusesDue e (d >>= next)
fails_then e (Err Untold) next f = untold_fails _ e
fails_then e (Err (Refused r)) next f = same_refusal _ _ e r f
fails_then e (Ok x) next f = fails_on e x (next x) f
