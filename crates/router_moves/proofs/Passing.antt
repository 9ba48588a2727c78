-- The reads of two or three texts.
use Rattle.std.proofs.Common.{ℕ, List, [], ◌∷◌, ◌++◌, Option, refl, sym, ap, subst, ◌∙◌, append-nil, append_assoc}
use Rattle.fib_io.specs.Reads.{Makes, PassEnd, Read}
use Rattle.fib_io.proofs.Passing.{makes_as, no_pass}
use Rattle.fib_same.specs.declared.error.SameError.{SameError}
use Rattle.fib_same.specs.declared.error.SameError.TheVariants as error
use Rattle.fib_same.specs.Passes.{TextsRead, TextMayBegin, TextsReadInPart, TextsReadUpTo, StopsReadingTexts, numbered_texts}
use Rattle.fib_same.proofs.Going.{FrontRead, Inputs, front_all, front_more, front_refused, front_stops}

-- memory runs out once all are read
pub read_stops : (all : Inputs) (before now : Option (List Read)) → Makes before now (TextsRead all) → Makes before now (StopsReadingTexts all error.NoMemory)
read_stops all before now made = front_stops all [] before now (makes_as before now (TextsRead all) (FrontRead all []) made (λ reads p. record { front = all; order = sym (append-nil all); whole = p }))

-- ---- inputs that stand before others

begun_none : (left : Inputs) → TextMayBegin left []
begun_none [] = refl
begun_none (input ∷ left) = no_pass input.1

begun_sooner : (xs ys : Inputs) (reads : List Read) → TextMayBegin xs reads → TextMayBegin (xs ++ ys) reads
begun_sooner [] ys reads p = subst (TextMayBegin ys) (sym p) (begun_none ys)
begun_sooner (x ∷ xs) ys reads p = p

up_to_sooner : (xs ys : Inputs) (text : ℕ) (end : PassEnd) (reads : List Read) → TextsReadUpTo xs text end reads → TextsReadUpTo (xs ++ ys) text end reads
up_to_sooner xs ys text end reads p = record {
  before = p.before;
  name = p.name;
  after = p.after ++ ys;
  order = ap (λ inputs. inputs ++ ys) p.order ∙ append_assoc p.before ((text, p.name) ∷ p.after) ys;
  first = p.first;
  whole = p.whole;
  last = p.last;
  pass = p.pass;
  all = p.all;
}

part_sooner : (xs ys : Inputs) (reads : List Read) → TextsReadInPart xs reads → TextsReadInPart (xs ++ ys) reads
part_sooner xs ys reads p = record {
  before = p.before;
  after = p.after ++ ys;
  order = ap (λ inputs. inputs ++ ys) p.order ∙ append_assoc p.before p.after ys;
  first = p.first;
  whole = p.whole;
  last = p.last;
  begun = begun_sooner p.after ys p.last p.begun;
  all = p.all;
}

stops_sooner : (xs ys : Inputs) (e : SameError) (reads : List Read) → StopsReadingTexts xs e reads → StopsReadingTexts (xs ++ ys) e reads
stops_sooner xs ys error.Fault reads p = (p.0, up_to_sooner xs ys p.0 _ reads p.1)
stops_sooner xs ys error.NoMemory reads p = part_sooner xs ys reads p
stops_sooner xs ys (error.TooLarge text) reads p = up_to_sooner xs ys text _ reads p
stops_sooner xs ys (error.BadLine text line why) reads p = up_to_sooner xs ys text _ reads p
stops_sooner xs ys (error.Twice text prefix) reads p = up_to_sooner xs ys text _ reads p

-- ---- two texts and a third

module _ (router printed moves : List ℕ) where
  abbrev two : Inputs
  two = numbered_texts 1 (router ∷ printed ∷ [])

  abbrev three : Inputs
  three = numbered_texts 1 (router ∷ printed ∷ moves ∷ [])

  abbrev last : Inputs
  last = (3, moves) ∷ []

  after_two : (before now : Option (List Read)) → Makes before now (TextsRead two) → Makes before now (FrontRead three last)
  after_two before now made = makes_as before now (TextsRead two) (FrontRead three last) made (λ reads p. record { front = two; order = refl; whole = p })

  -- one of the two is refused
  pub two_stop : (e : SameError) (before now : Option (List Read)) → Makes before now (StopsReadingTexts two e) → Makes before now (StopsReadingTexts three e)
  two_stop e before now made = makes_as before now (StopsReadingTexts two e) (StopsReadingTexts three e) made (λ reads p. stops_sooner two last e reads p)

  -- or the third
  pub third_stops : (e : SameError) (before between now : Option (List Read)) → Makes before between (TextsRead two) → Makes between now (StopsReadingTexts last e) → Makes before now (StopsReadingTexts three e)
  third_stops e before between now one made = front_refused three [] (3, moves) e before between now (after_two before between one) made

  pub three_read : (before between now : Option (List Read)) → Makes before between (TextsRead two) → Makes between now (TextsRead last) → Makes before now (TextsRead three)
  three_read before between now one made = front_all three before now (front_more three [] (3, moves) before between now (after_two before between one) made)
