-- One text after another: what is due of those that are left, and which reads are made.
use Rattle.std.proofs.Common.{◌≡◌, ℕ, ◌+◌, ◌≤◌, ◌<◌, List, [], ◌∷◌, ◌++◌, Option, Result, Ok, Err, refl, sym, ap, subst, ◌∙◌, ◌⊎◌, inl, inr, length, map, drop, get_or, Bor, append-nil, append_assoc, length-append, arith}
use Rattle.std.specs.Prelude.{option_map}
use Rattle.std.proofs.lemmas.List.{drop_more}
use Rattle.std.proofs.Math.ListN.{drop_of_length-le}
use Rattle.octet_fields.specs.Field.{◌>>=◌}
use Rattle.table_model.specs.Address.{Address}
use Rattle.table_model.specs.Entries.{Entries}
use Rattle.fib_addr.specs.Hops.{Hops}
use Rattle.fib_io.specs.Reads.{Makes, PassEnd, Read}
use Rattle.fib_io.proofs.Passing.{makes_as, makes_none, makes_then, no_pass}
use Rattle.printed_text.specs.declared.kind.Kind.{Kind}
use Rattle.printed_text.specs.Kinds.{KindEntries}
use Rattle.cert_check.specs.Runs.{TellsBoth}
use Rattle.cert_check.specs.declared.table_runs.TableRuns.{TableRuns}
use Rattle.fib_same.specs.declared.compare.Found.{Found}
use Rattle.fib_same.specs.declared.error.SameError.{SameError}
use Rattle.fib_same.specs.declared.error.SameError.TheVariants as error
use Rattle.fib_same.specs.Due.{Refused, TextStop, Tables, Untold, text_at, texts_at, with_table}
use Rattle.fib_same.specs.Gives.{RefusesDue, MatchesIfTold, OneRose, ReadsNamedTexts, names_after, names_due}
use Rattle.fib_same.specs.Passes.{TextsRead, TextMayBegin, TextsReadInPart, TextsReadUpTo, StopsReadingTexts, numbered_texts}
use Rattle.cert_model.specs.Verdict.{not_same}
use Rattle.cert_check.specs.Views.{differ_as}
use Rattle.cert_check.specs.declared.alike.Differ.{Differ}
use Rattle.fib_same.specs.Texts.{lesser}
use Rattle.fib_same.specs.Views.{ComesFrom, Finds, IsOneOf, text_difference_as, found_at}
use Rattle.fib_same.proofs.Finding.{finds_more}
use Rattle.fib_same.proofs.Reading.{fails_then, untold_fails}

abbrev pub Content : Type 0
Content = List ℕ → Option (List ℕ)

-- the tables of texts that are done, and then those of others
abbrev pub joined : List Entries → Result Tables TextStop → Result Tables TextStop
joined done r = r >>= λ more. Ok (record { tables = done ++ more.tables; hops = more.hops })

-- a count that rose of the one names is one of the others
abbrev pub Among : List (List ℕ) → List (List ℕ) → Type 0
Among some all = (before now : List ℕ → ℕ) → OneRose some before now → OneRose all before now

-- What is due of all texts is told by those that are left; or it isn't told, since a text that is done isn't.
abbrev pub Goes : Content → Kind → Result Tables TextStop → List (List ℕ) → List Entries → List Address → ℕ → List (List ℕ) → Type 0
Goes content kind due names done hops n left =
    ((due ≡ Err Untold) × Among left names) ⊎ ((due ≡ joined done (texts_at content kind hops n left)) × Among (names_due content kind hops n left) names)

joined_none : (r : Result Tables TextStop) → r ≡ joined [] r
joined_none (Ok t) = refl
joined_none (Err e) = refl

pub goes_at_first : (content : Content) (kind : Kind) (hops : List Address) (names : List (List ℕ)) → Goes content kind (texts_at content kind hops 2 names) (names_due content kind hops 2 names) [] hops 2 names
goes_at_first content kind hops names = inr (joined_none _, λ before now rose. rose)

joined_more : (done : List Entries) (table : Entries) (r : Result Tables TextStop) → joined done (r >>= λ more. Ok (with_table table more)) ≡ joined (done ++ table ∷ []) r
joined_more done table (Ok more) = ap (λ (ts : List Entries). let t : Tables = record { tables = ts; hops = more.hops } in let r : Result Tables TextStop = Ok t in r) (sym (append_assoc done (table ∷ []) more.tables))
joined_more done table (Err e) = refl

-- a text more
pub goes_on : (content : Content) (kind : Kind) (due : Result Tables TextStop) (names : List (List ℕ)) (done : List Entries) (hops : List Address) (n : ℕ) (name : List ℕ) (left : List (List ℕ)) (read : KindEntries)
    → MatchesIfTold (text_at content kind hops n name) (Ok read) → Goes content kind due names done hops n (name ∷ left) → Goes content kind due names (done ++ read.entries ∷ []) read.hops (n + 1) left
goes_on content kind due names done hops n name left read text (inl untold) = inl (untold.0, λ before now rose. untold.1 before now (inr rose))
goes_on content kind due names done hops n name left read text (inr told) = by_text (text_at content kind hops n name) text told.0 told.1
  where
    rest : KindEntries → Result Tables TextStop
    rest r = texts_at content kind r.hops (n + 1) left >>= λ more. Ok (with_table r.entries more)

    later : KindEntries → List (List ℕ)
    later r = names_due content kind r.hops (n + 1) left

    by_text : (t : Result KindEntries TextStop) → MatchesIfTold t (Ok read) → due ≡ joined done (t >>= rest) → Among (name ∷ names_after t left later) names → Goes content kind due names (done ++ read.entries ∷ []) read.hops (n + 1) left
    by_text (Err Untold) i e among = inl (e, λ before now rose. among before now (inr rose))
    by_text (Err (Refused r)) i e among = absurd cc
    by_text (Ok r) i e among =
        let same : r ≡ read = cc in
        inr (
          e ∙ (ap (λ (x : KindEntries). joined done (rest x)) same ∙ joined_more done read.entries (texts_at content kind read.hops (n + 1) left)),
          subst (λ (x : KindEntries). Among (later x) names) same (λ before now rose. among before now (inr rose)),
        )

-- no text is left
pub goes_to_end : (content : Content) (kind : Kind) (due : Result Tables TextStop) (names : List (List ℕ)) (done : List Entries) (hops : List Address) (n : ℕ) → Goes content kind due names done hops n [] → MatchesIfTold due (Ok (record { tables = done; hops = hops }))
goes_to_end content kind due names done hops n (inl untold) = subst (λ d. MatchesIfTold d (Ok (record { tables = done; hops = hops }))) (sym untold.0) tt
goes_to_end content kind due names done hops n (inr told) =
    let all : Result Tables TextStop = Ok (record { tables = done; hops = hops }) in
    subst (λ d. MatchesIfTold d all) (sym (told.0 ∙ ap (λ (ts : List Entries). let t : Tables = record { tables = ts; hops = hops } in let r : Result Tables TextStop = Ok t in r) (append-nil done))) refl

-- a text is refused
pub goes_no_further : (content : Content) (kind : Kind) (due : Result Tables TextStop) (names : List (List ℕ)) (done : List Entries) (hops : List Address) (n : ℕ) (name : List ℕ) (left : List (List ℕ)) (e : SameError)
    → RefusesDue e (text_at content kind hops n name) → Goes content kind due names done hops n (name ∷ left) → RefusesDue e due
goes_no_further content kind due names done hops n name left e fails (inl untold) = subst (RefusesDue e) (sym untold.0) (untold_fails _ e)
goes_no_further content kind due names done hops n name left e fails (inr told) =
    subst (RefusesDue e) (sym told.0)
    (fails_then e (texts_at content kind hops n (name ∷ left)) (λ more. Ok (record { tables = done ++ more.tables; hops = more.hops }))
    (fails_then e (text_at content kind hops n name) (λ read. texts_at content kind read.hops (n + 1) left >>= λ more. Ok (with_table read.entries more)) fails))

among_first : (content : Content) (kind : Kind) (due : Result Tables TextStop) (names : List (List ℕ)) (done : List Entries) (hops : List Address) (n : ℕ) (name : List ℕ) (left : List (List ℕ))
    → Goes content kind due names done hops n (name ∷ left) → Among (name ∷ []) names
among_first content kind due names done hops n name left (inl untold) before now (inl rose) = untold.1 before now (inl rose)
among_first content kind due names done hops n name left (inl untold) before now (inr none) = absurd none
among_first content kind due names done hops n name left (inr told) before now (inl rose) = told.1 before now (inl rose)
among_first content kind due names done hops n name left (inr told) before now (inr none) = absurd none

-- a fault is one of the names that are due to be read
pub cause_goes : (X Y : Type 0) (content : Content) (kind : Kind) (due : Result Tables TextStop) (names : List (List ℕ)) (done : List Entries) (hops : List Address) (n : ℕ) (name : List ℕ) (left : List (List ℕ)) (before now : List ℕ → ℕ) (e : SameError)
    → Goes content kind due names done hops n (name ∷ left) → ReadsNamedTexts {X = X} (name ∷ []) before now (Err e) → ReadsNamedTexts {X = Y} names before now (Err e)
cause_goes X Y content kind due names done hops n name left before now error.Fault goes cause = among_first content kind due names done hops n name left goes before now cause
cause_goes X Y content kind due names done hops n name left before now error.NoMemory goes cause = cause
cause_goes X Y content kind due names done hops n name left before now (error.TooLarge text) goes cause = cause
cause_goes X Y content kind due names done hops n name left before now (error.BadLine text line why) goes cause = cause
cause_goes X Y content kind due names done hops n name left before now (error.Twice text prefix) goes cause = cause

-- ---- reads

abbrev pub Inputs : Type 0
Inputs = List (ℕ × List ℕ)

-- the texts before those that are left are read, each to its end
pub record FrontRead (all left : Inputs) (reads : List Read) : Type 0 where
  pub front : Inputs
  pub order : all ≡ front ++ left
  pub whole : TextsRead front reads

pub all_both : (xs ys : Inputs) (first next : List Read) → TextsRead xs first → TextsRead ys next → TextsRead (xs ++ ys) (first ++ next)
all_both [] ys first next p q = subst (λ reads. TextsRead ys (reads ++ next)) (sym p) q
all_both (x ∷ xs) ys first next p q = (p.0, p.1 ++ next, ap (λ reads. reads ++ next) p.2 ∙ append_assoc p.0 p.1 next, p.3, all_both xs ys p.1 next p.4 q)

pub front_none : (all : Inputs) (now : Option (List Read)) → Makes now now (FrontRead all all)
front_none all now = makes_none now (FrontRead all all) (record { front = []; order = refl; whole = refl })

pub front_more : (all left : Inputs) (input : ℕ × List ℕ) (before between now : Option (List Read)) → Makes before between (FrontRead all (input ∷ left)) → Makes between now (TextsRead (input ∷ [])) → Makes before now (FrontRead all left)
front_more all left input before between now first next =
    makes_then before between now (FrontRead all (input ∷ left)) (TextsRead (input ∷ [])) (FrontRead all left) first next
    (λ xs ys p q. record { front = p.front ++ input ∷ []; order = p.order ∙ sym (append_assoc p.front (input ∷ []) left); whole = all_both p.front (input ∷ []) xs ys p.whole q })

pub front_all : (all : Inputs) (before now : Option (List Read)) → Makes before now (FrontRead all []) → Makes before now (TextsRead all)
front_all all before now made = makes_as before now (FrontRead all []) (TextsRead all) made (λ reads p. subst (λ (xs : Inputs). TextsRead xs reads) (sym (p.order ∙ append-nil p.front)) p.whole)

begun_none : (left : Inputs) → TextMayBegin left []
begun_none [] = refl
begun_none (input ∷ left) = no_pass input.1

-- memory runs out between two texts
pub front_stops : (all left : Inputs) (before now : Option (List Read)) → Makes before now (FrontRead all left) → Makes before now (StopsReadingTexts all error.NoMemory)
front_stops all left before now made =
    makes_as before now (FrontRead all left) (TextsReadInPart all) made
    (λ reads p. record { before = p.front; after = left; order = p.order; first = reads; whole = p.whole; last = []; begun = begun_none left; all = sym (append-nil reads) })

up_to_later : (all left : Inputs) (input : ℕ × List ℕ) (text : ℕ) (end : PassEnd) (first next : List Read) → FrontRead all (input ∷ left) first → TextsReadUpTo (input ∷ []) text end next → TextsReadUpTo all text end (first ++ next)
up_to_later all left input text end first next p q = record {
  before = p.front ++ q.before;
  name = q.name;
  after = q.after ++ left;
  order = p.order ∙ (ap (λ inputs. p.front ++ (inputs ++ left)) q.order ∙ (ap (λ inputs. p.front ++ inputs) (append_assoc q.before ((text, q.name) ∷ q.after) left) ∙ sym (append_assoc p.front q.before ((text, q.name) ∷ (q.after ++ left)))));
  first = first ++ q.first;
  whole = all_both p.front q.before first q.first p.whole q.whole;
  last = q.last;
  pass = q.pass;
  all = ap (λ reads. first ++ reads) q.all ∙ sym (append_assoc first q.first q.last);
}

begun_sooner : (xs ys : Inputs) (reads : List Read) → TextMayBegin xs reads → TextMayBegin (xs ++ ys) reads
begun_sooner [] ys reads p = subst (TextMayBegin ys) (sym p) (begun_none ys)
begun_sooner (x ∷ xs) ys reads p = p

part_later : (all left : Inputs) (input : ℕ × List ℕ) (first next : List Read) → FrontRead all (input ∷ left) first → TextsReadInPart (input ∷ []) next → TextsReadInPart all (first ++ next)
part_later all left input first next p q = record {
  before = p.front ++ q.before;
  after = q.after ++ left;
  order = p.order ∙ (ap (λ inputs. p.front ++ (inputs ++ left)) q.order ∙ (ap (λ inputs. p.front ++ inputs) (append_assoc q.before q.after left) ∙ sym (append_assoc p.front q.before (q.after ++ left))));
  first = first ++ q.first;
  whole = all_both p.front q.before first q.first p.whole q.whole;
  last = q.last;
  begun = begun_sooner q.after left q.last q.begun;
  all = ap (λ reads. first ++ reads) q.all ∙ sym (append_assoc first q.first q.last);
}

stops_later : (all left : Inputs) (input : ℕ × List ℕ) (e : SameError) (first next : List Read) → FrontRead all (input ∷ left) first → StopsReadingTexts (input ∷ []) e next → StopsReadingTexts all e (first ++ next)
stops_later all left input error.Fault first next p q = (q.0, up_to_later all left input q.0 _ first next p q.1)
stops_later all left input error.NoMemory first next p q = part_later all left input first next p q
stops_later all left input (error.TooLarge text) first next p q = up_to_later all left input text _ first next p q
stops_later all left input (error.BadLine text line why) first next p q = up_to_later all left input text _ first next p q
stops_later all left input (error.Twice text prefix) first next p q = up_to_later all left input text _ first next p q

-- a text is refused
pub front_refused : (all left : Inputs) (input : ℕ × List ℕ) (e : SameError) (before between now : Option (List Read)) → Makes before between (FrontRead all (input ∷ left)) → Makes between now (StopsReadingTexts (input ∷ []) e) → Makes before now (StopsReadingTexts all e)
front_refused all left input e before between now first next =
    makes_then before between now (FrontRead all (input ∷ left)) (StopsReadingTexts (input ∷ []) e) (StopsReadingTexts all e) first next (λ xs ys p q. stops_later all left input e xs ys p q)

-- ---- between two texts

-- How far the texts of these names are compared: place are done, and the others are left.
pub record Going (content : Content) (kind : Kind) (before : List Address) (names : List (List ℕ)) (runs : TableRuns) (hops : List Address) (place : ℕ) (left : List (List ℕ)) (best : Option Found) : Type 0 where
  pub done : List Entries
  pub goes : Goes content kind (texts_at content kind before 2 names) (names_due content kind before 2 names) done hops (place + 2) left
  pub number : place ≡ length done
  pub found : (first : Entries) → TellsBoth first runs → Finds first done best
  pub few : place + length left ≡ length names

pub going_ends : (content : Content) (kind : Kind) (before : Hops) (after : Hops) (names : List (List ℕ)) (runs : TableRuns) (place : ℕ) (best : Option Found) → Going content kind before.list names runs after.list place [] best → ComesFrom content kind before after names runs best
going_ends content kind before after names runs place best g = (record { tables = g.done; hops = after.list }, goes_to_end content kind _ _ g.done after.list (place + 2) g.goes, refl, g.found)

pub going_on : (content : Content) (kind : Kind) (before : List Address) (names : List (List ℕ)) (runs : TableRuns) (hops : List Address) (place : ℕ) (left later : List (List ℕ)) (name : List ℕ) (best result : Option Found) (read : KindEntries) (d : Option Differ)
    → left ≡ name ∷ later → MatchesIfTold (text_at content kind hops (place + 2) name) (Ok read) → ((first : Entries) → TellsBoth first runs → option_map differ_as d ≡ not_same first read.entries)
    → option_map text_difference_as result ≡ lesser (option_map text_difference_as best) (option_map text_difference_as (found_at place d)) → IsOneOf result best (found_at place d)
    → Going content kind before names runs hops place left best → Going content kind before names runs read.hops (place + 1) later result
going_on content kind before names runs hops place left later name best result read d e text differs least one g =
    let goes = subst (Goes content kind (texts_at content kind before 2 names) (names_due content kind before 2 names) g.done hops (place + 2)) e g.goes in
    let next = goes_on content kind _ _ g.done hops (place + 2) name later read text goes in
    record {
      done = g.done ++ read.entries ∷ [];
      goes = subst (λ (n : ℕ). Goes content kind (texts_at content kind before 2 names) (names_due content kind before 2 names) (g.done ++ read.entries ∷ []) read.hops n later) (omega arith) next;
      number = omega (arith, g.number, length-append g.done (read.entries ∷ []));
      found = λ first tells. finds_more first g.done read.entries best result place d g.number (g.found first tells) (differs first tells) least one;
      few = omega (arith, g.few, ap length e);
    }

-- ---- the names of a slice

abbrev pub texts : List (Bor (List ℕ)) → List (List ℕ)
texts names = map (λ name. name.now) names

-- what stands in a slice past its end
abbrev pub no_name : Bor (List ℕ)
no_name = record { ref_ptr = (0, 0); now = [] }

pub opened : (names : List (Bor (List ℕ))) (i : ℕ) (d : Bor (List ℕ)) → i < length names → texts (drop i names) ≡ (get_or names i d).now ∷ texts (drop (i + 1) names)
opened names i d l = ap texts (drop_more names i d l)

pub none_left : (names : List (Bor (List ℕ))) (i : ℕ) → length names ≤ i → texts (drop i names) ≡ []
none_left names i l = ap texts (drop_of_length-le names l)

abbrev Left : List (Bor (List ℕ)) → ℕ → ℕ → List Read → Type 0
Left names place i reads = FrontRead (numbered_texts 2 (texts names)) (numbered_texts (place + 2) (texts (drop i names))) reads

front_open : (names : List (Bor (List ℕ))) (place i : ℕ) (d : Bor (List ℕ)) (before now : Option (List Read)) → i < length names → Makes before now (Left names place i)
    → Makes before now (FrontRead (numbered_texts 2 (texts names)) ((place + 2, (get_or names i d).now) ∷ numbered_texts (place + 2 + 1) (texts (drop (i + 1) names))))
front_open names place i d before now l made = subst (λ (ns : List (List ℕ)). Makes before now (FrontRead (numbered_texts 2 (texts names)) (numbered_texts (place + 2) ns))) (opened names i d l) made

pub next_refused : (names : List (Bor (List ℕ))) (place i : ℕ) (d : Bor (List ℕ)) (e : SameError) (before between now : Option (List Read)) → i < length names → Makes before between (Left names place i)
    → Makes between now (StopsReadingTexts ((place + 2, (get_or names i d).now) ∷ []) e) → Makes before now (StopsReadingTexts (numbered_texts 2 (texts names)) e)
next_refused names place i d e before between now l first next = front_refused (numbered_texts 2 (texts names)) _ _ e before between now (front_open names place i d before between l first) next

pub next_read : (names : List (Bor (List ℕ))) (place i : ℕ) (d : Bor (List ℕ)) (before between now : Option (List Read)) → i < length names → Makes before between (Left names place i)
    → Makes between now (TextsRead ((place + 2, (get_or names i d).now) ∷ [])) → Makes before now (Left names (place + 1) (i + 1))
next_read names place i d before between now l first next =
    let n : place + 2 + 1 ≡ place + 1 + 2 = omega arith in
    subst (λ (k : ℕ). Makes before now (FrontRead (numbered_texts 2 (texts names)) (numbered_texts k (texts (drop (i + 1) names))))) n
    (front_more (numbered_texts 2 (texts names)) _ _ before between now (front_open names place i d before between l first) next)
