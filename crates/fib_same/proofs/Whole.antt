-- The first text and the others.
use Rattle.std.proofs.Common.{◌≡◌, ℕ, ◌+◌, List, [], ◌∷◌, ◌++◌, Option, Some, None, Result, Ok, Err, sym, ap, subst, ◌∙◌, inl, inr, append_assoc}
use Rattle.std.specs.Prelude.{option_map}
use Rattle.std.specs.List.{slice_get}
use Rattle.std.specs.Option.{option_and_then}
use Rattle.octet_fields.specs.Field.{◌>>=◌}
use Rattle.table_model.specs.Address.{Address}
use Rattle.table_model.specs.Entries.{Entries, match_in}
use Rattle.fib_addr.specs.Hops.{Hops, hop_at}
use Rattle.fib_addr.specs.Views.{addr_as}
use Rattle.fib_io.specs.Reads.{Makes, PassEnd, Read}
use Rattle.fib_io.proofs.Passing.{makes_then}
use Rattle.printed_text.specs.declared.kind.Kind.{Kind}
use Rattle.printed_text.specs.Kinds.{KindEntries}
use Rattle.cert_check.specs.Runs.{TellsBoth}
use Rattle.cert_check.specs.declared.table_runs.TableRuns.{TableRuns}
use Rattle.fib_same.proofs.Found.{all_found}
use Rattle.fib_same.specs.declared.compare.Difference.{Difference}
use Rattle.fib_same.specs.declared.compare.Found.{Found}
use Rattle.fib_same.specs.declared.error.SameError.{SameError}
use Rattle.fib_same.specs.declared.error.SameError.TheVariants as error
use Rattle.fib_same.specs.Due.{Compared, Refused, TextStop, Tables, TextDifference, Untold, answer_at, answer_of, hop_from, same_at, text_at, texts_at, told_difference}
use Rattle.fib_same.specs.Gives.{RefusesDue, MatchesIfTold, OneRose, ReadsNamedTexts, names_after, names_at, names_due}
use Rattle.fib_same.specs.Passes.{TextsRead, TextsReadInPart, TextsReadUpTo, StopsReadingTexts, numbered_texts}
use Rattle.fib_same.specs.Views.{ComesFrom, EndsCompared, Finds, difference_as, found_of}
use Rattle.fib_same.proofs.Going.{Among, Content, FrontRead, Inputs, all_both, front_more, front_none, front_refused, front_stops}
use Rattle.fib_same.proofs.Reading.{fails_then, untold_fails}

abbrev compared : KindEntries → Tables → Compared
compared read more = record { first = read.entries; others = more.tables; hops = more.hops }

-- ---- what is due of all texts

same_told : (content : Content) (kind : Kind) (first : List ℕ) (rest : List (List ℕ)) (read : KindEntries) (t : Tables) → MatchesIfTold (text_at content kind [] 1 first) (Ok read) → MatchesIfTold (texts_at content kind read.hops 2 rest) (Ok t)
    → MatchesIfTold (same_at content kind first rest) (Ok (compared read t))
unfolding same_at
same_told content kind first rest read t one others = by_first (text_at content kind [] 1 first) one
  where
    by_others : (d : Result Tables TextStop) → MatchesIfTold d (Ok t) → MatchesIfTold (d >>= λ more. Ok (compared read more)) (Ok (compared read t))
    by_others (Err Untold) i = tt
    by_others (Err (Refused r)) i = absurd cc
    by_others (Ok more) i = ap (λ (m : Tables). let ok : Result Compared TextStop = Ok (compared read m) in ok) (let same : more ≡ t = cc in same)

    by_first : (d : Result KindEntries TextStop) → MatchesIfTold d (Ok read) → MatchesIfTold (d >>= λ x. texts_at content kind x.hops 2 rest >>= λ more. Ok (compared x more)) (Ok (compared read t))
    by_first (Err Untold) i = tt
    by_first (Err (Refused r)) i = absurd cc
    by_first (Ok x) i =
        let same : x ≡ read = cc in
        subst (λ (y : KindEntries). MatchesIfTold (texts_at content kind y.hops 2 rest >>= λ more. Ok (compared y more)) (Ok (compared read t))) (sym same) (by_others (texts_at content kind read.hops 2 rest) others)

answer_told : (content : Content) (kind : Kind) (first : List ℕ) (rest : List (List ℕ)) (t : Compared) (answer : Option TextDifference) → MatchesIfTold (same_at content kind first rest) (Ok t) → answer ≡ answer_of t → MatchesIfTold (answer_at content kind first rest) (Ok answer)
answer_told content kind first rest t answer told is = by_due (same_at content kind first rest) told
  where
    by_due : (d : Result Compared TextStop) → MatchesIfTold d (Ok t) → MatchesIfTold (d >>= λ x. Ok (answer_of x)) (Ok answer)
    by_due (Err Untold) i = tt
    by_due (Err (Refused r)) i = absurd cc
    by_due (Ok x) i = ap (λ (y : Compared). let ok : Result (Option TextDifference) TextStop = Ok (answer_of y) in ok) (let same : x ≡ t = cc in same) ∙ ap (λ (a : Option TextDifference). let ok : Result (Option TextDifference) TextStop = Ok a in ok) (sym is)

pub first_fails : (content : Content) (kind : Kind) (first : List ℕ) (rest : List (List ℕ)) (e : SameError) → RefusesDue e (text_at content kind [] 1 first) → RefusesDue e (answer_at content kind first rest)
unfolding same_at
first_fails content kind first rest e f =
    fails_then e (same_at content kind first rest) (λ x. Ok (answer_of x)) (fails_then e (text_at content kind [] 1 first) (λ x. texts_at content kind x.hops 2 rest >>= λ more. Ok (compared x more)) f)

pub others_fail : (content : Content) (kind : Kind) (first : List ℕ) (rest : List (List ℕ)) (read : KindEntries) (e : SameError) → MatchesIfTold (text_at content kind [] 1 first) (Ok read) → RefusesDue e (texts_at content kind read.hops 2 rest)
    → RefusesDue e (answer_at content kind first rest)
unfolding same_at
others_fail content kind first rest read e one f =
    fails_then e (same_at content kind first rest) (λ x. Ok (answer_of x)) (by_first (text_at content kind [] 1 first) one)
  where
    by_first : (d : Result KindEntries TextStop) → MatchesIfTold d (Ok read) → RefusesDue e (d >>= λ x. texts_at content kind x.hops 2 rest >>= λ more. Ok (compared x more))
    by_first (Err Untold) i = untold_fails _ e
    by_first (Err (Refused r)) i = absurd cc
    by_first (Ok x) i =
        let same : x ≡ read = cc in
        subst (λ (y : KindEntries). RefusesDue e (texts_at content kind y.hops 2 rest >>= λ more. Ok (compared y more))) (sym same) (fails_then e (texts_at content kind read.hops 2 rest) (λ more. Ok (compared read more)) f)

-- ---- the answer

answer_is : (t : Compared) (best : Option Found) → Finds t.first t.others best → option_map (found_of t.hops) best ≡ answer_of t
answer_is t None f = ap (option_map (told_difference t)) f.0
answer_is t (Some x) f =
    let a = addr_as x.differ.addr in
    ap Some (ap (λ (h : ℕ). let d : TextDifference = record { text = x.place + 2; addr = a; first = hop_at t.hops h; other = hop_at t.hops x.differ.second.0 } in d) (sym f.1.0)
    ∙ ap (λ (o : Option Address). let d : TextDifference = record { text = x.place + 2; addr = a; first = hop_from t.hops t.first a; other = o } in d) (sym (by_table (slice_get t.others x.place) f.1.1)))
    ∙ ap (option_map (told_difference t)) f.0
  where
    by_table : (o : Option Entries) → option_map (λ u. match_in u (addr_as x.differ.addr)) o ≡ Some x.differ.second.0 → option_and_then (λ table. hop_from t.hops table (addr_as x.differ.addr)) o ≡ hop_at t.hops x.differ.second.0
    by_table None e = absurd cc
    by_table (Some u) e = ap (hop_at t.hops) (let same : match_in u (addr_as x.differ.addr) ≡ x.differ.second.0 = cc in same)

ends : (content : Content) (kind : Kind) (first : List ℕ) (rest : List (List ℕ)) (t : Compared) (answer : Option Difference) → MatchesIfTold (same_at content kind first rest) (Ok t) → option_map difference_as answer ≡ answer_of t
    → EndsCompared (same_at content kind first rest) answer
ends content kind first rest t answer told is = (t, told, (all_found t.first t.others, is))

-- ---- what was found of all texts

-- it is what comparing the tables comes to that are due
abbrev pub Ended : Content → Kind → List ℕ → List (List ℕ) → List Address → Option Found → Type 0
Ended content kind first rest hops best = (t : Compared) × MatchesIfTold (same_at content kind first rest) (Ok t) × (option_map (found_of hops) best ≡ answer_of t)

-- the others are read of the same inputs as the first one, before which no hop has a number
pub found_ends : (content between : Content) (kind : Kind) (first : List ℕ) (rest : List (List ℕ)) (hops : List Address) (middle after : Hops) (entries : Entries) (runs : TableRuns) (best : Option Found)
    → hops ≡ [] → between ≡ content → MatchesIfTold (text_at content kind hops 1 first) (Ok (record { entries = entries; hops = middle.list })) → TellsBoth entries runs → ComesFrom between kind middle after rest runs best
    → Ended content kind first rest after.list best
found_ends content between kind first rest hops middle after entries runs best none same one tells found =
    let read : KindEntries = record { entries = entries; hops = middle.list } in
    let from = subst (λ (c : Content). ComesFrom c kind middle after rest runs best) same found in
    let t = compared read from.0 in (
      t,
      same_told content kind first rest read from.0 (subst (λ (hs : List Address). MatchesIfTold (text_at content kind hs 1 first) (Ok read)) none one) from.1,
      ap (λ (hs : List Address). option_map (found_of hs) best) (sym from.2) ∙ answer_is t best (from.3 entries tells),
    )

pub due_if_differs : (content : Content) (kind : Kind) (first : List ℕ) (rest : List (List ℕ)) (hops : List Address) (best : Option Found) (x : Found) (d : Difference) → Ended content kind first rest hops best → best ≡ Some x → difference_as d ≡ found_of hops x
    → MatchesIfTold (answer_at content kind first rest) (Ok (Some (difference_as d)))
due_if_differs content kind first rest hops best x d e is seen =
    answer_told content kind first rest e.0 (Some (difference_as d)) e.1 (ap Some seen ∙ (ap (option_map (found_of hops)) (sym is) ∙ e.2))

pub ends_if_differs : (content : Content) (kind : Kind) (first : List ℕ) (rest : List (List ℕ)) (hops : List Address) (best : Option Found) (x : Found) (d : Difference) → Ended content kind first rest hops best → best ≡ Some x → difference_as d ≡ found_of hops x
    → EndsCompared (same_at content kind first rest) (Some d)
ends_if_differs content kind first rest hops best x d e is seen = ends content kind first rest e.0 (Some d) e.1 (ap Some seen ∙ (ap (option_map (found_of hops)) (sym is) ∙ e.2))

pub due_if_alike : (content : Content) (kind : Kind) (first : List ℕ) (rest : List (List ℕ)) (hops : List Address) (best : Option Found) → Ended content kind first rest hops best → best ≡ None
    → MatchesIfTold (answer_at content kind first rest) (Ok None)
due_if_alike content kind first rest hops best e is = answer_told content kind first rest e.0 None e.1 (ap (option_map (found_of hops)) (sym is) ∙ e.2)

pub ends_if_alike : (content : Content) (kind : Kind) (first : List ℕ) (rest : List (List ℕ)) (hops : List Address) (best : Option Found) → Ended content kind first rest hops best → best ≡ None
    → EndsCompared (same_at content kind first rest) None
ends_if_alike content kind first rest hops best e is = ends content kind first rest e.0 None e.1 (ap (option_map (found_of hops)) (sym is) ∙ e.2)

-- ---- counts of faults

names_among : (content : Content) (kind : Kind) (hops : List Address) (n : ℕ) (names : List (List ℕ)) → Among (names_due content kind hops n names) names
names_among content kind hops n [] before now rose = rose
names_among content kind hops n (name ∷ names) before now (inl rose) = inl rose
names_among content kind hops n (name ∷ names) before now (inr rose) = inr (by_text (text_at content kind hops n name) (λ read. names_among content kind read.hops (n + 1) names before now) rose)
  where
    by_text : (t : Result KindEntries TextStop) → ((read : KindEntries) → OneRose (names_due content kind read.hops (n + 1) names) before now → OneRose names before now)
        → OneRose (names_after t names (λ read. names_due content kind read.hops (n + 1) names)) before now → OneRose names before now
    by_text (Err Untold) among r = r
    by_text (Err (Refused x)) among r = absurd r
    by_text (Ok read) among r = among read r

others_among : (content : Content) (kind : Kind) (first : List ℕ) (rest : List (List ℕ)) (read : KindEntries) → MatchesIfTold (text_at content kind [] 1 first) (Ok read) → Among (names_due content kind read.hops 2 rest) (names_at content kind first rest)
others_among content kind first rest read one before now rose = inr (by_first (text_at content kind [] 1 first) one)
  where
    by_first : (d : Result KindEntries TextStop) → MatchesIfTold d (Ok read) → OneRose (names_after d rest (λ x. names_due content kind x.hops 2 rest)) before now
    by_first (Err Untold) i = names_among content kind read.hops 2 rest before now rose
    by_first (Err (Refused r)) i = absurd cc
    by_first (Ok x) i = let same : x ≡ read = cc in subst (λ (y : KindEntries). OneRose (names_due content kind y.hops 2 rest) before now) (sym same) rose

more_names : (X Y : Type 0) (some all : List (List ℕ)) (before now : List ℕ → ℕ) (e : SameError) → Among some all → ReadsNamedTexts {X = X} some before now (Err e) → ReadsNamedTexts {X = Y} all before now (Err e)
more_names X Y some all before now error.Fault among cause = among before now cause
more_names X Y some all before now error.NoMemory among cause = cause
more_names X Y some all before now (error.TooLarge text) among cause = cause
more_names X Y some all before now (error.BadLine text line why) among cause = cause
more_names X Y some all before now (error.Twice text prefix) among cause = cause

others_cause : (X Y : Type 0) (content : Content) (kind : Kind) (first : List ℕ) (rest : List (List ℕ)) (read : KindEntries) (before now : List ℕ → ℕ) (e : SameError) → MatchesIfTold (text_at content kind [] 1 first) (Ok read)
    → ReadsNamedTexts {X = X} (names_due content kind read.hops 2 rest) before now (Err e) → ReadsNamedTexts {X = Y} (names_at content kind first rest) before now (Err e)
others_cause X Y content kind first rest read before now e one cause = more_names X Y _ (names_at content kind first rest) before now e (others_among content kind first rest read one) cause

-- one of the others is refused: they are read of the same inputs as the first one, which left the counts as they were
pub refused_cause : (X Y : Type 0) (content between : Content) (kind : Kind) (first : List ℕ) (rest : List (List ℕ)) (hops : List Address) (read : KindEntries) (before middle now : List ℕ → ℕ) (e y : SameError) (result : Result Y SameError)
    → hops ≡ [] → between ≡ content → middle ≡ before → MatchesIfTold (text_at content kind hops 1 first) (Ok read) → ReadsNamedTexts {X = X} (names_due between kind read.hops 2 rest) middle now (Err e) → result ≡ Err y → y ≡ e
    → ReadsNamedTexts {X = Y} (names_at content kind first rest) before now result
refused_cause X Y content between kind first rest hops read before middle now e y result none same kept one cause is from =
    let told = subst (λ (hs : List Address). MatchesIfTold (text_at content kind hs 1 first) (Ok read)) none one in
    let cause-at = subst (λ (c : Content). ReadsNamedTexts {X = X} (names_due c kind read.hops 2 rest) middle now (Err e)) same cause in
    let cause-from = subst (λ (counts : List ℕ → ℕ). ReadsNamedTexts {X = X} (names_due content kind read.hops 2 rest) counts now (Err e)) kept cause-at in
    let err = subst (λ (x : SameError). ReadsNamedTexts {X = Y} (names_at content kind first rest) before now (Err x)) (sym from) (others_cause X Y content kind first rest read before now e told cause-from) in
    subst (ReadsNamedTexts {X = Y} (names_at content kind first rest) before now) (sym is) err

-- ---- reads

abbrev pub one_input : List ℕ → Inputs
one_input first = (1, first) ∷ []

after_first : (first : List ℕ) (rest : List (List ℕ)) (before now : Option (List Read)) → Makes before now (TextsRead (one_input first)) → Makes before now (FrontRead (numbered_texts 1 (first ∷ rest)) (numbered_texts 2 rest))
after_first first rest before now made = front_more (numbered_texts 1 (first ∷ rest)) (numbered_texts 2 rest) (1, first) before before now (front_none (numbered_texts 1 (first ∷ rest)) before) made

pub first_stops : (first : List ℕ) (rest : List (List ℕ)) (e : SameError) (before now : Option (List Read)) → Makes before now (StopsReadingTexts (one_input first) e) → Makes before now (StopsReadingTexts (numbered_texts 1 (first ∷ rest)) e)
first_stops first rest e before now made = front_refused (numbered_texts 1 (first ∷ rest)) (numbered_texts 2 rest) (1, first) e before before now (front_none (numbered_texts 1 (first ∷ rest)) before) made

pub memory_stops : (first : List ℕ) (rest : List (List ℕ)) (before now : Option (List Read)) → Makes before now (TextsRead (one_input first)) → Makes before now (StopsReadingTexts (numbered_texts 1 (first ∷ rest)) error.NoMemory)
memory_stops first rest before now made = front_stops (numbered_texts 1 (first ∷ rest)) (numbered_texts 2 rest) before now (after_first first rest before now made)

up_to_after : (all left : Inputs) (text : ℕ) (end : PassEnd) (first next : List Read) → FrontRead all left first → TextsReadUpTo left text end next → TextsReadUpTo all text end (first ++ next)
up_to_after all left text end first next p q = record {
  before = p.front ++ q.before;
  name = q.name;
  after = q.after;
  order = p.order ∙ (ap (λ inputs. p.front ++ inputs) q.order ∙ sym (append_assoc p.front q.before ((text, q.name) ∷ q.after)));
  first = first ++ q.first;
  whole = all_both p.front q.before first q.first p.whole q.whole;
  last = q.last;
  pass = q.pass;
  all = ap (λ reads. first ++ reads) q.all ∙ sym (append_assoc first q.first q.last);
}

part_after : (all left : Inputs) (first next : List Read) → FrontRead all left first → TextsReadInPart left next → TextsReadInPart all (first ++ next)
part_after all left first next p q = record {
  before = p.front ++ q.before;
  after = q.after;
  order = p.order ∙ (ap (λ inputs. p.front ++ inputs) q.order ∙ sym (append_assoc p.front q.before q.after));
  first = first ++ q.first;
  whole = all_both p.front q.before first q.first p.whole q.whole;
  last = q.last;
  begun = q.begun;
  all = ap (λ reads. first ++ reads) q.all ∙ sym (append_assoc first q.first q.last);
}

stops_after : (all left : Inputs) (e : SameError) (first next : List Read) → FrontRead all left first → StopsReadingTexts left e next → StopsReadingTexts all e (first ++ next)
stops_after all left error.Fault first next p q = (q.0, up_to_after all left q.0 _ first next p q.1)
stops_after all left error.NoMemory first next p q = part_after all left first next p q
stops_after all left (error.TooLarge text) first next p q = up_to_after all left text _ first next p q
stops_after all left (error.BadLine text line why) first next p q = up_to_after all left text _ first next p q
stops_after all left (error.Twice text prefix) first next p q = up_to_after all left text _ first next p q

pub others_stop : (first : List ℕ) (rest : List (List ℕ)) (e : SameError) (before between now : Option (List Read)) → Makes before between (TextsRead (one_input first)) → Makes between now (StopsReadingTexts (numbered_texts 2 rest) e)
    → Makes before now (StopsReadingTexts (numbered_texts 1 (first ∷ rest)) e)
others_stop first rest e before between now one made =
    makes_then before between now (FrontRead (numbered_texts 1 (first ∷ rest)) (numbered_texts 2 rest)) (StopsReadingTexts (numbered_texts 2 rest) e) (StopsReadingTexts (numbered_texts 1 (first ∷ rest)) e) (after_first first rest before between one) made
    (λ xs ys p q. stops_after (numbered_texts 1 (first ∷ rest)) (numbered_texts 2 rest) e xs ys p q)

pub others_read : (first : List ℕ) (rest : List (List ℕ)) (before between now : Option (List Read)) → Makes before between (TextsRead (one_input first)) → Makes between now (TextsRead (numbered_texts 2 rest)) → Makes before now (TextsRead (numbered_texts 1 (first ∷ rest)))
others_read first rest before between now one made =
    makes_then before between now (TextsRead (one_input first)) (TextsRead (numbered_texts 2 rest)) (TextsRead (numbered_texts 1 (first ∷ rest))) one made
    (λ xs ys p q. all_both (one_input first) (numbered_texts 2 rest) xs ys p q)
