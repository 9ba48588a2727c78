-- Reads that begin only where what was read before is such.
use Rattle.std.proofs.Common.{◌≡◌, ◌∙◌, ℕ, List, [], ◌∷◌, ◌++◌, get_or, take, Option, Some, None, Result, Ok, Err, sym, ap, subst}
use Rattle.std.specs.Prelude.{IfSome}
use Rattle.std.proofs.lemmas.List.Elements.{All-append, All-cons, All-nil}
use Rattle.std.proofs.lemmas.List.{append_cancel_left}
use Rattle.std.proofs.lemmas.Option.{same_Some}
use Rattle.fib_io.specs.Reads.{Anywhere, AreInTime, AtEnd, BeginBehind, IsPieceRead, Makes, Pass, PassEnd, PassInTime, Read, read_of}
use Rattle.fib_io.specs.declared.pieces.ReadError.{ReadError}
use Rattle.fib_io.specs.declared.pieces.ReadError.TheVariants as read
use Rattle.fib_io.proofs.Passing.{ended_anywhere, makes_none, makes_then, no_pass}

-- two facts on the reads that were made
pub makes_both : (before now : Option (List Read)) (First Next Both : List Read → Type 0) → Makes before now First → Makes before now Next → ((reads : List Read) → First reads → Next reads → Both reads) → Makes before now Both
makes_both before None First Next Both first next both = tt
makes_both before (Some all) First Next Both first next both =
    let old : first.0 ≡ next.0 = same_Some first.0 next.0 (sym first.2 ∙ next.2) in
    let made : next.1 ≡ first.1 = append_cancel_left first.0 next.1 first.1 (ap (λ reads. reads ++ next.1) old ∙ (sym next.3 ∙ first.3)) in
    (first.0, first.1, first.2, first.3, both first.1 first.4 (subst Next made next.4))

-- ---- one read after another

one_behind : (Such : List ℕ → Type 0) (octets : List ℕ) (read : Read) (reads : List Read) → reads ≡ read ∷ [] → Such (take read.at octets) → BeginBehind Such octets reads
one_behind Such octets read reads is such = subst (BeginBehind Such octets) (sym is) (All-cons (λ r. Such (take r.at octets)) read [] such (All-nil (λ r. Such (take r.at octets))))

none_behind : (Such : List ℕ → Type 0) (octets : List ℕ) (reads : List Read) → reads ≡ [] → BeginBehind Such octets reads
none_behind Such octets reads is = subst (BeginBehind Such octets) (sym is) (All-nil (λ r. Such (take r.at octets)))

piece_behind : (Such : List ℕ → Type 0) (octets name : List ℕ) (at : ℕ) (r : Result ℕ ReadError) (reads : List Read) → Such (take at octets) → IsPieceRead name at r reads → BeginBehind Such octets reads
piece_behind Such octets name at (Ok n) reads such is = one_behind Such octets (read_of name at (Some n)) reads is such
piece_behind Such octets name at (Err read.Fault) reads such is = one_behind Such octets (read_of name at None) reads is such
piece_behind Such octets name at (Err read.TooLarge) reads such is = one_behind Such octets (read_of name at (Some is.0)) reads is.3 such
piece_behind Such octets name at (Err read.NoMemory) reads such is = none_behind Such octets reads is

pub none_in_time : (content : Option (List ℕ)) (Such : List ℕ → Type 0) → AreInTime content Such []
none_in_time None Such = tt
none_in_time (Some octets) Such = All-nil (λ r. Such (take r.at octets))

both_in_time : (content : Option (List ℕ)) (Such : List ℕ → Type 0) (first next : List Read) → AreInTime content Such first → AreInTime content Such next → AreInTime content Such (first ++ next)
both_in_time None Such first next p q = tt
both_in_time (Some octets) Such first next p q = All-append (λ r. Such (take r.at octets)) first next p q

piece_in_time : (content : Option (List ℕ)) (Such : List ℕ → Type 0) (name : List ℕ) (at : ℕ) (r : Result ℕ ReadError) (reads : List Read) → IfSome content (λ octets. Such (take at octets)) → IsPieceRead name at r reads → AreInTime content Such reads
piece_in_time None Such name at r reads such is = tt
piece_in_time (Some octets) Such name at r reads such is = piece_behind Such octets name at r reads such is

-- nothing is read yet
pub time_begins : (now : Option (List Read)) (content : Option (List ℕ)) (Such : List ℕ → Type 0) → Makes now now (AreInTime content Such)
time_begins now content Such = makes_none now (AreInTime content Such) (none_in_time content Such)

-- a piece more, where what was read is such
pub time_goes_on : (before between now : Option (List Read)) (content : Option (List ℕ)) (Such : List ℕ → Type 0) (name : List ℕ) (at : ℕ) (r : Result ℕ ReadError) → IfSome content (λ octets. Such (take at octets)) → Makes before between (AreInTime content Such) → Makes between now (IsPieceRead name at r) → Makes before now (AreInTime content Such)
time_goes_on before between now content Such name at r such first next =
    makes_then before between now (AreInTime content Such) (IsPieceRead name at r) (AreInTime content Such) first next
    (λ xs ys p q. both_in_time content Such xs ys p (piece_in_time content Such name at r ys such q))

-- ---- one pass

pub passes_in_time : (before now : Option (List Read)) (content : Option (List ℕ)) (Such : List ℕ → Type 0) (end : PassEnd) (name : List ℕ) → Makes before now (Pass end name) → Makes before now (AreInTime content Such) → Makes before now (PassInTime content Such end name)
passes_in_time before now content Such end name pass in_time =
    makes_both before now (Pass end name) (AreInTime content Such) (PassInTime content Such end name) pass in_time (λ reads p q. record { pass = p; in_time = q })

pub ended_in_time : (content : Option (List ℕ)) (Such : List ℕ → Type 0) (name : List ℕ) (reads : List Read) → PassInTime content Such AtEnd name reads → PassInTime content Such Anywhere name reads
ended_in_time content Such name reads p = record { pass = ended_anywhere name reads p.pass; in_time = p.in_time }

pub no_pass_in_time : (content : Option (List ℕ)) (Such : List ℕ → Type 0) (name : List ℕ) → PassInTime content Such Anywhere name []
no_pass_in_time content Such name = record { pass = no_pass name; in_time = none_in_time content Such }

-- where nothing was read
pub pass_of_none_in_time : (now : Option (List Read)) (content : Option (List ℕ)) (Such : List ℕ → Type 0) (name : List ℕ) → Makes now now (PassInTime content Such Anywhere name)
pass_of_none_in_time now content Such name = makes_none now (PassInTime content Such Anywhere name) (no_pass_in_time content Such name)

behind_as : (Such Other : List ℕ → Type 0) (octets : List ℕ) (reads : List Read) → ((front : List ℕ) → Such front → Other front) → BeginBehind Such octets reads → BeginBehind Other octets reads
behind_as Such Other octets reads so all = λ i r is. so (take (get_or reads i r).at octets) (all i r is)

time_as : (content : Option (List ℕ)) (Such Other : List ℕ → Type 0) (reads : List Read) → ((front : List ℕ) → Such front → Other front) → AreInTime content Such reads → AreInTime content Other reads
time_as None Such Other reads so p = tt
time_as (Some octets) Such Other reads so p = behind_as Such Other octets reads so p

pub pass_as : (content : Option (List ℕ)) (Such Other : List ℕ → Type 0) (end : PassEnd) (name : List ℕ) (reads : List Read) → ((front : List ℕ) → Such front → Other front) → PassInTime content Such end name reads → PassInTime content Other end name reads
pass_as content Such Other end name reads so p = record { pass = p.pass; in_time = time_as content Such Other reads so p.in_time }

-- where anything may be read on from
anything_in_time : (content : Option (List ℕ)) (reads : List Read) → AreInTime content (λ _. Unit {0}) reads
anything_in_time None reads = tt
anything_in_time (Some octets) reads = λ i r is. tt

pub pass_of_text : (content : Option (List ℕ)) (end : PassEnd) (name : List ℕ) (reads : List Read) → Pass end name reads → PassInTime content (λ _. Unit {0}) end name reads
pass_of_text content end name reads p = record { pass = p; in_time = anything_in_time content reads }
