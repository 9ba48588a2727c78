-- Reads that are made one after another, and the passes that they come to.
use Rattle.std.proofs.Common.{◌≡◌, ℕ, ◌+◌, ◌^◌, ◌≤◌, ◌<◌, List, [], ◌∷◌, ◌++◌, Option, Some, None, Ok, Err, refl, sym, ap, subst, ◌∙◌, inl, inr, append_assoc, append-nil, arith}
use Rattle.fib_io.specs.Reads.{AtEnd, AtFault, Anywhere, EndsPass, IsPieceRead, ReadsLead, Makes, Pass, PassEnd, PastMost, Read, end_by, read_of}
use Rattle.fib_io.specs.declared.pieces.ReadError.{ReadError}
use Rattle.fib_io.specs.declared.pieces.ReadError.TheVariants as read

-- no read is made
pub makes_none : (now : Option (List Read)) (Such : List Read → Type 0) → Such [] → Makes now now Such
makes_none None Such such = tt
makes_none (Some all) Such such = (all, [], refl, sym (append-nil all), such)

-- such reads are also others
pub makes_as : (before now : Option (List Read)) (Such Other : List Read → Type 0) → Makes before now Such → ((reads : List Read) → Such reads → Other reads) → Makes before now Other
makes_as before None Such Other made other = tt
makes_as before (Some all) Such Other made other = (made.0, made.1, made.2, made.3, other made.1 made.4)

-- some reads, and then others
pub makes_then : (before between now : Option (List Read)) (First Next Both : List Read → Type 0) → Makes before between First → Makes between now Next
    → ((first next : List Read) → First first → Next next → Both (first ++ next)) → Makes before now Both
makes_then before between None First Next Both first next both = tt
makes_then before between (Some all) First Next Both first next both =
    let told : Makes before (Some next.0) First = subst (λ reads. Makes before reads First) next.2 first in
    (told.0, told.1 ++ next.1, told.2, next.3 ∙ ap (λ reads. reads ++ next.1) told.3 ∙ append_assoc told.0 told.1 next.1, both told.1 next.1 told.4 next.4)

-- ---- one pass

pub leads_then : (name : List ℕ) (from at to : ℕ) (first next : List Read) → ReadsLead name from at first → ReadsLead name at to next → ReadsLead name from to (first ++ next)
leads_then name from at to [] next first more = subst (λ place. ReadsLead name place to next) (sym first) more
leads_then name from at to (read ∷ reads) next first more = (first.0, first.1, first.2, leads_then name (from + first.0) at to reads next first.3 more)

leads_by : (name : List ℕ) (at n : ℕ) (reads : List Read) → 0 < n → reads ≡ read_of name at (Some n) ∷ [] → ReadsLead name at (at + n) reads
leads_by name at n reads some is = rw is (n, some, refl, refl)

-- nothing is read yet
pub pass_begins : (now : Option (List Read)) (name : List ℕ) → Makes now now (ReadsLead name 0 0)
pass_begins now name = makes_none now (ReadsLead name 0 0) refl

-- a piece more
pub pass_goes_on : (before between now : Option (List Read)) (name : List ℕ) (at here to n : ℕ) → here ≡ at → to ≡ at + n → 0 < n → Makes before between (ReadsLead name 0 at) → Makes between now (IsPieceRead name here (Ok n)) → Makes before now (ReadsLead name 0 to)
pass_goes_on before between now name at here to n is comes some first next =
    makes_then before between now (ReadsLead name 0 at) (IsPieceRead name here (Ok n)) (ReadsLead name 0 to) first next
    (λ xs ys p q. rw comes (leads_then name 0 at (at + n) xs ys p (leads_by name at n ys some (rw is at q))))

-- the pass ends here
passes : (end : PassEnd) (before between now : Option (List Read)) (name : List ℕ) (at : ℕ) → at ≤ 2 ^ 36 → Makes before between (ReadsLead name 0 at) → Makes between now (EndsPass end name at) → Makes before now (Pass end name)
passes end before between now name at within first last =
    makes_then before between now (ReadsLead name 0 at) (EndsPass end name at) (Pass end name) first last
    (λ xs ys p q. record { at = at; within = within; front = xs; leads = p; last = ys; ends = q; all = refl })

pub pass_ends : (before between now : Option (List Read)) (name : List ℕ) (at here n : ℕ) → here ≡ at → at ≤ 2 ^ 36 → n ≡ 0 → Makes before between (ReadsLead name 0 at) → Makes between now (IsPieceRead name here (Ok n)) → Makes before now (Pass AtEnd name)
pass_ends before between now name at here n is within none first last =
    passes AtEnd before between now name at within first
    (makes_as between now (IsPieceRead name here (Ok n)) (EndsPass AtEnd name at) last (λ reads q. rw (is, none) at q))

refused_at : (before between now : Option (List Read)) (name : List ℕ) (at : ℕ) (error : ReadError) → at ≤ 2 ^ 36 → Makes before between (ReadsLead name 0 at) → Makes between now (IsPieceRead name at (Err error)) → Makes before now (Pass (end_by error) name)
refused_at before between now name at read.Fault within first last = passes AtFault before between now name at within first last
refused_at before between now name at read.TooLarge within first last = passes PastMost before between now name at within first last
refused_at before between now name at read.NoMemory within first last =
    passes Anywhere before between now name at within first
    (makes_as between now (λ reads. reads ≡ []) (EndsPass Anywhere name at) last (λ reads none. inl none))

pub pass_refused : (before between now : Option (List Read)) (name : List ℕ) (at here : ℕ) (error : ReadError) → here ≡ at → at ≤ 2 ^ 36 → Makes before between (ReadsLead name 0 at) → Makes between now (IsPieceRead name here (Err error)) → Makes before now (Pass (end_by error) name)
pass_refused before between now name at here error is within first last =
    refused_at before between now name at error within first (subst (λ place. Makes between now (IsPieceRead name place (Err error))) is last)

-- it stops where the call likes
pub pass_stops : (before now : Option (List Read)) (name : List ℕ) (at : ℕ) → at ≤ 2 ^ 36 → Makes before now (ReadsLead name 0 at) → Makes before now (Pass Anywhere name)
pass_stops before now name at within first =
    makes_as before now (ReadsLead name 0 at) (Pass Anywhere name) first
    (λ xs p. record { at = at; within = within; front = xs; leads = p; last = []; ends = inl refl; all = sym (append-nil xs) })

pub no_pass : (name : List ℕ) → Pass Anywhere name []
no_pass name = record { at = 0; within = omega arith; front = []; leads = refl; last = []; ends = inl refl; all = refl }

pub pass_of_none : (now : Option (List Read)) (name : List ℕ) → Makes now now (Pass Anywhere name)
pass_of_none now name = makes_none now (Pass Anywhere name) (no_pass name)

pub ended_anywhere : (name : List ℕ) (reads : List Read) → Pass AtEnd name reads → Pass Anywhere name reads
ended_anywhere name reads p = record { at = p.at; within = p.within; front = p.front; leads = p.leads; last = p.last; ends = inr p.ends; all = p.all }

-- at the input's end it stops as well
pub pass_stops_at_end : (before now : Option (List Read)) (name : List ℕ) → Makes before now (Pass AtEnd name) → Makes before now (Pass Anywhere name)
pass_stops_at_end before now name all = makes_as before now (Pass AtEnd name) (Pass Anywhere name) all (λ reads p. ended_anywhere name reads p)
