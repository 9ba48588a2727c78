-- What a reader was fed of an input up to a place, and the reads that gave it.
use Rattle.std.proofs.Common.{◌≡◌, ℕ, ◌+◌, ◌-◌, ◌^◌, ◌≤◌, ◌<◌, List, [], ◌∷◌, ◌++◌, get_or, length, take, Option, Some, None, Result, Ok, Err, refl, sym, ap, subst, ◌∙◌, inl, inr, arith, append_assoc, append-nil, length-append, length-take, take_all}
use Rattle.std.specs.Prelude.{IfSome, IsErrOf}
use Rattle.std.proofs.lemmas.List.Elements.{All-append, All-cons, All-nil}
use Rattle.route_model.specs.Events.{Event}
use Rattle.wire_model.specs.Record.{Fault}
use Rattle.fib_io.specs.Pieces.{ComeNext, IsLarge, octets_from}
use Rattle.fib_io.specs.Reads.{Anywhere, AreInTime, AtEnd, EndsPass, IsPieceRead, Makes, Pass, PassEnd, PastMost, AtFault, Read, ReadsLead, end_by, read_of}
use Rattle.fib_io.specs.declared.pieces.ReadError.{ReadError}
use Rattle.fib_io.specs.declared.pieces.ReadError.TheVariants as read
use Rattle.fib_io.proofs.Passing.{leads_then, makes_as, makes_none, makes_then}
use Rattle.mrt_read.specs.declared.reader.Reader.{Reader}
use Rattle.mrt_read.specs.Framing.{refused_or}
use Rattle.mrt_read.specs.Records.{fault_of}
use Rattle.mrt_read.specs.Standing.{Failed, ReaderFeeds, ReaderFills, ReaderStands, ReaderTakesNothing, TakesEvents, reader_left, reader_next, reader_refusal}
use Rattle.mrt_read.specs.Whole.{of_input, of_read}
use Rattle.mrt_read.specs.declared.reader.EventsError.{EventsError}
use Rattle.mrt_read.specs.declared.reader.EventsError.TheVariants.{Malformed, NoMemory}
use Rattle.mrt_read.proofs.Fed.{fed_more, fed_stays, fed_takes}
use Rattle.mrt_read.specs.InputReading.{BeginCut, FeedsUpTo, HoldsNoMore, IsCutNow, HoldsWithin, IsNextRefused, PassFrom, TakesNext}

-- ---- what was fed

feeds_nothing : (r : Reader) → ReaderFeeds r [] r
feeds_nothing r = record {
  leaves = sym (append-nil (reader_left r));
  refuses = refl;
  peers = refl;
  records = refl;
  skipped = refl;
  treated = refl;
  stands = λ fed read s. subst (λ octets. ReaderStands octets read r) (sym (append-nil fed)) s;
}

comes_none : (content : Option (List ℕ)) (at : ℕ) → IfSome content (λ c. octets_from at c ≡ [] ++ octets_from (at + 0) c)
comes_none None at = tt
comes_none (Some c) at = ap (λ k. octets_from k c) (omega arith)

pub fed_none : (content : Option (List ℕ)) (at : ℕ) (r : Reader) → FeedsUpTo content at r at r
fed_none content at r = (0, omega arith, record { piece = []; size = refl; comes = comes_none content at; feeds = feeds_nothing r })

pub not_refused : {A : Type 0} (o : Option Fault) (r : Result A Fault) (x : A) → refused_or o r ≡ Ok x → o ≡ None
not_refused None r x e = refl
not_refused (Some fault) r x e = absurd cc

-- no whole record was left of it
pub fed_still : (content : Option (List ℕ)) (at to : ℕ) (old now mid : Reader) → FeedsUpTo content at old to now → reader_next now ≡ Ok None → ReaderTakesNothing now mid → FeedsUpTo content at old to mid
fed_still content at to old now mid (n, is, p) next nothing =
    let none = not_refused (reader_refusal now) _ None next in (
      n,
      is,
      record {
        piece = p.piece;
        size = p.size;
        comes = p.comes;
        feeds = record {
          leaves = nothing.leaves ∙ p.feeds.leaves;
          refuses = nothing.refuses ∙ sym none ∙ p.feeds.refuses;
          peers = nothing.peers ∙ p.feeds.peers;
          records = nothing.records ∙ p.feeds.records;
          skipped = nothing.skipped ∙ p.feeds.skipped;
          treated = nothing.treated ∙ p.feeds.treated;
          stands = λ fed read s. nothing.stands (fed ++ p.piece) read (p.feeds.stands fed read s);
        };
      },
    )

comes_both : (content : Option (List ℕ)) (at n m : ℕ) (first next : List ℕ) → IfSome content (λ c. octets_from at c ≡ first ++ octets_from (at + n) c) → IfSome content (λ c. octets_from (at + n) c ≡ next ++ octets_from ((at + n) + m) c) → IfSome content (λ c. octets_from at c ≡ (first ++ next) ++ octets_from (at + (n + m)) c)
comes_both None at n m first next p q = tt
comes_both (Some c) at n m first next p q =
    let there : (at + n) + m ≡ at + (n + m) = omega arith in
    p ∙ ap (λ xs. first ++ xs) (q ∙ ap (λ k. next ++ octets_from k c) there) ∙ sym (append_assoc first next (octets_from (at + (n + m)) c))

comes_at : (content : Option (List ℕ)) (here to m : ℕ) (room : List ℕ) → here ≡ to → IfSome content (λ c. ComeNext c here room m) → IfSome content (λ c. octets_from to c ≡ take m room ++ octets_from (to + m) c)
comes_at None here to m room e t = tt
comes_at (Some c) here to m room e t = subst (λ k. octets_from k c ≡ take m room ++ octets_from (k + m) c) e t

-- a piece more
pub fed_piece : (content : Option (List ℕ)) (at here to m : ℕ) (old mid new : Reader) (room : List ℕ) → FeedsUpTo content at old here mid → to ≡ here + m → m ≤ length room → IfSome content (λ c. ComeNext c here room m) → ReaderFeeds mid (take m room) new → FeedsUpTo content at old to new
fed_piece content at here to m old mid new room (n, is, p) there most comes feeds = (
  n + m,
  omega (arith, is, there),
  record {
    piece = p.piece ++ take m room;
    size = omega (arith, p.size, most, length-append p.piece (take m room), length-take m room);
    comes = comes_both content at n m p.piece (take m room) p.comes (comes_at content here (at + n) m room is comes);
    feeds = record {
      leaves = feeds.leaves ∙ ap (λ xs. xs ++ take m room) p.feeds.leaves ∙ append_assoc (reader_left old) p.piece (take m room);
      refuses = feeds.refuses ∙ p.feeds.refuses;
      peers = feeds.peers ∙ p.feeds.peers;
      records = feeds.records ∙ p.feeds.records;
      skipped = feeds.skipped ∙ p.feeds.skipped;
      treated = feeds.treated ∙ p.feeds.treated;
      stands = λ fed read s. subst (λ octets. ReaderStands octets read new) (append_assoc fed p.piece (take m room)) (feeds.stands (fed ++ p.piece) read (p.feeds.stands fed read s));
    };
  },
)

-- all of it as one piece
pub record IsPiece (content : Option (List ℕ)) (at : ℕ) (old : Reader) (to : ℕ) (new : Reader) : Type 0 where
  pub n : ℕ
  pub there : at + n ≡ to
  pub room : List ℕ
  pub most : n ≤ length room
  pub comes : IfSome content (λ c. ComeNext c at room n)
  pub feeds : ReaderFeeds old (take n room) new

as_come : (content : Option (List ℕ)) (at n : ℕ) (piece : List ℕ) → take n piece ≡ piece → IfSome content (λ c. octets_from at c ≡ piece ++ octets_from (at + n) c) → IfSome content (λ c. ComeNext c at piece n)
as_come None at n piece e t = tt
as_come (Some c) at n piece e t = t ∙ ap (λ xs. xs ++ octets_from (at + n) c) (sym e)

pub as_piece : (content : Option (List ℕ)) (at to : ℕ) (old new : Reader) → FeedsUpTo content at old to new → IsPiece content at old to new
as_piece content at to old new (n, is, p) =
    let all : take n p.piece ≡ p.piece = take_all n p.piece (omega (arith, p.size)) in
    record {
      n = n;
      there = sym is;
      room = p.piece;
      most = omega (arith, p.size);
      comes = as_come content at n p.piece all p.comes;
      feeds = subst (λ xs. ReaderFeeds old xs new) (sym all) p.feeds;
    }

-- ---- reads that lead on

pub lead_begins : (now : Option (List Read)) (name : List ℕ) (at : ℕ) → Makes now now (ReadsLead name at at)
lead_begins now name at = makes_none now (ReadsLead name at at) refl

leads_by : (name : List ℕ) (at n : ℕ) (reads : List Read) → 0 < n → reads ≡ read_of name at (Some n) ∷ [] → ReadsLead name at (at + n) reads
leads_by name at n reads some is = rw is (n, some, refl, refl)

pub lead_goes_on : (before between now : Option (List Read)) (name : List ℕ) (from here to n : ℕ) → to ≡ here + n → 0 < n → Makes before between (ReadsLead name from here) → Makes between now (IsPieceRead name here (Ok n)) → Makes before now (ReadsLead name from to)
lead_goes_on before between now name from here to n comes some first next =
    makes_then before between now (ReadsLead name from here) (IsPieceRead name here (Ok n)) (ReadsLead name from to) first next
    (λ xs ys p q. rw comes (leads_then name from here (here + n) xs ys p (leads_by name here n ys some q)))

pass_from : (end : PassEnd) (before between now : Option (List Read)) (name : List ℕ) (from at : ℕ) → at ≤ 2 ^ 36 → Makes before between (ReadsLead name from at) → Makes between now (EndsPass end name at) → Makes before now (PassFrom from end name)
pass_from end before between now name from at within first last =
    makes_then before between now (ReadsLead name from at) (EndsPass end name at) (PassFrom from end name) first last
    (λ xs ys p q. record { to = at; within = within; front = xs; leads = p; last = ys; ends = q; all = refl })

pub from_ends : (before between now : Option (List Read)) (name : List ℕ) (from at n : ℕ) → at ≤ 2 ^ 36 → n ≡ 0 → Makes before between (ReadsLead name from at) → Makes between now (IsPieceRead name at (Ok n)) → Makes before now (PassFrom from AtEnd name)
from_ends before between now name from at n within none first last =
    pass_from AtEnd before between now name from at within first
    (makes_as between now (IsPieceRead name at (Ok n)) (EndsPass AtEnd name at) last (λ reads q. rw none at q))

pub from_refused : (before between now : Option (List Read)) (name : List ℕ) (from at : ℕ) (error : ReadError) → at ≤ 2 ^ 36 → Makes before between (ReadsLead name from at) → Makes between now (IsPieceRead name at (Err error)) → Makes before now (PassFrom from (end_by error) name)
from_refused before between now name from at read.Fault within first last = pass_from AtFault before between now name from at within first last
from_refused before between now name from at read.TooLarge within first last = pass_from PastMost before between now name from at within first last
from_refused before between now name from at read.NoMemory within first last =
    pass_from Anywhere before between now name from at within first
    (makes_as between now (λ reads. reads ≡ []) (EndsPass Anywhere name at) last (λ reads none. inl none))

pub from_stops : (before now : Option (List Read)) (name : List ℕ) (from at : ℕ) → at ≤ 2 ^ 36 → Makes before now (ReadsLead name from at) → Makes before now (PassFrom from Anywhere name)
from_stops before now name from at within first =
    makes_as before now (ReadsLead name from at) (PassFrom from Anywhere name) first
    (λ xs p. record { to = at; within = within; front = xs; leads = p; last = []; ends = inl refl; all = sym (append-nil xs) })

pub from_stops_at_end : (before now : Option (List Read)) (name : List ℕ) (from : ℕ) → Makes before now (PassFrom from AtEnd name) → Makes before now (PassFrom from Anywhere name)
from_stops_at_end before now name from all =
    makes_as before now (PassFrom from AtEnd name) (PassFrom from Anywhere name) all
    (λ reads p. record { to = p.to; within = p.within; front = p.front; leads = p.leads; last = p.last; ends = inr p.ends; all = p.all })

-- the reads of a record more
pub leads_on : (before between now : Option (List Read)) (name : List ℕ) (at to : ℕ) → Makes before between (ReadsLead name 0 at) → Makes between now (ReadsLead name at to) → Makes before now (ReadsLead name 0 to)
leads_on before between now name at to first next =
    makes_then before between now (ReadsLead name 0 at) (ReadsLead name at to) (ReadsLead name 0 to) first next
    (λ xs ys p q. leads_then name 0 at to xs ys p q)

-- the last reads of the pass
pub passes_on : (before between now : Option (List Read)) (name : List ℕ) (at : ℕ) (end : PassEnd) → Makes before between (ReadsLead name 0 at) → Makes between now (PassFrom at end name) → Makes before now (Pass end name)
passes_on before between now name at end first next =
    makes_then before between now (ReadsLead name 0 at) (PassFrom at end name) (Pass end name) first next
    (λ xs ys p q. record { at = q.to; within = q.within; front = xs ++ q.front; leads = leads_then name 0 at q.to xs q.front p q.leads; last = q.last; ends = q.ends; all = ap (λ zs. xs ++ zs) q.all ∙ sym (append_assoc xs q.front q.last) })

-- ---- where reads begin

abbrev BeginsCut : Option (List ℕ) → ℕ → Reader → Read → Type 0
BeginsCut content at old read = (fed : Reader) × FeedsUpTo content at old read.at fed × IsCutNow fed

one_cut : (content : Option (List ℕ)) (at : ℕ) (old : Reader) (read : Read) (reads : List Read) → reads ≡ read ∷ [] → BeginsCut content at old read → BeginCut content at old reads
one_cut content at old read reads is cut = subst (BeginCut content at old) (sym is) (All-cons (BeginsCut content at old) read [] cut (All-nil (BeginsCut content at old)))

none_cut : (content : Option (List ℕ)) (at : ℕ) (old : Reader) (reads : List Read) → reads ≡ [] → BeginCut content at old reads
none_cut content at old reads is = subst (BeginCut content at old) (sym is) (All-nil (BeginsCut content at old))

piece_cut : (content : Option (List ℕ)) (at here : ℕ) (old fed : Reader) (name : List ℕ) (r : Result ℕ ReadError) (reads : List Read) → FeedsUpTo content at old here fed → IsCutNow fed → IsPieceRead name here r reads → BeginCut content at old reads
piece_cut content at here old fed name (Ok n) reads feeds cut is = one_cut content at old (read_of name here (Some n)) reads is (fed, feeds, cut)
piece_cut content at here old fed name (Err read.Fault) reads feeds cut is = one_cut content at old (read_of name here None) reads is (fed, feeds, cut)
piece_cut content at here old fed name (Err read.TooLarge) reads feeds cut is = one_cut content at old (read_of name here (Some is.0)) reads is.3 (fed, feeds, cut)
piece_cut content at here old fed name (Err read.NoMemory) reads feeds cut is = none_cut content at old reads is

pub cuts_begin : (now : Option (List Read)) (content : Option (List ℕ)) (at : ℕ) (old : Reader) → Makes now now (BeginCut content at old)
cuts_begin now content at old = makes_none now (BeginCut content at old) (All-nil (BeginsCut content at old))

pub cuts_go_on : (before between now : Option (List Read)) (content : Option (List ℕ)) (at here : ℕ) (old fed : Reader) (name : List ℕ) (r : Result ℕ ReadError) → FeedsUpTo content at old here fed → IsCutNow fed → Makes before between (BeginCut content at old) → Makes between now (IsPieceRead name here r) → Makes before now (BeginCut content at old)
cuts_go_on before between now content at here old fed name r feeds cut first next =
    makes_then before between now (BeginCut content at old) (IsPieceRead name here r) (BeginCut content at old) first next
    (λ xs ys p q. All-append (BeginsCut content at old) xs ys p (piece_cut content at here old fed name r ys feeds cut q))

cut_in_time : (content : Option (List ℕ)) (Such : List ℕ → Type 0) (at : ℕ) (old : Reader) (reads : List Read) → ((to : ℕ) (fed : Reader) → FeedsUpTo content at old to fed → IsCutNow fed → IfSome content (λ c. Such (take to c))) → BeginCut content at old reads → AreInTime content Such reads
cut_in_time None Such at old reads such all = tt
cut_in_time (Some c) Such at old reads such all = λ i r is. let b = all i r is in such (get_or reads i r).at b.0 b.1 b.2

both_in_time : (content : Option (List ℕ)) (Such : List ℕ → Type 0) (first next : List Read) → AreInTime content Such first → AreInTime content Such next → AreInTime content Such (first ++ next)
both_in_time None Such first next p q = tt
both_in_time (Some octets) Such first next p q = All-append (λ r. Such (take r.at octets)) first next p q

-- where what was fed is such, so is what stands before each read
pub cuts_in_time : (before between now : Option (List Read)) (content : Option (List ℕ)) (Such : List ℕ → Type 0) (at : ℕ) (old : Reader) → ((to : ℕ) (fed : Reader) → FeedsUpTo content at old to fed → IsCutNow fed → IfSome content (λ c. Such (take to c))) → Makes before between (AreInTime content Such) → Makes between now (BeginCut content at old) → Makes before now (AreInTime content Such)
cuts_in_time before between now content Such at old such first next =
    makes_then before between now (AreInTime content Such) (BeginCut content at old) (AreInTime content Such) first next
    (λ xs ys p q. both_in_time content Such xs ys p (cut_in_time content Such at old ys such q))

-- ---- octets that are held

no_refusal : (o : Option Fault) (fault : Fault) → o ≡ Some fault → o ≡ None → ⊥
no_refusal o fault some none = let e : None ≡ Some fault = sym none ∙ some in absurd (cc)

pub held_failed : (old new : Reader) (n : ℕ) (error : EventsError) → HoldsNoMore old n → Failed old error new → HoldsNoMore new n
held_failed old new n (Malformed malformed) few r = λ none. absurd (no_refusal (reader_refusal new) (fault_of malformed) r.refuses none)
held_failed old new n NoMemory few u = λ none. rw (u.records, u.leaves) (few (sym u.refuses ∙ none))

pub held_takes : (old new : Reader) (n : ℕ) (events : List Event) → HoldsNoMore old n → reader_next old ≡ Ok (Some events) → TakesEvents old events new → HoldsNoMore new n
held_takes old new n events few next takes =
    λ none. fed_takes old new events n (few (not_refused (reader_refusal old) _ (Some events) next)) takes

pub held_still : (old new : Reader) (n : ℕ) → HoldsNoMore old n → reader_next old ≡ Ok None → ReaderTakesNothing old new → HoldsWithin new n
held_still old new n few next nothing = fed_stays old new n (few (not_refused (reader_refusal old) _ None next)) nothing

pub held_more : (old new : Reader) (piece : List ℕ) (at n : ℕ) → HoldsWithin old at → ReaderFeeds old piece new → length piece ≡ n → HoldsNoMore new (at + n)
held_more old new piece at n fed feeds is = λ none. fed_more old new piece at n fed feeds is

-- ---- refusals

pub next_breaks : (content : Option (List ℕ)) (at to : ℕ) (old now new : Reader) (error : EventsError) (events : List Event) → FeedsUpTo content at old to now → ReaderFills (Err error) events (reader_next now) → Failed now error new → IsNextRefused content at old (of_read error) new
next_breaks content at to old now new (Malformed malformed) events fed next r = (to, now, fed, inl (next, r))
next_breaks content at to old now new NoMemory events fed next r = tt

pub next_stops : (content : Option (List ℕ)) (at to : ℕ) (old now new : Reader) (error : ReadError) → FeedsUpTo content at old to now → IsCutNow now → (IsErrOf {T = ℕ} (Err error) read.TooLarge → IfSome content (λ c. IsLarge c to)) → IsNextRefused content at old (of_input error) new
next_stops content at to old now new read.Fault fed cut large = tt
next_stops content at to old now new read.NoMemory fed cut large = tt
next_stops content at to old now new read.TooLarge fed cut large = (to, now, fed, cut, large refl)

-- ---- records come to an end

pub next_shorter : (content : Option (List ℕ)) (at to : ℕ) (old new : Reader) (events : List Event) → to ≤ 2 ^ 36 → TakesNext content at old events to new → (2 ^ 36 - to) + length (reader_left new) < (2 ^ 36 - at) + length (reader_left old)
next_shorter content at to old new events within (fed, (n, is, p), takes) = omega (arith, is, within, takes.shorter, p.size, ap length p.feeds.leaves, length-append (reader_left old) p.piece)
