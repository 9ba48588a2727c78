-- How a framer stands.
use Rattle.std.proofs.Common.{◌≡◌, true, false, ℕ, ◌+◌, ◌-◌, ◌<◌, ◌≤◌, List, [], ◌∷◌, ◌++◌, length, take, drop, Option, Some, None, IfNone, Result, Ok, Err, refl, sym, ap, ◌∙◌, inl, inr, arith, length-take}
use Rattle.std.specs.Prelude.{◌⊎◌}
use Rattle.std.proofs.lemmas.Grind.{fold-append}
use Rattle.std.proofs.lemmas.List.{append-nil, length-append, length-drop, take_rest, drop-drop}
use Rattle.wire_model.specs.Record.{Record, Fault, record_at, records_in}
use Rattle.wire_model.specs.Pieces.{TakesRecords, Breaks}
use Rattle.wire_model.specs.declared.rule.Rule.{Rule}
use Rattle.wire_model.specs.declared.rule.Rule.TheVariants.{HeaderCut, BodyCut, TooLong, PeerTableForm, NoPeerTable, PrefixLength, PeerIndex, RibForm, AttributeCut, AttributeValue, SecondMp, SessionForm, MessageLength, UpdateLengths}
use Rattle.wire_model.proofs.More.{record_more, takes_on, stays_too_long, ends_cut, ends_so}
use Rattle.mrt_read.specs.declared.framer.Framer.{Framer}
use Rattle.std.specs.List.{sum_by}
use Rattle.mrt_read.specs.Records.{is_long, IsOfFrames, most_left, record_size}
use Rattle.mrt_read.specs.Framing.{framer_left, framer_count, framer_refusal, left_before, FramerStands, TakesRecord, LetsGo, FramerTakesNothing, FramerRefuses, framer_next_in, framer_next}

-- ---- a refusal is kept, or none is

pub stands_on : (fed : List ℕ) (taken : List Record) (f : Framer) → framer_refusal f ≡ None → framer_count f ≡ length taken → length fed ≡ sum_by record_size taken + length (framer_left f) → TakesRecords fed taken (framer_left f) → FramerStands fed taken f
stands_on fed taken f none n o t = record { counts = n; octets = o; goes_on = rw none t; refuses = rw none tt }

pub stands_refused : (fed : List ℕ) (taken : List Record) (f : Framer) (fault : Fault) → framer_refusal f ≡ Some fault → framer_count f ≡ length taken → length fed ≡ sum_by record_size taken + length (framer_left f) → Breaks fed fault → FramerStands fed taken f
stands_refused fed taken f fault kept n o b = record { counts = n; octets = o; goes_on = rw kept tt; refuses = rw kept b }

pub takes_of : (fed : List ℕ) (taken : List Record) (f : Framer) → framer_refusal f ≡ None → FramerStands fed taken f → TakesRecords fed taken (framer_left f)
takes_of fed taken f none s = rw none at s.goes_on

pub breaks_of : (fed : List ℕ) (taken : List Record) (f : Framer) (fault : Fault) → framer_refusal f ≡ Some fault → FramerStands fed taken f → Breaks fed fault
breaks_of fed taken f fault kept s = rw kept at s.refuses

breaks_cut : (fed : List ℕ) (fault : Fault) → Breaks fed fault → records_in fed ≡ Err fault
breaks_cut fed fault b = ap records_in (sym (append-nil fed)) ∙ b.whatever []

-- ---- what next leaves

octets_on : (taken : List Record) (r : Record) (fed old new : ℕ) → fed ≡ sum_by record_size taken + old → old ≡ record_size r + new → fed ≡ sum_by record_size (taken ++ r ∷ []) + new
octets_on taken r fed old new o l = omega (arith, fold-append (λ a (x : Record). a + record_size x) 0 taken (r ∷ []))

pub takes_record : (old new : Framer) (r : Record) → framer_refusal old ≡ None → framer_refusal new ≡ None → record_at (framer_left old) ≡ Ok (r, framer_left new) → length (framer_left old) ≡ record_size r + length (framer_left new) → framer_count new ≡ framer_count old + 1 → new.last < new.at → left_before new ≡ framer_left old → TakesRecord old r new
takes_record old new r none still front l n behind before = record {
  front = front;
  shorter = (record_more (framer_left old) [] r (framer_left new) front).1;
  counts = n;
  refuses = still;
  has_taken = record { behind = behind; counted = omega (arith, n) };
  before = before;
  stands = λ fed taken s.
      stands_on fed (taken ++ r ∷ []) new still (n ∙ (ap (λ k. k + 1) s.counts ∙ sym (length-append taken (r ∷ [])))) (octets_on taken r (length fed) (length (framer_left old)) (length (framer_left new)) s.octets l)
      (takes_on fed (framer_left old) (framer_left new) taken r (takes_of fed taken old none s) front);
}

-- a Length over the limit is refused
pub refuses_length : (old new : Framer) → framer_refusal old ≡ None → framer_refusal new ≡ Some (record { number = framer_count old; rule = TooLong }) → record_at (framer_left old) ≡ Err TooLong → framer_left new ≡ framer_left old → framer_count new ≡ framer_count old → FramerRefuses old (record { number = framer_count old; rule = TooLong }) new
refuses_length old new none kept over same n =
    let breaks : (fed : List ℕ) (taken : List Record) → FramerStands fed taken old → Breaks fed (record { number = framer_count old; rule = TooLong })
    = λ fed taken s. rw s.counts (stays_too_long fed (framer_left old) taken (takes_of fed taken old none s) over) in
    record {
      leaves = same;
      counts = n;
      refuses = kept;
      used_up = rw kept tt;
      breaks = breaks;
      tells = λ fed taken s. breaks_cut fed (record { number = framer_count old; rule = TooLong }) (breaks fed taken s);
      stands = λ fed taken s. stands_refused fed taken new (record { number = framer_count old; rule = TooLong }) kept (n ∙ s.counts) (s.octets ∙ ap (λ (xs : List ℕ). sum_by record_size taken + length xs) (sym same)) (breaks fed taken s);
    }

-- a refusal that is kept is answered again
pub refuses_again : (f : Framer) (fault : Fault) → framer_refusal f ≡ Some fault → FramerRefuses f fault f
refuses_again f fault kept = record {
  leaves = refl;
  counts = refl;
  refuses = kept;
  used_up = rw kept tt;
  breaks = λ fed taken s. breaks_of fed taken f fault kept s;
  tells = λ fed taken s. breaks_cut fed fault (breaks_of fed taken f fault kept s);
  stands = λ fed taken s. s;
}

-- ---- what stands at the front

pub front_is : (items s t : List ℕ) (at len kind sub : ℕ) → s ≡ items → t ≡ items → record_at (take (length s - at) (drop at s)) ≡ Ok (record { kind = kind; subtype = sub; body = take len (drop 12 (take (length s - at) (drop at s))) }, drop (12 + len) (take (length s - at) (drop at s))) → record_at (drop at items) ≡ Ok (record { kind = kind; subtype = sub; body = take (at + 12 + len - (at + 12)) (drop (at + 12) t) }, drop (at + 12 + len) items)
front_is items s t at len kind sub same again e =
    let whole = rw (same, take_rest items at, drop-drop 12 at items, drop-drop (12 + len) at items) at e in
    let some : at + 12 + len - (at + 12) ≡ len = omega arith in
    let all : at + 12 + len ≡ at + (12 + len) = omega arith in
    rw (again, some, all) whole

pub front_fault : (items s : List ℕ) (at : ℕ) (rule : Rule) → s ≡ items → record_at (take (length s - at) (drop at s)) ≡ Err rule → record_at (drop at items) ≡ Err rule
front_fault items s at rule same e = rw (same, take_rest items at) at e

pub front_few : (items s : List ℕ) (at : ℕ) → s ≡ items → length (take (length s - at) (drop at s)) ≤ most_left → length (drop at items) ≤ most_left
front_few items s at same few = rw (same, take_rest items at) at few

-- the octets of a record that was taken
pub record_length : (items t : List ℕ) (at len : ℕ) → t ≡ items → at + 12 + len ≤ length items → length (drop at items) ≡ 12 + length (take (at + 12 + len - (at + 12)) (drop (at + 12) t)) + length (drop (at + 12 + len) items)
record_length items t at len same within =
    omega (arith, same_length, length-drop at items, length-drop (at + 12) t, length-drop (at + 12 + len) items, length-take (at + 12 + len - (at + 12)) (drop (at + 12) t))
  where
    same_length : length t ≡ length items
    same_length = ap length same

pub next_is : (f : Framer) (read : Result (Record × List ℕ) Rule) → framer_refusal f ≡ None → record_at (framer_left f) ≡ read → framer_next f ≡ framer_next_in (framer_count f) read
next_is f read none e = rw (none, e)

pub next_kept : (f : Framer) (fault : Fault) → framer_refusal f ≡ Some fault → framer_next f ≡ Err fault
next_kept f fault kept = rw kept refl

pub next_fault : (f : Framer) → framer_refusal f ≡ None → record_at (framer_left f) ≡ Err TooLong → framer_next f ≡ Err (record { number = framer_count f; rule = TooLong })
next_fault f none e = next_is f (Err TooLong) none e

-- a header or a body is cut
pub next_none : (f : Framer) (rule : Rule) → framer_refusal f ≡ None → record_at (framer_left f) ≡ Err rule → IsOfFrames rule → (rule ≡ TooLong → ⊥) → framer_next f ≡ Ok None
next_none f rule none e of other = next_is f (Err rule) none e ∙ by_rule rule of other
  where
    by_rule : (rule : Rule) → IsOfFrames rule → (rule ≡ TooLong → ⊥) → framer_next_in (framer_count f) (Err rule) ≡ Ok None
    by_rule HeaderCut of other = refl
    by_rule BodyCut of other = refl
    by_rule TooLong of other = absurd (other refl)
    by_rule PeerTableForm of other = absurd of
    by_rule NoPeerTable of other = absurd of
    by_rule PrefixLength of other = absurd of
    by_rule PeerIndex of other = absurd of
    by_rule RibForm of other = absurd of
    by_rule AttributeCut of other = absurd of
    by_rule AttributeValue of other = absurd of
    by_rule SecondMp of other = absurd of
    by_rule SessionForm of other = absurd of
    by_rule MessageLength of other = absurd of
    by_rule UpdateLengths of other = absurd of

if_none : {P : Type 0} (o : Option Fault) → P → IfNone o P
if_none None p = p
if_none (Some fault) p = tt

pub is_the_length : (rule : Rule) → is_long rule ≡ true → rule ≡ TooLong
is_the_length HeaderCut e = absurd cc
is_the_length BodyCut e = absurd cc
is_the_length TooLong e = refl
is_the_length PeerTableForm e = absurd cc
is_the_length NoPeerTable e = absurd cc
is_the_length PrefixLength e = absurd cc
is_the_length PeerIndex e = absurd cc
is_the_length RibForm e = absurd cc
is_the_length AttributeCut e = absurd cc
is_the_length AttributeValue e = absurd cc
is_the_length SecondMp e = absurd cc
is_the_length SessionForm e = absurd cc
is_the_length MessageLength e = absurd cc
is_the_length UpdateLengths e = absurd cc

true_is_not : true ≡ false → ⊥
true_is_not e = cc

pub is_another : (rule : Rule) → is_long rule ≡ false → rule ≡ TooLong → ⊥
is_another rule e same = true_is_not (sym (ap is_long same) ∙ e)

cut_somewhere : (rule : Rule) (read : Result (Record × List ℕ) Rule) → read ≡ Err rule → IsOfFrames rule → (rule ≡ TooLong → ⊥) → (read ≡ Err HeaderCut) ⊎ (read ≡ Err BodyCut)
cut_somewhere HeaderCut read e of other = inl e
cut_somewhere BodyCut read e of other = inr e
cut_somewhere TooLong read e of other = absurd (other refl)
cut_somewhere PeerTableForm read e of other = absurd of
cut_somewhere NoPeerTable read e of other = absurd of
cut_somewhere PrefixLength read e of other = absurd of
cut_somewhere PeerIndex read e of other = absurd of
cut_somewhere RibForm read e of other = absurd of
cut_somewhere AttributeCut read e of other = absurd of
cut_somewhere AttributeValue read e of other = absurd of
cut_somewhere SecondMp read e of other = absurd of
cut_somewhere SessionForm read e of other = absurd of
cut_somewhere MessageLength read e of other = absurd of
cut_somewhere UpdateLengths read e of other = absurd of

-- what was let go changes nothing of how the framer stands
stands_let_go : (old new : Framer) → LetsGo old new → (fed : List ℕ) (taken : List Record) → FramerStands fed taken old → FramerStands fed taken new
stands_let_go old new go fed taken s = record {
  counts = rw go.counts s.counts;
  octets = rw go.leaves s.octets;
  goes_on = rw (go.leaves, go.refuses) s.goes_on;
  refuses = rw go.refuses s.refuses;
}

pub takes_nothing : (old new : Framer) (rule : Rule) → LetsGo old new → framer_refusal old ≡ None → record_at (framer_left old) ≡ Err rule → IsOfFrames rule → (rule ≡ TooLong → ⊥) → length (framer_left old) ≤ most_left → FramerTakesNothing old new
takes_nothing old new rule go none e of other few =
    let still : framer_refusal new ≡ None = rw go.refuses none in
    let cut : record_at (framer_left new) ≡ Err rule = rw go.leaves e in
    record {
      is_cut = cut_somewhere rule (record_at (framer_left new)) cut of other;
      few = rw go.leaves few;
      alone = go.alone;
      leaves = go.leaves;
      counts = go.counts;
      refuses = still;
      used_up = if_none (framer_refusal new) (next_none new rule still cut of other);
      stands = stands_let_go old new go;
    }

-- ---- the end

pub ends_refused : (fed : List ℕ) (taken : List Record) (f : Framer) (fault : Fault) → framer_refusal f ≡ Some fault → FramerStands fed taken f → records_in fed ≡ Err fault
ends_refused fed taken f fault kept s = breaks_cut fed fault (breaks_of fed taken f fault kept s)

pub ends_in_fault : (fed : List ℕ) (taken : List Record) (f : Framer) (rule : Rule) → framer_refusal f ≡ None → 0 < length (framer_left f) → record_at (framer_left f) ≡ Err rule → FramerStands fed taken f → records_in fed ≡ Err (record { number = framer_count f; rule = rule })
ends_in_fault fed taken f rule none some e s = rw s.counts (ends_cut fed (framer_left f) taken rule (takes_of fed taken f none s) some e)

pub ends_whole : (fed : List ℕ) (taken : List Record) (f : Framer) → framer_refusal f ≡ None → framer_left f ≡ [] → FramerStands fed taken f → records_in fed ≡ Ok taken
ends_whole fed taken f none all s = ends_so fed taken (rw all at (takes_of fed taken f none s))
