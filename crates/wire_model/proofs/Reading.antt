-- An input that comes in pieces, with all that it says.
use Rattle.std.proofs.Common.{◌≡◌, ℕ, ◌<◌, List, [], ◌++◌, length, Option, Result, Ok, Err, refl, sym, ap, ◌∙◌, append_assoc, append-nil, length-append, arith}
use Rattle.route_model.specs.Events.{Peer}
use Rattle.octet_fields.specs.Field.{◌>>=◌, steps, until_end}
use Rattle.wire_model.specs.declared.rule.Rule.{Rule}
use Rattle.wire_model.specs.declared.rule.Rule.TheVariants.{TooLong}
use Rattle.wire_model.specs.Record.{Record, record_at}
use Rattle.wire_model.specs.Update.{Said}
use Rattle.wire_model.specs.Input.{Progress, or_stop, record_in, counted, read_record, input}
use Rattle.wire_model.specs.Reading.{ReadingStarts, ReadingFeeds, ReadingTakes, ReadingBreaks, ReadingTooLong, ReadingStays, ReadingEndsCut, ReadingEnds}
use Rattle.wire_model.proofs.More.{Shortens, bind_ok, record_more, record_over, until_end_next, until_end_fault}

went_on : {A : Type 0} (read : Progress) (r : Result A Rule) (x : A) → or_stop read r ≡ Ok x → r ≡ Ok x
went_on read (Ok y) x e = let same : y ≡ x = cc in ap (λ (z : _). Ok z) same
went_on read (Err f) x e = absurd cc

same_value : {A F : Type 0} (r : Result A F) (x y : A) → r ≡ Ok x → r ≡ Ok y → x ≡ y
same_value r x y e h = let both : r ≡ Ok x = e in cc

takes : (read : Progress) (octets after : List ℕ) (r : Record) (told : Option (List Peer) × Option Said) → record_at octets ≡ Ok (r, after) → record_in read.peers r ≡ Ok told → read_record read octets ≡ Ok (counted read told, after)
unfolding read_record
takes read octets after r told e h = rw (e, h) refl

breaks : (read : Progress) (octets after : List ℕ) (r : Record) (rule : Rule) → record_at octets ≡ Ok (r, after) → record_in read.peers r ≡ Err rule → read_record read octets ≡ Err (record { read = read; rule = rule })
unfolding read_record
breaks read octets after r rule e h = rw (e, h) refl

no_record : (read : Progress) (octets : List ℕ) (rule : Rule) → record_at octets ≡ Err rule → read_record read octets ≡ Err (record { read = read; rule = rule })
unfolding read_record
no_record read octets rule e = rw e refl

pub shortens : Shortens read_record
unfolding read_record
shortens = record {
  by = λ read next octets after e.
      let a = went_on read (record_at octets >>= λ r. record_in read.peers r.0 >>= λ told. Ok (counted read told, r.1)) (next, after) e in
      let b = bind_ok (record_at octets) (λ r. record_in read.peers r.0 >>= λ told. Ok (counted read told, r.1)) (next, after) a in
      let c = bind_ok (record_in read.peers b.0.0) (λ told. Ok (counted read told, b.0.1)) (next, after) b.2 in
      let same = same_value _ (counted read c.0, b.0.1) (next, after) refl c.2 in
      let shorter = record_more octets [] b.0.0 b.0.1 b.1 in
      omega (arith, shorter.1, ap (λ (q : Progress × List ℕ). length q.1) same);
}

pub reading_starts : ReadingStarts
unfolding input
reading_starts = record { whatever = λ more. refl }

pub reading_feeds : ReadingFeeds
reading_feeds fed piece left read t = record { whatever = λ more. ap input (append_assoc fed piece more) ∙ (t.whatever (piece ++ more) ∙ ap (until_end read_record read) (sym (append_assoc left piece more))) }

pub reading_takes : ReadingTakes
reading_takes fed left after read r told t e h = record {
  whatever = λ more.
      let long = record_more left more r after e in
      t.whatever more ∙ until_end_next read_record shortens read (counted read told) (left ++ more) (after ++ more) (takes read (left ++ more) (after ++ more) r told long.0 h);
}

some_left : (left more : List ℕ) (r : Record) (after : List ℕ) → record_at left ≡ Ok (r, after) → 0 < length (left ++ more)
some_left left more r after e = let long = record_more left more r after e in omega (arith, long.1, length-append left more)

pub reading_breaks : ReadingBreaks
reading_breaks fed left after read r rule t e h = record {
  whatever = λ more.
      let long = record_more left more r after e in
      t.whatever more ∙ until_end_fault read_record read (left ++ more) (record { read = read; rule = rule }) (some_left left more r after e) (breaks read (left ++ more) (after ++ more) r rule long.0 h);
}

pub reading_too_long : ReadingTooLong
reading_too_long fed left read t over = record {
  whatever = λ more.
      let long = record_over left more over in
      t.whatever more ∙ until_end_fault read_record read (left ++ more) (record { read = read; rule = TooLong }) (omega (arith, long.1, length-append left more)) (no_record read (left ++ more) TooLong long.0);
}

pub reading_stays : ReadingStays
reading_stays fed piece stopped b = record { whatever = λ more. ap input (append_assoc fed piece more) ∙ b.whatever (piece ++ more) }

pub reading_ends_cut : ReadingEndsCut
reading_ends_cut fed left read rule t some e =
    ap input (sym (append-nil fed)) ∙ (t.whatever [] ∙ (ap (until_end read_record read) (append-nil left) ∙ until_end_fault read_record read left (record { read = read; rule = rule }) some (no_record read left rule e)))

pub reading_ends : ReadingEnds
unfolding steps
reading_ends fed read t = ap input (sym (append-nil fed)) ∙ t.whatever []
