-- A reader that was fed so many octets at most: the records read and the octets left are no more.
use Rattle.std.proofs.Common.{◌≡◌, ℕ, ◌+◌, List, [], length, ap, arith}
use Rattle.std.proofs.lemmas.List.{length-append}
use Rattle.route_model.specs.Events.{Event}
use Rattle.wire_model.specs.Input.{start}
use Rattle.mrt_read.specs.InputReading as input
use Rattle.mrt_read.specs.Standing.{ReaderFeeds, ReaderStands, ReaderTakesNothing, TakesEvents, reader_left}
use Rattle.mrt_read.specs.declared.reader.Reader.{Reader}

abbrev pub IsFed : Reader → ℕ → Type 0
IsFed = input.HoldsWithin

pub fed_at_start : (r : Reader) → reader_left r ≡ [] → ReaderStands [] start r → IsFed r 0
fed_at_start r nothing stands = omega (arith, stands.records, ap length nothing)

pub fed_more : (old new : Reader) (piece : List ℕ) (at n : ℕ) → IsFed old at → ReaderFeeds old piece new → length piece ≡ n → IsFed new (at + n)
fed_more old new piece at n fed feeds is = omega (arith, is, fed, feeds.records, ap length feeds.leaves, length-append (reader_left old) piece)

pub fed_takes : (old new : Reader) (events : List Event) (at : ℕ) → IsFed old at → TakesEvents old events new → IsFed new at
fed_takes old new events at fed takes = omega (arith, fed, takes.counts, takes.shorter)

pub fed_stays : (old new : Reader) (at : ℕ) → IsFed old at → ReaderTakesNothing old new → IsFed new at
fed_stays old new at fed stays = omega (arith, fed, stays.records, ap length stays.leaves)
