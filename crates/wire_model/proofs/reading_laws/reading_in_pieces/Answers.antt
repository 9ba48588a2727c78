use Rattle.wire_model.proofs.Reading.{reading_starts, reading_feeds, reading_takes, reading_breaks, reading_too_long, reading_stays, reading_ends_cut, reading_ends}
use Rattle.wire_model.proofs.reading_laws.reading_in_pieces.Goals as goal

pub returns : goal.returns
returns c = record {
  starts = reading_starts;
  feeds = reading_feeds;
  takes = reading_takes;
  breaks = reading_breaks;
  too_long = reading_too_long;
  stays = reading_stays;
  ends_cut = reading_ends_cut;
  ends = reading_ends;
}
