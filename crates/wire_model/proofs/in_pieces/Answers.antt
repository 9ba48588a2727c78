use Rattle.wire_model.proofs.More.{starts_so, feeds_on, takes_on, stays_too_long, stays_broken, ends_cut, ends_so, keeps_front}
use Rattle.wire_model.proofs.in_pieces.Goals as goal

pub returns : goal.returns
returns c = record { starts = starts_so; feeds = feeds_on; takes = takes_on; too_long = stays_too_long; broken = stays_broken; ends_cut = ends_cut; ends = ends_so; front = keeps_front }
