use Rattle.std.proofs.Common.{◌-◌, ap, ◌∙◌, min}
use Rattle.poptrie_build.proofs.Filled.{at_most_128}
use Rattle.path_copying.specs.Ways.{bits_left}
use Rattle.path_copying.proofs.Beside.{not_met, slot_beside}
use Rattle.path_copying.proofs.way.Way.meets.Goals as goal

pub returns : goal.returns
returns c = record {
  beside = λ ne f g agree.
      let w = c.args.self.now in
      let left = c.min-left.ensures ∙ ap (λ n. min n 6) (c.saturating_sub.ensures ∙ ap (λ n. w.prefix.len - (n - w.bits)) c.width.ensures) in
      slot_beside (bits_left w) w.bits c.args.slot f g c.requires.fits (not_met _ w.prefix.bits w.prefix.len w.bits c.min-left.result c.args.slot w.fits (at_most_128 w.prefix.family) c.requires.fits c.requires.slot left ne) agree;
}
