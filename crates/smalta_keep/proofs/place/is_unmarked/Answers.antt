use Rattle.std.proofs.Common.{sym, ◌∙◌}
use Rattle.smalta_keep.proofs.place.is_unmarked.Goals as goal

pub returns : goal.returns
returns c = λ e. record { wide = sym c.has_wide.ensures ∙ c.if-has_wide.false; below = c.is_last.ensures e }
