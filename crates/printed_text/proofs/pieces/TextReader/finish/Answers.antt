use Rattle.std.proofs.Common.{subst}
use Rattle.printed_text.specs.Pieces.{BreaksAtLine, TextStands}
use Rattle.printed_text.proofs.Feeds.{bad_end}
use Rattle.printed_text.proofs.pieces.TextReader.finish.Goals as goal

pub returns-in-Refused : goal.returns-in-Refused
returns-in-Refused c = λ fed s.
    let bad : BreaksAtLine fed c.in-Refused.bad = subst (TextStands fed) c.in-Refused.is s in
    bad_end fed c.in-Refused.bad bad
