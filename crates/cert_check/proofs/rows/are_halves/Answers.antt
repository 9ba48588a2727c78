use Rattle.std.proofs.Common.{◌≡◌, ◌∙◌, length}
use Rattle.table_model.specs.Width.{width}
use Rattle.fib_addr.specs.Views.{prefix_as}
use Rattle.fib_addr.proofs.Parts.{length_prefix}
use Rattle.cert_check.proofs.Holding.{prefix_short}
use Rattle.cert_check.proofs.Stacks.{no_halves}
use Rattle.cert_check.proofs.rows.are_halves.Goals as goal

pub returns-then-prefix-width : goal.returns-then-prefix-width
returns-then-prefix-width c =
    let p = c.args.prefix.now in
    let e : length (prefix_as p).bits ≡ width p.family = length_prefix (width p.family) p.len p.bits p.fits ∙ (c.if-prefix-width.true ∙ c.width.ensures) in
    no_halves (prefix_as p) (prefix_as c.args.low.now) (prefix_as c.args.high.now) (prefix_short c.args.low.now) e
