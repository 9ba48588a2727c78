use Rattle.std.proofs.Common.{◌≤◌, ◌<◌, ◌∙◌, ap, arith, length}
use Rattle.std.proofs.lemmas.Bool.{lt-leb}
use Rattle.table_model.specs.Address.{contains}
use Rattle.table_model.specs.Width.{width}
use Rattle.fib_addr.specs.Views.{prefix_as}
use Rattle.fib_addr.proofs.Parts.{length_prefix}
use Rattle.fib_addr.proofs.RegionLemmas.{within_first, longer_is_not_within}
use Rattle.fib_addr.proofs.prefix.Prefix.is_within.Goals as goal

pub returns-then-prefix-self : goal.returns-then-prefix-self
returns-then-prefix-self c =
    let s = c.args.self.now in
    let p = c.args.prefix.now in
    let short : length (prefix_as p).bits ≤ length (prefix_as s).bits = omega (arith, c.if-prefix-self.true, length_prefix (width p.family) p.len p.bits p.fits, length_prefix (width s.family) s.len s.bits s.fits) in
    c.contains.ensures ∙ (ap (contains (prefix_as p)) c.first_addr.ensures ∙ within_first (prefix_as s) (prefix_as p) short)

pub returns-else-prefix-self : goal.returns-else-prefix-self
returns-else-prefix-self c =
    let s = c.args.self.now in
    let p = c.args.prefix.now in
    let long : length (prefix_as s).bits < length (prefix_as p).bits = omega (arith, c.if-prefix-self.false, length_prefix (width p.family) p.len p.bits p.fits, length_prefix (width s.family) s.len s.bits s.fits) in
    lt-leb p.len s.len c.if-prefix-self.false ∙ longer_is_not_within (prefix_as s) (prefix_as p) long
