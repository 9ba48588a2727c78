use Rattle.std.proofs.Common.{ap, ◌∙◌}
use Rattle.std.specs.Prelude.{option_map}
use Rattle.fib_addr.specs.Views.{prefix_as}
use Rattle.fib_addr.proofs.PrefixTexts.{no_slash, prefix_read}
use Rattle.fib_addr.proofs.text.read_prefix.Goals as goal

pub returns-in_err-slash : goal.returns-in_err-slash
returns-in_err-slash c = ap (option_map prefix_as) c.from_residual.ensures ∙ no_slash c.args.text.now c.in_err-slash.ensures

pub returns : goal.returns
returns c =
    prefix_read c.args.text.now c.in_ok-slash.slash c.in_ok-len.len c.from.result c.in_ok-addr.addr c.first_addr.result c.new-prefix.result c.eq.result c.then_some.result
    c.in_ok-slash.ensures c.in_ok-addr.ensures c.in_ok-len.ensures.value (c.from.ensures ∙ c.width.ensures) c.in_ok-len.ensures.fits c.new-prefix.ensures c.first_addr.ensures c.eq.ensures c.then_some.ensures
