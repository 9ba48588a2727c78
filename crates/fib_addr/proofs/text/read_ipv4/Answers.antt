use Rattle.std.proofs.Common.{ap, ◌∙◌, Some}
use Rattle.std.specs.Prelude.{option_map}
use Rattle.fib_addr.specs.Views.{addr_as}
use Rattle.fib_addr.proofs.Dots.{no_first, no_second, no_third, no_last, all_four}
use Rattle.fib_addr.proofs.text.read_ipv4.Goals as goal

pub returns-in_err-a : goal.returns-in_err-a
returns-in_err-a c = ap (option_map addr_as) c.from_residual.ensures ∙ no_first c.args.text.now c.in_err-a.ensures.none

pub returns-in_err-b : goal.returns-in_err-b
returns-in_err-b c =
    ap (option_map addr_as) c.from_residual-in_err-b.ensures ∙ no_second c.args.text.now c.in_ok-a.text.now c.in_ok-a.a c.in_ok-a.ensures.fits c.in_ok-a.ensures.some c.in_err-b.ensures.none

pub returns-in_err-c : goal.returns-in_err-c
returns-in_err-c c =
    ap (option_map addr_as) c.from_residual-in_err-c.ensures
    ∙ no_third c.args.text.now c.in_ok-a.text.now c.in_ok-b.text.now c.in_ok-a.a c.in_ok-b.b c.in_ok-a.ensures.fits c.in_ok-b.ensures.fits c.in_ok-a.ensures.some c.in_ok-b.ensures.some c.in_err-c.ensures.none

pub returns-in_err-d : goal.returns-in_err-d
returns-in_err-d c =
    ap (option_map addr_as) c.from_residual-in_err-d.ensures
    ∙ no_last c.args.text.now c.in_ok-a.text.now c.in_ok-b.text.now c.in_ok-c.text.now c.in_ok-a.a c.in_ok-b.b c.in_ok-c.c c.in_ok-a.ensures.fits c.in_ok-b.ensures.fits c.in_ok-c.ensures.fits c.in_ok-a.ensures.some c.in_ok-b.ensures.some c.in_ok-c.ensures.some c.in_err-d.ensures.value

pub returns : goal.returns
returns c =
    ap Some c.v4.ensures
    ∙ all_four c.args.text.now c.in_ok-a.text.now c.in_ok-b.text.now c.in_ok-c.text.now c.in_ok-a.a c.in_ok-b.b c.in_ok-c.c c.in_ok-d.d c.from_be_bytes.result c.in_ok-a.ensures.fits c.in_ok-b.ensures.fits c.in_ok-c.ensures.fits c.in_ok-a.ensures.some c.in_ok-b.ensures.some c.in_ok-c.ensures.some c.in_ok-d.ensures.value c.from_be_bytes.ensures
