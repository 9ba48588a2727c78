use Rattle.std.proofs.Common.{Option, refl, sym, ap, subst, ◌∙◌}
use Rattle.std.specs.Prelude.{not, option_map}
use Rattle.fib_addr.specs.Views.{addr_as}
use Rattle.fib_addr.specs.declared.addr.Addr.{Addr}
use Rattle.fib_addr.specs.declared.entry.Hop.{Hop}
use Rattle.fib_engine.specs.Numbers.{HasNumber, number_or_none}
use Rattle.fib_engine.proofs.numbers.changed_route.Goals as goal
use Rattle.fib_engine.proofs.numbers.changed_route.Goals.{in-Some, in-None}

pub returns : goal.returns
returns c = λ after elem e own has. (
  c.is_same.ensures ∙ ap not c.if-is_same.false,
  refl,
  elim c.match-choice.branch [
    | in-Some w ↦
        ap (λ (h : Hop). h.0) w.hop-is
        ∙ (w.number_after-hop.ensures after elem e own (subst (λ (o : Option Addr). HasNumber after (option_map addr_as o)) w.in-Some.is has) ∙ ap (λ (o : Option Addr). number_or_none after (option_map addr_as o)) (sym w.in-Some.is))
    | in-None w ↦ ap (λ (h : Hop). h.0) w.hop-is ∙ ap (λ (o : Option Addr). number_or_none after (option_map addr_as o)) (sym w.in-None.is)
  ],
)
