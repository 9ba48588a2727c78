use Rattle.std.proofs.Common.{Option, None, Some, ap, subst, sym, ◌∙◌}
use Rattle.std.specs.Prelude.{option_map}
use Rattle.fib_addr.specs.declared.entry.Hop.{Hop}
use Rattle.fib_engine.specs.Numbers.{IsOwnNumber}
use Rattle.fib_engine.proofs.Numbering.{put_brings, put_brings_none}
use Rattle.fib_engine.proofs.numbers.number_brought.Goals as goal

pub returns-in-Some : goal.returns-in-Some
returns-in-Some c = put_brings_none c.args.hops.now.list c.args.elem.now _ _ _ c.in-Put.hop _ c.in-Put.is (sym c.find.ensures.number ∙ ap (option_map (λ (h : Hop). h.0)) c.in-Some.is)

pub returns-in-Some-own : goal.returns-in-Some-own
returns-in-Some-own c = put_brings c.args.hops.now.list c.args.elem.now _ _ _ c.in-Put.hop (Some c.in-Some-own.number) c.in-Put.is (sym c.find.ensures.number ∙ ap (option_map (λ (h : Hop). h.0)) c.in-None.is) (subst (λ (o : Option Hop). IsOwnNumber c.args.hops.now.list c.args.elem.now o) c.in-Some-own.is c.requires)

pub returns-in-None-own : goal.returns-in-None-own
returns-in-None-own c = put_brings c.args.hops.now.list c.args.elem.now _ _ _ c.in-Put.hop None c.in-Put.is (sym c.find.ensures.number ∙ ap (option_map (λ (h : Hop). h.0)) c.in-None.is) (subst (λ (o : Option Hop). IsOwnNumber c.args.hops.now.list c.args.elem.now o) c.in-None-own.is c.requires)
