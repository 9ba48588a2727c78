use Rattle.std.proofs.Common.{refl, sym, ap, ◌∙◌}
use Rattle.table_model.specs.Sets.{is_in}
use Rattle.fib_addr.proofs.Ones.{ones_meet, ones_joint, ones_apart, ones_all}
use Rattle.fib_addr.proofs.hop_set.join_ones.Goals as goal

pub returns-then-a-b-clause-hops : goal.returns-then-a-b-clause-hops
returns-then-a-b-clause-hops c = λ h. ap (is_in h) (c.one.ensures ∙ sym (ones_joint c.args.a c.args.b c.if-a-b.true))

pub returns-then-a-b-clause-apart : goal.returns-then-a-b-clause-apart
returns-then-a-b-clause-apart c = (λ t. cc, λ e. let f = sym (ones_meet c.args.a c.args.b c.if-a-b.true) ∙ e in cc)

pub returns-clause-hops : goal.returns-clause-hops
returns-clause-hops c = λ h. c.two.ensures h ∙ ap (is_in h) (sym (ones_all c.args.a c.args.b c.if-a-b.false))

pub returns-clause-apart : goal.returns-clause-apart
returns-clause-apart c = (λ t. ones_apart c.args.a c.args.b c.if-a-b.false, λ e. refl)
