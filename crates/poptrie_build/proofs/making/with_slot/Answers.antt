use Rattle.std.proofs.Common.{Some, sym, ap, ◌∙◌}
use Rattle.poptrie_build.specs.Strides.{starts}
use Rattle.poptrie_build.proofs.So_far.{so_far_node, so_far_start_of_run, so_far_same, starts_other}
use Rattle.poptrie_build.proofs.making.with_slot.Goals as goal

pub returns-in-None : goal.returns-in-None
returns-in-None c = λ g e s. so_far_node g c.args.slot c.args.so_far.vector c.args.so_far.leafvec c.args.so_far.last c.requires (sym c.in-None.is ∙ e) s

pub returns-in-None-last : goal.returns-in-None-last
returns-in-None-last c = λ g e s. so_far_start_of_run g c.args.slot c.args.so_far.vector c.args.so_far.leafvec c.in-Some.hop c.args.so_far.last c.requires (sym c.in-Some.is ∙ e) (ap (starts (Some c.in-Some.hop)) c.in-None-last.is) s

pub returns-then-hop-before : goal.returns-then-hop-before
returns-then-hop-before c = λ g e s. so_far_same g c.args.slot c.args.so_far c.in-Some.hop c.requires (sym c.in-Some.is ∙ e) (c.in-Some-last.is ∙ ap Some (sym c.if-hop-before.true)) s

pub returns-else-hop-before : goal.returns-else-hop-before
returns-else-hop-before c = λ g e s. so_far_start_of_run g c.args.slot c.args.so_far.vector c.args.so_far.leafvec c.in-Some.hop c.args.so_far.last c.requires (sym c.in-Some.is ∙ e) (ap (starts (Some c.in-Some.hop)) c.in-Some-last.is ∙ starts_other c.in-Some.hop c.in-Some-last.before c.if-hop-before.false) s
