use Rattle.std.proofs.Common.{ap, ◌∙◌}
use Rattle.fib_addr.specs.Views.{addr_as}
use Rattle.kept_model.specs.Feed.{number_in}
use Rattle.route_choice.proofs.AllEntries.{entry_pushed, no_entry}
use Rattle.route_choice.proofs.entries.push_entry.Goals as goal

pub returns-in_ok-push : goal.returns-in_ok-push
returns-in_ok-push c = λ paths b. entry_pushed c.args.hops.now.list paths c.args.prefix.now c.args.best c.in-Some.best c.number-hop.result _ _ b c.in-Some.is (c.number-hop.ensures ∙ ap (λ h. number_in c.args.hops.now.list (addr_as h)) c.hop.ensures) c.in_ok-push.ensures.items

pub returns-in_default : goal.returns-in_default
returns-in_default c = λ paths b. no_entry c.args.hops.now.list paths c.args.prefix.now c.args.best _ b c.in_default.is
