use Rattle.std.proofs.Common.{sym, ap, ◌∙◌}
use Rattle.fib_addr.specs.Views.{addr_as}
use Rattle.kept_model.specs.Feed.{number_in}
use Rattle.adj_rib_in.specs.Flat.{paths_over}
use Rattle.route_choice.proofs.AllEntries.{nothing_best}
use Rattle.route_choice.proofs.FamilyWalks.{no_best, other_family, own_best}
use Rattle.route_choice.proofs.family_routes.route_in.Goals as goal

pub returns-then-not-is_of : goal.returns-then-not-is_of
returns-then-not-is_of c = λ over a n. other_family c.args.family c.args.hops.now.list (paths_over c.args.flat.now over) c.args.prefix.now (sym c.is_of.ensures ∙ c.if-not-is_of.true)

pub returns-in-Some : goal.returns-in-Some
returns-in-Some c = λ over a n.
    own_best c.args.family c.args.hops.now.list (paths_over c.args.flat.now over) c.args.prefix.now c.best_in.result c.in-Some.best c.number-hop.result (sym c.is_of.ensures ∙ c.if-not-is_of.false) (c.best_in.ensures over a (nothing_best over c.args.prefix.now n)) c.in-Some.is
    (c.number-hop.ensures ∙ ap (λ h. number_in c.args.hops.now.list (addr_as h)) c.hop.ensures)

pub returns-in-None : goal.returns-in-None
returns-in-None c = λ over a n. no_best c.args.family c.args.hops.now.list (paths_over c.args.flat.now over) c.args.prefix.now c.best_in.result (c.best_in.ensures over a (nothing_best over c.args.prefix.now n)) c.in-None.is
