use Rattle.route_choice.proofs.AllRoutes.{route_pushed, no_route}
use Rattle.route_choice.proofs.routes.push_route.Goals as goal

pub returns-in_ok-push : goal.returns-in_ok-push
returns-in_ok-push c = λ paths b. route_pushed paths c.args.prefix.now c.args.best c.in-Some.best c.hop.result _ _ b c.in-Some.is c.hop.ensures c.in_ok-push.ensures.items

pub returns-in_default : goal.returns-in_default
returns-in_default c = λ paths b. no_route paths c.args.prefix.now c.args.best _ b c.in_default.is
