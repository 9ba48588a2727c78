use Rattle.std.proofs.Common.{sym, ap, ◌∙◌}
use Rattle.table_model.specs.Entries.{match_in}
use Rattle.fib_addr.specs.Views.{addr_as}
use Rattle.poptrie_build.specs.Tries.{visits_of}
use Rattle.poptrie_update.specs.Lives.{Living}
use Rattle.fib_engine.specs.Held.{engine_routes}
use Rattle.fib_router.specs.Router.{Routing, published_to}
use Rattle.fib_router.proofs.Looking.{family_of, hop_of, rest_of, visits_by}
use Rattle.fib_router.proofs.router.Router.lookup.Goals as goal

pub lookup-requires : goal.lookup-requires
lookup-requires g c =
    let t = c.self.inside in
    record { family = sym (ap (λ (l : Living). l.selected.family) c.of.ensures ∙ family_of t.lower.held t.lower.planned t.lives c.args.addr.now.family c.self.invariant) }

pub returns-clause-hop : goal.returns-clause-hop
returns-clause-hop g c =
    let t = c.self.inside in
    hop_of t.lower.held t.lower.planned t.lives c.args.addr.now c.of.result.now c.lookup.result c.of.ensures c.self.invariant c.lookup.ensures.hop ∙ ap (λ (r : Routing). match_in (published_to r c.args.addr.now) (addr_as c.args.addr.now)) c.self.view_is

pub returns-clause-rest : goal.returns-clause-rest
returns-clause-rest g c = λ none.
    let t = c.self.inside in
    rest_of t.lower.held t.lower.planned t.lives c.args.addr.now c.of.result.now c.lookup.result c.of.ensures c.self.invariant c.lookup.ensures.hop (ap (λ (r : Routing). r.begun) c.self.view_is ∙ none) ∙ ap (λ (r : Routing). match_in (engine_routes r.held) (addr_as c.args.addr.now)) c.self.view_is

pub returns-clause-visits : goal.returns-clause-visits
returns-clause-visits g c =
    let t = c.self.inside in
    visits_by t.lower.held t.lower.planned t.lives c.args.addr.now c.of.result.now c.lookup.result c.of.ensures c.self.invariant c.lookup.ensures.visits ∙ ap (λ (r : Routing). visits_of r.held.sizes.direct (published_to r c.args.addr.now) (addr_as c.args.addr.now)) c.self.view_is
