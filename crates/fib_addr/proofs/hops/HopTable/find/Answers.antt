use Rattle.std.proofs.Common.{ap, ◌∙◌, ◌+◌, Some}
use Rattle.std.specs.Prelude.{option_map}
use Rattle.fib_addr.specs.Hops.{Hops, number_of}
use Rattle.fib_addr.specs.Views.{addr_as}
use Rattle.fib_addr.specs.declared.entry.Hop.{Hop}
use Rattle.fib_addr.proofs.HopLemmas.{found_holds, position_same}
use Rattle.fib_addr.proofs.hops.HopTable.find.Goals as goal

pub returns-in_err-place-clause-number : goal.returns-in_err-place-clause-number
returns-in_err-place-clause-number c =
    ap (option_map (λ (hop : Hop). hop.0)) c.from_residual.ensures
    ∙ (ap (option_map (λ place. place + 1)) (c.in_err-place.ensures.index ∙ position_same c.args.addr.now c.self.inside.hops.keys) ∙ ap (λ hops. number_of hops (addr_as c.args.addr.now)) (ap (λ (t : Hops). t.list) c.self.view_is))

pub returns-clause-number : goal.returns-clause-number
returns-clause-number c = ap Some c.hop_at_place.ensures ∙ (ap (option_map (λ place. place + 1)) (c.in_ok-place.ensures.index ∙ position_same c.args.addr.now c.self.inside.hops.keys) ∙ ap (λ hops. number_of hops (addr_as c.args.addr.now)) (ap (λ (t : Hops). t.list) c.self.view_is))

pub returns-clause-addr : goal.returns-clause-addr
returns-clause-addr c = found_holds c.args.self.now.list (addr_as c.args.addr.now) (Some c.hop_at_place.result) (returns-clause-number c)
