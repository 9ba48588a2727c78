use Rattle.std.proofs.Common.{ap, ◌∙◌, ◌-◌, arith}
use Rattle.std.specs.Prelude.{option_map}
use Rattle.fib_addr.specs.Hops.{Hops}
use Rattle.fib_addr.specs.Views.{addr_as}
use Rattle.fib_addr.proofs.HopLemmas.{distinct_seen, hop_placed, seen_held, seen_number}
use Rattle.fib_addr.proofs.hops.HopTable.addr.Goals as goal

pub returns-clause-addr : goal.returns-clause-addr
returns-clause-addr c =
    ap (option_map addr_as) (c.copied.ensures ∙ c.get_index.ensures.key)
    ∙ hop_placed c.self.inside.hops.keys c.args.self.now.list c.args.hop.0 c.in_ok-place.place (omega (arith, c.in_ok-place.ensures.0, c.from.ensures)) (c.in_ok-place.ensures.1 ∙ ap (λ n. n - 1) c.from.ensures) (ap (λ (t : Hops). t.list) c.self.view_is)

pub returns-clause-held : goal.returns-clause-held
returns-clause-held c = seen_held c.args.self.now.list c.args.hop.0 c.copied.result (returns-clause-addr c)

pub returns-clause-number : goal.returns-clause-number
returns-clause-number c =
    seen_number c.args.self.now.list c.args.hop.0 c.copied.result (distinct_seen c.self.inside.hops.keys c.args.self.now.list (ap (λ (t : Hops). t.list) c.self.view_is) c.self.invariant.1) (returns-clause-addr c)
