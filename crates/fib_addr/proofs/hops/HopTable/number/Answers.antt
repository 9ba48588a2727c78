use Rattle.std.proofs.Common.{ap, ◌∙◌}
use Rattle.fib_addr.specs.Hops.{Hops, with_hop}
use Rattle.fib_addr.specs.Views.{addr_as}
use Rattle.fib_addr.proofs.HopLemmas.{added_few, held_stays, inserted_as, added_distinct, added_number}
use Rattle.fib_addr.proofs.HopLists.{number_holds}
use Rattle.fib_addr.proofs.hops.HopTable.number.Goals as goal

pub returns-in-Some-clause-hops : goal.returns-in-Some-clause-hops
returns-in-Some-clause-hops c = held_stays c.args.self.now.list (addr_as c.args.addr.now) _ c.in-Some.ensures.number

pub returns-clause-number : goal.returns-clause-number
returns-clause-number c =
    added_number c.args.addr.now c.self.inside.hops.keys c.insert_full.new.self.keys c.args.self.now.list c.in_ok-hop.hop.0 c.in_ok-insert_full.ensures.keys (ap (λ (t : Hops). t.list) c.self.view_is) c.in_ok-hop.ensures.number c.in_default.ensures.number

pub returns-clause-hops : goal.returns-clause-hops
returns-clause-hops c =
    let a = c.args.addr.now in
    inserted_as a c.self.inside.hops.keys c.insert_full.new.self.keys c.in_ok-insert_full.ensures.keys ∙ ap (λ hops. with_hop hops (addr_as a)) (ap (λ (t : Hops). t.list) c.self.view_is)

pub returns-clause-addr : goal.returns-clause-addr
returns-clause-addr c = number_holds _ (addr_as c.args.addr.now) c.in_ok-hop.hop.0 (returns-clause-number c)

pub returns-clause-distinct : goal.returns-clause-distinct
returns-clause-distinct c = added_distinct c.args.addr.now c.self.inside.hops.keys c.insert_full.new.self.keys c.in_ok-insert_full.ensures.keys c.self.invariant.1

pub invariant_of-self-2 : goal.invariant_of-self-2
invariant_of-self-2 c = (
  added_few c.self.inside.hops.keys c.args.self.now.list _ _ c.fresh.result c.in_ok-hop.hop c.in_ok-insert_full.ensures.len c.self.invariant.0 (ap (λ (t : Hops). t.list) c.self.view_is) c.in_ok-hop.was c.fresh.ensures.full.1,
  added_distinct c.args.addr.now c.self.inside.hops.keys c.insert_full.new.self.keys c.in_ok-insert_full.ensures.keys c.self.invariant.1,
)
