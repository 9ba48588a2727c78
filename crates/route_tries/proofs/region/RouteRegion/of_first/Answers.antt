use Rattle.std.proofs.Common.{◌≡◌, take, length, ap, sym, ◌∙◌, arith}
use Rattle.std.specs.Prelude.{min}
use Rattle.std.proofs.lemmas.List.{length-take}
use Rattle.table_model.specs.Address.{Prefix, first_bits}
use Rattle.fib_addr.specs.Views.{prefix_as}
use Rattle.fib_addr.proofs.Prefixes.{prefix_length}
use Rattle.route_tries.proofs.Going.{prefix_answers, first_taken}
use Rattle.route_tries.proofs.region.RouteRegion.of_first.Goals as goal

pub returns-clause-bits : goal.returns-clause-bits
returns-clause-bits c =
    let p = prefix_as c.args.prefix.now in
    let e = ap (λ (q : Prefix). q.bits) (c.new-first.ensures ∙ ap (first_bits c.args.depth) c.first_addr.ensures) ∙ first_taken c.args.depth p.bits _ (omega (arith, prefix_length c.args.prefix.now, c.requires.few)) in
    let taken : length (take c.args.depth p.bits) ≡ min c.args.depth (length p.bits) = length-take c.args.depth p.bits in
    let len : c.new-first.result.len ≡ c.args.depth = sym (prefix_length c.new-first.result) ∙ (ap length e ∙ omega (arith, taken, prefix_length c.args.prefix.now, c.requires.few)) in
    omega (arith, c.region.ensures.bits, len)

pub returns-clause-answers : goal.returns-clause-answers
returns-clause-answers c =
    let p = prefix_as c.args.prefix.now in
    let e = ap (λ (q : Prefix). q.bits) (c.new-first.ensures ∙ ap (first_bits c.args.depth) c.first_addr.ensures) ∙ first_taken c.args.depth p.bits _ (omega (arith, prefix_length c.args.prefix.now, c.requires.few)) in
    prefix_answers c.region.result c.args.tree.now.family c.args.tree.now.routes (prefix_as c.new-first.result).bits (take c.args.depth p.bits) c.region.ensures.answers e
