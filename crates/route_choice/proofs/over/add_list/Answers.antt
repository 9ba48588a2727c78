use Rattle.std.proofs.Common.{ap, sym, ◌∙◌, ◌+◌, ◌∷◌, drop}
use Rattle.std.proofs.lemmas.List.{drop_more}
use Rattle.std.proofs.Math.ListN.{drop_of_length-le}
use Rattle.route_choice.proofs.ListWays.{none_told, one_told, rest_sorted, all_told}
use Rattle.route_choice.proofs.over.add_list.Goals as goal

pub loop-way-init : goal.loop-way-init
loop-way-init c = record { sorted = c.requires.sorted; told = none_told c.args.list.now c.args.ways.now.entries c.requires.none }

pub loop-way-preserved : goal.loop-way-preserved
loop-way-preserved c =
    let step = drop_more c.args.list.now c.loop-way.way-index c.way-item.result c.loop-way-test.true ∙ ap (λ y. y ∷ drop (c.loop-way.way-index + 1) c.args.list.now) (sym c.way-item.is) in
    record {
      sorted = rest_sorted _ _ c.way-item.result step c.loop-way.invariant.sorted;
      told = one_told c.args.list.now _ _ c.loop-way.ways.entries c.insert.new.self.entries c.way-item.result step c.loop-way.invariant.sorted c.in_ok-insert.ensures.updates.0 c.loop-way.invariant.told;
    }

pub returns : goal.returns
returns c = all_told c.args.list.now _ c.loop-way.ways.entries (drop_of_length-le c.args.list.now c.loop-way-test.false) c.loop-way.invariant.told
