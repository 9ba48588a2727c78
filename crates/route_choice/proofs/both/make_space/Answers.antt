use Rattle.route_choice.proofs.Spaces.{made_space}
use Rattle.route_choice.proofs.both.make_space.Goals as goal

pub returns-in_ok-number_attrs-in-Some-clause-space : goal.returns-in_ok-number_attrs-in-Some-clause-space
returns-in_ok-number_attrs-in-Some-clause-space c = made_space c.args.flat.now c.number_attrs.new.flat c.args.at c.args.elem.now c.in-Some.field-0 c.in-Some.is c.requires.place c.number_attrs.ensures.grows c.in_ok-number_attrs-in-Some.ensures.number
