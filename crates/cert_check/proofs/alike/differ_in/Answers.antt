use Rattle.std.proofs.Common.{◌∙◌, ◌^◌}
use Rattle.table_model.specs.Width.{width}
use Rattle.cert_check.proofs.Aparts.{no_of_is, start_below}
use Rattle.cert_check.proofs.alike.differ_in.Goals as goal

pub differ_of-requires : goal.differ_of-requires
differ_of-requires c = start_below (2 ^ width c.args.family) c.args.a.now c.args.b.now c.first_apart.result c.requires.below c.requires.below_too c.first_apart.ensures

pub returns : goal.returns
returns c = λ L M s t. c.differ_of.ensures ∙ no_of_is c.args.family L M c.args.a.now c.args.b.now c.first_apart.result s t c.first_apart.ensures
