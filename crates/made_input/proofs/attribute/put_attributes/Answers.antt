use Rattle.std.proofs.Common.{rules, append_assoc}
use Rattle.std.proofs.lemmas.Result.{IfOk-equal}
use Rattle.made_input.specs.Files.{attrs_attributes}
use Rattle.made_input.proofs.attribute.put_attributes.Goals as goal

pub returns : goal.returns
unfolding attrs_attributes
returns c = search (rules, IfOk-equal, append_assoc)
