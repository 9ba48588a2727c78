use Rattle.std.proofs.Common.{◌∙◌}
use Rattle.std.proofs.lemmas.Result.{on_ok_weaker}
use Rattle.made_input.proofs.Written.{prefix_put}
use Rattle.made_input.proofs.prefix.put_prefix.Goals as goal

pub returns : goal.returns
returns c = on_ok_weaker c.put_bits.result (λ e. e ∙ prefix_put c.args.out.now.items c.to_be_bytes.result c.args.route.now.address c.args.route.now.len c.args.route.now.few c.args.route.now.below c.args.route.now.cleared c.to_be_bytes.ensures) c.put_bits.ensures
