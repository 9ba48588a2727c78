use Rattle.std.proofs.Common.{◌∙◌}
use Rattle.std.proofs.lemmas.Result.{on_ok_weaker}
use Rattle.table_model.specs.declared.family.Family.TheVariants.{V4, V6}
use Rattle.mrt_write.proofs.Written.{prefix_put}
use Rattle.mrt_write.proofs.field.put_prefix.Goals as goal

pub returns-in-V4 : goal.returns-in-V4
returns-in-V4 c = on_ok_weaker c.put_bits.result (λ e. e ∙ prefix_put c.args.out.now.items c.to_be_bytes.result c.args.prefix.now V4 c.in-V4.is c.to_be_bytes.ensures) c.put_bits.ensures

pub returns-in-V6 : goal.returns-in-V6
returns-in-V6 c = on_ok_weaker c.put_bits-in-V6.result (λ e. e ∙ prefix_put c.args.out.now.items c.to_be_bytes-in-V6.result c.args.prefix.now V6 c.in-V6.is c.to_be_bytes-in-V6.ensures) c.put_bits-in-V6.ensures
