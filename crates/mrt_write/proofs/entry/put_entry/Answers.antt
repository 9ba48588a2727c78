use Rattle.std.proofs.Common.{refl, ◌∙◌}
use Rattle.mrt_write.specs.Entries.{attributes_of}
use Rattle.fib_prefix.specs.Views.{cand_as}
use Rattle.mrt_write.proofs.Written.{on_ok, entry_put}
use Rattle.mrt_write.proofs.entry.put_entry.Goals as goal

pub returns : goal.returns
returns c =
    let cand = cand_as c.args.cand.now in
    on_ok c.put_part.result c.put_part.ensures (λ put peers e. put ∙ entry_put c.args.out.now.items c.put_u16.new.out.items c.put_u32.new.out.items c.put_id.new.out.items (attributes_of cand) c.args.index c.args.ids cand peers c.in_ok-put_u16.ensures c.in_ok-put_u32.ensures c.in_ok-put_id.ensures refl e)
