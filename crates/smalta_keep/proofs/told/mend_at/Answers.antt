use Rattle.std.proofs.Common.{List, Option, None, map, refl, sym, ap, subst, ◌∙◌}
use Rattle.std.specs.Prelude.{option_map}
use Rattle.kept_model.proofs.Alike.{none_between}
use Rattle.table_model.specs.Entries.{Entries}
use Rattle.fib_addr.specs.Views.{prefix_as}
use Rattle.fib_addr.specs.declared.prefix.Prefix as code_prefix
use Rattle.fib_delta.specs.declared.change.Change as code
use Rattle.fib_delta.specs.Views.{change_as}
use Rattle.smalta_keep.specs.Rooms.{AreOf}
use Rattle.smalta_keep.specs.Plans.{IsMend, repaired_table}
use Rattle.smalta_keep.specs.declared.told.Mend.{Mend}
use Rattle.smalta_keep.proofs.Planned.{nothing_repaired}
use Rattle.smalta_keep.proofs.Tables.{if_none}
use Rattle.kept_model.specs.Between.{between}
use Rattle.smalta_keep.proofs.told.mend_at.Goals as goal

pub returns-in-None-clause-mend : goal.returns-in-None-clause-mend
returns-in-None-clause-mend c =
    let T = c.args.tree.now.entries in
    let f = c.args.tree.now.family in
    let t = c.family-family.ensures.order.1 in
    let m : Mend = record { there = c.new.result; back = c.new-in-None.result; reach = None } in
    subst (λ (at : Option code_prefix.Prefix). IsMend f c.args.back T (repaired_table c.args.fewest c.args.tree.now (option_map prefix_as at)) m) (sym c.in-None.is)
    (subst (λ (N : Entries). IsMend f c.args.back T N m) (sym (nothing_repaired c.args.fewest c.args.tree.now))
    (record {
      old_order = t;
      order = t;
      there = ap (map change_as) c.new.ensures.items ∙ sym (none_between T);
      back = ap (map change_as) c.new-in-None.ensures.items ∙ if_none c.args.back (between T T) (none_between T);
      of_there = subst (λ (cs : List code.Change). AreOf f (map change_as cs)) (sym c.new.ensures.items) tt;
      of_back = subst (λ (cs : List code.Change). AreOf f (map change_as cs)) (sym c.new-in-None.ensures.items) tt;
      of_reach = λ p e. cc;
      beside = refl;
    }))
