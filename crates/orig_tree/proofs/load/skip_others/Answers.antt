use Rattle.std.proofs.Common.{sym, ap, ◌∙◌, subst}
use Rattle.std.specs.List.{AllByRecursion}
use Rattle.std.specs.Map.{keys_of}
use Rattle.table_model.specs.Address.{IsPrefix}
use Rattle.table_model.specs.Entries.{Entries}
use Rattle.fib_addr.specs.Views.{entry_as}
use Rattle.orig_tree.specs.Merged.{own_of}
use Rattle.orig_tree.proofs.Loading.{passed_other, passed_prefixes}
use Rattle.orig_tree.proofs.load.skip_others.Goals as goal

pub loop-first-preserved : goal.loop-first-preserved
loop-first-preserved g c =
    let e = entry_as c.in-Some.first in
    let is = c.in-Some.ensures.some in record {
      own = ap (own_of c.args.family) c.pass.ensures ∙ (passed_other c.args.family e _ _ is (sym c.is_of.ensures ∙ c.if-is_of.false) ∙ c.loop-first.invariant.own);
      prefixes = λ a. subst (λ (L : Entries). AllByRecursion IsPrefix (keys_of L)) (sym c.pass.ensures) (passed_prefixes e _ _ is (c.loop-first.invariant.prefixes a));
    }
