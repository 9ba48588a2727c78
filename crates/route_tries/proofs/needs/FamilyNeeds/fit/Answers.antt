use Rattle.std.proofs.Common.{sym, ap, ◌∙◌}
use Rattle.std.specs.Prelude.{option_map}
use Rattle.route_tries.specs.Sizes.{sizes_as, shortage_as}
use Rattle.route_tries.proofs.Short.{first_is}
use Rattle.route_tries.proofs.needs.FamilyNeeds.fit.Goals as goal

pub returns-in-Some-clause-short : goal.returns-in-Some-clause-short
returns-in-Some-clause-short c =
    sym (first_is (sizes_as c.args.sizes.now) c.args.self.now c.short_or.result c.short_or-v4_leaves.result c.short_or-v6.result c.short_or-v6_leaves.result c.short_or-v6_leaves.ensures c.short_or-v6.ensures c.short_or-v4_leaves.ensures c.short_or.ensures)
    ∙ ap (option_map shortage_as) c.in-Some.is

pub returns-in-None-clause-ok : goal.returns-in-None-clause-ok
returns-in-None-clause-ok c =
    sym (first_is (sizes_as c.args.sizes.now) c.args.self.now c.short_or.result c.short_or-v4_leaves.result c.short_or-v6.result c.short_or-v6_leaves.result c.short_or-v6_leaves.ensures c.short_or-v6.ensures c.short_or-v4_leaves.ensures c.short_or.ensures)
    ∙ ap (option_map shortage_as) c.in-None.is
