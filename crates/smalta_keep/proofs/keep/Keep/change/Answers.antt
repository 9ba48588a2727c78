use Rattle.std.proofs.Common.{◌≡◌, false, Some, sym, ap, subst, ◌∙◌}
use Rattle.kept_model.specs.Patched.{patch_of}
use Rattle.table_model.specs.Entries.{Entries}
use Rattle.fib_addr.specs.Views.{prefix_as}
use Rattle.fib_delta.proofs.Held.{is_prefix}
use Rattle.orig_tree.specs.Views.{Labels, InPlace}
use Rattle.smalta_keep.proofs.Alike.{committed, changed_alike, changed_fewest}
use Rattle.smalta_keep.proofs.keep.Keep.change.Goals as goal

pub returns-clause-alike : goal.returns-clause-alike
returns-clause-alike c =
    let p = prefix_as c.args.prefix.now in
    let kept = c.plan.new.self in
    let new = c.commit.new.self in
    let m = c.in_ok-repair.repair.moved in
    let e : new.entries ≡ patch_of new.routes p c.args.self.now.entries =
    committed kept new.entries false (Some p) false m c.in_ok-repair.ensures.moved c.commit.ensures.table
    ∙ (ap (λ (T : Entries). patch_of kept.routes p T) c.plan.ensures.table ∙ ap (λ (R : Entries). patch_of R p c.args.self.now.entries) (sym c.commit.ensures.routes))
    in
    changed_alike p c.args.now.0 c.args.self.now new (is_prefix c.args.prefix.now) c.requires (c.commit.ensures.family ∙ c.plan.ensures.family) e
    (subst (λ (k : Labels). InPlace k.entries) c.self.view_is c.family-family.ensures.order.1) (c.commit.ensures.routes ∙ c.in_ok-repair.ensures.routes)
    (subst (λ (k : Labels). InPlace k.routes) c.self.view_is c.family-family.ensures.order.0)

pub returns-clause-fewest : goal.returns-clause-fewest
returns-clause-fewest c =
    let p = prefix_as c.args.prefix.now in
    let kept = c.plan.new.self in
    let new = c.commit.new.self in
    let m = c.in_ok-repair.repair.moved in
    let e : new.entries ≡ patch_of new.routes p c.args.self.now.entries =
    committed kept new.entries false (Some p) false m c.in_ok-repair.ensures.moved c.commit.ensures.table
    ∙ (ap (λ (T : Entries). patch_of kept.routes p T) c.plan.ensures.table ∙ ap (λ (R : Entries). patch_of R p c.args.self.now.entries) (sym c.commit.ensures.routes))
    in
    changed_fewest p c.args.now.0 c.args.self.now new (is_prefix c.args.prefix.now) c.requires (c.commit.ensures.family ∙ c.plan.ensures.family) e
    (subst (λ (k : Labels). InPlace k.entries) c.self.view_is c.family-family.ensures.order.1)
