use Rattle.std.proofs.Common.{◌≡◌, length, ap, sym, ◌∙◌, rules}
use Rattle.adj_rib_in.specs.declared.keys.PathKey.{PathKey}
use Rattle.adj_rib_in.specs.Paths.{attrs_at}
use Rattle.adj_rib_in.proofs.Parts.{nothing}
use Rattle.route_choice.proofs.AllRoutes.{no_elements}
use Rattle.route_choice.proofs.both.has_attrs.Goals as goal

pub returns-then-is_empty : goal.returns-then-is_empty
returns-then-is_empty c = λ e.
    let q : PathKey = record { via = c.args.via.now; prefix = c.args.prefix.now } in
    let l : length c.args.paths.now.entries ≡ 0 = search rules in
    ap (λ xs. attrs_at xs q) (no_elements c.args.paths.now.entries l)

pub returns : goal.returns
returns c = λ e. ap (attrs_at c.args.paths.now.entries) (sym c.new.ensures) ∙ (sym c.attrs_at.ensures ∙ nothing c.attrs_at.result c.is_some.result c.is_some.ensures e)
