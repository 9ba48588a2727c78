use Rattle.std.proofs.Common.{refl, Some, None, sym, ◌∙◌}
use Rattle.route_choice.specs.Paths.{key_in, attrs_in}
use Rattle.adj_rib_in.proofs.Parts.{flat_offers, flat_apart, flat_ends, fewer_apart, no_other, puts_as}
use Rattle.adj_rib_in.proofs.Flats.{attrs_found}
use Rattle.route_choice.proofs.Spaces.{offers_as}
use Rattle.route_choice.proofs.both.carry_flat.Goals as goal

pub returns-in-Some-clause-apart : goal.returns-in-Some-clause-apart
returns-in-Some-clause-apart c =
    let e = c.args.elem.now in
    flat_apart _ _ c.args.paths.now.entries (key_in e) (attrs_in e) c.requires.apart (no_other _ _ (key_in e) _ c.requires.apart (attrs_found c.args.flat.now (key_in e) c.args.at c.requires.flat c.requires.slot)) (puts_as _ _ c.key_of-key.result (key_in e) (Some c.in-Some.attrs) (attrs_in e) c.key_of-key.ensures (sym c.in-Some.is ∙ c.attrs_of.ensures) c.reoffer.ensures.puts)

pub returns-in-Some-clause-offers : goal.returns-in-Some-clause-offers
returns-in-Some-clause-offers c =
    let e = c.args.elem.now in
    flat_offers _ _ c.args.paths.now.entries (key_in e) (attrs_in e) (puts_as _ _ c.key_of-key.result (key_in e) (Some c.in-Some.attrs) (attrs_in e) c.key_of-key.ensures (sym c.in-Some.is ∙ c.attrs_of.ensures) c.reoffer.ensures.puts)

pub returns-in-None-clause-apart : goal.returns-in-None-clause-apart
returns-in-None-clause-apart c = fewer_apart _ _ c.args.paths.now.entries c.cut_at.ensures.paths c.requires.apart

pub returns-in-None-clause-offers : goal.returns-in-None-clause-offers
returns-in-None-clause-offers c =
    let e = c.args.elem.now in
    let o = offers_as _ _ c.key_of-key.result (key_in e) None None c.key_of-key.ensures refl c.cut_at.ensures.offers in
    offers_as _ _ (key_in e) (key_in e) None (attrs_in e) refl (sym c.in-None.is ∙ c.attrs_of.ensures) (flat_ends _ _ c.args.paths.now.entries (key_in e) _ c.requires.apart (attrs_found c.args.flat.now (key_in e) c.args.at c.requires.flat c.requires.slot) o c.cut_at.ensures.paths)
