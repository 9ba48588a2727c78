use Rattle.std.proofs.Common.{Some, refl}
use Rattle.adj_rib_in.proofs.Parts.{flat_offers, flat_apart, no_other, over_apart, over_offers_from}
use Rattle.adj_rib_in.proofs.Flats.{attrs_found}
use Rattle.route_choice.proofs.Spaces.{kept_beside}
use Rattle.route_choice.proofs.both.put_one.Goals as goal

pub returns-in_ok-attrs_to-in-Some-clause-apart : goal.returns-in_ok-attrs_to-in-Some-clause-apart
returns-in_ok-attrs_to-in-Some-clause-apart c = flat_apart _ _ c.args.paths.now.entries c.args.key.now (Some c.args.attrs) c.requires.apart (no_other _ _ c.args.key.now _ c.requires.apart (attrs_found c.args.flat.now c.args.key.now c.in-Some.at c.requires.flat c.in-Some.ensures)) c.in_ok-attrs_to-in-Some.ensures.ok

pub returns-in_ok-attrs_to-in-Some-clause-ok : goal.returns-in_ok-attrs_to-in-Some-clause-ok
returns-in_ok-attrs_to-in-Some-clause-ok c = flat_offers _ _ c.args.paths.now.entries c.args.key.now (Some c.args.attrs) c.in_ok-attrs_to-in-Some.ensures.ok

pub returns-in_ok-attrs_to-in-Some-clause-kept : goal.returns-in_ok-attrs_to-in-Some-clause-kept
returns-in_ok-attrs_to-in-Some-clause-kept c = kept_beside c.args.paths.now.entries c.args.ranks.now.keys

pub returns-in_ok-put_attrs-in-None-clause-apart : goal.returns-in_ok-put_attrs-in-None-clause-apart
returns-in_ok-put_attrs-in-None-clause-apart c = over_apart _ c.args.paths.now.entries c.put_attrs.new.paths.entries c.args.key.now (Some c.args.attrs) c.requires.apart c.in-None.ensures c.in_ok-put_attrs-in-None.ensures.ok

pub returns-in_ok-put_attrs-in-None-clause-ok : goal.returns-in_ok-put_attrs-in-None-clause-ok
returns-in_ok-put_attrs-in-None-clause-ok c = over_offers_from _ _ c.args.paths.now.entries c.put_attrs.new.paths.entries c.args.key.now (Some c.args.attrs) refl c.in-None.ensures c.in_ok-put_attrs-in-None.ensures.ok
