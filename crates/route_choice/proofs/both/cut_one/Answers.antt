use Rattle.std.proofs.Common.{None}
use Rattle.adj_rib_in.proofs.Parts.{flat_ends, fewer_apart, over_offers, over_apart}
use Rattle.adj_rib_in.proofs.Flats.{attrs_found}
use Rattle.route_choice.proofs.Spaces.{kept_beside}
use Rattle.route_choice.proofs.both.cut_one.Goals as goal

pub returns-in-Some-clause-apart : goal.returns-in-Some-clause-apart
returns-in-Some-clause-apart c = fewer_apart _ _ c.args.paths.now.entries c.cut_at.ensures.paths c.requires.apart

pub returns-in-Some-clause-offers : goal.returns-in-Some-clause-offers
returns-in-Some-clause-offers c = flat_ends _ _ c.args.paths.now.entries c.args.key.now _ c.requires.apart (attrs_found c.args.flat.now c.args.key.now c.in-Some.at c.requires.flat c.in-Some.ensures) c.cut_at.ensures.offers c.cut_at.ensures.paths

pub returns-in-Some-clause-kept : goal.returns-in-Some-clause-kept
returns-in-Some-clause-kept c = kept_beside c.args.paths.now.entries c.args.ranks.now.keys

pub returns-in-None-clause-apart : goal.returns-in-None-clause-apart
returns-in-None-clause-apart c = over_apart _ c.args.paths.now.entries c.cut_attrs.new.paths.entries c.args.key.now None c.requires.apart c.in-None.ensures c.cut_attrs.ensures.offers

pub returns-in-None-clause-offers : goal.returns-in-None-clause-offers
returns-in-None-clause-offers c = over_offers _ c.args.paths.now.entries c.cut_attrs.new.paths.entries c.args.key.now None c.in-None.ensures c.cut_attrs.ensures.offers
