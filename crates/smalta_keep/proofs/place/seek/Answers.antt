use Rattle.std.proofs.Common.{◌≡◌, Option, None, refl, sym, subst}
use Rattle.table_model.specs.Bits.{bits_of}
use Rattle.table_model.specs.Table.{cut}
use Rattle.kept_model.specs.Stays.{NoneAround}
use Rattle.orig_tree.specs.Walk.{Walks, behind}
use Rattle.smalta_keep.proofs.Seeking.{sought_none}
use Rattle.smalta_keep.proofs.place.seek.Goals as goal

pub returns-in-None-clause-routes : goal.returns-in-None-clause-routes
returns-in-None-clause-routes c =
    let p = bits_of c.args.left c.args.q in
    subst (λ (n : Option Walks). (behind None).routes ≡ cut p (behind n).routes) (sym c.in-None.is) (sought_none None p refl).0

pub returns-in-None-clause-entries : goal.returns-in-None-clause-entries
returns-in-None-clause-entries c =
    let p = bits_of c.args.left c.args.q in
    subst (λ (n : Option Walks). (behind None).entries ≡ cut p (behind n).entries) (sym c.in-None.is) (sought_none None p refl).1

pub returns-in-None-clause-marked : goal.returns-in-None-clause-marked
returns-in-None-clause-marked c = λ e.
    let p = bits_of c.args.left c.args.q in
    (e, subst (λ (n : Option Walks). NoneAround p (behind n).entries) (sym c.in-None.is) (sought_none None p refl).2)
