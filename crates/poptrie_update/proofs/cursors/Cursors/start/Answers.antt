use Rattle.std.proofs.Common.{rules, ◌<◌, ◌≤◌, length, sym, subst, arith}
use Rattle.poptrie_update.specs.Cursors.{OpenLookups, FitsAll}
use Rattle.poptrie_update.proofs.Opened.{start_fits}
use Rattle.poptrie_update.proofs.cursors.Cursors.start.Goals as goal

pub returns-clause-fits : goal.returns-clause-fits
returns-clause-fits c = λ due f.
    let below : c.in-Some.number < length c.self.inside.lookups.items = search rules in
    let started : c.time.result ≤ c.args.live.now.selected.time = omega (arith, c.time.ensures) in
    start_fits c.args.live.now c.self.inside.lookups.items due c.in-Some.number c.args.addr.now c.time.result below c.requires.family started (subst (λ (cs : OpenLookups). FitsAll c.args.live.now cs due) (sym c.self.view_is) f)
