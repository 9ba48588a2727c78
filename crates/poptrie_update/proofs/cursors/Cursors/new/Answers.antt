use Rattle.std.proofs.Common.{rules, ◌≡◌, None, replicate, sym, subst}
use Rattle.poptrie_update.specs.Cursors.{OpenLookups, FitsAll}
use Rattle.poptrie_update.proofs.Opened.{none_open, none_fits}
use Rattle.poptrie_update.proofs.cursors.Cursors.new.Goals as goal

pub returns-clause-fits : goal.returns-clause-fits
returns-clause-fits c = λ l due.
    let e : c.resize.new.self.items ≡ replicate 64 None = search rules in
    subst (λ (cs : OpenLookups). FitsAll l cs due) (sym e) (none_fits l (replicate 64 None) due (none_open 64))
