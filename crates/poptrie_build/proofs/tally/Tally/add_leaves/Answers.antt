use Rattle.std.proofs.Common.{◌+◌, refl, sym, ap, ◌∙◌, arith}
use Rattle.poptrie_build.proofs.Tallying.{tally_leaves, last_is, goes_on, starts_anew}
use Rattle.poptrie_build.proofs.tally.Tally.add_leaves.Goals as goal

pub returns-then-eq-clause-tally : goal.returns-then-eq-clause-tally
returns-then-eq-clause-tally c = λ g N L v n.
    let same = last_is c.args.self.now.last c.args.hop (sym c.eq.ensures ∙ c.if-eq.true) in
    let z = goes_on c.args.self.now.last c.args.hop same in
    tally_leaves c.args.self.now c.args.self.now c.args.hop g N L v n same refl (omega (arith, z)) refl refl

pub returns-clause-tally : goal.returns-clause-tally
returns-clause-tally c = λ g N L v n.
    let one = starts_anew c.args.self.now.last c.args.hop (sym c.eq.ensures ∙ c.if-eq.false) in
    tally_leaves c.args.self.now _ c.args.hop g N L v n refl refl (ap (λ x. c.args.self.now.leaves + x) (sym one)) refl refl
