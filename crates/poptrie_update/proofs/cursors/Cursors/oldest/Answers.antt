use Rattle.std.proofs.Common.{rules, ◌∙◌, ◌+◌, ◌≤◌, length, sym, subst}
use Rattle.poptrie_set.specs.declared.trie_set.Oldest.{Oldest}
use Rattle.poptrie_update.specs.Cursors.{IsFirst}
use Rattle.poptrie_update.proofs.Opened.{first_oldest}
use Rattle.poptrie_update.proofs.First.{IsFirstTo, read_at, first_skip, first_more, first_of_all}
use Rattle.poptrie_update.proofs.cursors.Cursors.oldest.Goals as goal
use Rattle.poptrie_update.proofs.cursors.Cursors.oldest.Goals.{in-Some, in_default}

pub loop-number-preserved : goal.loop-number-preserved
loop-number-preserved c =
    elim c.match-lookup.branch [
      | in-Some w ↦
          let is = read_at c.deref-lookup-items.result.now c.loop-number.number c.lookup-item.result c.lookup-item.is c.loop-number-test.true ∙ w.in-Some.is in
          subst (λ (r : Oldest). IsFirstTo r c.deref-lookup-items.result.now (c.loop-number.number + 1)) (sym w.oldest-is)
          (first_more c.loop-number.oldest w.earlier-oldest.result c.deref-lookup-items.result.now c.loop-number.number w.in-Some.lookup c.loop-number.invariant is w.earlier-oldest.ensures)
      | in_default w ↦
          let is = read_at c.deref-lookup-items.result.now c.loop-number.number c.lookup-item.result c.lookup-item.is c.loop-number-test.true ∙ w.in_default.is in
          subst (λ (r : Oldest). IsFirstTo r c.deref-lookup-items.result.now (c.loop-number.number + 1)) (sym w.oldest-is)
          (first_skip c.loop-number.oldest c.deref-lookup-items.result.now c.loop-number.number c.loop-number.invariant is)
    ]

pub returns-clause-first : goal.returns-clause-first
returns-clause-first c =
    let many : length c.self.inside.lookups.items ≤ c.loop-number.number = search rules in
    let h : IsFirstTo c.loop-number.oldest c.self.inside.lookups.items c.loop-number.number = search rules in
    subst (IsFirst c.loop-number.oldest) c.self.view_is (first_of_all c.loop-number.oldest c.self.inside.lookups.items c.loop-number.number many h)

pub returns-clause-oldest : goal.returns-clause-oldest
returns-clause-oldest c =
    let many : length c.self.inside.lookups.items ≤ c.loop-number.number = search rules in
    let h : IsFirstTo c.loop-number.oldest c.self.inside.lookups.items c.loop-number.number = search rules in
    let first = subst (IsFirst c.loop-number.oldest) c.self.view_is (first_of_all c.loop-number.oldest c.self.inside.lookups.items c.loop-number.number many h) in
    first_oldest c.loop-number.oldest c.args.self.now first
