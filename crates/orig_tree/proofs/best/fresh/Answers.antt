use Rattle.std.proofs.Common.{ℕ, sym, ap, ◌∙◌, subst, refl, [], Option, Some}
use Rattle.table_model.specs.Bits.{bits_of}
use Rattle.table_model.specs.Table.{lpm}
use Rattle.orig_tree.specs.Edits.{edit}
use Rattle.orig_tree.specs.Bests.{IsRegionBest, best_one}
use Rattle.orig_tree.specs.declared.best.Best.{Best}
use Rattle.orig_tree.proofs.Standing.{stands_one, lone_same}
use Rattle.orig_tree.proofs.best.fresh.Goals as goal

-- what stands for the region of one route
Fresh : ℕ → ℕ → ℕ → ℕ → Option ℕ → Best → Type 0
Fresh left d q h set x = IsRegionBest d (λ a. lpm (edit (bits_of left q) set []) a h) x

pub returns-in-None : goal.returns-in-None
unfolding Fresh
returns-in-None c = λ d q l. subst (λ (x : Best). Fresh c.args.left d q c.args.inherited c.args.set x) (sym c.one.ensures)
    (subst (λ (o : Option ℕ). Fresh c.args.left d q c.args.inherited o (best_one c.args.inherited)) (sym c.in-None.is) (stands_one d c.args.inherited (λ a. c.args.inherited) (λ a e. refl)))

pub returns-then-hop-inherited : goal.returns-then-hop-inherited
unfolding Fresh
returns-then-hop-inherited c = λ d q l. subst (λ (x : Best). Fresh c.args.left d q c.args.inherited c.args.set x) (sym c.one-then-hop-inherited.ensures)
    (subst (λ (o : Option ℕ). Fresh c.args.left d q c.args.inherited o (best_one c.args.inherited)) (sym c.in-Some.is)
    (stands_one d c.args.inherited (λ a. lpm (edit (bits_of c.args.left q) (Some c.in-Some.hop) []) a c.args.inherited)
    (λ a e. ap (λ g. lpm (edit (bits_of c.args.left q) (Some g) []) a c.args.inherited) c.if-hop-inherited.true ∙ lone_same (bits_of c.args.left q) c.args.inherited a)))

pub returns-else-hop-inherited : goal.returns-else-hop-inherited
unfolding Fresh
returns-else-hop-inherited c = λ d q l. subst (λ (o : Option ℕ). Fresh c.args.left d q c.args.inherited o c.beside.result) (sym c.in-Some.is) (c.beside.ensures d q l)
