use Rattle.std.proofs.Common.{sym, ap, ◌∙◌, subst, refl, []}
use Rattle.table_model.specs.Sets.{is_in}
use Rattle.table_model.specs.Bits.{bits_of}
use Rattle.table_model.specs.Table.{lpm}
use Rattle.orig_tree.specs.Edits.{put}
use Rattle.orig_tree.specs.Bests.{IsRegionBest}
use Rattle.orig_tree.specs.declared.best.Best.{Best}
use Rattle.orig_tree.proofs.Standing.{beside_here, beside_below}
use Rattle.orig_tree.proofs.best.beside.Goals as goal
use Rattle.orig_tree.proofs.best.beside.Goals.{then-left-eq1, else-left-eq1}

pub returns-then-left-eq0 : goal.returns-then-left-eq0
returns-then-left-eq0 c = λ d q l. subst (λ (x : Best). IsRegionBest d (λ a. lpm (put (bits_of c.args.left q) c.args.hop []) a c.args.inherited) x) (sym c.one.ensures)
    (beside_here c.args.hop c.args.inherited c.args.left d q c.if-left-eq0.true l)

pub returns : goal.returns
returns c = beside_below (record { hops = c.if-left-eq1.hops; k = 1 }) c.args.hop c.args.inherited c.args.left c.requires c.if-left-eq0.false refl
    (λ e. elim c.if-left-eq1.branch [
      | then-left-eq1 w ↦ λ t. ap (is_in t) w.hops-is ∙ w.two-hops.ensures t
      | else-left-eq1 w ↦ absurd (w.if-left-eq1.false e)
    ])
    (λ n. elim c.if-left-eq1.branch [
      | then-left-eq1 w ↦ absurd (n w.if-left-eq1.true)
      | else-left-eq1 w ↦ w.hops-is ∙ w.one-hops.ensures
    ])
