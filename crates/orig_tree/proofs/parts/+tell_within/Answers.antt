use Rattle.std.proofs.Common.{◌≡◌, ◌-◌, arith, sym, ap, ◌∙◌, subst}
use Rattle.table_model.specs.Bits.{bits_of}
use Rattle.table_model.specs.Width.{width}
use Rattle.table_model.specs.Table.{Table, cut}
use Rattle.table_model.specs.Entries.{of_table}
use Rattle.table_model.specs.Regions.{lift}
use Rattle.fib_addr.specs.Views.{prefix_as}
use Rattle.orig_tree.specs.Views.{FitsWidth}
use Rattle.orig_tree.specs.Arena.{cells_of, from_half, walks_at}
use Rattle.orig_tree.proofs.Within.{cut_end, cut_step, no_part}
use Rattle.orig_tree.proofs.parts.+tell_within.Goals as goal

pub returns-then-path-eq0-clause-takes : goal.returns-then-path-eq0-clause-takes
returns-then-path-eq0-clause-takes g t c = λ d l f.
    let p = c.args.prefix.now in
    let L = (walks_at d (cells_of c.args.nodes.now) c.args.i).entries in
    let is : cut (bits_of c.args.path.left c.args.path.bits) L ≡ L = cut_end L c.args.path.left c.args.path.bits c.if-path-eq0.true in
    subst (λ (M : Table). g.S.EntrySink.takes c.args.out.now (of_table p.family (lift (prefix_as p).bits M)) c.tell.new.out) (sym is)
    (c.in_ok-tell.ensures.takes d (omega arith) (subst (λ (M : Table). FitsWidth (width p.family - p.len) M) is f))

pub returns-in_default-clause-takes : goal.returns-in_default-clause-takes
returns-in_default-clause-takes g t c = λ d l f.
    let p = c.args.prefix.now in
    let cells = cells_of c.args.nodes.now in
    let none = sym (cut_step cells c.read.result c.args.i c.args.path.left c.args.path.bits c.bit_at.result c.half.result c.read.ensures c.half.ensures c.if-path-eq0.false c.bit_at.ensures d (omega arith)) ∙ no_part cells c.half.result (bits_of (c.args.path.left - 1) c.args.path.bits) (d - 1) c.in_default.is in
    subst (λ (M : Table). g.S.EntrySink.takes c.args.out.now (of_table p.family (lift (prefix_as p).bits M)) c.args.out.now) (sym none) (g.met.S.EntrySink.none c.args.out.now c.requires.ready)

pub returns-in_ok-tell_within-clause-takes : goal.returns-in_ok-tell_within-clause-takes
returns-in_ok-tell_within-clause-takes g t c = λ d l f.
    let p = c.args.prefix.now in
    let cells = cells_of c.args.nodes.now in
    let is = ap (λ o. cut (bits_of (c.args.path.left - 1) c.args.path.bits) (from_half (walks_at (d - 1) cells) o).entries) (sym c.in-Some.is)
    ∙ cut_step cells c.read.result c.args.i c.args.path.left c.args.path.bits c.bit_at.result c.half.result c.read.ensures c.half.ensures c.if-path-eq0.false c.bit_at.ensures d (omega arith) in
    subst (λ (M : Table). g.S.EntrySink.takes c.args.out.now (of_table p.family (lift (prefix_as p).bits M)) c.tell_within.new.out) is
    (c.in_ok-tell_within.ensures.takes (d - 1) (omega arith) (subst (λ (M : Table). FitsWidth (width p.family - p.len) M) (sym is) f))
