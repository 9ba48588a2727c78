use Rattle.std.proofs.Common.{suc, map, sym, ap, ◌∙◌}
use Rattle.table_model.specs.Bits.{bits_of}
use Rattle.table_model.specs.Width.{width}
use Rattle.fib_addr.specs.Views.{entry_as}
use Rattle.orig_tree.specs.Arena.{cells_of, whole}
use Rattle.orig_tree.specs.Views.{Labels}
use Rattle.orig_tree.proofs.Telling.{fits_in_place}
use Rattle.orig_tree.proofs.Within.{fits_prefix, levels_left, told_within}
use Rattle.orig_tree.proofs.tree.Tree.entries_within.Goals as goal

pub returns-clause-entries : goal.returns-clause-entries
returns-clause-entries c =
    let t = c.self.inside in
    let p = c.args.prefix.now in
    let q = bits_of p.len c.path_bits.result in
    let L = (whole t.family (cells_of t.nodes)).entries in
    let same = c.requires ∙ sym (ap (λ (s : Labels). s.family) c.self.view_is) in
    told_within p t.family q L c.args.self.now.entries (map entry_as c.new-list.result.items) (map entry_as c.tell_within.new.out.items) same c.path_bits.ensures
    (ap (λ (s : Labels). s.entries) c.self.view_is) (ap (map entry_as) c.new-list.ensures.items)
    (c.in_ok-tell_within.ensures.takes (suc (width t.family)) (levels_left p t.family same) (fits_prefix p t.family q L same c.path_bits.ensures (fits_in_place t.family L c.self.invariant.2.0)))
