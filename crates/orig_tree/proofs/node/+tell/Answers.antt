use Rattle.std.proofs.Common.{arith, ◌∙◌}
use Rattle.table_model.specs.Halves.{half_at}
use Rattle.fib_addr.specs.Views.{prefix_as}
use Rattle.orig_tree.specs.Arena.{cells_of}
use Rattle.orig_tree.proofs.Telling.{half_longer, half_most}
use Rattle.orig_tree.proofs.Told.{end_told, none_told, half_told, level_told}
use Rattle.orig_tree.proofs.node.+tell.Goals as goal

pub tell-returns-then-prefix-width-clause-takes : goal.tell-returns-then-prefix-width-clause-takes
tell-returns-then-prefix-width-clause-takes g t c = λ d l f. end_told g.S.EntrySink.takes c.args.prefix.now c.args.label (cells_of c.args.nodes.now) c.read-node.result c.args.i c.hop.result _ _ d c.read-node.ensures (c.if-prefix-width.true ∙ c.width.ensures) c.hop.ensures c.in_ok-emit_entry.ensures.takes l f

pub tell-returns-clause-takes : goal.tell-returns-clause-takes
tell-returns-clause-takes g t c = λ d l f. level_told g.S.EntrySink.takes g.met.S.EntrySink.more c.args.prefix.now c.args.label (cells_of c.args.nodes.now) c.read-node.result c.args.i c.hop.result c.half.result c.half-2.result
    c.args.out.now c.emit_entry.new.out c.tell_half.new.out c.tell_half-2.new.out d c.read-node.ensures c.hop.ensures c.half.ensures c.half-2.ensures
    c.in_ok-emit_entry.ensures.takes c.in_ok-tell_half.ensures.takes c.in_ok-tell_half-2.ensures.takes l f

pub tell_half-returns-in_default-clause-takes : goal.tell_half-returns-in_default-clause-takes
tell_half-returns-in_default-clause-takes g t c = λ d l f. none_told g.S.EntrySink.takes (half_at c.args.bit (prefix_as c.args.prefix.now)) c.args.label (cells_of c.args.nodes.now) c.args.half c.args.out.now d c.in_default.is (g.met.S.EntrySink.none c.args.out.now c.requires.ready)

pub tell_half-returns-in_ok-tell-clause-takes : goal.tell_half-returns-in_ok-tell-clause-takes
tell_half-returns-in_ok-tell-clause-takes g t c = λ d l f. half_told g.S.EntrySink.takes c.args.prefix.now c.half.result c.args.bit c.args.label (cells_of c.args.nodes.now) c.in-Some.j c.args.half c.args.out.now c.tell.new.out d c.half.ensures c.in-Some.is c.in_ok-tell.ensures.takes c.requires.longer l f

pub tell_half-tell-requires : goal.tell_half-tell-requires
tell_half-tell-requires g t c = λ κs h. (omega (arith, half_longer c.args.prefix.now c.half.result c.args.bit c.half.ensures, half_most c.half.result), (h, c.requires.ready))
