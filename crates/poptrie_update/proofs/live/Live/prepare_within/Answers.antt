use Rattle.std.proofs.Common.{◌∙◌, sym, ap}
use Rattle.table_model.specs.declared.family.Family.{Family}
use Rattle.fib_addr.specs.Answers.{all_answers}
use Rattle.poptrie_set.proofs.Ready.{if_err_map, ok_map, err_map}
use Rattle.poptrie_update.proofs.Rebuilt.{if_ok_map}
use Rattle.poptrie_update.proofs.Made.{is_made, is_refused, made_in}
use Rattle.poptrie_update.proofs.Unpinned.{on_ok, unpinned}
use Rattle.poptrie_update.proofs.Outside.{out_just}
use Rattle.poptrie_set.specs.Fits.{until}
use Rattle.poptrie_update.proofs.Unreached.{reached_both}
use Rattle.poptrie_update.proofs.live.Live.prepare_within.Goals as goal

pub returns-clause-made : goal.returns-clause-made
returns-clause-made g c =
    if_ok_map c.make_ready.result _ _ c.make_ready.ensures.made
    (λ p made. λ L M sh e agree. is_made c.args.self.now c.give_back.new.self c.give_back.ensures.shape L M (until c.args.oldest c.args.self.now.selected.time) c.make_ready.new.self p c.give_back.ensures.other c.give_back.ensures.given (made L M (c.give_back.ensures.shows L L sh) (e ∙ ap (λ (f : Family). all_answers f M) (sym c.give_back.ensures.shape.0)) agree))

pub returns-clause-refused : goal.returns-clause-refused
returns-clause-refused g c =
    if_err_map c.make_ready.result _ _ c.make_ready.ensures.refused
    (λ why refused. λ L M sh e agree. is_refused c.args.self.now c.give_back.new.self c.give_back.ensures.shape L M c.args.oldest c.args.self.now.selected.time why c.give_back.ensures.other c.give_back.ensures.given (refused L M (c.give_back.ensures.shows L L sh) (e ∙ ap (λ (f : Family). all_answers f M) (sym c.give_back.ensures.shape.0)) agree))

pub returns-clause-out : goal.returns-clause-out
returns-clause-out g c = λ e L M sh. out_just c.make_ready.result c.make_ready.new.self L M c.make_ready.ensures.pair.holds (c.make_ready.ensures.all e) c.make_ready.ensures.token c.make_ready.ensures.quiet sh

pub returns-clause-cells : goal.returns-clause-cells
returns-clause-cells g c = reached_both (until c.args.oldest c.args.self.now.selected.time) c.args.self.now c.give_back.new.self c.make_ready.new.self c.give_back.ensures.kept.1 c.give_back.ensures.cells c.make_ready.ensures.cells

pub returns-clause-ready : goal.returns-clause-ready
returns-clause-ready g c = ok_map c.make_ready.result c.make_ready.ensures.ready (λ ready. (c.give_back.new.self, c.give_back.ensures.back, ready))

pub returns-clause-back : goal.returns-clause-back
returns-clause-back g c = err_map c.make_ready.result c.make_ready.ensures.back (λ back. (c.give_back.new.self, c.give_back.ensures.back, back))

pub returns-clause-unpinned : goal.returns-clause-unpinned
returns-clause-unpinned g c =
    on_ok c.make_ready.result _ c.make_ready.ensures.made
    (λ p made. λ L M sh e agree wait.
    unpinned c.args.oldest c.args.self.now.selected.time c.args.self.now c.make_ready.new.self L M c.give_back.new.self.selected.nodes.space c.give_back.new.self.selected.leaves.space c.give_back.ensures.given c.give_back.ensures.just p.stores
    (made_in c.args.self.now c.give_back.new.self c.give_back.ensures.shape L M (until c.args.oldest c.args.self.now.selected.time) c.make_ready.new.self p.stores c.give_back.ensures.other (made L M (c.give_back.ensures.shows L L sh) (e ∙ ap (λ (f : Family). all_answers f M) (sym c.give_back.ensures.shape.0)) agree))
    wait)

pub make_ready-requires-clause-outside : goal.make_ready-requires-clause-outside
make_ready-requires-clause-outside g c = (c.requires.outside.0, c.give_back.ensures.shows c.requires.outside.0 c.requires.outside.0 c.requires.outside.1, c.requires.outside.2)
