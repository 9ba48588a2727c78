use Rattle.std.proofs.Common.{◌≡◌, List, map, ap, ◌∙◌}
use Rattle.std.proofs.lemmas.Result.{IfOk-weaker}
use Rattle.table_model.specs.Entries.{Entries, of_table}
use Rattle.kept_model.specs.Between.{between}
use Rattle.fib_addr.specs.Views.{entry_as, prefix_as}
use Rattle.fib_addr.specs.declared.entry.Entry as code
use Rattle.fib_delta.specs.Views.{change_as}
use Rattle.orig_tree.specs.Spots.{spot_answers}
use Rattle.fib_moves.specs.Turns.{AreTurned, around}
use Rattle.fib_moves.proofs.Turns.{event_list, event_entries, fine_old, fine_new}
use Rattle.fib_moves.proofs.event.list_event.Goals as goal

pub list_turn-requires : goal.list_turn-requires
list_turn-requires c =
    let r = c.args.region.now in
    c.hops_of.ensures r.bits (spot_answers r) r.entries c.requires.knows

pub between-requires-clause-old : goal.between-requires-clause-old
between-requires-clause-old c =
    let v = c.in_ok-list_differing.ensures in
    let u = c.in_ok-hop.ensures in
    let t = c.args.turn.now in
    let p = c.args.prefix in
    event_entries p c.args.region.now.bits (prefix_as t.prefix).bits u.o v.had (map entry_as c.deref.result.now) c.requires.bits v.had_table (fine_old c.args.region.now p t u.o u.n c.in_ok-hop.hop c.requires.within u.which)
    (ap (map entry_as) c.deref.ensures.value ∙ event_list p.family (prefix_as t.prefix) u.o (prefix_as p).bits v.had _ _ (map entry_as c.list_differing.new.out.had.items) c.requires.family (ap (map entry_as) c.new.ensures.items) u.old v.old)

pub between-requires-clause-new : goal.between-requires-clause-new
between-requires-clause-new c =
    let v = c.in_ok-list_differing.ensures in
    let u = c.in_ok-hop.ensures in
    let t = c.args.turn.now in
    let p = c.args.prefix in
    event_entries p c.args.region.now.bits (prefix_as t.prefix).bits u.n v.gets (map entry_as c.deref-2.result.now) c.requires.bits v.gets_table (fine_new c.args.region.now p t u.o u.n c.in_ok-hop.hop c.requires.within u.which)
    (ap (map entry_as) c.deref-2.ensures.value ∙ event_list p.family (prefix_as t.prefix) u.n (prefix_as p).bits v.gets _ _ (map entry_as c.list_differing.new.out.gets.items) c.requires.family (ap (map entry_as) c.new-2.ensures.items) u.new v.new)

pub returns : goal.returns
returns c =
    let v = c.in_ok-list_differing.ensures in
    let u = c.in_ok-hop.ensures in
    let t = c.args.turn.now in
    let p = c.args.prefix in
    let d = c.list_differing.new.out in
    let A : map entry_as d.had.items ≡ of_table p.family (around (prefix_as t.prefix).bits u.o (prefix_as p).bits v.had) = event_list p.family (prefix_as t.prefix) u.o (prefix_as p).bits v.had _ _ (map entry_as d.had.items) c.requires.family (ap (map entry_as) c.new.ensures.items) u.old v.old in
    let B : map entry_as d.gets.items ≡ of_table p.family (around (prefix_as t.prefix).bits u.n (prefix_as p).bits v.gets) = event_list p.family (prefix_as t.prefix) u.n (prefix_as p).bits v.gets _ _ (map entry_as d.gets.items) c.requires.family (ap (map entry_as) c.new-2.ensures.items) u.new v.new in
    IfOk-weaker c.between.result (λ x. map change_as x.items ≡ between (map entry_as c.deref.result.now) (map entry_as c.deref-2.result.now)) (λ x. AreTurned c.args.region.now p t (map change_as x.items))
    (λ x e. record {
      o = u.o;
      n = u.n;
      hop = c.in_ok-hop.hop;
      had = v.had;
      gets = v.gets;
      had_table = v.had_table;
      gets_table = v.gets_table;
      part = v.part;
      which = u.which;
      told = e ∙ (ap (λ (L : List code.Entry). between (map entry_as L) (map entry_as c.deref-2.result.now)) c.deref.ensures.value ∙ (ap (λ (L : List code.Entry). between (map entry_as d.had.items) (map entry_as L)) c.deref-2.ensures.value
          ∙ (ap (λ (E : Entries). between E (map entry_as d.gets.items)) A ∙ ap (between (of_table p.family (around (prefix_as t.prefix).bits u.o (prefix_as p).bits v.had))) B)));
    })
    c.between.ensures
