use Rattle.std.proofs.Common.{◌≡◌, ◌∙◌, List, map, refl, sym, ap, subst}
use Rattle.std.specs.Prelude.{is_some, option_map}
use Rattle.table_model.specs.declared.family.Family.{Family}
use Rattle.table_model.specs.Entries.{Entries}
use Rattle.table_model.specs.Both.{aggregate_in}
use Rattle.kept_model.specs.Between.{between}
use Rattle.fib_addr.specs.Views.{prefix_as}
use Rattle.fib_delta.specs.declared.change.Change as code
use Rattle.fib_delta.specs.Views.{change_as}
use Rattle.smalta_keep.specs.Rooms.{AreOf, HaveRoom}
use Rattle.smalta_keep.specs.Known.{SameBeside}
use Rattle.smalta_keep.specs.Plans.{mended}
use Rattle.smalta_keep.proofs.Making.{kept_room}
use Rattle.smalta_keep.proofs.Tables.{led, came}
use Rattle.smalta_keep.proofs.Knowing.{known_after, beside_itself}
use Rattle.smalta_keep.proofs.plan.snapshot_after.Goals as goal

pub apply_all-requires-clause-fit : goal.apply_all-requires-clause-fit
apply_all-requires-clause-fit c =
    let k = c.args.tree.now in
    let m = c.requires.mend in
    ap is_some (led c.deref.result.now k.entries k.entries (mended c.args.mend.now k.entries) (ap (map change_as) c.deref.ensures.value ∙ m.there) refl m.old_order m.order)

pub snapshot_delta-changes-requires : goal.snapshot_delta-changes-requires
snapshot_delta-changes-requires c =
    let k = c.args.tree.now in
    let l = c.apply_all.new.tree in
    let at = option_map prefix_as c.args.mend.now.reach in
    let N = mended c.args.mend.now k.entries in
    let m = c.requires.mend in
    let here : l.entries ≡ N = came c.deref.result.now k.entries k.entries N l.entries (ap (map change_as) c.deref.ensures.value ∙ m.there) refl m.old_order m.order c.apply_all.ensures.entries in
    known_after at k l c.args.dirty.now c.apply_all.ensures.keeps.family (beside_itself at k.family k.routes l.routes c.apply_all.ensures.keeps.routes) (subst (λ (T : Entries). SameBeside at k.family k.entries T) (sym here) m.beside) c.requires.known

pub apply_all-requires-2-clause-room : goal.apply_all-requires-2-clause-room
apply_all-requires-2-clause-room c =
    subst (λ (cs : List code.Change). HaveRoom c.apply_all.new.tree.nodes (map change_as cs)) (sym c.deref-2.ensures.value)
    (kept_room c.args.tree.now.nodes c.apply_all.new.tree.nodes (map change_as c.args.mend.now.back.items) c.apply_all.ensures.keeps.nodes c.requires.back)

pub apply_all-requires-2-clause-fit : goal.apply_all-requires-2-clause-fit
apply_all-requires-2-clause-fit c =
    let k = c.args.tree.now in
    let l = c.apply_all.new.tree in
    let T = mended c.args.mend.now k.entries in
    let m = c.requires.mend in
    let here : l.entries ≡ T = came c.deref.result.now k.entries k.entries T l.entries (ap (map change_as) c.deref.ensures.value ∙ m.there) refl m.old_order m.order c.apply_all.ensures.entries in
    ap is_some (led c.deref-2.result.now l.entries T k.entries (ap (map change_as) c.deref-2.ensures.value ∙ m.back) here m.order m.old_order)

pub returns-in-Ok-clause-keeps : goal.returns-in-Ok-clause-keeps
returns-in-Ok-clause-keeps c =
    let k = c.args.tree.now in
    let l = c.apply_all.new.tree in
    let T = mended c.args.mend.now k.entries in
    let m = c.requires.mend in
    let here : l.entries ≡ T = came c.deref.result.now k.entries k.entries T l.entries (ap (map change_as) c.deref.ensures.value ∙ m.there) refl m.old_order m.order c.apply_all.ensures.entries in
    record {
      family = c.apply_all-2.ensures.keeps.family ∙ c.apply_all.ensures.keeps.family;
      entries = came c.deref-2.result.now l.entries T k.entries c.apply_all-2.new.tree.entries (ap (map change_as) c.deref-2.ensures.value ∙ m.back) here m.order m.old_order c.apply_all-2.ensures.entries;
      nodes = λ p h. c.apply_all-2.ensures.keeps.nodes p (c.apply_all.ensures.keeps.nodes p h);
    }

pub returns-in-Ok-clause-changes : goal.returns-in-Ok-clause-changes
returns-in-Ok-clause-changes c =
    let k = c.args.tree.now in
    let l = c.apply_all.new.tree in
    let T = mended c.args.mend.now k.entries in
    let m = c.requires.mend in
    let here : l.entries ≡ T = came c.deref.result.now k.entries k.entries T l.entries (ap (map change_as) c.deref.ensures.value ∙ m.there) refl m.old_order m.order c.apply_all.ensures.entries in
    c.in-Ok.ensures.changes
    ∙ (ap (λ (L : Entries). between L (aggregate_in l.family l.routes L)) here ∙ (ap (λ (R : Entries). between T (aggregate_in l.family R T)) c.apply_all.ensures.keeps.routes ∙ ap (λ (f : Family). between T (aggregate_in f k.routes T)) c.apply_all.ensures.keeps.family))

pub returns-in-Ok-clause-family : goal.returns-in-Ok-clause-family
returns-in-Ok-clause-family c = subst (λ (f : Family). AreOf f (map change_as c.in-Ok.changes.items)) c.apply_all.ensures.keeps.family c.in-Ok.ensures.family

pub returns-in-Err-clause-keeps : goal.returns-in-Err-clause-keeps
returns-in-Err-clause-keeps c =
    let k = c.args.tree.now in
    let l = c.apply_all.new.tree in
    let T = mended c.args.mend.now k.entries in
    let m = c.requires.mend in
    let here : l.entries ≡ T = came c.deref.result.now k.entries k.entries T l.entries (ap (map change_as) c.deref.ensures.value ∙ m.there) refl m.old_order m.order c.apply_all.ensures.entries in
    record {
      family = c.put_back_planned.ensures.keeps.family ∙ (c.apply_all-2.ensures.keeps.family ∙ c.apply_all.ensures.keeps.family);
      entries =
          c.put_back_planned.ensures.keeps.entries
          ∙ came c.deref-2.result.now l.entries T k.entries c.apply_all-2.new.tree.entries (ap (map change_as) c.deref-2.ensures.value ∙ m.back) here m.order m.old_order c.apply_all-2.ensures.entries;
      nodes = λ p h. c.put_back_planned.ensures.keeps.nodes p (c.apply_all-2.ensures.keeps.nodes p (c.apply_all.ensures.keeps.nodes p h));
    }
