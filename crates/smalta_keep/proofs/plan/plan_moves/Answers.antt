use Rattle.std.proofs.Common.{List, Bool, false, Option, None, map, refl, sym, ap, subst, ◌∙◌}
use Rattle.std.specs.Prelude.{option_map}
use Rattle.table_model.specs.declared.family.Family.{Family}
use Rattle.kept_model.proofs.Alike.{none_between}
use Rattle.fib_addr.specs.Views.{prefix_as}
use Rattle.fib_delta.specs.declared.change.Change as code
use Rattle.fib_delta.specs.Views.{change_as}
use Rattle.orig_tree.specs.Views.{Labels}
use Rattle.smalta_keep.specs.Rooms.{AreOf, HaveRoom}
use Rattle.smalta_keep.specs.Routes.{former_place, undone_in}
use Rattle.smalta_keep.specs.Plans.{IsMend, IsMoved, mended, repaired_table}
use Rattle.smalta_keep.specs.Views.{place_in}
use Rattle.smalta_keep.specs.declared.repair.Repair.{Repair}
use Rattle.smalta_keep.proofs.Making.{kept_room}
use Rattle.smalta_keep.proofs.Tables.{renewed_placed}
use Rattle.smalta_keep.proofs.Planned.{is_off, is_on, places, set_over, set_room, set_still, mend_there, mended_is, repaired_there, renewed_there, before_set}
use Rattle.table_model.specs.Address.{Prefix}
use Rattle.smalta_keep.specs.Known.{AreNoted, IsKnownToMend, IsTouchedAt}
use Rattle.smalta_keep.proofs.Knowing.{known_at, known_more, known_planned, known_to_mend, reach_family, more_at, marked_twice}
use Rattle.smalta_keep.proofs.Settled.{route_family, family_of, settled_moves}
use Rattle.smalta_keep.proofs.plan.plan_moves.Goals as goal

pub mend_set-requires-clause-before : goal.mend_set-requires-clause-before
mend_set-requires-clause-before c =
    let k0 = c.args.tree.now in
    let e = c.set_planned.ensures.keeps in
    before_set c.args.due.fewest c.args.route k0 c.set_planned.new.tree c.in_ok-former.former c.requires.family c.family-family.ensures.order.0 c.requires.alike e.family e.entries c.in_ok-former.ensures.set

pub mend_set-requires-clause-known : goal.mend_set-requires-clause-known
mend_set-requires-clause-known c =
    let k0 = c.args.tree.now in
    let k1 = c.set_planned.new.tree in
    let e = c.set_planned.ensures.keeps in
    let s = c.in_ok-former.ensures.set in
    subst (λ (at : Option Prefix). IsKnownToMend c.args.due.fewest at k1 c.args.dirty.now.tree) (sym s.place) (known_to_mend c.args.due.fewest c.args.route k0 k1 c.args.dirty.now.tree c.family-family.ensures.order.0 c.requires.known e.family s.routes e.entries)

pub keep-requires : goal.keep-requires
keep-requires c =
    let k0 = c.args.tree.now in
    reach_family c.planned_prefix-at.result None k0 c.args.dirty.now.tree (route_family c.args.route c.planned_prefix-at.result k0.family c.planned_prefix-at.ensures c.requires.family) c.requires.known

pub keep-requires-2 : goal.keep-requires-2
keep-requires-2 c =
    let k0 = c.args.tree.now in
    reach_family c.in_ok-mend.mend.reach None k0 c.keep.new.self.tree (λ p s. c.in_ok-mend.ensures.mend.of_reach p s ∙ c.set_planned.ensures.keeps.family)
    (known_more k0 c.args.dirty.now.tree c.keep.new.self.tree (more_at (option_map prefix_as c.planned_prefix-at.result) c.args.dirty.now.tree c.keep.new.self.tree c.keep.ensures) c.requires.known)

pub returns-then-not-due-clause-moved : goal.returns-then-not-due-clause-moved
returns-then-not-due-clause-moved c =
    let route = c.args.route in
    let R = c.args.tree.now.routes in
    let at = place_in route in
    let fewest = c.args.due.fewest in
    let mend = c.in_ok-mend.mend in
    let k1 = c.set_planned.new.tree in
    let k2 = c.mend_set.new.tree in
    let k3 = c.with_room.new.tree in
    let f1 = c.in_ok-former.former in
    let s1 = c.in_ok-former.ensures.set in
    let s3 = set_over route (undone_in f1 k2.routes) R k3 c.in_ok-former-2.former (ap (λ (k : Labels). undone_in f1 k.routes) c.in_ok-mend.ensures.still ∙ s1.undone) c.in_ok-former-2.ensures.set in
    let family = c.with_room.ensures.keeps.family ∙ c.mend_set.ensures.keeps.family in
    let entries = c.with_room.ensures.keeps.entries ∙ c.mend_set.ensures.keeps.entries in
    let same = ap (repaired_table fewest k1) s1.place ∙ repaired_there fewest k1 k3 at family (s3.routes ∙ sym s1.routes) entries in
    let m = mend_there k1.family k3.family k1.entries k3.entries (repaired_table fewest k1 (former_place f1)) (repaired_table fewest k3 at) c.args.due.snapshot mend (sym family) (sym entries) same c.in_ok-mend.ensures.mend in
    let r : Repair = record { former = c.in_ok-former-2.former; cleared = c.clears-cleared.result; reach = mend.reach; due = c.args.due.snapshot; fewest = fewest; moved = record { repair = mend.there; snapshot = c.new.result } } in
    subst (λ (due : Bool). IsMoved k3 fewest at due (record { former = r.former; cleared = r.cleared; reach = r.reach; due = due; fewest = r.fewest; moved = r.moved })) (sym (is_off c.args.due.snapshot c.if-not-due.true))
    (record {
      is_due = refl;
      is_fewest = refl;
      repair = m.there;
      snapshot = ap (map change_as) c.new.ensures.items ∙ sym (none_between (repaired_table fewest k3 at));
      repair_of = m.of_there;
      snapshot_of = subst (λ (cs : List code.Change). AreOf k3.family (map change_as cs)) (sym c.new.ensures.items) tt;
      reach_of = m.of_reach;
      beside = m.beside;
      settled = settled_moves route fewest k3 mend.reach (former_place f1) s1.place c.in_ok-mend.ensures.reach (family_of route k3.family (λ q i. c.requires.family q i ∙ sym (family ∙ c.set_planned.ensures.keeps.family))) m.old_order;
      repair_room = subst (λ (cs : List code.Change). HaveRoom k3.nodes (map change_as cs)) c.deref.ensures.value c.in_ok-former-2.ensures.room;
      snapshot_room = subst (λ (cs : List code.Change). HaveRoom k3.nodes (map change_as cs)) (sym c.new.ensures.items) tt;
      old_order = m.old_order;
      repaired_order = m.order;
      planned_order = m.order;
    })

pub snapshot_after-requires-clause-known : goal.snapshot_after-requires-clause-known
snapshot_after-requires-clause-known c =
    let route = c.args.route in
    let k0 = c.args.tree.now in
    let k2 = c.mend_set.new.tree in
    let k3 = c.with_room.new.tree in
    let k4 = c.with_room-2.new.tree in
    let f1 = c.in_ok-former.former in
    let f2 = c.in_ok-former-2.former in
    let f3 = c.in_ok-former-3.former in
    let s1 = c.in_ok-former.ensures.set in
    let s3 = set_over route (undone_in f1 k2.routes) k0.routes k3 f2 (ap (λ (k : Labels). undone_in f1 k.routes) c.in_ok-mend.ensures.still ∙ s1.undone) c.in_ok-former-2.ensures.set in
    let s4 = set_room route k0.routes k3 k4 f2 f3 s3 c.in_ok-former-3.ensures.set in
    let t = c.keep.new.self.tree in
    let touched = subst (λ (a : Option Prefix). IsTouchedAt a c.args.dirty.now.tree t) (places route c.planned_prefix-at.result c.planned_prefix-at.ensures) c.keep.ensures in
    known_at (option_map prefix_as c.in_ok-mend.mend.reach) k4 t c.keep-2.new.self.tree c.keep-2.ensures
    (known_planned route k0 k4 t c.family-family.ensures.order.0 (known_at (place_in route) k0 c.args.dirty.now.tree t touched c.requires.known) (c.with_room-2.ensures.keeps.family ∙ (c.with_room.ensures.keeps.family ∙ (c.mend_set.ensures.keeps.family ∙ c.set_planned.ensures.keeps.family))) s4.routes
    (c.with_room-2.ensures.keeps.entries ∙ (c.with_room.ensures.keeps.entries ∙ (c.mend_set.ensures.keeps.entries ∙ c.set_planned.ensures.keeps.entries))))

pub snapshot_after-requires-clause-mend : goal.snapshot_after-requires-clause-mend
snapshot_after-requires-clause-mend c =
    let k1 = c.set_planned.new.tree in
    let k4 = c.with_room-2.new.tree in
    let mend = c.in_ok-mend.mend in
    let N = repaired_table c.args.due.fewest k1 (former_place c.in_ok-former.former) in
    let i = c.in_ok-mend.ensures.mend in
    let family = c.with_room-2.ensures.keeps.family ∙ (c.with_room.ensures.keeps.family ∙ c.mend_set.ensures.keeps.family) in
    let entries = c.with_room-2.ensures.keeps.entries ∙ (c.with_room.ensures.keeps.entries ∙ c.mend_set.ensures.keeps.entries) in
    subst (λ (back : Bool). IsMend k4.family back k4.entries (mended mend k4.entries) mend) (is_on c.args.due.snapshot c.if-not-due.false)
    (mend_there k1.family k4.family k1.entries k4.entries N (mended mend k4.entries) c.args.due.snapshot mend (sym family) (sym entries) (sym (mended_is k1.family c.args.due.snapshot k1.entries N mend i) ∙ ap (mended mend) (sym entries)) i)

pub snapshot_after-requires-clause-there : goal.snapshot_after-requires-clause-there
snapshot_after-requires-clause-there c =
    let k3 = c.with_room.new.tree in
    kept_room k3.nodes c.with_room-2.new.tree.nodes (map change_as c.in_ok-mend.mend.there.items) c.with_room-2.ensures.keeps.nodes (subst (λ (cs : List code.Change). HaveRoom k3.nodes (map change_as cs)) c.deref.ensures.value c.in_ok-former-2.ensures.room)

pub returns-clause-moved : goal.returns-clause-moved
returns-clause-moved c =
    let route = c.args.route in
    let R = c.args.tree.now.routes in
    let at = place_in route in
    let fewest = c.args.due.fewest in
    let mend = c.in_ok-mend.mend in
    let k1 = c.set_planned.new.tree in
    let k2 = c.mend_set.new.tree in
    let k3 = c.with_room.new.tree in
    let k4 = c.with_room-2.new.tree in
    let k5 = c.snapshot_after.new.tree in
    let k6 = c.with_room-3.new.tree in
    let f1 = c.in_ok-former.former in
    let f2 = c.in_ok-former-2.former in
    let f3 = c.in_ok-former-3.former in
    let s1 = c.in_ok-former.ensures.set in
    let s3 = set_over route (undone_in f1 k2.routes) R k3 f2 (ap (λ (k : Labels). undone_in f1 k.routes) c.in_ok-mend.ensures.still ∙ s1.undone) c.in_ok-former-2.ensures.set in
    let s4 = set_room route R k3 k4 f2 f3 s3 c.in_ok-former-3.ensures.set in
    let s5 = set_still route R k4 k5 f3 c.snapshot_after.ensures.keeps c.in_ok-changes.ensures.still s4 in
    let s6 = set_room route R k5 k6 f3 c.in_ok-former-4.former s5 c.in_ok-former-4.ensures.set in
    let a = c.with_room.ensures.keeps in
    let b = c.with_room-2.ensures.keeps in
    let d = c.snapshot_after.ensures.keeps in
    let e = c.with_room-3.ensures.keeps in
    let family = e.family ∙ (d.family ∙ (b.family ∙ (a.family ∙ c.mend_set.ensures.keeps.family))) in
    let entries = e.entries ∙ (d.entries ∙ (b.entries ∙ (a.entries ∙ c.mend_set.ensures.keeps.entries))) in
    let same = ap (repaired_table fewest k1) s1.place ∙ repaired_there fewest k1 k6 at family (s6.routes ∙ sym s1.routes) entries in
    let i = c.in_ok-mend.ensures.mend in
    let m = mend_there k1.family k6.family k1.entries k6.entries (repaired_table fewest k1 (former_place f1)) (repaired_table fewest k6 at) c.args.due.snapshot mend (sym family) (sym entries) same i in
    let N = repaired_table fewest k6 at in
    let made = ap (mended mend) (sym (e.entries ∙ d.entries)) ∙ mended_is k6.family c.args.due.snapshot k6.entries N mend m in
    let r : Repair = record { former = c.in_ok-former-4.former; cleared = c.clears-cleared.result; reach = mend.reach; due = c.args.due.snapshot; fewest = fewest; moved = record { repair = mend.there; snapshot = c.in_ok-changes.changes } } in
    subst (λ (due : Bool). IsMoved k6 fewest at due (record { former = r.former; cleared = r.cleared; reach = r.reach; due = due; fewest = r.fewest; moved = r.moved })) (sym (is_on c.args.due.snapshot c.if-not-due.false))
    (record {
      is_due = refl;
      is_fewest = refl;
      repair = m.there;
      snapshot = renewed_there k4.family k6.family k4.routes k6.routes (mended mend k4.entries) N (map change_as c.in_ok-changes.changes.items) (sym (e.family ∙ d.family)) (s4.routes ∙ sym s6.routes) made c.in_ok-changes.ensures.changes;
      repair_of = m.of_there;
      snapshot_of = subst (λ (f : Family). AreOf f (map change_as c.in_ok-changes.changes.items)) (sym (e.family ∙ d.family)) c.in_ok-changes.ensures.family;
      reach_of = m.of_reach;
      beside = m.beside;
      settled = settled_moves route fewest k6 mend.reach (former_place f1) s1.place c.in_ok-mend.ensures.reach (family_of route k6.family (λ q i. c.requires.family q i ∙ sym (family ∙ c.set_planned.ensures.keeps.family))) m.old_order;
      repair_room = kept_room k3.nodes k6.nodes (map change_as mend.there.items) (λ p h. e.nodes p (d.nodes p (b.nodes p h))) (subst (λ (cs : List code.Change). HaveRoom k3.nodes (map change_as cs)) c.deref.ensures.value c.in_ok-former-2.ensures.room);
      snapshot_room = subst (λ (cs : List code.Change). HaveRoom k6.nodes (map change_as cs)) c.deref-3.ensures.value c.in_ok-former-4.ensures.room;
      old_order = m.old_order;
      repaired_order = m.order;
      planned_order = renewed_placed k6.family k6.routes N;
    })

pub note-requires-clause-at : goal.note-requires-clause-at
note-requires-clause-at c =
    let k0 = c.args.tree.now in
    reach_family c.planned_prefix-at.result None k0 c.args.dirty.now.tree (route_family c.args.route c.planned_prefix-at.result k0.family c.planned_prefix-at.ensures c.requires.family) c.requires.known

pub note-requires-clause-reach : goal.note-requires-clause-reach
note-requires-clause-reach c =
    let k0 = c.args.tree.now in
    reach_family c.in_ok-mend.mend.reach None k0 c.args.dirty.now.tree (λ p s. c.in_ok-mend.ensures.mend.of_reach p s ∙ c.set_planned.ensures.keeps.family) c.requires.known

pub returns-then-not-due-clause-marked : goal.returns-then-not-due-clause-marked
returns-then-not-due-clause-marked c =
    let due = c.args.due in
    let t = c.args.dirty.now.tree in
    let u = c.note.new.dirty.tree in
    subst (λ (b : Bool). AreNoted b due.fewest (place_in c.args.route) t u) (sym (is_off due.snapshot c.if-not-due.true))
    (subst (λ (a : Option Prefix). AreNoted false due.fewest a t u) (places c.args.route c.planned_prefix-at.result c.planned_prefix-at.ensures) c.note.ensures)

pub returns-clause-marked : goal.returns-clause-marked
returns-clause-marked c =
    let due = c.args.due in
    subst (λ (b : Bool). AreNoted b due.fewest (place_in c.args.route) c.args.dirty.now.tree c.keep-2.new.self.tree) (sym (is_on due.snapshot c.if-not-due.false))
    (marked_twice c.args.route c.planned_prefix-at.result (option_map prefix_as c.in_ok-mend.mend.reach) c.args.dirty.now.tree c.keep.new.self.tree c.keep-2.new.self.tree c.planned_prefix-at.ensures c.keep.ensures c.keep-2.ensures)
