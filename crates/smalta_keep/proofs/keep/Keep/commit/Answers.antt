use Rattle.std.proofs.Common.{◌≡◌, List, Some, map, sym, ap, subst, ◌∙◌}
use Rattle.std.specs.Prelude.{IsSome, is_some, Option, option_map, ◌++◌}
use Rattle.table_model.specs.Entries.{Entries}
use Rattle.table_model.specs.Changes.{after_changes}
use Rattle.fib_delta.specs.declared.change.Change as code
use Rattle.fib_delta.specs.Views.{change_as}
use Rattle.orig_tree.specs.Views.{Labels}
use Rattle.smalta_keep.specs.Rooms.{HaveRoom}
use Rattle.smalta_keep.specs.Views.{repair_as, snapshot_as}
use Rattle.table_model.specs.declared.family.Family.{Family}
use Rattle.fib_addr.specs.Views.{prefix_as}
use Rattle.smalta_keep.specs.Known.{AreLeftHeld}
use Rattle.smalta_keep.specs.Plans.{IsRepairPlanned}
use Rattle.kept_model.specs.Patched.{after_snapshot}
use Rattle.smalta_keep.proofs.Tables.{some_is}
use Rattle.smalta_keep.proofs.Holding.{held_family, held_reach, known_left}
use Rattle.smalta_keep.proofs.Making.{kept_room}
use Rattle.smalta_keep.proofs.Planned.{first_run, second_run}
use Rattle.smalta_keep.proofs.keep.Keep.commit.Goals as goal

pub apply_all-requires-clause-fit : goal.apply_all-requires-clause-fit
apply_all-requires-clause-fit c =
    let T = c.args.self.now.entries in
    let m = c.args.repair.moved in
    let fits : IsSome (after_changes (repair_as m ++ snapshot_as m) T) = ap is_some c.requires.makes in
    let e : c.self.inside.tree.entries ≡ T = ap (λ (s : Labels). s.entries) c.self.view_is in
    subst (λ (E : Entries). IsSome (after_changes (map change_as c.deref.result.now) E)) (sym e) (subst (λ (cs : List code.Change). IsSome (after_changes (map change_as cs) T)) (sym c.deref.ensures.value) (first_run (repair_as m) (snapshot_as m) T fits))

pub apply_all-requires-2-clause-room : goal.apply_all-requires-2-clause-room
apply_all-requires-2-clause-room c =
    let m = c.args.repair.moved in
    let nodes = c.apply_all.new.tree.nodes in
    subst (λ (cs : List code.Change). HaveRoom nodes (map change_as cs)) (sym c.deref-2.ensures.value)
    (kept_room c.self.inside.tree.nodes nodes (snapshot_as m) c.apply_all.ensures.keeps.nodes (subst (λ (k : Labels). HaveRoom k.nodes (snapshot_as m)) (sym c.self.view_is) c.requires.snapshot_room))

pub apply_all-requires-2-clause-fit : goal.apply_all-requires-2-clause-fit
apply_all-requires-2-clause-fit c =
    let T = c.args.self.now.entries in
    let N = c.apply_all.new.tree.entries in
    let m = c.args.repair.moved in
    let fits : IsSome (after_changes (repair_as m ++ snapshot_as m) T) = ap is_some c.requires.makes in
    let e : c.self.inside.tree.entries ≡ T = ap (λ (s : Labels). s.entries) c.self.view_is in
    let went : after_changes (repair_as m) T ≡ Some N = ap (after_changes (repair_as m)) (sym e) ∙ (ap (λ (cs : List code.Change). after_changes (map change_as cs) c.self.inside.tree.entries) (sym c.deref.ensures.value) ∙ c.apply_all.ensures.entries) in
    subst (λ (cs : List code.Change). IsSome (after_changes (map change_as cs) N)) (sym c.deref-2.ensures.value) (subst (λ (o : Option Entries). IsSome o) (second_run (repair_as m) (snapshot_as m) T N fits went) fits)

pub returns-clause-table : goal.returns-clause-table
returns-clause-table c =
    let T = c.args.self.now.entries in
    let N = c.apply_all.new.tree.entries in
    let m = c.args.repair.moved in
    let fits : IsSome (after_changes (repair_as m ++ snapshot_as m) T) = ap is_some c.requires.makes in
    let e : c.self.inside.tree.entries ≡ T = ap (λ (s : Labels). s.entries) c.self.view_is in
    let went : after_changes (repair_as m) T ≡ Some N = ap (after_changes (repair_as m)) (sym e) ∙ (ap (λ (cs : List code.Change). after_changes (map change_as cs) c.self.inside.tree.entries) (sym c.deref.ensures.value) ∙ c.apply_all.ensures.entries) in
    second_run (repair_as m) (snapshot_as m) T N fits went
    ∙ (ap (λ (cs : List code.Change). after_changes (map change_as cs) N) (sym c.deref-2.ensures.value) ∙ (c.apply_all-2.ensures.entries ∙ ap Some (sym (c.trim_left-2.ensures.entries ∙ (c.trim_left.ensures.entries ∙ c.trim_cleared.ensures.entries)))))

pub invariant_of-self : goal.invariant_of-self
invariant_of-self c =
    let k = c.self.inside.tree in
    let l = c.trim_left-2.new.tree in
    let N = c.apply_all.new.tree.entries in
    let due = c.args.repair.due in
    let m = c.args.repair.moved in
    let q : IsRepairPlanned k c.args.repair = subst (λ (j : Labels). IsRepairPlanned j c.args.repair) (sym c.self.view_is) c.requires in
    let went : after_changes (repair_as m) k.entries ≡ Some N = ap (λ (cs : List code.Change). after_changes (map change_as cs) k.entries) (sym c.deref.ensures.value) ∙ c.apply_all.ensures.entries in
    let made : after_changes (repair_as m ++ snapshot_as m) k.entries ≡ Some l.entries =
    second_run (repair_as m) (snapshot_as m) k.entries N (ap is_some q.makes) went
    ∙ (ap (λ (cs : List code.Change). after_changes (map change_as cs) N) (sym c.deref-2.ensures.value) ∙ (c.apply_all-2.ensures.entries ∙ ap Some (sym (c.trim_left-2.ensures.entries ∙ (c.trim_left.ensures.entries ∙ c.trim_cleared.ensures.entries)))))
    in
    let held = option_map prefix_as c.self.inside.held in
    known_left due c.args.repair.fewest (option_map prefix_as c.args.repair.reach) held k l q.repaired c.self.inside.dirty.tree c.leave.new.dirty.tree
    (subst (λ (f : Family). AreLeftHeld due c.args.repair.fewest f (option_map prefix_as c.args.repair.reach) held c.self.inside.dirty.tree c.leave.new.dirty.tree) c.family-family.ensures.family c.leave.ensures)
    c.self.invariant (c.trim_left-2.ensures.family ∙ (c.trim_left.ensures.family ∙ (c.trim_cleared.ensures.family ∙ (c.apply_all-2.ensures.keeps.family ∙ c.apply_all.ensures.keeps.family))))
    (c.trim_left-2.ensures.routes ∙ (c.trim_left.ensures.routes ∙ (c.trim_cleared.ensures.routes ∙ (c.apply_all-2.ensures.keeps.routes ∙ c.apply_all.ensures.keeps.routes)))) q.beside q.settled (some_is l.entries (after_snapshot k.family k.routes due q.repaired) (sym made ∙ q.makes))

pub leave-requires-clause-held : goal.leave-requires-clause-held
leave-requires-clause-held c = held_family c.self.inside.held c.self.inside.tree c.self.inside.dirty.tree c.self.invariant

pub leave-requires-clause-at : goal.leave-requires-clause-at
leave-requires-clause-at c =
    let k = c.self.inside.tree in
    let q : IsRepairPlanned k c.args.repair = subst (λ (j : Labels). IsRepairPlanned j c.args.repair) (sym c.self.view_is) c.requires in
    held_reach c.args.repair.reach (option_map prefix_as c.self.inside.held) k c.self.inside.dirty.tree q.reach_of c.self.invariant
