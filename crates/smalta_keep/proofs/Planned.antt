-- What a plan has, and what it tells.
use Rattle.std.proofs.Common.{◌≡◌, List, [], ◌∷◌, ◌++◌, Bool, true, false, Option, Some, None, map, refl, sym, ap, subst, ◌∙◌}
use Rattle.std.specs.Prelude.{not, option_map, IsSome}
use Rattle.std.specs.Option.{option_and_then, ForSome}
use Rattle.table_model.specs.Entries.{Entries, of_family}
use Rattle.table_model.specs.Changes.{Change, after_change, after_changes}
use Rattle.kept_model.specs.Between.{between}
use Rattle.kept_model.proofs.Alike.{made_placed, none_between}
use Rattle.table_model.specs.Address.{Prefix}
use Rattle.fib_addr.specs.Views.{prefix_as}
use Rattle.fib_addr.specs.declared.prefix.Prefix as code_prefix
use Rattle.fib_addr.specs.declared.entry.Hop as code_hop
use Rattle.orig_tree.specs.Views.{Labels, InPlace}
use Rattle.smalta_keep.specs.declared.routes.Former.{Former}
use Rattle.smalta_keep.specs.declared.repair.Repair.{Repair}
use Rattle.smalta_keep.specs.declared.told.Mend.{Mend}
use Rattle.kept_model.specs.Patched.{with_route, after_repair, after_snapshot}
use Rattle.table_model.specs.Width.{width}
use Rattle.table_model.specs.Table.{Alike}
use Rattle.table_model.specs.Both.{aggregate_in}
use Rattle.fib_moves.specs.Event.{AlikeBefore}
use Rattle.fib_moves.proofs.Routed.{routed_before}
use Rattle.fib_delta.proofs.Held.{is_prefix}
use Rattle.smalta_keep.specs.Answers.{IsAlikeFor}
use Rattle.moves_model.specs.Rows.{near_in}
use Rattle.table_model.specs.declared.family.Family.{Family}
use Rattle.smalta_keep.specs.Routes.{HasFormer, former_in, former_place, undone_in}
use Rattle.smalta_keep.specs.Plans.{IsMend, IsMoved, IsRouteSet, RoutesStay, IsRepairPlanned, Tells, IsBeforeAt, some_or, mended, repaired_table, planned_table}
use Rattle.smalta_keep.specs.Views.{moved_of, repair_as, snapshot_as, with_planned, place_in}
use Rattle.orig_tree.specs.Walk.{has_node}
use Rattle.smalta_keep.specs.Known.{SameBeside, StaysAt}
use Rattle.smalta_keep.specs.Rooms.{AreOf, HaveRoom, IsNodeAt, KeepsEntries}
use Rattle.fib_delta.specs.declared.change.Change as code
use Rattle.fib_delta.specs.Views.{change_as}

abbrev Route : Type 0
Route = Option (code_prefix.Prefix × code_hop.Hop)

pub some_place : (route : Route) (o : Option code_prefix.Prefix) (p : code_prefix.Prefix) → o ≡ option_map (λ r. r.0) route → o ≡ Some p → (h : code_hop.Hop) × (route ≡ Some (p, h))
some_place None o p e s = absurd cc
some_place (Some r) o p e s =
    let same : r.0 ≡ p = cc in
    (r.1, ap (λ (q : code_prefix.Prefix). Some (q, r.1)) same)

pub places : (route : Route) (o : Option code_prefix.Prefix) → o ≡ option_map (λ r. r.0) route → option_map prefix_as o ≡ place_in route
places None o e = ap (option_map prefix_as) e
places (Some r) o e = ap (option_map prefix_as) e

-- ---- whether a snapshot is due

pub is_off : (b : Bool) → not b ≡ true → b ≡ false
is_off true e = sym e
is_off false e = refl

pub is_on : (b : Bool) → not b ≡ false → b ≡ true
is_on true e = refl
is_on false e = sym e

-- ---- a plan's route that is set

held_still : (f : Option Former) (a b : Labels) → b.family ≡ a.family → RoutesStay a b → HasFormer a f → HasFormer b f
held_still None a b g s h = tt
held_still (Some f) a b g s h = (h.0 ∙ sym g, s.before ∙ (h.1 ∙ ap (former_in f) (sym s.routes)))

node_kept : (at : Option Prefix) (m n : List (List Bool)) → ((p : List Bool) → has_node p m ≡ true → has_node p n ≡ true) → IsNodeAt at m → IsNodeAt at n
node_kept None m n k i = tt
node_kept (Some p) m n k i = k p.bits i

pub set_still : (route : Route) (R : Entries) (a b : Labels) (f : Option Former) → KeepsEntries a b → RoutesStay a b → IsRouteSet route R a f → IsRouteSet route R b f
set_still route R a b f k s i = record {
  routes = s.routes ∙ i.routes;
  undone = ap (undone_in f) s.routes ∙ i.undone;
  held = held_still f a b k.family s i.held;
  place = i.place;
  node = node_kept (place_in route) a.nodes b.nodes k.nodes i.node;
}

pub set_over : (route : Route) (R S : Entries) (a : Labels) (f : Option Former) → R ≡ S → IsRouteSet route R a f → IsRouteSet route S a f
set_over route R S a f e i = subst (λ (z : Entries). IsRouteSet route z a f) e i

pub set_room : (route : Route) (R : Entries) (a b : Labels) (f g : Option Former) → IsRouteSet route R a f → IsRouteSet route (undone_in f a.routes) b g → IsRouteSet route R b g
set_room route R a b f g i j = set_over route (undone_in f a.routes) R b g i.undone j

-- ---- changes, one run after another

after_more : (cs ds : List Change) (L : Entries) → after_changes (cs ++ ds) L ≡ option_and_then (after_changes ds) (after_changes cs L)
after_more [] ds L = refl
after_more (c ∷ cs) ds L = by_first (after_change c L) (after_more cs ds)
  where
    by_first : (o : Option Entries) → ((M : Entries) → after_changes (cs ++ ds) M ≡ option_and_then (after_changes ds) (after_changes cs M)) → option_and_then (after_changes (cs ++ ds)) o ≡ option_and_then (after_changes ds) (option_and_then (after_changes cs) o)
    by_first None ih = refl
    by_first (Some M) ih = ih M

-- changes to a second table and then to a third
pub both_led : (cs ds : List Change) (T N M : Entries) → cs ≡ between T N → ds ≡ between N M → InPlace T → InPlace N → InPlace M → after_changes (cs ++ ds) T ≡ Some M
both_led cs ds T N M c d t n m =
    after_more cs ds T ∙ (ap (λ x. option_and_then (after_changes ds) (after_changes x T)) c ∙ (ap (option_and_then (after_changes ds)) (made_placed T N t n) ∙ (ap (λ x. after_changes x N) d ∙ made_placed N M n m)))

-- the first of two runs of changes that fit fits, and then the second
pub first_run : (cs ds : List Change) (T : Entries) → IsSome (after_changes (cs ++ ds) T) → IsSome (after_changes cs T)
first_run cs ds T e = by_first (after_changes cs T) (subst (λ (o : Option Entries). IsSome o) (after_more cs ds T) e)
  where
    by_first : (o : Option Entries) → IsSome (option_and_then (after_changes ds) o) → IsSome o
    by_first None h = h
    by_first (Some M) h = refl

pub second_run : (cs ds : List Change) (T N : Entries) → IsSome (after_changes (cs ++ ds) T) → after_changes cs T ≡ Some N → after_changes (cs ++ ds) T ≡ after_changes ds N
second_run cs ds T N e s = after_more cs ds T ∙ ap (option_and_then (after_changes ds)) s

-- the repaired table, as long as routes and entries stay
pub repaired_there : (fewest : Bool) (a b : Labels) (at : Option Prefix) → b.family ≡ a.family → b.routes ≡ a.routes → b.entries ≡ a.entries → repaired_table fewest a at ≡ repaired_table fewest b at
repaired_there false a b at f r e = ap (λ (R : Entries). after_repair R at a.entries) (sym r) ∙ ap (λ (T : Entries). after_repair b.routes at T) (sym e)
repaired_there true a b None f r e = sym e
repaired_there true a b (Some p) f r e =
    ap (λ (g : Family). near_in g a.routes a.entries) (sym f) ∙ (ap (λ (R : Entries). near_in b.family R a.entries) (sym r) ∙ ap (λ (T : Entries). near_in b.family b.routes T) (sym e))

pub mend_there : (f g : Family) (T U N M : Entries) (back : Bool) (m : Mend) → f ≡ g → T ≡ U → N ≡ M → IsMend f back T N m → IsMend g back U M m
mend_there f g T U N M back m e t n i = subst (λ (z : Family). IsMend z back U M m) e (subst (λ (z : Entries). IsMend f back z M m) t (subst (λ (z : Entries). IsMend f back T z m) n i))

-- the table that the changes make is the repaired one
pub mended_is : (f : Family) (back : Bool) (T N : Entries) (m : Mend) → IsMend f back T N m → mended m T ≡ N
mended_is f back T N m i = ap (some_or T) (ap (λ (cs : List Change). after_changes cs T) i.there ∙ made_placed T N i.old_order i.order)

pub nothing_repaired : (fewest : Bool) (kept : Labels) → repaired_table fewest kept None ≡ kept.entries
nothing_repaired false kept = refl
nothing_repaired true kept = refl

-- the changes of a snapshot
pub renewed_there : (f g : Family) (R S N M : Entries) (cs : List Change) → f ≡ g → R ≡ S → N ≡ M → cs ≡ between N (aggregate_in f R N) → cs ≡ between M (aggregate_in g S M)
renewed_there f g R S N M cs e r n i = i ∙ (ap (λ z. between z (aggregate_in f R z)) n ∙ (ap (λ z. between M (aggregate_in f z M)) r ∙ ap (λ z. between M (aggregate_in z S M)) e))

-- the table before the plan's route was set
pub before_set : (fewest : Bool) (route : Route) (a b : Labels) (f : Option Former) → ForSome route (λ r. r.0.family ≡ a.family) → InPlace a.routes → IsAlikeFor fewest route a → b.family ≡ a.family → b.entries ≡ a.entries → IsRouteSet route a.routes b f
    → IsBeforeAt fewest (former_place f) b
before_set fewest route a b f x r l e t s = subst (λ (at : Option Prefix). IsBeforeAt fewest at b) (sym s.place) (here fewest route x l s.routes)
  where
    here : (fewest : Bool) (route : Route) → ForSome route (λ r. r.0.family ≡ a.family) → IsAlikeFor fewest route a → b.routes ≡ with_planned route a.routes → IsBeforeAt fewest (place_in route) b
    here false route x l w = tt
    here true None x l w = tt
    here true (Some q) x l w =
        let p = prefix_as q.0 in
        let R = with_route p q.1.0 a.routes in
        let alike : Alike (width p.family) (of_family p.family a.routes) (of_family p.family a.entries) = subst (λ (g : Family). Alike (width g) (of_family g a.routes) (of_family g a.entries)) (sym (x q refl)) l in
        let before = routed_before a.routes a.entries p q.1.0 (is_prefix q.0) r alike in
        subst (λ (T : Entries). AlikeBefore (width b.family) p.bits (of_family b.family b.routes) (of_family b.family T)) (sym t)
        (subst (λ (S : Entries). AlikeBefore (width b.family) p.bits (of_family b.family S) (of_family b.family a.entries)) (sym w)
        (subst (λ (g : Family). AlikeBefore (width g) p.bits (of_family g R) (of_family g a.entries)) (x q refl ∙ sym e) before))

made_by : (kept : Labels) (fewest : Bool) (at : Option Prefix) (due : Bool) (r : Repair) → IsMoved kept fewest at due r
    → after_changes (repair_as r.moved ++ snapshot_as r.moved) kept.entries ≡ Some (planned_table fewest kept at due)
made_by kept fewest at due r i =
    both_led (repair_as r.moved) (snapshot_as r.moved) kept.entries (repaired_table fewest kept at) (planned_table fewest kept at due) i.repair i.snapshot i.old_order i.repaired_order i.planned_order

pub tells : (kept : Labels) (fewest : Bool) (at : Option Prefix) (due : Bool) (r : Repair) → IsMoved kept fewest at due r → Tells kept fewest at due (moved_of r)
tells kept fewest at due r i = record { repair = i.repair; snapshot = i.snapshot; makes = made_by kept fewest at due r i }

pub planned : (kept : Labels) (fewest : Bool) (at : Option Prefix) (due : Bool) (r : Repair) → IsMoved kept fewest at due r → HasFormer kept r.former → IsRepairPlanned kept r
planned kept fewest at due r i h = record {
  repair_of = i.repair_of;
  snapshot_of = i.snapshot_of;
  reach_of = i.reach_of;
  repair_room = i.repair_room;
  snapshot_room = i.snapshot_room;
  repaired = repaired_table fewest kept at;
  beside = i.beside;
  makes = made_by kept fewest at due r i ∙ ap (λ b. Some (after_snapshot kept.family kept.routes b (repaired_table fewest kept at))) (sym i.is_due);
  settled = λ e. i.settled (sym i.is_fewest ∙ e);
  former = h;
}

-- ---- a plan that changes nothing

pub nothing_planned : (k : Labels) (r : Repair) → r.former ≡ None → r.reach ≡ None → r.due ≡ false → r.moved.repair.items ≡ [] → r.moved.snapshot.items ≡ [] → IsRepairPlanned k r
nothing_planned k r a b d e f = record {
  repair_of = subst (λ (cs : List code.Change). AreOf k.family (map change_as cs)) (sym e) tt;
  snapshot_of = subst (λ (cs : List code.Change). AreOf k.family (map change_as cs)) (sym f) tt;
  reach_of = subst (λ (o : Option code_prefix.Prefix). ForSome o (λ p. p.family ≡ k.family)) (sym b) (λ p s. cc);
  repair_room = subst (λ (cs : List code.Change). HaveRoom k.nodes (map change_as cs)) (sym e) tt;
  snapshot_room = subst (λ (cs : List code.Change). HaveRoom k.nodes (map change_as cs)) (sym f) tt;
  repaired = k.entries;
  beside = subst (λ (o : Option code_prefix.Prefix). SameBeside (option_map prefix_as o) k.family k.entries k.entries) (sym b) refl;
  makes = subst (λ (cs : List code.Change). after_changes (map change_as cs ++ map change_as r.moved.snapshot.items) k.entries ≡ Some (after_snapshot k.family k.routes r.due k.entries)) (sym e)
      (subst (λ (cs : List code.Change). after_changes (map change_as cs) k.entries ≡ Some (after_snapshot k.family k.routes r.due k.entries)) (sym f) (ap (λ (due : Bool). Some (after_snapshot k.family k.routes due k.entries)) (sym d)));
  settled = λ w. subst (λ (o : Option code_prefix.Prefix). StaysAt (option_map prefix_as o) k.family k.routes k.entries) (sym b) tt;
  former = subst (λ (o : Option Former). HasFormer k o) (sym a) tt;
}

pub nothing_told : (k : Labels) (fewest : Bool) (route : Route) (due : Bool) (r : Repair) → route ≡ None → due ≡ false → r.moved.repair.items ≡ [] → r.moved.snapshot.items ≡ [] → Tells k fewest (place_in route) due r.moved
nothing_told k fewest route due r n d e f = subst (λ (o : Route). Tells k fewest (place_in o) due r.moved) (sym n) (subst (λ (b : Bool). Tells k fewest None b r.moved) (sym d) (here fewest))
  where
    none : (cs : List code.Change) → cs ≡ [] → map change_as cs ≡ between k.entries k.entries
    none cs i = ap (map change_as) i ∙ sym (none_between k.entries)

    makes : after_changes (map change_as r.moved.repair.items ++ map change_as r.moved.snapshot.items) k.entries ≡ Some k.entries
    makes = subst (λ (cs : List code.Change). after_changes (map change_as cs ++ map change_as r.moved.snapshot.items) k.entries ≡ Some k.entries) (sym e) (subst (λ (cs : List code.Change). after_changes (map change_as cs) k.entries ≡ Some k.entries) (sym f) refl)

    here : (fewest : Bool) → Tells k fewest None false r.moved
    here true = record { repair = none r.moved.repair.items e; snapshot = none r.moved.snapshot.items f; makes = makes }
    here false = record { repair = none r.moved.repair.items e; snapshot = none r.moved.snapshot.items f; makes = makes }
