-- What an engine holds after one elementary event more.
use Rattle.std.proofs.Common.{◌≡◌, ℕ, zero, suc, ◌+◌, ◌<◌, ◌≤◌, List, [], ◌∷◌, ◌++◌, Bool, true, false, cond, Option, Some, None, length, refl, sym, ap, subst, ◌∙◌, arith, append-nil, append_assoc, length-append}
use Rattle.std.specs.Prelude.{option_map, if◌then◌else◌}
use Rattle.std.specs.List.{AllByRecursion}
use Rattle.std.specs.List.Sorted.{IsStrictlySortedBy}
use Rattle.std.specs.Map.{keys_of}
use Rattle.table_model.specs.Width.{width}
use Rattle.table_model.specs.Address.{Address, Prefix, IsAddress, same_address, same_family, same_prefix}
use Rattle.table_model.specs.declared.family.Family.{Family}
use Rattle.table_model.specs.declared.family.Family.TheVariants.{V4, V6}
use Rattle.table_model.proofs.BitLaws.{length-bits_of}
use Rattle.table_model.proofs.SamePrefix.{same_address_is}
use Rattle.table_model.specs.Table.{Table, Alike}
use Rattle.table_model.specs.Entries.{Entries, AlikeInBoth, of_family, in_order}
use Rattle.table_model.specs.Changes.{Change, after_changes}
use Rattle.table_model.proofs.Sums.{in_order_again}
use Rattle.route_model.specs.Events.{Elem, elem_prefix}
use Rattle.route_model.specs.Choice.{Candidates, AreCandidates, IsElem, after_elem, after_elems, chosen_for}
use Rattle.route_model.proofs.Said.{candidates_after, none_yet}
use Rattle.route_model.proofs.Elems.{candidates_stay}
use Rattle.kept_model.specs.Feed.{AreNumbered, IsNumbered, entries_of, hops_after, number_in}
use Rattle.kept_model.proofs.Numbers.{hops_more, entries_stay, routes_numbered, chosen_numbered}
use Rattle.kept_model.proofs.Tables.{at_prefix, entries_sorted, entries_at_prefixes, entry_after, new_entry}
use Rattle.kept_model.proofs.Tables.{entry_at as routed_at}
use Rattle.table_model.specs.Both.{aggregate_in, aggregate_in_both}
use Rattle.table_model.specs.Sets.{answers}
use Rattle.table_model.specs.Least.{bound}
use Rattle.cert_model.specs.Rows.{CertRow, bound_row, certificate_of, family_rows, region_rows, whole_prefix}
use Rattle.kept_model.specs.Between.{between, entry_hop_at}
use Rattle.kept_model.specs.Patched.{with_route, after_snapshot}
use Rattle.kept_model.proofs.Families.{placed_both}
use Rattle.kept_model.specs.Kept.{AreNumberedAlong, is_other, is_due, changed_at, snapshot_if, kept_at_load}
use Rattle.kept_model.proofs.FeedSteps.{elems_more, numbered_along, numbered_later, snapshot_is}
use Rattle.kept_model.proofs.FeedStays.{load_stays}
use Rattle.moves_model.specs.Shortest.{AreShortest}
use Rattle.moves_model.specs.Moved.{after_move, table_by, table_from}
use Rattle.moves_model.specs.Reported.{first_changes, told_of}
use Rattle.moves_model.proofs.Moved.{table_alike}
use Rattle.moves_model.proofs.Reported.{table_from_stays, table_step}
use Rattle.moves_model.proofs.Shortest.{move_shortest}
use Rattle.fib_addr.specs.Hops.{most_hops}
use Rattle.fib_addr.specs.Views.{addr_as, prefix_as}
use Rattle.fib_addr.specs.declared.addr.Addr.{Addr}
use Rattle.fib_addr.specs.declared.entry.Hop as code_hop
use Rattle.fib_delta.proofs.Held.{is_prefix}
use Rattle.fib_prefix.specs.Views.{elem_as}
use Rattle.fib_prefix.specs.declared.event.Elem as code_elem
use Rattle.fib_prefix.specs.declared.event.Elem.TheVariants as code_variant
use Rattle.orig_tree.specs.Views.{Labels, InPlace}
use Rattle.orig_tree.proofs.Places.{labels_are}
use Rattle.route_choice.specs.Held.{IsChoice}
use Rattle.route_choice.specs.declared.choice.Choice.{Choice}
use Rattle.smalta_keep.specs.declared.repair.Repair.{Repair}
use Rattle.smalta_keep.specs.Views.{moved_of, place_in, repair_as, snapshot_as, with_planned}
use Rattle.smalta_keep.specs.Plans.{Tells, repaired_table}
use Rattle.smalta_keep.proofs.Alike.{committed}
use Rattle.smalta_keep.proofs.Tables.{renewed_placed, renewed_family}
use Rattle.route_tries.specs.Sizes.{Sizes, shortage}
use Rattle.route_tries.specs.declared.needs.FamilyNeeds.{FamilyNeeds}
use Rattle.fib_engine.specs.FinalFib.{AreSettled}
use Rattle.fib_engine.specs.Tables.{Both, Route, AreAlike, AreBoth, AreFilledOf, AreOfRoutes, AreTold, ArePut, KeepRoutes, KeepTables, MadeBy, both_firsts, both_routes, gathered, only, route_in, table_of as both_tables}
use Rattle.fib_engine.specs.Held.{AreKeptNeeds, EngineState, IsKept, IsSound, if_loaded, engine_routes}
use Rattle.fib_engine.specs.Numbers.{IsNewNumber, IsRouteOf, HasNumber, number_or_none}
use Rattle.fib_engine.specs.Stands.{IsLoading, EngineStands, TakesElem, first_of, routes_after}
use Rattle.fib_engine.proofs.Holding.{Fine, both_again, some_of, turned, stays_out, stays_all, both_snapshots, both_changes, both_aggregates, fine_renewed, of_only, only_placed}
use Rattle.fib_engine.proofs.Moving.{moved_in, moved_is, fine_moved, fine_still, both_still, both_moved, both_moved_high, none_alike, fresh_alike, alike_in, alike_of, both_alike, low_alike, high_alike}
use Rattle.fib_engine.proofs.Numbering.{number_least}

-- ---- elementary events of the code are about places that there are

pub is_address : (a : Addr) → IsAddress (addr_as a)
is_address a = length-bits_of (width a.family) a.bits

pub is_elem : (elem : code_elem.Elem) → IsElem (elem_as elem)
is_elem (code_variant.Put v p path hop) = (is_prefix p, is_address v.peer.addr)
is_elem (code_variant.Cut v p) = (is_prefix p, is_address v.peer.addr)

all_push : (P : Elem → Type 0) (xs : List Elem) (x : Elem) → AllByRecursion P xs → P x → AllByRecursion P (xs ++ x ∷ [])
all_push P [] x a p = (p, tt)
all_push P (y ∷ xs) x a p = (a.0, all_push P xs x a.1 p)

-- ---- the start

none_order : InPlace []
unfolding IsStrictlySortedBy
none_order = (tt, tt)

kept_none : (f : Family) (E : Entries) (k : Labels) → k.family ≡ f → k.routes ≡ [] → k.entries ≡ [] → IsKept f false E k
kept_none f E k s r e = record {
  family = s;
  order = subst (λ (T : Entries). InPlace T) (sym e) none_order;
  of_family = subst (λ (T : Entries). AllByRecursion (λ (p : Prefix). p.family ≡ f) (keys_of T)) (sym e) tt;
  routes = r;
  alike = alike_of f k s (none_alike f k.routes k.entries (r ∙ sym e));
  empty = λ t. e;
}

pub sound_start : (C : Candidates) (H : List Address) (b : Both) → C ≡ [] → H ≡ [] → AreBoth b → b.v4.routes ≡ [] → b.v6.routes ≡ [] → b.v4.entries ≡ [] → b.v6.entries ≡ [] → IsSound C H false b
sound_start C H b c h f r t x y = record {
  elems = [];
  proper = tt;
  candidates = c;
  hops = h;
  few = omega (arith, ap length h);
  v4 = kept_none V4 (entries_of H C) b.v4 f.0 r x;
  v6 = kept_none V6 (entries_of H C) b.v6 f.1 t y;
}

-- ---- one elementary event of the load

hops_push : (elems : List Elem) (elem : Elem) (H H' : List Address) → H ≡ hops_after [] elems → H' ≡ hops_after H (elem ∷ []) → H' ≡ hops_after [] (elems ++ elem ∷ [])
hops_push elems elem H H' h e = e ∙ (ap (λ hs. hops_after hs (elem ∷ [])) h ∙ sym (hops_more [] elems (elem ∷ [])))

held_push : (elems : List Elem) (elem : Elem) (C C' : Candidates) → C ≡ after_elems [] elems → C' ≡ after_elem C elem → C' ≡ after_elems [] (elems ++ elem ∷ [])
held_push elems elem C C' c e = e ∙ (ap (λ x. after_elem x elem) c ∙ sym (elems_more [] elems (elem ∷ [])))

pub not_over : (n : ℕ) → (most_hops < n → false ≡ true) → n ≤ most_hops
not_over n h = let k : most_hops < n → ⊥ = (λ l. let z : false ≡ true = h l in cc) in omega arith

pub sound_load : (C C' : Candidates) (H H' : List Address) (elem : Elem) (loaded : Bool) (b : Both) → loaded ≡ false → IsSound C H loaded b → IsElem elem → C' ≡ after_elem C elem → H' ≡ hops_after H (elem ∷ []) → length H' ≤ most_hops → IsSound C' H' loaded b
sound_load C C' H H' elem loaded b l s x c h few = record {
  elems = s.elems ++ elem ∷ [];
  proper = all_push IsElem s.elems elem s.proper x;
  candidates = held_push s.elems elem C C' s.candidates c;
  hops = hops_push s.elems elem H H' s.hops h;
  few = few;
  v4 = subst (λ (t : Bool). IsKept V4 t (entries_of H' C') b.v4) (sym l) (kept_none V4 (entries_of H' C') b.v4 s.v4.family (s.v4.routes ∙ ap (λ t. only V4 (if_loaded t (entries_of H C))) l) (s.v4.empty l));
  v6 = subst (λ (t : Bool). IsKept V6 t (entries_of H' C') b.v6) (sym l) (kept_none V6 (entries_of H' C') b.v6 s.v6.family (s.v6.routes ∙ ap (λ t. only V6 (if_loaded t (entries_of H C))) l) (s.v6.empty l));
}

pub loading_more : (load : List Elem) (elem : Elem) (old new : EngineState) → IsElem elem → new.candidates ≡ after_elem old.candidates elem → new.hops ≡ hops_after old.hops (elem ∷ []) → new.table ≡ old.table → new.loaded ≡ old.loaded → new.events ≡ old.events → new.moves ≡ old.moves
    → IsLoading load old → IsLoading (load ++ elem ∷ []) new
loading_more load elem old new x c h t l e m s = record {
  candidates = held_push load elem old.candidates new.candidates s.candidates c;
  hops = hops_push load elem old.hops new.hops s.hops h;
  proper = all_push IsElem load elem s.proper x;
  table = t ∙ s.table;
  loaded = l ∙ s.loaded;
  events = e ∙ s.events;
  moves = m ∙ s.moves;
}

-- ---- the end of the load

pub held_are : (C : Candidates) (H : List Address) (l : Bool) (b : Both) → IsSound C H l b → AreCandidates C
held_are C H l b s = subst (λ (X : Candidates). AreCandidates X) (sym s.candidates) (candidates_stay [] s.elems none_yet s.proper)

pub routes_have : (C : Candidates) (H : List Address) (l : Bool) (b : Both) → IsSound C H l b → AreNumbered H C
routes_have C H l b s =
    subst (λ (hs : List Address). AreNumbered hs C) (sym s.hops) (subst (λ (X : Candidates). AreNumbered (hops_after [] s.elems) X) (sym s.candidates) (routes_numbered s.elems))

pub routes_placed : (C : Candidates) (H : List Address) (l : Bool) (b : Both) → IsSound C H l b → InPlace (entries_of H C)
routes_placed C H l b s = let a = held_are C H l b s in (entries_at_prefixes H C a, entries_sorted H C a)

-- a family's routes, put one by one in their order
pub put_in_order : (f : Family) (E : Entries) → InPlace E → in_order (only f E) ≡ only f E
put_in_order f E e = in_order_again (only f E) (only_placed f E e).1

kept_fresh : (f : Family) (E T R : Entries) (k : Labels) → k.family ≡ f → k.routes ≡ R → R ≡ only f E → k.entries ≡ aggregate_in f R T → IsKept f true E k
kept_fresh f E T R k s r o e = record {
  family = s;
  order = subst (λ (U : Entries). InPlace U) (sym e) (renewed_placed f R T);
  of_family = subst (λ (U : Entries). AllByRecursion (λ (p : Prefix). p.family ≡ f) (keys_of U)) (sym e) (renewed_family f R T);
  routes = r ∙ o;
  alike =
      alike_of f k s
      (subst (λ (U : Entries). Alike (width f) (of_family f U) (of_family f k.entries)) (sym r)
      (subst (λ (U : Entries). Alike (width f) (of_family f R) (of_family f U)) (sym e) (fresh_alike f R T)));
  empty = λ t. absurd cc;
}

-- the tables of the routes, filled
pub filled_of : (E : Entries) (t n : Both) → AreOfRoutes E t → KeepRoutes t n → n.v4.entries ≡ aggregate_in V4 t.v4.routes [] → n.v6.entries ≡ aggregate_in V6 t.v6.routes [] → AreFilledOf E n
filled_of E t n a k v4 v6 = record {
  families = (k.v4_family ∙ a.families.0, k.v6_family ∙ a.families.1);
  v4 = k.v4 ∙ a.v4;
  v6 = k.v6 ∙ a.v6;
  v4_least = v4 ∙ ap (λ (R : Entries). aggregate_in V4 R []) a.v4;
  v6_least = v6 ∙ ap (λ (R : Entries). aggregate_in V6 R []) a.v6;
}

-- the kept tables from the load's end on
module _ (C : Candidates) (H : List Address) (b n : Both) (s : IsSound C H false b) (a : AreFilledOf (entries_of H C) n) where
  pub sound_end : IsSound C H true n
  sound_end = record {
    elems = s.elems;
    proper = s.proper;
    candidates = s.candidates;
    hops = s.hops;
    few = s.few;
    v4 = kept_fresh V4 (entries_of H C) [] (only V4 (entries_of H C)) n.v4 a.families.0 a.v4 refl a.v4_least;
    v6 = kept_fresh V6 (entries_of H C) [] (only V6 (entries_of H C)) n.v6 a.families.1 a.v6 refl a.v6_least;
  }

  pub table_end : both_tables n ≡ kept_at_load H C
  table_end =
      let E = entries_of H C in
      ap (λ (L : Entries). L ++ n.v6.entries) a.v4_least
      ∙ (ap (λ (L : Entries). aggregate_in V4 (only V4 E) [] ++ L) a.v6_least ∙ (both_aggregates E [] [] tt tt ∙ sym (snapshot_is E [])))

pub stands_end : (load : List Elem) (old new : EngineState) → new.candidates ≡ old.candidates → new.hops ≡ old.hops → new.table ≡ kept_at_load old.hops old.candidates → new.loaded ≡ true → new.events ≡ old.events → shortage new.sizes (engine_routes new) ≡ None → IsLoading load old → EngineStands load [] new
unfolding table_from
stands_end load old new c h t l e f s = record {
  candidates = c ∙ s.candidates;
  hops = h ∙ (s.hops ∙ ap (hops_after []) (sym (append-nil load)));
  proper = (s.proper, tt);
  table = t ∙ (ap (λ (X : Candidates). kept_at_load old.hops X) s.candidates ∙ ap (λ (hs : List Address). kept_at_load hs (after_elems [] load)) (sym h));
  loaded = l;
  events = e ∙ s.events;
  fits = f;
}

-- ---- one elementary event after the load

-- what a plan of one family tells, and what making it leaves
one_side : (f : Family) (n m : Labels) (R A : Entries) (fewest : Bool) (at : Option Prefix) (due : Bool) (r : Repair) → n.family ≡ f → n.routes ≡ R → n.entries ≡ A → Tells n fewest at due (moved_of r) → MadeBy r n m
    → (m.entries ≡ after_snapshot f R due (moved_in fewest f R at A)) × (repair_as (moved_of r) ≡ between A (moved_in fewest f R at A)) × (snapshot_as (moved_of r) ≡ between (moved_in fewest f R at A) (after_snapshot f R due (moved_in fewest f R at A)))
one_side f n m R A fewest at due r s e t tells made =
    let k : Labels = record { family = f; routes = R; entries = A; nodes = n.nodes; before = n.before } in
    let same : n ≡ k = labels_are n.family f n.routes R n.entries A n.before n.before n.nodes n.nodes s e t refl refl in
    let told : Tells k fewest at due (moved_of r) = subst (λ (x : Labels). Tells x fewest at due (moved_of r)) same tells in
    let done : after_changes (repair_as (moved_of r) ++ snapshot_as (moved_of r)) k.entries ≡ Some m.entries = ap (λ (T : Entries). after_changes (repair_as (moved_of r) ++ snapshot_as (moved_of r)) T) (sym t) ∙ made in
    let is : repaired_table fewest k at ≡ moved_in fewest f R at A = moved_is fewest k at in
    (committed k m.entries fewest at due (moved_of r) told done ∙ ap (after_snapshot f R due) is, told.repair ∙ ap (between A) is, told.snapshot ∙ ap (λ (T : Entries). between T (after_snapshot f R due T)) is)

some_least : (n : ℕ) → 1 ≤ n → some_of n ≡ Some n
some_least zero l = absurd (omega arith)
some_least (suc n) l = refl

-- what a chosen hop's number is found as
pub some_new : (hops : List Address) (o : Option Address) → HasNumber hops o → some_of (number_or_none hops o) ≡ option_map (number_in hops) o
some_new hops None i = refl
some_new hops (Some a) i = some_least (number_in hops a) (number_least hops a i)

same_turned : (f g : Family) → same_family f g ≡ same_family g f
same_turned V4 V4 = refl
same_turned V4 V6 = refl
same_turned V6 V4 = refl
same_turned V6 V6 = refl

pub not_other : (old new : Option Address) → is_other old new ≡ false → old ≡ new
not_other None None e = refl
not_other None (Some hop) e = cc
not_other (Some old) None e = cc
not_other (Some old) (Some hop) e = by_test (same_address old hop) refl e
  where
    by_test : (b : Bool) → same_address old hop ≡ b → (if b then false else true) ≡ false → Some old ≡ Some hop
    by_test true s e = ap Some (same_address_is old hop s)
    by_test false s e = cc

module _ (C : Candidates) (H : List Address) (elem : Elem) (elems : List Elem) (proper : AllByRecursion IsElem elems) (c : C ≡ after_elems [] elems) (h : H ≡ hops_after [] elems) (x : IsElem elem) where
  abbrev C' : Candidates
  C' = after_elem C elem

  abbrev H' : List Address
  H' = hops_after H (elem ∷ [])

  abbrev p : Prefix
  p = elem_prefix elem

  abbrev E : Entries
  E = entries_of H C

  abbrev E' : Entries
  E' = entries_of H' C'

  ac : AreCandidates C
  ac = subst (λ (X : Candidates). AreCandidates X) (sym c) (candidates_stay [] elems none_yet proper)

  old_placed : InPlace E
  old_placed = (entries_at_prefixes H C ac, entries_sorted H C ac)

  new_placed : InPlace E'
  new_placed = let a = candidates_after C elem ac x in (entries_at_prefixes H' C' a, entries_sorted H' C' a)

  same_numbers : entries_of H' C ≡ E
  same_numbers =
      entries_stay H C (elem ∷ [])
      (subst (λ (hs : List Address). AreNumbered hs C) (sym h) (subst (λ (X : Candidates). AreNumbered (hops_after [] elems) X) (sym c) (routes_numbered elems)))

  abbrev new : Option ℕ
  new = new_entry H' C elem

  after : (q : Prefix) → entry_hop_at q E' ≡ cond (same_prefix q p) new (entry_hop_at q E)
  after q = entry_after H' C elem q ac x ∙ ap (λ (L : Entries). cond (same_prefix q p) new (entry_hop_at q L)) same_numbers

  pub chosen_has : (o : Option Address) → chosen_for C' p ≡ o → HasNumber H' o
  chosen_has None e = tt
  chosen_has (Some a) e =
      let held = held_push elems elem C C' c refl in
      subst (λ (hs : List Address). IsNumbered hs a) (sym (hops_push elems elem H H' h refl)) (chosen_numbered (elems ++ elem ∷ []) p a (ap (λ (X : Candidates). chosen_for X p) (sym held) ∙ e))

  module _ (choice : Choice) (ch : IsChoice C elem choice) where
    other_is : is_other (chosen_for C p) (chosen_for C' p) ≡ is_other (option_map addr_as choice.before) (option_map addr_as choice.after)
    other_is = ap (λ o. is_other o (chosen_for C' p)) (sym ch.before) ∙ ap (is_other (option_map addr_as choice.before)) (sym ch.after)

    pub routes_turn : (route : Route) → IsRouteOf H' choice route → (f : Family) → with_planned (route_in f route) (only f E) ≡ only f E'
    routes_turn None r f =
        let same : chosen_for C p ≡ chosen_for C' p = not_other (chosen_for C p) (chosen_for C' p) (other_is ∙ r) in
        ap (only f) (stays_all p E E' new (at_prefix elem x) old_placed new_placed after (ap (option_map (number_in H')) (sym same) ∙ (sym (routed_at H' C p) ∙ ap (entry_hop_at p) same_numbers)))
    routes_turn (Some rr) r f = by_test (same_family rr.0.family f) refl
      where
        there : prefix_as rr.0 ≡ p
        there = ap prefix_as r.1 ∙ ch.prefix

        turned_family : same_family f p.family ≡ same_family rr.0.family f
        turned_family = same_turned f p.family ∙ ap (λ (q : Prefix). same_family q.family f) (sym there)

        by_test : (b : Bool) → same_family rr.0.family f ≡ b → with_planned (cond b (Some rr) None) (only f E) ≡ only f E'
        by_test true t =
            ap (λ q. with_route q rr.1.0 (only f E)) there
            ∙ turned p E E' new (at_prefix elem x) old_placed new_placed after f rr.1.0 (turned_family ∙ t) (ap some_of (r.2 ∙ ap (number_or_none H') ch.after) ∙ some_new H' (chosen_for C' p) (chosen_has (chosen_for C' p) refl))
        by_test false t = stays_out p E E' new (at_prefix elem x) old_placed new_placed after f (turned_family ∙ t)

    -- the route is one at the prefix at which the chosen hop changes
    pub route_changed : (route : Route) → IsRouteOf H' choice route → option_map (λ r. prefix_as r.0) route ≡ changed_at C elem
    route_changed None r = ap (λ t. let o : Option Prefix = if t then Some p else None in o) (sym (other_is ∙ r))
    route_changed (Some rr) r = ap Some (ap prefix_as r.1 ∙ ch.prefix) ∙ ap (λ t. let o : Option Prefix = if t then Some p else None in o) (sym (other_is ∙ r.0))

    -- how many changes a first step makes is told just where it has a prefix
    moves_turn : (route : Route) → IsRouteOf H' choice route → (n m : ℕ) → n ≡ m → option_map (λ r. n) route ≡ option_map (λ q. m) (changed_at C elem)
    moves_turn None r n m e = ap (λ t. option_map (λ (q : Prefix). m) (if t then Some p else None)) (sym (other_is ∙ r))
    moves_turn (Some rr) r n m e = ap Some e ∙ ap (λ t. option_map (λ (q : Prefix). m) (if t then Some p else None)) (sym (other_is ∙ r.0))

    module _ (fewest : Bool) (A B : Entries) (a : Fine V4 A) (b : Fine V6 B) where
      abbrev Turned : Route → Route → Type 0
      Turned low high =
          (moved_in fewest V4 (only V4 E') (place_in low) A ++ moved_in fewest V6 (only V6 E') (place_in high) B ≡ after_move fewest E' (changed_at C elem) (A ++ B))
          × Fine V4 (moved_in fewest V4 (only V4 E') (place_in low) A) × Fine V6 (moved_in fewest V6 (only V6 E') (place_in high) B)

      tables_turn : (route : Route) → IsRouteOf H' choice route → Turned (route_in V4 route) (route_in V6 route)
      tables_turn None r = (
        both_still fewest E' (only V4 E') (only V6 E') A B ∙ ap (λ t. after_move fewest E' (if t then Some p else None) (A ++ B)) (sym (other_is ∙ r)),
        fine_still fewest V4 (only V4 E') A a,
        fine_still fewest V6 (only V6 E') B b,
      )
      tables_turn (Some rr) r = by_family rr.0.family refl
        where
          q : Prefix
          q = prefix_as rr.0

          changed : after_move fewest E' (Some q) (A ++ B) ≡ after_move fewest E' (changed_at C elem) (A ++ B)
          changed =
              ap (λ (x : Prefix). after_move fewest E' (Some x) (A ++ B)) (ap prefix_as r.1 ∙ ch.prefix)
              ∙ ap (λ t. after_move fewest E' (if t then Some p else None) (A ++ B)) (sym (other_is ∙ r.0))

          routed : (g f : Family) → rr.0.family ≡ g → cond (same_family g f) (Some rr) None ≡ route_in f (Some rr)
          routed g f e = ap (λ (k : Family). cond (same_family k f) (Some rr) None) (sym e)

          by_family : (g : Family) → rr.0.family ≡ g → Turned (route_in V4 (Some rr)) (route_in V6 (Some rr))
          by_family V4 e =
              subst (λ (o : Route). Turned o (route_in V6 (Some rr))) (routed V4 V4 e) (subst (λ (o : Route). Turned (Some rr) o) (routed V4 V6 e) (
                both_moved E' (only V6 E') A B q (is_prefix rr.0) a b fewest e ∙ changed,
                fine_moved fewest V4 (only V4 E') A q (is_prefix rr.0) e a,
                fine_still fewest V6 (only V6 E') B b,
              ))
          by_family V6 e =
              subst (λ (o : Route). Turned o (route_in V6 (Some rr))) (routed V6 V4 e) (subst (λ (o : Route). Turned None o) (routed V6 V6 e) (
                both_moved_high E' (only V4 E') A B q (is_prefix rr.0) a b fewest e ∙ changed,
                fine_still fewest V4 (only V4 E') A a,
                fine_moved fewest V6 (only V6 E') B q (is_prefix rr.0) e b,
              ))

-- ---- both tables before an event

pub table_placed : (C : Candidates) (H : List Address) (l : Bool) (b : Both) → IsSound C H l b → InPlace (both_tables b)
table_placed C H l b s = placed_both b.v4.entries b.v6.entries s.v4.order s.v6.order s.v4.of_family s.v6.of_family

-- each answers as its routes, and both as the routes
pub are_alike : (C : Candidates) (H : List Address) (l : Bool) (b : Both) → IsSound C H l b → AreAlike b
are_alike C H l b s = (s.v4.alike, s.v6.alike)

routes_alike : (C : Candidates) (H : List Address) (b : Both) → IsSound C H true b → AlikeInBoth (entries_of H C) (both_tables b)
routes_alike C H b s =
    both_alike (entries_of H C) b.v4.entries b.v6.entries b.v4.routes b.v6.routes s.v4.of_family s.v6.of_family s.v4.routes s.v6.routes (alike_in V4 b.v4 s.v4.family s.v4.alike) (alike_in V6 b.v6 s.v6.family s.v6.alike)

-- what the engine's parts come to
pub record IsTaken (fewest : Bool) (every event : ℕ) (C : Candidates) (H : List Address) (elem : Elem) (route : Route) (old new : Both) (v4 v6 : Repair) : Type 0 where
  pub sound : IsSound (after_elem C elem) (hops_after H (elem ∷ [])) true new
  pub table : both_tables new ≡ table_by fewest every (hops_after H (elem ∷ [])) event C (both_tables old) elem
  pub first : both_firsts (moved_of v4) (moved_of v6) ≡ first_changes fewest (hops_after H (elem ∷ [])) C (both_tables old) elem
  pub changes : gathered (moved_of v4) (moved_of v6) ≡ told_of fewest false every (hops_after H (elem ∷ [])) event C (both_tables old) elem
  pub moves : (n : ℕ) → n ≡ length (both_firsts (moved_of v4) (moved_of v6))
      → option_map (λ r. n) route ≡ option_map (λ p. length (first_changes fewest (hops_after H (elem ∷ [])) C (both_tables old) elem)) (changed_at C elem)

pub taken : (fewest : Bool) (every event : ℕ) (C : Candidates) (H : List Address) (elem : Elem) (b n m : Both) (choice : Choice) (route : Route) (low_plan high_plan : Repair) (due : Bool) → IsSound C H true b → IsElem elem → length (hops_after H (elem ∷ [])) ≤ most_hops
    → IsChoice C elem choice → IsRouteOf (hops_after H (elem ∷ [])) choice route → KeepTables b n → ArePut route b n → AreTold n fewest route due low_plan high_plan → KeepRoutes n m → MadeBy low_plan n.v4 m.v4 → MadeBy high_plan n.v6 m.v6 → due ≡ is_due every event
    → IsTaken fewest every event C H elem route b m low_plan high_plan
taken fewest every event C H elem b n m choice route low_plan high_plan due s x few ch r kt put told kr low_made high_made d =
    let H' = hops_after H (elem ∷ []) in
    let E = entries_of H C in
    let N = entries_of H' (after_elem C elem) in
    let A = b.v4.entries in
    let B = b.v6.entries in
    let fa : Fine V4 A = record { order = s.v4.order; of = s.v4.of_family } in
    let fb : Fine V6 B = record { order = s.v6.order; of = s.v6.of_family } in
    let turn = routes_turn C H elem s.elems s.proper s.candidates s.hops x choice ch route r in
    let low_routes : n.v4.routes ≡ only V4 N = put.v4 ∙ (ap (with_planned (route_in V4 route)) s.v4.routes ∙ turn V4) in
    let high_routes : n.v6.routes ≡ only V6 N = put.v6 ∙ (ap (with_planned (route_in V6 route)) s.v6.routes ∙ turn V6) in
    let low = one_side V4 n.v4 m.v4 (only V4 N) A fewest (place_in (route_in V4 route)) due low_plan (kt.v4_family ∙ s.v4.family) low_routes kt.v4 told.v4_tells low_made in
    let high = one_side V6 n.v6 m.v6 (only V6 N) B fewest (place_in (route_in V6 route)) due high_plan (kt.v6_family ∙ s.v6.family) high_routes kt.v6 told.v6_tells high_made in
    let both = tables_turn C H elem s.elems s.proper s.candidates s.hops x choice ch fewest A B fa fb route r in
    let A' = moved_in fewest V4 (only V4 N) (place_in (route_in V4 route)) A in
    let B' = moved_in fewest V6 (only V6 N) (place_in (route_in V6 route)) B in
    let A'' = after_snapshot V4 (only V4 N) due A' in
    let B'' = after_snapshot V6 (only V6 N) due B' in
    let ga : Fine V4 A'' = fine_renewed V4 due (only V4 N) A' both.1 in
    let gb : Fine V6 B'' = fine_renewed V6 due (only V6 N) B' both.2 in
    let U = after_move fewest N (changed_at C elem) (A ++ B) in
    let whole : A'' ++ B'' ≡ snapshot_if (is_due every event) N U =
    both_snapshots due N A' B' both.1.of both.2.of ∙ (ap (λ (T : Entries). snapshot_if due N T) both.0 ∙ ap (λ (t : Bool). snapshot_if t N U) d)
    in
    let table : both_tables m ≡ snapshot_if (is_due every event) N U = ap (λ (L : Entries). L ++ m.v6.entries) low.0 ∙ (ap (λ (L : Entries). A'' ++ L) high.0 ∙ whole) in
    let low_of = subst (λ (T : Entries). AllByRecursion (λ (q : Prefix). q.family ≡ V4) (keys_of T)) (sym low.0) ga.of in
    let high_of = subst (λ (T : Entries). AllByRecursion (λ (q : Prefix). q.family ≡ V6) (keys_of T)) (sym high.0) gb.of in
    let same : entries_of H' C ≡ E = entries_stay H C (elem ∷ []) (routes_have C H true b s) in
    let before : AlikeInBoth (entries_of H' C) (A ++ B) = subst (λ (R : Entries). AlikeInBoth R (A ++ B)) (sym same) (routes_alike C H b s) in
    let after : AlikeInBoth N (both_tables m) = subst (λ (T : Entries). AlikeInBoth N T) (sym table) (table_alike fewest H' C (A ++ B) elem x (table_placed C H true b s) every event (held_are C H true b s) before) in
    let first : both_firsts (moved_of low_plan) (moved_of high_plan) ≡ first_changes fewest H' C (A ++ B) elem =
    ap (λ (cs : List Change). cs ++ repair_as (moved_of high_plan)) low.1
    ∙ (ap (λ (cs : List Change). between A A' ++ cs) high.1 ∙ (both_changes A B A' B' fa fb both.1 both.2 ∙ ap (between (A ++ B)) both.0))
    in
    record {
      sound = record {
        elems = s.elems ++ elem ∷ [];
        proper = all_push IsElem s.elems elem s.proper x;
        candidates = held_push s.elems elem C (after_elem C elem) s.candidates refl;
        hops = hops_push s.elems elem H H' s.hops refl;
        few = few;
        v4 = record {
          family = kr.v4_family ∙ (kt.v4_family ∙ s.v4.family);
          order = subst (λ (T : Entries). InPlace T) (sym low.0) ga.order;
          of_family = low_of;
          routes = kr.v4 ∙ low_routes;
          alike = alike_of V4 m.v4 (kr.v4_family ∙ (kt.v4_family ∙ s.v4.family)) (low_alike N m.v4.entries m.v6.entries m.v4.routes m.v6.routes low_of high_of (kr.v4 ∙ low_routes) (kr.v6 ∙ high_routes) after);
          empty = λ t. absurd cc;
        };
        v6 = record {
          family = kr.v6_family ∙ (kt.v6_family ∙ s.v6.family);
          order = subst (λ (T : Entries). InPlace T) (sym high.0) gb.order;
          of_family = high_of;
          routes = kr.v6 ∙ high_routes;
          alike = alike_of V6 m.v6 (kr.v6_family ∙ (kt.v6_family ∙ s.v6.family)) (high_alike N m.v4.entries m.v6.entries m.v4.routes m.v6.routes low_of high_of (kr.v4 ∙ low_routes) (kr.v6 ∙ high_routes) after);
          empty = λ t. absurd cc;
        };
      };
      table = table;
      first = first;
      changes =
          ap (λ (cs : List Change). cs ++ (snapshot_as (moved_of low_plan) ++ snapshot_as (moved_of high_plan))) first
          ∙ (ap (λ (cs : List Change). between (A ++ B) U ++ (cs ++ snapshot_as (moved_of high_plan))) low.2
          ∙ (ap (λ (cs : List Change). between (A ++ B) U ++ (between A' A'' ++ cs)) high.2
          ∙ (ap (λ (cs : List Change). between (A ++ B) U ++ cs) (both_changes A' B' A'' B'' both.1 both.2 ga gb)
          ∙ (ap (λ (T : Entries). between (A ++ B) U ++ between T (A'' ++ B'')) both.0 ∙ ap (λ (T : Entries). between (A ++ B) U ++ between U T) whole))));
      moves = λ k e. moves_turn C H elem s.elems s.proper s.candidates s.hops x choice ch route r k (length (first_changes fewest H' C (A ++ B) elem)) (e ∙ ap length first);
    }

-- ---- by whole lists

pub stands_more : (load elems : List Elem) (elem : Elem) (old new : EngineState) → IsElem elem → TakesElem elem old new → shortage new.sizes (engine_routes new) ≡ None → EngineStands load elems old → EngineStands load (elems ++ elem ∷ []) new
stands_more load elems elem old new x t f s =
    let C = after_elems [] load in
    let hops : new.hops ≡ hops_after [] (load ++ (elems ++ elem ∷ [])) =
    hops_push (load ++ elems) elem old.hops new.hops s.hops t.hops ∙ ap (hops_after []) (append_assoc load elems (elem ∷ []))
    in
    let along = numbered_along load elems [] in
    let all : load ++ (elems ++ []) ≡ load ++ elems = ap (λ z. load ++ z) (append-nil elems) in
    let numbers = subst (λ (hs : List Address). AreNumberedAlong hs C elems) (ap (hops_after []) all ∙ sym s.hops) along in
    let first : AreNumbered old.hops C = subst (λ (hs : List Address). AreNumbered hs C) (sym s.hops) (numbered_later load elems) in
    let start : kept_at_load new.hops C ≡ kept_at_load old.hops C = ap (λ (hs : List Address). kept_at_load hs C) t.hops ∙ load_stays old.hops (elem ∷ []) C first in
    let before : table_from old.fewest old.every new.hops 1 C (kept_at_load new.hops C) elems ≡ old.table =
    ap (λ (T : Entries). table_from old.fewest old.every new.hops 1 C T elems) start
    ∙ (ap (λ (hs : List Address). table_from old.fewest old.every hs 1 C (kept_at_load old.hops C) elems) t.hops
    ∙ (table_from_stays old.fewest false old.every old.hops (elem ∷ []) 1 C (kept_at_load old.hops C) elems numbers ∙ sym s.table))
    in
    record {
      candidates = t.candidates ∙ (ap (λ (X : Candidates). after_elem X elem) s.candidates ∙ sym (elems_more C elems (elem ∷ [])));
      hops = hops;
      proper = (s.proper.0, all_push IsElem elems elem s.proper.1 x);
      table =
          t.table
          ∙ (ap (λ (k : ℕ). table_by old.fewest old.every new.hops (k + 1) old.candidates old.table elem) s.events
          ∙ (ap (λ (X : Candidates). table_by old.fewest old.every new.hops (length elems + 1) X old.table elem) s.candidates
          ∙ (ap (λ (T : Entries). table_by old.fewest old.every new.hops (length elems + 1) (after_elems C elems) T elem) (sym before)
          ∙ (sym (table_step old.fewest false old.every new.hops C (kept_at_load new.hops C) elems elem)
          ∙ (ap (λ (k : ℕ). table_from old.fewest k new.hops 1 C (kept_at_load new.hops C) (elems ++ elem ∷ [])) (sym t.every)
          ∙ ap (λ (b : Bool). table_from b new.every new.hops 1 C (kept_at_load new.hops C) (elems ++ elem ∷ [])) (sym t.fewest))))));
      loaded = t.loaded ∙ s.loaded;
      events = t.events ∙ (ap (λ (k : ℕ). k + 1) s.events ∙ sym (length-append elems (elem ∷ [])));
      fits = f;
    }

-- with the fewest changes asked for, those of the first step are shortest
pub shortest_first : (elem : Elem) (old : EngineState) → InPlace old.table → old.fewest ≡ true → (p : Prefix) → changed_at old.candidates elem ≡ Some p → AreShortest p.family (routes_after elem old) old.table (first_of elem old)
shortest_first elem old t f p e =
    subst (λ (b : Bool). AreShortest p.family (routes_after elem old) old.table (first_changes b (hops_after old.hops (elem ∷ [])) old.candidates old.table elem)) (sym f)
    (move_shortest (routes_after elem old) (changed_at old.candidates elem) old.table p t e)

-- what the engine's parts come to, as its code has them
pub applied : (fewest : Bool) (every event : ℕ) (C : Candidates) (H H1 : List Address) (elem : Elem) (b n m : Both) (choice : Choice) (own : Option code_hop.Hop) (route : Route) (low_plan high_plan : Repair) (due : Bool) → IsSound C H true b → IsElem elem → H1 ≡ H → length (hops_after H (elem ∷ [])) ≤ most_hops
    → IsNewNumber H (hops_after H (elem ∷ [])) own → IsChoice C elem choice
    → ((after : List Address) (e : Elem) → after ≡ hops_after H1 (e ∷ []) → IsNewNumber H1 after own → HasNumber after (option_map addr_as choice.after) → IsRouteOf after choice route)
    → KeepTables b n → ArePut route b n → AreTold n fewest route due low_plan high_plan → KeepRoutes n m → MadeBy low_plan n.v4 m.v4 → MadeBy high_plan n.v6 m.v6 → due ≡ is_due every event
    → IsTaken fewest every event C H elem route b m low_plan high_plan
applied fewest every event C H H1 elem b n m choice own route low_plan high_plan due s x room few fresh ch turn =
    let H' = hops_after H (elem ∷ []) in
    let has : HasNumber H' (option_map addr_as choice.after) =
    subst (λ (o : Option Address). HasNumber H' o) (sym ch.after) (chosen_has C H elem s.elems s.proper s.candidates s.hops x (chosen_for (after_elem C elem) (elem_prefix elem)) refl)
    in
    let new : IsNewNumber H1 H' own = subst (λ (hs : List Address). IsNewNumber hs H' own) (sym room) fresh in
    taken fewest every event C H elem b n m choice route low_plan high_plan due s x few ch (turn H' elem (ap (λ (hs : List Address). hops_after hs (elem ∷ [])) (sym room)) new has)

-- the routes with the planned one are those after the elementary event
pub turned_routes : (C : Candidates) (H H1 : List Address) (elem : Elem) (b : Both) (choice : Choice) (own : Option code_hop.Hop) (route : Route) → IsSound C H true b → IsElem elem → H1 ≡ H → IsNewNumber H (hops_after H (elem ∷ [])) own → IsChoice C elem choice
    → ((after : List Address) (e : Elem) → after ≡ hops_after H1 (e ∷ []) → IsNewNumber H1 after own → HasNumber after (option_map addr_as choice.after) → IsRouteOf after choice route)
    → (f : Family) → with_planned (route_in f route) (only f (entries_of H C)) ≡ only f (entries_of (hops_after H (elem ∷ [])) (after_elem C elem))
turned_routes C H H1 elem b choice own route s x room fresh ch turn =
    let H' = hops_after H (elem ∷ []) in
    let has : HasNumber H' (option_map addr_as choice.after) =
    subst (λ (o : Option Address). HasNumber H' o) (sym ch.after) (chosen_has C H elem s.elems s.proper s.candidates s.hops x (chosen_for (after_elem C elem) (elem_prefix elem)) refl)
    in
    let new : IsNewNumber H1 H' own = subst (λ (hs : List Address). IsNewNumber hs H' own) (sym room) fresh in
    routes_turn C H elem s.elems s.proper s.candidates s.hops x choice ch route (turn H' elem (ap (λ (hs : List Address). hops_after hs (elem ∷ [])) (sym room)) new has)

-- each family's routes stand in order
pub kept_placed : (C : Candidates) (H : List Address) (b : Both) → IsSound C H true b → InPlace b.v4.routes × InPlace b.v6.routes
kept_placed C H b s =
    let e = routes_placed C H true b s in
    (subst (λ (R : Entries). InPlace R) (sym s.v4.routes) (only_placed V4 (entries_of H C) e), subst (λ (R : Entries). InPlace R) (sym s.v6.routes) (only_placed V6 (entries_of H C) e))

-- ---- least tables

same_rows : (f : Family) (R S : Entries) → of_family f R ≡ of_family f S → family_rows f R ≡ family_rows f S
same_rows f R S e = ap (λ (T : Table). region_rows (width f) (answers T []) (whole_prefix f) ++ (bound_row f (bound (width f) T) ∷ [])) e

module _ (E : Entries) (loaded : Bool) (b : Both) (v4 : IsKept V4 loaded E b.v4) (v6 : IsKept V6 loaded E b.v6) where
  abbrev Told : Entries
  Told = if_loaded loaded E

  pub both_least : aggregate_in V4 b.v4.routes b.v4.entries ++ aggregate_in V6 b.v6.routes b.v6.entries ≡ aggregate_in_both Told (both_tables b)
  both_least =
      ap (λ (L : Entries). aggregate_in V4 L b.v4.entries ++ aggregate_in V6 b.v6.routes b.v6.entries) v4.routes
      ∙ (ap (λ (L : Entries). aggregate_in V4 (only V4 Told) b.v4.entries ++ aggregate_in V6 L b.v6.entries) v6.routes ∙ both_aggregates Told b.v4.entries b.v6.entries v4.of_family v6.of_family)

  pub both_rows : family_rows V4 b.v4.routes ++ family_rows V6 b.v6.routes ≡ certificate_of Told
  both_rows =
      ap (λ (rows : List CertRow). rows ++ family_rows V6 b.v6.routes) (same_rows V4 b.v4.routes Told (ap (of_family V4) v4.routes ∙ of_only V4 Told))
      ∙ ap (λ (rows : List CertRow). family_rows V4 Told ++ rows) (same_rows V6 b.v6.routes Told (ap (of_family V6) v6.routes ∙ of_only V6 Told))

-- ---- an engine that settles

module _ (C : Candidates) (H : List Address) (loaded : Bool) (b : Both) (is : loaded ≡ true) (sound : IsSound C H loaded b) where
  settled_sound : IsSound C H true b
  settled_sound = subst (λ (t : Bool). IsSound C H t b) is sound

  -- the trees hold the routes
  pub settled_routes : both_routes b ≡ entries_of H C
  settled_routes =
      let s = settled_sound in
      let E = entries_of H C in
      ap (λ (R : Entries). R ++ b.v6.routes) s.v4.routes ∙ (ap (λ (R : Entries). only V4 E ++ R) s.v6.routes ∙ both_again E (routes_placed C H true b s))

  pub final_fib : (z : Sizes) (n : FamilyNeeds) → AreKeptNeeds z (if_loaded loaded (entries_of H C)) n → AreSettled z b n
  final_fib z n k =
      let s = settled_sound in
      let E = entries_of H C in
      record {
        v4 = subst (λ (R : Entries). IsKept V4 true R b.v4) (sym settled_routes) s.v4;
        v6 = subst (λ (R : Entries). IsKept V6 true R b.v6) (sym settled_routes) s.v6;
        needs = subst (λ (R : Entries). AreKeptNeeds z R n) (sym settled_routes) (subst (λ (t : Bool). AreKeptNeeds z (if_loaded t E) n) is k);
      }
