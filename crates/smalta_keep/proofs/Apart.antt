-- Tables told where they differ have the changes of the whole tables between them.
use Rattle.std.proofs.Common.{◌≡◌, ◌+◌, ◌-◌, ℕ, List, [], ◌∷◌, ◌++◌, Bool, true, false, cond, Option, Some, None, length, map, refl, sym, ap, subst, ◌∙◌, arith, inl, inr}
use Rattle.std.specs.Prelude.{is_none, is_some, not}
use Rattle.std.specs.List.{AllByRecursion}
use Rattle.std.specs.Map.{keys_of}
use Rattle.std.proofs.lemmas.Bool.{eq-eqb}
use Rattle.table_model.specs.Address.{Prefix, same_family}
use Rattle.table_model.specs.Width.{width}
use Rattle.table_model.specs.declared.family.Family.{Family}
use Rattle.table_model.proofs.SamePrefix.{same_family_is}
use Rattle.table_model.specs.Table.{Table, IsTable, cut}
use Rattle.table_model.specs.Entries.{Entries, of_family, of_table}
use Rattle.table_model.specs.Changes.{Change, Replace}
use Rattle.table_model.specs.Regions.{entry_at, lift}
use Rattle.table_model.specs.Sets.{agg, answers}
use Rattle.table_model.specs.Least.{aggregate}
use Rattle.table_model.specs.Both.{aggregate_in}
use Rattle.table_model.proofs.Both.{family_is}
use Rattle.kept_model.specs.Between.{AreEntries, place_of, entry_hop_at, change_at, between}
use Rattle.kept_model.proofs.Alike.{all_between, alike_changes, placed_are}
use Rattle.kept_model.proofs.Families.{hop_none, table_of}
use Rattle.kept_model.proofs.Repairs.{table_entries}
use Rattle.kept_model.proofs.Patches.{table_hop, family_hop, family_table}
use Rattle.kept_model.specs.Stays.{Settled}
use Rattle.kept_model.specs.Parts.{BothOrNeither, ArePart}
use Rattle.kept_model.proofs.Again.{agg_same}
use Rattle.kept_model.proofs.Settling.{settled_alike}
use Rattle.fib_addr.specs.Views.{prefix_as, entry_as}
use Rattle.fib_addr.proofs.Parts.{length_prefix}
use Rattle.fib_addr.specs.declared.prefix.Prefix as code
use Rattle.orig_tree.specs.Views.{Labels, InPlace}
use Rattle.orig_tree.specs.Spots.{Spot, spot_answers}
use Rattle.orig_tree.specs.Walk.{Walks, behind}
use Rattle.smalta_keep.specs.declared.place.Place.{Place}
use Rattle.smalta_keep.specs.declared.place.Rerouted.{Rerouted}
use Rattle.smalta_keep.specs.declared.place.Rerouted.TheVariants.{Nowhere}
use Rattle.smalta_keep.specs.Places.{IsBefore, IsPassPlace}
use Rattle.smalta_keep.specs.declared.pass.Differing.{Differing}
use Rattle.smalta_keep.specs.KnownBelow.{IsKnown}
use Rattle.smalta_keep.specs.Passes.{IsPass, IsRootOf, AreWhole}
use Rattle.table_model.proofs.Both.{sorted_aggregate}
use Rattle.table_model.proofs.Laws.{aggregate_table}
use Rattle.table_model.proofs.Region.{cut_lift}

unlifted : (L : Table) → lift [] L ≡ L
unlifted L = cut_lift [] L

nothing_less : (w : ℕ) → w - length {A = Bool} [] ≡ w
nothing_less w = omega arith

whole_is : (f : Family) (R T : Entries) → of_family f (aggregate_in f R T) ≡ agg (width f) (answers (of_family f R) []) (of_family f T) 0
whole_is f R T =
    family_is f (aggregate (width f) (of_family f R) [] 0 (of_family f T))
    ∙ (unlifted (agg (width f - length {A = Bool} []) (answers (of_family f R) []) (of_family f T) 0) ∙ ap (λ d. agg d (answers (of_family f R) []) (of_family f T) 0) (nothing_less (width f)))

renewed_placed : (f : Family) (R T : Entries) → InPlace (aggregate_in f R T)
renewed_placed f R T =
    let w = width f in
    ((table_entries f (aggregate w (of_family f R) [] 0 (of_family f T)) (aggregate_table w (of_family f R) [] 0 (of_family f T) (omega arith))).0, sorted_aggregate f (of_family f R) (of_family f T) [] 0 (omega arith))

renewed_family : (f : Family) (R T : Entries) → AllByRecursion (λ (p : Prefix). p.family ≡ f) (keys_of (aggregate_in f R T))
renewed_family f R T = table_of f (aggregate (width f) (of_family f R) [] 0 (of_family f T))

pub no_change : (p : Prefix) (o : Option ℕ) → change_at p o o ≡ []
no_change p None = refl
no_change p (Some h) = ap (λ b. cond b [] (Replace p h ∷ [])) (eq-eqb h h refl)

pub both_change : (p : Prefix) (a b c d : Option ℕ) → BothOrNeither a b c d → change_at p a b ≡ change_at p c d
both_change p a b c d (inl x) = ap (λ o. change_at p o b) (sym x.0) ∙ ap (change_at p c) (sym x.1)
both_change p a b c d (inr x) = ap (change_at p a) (sym x.2) ∙ (no_change p a ∙ sym (ap (λ o. change_at p o d) x.0 ∙ ap (change_at p None) x.1))

module _ (k : Labels) (d : Differing) (x : AreWhole k d) (t : InPlace k.entries) where
  abbrev pub f : Family
  f = k.family

  abbrev pub N : Entries
  N = aggregate_in k.family k.routes k.entries

  pub old_entries : AreEntries (map entry_as d.had.items)
  old_entries = subst (λ (E : Entries). AreEntries E) (sym x.old) (table_entries k.family x.had x.had_table)

  pub new_entries : AreEntries (map entry_as d.gets.items)
  new_entries = subst (λ (E : Entries). AreEntries E) (sym x.new) (table_entries k.family x.gets x.gets_table)

  one_change : (p : Prefix) → change_at p (entry_hop_at p k.entries) (entry_hop_at p N) ≡ change_at p (entry_hop_at p (of_table k.family x.had)) (entry_hop_at p (of_table k.family x.gets))
  one_change p = by_family (same_family p.family f) refl
    where
      by_family : (b : Bool) → same_family p.family f ≡ b → change_at p (entry_hop_at p k.entries) (entry_hop_at p N) ≡ change_at p (entry_hop_at p (of_table k.family x.had)) (entry_hop_at p (of_table k.family x.gets))
      by_family false e =
          ap (λ o. change_at p o (entry_hop_at p N)) (hop_none f p k.entries x.all e) ∙ (ap (change_at p None) (hop_none f p N (renewed_family f k.routes k.entries) e)
          ∙ sym (ap (λ o. change_at p o (entry_hop_at p (of_table f x.gets))) (hop_none f p (of_table f x.had) (table_of f x.had) e) ∙ ap (change_at p None) (hop_none f p (of_table f x.gets) (table_of f x.gets) e)))
      by_family true e = subst (λ (q : Prefix). change_at q (entry_hop_at q k.entries) (entry_hop_at q N) ≡ change_at q (entry_hop_at q (of_table f x.had)) (entry_hop_at q (of_table f x.gets))) is (at p.bits)
        where
          is : record { family = f; bits = p.bits } ≡ p
          is = ap (λ (g : Family). let q : Prefix = record { family = g; bits = p.bits } in q) (sym (same_family_is p.family f e))

          at : (q : List Bool) → (let y : Prefix = record { family = f; bits = q } in change_at y (entry_hop_at y k.entries) (entry_hop_at y N) ≡ change_at y (entry_hop_at y (of_table f x.had)) (entry_hop_at y (of_table f x.gets)))
          at q =
              let y : Prefix = record { family = f; bits = q } in
              ap (λ o. change_at y o (entry_hop_at y N)) (sym (family_hop f q k.entries))
              ∙ (ap (change_at y (entry_at q (of_family f k.entries))) (sym (family_hop f q N) ∙ ap (entry_at q) (whole_is f k.routes k.entries))
              ∙ (both_change y (entry_at q (of_family f k.entries)) (entry_at q (agg (width f) (answers (of_family f k.routes) []) (of_family f k.entries) 0)) (entry_at q x.had) (entry_at q x.gets) (x.part q)
              ∙ (ap (λ o. change_at y o (entry_at q x.gets)) (sym (table_hop f q x.had)) ∙ ap (change_at y (entry_hop_at y (of_table f x.had))) (sym (table_hop f q x.gets)))))

  pub apart_changes : between (map entry_as d.had.items) (map entry_as d.gets.items) ≡ between k.entries N
  apart_changes =
      ap (λ (E : Entries). between E (map entry_as d.gets.items)) x.old ∙ (ap (between (of_table f x.had)) x.new
      ∙ sym (alike_changes (of_table f x.had) (of_table f x.gets) k.entries N (table_entries f x.had x.had_table) (table_entries f x.gets x.gets_table) (placed_are k.entries t) (placed_are N (renewed_placed f k.routes k.entries)) one_change))

all_places : (f : Family) (cs : List Change) → AllByRecursion (λ (p : Prefix). p.family ≡ f) (map place_of cs) → AllByRecursion (λ c. (place_of c).family ≡ f) cs
all_places f [] a = tt
all_places f (c ∷ cs) a = (a.0, all_places f cs a.1)

pub apart_family : (k : Labels) (d : Differing) (cs : List Change) → AreWhole k d → cs ≡ between k.entries (aggregate_in k.family k.routes k.entries) → AllByRecursion (λ c. (place_of c).family ≡ k.family) cs
apart_family k d cs x e =
    subst (λ (ds : List Change). AllByRecursion (λ c. (place_of c).family ≡ k.family) ds) (sym e)
    (all_places k.family (between k.entries (aggregate_in k.family k.routes k.entries)) (all_between (λ (p : Prefix). p.family ≡ k.family) k.entries (aggregate_in k.family k.routes k.entries) x.all (renewed_family k.family k.routes k.entries)))

-- ---- the whole place

module _ (k : Labels) (whole : code.Prefix) (s : Spot) (root : Walks) (e : prefix_as whole ≡ record { family = k.family; bits = [] }) (n : s.bits + whole.len ≡ width k.family) (a : (a : List Bool) → spot_answers s a ≡ answers (of_family k.family k.routes) (prefix_as whole).bits a)
    (l : s.entries ≡ cut (prefix_as whole).bits (of_family k.family k.entries)) (o : of_table k.family root.entries ≡ k.entries) (t : InPlace k.entries) where
  pub whole_bits : s.bits ≡ width k.family
  whole_bits = omega (arith, n, length_prefix (width whole.family) whole.len whole.bits whole.fits, ap (λ (p : Prefix). length p.bits) e)

  whole_answers : (a : List Bool) → answers (of_family k.family k.routes) [] a ≡ spot_answers s a
  whole_answers b = sym (a b ∙ ap (λ (p : Prefix). answers (of_family k.family k.routes) p.bits b) e)

  whole_entries : s.entries ≡ of_family k.family k.entries
  whole_entries = l ∙ ap (λ (p : Prefix). cut p.bits (of_family k.family k.entries)) e

  root_entries : root.entries ≡ s.entries
  root_entries = sym (family_is k.family root.entries) ∙ (ap (of_family k.family) o ∙ sym whole_entries)

  known_whole : (u : Option Labels) (m : Option Walks) → IsKnown k u → IsRootOf u m → is_none u ≡ false → Settled s.bits (spot_answers s) s.entries 0 (behind m).entries
  known_whole None m x r z = absurd cc
  known_whole (Some v) m x r z =
      let g = k.family in
      let y : Settled s.bits (answers (of_family g k.routes) []) (of_family g k.entries) 0 (of_family g v.entries) = subst (λ (d : ℕ). Settled d (answers (of_family g k.routes) []) (of_family g k.entries) 0 (of_family g v.entries)) (sym whole_bits) x.1 in
      subst (λ (M : Table). Settled s.bits (spot_answers s) s.entries 0 M) (ap (λ (h : Family). of_family h v.entries) (sym x.0) ∙ r)
      (subst (λ (L : Table). Settled s.bits (spot_answers s) L 0 (of_family g v.entries)) (sym whole_entries) (settled_alike s.bits (answers (of_family g k.routes) []) (spot_answers s) (of_family g k.entries) 0 (of_family g v.entries) (λ b u. whole_answers b) y))

  pub whole_place : (p : Place) (u : Option Labels) (h : ℕ) → p.region ≡ s → p.node ≡ Some root → IsRootOf u p.dirty → p.marked ≡ is_none u → p.rerouted ≡ Nowhere → h ≡ 0 → IsKnown k u → IsPassPlace p h
  whole_place p u h r y m z v j x = record {
    node = ap (λ w. (behind w).entries) y ∙ (root_entries ∙ ap (λ (v : Spot). v.entries) (sym r));
    table = subst (λ (v : Spot). IsTable v.bits v.entries) (sym r) (subst (λ (d : ℕ). IsTable d s.entries) (sym whole_bits) (subst (λ (L : Table). IsTable (width k.family) L) (sym whole_entries) (family_table k.family k.entries (placed_are k.entries t))));
    known = λ q. record {
      before = spot_answers p.region;
      settled = subst (λ (v : Spot). Settled v.bits (spot_answers v) v.entries h (behind p.dirty).entries) (sym r) (subst (λ (c : ℕ). Settled s.bits (spot_answers s) s.entries c (behind p.dirty).entries) (sym j) (known_whole u p.dirty x m (sym z ∙ q)));
      was = subst (λ (w : Rerouted). IsBefore w (spot_answers p.region) p.region (behind p.node).routes) (sym v) (λ b. refl);
    };
  }

  pub whole_apart : (h : ℕ) (before after : Differing) → h ≡ 0 → map entry_as before.had.items ≡ [] → map entry_as before.gets.items ≡ [] → IsPass (prefix_as whole) s h before after → AreWhole k after
  whole_apart h b c j x y v = record {
    had = v.had;
    gets = v.gets;
    old = v.old ∙ (ap (λ L. L ++ of_table whole.family (lift (prefix_as whole).bits v.had)) x ∙ told v.had);
    new = v.new ∙ (ap (λ L. L ++ of_table whole.family (lift (prefix_as whole).bits v.gets)) y ∙ told v.gets);
    had_table = subst (λ (d : ℕ). IsTable d v.had) whole_bits v.had_table;
    gets_table = subst (λ (d : ℕ). IsTable d v.gets) whole_bits v.gets_table;
    part = subst (λ (L : Table). ArePart L (agg (width k.family) (answers (of_family k.family k.routes) []) L 0) v.had v.gets) whole_entries (subst (λ (A : Table). ArePart s.entries A v.had v.gets) passed v.part);
    all = subst (λ (E : Entries). AllByRecursion (λ (q : Prefix). q.family ≡ k.family) (keys_of E)) o (table_of k.family root.entries);
  }
    where
      told : (L : Table) → of_table whole.family (lift (prefix_as whole).bits L) ≡ of_table k.family L
      told L = ap (λ (p : Prefix). of_table p.family (lift p.bits L)) e ∙ ap (of_table k.family) (unlifted L)

      passed : agg s.bits (spot_answers s) s.entries h ≡ agg (width k.family) (answers (of_family k.family k.routes) []) s.entries 0
      passed =
          ap (agg s.bits (spot_answers s) s.entries) j
          ∙ (agg_same s.bits (spot_answers s) (answers (of_family k.family k.routes) []) s.entries s.entries 0 (λ b u. sym (whole_answers b)) (λ q. refl) ∙ ap (λ d. agg d (answers (of_family k.family k.routes) []) s.entries 0) whole_bits)

pub root_some : (t : Option Labels) (m : Labels) (w : Walks) → t ≡ Some m → of_table m.family w.entries ≡ m.entries → IsRootOf t (Some w)
root_some t m w e f = subst (λ (u : Option Labels). IsRootOf u (Some w)) (sym e) (ap (of_family m.family) (sym f) ∙ family_is m.family w.entries)

pub none_if : (o : Option Labels) (b : Bool) → is_some o ≡ not b → b ≡ is_none o
none_if None true e = refl
none_if None false e = cc
none_if (Some m) true e = cc
none_if (Some m) false e = refl
