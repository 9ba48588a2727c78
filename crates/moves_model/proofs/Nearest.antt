-- A table with the nearest in a family's place.
use Rattle.std.proofs.Common.{◌≡◌, [], ◌∷◌, Bool, true, false, cond, Some, length, refl, sym, ap, ◌∙◌, arith}
use Rattle.std.specs.List.{AllByRecursion, filter}
use Rattle.std.specs.Map.{keys_of}
use Rattle.table_model.specs.Width.{width}
use Rattle.table_model.specs.Address.{Prefix, IsPrefix, same_family}
use Rattle.table_model.specs.declared.family.Family.{Family}
use Rattle.table_model.proofs.SamePrefix.{same_family_is, same_family_itself}
use Rattle.table_model.specs.Table.{Table, Alike}
use Rattle.table_model.specs.Entries.{Entries, in_order, of_family, of_table}
use Rattle.table_model.specs.Changes.{after_changes}
use Rattle.table_model.proofs.Cut.{entry}
use Rattle.table_model.proofs.Sums.{in_order_again}
use Rattle.table_model.specs.Regions.{SameEntries}
use Rattle.table_model.specs.Sets.{answers}
use Rattle.table_model.proofs.Same.{same_answers}
use Rattle.route_model.proofs.Keyed.{all_filter, sorted_filter}
use Rattle.table_model.specs.Order.{prefix_cmp}
use Rattle.kept_model.specs.Between.{AreEntries, entry_hop_at, between}
use Rattle.kept_model.proofs.Held.{Placed}
use Rattle.kept_model.proofs.Alike.{hop_in_replaced, made_placed, part_changes, placed_are, replaced_placed}
use Rattle.kept_model.proofs.Patches.{family_hop, table_hop}
use Rattle.kept_model.proofs.Repairs.{table_entries}
use Rattle.moves_model.specs.Nearest.{nearest, near_bound}
use Rattle.moves_model.proofs.Near.{bound_law, near_answers, near_table}
use Rattle.moves_model.specs.Rows.{near_in}
use Rattle.moves_model.specs.Shortest.{AreShortest}
use Rattle.moves_model.proofs.Whole.{near_count}
use Rattle.moves_model.specs.Moved.{with_nearest}

-- ---- the entries of one family

abbrev entries_in : Family → Entries → Entries
entries_in f T = filter (λ e. same_family f e.0.family) T

in_of_all : (f : Family) (T : Entries) → of_family f (entries_in f T) ≡ of_family f T
in_of_all f [] = refl
in_of_all f (e ∷ T) = by_test (same_family f e.0.family) refl (in_of_all f T)
  where
    by_test : (b : Bool) → same_family f e.0.family ≡ b → of_family f (entries_in f T) ≡ of_family f T → of_family f (cond b (e ∷ entries_in f T) (entries_in f T)) ≡ cond b (entry e.0.bits e.1 ∷ of_family f T) (of_family f T)
    by_test true s more = ap (λ b. cond b (entry e.0.bits e.1 ∷ of_family f (entries_in f T)) (of_family f (entries_in f T))) s ∙ ap (λ (L : Table). entry e.0.bits e.1 ∷ L) more
    by_test false s more = more

in_all_of : (f : Family) (T : Entries) → AllByRecursion (λ (p : Prefix). p.family ≡ f) (keys_of (entries_in f T))
in_all_of f [] = tt
in_all_of f (e ∷ T) = by_test (same_family f e.0.family) refl (in_all_of f T)
  where
    by_test : (b : Bool) → same_family f e.0.family ≡ b → AllByRecursion (λ (p : Prefix). p.family ≡ f) (keys_of (entries_in f T)) → AllByRecursion (λ (p : Prefix). p.family ≡ f) (keys_of (cond b (e ∷ entries_in f T) (entries_in f T)))
    by_test true s more = (sym (same_family_is f e.0.family s), more)
    by_test false s more = more

in_placed : (f : Family) (T : Entries) → Placed T → Placed (entries_in f T)
in_placed f T t = (all_filter (λ e. same_family f e.0.family) IsPrefix T t.0, sorted_filter prefix_cmp (λ e. same_family f e.0.family) T t.1)

all_in : (f : Family) (L : Table) → AllByRecursion (λ (p : Prefix). same_family f p.family ≡ true) (keys_of (of_table f L))
all_in f [] = tt
all_in f (e ∷ L) = (same_family_itself f, all_in f L)

-- ---- the nearest table

pub near_entries : (f : Family) (R T : Entries) → AreEntries (near_in f R T)
near_entries f R T = table_entries f (nearest (width f) (of_family f R) (of_family f T)) (near_table (width f) (answers (of_family f R) []) (of_family f T) 0)

near_alike : (f : Family) (R T : Entries) → Alike (width f) (of_family f R) (nearest (width f) (of_family f R) (of_family f T))
near_alike f R T = λ a l. sym (near_answers (width f) (answers (of_family f R) []) (of_family f T) 0 a l)

module _ (f : Family) (R T : Entries) (t : Placed T) where
  pub nearest_hop : (q : Prefix) → entry_hop_at q (with_nearest f R T) ≡ cond (same_family f q.family) (entry_hop_at q (near_in f R T)) (entry_hop_at q T)
  unfolding with_nearest
  nearest_hop q = hop_in_replaced (λ r. same_family f r.family) q T (near_in f R T) t (near_entries f R T) (all_in f (nearest (width f) (of_family f R) (of_family f T)))

  pub nearest_placed : Placed (with_nearest f R T)
  unfolding with_nearest
  nearest_placed = replaced_placed (λ r. same_family f r.family) T (near_in f R T) t (near_entries f R T).0

  nearest_changes : between (entries_in f T) (near_in f R T) ≡ between T (with_nearest f R T)
  unfolding with_nearest
  nearest_changes = part_changes (λ r. same_family f r.family) T (near_in f R T) t (near_entries f R T) (all_in f (nearest (width f) (of_family f R) (of_family f T)))

  own_entries : SameEntries (of_family f (with_nearest f R T)) (nearest (width f) (of_family f R) (of_family f T))
  own_entries q =
      let p : Prefix = record { family = f; bits = q } in
      family_hop f q (with_nearest f R T)
      ∙ (nearest_hop p ∙ (ap (λ b. cond b (entry_hop_at p (near_in f R T)) (entry_hop_at p T)) (same_family_itself f) ∙ table_hop f q (nearest (width f) (of_family f R) (of_family f T))))

  pub nearest_alike : Alike (width f) (of_family f R) (of_family f (with_nearest f R T))
  nearest_alike a l = near_alike f R T a l ∙ sym (same_answers a (of_family f (with_nearest f R T)) (nearest (width f) (of_family f R) (of_family f T)) 0 own_entries)

  -- the other family's entries stay
  pub nearest_elsewhere : (g : Family) → same_family f g ≡ false → SameEntries (of_family g (with_nearest f R T)) (of_family g T)
  nearest_elsewhere g n q =
      let p : Prefix = record { family = g; bits = q } in
      family_hop g q (with_nearest f R T) ∙ (nearest_hop p ∙ (ap (λ b. cond b (entry_hop_at p (near_in f R T)) (entry_hop_at p T)) n ∙ sym (family_hop g q T)))

  -- as many changes as the bound says
  nearest_count : length (between T (with_nearest f R T)) ≡ near_bound (width f) (of_family f R) (of_family f T)
  nearest_count =
      let P = entries_in f T in
      let same = in_of_all f T in
      ap length (sym nearest_changes)
      ∙ (ap (λ (L : Table). length (between P (of_table f (nearest (width f) (of_family f R) L)))) (sym same)
      ∙ (near_count f R P (placed_are P (in_placed f T t)) (in_all_of f T) ∙ ap (near_bound (width f) (of_family f R)) same))

  pub nearest_makes : after_changes (between T (with_nearest f R T)) (in_order T) ≡ Some (with_nearest f R T)
  nearest_makes = ap (after_changes (between T (with_nearest f R T))) (in_order_again T t.1) ∙ made_placed T (with_nearest f R T) t nearest_placed

  pub nearest_shortest : AreShortest f R T (between T (with_nearest f R T))
  nearest_shortest = record {
    after = with_nearest f R T;
    makes = nearest_makes;
    alike = nearest_alike;
    fewest = λ U e. omega (arith, nearest_count, bound_law (width f) (of_family f R) (of_family f T) U e);
  }
