-- The kept table answers as the routes.
use Rattle.std.proofs.Common.{◌≡◌, ℕ, ◌+◌, ◌≤◌, List, [], ◌∷◌, ◌++◌, Bool, true, false, cond, Option, Some, None, refl, sym, ap, subst, ◌∙◌, arith}
use Rattle.std.specs.Prelude.{option_map, if◌then◌else◌}
use Rattle.std.specs.List.{AllByRecursion}
use Rattle.std.specs.Map.{lookup}
use Rattle.table_model.specs.Bits.{begins}
use Rattle.table_model.specs.Width.{width}
use Rattle.table_model.specs.Address.{Address, Prefix, same_address, same_family, same_prefix}
use Rattle.table_model.specs.declared.family.Family.{Family}
use Rattle.table_model.specs.declared.family.Family.TheVariants.{V4, V6}
use Rattle.table_model.proofs.SamePrefix.{same_address_is, same_prefix_is, same_family_is, same_family_itself}
use Rattle.table_model.specs.Table.{Alike}
use Rattle.table_model.specs.Entries.{Entries, of_family, AlikeInBoth}
use Rattle.table_model.specs.Regions.{SameEntries, SameOutside, entry_at}
use Rattle.table_model.specs.Least.{aggregate}
use Rattle.table_model.specs.Both.{LeastInBoth, aggregate_in, aggregate_in_both}
use Rattle.table_model.proofs.Laws.{aggregate_table, fresh_law}
use Rattle.table_model.proofs.Same.{same_answers, same_least}
use Rattle.table_model.proofs.Order.{answers_outside}
use Rattle.route_model.specs.Events.{Elem, elem_prefix}
use Rattle.route_model.specs.Choice.{Candidates, AreCandidates, IsElem, after_elem, after_elems, chosen_for}
use Rattle.route_model.proofs.Said.{candidates_after}
use Rattle.route_model.proofs.Keyed.{same_entries}
use Rattle.route_model.proofs.Places.{prefix_key}
use Rattle.kept_model.specs.Between.{AreEntries, entry_hop_at}
use Rattle.kept_model.proofs.Held.{Placed, hop_in_order}
use Rattle.kept_model.proofs.Alike.{placed_are}
use Rattle.kept_model.specs.Patched.{patch_of, after_repair}
use Rattle.kept_model.proofs.Repairs.{table_entries}
use Rattle.kept_model.proofs.Patches.{family_hop, table_hop, family_table, patched_alike, patched_elsewhere}
use Rattle.kept_model.proofs.Families.{hop_low, hop_high, table_of, are_both}
use Rattle.kept_model.specs.Feed.{number_in, entries_of}
use Rattle.kept_model.proofs.Tables.{at_prefix, entries_sorted, entries_at_prefixes, entry_after, new_entry}
use Rattle.kept_model.proofs.Tables.{entry_at as routed_at}
use Rattle.kept_model.specs.Kept.{is_other, is_due, snapshot_of, snapshot_if, kept_at_load, repaired_by, kept_by, kept_from}
use Rattle.kept_model.proofs.FeedSums.{snapshot_placed, renewed_placed, by_placed}

-- ---- a snapshot is least in both families

none_short : (f : Family) → 0 ≤ width f
none_short f = omega arith

snapshot_entries : (R T : Entries) (f : Family) → SameEntries (of_family f (snapshot_of R T)) (aggregate (width f) (of_family f R) [] 0 (of_family f T))
snapshot_entries R T f q =
    let A = aggregate_in V4 R T in
    let B = aggregate_in V6 R T in
    family_hop f q (snapshot_of R T) ∙ (hop_in_order (record { family = f; bits = q }) (A ++ B) (both_entries R T) ∙ by_family f)
  where
    both_entries : (R T : Entries) → AreEntries (aggregate_in_both R T)
    both_entries R T =
        are_both (aggregate_in V4 R T) (aggregate_in V6 R T) (one V4) (one V6) (table_of V4 (aggregate (width V4) (of_family V4 R) [] 0 (of_family V4 T))) (table_of V6 (aggregate (width V6) (of_family V6 R) [] 0 (of_family V6 T)))
      where
        one : (g : Family) → AreEntries (aggregate_in g R T)
        one g = table_entries g (aggregate (width g) (of_family g R) [] 0 (of_family g T)) (aggregate_table (width g) (of_family g R) [] 0 (of_family g T) (none_short g))

    by_family : (g : Family) → entry_hop_at (record { family = g; bits = q }) (aggregate_in_both R T) ≡ entry_at q (aggregate (width g) (of_family g R) [] 0 (of_family g T))
    by_family V4 = hop_low (record { family = V4; bits = q }) (aggregate_in V4 R T) (aggregate_in V6 R T) refl (table_of V6 (aggregate (width V6) (of_family V6 R) [] 0 (of_family V6 T))) ∙ table_hop V4 q (aggregate (width V4) (of_family V4 R) [] 0 (of_family V4 T))
    by_family V6 = hop_high (record { family = V6; bits = q }) (aggregate_in V4 R T) (aggregate_in V6 R T) refl (table_of V4 (aggregate (width V4) (of_family V4 R) [] 0 (of_family V4 T))) ∙ table_hop V6 q (aggregate (width V6) (of_family V6 R) [] 0 (of_family V6 T))

pub snapshot_least : (R T : Entries) → LeastInBoth R (snapshot_of R T)
snapshot_least R T f =
    let w = width f in
    let A = aggregate w (of_family f R) [] 0 (of_family f T) in
    let S = of_family f (snapshot_of R T) in
    let l = fresh_law w (of_family f R) (of_family f T) in
    same_least w (of_family f R) A S l.0 (family_table f (snapshot_of R T) (placed_are (snapshot_of R T) (snapshot_placed R T))) (λ q. sym (snapshot_entries R T f q)) l.1

alike_both : (R T : Entries) → ((f : Family) → Alike (width f) (of_family f R) (of_family f T)) → AlikeInBoth R T
alike_both R T h a i = h a.family a.bits i

alike_in : (R T : Entries) (f : Family) → AlikeInBoth R T → Alike (width f) (of_family f R) (of_family f T)
alike_in R T f h a l = h (record { family = f; bits = a }) l

-- ---- an elementary event

begins_itself : (p : List Bool) → begins p p ≡ true
begins_itself [] = refl
begins_itself (true ∷ p) = begins_itself p
begins_itself (false ∷ p) = begins_itself p

not_other : (old new : Option Address) → is_other old new ≡ false → old ≡ new
not_other None None e = refl
not_other None (Some hop) e = cc
not_other (Some old) None e = cc
not_other (Some old) (Some hop) e = by_test (same_address old hop) refl e
  where
    by_test : (b : Bool) → same_address old hop ≡ b → (if b then false else true) ≡ false → Some old ≡ Some hop
    by_test true s e = ap Some (same_address_is old hop s)
    by_test false s e = cc

module _ (hops : List Address) (held : Candidates) (elem : Elem) (a : AreCandidates held) (e : IsElem elem) where
  routes_placed : Placed (entries_of hops held)
  routes_placed = (entries_at_prefixes hops held a, entries_sorted hops held a)

  -- where the chosen hop stays, the routes do
  routes_stay : is_other (chosen_for held (elem_prefix elem)) (chosen_for (after_elem held elem) (elem_prefix elem)) ≡ false → entries_of hops (after_elem held elem) ≡ entries_of hops held
  routes_stay n =
      let b = candidates_after held elem a e in
      same_entries prefix_key (entries_of hops (after_elem held elem)) (entries_of hops held) (entries_sorted hops (after_elem held elem) b) (entries_sorted hops held a) (entries_at_prefixes hops (after_elem held elem) b) (entries_at_prefixes hops held a)
      (λ q. entry_after hops held elem q a e ∙ by_test q (same_prefix q (elem_prefix elem)) refl)
    where
      by_test : (q : Prefix) (t : Bool) → same_prefix q (elem_prefix elem) ≡ t → cond t (new_entry hops held elem) (lookup (same_prefix q) (entries_of hops held)) ≡ lookup (same_prefix q) (entries_of hops held)
      by_test q true t =
          ap (option_map (number_in hops)) (sym (not_other (chosen_for held (elem_prefix elem)) (chosen_for (after_elem held elem) (elem_prefix elem)) n))
          ∙ (sym (routed_at hops held (elem_prefix elem)) ∙ ap (λ x. lookup (same_prefix x) (entries_of hops held)) (sym (same_prefix_is q (elem_prefix elem) t)))
      by_test q false t = refl

  -- elsewhere the routes stay
  other_routes : (q : Prefix) → same_prefix q (elem_prefix elem) ≡ false → entry_hop_at q (entries_of hops held) ≡ entry_hop_at q (entries_of hops (after_elem held elem))
  other_routes q n = sym (entry_after hops held elem q a e ∙ ap (λ t. cond t (new_entry hops held elem) (lookup (same_prefix q) (entries_of hops held))) n)

  not_within : (q : List Bool) (f : Family) → begins (elem_prefix elem).bits q ≡ false → same_prefix (record { family = f; bits = q }) (elem_prefix elem) ≡ false
  not_within q f n = by_test (same_prefix (record { family = f; bits = q }) (elem_prefix elem)) refl
    where
      by_test : (b : Bool) → same_prefix (record { family = f; bits = q }) (elem_prefix elem) ≡ b → b ≡ false
      by_test false s = refl
      by_test true s =
          let same : q ≡ (elem_prefix elem).bits = ap (λ (p : Prefix). p.bits) (same_prefix_is (record { family = f; bits = q }) (elem_prefix elem) s) in
          let itself : begins (elem_prefix elem).bits q ≡ true = ap (begins (elem_prefix elem).bits) same ∙ begins_itself (elem_prefix elem).bits in
          let z : true ≡ false = sym itself ∙ n in absurd cc

  not_of : (q : List Bool) (f : Family) → same_family (elem_prefix elem).family f ≡ false → same_prefix (record { family = f; bits = q }) (elem_prefix elem) ≡ false
  not_of q f n = by_test (same_prefix (record { family = f; bits = q }) (elem_prefix elem)) refl
    where
      by_test : (b : Bool) → same_prefix (record { family = f; bits = q }) (elem_prefix elem) ≡ b → b ≡ false
      by_test false s = refl
      by_test true s =
          let same : f ≡ (elem_prefix elem).family = ap (λ (p : Prefix). p.family) (same_prefix_is (record { family = f; bits = q }) (elem_prefix elem) s) in
          let itself : same_family (elem_prefix elem).family f ≡ true = ap (same_family (elem_prefix elem).family) same ∙ same_family_itself (elem_prefix elem).family in
          let z : true ≡ false = sym itself ∙ n in absurd cc

  outside_stays : SameOutside (elem_prefix elem).bits (of_family (elem_prefix elem).family (entries_of hops held)) (of_family (elem_prefix elem).family (entries_of hops (after_elem held elem)))
  outside_stays q n =
      let f = (elem_prefix elem).family in
      family_hop f q (entries_of hops held) ∙ (other_routes (record { family = f; bits = q }) (not_within q f n) ∙ sym (family_hop f q (entries_of hops (after_elem held elem))))

  other_family : (f : Family) → same_family (elem_prefix elem).family f ≡ false → SameEntries (of_family f (entries_of hops held)) (of_family f (entries_of hops (after_elem held elem)))
  other_family f n q = family_hop f q (entries_of hops held) ∙ (other_routes (record { family = f; bits = q }) (not_of q f n) ∙ sym (family_hop f q (entries_of hops (after_elem held elem))))

  pub repaired_alike : (T : Entries) → Placed T → AlikeInBoth (entries_of hops held) T → AlikeInBoth (entries_of hops (after_elem held elem)) (repaired_by hops held T elem)
  repaired_alike T t h = by_test (is_other (chosen_for held (elem_prefix elem)) (chosen_for (after_elem held elem) (elem_prefix elem))) refl
    where
      in_each : (f : Family) (b : Bool) → same_family (elem_prefix elem).family f ≡ b → Alike (width f) (of_family f (entries_of hops (after_elem held elem))) (of_family f (patch_of (entries_of hops (after_elem held elem)) (elem_prefix elem) T))
      in_each f true s =
          let p = elem_prefix elem in
          let R = entries_of hops held in
          let N = entries_of hops (after_elem held elem) in
          let here : Alike (width p.family) (of_family p.family N) (of_family p.family (patch_of N p T)) =
          patched_alike N T p (at_prefix elem e) t (λ x l n. sym (alike_in R T p.family h x l) ∙ answers_outside p.bits x (of_family p.family R) (of_family p.family N) 0 n outside_stays)
          in
          subst (λ (g : Family). Alike (width g) (of_family g N) (of_family g (patch_of N p T))) (same_family_is p.family f s) here
      in_each f false s = λ x l.
          let p = elem_prefix elem in
          let R = entries_of hops held in
          let N = entries_of hops (after_elem held elem) in
          sym (same_answers x (of_family f R) (of_family f N) 0 (other_family f s)) ∙ (alike_in R T f h x l ∙ sym (same_answers x (of_family f (patch_of N p T)) (of_family f T) 0 (patched_elsewhere N T p (at_prefix elem e) t f s)))

      by_test : (b : Bool) → is_other (chosen_for held (elem_prefix elem)) (chosen_for (after_elem held elem) (elem_prefix elem)) ≡ b → AlikeInBoth (entries_of hops (after_elem held elem)) (after_repair (entries_of hops (after_elem held elem)) (if b then Some (elem_prefix elem) else None) T)
      by_test true n = alike_both (entries_of hops (after_elem held elem)) (patch_of (entries_of hops (after_elem held elem)) (elem_prefix elem) T) (λ f. in_each f (same_family (elem_prefix elem).family f) refl)
      by_test false n = subst (λ (R : Entries). AlikeInBoth R T) (sym (routes_stay n)) h

renewed_alike : (b : Bool) (R T : Entries) → AlikeInBoth R T → AlikeInBoth R (snapshot_if b R T)
renewed_alike false R T h = h
renewed_alike true R T h = alike_both R (snapshot_of R T) (λ f. (snapshot_least R T f).0)

pub kept_alike : (every : ℕ) (hops : List Address) (n : ℕ) (held : Candidates) (T : Entries) (elems : List Elem) → AreCandidates held → AllByRecursion IsElem elems → Placed T → AlikeInBoth (entries_of hops held) T
    → AlikeInBoth (entries_of hops (after_elems held elems)) (kept_from every hops n held T elems)
unfolding kept_from
kept_alike every hops n held T [] a h t k = k
kept_alike every hops n held T (elem ∷ elems) a h t k =
    let R = entries_of hops (after_elem held elem) in
    let N = repaired_by hops held T elem in
    kept_alike every hops (n + 1) (after_elem held elem) (kept_by every hops n held T elem) elems (candidates_after held elem a h.0) h.1 (renewed_placed (is_due every n) R N (by_placed hops held T elem h.0 t))
    (renewed_alike (is_due every n) R N (repaired_alike hops held elem a h.0 T t k))

pub loaded_alike : (hops : List Address) (held : Candidates) → AlikeInBoth (entries_of hops held) (kept_at_load hops held)
loaded_alike hops held = alike_both (entries_of hops held) (kept_at_load hops held) (λ f. (snapshot_least (entries_of hops held) [] f).0)
