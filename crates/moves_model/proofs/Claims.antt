-- Claims that are proved.
use Rattle.std.proofs.Common.{◌≡◌, ◌↔◌, ◌≤◌, List, [], ◌∷◌, Bool, true, false, cond, Option, Some, None, length, refl, sym, ap, ◌∙◌, arith}
use Rattle.std.specs.Prelude.{option_map}
use Rattle.std.specs.Option.{option_or}
use Rattle.std.specs.List.{AllByRecursion}
use Rattle.std.specs.Map.{keys_of}
use Rattle.table_model.specs.Width.{width}
use Rattle.table_model.specs.Address.{IsPrefix, same_family}
use Rattle.table_model.specs.declared.family.Family.{Family}
use Rattle.table_model.specs.declared.family.Family.TheVariants.{V4, V6}
use Rattle.table_model.proofs.SamePrefix.{same_family_is}
use Rattle.table_model.specs.Table.{Alike}
use Rattle.table_model.specs.Entries.{Entries, in_order, of_family}
use Rattle.table_model.specs.Changes.{Change, after_changes}
use Rattle.table_model.proofs.Sums.{in_order_again}
use Rattle.table_model.proofs.Same.{same_answers}
use Rattle.route_model.proofs.Keyed.{all_filter}
use Rattle.kept_model.specs.Between.{AreEntries, between, place_of}
use Rattle.kept_model.proofs.Alike.{placed_are}
use Rattle.kept_model.proofs.Held.{all_folded, hop_in_order, in_order_placed}
use Rattle.kept_model.proofs.Reordered.{between_in_order}
use Rattle.kept_model.proofs.Families.{AllOf, table_of as all_of_table}
use Rattle.kept_model.proofs.Patches.{family_hop}
use Rattle.cert_model.specs.Rows.{CertRow}
use Rattle.cert_model.specs.Verdict.{RowFits}
use Rattle.moves_model.specs.Dist.{distance}
use Rattle.moves_model.specs.Nearest.{nearest, near_bound}
use Rattle.moves_model.proofs.Near.{bound_law}
use Rattle.moves_model.specs.Rows.{near_in}
use Rattle.moves_model.specs.Shortest.{AreShortest}
use Rattle.moves_model.specs.Verdict.{NoMoves, moves_verdict}
use Rattle.moves_model.proofs.Changes.{changes_dist}
use Rattle.moves_model.proofs.Verdicts.{verdict_law}
use Rattle.moves_model.proofs.Whole.{are_shortest, near_alike, near_count, near_entries}
use Rattle.moves_model.specs.Both.{family_table, own_entries}
use Rattle.moves_model.specs.Claims.{Claim, IsClaim, IsProved, IsProvedIn, WrongMoves, claim_verdict, family_of_row, own_changes, own_rows, wrong_claim}
use Rattle.moves_model.proofs.Both.{shortest_in_both}
use Rattle.moves_model.proofs.Parts.{own_of}
use Rattle.moves_model.proofs.Sides.{AreAt}

-- ---- entries in whatever order, and in order

module _ (f : Family) (R T : Entries) (r : AreEntries R) (t : AreEntries T) (all : AllOf f (keys_of T)) where
  abbrev S : Entries
  S = in_order T

  s : AreEntries S
  s = placed_are S (in_order_placed T t.0)

  s_all : AllOf f (keys_of S)
  s_all = all_folded (λ p. p.family ≡ f) T [] all tt

  -- the nearest table to the ordered entries is as far from the others
  bound_most : near_bound (width f) (of_family f R) (of_family f T) ≤ near_bound (width f) (of_family f R) (of_family f S)
  bound_most =
      let N = near_in f R S in
      let n : AreEntries N = near_entries f R S s s_all in
      let again : in_order S ≡ S = in_order_again S (in_order_placed T t.0).1 in
      let same : between S N ≡ between T N = sym (between_in_order S N s n) ∙ (ap (λ (L : Entries). between L (in_order N)) again ∙ between_in_order T N t n) in
      let far : length (between T N) ≡ distance (of_family f T) (of_family f N) = changes_dist f T N t n all (all_of_table f (nearest (width f) (of_family f R) (of_family f S))) in
      omega (arith, ap length same, far, near_count f R S s s_all, bound_law (width f) (of_family f R) (of_family f T) (of_family f N) (near_alike f R S s s_all))

  routes_ordered : Alike (width f) (of_family f (in_order R)) (of_family f R)
  routes_ordered a l = same_answers a (of_family f (in_order R)) (of_family f R) 0 (λ q. family_hop f q (in_order R) ∙ (hop_in_order (record { family = f; bits = q }) R r ∙ sym (family_hop f q R)))

  pub ordered_shortest : (cs : List Change) → AreShortest f R T cs → AreShortest f (in_order R) S cs
  ordered_shortest cs h = record {
    after = h.after;
    makes = ap (after_changes cs) (in_order_again S (in_order_placed T t.0).1) ∙ h.makes;
    alike = λ a l. routes_ordered a l ∙ h.alike a l;
    fewest = λ U e.
        let near = near_in f R T in
        let n : AreEntries near = near_entries f R T t all in
        let most : length cs ≤ distance (of_family f T) (of_family f near) = h.fewest (of_family f near) (near_alike f R T t all) in
        let far : length (between T near) ≡ distance (of_family f T) (of_family f near) = changes_dist f T near t n all (all_of_table f (nearest (width f) (of_family f R) (of_family f T))) in
        omega (arith, most, far, near_count f R T t all, bound_most, bound_law (width f) (of_family f R) (of_family f S) U (λ a l. sym (routes_ordered a l) ∙ e a l));
  }

-- ---- what is of a family

own_fit : (f : Family) (L : Entries) → AllByRecursion IsPrefix (keys_of L) → AllByRecursion IsPrefix (keys_of (own_entries f L))
own_fit f L a = all_filter (λ e. same_family f e.0.family) IsPrefix L a

pub own_at : (f : Family) (cs : List Change) → AllByRecursion (λ c. IsPrefix (place_of c)) cs → AreAt f (own_changes f cs)
own_at f [] a = tt
own_at f (c ∷ cs) a = by_test (same_family f (place_of c).family) refl (own_at f cs a.1)
  where
    by_test : (b : Bool) → same_family f (place_of c).family ≡ b → AreAt f (own_changes f cs) → AreAt f (cond b (c ∷ own_changes f cs) (own_changes f cs))
    by_test true e more = ((a.0, sym (same_family_is f (place_of c).family e)), more)
    by_test false e more = more

own_rows_fit : (f : Family) (rows : List CertRow) → AllByRecursion RowFits rows → AllByRecursion RowFits (own_rows f rows)
own_rows_fit f [] a = tt
own_rows_fit f (row ∷ rows) a = by_test (same_family f (family_of_row row)) (own_rows_fit f rows a.1)
  where
    by_test : (b : Bool) → AllByRecursion RowFits (own_rows f rows) → AllByRecursion RowFits (cond b (row ∷ own_rows f rows) (own_rows f rows))
    by_test true more = (a.0, more)
    by_test false more = more

-- ---- a claim

own_shortest : (f : Family) (c : Claim) → AllByRecursion IsPrefix (keys_of c.table) → AllByRecursion IsPrefix (keys_of c.routes) → IsProvedIn f c → AreShortest f (family_table f c.routes) (family_table f c.table) (own_changes f c.changes)
own_shortest f c t r p =
    let T = own_entries f c.table in
    let R = own_entries f c.routes in
    ordered_shortest f R T (own_fit f c.routes r, p.routes_once) (own_fit f c.table t, p.old_once) (own_of f c.table) (own_changes f c.changes) (are_shortest f R T (own_changes f c.changes) (own_rows f c.rows) p)

-- each family's part is proved, and so the whole is
pub proved_both : (c : Claim) → AllByRecursion IsPrefix (keys_of c.table) → AllByRecursion IsPrefix (keys_of c.routes) → AllByRecursion (λ change. IsPrefix (place_of change)) c.changes → IsProvedIn V4 c → IsProvedIn V6 c → IsProved c
proved_both c t r places p q = record {
  v4 = p;
  v6 = q;
  both = shortest_in_both c.routes c.table r t (own_changes V4 c.changes) (own_changes V6 c.changes) (own_at V4 c.changes places) (own_at V6 c.changes places) (own_shortest V4 c t r p) (own_shortest V6 c t r q);
}

decides : (f : Family) (c : Claim) → IsClaim c → (wrong_claim f c ≡ None) ↔ IsProvedIn f c
decides f c i = (there (moves_verdict f (own_entries f c.table) (own_entries f c.routes) (own_changes f c.changes) (own_rows f c.rows)) refl, back)
  where
    law : (moves_verdict f (own_entries f c.table) (own_entries f c.routes) (own_changes f c.changes) (own_rows f c.rows) ≡ None) ↔ IsProvedIn f c
    law = verdict_law f (own_entries f c.table) (own_entries f c.routes) (own_changes f c.changes) (own_rows f c.rows) (own_rows_fit f c.rows i.rows)

    told : NoMoves → WrongMoves
    told x = record { family = f; no = x }

    there : (o : Option NoMoves) → moves_verdict f (own_entries f c.table) (own_entries f c.routes) (own_changes f c.changes) (own_rows f c.rows) ≡ o → option_map told o ≡ None → IsProvedIn f c
    there None e n = law.0 e
    there (Some x) e n = absurd cc

    back : IsProvedIn f c → wrong_claim f c ≡ None
    back p = ap (option_map told) (law.1 p)

pub claim_law : (c : Claim) → IsClaim c → (claim_verdict c ≡ None) ↔ IsProved c
claim_law c i = (there, back)
  where
    either : (o u : Option WrongMoves) → option_or o u ≡ None → (o ≡ None) × (u ≡ None)
    either None u e = (refl, e)
    either (Some w) u e = absurd cc

    there : claim_verdict c ≡ None → IsProved c
    there e =
        let n = either (wrong_claim V4 c) (wrong_claim V6 c) e in
        proved_both c i.table i.routes i.changes ((decides V4 c i).0 n.0) ((decides V6 c i).0 n.1)

    back : IsProved c → claim_verdict c ≡ None
    back p = ap (λ o. option_or o (wrong_claim V6 c)) ((decides V4 c i).1 p.v4) ∙ (decides V6 c i).1 p.v6
