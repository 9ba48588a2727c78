-- What changes with right rows come to, and that the nearest table's are such.
use Rattle.std.proofs.Common.{◌≡◌, ◌≢◌, ℕ, ◌<◌, ◌≤◌, List, Bool, true, false, cond, Some, None, length, nat_lt, refl, sym, ap, ◌∙◌, arith, subst, ◌↔◌}
use Rattle.std.proofs.lemmas.Bool.{lt-ltb, ltb-true}
use Rattle.std.specs.List.{AllByRecursion, IsDistinct}
use Rattle.std.specs.Map.{keys_of}
use Rattle.table_model.specs.Width.{width}
use Rattle.table_model.specs.Address.{Prefix, IsPrefix, same_prefix}
use Rattle.table_model.specs.declared.family.Family.{Family}
use Rattle.table_model.specs.Table.{Table, IsTable, Alike}
use Rattle.table_model.specs.Entries.{Entries, in_order, of_family}
use Rattle.table_model.specs.Changes.{Change}
use Rattle.table_model.proofs.Both.{family_is}
use Rattle.table_model.proofs.Same.{same_answers}
use Rattle.kept_model.specs.Between.{AreEntries, place_of, between}
use Rattle.kept_model.proofs.Sums.{made}
use Rattle.kept_model.proofs.Held.{hop_in_order}
use Rattle.kept_model.proofs.Families.{table_of}
use Rattle.kept_model.proofs.Patches.{family_hop, family_table}
use Rattle.kept_model.proofs.Repairs.{table_entries}
use Rattle.cert_model.specs.Rows.{CertRow}
use Rattle.moves_model.specs.Dist.{distance}
use Rattle.moves_model.specs.Nearest.{Nearest, nearest, near_bound}
use Rattle.moves_model.proofs.Near.{near_law, bound_law}
use Rattle.moves_model.specs.Shortest.{AreProvedShortest, AreShortest}
use Rattle.moves_model.specs.Rows.{near_rows, near_in}
use Rattle.moves_model.specs.Verdict.{NotShortest, too_many}
use Rattle.moves_model.proofs.Rules.{bound_holds}
use Rattle.moves_model.proofs.Changes.{changes_dist}
use Rattle.moves_model.proofs.Postorder.{have_bound}
use Rattle.moves_model.proofs.Sound.{changes_dist_most}

-- no table that answers as the routes differs at fewer prefixes than there are changes
pub no_fewer : (f : Family) (R T : Entries) (cs : List Change) (rows : List CertRow) → AreProvedShortest f R T cs rows → (U : Table) → Alike (width f) (of_family f R) U → length cs ≤ distance (of_family f T) U
no_fewer f R T cs rows s U e = omega (arith, s.few, bound_holds R T f s.regions s.bound U s.right e)

-- changes that rows prove shortest are so
pub are_shortest : (f : Family) (R T : Entries) (cs : List Change) (rows : List CertRow) → AreProvedShortest f R T cs rows → AreShortest f R T cs
are_shortest f R T cs rows s = record {
  after = s.after;
  makes = s.makes;
  alike = s.alike;
  fewest = no_fewer f R T cs rows s;
}

-- and what they make differs at just so many
pub just_so_many : (f : Family) (R T : Entries) (cs : List Change) (rows : List CertRow) (s : AreProvedShortest f R T cs rows) → AllByRecursion IsPrefix (keys_of T) → AllByRecursion (λ c. IsPrefix (place_of c)) cs → distance (of_family f T) (of_family f s.after) ≡ length cs
just_so_many f R T cs rows s p q = omega (arith, changes_dist_most f T s.after cs (p, s.old_once) q s.makes, no_fewer f R T cs rows s (of_family f s.after) s.alike)

-- ---- too many changes

-- they are told exactly where some table that answers as the routes is nearer than they are many
pub not_shortest_law : (f : Family) (R T : Entries) (cs : List Change) → AreEntries T
    → (too_many R T f cs ≢ None) ↔ ((U : Table) × IsTable (width f) U × Alike (width f) (of_family f R) U × (distance (of_family f T) U < length cs))
not_shortest_law f R T cs t = (there (nat_lt bound (length cs)) refl, back)
  where
    bound : ℕ
    bound = near_bound (width f) (of_family f R) (of_family f T)

    near : IsTable (width f) (nearest (width f) (of_family f R) (of_family f T)) × Nearest (width f) (of_family f R) (of_family f T) (nearest (width f) (of_family f R) (of_family f T))
        × (distance (of_family f T) (nearest (width f) (of_family f R) (of_family f T)) ≡ bound)
    near = near_law (width f) (of_family f R) (of_family f T) (family_table f T t)

    said : (b : Bool) → nat_lt bound (length cs) ≡ b → too_many R T f cs ≡ cond b (Some (NotShortest (length cs) bound)) None
    said b e = ap (λ (c : Bool). cond c (Some (NotShortest (length cs) bound)) None) e

    there : (b : Bool) → nat_lt bound (length cs) ≡ b → too_many R T f cs ≢ None → (U : Table) × IsTable (width f) U × Alike (width f) (of_family f R) U × (distance (of_family f T) U < length cs)
    there false e x = absurd (x (said false e))
    there true e x = (nearest (width f) (of_family f R) (of_family f T), near.0, near.1.0, omega (arith, near.2, ltb-true bound (length cs) e))

    back : ((U : Table) × IsTable (width f) U × Alike (width f) (of_family f R) U × (distance (of_family f T) U < length cs)) → too_many R T f cs ≢ None
    back (U, u, a, l) z =
        let few : bound < length cs = omega (arith, l, bound_law (width f) (of_family f R) (of_family f T) U a) in
        let x : Some (NotShortest (length cs) bound) ≡ None = sym (said true (lt-ltb bound (length cs) few)) ∙ z in
        cc

-- ---- the nearest table

-- a family's entries put in order answer alike
ordered_alike : (f : Family) (R N : Entries) → AreEntries N → Alike (width f) (of_family f R) (of_family f N) → Alike (width f) (of_family f R) (of_family f (in_order N))
ordered_alike f R N n e a l =
    e a l ∙ same_answers a (of_family f N) (of_family f (in_order N)) 0 (λ q. family_hop f q N ∙ (sym (hop_in_order (record { family = f; bits = q }) N n) ∙ sym (family_hop f q (in_order N))))

module _ (f : Family) (R T : Entries) (t : AreEntries T) (all : AllByRecursion (λ (p : Prefix). p.family ≡ f) (keys_of T)) where
  abbrev w : ℕ
  w = width f

  N : Table
  N = nearest w (of_family f R) (of_family f T)

  is_table : IsTable w (of_family f T)
  is_table = family_table f T t

  pub near_entries : AreEntries (near_in f R T)
  near_entries = table_entries f (nearest w (of_family f R) (of_family f T)) (near_law w (of_family f R) (of_family f T) is_table).0

  pub near_alike : Alike w (of_family f R) (of_family f (near_in f R T))
  near_alike = subst (λ (L : Table). Alike w (of_family f R) L) (sym (family_is f (nearest w (of_family f R) (of_family f T)))) (near_law w (of_family f R) (of_family f T) is_table).1.0

  -- as many changes as the bound says
  pub near_count : length (between T (near_in f R T)) ≡ near_bound w (of_family f R) (of_family f T)
  near_count =
      changes_dist f T (near_in f R T) t near_entries all (table_of f (nearest w (of_family f R) (of_family f T)))
      ∙ (ap (distance (of_family f T)) (family_is f (nearest w (of_family f R) (of_family f T))) ∙ (near_law w (of_family f R) (of_family f T) is_table).2)

  pub near_shortest : IsDistinct same_prefix (keys_of R) → AreProvedShortest f R T (between T (near_in f R T)) (near_rows f R T)
  near_shortest r = record {
    old_once = t.1;
    routes_once = r;
    after = in_order (near_in f R T);
    makes = made T (near_in f R T) t near_entries;
    alike = ordered_alike f R (near_in f R T) near_entries near_alike;
    regions = _;
    bound = near_bound w (of_family f R) (of_family f T);
    parts = refl;
    right = have_bound R T f is_table;
    few = omega (arith, near_count);
  }
