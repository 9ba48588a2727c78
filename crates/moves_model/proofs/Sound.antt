-- A list of changes is no shorter than the number of prefixes at which it makes another table.
use Rattle.std.proofs.Common.{◌≡◌, ℕ, zero, suc, ◌+◌, ◌≤◌, List, [], ◌∷◌, Bool, true, false, cond, Option, Some, None, length, refl, sym, ap, ◌∙◌, arith, subst}
use Rattle.std.specs.Prelude.{◌&&◌}
use Rattle.std.specs.Option.{option_and_then}
use Rattle.std.specs.List.{AllByRecursion}
use Rattle.std.specs.Map.{remove_entry}
use Rattle.table_model.specs.Bits.{same_bits}
use Rattle.table_model.specs.Width.{width}
use Rattle.table_model.specs.Order.{prefix_cmp}
use Rattle.table_model.specs.Address.{Prefix, IsPrefix, same_family, same_prefix}
use Rattle.table_model.specs.declared.family.Family.{Family}
use Rattle.table_model.specs.Table.{Table, IsTable, root, half}
use Rattle.table_model.specs.Entries.{Entries, with_entry, in_order, of_family}
use Rattle.table_model.specs.Changes.{Change, Add, Replace, Remove, is_held, after_change, after_changes}
use Rattle.table_model.specs.Regions.{entry_at, SameEntries}
use Rattle.table_model.proofs.Patch.{table_half, no_half}
use Rattle.route_model.proofs.Keyed.{all_put, sorted_put, lookup-put, all_cut, sorted_cut, lookup-cut}
use Rattle.route_model.proofs.Places.{prefix_key}
use Rattle.kept_model.specs.Between.{AreEntries, place_of, entry_hop_at}
use Rattle.kept_model.proofs.Held.{Placed, in_order_placed, hop_in_order}
use Rattle.kept_model.proofs.Alike.{placed_are}
use Rattle.kept_model.proofs.Patches.{family_hop, family_table}
use Rattle.moves_model.specs.Dist.{differs, distance}
use Rattle.moves_model.proofs.Counts.{one_if, tally, tally_itself, dist_cut}

-- ---- tables with the same entries are as far from T

none_both : (T L : Table) → T ≡ [] → L ≡ [] → distance T L ≡ 0
none_both T L e f = ap (λ x. distance x L) e ∙ ap (distance []) f

pub dist_same : (w : ℕ) (T L N : Table) → IsTable w T → IsTable w L → IsTable w N → SameEntries L N → distance T L ≡ distance T N
dist_same zero T L N t l n s =
    omega (
      arith,
      dist_cut T L t.0 l.0,
      dist_cut T N t.0 n.0,
      ap (tally (root T)) (s []),
      none_both (half false T) (half false L) (no_half false T t.1) (no_half false L l.1),
      none_both (half true T) (half true L) (no_half true T t.1) (no_half true L l.1),
      none_both (half false T) (half false N) (no_half false T t.1) (no_half false N n.1),
      none_both (half true T) (half true N) (no_half true T t.1) (no_half true N n.1),
    )
dist_same (suc w) T L N t l n s =
    omega (
      arith,
      dist_cut T L t.0 l.0,
      dist_cut T N t.0 n.0,
      ap (tally (root T)) (s []),
      dist_same w (half false T) (half false L) (half false N) (table_half false w T t) (table_half false w L l) (table_half false w N n) (λ q. s (false ∷ q)),
      dist_same w (half true T) (half true L) (half true N) (table_half true w T t) (table_half true w L l) (table_half true w N n) (λ q. s (true ∷ q)),
    )

most : (b : Bool) → one_if b ≤ 1
most true = omega arith
most false = omega arith

tally_most : (o u : Option ℕ) → tally o u ≤ 1
tally_most o u = most (differs o u)

-- the tables have the same entries but at q
abbrev SameBut : List Bool → Table → Table → Type 0
SameBut q L N = (r : List Bool) → same_bits r q ≡ false → entry_at r L ≡ entry_at r N

but_nil : (b : Bool) (L N : Table) → SameBut [] L N → SameEntries (half b L) (half b N)
unfolding same_bits
but_nil b L N s r = s (b ∷ r) refl

but_same : (b : Bool) (q : List Bool) (L N : Table) → SameBut (b ∷ q) L N → SameBut q (half b L) (half b N)
unfolding same_bits
but_same true q L N s r e = s (true ∷ r) e
but_same false q L N s r e = s (false ∷ r) e

but_low : (q : List Bool) (L N : Table) → SameBut (true ∷ q) L N → SameEntries (half false L) (half false N)
unfolding same_bits
but_low q L N s r = s (false ∷ r) refl

but_high : (q : List Bool) (L N : Table) → SameBut (false ∷ q) L N → SameEntries (half true L) (half true N)
unfolding same_bits
but_high q L N s r = s (true ∷ r) refl

but_root : (b : Bool) (q : List Bool) (L N : Table) → SameBut (b ∷ q) L N → root L ≡ root N
unfolding same_bits
but_root b q L N s = s [] refl

pub dist_but : (w : ℕ) (q : List Bool) (T L N : Table) → IsTable w T → IsTable w L → IsTable w N → SameBut q L N → distance T N ≤ distance T L + 1
dist_but zero q T L N t l n s =
    omega (
      arith,
      dist_cut T L t.0 l.0,
      dist_cut T N t.0 n.0,
      tally_most (root T) (root N),
      none_both (half false T) (half false N) (no_half false T t.1) (no_half false N n.1),
      none_both (half true T) (half true N) (no_half true T t.1) (no_half true N n.1),
    )
dist_but (suc w) [] T L N t l n s =
    omega (
      arith,
      dist_cut T L t.0 l.0,
      dist_cut T N t.0 n.0,
      tally_most (root T) (root N),
      dist_same w (half false T) (half false L) (half false N) (table_half false w T t) (table_half false w L l) (table_half false w N n) (but_nil false L N s),
      dist_same w (half true T) (half true L) (half true N) (table_half true w T t) (table_half true w L l) (table_half true w N n) (but_nil true L N s),
    )
dist_but (suc w) (true ∷ q) T L N t l n s =
    omega (
      arith,
      dist_cut T L t.0 l.0,
      dist_cut T N t.0 n.0,
      ap (tally (root T)) (but_root true q L N s),
      dist_same w (half false T) (half false L) (half false N) (table_half false w T t) (table_half false w L l) (table_half false w N n) (but_low q L N s),
      dist_but w q (half true T) (half true L) (half true N) (table_half true w T t) (table_half true w L l) (table_half true w N n) (but_same true q L N s),
    )
dist_but (suc w) (false ∷ q) T L N t l n s =
    omega (
      arith,
      dist_cut T L t.0 l.0,
      dist_cut T N t.0 n.0,
      ap (tally (root T)) (but_root false q L N s),
      dist_but w q (half false T) (half false L) (half false N) (table_half false w T t) (table_half false w L l) (table_half false w N n) (but_same false q L N s),
      dist_same w (half true T) (half true L) (half true N) (table_half true w T t) (table_half true w L l) (table_half true w N n) (but_high q L N s),
    )

no_tally : (o : Option ℕ) → tally o o ≡ 0
no_tally None = refl
no_tally (Some g) = tally_itself g

dist_itself : (w : ℕ) (T : Table) → IsTable w T → distance T T ≡ 0
dist_itself zero T t =
    omega (arith, dist_cut T T t.0 t.0, no_tally (root T), none_both (half false T) (half false T) (no_half false T t.1) (no_half false T t.1), none_both (half true T) (half true T) (no_half true T t.1) (no_half true T t.1))
dist_itself (suc w) T t = omega (arith, dist_cut T T t.0 t.0, no_tally (root T), dist_itself w (half false T) (table_half false w T t), dist_itself w (half true T) (table_half true w T t))

-- ---- changes

-- the table after a change has the same entries elsewhere
record Steps (c : Change) (L N : Entries) : Type 0 where
  placed : Placed N
  elsewhere : (q : Prefix) → same_prefix q (place_of c) ≡ false → entry_hop_at q N ≡ entry_hop_at q L

made_put : (c : Change) (L N : Entries) (h : ℕ) → IsPrefix (place_of c) → Placed L → Some (with_entry L (place_of c, h)) ≡ Some N → Steps c L N
made_put c L N h x p e =
    let is : with_entry L (place_of c, h) ≡ N = cc in
    subst (Steps c L) is (record {
      placed = (all_put prefix_cmp IsPrefix L (place_of c) h p.0 x, sorted_put prefix_key L (place_of c) h p.1);
      elsewhere = λ q n. lookup-put prefix_key q L (place_of c) h p.0 x ∙ ap (λ b. cond b (Some h) (entry_hop_at q L)) n;
    })

made_cut : (c : Change) (L N : Entries) → Placed L → Some (remove_entry (same_prefix (place_of c)) L) ≡ Some N → Steps c L N
made_cut c L N p e =
    let is : remove_entry (same_prefix (place_of c)) L ≡ N = cc in
    subst (Steps c L) is (record {
      placed = (all_cut (same_prefix (place_of c)) IsPrefix L p.0, sorted_cut prefix_cmp (same_prefix (place_of c)) L p.1);
      elsewhere = λ q n. lookup-cut prefix_key q (place_of c) L p.1 ∙ ap (λ b. cond b None (entry_hop_at q L)) n;
    })

steps : (c : Change) (L N : Entries) → IsPrefix (place_of c) → Placed L → after_change c L ≡ Some N → Steps c L N
steps (Add p h) L N x l e = by_test (is_held p L) e
  where
    by_test : (b : Bool) → cond b None (Some (with_entry L (p, h))) ≡ Some N → Steps (Add p h) L N
    by_test true z = cc
    by_test false z = made_put (Add p h) L N h x l z
steps (Replace p h) L N x l e = by_test (is_held p L) e
  where
    by_test : (b : Bool) → cond b (Some (with_entry L (p, h))) None ≡ Some N → Steps (Replace p h) L N
    by_test true z = made_put (Replace p h) L N h x l z
    by_test false z = cc
steps (Remove p) L N x l e = by_test (is_held p L) e
  where
    by_test : (b : Bool) → cond b (Some (remove_entry (same_prefix p) L)) None ≡ Some N → Steps (Remove p) L N
    by_test true z = made_cut (Remove p) L N l z
    by_test false z = cc

-- of the family's tables
answers_differ : (f : Family) (p : Prefix) (r : List Bool) → same_bits r p.bits ≡ false → same_prefix (record { family = f; bits = r }) p ≡ false
answers_differ f p r e = by_family (same_family f p.family)
  where
    by_family : (b : Bool) → (b && same_bits r p.bits) ≡ false
    by_family true = e
    by_family false = refl

one_step : (f : Family) (c : Change) (T : Table) (L N : Entries) → IsTable (width f) T → IsPrefix (place_of c) → Placed L → Steps c L N → distance T (of_family f N) ≤ distance T (of_family f L) + 1
one_step f c T L N t x l s =
    dist_but (width f) (place_of c).bits T (of_family f L) (of_family f N) t (family_table f L (placed_are L l)) (family_table f N (placed_are N s.placed))
    (λ r e. family_hop f r L ∙ (sym (s.elsewhere (record { family = f; bits = r }) (answers_differ f (place_of c) r e)) ∙ sym (family_hop f r N)))

module _ (f : Family) (T : Table) (t : IsTable (width f) T) where
  all_steps : (cs : List Change) (L N : Entries) → AllByRecursion (λ c. IsPrefix (place_of c)) cs → Placed L → after_changes cs L ≡ Some N → distance T (of_family f N) ≤ distance T (of_family f L) + length cs
  all_steps [] L N a l e = let is : L ≡ N = cc in omega (arith, ap (λ (E : Entries). distance T (of_family f E)) is)
  all_steps (c ∷ cs) L N a l e = by_first (after_change c L) refl e (λ M p y. all_steps cs M N a.1 p y)
    where
      by_first : (o : Option Entries) → after_change c L ≡ o → option_and_then (after_changes cs) o ≡ Some N
          → ((M : Entries) → Placed M → after_changes cs M ≡ Some N → distance T (of_family f N) ≤ distance T (of_family f M) + length cs) → distance T (of_family f N) ≤ distance T (of_family f L) + suc (length cs)
      by_first None z y later = cc
      by_first (Some M) z y later =
          let s = steps c L M a.0 l z in
          omega (arith, one_step f c T L M t a.0 l s, later M s.placed y)

-- the changes are no fewer than the prefixes at which they change the table
pub changes_dist_most : (f : Family) (T N : Entries) (cs : List Change) → AreEntries T → AllByRecursion (λ c. IsPrefix (place_of c)) cs → after_changes cs (in_order T) ≡ Some N → distance (of_family f T) (of_family f N) ≤ length cs
changes_dist_most f T N cs t a e =
    let L : Entries = in_order T in
    let p : Placed L = in_order_placed T t.0 in
    let i : IsTable (width f) (of_family f T) = family_table f T t in
    let same : distance (of_family f T) (of_family f T) ≡ distance (of_family f T) (of_family f L) =
    dist_same (width f) (of_family f T) (of_family f T) (of_family f L) i i (family_table f L (placed_are L p)) (λ q. family_hop f q T ∙ (sym (hop_in_order (record { family = f; bits = q }) T t) ∙ sym (family_hop f q L))) in
    omega (arith, all_steps f (of_family f T) i cs L N a p e, dist_itself (width f) (of_family f T) i, same)
