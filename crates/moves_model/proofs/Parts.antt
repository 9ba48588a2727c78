-- A table of both families in order, taken apart.
use Rattle.std.proofs.Common.{◌≡◌, [], ◌∷◌, ◌++◌, Bool, true, false, cond, Some, refl, sym, ap, ◌∙◌, append-nil}
use Rattle.std.specs.Prelude.{fold, ◌&&◌}
use Rattle.std.specs.List.{AllByRecursion}
use Rattle.std.specs.Map.{keys_of}
use Rattle.table_model.specs.Bits.{same_bits}
use Rattle.table_model.specs.Address.{Prefix, IsPrefix, same_family, same_prefix}
use Rattle.table_model.specs.declared.family.Family.{Family}
use Rattle.table_model.specs.declared.family.Family.TheVariants.{V4, V6}
use Rattle.table_model.proofs.SamePrefix.{same_family_is}
use Rattle.table_model.specs.Table.{Table}
use Rattle.table_model.specs.Entries.{Entries, with_entry, in_order, of_family}
use Rattle.table_model.proofs.Cut.{entry}
use Rattle.table_model.proofs.Sums.{all_placed}
use Rattle.route_model.proofs.Keyed.{all_filter, lookup-put, same_entries}
use Rattle.route_model.proofs.Places.{prefix_key}
use Rattle.kept_model.specs.Between.{entry_hop_at}
use Rattle.kept_model.proofs.Held.{Placed, all_folded, in_order_placed}
use Rattle.kept_model.proofs.Families.{AllOf, hop_low, hop_high, placed_both}
use Rattle.moves_model.specs.Both.{family_table, own_entries}

pub own_of : (f : Family) (L : Entries) → AllOf f (keys_of (own_entries f L))
own_of f [] = tt
own_of f (e ∷ L) = by_test (same_family f e.0.family) refl (own_of f L)
  where
    by_test : (b : Bool) → same_family f e.0.family ≡ b → AllOf f (keys_of (own_entries f L)) → AllOf f (keys_of (cond b (e ∷ own_entries f L) (own_entries f L)))
    by_test true s more = (sym (same_family_is f e.0.family s), more)
    by_test false s more = more

pub table_placed : (f : Family) (L : Entries) → AllByRecursion IsPrefix (keys_of L) → Placed (family_table f L)
table_placed f L a = in_order_placed (own_entries f L) (all_filter (λ e. same_family f e.0.family) IsPrefix L a)

pub table_all_of : (f : Family) (L : Entries) → AllOf f (keys_of (family_table f L))
table_all_of f L = all_folded (λ p. p.family ≡ f) (own_entries f L) [] (own_of f L) tt

apart : (f : Family) (q p : Prefix) → q.family ≡ f → same_family f p.family ≡ false → same_prefix q p ≡ false
apart f q p e n = ap (λ b. b && same_bits q.bits p.bits) (ap (λ (g : Family). same_family g p.family) e ∙ n)

-- at a prefix of the family stands what its own entries put there
hop_folded_own : (f : Family) (q : Prefix) (L T S : Entries) → q.family ≡ f → AllByRecursion IsPrefix (keys_of L) → AllByRecursion IsPrefix (keys_of T) → AllByRecursion IsPrefix (keys_of S) → entry_hop_at q T ≡ entry_hop_at q S
    → entry_hop_at q (fold with_entry T L) ≡ entry_hop_at q (fold with_entry S (own_entries f L))
hop_folded_own f q [] T S e l t s h = h
hop_folded_own f q (x ∷ L) T S e l t s h = by_test (same_family f x.0.family) refl (λ T' S' t' s' h'. hop_folded_own f q L T' S' e l.1 t' s' h')
  where
    t-more : AllByRecursion IsPrefix (keys_of (with_entry T x))
    t-more = all_placed IsPrefix T x.0 x.1 t l.0

    by_test : (b : Bool) → same_family f x.0.family ≡ b
        → ((T' S' : Entries) → AllByRecursion IsPrefix (keys_of T') → AllByRecursion IsPrefix (keys_of S') → entry_hop_at q T' ≡ entry_hop_at q S' → entry_hop_at q (fold with_entry T' L) ≡ entry_hop_at q (fold with_entry S' (own_entries f L)))
        → entry_hop_at q (fold with_entry (with_entry T x) L) ≡ entry_hop_at q (fold with_entry S (cond b (x ∷ own_entries f L) (own_entries f L)))
    by_test true n ih =
        ih (with_entry T x) (with_entry S x) t-more (all_placed IsPrefix S x.0 x.1 s l.0)
        (lookup-put prefix_key q T x.0 x.1 t l.0 ∙ (ap (cond (same_prefix q x.0) (Some x.1)) h ∙ sym (lookup-put prefix_key q S x.0 x.1 s l.0)))
    by_test false n ih =
        ih (with_entry T x) S t-more s
        (lookup-put prefix_key q T x.0 x.1 t l.0 ∙ (ap (λ b. cond b (Some x.1) (entry_hop_at q T)) (apart f q x.0 e n) ∙ h))

pub hop_own : (f : Family) (q : Prefix) (L : Entries) → q.family ≡ f → AllByRecursion IsPrefix (keys_of L) → entry_hop_at q (in_order L) ≡ entry_hop_at q (family_table f L)
hop_own f q L e a = hop_folded_own f q L [] [] e a tt tt refl

-- ---- IPv4's entries stand before IPv6's

pub parts : (L : Entries) → AllByRecursion IsPrefix (keys_of L) → in_order L ≡ family_table V4 L ++ family_table V6 L
parts L a =
    let left = in_order_placed L a in
    let right = placed_both (family_table V4 L) (family_table V6 L) (table_placed V4 L a) (table_placed V6 L a) (table_all_of V4 L) (table_all_of V6 L) in
    same_entries prefix_key (in_order L) (family_table V4 L ++ family_table V6 L) left.1 right.1 left.0 right.0 (λ q. by_family q q.family refl)
  where
    by_family : (q : Prefix) (g : Family) → q.family ≡ g → entry_hop_at q (in_order L) ≡ entry_hop_at q (family_table V4 L ++ family_table V6 L)
    by_family q V4 e = hop_own V4 q L e a ∙ sym (hop_low q (family_table V4 L) (family_table V6 L) e (table_all_of V6 L))
    by_family q V6 e = hop_own V6 q L e a ∙ sym (hop_high q (family_table V4 L) (family_table V6 L) e (table_all_of V4 L))

family_append : (f : Family) (A B : Entries) → of_family f (A ++ B) ≡ of_family f A ++ of_family f B
family_append f [] B = refl
family_append f (e ∷ A) B = by_test (same_family f e.0.family) (family_append f A B)
  where
    by_test : (b : Bool) → of_family f (A ++ B) ≡ of_family f A ++ of_family f B → cond b (entry e.0.bits e.1 ∷ of_family f (A ++ B)) (of_family f (A ++ B)) ≡ cond b (entry e.0.bits e.1 ∷ of_family f A) (of_family f A) ++ of_family f B
    by_test true ih = ap (λ (L : Table). entry e.0.bits e.1 ∷ L) ih
    by_test false ih = ih

family_none : (f g : Family) (L : Entries) → AllOf g (keys_of L) → same_family f g ≡ false → of_family f L ≡ []
family_none f g [] a n = refl
family_none f g (e ∷ L) a n = ap (λ b. cond b (entry e.0.bits e.1 ∷ of_family f L) (of_family f L)) (ap (same_family f) a.0 ∙ n) ∙ family_none f g L a.1 n

-- of two tables, the first of IPv4 and the second of IPv6, a family's entries are those of its own
pub family_low : (A B : Entries) → AllOf V6 (keys_of B) → of_family V4 (A ++ B) ≡ of_family V4 A
family_low A B b = family_append V4 A B ∙ (ap (λ (L : Table). of_family V4 A ++ L) (family_none V4 V6 B b refl) ∙ append-nil (of_family V4 A))

pub family_high : (A B : Entries) → AllOf V4 (keys_of A) → of_family V6 (A ++ B) ≡ of_family V6 B
family_high A B a = family_append V6 A B ∙ ap (λ (L : Table). L ++ of_family V6 B) (family_none V6 V4 A a refl)

pub family_of : (f : Family) (L : Entries) → AllByRecursion IsPrefix (keys_of L) → of_family f (in_order L) ≡ of_family f (family_table f L)
family_of V4 L a = ap (of_family V4) (parts L a) ∙ family_low (family_table V4 L) (family_table V6 L) (table_all_of V6 L)
family_of V6 L a = ap (of_family V6) (parts L a) ∙ family_high (family_table V4 L) (family_table V6 L) (table_all_of V4 L)
