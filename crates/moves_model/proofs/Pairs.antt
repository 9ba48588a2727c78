-- Of tables of both families the nearest of one takes the place of that family's table alone.
use Rattle.std.proofs.Common.{◌≡◌, [], ◌∷◌, ◌++◌, Bool, true, false, cond, refl, sym, ap, ◌∙◌, append-nil}
use Rattle.std.specs.Map.{keys_of}
use Rattle.table_model.specs.Width.{width}
use Rattle.table_model.specs.Address.{Prefix, same_family}
use Rattle.table_model.specs.declared.family.Family.{Family}
use Rattle.table_model.specs.declared.family.Family.TheVariants.{V4, V6}
use Rattle.table_model.specs.Table.{Table}
use Rattle.table_model.specs.Entries.{Entries, in_order, of_family, of_table}
use Rattle.table_model.proofs.Cut.{entry}
use Rattle.route_model.proofs.Keyed.{same_entries}
use Rattle.route_model.proofs.Places.{prefix_key}
use Rattle.kept_model.specs.Between.{entry_hop_at}
use Rattle.kept_model.proofs.Held.{Placed, all_folded, hop_in_order, in_order_placed}
use Rattle.kept_model.specs.Patched.{IsPair}
use Rattle.kept_model.proofs.Families.{AllOf, hop_low, hop_high, placed_both, table_of}
use Rattle.moves_model.specs.Nearest.{nearest}
use Rattle.moves_model.specs.Rows.{near_in}
use Rattle.moves_model.specs.Moved.{with_nearest}
use Rattle.moves_model.proofs.Nearest.{near_entries, nearest_hop, nearest_placed}

family_append : (f : Family) (A B : Entries) → of_family f (A ++ B) ≡ of_family f A ++ of_family f B
family_append f [] B = refl
family_append f (e ∷ A) B = by_test (same_family f e.0.family) (family_append f A B)
  where
    by_test : (b : Bool) → of_family f (A ++ B) ≡ of_family f A ++ of_family f B → cond b (entry e.0.bits e.1 ∷ of_family f (A ++ B)) (of_family f (A ++ B)) ≡ cond b (entry e.0.bits e.1 ∷ of_family f A) (of_family f A) ++ of_family f B
    by_test true ih = ap (λ (L : Table). entry e.0.bits e.1 ∷ L) ih
    by_test false ih = ih

family_none : (f g : Family) (L : Entries) → AllOf g (keys_of L) → same_family f g ≡ false → of_family f L ≡ []
family_none f g [] a n = refl
family_none f g (e ∷ L) a n = ap (λ b. cond b (entry e.0.bits e.1 ∷ of_family f L) (of_family f L)) (ap (same_family f) a.0 ∙ n) ∙ family_none f g L a.1 n

near_same : (f : Family) (R S T U : Entries) → of_family f R ≡ of_family f S → of_family f T ≡ of_family f U → near_in f R T ≡ near_in f S U
near_same f R S T U r t = ap (λ (L : Table). of_table f (nearest (width f) L (of_family f T))) r ∙ ap (λ (L : Table). of_table f (nearest (width f) (of_family f S) L)) t

near_placed : (f : Family) (R T : Entries) → Placed (in_order (near_in f R T))
near_placed f R T = in_order_placed (near_in f R T) (near_entries f R T).0

near_of : (f : Family) (R T : Entries) → AllOf f (keys_of (in_order (near_in f R T)))
near_of f R T = all_folded (λ p. p.family ≡ f) (near_in f R T) [] (table_of f (nearest (width f) (of_family f R) (of_family f T))) tt

module _ (R S A B : Entries) (pair : IsPair A B) where
  whole : Placed (A ++ B)
  whole = placed_both A B pair.first pair.second pair.v4 pair.v6

  pub pair_low : of_family V4 R ≡ of_family V4 S → with_nearest V4 R (A ++ B) ≡ in_order (near_in V4 S A) ++ B
  pair_low r =
      let N = in_order (near_in V4 S A) in
      let left = nearest_placed V4 R (A ++ B) whole in
      let right = placed_both N B (near_placed V4 S A) pair.second (near_of V4 S A) pair.v6 in
      same_entries prefix_key (with_nearest V4 R (A ++ B)) (N ++ B) left.1 right.1 left.0 right.0 (λ q. nearest_hop V4 R (A ++ B) whole q ∙ by_family q q.family refl)
    where
      same : of_family V4 (A ++ B) ≡ of_family V4 A
      same = family_append V4 A B ∙ (ap (λ (L : Table). of_family V4 A ++ L) (family_none V4 V6 B pair.v6 refl) ∙ append-nil (of_family V4 A))

      by_family : (q : Prefix) (g : Family) → q.family ≡ g → cond (same_family V4 q.family) (entry_hop_at q (near_in V4 R (A ++ B))) (entry_hop_at q (A ++ B)) ≡ entry_hop_at q (in_order (near_in V4 S A) ++ B)
      by_family q V4 f =
          ap (λ (g : Family). cond (same_family V4 g) (entry_hop_at q (near_in V4 R (A ++ B))) (entry_hop_at q (A ++ B))) f
          ∙ (ap (entry_hop_at q) (near_same V4 R S (A ++ B) A r same) ∙ (sym (hop_in_order q (near_in V4 S A) (near_entries V4 S A)) ∙ sym (hop_low q (in_order (near_in V4 S A)) B f pair.v6)))
      by_family q V6 f =
          ap (λ (g : Family). cond (same_family V4 g) (entry_hop_at q (near_in V4 R (A ++ B))) (entry_hop_at q (A ++ B))) f
          ∙ (hop_high q A B f pair.v4 ∙ sym (hop_high q (in_order (near_in V4 S A)) B f (near_of V4 S A)))

  pub pair_high : of_family V6 R ≡ of_family V6 S → with_nearest V6 R (A ++ B) ≡ A ++ in_order (near_in V6 S B)
  pair_high r =
      let N = in_order (near_in V6 S B) in
      let left = nearest_placed V6 R (A ++ B) whole in
      let right = placed_both A N pair.first (near_placed V6 S B) pair.v4 (near_of V6 S B) in
      same_entries prefix_key (with_nearest V6 R (A ++ B)) (A ++ N) left.1 right.1 left.0 right.0 (λ q. nearest_hop V6 R (A ++ B) whole q ∙ by_family q q.family refl)
    where
      same : of_family V6 (A ++ B) ≡ of_family V6 B
      same = family_append V6 A B ∙ ap (λ (L : Table). L ++ of_family V6 B) (family_none V6 V4 A pair.v4 refl)

      by_family : (q : Prefix) (g : Family) → q.family ≡ g → cond (same_family V6 q.family) (entry_hop_at q (near_in V6 R (A ++ B))) (entry_hop_at q (A ++ B)) ≡ entry_hop_at q (A ++ in_order (near_in V6 S B))
      by_family q V6 f =
          ap (λ (g : Family). cond (same_family V6 g) (entry_hop_at q (near_in V6 R (A ++ B))) (entry_hop_at q (A ++ B))) f
          ∙ (ap (entry_hop_at q) (near_same V6 R S (A ++ B) B r same) ∙ (sym (hop_in_order q (near_in V6 S B) (near_entries V6 S B)) ∙ sym (hop_high q A (in_order (near_in V6 S B)) f pair.v4)))
      by_family q V4 f =
          ap (λ (g : Family). cond (same_family V6 g) (entry_hop_at q (near_in V6 R (A ++ B))) (entry_hop_at q (A ++ B))) f
          ∙ (hop_low q A B f pair.v6 ∙ sym (hop_low q A (in_order (near_in V6 S B)) f (near_of V6 S B)))
