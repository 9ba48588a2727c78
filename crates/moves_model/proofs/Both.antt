-- Lists of changes that are shortest in each family are shortest together.
use Rattle.std.proofs.Common.{◌≡◌, ◌≤◌, List, [], ◌++◌, Bool, Some, length, sym, ap, ◌∙◌, append-nil, length-append, arith}
use Rattle.std.specs.List.{AllByRecursion}
use Rattle.std.specs.Map.{keys_of}
use Rattle.table_model.specs.Width.{width}
use Rattle.table_model.specs.Address.{IsPrefix}
use Rattle.table_model.specs.declared.family.Family.{Family}
use Rattle.table_model.specs.declared.family.Family.TheVariants.{V4, V6}
use Rattle.table_model.specs.Table.{Table, Alike}
use Rattle.table_model.specs.Entries.{AlikeInBoth, Entries, in_order, of_family}
use Rattle.table_model.specs.Changes.{Change, after_changes}
use Rattle.table_model.proofs.Sums.{in_order_again}
use Rattle.table_model.specs.Sets.{answers}
use Rattle.kept_model.proofs.Held.{Placed}
use Rattle.moves_model.specs.Dist.{distance}
use Rattle.moves_model.specs.Shortest.{AreShortest}
use Rattle.moves_model.specs.Both.{AreShortestInBoth, both_distance, family_table}
use Rattle.moves_model.proofs.Parts.{family_high, family_low, family_of, parts, table_all_of, table_placed}
use Rattle.moves_model.proofs.Sides.{AreAt, MakesBeside, above, below, changes_beside}

-- ---- lists that are shortest in each family

-- IPv4's and IPv6's routes, tables and changes
module _ (R T : Entries) (r : AllByRecursion IsPrefix (keys_of R)) (t : AllByRecursion IsPrefix (keys_of T)) (xs ys : List Change) (x : AreAt V4 xs) (y : AreAt V6 ys) (low : AreShortest V4 (family_table V4 R) (family_table V4 T) xs) (high : AreShortest V6 (family_table V6 R) (family_table V6 T) ys) where
  abbrev A : Entries
  A = family_table V4 T

  abbrev B : Entries
  B = family_table V6 T

  a : Placed A
  a = table_placed V4 T t

  b : Placed B
  b = table_placed V6 T t

  made_low : MakesBeside V4 (λ L. L ++ B) xs A low.after
  made_low = changes_beside V4 (λ L. L ++ B) (below B b (table_all_of V6 T)) xs A low.after x a (table_all_of V4 T) (sym (ap (after_changes xs) (in_order_again A a.1)) ∙ low.makes)

  made_high : MakesBeside V6 (λ L. low.after ++ L) ys B high.after
  made_high = changes_beside V6 (λ L. low.after ++ L) (above low.after made_low.placed made_low.all_of) ys B high.after y b (table_all_of V6 T) (sym (ap (after_changes ys) (in_order_again B b.1)) ∙ high.makes)

  abbrev after_both : Entries
  after_both = low.after ++ high.after

  makes_both : after_changes (xs ++ ys) (in_order T) ≡ Some after_both
  makes_both = ap (after_changes (xs ++ ys)) (parts T t) ∙ (made_low.makes ys ∙ (ap (λ cs. after_changes cs (low.after ++ B)) (sym (append-nil ys)) ∙ made_high.makes []))

  alike_at : (f : Family) (q : List Bool) → length q ≡ width f → answers (of_family f (in_order R)) [] q ≡ answers (of_family f after_both) [] q
  alike_at V4 q l =
      ap (λ (L : Table). answers L [] q) (family_of V4 R r) ∙ (low.alike q l ∙ sym (ap (λ (L : Table). answers L [] q) (family_low low.after high.after made_high.all_of)))
  alike_at V6 q l =
      ap (λ (L : Table). answers L [] q) (family_of V6 R r) ∙ (high.alike q l ∙ sym (ap (λ (L : Table). answers L [] q) (family_high low.after high.after made_low.all_of)))

  alike_both : AlikeInBoth (in_order R) after_both
  alike_both q l = alike_at q.family q.bits l

  alike_in : (U : Entries) → AlikeInBoth (in_order R) U → (f : Family) → Alike (width f) (of_family f (family_table f R)) (of_family f U)
  alike_in U e f bits l = sym (ap (λ (L : Table). answers L [] bits) (family_of f R r)) ∙ e (record { family = f; bits = bits }) l

  fewest_both : (U : Entries) → AlikeInBoth (in_order R) U → length (xs ++ ys) ≤ both_distance (in_order T) U
  fewest_both U e =
      let one = low.fewest (of_family V4 U) (alike_in U e V4) in
      let two = high.fewest (of_family V6 U) (alike_in U e V6) in
      omega (
        arith,
        length-append xs ys,
        ap (λ (L : Table). distance L (of_family V4 U)) (family_of V4 T t),
        ap (λ (L : Table). distance L (of_family V6 U)) (family_of V6 T t),
        one,
        two,
      )

  pub shortest_in_both : AreShortestInBoth (in_order R) (in_order T) (xs ++ ys)
  shortest_in_both = record { after = after_both; makes = makes_both; alike = alike_both; fewest = fewest_both }
