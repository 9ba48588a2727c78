-- The changes of a repair.
use Rattle.std.proofs.Common.{◌≡◌, ◌≢◌, ◌≤◌, List, [], ◌∷◌, Bool, true, false, length, refl, sym, ap, ◌∙◌}
use Rattle.std.specs.Prelude.{◌&&◌}
use Rattle.std.specs.List.{AllByRecursion, IsDistinct}
use Rattle.std.specs.List.Sorted.{IsStrictlySortedBy}
use Rattle.std.specs.Map.{keys_of}
use Rattle.table_model.specs.Bits.{begins}
use Rattle.table_model.specs.Width.{width}
use Rattle.table_model.specs.Address.{Prefix, IsPrefix, same_family, same_prefix}
use Rattle.table_model.specs.Order.{prefix_cmp}
use Rattle.table_model.specs.declared.family.Family.{Family}
use Rattle.table_model.specs.declared.family.Family.TheVariants.{V4, V6}
use Rattle.table_model.proofs.SamePrefix.{same_prefix_is}
use Rattle.table_model.specs.Table.{Table, Distinct, IsTable, Entry}
use Rattle.table_model.specs.Entries.{Entries, of_family, of_table}
use Rattle.table_model.specs.Regions.{IsWithin, above}
use Rattle.table_model.specs.Sets.{agg, answers}
use Rattle.table_model.proofs.Laws.{aggregate_table}
use Rattle.table_model.proofs.Region.{within_lift}
use Rattle.std.proofs.Common.{◌-◌}
use Rattle.table_model.specs.Table.{cut}
use Rattle.table_model.specs.Halves.{is_within}
use Rattle.kept_model.specs.Between.{AreEntries, between}
use Rattle.kept_model.proofs.Alike.{part_changes, part_changes_back}
use Rattle.kept_model.specs.Patched.{entries_within, region_aggregate, patch_of}

not_true : (b : Bool) → (b ≡ true → ⊥) → b ≡ false
not_true true h = absurd (h refl)
not_true false h = refl

apart_keys : (f : Family) (q : List Bool) (L : Table) → AllByRecursion (λ (e : Entry). q ≢ e.prefix) L → AllByRecursion (λ r. same_prefix (record { family = f; bits = q }) r ≡ false) (keys_of (of_table f L))
apart_keys f q [] a = tt
apart_keys f q (e ∷ L) a =
    (not_true _ (λ s. a.0 (ap (λ (p : Prefix). p.bits) (same_prefix_is (record { family = f; bits = q }) (record { family = f; bits = e.prefix }) s))), apart_keys f q L a.1)

distinct_keys : (f : Family) (L : Table) → Distinct L → IsDistinct same_prefix (keys_of (of_table f L))
unfolding IsDistinct
distinct_keys f [] d = tt
distinct_keys f (e ∷ L) d = (apart_keys f e.prefix L d.0, distinct_keys f L d.1)

short_keys : (f : Family) (L : Table) → AllByRecursion (λ (e : Entry). length e.prefix ≤ width f) L → AllByRecursion IsPrefix (keys_of (of_table f L))
short_keys f [] a = tt
short_keys f (e ∷ L) a = (a.0, short_keys f L a.1)

pub table_entries : (f : Family) (L : Table) → IsTable (width f) L → AreEntries (of_table f L)
table_entries f L h = (short_keys f L h.1, distinct_keys f L h.0)

one_family : (f : Family) → same_family f f ≡ true
one_family V4 = refl
one_family V6 = refl

within_keys : (p : Prefix) (L : Table) → IsWithin p.bits L → AllByRecursion (λ q. is_within q p ≡ true) (keys_of (of_table p.family L))
within_keys p [] a = tt
within_keys p (e ∷ L) a = (ap (λ b. b && begins p.bits e.prefix) (one_family p.family) ∙ a.0, within_keys p L a.1)

pub mended_entries : (R T : Entries) (p : Prefix) → IsPrefix p → AreEntries (region_aggregate R p T)
mended_entries R T p x = table_entries p.family _ (aggregate_table (width p.family) (of_family p.family R) p.bits (above p.bits (of_family p.family T) 0) (of_family p.family T) x)

pub mended_within : (R T : Entries) (p : Prefix) → AllByRecursion (λ q. is_within q p ≡ true) (keys_of (region_aggregate R p T))
mended_within R T p =
    within_keys p _ (within_lift p.bits (agg (width p.family - length p.bits) (answers (of_family p.family R) p.bits) (cut p.bits (of_family p.family T)) (above p.bits (of_family p.family T) 0)))

pub there : (R T : Entries) (p : Prefix) → IsPrefix p → AreEntries T → IsStrictlySortedBy prefix_cmp (keys_of T) → between T (patch_of R p T) ≡ between (entries_within p T) (region_aggregate R p T)
unfolding patch_of
there R T p x a s = sym (part_changes (λ q. is_within q p) T (region_aggregate R p T) (a.0, s) (mended_entries R T p x) (mended_within R T p))

pub back : (R T : Entries) (p : Prefix) → IsPrefix p → AreEntries T → IsStrictlySortedBy prefix_cmp (keys_of T) → between (patch_of R p T) T ≡ between (region_aggregate R p T) (entries_within p T)
unfolding patch_of
back R T p x a s = sym (part_changes_back (λ q. is_within q p) T (region_aggregate R p T) (a.0, s) (mended_entries R T p x) (mended_within R T p))
