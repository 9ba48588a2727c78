-- The first step of an event in the tables of both families, a repair or the way to the nearest table; and what both answer.
use Rattle.std.proofs.Common.{◌≡◌, [], ◌++◌, Bool, true, false, Option, Some, None, refl, sym, ap, subst, ◌∙◌}
use Rattle.std.specs.Map.{keys_of}
use Rattle.table_model.specs.Width.{width}
use Rattle.table_model.specs.Address.{Prefix, IsPrefix}
use Rattle.table_model.specs.declared.family.Family.{Family}
use Rattle.table_model.specs.declared.family.Family.TheVariants.{V4, V6}
use Rattle.table_model.specs.Table.{Table, Alike, lpm}
use Rattle.table_model.specs.Entries.{Entries, AlikeInBoth, of_family}
use Rattle.table_model.proofs.Sums.{in_order_again}
use Rattle.table_model.specs.Least.{aggregate}
use Rattle.table_model.specs.Both.{aggregate_in}
use Rattle.table_model.proofs.Both.{family_is}
use Rattle.table_model.proofs.Laws.{fresh_law}
use Rattle.kept_model.specs.Patched.{IsPair, after_repair}
use Rattle.kept_model.proofs.Families.{AllOf}
use Rattle.moves_model.specs.Rows.{near_in}
use Rattle.moves_model.specs.Moved.{after_move, with_nearest}
use Rattle.moves_model.proofs.Pairs.{pair_low, pair_high}
use Rattle.orig_tree.specs.Views.{Labels}
use Rattle.smalta_keep.specs.Answers.{IsAlike, IsAlikeFor}
use Rattle.smalta_keep.specs.Plans.{repaired_table}
use Rattle.smalta_keep.proofs.Near.{near_placed, near_family}
use Rattle.fib_engine.specs.Tables.{Route, only}
use Rattle.fib_engine.proofs.Holding.{Fine, both_repaired, both_repaired_high, fine_repaired, high_part, low_part, of_only}

-- ---- a family's table after the first step at this prefix, if there is one

abbrev pub moved_in : Bool → Family → Entries → Option Prefix → Entries → Entries
moved_in false f R at A = after_repair R at A
moved_in true f R None A = A
moved_in true f R (Some p) A = near_in f R A

pub moved_is : (fewest : Bool) (k : Labels) (at : Option Prefix) → repaired_table fewest k at ≡ moved_in fewest k.family k.routes at k.entries
moved_is false k at = refl
moved_is true k None = refl
moved_is true k (Some p) = refl

pub fine_moved : (fewest : Bool) (f : Family) (R T : Entries) (p : Prefix) → IsPrefix p → p.family ≡ f → Fine f T → Fine f (moved_in fewest f R (Some p) T)
fine_moved false f R T p x s t = fine_repaired f R T p x s t
fine_moved true f R T p x s t = record { order = near_placed f R T; of = near_family f R T }

pub fine_still : (fewest : Bool) (f : Family) (R T : Entries) → Fine f T → Fine f (moved_in fewest f R None T)
fine_still false f R T t = t
fine_still true f R T t = t

-- ---- that of both

pub both_still : (fewest : Bool) (E R S A B : Entries) → moved_in fewest V4 R None A ++ moved_in fewest V6 S None B ≡ after_move fewest E None (A ++ B)
both_still false E R S A B = refl
both_still true E R S A B = refl

module _ (E S A B : Entries) (p : Prefix) (x : IsPrefix p) (a : Fine V4 A) (b : Fine V6 B) where
  pair : IsPair A B
  pair = record { first = a.order; second = b.order; v4 = a.of; v6 = b.of }

  pub both_moved : (fewest : Bool) → p.family ≡ V4 → moved_in fewest V4 (only V4 E) (Some p) A ++ moved_in fewest V6 S None B ≡ after_move fewest E (Some p) (A ++ B)
  both_moved false s = both_repaired E A B p x a b s
  both_moved true s =
      let R = only V4 E in
      ap (λ (L : Entries). L ++ B) (sym (in_order_again (near_in V4 R A) (near_placed V4 R A).1))
      ∙ (sym (pair_low E R A B pair (sym (of_only V4 E))) ∙ ap (λ (g : Family). with_nearest g E (A ++ B)) (sym s))

  pub both_moved_high : (fewest : Bool) → p.family ≡ V6 → moved_in fewest V4 S None A ++ moved_in fewest V6 (only V6 E) (Some p) B ≡ after_move fewest E (Some p) (A ++ B)
  both_moved_high false s = both_repaired_high E A B p x a b s
  both_moved_high true s =
      let R = only V6 E in
      ap (λ (L : Entries). A ++ L) (sym (in_order_again (near_in V6 R B) (near_placed V6 R B).1))
      ∙ (sym (pair_high E R A B pair (sym (of_only V6 E))) ∙ ap (λ (g : Family). with_nearest g E (A ++ B)) (sym s))

-- ---- what a family's table answers

pub none_alike : (f : Family) (R T : Entries) → R ≡ T → Alike (width f) (of_family f R) (of_family f T)
none_alike f R T e = λ q l. ap (λ (L : Entries). lpm (of_family f L) q 0) e

-- a least table does
pub fresh_alike : (f : Family) (R T : Entries) → Alike (width f) (of_family f R) (of_family f (aggregate_in f R T))
fresh_alike f R T = λ q l.
    let A = aggregate (width f) (of_family f R) [] 0 (of_family f T) in
    (fresh_law (width f) (of_family f R) (of_family f T)).1.0 q l ∙ ap (λ (L : Table). lpm L q 0) (sym (family_is f A))

pub alike_for : (fewest : Bool) (route : Route) (k : Labels) → IsAlike k → IsAlikeFor fewest route k
alike_for false route k a = tt
alike_for true None k a = tt
alike_for true (Some r) k a = a

pub alike_of : (f : Family) (k : Labels) → k.family ≡ f → Alike (width f) (of_family f k.routes) (of_family f k.entries) → IsAlike k
alike_of f k s a = subst (λ (g : Family). Alike (width g) (of_family g k.routes) (of_family g k.entries)) (sym s) a

pub alike_in : (f : Family) (k : Labels) → k.family ≡ f → IsAlike k → Alike (width f) (of_family f k.routes) (of_family f k.entries)
alike_in f k s a = subst (λ (g : Family). Alike (width g) (of_family g k.routes) (of_family g k.entries)) s a

-- ---- what both answer

module _ (E A B R S : Entries) (a : AllOf V4 (keys_of A)) (b : AllOf V6 (keys_of B)) (r : R ≡ only V4 E) (s : S ≡ only V6 E) where
  pub both_alike : Alike (width V4) (of_family V4 R) (of_family V4 A) → Alike (width V6) (of_family V6 S) (of_family V6 B) → AlikeInBoth E (A ++ B)
  both_alike x y = λ q l. by q.family q.bits l
    where
      by : (f : Family) → Alike (width f) (of_family f E) (of_family f (A ++ B))
      by V4 = λ q l. ap (λ (L : Table). lpm L q 0) (sym (of_only V4 E) ∙ ap (of_family V4) (sym r)) ∙ (x q l ∙ ap (λ (L : Table). lpm L q 0) (sym (low_part A B b)))
      by V6 = λ q l. ap (λ (L : Table). lpm L q 0) (sym (of_only V6 E) ∙ ap (of_family V6) (sym s)) ∙ (y q l ∙ ap (λ (L : Table). lpm L q 0) (sym (high_part A B a)))

  pub low_alike : AlikeInBoth E (A ++ B) → Alike (width V4) (of_family V4 R) (of_family V4 A)
  low_alike h = λ q l. ap (λ (L : Table). lpm L q 0) (ap (of_family V4) r ∙ of_only V4 E) ∙ (h (record { family = V4; bits = q }) l ∙ ap (λ (L : Table). lpm L q 0) (low_part A B b))

  pub high_alike : AlikeInBoth E (A ++ B) → Alike (width V6) (of_family V6 S) (of_family V6 B)
  high_alike h = λ q l. ap (λ (L : Table). lpm L q 0) (ap (of_family V6) s ∙ of_only V6 E) ∙ (h (record { family = V6; bits = q }) l ∙ ap (λ (L : Table). lpm L q 0) (high_part A B a))
