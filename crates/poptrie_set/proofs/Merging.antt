-- A table that takes some slots from one table and the others from another.
use Rattle.std.proofs.Common.{◌≡◌, ℕ, zero, suc, List, Bool, true, false, cond, take, refl, sym, ap, ◌∙◌}
use Rattle.std.specs.Prelude.{◌&&◌, [], ◌∷◌}
use Rattle.table_model.specs.Address.{Address, Prefix, IsAddress, same_family}
use Rattle.table_model.specs.Bits.{begins}
use Rattle.table_model.specs.Width.{width}
use Rattle.table_model.specs.declared.family.Family.{Family}
use Rattle.table_model.specs.Entries.{Entries, match_in}
use Rattle.table_model.proofs.SamePrefix.{same_family_itself}
use Rattle.fib_addr.specs.Answers.{all_answers}
use Rattle.poptrie_set.specs.Prepares.{AgreeOutside, MergesSlots, meets_slot}
use Rattle.poptrie_set.proofs.Some_table.{table_for, table_answers}

-- what an address gets, by its bits
abbrev by_slot : Prefix → ℕ → Entries → Entries → List Bool → ℕ
by_slot p s L M a = cond (begins (take s p.bits) (take s a)) (all_answers p.family M a) (all_answers p.family L a)

-- its family is the prefix's
in_family : (p : Prefix) (E : Entries) (a : Address) → a.family ≡ p.family → match_in E a ≡ all_answers p.family E a.bits
in_family p E a e = ap (λ (f : Family). match_in E (record { family = f; bits = a.bits })) e

pub merged_table : (p : Prefix) (s : ℕ) (L M : Entries) → (N : Entries) × MergesSlots p s L M N
merged_table p s L M = (table_for p.family (by_slot p s L M), is)
  where
    is : (a : Address) → IsAddress a → a.family ≡ p.family → match_in (table_for p.family (by_slot p s L M)) a ≡ match_in (cond (meets_slot p s a) M L) a
    is a long e = in_family p (table_for p.family (by_slot p s L M)) a e ∙ (table_answers p.family (by_slot p s L M) a.bits (long ∙ ap width e) ∙ by (meets_slot p s a))
      where
        by : (b : Bool) → cond b (all_answers p.family M a.bits) (all_answers p.family L a.bits) ≡ match_in (cond b M L) a
        by true = sym (in_family p M a e)
        by false = sym (in_family p L a e)

-- ---- where both agree outside the prefix
begun : (s : ℕ) (p a : List Bool) → begins p a ≡ true → begins (take s p) (take s a) ≡ true
begun zero p a e = refl
begun (suc s) [] a e = refl
begun (suc s) (true ∷ p) [] e = cc
begun (suc s) (false ∷ p) [] e = cc
begun (suc s) (true ∷ p) (true ∷ a) e = begun s p a e
begun (suc s) (false ∷ p) (false ∷ a) e = begun s p a e
begun (suc s) (true ∷ p) (false ∷ a) e = cc
begun (suc s) (false ∷ p) (true ∷ a) e = cc

outside : (s : ℕ) (p : Prefix) (a : Address) → a.family ≡ p.family → meets_slot p s a ≡ false → (same_family p.family a.family && begins p.bits a.bits) ≡ false
outside s p a e n = ap (λ (f : Family). same_family p.family f && begins p.bits a.bits) e ∙ (ap (λ (b : Bool). b && begins p.bits a.bits) (same_family_itself p.family) ∙ by (begins p.bits a.bits) refl)
  where
    by : (b : Bool) → begins p.bits a.bits ≡ b → begins p.bits a.bits ≡ false
    by true q = let t = begun s p.bits a.bits q in cc
    by false q = q

pub merged_same : (p : Prefix) (s : ℕ) (L M : Entries) → AgreeOutside p L M → MergesSlots p s L M M
merged_same p s L M agree a long e = by (meets_slot p s a) refl
  where
    by : (b : Bool) → meets_slot p s a ≡ b → match_in M a ≡ match_in (cond b M L) a
    by true q = refl
    by false q = agree a long e (outside s p a e q)
