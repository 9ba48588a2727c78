-- Old entries in order: what stands strictly within a prefix comes right after it.
use Rattle.std.proofs.Common.{◌≡◌, ℕ, List, [], ◌∷◌, ◌++◌, Bool, true, false, cond, refl, ap, ◌∙◌}
use Rattle.std.specs.Prelude.{◌&&◌}
use Rattle.std.specs.List.{AllByRecursion}
use Rattle.std.specs.declared.cmp.Ordering.{Ordering}
use Rattle.std.specs.declared.cmp.Ordering.TheVariants.{Less, Greater}
use Rattle.table_model.specs.Bits.{begins}
use Rattle.table_model.specs.Order.{path_cmp}
use Rattle.table_model.specs.Table.{Table, Entry, half, cut}
use Rattle.table_model.proofs.Cut.{entry}
use Rattle.moves_model.specs.Demands.{has_no_entries, is_bare}

-- whether q is longer than p and begins with it
abbrev pub strictly : List Bool → List Bool → Bool
strictly [] [] = false
strictly [] (b ∷ q) = true
strictly (true ∷ p) (true ∷ q) = strictly p q
strictly (false ∷ p) (false ∷ q) = strictly p q
strictly (b ∷ p) q = false

no_order : (o : Ordering) → o ≡ Less → o ≡ Greater → ⊥
no_order o a b = cc

and_false : (b : Bool) → b && false ≡ false
and_false true = refl
and_false false = refl

-- it comes after p
pub strictly_after : (p q : List Bool) → strictly p q ≡ true → path_cmp p q ≡ Less
strictly_after [] [] e = cc
strictly_after [] (b ∷ q) e = refl
strictly_after (true ∷ p) (true ∷ q) e = strictly_after p q e
strictly_after (false ∷ p) (false ∷ q) e = strictly_after p q e
strictly_after (true ∷ p) (false ∷ q) e = cc
strictly_after (false ∷ p) (true ∷ q) e = cc
strictly_after (true ∷ p) [] e = cc
strictly_after (false ∷ p) [] e = cc

-- and so does all that is between
pub convex : (p q r : List Bool) → path_cmp p q ≡ Less → path_cmp q r ≡ Less → strictly p r ≡ true → strictly p q ≡ true
convex [] [] r a b s = cc
convex [] (c ∷ q) r a b s = refl
convex (true ∷ p) [] r a b s = cc
convex (false ∷ p) [] r a b s = cc
convex (true ∷ p) (true ∷ q) (true ∷ r) a b s = convex p q r a b s
convex (false ∷ p) (false ∷ q) (false ∷ r) a b s = convex p q r a b s
convex (true ∷ p) (true ∷ q) (false ∷ r) a b s = cc
convex (false ∷ p) (false ∷ q) (true ∷ r) a b s = cc
convex (true ∷ p) (true ∷ q) [] a b s = cc
convex (false ∷ p) (false ∷ q) [] a b s = cc
convex (true ∷ p) (false ∷ q) r a b s = cc
convex (false ∷ p) (true ∷ q) (false ∷ r) a b s = cc
convex (false ∷ p) (true ∷ q) (true ∷ r) a b s = cc
convex (false ∷ p) (true ∷ q) [] a b s = cc

-- what comes after p and begins with it is longer
pub after_begins : (p q : List Bool) → path_cmp p q ≡ Less → strictly p q ≡ begins p q
after_begins [] [] e = cc
after_begins [] (b ∷ q) e = refl
after_begins (true ∷ p) (true ∷ q) e = after_begins p q e
after_begins (false ∷ p) (false ∷ q) e = after_begins p q e
after_begins (true ∷ p) (false ∷ q) e = refl
after_begins (false ∷ p) (true ∷ q) e = refl
after_begins (true ∷ p) [] e = refl
after_begins (false ∷ p) [] e = refl

-- one entry more
pub bare_step : (p q : List Bool) (h : ℕ) (L : Table) → is_bare (cut p (entry q h ∷ L)) ≡ cond (strictly p q) false (is_bare (cut p L))
bare_step [] [] h L = refl
bare_step [] (true ∷ q) h L = and_false (has_no_entries (half false L))
bare_step [] (false ∷ q) h L = refl
bare_step (true ∷ p) (true ∷ q) h L = bare_step p q h (half true L)
bare_step (false ∷ p) (false ∷ q) h L = bare_step p q h (half false L)
bare_step (true ∷ p) (false ∷ q) h L = refl
bare_step (false ∷ p) (true ∷ q) h L = refl
bare_step (true ∷ p) [] h L = refl
bare_step (false ∷ p) [] h L = refl

pub bare_nil : (p : List Bool) → is_bare (cut p []) ≡ true
bare_nil [] = refl
bare_nil (true ∷ p) = bare_nil p
bare_nil (false ∷ p) = bare_nil p

-- entries that aren't strictly within count for nothing
pub bare_past : (p : List Bool) (A B : Table) → AllByRecursion (λ (e : Entry). strictly p e.prefix ≡ false) A → is_bare (cut p (A ++ B)) ≡ is_bare (cut p B)
bare_past p [] B a = refl
bare_past p (e ∷ A) B a = bare_step p e.prefix e.hop (A ++ B) ∙ (ap (λ b. cond b false (is_bare (cut p (A ++ B)))) a.0 ∙ bare_past p A B a.1)

pub bare_all : (p : List Bool) (A : Table) → AllByRecursion (λ (e : Entry). strictly p e.prefix ≡ false) A → is_bare (cut p A) ≡ true
bare_all p [] a = bare_nil p
bare_all p (e ∷ A) a = bare_step p e.prefix e.hop A ∙ (ap (λ b. cond b false (is_bare (cut p A))) a.0 ∙ bare_all p A a.1)

if_not : (b : Bool) → (b ≡ true → ⊥) → b ≡ false
if_not true f = absurd (f refl)
if_not false f = refl

not_both : (b : Bool) → b ≡ true → b ≡ false → ⊥
not_both b e f = cc

-- the first entry after p tells
later_out : (p : List Bool) (q : List Bool) (B : Table) → path_cmp p q ≡ Less → strictly p q ≡ false → AllByRecursion (λ (e : Entry). path_cmp q e.prefix ≡ Less) B → AllByRecursion (λ (e : Entry). strictly p e.prefix ≡ false) B
later_out p q [] l s a = tt
later_out p q (e ∷ B) l s a = (if_not (strictly p e.prefix) (λ t. not_both (strictly p q) (convex p q e.prefix l a.0 t) s), later_out p q B l s a.1)

pub first_tells : (p q : List Bool) (h : ℕ) (B : Table) → path_cmp p q ≡ Less → AllByRecursion (λ (e : Entry). path_cmp q e.prefix ≡ Less) B → is_bare (cut p (entry q h ∷ B)) ≡ cond (begins p q) false true
first_tells p q h B l a = bare_step p q h B ∙ (by_test (strictly p q) refl ∙ ap (λ b. cond b false true) (after_begins p q l))
  where
    by_test : (t : Bool) → strictly p q ≡ t → cond t false (is_bare (cut p B)) ≡ cond t false true
    by_test true e = refl
    by_test false e = bare_all p B (later_out p q B l e a)
