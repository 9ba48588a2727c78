-- The verdict, put together.
use Rattle.std.proofs.Common.{◌≡◌, ℕ, List, [], ◌∷◌, ◌++◌, Bool, true, false, cond, Option, Some, None, length, map, nat_lt, refl, sym, ap, ◌∙◌, subst}
use Rattle.std.specs.Prelude.{option_map, ◌&&◌}
use Rattle.std.specs.Option.{option_or}
use Rattle.std.specs.List.{AllByRecursion, IsDistinct}
use Rattle.std.specs.Map.{keys_of}
use Rattle.table_model.specs.Address.{Prefix, IsPrefix, same_prefix}
use Rattle.table_model.specs.Width.{width}
use Rattle.table_model.specs.declared.family.Family.{Family}
use Rattle.table_model.specs.Table.{Table, root, half, cut}
use Rattle.table_model.specs.Entries.{Entries, in_order, of_family}
use Rattle.table_model.specs.Changes.{Change}
use Rattle.table_model.specs.Regions.{entry_at, SameEntries}
use Rattle.table_model.proofs.Same.{cut_nil}
use Rattle.table_model.proofs.Patch.{cut_cut}
use Rattle.table_model.proofs.Cut.{entry}
use Rattle.kept_model.specs.Between.{AreEntries}
use Rattle.kept_model.proofs.Held.{hop_in_order, in_order_placed}
use Rattle.kept_model.proofs.Patches.{family_hop}
use Rattle.cert_model.specs.Rows.{CertRow}
use Rattle.cert_model.specs.Verdict.{RowFits, twice}
use Rattle.cert_model.proofs.Verdicts.{once_is}
use Rattle.cert_check.specs.Runs.{RunsTell}
use Rattle.cert_check.proofs.Holding.{prefix_short}
use Rattle.fib_addr.specs.Views.{entry_as}
use Rattle.fib_addr.specs.declared.entry.Entry as code_entry
use Rattle.moves_model.specs.Nearest.{near_bound}
use Rattle.moves_model.specs.Demands.{has_no_entries, is_bare, none_below, old_at}
use Rattle.moves_model.specs.Verdict.{NoMoves, NotShortest, wrong_moves_row, too_many}
use Rattle.moves_model.proofs.Verdicts.{last_bound}
use Rattle.moves_check.specs.declared.rows.Against.{Against}
use Rattle.moves_check.specs.Stack.{IsAsked, EndsWithBound}
use Rattle.fib_delta.specs.Views.{InPlace}

-- ---- the rows, then the number of changes

pub rows_then : (R T : Entries) (f : Family) (rows : List CertRow) (cs : List Change) (bound : Option ℕ) (n : ℕ) (x : Option NoMoves) → EndsWithBound rows bound → AllByRecursion RowFits rows → wrong_moves_row R T f rows [] 1 ≡ None
    → ((b : ℕ) → bound ≡ Some b → x ≡ cond (nat_lt b n) (Some (NotShortest n b)) None) → n ≡ length cs → x ≡ option_or (wrong_moves_row R T f rows [] 1) (too_many R T f cs)
rows_then R T f rows cs None n x l a w e m = absurd l
rows_then R T f rows cs (Some b) n x l a w e m =
    let k : near_bound (width f) (of_family f R) (of_family f T) ≡ b = last_bound R T f l.1 rows l.0 b a w l.2 in
    e b refl ∙ (ap (λ (y : ℕ). cond (nat_lt b y) (Some (NotShortest y b)) None) m ∙ (ap (λ (y : ℕ). cond (nat_lt y (length cs)) (Some (NotShortest (length cs) y)) None) (sym k)
    ∙ sym (ap (λ y. option_or y (too_many R T f cs)) w)))

-- ---- old entries in order are asked as they are

some_entry : (L : Table) → has_no_entries L ≡ false → (q : List Bool) × (h : ℕ) × (entry_at q L ≡ Some h)
some_entry [] e = cc
some_entry (x ∷ L) e = (x.prefix, x.hop, first x.prefix x.hop L)
  where
    first : (p : List Bool) (g : ℕ) (L : Table) → entry_at p (entry p g ∷ L) ≡ Some g
    first [] g L = refl
    first (true ∷ p) g L = first p g (half true L)
    first (false ∷ p) g L = first p g (half false L)

empty_alike : (L M : Table) → SameEntries L M → has_no_entries L ≡ has_no_entries M
empty_alike [] [] s = refl
empty_alike [] (y ∷ M) s = let x = some_entry (y ∷ M) refl in absurd (not_both (entry_at x.0 []) x.1 (ap root (cut_nil x.0)) (s x.0 ∙ x.2))
  where
    not_both : (o : Option ℕ) (h : ℕ) → o ≡ None → o ≡ Some h → ⊥
    not_both o h e f = cc
empty_alike (y ∷ L) [] s = let x = some_entry (y ∷ L) refl in absurd (not_both (entry_at x.0 []) x.1 (ap root (cut_nil x.0)) (sym (s x.0) ∙ x.2))
  where
    not_both : (o : Option ℕ) (h : ℕ) → o ≡ None → o ≡ Some h → ⊥
    not_both o h e f = cc
empty_alike (y ∷ L) (z ∷ M) s = refl

bare_alike : (L M : Table) → SameEntries L M → is_bare L ≡ is_bare M
bare_alike L M s = ap (λ b. b && has_no_entries (half true L)) (empty_alike (half false L) (half false M) (λ q. s (false ∷ q))) ∙ ap (λ b. has_no_entries (half false M) && b) (empty_alike (half true L) (half true M) (λ q. s (true ∷ q)))

order_alike : (f : Family) (T : Entries) → AreEntries T → SameEntries (of_family f (in_order T)) (of_family f T)
order_alike f T a q = family_hop f q (in_order T) ∙ (hop_in_order (record { family = f; bits = q }) T a ∙ sym (family_hop f q T))

cut_alike : (p : List Bool) (L M : Table) → SameEntries L M → SameEntries (cut p L) (cut p M)
cut_alike p L M s q = ap root (sym (cut_cut p q L)) ∙ (s (p ++ q) ∙ ap root (cut_cut p q M))

pub prefixes_fit : (E : List code_entry.Entry) → AllByRecursion IsPrefix (keys_of (map entry_as E))
prefixes_fit [] = tt
prefixes_fit (e ∷ E) = (prefix_short e.prefix, prefixes_fit E)

pub tells_from : (a : Against) (R T : Entries) → RunsTell a.family R a.runs.now → map entry_as a.old.now ≡ in_order T → AreEntries T → IsAsked a R T
tells_from a R T r e t = record {
  runs = r;
  hops = λ p. ap (λ E. old_at E p) e ∙ order_alike p.family T t p.bits;
  below = λ p. ap (λ E. none_below E p) e ∙ bare_alike (cut p.bits (of_family p.family (in_order T))) (cut p.bits (of_family p.family T)) (cut_alike p.bits (of_family p.family (in_order T)) (of_family p.family T) (order_alike p.family T t));
}

pub order_placed : (E F : Entries) → E ≡ in_order F → AllByRecursion IsPrefix (keys_of F) → InPlace E
order_placed E F e a = subst (λ (L : Entries). InPlace L) (sym e) (in_order_placed F a)

none_left : (x y : Option NoMoves) → option_or x y ≡ None → (x ≡ None) × (y ≡ None)
none_left None y e = (refl, e)
none_left (Some n) y e = cc

no_prefix : {X : Type 0} (f : X → NoMoves) (o : Option X) → option_map f o ≡ None → o ≡ None
no_prefix f None e = refl
no_prefix f (Some x) e = cc

-- nothing was wrong before the rows
pub all_then : (A B C D W X : Option NoMoves) → option_or A B ≡ None → C ≡ None → D ≡ None → X ≡ W → X ≡ option_or A (option_or B (option_or C (option_or D W)))
all_then A B C D W X ab c d x =
    let n = none_left A B ab in
    x ∙ sym (ap (λ y. option_or y (option_or B (option_or C (option_or D W)))) n.0 ∙ (ap (λ y. option_or y (option_or C (option_or D W))) n.1 ∙ (ap (λ y. option_or y (option_or D W)) c ∙ ap (λ y. option_or y W) d)))

pub first_once : (f : Prefix → NoMoves) (T : Entries) (B : Option NoMoves) → option_or (option_map f (twice T)) B ≡ None → IsDistinct same_prefix (keys_of T)
first_once f T B e = once_is T (no_prefix f (twice T) (none_left (option_map f (twice T)) B e).0)

-- something wrong isn't nothing
pub some_wrong : (x : NoMoves) → Some x ≡ None → ⊥
some_wrong x e = cc
