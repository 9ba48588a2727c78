-- What is asked about a prefix, of a family's table.
use Rattle.std.proofs.Common.{◌≡◌, ℕ, ◌≤◌, List, Bool, true, refl, sym, ap, ◌∙◌, subst, Option, Some, None}
use Rattle.std.specs.Prelude.{◌&&◌}
use Rattle.table_model.specs.Bits.{begins}
use Rattle.table_model.specs.Width.{width}
use Rattle.table_model.specs.Address.{same_family}
use Rattle.table_model.specs.declared.family.Family.{Family}
use Rattle.table_model.specs.declared.family.Family.TheVariants.{V4, V6}
use Rattle.table_model.specs.Table.{Table, lpm}
use Rattle.table_model.specs.Entries.{Entries, of_family, of_table, match_in}
use Rattle.table_model.specs.Uniform.{AllGet, TwoDiffer}
use Rattle.fib_addr.specs.declared.prefix.Prefix as code
use Rattle.orig_tree.specs.Views.{InPlace, FitsWidth}
use Rattle.orig_tree.specs.Uniform.{EachGets, TwoGet, IsUniform}
use Rattle.orig_tree.proofs.Places.{family_is}
use Rattle.orig_tree.proofs.Telling.{fits_in_place}

within_family : (f g : Family) (x : Bool) → (same_family f g && x) ≡ true → (f ≡ g) × (x ≡ true)
within_family V4 V4 x e = (refl, e)
within_family V6 V6 x e = (refl, e)
within_family V4 V6 x e = cc
within_family V6 V4 x e = cc

same_itself : (f : Family) (x : Bool) → (same_family f f && x) ≡ x
same_itself V4 x = refl
same_itself V6 x = refl

-- longest match in a family's table is that in its entries
match_at : (f : Family) (L : Table) (E : Entries) (a : List Bool) → of_table f L ≡ E → match_in E (record { family = f; bits = a }) ≡ lpm L a 0
match_at f L E a v = ap (λ (M : Table). lpm M a 0) (sym (ap (of_family f) v) ∙ family_is f L)

pub all_get : (f : Family) (p : List Bool) (L : Table) (E : Entries) (k : ℕ) → of_table f L ≡ E → EachGets (width f) L 0 p k → AllGet E (record { family = f; bits = p }) k
all_get f p L E k v u a i w =
    let s = within_family f a.family (begins p a.bits) w in
    ap (λ g. match_in E (record { family = g; bits = a.bits })) (sym s.0) ∙ (match_at f L E a.bits v ∙ u a.bits (i ∙ ap width (sym s.0)) s.1)

pub two_differ : (f : Family) (p : List Bool) (L : Table) (E : Entries) → of_table f L ≡ E → TwoGet (width f) L 0 p → TwoDiffer E (record { family = f; bits = p })
two_differ f p L E v (a, b, la, lb, pa, pb, d) = record {
  one = record { family = f; bits = a };
  other = record { family = f; bits = b };
  is_one = la;
  is_other = lb;
  one_within = same_itself f (begins p a) ∙ pa;
  other_within = same_itself f (begins p b) ∙ pb;
  differ = λ e. d (sym (match_at f L E a v) ∙ e ∙ match_at f L E b v);
}

-- the answers about a path, as those about a prefix
module _ (f g : Family) (p s : List Bool) (L : Table) (E : Entries) (r : Option ℕ) where
  pub asked_one : (k : ℕ) → g ≡ f → p ≡ s → of_table f L ≡ E → r ≡ Some k → InPlace (of_table f L) → (FitsWidth (width f) L → IsUniform (width f) L 0 p r) → AllGet E (record { family = g; bits = s }) k
  asked_one k e q v o i u =
      subst (λ (h : Family). AllGet E (record { family = h; bits = s }) k) (sym e)
      (subst (λ (t : List Bool). AllGet E (record { family = f; bits = t }) k) q
      (all_get f p L E k v (subst (λ (x : Option ℕ). IsUniform (width f) L 0 p x) o (u (fits_in_place f L i.0)))))

  pub asked_none : g ≡ f → p ≡ s → of_table f L ≡ E → r ≡ None → InPlace (of_table f L) → (FitsWidth (width f) L → IsUniform (width f) L 0 p r) → TwoDiffer E (record { family = g; bits = s })
  asked_none e q v o i u =
      subst (λ (h : Family). TwoDiffer E (record { family = h; bits = s })) (sym e)
      (subst (λ (t : List Bool). TwoDiffer E (record { family = f; bits = t })) q
      (two_differ f p L E v (subst (λ (x : Option ℕ). IsUniform (width f) L 0 p x) o (u (fits_in_place f L i.0)))))

pub short : (p : code.Prefix) (f : Family) → p.family ≡ f → p.len ≤ width f
short p f e = subst (λ (g : Family). p.len ≤ width g) e p.fits
