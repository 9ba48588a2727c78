-- A list of offers by path source in their order, put into a map.
use Rattle.std.proofs.Common.{◌≡◌, [], ◌∷◌, Bool, true, false, cond, Option, Some, None, sym, ap, refl, subst, ◌∙◌}
use Rattle.std.specs.List.{AllByRecursion}
use Rattle.std.specs.List.Sorted.{IsStrictlySortedBy}
use Rattle.std.specs.Map.{keys_of}
use Rattle.std.specs.Option.{option_or}
use Rattle.std.specs.Ordering.{is_eq}
use Rattle.std.specs.declared.cmp.Ordering.TheVariants.{Less, Equal}
use Rattle.fib_prefix.specs.Order.{code_via_cmp}
use Rattle.fib_prefix.specs.declared.event.Via.{Via}
use Rattle.adj_rib_in.specs.declared.keys.PathAttrs.{PathAttrs}
use Rattle.adj_rib_in.specs.Ways.{Ways, way_attrs}
use Rattle.adj_rib_in.proofs.Orders.{is_equal, via_total}
use Rattle.adj_rib_in.proofs.Views.{flips}

-- what a map and the rest of a list have is what the list has
abbrev pub Told : Ways → Ways → Ways → Type 0
Told list rest now = (v : Via) → option_or (way_attrs rest v) (way_attrs now v) ≡ way_attrs list v

pub none_told : (list now : Ways) → now ≡ [] → Told list list now
none_told list now e v = ap (λ ws. option_or (way_attrs list v) (way_attrs ws v)) e ∙ or_none (way_attrs list v)
  where
    or_none : (o : Option PathAttrs) → option_or o None ≡ o
    or_none None = refl
    or_none (Some o) = refl

-- a path source isn't among those that come after it
not_later : (v u : Via) (rest : Ways) → code_via_cmp v u ≡ Equal → AllByRecursion (λ r. code_via_cmp u r ≡ Less) (keys_of rest) → way_attrs rest v ≡ None
not_later v u [] e a = refl
not_later v u (w ∷ rest) e a = ap (λ b. cond b (Some w.1) (way_attrs rest v)) (ap is_eq (via_total.congr v u w.0 e ∙ a.0)) ∙ not_later v u rest e a.1

pub one_told : (list it rest now more : Ways) (e : Via × PathAttrs) → it ≡ e ∷ rest → IsStrictlySortedBy code_via_cmp (keys_of it) → ((v : Via) → way_attrs more v ≡ cond (is_eq (code_via_cmp e.0 v)) (Some e.1) (way_attrs now v)) → Told list it now → Told list rest more
unfolding IsStrictlySortedBy
one_told list it rest now more e i s put told v = by_test (is_eq (code_via_cmp v e.0)) refl ∙ (ap (λ ws. option_or (way_attrs ws v) (way_attrs now v)) (sym i) ∙ told v)
  where
    sorted : IsStrictlySortedBy code_via_cmp (keys_of (e ∷ rest))
    sorted = subst (λ ws. IsStrictlySortedBy code_via_cmp (keys_of ws)) i s

    by_test : (b : Bool) → is_eq (code_via_cmp v e.0) ≡ b → option_or (way_attrs rest v) (way_attrs more v) ≡ option_or (cond b (Some e.1) (way_attrs rest v)) (way_attrs now v)
    by_test true t = ap (λ o. option_or o (way_attrs more v)) (not_later v e.0 rest (is_equal _ t) sorted.0) ∙ (put v ∙ ap (λ b. cond b (Some e.1) (way_attrs now v)) (flips via_total e.0 v ∙ t))
    by_test false t = ap (option_or (way_attrs rest v)) (put v ∙ ap (λ b. cond b (Some e.1) (way_attrs now v)) (flips via_total e.0 v ∙ t))

pub rest_sorted : (it rest : Ways) (e : Via × PathAttrs) → it ≡ e ∷ rest → IsStrictlySortedBy code_via_cmp (keys_of it) → IsStrictlySortedBy code_via_cmp (keys_of rest)
unfolding IsStrictlySortedBy
rest_sorted it rest e i s = (subst (λ ws. IsStrictlySortedBy code_via_cmp (keys_of ws)) i s).1

pub all_told : (list it now : Ways) → it ≡ [] → Told list it now → (v : Via) → way_attrs now v ≡ way_attrs list v
all_told list it now i told v = ap (λ ws. option_or (way_attrs ws v) (way_attrs now v)) (sym i) ∙ told v
