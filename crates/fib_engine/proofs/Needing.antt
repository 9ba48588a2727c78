-- What tries of both tables' routes need.
use Rattle.std.proofs.Common.{◌≡◌, ◌≤◌, ℕ, Some, None, cond, refl, sym, ap, subst, ◌∙◌}
use Rattle.table_model.specs.Address.{same_family}
use Rattle.table_model.specs.declared.family.Family.{Family}
use Rattle.table_model.specs.declared.family.Family.TheVariants.{V4, V6}
use Rattle.table_model.specs.Entries.{Entries}
use Rattle.kept_model.specs.Patched.{with_route}
use Rattle.kept_model.proofs.Outside.{routes_outside}
use Rattle.fib_addr.specs.Views.{prefix_as}
use Rattle.fib_addr.specs.declared.prefix.Prefix as code_prefix
use Rattle.fib_addr.specs.declared.entry.Hop as code_hop
use Rattle.fib_delta.proofs.Held.{is_prefix}
use Rattle.orig_tree.specs.Views.{InPlace}
use Rattle.smalta_keep.specs.Views.{with_planned}
use Rattle.poptrie_build.specs.declared.counts.Needs.{Needs}
use Rattle.route_tries.specs.Sizes.{Sizes, Shortage, AreFew, first_short, shortage, need_of, needs_of, needs_of_both, told_need, told_needs}
use Rattle.route_tries.specs.Parts.{AreAlikeOutside, IsNeedAfter, need_at}
use Rattle.route_tries.specs.declared.needs.FamilyNeeds.{FamilyNeeds}
use Rattle.route_tries.proofs.Same.{same_need}
use Rattle.route_tries.proofs.Short.{few_told, fit_few, told_short}
use Rattle.fib_engine.specs.Held.{AreKeptNeeds}
use Rattle.fib_engine.specs.Tables.{Both, Route, ArePut, IsReplaced, labels_of, needs_in, needs_put, only, route_in}
use Rattle.fib_engine.proofs.Holding.{of_only}

-- each family's routes need what the table of both needs there
pub needs_only : (s : ℕ) (E : Entries) → needs_of_both s (only V4 E) (only V6 E) ≡ needs_of s E
needs_only s E =
    ap (λ (n : Needs). let r : FamilyNeeds = record { v4 = n; v6 = need_of V6 s (only V6 E) } in r) (same_need V4 s (only V4 E) E (of_only V4 E))
    ∙ ap (λ (n : Needs). let r : FamilyNeeds = record { v4 = need_of V4 s E; v6 = n } in r) (same_need V6 s (only V6 E) E (of_only V6 E))

-- the same where the routes are known
pub needs_known : (s : ℕ) (L M E : Entries) → L ≡ only V4 E → M ≡ only V6 E → needs_of_both s L M ≡ needs_of s E
needs_known s L M E l m = ap (λ (T : Entries). needs_of_both s T M) l ∙ (ap (λ (T : Entries). needs_of_both s (only V4 E) T) m ∙ needs_only s E)

-- the routes with one put
pub put_needs : (s : ℕ) (route : Route) (old new : Both) → ArePut route old new → needs_in s new ≡ needs_put s route old
put_needs s route old new put = ap (λ (T : Entries). needs_of_both s T new.v6.routes) put.v4 ∙ ap (λ (T : Entries). needs_of_both s (with_planned (route_in V4 route) old.v4.routes) T) put.v6

-- ---- one route

-- the need of one family after a route of it
one_after : (f : Family) (s : ℕ) (p : code_prefix.Prefix) (h : ℕ) (L M : Entries) (whole before after moved : Needs) → p.family ≡ f → InPlace L → M ≡ with_route (prefix_as p) h L → whole ≡ need_of f s L → before ≡ told_need (need_at s L (prefix_as p)) → after ≡ told_need (need_at s M (prefix_as p)) → IsNeedAfter whole before after moved → moved ≡ told_need (need_of f s M)
one_after f s p h L M whole before after moved e placed m w b a r =
    let q = prefix_as p in
    let out = subst (λ (T : Entries). AreAlikeOutside q L T) (sym m) (λ a o. sym (routes_outside q h L a (is_prefix p) placed.0 o)) in
    r s L M q out (w ∙ ap (λ (g : Family). need_of g s L) (sym e)) b a ∙ ap (λ (g : Family). told_need (need_of g s M)) e

routed : (p : code_prefix.Prefix) (h : code_hop.Hop) (g f : Family) (R : Entries) → p.family ≡ g → with_planned (route_in f (Some (p, h))) R ≡ with_planned (cond (same_family g f) (Some (p, h)) None) R
routed p h g f R e = ap (λ (k : Family). with_planned (cond (same_family k f) (Some (p, h)) None) R) e

module _ (s : ℕ) (p : code_prefix.Prefix) (h : code_hop.Hop) (n r : FamilyNeeds) (before after : Needs) (old new : Both) (few : AreFew n) (is : n ≡ needs_in s old) (put : ArePut (Some (p, h)) old new) (low : InPlace old.v4.routes) (high : InPlace old.v6.routes) where
  abbrev Replaced : Family → Type 0
  Replaced g = before ≡ told_need (need_at s (labels_of g old).routes (prefix_as p)) → after ≡ told_need (need_at s (labels_of g new).routes (prefix_as p)) → IsReplaced g n before after r → r ≡ told_needs (needs_in s new)

  low_need : told_need n.v4 ≡ n.v4
  low_need = ap (λ (m : FamilyNeeds). m.v4) (few_told n few)

  high_need : told_need n.v6 ≡ n.v6
  high_need = ap (λ (m : FamilyNeeds). m.v6) (few_told n few)

  replaced_low : p.family ≡ V4 → Replaced V4
  replaced_low e b a x =
      let four = one_after V4 s p h.0 old.v4.routes new.v4.routes n.v4 before after r.v4 e low (put.v4 ∙ routed p h V4 V4 old.v4.routes e) (ap (λ (m : FamilyNeeds). m.v4) is) b a x.0 in
      let stays : new.v6.routes ≡ old.v6.routes = put.v6 ∙ routed p h V4 V6 old.v6.routes e in
      let six : r.v6 ≡ told_need (need_of V6 s new.v6.routes) = x.1 ∙ (sym high_need ∙ (ap (λ (m : FamilyNeeds). told_need m.v6) is ∙ ap (λ (T : Entries). told_need (need_of V6 s T)) (sym stays))) in
      ap (λ (m : Needs). let y : FamilyNeeds = record { v4 = m; v6 = r.v6 } in y) four ∙ ap (λ (m : Needs). let y : FamilyNeeds = record { v4 = told_need (need_of V4 s new.v4.routes); v6 = m } in y) six

  replaced_high : p.family ≡ V6 → Replaced V6
  replaced_high e b a x =
      let six = one_after V6 s p h.0 old.v6.routes new.v6.routes n.v6 before after r.v6 e high (put.v6 ∙ routed p h V6 V6 old.v6.routes e) (ap (λ (m : FamilyNeeds). m.v6) is) b a x.0 in
      let stays : new.v4.routes ≡ old.v4.routes = put.v4 ∙ routed p h V6 V4 old.v4.routes e in
      let four : r.v4 ≡ told_need (need_of V4 s new.v4.routes) = x.1 ∙ (sym low_need ∙ (ap (λ (m : FamilyNeeds). told_need m.v4) is ∙ ap (λ (T : Entries). told_need (need_of V4 s T)) (sym stays))) in
      ap (λ (m : Needs). let y : FamilyNeeds = record { v4 = m; v6 = r.v6 } in y) four ∙ ap (λ (m : Needs). let y : FamilyNeeds = record { v4 = told_need (need_of V4 s new.v4.routes); v6 = m } in y) six

  pub replaced : Replaced p.family
  replaced = by p.family refl
    where
      by : (g : Family) → p.family ≡ g → Replaced g
      by V4 e = replaced_low e
      by V6 e = replaced_high e

-- ---- counted needs

-- counted and found to fit, they are the needs themselves
module _ (z : Sizes) (few_nodes : z.nodes ≤ 24) (few_leaves : z.leaves ≤ 26) (E : Entries) (r : FamilyNeeds) (is : r ≡ told_needs (needs_of z.direct E)) where
  told_is : first_short z r ≡ shortage z E
  told_is = ap (first_short z) is ∙ told_short z few_nodes few_leaves (needs_of z.direct E)

  pub counted : first_short z r ≡ None → AreKeptNeeds z E r
  counted e =
      let fit = sym told_is ∙ e in
      record { needs = is ∙ few_told (needs_of z.direct E) (fit_few z few_nodes few_leaves (needs_of z.direct E) fit); fit = fit }

  pub counted_short : (t : Shortage) → first_short z r ≡ Some t → shortage z E ≡ Some t
  counted_short t e = sym told_is ∙ e

-- a plan's needs, counted and found to fit
module _ (z : Sizes) (few_nodes : z.nodes ≤ 24) (few_leaves : z.leaves ≤ 26) (r n : FamilyNeeds) (is : r ≡ told_needs n) where
  pub fits_put : first_short z r ≡ None → first_short z n ≡ None
  fits_put e = sym (ap (first_short z) is ∙ told_short z few_nodes few_leaves n) ∙ e

  pub exact_put : first_short z r ≡ None → r ≡ n
  exact_put e = is ∙ few_told n (fit_few z few_nodes few_leaves n (fits_put e))

  pub short_put : (t : Shortage) → first_short z r ≡ Some t → first_short z n ≡ Some t
  short_put t e = sym (ap (first_short z) is ∙ told_short z few_nodes few_leaves n) ∙ e
