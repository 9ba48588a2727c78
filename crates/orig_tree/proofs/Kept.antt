-- One level of the recursions that keep covers, and of the one that reads them.
use Rattle.std.proofs.Common.{◌≡◌, ◌≢◌, ℕ, zero, suc, ◌-◌, ◌≤◌, List, [], ◌∷◌, length, Bool, true, false, ◌&&◌, not, cond, nat_eq, refl, sym, ap, ◌∙◌, subst, arith, Option, Some, None}
use Rattle.std.specs.Int.{bit_at}
use Rattle.std.specs.Option.{unwrap_or}
use Rattle.std.proofs.lemmas.Bool.{eqb-true, eqb-false}
use Rattle.table_model.specs.Bits.{bits_of}
use Rattle.table_model.specs.Table.{Table, lpm, inherit}
use Rattle.table_model.specs.Regions.{join}
use Rattle.table_model.proofs.Join.{lpm_join_low, lpm_join_high}
use Rattle.orig_tree.specs.Views.{FitsWidth}
use Rattle.orig_tree.specs.Walk.{Walks, walks_of, rows_of, edited, labelled}
use Rattle.orig_tree.specs.Cover.{ShowsHop, Allows, Within, SomeGets, ReachedBy, IsCover, only_by, only_of}
use Rattle.orig_tree.specs.Slots.{AreCovers, Retold}
use Rattle.orig_tree.specs.Uniform.{EachGets, TwoGet, IsUniform}
use Rattle.orig_tree.specs.Packed.{cover_in}
use Rattle.orig_tree.specs.declared.cover.Cover.{Cover}
use Rattle.orig_tree.specs.declared.cover.Slot.{Slot}
use Rattle.orig_tree.specs.declared.cover.Hops.{Hops}
use Rattle.orig_tree.specs.declared.cover.Hops.TheVariants.{Zero, One, Many}
use Rattle.orig_tree.specs.declared.node.Label.{Label}
use Rattle.orig_tree.specs.declared.node.Label.TheVariants.{Route, Entry}
use Rattle.orig_tree.proofs.Paths.{no_bits, first_one, first_zero}
use Rattle.orig_tree.proofs.Covers.{fits_low, fits_high}
use Rattle.orig_tree.proofs.Steps.{rows_level, given_is, assign_route, assign_entry, assign_high, assign_low}

-- a label's cover carried over equal parts
carry : (c c' : Slot) (low low' high high' : Table) → c' ≡ c → low' ≡ low → high' ≡ high → IsCover (join c.hop low high) (cover_in c) → IsCover (join c'.hop low' high') (cover_in c')
carry c c' low low' high high' e l h k =
    subst (λ (s : Slot). IsCover (join s.hop low' high') (cover_in s)) (sym e)
    (subst (λ (x : Table). IsCover (join c.hop x high') (cover_in c)) (sym l)
    (subst (λ (x : Table). IsCover (join c.hop low x) (cover_in c)) (sym h) k))

hop_at : (c : Slot) (h : Option ℕ) (low high : Table) → c.hop ≡ h → IsCover (join h low high) (cover_in c) → IsCover (join c.hop low high) (cover_in c)
hop_at c h low high e k = subst (λ (x : Option ℕ). IsCover (join x low high) (cover_in c)) (sym e) k

-- what one label's edit leaves of the other's rows
module _ (p : List Bool) (h : Option ℕ) where
  pub told_covers : (label : Label) (k : Option ℕ) (route entry new_route new_entry : Slot) (low low' high high' : Walks) →
      AreCovers route entry low high → low' ≡ edited label p h low → high' ≡ high → Retold label k route entry new_route new_entry low' high' → AreCovers new_route new_entry low' high'
  told_covers Route k route entry new_route new_entry low low' high high' c l e t = record {
    routes = hop_at new_route k low'.routes high'.routes t.0 t.1;
    entries = carry entry new_entry low.entries low'.entries high.entries high'.entries t.2 (ap (λ w. w.entries) l) (ap (λ w. w.entries) e) c.entries;
  }
  told_covers Entry k route entry new_route new_entry low low' high high' c l e t = record {
    routes = carry route new_route low.routes low'.routes high.routes high'.routes t.2 (ap (λ w. w.routes) l) (ap (λ w. w.routes) e) c.routes;
    entries = hop_at new_entry k low'.entries high'.entries t.0 t.1;
  }

  pub told_covers_high : (label : Label) (k : Option ℕ) (route entry new_route new_entry : Slot) (low high high' : Walks) →
      AreCovers route entry low high → high' ≡ edited label p h high → Retold label k route entry new_route new_entry low high' → AreCovers new_route new_entry low high'
  told_covers_high Route k route entry new_route new_entry low high high' c l t = record {
    routes = hop_at new_route k low.routes high'.routes t.0 t.1;
    entries = carry entry new_entry low.entries low.entries high.entries high'.entries t.2 refl (ap (λ w. w.entries) l) c.entries;
  }
  told_covers_high Entry k route entry new_route new_entry low high high' c l t = record {
    routes = carry route new_route low.routes low.routes high.routes high'.routes t.2 refl (ap (λ w. w.routes) l) c.routes;
    entries = hop_at new_entry k low.entries high'.entries t.0 t.1;
  }

pub told_covers_here : (label : Label) (k : Option ℕ) (route entry new_route new_entry : Slot) (low high : Walks) →
    AreCovers route entry low high → Retold label k route entry new_route new_entry low high → AreCovers new_route new_entry low high
told_covers_here Route k route entry new_route new_entry low high c t = record {
  routes = hop_at new_route k low.routes high.routes t.0 t.1;
  entries = carry entry new_entry low.entries low.entries high.entries high.entries t.2 refl refl c.entries;
}
told_covers_here Entry k route entry new_route new_entry low high c t = record {
  routes = carry route new_route low.routes low.routes high.routes high.routes t.2 refl refl c.routes;
  entries = hop_at new_entry k low.entries high.entries t.0 t.1;
}

pub told_here : (label : Label) (h : Option ℕ) (route entry new_route new_entry : Slot) (low high node : Walks) (left q : ℕ) → left ≡ 0 → walks_of route.hop entry.hop low high ≡ node →
    Retold label h route entry new_route new_entry low high → walks_of new_route.hop new_entry.hop low high ≡ edited label (bits_of left q) h node
told_here Route h route entry new_route new_entry low high node left q e w t =
    ap (λ x. walks_of x new_entry.hop low high) t.0 ∙ ap (λ s. walks_of h s.hop low high) t.2 ∙ assign_route Route h route.hop entry.hop low high node left q e refl w
told_here Entry h route entry new_route new_entry low high node left q e w t =
    ap (λ x. walks_of new_route.hop x low high) t.0 ∙ ap (λ s. walks_of s.hop h low high) t.2 ∙ assign_entry Entry h route.hop entry.hop low high node left q e refl w

same_hops : (label : Label) (route entry new_route new_entry : Slot) (low high : Walks) →
    Retold label (labelled label route.hop entry.hop) route entry new_route new_entry low high → walks_of new_route.hop new_entry.hop low high ≡ walks_of route.hop entry.hop low high
same_hops Route route entry new_route new_entry low high t = ap (λ x. walks_of x new_entry.hop low high) t.0 ∙ ap (λ s. walks_of route.hop s.hop low high) t.2
same_hops Entry route entry new_route new_entry low high t = ap (λ x. walks_of new_route.hop x low high) t.0 ∙ ap (λ s. walks_of s.hop entry.hop low high) t.2

pub told_high : (label : Label) (h own : Option ℕ) (route entry new_route new_entry : Slot) (low high node after : Walks) (left q : ℕ) → left ≢ 0 → true ≡ nat_eq (bit_at q (left - 1)) 1 → walks_of route.hop entry.hop low high ≡ node →
    own ≡ labelled label route.hop entry.hop → after ≡ edited label (bits_of (left - 1) q) h high → Retold label own route entry new_route new_entry low after →
    walks_of new_route.hop new_entry.hop low after ≡ edited label (bits_of left q) h node
told_high label h own route entry new_route new_entry low high node after left q e b w o a t =
    same_hops label route entry new_route new_entry low after (subst (λ (x : Option ℕ). Retold label x route entry new_route new_entry low after) o t)
    ∙ assign_high label h route.hop entry.hop low high node after left q e b w a

pub told_low : (label : Label) (h own : Option ℕ) (route entry new_route new_entry : Slot) (low high node after : Walks) (left q : ℕ) → left ≢ 0 → false ≡ nat_eq (bit_at q (left - 1)) 1 → walks_of route.hop entry.hop low high ≡ node →
    own ≡ labelled label route.hop entry.hop → after ≡ edited label (bits_of (left - 1) q) h low → Retold label own route entry new_route new_entry after high →
    walks_of new_route.hop new_entry.hop after high ≡ edited label (bits_of left q) h node
told_low label h own route entry new_route new_entry low high node after left q e b w o a t =
    same_hops label route entry new_route new_entry after high (subst (λ (x : Option ℕ). Retold label x route entry new_route new_entry after high) o t)
    ∙ assign_low label h route.hop entry.hop low high node after left q e b w a

-- the one hop of a region
all_inherit : (n h : ℕ) (rows : Table) (c : Cover) → c.hops ≡ Zero → ((a : List Bool) → length a ≡ n → (x : Option ℕ) × ShowsHop rows a x × Within c x) → EachGets n rows h [] h
all_inherit n h rows c z e a l b =
    let t = e a l in
    let P : Option ℕ → Type 0 = λ x. ShowsHop rows a x → Within c x → lpm rows a h ≡ h in
    (elim t.0 as P [ None ↦ λ s w. s h | Some g ↦ λ s w. absurd (subst (λ (y : Hops). Allows y g) z w) ]) t.1 t.2

all_one : (n h x : ℕ) (rows : Table) (c : Cover) → c.hops ≡ One x → (c.passes ≡ true → h ≡ x) → ((a : List Bool) → length a ≡ n → (y : Option ℕ) × ShowsHop rows a y × Within c y) → EachGets n rows h [] x
all_one n h x rows c z p e a l b =
    let t = e a l in
    let P : Option ℕ → Type 0 = λ y. ShowsHop rows a y → Within c y → lpm rows a h ≡ x in
    (elim t.0 as P [ None ↦ λ s w. s h ∙ p w | Some g ↦ λ s w. s h ∙ subst (λ (y : Hops). Allows y g) z w ]) t.1 t.2

two_differ : (n h : ℕ) (rows : Table) (u v : ℕ) (a b : List Bool) → length a ≡ n → length b ≡ n → lpm rows a h ≡ u → lpm rows b h ≡ v → u ≢ v → TwoGet n rows h []
two_differ n h rows u v a b la lb ea eb d = (a, b, la, lb, refl, refl, λ e. d (sym ea ∙ e ∙ eb))

uniform_hops : (n h : ℕ) (rows : Table) (c : Cover) (hops : Hops) → c.hops ≡ hops → IsCover rows c → FitsWidth n rows → IsUniform n rows h [] (only_by c.passes hops h)
uniform_hops n h rows c Zero z k f = all_inherit n h rows c z (k.each n f)
uniform_hops n h rows c Many z k f =
    let r : ReachedBy (λ g. SomeGets n rows (Some g)) Many = subst (λ (y : Hops). ReachedBy (λ g. SomeGets n rows (Some g)) y) z (k.reached n f) in
    two_differ n h rows r.0 r.1 r.3.0 r.4.0 r.3.1 r.4.1 (r.3.2 h) (r.4.2 h) r.2
uniform_hops n h rows c (One x) z k f =
    let P : Bool → Bool → Type 0 = λ s t. c.passes ≡ s → nat_eq x h ≡ t → IsUniform n rows h [] (cond (s && not t) None (Some x)) in
    let r : SomeGets n rows (Some x) = subst (λ (y : Hops). ReachedBy (λ g. SomeGets n rows (Some g)) y) z (k.reached n f) in
    (elim c.passes as (λ s. P s (nat_eq x h)) [
      | true ↦ elim (nat_eq x h) as (λ t. P true t) [
        | true ↦ λ s t. all_one n h x rows c z (λ e. sym (eqb-true x h t)) (k.each n f)
        | false ↦ λ s t. let d = k.passed n f s in two_differ n h rows x h r.0 d.0 r.1 d.1 (r.2 h) (d.2 h) (eqb-false x h t)
      ]
      | false ↦ λ s t. all_one n h x rows c z (λ e. cc) (k.each n f)
    ]) refl refl

pub uniform_only : (n h : ℕ) (rows : Table) (c : Cover) → IsCover rows c → FitsWidth n rows → IsUniform n rows h [] (only_of c h)
uniform_only n h rows c k f = uniform_hops n h rows c c.hops refl k f

low_all : (n h : ℕ) (label : Option ℕ) (low high : Table) (p : List Bool) (k : ℕ) → EachGets n low (inherit label h) p k → EachGets (suc n) (join label low high) h (false ∷ p) k
low_all n h label low high p k u [] l b = cc
low_all n h label low high p k u (true ∷ a) l b = cc
low_all n h label low high p k u (false ∷ a) l b = lpm_join_low label low high a h ∙ u a (omega arith) b

high_all : (n h : ℕ) (label : Option ℕ) (low high : Table) (p : List Bool) (k : ℕ) → EachGets n high (inherit label h) p k → EachGets (suc n) (join label low high) h (true ∷ p) k
high_all n h label low high p k u [] l b = cc
high_all n h label low high p k u (false ∷ a) l b = cc
high_all n h label low high p k u (true ∷ a) l b = lpm_join_high label low high a h ∙ u a (omega arith) b

uniform_low : (n h : ℕ) (label : Option ℕ) (low high : Table) (p : List Bool) (r : Option ℕ) → IsUniform n low (inherit label h) p r → IsUniform (suc n) (join label low high) h (false ∷ p) r
uniform_low n h label low high p None (a, b, la, lb, pa, pb, d) = (false ∷ a, false ∷ b, ap suc la, ap suc lb, pa, pb, λ e. d (sym (lpm_join_low label low high a h) ∙ e ∙ lpm_join_low label low high b h))
uniform_low n h label low high p (Some k) u = low_all n h label low high p k u

uniform_high : (n h : ℕ) (label : Option ℕ) (low high : Table) (p : List Bool) (r : Option ℕ) → IsUniform n high (inherit label h) p r → IsUniform (suc n) (join label low high) h (true ∷ p) r
uniform_high n h label low high p None (a, b, la, lb, pa, pb, d) = (true ∷ a, true ∷ b, ap suc la, ap suc lb, pa, pb, λ e. d (sym (lpm_join_high label low high a h) ∙ e ∙ lpm_join_high label low high b h))
uniform_high n h label low high p (Some k) u = high_all n h label low high p k u

module _ (label : Label) (route entry : Option ℕ) (low high node : Walks) (left q inherited hop : ℕ) (result : Option ℕ) where
  pub uniform_high_step : walks_of route entry low high ≡ node → left ≢ 0 → true ≡ nat_eq (bit_at q (left - 1)) 1 → hop ≡ unwrap_or (labelled label route entry) inherited →
      ((n : ℕ) → left - 1 ≤ n → FitsWidth n (rows_of label high) → IsUniform n (rows_of label high) hop (bits_of (left - 1) q) result) →
      (n : ℕ) → left ≤ n → FitsWidth n (rows_of label node) → IsUniform n (rows_of label node) inherited (bits_of left q) result
  uniform_high_step w e b o u zero l f = absurd (omega arith)
  uniform_high_step w e b o u (suc n) l f =
      let own = labelled label route entry in
      let f' : FitsWidth (suc n) (join own (rows_of label low) (rows_of label high)) = subst (λ (r : Table). FitsWidth (suc n) r) (ap (rows_of label) (sym w) ∙ rows_level label route entry low high) f in
      let v = u n (omega arith) (fits_high n own (rows_of label low) (rows_of label high) f') in
      let v' : IsUniform n (rows_of label high) (inherit own inherited) (bits_of (left - 1) q) result = subst (λ (h : ℕ). IsUniform n (rows_of label high) h (bits_of (left - 1) q) result) (o ∙ sym (given_is own inherited)) v in
      let s = uniform_high n inherited own (rows_of label low) (rows_of label high) (bits_of (left - 1) q) result v' in
      subst (λ (p : List Bool). IsUniform (suc n) (rows_of label node) inherited p result) (sym (first_one left q e b))
      (subst (λ (r : Table). IsUniform (suc n) r inherited (true ∷ bits_of (left - 1) q) result) (sym (ap (rows_of label) (sym w) ∙ rows_level label route entry low high)) s)

  pub uniform_low_step : walks_of route entry low high ≡ node → left ≢ 0 → false ≡ nat_eq (bit_at q (left - 1)) 1 → hop ≡ unwrap_or (labelled label route entry) inherited →
      ((n : ℕ) → left - 1 ≤ n → FitsWidth n (rows_of label low) → IsUniform n (rows_of label low) hop (bits_of (left - 1) q) result) →
      (n : ℕ) → left ≤ n → FitsWidth n (rows_of label node) → IsUniform n (rows_of label node) inherited (bits_of left q) result
  uniform_low_step w e b o u zero l f = absurd (omega arith)
  uniform_low_step w e b o u (suc n) l f =
      let own = labelled label route entry in
      let f' : FitsWidth (suc n) (join own (rows_of label low) (rows_of label high)) = subst (λ (r : Table). FitsWidth (suc n) r) (ap (rows_of label) (sym w) ∙ rows_level label route entry low high) f in
      let v = u n (omega arith) (fits_low n own (rows_of label low) (rows_of label high) f') in
      let v' : IsUniform n (rows_of label low) (inherit own inherited) (bits_of (left - 1) q) result = subst (λ (h : ℕ). IsUniform n (rows_of label low) h (bits_of (left - 1) q) result) (o ∙ sym (given_is own inherited)) v in
      let s = uniform_low n inherited own (rows_of label low) (rows_of label high) (bits_of (left - 1) q) result v' in
      subst (λ (p : List Bool). IsUniform (suc n) (rows_of label node) inherited p result) (sym (first_zero left q e b))
      (subst (λ (r : Table). IsUniform (suc n) r inherited (false ∷ bits_of (left - 1) q) result) (sym (ap (rows_of label) (sym w) ∙ rows_level label route entry low high)) s)

pub uniform_here : (label : Label) (node : Walks) (c : Cover) (left q inherited : ℕ) (result : Option ℕ) → IsCover (rows_of label node) c → left ≡ 0 → result ≡ only_of c inherited →
    (n : ℕ) → left ≤ n → FitsWidth n (rows_of label node) → IsUniform n (rows_of label node) inherited (bits_of left q) result
uniform_here label node c left q inherited result k e r n l f =
    subst (λ (p : List Bool). IsUniform n (rows_of label node) inherited p result) (sym (no_bits left q e))
    (subst (λ (x : Option ℕ). IsUniform n (rows_of label node) inherited [] x) (sym r) (uniform_only n inherited (rows_of label node) c k f))
