-- A table has one cover.
use Rattle.std.proofs.Common.{◌≡◌, ℕ, ◌+◌, ◌≤◌, List, [], ◌∷◌, length, Bool, true, false, refl, sym, ap, ◌∙◌, subst, arith, Option, Some, None}
use Rattle.table_model.specs.Table.{Table}
use Rattle.orig_tree.specs.Views.{FitsWidth}
use Rattle.orig_tree.specs.Cover.{ShowsHop, Allows, Within, SomeGets, ReachedBy, IsCover}
use Rattle.orig_tree.specs.declared.cover.Cover.{Cover}
use Rattle.orig_tree.specs.declared.cover.Hops.{Hops}
use Rattle.orig_tree.specs.declared.cover.Hops.TheVariants.{Zero, One, Many}

fits_more : (n m : ℕ) (L : Table) → n ≤ m → FitsWidth n L → FitsWidth m L
fits_more n m [] l f = tt
fits_more n m (e ∷ es) l f = (omega (arith, l, f.0), fits_more n m es l f.1)

some_fits : (L : Table) → (n : ℕ) × FitsWidth n L
some_fits [] = (0, tt)
some_fits (e ∷ es) =
    let r = some_fits es in
    (length e.prefix + r.0, (omega arith, fits_more r.0 (length e.prefix + r.0) es (omega arith) r.1))

both_shown : (L : Table) (a : List Bool) (g : ℕ) → ShowsHop L a None → ShowsHop L a (Some g) → ⊥
both_shown L a g s t =
    let e : 0 ≡ g = sym (s 0) ∙ t 0 in
    let f : 1 ≡ g = sym (s 1) ∙ t 1 in
    omega (arith, e, f)

passed_by : (L : Table) (c : Cover) (a : List Bool) (x : Option ℕ) → ShowsHop L a None → ShowsHop L a x → Within c x → c.passes ≡ true
passed_by L c a None s t w = w
passed_by L c a (Some g) s t w = absurd (both_shown L a g s t)

allowed_by : (L : Table) (c : Cover) (a : List Bool) (g : ℕ) (x : Option ℕ) → ShowsHop L a (Some g) → ShowsHop L a x → Within c x → Allows c.hops g
allowed_by L c a g None s t w = absurd (both_shown L a g t s)
allowed_by L c a g (Some k) s t w = subst (λ (y : ℕ). Allows c.hops y) (sym (t 0) ∙ s 0) w

passes_too : (L : Table) (n : ℕ) (c d : Cover) → FitsWidth n L → IsCover L c → IsCover L d → c.passes ≡ true → d.passes ≡ true
passes_too L n c d f i j p =
    let r = i.passed n f p in
    let x = j.each n f r.0 r.1 in
    passed_by L d r.0 x.0 r.2 x.1 x.2

allows_too : (L : Table) (n : ℕ) (d : Cover) → FitsWidth n L → IsCover L d → (g : ℕ) → SomeGets n L (Some g) → Allows d.hops g
allows_too L n d f j g r =
    let x = j.each n f r.0 r.1 in
    allowed_by L d r.0 g x.0 r.2 x.1 x.2

same_bool : (a b : Bool) → (a ≡ true → b ≡ true) → (b ≡ true → a ≡ true) → a ≡ b
same_bool true b f g = sym (f refl)
same_bool false true f g = g refl
same_bool false false f g = refl

same_hops : (R : ℕ → Type 0) (h k : Hops) → ReachedBy R h → ReachedBy R k → ((g : ℕ) → R g → Allows h g) → ((g : ℕ) → R g → Allows k g) → h ≡ k
same_hops R Zero Zero r s a b = refl
same_hops R Zero (One y) r s a b = absurd (a y s)
same_hops R Zero Many r s a b = absurd (a s.0 s.3)
same_hops R (One x) Zero r s a b = absurd (b x r)
same_hops R (One x) (One y) r s a b = ap One (b x r)
same_hops R (One x) Many r s a b = absurd (s.2 (a s.0 s.3 ∙ sym (a s.1 s.4)))
same_hops R Many Zero r s a b = absurd (b r.0 r.3)
same_hops R Many (One y) r s a b = absurd (r.2 (b r.0 r.3 ∙ sym (b r.1 r.4)))
same_hops R Many Many r s a b = refl

same_cover : (c d : Cover) → c.passes ≡ d.passes → c.hops ≡ d.hops → c ≡ d
same_cover c d e f = ap (λ (p : Bool). let x : Cover = record { passes = p; hops = c.hops } in x) e ∙ ap (λ (h : Hops). let x : Cover = record { passes = d.passes; hops = h } in x) f

pub one_cover : (L : Table) (c d : Cover) → IsCover L c → IsCover L d → c ≡ d
one_cover L c d i j =
    let f = some_fits L in
    same_cover c d (same_bool c.passes d.passes (passes_too L f.0 c d f.1 i j) (passes_too L f.0 d c f.1 j i))
    (same_hops (λ g. SomeGets f.0 L (Some g)) c.hops d.hops (i.reached f.0 f.1) (j.reached f.0 f.1) (allows_too L f.0 c f.1 i) (allows_too L f.0 d f.1 j))
