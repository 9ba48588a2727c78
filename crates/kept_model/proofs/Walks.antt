-- Longest match as a walk over the lengths of prefixes, and what one change of a walk does to its end.
use Rattle.std.proofs.Common.{◌≡◌, ℕ, zero, suc, ◌≤◌, ◌<◌, List, [], ◌∷◌, Bool, true, false, cond, Option, Some, None, length, take, refl, sym, ap, subst, ◌∙◌, arith, inl, inr}
use Rattle.std.specs.Prelude.{is_some, ◌&&◌, ◌⊎◌}
use Rattle.std.proofs.lemmas.Bool.{cases_lt}
use Rattle.table_model.specs.Bits.{same_bits}
use Rattle.table_model.specs.Address.{Address, first_bits, same_family}
use Rattle.table_model.specs.declared.family.Family.{Family}
use Rattle.table_model.specs.Table.{Table, lpm, root, inherit, half, cut}
use Rattle.table_model.specs.Entries.{Entries, of_family, match_in}
use Rattle.table_model.proofs.Cut.{entry, lpm_cut, lpm_nil}
use Rattle.kept_model.specs.Between.{entry_hop_at}

-- the last of the hops at the lengths up to n, or h
abbrev pub up_to : ℕ → (ℕ → Option ℕ) → ℕ → ℕ
up_to zero f h = inherit (f 0) h
up_to (suc n) f h = inherit (f (suc n)) (up_to n f h)

-- ---- longest match is such a walk

shifted : (k : ℕ) (f : ℕ → Option ℕ) (h : ℕ) → up_to (suc k) f h ≡ up_to k (λ n. f (suc n)) (inherit (f 0) h)
shifted zero f h = refl
shifted (suc k) f h = ap (inherit (f (suc (suc k)))) (shifted k f h)

lpm_walk : (a : List Bool) (L : Table) (h : ℕ) → lpm L a h ≡ up_to (length a) (λ n. root (cut (take n a) L)) h
lpm_walk [] L h = lpm_nil L h
lpm_walk (b ∷ a) L h = lpm_cut L b a h ∙ (lpm_walk a (half b L) (inherit (root L) h) ∙ sym (shifted (length a) (λ n. root (cut (take n (b ∷ a)) L)) h))

cut_nothing : (p : List Bool) → cut p [] ≡ []
cut_nothing [] = refl
cut_nothing (b ∷ p) = cut_nothing p

own_step : (p q : List Bool) (h : ℕ) (L : Table) → root (cut p (entry q h ∷ L)) ≡ cond (same_bits p q) (Some h) (root (cut p L))
unfolding same_bits
own_step [] [] h L = refl
own_step [] (b ∷ q) h L = refl
own_step (true ∷ p) [] h L = refl
own_step (false ∷ p) [] h L = refl
own_step (true ∷ p) (true ∷ q) h L = own_step p q h (half true L)
own_step (false ∷ p) (false ∷ q) h L = own_step p q h (half false L)
own_step (true ∷ p) (false ∷ q) h L = refl
own_step (false ∷ p) (true ∷ q) h L = refl

family_hop : (f : Family) (q : List Bool) (E : Entries) → root (cut q (of_family f E)) ≡ entry_hop_at (record { family = f; bits = q }) E
family_hop f q [] = ap root (cut_nothing q)
family_hop f q (e ∷ E) = by_family (same_family f e.0.family) (family_hop f q E)
  where
    rest : Option ℕ
    rest = entry_hop_at (record { family = f; bits = q }) E

    by_family : (b : Bool) → root (cut q (of_family f E)) ≡ rest → root (cut q (cond b (entry e.0.bits e.1 ∷ of_family f E) (of_family f E))) ≡ cond (b && same_bits q e.0.bits) (Some e.1) rest
    by_family true ih = own_step q e.0.bits e.1 (of_family f E) ∙ ap (cond (same_bits q e.0.bits) (Some e.1)) ih
    by_family false ih = ih

pub same_walk : (k : ℕ) (f g : ℕ → Option ℕ) (h : ℕ) → ((n : ℕ) → n ≤ k → f n ≡ g n) → up_to k f h ≡ up_to k g h
same_walk zero f g h e = ap (λ o. inherit o h) (e 0 (omega arith))
same_walk (suc k) f g h e = ap (λ o. inherit o (up_to k f h)) (e (suc k) (omega arith)) ∙ ap (inherit (g (suc k))) (same_walk k f g h (λ n l. e n (omega arith)))

-- what the table holds at the first n bits of the address
abbrev pub hops_of : Entries → Address → ℕ → Option ℕ
hops_of L a n = entry_hop_at (first_bits n a) L

pub match_walk : (L : Entries) (a : Address) → match_in L a ≡ up_to (length a.bits) (hops_of L a) 0
match_walk L a = lpm_walk a.bits (of_family a.family L) 0 ∙ same_walk (length a.bits) _ _ 0 (λ n l. family_hop a.family (take n a.bits) L)

-- ---- one change of a walk

-- f with another hop at length k, which is g's, where what is pending besides are removals, and shorter ones only beneath a hop
pub record IsStep (f f' g : ℕ → Option ℕ) (k w : ℕ) : Type 0 where
  pub others : (n : ℕ) → n ≤ w → (n ≡ k → ⊥) → f' n ≡ f n
  pub here : f' k ≡ g k
  pub longer : (n : ℕ) → n ≤ w → k < n → (f n ≡ g n) ⊎ (g n ≡ None)
  pub shorter : (is_some (f' k) ≡ true) ⊎ ((n : ℕ) → n < k → f n ≡ g n)

covered : (o : Option ℕ) (x y : ℕ) → is_some o ≡ true → inherit o x ≡ inherit o y
covered None x y e = cc
covered (Some g) x y e = refl

at_place : (f f' g : ℕ → Option ℕ) (k w h : ℕ) → k ≤ w → IsStep f f' g k w → up_to k f' h ≡ up_to k g h
at_place f f' g zero w h l s = ap (λ o. inherit o h) s.here
at_place f f' g (suc k) w h l s = ap (λ o. inherit o (up_to k f' h)) s.here ∙ by_case s.shorter
  where
    by_case : (is_some (f' (suc k)) ≡ true) ⊎ ((n : ℕ) → n < suc k → f n ≡ g n) → inherit (g (suc k)) (up_to k f' h) ≡ inherit (g (suc k)) (up_to k g h)
    by_case (inl e) = covered (g (suc k)) (up_to k f' h) (up_to k g h) (ap is_some (sym s.here) ∙ e)
    by_case (inr e) = ap (inherit (g (suc k))) (same_walk k f' g h (λ n i. s.others n (omega arith) (λ j. absurd (omega (arith, i, j))) ∙ e n (omega arith)))

none_too : (x y : Option ℕ) → x ≡ None → (x ≡ y) ⊎ (y ≡ None) → y ≡ None
none_too x y e (inl i) = sym i ∙ e
none_too x y e (inr i) = i

-- the walk ends as before, or as g's
pub past : (f f' g : ℕ → Option ℕ) (k w h m : ℕ) → IsStep f f' g k w → k ≤ m → m ≤ w → (up_to m f' h ≡ up_to m f h) ⊎ (up_to m f' h ≡ up_to m g h)
past f f' g k w h zero s l u = let e : k ≡ 0 = omega arith in inr (subst (λ (i : ℕ). up_to i f' h ≡ up_to i g h) e (at_place f f' g k w h (omega arith) s))
past f f' g k w h (suc m) s l u =
    elim (cases_lt k (suc m)) [
      | inl lt ↦ by_hop (f (suc m)) refl (s.others (suc m) u (λ e. absurd (omega (arith, e, lt)))) (s.longer (suc m) u lt) (past f f' g k w h m s (omega arith) (omega arith))
      | inr ge ↦ let e : k ≡ suc m = omega arith in inr (subst (λ (i : ℕ). up_to i f' h ≡ up_to i g h) e (at_place f f' g k w h (omega arith) s))
    ]
  where
    carried : (up_to m f' h ≡ up_to m f h) ⊎ (up_to m f' h ≡ up_to m g h) → f' (suc m) ≡ None → f (suc m) ≡ None → g (suc m) ≡ None → (up_to (suc m) f' h ≡ up_to (suc m) f h) ⊎ (up_to (suc m) f' h ≡ up_to (suc m) g h)
    carried (inl e) a b c = inl (ap (λ o. inherit o (up_to m f' h)) a ∙ (e ∙ sym (ap (λ o. inherit o (up_to m f h)) b)))
    carried (inr e) a b c = inr (ap (λ o. inherit o (up_to m f' h)) a ∙ (e ∙ sym (ap (λ o. inherit o (up_to m g h)) c)))

    by_hop : (o : Option ℕ) → f (suc m) ≡ o → f' (suc m) ≡ f (suc m) → (f (suc m) ≡ g (suc m)) ⊎ (g (suc m) ≡ None) → (up_to m f' h ≡ up_to m f h) ⊎ (up_to m f' h ≡ up_to m g h)
        → (up_to (suc m) f' h ≡ up_to (suc m) f h) ⊎ (up_to (suc m) f' h ≡ up_to (suc m) g h)
    by_hop (Some x) e i j ih = inl (ap (λ o. inherit o (up_to m f' h)) i ∙ covered (f (suc m)) (up_to m f' h) (up_to m f h) (ap is_some e))
    by_hop None e i j ih = carried ih (i ∙ e) e (none_too (f (suc m)) (g (suc m)) e j)
