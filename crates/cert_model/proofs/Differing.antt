-- The least address that gets different answers.
use Rattle.std.proofs.Common.{◌≡◌, ◌≢◌, ℕ, zero, suc, ◌<◌, ◌^◌, List, [], ◌∷◌, Bool, true, false, cond, Option, Some, None, length, nat_eq, refl, sym, ap, ◌∙◌, arith, subst, ◌↔◌}
use Rattle.std.specs.Prelude.{option_map}
use Rattle.std.specs.declared.cmp.Ordering.TheVariants.{Less}
use Rattle.std.proofs.lemmas.Bool.{eqb-true, eq-eqb}
use Rattle.std.proofs.lemmas.Cmp.{ranked}
use Rattle.std.specs.Option.{option_or}
use Rattle.table_model.specs.Bits.{value_of}
use Rattle.table_model.specs.Width.{width}
use Rattle.table_model.specs.Address.{Address}
use Rattle.table_model.specs.declared.family.Family.{Family}
use Rattle.table_model.specs.declared.family.Family.TheVariants.{V4, V6}
use Rattle.table_model.proofs.BitLaws.{value-lt}
use Rattle.table_model.specs.Entries.{Entries, of_family, match_in, AlikeInBoth}
use Rattle.table_model.specs.Sets.{side, answers}
use Rattle.cert_model.specs.Verdict.{No, NotSame, address_cmp, IsLeastDiffering, least_differing, not_same_at, not_same_in, not_same}

none_of_both : (x y : Option (List Bool)) → option_or (option_map (λ a. false ∷ a) x) (option_map (λ a. true ∷ a) y) ≡ None → (x ≡ None) × (y ≡ None)
none_of_both None None e = (refl, refl)
none_of_both None (Some a) e = cc
none_of_both (Some a) y e = cc

pub none_differs : (d : ℕ) (f g : List Bool → ℕ) → least_differing d f g ≡ None → (a : List Bool) → length a ≡ d → f a ≡ g a
unfolding least_differing
none_differs zero f g e [] n = by_test (nat_eq (f []) (g [])) refl e
  where
    by_test : (b : Bool) → nat_eq (f []) (g []) ≡ b → cond b None (let s : Option (List Bool) = Some [] in s) ≡ None → f [] ≡ g []
    by_test true t x = eqb-true (f []) (g []) t
    by_test false t x = cc
none_differs zero f g e (b ∷ a) n = absurd (omega arith)
none_differs (suc d) f g e [] n = absurd (omega arith)
none_differs (suc d) f g e (false ∷ a) n = none_differs d (side false f) (side false g) (none_of_both _ _ e).0 a (omega arith)
none_differs (suc d) f g e (true ∷ a) n = none_differs d (side true f) (side true g) (none_of_both _ _ e).1 a (omega arith)

pub none_from : (d : ℕ) (f g : List Bool → ℕ) → ((a : List Bool) → length a ≡ d → f a ≡ g a) → least_differing d f g ≡ None
unfolding least_differing
none_from zero f g e = ap (λ (b : Bool). cond b None (let s : Option (List Bool) = Some [] in s)) (eq-eqb (f []) (g []) (e [] refl))
none_from (suc d) f g e =
    ap (λ x. option_or (option_map (λ a. false ∷ a) x) (option_map (λ a. true ∷ a) (least_differing d (side true f) (side true g)))) (none_from d (side false f) (side false g) (λ a l. e (false ∷ a) (ap suc l)))
    ∙ ap (λ x. option_or None (option_map (λ a. true ∷ a) x)) (none_from d (side true f) (side true g) (λ a l. e (true ∷ a) (ap suc l)))

-- the answers differ at a, and at no lesser address of d bits
abbrev pub IsLeastAt : ℕ → (List Bool → ℕ) → (List Bool → ℕ) → List Bool → Type 0
IsLeastAt d f g a = (length a ≡ d) × (f a ≢ g a) × ((b : List Bool) → length b ≡ d → value_of b < value_of a → f b ≡ g b)

least_in_low : (d : ℕ) (f g : List Bool → ℕ) (a : List Bool) → IsLeastAt d (side false f) (side false g) a → IsLeastAt (suc d) f g (false ∷ a)
unfolding value_of
least_in_low d f g a i = (ap suc i.0, i.1, lesser)
  where
    lesser : (b : List Bool) → length b ≡ suc d → value_of b < value_of (false ∷ a) → f b ≡ g b
    lesser [] l n = absurd (omega arith)
    lesser (false ∷ b) l n = i.2 b (omega arith) (omega arith)
    lesser (true ∷ b) l n = let e : 2 ^ length a ≡ 2 ^ length b = ap (λ (k : ℕ). 2 ^ k) (let m : length a ≡ length b = omega (arith, i.0) in m) in absurd (omega (arith, e, value-lt a))

least_in_high : (d : ℕ) (f g : List Bool → ℕ) (a : List Bool) → least_differing d (side false f) (side false g) ≡ None → IsLeastAt d (side true f) (side true g) a → IsLeastAt (suc d) f g (true ∷ a)
unfolding value_of
least_in_high d f g a none i = (ap suc i.0, i.1, lesser)
  where
    lesser : (b : List Bool) → length b ≡ suc d → value_of b < value_of (true ∷ a) → f b ≡ g b
    lesser [] l n = absurd (omega arith)
    lesser (false ∷ b) l n = none_differs d (side false f) (side false g) none b (omega arith)
    lesser (true ∷ b) l n = let e : 2 ^ length a ≡ 2 ^ length b = ap (λ (k : ℕ). 2 ^ k) (let m : length a ≡ length b = omega (arith, i.0) in m) in i.2 b (omega arith) (omega (arith, e))

none_below : (b : List Bool) → value_of b < value_of [] → ⊥
unfolding value_of
none_below b n = absurd (omega arith)

pub some_differs : (d : ℕ) (f g : List Bool → ℕ) (a : List Bool) → least_differing d f g ≡ Some a → IsLeastAt d f g a
unfolding least_differing
some_differs zero f g a e = by_test (nat_eq (f []) (g [])) refl e
  where
    by_test : (b : Bool) → nat_eq (f []) (g []) ≡ b → cond b None (let s : Option (List Bool) = Some [] in s) ≡ Some a → IsLeastAt zero f g a
    by_test true t x = cc
    by_test false t x =
        let is : [] ≡ a = cc in
        subst (IsLeastAt zero f g) is (refl, (λ s. let y : nat_eq (f []) (g []) ≡ true = eq-eqb (f []) (g []) s in cc), (λ b l n. absurd (none_below b n)))
some_differs (suc d) f g a e = by_low (λ c t. some_differs d (side false f) (side false g) c t) (λ c t. some_differs d (side true f) (side true g) c t) (least_differing d (side false f) (side false g)) refl e
  where
    by_high : ((c : List Bool) → least_differing d (side true f) (side true g) ≡ Some c → IsLeastAt d (side true f) (side true g) c) → (y : Option (List Bool)) → least_differing d (side false f) (side false g) ≡ None → least_differing d (side true f) (side true g) ≡ y → option_map (λ a. true ∷ a) y ≡ Some a → IsLeastAt (suc d) f g a
    by_high high None n t x = cc
    by_high high (Some c) n t x = let is : true ∷ c ≡ a = cc in subst (IsLeastAt (suc d) f g) is (least_in_high d f g c n (high c t))

    by_low : ((c : List Bool) → least_differing d (side false f) (side false g) ≡ Some c → IsLeastAt d (side false f) (side false g) c) → ((c : List Bool) → least_differing d (side true f) (side true g) ≡ Some c → IsLeastAt d (side true f) (side true g) c) → (x : Option (List Bool)) → least_differing d (side false f) (side false g) ≡ x → option_or (option_map (λ a. false ∷ a) x) (option_map (λ a. true ∷ a) (least_differing d (side true f) (side true g))) ≡ Some a
        → IsLeastAt (suc d) f g a
    by_low low high None t z = by_high high (least_differing d (side true f) (side true g)) t refl z
    by_low low high (Some c) t z = let is : false ∷ c ≡ a = cc in subst (IsLeastAt (suc d) f g) is (least_in_low d f g c (low c t))

-- ---- both families

none_at : (R T : Entries) (f : Family) (o : Option (List Bool)) → not_same_at R T f o ≡ None → o ≡ None
none_at R T f None e = refl
none_at R T f (Some a) e = cc

alike_from : (R T : Entries) (f : Family) → not_same_in R T f ≡ None → (a : List Bool) → length a ≡ width f → answers (of_family f R) [] a ≡ answers (of_family f T) [] a
alike_from R T f e = none_differs (width f) (answers (of_family f R) []) (answers (of_family f T) []) (none_at R T f _ e)

pub none_of : (x y : Option No) → option_or x y ≡ None → (x ≡ None) × (y ≡ None)
none_of None y e = (refl, e)
none_of (Some n) y e = cc

by_family : (R T : Entries) → not_same_in R T V4 ≡ None → not_same_in R T V6 ≡ None → (f : Family) (a : List Bool) → length a ≡ width f → answers (of_family f R) [] a ≡ answers (of_family f T) [] a
by_family R T e g V4 a l = alike_from R T V4 e a l
by_family R T e g V6 a l = alike_from R T V6 g a l

pub same_is_alike : (R T : Entries) → not_same R T ≡ None → AlikeInBoth R T
same_is_alike R T e a n = let b = none_of _ _ e in by_family R T b.0 b.1 a.family a.bits n

none_in : (R T : Entries) (f : Family) → AlikeInBoth R T → not_same_in R T f ≡ None
none_in R T f e = ap (not_same_at R T f) (none_from (width f) (answers (of_family f R) []) (answers (of_family f T) []) (λ a l. let x : Address = record { family = f; bits = a } in e x l))

pub alike_is_same : (R T : Entries) → AlikeInBoth R T → not_same R T ≡ None
alike_is_same R T e = ap (λ x. option_or x (not_same_in R T V6)) (none_in R T V4 e) ∙ none_in R T V6 e

pub same_law : (R T : Entries) → (not_same R T ≡ None) ↔ AlikeInBoth R T
same_law R T = (same_is_alike R T, alike_is_same R T)

-- what `not_same` says where it says something
abbrev pub Says : Entries → Entries → No → Type 0
Says R T x = (a : Address) × (x ≡ NotSame a (match_in R a) (match_in T a)) × IsLeastDiffering R T a

lesser_v4 : (R T : Entries) (c : List Bool) → ((b : List Bool) → length b ≡ 32 → value_of b < value_of c → answers (of_family V4 R) [] b ≡ answers (of_family V4 T) [] b)
    → (g : Family) (b : List Bool) → length b ≡ width g → address_cmp (record { family = g; bits = b }) (record { family = V4; bits = c }) ≡ Less → answers (of_family g R) [] b ≡ answers (of_family g T) [] b
lesser_v4 R T c h V4 b l e = h b l (ranked (value_of b) (value_of c) Less (sym e))
lesser_v4 R T c h V6 b l e = cc

lesser_v6 : (R T : Entries) (c : List Bool) → not_same_in R T V4 ≡ None → ((b : List Bool) → length b ≡ 128 → value_of b < value_of c → answers (of_family V6 R) [] b ≡ answers (of_family V6 T) [] b)
    → (g : Family) (b : List Bool) → length b ≡ width g → address_cmp (record { family = g; bits = b }) (record { family = V6; bits = c }) ≡ Less → answers (of_family g R) [] b ≡ answers (of_family g T) [] b
lesser_v6 R T c none h V4 b l e = alike_from R T V4 none b l
lesser_v6 R T c none h V6 b l e = h b l (ranked (value_of b) (value_of c) Less (sym e))

says_at : (R T : Entries) (f : Family) (x : No) (c : List Bool) → least_differing (width f) (answers (of_family f R) []) (answers (of_family f T) []) ≡ Some c
    → ((h : (b : List Bool) → length b ≡ width f → value_of b < value_of c → answers (of_family f R) [] b ≡ answers (of_family f T) [] b) (g : Family) (b : List Bool) → length b ≡ width g
    → address_cmp (record { family = g; bits = b }) (record { family = f; bits = c }) ≡ Less → answers (of_family g R) [] b ≡ answers (of_family g T) [] b)
    → not_same_at R T f (Some c) ≡ Some x → Says R T x
says_at R T f x c t lesser z =
    let i = some_differs (width f) (answers (of_family f R) []) (answers (of_family f T) []) c t in
    let a : Address = record { family = f; bits = c } in
    let is : NotSame a (match_in R a) (match_in T a) ≡ x = cc in
    (a, sym is, record { address = i.0; differ = i.1; least = λ b n l. lesser i.2 b.family b.bits n l })

pub says : (R T : Entries) (x : No) → not_same R T ≡ Some x → Says R T x
says R T x e = by_v4 (least_differing 32 (answers (of_family V4 R) []) (answers (of_family V4 T) [])) refl e
  where
    by_v6 : (p : Option (List Bool)) → not_same_in R T V4 ≡ None → least_differing 128 (answers (of_family V6 R) []) (answers (of_family V6 T) []) ≡ p → not_same_at R T V6 p ≡ Some x → Says R T x
    by_v6 None n t z = cc
    by_v6 (Some c) n t z = says_at R T V6 x c t (lesser_v6 R T c n) z

    by_v4 : (o : Option (List Bool)) → least_differing 32 (answers (of_family V4 R) []) (answers (of_family V4 T) []) ≡ o → option_or (not_same_at R T V4 o) (not_same_in R T V6) ≡ Some x → Says R T x
    by_v4 None t z = by_v6 (least_differing 128 (answers (of_family V6 R) []) (answers (of_family V6 T) [])) (ap (not_same_at R T V4) t) refl z
    by_v4 (Some c) t z = says_at R T V4 x c t (lesser_v4 R T c) z
