-- The numbers of hops while an elementary event is planned.
use Rattle.std.proofs.Common.{◌≡◌, ℕ, ◌+◌, ◌<◌, ◌≤◌, List, [], ◌∷◌, ◌++◌, Bool, true, false, cond, Option, Some, None, length, refl, sym, ap, subst, ◌∙◌, arith, length-append}
use Rattle.std.specs.Prelude.{option_map, is_some, unwrap_or, ◌||◌, not, IfSome, IsSome}
use Rattle.std.specs.List.{list_any, AllByRecursion}
use Rattle.table_model.specs.Address.{Address, Prefix, same_address}
use Rattle.table_model.proofs.SamePrefix.{same_address_is}
use Rattle.kept_model.specs.Feed.{IsNumbered, number_in, hops_after}
use Rattle.fib_addr.specs.Hops.{number_of, with_hop, most_hops}
use Rattle.fib_addr.specs.Views.{addr_as}
use Rattle.fib_addr.specs.declared.addr.Addr.{Addr}
use Rattle.fib_addr.specs.declared.entry.Hop.{Hop}
use Rattle.fib_addr.specs.declared.prefix.Prefix as code_prefix
use Rattle.std.proofs.lemmas.Option.{same_Some}
use Rattle.fib_addr.proofs.HopLemmas.{new_is_not, new_number, held_is_there, held_stays}
use Rattle.fib_prefix.specs.Views.{elem_as}
use Rattle.fib_prefix.specs.declared.event.Via as code_via
use Rattle.fib_prefix.specs.declared.event.Elem as code_elem
use Rattle.fib_prefix.specs.declared.event.Elem.TheVariants as code_variant
use Rattle.kept_model.specs.Kept.{is_other}
use Rattle.fib_engine.specs.Numbers.{IsNewNumber, IsOwnNumber, brought_by, number_routes}

-- ---- one hop too many

grown : (hops : List Address) (a : Address) → number_of hops a ≡ None → with_hop hops a ≡ hops ++ a ∷ []
grown hops a none = ap (λ t. cond t hops (hops ++ a ∷ [])) (new_is_not hops a (sym none))

pub full_hop : (hops : List Address) (a : Address) → length hops ≡ most_hops → number_of hops a ≡ None → most_hops < length (with_hop hops a)
full_hop hops a len none = omega (arith, len, ap length (grown hops a none), length-append hops (a ∷ []))

pub fits_hop : (hops : List Address) (a : Address) → length hops ≤ most_hops → most_hops < length (with_hop hops a) → (length hops ≡ most_hops) × (number_of hops a ≡ None)
fits_hop hops a few over = by_number (number_of hops a) refl
  where
    by_number : (o : Option ℕ) → number_of hops a ≡ o → (length hops ≡ most_hops) × (number_of hops a ≡ None)
    by_number (Some n) e = absurd (omega (arith, few, over, ap length (held_stays hops a n (sym e))))
    by_number None e = (omega (arith, few, over, ap length (grown hops a e), length-append hops (a ∷ [])), e)

module _ (hops : List Address) (elem : code_elem.Elem) (v : code_via.Via) (p : code_prefix.Prefix) (path : ℕ) (hop : Addr) (is : elem ≡ code_variant.Put v p path hop) where
  pub full_put : (length hops ≡ most_hops) × (number_of hops (addr_as hop) ≡ None) → most_hops < length (hops_after hops (elem_as elem ∷ []))
  full_put full = rw is (full_hop hops (addr_as hop) full.0 full.1)

  pub fits_put : length hops ≤ most_hops → most_hops < length (hops_after hops (elem_as elem ∷ [])) → (length hops ≡ most_hops) × (number_of hops (addr_as hop) ≡ None)
  fits_put few over = fits_hop hops (addr_as hop) few (rw is at over)

-- ---- the hop that is brought

brought : (hops : List Address) (a : Address) (own : Option ℕ) → number_of hops a ≡ None → own ≡ number_of (with_hop hops a) a → option_map {U = ℕ × Address} (λ n. (n, a)) own ≡ cond (is_some (number_of hops a)) None (option_map {U = ℕ × Address} (λ n. (n, a)) (number_of (with_hop hops a) a))
brought hops a own none is = ap (option_map {U = ℕ × Address} (λ (n : ℕ). (n, a))) is ∙ ap (λ (o : Option ℕ). cond (is_some o) None (option_map {U = ℕ × Address} (λ (n : ℕ). (n, a)) (number_of (with_hop hops a) a))) (sym none)

pub put_brings : (hops : List Address) (elem : code_elem.Elem) (v : code_via.Via) (p : code_prefix.Prefix) (path : ℕ) (hop : Addr) (own : Option Hop) → elem ≡ code_variant.Put v p path hop → number_of hops (addr_as hop) ≡ None → IsOwnNumber hops elem own → option_map {U = ℕ × Address} (λ n. (n, addr_as hop)) (option_map (λ h. h.0) own) ≡ brought_by hops (elem_as elem)
put_brings hops elem v p path hop own is none of =
    subst (λ (e : code_elem.Elem). option_map {U = ℕ × Address} (λ n. (n, addr_as hop)) (option_map (λ h. h.0) own) ≡ brought_by hops (elem_as e)) (sym is) (brought hops (addr_as hop) (option_map (λ h. h.0) own) none (subst (λ (e : code_elem.Elem). IsOwnNumber hops e own) is of))

pub put_brings_none : (hops : List Address) (elem : code_elem.Elem) (v : code_via.Via) (p : code_prefix.Prefix) (path : ℕ) (hop : Addr) (n : ℕ) → elem ≡ code_variant.Put v p path hop → number_of hops (addr_as hop) ≡ Some n → None ≡ brought_by hops (elem_as elem)
put_brings_none hops elem v p path hop n is held =
    subst (λ (e : code_elem.Elem). None ≡ brought_by hops (elem_as e)) (sym is) (ap (λ (o : Option ℕ). cond (is_some o) None (option_map {U = ℕ × Address} (λ (k : ℕ). (k, addr_as hop)) (number_of (with_hop hops (addr_as hop)) (addr_as hop)))) (sym held))

-- ---- the number that a hop gets by an elementary event

any_more : (p : Address → Bool) (xs ys : List Address) → list_any p xs ≡ false → list_any p (xs ++ ys) ≡ list_any p ys
any_more p [] ys e = refl
any_more p (x ∷ xs) ys e = by_test (p x) e (any_more p xs ys)
  where
    by_test : (b : Bool) → (b || list_any p xs) ≡ false → (list_any p xs ≡ false → list_any p (xs ++ ys) ≡ list_any p ys) → (b || list_any p (xs ++ ys)) ≡ list_any p ys
    by_test true f ih = absurd cc
    by_test false f ih = ih f

or_false : (b : Bool) → (b || false) ≡ true → b ≡ true
or_false true e = refl
or_false false e = cc

new_one : (hops : List Address) (h a : Address) (n : ℕ) → number_of (with_hop hops h) h ≡ Some n → IsNumbered (with_hop hops h) a → number_of hops a ≡ None → Some n ≡ number_of (with_hop hops h) a
new_one hops h a n e (m, has, l, k) none = by_hop (number_of hops h) refl
  where
    by_hop : (o : Option ℕ) → number_of hops h ≡ o → Some n ≡ number_of (with_hop hops h) a
    by_hop (Some j) w = let z : None ≡ Some m = sym none ∙ (ap (λ hs. number_of hs a) (held_stays hops h j (sym w)) ∙ has) in absurd cc
    by_hop None w =
        let long = grown hops h w in
        let there : list_any (same_address a) (hops ++ h ∷ []) ≡ true = held_is_there (hops ++ h ∷ []) a m (sym (ap (λ hs. number_of hs a) (sym long) ∙ has)) in
        let it : same_address a h ≡ true = or_false (same_address a h) (sym (any_more (same_address a) hops (h ∷ []) (new_is_not hops a (sym none))) ∙ there) in
        sym e ∙ ap (number_of (with_hop hops h)) (sym (same_address_is a h it))

pub new_put : (hops : List Address) (elem : code_elem.Elem) (v : code_via.Via) (p : code_prefix.Prefix) (path : ℕ) (hop : Addr) (n : Hop) → elem ≡ code_variant.Put v p path hop → number_of (with_hop hops (addr_as hop)) (addr_as hop) ≡ Some n.0
    → IsNewNumber hops (hops_after hops (elem_as elem ∷ [])) (Some n)
new_put hops elem v p path hop n is e = rw is (λ a i none. new_one hops (addr_as hop) a n.0 e i none)

-- a hop that has a number already changes nothing
pub held_already : (hops : List Address) (a : Address) (own : Option Hop) → option_map (λ h. h.0) own ≡ number_of (with_hop hops a) a → IfSome own (λ n. n.0 ≤ length hops) × IsSome own → hops ≡ with_hop hops a
held_already hops a None e held = let none : false ≡ true = held.1 in absurd cc
held_already hops a (Some n) e held = by_number (number_of hops a) refl
  where
    by_number : (o : Option ℕ) → number_of hops a ≡ o → hops ≡ with_hop hops a
    by_number (Some j) w = held_stays hops a j (sym w)
    by_number None w = let same : n.0 ≡ length hops + 1 = same_Some _ _ (e ∙ new_number hops a (sym w)) in absurd (omega (arith, same, held.0))

pub held_put : (hops : List Address) (elem : code_elem.Elem) (v : code_via.Via) (p : code_prefix.Prefix) (path : ℕ) (hop : Addr) (own : Option Hop) → elem ≡ code_variant.Put v p path hop → IsOwnNumber hops elem own → IfSome own (λ n. n.0 ≤ length hops) × IsSome own → hops ≡ hops_after hops (elem_as elem ∷ [])
held_put hops elem v p path hop own is owns held = rw is (held_already hops (addr_as hop) own (rw is at owns) held)

-- ---- whether hops are one

pub same_told : (before after : Option Addr) (a b : Addr) (t : Bool) → before ≡ Some a → after ≡ Some b → t ≡ same_address (addr_as a) (addr_as b) → is_other (option_map addr_as before) (option_map addr_as after) ≡ not t
same_told before after a b t x y e = rw (x, y, e) (by_test (same_address (addr_as a) (addr_as b)))
  where
    by_test : (s : Bool) → cond s false true ≡ not s
    by_test true = refl
    by_test false = refl

-- ---- routes with numbers

pub number_least : (hops : List Address) (a : Address) → IsNumbered hops a → 1 ≤ number_in hops a
number_least hops a (n, e, l, m) = let is : number_in hops a ≡ n = ap (λ (o : Option ℕ). unwrap_or o 0) e in omega (arith, l, is)

pub numbers_least : (hops : List Address) (routes : List (Prefix × Address)) → AllByRecursion (λ (r : Prefix × Address). IsNumbered hops r.1) routes → AllByRecursion (λ (r : Prefix × ℕ). 1 ≤ r.1) (number_routes hops routes)
numbers_least hops [] a = tt
numbers_least hops (r ∷ routes) a = (number_least hops r.1 a.0, numbers_least hops routes a.1)
