-- The offers of both parts together.
use Rattle.std.proofs.Common.{◌≡◌, List, [], ◌∷◌, ◌++◌, Bool, true, false, cond, Option, Some, None, refl, sym, ap, subst, ◌∙◌}
use Rattle.std.specs.Prelude.{is_some, OnErr}
use Rattle.std.proofs.Common.{Result, Ok, Err}
use Rattle.std.specs.Map.{lookup}
use Rattle.std.specs.Ordering.{is_eq}
use Rattle.std.specs.BTreeMap.{is_at}
use Rattle.adj_rib_in.specs.declared.keys.PathKey.{PathKey}
use Rattle.adj_rib_in.specs.declared.keys.PathAttrs.{PathAttrs}
use Rattle.adj_rib_in.specs.Orders.{key_cmp}
use Rattle.adj_rib_in.specs.Paths.{Paths, flat, attrs_at}
use Rattle.adj_rib_in.specs.Flat.{ShareNoKey, Puts, Offers, SameOffers, NoKeyComes}
use Rattle.adj_rib_in.proofs.Flats.{or_else, same_lookup}

pub lookup_both : {X : Type 0} (f : PathKey → Bool) (xs ys : List (PathKey × X)) → lookup f (xs ++ ys) ≡ or_else (lookup f xs) (lookup f ys)
lookup_both f [] ys = refl
lookup_both {X = X} f (x ∷ xs) ys = by_test (f x.0) (lookup_both f xs ys)
  where
    by_test : (b : Bool) → lookup f (xs ++ ys) ≡ or_else (lookup f xs) (lookup f ys) → cond b (Some x.1) (lookup f (xs ++ ys)) ≡ or_else (cond b (Some x.1) (lookup f xs)) (lookup f ys)
    by_test true ih = refl
    by_test false ih = ih

abbrev at : PathKey → Paths → Option (Option PathAttrs)
at s xs = lookup (is_at (key_cmp s)) xs

pub attrs_both : (s : PathKey) (xs ys : Paths) → attrs_at (xs ++ ys) s ≡ flat (or_else (at s xs) (at s ys))
attrs_both s xs ys = ap flat (lookup_both (is_at (key_cmp s)) xs ys)

-- where the flat part has no path key, the other part tells
pub attrs_over : (s : PathKey) (xs ys : Paths) → at s xs ≡ None → attrs_at (xs ++ ys) s ≡ attrs_at ys s
attrs_over s xs ys n = attrs_both s xs ys ∙ ap (λ o. flat (or_else o (at s ys))) n

pub attrs_under : (s : PathKey) (xs ys : Paths) (o : Option PathAttrs) → at s xs ≡ Some o → attrs_at (xs ++ ys) s ≡ o
attrs_under s xs ys o e = attrs_both s xs ys ∙ ap (λ x. flat (or_else x (at s ys))) e

same_attrs_at : (s q : PathKey) (ys : Paths) → is_eq (key_cmp s q) ≡ true → attrs_at ys q ≡ attrs_at ys s
same_attrs_at s q ys e = ap flat (same_lookup s q ys e)

-- something offered in the flat part, where the other part offers nothing
pub flat_offers : (xs new ys : Paths) (t : PathKey) (o : Option PathAttrs) → Puts xs new t o → Offers (xs ++ ys) (new ++ ys) t o
flat_offers xs new ys t o h s = attrs_both s new ys ∙ (ap (λ x. flat (or_else x (at s ys))) (h s) ∙ by_test (is_eq (key_cmp t s)))
  where
    by_test : (b : Bool) → flat (or_else (cond b (Some o) (at s xs)) (at s ys)) ≡ cond b o (attrs_at (xs ++ ys) s)
    by_test true = refl
    by_test false = sym (attrs_both s xs ys)

pub flat_apart : (xs new ys : Paths) (t : PathKey) (o : Option PathAttrs) → ShareNoKey xs ys → attrs_at ys t ≡ None → Puts xs new t o → ShareNoKey new ys
flat_apart xs new ys t o a n h s attrs e = h s ∙ by_test (is_eq (key_cmp t s)) refl
  where
    by_test : (b : Bool) → is_eq (key_cmp t s) ≡ b → cond b (Some o) (at s xs) ≡ None
    by_test true m = let x : None ≡ Some attrs = sym n ∙ (sym (same_attrs_at t s ys m) ∙ e) in absurd cc
    by_test false m = a s attrs e

-- a path key of the flat part has no offer in the other
pub no_other : (xs ys : Paths) (t : PathKey) (o : Option PathAttrs) → ShareNoKey xs ys → at t xs ≡ Some o → attrs_at ys t ≡ None
no_other xs ys t o a e = by_attrs (attrs_at ys t) refl
  where
    by_attrs : (v : Option PathAttrs) → attrs_at ys t ≡ v → v ≡ None
    by_attrs None h = refl
    by_attrs (Some attrs) h = let x : None ≡ Some o = sym (a t attrs h) ∙ e in absurd cc

-- something offered in the other part, where the flat part has no path key
pub over_offers : (xs ys new : Paths) (t : PathKey) (o : Option PathAttrs) → at t xs ≡ None → Offers ys new t o → Offers (xs ++ ys) (xs ++ new) t o
over_offers xs ys new t o n h s = by_key (at s xs) refl
  where
    apart : (v : Option PathAttrs) → at s xs ≡ Some v → (b : Bool) → is_eq (key_cmp t s) ≡ b → b ≡ false
    apart v e true m = let x : None ≡ Some v = sym n ∙ (sym (same_lookup t s xs m) ∙ e) in absurd cc
    apart v e false m = refl

    by_key : (v : Option (Option PathAttrs)) → at s xs ≡ v → attrs_at (xs ++ new) s ≡ cond (is_eq (key_cmp t s)) o (attrs_at (xs ++ ys) s)
    by_key None e = attrs_over s xs new e ∙ (h s ∙ ap (cond (is_eq (key_cmp t s)) o) (sym (attrs_over s xs ys e)))
    by_key (Some v) e = attrs_under s xs new v e ∙ (sym (attrs_under s xs ys v e) ∙ ap (λ b. cond b o (attrs_at (xs ++ ys) s)) (sym (apart v e (is_eq (key_cmp t s)) refl)))

pub over_apart : (xs ys new : Paths) (t : PathKey) (o : Option PathAttrs) → ShareNoKey xs ys → at t xs ≡ None → Offers ys new t o → ShareNoKey xs new
over_apart xs ys new t o a n h s attrs e = by_test (is_eq (key_cmp t s)) refl (sym (h s) ∙ e)
  where
    by_test : (b : Bool) → is_eq (key_cmp t s) ≡ b → cond b o (attrs_at ys s) ≡ Some attrs → at s xs ≡ None
    by_test true m f = same_lookup t s xs m ∙ n
    by_test false m f = a s attrs f

pub over_same : (xs ys new : Paths) → SameOffers ys new → SameOffers (xs ++ ys) (xs ++ new)
over_same xs ys new h s = attrs_both s xs new ∙ (by_key (at s xs) ∙ sym (attrs_both s xs ys))
  where
    by_key : (v : Option (Option PathAttrs)) → flat (or_else v (at s new)) ≡ flat (or_else v (at s ys))
    by_key None = h s
    by_key (Some v) = refl

pub apart_same : (xs ys new : Paths) → SameOffers ys new → ShareNoKey xs ys → ShareNoKey xs new
apart_same xs ys new h a s attrs e = a s attrs (sym (h s) ∙ e)

pub under_same : (xs new ys : Paths) → new ≡ xs → SameOffers (xs ++ ys) (new ++ ys)
under_same xs new ys e s = ap (λ zs. attrs_at (zs ++ ys) s) e

pub under_apart : (xs new ys : Paths) → new ≡ xs → ShareNoKey xs ys → ShareNoKey new ys
under_apart xs new ys e a = subst (λ zs. ShareNoKey zs ys) (sym e) a

-- ---- behind all others

pub nothing : {X : Type 0} (o : Option X) (b : Bool) → b ≡ is_some o → b ≡ false → o ≡ None
nothing None b e f = refl
nothing (Some o) b e f = let x : false ≡ true = sym f ∙ e in absurd cc

pub behind_apart : (b : Bool) (xs new ys : Paths) (t : PathKey) (o : Option PathAttrs) → (b ≡ true → Puts xs new t o) → (b ≡ false → new ≡ xs) → ShareNoKey xs ys → attrs_at ys t ≡ None → ShareNoKey new ys
behind_apart true xs new ys t o y n a e = flat_apart xs new ys t o a e (y refl)
behind_apart false xs new ys t o y n a e = under_apart xs new ys (n refl) a

pub over_offers_from : (xs new ys after : Paths) (t : PathKey) (o : Option PathAttrs) → new ≡ xs → at t xs ≡ None → Offers ys after t o → Offers (xs ++ ys) (new ++ after) t o
over_offers_from xs new ys after t o e n h = subst (λ zs. Offers (xs ++ ys) (zs ++ after) t o) (sym e) (over_offers xs ys after t o n h)

pub both_same : (xs new ys after : Paths) → new ≡ xs → SameOffers ys after → SameOffers (xs ++ ys) (new ++ after)
both_same xs new ys after e h = subst (λ zs. SameOffers (xs ++ ys) (zs ++ after)) (sym e) (over_same xs ys after h)

pub still_none : (xs new : Paths) (t : PathKey) → new ≡ xs → at t xs ≡ None → at t new ≡ None
still_none xs new t e n = ap (at t) e ∙ n

pub on_err : {A B : Type 0} (r : Result A B) {P : Type 0} → P → OnErr r P
on_err (Ok x) h = tt
on_err (Err x) h = h

pub puts_as : (xs new : Paths) (s t : PathKey) (o p : Option PathAttrs) → s ≡ t → o ≡ p → Puts xs new s o → Puts xs new t p
puts_as xs new s t o p e a h = subst (λ r. Puts xs new r p) e (subst (Puts xs new s) a h)

-- nothing offered any more in the flat part, from which path keys may go
pub flat_ends : (xs new ys : Paths) (t : PathKey) (o : Option PathAttrs) → ShareNoKey xs ys → at t xs ≡ Some o → Offers xs new t None → NoKeyComes xs new → Offers (xs ++ ys) (new ++ ys) t None
flat_ends xs new ys t o a there h none s = by_old (at s xs) refl
  where
    other : at s xs ≡ None → (b : Bool) → is_eq (key_cmp t s) ≡ b → b ≡ false
    other e true m = let x : Some o ≡ None = sym there ∙ (sym (same_lookup t s xs m) ∙ e) in absurd cc
    other e false m = refl

    by_new : (v : Option PathAttrs) → at s xs ≡ Some v → (w : Option (Option PathAttrs)) → at s new ≡ w → attrs_at (new ++ ys) s ≡ flat w
    by_new v e None f = attrs_over s new ys f ∙ no_other xs ys s v a e
    by_new v e (Some w) f = attrs_under s new ys w f

    by_old : (v : Option (Option PathAttrs)) → at s xs ≡ v → attrs_at (new ++ ys) s ≡ cond (is_eq (key_cmp t s)) None (attrs_at (xs ++ ys) s)
    by_old None e =
        attrs_over s new ys (none s e) ∙ (sym (attrs_over s xs ys e) ∙ sym (ap (λ b. cond b None (attrs_at (xs ++ ys) s)) (other e (is_eq (key_cmp t s)) refl)))
    by_old (Some v) e =
        by_new v e (at s new) refl ∙ (h s ∙ (ap (λ x. cond (is_eq (key_cmp t s)) None (flat x)) e ∙ sym (ap (cond (is_eq (key_cmp t s)) None) (attrs_under s xs ys v e))))

pub fewer_apart : (xs new ys : Paths) → NoKeyComes xs new → ShareNoKey xs ys → ShareNoKey new ys
fewer_apart xs new ys h a s attrs e = h s (a s attrs e)
