-- Changes of entries and routes, one by one.
use Rattle.std.proofs.Common.{◌≡◌, ℕ, zero, suc, ◌+◌, ◌<◌, List, [], ◌∷◌, ◌++◌, Bool, true, false, cond, Option, Some, None, length, nat_eq, get_or, take, drop, map, refl, sym, ap, subst, ◌∙◌}
use Rattle.std.specs.Prelude.{IsSome}
use Rattle.std.specs.Option.{option_and_then}
use Rattle.std.specs.List.{AllByRecursion}
use Rattle.std.proofs.lemmas.List.{map-append, drop_more, take_more}
use Rattle.table_model.specs.Address.{Prefix, IsPrefix, same_prefix}
use Rattle.table_model.specs.Order.{prefix_cmp}
use Rattle.table_model.specs.Entries.{Entries, with_entry}
use Rattle.table_model.specs.Changes.{Change, Add, Replace, Remove, after_change, after_changes}
use Rattle.route_model.proofs.Keyed.{same_entries, all_put, sorted_put, lookup-put, all_cut, sorted_cut, lookup-cut}
use Rattle.route_model.proofs.Places.{prefix_key}
use Rattle.kept_model.specs.Between.{entry_hop_at}
use Rattle.kept_model.proofs.Held.{Placed}
use Rattle.kept_model.specs.Patched.{with_route}
use Rattle.fib_delta.specs.declared.change.Change as code
use Rattle.fib_delta.specs.Views.{change_as}
use Rattle.orig_tree.specs.Views.{Labels}
use Rattle.orig_tree.specs.Walk.{has_node}
use Rattle.smalta_keep.specs.Rooms.{HasNode, HaveRoom, KeepsRoutes}
use Rattle.smalta_keep.specs.Routes.{put_back_in}

-- ---- changes of a list, one after another

pub opened : (xs : List code.Change) (i : ℕ) (x : code.Change) → i < length xs → x ≡ get_or xs i x → drop i xs ≡ x ∷ drop (i + 1) xs
opened xs i x l e = drop_more xs i x l ∙ ap (λ z. z ∷ drop (i + 1) xs) (sym e)

pub all_at : (P : Change → Type 0) (xs : List code.Change) (i : ℕ) → AllByRecursion P (map change_as xs) → AllByRecursion P (map change_as (drop i xs))
all_at P xs zero a = a
all_at P [] (suc i) a = tt
all_at P (x ∷ xs) (suc i) a = all_at P xs i a.1

pub one_at : (P : Change → Type 0) (xs : List code.Change) (i : ℕ) (x : code.Change) → i < length xs → x ≡ get_or xs i x → AllByRecursion P (map change_as xs) → P (change_as x)
one_at P xs i x l e a = (subst (λ (ys : List code.Change). AllByRecursion P (map change_as ys)) (opened xs i x l e) (all_at P xs i a)).0

all_more : (P : Change → Type 0) (cs : List Change) (c : Change) → AllByRecursion P cs → P c → AllByRecursion P (cs ++ c ∷ [])
all_more P [] c a x = (x, tt)
all_more P (d ∷ cs) c a x = (a.0, all_more P cs c a.1 x)

-- room is kept where nodes are
pub kept_one : (m n : List (List Bool)) (c : Change) → ((p : List Bool) → has_node p m ≡ true → has_node p n ≡ true) → HasNode m c → HasNode n c
kept_one m n (Add p h) k r = k p.bits r
kept_one m n (Replace p h) k r = k p.bits r
kept_one m n (Remove p) k r = tt

pub kept_room : (m n : List (List Bool)) (cs : List Change) → ((p : List Bool) → has_node p m ≡ true → has_node p n ≡ true) → HaveRoom m cs → HaveRoom n cs
kept_room m n [] k r = tt
kept_room m n (c ∷ cs) k r = (kept_one m n c k r.0, kept_room m n cs k r.1)

pub keeps_more : (a b c : Labels) → KeepsRoutes a b → KeepsRoutes b c → KeepsRoutes a c
keeps_more a b c x y = record { family = y.family ∙ x.family; routes = y.routes ∙ x.routes; nodes = λ p h. y.nodes p (x.nodes p h) }

pub keeps_itself : (a : Labels) → KeepsRoutes a a
keeps_itself a = record { family = refl; routes = refl; nodes = λ p h. h }

-- room for one more
pub room_more : (m n : List (List Bool)) (xs : List code.Change) (i : ℕ) (x : code.Change) → i < length xs → x ≡ get_or xs i x → ((p : List Bool) → has_node p m ≡ true → has_node p n ≡ true) → HaveRoom m (map change_as (take i xs)) → HasNode n (change_as x)
    → HaveRoom n (map change_as (take (i + 1) xs))
room_more m n xs i x l e k r h =
    let step : map change_as (take (i + 1) xs) ≡ map change_as (take i xs) ++ (change_as x ∷ []) =
    ap (map change_as) (take_more xs i x l ∙ ap (λ z. take i xs ++ (z ∷ [])) (sym e)) ∙ map-append change_as (take i xs) (x ∷ [])
    in
    subst (λ (cs : List Change). HaveRoom n cs) (sym step) (all_more (HasNode n) (map change_as (take i xs)) (change_as x) (kept_room m n (map change_as (take i xs)) k r) h)

-- the first change of those that fit fits
pub first_fits : (c : Change) (cs : List Change) (T : Entries) → IsSome (after_changes (c ∷ cs) T) → IsSome (after_change c T)
first_fits c cs T h = by_first (after_change c T) h
  where
    by_first : (o : Option Entries) → IsSome (option_and_then (after_changes cs) o) → IsSome o
    by_first None h = h
    by_first (Some M) h = refl

pub after_one : (c : Change) (cs : List Change) (T U : Entries) → after_change c T ≡ Some U → after_changes (c ∷ cs) T ≡ after_changes cs U
after_one c cs T U e = ap (option_and_then (after_changes cs)) e

-- ---- routes put back

routed_placed : (p : Prefix) (h : ℕ) (R : Entries) → IsPrefix p → Placed R → Placed (with_route p h R)
routed_placed p zero R x r = (all_cut (same_prefix p) IsPrefix R r.0, sorted_cut prefix_cmp (same_prefix p) R r.1)
routed_placed p (suc h) R x r = (all_put prefix_cmp IsPrefix R p (suc h) r.0 x, sorted_put prefix_key R p (suc h) r.1)

pub routed_elsewhere : (p q : Prefix) (h : ℕ) (R : Entries) → IsPrefix p → Placed R → same_prefix q p ≡ false → entry_hop_at q (with_route p h R) ≡ entry_hop_at q R
routed_elsewhere p q zero R x r n = lookup-cut prefix_key q p R r.1 ∙ ap (λ b. cond b None (entry_hop_at q R)) n
routed_elsewhere p q (suc h) R x r n = lookup-put prefix_key q R p (suc h) r.0 x ∙ ap (λ b. cond b (Some (suc h)) (entry_hop_at q R)) n

put_back_placed : (p : Prefix) (o : Option ℕ) (R : Entries) → IsPrefix p → Placed R → Placed (put_back_in p o R)
put_back_placed p None R x r = (all_cut (same_prefix p) IsPrefix R r.0, sorted_cut prefix_cmp (same_prefix p) R r.1)
put_back_placed p (Some h) R x r = (all_put prefix_cmp IsPrefix R p h r.0 x, sorted_put prefix_key R p h r.1)

pub put_back_hop : (p q : Prefix) (o : Option ℕ) (R : Entries) → IsPrefix p → Placed R → entry_hop_at q (put_back_in p o R) ≡ cond (same_prefix q p) o (entry_hop_at q R)
put_back_hop p q None R x r = lookup-cut prefix_key q p R r.1
put_back_hop p q (Some h) R x r = lookup-put prefix_key q R p h r.0 x

-- the route that was, put back, gives the routes that were
pub back_again : (p : Prefix) (h : ℕ) (R S : Entries) (o : Option ℕ) → IsPrefix p → Placed R → o ≡ entry_hop_at p R → S ≡ with_route p h R → put_back_in p o S ≡ R
back_again p h R S o x r e s =
    let t = routed_placed p h R x r in
    let u = put_back_placed p o (with_route p h R) x t in
    ap (put_back_in p o) s ∙ same_entries prefix_key (put_back_in p o (with_route p h R)) R u.1 r.1 u.0 r.0 (λ q. put_back_hop p q o (with_route p h R) x t ∙ by_test q (same_prefix q p) refl)
  where
    by_test : (q : Prefix) (b : Bool) → same_prefix q p ≡ b → cond b o (entry_hop_at q (with_route p h R)) ≡ entry_hop_at q R
    by_test q true b = e ∙ ap (λ z. entry_hop_at z R) (sym (prefix_key.same q p b))
    by_test q false b = routed_elsewhere p q h R x r b

pub routed_set : (p : Prefix) (h : ℕ) (R : Entries) → nat_eq h 0 ≡ false → with_route p h R ≡ with_entry R (p, h)
routed_set p zero R e = let t : nat_eq 0 0 ≡ true = refl in absurd cc
routed_set p (suc h) R e = refl
