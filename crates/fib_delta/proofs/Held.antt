-- What the router's map holds.
use Rattle.std.proofs.Common.{◌≡◌, List, [], ◌∷◌, Bool, true, false, cond, Some, refl, sym, ap, subst, ◌∙◌, ◌≤◌}
use Rattle.std.specs.Prelude.{is_some}
use Rattle.std.specs.List.{AllByRecursion}
use Rattle.std.specs.List.Sorted.{IsStrictlySortedBy}
use Rattle.std.specs.Map.{lookup, keys_of, remove_entry}
use Rattle.std.specs.Ordering.{match_ordering, is_eq}
use Rattle.std.specs.BTreeMap.{insert_entry, is_at}
use Rattle.std.specs.declared.cmp.Ordering.{Ordering}
use Rattle.std.specs.declared.cmp.Ordering.TheVariants.{Less, Equal, Greater}
use Rattle.table_model.specs.Width.{width}
use Rattle.table_model.specs.Address.{IsPrefix, same_prefix}
use Rattle.table_model.specs.Order.{prefix_cmp}
use Rattle.fib_addr.specs.declared.prefix.Prefix as code
use Rattle.fib_addr.specs.declared.entry.Hop as code_hop
use Rattle.fib_addr.specs.Views.{prefix_as}
use Rattle.fib_addr.specs.Order.{code_cmp}
use Rattle.fib_addr.proofs.Ordering.{cmp_is}
use Rattle.fib_addr.proofs.Parts.{length_prefix}
use Rattle.table_model.specs.Changes.{is_held}
use Rattle.route_model.proofs.Keyed.{key_test}
use Rattle.route_model.proofs.Places.{prefix_key}
use Rattle.fib_delta.specs.Views.{held_as, InPlace}

Held : Type 0
Held = List (code.Prefix × code_hop.Hop)

pub is_prefix : (p : code.Prefix) → IsPrefix (prefix_as p)
is_prefix p = subst (λ n. n ≤ width p.family) (sym (length_prefix (width p.family) p.len p.bits p.fits)) p.fits

pub prefix_same : (p q : code.Prefix) → is_eq (code_cmp p q) ≡ same_prefix (prefix_as p) (prefix_as q)
prefix_same p q = ap is_eq (cmp_is p q) ∙ key_test prefix_key (prefix_as p) (prefix_as q) (is_prefix p) (is_prefix q)

is_some_map : (b : Bool) (v : code_hop.Hop) (es : List (code.Prefix × code_hop.Hop)) (p : code.Prefix) → is_some (lookup (is_at (code_cmp p)) es) ≡ is_held (prefix_as p) (held_as es)
    → is_some (cond b (Some v) (lookup (is_at (code_cmp p)) es)) ≡ is_some (cond b (Some v.0) (lookup (same_prefix (prefix_as p)) (held_as es)))
is_some_map true v es p ih = refl
is_some_map false v es p ih = ih

-- whether there is an entry
pub contains_is : (p : code.Prefix) (es : List (code.Prefix × code_hop.Hop)) → is_some (lookup (is_at (code_cmp p)) es) ≡ is_held (prefix_as p) (held_as es)
contains_is p [] = refl
contains_is p (e ∷ es) =
    is_some_map (is_eq (code_cmp p e.0)) e.1 es p (contains_is p es)
    ∙ ap (λ b. is_some (cond b (Some e.1.0) (lookup (same_prefix (prefix_as p)) (held_as es)))) (prefix_same p e.0)

-- with an entry put in
pub put_is : (p : code.Prefix) (h : code_hop.Hop) (es : List (code.Prefix × code_hop.Hop)) → held_as (insert_entry code_cmp es p h) ≡ insert_entry prefix_cmp (held_as es) (prefix_as p) h.0
put_is p h [] = refl
put_is p h (e ∷ es) = by_order (code_cmp p e.0) (put_is p h es) ∙ ap (λ o. match_ordering o ((prefix_as p, h.0) ∷ held_as (e ∷ es)) ((prefix_as e.0, h.0) ∷ held_as es) ((prefix_as e.0, e.1.0) ∷ insert_entry prefix_cmp (held_as es) (prefix_as p) h.0)) (cmp_is p e.0)
  where
    by_order : (o : Ordering) → held_as (insert_entry code_cmp es p h) ≡ insert_entry prefix_cmp (held_as es) (prefix_as p) h.0
        → held_as (match_ordering o ((p, h) ∷ e ∷ es) ((e.0, h) ∷ es) (e ∷ insert_entry code_cmp es p h))
        ≡ match_ordering o ((prefix_as p, h.0) ∷ held_as (e ∷ es)) ((prefix_as e.0, h.0) ∷ held_as es) ((prefix_as e.0, e.1.0) ∷ insert_entry prefix_cmp (held_as es) (prefix_as p) h.0)
    by_order Less ih = refl
    by_order Equal ih = refl
    by_order Greater ih = ap (λ M. (prefix_as e.0, e.1.0) ∷ M) ih

-- with one taken away
pub take_is : (p : code.Prefix) (es : List (code.Prefix × code_hop.Hop)) → held_as (remove_entry (is_at (code_cmp p)) es) ≡ remove_entry (same_prefix (prefix_as p)) (held_as es)
take_is p [] = refl
take_is p (e ∷ es) = by_test (is_eq (code_cmp p e.0)) (take_is p es) ∙ ap (λ b. cond b (held_as es) ((prefix_as e.0, e.1.0) ∷ remove_entry (same_prefix (prefix_as p)) (held_as es))) (prefix_same p e.0)
  where
    by_test : (b : Bool) → held_as (remove_entry (is_at (code_cmp p)) es) ≡ remove_entry (same_prefix (prefix_as p)) (held_as es)
        → held_as (cond b es (e ∷ remove_entry (is_at (code_cmp p)) es)) ≡ cond b (held_as es) ((prefix_as e.0, e.1.0) ∷ remove_entry (same_prefix (prefix_as p)) (held_as es))
    by_test true ih = refl
    by_test false ih = ap (λ M. (prefix_as e.0, e.1.0) ∷ M) ih

all_prefixes : (es : List (code.Prefix × code_hop.Hop)) → AllByRecursion IsPrefix (keys_of (held_as es))
all_prefixes [] = tt
all_prefixes (e ∷ es) = (is_prefix e.0, all_prefixes es)

all_past : (p : code.Prefix) (es : List (code.Prefix × code_hop.Hop)) → AllByRecursion (λ q. code_cmp p q ≡ Less) (keys_of es) → AllByRecursion (λ q. prefix_cmp (prefix_as p) q ≡ Less) (keys_of (held_as es))
all_past p [] a = tt
all_past p (e ∷ es) a = (sym (cmp_is p e.0) ∙ a.0, all_past p es a.1)

sorted_is : (es : List (code.Prefix × code_hop.Hop)) → IsStrictlySortedBy code_cmp (keys_of es) → IsStrictlySortedBy prefix_cmp (keys_of (held_as es))
unfolding IsStrictlySortedBy
sorted_is [] s = tt
sorted_is (e ∷ es) s = (all_past e.0 es s.0, sorted_is es s.1)

-- they stand in order
pub in_place : (es : List (code.Prefix × code_hop.Hop)) → IsStrictlySortedBy code_cmp (keys_of es) → InPlace (held_as es)
in_place es s = (all_prefixes es, sorted_is es s)
