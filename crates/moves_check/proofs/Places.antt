-- The look-ups of old entries.
use Rattle.std.proofs.Common.{◌≡◌, ℕ, zero, suc, ◌<◌, ◌≤◌, List, [], ◌∷◌, Bool, true, false, not, cond, Option, Some, None, length, map, get_or, refl, sym, ap, ◌∙◌, arith}
use Rattle.std.specs.Prelude.{◌&&◌, ◌||◌}
use Rattle.std.specs.List.{AllByRecursion, AllWithin}
use Rattle.std.specs.List.Sorted.{IsStrictlySortedBy, IsPartitionedBy}
use Rattle.std.specs.Map.{keys_of, lookup}
use Rattle.std.specs.Ordering.{ordering_then, ordering_reverse, is_lt, is_eq}
use Rattle.std.specs.declared.cmp.Ordering.{Ordering}
use Rattle.std.specs.declared.cmp.Ordering.TheVariants.{Less, Equal, Greater}
use Rattle.table_model.specs.Address.{Prefix, IsPrefix, same_family, same_prefix}
use Rattle.table_model.specs.Bits.{begins}
use Rattle.table_model.specs.Halves.{is_within}
use Rattle.table_model.specs.Order.{prefix_cmp, family_cmp}
use Rattle.table_model.specs.declared.family.Family.{Family}
use Rattle.table_model.specs.declared.family.Family.TheVariants.{V4, V6}
use Rattle.table_model.proofs.Ordered.{path_order}
use Rattle.table_model.proofs.SamePrefix.{same_family_is}
use Rattle.table_model.specs.Table.{cut}
use Rattle.table_model.specs.Entries.{Entries, of_family}
use Rattle.route_model.proofs.Places.{prefix_key}
use Rattle.route_model.proofs.Keyed.{not_same_greater, lookup-below}
use Rattle.kept_model.proofs.Patches.{family_hop}
use Rattle.fib_addr.specs.Views.{prefix_as, entry_as}
use Rattle.fib_addr.specs.declared.entry.Entry as code_entry
use Rattle.moves_model.specs.Demands.{is_bare, none_below, old_at}
use Rattle.moves_check.specs.Places.{stands_before, IsPlaceOf}
use Rattle.moves_check.proofs.Olds.{strictly, strictly_after, convex, after_begins, bare_step, bare_nil}
use Rattle.fib_delta.specs.Views.{InPlace}

-- ---- orders

flip : (p q : Prefix) (o : Ordering) → prefix_cmp p q ≡ o → prefix_cmp q p ≡ ordering_reverse o
flip p q o e = prefix_key.total.antisymm q p ∙ ap ordering_reverse e

-- it doesn't pass: it comes after p, where p itself would pass
later : (p q : Prefix) → stands_before p true q ≡ false → prefix_cmp p q ≡ Less
later p q e = flip q p Greater (by_order (prefix_cmp q p) e)
  where
    by_order : (o : Ordering) → is_lt o || (true && is_eq o) ≡ false → o ≡ Greater
    by_order Less x = cc
    by_order Equal x = cc
    by_order Greater x = refl

not_later : (p q : Prefix) → stands_before p true q ≡ true → prefix_cmp p q ≡ Less → ⊥
not_later p q e l = by_order (prefix_cmp q p) e (flip p q Less l)
  where
    by_order : (o : Ordering) → is_lt o || (true && is_eq o) ≡ true → o ≡ Greater → ⊥
    by_order Less x y = cc
    by_order Equal x y = cc
    by_order Greater x y = cc

earlier : (p q : Prefix) → stands_before p false q ≡ true → prefix_cmp q p ≡ Less
earlier p q e = by_order (prefix_cmp q p) e
  where
    by_order : (o : Ordering) → is_lt o || (false && is_eq o) ≡ true → o ≡ Less
    by_order Less x = refl
    by_order Equal x = cc
    by_order Greater x = cc

-- ---- families

between_families : (f g h : Family) (a b : Ordering) → f ≡ h → ordering_then (family_cmp f g) a ≡ Less → ordering_then (family_cmp g h) b ≡ Less → f ≡ g
between_families V4 V4 h a b e x y = refl
between_families V6 V6 h a b e x y = refl
between_families V4 V6 V4 a b e x y = cc
between_families V4 V6 V6 a b e x y = cc
between_families V6 V4 h a b e x y = cc

-- ---- strictly within

abbrev strict : Prefix → Prefix → Bool
strict p q = same_family p.family q.family && strictly p.bits q.bits

two : (a b : Bool) → a && b ≡ true → (a ≡ true) × (b ≡ true)
two true b e = (refl, e)
two false b e = cc

both_true : (a b : Bool) → a ≡ true → b ≡ true → a && b ≡ true
both_true true b e k = k
both_true false b e k = cc

strict_less : (p q : Prefix) → IsPrefix p → IsPrefix q → strict p q ≡ true → prefix_cmp p q ≡ Less
strict_less p q h k e =
    let t = two (same_family p.family q.family) (strictly p.bits q.bits) e in
    path_order p q h k (same_family_is p.family q.family t.0) ∙ strictly_after p.bits q.bits t.1

strict_between : (p q r : Prefix) → IsPrefix p → IsPrefix q → IsPrefix r → prefix_cmp p q ≡ Less → prefix_cmp q r ≡ Less → strict p r ≡ true → strict p q ≡ true
strict_between p q r h k l a b e =
    let t = two (same_family p.family r.family) (strictly p.bits r.bits) e in
    let pr : p.family ≡ r.family = same_family_is p.family r.family t.0 in
    let pq : p.family ≡ q.family = between_families p.family q.family r.family _ _ pr a b in
    both_true (same_family p.family q.family) (strictly p.bits q.bits) (ap (same_family p.family) (sym pq ∙ pr) ∙ t.0)
    (convex p.bits q.bits r.bits (sym (path_order p q h k pq) ∙ a) (sym (path_order q r k l (sym pq ∙ pr)) ∙ b) t.1)

strict_within : (p q : Prefix) → IsPrefix p → IsPrefix q → prefix_cmp p q ≡ Less → strict p q ≡ is_within q p
strict_within p q h k a = by_family (same_family p.family q.family) (λ e. after_begins p.bits q.bits (sym (path_order p q h k (same_family_is p.family q.family e)) ∙ a))
  where
    by_family : (b : Bool) → (b ≡ true → strictly p.bits q.bits ≡ begins p.bits q.bits) → b && strictly p.bits q.bits ≡ b && begins p.bits q.bits
    by_family true f = f refl
    by_family false f = refl

below_step : (p q : Prefix) (h : ℕ) (T : Entries) → none_below ((q, h) ∷ T) p ≡ cond (strict p q) false (none_below T p)
below_step p q h T = by_family (same_family p.family q.family)
  where
    by_family : (b : Bool) → is_bare (cut p.bits (cond b (record { prefix = q.bits; hop = h } ∷ of_family p.family T) (of_family p.family T))) ≡ cond (b && strictly p.bits q.bits) false (none_below T p)
    by_family true = bare_step p.bits q.bits h (of_family p.family T)
    by_family false = refl

if_not : (b : Bool) → (b ≡ true → ⊥) → b ≡ false
if_not true f = absurd (f refl)
if_not false f = refl

not_both : (b : Bool) → b ≡ true → b ≡ false → ⊥
not_both b e f = cc

none_after : (p q : Prefix) (T : Entries) → IsPrefix p → IsPrefix q → AllByRecursion IsPrefix (keys_of T) → prefix_cmp p q ≡ Less → strict p q ≡ false → AllByRecursion (λ r. prefix_cmp q r ≡ Less) (keys_of T) → none_below T p ≡ true
none_after p q [] h k t a s l = bare_nil p.bits
none_after p q (e ∷ T) h k t a s l =
    below_step p e.0 e.1 T ∙ (ap (λ b. cond b false (none_below T p)) (if_not (strict p e.0) (λ x. not_both (strict p q) (strict_between p q e.0 h k t.0 a l.0 x) s)) ∙ none_after p q T h k t.1 a s l.1)

-- ---- the rest after so many entries

shift : {X : Type 0} (P : X → Type 0) (x : X) (xs : List X) (n m : ℕ) → AllWithin P (x ∷ xs) (suc n) (suc m) → AllWithin P xs n m
shift P x xs n m a = λ k d lo hi. a (suc k) d (omega arith) (omega arith)

from_zero : {X : Type 0} (P : X → Type 0) (x : X) (xs : List X) (m : ℕ) → AllWithin P (x ∷ xs) zero (suc m) → AllWithin P xs zero m
from_zero P x xs m a = λ k d lo hi. a (suc k) d (omega arith) (omega arith)

abbrev pub bare_rest : Prefix → List code_entry.Entry → ℕ → Bool
bare_rest p [] n = true
bare_rest p (e ∷ es) zero = not (is_within (prefix_as e.prefix) p)
bare_rest p (e ∷ es) (suc n) = bare_rest p es n

pub bare_rest_some : (p : Prefix) (es : List code_entry.Entry) (n : ℕ) (d : code_entry.Entry) → n < length es → bare_rest p es n ≡ not (is_within (prefix_as (get_or es n d).prefix) p)
bare_rest_some p [] n d lt = absurd (omega arith)
bare_rest_some p (e ∷ es) zero d lt = refl
bare_rest_some p (e ∷ es) (suc n) d lt = bare_rest_some p es n d (omega arith)

pub bare_rest_none : (p : Prefix) (es : List code_entry.Entry) (n : ℕ) → length es ≤ n → bare_rest p es n ≡ true
bare_rest_none p [] n le = refl
bare_rest_none p (e ∷ es) zero le = absurd (omega arith)
bare_rest_none p (e ∷ es) (suc n) le = bare_rest_none p es n (omega arith)

pub bare_placed : (p : Prefix) (es : List code_entry.Entry) (n : ℕ) → IsPrefix p → InPlace (map entry_as es) → n ≤ length es → IsPlaceOf p true es n → none_below (map entry_as es) p ≡ bare_rest p es n
unfolding IsStrictlySortedBy
bare_placed p [] n h pl le w = bare_nil p.bits
bare_placed p (e ∷ es) zero h pl le w =
    let a = later p (prefix_as e.prefix) (w.1 0 e (omega arith) (omega arith)) in
    below_step p (prefix_as e.prefix) (entry_as e).1 (map entry_as es) ∙ (by_test (strict p (prefix_as e.prefix)) refl a ∙ ap not (strict_within p (prefix_as e.prefix) h pl.0.0 a))
  where
    by_test : (b : Bool) → strict p (prefix_as e.prefix) ≡ b → prefix_cmp p (prefix_as e.prefix) ≡ Less → cond b false (none_below (map entry_as es) p) ≡ not b
    by_test true s a = refl
    by_test false s a = none_after p (prefix_as e.prefix) (map entry_as es) h pl.0.0 pl.0.1 a s pl.1.0
bare_placed p (e ∷ es) (suc n) h pl le w =
    below_step p (prefix_as e.prefix) (entry_as e).1 (map entry_as es)
    ∙ (ap (λ b. cond b false (none_below (map entry_as es) p)) (if_not (strict p (prefix_as e.prefix)) (λ x. not_later p (prefix_as e.prefix) (w.0 0 e (omega arith) (omega arith)) (strict_less p (prefix_as e.prefix) h pl.0.0 x)))
    ∙ bare_placed p es n h (pl.0.1, pl.1.1) (omega arith) (from_zero (λ (x : code_entry.Entry). stands_before p true (prefix_as x.prefix) ≡ true) e es n w.0, shift (λ (x : code_entry.Entry). stands_before p true (prefix_as x.prefix) ≡ false) e es n (length es) w.1))

-- ---- the hop of an entry

abbrev pub hop_rest : Prefix → List code_entry.Entry → ℕ → Option ℕ
hop_rest p [] n = None
hop_rest p (e ∷ es) zero = cond (same_prefix p (prefix_as e.prefix)) (Some (entry_as e).1) None
hop_rest p (e ∷ es) (suc n) = hop_rest p es n

pub hop_rest_some : (p : Prefix) (es : List code_entry.Entry) (n : ℕ) (d : code_entry.Entry) → n < length es → hop_rest p es n ≡ cond (same_prefix p (prefix_as (get_or es n d).prefix)) (Some (entry_as (get_or es n d)).1) None
hop_rest_some p [] n d lt = absurd (omega arith)
hop_rest_some p (e ∷ es) zero d lt = refl
hop_rest_some p (e ∷ es) (suc n) d lt = hop_rest_some p es n d (omega arith)

pub hop_rest_none : (p : Prefix) (es : List code_entry.Entry) (n : ℕ) → length es ≤ n → hop_rest p es n ≡ None
hop_rest_none p [] n le = refl
hop_rest_none p (e ∷ es) zero le = absurd (omega arith)
hop_rest_none p (e ∷ es) (suc n) le = hop_rest_none p es n (omega arith)

before_all : (p q : Prefix) (ps : List Prefix) → prefix_cmp p q ≡ Less → AllByRecursion (λ r. prefix_cmp q r ≡ Less) ps → AllByRecursion (λ r. prefix_cmp p r ≡ Less) ps
before_all p q [] l a = tt
before_all p q (r ∷ ps) l a = (prefix_key.total.trans p q r l a.0, before_all p q ps l a.1)

-- neither before p nor p itself
past : (p q : Prefix) → IsPrefix p → IsPrefix q → stands_before p false q ≡ false → same_prefix p q ≡ false → prefix_cmp p q ≡ Less
past p q h k e s = by_order (prefix_cmp q p) refl e
  where
    by_order : (o : Ordering) → prefix_cmp q p ≡ o → is_lt o || (false && is_eq o) ≡ false → prefix_cmp p q ≡ Less
    by_order Less x y = cc
    by_order Equal x y = absurd (not_both (same_prefix p q) (ap (λ z. same_prefix p z) (prefix_key.exact q p k h x) ∙ prefix_key.itself p) s)
    by_order Greater x y = flip q p Greater x

pub hop_placed : (p : Prefix) (es : List code_entry.Entry) (n : ℕ) → IsPrefix p → InPlace (map entry_as es) → n ≤ length es → IsPlaceOf p false es n → lookup (same_prefix p) (map entry_as es) ≡ hop_rest p es n
unfolding IsStrictlySortedBy
hop_placed p [] n h pl le w = refl
hop_placed p (e ∷ es) zero h pl le w = by_test (same_prefix p (prefix_as e.prefix)) refl
  where
    by_test : (b : Bool) → same_prefix p (prefix_as e.prefix) ≡ b → cond b (Some (entry_as e).1) (lookup (same_prefix p) (map entry_as es)) ≡ cond b (Some (entry_as e).1) None
    by_test true s = refl
    by_test false s = lookup-below prefix_key p (map entry_as es) (before_all p (prefix_as e.prefix) (keys_of (map entry_as es)) (past p (prefix_as e.prefix) h pl.0.0 (w.1 0 e (omega arith) (omega arith)) s) pl.1.0)
hop_placed p (e ∷ es) (suc n) h pl le w =
    ap (λ b. cond b (Some (entry_as e).1) (lookup (same_prefix p) (map entry_as es))) (not_same_greater prefix_key (prefix_as e.prefix) p (earlier p (prefix_as e.prefix) (w.0 0 e (omega arith) (omega arith))))
    ∙ hop_placed p es n h (pl.0.1, pl.1.1) (omega arith) (from_zero (λ (x : code_entry.Entry). stands_before p false (prefix_as x.prefix) ≡ true) e es n w.0, shift (λ (x : code_entry.Entry). stands_before p false (prefix_as x.prefix) ≡ false) e es n (length es) w.1)

pub old_placed : (p : Prefix) (es : List code_entry.Entry) (n : ℕ) → IsPrefix p → InPlace (map entry_as es) → n ≤ length es → IsPlaceOf p false es n → old_at (map entry_as es) p ≡ hop_rest p es n
old_placed p es n h pl le w = family_hop p.family p.bits (map entry_as es) ∙ hop_placed p es n h pl le w

-- ---- in order, what passes comes first

passes_before : (p q r : Prefix) (b : Bool) → prefix_cmp q r ≡ Less → stands_before p b r ≡ true → stands_before p b q ≡ true
passes_before p q r b l e = ap (λ o. is_lt o || (b && is_eq o)) (by_order (prefix_cmp r p) refl b e)
  where
    by_order : (o : Ordering) → prefix_cmp r p ≡ o → (c : Bool) → is_lt o || (c && is_eq o) ≡ true → prefix_cmp q p ≡ Less
    by_order Less x c y = prefix_key.total.trans q r p l x
    by_order Equal x c y = flip p q Greater (sym (prefix_key.total.congr r p q x) ∙ flip q r Less l)
    by_order Greater x true y = cc
    by_order Greater x false y = cc

key_at : (P : Prefix → Type 0) (es : List code_entry.Entry) (j : ℕ) (d : code_entry.Entry) → j < length es → AllByRecursion P (keys_of (map entry_as es)) → P (prefix_as (get_or es j d).prefix)
key_at P [] j d lt a = absurd (omega arith)
key_at P (e ∷ es) zero d lt a = a.0
key_at P (e ∷ es) (suc j) d lt a = key_at P es j d (omega arith) a.1

pub parted : (p : Prefix) (b : Bool) (es : List code_entry.Entry) → IsStrictlySortedBy prefix_cmp (keys_of (map entry_as es)) → IsPartitionedBy (λ (e : code_entry.Entry). stands_before p b (prefix_as e.prefix)) es
unfolding IsStrictlySortedBy
parted p b [] s i j d le lt e = absurd (omega arith)
parted p b (x ∷ es) s zero zero d le lt e = e
parted p b (x ∷ es) s zero (suc j) d le lt e = passes_before p (prefix_as x.prefix) (prefix_as (get_or es j d).prefix) b (key_at (λ r. prefix_cmp (prefix_as x.prefix) r ≡ Less) es j d (omega arith) s.0) e
parted p b (x ∷ es) s (suc i) zero d le lt e = absurd (omega arith)
parted p b (x ∷ es) s (suc i) (suc j) d le lt e = parted p b es s.1 i j d (omega arith) (omega arith) e

-- ---- the test

pub pass_less : (o : Ordering) (b r : Bool) → r ≡ is_lt o → r ≡ true → r ≡ is_lt o || (b && is_eq o)
pass_less Less b r e t = t
pass_less Equal b r e t = cc
pass_less Greater b r e t = cc

pub pass_itself : (o : Ordering) (b r s : Bool) → s ≡ is_lt o → s ≡ false → b ≡ true → r ≡ is_eq o → r ≡ is_lt o || (b && is_eq o)
pass_itself o b r s l n t e = here o l e ∙ ap (λ z. is_lt o || (z && is_eq o)) (sym t)
  where
    here : (o : Ordering) → s ≡ is_lt o → r ≡ is_eq o → r ≡ is_lt o || (true && is_eq o)
    here Less l e = cc
    here Equal l e = e
    here Greater l e = e

pub pass_none : (o : Ordering) (b s : Bool) → s ≡ is_lt o → s ≡ false → b ≡ false → b ≡ is_lt o || (b && is_eq o)
pass_none o b s l n t = t ∙ (here o l ∙ ap (λ z. is_lt o || (z && is_eq o)) (sym t))
  where
    here : (o : Ordering) → s ≡ is_lt o → false ≡ is_lt o || (false && is_eq o)
    here Less l = cc
    here Equal l = refl
    here Greater l = refl
