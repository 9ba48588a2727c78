-- Prefixes that stand again later.
use Rattle.std.proofs.Common.{◌≡◌, ℕ, suc, ◌+◌, ◌-◌, ◌<◌, ◌≤◌, List, [], ◌∷◌, Bool, true, false, cond, Option, Some, None, inl, inr, length, map, drop, get_or, refl, sym, ap, ◌∙◌, arith, subst}
use Rattle.std.specs.Prelude.{◌||◌}
use Rattle.std.specs.Ordering.{is_eq, is_ge}
use Rattle.std.specs.declared.cmp.Ordering.{Ordering}
use Rattle.std.specs.declared.cmp.Ordering.TheVariants.{Less, Equal, Greater}
use Rattle.std.specs.List.{list_any, AllByRecursion, IsDistinct}
use Rattle.std.specs.List.Sorted.{IsStrictlySortedBy}
use Rattle.std.specs.Map.{keys_of}
use Rattle.std.proofs.lemmas.Bool.{cond-true, cond-false, cases_lt}
use Rattle.std.proofs.lemmas.List.{length-map, get_or_default}
use Rattle.std.proofs.lemmas.Map.Keys.{sorted_from_all_adjacent}
use Rattle.std.proofs.Math.ListN.{get_or-map}
use Rattle.table_model.specs.Entries.{Entries}
use Rattle.cert_model.proofs.Verdicts.{once_from}
use Rattle.table_model.specs.Address.{Prefix, same_prefix}
use Rattle.table_model.specs.Order.{prefix_cmp}
use Rattle.table_model.proofs.SamePrefix.{same_prefix_is, same_prefix_itself}
use Rattle.table_model.proofs.Ordered.{equal_are_same, prefix_total}
use Rattle.cert_model.specs.Verdict.{twice}
use Rattle.fib_addr.specs.declared.prefix.Prefix as code
use Rattle.fib_addr.specs.declared.entry.Entry.{Entry}
use Rattle.fib_addr.specs.Views.{prefix_as, entry_as}
use Rattle.fib_addr.specs.Order.{code_cmp}
use Rattle.fib_addr.proofs.Ordering.{cmp_is}
use Rattle.std.proofs.Common.{drop-cons}
use Rattle.cert_check.proofs.Holding.{prefix_short, same_tests}

is_equal : (o : Ordering) → is_eq o ≡ true → o ≡ Equal
is_equal Less e = cc
is_equal Equal e = refl
is_equal Greater e = cc

itself : (p : Prefix) → is_eq (prefix_cmp p p) ≡ true
itself p = by_order (prefix_cmp p p) refl
  where
    by_order : (o : Ordering) → prefix_cmp p p ≡ o → is_eq (prefix_cmp p p) ≡ true
    by_order Equal e = ap is_eq e
    by_order Less e = let x : prefix_cmp p p ≡ Less = e in absurd (let r = prefix_total.antisymm p p in cc)
    by_order Greater e = absurd (let r = prefix_total.antisymm p p in cc)

pub prefix_same : (p q : code.Prefix) → is_eq (code_cmp p q) ≡ same_prefix (prefix_as p) (prefix_as q)
prefix_same p q =
    ap is_eq (cmp_is p q)
    ∙ same_tests (is_eq (prefix_cmp (prefix_as p) (prefix_as q))) (same_prefix (prefix_as p) (prefix_as q))
    (λ e. let s : prefix_as p ≡ prefix_as q = equal_are_same (prefix_as p) (prefix_as q) (prefix_short p) (prefix_short q) (is_equal _ e) in ap (same_prefix (prefix_as p)) (sym s) ∙ same_prefix_itself (prefix_as p))
    (λ e. let s : prefix_as p ≡ prefix_as q = same_prefix_is (prefix_as p) (prefix_as q) e in ap (λ x. is_eq (prefix_cmp (prefix_as p) x)) (sym s) ∙ itself (prefix_as p))

same_back : (p q : Prefix) → same_prefix p q ≡ same_prefix q p
same_back p q = same_tests (same_prefix p q) (same_prefix q p)
    (λ e. let s = same_prefix_is p q e in ap (λ x. same_prefix x p) (sym s) ∙ same_prefix_itself p)
    (λ e. let s = same_prefix_is q p e in ap (λ x. same_prefix x q) (sym s) ∙ same_prefix_itself q)

abbrev keys_from : List Entry → ℕ → List Prefix
keys_from entries i = keys_of (map entry_as (drop i entries))

one_back : (entries : List Entry) (i : ℕ) (e z : Entry) → 0 < i → i ≤ length entries → e ≡ get_or entries (i - 1) z → drop (i - 1) entries ≡ e ∷ drop i entries
one_back entries i e z some le is =
    let s : suc (i - 1) ≡ i = omega arith in
    drop-cons entries (i - 1) z (omega arith) ∙ (ap (λ x. x ∷ drop (suc (i - 1)) entries) (sym is) ∙ ap (λ (j : ℕ). e ∷ drop j entries) s)

or_cond : (b c : Bool) → cond b true c ≡ (b || c)
or_cond true c = refl
or_cond false c = refl

pub later_keys : (entries : List Entry) (i : ℕ) (e z : Entry) (q : code.Prefix) (old new : Bool) → 0 < i → i ≤ length entries → e ≡ get_or entries (i - 1) z
    → old ≡ list_any (same_prefix (prefix_as q)) (keys_from entries i) → new ≡ cond (is_eq (code_cmp e.prefix q)) true old → new ≡ list_any (same_prefix (prefix_as q)) (keys_from entries (i - 1))
later_keys entries i e z q old new some le is so_far step =
    step ∙ (or_cond (is_eq (code_cmp e.prefix q)) old
    ∙ (ap (λ b. b || old) (prefix_same e.prefix q ∙ same_back (prefix_as e.prefix) (prefix_as q))
    ∙ (ap (λ b. same_prefix (prefix_as q) (prefix_as e.prefix) || b) so_far
    ∙ ap (λ xs. list_any (same_prefix (prefix_as q)) (keys_of (map entry_as xs))) (sym (one_back entries i e z some le is)))))

pub stands_again : (entries : List Entry) (i : ℕ) (e z : Entry) (held : Bool) → 0 < i → i ≤ length entries → e ≡ get_or entries (i - 1) z
    → held ≡ list_any (same_prefix (prefix_as e.prefix)) (keys_from entries i) → held ≡ true → Some (prefix_as e.prefix) ≡ twice (map entry_as (drop (i - 1) entries))
stands_again entries i e z held some le is h t =
    sym (ap (λ xs. twice (map entry_as xs)) (one_back entries i e z some le is) ∙ cond-true _ _ _ (sym h ∙ t))

pub stands_once : (entries : List Entry) (i : ℕ) (e z : Entry) (held : Bool) (first : Option Prefix) → 0 < i → i ≤ length entries → e ≡ get_or entries (i - 1) z
    → held ≡ list_any (same_prefix (prefix_as e.prefix)) (keys_from entries i) → held ≡ false → first ≡ twice (map entry_as (drop i entries)) → first ≡ twice (map entry_as (drop (i - 1) entries))
stands_once entries i e z held first some le is h f so_far =
    so_far ∙ sym (ap (λ xs. twice (map entry_as xs)) (one_back entries i e z some le is) ∙ cond-false _ _ _ (sym h ∙ f))

-- ---- lists in the order of prefixes

abbrev prefix_at : List Entry → ℕ → Entry → code.Prefix
prefix_at entries i z = (get_or entries i z).prefix

-- each prefix stands before the next one, up to the place
abbrev pub InOrderTo : List Entry → ℕ → Type 0
InOrderTo entries n = (z : Entry) (k : ℕ) → k + 1 < n → code_cmp (prefix_at entries k z) (prefix_at entries (k + 1) z) ≡ Less

abbrev key : Entry → Prefix
key e = prefix_as e.prefix

keys_are : (entries : List Entry) → map key entries ≡ keys_of (map entry_as entries)
keys_are [] = refl
keys_are (e ∷ entries) = ap (λ ks. key e ∷ ks) (keys_are entries)

sorted_keys : (entries : List Entry) (z : Entry) → InOrderTo entries (length entries) → IsStrictlySortedBy prefix_cmp (map key entries)
sorted_keys entries z h = sorted_from_all_adjacent prefix_total (map key entries) (key z) (λ k lt.
    ap (λ x. prefix_cmp x (get_or (map key entries) (k + 1) (key z))) (get_or-map key entries k z)
    ∙ (ap (prefix_cmp (key (get_or entries k z))) (get_or-map key entries (k + 1) z)
    ∙ (sym (cmp_is (prefix_at entries k z) (prefix_at entries (k + 1) z)) ∙ h z k (omega (arith, length-map entries key, lt)))))

pub in_order : (entries : List Entry) → InOrderTo entries (length entries) → IsStrictlySortedBy prefix_cmp (keys_of (map entry_as entries))
unfolding IsStrictlySortedBy
in_order [] h = tt
in_order (e ∷ entries) h = subst (IsStrictlySortedBy prefix_cmp) (keys_are (e ∷ entries)) (sorted_keys (e ∷ entries) e h)

not_same : (p q : Prefix) → prefix_cmp p q ≡ Less → same_prefix p q ≡ false
not_same p q e = by_test (same_prefix p q) refl
  where
    by_test : (t : Bool) → same_prefix p q ≡ t → same_prefix p q ≡ false
    by_test false t = t
    by_test true t = let s : is_eq (prefix_cmp p q) ≡ true = ap (λ x. is_eq (prefix_cmp p x)) (sym (same_prefix_is p q t)) ∙ itself p in absurd (let l : is_eq (prefix_cmp p q) ≡ false = ap is_eq e in cc)

apart_from : (p : Prefix) (ps : List Prefix) → AllByRecursion (λ q. prefix_cmp p q ≡ Less) ps → AllByRecursion (λ q. same_prefix p q ≡ false) ps
apart_from p [] h = tt
apart_from p (q ∷ ps) h = (not_same p q h.0, apart_from p ps h.1)

distinct : (ps : List Prefix) → IsStrictlySortedBy prefix_cmp ps → IsDistinct same_prefix ps
unfolding IsDistinct IsStrictlySortedBy
distinct [] h = tt
distinct (p ∷ ps) h = (apart_from p ps h.0, distinct ps h.1)

-- in the order of prefixes none stands twice
pub none_twice : (L : Entries) → IsStrictlySortedBy prefix_cmp (keys_of L) → None ≡ twice L
none_twice L h = sym (once_from L (distinct (keys_of L) h))

is_less : (o : Ordering) → is_ge o ≡ false → o ≡ Less
is_less Less e = refl
is_less Equal e = cc
is_less Greater e = cc

pub one_more_in_order : (entries : List Entry) (i : ℕ) (a b : Entry) (o : Ordering) → 1 ≤ i → i < length entries
    → o ≡ code_cmp (prefix_at entries (i - 1) a) (prefix_at entries i b) → is_ge o ≡ false → InOrderTo entries i → InOrderTo entries (i + 1)
one_more_in_order entries i a b o some there is less so_far = λ z k lt. elim (cases_lt (k + 1) i) [
  | inl before ↦ so_far z k before
  | inr past ↦
      let last : k + 1 ≡ i = omega arith in
      let front : k ≡ i - 1 = omega arith in
      ap (λ (j : ℕ). code_cmp (prefix_at entries j z) (prefix_at entries (k + 1) z)) front
      ∙ (ap (λ (j : ℕ). code_cmp (prefix_at entries (i - 1) z) (prefix_at entries j z)) last
      ∙ (ap (λ (e : Entry). code_cmp e.prefix (prefix_at entries i z)) (get_or_default entries (i - 1) z a (omega arith))
      ∙ (ap (λ (e : Entry). code_cmp (prefix_at entries (i - 1) a) e.prefix) (get_or_default entries i z b there) ∙ (sym is ∙ is_less o less))))
]
