-- The merge of two lists of entries in order, and the test that they are.
use Rattle.std.proofs.Common.{◌≡◌, ℕ, zero, suc, ◌+◌, ◌-◌, ◌<◌, ◌≤◌, List, [], ◌∷◌, ◌++◌, Option, Some, None, length, get_or, take, drop, refl, sym, ap, subst, ◌∙◌, append_assoc, append-nil}
use Rattle.std.specs.Prelude.{map, ◌⊎◌}
use Rattle.std.proofs.Common.{inl, inr}
use Rattle.std.proofs.lemmas.List.{map-append, drop_more, drop_all, take_rest}
use Rattle.std.specs.List.Sorted.{IsStrictlySortedBy}
use Rattle.std.specs.Map.{keys_of}
use Rattle.std.specs.declared.cmp.Ordering.TheVariants.{Less}
use Rattle.table_model.specs.Address.{Prefix}
use Rattle.table_model.specs.Order.{prefix_cmp}
use Rattle.table_model.proofs.Ordered.{prefix_total}
use Rattle.table_model.specs.Entries.{Entries}
use Rattle.table_model.specs.Changes.{Change, Add, Remove}
use Rattle.fib_addr.specs.declared.prefix.Prefix as code
use Rattle.fib_addr.specs.declared.entry.Entry as code_entry
use Rattle.fib_addr.specs.Views.{prefix_as, entry_as}
use Rattle.fib_delta.specs.declared.change.Change as code_change
use Rattle.fib_delta.specs.Views.{change_as}
use Rattle.fib_delta.specs.Order.{ComesAfter}
use Rattle.kept_model.specs.Between.{change_at, between}
use Rattle.kept_model.proofs.Merged.{Below, first_old, first_new, first_both}

abbrev pub Sorted : List code_entry.Entry → Type 0
Sorted xs = IsStrictlySortedBy prefix_cmp (keys_of (map entry_as xs))

-- after the last prefix, if there is one, these stand in order
abbrev pub From : Option code.Prefix → List code_entry.Entry → Type 0
From None xs = Sorted xs
From (Some p) xs = IsStrictlySortedBy prefix_cmp (prefix_as p ∷ keys_of (map entry_as xs))

all_after : (p q : Prefix) (L : Entries) → prefix_cmp p q ≡ Less → Below q L → Below p L
all_after p q [] l b = tt
all_after p q (e ∷ L) l b = (prefix_total.trans p q e.0 l b.0, all_after p q L l b.1)

pub from_more : (last : Option code.Prefix) (e : code_entry.Entry) (xs : List code_entry.Entry) → ComesAfter e.prefix last → From (Some e.prefix) xs → From last (e ∷ xs)
unfolding IsStrictlySortedBy
from_more None e xs a s = s
from_more (Some p) e xs a s = ((a, all_after (prefix_as p) (prefix_as e.prefix) (map entry_as xs) a s.0), s)

pub none_left : (last : Option code.Prefix) → From last []
unfolding IsStrictlySortedBy
none_left None = tt
none_left (Some p) = (tt, tt)

-- ---- the rest of a list

pub sorted_rest : (n : ℕ) (xs : List code_entry.Entry) → Sorted xs → Sorted (drop n xs)
unfolding IsStrictlySortedBy
sorted_rest zero xs s = s
sorted_rest (suc n) [] s = s
sorted_rest (suc n) (x ∷ xs) s = sorted_rest n xs s.1

pub opened : (xs : List code_entry.Entry) (i : ℕ) (x : code_entry.Entry) → i < length xs → x ≡ get_or xs i x → drop i xs ≡ x ∷ drop (i + 1) xs
opened xs i x l e = drop_more xs i x l ∙ ap (λ z. z ∷ drop (i + 1) xs) (sym e)

pub sorted_part : (i : ℕ) (xs : List code_entry.Entry) → Sorted xs → Sorted (take (length xs - i) (drop i xs))
sorted_part i xs s = subst Sorted (sym (take_rest xs i)) (sorted_rest i xs s)

-- ---- what is left to merge

abbrev pub said : List code_change.Change → List Change
said cs = map change_as cs

abbrev pub told : List code_entry.Entry → Entries
told xs = map entry_as xs

abbrev pub Left : List Change → List code_change.Change → List code_entry.Entry → List code_entry.Entry → Type 0
Left total out xs ys = said out ++ between (told xs) (told ys) ≡ total

pushed : (out : List code_change.Change) (c : code_change.Change) (rest : List Change) → said (out ++ c ∷ []) ++ rest ≡ said out ++ (change_as c ∷ rest)
pushed out c rest = ap (λ z. z ++ rest) (map-append change_as out (c ∷ [])) ∙ append_assoc (said out) (change_as c ∷ []) rest

below_first : (e f : code_entry.Entry) (ys : List code_entry.Entry) → prefix_cmp (prefix_as e.prefix) (prefix_as f.prefix) ≡ Less → Sorted (f ∷ ys) → Below (prefix_as e.prefix) (told (f ∷ ys))
unfolding IsStrictlySortedBy
below_first e f ys l s = (l, all_after (prefix_as e.prefix) (prefix_as f.prefix) (told ys) l s.0)

below_rest : (e : code_entry.Entry) (xs : List code_entry.Entry) → Sorted (e ∷ xs) → Below (prefix_as e.prefix) (told xs)
unfolding IsStrictlySortedBy
below_rest e xs s = s.0

at_rest : (S : List code_entry.Entry) (i : ℕ) (e : code_entry.Entry) → Sorted S → i < length S → e ≡ get_or S i e → Sorted (e ∷ drop (i + 1) S)
at_rest S i e s l is = subst Sorted (opened S i e l is) (sorted_rest i S s)

-- an entry of the old table alone
pub low_at : (total : List Change) (out new : List code_change.Change) (S ys : List code_entry.Entry) (i : ℕ) (e : code_entry.Entry) → Sorted S → Below (prefix_as e.prefix) (told ys) → i < length S → e ≡ get_or S i e
    → (c : code_change.Change) → new ≡ out ++ c ∷ [] → change_as c ≡ Remove (prefix_as e.prefix) → Left total out (drop i S) ys → Left total new (drop (i + 1) S) ys
low_at total out new S ys i e s b l is c p x left =
    let rest = between (told (drop (i + 1) S)) (told ys) in
    ap (λ z. said z ++ rest) p ∙ (pushed out c rest
    ∙ (ap (λ z. said out ++ (z ∷ rest)) x ∙ (ap (λ z. said out ++ z) (sym (first_old (entry_as e) (told (drop (i + 1) S)) (told ys) (below_rest e (drop (i + 1) S) (at_rest S i e s l is)) b)) ∙ (ap (λ z. said out ++ between (told z) (told ys)) (sym (opened S i e l is)) ∙ left))))

-- an entry of the new table alone
pub high_at : (total : List Change) (out new : List code_change.Change) (xs T : List code_entry.Entry) (j : ℕ) (f : code_entry.Entry) → Sorted T → Below (prefix_as f.prefix) (told xs) → j < length T → f ≡ get_or T j f
    → (c : code_change.Change) → new ≡ out ++ c ∷ [] → change_as c ≡ Add (prefix_as f.prefix) f.hop.0 → Left total out xs (drop j T) → Left total new xs (drop (j + 1) T)
high_at total out new xs T j f s b l is c p x left =
    let rest = between (told xs) (told (drop (j + 1) T)) in
    ap (λ z. said z ++ rest) p ∙ (pushed out c rest
    ∙ (ap (λ z. said out ++ (z ∷ rest)) x ∙ (ap (λ z. said out ++ z) (sym (first_new (entry_as f) (told xs) (told (drop (j + 1) T)) b (below_rest f (drop (j + 1) T) (at_rest T j f s l is)))) ∙ (ap (λ z. said out ++ between (told xs) (told z)) (sym (opened T j f l is)) ∙ left))))

pub low_below : (S T : List code_entry.Entry) (j : ℕ) (e f : code_entry.Entry) → Sorted T → j < length T → f ≡ get_or T j f → prefix_cmp (prefix_as e.prefix) (prefix_as f.prefix) ≡ Less → Below (prefix_as e.prefix) (told (drop j T))
low_below S T j e f s l is less = subst (λ (z : List code_entry.Entry). Below (prefix_as e.prefix) (told z)) (sym (opened T j f l is)) (below_first e f (drop (j + 1) T) less (at_rest T j f s l is))

-- entries of both at one prefix
pub both_at : (total : List Change) (out new : List code_change.Change) (S T : List code_entry.Entry) (i j : ℕ) (e f : code_entry.Entry) → Sorted S → Sorted T → i < length S → e ≡ get_or S i e → j < length T → f ≡ get_or T j f
    → prefix_as e.prefix ≡ prefix_as f.prefix → said new ≡ said out ++ change_at (prefix_as e.prefix) (Some e.hop.0) (Some f.hop.0) → Left total out (drop i S) (drop j T) → Left total new (drop (i + 1) S) (drop (j + 1) T)
both_at total out new S T i j e f s t l is m it same p left =
    let rest = between (told (drop (i + 1) S)) (told (drop (j + 1) T)) in
    let here = change_at (prefix_as e.prefix) (Some e.hop.0) (Some f.hop.0) in
    let b : Below (prefix_as e.prefix) (told (drop (j + 1) T)) = subst (λ (z : Prefix). Below z (told (drop (j + 1) T))) (sym same) (below_rest f (drop (j + 1) T) (at_rest T j f t m it)) in
    ap (λ z. z ++ rest) p ∙ (append_assoc (said out) here rest
    ∙ (ap (λ z. said out ++ z) (sym (first_both (entry_as e) (entry_as f) (told (drop (i + 1) S)) (told (drop (j + 1) T)) same (below_rest e (drop (i + 1) S) (at_rest S i e s l is)) b))
    ∙ (ap (λ z. said out ++ between (told z) (told (f ∷ drop (j + 1) T))) (sym (opened S i e l is)) ∙ (ap (λ z. said out ++ between (told (drop i S)) (told z)) (sym (opened T j f m it)) ∙ left))))

-- ---- at the end

pub nothing : between [] [] ≡ []
unfolding between
nothing = refl

-- what is left of one table alone
pub ended : (total : List Change) (a b d : List Change) (S T : List code_entry.Entry) (i j : ℕ) → (length S ≤ i) ⊎ (length T ≤ j) → b ≡ a ++ between (told (take (length S - i) (drop i S))) [] → d ≡ b ++ between [] (told (take (length T - j) (drop j T)))
    → a ++ between (told (drop i S)) (told (drop j T)) ≡ total → d ≡ total
ended total a b d S T i j e p q left = by_end e
  where
    P : List Change
    P = between (told (drop i S)) []

    Q : List Change
    Q = between [] (told (drop j T))

    flat : d ≡ (a ++ P) ++ Q
    flat = q ∙ (ap (λ z. z ++ between [] (told (take (length T - j) (drop j T)))) p ∙ (ap (λ z. (a ++ between (told z) []) ++ between [] (told (take (length T - j) (drop j T)))) (take_rest S i) ∙ ap (λ z. (a ++ P) ++ between [] (told z)) (take_rest T j)))

    by_end : (length S ≤ i) ⊎ (length T ≤ j) → d ≡ total
    by_end (inl l) =
        let none : drop i S ≡ [] = drop_all i S l in
        flat ∙ (ap (λ z. (a ++ between (told z) []) ++ Q) none ∙ (ap (λ z. (a ++ z) ++ Q) nothing ∙ (ap (λ z. z ++ Q) (append-nil a) ∙ (ap (λ z. a ++ between (told z) (told (drop j T))) (sym none) ∙ left))))
    by_end (inr l) =
        let none : drop j T ≡ [] = drop_all j T l in
        flat ∙ (ap (λ z. (a ++ P) ++ between [] (told z)) none ∙ (ap (λ z. (a ++ P) ++ z) nothing ∙ (append-nil (a ++ P) ∙ (ap (λ z. a ++ between (told (drop i S)) (told z)) (sym none) ∙ left))))
