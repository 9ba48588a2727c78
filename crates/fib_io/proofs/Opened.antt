-- Which inputs are open, and what their readers met.
use Rattle.std.proofs.Common.{◌≡◌, ◌∙◌, refl, sym, ap, subst, ℕ, ◌<◌, Bool, true, false, List, [], ◌∷◌, ◌++◌, length, Option, Some, None, option_map, unwrap_or, get_or, set, arith, inl, inr, not, nat_lt, nat_eq, ◌+◌, ◌≤◌, length-append}
use Rattle.std.specs.Prelude.{IfSome, IsSome, Result, Ok, Err, IsErr, cond, slice_get, ◌⊎◌}
use Rattle.std.specs.List.{find, position, position_or_len}
use Rattle.std.specs.Option.{option_or}
use Rattle.std.specs.String.{string_bytes}
use Rattle.std.proofs.lemmas.List.Folds.{find-append, find-set, find_past, find_at, position_or_len_push}
use Rattle.std.proofs.lemmas.List.Sums.{position_or_len_is, prefix_len-le-length}
use Rattle.std.proofs.lemmas.Bool.{lt-ltb, ltb-false, ltb-true}
use Rattle.std.proofs.lemmas.Option.{slice_get_cases, slice_get-get_or, none-some, same_Some}
use Rattle.std.proofs.lemmas.List.Quantifiers.{position-Some}
use Rattle.std.proofs.lemmas.Slice.Eq.{bytes_eq-Decides}
use Rattle.fib_io.specs.declared.files.OpenInput.{OpenInput}
use Rattle.fib_io.specs.Files.{Call, calls_met, calls_of_read, has_name, KeepsOpen, open_under, OpensName, OpensOnce, ReadsOnce, with_name}

-- ---- inputs by name

pub named_is : {R : Type 0} (name : List ℕ) (x : OpenInput R) → string_bytes x.name ≡ name → has_name name x ≡ true
named_is name x e = (bytes_eq-Decides (string_bytes x.name) name).1 e

is_named : {R : Type 0} (name : List ℕ) (x : OpenInput R) → has_name name x ≡ true → string_bytes x.name ≡ name
is_named name x e = (bytes_eq-Decides (string_bytes x.name) name).0 e

not_true : (b : Bool) → (b ≡ true → ⊥) → b ≡ false
not_true true h = absurd (h refl)
not_true false h = refl

-- an input of this name has no other
not_other : {R : Type 0} (name other : List ℕ) (x : OpenInput R) → string_bytes x.name ≡ name → (other ≡ name → ⊥) → has_name other x ≡ false
not_other name other x e d = not_true (has_name other x) (λ t. d (sym (is_named other x t) ∙ e))

-- ---- where none has the name

none_false : {X : Type 0} (b : Bool) (x : X) → cond b (Some x) None ≡ None → b ≡ false
none_false true x e = absurd (none-some x (sym e))
none_false false x e = refl

past_all : {X : Type 0} (p : X → Bool) (xs : List X) → position p xs ≡ None → length xs ≤ position_or_len p xs
past_all p xs e = ltb-false (position_or_len p xs) (length xs) (none_false (nat_lt (position_or_len p xs) (length xs)) (position_or_len p xs) e)

get_past : {X : Type 0} (xs : List X) (i : ℕ) → length xs ≤ i → slice_get xs i ≡ None
get_past xs i h = elim (slice_get_cases xs i).1 [ inl found ↦ absurd (let below : i < length xs = found.1 in omega (arith, h)) | inr past ↦ past.1 ]

pub none_found : {X : Type 0} (p : X → Bool) (xs : List X) → position p xs ≡ None → find p xs ≡ None
none_found p xs e = find_at p xs ∙ get_past xs (position_or_len p xs) (past_all p xs e)

same_both : (b : Bool) (n : ℕ) → cond b (n + 0) n ≡ n
same_both true n = omega arith
same_both false n = refl

first_pushed : (k n : ℕ) (b : Bool) → k ≡ n → b ≡ true → cond (nat_eq k n) (n + cond b 0 1) k ≡ n
first_pushed k n b e t = rw (e, t) (same_both (nat_eq n n) n)

place_below : (k n i : ℕ) → k ≡ i → i < n → cond (nat_lt k n) (Some k) None ≡ Some i
place_below k n i e h = rw e (ap (λ b. cond b (Some i) None) (lt-ltb i n h))

-- one more, which passes, is the first that does
pub place_pushed : {X : Type 0} (p : X → Bool) (xs ys : List X) (x : X) → position p xs ≡ None → ys ≡ xs ++ x ∷ [] → p x ≡ true → position p ys ≡ Some (length xs)
place_pushed p xs ys x none e t =
    let large = past_all p xs none in
    let first : position_or_len p xs ≡ length xs = omega (arith, prefix_len-le-length (λ y. not (p y)) xs) in
    ap (position p) e ∙ place_below (position_or_len p (xs ++ x ∷ [])) (length (xs ++ x ∷ [])) (length xs)
    (position_or_len_push p xs x ∙ first_pushed (position_or_len p xs) (length xs) (p x) first t)
    (omega (arith, length-append xs (x ∷ [])))

-- ---- what is opened

some_true : {X : Type 0} (b : Bool) (x y : X) → cond b (Some x) None ≡ Some y → b ≡ true
some_true true x y e = refl
some_true false x y e = absurd (none-some y e)

is_found : {X : Type 0} (p : X → Bool) (xs : List X) (i : ℕ) → position p xs ≡ Some i → IsSome (find p xs)
is_found p xs i e =
    let k : ℕ = position_or_len p xs in
    let below : k < length xs = ltb-true k (length xs) (some_true (nat_lt k (length xs)) k i e) in
    subst (λ o. IsSome o) (sym (find_at p xs)) (elim (slice_get_cases xs k).1 [ inl found ↦ subst (λ o. IsSome o) (sym found.2) refl | inr past ↦ absurd (let past_it : length xs ≤ k = past.0 in omega arith) ])

again : {R T E : Type 0} (input : Option (OpenInput R)) (name : List ℕ) (old : Option (List (List ℕ))) (result : Result T E) → IsSome input → OpensOnce input name old old result
again None name old result s = absurd (let no : false ≡ true = s in cc)
again (Some x) name old result s = refl

not_opened : {T E : Type 0} (name : List ℕ) (old new : Option (List (List ℕ))) (result : Result T E) → IsErr result → (new ≡ old) ⊎ (new ≡ with_name name old) → OpensName name old new result
not_opened name old new (Ok x) failed opens = absurd (let no : false ≡ true = failed in cc)
not_opened name old new (Err e) failed opens = opens

-- a name that is open isn't opened again
pub opens_again : {R T E : Type 0} (name : List ℕ) (xs : List (OpenInput R)) (i : ℕ) (old : Option (List (List ℕ))) (result : Result T E) → position (has_name name) xs ≡ Some i → OpensOnce (open_under name xs) name old old result
opens_again name xs i old result e = again (open_under name xs) name old result (is_found (has_name name) xs i e)

-- one that isn't may be
pub opens_first : {R T E : Type 0} (name : List ℕ) (xs : List (OpenInput R)) (old new : Option (List (List ℕ))) (result : Result T E) → position (has_name name) xs ≡ None → OpensName name old new result → OpensOnce (open_under name xs) name old new result
opens_first name xs old new result e opens = subst (λ o. OpensOnce o name old new result) (sym (none_found (has_name name) xs e)) opens

-- one whose opening failed
pub opens_not : {R T E : Type 0} (name : List ℕ) (xs : List (OpenInput R)) (old new : Option (List (List ℕ))) (result : Result T E) → position (has_name name) xs ≡ None → IsErr result → (new ≡ old) ⊎ (new ≡ with_name name old) → OpensOnce (open_under name xs) name old new result
opens_not name xs old new result e failed opens = opens_first name xs old new result e (not_opened name old new result failed opens)

-- ---- what stays open

pub keeps_same : {R : Type 0} (name : List ℕ) (xs ys : List (OpenInput R)) → ys ≡ xs → KeepsOpen name xs ys
keeps_same name xs ys e = record { others = λ other d. ap (open_under other) e; stays = λ s. subst (λ zs. IsSome (open_under name zs)) (sym e) s }

or_none : {X : Type 0} (o : Option X) → option_or o None ≡ o
or_none None = refl
or_none (Some x) = refl

or_some : {X : Type 0} (o p : Option X) → IsSome o → IsSome (option_or o p)
or_some None None s = s
or_some None (Some y) s = refl
or_some (Some x) p s = refl

pub keeps_pushed : {R : Type 0} (name : List ℕ) (xs ys : List (OpenInput R)) (x : OpenInput R) → ys ≡ xs ++ x ∷ [] → string_bytes x.name ≡ name → KeepsOpen name xs ys
keeps_pushed name xs ys x e n = record {
  others = λ other d.
      ap (open_under other) e ∙ find-append (has_name other) xs (x ∷ [])
      ∙ ap (λ b. option_or (open_under other xs) (cond b (Some x) None)) (not_other name other x n d) ∙ or_none (open_under other xs);
  stays = λ s. subst (λ o. IsSome o) (sym (ap (open_under name) e ∙ find-append (has_name name) xs (x ∷ []))) (or_some (open_under name xs) _ s);
}

-- the place of an input is that of the first with its name
first_at : {X : Type 0} (p : X → Bool) (xs : List X) (i : ℕ) (d : X) → position p xs ≡ Some i → i ≡ position_or_len p xs
first_at p xs i d e =
    let place = position-Some p xs i d e in
    sym (position_or_len_is p xs i d (let below : i < length xs = place.0 in omega arith) place.2 (λ h. place.1))

found_set : {R : Type 0} (name : List ℕ) (xs : List (OpenInput R)) (i : ℕ) (x : OpenInput R) → position (has_name name) xs ≡ Some i → string_bytes x.name ≡ name → open_under name (set xs i x) ≡ Some x
found_set name xs i x at n = find-set (has_name name) xs i x (first_at (has_name name) xs i x at) (position-Some (has_name name) xs i x at).0 (named_is name x n)

keeps_set : {R : Type 0} (name : List ℕ) (xs : List (OpenInput R)) (i : ℕ) (x : OpenInput R) → position (has_name name) xs ≡ Some i → string_bytes x.name ≡ name → KeepsOpen name xs (set xs i x)
keeps_set name xs i x at n =
    let place = position-Some (has_name name) xs i x at in
    record {
      others = λ other d. find_past (has_name other) xs i x x (not_other name other (get_or xs i x) (is_named name (get_or xs i x) place.1) d) (not_other name other x n d);
      stays = λ s. subst (λ o. IsSome o) (sym (found_set name xs i x at n)) refl;
    }

-- the input at the place of a name has it
pub named_at : {R : Type 0} (name : List ℕ) (xs : List (OpenInput R)) (i : ℕ) (was : OpenInput R) → position (has_name name) xs ≡ Some i → was ≡ get_or xs i was → string_bytes was.name ≡ name
named_at name xs i was place is = ap (λ x. string_bytes x.name) is ∙ is_named name (get_or xs i was) (position-Some (has_name name) xs i was place).1

pub keeps_read : {R : Type 0} (name : List ℕ) (xs : List (OpenInput R)) (i : ℕ) (was x : OpenInput R) → position (has_name name) xs ≡ Some i → was ≡ get_or xs i was → x.name ≡ was.name → KeepsOpen name xs (set xs i x)
keeps_read name xs i was x place is same = keeps_set name xs i x place (ap string_bytes same ∙ named_at name xs i was place is)

pub keeps_both : {R : Type 0} (name : List ℕ) (xs ys zs : List (OpenInput R)) → KeepsOpen name xs ys → KeepsOpen name ys zs → KeepsOpen name xs zs
keeps_both name xs ys zs a b = record { others = λ other d. b.others other d ∙ a.others other d; stays = λ s. b.stays (a.stays s) }

-- ---- what the readers met

met_of : (o : Option (List Call)) (met : List Call) → o ≡ Some met → met ≡ unwrap_or o []
met_of None met e = absurd (none-some met e)
met_of (Some before) met e = sym (same_Some before met e)

no_calls : (o : Option (List Call)) → IfSome o (λ met. met ≡ []) → unwrap_or o [] ≡ []
no_calls None h = refl
no_calls (Some met) h = h

-- one that was opened now met no call
pub met_pushed : {R : Type 0} (calls : R → Option (List Call)) (name : List ℕ) (xs ys : List (OpenInput R)) (x : OpenInput R) → position (has_name name) xs ≡ None → ys ≡ xs ++ x ∷ [] → string_bytes x.name ≡ name → IfSome (calls x.reader) (λ met. met ≡ []) → calls_met calls (open_under name ys) ≡ calls_met calls (open_under name xs)
met_pushed calls name xs ys x none e n fresh =
    ap (λ o. calls_met calls o) (ap (open_under name) e ∙ find-append (has_name name) xs (x ∷ []) ∙ ap (λ o. option_or o (open_under name (x ∷ []))) (none_found (has_name name) xs none) ∙ ap (λ b. cond b (Some x) None) (named_is name x n))
    ∙ no_calls (calls x.reader) fresh ∙ sym (ap (λ o. calls_met calls o) (none_found (has_name name) xs none))

find-at_place : {R : Type 0} (name : List ℕ) (xs : List (OpenInput R)) (i : ℕ) (was : OpenInput R) → position (has_name name) xs ≡ Some i → was ≡ get_or xs i was → open_under name xs ≡ Some was
find-at_place name xs i was place is =
    find_at (has_name name) xs ∙ ap (slice_get xs) (sym (first_at (has_name name) xs i was place))
    ∙ slice_get-get_or xs i was (position-Some (has_name name) xs i was place).0 ∙ ap Some (sym is)

met_more : (o p : Option (List Call)) (before : List Call) (at n : ℕ) → p ≡ option_map (λ met. met ++ calls_of_read at n met) o → unwrap_or o [] ≡ before → IfSome p (λ met. met ≡ before ++ calls_of_read at n before)
met_more None p before at n e b = rw e tt
met_more (Some met) p before at n e b = rw (e, sym b) refl

-- a read of the input at the first place with the name
pub reads_once : {R : Type 0} (calls : R → Option (List Call)) (name : List ℕ) (old : Option (OpenInput R)) (xs : List (OpenInput R)) (i : ℕ) (was x : OpenInput R) (at n : ℕ) → position (has_name name) xs ≡ Some i → was ≡ get_or xs i was → x.name ≡ was.name → calls x.reader ≡ option_map (λ met. met ++ calls_of_read at n met) (calls was.reader) → calls_met calls (open_under name xs) ≡ calls_met calls old → ReadsOnce calls old (open_under name (set xs i x)) at n
reads_once calls name old xs i was x at n place is same read met =
    let named : string_bytes x.name ≡ name = ap string_bytes same ∙ named_at name xs i was place is in
    let found : open_under name xs ≡ Some was = find-at_place name xs i was place is in
    subst (λ o. ReadsOnce calls old o at n) (sym (found_set name xs i x place named))
    (met_more (calls was.reader) (calls x.reader) (calls_met calls old) at n read (sym (ap (λ o. calls_met calls o) found) ∙ met))
