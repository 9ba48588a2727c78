-- Hops in a set, and as the list that contracts see.
use Rattle.std.proofs.Common.{◌≡◌, ℕ, zero, suc, ◌+◌, ◌^◌, ◌<◌, ◌≤◌, List, [], ◌∷◌, ◌++◌, Bool, true, false, cond, not, Option, Some, None, length, nat_eq, refl, sym, ap, ◌∙◌, arith, map}
use Rattle.std.specs.Prelude.{◌&&◌, ◌||◌, nat_lt, option_map, position, slice_get, ◌-◌}
use Rattle.std.proofs.Common.{inl, inr, zero-add, length-append}
use Rattle.std.proofs.lemmas.List.{map_push}
use Rattle.std.proofs.lemmas.Option.{slice_get-map}
use Rattle.std.specs.List.{IsDistinct, list_any, position_or_len}
use Rattle.std.proofs.lemmas.Bool.{lt-ltb, le-ltb, cases_lt, cond-true, cond-false}
use Rattle.table_model.specs.Bits.{bits_of, same_bits}
use Rattle.table_model.specs.Width.{width}
use Rattle.table_model.specs.Address.{Address, same_family, same_address}
use Rattle.table_model.specs.declared.family.Family.{Family}
use Rattle.table_model.specs.declared.family.Family.TheVariants.{V4, V6}
use Rattle.table_model.specs.contracts.family.Family.{the_type}
use Rattle.table_model.proofs.SamePrefix.{same_address_itself}
use Rattle.std.proofs.Common.{Result, Ok, Err}
use Rattle.std.specs.Prelude.{◌↔◌, IfOk, IfSome, IsErr, IsSome, if◌then◌else◌}
use Rattle.fib_addr.specs.declared.addr.Addr.{Addr}
use Rattle.fib_addr.specs.declared.entry.Hop.{Hop}
use Rattle.fib_addr.specs.Views.{addr_as}
use Rattle.fib_addr.specs.Hops.{most_hops, number_of, hop_at, with_hop}
use Rattle.fib_addr.proofs.Parts.{same_bits-nat_eq}
use Rattle.fib_addr.proofs.HopLists.{number_from, number_holds, number_there, number_within, none_distinct, with_hop_distinct}
use denote.Enum.Bare.{sameb}

-- the derived test of addresses is the test of what they stand for
pub same_is : (a b : Addr) → (sameb the_type a.family b.family && nat_eq a.bits b.bits) ≡ same_address (addr_as a) (addr_as b)
same_is a b = by_family a.family b.family a.below b.below
  where
    by_family : (f g : Family) → a.bits < 2 ^ width f → b.bits < 2 ^ width g → (sameb the_type f g && nat_eq a.bits b.bits) ≡ (same_family f g && same_bits (bits_of (width f) a.bits) (bits_of (width g) b.bits))
    by_family V4 V4 h k = sym (same_bits-nat_eq 32 a.bits b.bits h k)
    by_family V4 V6 h k = refl
    by_family V6 V4 h k = refl
    by_family V6 V6 h k = sym (same_bits-nat_eq 128 a.bits b.bits h k)

abbrev pub same_code : Addr → Addr → Bool
same_code a b = sameb the_type a.family b.family && nat_eq a.bits b.bits

pub any_same : (a : Addr) (keys : List Addr) → list_any (same_code a) keys ≡ list_any (same_address (addr_as a)) (map addr_as keys)
any_same a [] = refl
any_same a (k ∷ keys) = ap (λ b. b || list_any (same_code a) keys) (same_is a k) ∙ ap (λ b. same_address (addr_as a) (addr_as k) || b) (any_same a keys)

place_same : (a : Addr) (keys : List Addr) → position_or_len (same_code a) keys ≡ position_or_len (same_address (addr_as a)) (map addr_as keys)
place_same a [] = refl
place_same a (k ∷ keys) = ap (λ b. cond (not b) (1 + position_or_len (same_code a) keys) 0) (same_is a k) ∙ ap (λ n. cond (not (same_address (addr_as a) (addr_as k))) (1 + n) 0) (place_same a keys)

length-map-addr : (keys : List Addr) → length (map addr_as keys) ≡ length keys
length-map-addr [] = refl
length-map-addr (k ∷ keys) = ap suc (length-map-addr keys)

pub position_same : (a : Addr) (keys : List Addr) → position (same_code a) keys ≡ position (same_address (addr_as a)) (map addr_as keys)
position_same a keys =
    ap (λ n. cond (nat_lt n (length keys)) (Some n) None) (place_same a keys)
    ∙ ap (λ n. cond (nat_lt (position_or_len (same_address (addr_as a)) (map addr_as keys)) n) (Some (position_or_len (same_address (addr_as a)) (map addr_as keys))) None) (sym (length-map-addr keys))

-- ---- a hop that is held, and one that is new

same_lt : (m n : ℕ) → nat_lt m n ≡ nat_lt (1 + m) (suc n)
same_lt m n = elim (cases_lt m n) [
  | inl h ↦ lt-ltb m n h ∙ sym (lt-ltb (1 + m) (suc n) (omega arith))
  | inr h ↦ le-ltb m n h ∙ sym (le-ltb (1 + m) (suc n) (omega arith))
]

pub any_before : {X : Type 0} (p : X → Bool) (xs : List X) → list_any p xs ≡ nat_lt (position_or_len p xs) (length xs)
any_before p [] = sym (le-ltb 0 0 (omega arith))
any_before p (x ∷ xs) = by_test (p x) (any_before p xs)
  where
    by_test : (b : Bool) → list_any p xs ≡ nat_lt (position_or_len p xs) (length xs) → (b || list_any p xs) ≡ nat_lt (cond (not b) (1 + position_or_len p xs) 0) (suc (length xs))
    by_test true ih = sym (lt-ltb 0 (suc (length xs)) (omega arith))
    by_test false ih = ih ∙ same_lt (position_or_len p xs) (length xs)

pub held_is_there : (hops : List Address) (a : Address) (n : ℕ) → Some n ≡ number_of hops a → list_any (same_address a) hops ≡ true
held_is_there hops a n e = any_before (same_address a) hops ∙ by_test (nat_lt (position_or_len (same_address a) hops) (length hops)) e
  where
    by_test : (b : Bool) → Some n ≡ option_map (λ i. i + 1) (cond b (Some (position_or_len (same_address a) hops)) None) → b ≡ true
    by_test true f = refl
    by_test false f = absurd cc

pub new_is_not : (hops : List Address) (a : Address) → None ≡ number_of hops a → list_any (same_address a) hops ≡ false
new_is_not hops a e = any_before (same_address a) hops ∙ by_test (nat_lt (position_or_len (same_address a) hops) (length hops)) e
  where
    by_test : (b : Bool) → None ≡ option_map (λ i. i + 1) (cond b (Some (position_or_len (same_address a) hops)) None) → b ≡ false
    by_test true f = absurd cc
    by_test false f = refl

-- a hop that is held stays where it is
pub held_stays : (hops : List Address) (a : Address) (n : ℕ) → Some n ≡ number_of hops a → hops ≡ with_hop hops a
held_stays hops a n e = sym (cond-true _ _ _ (held_is_there hops a n e))

-- the set's keys after an insertion
pub inserted_as : (a : Addr) (keys after : List Addr) → after ≡ cond (list_any (same_code a) keys) keys (keys ++ a ∷ []) → map addr_as after ≡ with_hop (map addr_as keys) (addr_as a)
inserted_as a keys after e = ap (map addr_as) e ∙ (by_test (list_any (same_code a) keys) ∙ ap (λ b. cond b (map addr_as keys) (map addr_as keys ++ addr_as a ∷ [])) (any_same a keys))
  where
    by_test : (b : Bool) → map addr_as (cond b keys (keys ++ a ∷ [])) ≡ cond b (map addr_as keys) (map addr_as keys ++ addr_as a ∷ [])
    by_test true = refl
    by_test false = map_push addr_as keys a

pub none_passes : {X : Type 0} (p : X → Bool) (xs more : List X) → list_any p xs ≡ false → position_or_len p (xs ++ more) ≡ length xs + position_or_len p more
none_passes p [] more e = sym (zero-add (position_or_len p more))
none_passes p (x ∷ xs) more e = by_test (p x) e (λ f. none_passes p xs more f)
  where
    by_test : (b : Bool) → (b || list_any p xs) ≡ false → (list_any p xs ≡ false → position_or_len p (xs ++ more) ≡ length xs + position_or_len p more) → cond (not b) (1 + position_or_len p (xs ++ more)) 0 ≡ suc (length xs) + position_or_len p more
    by_test true f ih = absurd cc
    by_test false f ih = omega (arith, ih f)

place_after : (hops : List Address) (a : Address) → list_any (same_address a) hops ≡ false → position (same_address a) (hops ++ a ∷ []) ≡ Some (length hops)
place_after hops a e =
    let last : position_or_len (same_address a) (a ∷ []) ≡ 0 = ap (λ b. cond (not b) (1 + 0) 0) (same_address_itself a) in
    let place : position_or_len (same_address a) (hops ++ a ∷ []) ≡ length hops = none_passes (same_address a) hops (a ∷ []) e ∙ omega (arith, last) in
    let here : nat_lt (position_or_len (same_address a) (hops ++ a ∷ [])) (length (hops ++ a ∷ [])) ≡ true = lt-ltb _ _ (omega (arith, place, length-append hops (a ∷ []))) in
    cond-true _ _ _ here ∙ ap Some place

-- a new hop has the next number
pub new_number : (hops : List Address) (a : Address) → None ≡ number_of hops a → number_of (with_hop hops a) a ≡ Some (length hops + 1)
new_number hops a none =
    let new : list_any (same_address a) hops ≡ false = new_is_not hops a none in
    ap (λ xs. number_of xs a) (cond-false _ _ _ new) ∙ ap (option_map (λ i. i + 1)) (place_after hops a new)

pub new_number_told : {E : Type 0} (hops : List Address) (a : Address) (r : Result Hop E) → None ≡ number_of hops a → IfOk r (λ hop. hop.0 ≡ length hops + 1) → IfOk r (λ hop. number_of (with_hop hops a) a ≡ Some hop.0)
new_number_told hops a (Ok hop) none h = new_number hops a none ∙ ap Some (sym h)
new_number_told hops a (Err e) none h = h

pub added_number : (a : Addr) (keys after : List Addr) (hops : List Address) (n : ℕ) → after ≡ cond (list_any (same_code a) keys) keys (keys ++ a ∷ []) → map addr_as keys ≡ hops → n ≡ length hops + 1 → None ≡ number_of hops (addr_as a)
    → number_of (map addr_as after) (addr_as a) ≡ Some n
added_number a keys after hops n e v same none =
    ap (λ xs. number_of xs (addr_as a)) (inserted_as a keys after e ∙ ap (λ xs. with_hop xs (addr_as a)) v) ∙ (new_number hops (addr_as a) none ∙ ap Some (sym same))

-- the hop of the number that is told
pub told_holds : {E : Type 0} (hops : List Address) (a : Address) (r : Result Hop E) → IfOk r (λ hop. number_of hops a ≡ Some hop.0) → IfOk r (λ hop. hop_at hops hop.0 ≡ Some a)
told_holds hops a (Ok hop) h = number_holds hops a hop.0 h
told_holds hops a (Err e) h = h

-- the hop of a number, as the code's address

pub none_seen : (keys : List Addr) → length keys ≡ 0 → (length keys ≤ most_hops) × IsDistinct same_address (map addr_as keys)
none_seen [] e = (omega arith, none_distinct)
none_seen (k ∷ keys) e = absurd (omega arith)

-- a new hop is numbered only where there is a number left
pub added_few : {E : Type 0} (keys : List Addr) (hops : List Address) (m : ℕ) (new : Bool) (r : Result Hop E) (hop : Hop) → m ≡ length keys + (if new then 1 else 0) → length keys ≤ most_hops → map addr_as keys ≡ hops
    → r ≡ Ok hop → (length hops ≡ most_hops → IsErr r) → m ≤ most_hops
added_few keys hops m new r hop e l v o f = by_new new e
  where
    seen : length keys ≡ length hops
    seen = sym (length-map-addr keys) ∙ ap length v

    room : length keys ≡ most_hops → ⊥
    room full = let s : IsErr r = f (sym seen ∙ full) in absurd cc

    by_new : (b : Bool) → m ≡ length keys + (if b then 1 else 0) → m ≤ most_hops
    by_new false x = omega (arith, x, l)
    by_new true x = let apart = room in omega (arith, x, l, apart)

pub added_distinct : (a : Addr) (keys after : List Addr) → after ≡ cond (list_any (same_code a) keys) keys (keys ++ a ∷ []) → IsDistinct same_address (map addr_as keys) → IsDistinct same_address (map addr_as after)
added_distinct a keys after e d = rw (inserted_as a keys after e) (with_hop_distinct (map addr_as keys) (addr_as a) d)

pub distinct_seen : (keys : List Addr) (hops : List Address) → map addr_as keys ≡ hops → IsDistinct same_address (map addr_as keys) → IsDistinct same_address hops
distinct_seen keys hops v d = rw (sym v) d

pub seen_held : (hops : List Address) (n : ℕ) (o : Option Addr) → option_map addr_as o ≡ hop_at hops n → IsSome o ↔ (1 ≤ n) × (n ≤ length hops)
seen_held hops n o e = (λ h. number_within hops n (by_hop o (hop_at hops n) e h), λ r. back o (hop_at hops n) e (number_there hops n r.0 r.1))
  where
    by_hop : (o : Option Addr) (h : Option Address) → option_map addr_as o ≡ h → IsSome o → IsSome h
    by_hop None h e s = absurd cc
    by_hop (Some a) None e s = absurd cc
    by_hop (Some a) (Some b) e s = refl

    back : (o : Option Addr) (h : Option Address) → option_map addr_as o ≡ h → IsSome h → IsSome o
    back None None e s = s
    back None (Some b) e s = absurd cc
    back (Some a) h e s = refl

pub seen_number : (hops : List Address) (n : ℕ) (o : Option Addr) → IsDistinct same_address hops → option_map addr_as o ≡ hop_at hops n → IfSome o (λ a. number_of hops (addr_as a) ≡ Some n)
seen_number hops n None d e = tt
seen_number hops n (Some a) d e = number_from hops (addr_as a) n d (sym e)

pub found_holds : (hops : List Address) (a : Address) (o : Option Hop) → option_map (λ hop. hop.0) o ≡ number_of hops a → IfSome o (λ hop. hop_at hops hop.0 ≡ Some a)
found_holds hops a None e = tt
found_holds hops a (Some hop) e = number_holds hops a hop.0 (sym e)

-- the hop at a place
pub hop_placed : (keys : List Addr) (hops : List Address) (n place : ℕ) → 1 ≤ n → place ≡ n - 1 → map addr_as keys ≡ hops → option_map addr_as (slice_get keys place) ≡ hop_at hops n
hop_placed keys hops zero place h e v = absurd (omega arith)
hop_placed keys hops (suc n) place h e v =
    let same : place ≡ n = omega arith in
    ap (λ i. option_map addr_as (slice_get keys i)) same ∙ (sym (slice_get-map addr_as keys n) ∙ ap (λ xs. slice_get xs n) v)
