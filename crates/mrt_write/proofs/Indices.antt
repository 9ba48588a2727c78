-- The place of a peer.
use Rattle.std.proofs.Common.{inl, inr, ◌≡◌, ℕ, zero, suc, ◌+◌, ◌<◌, ◌≤◌, Bool, true, false, cond, not, List, [], ◌∷◌, length, map, get_or, refl, sym, ap, subst, ◌∙◌, arith}
use Rattle.std.specs.Prelude.{◌||◌, Ok, Err}
use Rattle.std.specs.List.{AllByRecursion, list_any, position_or_len}
use Rattle.std.specs.List.Sorted.{IsBinarySearchResult, IsNonDecreasingBy, IsStrictlySortedBy}
use Rattle.std.specs.BTreeSet.{insert_key}
use Rattle.std.specs.Ordering.{is_eq, match_ordering, ordering_index, ordering_reverse}
use Rattle.std.specs.declared.cmp.Ordering.{Ordering}
use Rattle.std.specs.declared.cmp.Ordering.TheVariants.{Less, Equal, Greater}
use Rattle.std.proofs.lemmas.Bool.{cases_lt}
use Rattle.std.proofs.lemmas.Cmp.{alike_right}
use Rattle.table_model.specs.Width.{width}
use Rattle.table_model.proofs.BitLaws.{length-bits_of}
use Rattle.route_model.specs.Events.{Peer, IsPeer, same_peer, peer_cmp}
use Rattle.route_model.proofs.Keyed.{key_test}
use Rattle.route_model.proofs.Places.{peer_key}
use Rattle.fib_prefix.specs.Views.{peer_as}
use Rattle.fib_prefix.specs.Order.{code_peer_cmp}
use Rattle.fib_prefix.specs.declared.event.Peer as code
use Rattle.fib_prefix.proofs.Peers.{peer_is, peer_total}
use Rattle.mrt_write.proofs.Sharing.{index_is}
use Rattle.mrt_write.specs.Dumps.{HasNoIndex, IsPeerIndex}

is_peer : (q : code.Peer) → IsPeer (peer_as q)
is_peer q = length-bits_of (width q.addr.family) q.addr.bits

pub tied_is : (q r : code.Peer) → is_eq (code_peer_cmp q r) ≡ same_peer (peer_as q) (peer_as r)
tied_is q r = ap is_eq (peer_is q r) ∙ key_test peer_key (peer_as q) (peer_as r) (is_peer q) (is_peer r)

-- the test is the same both ways
turned : (q r : Peer) → same_peer q r ≡ same_peer r q
turned q r = by_tests (same_peer q r) (same_peer r q) refl refl
  where
    by_tests : (b c : Bool) → same_peer q r ≡ b → same_peer r q ≡ c → b ≡ c
    by_tests true true e h = refl
    by_tests false false e h = refl
    by_tests true false e h = let s : q ≡ r = peer_key.same q r e in sym (ap (λ x. same_peer x q) (sym s) ∙ peer_key.itself q) ∙ h
    by_tests false true e h = let s : r ≡ q = peer_key.same r q h in sym e ∙ (ap (λ x. same_peer q x) s ∙ peer_key.itself q)

-- ---- the place that a search finds

rises : (list : List code.Peer) (i j : ℕ) (d : code.Peer) → IsStrictlySortedBy code_peer_cmp list → i < j → j < length list → code_peer_cmp (get_or list i d) (get_or list j d) ≡ Less
unfolding IsStrictlySortedBy
rises [] i j d s l m = absurd (omega (arith, m))
rises (x ∷ list) i zero d s l m = absurd (omega (arith, l))
rises (x ∷ list) zero (suc j) d s l m = behind list j s.0 (omega (arith, m))
  where
    behind : (ys : List code.Peer) (j : ℕ) → AllByRecursion (λ y. code_peer_cmp x y ≡ Less) ys → j < length ys → code_peer_cmp x (get_or ys j d) ≡ Less
    behind [] j a m = absurd (omega (arith, m))
    behind (y ∷ ys) zero a m = a.0
    behind (y ∷ ys) (suc j) a m = behind ys j a.1 (omega (arith, m))
rises (x ∷ list) (suc i) (suc j) d s l m = rises list i j d s.1 (omega (arith, l)) (omega (arith, m))

falls_not : (list : List code.Peer) (q : code.Peer) → IsStrictlySortedBy code_peer_cmp list → IsNonDecreasingBy (λ y. ordering_index (code_peer_cmp y q)) list
falls_not list q s i j d le lt = elim (cases_lt i j) [
  | inl m ↦ by_order (code_peer_cmp (get_or list j d) q) refl (rises list i j d s m lt)
  | inr m ↦ let e : i ≡ j = omega (arith, m, le) in subst (λ k. ordering_index (code_peer_cmp (get_or list i d) q) ≤ ordering_index (code_peer_cmp (get_or list k d) q)) e (omega arith)
]
  where
    low : (o : Ordering) → o ≡ Less → (n : ℕ) → ordering_index o ≤ n
    low Less e n = omega arith
    low Equal e n = absurd cc
    low Greater e n = absurd cc

    high : (o : Ordering) → ordering_index o ≤ 2
    high Less = omega arith
    high Equal = omega arith
    high Greater = omega arith

    by_order : (o : Ordering) → code_peer_cmp (get_or list j d) q ≡ o → code_peer_cmp (get_or list i d) (get_or list j d) ≡ Less → ordering_index (code_peer_cmp (get_or list i d) q) ≤ ordering_index o
    by_order Less e l = low (code_peer_cmp (get_or list i d) q) (peer_total.trans (get_or list i d) (get_or list j d) q l e) 0
    by_order Equal e l = low (code_peer_cmp (get_or list i d) q) (sym (alike_right peer_total (get_or list j d) q (get_or list i d) e) ∙ l) 1
    by_order Greater e l = high (code_peer_cmp (get_or list i d) q)

-- a peer that a test finds has a place
some_place : (list : List code.Peer) (q : code.Peer) → list_any (same_peer (peer_as q)) (map peer_as list) ≡ true → (j : ℕ) × (j < length list) × ((d : code.Peer) → is_eq (code_peer_cmp (get_or list j d) q) ≡ true)
some_place [] q e = absurd cc
some_place (x ∷ list) q e = by_test (same_peer (peer_as q) (peer_as x)) refl e (some_place list q)
  where
    by_test : (b : Bool) → same_peer (peer_as q) (peer_as x) ≡ b → (b || list_any (same_peer (peer_as q)) (map peer_as list)) ≡ true
        → (list_any (same_peer (peer_as q)) (map peer_as list) ≡ true → (j : ℕ) × (j < length list) × ((d : code.Peer) → is_eq (code_peer_cmp (get_or list j d) q) ≡ true))
        → (j : ℕ) × (j < suc (length list)) × ((d : code.Peer) → is_eq (code_peer_cmp (get_or (x ∷ list) j d) q) ≡ true)
    by_test true t f ih = (0, omega arith, λ d. tied_is x q ∙ (turned (peer_as x) (peer_as q) ∙ t))
    by_test false t f ih = let r = ih f in (suc r.0, omega (arith, r.1), r.2)

-- so a search in order finds it
not_missed : (list : List code.Peer) (q : code.Peer) (i : ℕ) → IsStrictlySortedBy code_peer_cmp list → list_any (same_peer (peer_as q)) (map peer_as list) ≡ true → IsBinarySearchResult (λ y. code_peer_cmp y q) list (Err i) → ⊥
not_missed list q i s there h =
    let r = some_place list q there in
    let p = h (falls_not list q s) in
    elim (cases_lt r.0 i) [
      | inl m ↦ let e : is_eq (code_peer_cmp (get_or list r.0 q) q) ≡ false = ap is_eq (p.0 r.0 q (omega arith) m) in let t = r.2 q in absurd cc
      | inr m ↦ let e : is_eq (code_peer_cmp (get_or list r.0 q) q) ≡ false = ap is_eq (p.1 r.0 q m r.1) in let t = r.2 q in absurd cc
    ]

pub none_found : (list : List code.Peer) (q : code.Peer) (i : ℕ) → IsStrictlySortedBy code_peer_cmp list → IsBinarySearchResult (λ y. code_peer_cmp y q) list (Err i) → HasNoIndex (map peer_as list) (peer_as q)
none_found list q i s h = by_test (list_any (same_peer (peer_as q)) (map peer_as list)) refl
  where
    by_test : (b : Bool) → list_any (same_peer (peer_as q)) (map peer_as list) ≡ b → b ≡ false
    by_test true t = absurd (not_missed list q i s t h)
    by_test false t = refl

first_is : (list : List code.Peer) (q : code.Peer) (i : ℕ) → IsStrictlySortedBy code_peer_cmp list → i < length list → ((d : code.Peer) → code_peer_cmp (get_or list i d) q ≡ Equal) → position_or_len (same_peer (peer_as q)) (map peer_as list) ≡ i
unfolding IsStrictlySortedBy
first_is [] q i s l e = absurd (omega (arith, l))
first_is (x ∷ list) q zero s l e = ap (λ b. cond (not b) (1 + position_or_len (same_peer (peer_as q)) (map peer_as list)) 0) (turned (peer_as q) (peer_as x) ∙ (sym (tied_is x q) ∙ ap is_eq (e q)))
first_is (x ∷ list) q (suc i) s l e =
    let less : code_peer_cmp x q ≡ Less = sym (alike_right peer_total (get_or list i q) q x (e q)) ∙ rises (x ∷ list) 0 (suc i) q s (omega arith) l in
    let no : same_peer (peer_as q) (peer_as x) ≡ false = turned (peer_as q) (peer_as x) ∙ (sym (tied_is x q) ∙ ap is_eq less) in
    let one : position_or_len (same_peer (peer_as q)) (map peer_as (x ∷ list)) ≡ 1 + position_or_len (same_peer (peer_as q)) (map peer_as list) = ap (λ b. cond (not b) (1 + position_or_len (same_peer (peer_as q)) (map peer_as list)) 0) no in
    omega (arith, one, first_is list q i s.1 (omega (arith, l)) (λ d. e d))

is_there : (list : List code.Peer) (q : code.Peer) (i : ℕ) → i < length list → ((d : code.Peer) → code_peer_cmp (get_or list i d) q ≡ Equal) → list_any (same_peer (peer_as q)) (map peer_as list) ≡ true
is_there [] q i l e = absurd (omega (arith, l))
is_there (x ∷ list) q zero l e = ap (λ b. b || list_any (same_peer (peer_as q)) (map peer_as list)) (turned (peer_as q) (peer_as x) ∙ (sym (tied_is x q) ∙ ap is_eq (e q)))
is_there (x ∷ list) q (suc i) l e = ap (λ b. same_peer (peer_as q) (peer_as x) || b) (is_there list q i (omega (arith, l)) (λ d. e d)) ∙ or_true (same_peer (peer_as q) (peer_as x))
  where
    or_true : (b : Bool) → (b || true) ≡ true
    or_true true = refl
    or_true false = refl

index_at : (list : List code.Peer) (q : code.Peer) (i : ℕ) → IsStrictlySortedBy code_peer_cmp list → i < length list → ((d : code.Peer) → code_peer_cmp (get_or list i d) q ≡ Equal) → IsPeerIndex (map peer_as list) (peer_as q) i
index_at list q i s l h =
    let there = is_there list q i l h in
    (there, sym (first_is list q i s l h) ∙ sym (index_is (peer_as q) (map peer_as list) there))

pub place_found : (list : List code.Peer) (q : code.Peer) (i : ℕ) → IsStrictlySortedBy code_peer_cmp list → i < length list → IsBinarySearchResult (λ y. code_peer_cmp y q) list (Ok i) → IsPeerIndex (map peer_as list) (peer_as q) i
place_found list q i s l h = index_at list q i s l (λ d. h d)

-- or a place that is tried has it
pub place_tried : (list : List code.Peer) (q x : code.Peer) (i : ℕ) → IsStrictlySortedBy code_peer_cmp list → i < length list → x ≡ get_or list i x → is_eq (code_peer_cmp x q) ≡ true → IsPeerIndex (map peer_as list) (peer_as q) i
place_tried list q x i s l at e = index_at list q i s l (λ d. ap (λ y. code_peer_cmp y q) (by_default list i d l ∙ sym at) ∙ equal (code_peer_cmp x q) e)
  where
    by_default : (ys : List code.Peer) (j : ℕ) (d : code.Peer) → j < length ys → get_or ys j d ≡ get_or ys j x
    by_default [] j d m = absurd (omega (arith, m))
    by_default (y ∷ ys) zero d m = refl
    by_default (y ∷ ys) (suc j) d m = by_default ys j d (omega (arith, m))

    equal : (o : Ordering) → is_eq o ≡ true → o ≡ Equal
    equal Less t = absurd cc
    equal Equal t = refl
    equal Greater t = absurd cc

-- ---- a peer that is there is not put once more

present_at : (list : List code.Peer) (q : code.Peer) (i : ℕ) → IsStrictlySortedBy code_peer_cmp list → i < length list → ((d : code.Peer) → code_peer_cmp (get_or list i d) q ≡ Equal) → insert_key peer_cmp (map peer_as list) (peer_as q) ≡ map peer_as list
unfolding IsStrictlySortedBy
present_at [] q i s l e = absurd (omega (arith, l))
present_at (x ∷ list) q zero s l e =
    let same : code_peer_cmp q x ≡ Equal = peer_total.antisymm q x ∙ ap ordering_reverse (e q) in
    ap (λ o. match_ordering o (peer_as q ∷ map peer_as (x ∷ list)) (map peer_as (x ∷ list)) (peer_as x ∷ insert_key peer_cmp (map peer_as list) (peer_as q))) (sym (peer_is q x) ∙ same)
present_at (x ∷ list) q (suc i) s l e =
    let less : code_peer_cmp x q ≡ Less = sym (alike_right peer_total (get_or list i q) q x (e q)) ∙ rises (x ∷ list) 0 (suc i) q s (omega arith) l in
    let more : code_peer_cmp q x ≡ Greater = peer_total.antisymm q x ∙ ap ordering_reverse less in
    ap (λ o. match_ordering o (peer_as q ∷ map peer_as (x ∷ list)) (map peer_as (x ∷ list)) (peer_as x ∷ insert_key peer_cmp (map peer_as list) (peer_as q))) (sym (peer_is q x) ∙ more)
    ∙ ap (λ qs. peer_as x ∷ qs) (present_at list q i s.1 (omega (arith, l)) (λ d. e d))

pub present : (list : List code.Peer) (q : code.Peer) → IsStrictlySortedBy code_peer_cmp list → list_any (same_peer (peer_as q)) (map peer_as list) ≡ true → insert_key peer_cmp (map peer_as list) (peer_as q) ≡ map peer_as list
present list q s there =
    let r = some_place list q there in
    present_at list q r.0 s r.1 (λ d. tied (code_peer_cmp (get_or list r.0 d) q) (r.2 d))
  where
    tied : (o : Ordering) → is_eq o ≡ true → o ≡ Equal
    tied Less t = absurd cc
    tied Equal t = refl
    tied Greater t = absurd cc
