-- What is asked for is no more than what the new part needs; so what is put aside is no more than what the old part needed.
use Rattle.std.proofs.Common.{◌≡◌, ℕ, zero, suc, ◌+◌, ◌-◌, ◌*◌, ◌^◌, ◌≤◌, List, [], ◌∷◌, ◌++◌, Bool, true, false, Option, Some, None, refl, sym, ap, ◌∙◌, arith, subst}
use Rattle.table_model.specs.Bits.{bits_of}
use Rattle.buddy_arena.specs.Space.{Space, marked}
use Rattle.buddy_arena.specs.Space as arena
use Rattle.buddy_arena.proofs.Totals.{tick_le}
use Rattle.buddy_arena.specs.Powers.{up, up_from}
use Rattle.buddy_arena.specs.Arrays.{places_of}
use Rattle.buddy_arena.specs.Blocks.{Held}
use Rattle.buddy_arena.proofs.Sets.{places_append}
use Rattle.fib_addr.specs.Answers.{part, one_answer}
use Rattle.poptrie_build.specs.Strides.{slots, slot, mixed, total}
use Rattle.poptrie_build.specs.Need.{children, runs, need_nodes, need_leaves, trie_nodes, trie_leaves}
use Rattle.poptrie_build.specs.declared.node.Node.{Node}
use Rattle.poptrie_build.proofs.Counting.{need_nodes_is, need_leaves_is}
use Rattle.path_copying.specs.Changes.{Part, Replaces}
use Rattle.path_copying.specs.Asks.{Ask, ask_for, alike, lists_of, if_changed, asks, word_asks, slots_asks, Frees, MeetsNeed, MeetsAsk, MeetsInTurn, MeetsAll}
use Rattle.path_copying.proofs.Asking.{none_alike, none_uniform, asks_are}
use Rattle.path_copying.proofs.Whole.{nodes_total, leaves_total}

-- ---- the places that are asked for, of the nodes and of the leaves
abbrev pub node_part : Ask → ℕ
node_part (zero, need) = need
node_part (suc a, need) = 0

abbrev pub leaf_part : Ask → ℕ
leaf_part (zero, need) = 0
leaf_part (suc a, need) = need

abbrev pub node_places : List Ask → ℕ
node_places [] = 0
node_places (a ∷ rest) = node_part a + node_places rest

abbrev pub leaf_places : List Ask → ℕ
leaf_places [] = 0
leaf_places (a ∷ rest) = leaf_part a + leaf_places rest

nodes_join : (xs ys : List Ask) → node_places (xs ++ ys) ≡ node_places xs + node_places ys
nodes_join [] ys = omega arith
nodes_join (x ∷ xs) ys = let e = nodes_join xs ys in omega (arith, e)

leaves_join : (xs ys : List Ask) → leaf_places (xs ++ ys) ≡ leaf_places xs + leaf_places ys
leaves_join [] ys = omega arith
leaves_join (x ∷ xs) ys = let e = leaves_join xs ys in omega (arith, e)

-- ---- a node's own
up_none : up 0 ≡ 0
unfolding up
up_none = refl

up_one : up 1 ≡ 1
unfolding up up_from
up_one = refl

nodes_for : (c : ℕ) → (node_places (ask_for 0 c) ≡ up c) × (leaf_places (ask_for 0 c) ≡ 0)
nodes_for zero = (sym up_none, refl)
nodes_for (suc c) = (omega arith, omega arith)

leaves_for : (c : ℕ) → (node_places (ask_for 1 c) ≡ 0) × (leaf_places (ask_for 1 c) ≡ up c)
leaves_for zero = (refl, sym up_none)
leaves_for (suc c) = (omega arith, omega arith)

own_places : (c e : ℕ) → (node_places (ask_for 0 c ++ ask_for 1 e) ≡ up c) × (leaf_places (ask_for 0 c ++ ask_for 1 e) ≡ up e)
own_places c e =
    let a = nodes_for c in
    let b = leaves_for e in (
      nodes_join (ask_for 0 c) (ask_for 1 e) ∙ omega (arith, a.0, b.0),
      leaves_join (ask_for 0 c) (ask_for 1 e) ∙ omega (arith, a.1, b.1),
    )

-- ---- slot by slot
nodes_listed : (g : ℕ → List Ask) (h : ℕ → ℕ) (n : ℕ) → ((u : ℕ) → node_places (g u) ≤ h u) → node_places (lists_of g n) ≤ total h n
unfolding lists_of total
nodes_listed g h zero e = omega arith
nodes_listed g h (suc n) e = let t = nodes_listed g h n e in let s = e n in let j = nodes_join (lists_of g n) (g n) in omega (arith, t, s, j)

leaves_listed : (g : ℕ → List Ask) (h : ℕ → ℕ) (n : ℕ) → ((u : ℕ) → leaf_places (g u) ≤ h u) → leaf_places (lists_of g n) ≤ total h n
unfolding lists_of total
leaves_listed g h zero e = omega arith
leaves_listed g h (suc n) e = let t = leaves_listed g h n e in let s = e n in let j = leaves_join (lists_of g n) (g n) in omega (arith, t, s, j)

-- ---- a region's
none_below : (d : ℕ) (f g : List Bool → ℕ) → asks zero d f g ≡ []
unfolding asks
none_below d f g = refl

pub nodes_asked : (k d : ℕ) (f g : List Bool → ℕ) → node_places (asks k d f g) ≤ need_nodes k d f
nodes_asked zero d f g = let e = ap node_places (none_below d f g) in omega (arith, e)
nodes_asked (suc k) d f g = by (alike d f g) (one_answer d f) refl refl (nodes_listed (λ v. asks k (d - 6) (slot d f v) (slot d g v)) (λ v. need_nodes k (d - 6) (slot d f v)) 64 (λ v. nodes_asked k (d - 6) (slot d f v) (slot d g v)))
  where
    none : asks (suc k) d f g ≡ [] → node_places (asks (suc k) d f g) ≤ need_nodes (suc k) d f
    none e = let z = ap node_places e in omega (arith, z)

    by : (b : Bool) (o : Option ℕ) → alike d f g ≡ b → one_answer d f ≡ o → node_places (lists_of (λ v. asks k (d - 6) (slot d f v) (slot d g v)) 64) ≤ total (λ v. need_nodes k (d - 6) (slot d f v)) 64 → node_places (asks (suc k) d f g) ≤ need_nodes (suc k) d f
    by true o a e t = none (none_alike (suc k) d f g a)
    by false (Some h) a e t = none (none_uniform (suc k) d h f g e)
    by false None a e t =
        let own = own_places (children (slots d f)) (runs (slots d f)) in
        let is = ap node_places (asks_are k d f g a e) in
        let j = nodes_join (ask_for 0 (children (slots d f)) ++ ask_for 1 (runs (slots d f))) (lists_of (λ v. asks k (d - 6) (slot d f v) (slot d g v)) 64) in
        omega (arith, own.0, is, j, t, need_nodes_is k d f e)

pub leaves_asked : (k d : ℕ) (f g : List Bool → ℕ) → leaf_places (asks k d f g) ≤ need_leaves k d f
leaves_asked zero d f g = let e = ap leaf_places (none_below d f g) in omega (arith, e)
leaves_asked (suc k) d f g = by (alike d f g) (one_answer d f) refl refl (leaves_listed (λ v. asks k (d - 6) (slot d f v) (slot d g v)) (λ v. need_leaves k (d - 6) (slot d f v)) 64 (λ v. leaves_asked k (d - 6) (slot d f v) (slot d g v)))
  where
    none : asks (suc k) d f g ≡ [] → leaf_places (asks (suc k) d f g) ≤ need_leaves (suc k) d f
    none e = let z = ap leaf_places e in omega (arith, z)

    by : (b : Bool) (o : Option ℕ) → alike d f g ≡ b → one_answer d f ≡ o → leaf_places (lists_of (λ v. asks k (d - 6) (slot d f v) (slot d g v)) 64) ≤ total (λ v. need_leaves k (d - 6) (slot d f v)) 64 → leaf_places (asks (suc k) d f g) ≤ need_leaves (suc k) d f
    by true o a e t = none (none_alike (suc k) d f g a)
    by false (Some h) a e t = none (none_uniform (suc k) d h f g e)
    by false None a e t =
        let own = own_places (children (slots d f)) (runs (slots d f)) in
        let is = ap leaf_places (asks_are k d f g a e) in
        let j = leaves_join (ask_for 0 (children (slots d f)) ++ ask_for 1 (runs (slots d f))) (lists_of (λ v. asks k (d - 6) (slot d f v) (slot d g v)) 64) in
        omega (arith, own.1, is, j, t, need_leaves_is k d f e)

-- ---- a word's, and those of a region's slots
own_word : (a : Bool) (o : Option ℕ) → (node_places (if_changed a o (ask_for 0 1)) ≤ mixed o) × (leaf_places (if_changed a o (ask_for 0 1)) ≡ 0)
own_word true None = (omega arith, refl)
own_word true (Some h) = (omega arith, refl)
own_word false None = (let e = up_one in omega (arith, e), omega arith)
own_word false (Some h) = (omega arith, refl)

pub word_places : (k d : ℕ) (f g : List Bool → ℕ) → (node_places (word_asks k d f g) ≤ trie_nodes 0 k d f) × (leaf_places (word_asks k d f g) ≤ trie_leaves 0 k d f)
unfolding trie_nodes trie_leaves
word_places k d f g =
    let own = own_word (alike d f g) (one_answer d f) in
    let a = nodes_join (if_changed (alike d f g) (one_answer d f) (ask_for 0 1)) (asks k d f g) in
    let b = leaves_join (if_changed (alike d f g) (one_answer d f) (ask_for 0 1)) (asks k d f g) in
    let n = nodes_asked k d f g in
    let l = leaves_asked k d f g in
    (omega (arith, own.0, a, n), omega (arith, own.1, b, l))

pub slots_places : (k j d : ℕ) (f : List Bool → ℕ) (h : ℕ → List Bool → ℕ) → (node_places (slots_asks k j d f h) ≤ trie_nodes j k d f) × (leaf_places (slots_asks k j d f h) ≤ trie_leaves j k d f)
slots_places k j d f h = (
  (let a = nodes_listed (λ v. word_asks k d (part (bits_of j v) f) (h v)) (λ v. trie_nodes 0 k d (part (bits_of j v) f)) (2 ^ j) (λ v. (word_places k d (part (bits_of j v) f) (h v)).0) in
      omega (arith, a, nodes_total k d j f)),
  (let a = leaves_listed (λ v. word_asks k d (part (bits_of j v) f) (h v)) (λ v. trie_leaves 0 k d (part (bits_of j v) f)) (2 ^ j) (λ v. (word_places k d (part (bits_of j v) f) (h v)).1) in
      omega (arith, a, leaves_total k d j f)),
)

-- ---- met, they take no more than these places
left_over : (p n : ℕ) (f : List Bool) → arena.free_count f ≤ arena.free_count (marked p n false f) + n
left_over p n [] = omega arith
left_over zero zero (b ∷ f) = omega arith
left_over zero (suc n) (b ∷ f) = let e = left_over zero n f in let t = tick_le b in omega (arith, e, t)
left_over (suc p) n (b ∷ f) = let e = left_over p n f in omega (arith, e)

block_left : (order need : ℕ) (old new : List Bool) → MeetsNeed order need old new → arena.free_count old ≤ need + arena.free_count new
block_left order need old new m =
    let size : 2 ^ m.1 ≡ need = m.2 in
    let t = left_over m.0 (2 ^ m.1) old in
    let e = ap arena.free_count m.3.free in
    omega (arith, size, t, e)

abbrev AreLeft : Frees → Frees → List Ask → Type 0
AreLeft s t xs = (arena.free_count s.0 ≤ node_places xs + arena.free_count t.0) × (arena.free_count s.1 ≤ leaf_places xs + arena.free_count t.1)

ask_left : (n l : ℕ) (a : Ask) (s t : Frees) → MeetsAsk n l a s t → (arena.free_count s.0 ≤ node_part a + arena.free_count t.0) × (arena.free_count s.1 ≤ leaf_part a + arena.free_count t.1)
ask_left n l (zero, need) s t m = (block_left n need s.0 t.0 m.0, let e = ap arena.free_count m.1 in omega (arith, e))
ask_left n l (suc a, need) s t m = (let e = ap arena.free_count m.1 in omega (arith, e), block_left l need s.1 t.1 m.0)

pub asks_left : (n l : ℕ) (xs : List Ask) (s t : Frees) → MeetsInTurn n l xs s t → AreLeft s t xs
unfolding MeetsInTurn
asks_left n l [] s t r = subst (λ (x : Frees). AreLeft s x []) (sym r) (omega arith, omega arith)
asks_left n l (a ∷ xs) s t r =
    let one = ask_left n l a s r.0 r.1 in
    let rest = asks_left n l xs r.0 t r.2 in
    (omega (arith, one.0, rest.0), omega (arith, one.1, rest.1))

-- ---- what a node that is made anew replaces
pub few_replaced : (nodes nodes2 : Space Node) (nb nb2 : Held) (leaves leaves2 : Space ℕ) (lb lb2 : Held) (was new : Option Node) (k d : ℕ) (f g : List Bool → ℕ) (m m2 : ℕ) → d ≤ 6 * k → Replaces nodes nb leaves lb was nodes2 nb2 leaves2 lb2 new d f → MeetsAll nodes leaves was nodes2 leaves2 d f → Part k nodes leaves was d g (nb.replaced ++ []) (lb.replaced ++ []) m m2 →
    (places_of nb2.replaced ≤ places_of nb.replaced + need_nodes k d g) × (places_of lb2.replaced ≤ places_of lb.replaced + need_leaves k d g)
few_replaced nodes nodes2 nb nb2 leaves leaves2 lb lb2 was new k d f g m m2 few re met p =
    let q = re k g [] [] m m2 few p in
    let left = asks_left nodes.order leaves.order (asks k d f g) (nodes.free, leaves.free) (nodes2.free, leaves2.free) (met k g few p.stands) in
    let n = nodes_asked k d f g in
    let l = leaves_asked k d f g in (
      omega (arith, p.nodes_fill, q.nodes_fill, left.0, n, places_append nb.replaced [], places_append nb2.replaced []),
      omega (arith, p.leaves_fill, q.leaves_fill, left.1, l, places_append lb.replaced [], places_append lb2.replaced []),
    )
