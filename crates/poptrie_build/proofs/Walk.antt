-- One step of a lookup.
use Rattle.std.proofs.Common.{◌≡◌, ℕ, zero, suc, ◌+◌, ◌-◌, ◌*◌, ◌/◌, ◌%◌, ◌^◌, ◌<◌, ◌≤◌, List, [], ◌∷◌, ◌++◌, Bool, Option, Some, None, length, get_or, take, drop, refl, sym, ap, ◌∙◌, arith, subst}
use Rattle.std.specs.Int.{bit_at}
use Rattle.std.proofs.lemmas.Nat.{shr_below}
use Rattle.std.proofs.lemmas.List.{take-append-drop}
use Rattle.poptrie_build.specs.Bits.{rank_of}
use Rattle.fib_addr.specs.Answers.{part, one_answer}
use Rattle.poptrie_build.specs.Strides.{Region, slot, slots, mixed, visits, trie_visits, address, leaf_before, or_earlier, starts, run_start}
use Rattle.poptrie_build.specs.Stands.{Stands, BySlot, IsLeaf, node_at, blank}
use Rattle.poptrie_build.specs.declared.node.Node.{Node}
use Rattle.poptrie_build.proofs.Address.{first_bits, rest_bits, length_address, front, behind, whole}
use Rattle.fib_addr.proofs.OneAnswer.{one_answer_is, mixed_bits}
use Rattle.poptrie_build.proofs.Visits.{visits_none}

pub rank_more : (n v : ℕ) → rank_of n (v + 1) ≡ bit_at n v + rank_of n v
unfolding rank_of
rank_more n v = let e : v + 1 ≡ suc v = omega arith in ap (rank_of n) e

-- where a leaf stands before slot v, some bit below v is set
leaf_ranks : (n : ℕ) (g : ℕ → Option ℕ) (v h : ℕ) → ((u : ℕ) → u < v → bit_at n u ≡ run_start g u) → leaf_before g v ≡ Some h → 0 < rank_of n v
unfolding leaf_before rank_of
leaf_ranks n g zero h b e = cc
leaf_ranks n g (suc v) h b e = by (λ j q. leaf_ranks n g v j (λ u l. b u (omega arith)) q) (g v) (leaf_before g v) refl refl
  where
    by : ((j : ℕ) → leaf_before g v ≡ Some j → 0 < rank_of n v) → (x y : Option ℕ) → g v ≡ x → leaf_before g v ≡ y → 0 < bit_at n v + rank_of n v
    by again None y p q = let r = again h (sym (ap (λ x. or_earlier x (leaf_before g v)) p) ∙ e) in omega arith
    by again (Some k) None p q =
        let s : bit_at n v ≡ 1 = b v (omega arith) ∙ (ap (λ x. starts x (leaf_before g v)) p ∙ ap (starts (Some k)) q) in
        omega arith
    by again (Some k) (Some j) p q = let r = again j q in omega arith

-- a leaf slot has a first leaf at or below it
pub leaf_ranked : (n : ℕ) (g : ℕ → Option ℕ) (v h : ℕ) → v < 64 → ((u : ℕ) → u < 64 → bit_at n u ≡ run_start g u) → g v ≡ Some h → 0 < rank_of n (v + 1)
unfolding leaf_before
leaf_ranked n g v h l b e =
    let s : suc v ≡ v + 1 = omega arith in
    subst (λ (j : ℕ). 0 < rank_of n j) s (leaf_ranks n g (suc v) h (λ u m. b u (omega arith)) (ap (λ x. or_earlier x (leaf_before g v)) e))

pub node_ranked : (n v : ℕ) → bit_at n v ≡ 1 → 0 < rank_of n (v + 1)
node_ranked n v e = let r = rank_more n v in omega arith

is_leaf : (x : Option ℕ) → mixed x ≡ 0 → (h : ℕ) × (x ≡ Some h)
is_leaf None e = cc
is_leaf (Some h) e = (h, refl)

is_node : (x : Option ℕ) → mixed x ≡ 1 → x ≡ None
is_node None e = refl
is_node (Some h) e = cc

slot_below : (key : ℕ) → key < 2 ^ 128 → key / 2 ^ 122 < 64
slot_below key h = shr_below key 6 122 h

pub stands_within : (k : ℕ) (nodes : List Node) (leaves : List ℕ) (i d : ℕ) (f : List Bool → ℕ) → Stands k nodes leaves i d f → i < length nodes
unfolding Stands
stands_within zero nodes leaves i d f s = absurd s
stands_within (suc k) nodes leaves i d f s = s.0

pub stands_mixed : (k : ℕ) (nodes : List Node) (leaves : List ℕ) (i d : ℕ) (f : List Bool → ℕ) → Stands k nodes leaves i d f → one_answer d f ≡ None
unfolding Stands
stands_mixed zero nodes leaves i d f s = absurd s
stands_mixed (suc k) nodes leaves i d f s = s.1

-- the region of the key's slot
slot_is : (d key : ℕ) (f : List Bool → ℕ) → slot d f (key / 2 ^ 122) ≡ part (take 6 (address d key)) f
slot_is d key f = ap (λ p. part p f) (first_bits d key)

-- its answer at the rest of the address
pub answer_is : (d key : ℕ) (f : List Bool → ℕ) → d ≤ 128 → slot d f (key / 2 ^ 122) (address (d - 6) (key * 64 % 2 ^ 128)) ≡ f (address d key)
answer_is d key f h =
    ap (λ p. f (p ++ address (d - 6) (key * 64 % 2 ^ 128))) (first_bits d key)
    ∙ (ap (λ q. f (take 6 (address d key) ++ q)) (sym (rest_bits d key h))
    ∙ ap f (take-append-drop 6 (address d key)))

pub visits_more : (k d key : ℕ) (f : List Bool → ℕ) → d ≤ 128 → one_answer d f ≡ None → visits (suc k) d f (address d key) ≡ 1 + visits k (d - 6) (slot d f (key / 2 ^ 122)) (address (d - 6) (key * 64 % 2 ^ 128))
unfolding visits
visits_more k d key f h e =
    ap (λ x. mixed x + visits k (d - 6) (part (take 6 (address d key)) f) (drop 6 (address d key))) e
    ∙ (ap (λ p. 1 + visits k (d - 6) (part p f) (drop 6 (address d key))) (sym (first_bits d key))
    ∙ ap (λ q. 1 + visits k (d - 6) (slot d f (key / 2 ^ 122)) q) (rest_bits d key h))

-- ---- where the slot's bit is 0 the lookup ends
pub record Ends (leaves : List ℕ) (base n k d : ℕ) (f : List Bool → ℕ) (key : ℕ) : Type 0 where
  pub some : 0 < n
  pub within : base + n - 1 < length leaves
  pub hop : get_or leaves (base + n - 1) 0 ≡ f (address d key)
  pub one : visits k d f (address d key) ≡ 1
  pub bits : 0 < d

pub ends : (k : ℕ) (nodes : List Node) (leaves : List ℕ) (i d : ℕ) (f : List Bool → ℕ) (key : ℕ) → d ≤ 128 → key < 2 ^ 128 → Stands k nodes leaves i d f → bit_at (node_at nodes i).vector (key / 2 ^ 122) ≡ 0 → Ends leaves (node_at nodes i).base0 (rank_of (node_at nodes i).leafvec (key / 2 ^ 122 + 1)) k d f key
unfolding Stands
ends zero nodes leaves i d f key hd hk s b = absurd s
ends (suc k) nodes leaves i d f key hd hk s b =
    let v = key / 2 ^ 122 in
    let v_below : v < 64 = slot_below key hk in
    let leaf = is_leaf (slots d f v) (sym (s.2.nodes v v_below) ∙ b) in
    let at : IsLeaf leaves ((node_at nodes i).base0 + rank_of (node_at nodes i).leafvec (v + 1) - 1) leaf.0 =
    subst (λ (x : Option ℕ). BySlot x (Stands k nodes leaves ((node_at nodes i).base1 + rank_of (node_at nodes i).vector (v + 1) - 1) (d - 6) (slot d f v)) (IsLeaf leaves ((node_at nodes i).base0 + rank_of (node_at nodes i).leafvec (v + 1) - 1))) leaf.1 (s.3 v v_below)
    in
    let l : length (address (d - 6) (key * 64 % 2 ^ 128)) ≡ d - 6 = length_address (d - 6) (key * 64 % 2 ^ 128) (omega arith) in
    record {
      some = leaf_ranked (node_at nodes i).leafvec (slots d f) v leaf.0 v_below s.2.leaves leaf.1;
      within = at.0;
      hop = at.1 ∙ (sym (one_answer_is (d - 6) (slot d f v) leaf.0 leaf.1 (address (d - 6) (key * 64 % 2 ^ 128)) l) ∙ answer_is d key f hd);
      one = visits_more k d key f hd s.1 ∙ ap (λ n. 1 + n) (visits_none k (d - 6) (slot d f v) leaf.0 (address (d - 6) (key * 64 % 2 ^ 128)) l leaf.1);
      bits = mixed_bits d f s.1;
    }

-- ---- where it is 1 the lookup goes on
pub record GoesOn (nodes : List Node) (leaves : List ℕ) (base n k d : ℕ) (f : List Bool → ℕ) (key : ℕ) : Type 0 where
  pub some : 0 < n
  pub strides : ℕ
  pub stands : Stands strides nodes leaves (base + n - 1) (d - 6) (slot d f (key / 2 ^ 122))
  pub count : visits k d f (address d key) ≡ 1 + visits strides (d - 6) (slot d f (key / 2 ^ 122)) (address (d - 6) (key * 64 % 2 ^ 128))
  pub bits : 6 < d

pub goes_on : (k : ℕ) (nodes : List Node) (leaves : List ℕ) (i d : ℕ) (f : List Bool → ℕ) (key : ℕ) → d ≤ 128 → key < 2 ^ 128 → Stands k nodes leaves i d f → bit_at (node_at nodes i).vector (key / 2 ^ 122) ≡ 1 → GoesOn nodes leaves (node_at nodes i).base1 (rank_of (node_at nodes i).vector (key / 2 ^ 122 + 1)) k d f key
unfolding Stands
goes_on zero nodes leaves i d f key hd hk s b = absurd s
goes_on (suc k) nodes leaves i d f key hd hk s b =
    let v = key / 2 ^ 122 in
    let v_below : v < 64 = slot_below key hk in
    let none : slots d f v ≡ None = is_node (slots d f v) (sym (s.2.nodes v v_below) ∙ b) in
    let m : 0 < d - 6 = mixed_bits (d - 6) (slot d f v) none in
    record {
      some = node_ranked (node_at nodes i).vector v b;
      strides = k;
      stands = subst (λ (x : Option ℕ). BySlot x (Stands k nodes leaves ((node_at nodes i).base1 + rank_of (node_at nodes i).vector (v + 1) - 1) (d - 6) (slot d f v)) (IsLeaf leaves ((node_at nodes i).base0 + rank_of (node_at nodes i).leafvec (v + 1) - 1))) none (s.3 v v_below);
      count = visits_more k d key f hd s.1;
      bits = omega arith;
    }

-- ---- the loop's state
pub record At (nodes : List Node) (leaves : List ℕ) (region : Region) (key index left seen : ℕ) : Type 0 where
  pub strides : ℕ
  pub bits : ℕ
  pub answers : List Bool → ℕ
  pub stands : Stands strides nodes leaves index bits answers
  pub hop : answers (address bits left) ≡ region.answers (address region.bits key)
  pub count : seen + visits strides bits answers (address bits left) ≡ visits region.strides region.bits region.answers (address region.bits key)
  pub depth : 6 * seen + bits ≡ region.bits

pub at_start : (nodes : List Node) (leaves : List ℕ) (region : Region) (key index : ℕ) → Stands region.strides nodes leaves index region.bits region.answers → At nodes leaves region key index key 0
at_start nodes leaves region key index s = record {
  strides = region.strides;
  bits = region.bits;
  answers = region.answers;
  stands = s;
  hop = refl;
  count = omega arith;
  depth = omega arith;
}

pub at_next : (nodes : List Node) (leaves : List ℕ) (region : Region) (key index left seen n : ℕ) → region.bits ≤ 128 → left < 2 ^ 128 → (a : At nodes leaves region key index left seen) → bit_at (node_at nodes index).vector (left / 2 ^ 122) ≡ 1 → n ≡ rank_of (node_at nodes index).vector (left / 2 ^ 122 + 1) →
    (0 < n) × (6 * seen + 6 < region.bits) × At nodes leaves region key ((node_at nodes index).base1 + n - 1) (left * 64 % 2 ^ 128) (seen + 1)
at_next nodes leaves region key index left seen n hd hl a b e =
    let g = goes_on a.strides nodes leaves index a.bits a.answers left (omega (arith, a.depth)) hl a.stands b in
    let rest = visits g.strides (a.bits - 6) (slot a.bits a.answers (left / 2 ^ 122)) (address (a.bits - 6) (left * 64 % 2 ^ 128)) in (
      subst (λ (m : ℕ). 0 < m) (sym e) g.some,
      omega (arith, a.depth, g.bits),
      record {
        strides = g.strides;
        bits = a.bits - 6;
        answers = slot a.bits a.answers (left / 2 ^ 122);
        stands = subst (λ (m : ℕ). Stands g.strides nodes leaves ((node_at nodes index).base1 + m - 1) (a.bits - 6) (slot a.bits a.answers (left / 2 ^ 122))) (sym e) g.stands;
        hop = answer_is a.bits left a.answers (omega (arith, a.depth)) ∙ a.hop;
        count = omega (arith, a.count, g.count);
        depth = omega (arith, a.depth, g.bits);
      },
    )

pub record Done (leaves : List ℕ) (region : Region) (key base n seen : ℕ) : Type 0 where
  pub some : 0 < n
  pub within : base + n - 1 < length leaves
  pub hop : get_or leaves (base + n - 1) 0 ≡ region.answers (address region.bits key)
  pub count : seen + 1 ≡ visits region.strides region.bits region.answers (address region.bits key)
  pub few : 6 * (seen + 1) ≤ region.bits + 5

pub at_end : (nodes : List Node) (leaves : List ℕ) (region : Region) (key index left seen n : ℕ) → region.bits ≤ 128 → left < 2 ^ 128 → (a : At nodes leaves region key index left seen) → bit_at (node_at nodes index).vector (left / 2 ^ 122) ≡ 0 → n ≡ rank_of (node_at nodes index).leafvec (left / 2 ^ 122 + 1) →
    Done leaves region key (node_at nodes index).base0 n seen
at_end nodes leaves region key index left seen n hd hl a b e =
    let g = ends a.strides nodes leaves index a.bits a.answers left (omega (arith, a.depth)) hl a.stands b in
    subst (λ (m : ℕ). Done leaves region key (node_at nodes index).base0 m seen) (sym e)
    (record {
      some = g.some;
      within = g.within;
      hop = g.hop ∙ a.hop;
      count = omega (arith, a.count, g.one);
      few = omega (arith, a.depth, g.bits);
    })

-- ---- the region that the key's first bits leave
abbrev pub below : Region → ℕ → ℕ → Region
below region s key = record { strides = region.strides; bits = region.bits; answers = part (address s key) region.answers }

pub below_hop : (region : Region) (s key : ℕ) → s + region.bits ≤ 128 → (below region s key).answers (address region.bits (key * 2 ^ s % 2 ^ 128)) ≡ region.answers (address (s + region.bits) key)
below_hop region s key h = ap region.answers (whole s region.bits key h)

pub below_visits : (region : Region) (s key : ℕ) → s + region.bits ≤ 128 → visits region.strides region.bits (part (address s key) region.answers) (address region.bits (key * 2 ^ s % 2 ^ 128)) ≡ trie_visits s region.strides region.bits region.answers (address (s + region.bits) key)
below_visits region s key h =
    ap (λ p. visits region.strides region.bits (part p region.answers) (address region.bits (key * 2 ^ s % 2 ^ 128))) (sym (front s region.bits key))
    ∙ ap (λ q. visits region.strides region.bits (part (take s (address (s + region.bits) key)) region.answers) q) (sym (behind s region.bits key h))

-- ---- what is read at a place that is there
pub default_same : {A : Type 0} (xs : List A) (i : ℕ) (d e : A) → i < length xs → get_or xs i d ≡ get_or xs i e
default_same [] i d e h = absurd (omega arith)
default_same (x ∷ xs) zero d e h = refl
default_same (x ∷ xs) (suc i) d e h = default_same xs i d e (omega arith)

module _ (nodes : List Node) (leaves : List ℕ) (region : Region) (key index left seen n : ℕ) (node fill : Node) (is : node ≡ get_or nodes index fill) where
  read_is : At nodes leaves region key index left seen → node ≡ node_at nodes index
  read_is a = is ∙ default_same nodes index fill blank (stands_within a.strides nodes leaves index a.bits a.answers a.stands)

  pub at_next_read : region.bits ≤ 128 → left < 2 ^ 128 → (a : At nodes leaves region key index left seen) → bit_at node.vector (left / 2 ^ 122) ≡ 1 → n ≡ rank_of node.vector (left / 2 ^ 122 + 1) → (0 < n) × (6 * seen + 6 < region.bits) × At nodes leaves region key (node.base1 + n - 1) (left * 64 % 2 ^ 128) (seen + 1)
  at_next_read hd hl a b e =
      subst (λ (m : Node). bit_at m.vector (left / 2 ^ 122) ≡ 1 → n ≡ rank_of m.vector (left / 2 ^ 122 + 1) → (0 < n) × (6 * seen + 6 < region.bits) × At nodes leaves region key (m.base1 + n - 1) (left * 64 % 2 ^ 128) (seen + 1)) (sym (read_is a))
      (λ x y. at_next nodes leaves region key index left seen n hd hl a x y) b e

  pub at_end_read : region.bits ≤ 128 → left < 2 ^ 128 → (a : At nodes leaves region key index left seen) → bit_at node.vector (left / 2 ^ 122) ≡ 0 → n ≡ rank_of node.leafvec (left / 2 ^ 122 + 1) → Done leaves region key node.base0 n seen
  at_end_read hd hl a b e =
      subst (λ (m : Node). bit_at m.vector (left / 2 ^ 122) ≡ 0 → n ≡ rank_of m.leafvec (left / 2 ^ 122 + 1) → Done leaves region key m.base0 n seen) (sym (read_is a))
      (λ x y. at_end nodes leaves region key index left seen n hd hl a x y) b e
