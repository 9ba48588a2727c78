-- The children and the leaves of a node while its slots are gone through.
use Rattle.std.proofs.Common.{◌≡◌, ◌≢◌, ℕ, zero, suc, ◌+◌, ◌-◌, ◌*◌, ◌<◌, ◌≤◌, List, [], ◌∷◌, Bool, true, false, cond, nat_eq, Option, Some, None, length, get_or, refl, sym, ap, ◌∙◌, arith, subst, inl, inr}
use Rattle.std.specs.Prelude.{not, ◌&&◌, ◌⊎◌}
use Rattle.std.specs.Int.{bit_at}
use Rattle.std.proofs.Math.ListN.{set, length-set}
use Rattle.std.proofs.lemmas.List.{get_or-set_other, get_or-set_same}
use Rattle.std.proofs.lemmas.Bool.{cases_eq, eqb-true}
use Rattle.poptrie_build.specs.Bits.{rank_of}
use Rattle.fib_addr.specs.Answers.{one_answer}
use Rattle.poptrie_build.specs.Strides.{slots, slot, mixed, starts, or_earlier, leaf_before, run_start}
use Rattle.buddy_arena.specs.Powers.{up}
use Rattle.poptrie_build.specs.Need.{children, runs}
use Rattle.buddy_arena.proofs.Powers.{up_above}
use Rattle.poptrie_build.specs.Stands.{IsCanonical, IsLeaf, BySlot, node_at, blank}
use Rattle.buddy_arena.specs.Space.{Space}
use Rattle.buddy_arena.specs.Places.{Keeps, TakesPlaces, is_out, since}
use Rattle.poptrie_build.specs.Put.{PutsAll}
use Rattle.poptrie_build.specs.Build.{StandsIn}
use Rattle.poptrie_build.specs.declared.node.Node.{Node}
use Rattle.buddy_arena.proofs.Parting.{since_now, since_not}
use Rattle.poptrie_build.proofs.Carry.{carry}
use Rattle.poptrie_build.proofs.So_far.{rank_total, cases_le}
use Rattle.poptrie_build.proofs.Walk.{leaf_ranked, node_ranked, rank_more}
use Rattle.fib_addr.proofs.OneAnswer.{mixed_bits}

pub record State : Type 0 where
  pub nodes : List Node
  pub N : ℕ → Bool
  pub leaves : List ℕ
  pub L : ℕ → Bool

pub since_from : (a b : Bool) → b ≡ true → a ≡ false → (b && not a) ≡ true
since_from true b e f = cc
since_from false true e f = refl
since_from false false e f = cc

-- what was not out before the middle was not out at first
pub not_before : (a b : Bool) → (a ≡ true → b ≡ true) → b ≡ false → a ≡ false
not_before true b h e = let g = h refl in cc
not_before false b h e = refl

pub apart : (F : ℕ → Bool) (i j : ℕ) → F i ≡ false → F j ≡ true → i ≢ j
apart F i j e g s = let h : F i ≡ F j = ap F s in cc

pub apart2 : (F : ℕ → Bool) (a b : ℕ) → F a ≡ true → F b ≡ false → a ≢ b
apart2 F a b e q s = let h : F a ≡ F b = ap F s in cc

pub rank_le : (n a b : ℕ) → a ≤ b → rank_of n a ≤ rank_of n b
unfolding rank_of
rank_le n a zero h = (let e : a ≡ zero = omega arith in let g = ap (rank_of n) e in omega arith)
rank_le n a (suc b) h =
    elim (cases_eq a (suc b)) [
      | inl e ↦ (let g : rank_of n a ≡ rank_of n (suc b) = ap (rank_of n) e in omega arith)
      | inr e ↦ (let g = rank_le n a b (omega arith) in omega arith)
    ]

-- a block holds as many as were asked for
pub fewer : {base n len : ℕ} {old mid : ℕ → Bool} → TakesPlaces base (up n) old mid len → TakesPlaces base n old mid len
fewer {n = n} t = let l = up_above n in record { within = omega (arith, t.within, l); were = λ i h. t.were i (omega arith); are = λ i h. t.are i (omega arith) }

-- the place of the r-th of a block
in_block : (base m r len : ℕ) (old mid : ℕ → Bool) → TakesPlaces base m old mid len → 0 < r → r ≤ m → (mid (base + r - 1) ≡ true) × (old (base + r - 1) ≡ false) × (base + r - 1 < len)
in_block base m r len old mid t h l =
    let e : base + (r - 1) ≡ base + r - 1 = omega arith in
    (subst (λ (i : ℕ). mid i ≡ true) e (t.are (r - 1) (omega arith)), subst (λ (i : ℕ). old i ≡ false) e (t.were (r - 1) (omega arith)), omega (arith, t.within))

first_leaf : (g : ℕ → Option ℕ) (h i : ℕ) → g i ≡ Some h → leaf_before g (suc i) ≡ Some h
unfolding leaf_before
first_leaf g h i p = ap (λ x. or_earlier x (leaf_before g i)) p

no_start : (k h : ℕ) → starts (Some k) (Some h) ≡ 0 → k ≡ h
no_start k h q = by (nat_eq k h) refl q
  where
    by : (b : Bool) → nat_eq k h ≡ b → (let r : ℕ = cond b 0 1 in r) ≡ (let z : ℕ = 0 in z) → k ≡ h
    by true t f = eqb-true k h t
    by false t f = cc

kept_leaf : (o : Option ℕ) (h : ℕ) → starts o (Some h) ≡ 0 → or_earlier o (Some h) ≡ Some h
kept_leaf None h q = refl
kept_leaf (Some k) h q = ap Some (no_start k h q)

next_leaf : (g : ℕ → Option ℕ) (h i : ℕ) → run_start g i ≡ 0 → leaf_before g i ≡ Some h → leaf_before g (suc i) ≡ Some h
unfolding leaf_before
next_leaf g h i q t = ap (or_earlier (g i)) t ∙ kept_leaf (g i) h (ap (starts (g i)) (sym t) ∙ q)

-- the leaf goes on as long as no bit is set
leaf_goes_on : (n : ℕ) (g : ℕ → Option ℕ) (u h w : ℕ) → g u ≡ Some h → ((x : ℕ) → x < u + 1 + w → bit_at n x ≡ run_start g x) → rank_of n (u + 1 + w) ≡ rank_of n (u + 1) → leaf_before g (u + 1 + w) ≡ Some h
leaf_goes_on n g u h zero e b r = let s : suc u ≡ u + 1 + zero = omega arith in subst (λ (i : ℕ). leaf_before g i ≡ Some h) s (first_leaf g h u e)
leaf_goes_on n g u h (suc w) e b r =
    let x = u + 1 + w in
    let s : suc x ≡ u + 1 + suc w = omega arith in
    let t : x + 1 ≡ u + 1 + suc w = omega arith in
    let m : rank_of n (x + 1) ≡ rank_of n (u + 1) = ap (rank_of n) t ∙ r in
    let le = rank_le n (u + 1) x (omega arith) in
    let more = rank_more n x in
    let z : bit_at n x ≡ 0 = omega arith in
    let before = leaf_goes_on n g u h w e (λ y l. b y (omega arith)) (omega arith) in
    subst (λ (i : ℕ). leaf_before g i ≡ Some h) s (next_leaf g h x (sym (b x (omega arith)) ∙ z) before)

-- two leaf slots of one place have one hop
pub same_place : (n : ℕ) (g : ℕ → Option ℕ) (u v h k : ℕ) → u < v → v < 64 → ((x : ℕ) → x < 64 → bit_at n x ≡ run_start g x) → g u ≡ Some h → g v ≡ Some k → rank_of n (u + 1) ≡ rank_of n (v + 1) → k ≡ h
same_place n g u v h k l m b p q r =
    let w = v - (u + 1) in
    let s : u + 1 + w ≡ v = omega arith in
    let le = rank_le n (u + 1) v (omega arith) in
    let more = rank_more n v in
    let z : bit_at n v ≡ 0 = omega arith in
    let same : rank_of n (u + 1 + w) ≡ rank_of n (u + 1) = ap (rank_of n) s ∙ omega arith in
    let before : leaf_before g v ≡ Some h = ap (leaf_before g) (sym s) ∙ leaf_goes_on n g u h w p (λ x y. b x (omega arith)) same in
    no_start k h (ap (λ o. starts o (Some h)) (sym q) ∙ (ap (starts (g v)) (sym before) ∙ (sym (b v m) ∙ z)))

no_first : (g : ℕ → Option ℕ) (h : ℕ) → leaf_before g zero ≡ Some h → ⊥
unfolding leaf_before
no_first g h q = cc

before_none : (g : ℕ → Option ℕ) (i : ℕ) → g i ≡ None → leaf_before g (suc i) ≡ leaf_before g i
unfolding leaf_before
before_none g i p = ap (λ x. or_earlier x (leaf_before g i)) p

-- a leaf slot that begins no run has the hop of the leaf before it
goes_on : (k : ℕ) (o : Option ℕ) → starts (Some k) o ≡ 0 → o ≡ Some k
goes_on k None q = absurd (omega (arith, q))
goes_on k (Some h) q = sym (ap Some (no_start k h q))

-- a leaf slot before v from which on no leaf begins
abbrev LastLeaf : ℕ → (ℕ → Option ℕ) → ℕ → ℕ → Type 0
LastLeaf n g v h = (u : ℕ) × (u < v) × (g u ≡ Some h) × (rank_of n (u + 1) ≡ rank_of n v)

last_step : (n : ℕ) (g : ℕ → Option ℕ) (v h : ℕ) (o : Option ℕ) → g v ≡ o → bit_at n v ≡ run_start g v → (leaf_before g v ≡ Some h → LastLeaf n g v h) → leaf_before g (suc v) ≡ Some h → LastLeaf n g (suc v) h
last_step n g v h (Some k) is b earlier q = (v, omega arith, is ∙ (sym (first_leaf g k v is) ∙ q), ap (rank_of n) (let t : v + 1 ≡ suc v = omega arith in t))
last_step n g v h None is b earlier q =
    let r = earlier (sym (before_none g v is) ∙ q) in
    let z : bit_at n v ≡ 0 = b ∙ ap (λ o. starts o (leaf_before g v)) is in
    let more = rank_more n v in
    let t : rank_of n (v + 1) ≡ rank_of n (suc v) = ap (rank_of n) (let w : v + 1 ≡ suc v = omega arith in w) in
    (r.0, omega (arith, r.1), r.2, omega (arith, r.3, z, more, t))

last_leaf : (n : ℕ) (g : ℕ → Option ℕ) (v h : ℕ) → ((x : ℕ) → x < v → bit_at n x ≡ run_start g x) → leaf_before g v ≡ Some h → LastLeaf n g v h
last_leaf n g zero h b e = absurd (no_first g h e)
last_leaf n g (suc v) h b e = last_step n g v h (g v) refl (b v (omega arith)) (last_leaf n g v h (λ x l. b x (omega arith))) e

abbrev pub NodeDone : ℕ → ℕ → ℕ → (List Bool → ℕ) → State → State → ℕ → Type 0
NodeDone vector base1 d f mid now u = (k : ℕ) → d - 6 ≤ 6 * k → StandsIn k now.nodes (since mid.N now.N) now.leaves (since mid.L now.L) (node_at now.nodes (base1 + rank_of vector (u + 1) - 1)) (d - 6) (slot d f u)

abbrev pub LeafDone : ℕ → ℕ → State → ℕ → ℕ → Type 0
LeafDone leafvec base0 now u h = get_or now.leaves (base0 + rank_of leafvec (u + 1) - 1) 0 ≡ h

abbrev pub Done : ℕ → ℕ → ℕ → ℕ → ℕ → (List Bool → ℕ) → State → State → ℕ → Type 0
Done vector leafvec base0 base1 d f mid now u = BySlot (slots d f u) (NodeDone vector base1 d f mid now u) (LeafDone leafvec base0 now u)

pub record Going (vector leafvec base0 base1 d : ℕ) (f : List Bool → ℕ) (old mid now : State) (v : ℕ) : Type 0 where
  pub nodes_kept : Keeps blank old.nodes old.N now.nodes now.N
  pub leaves_kept : Keeps 0 old.leaves old.L now.leaves now.L
  pub early_nodes : (i : ℕ) → old.N i ≡ true → mid.N i ≡ true
  pub early_leaves : (i : ℕ) → old.L i ≡ true → mid.L i ≡ true
  pub mid_nodes : (i : ℕ) → mid.N i ≡ true → now.N i ≡ true
  pub mid_leaves : (i : ℕ) → mid.L i ≡ true → now.L i ≡ true
  pub node_block : TakesPlaces base1 (up (children (slots d f))) old.N mid.N (length now.nodes)
  pub leaf_block : TakesPlaces base0 (up (runs (slots d f))) old.L mid.L (length now.leaves)
  pub done : (u : ℕ) → u < v → Done vector leafvec base0 base1 d f mid now u

-- at the end the node stands for the region by the places that came out
pub finish : (node : Node) (d : ℕ) (f : List Bool → ℕ) (old mid now : State) → one_answer d f ≡ None → IsCanonical node.vector node.leafvec (slots d f) → Going node.vector node.leafvec node.base0 node.base1 d f old mid now 64 → (k : ℕ) → d ≤ 6 * k → StandsIn k now.nodes (since old.N now.N) now.leaves (since old.L now.L) node d f
unfolding StandsIn
finish node d f old mid now none can g zero h = absurd (let m = mixed_bits d f none in omega arith)
finish node d f old mid now none can g (suc k) h = (
  none,
  can,
  λ v b. by v b (slots d f v) refl (g.done v b),
)
  where
    by : (v : ℕ) → v < 64 → (x : Option ℕ) → slots d f v ≡ x → BySlot x ((k : ℕ) → d - 6 ≤ 6 * k → StandsIn k now.nodes (since mid.N now.N) now.leaves (since mid.L now.L) (node_at now.nodes (node.base1 + rank_of node.vector (v + 1) - 1)) (d - 6) (slot d f v)) (λ h. get_or now.leaves (node.base0 + rank_of node.leafvec (v + 1) - 1) 0 ≡ h) → BySlot x ((since old.N now.N (node.base1 + rank_of node.vector (v + 1) - 1) ≡ true) × (node.base1 + rank_of node.vector (v + 1) - 1 < length now.nodes) × StandsIn k now.nodes (since old.N now.N) now.leaves (since old.L now.L) (node_at now.nodes (node.base1 + rank_of node.vector (v + 1) - 1)) (d - 6) (slot d f v)) (λ h. (since old.L now.L (node.base0 + rank_of node.leafvec (v + 1) - 1) ≡ true) × IsLeaf now.leaves (node.base0 + rank_of node.leafvec (v + 1) - 1) h)
    by v b None e s =
        let some = node_ranked node.vector v (can.nodes v b ∙ ap mixed e) in
        let le = rank_le node.vector (v + 1) 64 (omega arith) in
        let c : rank_of node.vector 64 ≡ children (slots d f) = rank_total node.vector 64 (λ u. mixed (slots d f u)) can.nodes in
        let p = in_block node.base1 (children (slots d f)) (rank_of node.vector (v + 1)) (length now.nodes) old.N mid.N (fewer g.node_block) some (omega arith) in
        let i = node.base1 + rank_of node.vector (v + 1) - 1 in (
          since_from (old.N i) (now.N i) (g.mid_nodes i p.0) p.1,
          p.2,
          carry k now.nodes now.nodes (since mid.N now.N) (since old.N now.N) now.leaves now.leaves (since mid.L now.L) (since old.L now.L) (node_at now.nodes i) (d - 6) (slot d f v)
              (record { inside = λ j q. since_from (old.N j) (now.N j) (since_now (mid.N j) (now.N j) q) (not_before (old.N j) (mid.N j) (g.early_nodes j) (since_not (mid.N j) (now.N j) q)); same = λ j q. refl; long = refl })
              (record { inside = λ j q. since_from (old.L j) (now.L j) (since_now (mid.L j) (now.L j) q) (not_before (old.L j) (mid.L j) (g.early_leaves j) (since_not (mid.L j) (now.L j) q)); same = λ j q. refl; long = refl })
              (s k (omega arith)),
        )
    by v b (Some x) e s =
        let some = leaf_ranked node.leafvec (slots d f) v x b can.leaves e in
        let le = rank_le node.leafvec (v + 1) 64 (omega arith) in
        let c : rank_of node.leafvec 64 ≡ runs (slots d f) = rank_total node.leafvec 64 (run_start (slots d f)) can.leaves in
        let p = in_block node.base0 (runs (slots d f)) (rank_of node.leafvec (v + 1)) (length now.leaves) old.L mid.L (fewer g.leaf_block) some (omega arith) in
        let i = node.base0 + rank_of node.leafvec (v + 1) - 1 in
        (since_from (old.L i) (now.L i) (g.mid_leaves i p.0) p.1, (p.2, s))

-- ---- a child is built and written to its place
abbrev pub with_node : State → ℕ → Node → State
with_node s i node = record { nodes = set s.nodes i node; N = s.N; leaves = s.leaves; L = s.L }

node_place : (vector leafvec base1 d : ℕ) (f : List Bool → ℕ) (old mid : ℕ → Bool) (len u : ℕ) → u < 64 → IsCanonical vector leafvec (slots d f) → slots d f u ≡ None → TakesPlaces base1 (children (slots d f)) old mid len → (mid (base1 + rank_of vector (u + 1) - 1) ≡ true) × (old (base1 + rank_of vector (u + 1) - 1) ≡ false) × (base1 + rank_of vector (u + 1) - 1 < len)
node_place vector leafvec base1 d f old mid len u l can e t =
    let some = node_ranked vector u (can.nodes u l ∙ ap mixed e) in
    let le = rank_le vector (u + 1) 64 (omega arith) in
    let c : rank_of vector 64 ≡ children (slots d f) = rank_total vector 64 (λ u. mixed (slots d f u)) can.nodes in
    in_block base1 (children (slots d f)) (rank_of vector (u + 1)) len old mid t some (omega arith)

leaf_place : (vector leafvec base0 d : ℕ) (f : List Bool → ℕ) (old mid : ℕ → Bool) (len u h : ℕ) → u < 64 → IsCanonical vector leafvec (slots d f) → slots d f u ≡ Some h → TakesPlaces base0 (runs (slots d f)) old mid len → (mid (base0 + rank_of leafvec (u + 1) - 1) ≡ true) × (old (base0 + rank_of leafvec (u + 1) - 1) ≡ false) × (base0 + rank_of leafvec (u + 1) - 1 < len)
leaf_place vector leafvec base0 d f old mid len u h l can e t =
    let some = leaf_ranked leafvec (slots d f) u h l can.leaves e in
    let le = rank_le leafvec (u + 1) 64 (omega arith) in
    let c : rank_of leafvec 64 ≡ runs (slots d f) = rank_total leafvec 64 (run_start (slots d f)) can.leaves in
    in_block base0 (runs (slots d f)) (rank_of leafvec (u + 1)) len old mid t some (omega arith)

-- a child's place differs from those of the children before it
node_apart : (vector leafvec base1 d : ℕ) (f : List Bool → ℕ) (u v : ℕ) → u < v → v < 64 → IsCanonical vector leafvec (slots d f) → slots d f u ≡ None → slots d f v ≡ None → base1 + rank_of vector (u + 1) - 1 ≢ base1 + rank_of vector (v + 1) - 1
node_apart vector leafvec base1 d f u v l m can p q s =
    let some = node_ranked vector u (can.nodes u (omega arith) ∙ ap mixed p) in
    let bit : bit_at vector v ≡ 1 = can.nodes v m ∙ ap mixed q in
    let more = rank_more vector v in
    let le = rank_le vector (u + 1) v (omega arith) in
    omega arith

earlier_node : (vector leafvec base0 base1 d : ℕ) (f : List Bool → ℕ) (old mid now after : State) (v : ℕ) (node : Node) → v < 64 → slots d f v ≡ None → IsCanonical vector leafvec (slots d f) → Going vector leafvec base0 base1 d f old mid now v → Keeps blank now.nodes now.N after.nodes after.N → Keeps 0 now.leaves now.L after.leaves after.L →
    (u : ℕ) → u < v → (x : Option ℕ) → slots d f u ≡ x → BySlot x (NodeDone vector base1 d f mid now u) (LeafDone leafvec base0 now u) → BySlot x (NodeDone vector base1 d f mid (with_node after (base1 + rank_of vector (v + 1) - 1) node) u) (LeafDone leafvec base0 (with_node after (base1 + rank_of vector (v + 1) - 1) node) u)
earlier_node vector leafvec base0 base1 d f old mid now after v node l none can g kn kl u m None e t =
    let i = base1 + rank_of vector (v + 1) - 1 in
    let j = base1 + rank_of vector (u + 1) - 1 in
    let now2 = with_node after i node in
    let p = node_place vector leafvec base1 d f old.N mid.N (length now.nodes) v l can none (fewer g.node_block) in
    let q = node_place vector leafvec base1 d f old.N mid.N (length now.nodes) u (omega arith) can e (fewer g.node_block) in
    let same : node_at now2.nodes j ≡ node_at now.nodes j = get_or-set_other after.nodes i j node blank (node_apart vector leafvec base1 d f u v m l can e none) ∙ kn.same j (g.mid_nodes j q.0) in
    λ k h. subst (λ (x : Node). StandsIn k now2.nodes (since mid.N now2.N) now2.leaves (since mid.L now2.L) x (d - 6) (slot d f u)) (sym same)
    (carry k now.nodes now2.nodes (since mid.N now.N) (since mid.N after.N) now.leaves after.leaves (since mid.L now.L) (since mid.L after.L) (node_at now.nodes j) (d - 6) (slot d f u)
    (record {
      inside = λ x y. since_from (mid.N x) (after.N x) (kn.still x (since_now (mid.N x) (now.N x) y)) (since_not (mid.N x) (now.N x) y);
      same = λ x y. get_or-set_other after.nodes i x node blank (apart mid.N x i (since_not (mid.N x) (now.N x) y) p.0) ∙ kn.same x (since_now (mid.N x) (now.N x) y);
      long = length-set after.nodes i node ∙ kn.long;
    })
    (record {
      inside = λ x y. since_from (mid.L x) (after.L x) (kl.still x (since_now (mid.L x) (now.L x) y)) (since_not (mid.L x) (now.L x) y);
      same = λ x y. kl.same x (since_now (mid.L x) (now.L x) y);
      long = kl.long;
    })
    (t k h))
earlier_node vector leafvec base0 base1 d f old mid now after v node l none can g kn kl u m (Some x) e t =
    let j = base0 + rank_of leafvec (u + 1) - 1 in
    let q = leaf_place vector leafvec base0 d f old.L mid.L (length now.leaves) u x (omega arith) can e (fewer g.leaf_block) in
    kl.same j (g.mid_leaves j q.0) ∙ t

pub step_node : (vector leafvec base0 base1 d : ℕ) (f : List Bool → ℕ) (old mid now after : State) (v : ℕ) (node : Node) → v < 64 → slots d f v ≡ None → IsCanonical vector leafvec (slots d f) → Going vector leafvec base0 base1 d f old mid now v → Keeps blank now.nodes now.N after.nodes after.N → Keeps 0 now.leaves now.L after.leaves after.L →
    ((k : ℕ) → d - 6 ≤ 6 * k → StandsIn k after.nodes (since now.N after.N) after.leaves (since now.L after.L) node (d - 6) (slot d f v)) →
    Going vector leafvec base0 base1 d f old mid (with_node after (base1 + rank_of vector (v + 1) - 1) node) (v + 1)
step_node vector leafvec base0 base1 d f old mid now after v node l none can g kn kl s =
    let i = base1 + rank_of vector (v + 1) - 1 in
    let some = node_ranked vector v (can.nodes v l ∙ ap mixed none) in
    let le = rank_le vector (v + 1) 64 (omega arith) in
    let c : rank_of vector 64 ≡ children (slots d f) = rank_total vector 64 (λ u. mixed (slots d f u)) can.nodes in
    let p = in_block base1 (children (slots d f)) (rank_of vector (v + 1)) (length now.nodes) old.N mid.N (fewer g.node_block) some (omega arith) in
    let now2 = with_node after i node in
    let long : length (set after.nodes i node) ≡ length now.nodes = length-set after.nodes i node ∙ kn.long in
    let at_v : NodeDone vector base1 d f mid now2 v =
    λ k h. subst (λ (m : Node). StandsIn k now2.nodes (since mid.N now2.N) now2.leaves (since mid.L now2.L) m (d - 6) (slot d f v)) (sym (get_or-set_same after.nodes i node blank (omega (arith, kn.long, p.2))))
    (carry k after.nodes now2.nodes (since now.N after.N) (since mid.N after.N) after.leaves after.leaves (since now.L after.L) (since mid.L after.L) node (d - 6) (slot d f v)
    (record {
      inside = λ j q. since_from (mid.N j) (after.N j) (since_now (now.N j) (after.N j) q) (not_before (mid.N j) (now.N j) (g.mid_nodes j) (since_not (now.N j) (after.N j) q));
      same = λ j q. get_or-set_other after.nodes i j node blank (apart now.N j i (since_not (now.N j) (after.N j) q) (g.mid_nodes i p.0));
      long = length-set after.nodes i node;
    })
    (record {
      inside = λ j q. since_from (mid.L j) (after.L j) (since_now (now.L j) (after.L j) q) (not_before (mid.L j) (now.L j) (g.mid_leaves j) (since_not (now.L j) (after.L j) q));
      same = λ j q. refl;
      long = refl;
    })
    (s k h))
    in
    let earlier : (u : ℕ) → u < v → (x : Option ℕ) → slots d f u ≡ x → BySlot x (NodeDone vector base1 d f mid now u) (LeafDone leafvec base0 now u) → BySlot x (NodeDone vector base1 d f mid now2 u) (LeafDone leafvec base0 now2 u) = earlier_node vector leafvec base0 base1 d f old mid now after v node l none can g kn kl in
    record {
      nodes_kept = record {
        still = λ j q. kn.still j (g.nodes_kept.still j q);
        same = λ j q. get_or-set_other after.nodes i j node blank (apart2 old.N j i q p.1) ∙ (kn.same j (g.nodes_kept.still j q) ∙ g.nodes_kept.same j q);
        long = long ∙ g.nodes_kept.long;
      };
      leaves_kept = record {
        still = λ j q. kl.still j (g.leaves_kept.still j q);
        same = λ j q. kl.same j (g.leaves_kept.still j q) ∙ g.leaves_kept.same j q;
        long = kl.long ∙ g.leaves_kept.long;
      };
      early_nodes = g.early_nodes;
      early_leaves = g.early_leaves;
      mid_nodes = λ j q. kn.still j (g.mid_nodes j q);
      mid_leaves = λ j q. kl.still j (g.mid_leaves j q);
      node_block = subst (λ (n : ℕ). TakesPlaces base1 (up (children (slots d f))) old.N mid.N n) (sym long) g.node_block;
      leaf_block = subst (λ (n : ℕ). TakesPlaces base0 (up (runs (slots d f))) old.L mid.L n) (sym kl.long) g.leaf_block;
      done = λ u m. elim (cases_eq u v) [
        | inl same ↦ subst (λ (w : ℕ). Done vector leafvec base0 base1 d f mid now2 w) (sym same) (subst (λ (x : Option ℕ). BySlot x (NodeDone vector base1 d f mid now2 v) (LeafDone leafvec base0 now2 v)) (sym none) at_v)
        | inr other ↦ earlier u (omega arith) (slots d f u) refl (g.done u (omega arith))
      ];
    }

-- ---- a leaf is written to its place
abbrev pub with_leaf : State → ℕ → ℕ → State
with_leaf s i h = record { nodes = s.nodes; N = s.N; leaves = set s.leaves i h; L = s.L }

earlier_leaf : (vector leafvec base0 base1 d : ℕ) (f : List Bool → ℕ) (old mid now : State) (v h : ℕ) → v < 64 → slots d f v ≡ Some h → IsCanonical vector leafvec (slots d f) → Going vector leafvec base0 base1 d f old mid now v →
    (u : ℕ) → u < v → (x : Option ℕ) → slots d f u ≡ x → BySlot x (NodeDone vector base1 d f mid now u) (LeafDone leafvec base0 now u) → BySlot x (NodeDone vector base1 d f mid (with_leaf now (base0 + rank_of leafvec (v + 1) - 1) h) u) (LeafDone leafvec base0 (with_leaf now (base0 + rank_of leafvec (v + 1) - 1) h) u)
earlier_leaf vector leafvec base0 base1 d f old mid now v h l some can g u m None e t =
    let i = base0 + rank_of leafvec (v + 1) - 1 in
    let p = leaf_place vector leafvec base0 d f old.L mid.L (length now.leaves) v h l can some (fewer g.leaf_block) in
    λ k y. carry k now.nodes now.nodes (since mid.N now.N) (since mid.N now.N) now.leaves (set now.leaves i h) (since mid.L now.L) (since mid.L now.L) (node_at now.nodes (base1 + rank_of vector (u + 1) - 1)) (d - 6) (slot d f u)
    (record { inside = λ x z. z; same = λ x z. refl; long = refl })
    (record {
      inside = λ x z. z;
      same = λ x z. get_or-set_other now.leaves i x h 0 (apart mid.L x i (since_not (mid.L x) (now.L x) z) p.0);
      long = length-set now.leaves i h;
    })
    (t k y)
earlier_leaf vector leafvec base0 base1 d f old mid now v h l some can g u m (Some x) e t =
    let i = base0 + rank_of leafvec (v + 1) - 1 in
    let j = base0 + rank_of leafvec (u + 1) - 1 in
    let p = leaf_place vector leafvec base0 d f old.L mid.L (length now.leaves) v h l can some (fewer g.leaf_block) in
    let ru = leaf_ranked leafvec (slots d f) u x (omega arith) can.leaves e in
    let rv = leaf_ranked leafvec (slots d f) v h l can.leaves some in
    elim (cases_eq j i) [
      | inl same ↦ ap (λ n. get_or (set now.leaves i h) n 0) same ∙ (get_or-set_same now.leaves i h 0 p.2 ∙ same_place leafvec (slots d f) u v x h m l can.leaves e some (omega arith))
      | inr other ↦ get_or-set_other now.leaves i j h 0 other ∙ t
    ]

pub step_leaf : (vector leafvec base0 base1 d : ℕ) (f : List Bool → ℕ) (old mid now : State) (v h : ℕ) → v < 64 → slots d f v ≡ Some h → IsCanonical vector leafvec (slots d f) → Going vector leafvec base0 base1 d f old mid now v → Going vector leafvec base0 base1 d f old mid (with_leaf now (base0 + rank_of leafvec (v + 1) - 1) h) (v + 1)
step_leaf vector leafvec base0 base1 d f old mid now v h l some can g =
    let i = base0 + rank_of leafvec (v + 1) - 1 in
    let now2 = with_leaf now i h in
    let p = leaf_place vector leafvec base0 d f old.L mid.L (length now.leaves) v h l can some (fewer g.leaf_block) in
    let at_v : LeafDone leafvec base0 now2 v h = get_or-set_same now.leaves i h 0 p.2 in
    let long : length (set now.leaves i h) ≡ length now.leaves = length-set now.leaves i h in
    record {
      nodes_kept = g.nodes_kept;
      leaves_kept = record {
        still = g.leaves_kept.still;
        same = λ j q. get_or-set_other now.leaves i j h 0 (apart2 old.L j i q p.1) ∙ g.leaves_kept.same j q;
        long = long ∙ g.leaves_kept.long;
      };
      early_nodes = g.early_nodes;
      early_leaves = g.early_leaves;
      mid_nodes = g.mid_nodes;
      mid_leaves = g.mid_leaves;
      node_block = g.node_block;
      leaf_block = subst (λ (n : ℕ). TakesPlaces base0 (up (runs (slots d f))) old.L mid.L n) (sym long) g.leaf_block;
      done = λ u m. elim (cases_eq u v) [
        | inl same ↦ subst (λ (w : ℕ). Done vector leafvec base0 base1 d f mid now2 w) (sym same) (subst (λ (x : Option ℕ). BySlot x (NodeDone vector base1 d f mid now2 v) (LeafDone leafvec base0 now2 v)) (sym some) at_v)
        | inr other ↦ earlier_leaf vector leafvec base0 base1 d f old mid now v h l some can g u (omega arith) (slots d f u) refl (g.done u (omega arith))
      ];
    }

-- ---- what the code asks
pub child_none : (d e v : ℕ) (f h : List Bool → ℕ) → e ≡ d - 6 → h ≡ slot d f v → None ≡ slots d f v → one_answer e h ≡ None
child_none d e v f h p q none = ap (λ n. one_answer n h) p ∙ (ap (one_answer (d - 6)) q ∙ sym none)

pub child_less : (d e v : ℕ) (f h : List Bool → ℕ) → e ≡ d - 6 → h ≡ slot d f v → None ≡ slots d f v → e < d
child_less d e v f h p q none = let m = mixed_bits e h (child_none d e v f h p q none) in omega arith

pub record Room (base r count len : ℕ) (out : ℕ → Bool) : Type 0 where
  pub some : 0 < r
  pub most : r ≤ count
  pub is_out : out (base + r - 1) ≡ true
  pub within : base + r - 1 < len

pub leaf_room : (vector leafvec base0 base1 d : ℕ) (f : List Bool → ℕ) (old mid now : State) (v h r : ℕ) → v < 64 → Some h ≡ slots d f v → IsCanonical vector leafvec (slots d f) → r ≡ rank_of leafvec (v + 1) → Going vector leafvec base0 base1 d f old mid now v → Room base0 r (runs (slots d f)) (length now.leaves) now.L
leaf_room vector leafvec base0 base1 d f old mid now v h r l some can e g =
    let p = leaf_place vector leafvec base0 d f old.L mid.L (length now.leaves) v h l can (sym some) (fewer g.leaf_block) in
    let le = rank_le leafvec (v + 1) 64 (omega arith) in
    let c : rank_of leafvec 64 ≡ runs (slots d f) = rank_total leafvec 64 (run_start (slots d f)) can.leaves in
    subst (λ (x : ℕ). Room base0 x (runs (slots d f)) (length now.leaves) now.L) (sym e)
    (record { some = leaf_ranked leafvec (slots d f) v h l can.leaves (sym some); most = omega arith; is_out = g.mid_leaves (base0 + rank_of leafvec (v + 1) - 1) p.0; within = p.2 })

pub node_room : (vector leafvec base0 base1 d : ℕ) (f : List Bool → ℕ) (old mid now : State) (v r : ℕ) (nodes : List Node) (N : ℕ → Bool) → v < 64 → None ≡ slots d f v → IsCanonical vector leafvec (slots d f) → r ≡ rank_of vector (v + 1) → Going vector leafvec base0 base1 d f old mid now v → Keeps blank now.nodes now.N nodes N → Room base1 r (children (slots d f)) (length nodes) N
node_room vector leafvec base0 base1 d f old mid now v r nodes N l none can e g kn =
    let p = node_place vector leafvec base1 d f old.N mid.N (length now.nodes) v l can (sym none) (fewer g.node_block) in
    let le = rank_le vector (v + 1) 64 (omega arith) in
    let c : rank_of vector 64 ≡ children (slots d f) = rank_total vector 64 (λ u. mixed (slots d f u)) can.nodes in
    subst (λ (x : ℕ). Room base1 x (children (slots d f)) (length nodes) N) (sym e)
    (record { some = node_ranked vector v (can.nodes v l ∙ ap mixed (sym none)); most = omega arith; is_out = kn.still (base1 + rank_of vector (v + 1) - 1) (g.mid_nodes (base1 + rank_of vector (v + 1) - 1) p.0); within = omega (arith, p.2, kn.long) })

abbrev pub state : List Node → (ℕ → Bool) → List ℕ → (ℕ → Bool) → State
state n N l L = record { nodes = n; N = N; leaves = l; L = L }

going_same : (vector leafvec base0 base1 d : ℕ) (f : List Bool → ℕ) (old mid : State) (v : ℕ) (n n2 : List Node) (N N2 : ℕ → Bool) (l l2 : List ℕ) (L L2 : ℕ → Bool) → n2 ≡ n → N2 ≡ N → l2 ≡ l → L2 ≡ L → Going vector leafvec base0 base1 d f old mid (state n N l L) v → Going vector leafvec base0 base1 d f old mid (state n2 N2 l2 L2) v
going_same vector leafvec base0 base1 d f old mid v n n2 N N2 l l2 L L2 a b c e g =
    subst (λ (x : List Node). Going vector leafvec base0 base1 d f old mid (state x N2 l2 L2) v) (sym a)
    (subst (λ (x : ℕ → Bool). Going vector leafvec base0 base1 d f old mid (state n x l2 L2) v) (sym b)
    (subst (λ (x : List ℕ). Going vector leafvec base0 base1 d f old mid (state n N x L2) v) (sym c)
    (subst (λ (x : ℕ → Bool). Going vector leafvec base0 base1 d f old mid (state n N l x) v) (sym e) g)))

pub leaf_written : (vector leafvec base0 base1 d : ℕ) (f : List Bool → ℕ) (old mid now to : State) (v h r : ℕ) → v < 64 → Some h ≡ slots d f v → IsCanonical vector leafvec (slots d f) → r ≡ rank_of leafvec (v + 1) → Going vector leafvec base0 base1 d f old mid now v → to.nodes ≡ now.nodes → to.N ≡ now.N → to.leaves ≡ set now.leaves (base0 + r - 1) h → to.L ≡ now.L → Going vector leafvec base0 base1 d f old mid to (v + 1)
leaf_written vector leafvec base0 base1 d f old mid now to v h r l some can e g a b c x =
    going_same vector leafvec base0 base1 d f old mid (v + 1) now.nodes to.nodes now.N to.N (set now.leaves (base0 + rank_of leafvec (v + 1) - 1) h) to.leaves now.L to.L a b (c ∙ ap (λ q. set now.leaves (base0 + q - 1) h) e) x
    (step_leaf vector leafvec base0 base1 d f old mid now v h l (sym some) can g)

pub node_written : (vector leafvec base0 base1 d : ℕ) (f : List Bool → ℕ) (old mid now after to : State) (v r : ℕ) (node : Node) (e : ℕ) (h : List Bool → ℕ) → v < 64 → None ≡ slots d f v → IsCanonical vector leafvec (slots d f) → r ≡ rank_of vector (v + 1) → Going vector leafvec base0 base1 d f old mid now v → Keeps blank now.nodes now.N after.nodes after.N → Keeps 0 now.leaves now.L after.leaves after.L → e ≡ d - 6 → h ≡ slot d f v →
    ((k : ℕ) → e ≤ 6 * k → StandsIn k after.nodes (since now.N after.N) after.leaves (since now.L after.L) node e h) →
    to.nodes ≡ set after.nodes (base1 + r - 1) node → to.N ≡ after.N → to.leaves ≡ after.leaves → to.L ≡ after.L → Going vector leafvec base0 base1 d f old mid to (v + 1)
node_written vector leafvec base0 base1 d f old mid now after to v r node e h l none can re g kn kl p q s a b c x =
    going_same vector leafvec base0 base1 d f old mid (v + 1) (set after.nodes (base1 + rank_of vector (v + 1) - 1) node) to.nodes after.N to.N after.leaves to.leaves after.L to.L (a ∙ ap (λ y. set after.nodes (base1 + y - 1) node) re) b c x
    (step_node vector leafvec base0 base1 d f old mid now after v node l (sym none) can g kn kl
    (λ k m. subst (λ (n : ℕ). StandsIn k after.nodes (since now.N after.N) after.leaves (since now.L after.L) node n (slot d f v)) p
    (subst (λ (y : List Bool → ℕ). StandsIn k after.nodes (since now.N after.N) after.leaves (since now.L after.L) node e y) q (s k (omega arith)))))

pub at_end_stands : (vector leafvec base0 base1 d : ℕ) (f : List Bool → ℕ) (old mid now : State) (v : ℕ) → v ≤ 64 → 64 ≤ v → one_answer d f ≡ None → IsCanonical vector leafvec (slots d f) → Going vector leafvec base0 base1 d f old mid now v → (k : ℕ) → d ≤ 6 * k → StandsIn k now.nodes (since old.N now.N) now.leaves (since old.L now.L) (record { vector = vector; leafvec = leafvec; base0 = base0; base1 = base1 }) d f
at_end_stands vector leafvec base0 base1 d f old mid now v l m none can g =
    let e : v ≡ 64 = omega arith in
    finish (record { vector = vector; leafvec = leafvec; base0 = base0; base1 = base1 }) d f old mid now none can (subst (λ (x : ℕ). Going vector leafvec base0 base1 d f old mid now x) e g)

set_kept : {X : Type 0} (xs : List X) (i : ℕ) (x d : X) → i < length xs → get_or xs i d ≡ x → set xs i x ≡ xs
set_kept [] i x d l e = absurd (omega arith)
set_kept (y ∷ xs) zero x d l e = ap (λ z. z ∷ xs) (sym e)
set_kept (y ∷ xs) (suc i) x d l e = ap (λ r. y ∷ r) (set_kept xs i x d (omega arith) e)

-- each leaf slot's leaf is there
abbrev pub LeavesThere : (leafvec base0 d : ℕ) (f : List Bool → ℕ) (leaves : List ℕ) → Type 0
LeavesThere leafvec base0 d f leaves = (v h : ℕ) → v < 64 → slots d f v ≡ Some h → get_or leaves (base0 + rank_of leafvec (v + 1) - 1) 0 ≡ h

-- a slot that has no node: its leaf is there
pub leaf_there : (vector leafvec base0 base1 d : ℕ) (f : List Bool → ℕ) (old mid now to : State) (v h : ℕ) → v < 64 → slots d f v ≡ Some h → IsCanonical vector leafvec (slots d f) → LeavesThere leafvec base0 d f mid.leaves → Keeps 0 mid.leaves mid.L now.leaves now.L → Going vector leafvec base0 base1 d f old mid now v → to.nodes ≡ now.nodes → to.N ≡ now.N → to.leaves ≡ now.leaves → to.L ≡ now.L → Going vector leafvec base0 base1 d f old mid to (v + 1)
leaf_there vector leafvec base0 base1 d f old mid now to v h l some can there kept g a b c x =
    let p = leaf_place vector leafvec base0 d f old.L mid.L (length now.leaves) v h l can some (fewer g.leaf_block) in
    let is : get_or now.leaves (base0 + rank_of leafvec (v + 1) - 1) 0 ≡ h = kept.same (base0 + rank_of leafvec (v + 1) - 1) p.0 ∙ there v h l some in
    leaf_written vector leafvec base0 base1 d f old mid now to v h (rank_of leafvec (v + 1)) l (sym some) can refl g a b (c ∙ sym (set_kept now.leaves (base0 + rank_of leafvec (v + 1) - 1) h 0 p.2 is)) x

-- a slot with no bit in the vector has a hop
pub hop_of : (o : Option ℕ) → mixed o ≡ 0 → (h : ℕ) × (o ≡ Some h)
hop_of None e = absurd (omega (arith, e))
hop_of (Some h) e = (h, refl)

-- a slot with a bit there has none
pub node_of : (o : Option ℕ) → mixed o ≡ 1 → None ≡ o
node_of None e = refl
node_of (Some h) e = absurd (omega (arith, e))

-- the leaves were written to the block that came out
pub written_there : (leafvec base0 d n : ℕ) (f : List Bool → ℕ) (hops : List ℕ) (vector : ℕ) (old new : Space ℕ) → IsCanonical vector leafvec (slots d f) → n ≡ runs (slots d f) → PutsAll base0 n hops old new → ((v h : ℕ) → v < 64 → slots d f v ≡ Some h → get_or hops (rank_of leafvec (v + 1) - 1) 0 ≡ h) → LeavesThere leafvec base0 d f new.cells
written_there leafvec base0 d n f hops vector old new can runs_is put each v h l some =
    let r = leaf_ranked leafvec (slots d f) v h l can.leaves some in
    let le = rank_le leafvec (v + 1) 64 (omega arith) in
    let c : rank_of leafvec 64 ≡ runs (slots d f) = rank_total leafvec 64 (run_start (slots d f)) can.leaves in
    let e : base0 + (rank_of leafvec (v + 1) - 1) ≡ base0 + rank_of leafvec (v + 1) - 1 = omega (arith, r) in
    ap (λ i. get_or new.cells i 0) (sym e) ∙ (put.cells (rank_of leafvec (v + 1) - 1) (omega (arith, r, le, c, runs_is)) ∙ each v h l some)

true_false : (b : Bool) → b ≡ true → b ≡ false → ⊥
true_false true p q = cc
true_false false p q = cc

aside_block : (base n i : ℕ) (o : ℕ → Bool) → ((j : ℕ) → j < n → o (base + j) ≡ false) → o i ≡ true → (i < base) ⊎ (base + n ≤ i)
aside_block base n i o were is = by (cases_le base i) (cases_le (base + n) i)
  where
    by : (i < base) ⊎ (base ≤ i) → (i < base + n) ⊎ (base + n ≤ i) → (i < base) ⊎ (base + n ≤ i)
    by (inl l) b = inl l
    by (inr l) (inr m) = inr m
    by (inr l) (inl m) =
        let e : base + (i - base) ≡ i = omega arith in
        absurd (true_false (o i) is (ap o (sym e) ∙ were (i - base) (omega arith)))

pub takes_same : (base n len to : ℕ) (old mid now : ℕ → Bool) → now ≡ mid → to ≡ len → TakesPlaces base n old mid len → TakesPlaces base n old now to
takes_same base n len to old mid now e l t = subst (λ (x : ℕ → Bool). TakesPlaces base n old x to) (sym e) (subst (λ (x : ℕ). TakesPlaces base n old mid x) (sym l) t)

-- what was out before the block came out holds what it held
pub written_keeps : (base n m : ℕ) (hops : List ℕ) (was old new : Space ℕ) (len : ℕ) → n ≤ m → old.cells ≡ was.cells → ((i : ℕ) → is_out was.free i ≡ true → is_out old.free i ≡ true) → TakesPlaces base m (is_out was.free) (is_out old.free) len → PutsAll base n hops old new → Keeps 0 was.cells (is_out was.free) new.cells (is_out new.free)
written_keeps base n m hops was old new len l same still t put = record {
  still = λ i o. ap (λ x. is_out x i) put.free ∙ still i o;
  same = λ i o. put.others i (aside_block base n i (is_out was.free) (λ j h. t.were j (omega (arith, h, l))) o) ∙ ap (λ x. get_or x i 0) same;
  long = put.long ∙ ap length same;
}

-- before the first slot
pub going_start : (vector leafvec base0 base1 d : ℕ) (f : List Bool → ℕ) (n0 n1 : List Node) (l0 l1 : List ℕ) (oN mN oL mL : ℕ → Bool) {c r : ℕ} → c ≡ children (slots d f) → r ≡ runs (slots d f) → TakesPlaces base1 (up c) oN mN (length n1) → TakesPlaces base0 (up r) oL mL (length l1) → ((i : ℕ) → oN i ≡ true → mN i ≡ true) → n1 ≡ n0 → Keeps 0 l0 oL l1 mL →
    Going vector leafvec base0 base1 d f (state n0 oN l0 oL) (state n1 mN l1 mL) (state n1 mN l1 mL) 0
going_start vector leafvec base0 base1 d f n0 n1 l0 l1 oN mN oL mL ec er tn tl sn en kl = record {
  nodes_kept = record { still = sn; same = λ i o. ap (λ x. get_or x i blank) en; long = ap length en };
  leaves_kept = kl;
  early_nodes = sn;
  early_leaves = kl.still;
  mid_nodes = λ i o. o;
  mid_leaves = λ i o. o;
  node_block = subst (λ (x : ℕ). TakesPlaces base1 (up x) oN mN (length n1)) ec tn;
  leaf_block = subst (λ (x : ℕ). TakesPlaces base0 (up x) oL mL (length l1)) er tl;
  done = λ u h. absurd (omega arith);
}
