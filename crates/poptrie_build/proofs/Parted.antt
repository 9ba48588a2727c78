-- The arrays below a node while its slots are gone through.
use Rattle.std.proofs.Common.{◌≡◌, ◌≢◌, ℕ, zero, suc, ◌+◌, ◌-◌, ◌*◌, ◌<◌, ◌≤◌, List, ◌++◌, Bool, true, false, length, refl, sym, ap, ◌∙◌, arith, subst, set}
use Rattle.std.specs.Prelude.{not, ◌&&◌}
use Rattle.std.specs.Int.{bit_at}
use Rattle.std.proofs.lemmas.List.{get_or-set_same, get_or-set_other}
use Rattle.poptrie_build.specs.Bits.{rank_of}
use Rattle.poptrie_build.specs.Strides.{slots, mixed, run_start}
use Rattle.buddy_arena.specs.Powers.{up}
use Rattle.poptrie_build.specs.Need.{children, runs}
use Rattle.poptrie_build.specs.Stands.{IsCanonical, node_at, blank}
use Rattle.buddy_arena.specs.Places.{Keeps, TakesPlaces, since}
use Rattle.buddy_arena.specs.Arrays.{Array, Has, IsIn, AreApart}
use Rattle.poptrie_build.specs.Arrays.{gather, node_arrays, leaf_arrays}
use Rattle.poptrie_build.specs.declared.node.Node.{Node}
use Rattle.buddy_arena.proofs.Powers.{up_above}
use Rattle.buddy_arena.proofs.Parting.{apart_cons, apart_append, since_now, since_not}
use Rattle.poptrie_build.proofs.Parting.{gather_same, part_at, nodes_same, leaves_same}
use Rattle.poptrie_build.proofs.Going.{State, Going, rank_le, since_from, not_before, apart}
use Rattle.poptrie_build.proofs.So_far.{rank_total}
use Rattle.poptrie_build.proofs.Walk.{rank_more}

abbrev pub kids : ℕ → List Node → ℕ → ℕ → List Array
kids k nodes base n = gather (λ i. node_arrays k nodes (node_at nodes (base + i))) n

abbrev pub kid_leaves : ℕ → List Node → ℕ → ℕ → List Array
kid_leaves k nodes base n = gather (λ i. leaf_arrays k nodes (node_at nodes (base + i))) n

pub record Parted (vector base : ℕ) (mid now : State) (v : ℕ) : Type 0 where
  pub nodes : (k : ℕ) → AreApart (since mid.N now.N) (kids k now.nodes base (rank_of vector v))
  pub leaves : (k : ℕ) → AreApart (since mid.L now.L) (kid_leaves k now.nodes base (rank_of vector v))

pub parted_start : (vector base : ℕ) (mid : State) → Parted vector base mid mid 0
unfolding rank_of gather AreApart
parted_start vector base mid = record { nodes = λ k. tt; leaves = λ k. tt }

-- a leaf was written
pub parted_leaf : (vector base : ℕ) (mid now to : State) (v : ℕ) → bit_at vector v ≡ 0 → to.nodes ≡ now.nodes → to.N ≡ now.N → to.L ≡ now.L → Parted vector base mid now v → Parted vector base mid to (v + 1)
parted_leaf vector base mid now to v z a b c p =
    let r : rank_of vector v ≡ rank_of vector (v + 1) = omega (arith, rank_more vector v, z) in
    record {
      nodes = λ k.
          subst (λ (n : ℕ). AreApart (since mid.N to.N) (kids k to.nodes base n)) r
          (subst (λ (x : List Node). AreApart (since mid.N to.N) (kids k x base (rank_of vector v))) (sym a)
          (subst (λ (x : ℕ → Bool). AreApart (since mid.N x) (kids k now.nodes base (rank_of vector v))) (sym b) (p.nodes k)));
      leaves = λ k.
          subst (λ (n : ℕ). AreApart (since mid.L to.L) (kid_leaves k to.nodes base n)) r
          (subst (λ (x : List Node). AreApart (since mid.L to.L) (kid_leaves k x base (rank_of vector v))) (sym a)
          (subst (λ (x : ℕ → Bool). AreApart (since mid.L x) (kid_leaves k now.nodes base (rank_of vector v))) (sym c) (p.leaves k)));
    }

-- a child was built and written
module _ (vector base : ℕ) (mid now after to : State) (v len n : ℕ) (old : ℕ → Bool) (node : Node) where
  module _ (bit : bit_at vector v ≡ 1) (low : rank_of vector (v + 1) ≤ n) (t : TakesPlaces base (up n) old mid.N len) (within : base + rank_of vector v < length after.nodes) (mn : (i : ℕ) → mid.N i ≡ true → now.N i ≡ true) (ml : (i : ℕ) → mid.L i ≡ true → now.L i ≡ true)
      (kn : Keeps blank now.nodes now.N after.nodes after.N) (kl : (i : ℕ) → now.L i ≡ true → after.L i ≡ true) (a : to.nodes ≡ set after.nodes (base + rank_of vector v) node) where
    more : suc (rank_of vector v) ≡ rank_of vector (v + 1)
    more = omega (arith, rank_more vector v, bit)

    own : (i : ℕ) → i ≤ rank_of vector v → mid.N (base + i) ≡ true
    own i l = t.are i (omega (arith, up_above n, more, low))

    -- what is not the written place is as it was
    other : (i : ℕ) → i ≢ base + rank_of vector v → node_at to.nodes i ≡ node_at after.nodes i
    other i ne = ap (λ x. node_at x i) a ∙ get_or-set_other after.nodes (base + rank_of vector v) i node blank ne

    not_mid : (i : ℕ) → since mid.N now.N i ≡ true → i ≢ base + rank_of vector v
    not_mid i s = apart mid.N i (base + rank_of vector v) (since_not (mid.N i) (now.N i) s) (own (rank_of vector v) (omega arith))

    early : (i : ℕ) → since mid.N now.N i ≡ true → node_at to.nodes i ≡ node_at now.nodes i
    early i s = other i (not_mid i s) ∙ kn.same i (since_now (mid.N i) (now.N i) s)

    late : (i : ℕ) → since now.N after.N i ≡ true → node_at to.nodes i ≡ node_at after.nodes i
    late i s = other i (apart now.N i (base + rank_of vector v) (since_not (now.N i) (after.N i) s) (mn (base + rank_of vector v) (own (rank_of vector v) (omega arith))))

    kid : (i : ℕ) → i < rank_of vector v → node_at to.nodes (base + i) ≡ node_at now.nodes (base + i)
    kid i l = other (base + i) (omega arith) ∙ kn.same (base + i) (mn (base + i) (own i (omega arith)))

    last : node_at to.nodes (base + rank_of vector v) ≡ node
    last = ap (λ x. node_at x (base + rank_of vector v)) a ∙ get_or-set_same after.nodes (base + rank_of vector v) node blank within

    pub parted_node : to.N ≡ after.N → to.L ≡ after.L → Parted vector base mid now v → ((k : ℕ) → AreApart (since now.N after.N) (node_arrays k after.nodes node)) → ((k : ℕ) → AreApart (since now.L after.L) (leaf_arrays k after.nodes node)) → Parted vector base mid to (v + 1)
    unfolding gather
    parted_node tn tl p cn cl = record {
      nodes = λ k.
          let e : kids k to.nodes base (rank_of vector v) ≡ kids k now.nodes base (rank_of vector v) =
          gather_same _ _ (rank_of vector v) (λ i l. ap (node_arrays k to.nodes) (kid i l) ∙ nodes_same k (since mid.N now.N) now.nodes to.nodes (node_at now.nodes (base + i)) early (part_at (since mid.N now.N) (λ j. node_arrays k now.nodes (node_at now.nodes (base + j))) (rank_of vector v) i l (p.nodes k)))
          in
          let f : node_arrays k to.nodes (node_at to.nodes (base + rank_of vector v)) ≡ node_arrays k after.nodes node = ap (node_arrays k to.nodes) last ∙ nodes_same k (since now.N after.N) after.nodes to.nodes node late (cn k) in
          subst (λ (m : ℕ). AreApart (since mid.N to.N) (kids k to.nodes base m)) more
          (subst (λ (x : ℕ → Bool). AreApart (since mid.N x) (kids k to.nodes base (rank_of vector v) ++ node_arrays k to.nodes (node_at to.nodes (base + rank_of vector v)))) (sym tn)
          (apart_append (since mid.N now.N) (since now.N after.N) (since mid.N after.N) _ _
          (λ i s. no_since (now.N i) (after.N i) (since_now (mid.N i) (now.N i) s))
          (λ i s. since_from (mid.N i) (after.N i) (kn.still i (since_now (mid.N i) (now.N i) s)) (since_not (mid.N i) (now.N i) s))
          (λ i s. since_from (mid.N i) (after.N i) (since_now (now.N i) (after.N i) s) (not_before (mid.N i) (now.N i) (mn i) (since_not (now.N i) (after.N i) s)))
          (subst (λ (x : List Array). AreApart (since mid.N now.N) x) (sym e) (p.nodes k))
          (subst (λ (x : List Array). AreApart (since now.N after.N) x) (sym f) (cn k))));
      leaves = λ k.
          let e : kid_leaves k to.nodes base (rank_of vector v) ≡ kid_leaves k now.nodes base (rank_of vector v) =
          gather_same _ _ (rank_of vector v) (λ i l. ap (leaf_arrays k to.nodes) (kid i l) ∙ leaves_same k (since mid.N now.N) now.nodes to.nodes (node_at now.nodes (base + i)) early (part_at (since mid.N now.N) (λ j. node_arrays k now.nodes (node_at now.nodes (base + j))) (rank_of vector v) i l (p.nodes k)))
          in
          let f : leaf_arrays k to.nodes (node_at to.nodes (base + rank_of vector v)) ≡ leaf_arrays k after.nodes node = ap (leaf_arrays k to.nodes) last ∙ leaves_same k (since now.N after.N) after.nodes to.nodes node late (cn k) in
          subst (λ (m : ℕ). AreApart (since mid.L to.L) (kid_leaves k to.nodes base m)) more
          (subst (λ (x : ℕ → Bool). AreApart (since mid.L x) (kid_leaves k to.nodes base (rank_of vector v) ++ leaf_arrays k to.nodes (node_at to.nodes (base + rank_of vector v)))) (sym tl)
          (apart_append (since mid.L now.L) (since now.L after.L) (since mid.L after.L) _ _
          (λ i s. no_since (now.L i) (after.L i) (since_now (mid.L i) (now.L i) s))
          (λ i s. since_from (mid.L i) (after.L i) (kl i (since_now (mid.L i) (now.L i) s)) (since_not (mid.L i) (now.L i) s))
          (λ i s. since_from (mid.L i) (after.L i) (since_now (now.L i) (after.L i) s) (not_before (mid.L i) (now.L i) (ml i) (since_not (now.L i) (after.L i) s)))
          (subst (λ (x : List Array). AreApart (since mid.L now.L) x) (sym e) (p.leaves k))
          (subst (λ (x : List Array). AreApart (since now.L after.L) x) (sym f) (cl k))));
    }
      where
        no_since : (x y : Bool) → x ≡ true → (y && not x) ≡ false
        no_since true true q = refl
        no_since true false q = refl
        no_since false y q = cc

-- at the end
block_is : (base n len : ℕ) (old mid now : ℕ → Bool) → TakesPlaces base (up n) old mid len → ((i : ℕ) → mid i ≡ true → now i ≡ true) → ((q : ℕ) × (base ≡ q * up n)) → IsIn (since old now) (base, up n) × ((i : ℕ) → Has (base, up n) i → since mid now i ≡ false)
block_is base n len old mid now t s q = (
  ((λ i h. since_from (old i) (now i) (s i (out i h)) (was i h)), q),
  λ i h. taken (mid i) (now i) (out i h),
)
  where
    out : (i : ℕ) → Has (base, up n) i → mid i ≡ true
    out i h = let e : base + (i - base) ≡ i = omega (arith, h.0) in ap mid (sym e) ∙ t.are (i - base) (omega (arith, h.0, h.1))

    was : (i : ℕ) → Has (base, up n) i → old i ≡ false
    was i h = let e : base + (i - base) ≡ i = omega (arith, h.0) in ap old (sym e) ∙ t.were (i - base) (omega (arith, h.0, h.1))

    taken : (x y : Bool) → x ≡ true → (y && not x) ≡ false
    taken true true e = refl
    taken true false e = refl
    taken false y e = cc

wider : (old mid now : ℕ → Bool) → ((i : ℕ) → old i ≡ true → mid i ≡ true) → (i : ℕ) → since mid now i ≡ true → since old now i ≡ true
wider old mid now s i q = since_from (old i) (now i) (since_now (mid i) (now i) q) (not_before (old i) (mid i) (s i) (since_not (mid i) (now i) q))

module _ (vector leafvec base0 base1 d v : ℕ) (f : List Bool → ℕ) (old mid now : State) (le : v ≤ 64) (ge : 64 ≤ v) (can : IsCanonical vector leafvec (slots d f)) (g : Going vector leafvec base0 base1 d f old mid now v) (p : Parted vector base1 mid now v) where
  v_is : v ≡ 64
  v_is = omega arith

  pub nodes_parted : ((q : ℕ) × (base1 ≡ q * up (children (slots d f)))) → (k : ℕ) → AreApart (since old.N now.N) (node_arrays k now.nodes (record { vector = vector; leafvec = leafvec; base0 = base0; base1 = base1 }))
  unfolding node_arrays AreApart
  nodes_parted q zero = tt
  nodes_parted q (suc k) =
      let c : rank_of vector 64 ≡ children (slots d f) = rank_total vector 64 (λ u. mixed (slots d f u)) can.nodes in
      let b = block_is base1 (rank_of vector 64) (length now.nodes) old.N mid.N now.N (subst (λ (n : ℕ). TakesPlaces base1 (up n) old.N mid.N (length now.nodes)) (sym c) g.node_block) g.mid_nodes (q.0, q.1 ∙ ap (λ n. q.0 * up n) (sym c)) in
      apart_cons (since mid.N now.N) (since old.N now.N) (base1, up (rank_of vector 64)) _ b.0 b.1 (wider old.N mid.N now.N g.early_nodes) (subst (λ (w : ℕ). AreApart (since mid.N now.N) (kids k now.nodes base1 (rank_of vector w))) v_is (p.nodes k))

  pub leaves_parted : ((q : ℕ) × (base0 ≡ q * up (runs (slots d f)))) → (k : ℕ) → AreApart (since old.L now.L) (leaf_arrays k now.nodes (record { vector = vector; leafvec = leafvec; base0 = base0; base1 = base1 }))
  unfolding leaf_arrays AreApart
  leaves_parted q zero = tt
  leaves_parted q (suc k) =
      let c : rank_of leafvec 64 ≡ runs (slots d f) = rank_total leafvec 64 (run_start (slots d f)) can.leaves in
      let b = block_is base0 (rank_of leafvec 64) (length now.leaves) old.L mid.L now.L (subst (λ (n : ℕ). TakesPlaces base0 (up n) old.L mid.L (length now.leaves)) (sym c) g.leaf_block) g.mid_leaves (q.0, q.1 ∙ ap (λ n. q.0 * up n) (sym c)) in
      apart_cons (since mid.L now.L) (since old.L now.L) (base0, up (rank_of leafvec 64)) _ b.0 b.1 (wider old.L mid.L now.L g.early_leaves) (subst (λ (w : ℕ). AreApart (since mid.L now.L) (kid_leaves k now.nodes base1 (rank_of vector w))) v_is (p.leaves k))

pub rank_fits : (vector leafvec d : ℕ) (f : List Bool → ℕ) (v : ℕ) → v < 64 → IsCanonical vector leafvec (slots d f) → rank_of vector (v + 1) ≤ children (slots d f)
rank_fits vector leafvec d f v l can =
    let le = rank_le vector (v + 1) 64 (omega arith) in
    let c : rank_of vector 64 ≡ children (slots d f) = rank_total vector 64 (λ u. mixed (slots d f u)) can.nodes in
    omega arith
