-- The places that are left while the slots of a node are gone through.
use Rattle.std.proofs.Common.{◌≡◌, ℕ, zero, suc, ◌+◌, ◌-◌, ◌*◌, ◌^◌, ◌<◌, ◌≤◌, List, [], ◌∷◌, Bool, take, length, Option, Some, None, refl, sym, ap, ◌∙◌, arith, subst, inl, inr}
use Rattle.std.proofs.lemmas.Bool.{cases_lt}
use Rattle.buddy_arena.specs.Space.{Space, IsSized, OneEach, blocks}
use Rattle.buddy_arena.specs.Space as arena
use Rattle.fib_addr.specs.Answers.{one_answer, part}
use Rattle.poptrie_build.specs.Strides.{slots, slot, mixed, starts, or_earlier, leaf_before, run_start, total}
use Rattle.buddy_arena.specs.Powers.{up}
use Rattle.poptrie_build.specs.Need.{children, runs, if_mixed, need_nodes, need_leaves}
use Rattle.poptrie_build.specs.Stands.{IsCanonical}
use Rattle.poptrie_build.specs.Put.{PutsAll}
use Rattle.poptrie_build.specs.Slots.{AreSlots}
use Rattle.poptrie_build.specs.Making.{slot_kind}
use Rattle.std.proofs.Math.Pow.{pow_mono}
use Rattle.table_model.specs.Bits.{bits_of}
use Rattle.table_model.proofs.BitLaws.{length-bits_of}
use Rattle.buddy_arena.specs.Places.{count_free, IsFresh, TakesPlaces}
use Rattle.buddy_arena.proofs.Powers.{up_above}
use Rattle.poptrie_build.specs.declared.node.Node.{Node}
use Rattle.fib_addr.proofs.OneAnswer.{mixed_bits}

-- ---- the same slots
total_same : (g h : ℕ → ℕ) (n : ℕ) → ((u : ℕ) → u < n → g u ≡ h u) → total g n ≡ total h n
unfolding total
total_same g h zero e = refl
total_same g h (suc n) e = let t = total_same g h n (λ u l. e u (omega arith)) in let s = e n (omega arith) in omega arith

before_same : (g h : ℕ → Option ℕ) (v : ℕ) → ((u : ℕ) → u < v → g u ≡ h u) → leaf_before g v ≡ leaf_before h v
unfolding leaf_before
before_same g h zero e = refl
before_same g h (suc v) e = ap (λ x. or_earlier x (leaf_before g v)) (e v (omega arith)) ∙ ap (or_earlier (h v)) (before_same g h v (λ u l. e u (omega arith)))

start_same : (g h : ℕ → Option ℕ) (v : ℕ) → ((u : ℕ) → u ≤ v → g u ≡ h u) → run_start g v ≡ run_start h v
start_same g h v e = ap (λ x. starts x (leaf_before g v)) (e v (omega arith)) ∙ ap (starts (h v)) (before_same g h v (λ u l. e u (omega arith)))

abbrev pub Agree : (ℕ → Option ℕ) → (ℕ → Option ℕ) → Type 0
Agree g h = (v : ℕ) → v < 64 → g v ≡ h v

pub canonical_same : (x y : ℕ) (g h : ℕ → Option ℕ) → Agree g h → IsCanonical x y g → IsCanonical x y h
canonical_same x y g h e c = record {
  nodes = λ v l. c.nodes v l ∙ ap mixed (e v l);
  leaves = λ v l. c.leaves v l ∙ start_same g h v (λ u m. e u (omega arith));
}

pub children_same : (n : ℕ) (g h : ℕ → Option ℕ) → Agree g h → n ≡ children g → n ≡ children h
children_same n g h e c = c ∙ total_same (λ v. mixed (g v)) (λ v. mixed (h v)) 64 (λ v l. ap mixed (e v l))

pub runs_same : (n : ℕ) (g h : ℕ → Option ℕ) → Agree g h → n ≡ runs g → n ≡ runs h
runs_same n g h e c = c ∙ total_same (run_start g) (run_start h) 64 (λ v l. start_same g h v (λ u m. e u (omega arith)))

-- ---- needs
pub total_more : (g : ℕ → ℕ) (v : ℕ) → total g (v + 1) ≡ total g v + g v
unfolding total
total_more g v = let e : v + 1 ≡ suc v = omega arith in ap (total g) e

pub total_upto : (g : ℕ → ℕ) (v n : ℕ) → v ≤ n → total g v ≤ total g n
unfolding total
total_upto g v zero l = let e : v ≡ zero = omega arith in let s = ap (total g) e in omega arith
total_upto g v (suc n) l =
    elim (cases_lt n v) [
      | inl a ↦ (let e : v ≡ suc n = omega arith in let s = ap (total g) e in omega arith)
      | inr a ↦ (let t = total_upto g v n a in omega arith)
    ]

abbrev pub nodes_at : ℕ → ℕ → (List Bool → ℕ) → ℕ → ℕ
nodes_at k d f u = need_nodes k (d - 6) (slot d f u)

abbrev pub leaves_at : ℕ → ℕ → (List Bool → ℕ) → ℕ → ℕ
leaves_at k d f u = need_leaves k (d - 6) (slot d f u)

pub need_nodes_is : (k d : ℕ) (f : List Bool → ℕ) → one_answer d f ≡ None → need_nodes (suc k) d f ≡ up (children (slots d f)) + total (nodes_at k d f) 64
unfolding need_nodes
need_nodes_is k d f e = ap (λ x. if_mixed x (up (children (slots d f)) + total (nodes_at k d f) 64)) e

pub need_leaves_is : (k d : ℕ) (f : List Bool → ℕ) → one_answer d f ≡ None → need_leaves (suc k) d f ≡ up (runs (slots d f)) + total (leaves_at k d f) 64
unfolding need_leaves
need_leaves_is k d f e = ap (λ x. if_mixed x (up (runs (slots d f)) + total (leaves_at k d f) 64)) e

pub no_nodes : (k d h : ℕ) (f : List Bool → ℕ) → one_answer d f ≡ Some h → need_nodes k d f ≡ 0
unfolding need_nodes
no_nodes zero d h f e = refl
no_nodes (suc k) d h f e = ap (λ x. if_mixed x (up (children (slots d f)) + total (nodes_at k d f) 64)) e

pub no_leaves : (k d h : ℕ) (f : List Bool → ℕ) → one_answer d f ≡ Some h → need_leaves k d f ≡ 0
unfolding need_leaves
no_leaves zero d h f e = refl
no_leaves (suc k) d h f e = ap (λ x. if_mixed x (up (runs (slots d f)) + total (leaves_at k d f) 64)) e

-- ---- what is left, with the slots below v done
pub record Counted (d : ℕ) (f : List Bool → ℕ) (nodes0 nodes : Space Node) (leaves0 leaves : Space ℕ) (v : ℕ) : Type 0 where
  pub nodes_left : (k : ℕ) → d - 6 ≤ 6 * k → count_free nodes + (up (children (slots d f)) + total (nodes_at k d f) v) ≡ count_free nodes0
  pub leaves_left : (k : ℕ) → d - 6 ≤ 6 * k → count_free leaves + (up (runs (slots d f)) + total (leaves_at k d f) v) ≡ count_free leaves0
  pub nodes_fresh : IsFresh nodes0 → IsFresh nodes
  pub leaves_fresh : IsFresh leaves0 → IsFresh leaves
  pub nodes_sized : IsSized nodes
  pub leaves_sized : IsSized leaves
  pub orders : (nodes.order ≡ nodes0.order) × (leaves.order ≡ leaves0.order)
  pub fills : (nodes.fill ≡ nodes0.fill) × (leaves.fill ≡ leaves0.fill)

fresh_same : {T : Type 0} (s t : Space T) → t.order ≡ s.order → t.free ≡ s.free → IsFresh s → IsFresh t
fresh_same s t o f h = subst (λ (n : ℕ). OneEach (blocks n t.free)) (sym o) (subst (λ (x : List Bool). OneEach (blocks s.order x)) (sym f) h)

free_same : {T : Type 0} (s t : Space T) → t.free ≡ s.free → count_free t ≡ count_free s
free_same s t f = ap arena.free_count f

module _ (d : ℕ) (f : List Bool → ℕ) (n0 n1 : Space Node) (l0 l1 : Space ℕ) (c r : ℕ) where
  -- both blocks came out
  pub count_start : c ≡ children (slots d f) → r ≡ runs (slots d f) → count_free n1 + up c ≡ count_free n0 → count_free l1 + up r ≡ count_free l0 → (IsFresh n0 → IsFresh n1) → (IsFresh l0 → IsFresh l1) → IsSized n1 → IsSized l1 →
      n1.order ≡ n0.order → l1.order ≡ l0.order → n1.fill ≡ n0.fill → l1.fill ≡ l0.fill → Counted d f n0 n1 l0 l1 0
  unfolding total
  count_start ec er en el fn fl sn sl on ol pn pl = record {
    nodes_left = λ k h. omega (arith, en, ap up ec);
    leaves_left = λ k h. omega (arith, el, ap up er);
    nodes_fresh = fn;
    leaves_fresh = fl;
    nodes_sized = sn;
    leaves_sized = sl;
    orders = (on, ol);
    fills = (pn, pl);
  }

module _ (d : ℕ) (f : List Bool → ℕ) (n0 n1 n2 : Space Node) (l0 l1 l2 : Space ℕ) (v : ℕ) where
  -- a leaf was written
  pub count_leaf : (h : ℕ) → slots d f v ≡ Some h → n2 ≡ n1 → l2.free ≡ l1.free → l2.order ≡ l1.order → l2.fill ≡ l1.fill → IsSized l2 → Counted d f n0 n1 l0 l1 v → Counted d f n0 n2 l0 l2 (v + 1)
  count_leaf h e ne lf lo lp ls c = record {
    nodes_left = λ k q. omega (arith, c.nodes_left k q, ap count_free ne, total_more (nodes_at k d f) v, no_nodes k (d - 6) h (slot d f v) e);
    leaves_left = λ k q. omega (arith, c.leaves_left k q, free_same l1 l2 lf, total_more (leaves_at k d f) v, no_leaves k (d - 6) h (slot d f v) e);
    nodes_fresh = λ x. subst (λ (s : Space Node). IsFresh s) (sym ne) (c.nodes_fresh x);
    leaves_fresh = λ x. fresh_same l1 l2 lo lf (c.leaves_fresh x);
    nodes_sized = subst (λ (s : Space Node). IsSized s) (sym ne) c.nodes_sized;
    leaves_sized = ls;
    orders = (ap (λ (s : Space Node). s.order) ne ∙ c.orders.0, lo ∙ c.orders.1);
    fills = (ap (λ (s : Space Node). s.fill) ne ∙ c.fills.0, lp ∙ c.fills.1);
  }

  -- a child was built and written
  pub count_node : (n3 : Space Node) (b : ℕ) (g : List Bool → ℕ) → b ≡ d - 6 → g ≡ slot d f v → ((k : ℕ) → b ≤ 6 * k → count_free n3 + need_nodes k b g ≡ count_free n1) → ((k : ℕ) → b ≤ 6 * k → count_free l2 + need_leaves k b g ≡ count_free l1) →
      (IsFresh n1 → IsFresh n3) → (IsFresh l1 → IsFresh l2) → n3.order ≡ n1.order → n3.fill ≡ n1.fill → l2.order ≡ l1.order → l2.fill ≡ l1.fill → n2.free ≡ n3.free → n2.order ≡ n3.order → n2.fill ≡ n3.fill → IsSized n2 → IsSized l2 → Counted d f n0 n1 l0 l1 v → Counted d f n0 n2 l0 l2 (v + 1)
  count_node n3 b g eb eg cn cl fn fl on pn ol pl nf nor np sn sl c = record {
    nodes_left = λ k q. omega (arith, c.nodes_left k q, free_same n3 n2 nf, total_more (nodes_at k d f) v, cn k (omega (arith, eb, q)), ap (λ x. need_nodes k x g) eb, ap (need_nodes k (d - 6)) eg);
    leaves_left = λ k q. omega (arith, c.leaves_left k q, total_more (leaves_at k d f) v, cl k (omega (arith, eb, q)), ap (λ x. need_leaves k x g) eb, ap (need_leaves k (d - 6)) eg);
    nodes_fresh = λ x. fresh_same n3 n2 nor nf (fn (c.nodes_fresh x));
    leaves_fresh = λ x. fl (c.leaves_fresh x);
    nodes_sized = sn;
    leaves_sized = sl;
    orders = (nor ∙ (on ∙ c.orders.0), ol ∙ c.orders.1);
    fills = (np ∙ (pn ∙ c.fills.0), pl ∙ c.fills.1);
  }

-- leaves were written
pub count_written : (d : ℕ) (f : List Bool → ℕ) (n0 n1 : Space Node) (l0 l1 l2 : Space ℕ) (v base n : ℕ) (hops : List ℕ) → PutsAll base n hops l1 l2 → Counted d f n0 n1 l0 l1 v → Counted d f n0 n1 l0 l2 v
count_written d f n0 n1 l0 l1 l2 v base n hops put c = record {
  nodes_left = c.nodes_left;
  leaves_left = λ k q. omega (arith, c.leaves_left k q, free_same l1 l2 put.free);
  nodes_fresh = c.nodes_fresh;
  leaves_fresh = λ x. fresh_same l1 l2 put.order put.free (c.leaves_fresh x);
  nodes_sized = c.nodes_sized;
  leaves_sized = put.sized;
  orders = (c.orders.0, put.order ∙ c.orders.1);
  fills = (c.fills.0, put.fill ∙ c.fills.1);
}

-- ---- at the end
pub nodes_end : (d : ℕ) (f : List Bool → ℕ) (n0 n1 : Space Node) (l0 l1 : Space ℕ) (v : ℕ) → v ≤ 64 → 64 ≤ v → one_answer d f ≡ None → Counted d f n0 n1 l0 l1 v → (k : ℕ) → d ≤ 6 * k → count_free n1 + need_nodes k d f ≡ count_free n0
nodes_end d f n0 n1 l0 l1 v a b none c zero h = absurd (let m = mixed_bits d f none in omega arith)
nodes_end d f n0 n1 l0 l1 v a b none c (suc k) h = let e : v ≡ 64 = omega arith in omega (arith, need_nodes_is k d f none, c.nodes_left k (omega arith), ap (total (nodes_at k d f)) e)

pub leaves_end : (d : ℕ) (f : List Bool → ℕ) (n0 n1 : Space Node) (l0 l1 : Space ℕ) (v : ℕ) → v ≤ 64 → 64 ≤ v → one_answer d f ≡ None → Counted d f n0 n1 l0 l1 v → (k : ℕ) → d ≤ 6 * k → count_free l1 + need_leaves k d f ≡ count_free l0
leaves_end d f n0 n1 l0 l1 v a b none c zero h = absurd (let m = mixed_bits d f none in omega arith)
leaves_end d f n0 n1 l0 l1 v a b none c (suc k) h = let e : v ≡ 64 = omega arith in omega (arith, need_leaves_is k d f none, c.leaves_left k (omega arith), ap (total (leaves_at k d f)) e)

-- ---- where a block is refused
pub nodes_refused : (d c k x : ℕ) (f : List Bool → ℕ) → one_answer d f ≡ None → c ≡ children (slots d f) → d ≤ 6 * k → x < up c → need_nodes k d f ≤ x → ⊥
nodes_refused d c zero x f none e h l n = let m = mixed_bits d f none in omega arith
nodes_refused d c (suc k) x f none e h l n = omega (arith, need_nodes_is k d f none, ap up e)

pub leaves_refused : (d r k x : ℕ) (f : List Bool → ℕ) → one_answer d f ≡ None → r ≡ runs (slots d f) → d ≤ 6 * k → x < up r → need_leaves k d f ≤ x → ⊥
leaves_refused d r zero x f none e h l n = let m = mixed_bits d f none in omega arith
leaves_refused d r (suc k) x f none e h l n = omega (arith, need_leaves_is k d f none, ap up e)

-- what the child of slot v needs is there where what the node needs was
pub child_fits : (d : ℕ) (f : List Bool → ℕ) (n0 n1 : Space Node) (l0 l1 : Space ℕ) (v b : ℕ) (g : List Bool → ℕ) → v < 64 → one_answer d f ≡ None → b ≡ d - 6 → g ≡ slot d f v → Counted d f n0 n1 l0 l1 v → (k : ℕ) → d ≤ 6 * k → need_nodes k d f ≤ count_free n0 → need_leaves k d f ≤ count_free l0 →
    (j : ℕ) × (b ≤ 6 * j) × (need_nodes j b g ≤ count_free n1) × (need_leaves j b g ≤ count_free l1)
child_fits d f n0 n1 l0 l1 v b g l none eb eg c zero h hn hl = absurd (let m = mixed_bits d f none in omega arith)
child_fits d f n0 n1 l0 l1 v b g l none eb eg c (suc k) h hn hl = (
  k,
  omega arith,
  omega (arith, need_nodes_is k d f none, c.nodes_left k (omega arith), total_more (nodes_at k d f) v, total_upto (nodes_at k d f) (v + 1) 64 (omega arith), ap (λ x. need_nodes k x g) eb, ap (need_nodes k (d - 6)) eg),
  omega (arith, need_leaves_is k d f none, c.leaves_left k (omega arith), total_more (leaves_at k d f) v, total_upto (leaves_at k d f) (v + 1) 64 (omega arith), ap (λ x. need_leaves k x g) eb, ap (need_leaves k (d - 6)) eg),
)

-- what was asked is what the slots are
pub kinds_agree : (d : ℕ) (f : List Bool → ℕ) (kinds : List (Option ℕ)) → AreSlots 6 d f kinds → Agree (slot_kind kinds) (slots d f)
kinds_agree d f kinds a = a

-- places of a block are numbers that fit
pub block_small : (base n r len o : ℕ) (old new : ℕ → Bool) → TakesPlaces base (up n) old new len → len ≡ 2 ^ o → o < 31 → r ≤ n → base + r < 4294967296
block_small base n r len o old new t e l h = let m : 2 ^ o ≤ 2 ^ 30 = pow_mono {i = o} {j = 30} (omega arith) in omega (arith, t.within, up_above n)

take_all : {A : Type 0} (n : ℕ) (xs : List A) → length xs ≤ n → take n xs ≡ xs
take_all zero [] h = refl
take_all zero (x ∷ xs) h = absurd (omega arith)
take_all (suc n) [] h = refl
take_all (suc n) (x ∷ xs) h = ap (λ t. x ∷ t) (take_all n xs (omega arith))

-- the part that six more bits tell
pub descended_slot : (d v b : ℕ) (f g : List Bool → ℕ) → b + 6 ≡ d → g ≡ part (bits_of 6 v) f → (b ≡ d - 6) × (g ≡ slot d f v)
descended_slot d v b f g e h = (omega arith, h ∙ ap (λ p. part p f) (sym (take_all d (bits_of 6 v) (omega (arith, length-bits_of 6 v)))))

pub six_bits : (d v : ℕ) (f : List Bool → ℕ) → None ≡ slots d f v → 6 ≤ d
six_bits d v f e = let m = mixed_bits (d - 6) (slot d f v) (sym e) in omega arith
