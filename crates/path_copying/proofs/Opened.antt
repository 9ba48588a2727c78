-- A node as its 64 children.
use Rattle.std.proofs.Common.{◌≡◌, ℕ, zero, suc, ◌+◌, ◌-◌, ◌<◌, List, [], ◌∷◌, ◌++◌, Bool, true, cond, nat_eq, Option, Some, None, length, refl, sym, ap, ◌∙◌, arith, subst}
use Rattle.std.specs.Int.{bit_at}
use Rattle.std.proofs.lemmas.List.{append-nil, append_assoc, length-take}
use Rattle.std.proofs.lemmas.Bool.{ne_eqb}
use Rattle.std.proofs.lemmas.Nat.Bits.{bit_at-lt}
use Rattle.table_model.specs.Bits.{bits_of}
use Rattle.buddy_arena.specs.Space.{Space}
use Rattle.buddy_arena.specs.Powers.{up}
use Rattle.buddy_arena.specs.Places.{is_out}
use Rattle.buddy_arena.specs.Arrays.{Array, AreApart, places_of}
use Rattle.buddy_arena.proofs.Powers.{up_zero}
use Rattle.buddy_arena.proofs.Parting.{part_right}
use Rattle.buddy_arena.proofs.Sets.{places_append}
use Rattle.fib_addr.specs.Answers.{one_answer}
use Rattle.fib_addr.proofs.OneAnswer.{one_answer_part}
use Rattle.poptrie_build.specs.Bits.{rank_of}
use Rattle.poptrie_build.specs.Strides.{slots, slot, slot_bits, mixed, run_start, total}
use Rattle.poptrie_build.specs.Need.{children, runs}
use Rattle.poptrie_build.specs.Stands.{BySlot, IsLeaf, node_at}
use Rattle.poptrie_build.specs.Build.{StandsIn}
use Rattle.poptrie_build.specs.Arrays.{gather, node_arrays, leaf_arrays}
use Rattle.poptrie_build.specs.declared.node.Node.{Node}
use Rattle.poptrie_build.proofs.Address.{length_bits}
use Rattle.poptrie_build.proofs.Counting.{need_nodes_is, need_leaves_is, no_nodes, no_leaves, nodes_at, leaves_at}
use Rattle.poptrie_build.proofs.Parting.{gather_same}
use Rattle.poptrie_build.proofs.So_far.{rank_total}
use Rattle.poptrie_build.proofs.Walk.{rank_more}
use Rattle.path_copying.specs.Kids.{StandsAs, kid_at, kid_arrays, kid_leaf_arrays}
use Rattle.path_copying.specs.Changes.{Part}
use Rattle.path_copying.specs.Aside.{block_of, children_of, leaves_of}
use Rattle.path_copying.proofs.Like.{like_is, like_then, like_under, like_move}
use Rattle.path_copying.proofs.Row.{Row}

-- ---- what the children stand for
slot_long : (d v : ℕ) → length (slot_bits d v) + (d - 6) ≡ d
slot_long d v = let m = length-take d (bits_of 6 v) in let n = length_bits 6 v in omega (arith, m, n)

pub slot_one : (d v h : ℕ) (g : List Bool → ℕ) → one_answer d g ≡ Some h → one_answer (d - 6) (slot d g v) ≡ Some h
slot_one d v h g e = one_answer_part d (d - 6) g h (slot_bits d v) (slot_long d v) e

pub kid_none : (nodes : List Node) (n : Node) (v : ℕ) → bit_at n.vector v ≡ 0 → kid_at nodes (Some n) v ≡ None
kid_none nodes n v e = ap (λ b. cond (nat_eq b 0) None (Some (node_at nodes (n.base1 + rank_of n.vector (v + 1) - 1)))) e

pub kid_some : (nodes : List Node) (n : Node) (v : ℕ) → bit_at n.vector v ≡ 1 → kid_at nodes (Some n) v ≡ Some (node_at nodes (n.base1 + rank_of n.vector (v + 1) - 1))
kid_some nodes n v e = ap (λ b. cond (nat_eq b 0) None (Some (node_at nodes (n.base1 + rank_of n.vector (v + 1) - 1)))) e

pub kid_stands : (k : ℕ) (nodes : List Node) (N : ℕ → Bool) (leaves : List ℕ) (L : ℕ → Bool) (node : Option Node) (d : ℕ) (g : List Bool → ℕ) (v : ℕ) → v < 64 → StandsAs (suc k) nodes N leaves L node d g → StandsAs k nodes N leaves L (kid_at nodes node v) (d - 6) (slot d g v)
unfolding StandsIn
kid_stands k nodes N leaves L None d g v l s = (s.0, slot_one d v s.0 g s.1)
kid_stands k nodes N leaves L (Some n) d g v l s = by (slots d g v) refl (s.2 v l)
  where
    by : (x : Option ℕ) → slots d g v ≡ x → BySlot x ((N (n.base1 + rank_of n.vector (v + 1) - 1) ≡ true) × (n.base1 + rank_of n.vector (v + 1) - 1 < length nodes) × StandsIn k nodes N leaves L (node_at nodes (n.base1 + rank_of n.vector (v + 1) - 1)) (d - 6) (slot d g v)) (λ h. (L (n.base0 + rank_of n.leafvec (v + 1) - 1) ≡ true) × IsLeaf leaves (n.base0 + rank_of n.leafvec (v + 1) - 1) h) → StandsAs k nodes N leaves L (kid_at nodes (Some n) v) (d - 6) (slot d g v)
    by None e t = subst (λ (x : Option Node). StandsAs k nodes N leaves L x (d - 6) (slot d g v)) (sym (kid_some nodes n v (s.1.nodes v l ∙ ap mixed e))) t.2
    by (Some h) e t = subst (λ (x : Option Node). StandsAs k nodes N leaves L x (d - 6) (slot d g v)) (sym (kid_none nodes n v (s.1.nodes v l ∙ ap mixed e))) (h, e)

-- ---- their arrays
slotted : ℕ → (ℕ → List Array) → ℕ → List Array
slotted vector g v = cond (nat_eq (bit_at vector v) 0) [] (g (rank_of vector (v + 1) - 1))

slot_cases : (vector v : ℕ) (g : ℕ → List Array) (x : List Array) → (bit_at vector v ≡ 0 → x ≡ []) → (bit_at vector v ≡ 1 → x ≡ g (rank_of vector (v + 1) - 1)) → x ≡ slotted vector g v
unfolding slotted
slot_cases vector v g x a b = by (bit_at vector v) (bit_at-lt vector v) a b
  where
    by : (n : ℕ) → n < 2 → (n ≡ 0 → x ≡ []) → (n ≡ 1 → x ≡ g (rank_of vector (v + 1) - 1)) → x ≡ cond (nat_eq n 0) [] (g (rank_of vector (v + 1) - 1))
    by zero l p q = p refl
    by (suc zero) l p q = q refl
    by (suc (suc n)) l p q = absurd (omega arith)

gathered : (vector m : ℕ) (g : ℕ → List Array) → gather (slotted vector g) m ≡ gather g (rank_of vector m)
unfolding gather rank_of slotted
gathered vector zero g = refl
gathered vector (suc m) g = by (gathered vector m g) (bit_at vector m) refl (bit_at-lt vector m)
  where
    by : gather (slotted vector g) m ≡ gather g (rank_of vector m) → (n : ℕ) → bit_at vector m ≡ n → n < 2 → gather (slotted vector g) m ++ slotted vector g m ≡ gather g (bit_at vector m + rank_of vector m)
    by again zero e l =
        let r : rank_of vector m ≡ bit_at vector m + rank_of vector m = omega (arith, e) in
        ap (λ (x : List Array). gather (slotted vector g) m ++ x) (ap (λ b. cond (nat_eq b 0) [] (g (rank_of vector (m + 1) - 1))) e) ∙ (append-nil _ ∙ (again ∙ ap (gather g) r))
    by again (suc zero) e l =
        let r : suc (rank_of vector m) ≡ bit_at vector m + rank_of vector m = omega (arith, e) in
        let more = rank_more vector m in
        let q : rank_of vector (m + 1) - 1 ≡ rank_of vector m = omega (arith, more, e) in
        ap (λ (x : List Array). gather (slotted vector g) m ++ x) (ap (λ b. cond (nat_eq b 0) [] (g (rank_of vector (m + 1) - 1))) e ∙ ap g q) ∙ (ap (λ (x : List Array). x ++ g (rank_of vector m)) again ∙ ap (gather g) r)
    by again (suc (suc n)) e l = absurd (omega arith)

pub node_arrays_is : (k : ℕ) (nodes : List Node) (n : Node) → node_arrays (suc k) nodes n ≡ (n.base1, up (rank_of n.vector 64)) ∷ gather (λ v. kid_arrays k nodes (kid_at nodes (Some n) v)) 64
unfolding node_arrays
node_arrays_is k nodes n =
    ap (λ (x : List Array). (n.base1, up (rank_of n.vector 64)) ∷ x)
    (sym (gathered n.vector 64 (λ i. node_arrays k nodes (node_at nodes (n.base1 + i))))
    ∙ gather_same _ _ 64 (λ v l. sym (slot_cases n.vector v (λ i. node_arrays k nodes (node_at nodes (n.base1 + i))) (kid_arrays k nodes (kid_at nodes (Some n) v))
    (λ e. ap (kid_arrays k nodes) (kid_none nodes n v e))
    (λ e. ap (kid_arrays k nodes) (kid_some nodes n v e) ∙ (let more = rank_more n.vector v in let q : n.base1 + rank_of n.vector (v + 1) - 1 ≡ n.base1 + (rank_of n.vector (v + 1) - 1) = omega (arith, more, e) in ap (λ i. node_arrays k nodes (node_at nodes i)) q)))))

pub leaf_arrays_is : (k : ℕ) (nodes : List Node) (n : Node) → leaf_arrays (suc k) nodes n ≡ (n.base0, up (rank_of n.leafvec 64)) ∷ gather (λ v. kid_leaf_arrays k nodes (kid_at nodes (Some n) v)) 64
unfolding leaf_arrays
leaf_arrays_is k nodes n =
    ap (λ (x : List Array). (n.base0, up (rank_of n.leafvec 64)) ∷ x)
    (sym (gathered n.vector 64 (λ i. leaf_arrays k nodes (node_at nodes (n.base1 + i))))
    ∙ gather_same _ _ 64 (λ v l. sym (slot_cases n.vector v (λ i. leaf_arrays k nodes (node_at nodes (n.base1 + i))) (kid_leaf_arrays k nodes (kid_at nodes (Some n) v))
    (λ e. ap (kid_leaf_arrays k nodes) (kid_none nodes n v e))
    (λ e. ap (kid_leaf_arrays k nodes) (kid_some nodes n v e) ∙ (let more = rank_more n.vector v in let q : n.base1 + rank_of n.vector (v + 1) - 1 ≡ n.base1 + (rank_of n.vector (v + 1) - 1) = omega (arith, more, e) in ap (λ i. leaf_arrays k nodes (node_at nodes i)) q)))))

pub gather_none : (g : ℕ → List Array) (n : ℕ) → ((u : ℕ) → u < n → g u ≡ []) → gather g n ≡ []
unfolding gather
gather_none g zero e = refl
gather_none g (suc n) e = ap (λ (x : List Array). x ++ g n) (gather_none g n (λ u l. e u (omega arith))) ∙ e n (omega arith)

pub total_none : (g : ℕ → ℕ) (n : ℕ) → ((u : ℕ) → u < n → g u ≡ 0) → total g n ≡ 0
unfolding total
total_none g zero e = refl
total_none g (suc n) e = let t = total_none g n (λ u l. e u (omega arith)) in let s = e n (omega arith) in omega arith

-- ---- the node's own blocks go to what is put aside
block_is : (base c : ℕ) → block_of base (suc c) ≡ (base, up (suc c)) ∷ []
block_is base c = ap (λ b. let r : List Array = cond b [] ((base, up (suc c)) ∷ []) in r) (ne_eqb (suc c) 0 (λ e. absurd (omega (arith, e))))

aside_apart : (N : ℕ → Bool) (base c : ℕ) (xs r beside : List Array) → AreApart N ((base, up c) ∷ (xs ++ (r ++ beside))) → AreApart N (xs ++ ((r ++ block_of base c) ++ beside))
aside_apart N base zero xs r beside a = subst (λ (z : List Array). AreApart N (xs ++ (z ++ beside))) (sym (append-nil r)) (part_right N ((base, up zero) ∷ []) (xs ++ (r ++ beside)) a)
aside_apart N base (suc c) xs r beside a =
    let own : List Array = (base, up (suc c)) ∷ [] in
    subst (λ (z : List Array). AreApart N (xs ++ ((r ++ z) ++ beside))) (sym (block_is base c))
    ((like_then _ _ _ (like_move own xs (r ++ beside)) (like_under xs _ _ (like_then _ _ _ (like_move own r beside) (like_is _ _ (sym (append_assoc r own beside)))))).apart N a)

places_block : (base c : ℕ) → places_of (block_of base c) ≡ up c
places_block base zero = sym up_zero
places_block base (suc c) = let e : places_of (block_of base (suc c)) ≡ up (suc c) + 0 = ap places_of (block_is base c) in omega (arith, e)

module _ (k : ℕ) (nodes : Space Node) (leaves : Space ℕ) (d : ℕ) (g : List Bool → ℕ) (r r2 beside beside2 : List Array) (m m2 : ℕ) where
  none_opened : Part (suc k) nodes leaves None d g (r ++ beside) (r2 ++ beside2) m m2 → Row k nodes leaves (λ u. None) d (slot d g) ((r ++ []) ++ beside) ((r2 ++ []) ++ beside2) m m2
  none_opened p =
      let h = p.stands.0 in
      let one = p.stands.1 in
      let n = no_nodes (suc k) d h g one in
      let l = no_leaves (suc k) d h g one in
      let ns = total_none (nodes_at k d g) 64 (λ u low. no_nodes k (d - 6) h (slot d g u) (slot_one d u h g one)) in
      let ls = total_none (leaves_at k d g) 64 (λ u low. no_leaves k (d - 6) h (slot d g u) (slot_one d u h g one)) in
      let b : places_of ((r ++ []) ++ beside) ≡ places_of (r ++ beside) = ap (λ (x : List Array). places_of (x ++ beside)) (append-nil r) in
      let b2 : places_of ((r2 ++ []) ++ beside2) ≡ places_of (r2 ++ beside2) = ap (λ (x : List Array). places_of (x ++ beside2)) (append-nil r2) in
      record {
        stands = λ u low. (h, slot_one d u h g one);
        nodes_apart =
            subst (λ (z : List Array). AreApart (is_out nodes.free) (z ++ ((r ++ []) ++ beside))) (sym (gather_none (λ u. kid_arrays k nodes.cells None) 64 (λ u low. refl)))
            (subst (λ (z : List Array). AreApart (is_out nodes.free) (z ++ beside)) (sym (append-nil r)) p.nodes_apart);
        leaves_apart =
            subst (λ (z : List Array). AreApart (is_out leaves.free) (z ++ ((r2 ++ []) ++ beside2))) (sym (gather_none (λ u. kid_leaf_arrays k nodes.cells None) 64 (λ u low. refl)))
            (subst (λ (z : List Array). AreApart (is_out leaves.free) (z ++ beside2)) (sym (append-nil r2)) p.leaves_apart);
        nodes_fill = omega (arith, p.nodes_fill, n, ns, b);
        leaves_fill = omega (arith, p.leaves_fill, l, ls, b2);
      }

  some_opened : (n : Node) → Part (suc k) nodes leaves (Some n) d g (r ++ beside) (r2 ++ beside2) m m2 → Row k nodes leaves (kid_at nodes.cells (Some n)) d (slot d g) ((r ++ block_of n.base1 (rank_of n.vector 64)) ++ beside) ((r2 ++ block_of n.base0 (rank_of n.leafvec 64)) ++ beside2) m m2
  unfolding StandsIn
  some_opened n p =
      let c : rank_of n.vector 64 ≡ children (slots d g) = rank_total n.vector 64 (λ v. mixed (slots d g v)) p.stands.1.nodes in
      let e : rank_of n.leafvec 64 ≡ runs (slots d g) = rank_total n.leafvec 64 (run_start (slots d g)) p.stands.1.leaves in
      let own = block_of n.base1 (rank_of n.vector 64) in
      let own2 = block_of n.base0 (rank_of n.leafvec 64) in
      let b : places_of ((r ++ own) ++ beside) ≡ places_of (r ++ beside) + up (rank_of n.vector 64) = omega (arith, places_append (r ++ own) beside, places_append r own, places_append r beside, places_block n.base1 (rank_of n.vector 64)) in
      let b2 : places_of ((r2 ++ own2) ++ beside2) ≡ places_of (r2 ++ beside2) + up (rank_of n.leafvec 64) = omega (arith, places_append (r2 ++ own2) beside2, places_append r2 own2, places_append r2 beside2, places_block n.base0 (rank_of n.leafvec 64)) in
      record {
        stands = λ u low. kid_stands k nodes.cells (is_out nodes.free) leaves.cells (is_out leaves.free) (Some n) d g u low p.stands;
        nodes_apart = aside_apart (is_out nodes.free) n.base1 (rank_of n.vector 64) _ r beside (subst (λ (z : List Array). AreApart (is_out nodes.free) (z ++ (r ++ beside))) (node_arrays_is k nodes.cells n) p.nodes_apart);
        leaves_apart = aside_apart (is_out leaves.free) n.base0 (rank_of n.leafvec 64) _ r2 beside2 (subst (λ (z : List Array). AreApart (is_out leaves.free) (z ++ (r2 ++ beside2))) (leaf_arrays_is k nodes.cells n) p.leaves_apart);
        nodes_fill = omega (arith, p.nodes_fill, need_nodes_is k d g p.stands.0, b, ap up c);
        leaves_fill = omega (arith, p.leaves_fill, need_leaves_is k d g p.stands.0, b2, ap up e);
      }

  pub opened : (old : Option Node) → Part (suc k) nodes leaves old d g (r ++ beside) (r2 ++ beside2) m m2 → Row k nodes leaves (kid_at nodes.cells old) d (slot d g) ((r ++ children_of old) ++ beside) ((r2 ++ leaves_of old) ++ beside2) m m2
  opened None p = none_opened p
  opened (Some n) p = some_opened n p
