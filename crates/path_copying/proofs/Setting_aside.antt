-- All blocks below a node are put aside, child by child.
use Rattle.std.proofs.Common.{◌≡◌, ℕ, zero, suc, ◌+◌, ◌-◌, ◌*◌, ◌<◌, ◌≤◌, List, ◌++◌, Bool, true, false, cond, Option, Some, None, refl, sym, ap, ◌∙◌, arith, subst, inl, inr}
use Rattle.std.specs.Prelude.{nat_lt}
use Rattle.std.proofs.lemmas.Bool.{cases_lt}
use Rattle.std.proofs.lemmas.Bool.Decides.{nat_tests}
use Rattle.buddy_arena.specs.Space.{Space}
use Rattle.buddy_arena.specs.Places.{Keeps, is_out}
use Rattle.buddy_arena.specs.Arrays.{Array, AreApart}
use Rattle.buddy_arena.specs.Blocks.{Held}
use Rattle.fib_addr.specs.Answers.{one_answer}
use Rattle.fib_addr.proofs.OneAnswer.{one_answer_from}
use Rattle.poptrie_build.specs.Strides.{slot}
use Rattle.poptrie_build.specs.Need.{need_nodes, need_leaves}
use Rattle.poptrie_build.specs.Stands.{blank}
use Rattle.poptrie_build.specs.Build.{StandsIn}
use Rattle.poptrie_build.specs.declared.node.Node.{Node}
use Rattle.poptrie_build.proofs.Counting.{no_nodes, no_leaves}
use Rattle.fib_addr.proofs.OneAnswer.{mixed_bits}
use Rattle.path_copying.specs.Kids.{IsKid, StandsAs, kid_at, kid_in, kid_arrays, kid_leaf_arrays}
use Rattle.path_copying.specs.Changes.{Part, Replaces}
use Rattle.path_copying.specs.Aside.{OnlyAside, children_of, leaves_of}
use Rattle.path_copying.proofs.Gaining.{only_then}
use Rattle.path_copying.proofs.Opened.{kid_stands, opened, gather_none, total_none}
use Rattle.path_copying.proofs.Row.{Row, row_next, row_same}

-- the children from v on
abbrev pub left_of : List (Option Node) → ℕ → ℕ → Option Node
left_of kids v u = cond (nat_lt u v) None (kid_in kids u)

abbrev pub left_answers : ℕ → (List Bool → ℕ) → ℕ → ℕ → List Bool → ℕ
left_answers d g v u = cond (nat_lt u v) (λ a. 0) (slot d g u)

lt_true : (u v : ℕ) → u < v → nat_lt u v ≡ true
lt_true u v l = grind (arith, nat_tests)

lt_false : (u v : ℕ) → v ≤ u → nat_lt u v ≡ false
lt_false u v l = grind (arith, nat_tests)

gone_kid : (kids : List (Option Node)) (v u : ℕ) → u < v → left_of kids v u ≡ None
gone_kid kids v u l = ap (λ b. let r : Option Node = cond b None (kid_in kids u) in r) (lt_true u v l)

left_kid : (kids : List (Option Node)) (v u : ℕ) → v ≤ u → left_of kids v u ≡ kid_in kids u
left_kid kids v u l = ap (λ b. let r : Option Node = cond b None (kid_in kids u) in r) (lt_false u v l)

gone_answer : (d : ℕ) (g : List Bool → ℕ) (v u : ℕ) → u < v → left_answers d g v u ≡ (λ a. 0)
gone_answer d g v u l = ap (λ b. let r : List Bool → ℕ = cond b (λ a. 0) (slot d g u) in r) (lt_true u v l)

left_answer : (d : ℕ) (g : List Bool → ℕ) (v u : ℕ) → v ≤ u → left_answers d g v u ≡ slot d g u
left_answer d g v u l = ap (λ b. let r : List Bool → ℕ = cond b (λ a. 0) (slot d g u) in r) (lt_false u v l)

zeros_one : (d : ℕ) → one_answer d (λ a. 0) ≡ Some 0
zeros_one d = one_answer_from d (λ a. 0) 0 (λ a l. refl)

-- the children below v are put aside
pub record Going (d : ℕ) (node : Node) (nodes : Space Node) (nb0 lb0 nb lb : Held) (kids : List (Option Node)) (v : ℕ) : Type 0 where
  pub nodes_only : OnlyAside nb0 nb
  pub leaves_only : OnlyAside lb0 lb
  pub row : (leaves : Space ℕ) (k : ℕ) (g : List Bool → ℕ) (x y : List Array) (m m2 : ℕ) → d ≤ 6 * suc k → Part (suc k) nodes leaves (Some node) d g (nb0.replaced ++ x) (lb0.replaced ++ y) m m2 → Row k nodes leaves (left_of kids v) d (left_answers d g v) (nb.replaced ++ x) (lb.replaced ++ y) m m2

keeps_self : {T : Type 0} (e : T) (s : Space T) → Keeps e s.cells (is_out s.free) s.cells (is_out s.free)
keeps_self e s = record { still = λ i q. q; same = λ i q. refl; long = refl }

module _ (d : ℕ) (node : Node) (nodes : Space Node) (nb0 lb0 nb lb : Held) (kids : List (Option Node)) where
  pub going_start : OnlyAside nb0 nb → OnlyAside lb0 lb → ((u : ℕ) → u < 64 → kid_in kids u ≡ kid_at nodes.cells (Some node) u) → nb.replaced ≡ nb0.replaced ++ children_of (Some node) → lb.replaced ≡ lb0.replaced ++ leaves_of (Some node) → Going d node nodes nb0 lb0 nb lb kids 0
  going_start a b are cn cl = record {
    nodes_only = a;
    leaves_only = b;
    row = λ leaves k g x y m m2 h p.
        row_same k d nodes leaves (kid_at nodes.cells (Some node)) (left_of kids 0) (slot d g) (left_answers d g 0) (nb.replaced ++ x) (lb.replaced ++ y) m m2 (λ u l. left_kid kids 0 u (omega arith) ∙ are u l) (λ u l. left_answer d g 0 u (omega arith))
        (subst (λ (z : List Array). Row k nodes leaves (kid_at nodes.cells (Some node)) d (slot d g) (z ++ x) (lb.replaced ++ y) m m2) (sym cn)
        (subst (λ (z : List Array). Row k nodes leaves (kid_at nodes.cells (Some node)) d (slot d g) ((nb0.replaced ++ children_of (Some node)) ++ x) (z ++ y) m m2) (sym cl)
        (opened k nodes leaves d g nb0.replaced lb0.replaced x y m m2 (Some node) p)));
  }

  module _ (v : ℕ) (low : v < 64) (w : Going d node nodes nb0 lb0 nb lb kids v) (nb2 lb2 : Held) where
    step : (leaves : Space ℕ) (k : ℕ) (g : List Bool → ℕ) (x y : List Array) (m m2 : ℕ) →
        ((xs ys : List Array) (s t : ℕ) → Part k nodes leaves (kid_in kids v) (d - 6) (slot d g v) (nb.replaced ++ xs) (lb.replaced ++ ys) s t → Part k nodes leaves None (d - 6) (λ a. 0) (nb2.replaced ++ xs) (lb2.replaced ++ ys) s t) → Row k nodes leaves (left_of kids v) d (left_answers d g v) (nb.replaced ++ x) (lb.replaced ++ y) m m2 → Row k nodes leaves (left_of kids (v + 1)) d (left_answers d g (v + 1)) (nb2.replaced ++ x) (lb2.replaced ++ y) m m2
    step leaves k g x y m m2 change row =
        row_next k d v low nodes nodes leaves leaves (left_of kids v) (left_of kids (v + 1)) (left_answers d g v) (left_answers d g (v + 1)) nb.replaced lb.replaced nb2.replaced lb2.replaced x y m m2
        (λ u l ne. elim (cases_lt u v) [
          | inl h ↦ gone_kid kids (v + 1) u (omega (arith, h)) ∙ sym (gone_kid kids v u h)
          | inr h ↦ left_kid kids (v + 1) u (omega (arith, h, ne)) ∙ sym (left_kid kids v u h)
        ])
        (λ u l ne. elim (cases_lt u v) [
          | inl h ↦ gone_answer d g (v + 1) u (omega (arith, h)) ∙ sym (gone_answer d g v u h)
          | inr h ↦ left_answer d g (v + 1) u (omega (arith, h, ne)) ∙ sym (left_answer d g v u h)
        ])
        (keeps_self blank nodes) (keeps_self 0 leaves)
        (λ xs ys s t q.
        subst (λ (z : Option Node). Part k nodes leaves z (d - 6) (left_answers d g (v + 1) v) (nb2.replaced ++ xs) (lb2.replaced ++ ys) s t) (sym (gone_kid kids (v + 1) v (omega arith)))
        (subst (λ (a : List Bool → ℕ). Part k nodes leaves None (d - 6) a (nb2.replaced ++ xs) (lb2.replaced ++ ys) s t) (sym (gone_answer d g (v + 1) v (omega arith)))
        (change xs ys s t
        (subst (λ (z : Option Node). Part k nodes leaves z (d - 6) (slot d g v) (nb.replaced ++ xs) (lb.replaced ++ ys) s t) (left_kid kids v v (omega arith))
        (subst (λ (a : List Bool → ℕ). Part k nodes leaves (left_of kids v v) (d - 6) a (nb.replaced ++ xs) (lb.replaced ++ ys) s t) (left_answer d g v v (omega arith)) q)))))
        row

    -- a child is put aside
    pub going_child : (child : Node) → kid_in kids v ≡ Some child → OnlyAside nb nb2 → OnlyAside lb lb2 → ((leaves : Space ℕ) (f : List Bool → ℕ) (h : ℕ) → one_answer (d - 6) f ≡ Some h → Replaces nodes nb leaves lb (Some child) nodes nb2 leaves lb2 None (d - 6) f) → Going d node nodes nb0 lb0 nb2 lb2 kids (v + 1)
    going_child child is a b gone = record {
      nodes_only = only_then nb0 nb nb2 w.nodes_only a;
      leaves_only = only_then lb0 lb lb2 w.leaves_only b;
      row = λ leaves k g x y m m2 h p.
          step leaves k g x y m m2
          (λ xs ys s t q. gone leaves (λ a. 0) 0 (zeros_one (d - 6)) k (slot d g v) xs ys s t (omega (arith, h)) (subst (λ (z : Option Node). Part k nodes leaves z (d - 6) (slot d g v) (nb.replaced ++ xs) (lb.replaced ++ ys) s t) is q))
          (w.row leaves k g x y m m2 h p);
    }

  -- there is none
  pub going_none : (v : ℕ) → v < 64 → kid_in kids v ≡ None → Going d node nodes nb0 lb0 nb lb kids v → Going d node nodes nb0 lb0 nb lb kids (v + 1)
  going_none v low is w = record {
    nodes_only = w.nodes_only;
    leaves_only = w.leaves_only;
    row = λ leaves k g x y m m2 h p.
        step v low w nb lb leaves k g x y m m2
        (λ xs ys s t q. uniform_part leaves k (slot d g v) (λ a. 0) 0 (nb.replaced ++ xs) (lb.replaced ++ ys) s t (zeros_one (d - 6)) (subst (λ (z : Option Node). Part k nodes leaves z (d - 6) (slot d g v) (nb.replaced ++ xs) (lb.replaced ++ ys) s t) is q))
        (w.row leaves k g x y m m2 h p);
  }
    where
      uniform_part : (leaves : Space ℕ) (k : ℕ) (g f : List Bool → ℕ) (h : ℕ) (x y : List Array) (s t : ℕ) → one_answer (d - 6) f ≡ Some h → Part k nodes leaves None (d - 6) g x y s t → Part k nodes leaves None (d - 6) f x y s t
      uniform_part leaves k g f h x y s t e q = record {
        stands = (h, e);
        nodes_apart = q.nodes_apart;
        leaves_apart = q.leaves_apart;
        nodes_fill = omega (arith, q.nodes_fill, no_nodes k (d - 6) q.stands.0 g q.stands.1, no_nodes k (d - 6) h f e);
        leaves_fill = omega (arith, q.leaves_fill, no_leaves k (d - 6) q.stands.0 g q.stands.1, no_leaves k (d - 6) h f e);
      }

  -- all are done
  pub going_end : (v : ℕ) → 64 ≤ v → Going d node nodes nb0 lb0 nb lb kids v → (leaves : Space ℕ) (f : List Bool → ℕ) (h : ℕ) → one_answer d f ≡ Some h → Replaces nodes nb0 leaves lb0 (Some node) nodes nb leaves lb None d f
  unfolding StandsIn
  going_end v past w leaves f h e zero g x y m m2 few p = absurd p.stands
  going_end v past w leaves f h e (suc k) g x y m m2 few p =
      let row = w.row leaves k g x y m m2 few p in record {
        stands = (h, e);
        nodes_apart = subst (λ (z : List Array). AreApart (is_out nodes.free) (z ++ (nb.replaced ++ x))) (gather_none _ 64 (λ u l. ap (kid_arrays k nodes.cells) (gone_kid kids v u (omega (arith, l, past))))) row.nodes_apart;
        leaves_apart = subst (λ (z : List Array). AreApart (is_out leaves.free) (z ++ (lb.replaced ++ y))) (gather_none _ 64 (λ u l. ap (kid_leaf_arrays k nodes.cells) (gone_kid kids v u (omega (arith, l, past))))) row.leaves_apart;
        nodes_fill =
            let t = total_none (λ u. need_nodes k (d - 6) (left_answers d g v u)) 64 (λ u l. ap (need_nodes k (d - 6)) (gone_answer d g v u (omega (arith, l, past))) ∙ no_nodes k (d - 6) 0 (λ a. 0) (zeros_one (d - 6))) in
            omega (arith, row.nodes_fill, t, no_nodes (suc k) d h f e);
        leaves_fill =
            let t = total_none (λ u. need_leaves k (d - 6) (left_answers d g v u)) 64 (λ u l. ap (need_leaves k (d - 6)) (gone_answer d g v u (omega (arith, l, past))) ∙ no_leaves k (d - 6) 0 (λ a. 0) (zeros_one (d - 6))) in
            omega (arith, row.leaves_fill, t, no_leaves (suc k) d h f e);
      }

-- what a child's own place asks
pub child_less : (nodes : Space Node) (leaves : Space ℕ) (node child : Node) (d v : ℕ) → v < 64 → IsKid nodes leaves (Some node) d → kid_at nodes.cells (Some node) v ≡ Some child → (0 < d - 6) × IsKid nodes leaves (Some child) (d - 6)
unfolding StandsIn
child_less nodes leaves node child d v l (zero, g, s) e = absurd s
child_less nodes leaves node child d v l (suc k, g, s) e =
    let t = subst (λ (z : Option Node). StandsAs k nodes.cells (is_out nodes.free) leaves.cells (is_out leaves.free) z (d - 6) (slot d g v)) e (kid_stands k nodes.cells (is_out nodes.free) leaves.cells (is_out leaves.free) (Some node) d g v l s) in
    (some_bits k t, (k, slot d g v, t))
  where
    some_bits : (j : ℕ) → StandsIn j nodes.cells (is_out nodes.free) leaves.cells (is_out leaves.free) child (d - 6) (slot d g v) → 0 < d - 6
    some_bits zero q = absurd q
    some_bits (suc j) q = mixed_bits (d - 6) (slot d g v) q.0
