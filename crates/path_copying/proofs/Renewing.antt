-- A node that is made anew, child by child.
use Rattle.std.proofs.Common.{◌≡◌, ◌≢◌, ℕ, zero, suc, ◌+◌, ◌-◌, ◌*◌, ◌<◌, ◌≤◌, List, ◌∷◌, ◌++◌, Bool, true, false, cond, Option, Some, None, length, get_or, refl, sym, ap, ◌∙◌, arith, subst, inl, inr}
use Rattle.std.specs.Prelude.{nat_lt}
use Rattle.std.proofs.Math.ListN.{set, length-set}
use Rattle.std.proofs.lemmas.List.{get_or-set_other, get_or-set_same}
use Rattle.std.proofs.lemmas.Bool.{cases_eq, cases_lt}
use Rattle.std.proofs.lemmas.Bool.Decides.{nat_tests}
use Rattle.buddy_arena.specs.Space.{Space}
use Rattle.buddy_arena.specs.Powers.{up}
use Rattle.buddy_arena.specs.Places.{TakesPlaces, count_free, is_out}
use Rattle.buddy_arena.proofs.Powers.{up_above}
use Rattle.buddy_arena.specs.Arrays.{Array}
use Rattle.buddy_arena.specs.Blocks.{Held}
use Rattle.fib_addr.specs.Answers.{one_answer}
use Rattle.fib_addr.proofs.OneAnswer.{mixed_bits}
use Rattle.poptrie_build.specs.Bits.{rank_of}
use Rattle.poptrie_build.specs.Strides.{slots, slot}
use Rattle.poptrie_build.specs.Need.{children, runs}
use Rattle.poptrie_build.specs.Build.{StandsIn}
use Rattle.poptrie_build.specs.Making.{slot_kind}
use Rattle.poptrie_build.specs.Stands.{blank, IsCanonical, IsLeaf}
use Rattle.poptrie_build.specs.declared.node.Node.{Node}
use Rattle.path_copying.specs.Kids.{kid_at, kid_in}
use Rattle.path_copying.specs.Ways.{IsOldKid, IsOldSlot}
use Rattle.path_copying.specs.Changes.{Gains, Part, Replaces}
use Rattle.path_copying.specs.Written.{Matches, AreMatched, IsBlockOut, WritesCells}
use Rattle.path_copying.specs.Aside.{children_of, leaves_of}
use Rattle.path_copying.proofs.Finished.{row_taken, finished}
use Rattle.path_copying.proofs.Gaining.{gains_none, only_none}
use Rattle.path_copying.proofs.Opened.{kid_stands, opened}
use Rattle.path_copying.proofs.Row.{Row, stands_kept, row_next, row_same}

-- the answers of the slots: the new ones below v, and the old ones from v on
abbrev pub mix : ℕ → (List Bool → ℕ) → (List Bool → ℕ) → ℕ → ℕ → List Bool → ℕ
mix d f g v u = cond (nat_lt u v) (slot d f u) (slot d g u)

lt_true : (u v : ℕ) → u < v → nat_lt u v ≡ true
lt_true u v l = grind (arith, nat_tests)

lt_false : (u v : ℕ) → v ≤ u → nat_lt u v ≡ false
lt_false u v l = grind (arith, nat_tests)

pub mix_new : (d : ℕ) (f g : List Bool → ℕ) (v u : ℕ) → u < v → mix d f g v u ≡ slot d f u
mix_new d f g v u l = ap (λ b. let r : List Bool → ℕ = cond b (slot d f u) (slot d g u) in r) (lt_true u v l)

pub mix_old : (d : ℕ) (f g : List Bool → ℕ) (v u : ℕ) → v ≤ u → mix d f g v u ≡ slot d g u
mix_old d f g v u l = ap (λ b. let r : List Bool → ℕ = cond b (slot d f u) (slot d g u) in r) (lt_false u v l)

mix_same : (d : ℕ) (f g : List Bool → ℕ) (v u : ℕ) → u ≢ v → mix d f g (v + 1) u ≡ mix d f g v u
mix_same d f g v u ne =
    elim (cases_lt u v) [
      | inl l ↦ mix_new d f g (v + 1) u (omega (arith, l)) ∙ sym (mix_new d f g v u l)
      | inr l ↦ mix_old d f g (v + 1) u (omega (arith, l, ne)) ∙ sym (mix_old d f g v u l)
    ]

-- the slots below v are done: nodes, leaves and their blocks as they were at first, when the node's own blocks were out, and now
pub record Copying (d : ℕ) (p : List Bool) (f : List Bool → ℕ) (kinds : List (Option ℕ)) (old : Option Node) (n0 : Space Node) (nb0 : Held) (l0 : Space ℕ) (lb0 : Held) (n1 : Space Node) (nb1 : Held) (l1 : Space ℕ) (lb1 : Held) (n : Space Node) (nb : Held) (l : Space ℕ) (lb : Held) (kids : List (Option Node)) (base1 c base0 e v : ℕ) : Type 0 where
  pub long : length kids ≡ 64
  pub nodes : Gains blank n1 nb1 n nb
  pub leaves : Gains 0 l1 lb1 l lb
  pub rest : (u : ℕ) → v ≤ u → u < 64 → IsOldSlot n l (kid_in kids u) u p d f
  pub matched : (u : ℕ) → u < v → Matches (slot_kind kinds u) (kid_in kids u)
  pub row : (k : ℕ) (g : List Bool → ℕ) (x y : List Array) (m m2 : ℕ) → d ≤ 6 * suc k → Part (suc k) n0 l0 old d g (nb0.replaced ++ x) (lb0.replaced ++ y) m m2 → Row k n l (kid_in kids) d (mix d f g v) (nb.replaced ++ ((base1, up c) ∷ x)) (lb.replaced ++ ((base0, up e) ∷ y)) m m2

module _ (d : ℕ) (p : List Bool) (f : List Bool → ℕ) (kinds : List (Option ℕ)) (old : Option Node) (n0 : Space Node) (nb0 : Held) (l0 : Space ℕ) (lb0 : Held) (n1 : Space Node) (nb1 : Held) (l1 : Space ℕ) (lb1 : Held) (n : Space Node) (nb : Held) (l : Space ℕ) (lb : Held) (kids kids2 : List (Option Node)) (base1 c base0 e v : ℕ) (n2 : Space Node) (nb2 : Held) (l2 : Space ℕ) (lb2 : Held) (kid : Option Node) where
  pub copying_next : v < 64 → kids2 ≡ set kids v kid → Gains blank n1 nb1 n2 nb2 → Gains 0 l1 lb1 l2 lb2 → Gains blank n nb n2 nb2 → Gains 0 l lb l2 lb2 → Matches (slot_kind kinds v) kid → Replaces n nb l lb (kid_in kids v) n2 nb2 l2 lb2 kid (d - 6) (slot d f v) →
      Copying d p f kinds old n0 nb0 l0 lb0 n1 nb1 l1 lb1 n nb l lb kids base1 c base0 e v → Copying d p f kinds old n0 nb0 l0 lb0 n1 nb1 l1 lb1 n2 nb2 l2 lb2 kids2 base1 c base0 e (v + 1)
  copying_next low is gn gl an al ma re w = record {
    long = ap length is ∙ (length-set kids v kid ∙ w.long);
    nodes = gn;
    leaves = gl;
    rest = λ u a b.
        let k = w.rest u (omega (arith, a)) b in
        subst (λ (x : Option Node). IsOldSlot n2 l2 x u p d f) (sym (other u (omega (arith, a)))) (k.0, k.1, stands_kept k.0 n n2 l l2 (kid_in kids u) (d - 6) (slot d k.1 u) an.keeps al.keeps k.2, k.3);
    matched = λ u a. elim (cases_eq u v) [
      | inl q ↦ subst (λ (y : ℕ). Matches (slot_kind kinds y) (kid_in kids2 y)) (sym q) (subst (λ (x : Option Node). Matches (slot_kind kinds v) x) (sym here) ma)
      | inr ne ↦ subst (λ (x : Option Node). Matches (slot_kind kinds u) x) (sym (other u ne)) (w.matched u (omega (arith, a, ne)))
    ];
    row = λ k g x y m m2 h p.
        row_next k d v low n n2 l l2 (kid_in kids) (kid_in kids2) (mix d f g v) (mix d f g (v + 1)) nb.replaced lb.replaced nb2.replaced lb2.replaced ((base1, up c) ∷ x) ((base0, up e) ∷ y) m m2
        (λ u b ne. other u ne) (λ u b ne. mix_same d f g v u ne) an.keeps al.keeps
        (λ xs ys s t q. changed k g xs ys s t (omega (arith, h)) q) (w.row k g x y m m2 h p);
  }
    where
      here : kid_in kids2 v ≡ kid
      here = ap (λ x. get_or x v None) is ∙ get_or-set_same kids v kid None (omega (arith, low, w.long))

      other : (u : ℕ) → u ≢ v → kid_in kids2 u ≡ kid_in kids u
      other u ne = ap (λ x. get_or x u None) is ∙ get_or-set_other kids v u kid None ne

      changed : (k : ℕ) (g : List Bool → ℕ) (xs ys : List Array) (s t : ℕ) → d - 6 ≤ 6 * k → Part k n l (kid_in kids v) (d - 6) (mix d f g v v) (nb.replaced ++ xs) (lb.replaced ++ ys) s t → Part k n2 l2 (kid_in kids2 v) (d - 6) (mix d f g (v + 1) v) (nb2.replaced ++ xs) (lb2.replaced ++ ys) s t
      changed k g xs ys s t h q =
          subst (λ (z : Option Node). Part k n2 l2 z (d - 6) (mix d f g (v + 1) v) (nb2.replaced ++ xs) (lb2.replaced ++ ys) s t) (sym here)
          (subst (λ (a : List Bool → ℕ). Part k n2 l2 kid (d - 6) a (nb2.replaced ++ xs) (lb2.replaced ++ ys) s t) (sym (mix_new d f g (v + 1) v (omega arith))) (re k (mix d f g v v) xs ys s t h q))

-- ---- at first
pub kid_there : (n : Space Node) (l : Space ℕ) (was : Option Node) (v : ℕ) (p : List Bool) (d : ℕ) (f : List Bool → ℕ) → v < 64 → IsOldKid n l was p d f → IsOldSlot n l (kid_at n.cells was v) v p d f
unfolding StandsIn
kid_there n l None v p d f low (k, g, s, h) = (k, g, kid_stands k n.cells (is_out n.free) l.cells (is_out l.free) None d g v low s, h)
kid_there n l (Some x) v p d f low (zero, g, s, h) = absurd s
kid_there n l (Some x) v p d f low (suc k, g, s, h) = (k, g, kid_stands k n.cells (is_out n.free) l.cells (is_out l.free) (Some x) d g v low s, h)

module _ (d : ℕ) (p : List Bool) (f : List Bool → ℕ) (kinds : List (Option ℕ)) (was : Option Node) (n0 : Space Node) (nb0 : Held) (l0 : Space ℕ) (lb0 nba lba : Held) (n1 : Space Node) (nb1 : Held) (l1 : Space ℕ) (lb1 : Held) (kids : List (Option Node)) (base1 c base0 e : ℕ) where
  pub copying_start : length kids ≡ 64 → IsOldKid n0 l0 was p d f → ((u : ℕ) → u < 64 → kid_in kids u ≡ kid_at n0.cells was u) → nba.replaced ≡ nb0.replaced ++ children_of was → lba.replaced ≡ lb0.replaced ++ leaves_of was → Gains blank n0 nba n1 nb1 → Gains 0 l0 lba l1 lb1 → nb1.replaced ≡ nba.replaced → lb1.replaced ≡ lba.replaced → n1.cells ≡ n0.cells →
      TakesPlaces base1 (up c) (is_out n0.free) (is_out n1.free) (length n1.cells) → TakesPlaces base0 (up e) (is_out l0.free) (is_out l1.free) (length l1.cells) → (q : ℕ) × (base1 ≡ q * up c) → (q : ℕ) × (base0 ≡ q * up e) → count_free n1 + up c ≡ count_free n0 → count_free l1 + up e ≡ count_free l0 →
      Copying d p f kinds was n0 nb0 l0 lb0 n1 nb1 l1 lb1 n1 nb1 l1 lb1 kids base1 c base0 e 0
  copying_start long there are ra rl gn gl rn rm cells tn tl qn ql fn fl = record {
    long = long;
    nodes = gains_none blank n1 nb1 nb1 gn.sized (only_none nb1);
    leaves = gains_none 0 l1 lb1 lb1 gl.sized (only_none lb1);
    rest = λ u a b.
        let k = subst (λ (x : Option Node). IsOldSlot n0 l0 x u p d f) (sym (are u b)) (kid_there n0 l0 was u p d f b there) in
        (k.0, k.1, stands_kept k.0 n0 n1 l0 l1 (kid_in kids u) (d - 6) (slot d k.1 u) gn.keeps gl.keeps k.2, k.3);
    matched = λ u a. absurd (omega (arith, a));
    row = λ k g x y m m2 h p.
        row_same k d n1 l1 (kid_at n0.cells was) (kid_in kids) (slot d g) (mix d f g 0) (nb1.replaced ++ ((base1, up c) ∷ x)) (lb1.replaced ++ ((base0, up e) ∷ y)) m m2 are (λ u b. mix_old d f g 0 u (omega arith))
        (row_taken k d n0 n1 l0 l1 (kid_at n0.cells was) (slot d g) nb1.replaced lb1.replaced x y m m2 base1 base0 c e gn.keeps gl.keeps cells tn tl qn ql fn fl
        (subst (λ (z : List Array). Row k n0 l0 (kid_at n0.cells was) d (slot d g) (z ++ x) (lb1.replaced ++ y) m m2) (sym (rn ∙ ra))
        (subst (λ (z : List Array). Row k n0 l0 (kid_at n0.cells was) d (slot d g) ((nb0.replaced ++ children_of was) ++ x) (z ++ y) m m2) (sym (rm ∙ rl))
        (opened k n0 l0 d g nb0.replaced lb0.replaced x y m m2 was p))));
  }

-- ---- in the end
pub block_out : {T : Type 0} (e : T) (n1 n : Space T) (nb1 nb : Held) (base c k : ℕ) (old : ℕ → Bool) → TakesPlaces base (up c) old (is_out n1.free) (length n1.cells) → Gains e n1 nb1 n nb → c ≡ k → IsBlockOut base k n
block_out e n1 n nb1 nb base c k old t g q i l =
    let u = up_above c in
    (g.keeps.still (base + i) (t.are i (omega (arith, l, q, u))), omega (arith, t.within, g.keeps.long, l, q, u))

module _ (d : ℕ) (p : List Bool) (f : List Bool → ℕ) (kinds : List (Option ℕ)) (was : Option Node) (n0 : Space Node) (nb0 : Held) (l0 : Space ℕ) (lb0 : Held) (n1 : Space Node) (nb1 : Held) (l1 : Space ℕ) (lb1 : Held) (n : Space Node) (nb : Held) (l : Space ℕ) (lb : Held) (kids : List (Option Node)) (base1 c base0 e v vector leafvec : ℕ) (n2 : Space Node) (l2 : Space ℕ) where
  pub copying_end : 64 ≤ v → one_answer d f ≡ None → ((u : ℕ) → u < 64 → slot_kind kinds u ≡ slots d f u) → IsCanonical vector leafvec (slots d f) → c ≡ children (slot_kind kinds) → c ≡ children (slots d f) → e ≡ runs (slot_kind kinds) → e ≡ runs (slots d f) →
      WritesCells blank base1 (children (slot_kind kinds)) n n2 → WritesCells 0 base0 (runs (slot_kind kinds)) l l2 → ((u : ℕ) → u < 64 → kid_at n2.cells (Some (record { vector = vector; leafvec = leafvec; base0 = base0; base1 = base1 })) u ≡ kid_in kids u) →
      ((u h : ℕ) → u < 64 → slot_kind kinds u ≡ Some h → IsLeaf l2.cells (base0 + rank_of leafvec (u + 1) - 1) h) → IsBlockOut base1 (children (slot_kind kinds)) n →
      Copying d p f kinds was n0 nb0 l0 lb0 n1 nb1 l1 lb1 n nb l lb kids base1 c base0 e v → Replaces n0 nb0 l0 lb0 was n2 nb l2 lb (Some (record { vector = vector; leafvec = leafvec; base0 = base0; base1 = base1 })) d f
  copying_end past none agree can ck cs ek es wn wl at leaf out w zero g x y m m2 h p = absurd (let b = mixed_bits d f none in omega (arith, b, h))
  copying_end past none agree can ck cs ek es wn wl at leaf out w (suc k) g x y m m2 h p =
      let row = row_same k d n l (kid_in kids) (kid_in kids) (mix d f g v) (slot d f) (nb.replaced ++ ((base1, up c) ∷ x)) (lb.replaced ++ ((base0, up e) ∷ y)) m m2 (λ u b. refl) (λ u b. sym (mix_new d f g v u (omega (arith, b, past)))) (w.row k g x y m m2 h p) in
      finished k d f n n2 l l2 (kid_in kids) nb.replaced lb.replaced x y m m2 base1 base0 vector leafvec none can
      (subst (λ (z : ℕ). WritesCells blank base1 z n n2) (sym ck ∙ cs) wn)
      (subst (λ (z : ℕ). WritesCells 0 base0 z l l2) (sym ek ∙ es) wl)
      at
      (λ u a b q. leaf u a b (agree u b ∙ q))
      (λ i b. (out i (omega (arith, b, ck, cs))).1)
      (subst (λ (z : ℕ). Row k n l (kid_in kids) d (slot d f) (nb.replaced ++ ((base1, up z) ∷ x)) (lb.replaced ++ ((base0, up (runs (slots d f))) ∷ y)) m m2) cs
      (subst (λ (z : ℕ). Row k n l (kid_in kids) d (slot d f) (nb.replaced ++ ((base1, up c) ∷ x)) (lb.replaced ++ ((base0, up z) ∷ y)) m m2) es row))

pub all_matched : (kinds : List (Option ℕ)) (kids : List (Option Node)) (v : ℕ) → 64 ≤ v → ((u : ℕ) → u < v → Matches (slot_kind kinds u) (kid_in kids u)) → AreMatched kinds kids
all_matched kinds kids v past h u l = h u (omega (arith, l, past))
