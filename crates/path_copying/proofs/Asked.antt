-- What a node that is made anew has asked for, slot by slot.
use Rattle.std.proofs.Common.{◌≡◌, ℕ, zero, suc, ◌+◌, ◌-◌, ◌*◌, ◌<◌, ◌≤◌, List, ◌++◌, Bool, true, false, Option, Some, None, get_or, set, sym, ap, ◌∙◌, arith, subst}
use Rattle.std.proofs.lemmas.List.{get_or-set_other, append-nil, append_assoc}
use Rattle.buddy_arena.specs.Space.{Space}
use Rattle.buddy_arena.specs.Places.{Keeps, is_out}
use Rattle.buddy_arena.specs.Refusals.{IsRefusal}
use Rattle.buddy_arena.specs.declared.blocks.Refused.{Refused}
use Rattle.fib_addr.specs.Answers.{one_answer}
use Rattle.fib_addr.proofs.OneAnswer.{mixed_bits}
use Rattle.poptrie_build.specs.Strides.{slots, slot}
use Rattle.poptrie_build.specs.Need.{children, runs}
use Rattle.poptrie_build.specs.Stands.{blank}
use Rattle.poptrie_build.specs.declared.node.Node.{Node}
use Rattle.path_copying.specs.declared.blocks.Refusal.{Refusal}
use Rattle.path_copying.specs.Kids.{StandsAs, kid_at, kid_in}
use Rattle.path_copying.specs.Asks.{Ask, Frees, ask_for, alike, lists_of, asks, MeetsCount, MeetsInTurn, IsOutOfBlocks, MeetsAll, MeetsNotAll, MeetsChanged, MeetsNotChanged, nodes_refusal, leaves_refusal}
use Rattle.path_copying.proofs.Asking.{none_alike, none_uniform, alike_yes, alike_false, asks_are, runs_append, runs_none, is_out_behind, is_out_before, nodes_met, leaves_met, nodes_out, leaves_out, listed_split}
use Rattle.path_copying.specs.Alike.{SameAnswers}
use Rattle.poptrie_build.specs.Build.{StandsIn}
use Rattle.path_copying.proofs.Agree.{one_alike}
use Rattle.path_copying.proofs.Opened.{kid_stands}
use Rattle.path_copying.proofs.Row.{stands_kept}

-- what the slots ask for
abbrev pub slot_asks : ℕ → ℕ → (List Bool → ℕ) → (List Bool → ℕ) → ℕ → List Ask
slot_asks k d f g u = asks k (d - 6) (slot d f u) (slot d g u)

-- the asks of the node itself and of the slots below v were met, and the children from v on are the old ones
pub record Asked (d : ℕ) (f : List Bool → ℕ) (c e : ℕ) (was : Option Node) (n0 : Space Node) (l0 : Space ℕ) (n : Space Node) (l : Space ℕ) (kids : List (Option Node)) (v : ℕ) : Type 0 where
  pub node_order : n.order ≡ n0.order
  pub leaf_order : l.order ≡ l0.order
  pub rest : (k : ℕ) (g : List Bool → ℕ) → StandsAs (suc k) n0.cells (is_out n0.free) l0.cells (is_out l0.free) was d g → (u : ℕ) → v ≤ u → u < 64 → StandsAs k n.cells (is_out n.free) l.cells (is_out l.free) (kid_in kids u) (d - 6) (slot d g u)
  pub met : (k : ℕ) (g : List Bool → ℕ) → d ≤ 6 * suc k → StandsAs (suc k) n0.cells (is_out n0.free) l0.cells (is_out l0.free) was d g → MeetsInTurn n0.order l0.order ((ask_for 0 c ++ ask_for 1 e) ++ lists_of (slot_asks k d f g) v) (n0.free, l0.free) (n.free, l.free)

module _ (d : ℕ) (f : List Bool → ℕ) (c e : ℕ) (was : Option Node) (n0 : Space Node) (l0 : Space ℕ) where
  pub asked_start : (n1 : Space Node) (l1 : Space ℕ) (kids : List (Option Node)) → ((u : ℕ) → u < 64 → kid_in kids u ≡ kid_at n0.cells was u) → Keeps blank n0.cells (is_out n0.free) n1.cells (is_out n1.free) → Keeps 0 l0.cells (is_out l0.free) l1.cells (is_out l1.free) → n1.order ≡ n0.order → l1.order ≡ l0.order →
      MeetsCount c n0.order n0.free n1.free → MeetsCount e l0.order l0.free l1.free → Asked d f c e was n0 l0 n1 l1 kids 0
  unfolding lists_of
  asked_start n1 l1 kids are a b on ol mn ml = record {
    node_order = on;
    leaf_order = ol;
    rest = λ k g s u lo hi.
        stands_kept k n0 n1 l0 l1 (kid_in kids u) (d - 6) (slot d g u) a b
        (subst (λ (x : Option Node). StandsAs k n0.cells (is_out n0.free) l0.cells (is_out l0.free) x (d - 6) (slot d g u)) (sym (are u hi)) (kid_stands k n0.cells (is_out n0.free) l0.cells (is_out l0.free) was d g u hi s));
    met = λ k g h s.
        subst (λ (x : List Ask). MeetsInTurn n0.order l0.order x (n0.free, l0.free) (n1.free, l1.free)) (sym (append-nil (ask_for 0 c ++ ask_for 1 e)))
        (runs_append n0.order l0.order (ask_for 0 c) (ask_for 1 e) (n0.free, l0.free) (n1.free, l0.free) (n1.free, l1.free) (nodes_met n0.order l0.order c n0.free n1.free l0.free mn) (leaves_met n0.order l0.order e l0.free l1.free n1.free ml));
  }

  module _ (n : Space Node) (l : Space ℕ) (kids : List (Option Node)) (v : ℕ) where
    at_orders : (xs : List Ask) (s t : Frees) → n.order ≡ n0.order → l.order ≡ l0.order → MeetsInTurn n.order l.order xs s t → MeetsInTurn n0.order l0.order xs s t
    at_orders xs s t a b r = subst (λ (i : ℕ). MeetsInTurn i l0.order xs s t) a (subst (λ (i : ℕ). MeetsInTurn n.order i xs s t) b r)

    pub asked_next : (kids2 : List (Option Node)) (kid : Option Node) (n2 : Space Node) (l2 : Space ℕ) → v < 64 → kids2 ≡ set kids v kid → Keeps blank n.cells (is_out n.free) n2.cells (is_out n2.free) → Keeps 0 l.cells (is_out l.free) l2.cells (is_out l2.free) → n2.order ≡ n.order → l2.order ≡ l.order →
        MeetsAll n l (kid_in kids v) n2 l2 (d - 6) (slot d f v) → Asked d f c e was n0 l0 n l kids v → Asked d f c e was n0 l0 n2 l2 kids2 (v + 1)
    unfolding lists_of
    asked_next kids2 kid n2 l2 low is a b on ol m w = record {
      node_order = on ∙ w.node_order;
      leaf_order = ol ∙ w.leaf_order;
      rest = λ k g s u lo hi.
          subst (λ (x : Option Node). StandsAs k n2.cells (is_out n2.free) l2.cells (is_out l2.free) x (d - 6) (slot d g u)) (sym (ap (λ x. get_or x u None) is ∙ get_or-set_other kids v u kid None (λ q. absurd (omega (arith, lo, q)))))
          (stands_kept k n n2 l l2 (kid_in kids u) (d - 6) (slot d g u) a b (w.rest k g s u (omega (arith, lo)) hi));
      met = λ k g h s.
          let more : v + 1 ≡ suc v = omega arith in
          let here = at_orders (slot_asks k d f g v) (n.free, l.free) (n2.free, l2.free) w.node_order w.leaf_order (m k (slot d g v) (omega (arith, h)) (w.rest k g s v (omega arith) low)) in
          subst (λ (i : ℕ). MeetsInTurn n0.order l0.order ((ask_for 0 c ++ ask_for 1 e) ++ lists_of (slot_asks k d f g) i) (n0.free, l0.free) (n2.free, l2.free)) (sym more)
          (subst (λ (x : List Ask). MeetsInTurn n0.order l0.order x (n0.free, l0.free) (n2.free, l2.free)) (append_assoc (ask_for 0 c ++ ask_for 1 e) (lists_of (slot_asks k d f g) v) (slot_asks k d f g v))
          (runs_append n0.order l0.order ((ask_for 0 c ++ ask_for 1 e) ++ lists_of (slot_asks k d f g) v) (slot_asks k d f g v) (n0.free, l0.free) (n.free, l.free) (n2.free, l2.free) (w.met k g h s) here));
    }

    -- all of them
    pub asked_end : (n2 : Space Node) (l2 : Space ℕ) → v ≤ 64 → 64 ≤ v → one_answer d f ≡ None → c ≡ children (slots d f) → e ≡ runs (slots d f) → n2.free ≡ n.free → l2.free ≡ l.free → Asked d f c e was n0 l0 n l kids v → MeetsChanged n0 l0 was n2 l2 d f
    asked_end n2 l2 hi lo none ec ee nf lf w zero g h s al = absurd (let b = mixed_bits d f none in omega (arith, b, h))
    asked_end n2 l2 hi lo none ec ee nf lf w (suc k) g h s al =
        let v64 : v ≡ 64 = omega (arith, hi, lo) in
        subst (λ (x : List Ask). MeetsInTurn n0.order l0.order x (n0.free, l0.free) (n2.free, l2.free)) (sym (asks_are k d f g al none))
        (subst (λ (x : List Bool). MeetsInTurn n0.order l0.order ((ask_for 0 (children (slots d f)) ++ ask_for 1 (runs (slots d f))) ++ lists_of (slot_asks k d f g) 64) (n0.free, l0.free) (x, l2.free)) (sym nf)
        (subst (λ (x : List Bool). MeetsInTurn n0.order l0.order ((ask_for 0 (children (slots d f)) ++ ask_for 1 (runs (slots d f))) ++ lists_of (slot_asks k d f g) 64) (n0.free, l0.free) (n.free, x)) (sym lf)
        (subst (λ (i : ℕ). MeetsInTurn n0.order l0.order ((ask_for 0 i ++ ask_for 1 (runs (slots d f))) ++ lists_of (slot_asks k d f g) 64) (n0.free, l0.free) (n.free, l.free)) ec
        (subst (λ (i : ℕ). MeetsInTurn n0.order l0.order ((ask_for 0 c ++ ask_for 1 i) ++ lists_of (slot_asks k d f g) 64) (n0.free, l0.free) (n.free, l.free)) ee
        (subst (λ (i : ℕ). MeetsInTurn n0.order l0.order ((ask_for 0 c ++ ask_for 1 e) ++ lists_of (slot_asks k d f g) i) (n0.free, l0.free) (n.free, l.free)) v64 (w.met k g h s))))))

    -- a slot is refused
    pub asked_out : (r : Refusal) → v < 64 → one_answer d f ≡ None → c ≡ children (slots d f) → e ≡ runs (slots d f) → MeetsNotAll n l (kid_in kids v) (d - 6) (slot d f v) r → Asked d f c e was n0 l0 n l kids v → MeetsNotChanged n0 l0 was d f r
    asked_out r low none ec ee m w zero g h s al = absurd (let b = mixed_bits d f none in omega (arith, b, h))
    asked_out r low none ec ee m w (suc k) g h s al =
        let own = ask_for 0 c ++ ask_for 1 e in
        let done = lists_of (slot_asks k d f g) v in
        let split = listed_split (slot_asks k d f g) v 64 low in
        let o = m k (slot d g v) (omega (arith, h)) (w.rest k g s v (omega arith) low) in
        let o2 = subst (λ (i : ℕ). IsOutOfBlocks i l0.order (slot_asks k d f g v) (n.free, l.free) r) w.node_order (subst (λ (i : ℕ). IsOutOfBlocks n.order i (slot_asks k d f g v) (n.free, l.free) r) w.leaf_order o) in
        let whole = is_out_behind n0.order l0.order (own ++ done) (slot_asks k d f g v ++ split.0) (n0.free, l0.free) (n.free, l.free) r (w.met k g h s) (is_out_before n0.order l0.order (slot_asks k d f g v) split.0 (n.free, l.free) r o2) in
        let same : (own ++ done) ++ (slot_asks k d f g v ++ split.0) ≡ own ++ lists_of (slot_asks k d f g) 64 = append_assoc own done (slot_asks k d f g v ++ split.0) ∙ ap (λ (x : List Ask). own ++ x) (sym split.1) in
        subst (λ (x : List Ask). IsOutOfBlocks n0.order l0.order x (n0.free, l0.free) r) (sym (asks_are k d f g al none))
        (subst (λ (i : ℕ). IsOutOfBlocks n0.order l0.order ((ask_for 0 i ++ ask_for 1 (runs (slots d f))) ++ lists_of (slot_asks k d f g) 64) (n0.free, l0.free) r) ec
        (subst (λ (i : ℕ). IsOutOfBlocks n0.order l0.order ((ask_for 0 c ++ ask_for 1 i) ++ lists_of (slot_asks k d f g) 64) (n0.free, l0.free) r) ee
        (subst (λ (x : List Ask). IsOutOfBlocks n0.order l0.order x (n0.free, l0.free) r) same whole)))

  -- its own blocks are refused
  pub children_out : (r : Refused) → one_answer d f ≡ None → c ≡ children (slots d f) → 0 < c → IsRefusal r c n0 → MeetsNotChanged n0 l0 was d f (nodes_refusal r)
  children_out r none ec some x zero g h s al = absurd (let b = mixed_bits d f none in omega (arith, b, h))
  children_out r none ec some x (suc k) g h s al =
      subst (λ (z : List Ask). IsOutOfBlocks n0.order l0.order z (n0.free, l0.free) (nodes_refusal r)) (sym (asks_are k d f g al none))
      (is_out_before n0.order l0.order (ask_for 0 (children (slots d f)) ++ ask_for 1 (runs (slots d f))) (lists_of (slot_asks k d f g) 64) (n0.free, l0.free) (nodes_refusal r)
      (is_out_before n0.order l0.order (ask_for 0 (children (slots d f))) (ask_for 1 (runs (slots d f))) (n0.free, l0.free) (nodes_refusal r)
      (subst (λ (i : ℕ). IsOutOfBlocks n0.order l0.order (ask_for 0 i) (n0.free, l0.free) (nodes_refusal r)) ec (nodes_out l0.order c n0 l0.free r some x))))

  pub leaves_refused : (n1 : Space Node) (r : Refused) → one_answer d f ≡ None → c ≡ children (slots d f) → e ≡ runs (slots d f) → MeetsCount c n0.order n0.free n1.free → 0 < e → IsRefusal r e l0 → MeetsNotChanged n0 l0 was d f (leaves_refusal r)
  leaves_refused n1 r none ec ee m some x zero g h s al = absurd (let b = mixed_bits d f none in omega (arith, b, h))
  leaves_refused n1 r none ec ee m some x (suc k) g h s al =
      subst (λ (z : List Ask). IsOutOfBlocks n0.order l0.order z (n0.free, l0.free) (leaves_refusal r)) (sym (asks_are k d f g al none))
      (is_out_before n0.order l0.order (ask_for 0 (children (slots d f)) ++ ask_for 1 (runs (slots d f))) (lists_of (slot_asks k d f g) 64) (n0.free, l0.free) (leaves_refusal r)
      (subst (λ (i : ℕ). IsOutOfBlocks n0.order l0.order (ask_for 0 i ++ ask_for 1 (runs (slots d f))) (n0.free, l0.free) (leaves_refusal r)) ec
      (subst (λ (i : ℕ). IsOutOfBlocks n0.order l0.order (ask_for 0 c ++ ask_for 1 i) (n0.free, l0.free) (leaves_refusal r)) ee
      (is_out_behind n0.order l0.order (ask_for 0 c) (ask_for 1 e) (n0.free, l0.free) (n1.free, l0.free) (leaves_refusal r) (nodes_met n0.order l0.order c n0.free n1.free l0.free m) (leaves_out n0.order e l0 n1.free r some x)))))

-- ---- a child that is shared, or is none, asks for nothing
pub meets_uniform : (n : Space Node) (l : Space ℕ) (was : Option Node) (d h : ℕ) (f : List Bool → ℕ) → one_answer d f ≡ Some h → MeetsAll n l was n l d f
meets_uniform n l was d h f e k g b s = subst (λ (x : List Ask). MeetsInTurn n.order l.order x (n.free, l.free) (n.free, l.free)) (sym (none_uniform k d h f g e)) (runs_none n.order l.order (n.free, l.free))

pub meets_same : (n : Space Node) (l : Space ℕ) (was : Option Node) (node : Node) (d b : ℕ) (f p : List Bool → ℕ) → was ≡ Some node → b ≡ d → p ≡ f → ((k : ℕ) (N L : ℕ → Bool) (g : List Bool → ℕ) → StandsIn k n.cells N l.cells L node b g → SameAnswers b p g) → MeetsAll n l was n l d f
meets_same n l was node d b f p is eb ep same k g few s =
    let t = subst (λ (z : Option Node). StandsAs k n.cells (is_out n.free) l.cells (is_out l.free) z d g) is s in
    let al : SameAnswers d f g = subst (λ (h : List Bool → ℕ). SameAnswers d h g) ep (subst (λ (i : ℕ). SameAnswers i p g) eb (same k (is_out n.free) (is_out l.free) g (subst (λ (i : ℕ). StandsIn k n.cells (is_out n.free) l.cells (is_out l.free) node i g) (sym eb) t))) in
    subst (λ (x : List Ask). MeetsInTurn n.order l.order x (n.free, l.free) (n.free, l.free)) (sym (none_alike k d f g (alike_yes d f g al))) (runs_none n.order l.order (n.free, l.free))

-- ---- one that is made anew is of a region that changes
abbrev pub Changes : Space Node → Space ℕ → Option Node → ℕ → (List Bool → ℕ) → Type 0
Changes n l was d f = (k : ℕ) (g : List Bool → ℕ) → StandsAs k n.cells (is_out n.free) l.cells (is_out l.free) was d g → alike d f g ≡ false

pub changes_node : (n : Space Node) (l : Space ℕ) (was : Option Node) (node : Node) (b : ℕ) (p : List Bool → ℕ) (r : Bool) → was ≡ Some node → ((k : ℕ) (N L : ℕ → Bool) (g : List Bool → ℕ) → StandsIn k n.cells N l.cells L node b g → SameAnswers b p g → r ≡ true) → r ≡ false → Changes n l was b p
changes_node n l was node b p r is tells e k g s =
    let t = subst (λ (z : Option Node). StandsAs k n.cells (is_out n.free) l.cells (is_out l.free) z b g) is s in
    alike_false b p g (λ al. let y : r ≡ true = tells k (is_out n.free) (is_out l.free) g t al in let z : true ≡ false = sym y ∙ e in absurd (true_false z))
  where
    true_false : true ≡ false → ⊥
    true_false q = cc

pub changes_none : (n : Space Node) (l : Space ℕ) (was : Option Node) (b : ℕ) (p : List Bool → ℕ) → was ≡ None → one_answer b p ≡ None → Changes n l was b p
changes_none n l was b p is none k g s =
    let t = subst (λ (z : Option Node). StandsAs k n.cells (is_out n.free) l.cells (is_out l.free) z b g) is s in
    alike_false b p g (λ al. absurd (none_some t.0 (sym none ∙ (one_alike b p g al ∙ t.1))))
  where
    none_some : (h : ℕ) → None ≡ Some h → ⊥
    none_some h q = cc

pub meets_copied : (n n2 : Space Node) (l l2 : Space ℕ) (x was : Option Node) (d b : ℕ) (f p : List Bool → ℕ) → x ≡ was → b ≡ d → p ≡ f → Changes n l x b p → MeetsChanged n l x n2 l2 b p → MeetsAll n l was n2 l2 d f
meets_copied n n2 l l2 x was d b f p ex eb ep ch m =
    subst (λ (z : Option Node). MeetsAll n l z n2 l2 d f) ex
    (subst (λ (h : List Bool → ℕ). MeetsAll n l x n2 l2 d h) ep
    (subst (λ (i : ℕ). MeetsAll n l x n2 l2 i p) eb (λ k g few s. m k g few s (ch k g s))))

pub refused_copied : (n : Space Node) (l : Space ℕ) (x was : Option Node) (d b : ℕ) (f p : List Bool → ℕ) (r : Refusal) → x ≡ was → b ≡ d → p ≡ f → Changes n l x b p → MeetsNotChanged n l x b p r → MeetsNotAll n l was d f r
refused_copied n l x was d b f p r ex eb ep ch m =
    subst (λ (z : Option Node). MeetsNotAll n l z d f r) ex
    (subst (λ (h : List Bool → ℕ). MeetsNotAll n l x d h r) ep
    (subst (λ (i : ℕ). MeetsNotAll n l x i p r) eb (λ k g few s. m k g few s (ch k g s))))
