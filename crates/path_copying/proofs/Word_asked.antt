-- What a direct word that is made anew has asked for.
use Rattle.std.proofs.Common.{◌≡◌, ℕ, zero, suc, ◌+◌, ◌^◌, ◌<◌, List, [], ◌++◌, Bool, true, false, Option, Some, None, length, refl, sym, ap, ◌∙◌, arith, subst}
use Rattle.std.specs.Prelude.{slice_index}
use Rattle.std.proofs.lemmas.List.{append-nil, append_assoc}
use Rattle.table_model.specs.Bits.{bits_of}
use Rattle.buddy_arena.specs.Space.{Space}
use Rattle.buddy_arena.specs.Places.{Keeps, is_out}
use Rattle.buddy_arena.specs.Refusals.{IsRefusal}
use Rattle.buddy_arena.specs.declared.blocks.Refused.{Refused}
use Rattle.fib_addr.specs.Answers.{one_answer, part}
use Rattle.table_model.specs.Sets.{side}
use Rattle.poptrie_build.specs.Stands.{blank, BySlot, node_at}
use Rattle.poptrie_build.specs.Build.{StandsIn, WordIn}
use Rattle.poptrie_build.specs.declared.node.Node.{Node}
use Rattle.poptrie_build.proofs.Slotting.{double, low_bits, high_bits}
use Rattle.path_copying.specs.declared.blocks.Refusal.{Refusal}
use Rattle.path_copying.specs.Alike.{SameAnswers}
use Rattle.path_copying.specs.Kids.{StandsAs}
use Rattle.path_copying.specs.Words.{node_of}
use Rattle.path_copying.specs.Asks.{Ask, ask_for, alike, lists_of, if_changed, asks, word_asks, slots_asks, MeetsCount, MeetsInTurn, IsOutOfBlocks, MeetsChanged, MeetsNotChanged, MeetsWord, MeetsNotWord, MeetsChangedWord, MeetsNotChangedWord, StandFor, MeetsSlots, MeetsNotSlots, nodes_refusal}
use Rattle.path_copying.proofs.Agree.{one_alike}
use Rattle.path_copying.proofs.Asking.{none_alike, none_uniform, alike_yes, alike_false, runs_append, runs_none, is_out_behind, is_out_before, nodes_met, nodes_out, listed_same}
use Rattle.path_copying.proofs.Row.{stands_kept}
use Rattle.path_copying.proofs.Word_copy.{node_some, node_none, lt_yes, lt_no, word_node_stands}
use Rattle.path_copying.proofs.Word_row.{word_stays}

-- ---- where nothing is asked for
word_uniform : (k d h : ℕ) (f g : List Bool → ℕ) → one_answer d f ≡ Some h → word_asks k d f g ≡ []
word_uniform k d h f g e = ap (λ o. if_changed (alike d f g) o (ask_for 0 1) ++ asks k d f g) e ∙ by (alike d f g)
  where
    by : (b : Bool) → if_changed b (Some h) (ask_for 0 1) ++ asks k d f g ≡ []
    by true = none_uniform k d h f g e
    by false = none_uniform k d h f g e

word_alike : (k d : ℕ) (f g : List Bool → ℕ) → alike d f g ≡ true → word_asks k d f g ≡ []
word_alike k d f g e = ap (λ b. if_changed b (one_answer d f) (ask_for 0 1) ++ asks k d f g) e ∙ none_alike k d f g e

word_asks_are : (k d : ℕ) (f g : List Bool → ℕ) → alike d f g ≡ false → one_answer d f ≡ None → word_asks k d f g ≡ ask_for 0 1 ++ asks k d f g
word_asks_are k d f g a o = ap (λ b. if_changed b (one_answer d f) (ask_for 0 1) ++ asks k d f g) a ∙ ap (λ x. if_changed false x (ask_for 0 1) ++ asks k d f g) o

pub word_meets_uniform : (n : Space Node) (l : Space ℕ) (w d h : ℕ) (f : List Bool → ℕ) → one_answer d f ≡ Some h → MeetsWord n l w n l d f
word_meets_uniform n l w d h f e k g few s = subst (λ (x : List Ask). MeetsInTurn n.order l.order x (n.free, l.free) (n.free, l.free)) (sym (word_uniform k d h f g e)) (runs_none n.order l.order (n.free, l.free))

pub word_meets_same : (n : Space Node) (l : Space ℕ) (w d : ℕ) (f : List Bool → ℕ) (node : Node) → node_of n.cells w ≡ Some node → ((k : ℕ) (N L : ℕ → Bool) (g : List Bool → ℕ) → StandsIn k n.cells N l.cells L node d g → SameAnswers d f g) → MeetsWord n l w n l d f
word_meets_same n l w d f node is same k g few s =
    let al = same k (is_out n.free) (is_out l.free) g (word_node_stands k n.cells (is_out n.free) l.cells (is_out l.free) w d g node is s) in
    subst (λ (x : List Ask). MeetsInTurn n.order l.order x (n.free, l.free) (n.free, l.free)) (sym (word_alike k d f g (alike_yes d f g al))) (runs_none n.order l.order (n.free, l.free))

-- ---- one that is made anew
word_as : (k : ℕ) (n : Space Node) (l : Space ℕ) (w d : ℕ) (g : List Bool → ℕ) → WordIn w k n.cells (is_out n.free) l.cells (is_out l.free) d g → StandsAs k n.cells (is_out n.free) l.cells (is_out l.free) (node_of n.cells w) d g
word_as k n l w d g s = by (one_answer d g) refl s
  where
    by : (x : Option ℕ) → one_answer d g ≡ x → BySlot x ((w < 2 ^ 31) × (is_out n.free w ≡ true) × (w < length n.cells) × StandsIn k n.cells (is_out n.free) l.cells (is_out l.free) (node_at n.cells w) d g) (λ h. (h < 2 ^ 16) × (w ≡ 2 ^ 31 + h)) → StandsAs k n.cells (is_out n.free) l.cells (is_out l.free) (node_of n.cells w) d g
    by None e t = subst (λ (z : Option Node). StandsAs k n.cells (is_out n.free) l.cells (is_out l.free) z d g) (sym (node_some n.cells w (lt_yes w t.0))) t.3
    by (Some h) e t = subst (λ (z : Option Node). StandsAs k n.cells (is_out n.free) l.cells (is_out l.free) z d g) (sym (node_none n.cells w (lt_no w h t.1))) (h, e)

module _ (n0 n1 : Space Node) (l0 : Space ℕ) (w d : ℕ) (f : List Bool → ℕ) (none : one_answer d f ≡ None) where
  pub word_met : (n2 n3 : Space Node) (l2 : Space ℕ) → MeetsCount 1 n0.order n0.free n1.free → Keeps blank n0.cells (is_out n0.free) n1.cells (is_out n1.free) → n1.order ≡ n0.order → n3.free ≡ n2.free → MeetsChanged n1 l0 (node_of n0.cells w) n2 l2 d f → MeetsChangedWord n0 l0 w n3 l2 d f
  word_met n2 n3 l2 m a o free re k g few s al =
      let below = re k g few (stands_kept k n0 n1 l0 l0 (node_of n0.cells w) d g a (record { still = λ i h. h; same = λ i h. refl; long = refl }) (word_as k n0 l0 w d g s)) al in
      subst (λ (x : List Ask). MeetsInTurn n0.order l0.order x (n0.free, l0.free) (n3.free, l2.free)) (sym (word_asks_are k d f g al none))
      (subst (λ (x : List Bool). MeetsInTurn n0.order l0.order (ask_for 0 1 ++ asks k d f g) (n0.free, l0.free) (x, l2.free)) (sym free)
      (runs_append n0.order l0.order (ask_for 0 1) (asks k d f g) (n0.free, l0.free) (n1.free, l0.free) (n2.free, l2.free) (nodes_met n0.order l0.order 1 n0.free n1.free l0.free m)
      (subst (λ (i : ℕ). MeetsInTurn i l0.order (asks k d f g) (n1.free, l0.free) (n2.free, l2.free)) o below)))

  pub word_below_refused : (e : Refusal) → MeetsCount 1 n0.order n0.free n1.free → Keeps blank n0.cells (is_out n0.free) n1.cells (is_out n1.free) → n1.order ≡ n0.order → MeetsNotChanged n1 l0 (node_of n0.cells w) d f e → MeetsNotChangedWord n0 l0 w d f e
  word_below_refused e m a o re k g few s al =
      let below = re k g few (stands_kept k n0 n1 l0 l0 (node_of n0.cells w) d g a (record { still = λ i h. h; same = λ i h. refl; long = refl }) (word_as k n0 l0 w d g s)) al in
      subst (λ (x : List Ask). IsOutOfBlocks n0.order l0.order x (n0.free, l0.free) e) (sym (word_asks_are k d f g al none))
      (is_out_behind n0.order l0.order (ask_for 0 1) (asks k d f g) (n0.free, l0.free) (n1.free, l0.free) e (nodes_met n0.order l0.order 1 n0.free n1.free l0.free m)
      (subst (λ (i : ℕ). IsOutOfBlocks i l0.order (asks k d f g) (n1.free, l0.free) e) o below))

pub word_own_refused : (n0 : Space Node) (l0 : Space ℕ) (w d : ℕ) (f : List Bool → ℕ) (r : Refused) → one_answer d f ≡ None → IsRefusal r 1 n0 → MeetsNotChangedWord n0 l0 w d f (nodes_refusal r)
word_own_refused n0 l0 w d f r none x k g few s al =
    subst (λ (z : List Ask). IsOutOfBlocks n0.order l0.order z (n0.free, l0.free) (nodes_refusal r)) (sym (word_asks_are k d f g al none))
    (is_out_before n0.order l0.order (ask_for 0 1) (asks k d f g) (n0.free, l0.free) (nodes_refusal r) (nodes_out l0.order 1 n0 l0.free r (omega arith) x))

-- ---- a word of a region that changes
abbrev pub WordChanges : Space Node → Space ℕ → ℕ → ℕ → (List Bool → ℕ) → Type 0
WordChanges n l w d f = (k : ℕ) (g : List Bool → ℕ) → WordIn w k n.cells (is_out n.free) l.cells (is_out l.free) d g → alike d f g ≡ false

pub word_changes_node : (n : Space Node) (l : Space ℕ) (w d : ℕ) (f : List Bool → ℕ) (node : Node) (r : Bool) → node_of n.cells w ≡ Some node → ((k : ℕ) (N L : ℕ → Bool) (g : List Bool → ℕ) → StandsIn k n.cells N l.cells L node d g → SameAnswers d f g → r ≡ true) → r ≡ false → WordChanges n l w d f
word_changes_node n l w d f node r is tells e k g s =
    alike_false d f g (λ al. let y : r ≡ true = tells k (is_out n.free) (is_out l.free) g (word_node_stands k n.cells (is_out n.free) l.cells (is_out l.free) w d g node is s) al in absurd (true_false (sym y ∙ e)))
  where
    true_false : true ≡ false → ⊥
    true_false q = cc

pub word_changes_none : (n : Space Node) (l : Space ℕ) (w d : ℕ) (f : List Bool → ℕ) → node_of n.cells w ≡ None → one_answer d f ≡ None → WordChanges n l w d f
word_changes_none n l w d f is none k g s =
    let t = subst (λ (z : Option Node). StandsAs k n.cells (is_out n.free) l.cells (is_out l.free) z d g) is (word_as k n l w d g s) in
    alike_false d f g (λ al. absurd (none_some t.0 (sym none ∙ (one_alike d f g al ∙ t.1))))
  where
    none_some : (h : ℕ) → None ≡ Some h → ⊥
    none_some h q = cc

-- ---- one slot, and both halves
listed_one : (g : ℕ → List Ask) → lists_of g 1 ≡ g 0
unfolding lists_of
listed_one g = refl

listed_add : (g : ℕ → List Ask) (a b : ℕ) → lists_of g (a + b) ≡ lists_of g a ++ lists_of (λ u. g (a + u)) b
unfolding lists_of
listed_add g a zero = (let e : a + zero ≡ a = omega arith in ap (lists_of g) e) ∙ sym (append-nil (lists_of g a))
listed_add g a (suc b) =
    let e : a + suc b ≡ suc (a + b) = omega arith in
    ap (lists_of g) e ∙ (ap (λ (x : List Ask). x ++ g (a + b)) (listed_add g a b) ∙ append_assoc (lists_of g a) (lists_of (λ u. g (a + u)) b) (g (a + b)))

one_slot : (k d : ℕ) (f : List Bool → ℕ) (h : ℕ → List Bool → ℕ) → slots_asks k 0 d f h ≡ word_asks k d f (h 0)
unfolding bits_of
one_slot k d f h = listed_one (λ v. word_asks k d (part (bits_of 0 v) f) (h v))

two_halves : (k j d : ℕ) (f : List Bool → ℕ) (h : ℕ → List Bool → ℕ) → slots_asks k (suc j) d f h ≡ slots_asks k j d (side false f) h ++ slots_asks k j d (side true f) (λ v. h (2 ^ j + v))
two_halves k j d f h =
    let g : ℕ → List Ask = λ v. word_asks k d (part (bits_of (suc j) v) f) (h v) in
    ap (lists_of g) (double j)
    ∙ (listed_add g (2 ^ j) (2 ^ j)
    ∙ (ap (λ (x : List Ask). x ++ lists_of (λ u. g (2 ^ j + u)) (2 ^ j)) (listed_same g (λ v. word_asks k d (part (bits_of j v) (side false f)) (h v)) (2 ^ j) (λ v l. ap (λ (p : List Bool). word_asks k d (part p f) (h v)) (low_bits j v l)))
    ∙ ap (λ (x : List Ask). slots_asks k j d (side false f) h ++ x) (listed_same (λ u. g (2 ^ j + u)) (λ v. word_asks k d (part (bits_of j v) (side true f)) (h (2 ^ j + v))) (2 ^ j) (λ v l. ap (λ (p : List Bool). word_asks k d (part p f) (h (2 ^ j + v))) (high_bits j v l)))))

pub slot_met : (n n2 : Space Node) (l l2 : Space ℕ) (words : List ℕ) (first j d e : ℕ) (f : List Bool → ℕ) → j ≡ 0 → e ≡ d → MeetsWord n l (slice_index words first) n2 l2 d f → MeetsSlots n l words n2 l2 first j e f
slot_met n n2 l l2 words first j d e f zj ed m =
    subst (λ (i : ℕ). MeetsSlots n l words n2 l2 first i e f) (sym zj)
    (subst (λ (i : ℕ). MeetsSlots n l words n2 l2 first 0 i f) (sym ed)
    (λ k h few s.
    let same : first + 0 ≡ first = omega arith in
    subst (λ (x : List Ask). MeetsInTurn n.order l.order x (n.free, l.free) (n2.free, l2.free)) (sym (one_slot k d f h))
    (m k (h 0) few (subst (λ (i : ℕ). WordIn (slice_index words i) k n.cells (is_out n.free) l.cells (is_out l.free) d (h 0)) same (s 0 (omega arith))))))

pub slot_refused : (n : Space Node) (l : Space ℕ) (words : List ℕ) (first j d e : ℕ) (f : List Bool → ℕ) (r : Refusal) → j ≡ 0 → e ≡ d → MeetsNotWord n l (slice_index words first) d f r → MeetsNotSlots n l words first j e f r
slot_refused n l words first j d e f r zj ed m =
    subst (λ (i : ℕ). MeetsNotSlots n l words first i e f r) (sym zj)
    (subst (λ (i : ℕ). MeetsNotSlots n l words first 0 i f r) (sym ed)
    (λ k h few s.
    let same : first + 0 ≡ first = omega arith in
    subst (λ (x : List Ask). IsOutOfBlocks n.order l.order x (n.free, l.free) r) (sym (one_slot k d f h))
    (m k (h 0) few (subst (λ (i : ℕ). WordIn (slice_index words i) k n.cells (is_out n.free) l.cells (is_out l.free) d (h 0)) same (s 0 (omega arith))))))

module _ (n n1 : Space Node) (l l1 : Space ℕ) (words : List ℕ) (first next i j d d1 d2 : ℕ) (f f1 f2 : List Bool → ℕ) (ei : i ≡ suc j) (en : next ≡ first + 2 ^ j) (e1 : d1 ≡ d) (e2 : d2 ≡ d) (q1 : f1 ≡ side false f) (q2 : f2 ≡ side true f) where
  low_stands : (k : ℕ) (h : ℕ → List Bool → ℕ) → StandFor k i d first n l words h → StandFor k j d1 first n l words h
  low_stands k h s v low =
      let twice = double j in
      let wide : 2 ^ i ≡ 2 ^ suc j = ap (λ (x : ℕ). 2 ^ x) ei in
      subst (λ (x : ℕ). WordIn (slice_index words (first + v)) k n.cells (is_out n.free) l.cells (is_out l.free) x (h v)) (sym e1) (s v (omega (arith, low, twice, wide)))

  high_stands : (k : ℕ) (h : ℕ → List Bool → ℕ) → Keeps blank n.cells (is_out n.free) n1.cells (is_out n1.free) → Keeps 0 l.cells (is_out l.free) l1.cells (is_out l1.free) → StandFor k i d first n l words h → StandFor k j d2 next n1 l1 words (λ v. h (2 ^ j + v))
  high_stands k h a b s v low =
      let twice = double j in
      let wide : 2 ^ i ≡ 2 ^ suc j = ap (λ (x : ℕ). 2 ^ x) ei in
      let at : first + (2 ^ j + v) ≡ next + v = omega (arith, en) in
      subst (λ (x : ℕ). WordIn (slice_index words (next + v)) k n1.cells (is_out n1.free) l1.cells (is_out l1.free) x (h (2 ^ j + v))) (sym e2)
      (subst (λ (x : ℕ). WordIn (slice_index words x) k n1.cells (is_out n1.free) l1.cells (is_out l1.free) d (h (2 ^ j + v))) at
      (word_stays k n n1 l l1 (slice_index words (first + (2 ^ j + v))) d (h (2 ^ j + v)) a b (s (2 ^ j + v) (omega (arith, low, twice, wide)))))

  halves_are : (k : ℕ) (h : ℕ → List Bool → ℕ) → slots_asks k i d f h ≡ slots_asks k j d1 f1 h ++ slots_asks k j d2 f2 (λ v. h (2 ^ j + v))
  halves_are k h =
      ap (λ x. slots_asks k x d f h) ei
      ∙ (two_halves k j d f h
      ∙ (ap (λ (x : List Ask). x ++ slots_asks k j d (side true f) (λ v. h (2 ^ j + v))) (ap (λ (x : List Bool → ℕ). slots_asks k j d x h) (sym q1) ∙ ap (λ x. slots_asks k j x f1 h) (sym e1))
      ∙ ap (λ (x : List Ask). slots_asks k j d1 f1 h ++ x) (ap (λ (x : List Bool → ℕ). slots_asks k j d x (λ v. h (2 ^ j + v))) (sym q2) ∙ ap (λ x. slots_asks k j x f2 (λ v. h (2 ^ j + v))) (sym e2))))

  pub halves_met : (n2 : Space Node) (l2 : Space ℕ) → Keeps blank n.cells (is_out n.free) n1.cells (is_out n1.free) → Keeps 0 l.cells (is_out l.free) l1.cells (is_out l1.free) → n1.order ≡ n.order → l1.order ≡ l.order → MeetsSlots n l words n1 l1 first j d1 f1 → MeetsSlots n1 l1 words n2 l2 next j d2 f2 → MeetsSlots n l words n2 l2 first i d f
  halves_met n2 l2 a b on ol low high k h few s =
      let r1 = low k h (omega (arith, few, e1)) (low_stands k h s) in
      let r2 = high k (λ v. h (2 ^ j + v)) (omega (arith, few, e2)) (high_stands k h a b s) in
      subst (λ (x : List Ask). MeetsInTurn n.order l.order x (n.free, l.free) (n2.free, l2.free)) (sym (halves_are k h))
      (runs_append n.order l.order (slots_asks k j d1 f1 h) (slots_asks k j d2 f2 (λ v. h (2 ^ j + v))) (n.free, l.free) (n1.free, l1.free) (n2.free, l2.free) r1
      (subst (λ (x : ℕ). MeetsInTurn x l.order (slots_asks k j d2 f2 (λ v. h (2 ^ j + v))) (n1.free, l1.free) (n2.free, l2.free)) on (subst (λ (x : ℕ). MeetsInTurn n1.order x (slots_asks k j d2 f2 (λ v. h (2 ^ j + v))) (n1.free, l1.free) (n2.free, l2.free)) ol r2)))

  pub low_refused : (e : Refusal) → MeetsNotSlots n l words first j d1 f1 e → MeetsNotSlots n l words first i d f e
  low_refused e low k h few s =
      subst (λ (x : List Ask). IsOutOfBlocks n.order l.order x (n.free, l.free) e) (sym (halves_are k h))
      (is_out_before n.order l.order (slots_asks k j d1 f1 h) (slots_asks k j d2 f2 (λ v. h (2 ^ j + v))) (n.free, l.free) e (low k h (omega (arith, few, e1)) (low_stands k h s)))

  pub high_refused : (e : Refusal) → Keeps blank n.cells (is_out n.free) n1.cells (is_out n1.free) → Keeps 0 l.cells (is_out l.free) l1.cells (is_out l1.free) → n1.order ≡ n.order → l1.order ≡ l.order → MeetsSlots n l words n1 l1 first j d1 f1 → MeetsNotSlots n1 l1 words next j d2 f2 e → MeetsNotSlots n l words first i d f e
  high_refused e a b on ol low high k h few s =
      let r1 = low k h (omega (arith, few, e1)) (low_stands k h s) in
      let r2 = high k (λ v. h (2 ^ j + v)) (omega (arith, few, e2)) (high_stands k h a b s) in
      subst (λ (x : List Ask). IsOutOfBlocks n.order l.order x (n.free, l.free) e) (sym (halves_are k h))
      (is_out_behind n.order l.order (slots_asks k j d1 f1 h) (slots_asks k j d2 f2 (λ v. h (2 ^ j + v))) (n.free, l.free) (n1.free, l1.free) e r1
      (subst (λ (x : ℕ). IsOutOfBlocks x l.order (slots_asks k j d2 f2 (λ v. h (2 ^ j + v))) (n1.free, l1.free) e) on (subst (λ (x : ℕ). IsOutOfBlocks n1.order x (slots_asks k j d2 f2 (λ v. h (2 ^ j + v))) (n1.free, l1.free) e) ol r2)))
