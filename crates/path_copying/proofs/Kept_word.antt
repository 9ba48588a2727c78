-- Words are stored only where an address gets another answer.
use Rattle.std.proofs.Common.{◌≡◌, ℕ, suc, ◌+◌, ◌-◌, ◌^◌, ◌<◌, ◌≤◌, List, [], ◌∷◌, ◌++◌, Bool, true, false, Option, Some, None, length, sym, ap, ◌∙◌, arith, subst, inl, inr}
use Rattle.std.specs.Prelude.{◌⊎◌, slice_index}
use Rattle.std.proofs.lemmas.Bool.{cases_lt}
use Rattle.table_model.specs.Bits.{bits_of}
use Rattle.buddy_arena.specs.Space.{Space}
use Rattle.buddy_arena.specs.Places.{Keeps, is_out}
use Rattle.fib_addr.specs.Answers.{one_answer, part}
use Rattle.table_model.specs.Sets.{side}
use Rattle.poptrie_build.specs.Stands.{BySlot, node_at, blank}
use Rattle.poptrie_build.specs.Build.{StandsIn, WordIn}
use Rattle.poptrie_build.specs.declared.node.Node.{Node}
use Rattle.poptrie_build.proofs.Slotting.{double, low_bits, high_bits}
use Rattle.path_copying.specs.declared.slots.Store.{Store}
use Rattle.path_copying.specs.Alike.{SameAnswers}
use Rattle.path_copying.specs.Words.{KeepsWord}
use Rattle.path_copying.specs.Stores.{stored, AreStores, KeepsSlots}
use Rattle.path_copying.proofs.Agree.{one_alike}
use Rattle.path_copying.proofs.Asking.{alike_yes}
use Rattle.path_copying.proofs.Slot_copy.{stored_beyond, stored_here, stored_other}
use Rattle.path_copying.proofs.Word_asked.{WordChanges}
use Rattle.path_copying.proofs.Word_row.{word_stays}

-- the word of a region of one answer
hop_is : (w h : ℕ) (k : ℕ) (nodes : List Node) (N : ℕ → Bool) (leaves : List ℕ) (L : ℕ → Bool) (d : ℕ) (g : List Bool → ℕ) → one_answer d g ≡ Some h → WordIn w k nodes N leaves L d g → w ≡ 2 ^ 31 + h
hop_is w h k nodes N leaves L d g e s = by (one_answer d g) e s
  where
    by : (x : Option ℕ) → x ≡ Some h → BySlot x ((w < 2 ^ 31) × (N w ≡ true) × (w < length nodes) × StandsIn k nodes N leaves L (node_at nodes w) d g) (λ j. (j < 2 ^ 16) × (w ≡ 2 ^ 31 + j)) → w ≡ 2 ^ 31 + h
    by None q t = cc
    by (Some j) q t = t.1 ∙ ap (λ n. 2 ^ 31 + n) (some_is j h q)
      where
        some_is : (x y : ℕ) → Some x ≡ Some y → x ≡ y
        some_is x y r = cc

pub kept_hop : (nodes : Space Node) (leaves : Space ℕ) (w w2 h d : ℕ) (f : List Bool → ℕ) → one_answer d f ≡ Some h → w2 ≡ 2 ^ 31 + h → KeepsWord nodes leaves w w2 d f
kept_hop nodes leaves w w2 h d f e is k g s a = is ∙ sym (hop_is w h k nodes.cells (is_out nodes.free) leaves.cells (is_out leaves.free) d g (sym (one_alike d f g a) ∙ e) s)

pub kept_changed : (nodes : Space Node) (leaves : Space ℕ) (w w2 d : ℕ) (f : List Bool → ℕ) → WordChanges nodes leaves w d f → KeepsWord nodes leaves w w2 d f
kept_changed nodes leaves w w2 d f ch k g s a = absurd (let n = ch k g s in let y = alike_yes d f g a in true_false (sym y ∙ n))
  where
    true_false : true ≡ false → ⊥
    true_false q = cc

-- ---- one slot
module _ (nodes : Space Node) (leaves : Space ℕ) (words : List ℕ) (stores stores2 : List Store) (first new d : ℕ) (f : List Bool → ℕ) (keeps : KeepsWord nodes leaves (slice_index words first) new d f) where
  only : stored stores2 words first ≡ new → (v : ℕ) → v < 2 ^ 0 → KeepsWord nodes leaves (slice_index words (first + v)) (stored stores2 words (first + v)) d (part (bits_of 0 v) f)
  unfolding bits_of
  only is v l k g s a =
      let z : v ≡ 0 = omega (arith, l) in
      let at : first + v ≡ first = omega (arith, z) in
      ap (λ i. stored stores2 words i) at ∙ (is ∙ (keeps k g (subst (λ (i : ℕ). WordIn (slice_index words i) k nodes.cells (is_out nodes.free) leaves.cells (is_out leaves.free) d g) at s) a ∙ ap (λ i. slice_index words i) (sym at)))

  pub kept_stored : (j e : ℕ) → j ≡ 0 → e ≡ d → AreStores words stores first → stores2 ≡ stores ++ record { slot = first; word = new } ∷ [] → KeepsSlots nodes leaves words stores stores2 first j e f
  kept_stored j e zj ed s is =
      subst (λ (i : ℕ). KeepsSlots nodes leaves words stores stores2 first i e f) (sym zj)
      (subst (λ (i : ℕ). KeepsSlots nodes leaves words stores stores2 first 0 i f) (sym ed)
      (record {
        before = λ u l. ap (λ (x : List Store). stored x words u) is ∙ stored_other stores words first new u (λ q. absurd (omega (arith, l, q)));
        each = only (ap (λ (x : List Store). stored x words first) is ∙ stored_here stores words first new s.below);
      }))

  pub kept_same : (j e : ℕ) → j ≡ 0 → e ≡ d → AreStores words stores first → stores2 ≡ stores → new ≡ slice_index words first → KeepsSlots nodes leaves words stores stores2 first j e f
  kept_same j e zj ed s is w =
      subst (λ (i : ℕ). KeepsSlots nodes leaves words stores stores2 first i e f) (sym zj)
      (subst (λ (i : ℕ). KeepsSlots nodes leaves words stores stores2 first 0 i f) (sym ed)
      (record {
        before = λ u l. ap (λ (x : List Store). stored x words u) is;
        each = only (ap (λ (x : List Store). stored x words first) is ∙ (stored_beyond stores words first first s.below (omega arith) ∙ sym w));
      }))

-- ---- both halves
pub kept_halves : (n0 n1 : Space Node) (l0 l1 : Space ℕ) (words : List ℕ) (stores stores1 stores2 : List Store) (first next i j d d1 d2 : ℕ) (f f1 f2 : List Bool → ℕ) → i ≡ suc j → next ≡ first + 2 ^ j → d1 ≡ d → d2 ≡ d → f1 ≡ side false f → f2 ≡ side true f → Keeps blank n0.cells (is_out n0.free) n1.cells (is_out n1.free) → Keeps 0 l0.cells (is_out l0.free) l1.cells (is_out l1.free) →
    KeepsSlots n0 l0 words stores stores1 first j d1 f1 → KeepsSlots n1 l1 words stores1 stores2 next j d2 f2 → KeepsSlots n0 l0 words stores stores2 first i d f
kept_halves n0 n1 l0 l1 words stores stores1 stores2 first next i j d d1 d2 f f1 f2 ei en e1 e2 q1 q2 a b low high =
    subst (λ (x : ℕ). KeepsSlots n0 l0 words stores stores2 first x d f) (sym ei) (record {
      before = λ u l. high.before u (omega (arith, l, en)) ∙ low.before u l;
      each = λ v l. by v l (cases_lt v (2 ^ j));
    })
  where
    by : (v : ℕ) → v < 2 ^ suc j → (v < 2 ^ j) ⊎ (2 ^ j ≤ v) → KeepsWord n0 l0 (slice_index words (first + v)) (stored stores2 words (first + v)) d (part (bits_of (suc j) v) f)
    by v l (inl c) k g s al =
        let fa : SameAnswers d1 (part (bits_of j v) f1) g = λ x n. ap (λ (h : List Bool → ℕ). h (bits_of j v ++ x)) q1 ∙ (ap (λ (p : List Bool). f (p ++ x)) (sym (low_bits j v c)) ∙ al x (n ∙ e1)) in
        high.before (first + v) (omega (arith, c, en)) ∙ low.each v c k g (subst (λ (n : ℕ). WordIn (slice_index words (first + v)) k n0.cells (is_out n0.free) l0.cells (is_out l0.free) n g) (sym e1) s) fa
    by v l (inr c) k g s al =
        let u = v - 2 ^ j in
        let is : v ≡ 2 ^ j + u = omega (arith, c) in
        let small : u < 2 ^ j = omega (arith, c, l, double j) in
        let at : next + u ≡ first + v = omega (arith, is, en) in
        let bits : bits_of (suc j) v ≡ true ∷ bits_of j u = ap (bits_of (suc j)) is ∙ high_bits j u small in
        let fa : SameAnswers d2 (part (bits_of j u) f2) g = λ x n. ap (λ (h : List Bool → ℕ). h (bits_of j u ++ x)) q2 ∙ (ap (λ (p : List Bool). f (p ++ x)) (sym bits) ∙ al x (n ∙ e2)) in
        let stays = word_stays k n0 n1 l0 l1 (slice_index words (first + v)) d g a b s in
        ap (λ i. stored stores2 words i) (sym at)
        ∙ (high.each u small k g (subst (λ (n : ℕ). WordIn (slice_index words (next + u)) k n1.cells (is_out n1.free) l1.cells (is_out l1.free) n g) (sym e2) (subst (λ (i : ℕ). WordIn (slice_index words i) k n1.cells (is_out n1.free) l1.cells (is_out l1.free) d g) (sym at) stays)) fa
        ∙ ap (λ i. slice_index words i) at)
