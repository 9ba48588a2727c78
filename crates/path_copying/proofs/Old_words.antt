-- The direct words of a region's slots, as they stood before the answers of a prefix may have changed.
use Rattle.std.proofs.Common.{◌≡◌, ℕ, suc, ◌+◌, ◌-◌, ◌^◌, ◌<◌, List, ◌∷◌, Bool, true, false, drop, refl, sym, ap, ◌∙◌, arith, subst}
use Rattle.std.specs.Prelude.{slice_index}
use Rattle.table_model.specs.Bits.{bits_of}
use Rattle.table_model.specs.Sets.{side}
use Rattle.buddy_arena.specs.Space.{Space}
use Rattle.buddy_arena.specs.Blocks.{Held}
use Rattle.fib_addr.specs.Answers.{part}
use Rattle.poptrie_build.specs.Stands.{blank}
use Rattle.poptrie_build.specs.declared.node.Node.{Node}
use Rattle.poptrie_build.proofs.Slotting.{double, low_bits, high_bits}
use Rattle.path_copying.specs.Changes.{Gains}
use Rattle.path_copying.specs.Words.{IsWord}
use Rattle.path_copying.specs.Ways.{IsOldWord}
use Rattle.path_copying.proofs.Beside.{drop_drop}
use Rattle.path_copying.proofs.Word_row.{word_stays}

pub old_is_word : (nodes : Space Node) (leaves : Space ℕ) (w : ℕ) (p : List Bool) (d : ℕ) (f : List Bool → ℕ) → IsOldWord nodes leaves w p d f → IsWord nodes leaves w d
old_is_word nodes leaves w p d f (k, g, s, beside) = (k, g, s)

pub old_word_at : (nodes : Space Node) (leaves : Space ℕ) (w x : ℕ) (p q : List Bool) (d e : ℕ) (f g : List Bool → ℕ) → x ≡ w → q ≡ p → e ≡ d → g ≡ f → IsOldWord nodes leaves w p d f → IsOldWord nodes leaves x q e g
old_word_at nodes leaves w x p q d e f g ex eq ee eg is =
    subst (λ (y : ℕ). IsOldWord nodes leaves y q e g) (sym ex)
    (subst (λ (y : List Bool). IsOldWord nodes leaves w y e g) (sym eq)
    (subst (λ (y : ℕ). IsOldWord nodes leaves w p y g) (sym ee)
    (subst (λ (y : List Bool → ℕ). IsOldWord nodes leaves w p d y) (sym eg) is)))

pub old_word_gained : (nodes nodes2 : Space Node) (nb nb2 : Held) (leaves leaves2 : Space ℕ) (lb lb2 : Held) (w : ℕ) (p : List Bool) (d : ℕ) (f : List Bool → ℕ) → Gains blank nodes nb nodes2 nb2 → Gains 0 leaves lb leaves2 lb2 → IsOldWord nodes leaves w p d f → IsOldWord nodes2 leaves2 w p d f
old_word_gained nodes nodes2 nb nb2 leaves leaves2 lb lb2 w p d f a b (k, g, s, beside) = (k, g, word_stays k nodes nodes2 leaves leaves2 w d g a.keeps b.keeps s, beside)

-- the words of the 2 ^ j slots of a region of d more bits, from the first slot on
abbrev pub AreOld : Space Node → Space ℕ → List ℕ → ℕ → ℕ → List Bool → ℕ → (List Bool → ℕ) → Type 0
AreOld nodes leaves words first j p d f = (v : ℕ) → v < 2 ^ j → IsOldWord nodes leaves (slice_index words (first + v)) (drop j p) (d - j) (part (bits_of j v) f)

module _ (nodes : Space Node) (leaves : Space ℕ) (words : List ℕ) (first : ℕ) (p : List Bool) (d : ℕ) (f : List Bool → ℕ) where
  only : AreOld nodes leaves words first 0 p d f → IsOldWord nodes leaves (slice_index words first) p d f
  unfolding bits_of
  only h = old_word_at nodes leaves (slice_index words (first + 0)) (slice_index words first) p p (d - 0) d f f (ap (λ i. slice_index words i) (let e : first ≡ first + 0 = omega arith in e)) refl (let e : d ≡ d - 0 = omega arith in e) refl (h 0 (omega arith))

  pub old_here : (j : ℕ) → j ≡ 0 → AreOld nodes leaves words first j p d f → IsOldWord nodes leaves (slice_index words first) p d f
  old_here j z h = only (subst (λ (i : ℕ). AreOld nodes leaves words first i p d f) z h)

-- ---- those of its halves
module _ (nodes : Space Node) (leaves : Space ℕ) (words : List ℕ) (first i j : ℕ) (p q : List Bool) (d e : ℕ) (f g : List Bool → ℕ) (next : i ≡ suc j) (below : q ≡ drop 1 p) (fewer : e + 1 ≡ d) where
  rest : drop j q ≡ drop i p
  rest = ap (drop j) below ∙ (drop_drop 1 j p ∙ (let n : 1 + j ≡ i = omega (arith, next) in ap (λ m. drop m p) n))

  pub old_low : g ≡ side false f → AreOld nodes leaves words first i p d f → AreOld nodes leaves words first j q e g
  old_low half h v l =
      let bits : bits_of i v ≡ false ∷ bits_of j v = ap (λ n. bits_of n v) next ∙ low_bits j v l in
      let low : v < 2 ^ i = subst (λ (n : ℕ). v < 2 ^ n) (sym next) (omega (arith, l, double j)) in
      old_word_at nodes leaves (slice_index words (first + v)) (slice_index words (first + v)) (drop i p) (drop j q) (d - i) (e - j) (part (bits_of i v) f) (part (bits_of j v) g) refl rest (omega (arith, next, fewer)) (ap (part (bits_of j v)) half ∙ sym (ap (λ x. part x f) bits)) (h v low)

  pub old_high : (n : ℕ) → n ≡ first + 2 ^ j → g ≡ side true f → AreOld nodes leaves words first i p d f → AreOld nodes leaves words n j q e g
  old_high n at half h v l =
      let u = 2 ^ j + v in
      let bits : bits_of i u ≡ true ∷ bits_of j v = ap (λ m. bits_of m u) next ∙ high_bits j v l in
      let low : u < 2 ^ i = subst (λ (m : ℕ). u < 2 ^ m) (sym next) (omega (arith, l, double j)) in
      old_word_at nodes leaves (slice_index words (first + u)) (slice_index words (n + v)) (drop i p) (drop j q) (d - i) (e - j) (part (bits_of i u) f) (part (bits_of j v) g) (ap (λ m. slice_index words m) (let s : n + v ≡ first + u = omega (arith, at) in s)) rest (omega (arith, next, fewer)) (ap (part (bits_of j v)) half ∙ sym (ap (λ x. part x f) bits)) (h u low)
