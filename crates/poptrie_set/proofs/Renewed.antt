-- The words of a prefix's slots made anew: the slots that they are, and what becomes of all words.
use Rattle.std.proofs.Common.{◌≡◌, ℕ, zero, suc, ◌+◌, ◌-◌, ◌*◌, ◌/◌, ◌%◌, ◌^◌, ◌<◌, ◌≤◌, List, [], ◌∷◌, ◌++◌, Bool, true, false, cond, length, take, refl, sym, ap, ◌∙◌, arith, subst, inl, inr}
use Rattle.std.specs.Prelude.{◌⊎◌, min, slice_index}
use Rattle.std.proofs.Math.Nat.{lt-div-mul-add, div-mul-le_self}
use Rattle.std.proofs.Math.Pow.{pow_mono}
use Rattle.std.proofs.lemmas.Nat.{div-mul-add, pow-add, pow_pos}
use Rattle.std.proofs.lemmas.Bool.{cases_lt}
use Rattle.std.proofs.lemmas.List.{append_assoc, take-take, take_all, length-take}
use Rattle.table_model.specs.Bits.{bits_of, begins}
use Rattle.table_model.proofs.Region.{begins_append}
use Rattle.table_model.proofs.BitLaws.{length-bits_of, bits_take, bits_split, bits_low, same_from_bits}
use Rattle.buddy_arena.specs.Space.{Space}
use Rattle.buddy_arena.proofs.Counts.{mul_mono}
use Rattle.buddy_arena.specs.Places.{is_out}
use Rattle.buddy_arena.specs.Arrays.{Array}
use Rattle.buddy_arena.specs.Blocks.{Held}
use Rattle.buddy_arena.proofs.Parting.{part_right}
use Rattle.fib_addr.specs.Answers.{part}
use Rattle.poptrie_build.specs.Build.{WordIn}
use Rattle.poptrie_build.specs.Arrays.{gather}
use Rattle.poptrie_build.specs.declared.node.Node.{Node}
use Rattle.path_copying.specs.Alike.{SameAnswers}
use Rattle.path_copying.specs.Words.{WordRow, arrays_of_word, leaf_arrays_of}
use Rattle.path_copying.specs.declared.slots.Store.{Store}
use Rattle.path_copying.specs.Stores.{stored, slots_under, AreStores, KeepsSlots, ReplacesWords}
use Rattle.path_copying.specs.Asks.{Ask, slots_asks, StandFor, MeetsInTurn, IsOutOfBlocks, MeetsSlots, MeetsNotSlots}
use Rattle.path_copying.specs.declared.blocks.Refusal.{Refusal}
use Rattle.path_copying.proofs.Alike_row.{IsPartOf, part_under, part_asks, row_alike}
use Rattle.path_copying.proofs.Slot_copy.{stored_beyond}
use Rattle.poptrie_set.specs.Renewals.{IsSpliced, Rebuilds, SetsAside, MeetsRenewal, MeetsNotRenewal, KeepsRenewal}

-- ---- the slots of a prefix
begins_take : (p q : List Bool) (t : ℕ) → begins p q ≡ true → t ≤ length p → take t p ≡ take t q
begins_take p q zero e l = refl
begins_take [] q (suc t) e l = absurd (omega (arith, l))
begins_take (true ∷ p) (true ∷ q) (suc t) e l = ap (λ (x : List Bool). true ∷ x) (begins_take p q t e (omega (arith, l)))
begins_take (false ∷ p) (false ∷ q) (suc t) e l = ap (λ (x : List Bool). false ∷ x) (begins_take p q t e (omega (arith, l)))
begins_take (true ∷ p) (false ∷ q) (suc t) e l = cc
begins_take (false ∷ p) (true ∷ q) (suc t) e l = cc
begins_take (true ∷ p) [] (suc t) e l = cc
begins_take (false ∷ p) [] (suc t) e l = cc

not_begins : (b : Bool) → (b ≡ true → ⊥) → b ≡ false
not_begins true h = absurd (h refl)
not_begins false h = refl

-- the answers of a slot, by whether an address of it begins with the prefix
module _ (p : List Bool) (s d : ℕ) (f : List Bool → ℕ) (h : ℕ → List Bool → ℕ) (g : List Bool → ℕ) (m : IsSpliced p s d f h g) (u : ℕ) (l : u < 2 ^ s) where
  merged_in : begins (take s p) (bits_of s u) ≡ true → SameAnswers d (part (bits_of s u) g) (part (bits_of s u) f)
  merged_in e = subst (λ (b : Bool). SameAnswers d (part (bits_of s u) g) (cond b (part (bits_of s u) f) (h u))) e (m u l)

  merged_out : begins (take s p) (bits_of s u) ≡ false → SameAnswers d (part (bits_of s u) g) (h u)
  merged_out e = subst (λ (b : Bool). SameAnswers d (part (bits_of s u) g) (cond b (part (bits_of s u) f) (h u))) e (m u l)

-- all of them
pub whole_part : (p : List Bool) (s d : ℕ) (f : List Bool → ℕ) (h : ℕ → List Bool → ℕ) (g : List Bool → ℕ) → take s p ≡ [] → IsSpliced p s d f h g → IsPartOf s s 0 d g f h
whole_part p s d f h g short m = record {
  many = omega arith;
  inside = λ v l.
      let z : 0 + v ≡ v = omega arith in
      subst (λ (i : ℕ). SameAnswers d (part (bits_of s i) g) (part (bits_of s v) f)) (sym z) (merged_in p s d f h g m v l (ap (λ (x : List Bool). begins x (bits_of s v)) short));
  beside = λ u l o a n. absurd (none u l o);
}
  where
    none : (u : ℕ) → u < 2 ^ s → (u < 0) ⊎ (0 + 2 ^ s ≤ u) → ⊥
    none u l (inl b) = omega (arith, b)
    none u l (inr b) = omega (arith, l, b)

-- those whose first t bits are a number's
module _ (s t j number first d : ℕ) (f : List Bool → ℕ) (p : List Bool) (h : ℕ → List Bool → ℕ) (sum : s ≡ t + j) (low : number < 2 ^ t) (at : first ≡ number * 2 ^ j) (front : take s p ≡ bits_of t number) where
  wide : 2 ^ s ≡ 2 ^ t * 2 ^ j
  wide = ap (λ (n : ℕ). 2 ^ n) sum ∙ pow-add 2 t j

  some : 0 < 2 ^ j
  some = pow_pos j

  slot_bits : (v : ℕ) → v < 2 ^ j → bits_of s (first + v) ≡ bits_of t number ++ bits_of j v
  slot_bits v l =
      let is : first + v ≡ number * 2 ^ j + v = omega (arith, at) in
      ap (λ n. bits_of n (first + v)) sum
      ∙ (ap (bits_of (t + j)) is
      ∙ (bits_split t j (number * 2 ^ j + v)
      ∙ (ap (λ n. bits_of t n ++ bits_of j (number * 2 ^ j + v)) (div-mul-add number (2 ^ j) v l)
      ∙ ap (λ (x : List Bool). bits_of t number ++ x) (bits_low j number v l))))

  other : (u : ℕ) → u < 2 ^ s → (u < first) ⊎ (first + 2 ^ j ≤ u) → begins (take s p) (bits_of s u) ≡ true → ⊥
  other u l o e =
      let q = u / 2 ^ j in
      let rest : s - t ≡ j = omega (arith, sum) in
      let all : length (bits_of t number) ≡ t = length-bits_of t number in
      let begun : begins (bits_of t number) (bits_of s u) ≡ true = ap (λ (x : List Bool). begins x (bits_of s u)) (sym front) ∙ e in
      let same : bits_of t number ≡ bits_of t q = sym (take_all t (bits_of t number) (omega (arith, all))) ∙ (begins_take (bits_of t number) (bits_of s u) t begun (omega (arith, all)) ∙ (bits_take s t u (omega (arith, sum)) ∙ ap (λ n. bits_of t (u / 2 ^ n)) rest)) in
      let below = div-mul-le_self u (2 ^ j) in
      let above = lt-div-mul-add {a = u} {b = 2 ^ j} some in
      let small : q < 2 ^ t = elim (cases_lt q (2 ^ t)) [
        | inl c ↦ c
        | inr c ↦ let m : 2 ^ t * 2 ^ j ≤ q * 2 ^ j = mul_mono (2 ^ j) (2 ^ t) q c in absurd (omega (arith, m, below, l, wide))
      ] in
      let is : number ≡ q = same_from_bits t number q low small same in
      let place : number * 2 ^ j ≡ q * 2 ^ j = ap (λ n. n * 2 ^ j) is in
      by o (omega (arith, place, at, below)) (omega (arith, place, at, above))
    where
      by : (u < first) ⊎ (first + 2 ^ j ≤ u) → first ≤ u → u < first + 2 ^ j → ⊥
      by (inl c) x y = omega (arith, c, x)
      by (inr c) x y = omega (arith, c, y)

  pub prefix_part : (g : List Bool → ℕ) → IsSpliced p s d f h g → IsPartOf s j first d g (part (bits_of t number) f) h
  prefix_part g m = record {
    many = within;
    inside = λ v l a n. merged_in p s d f h g m (first + v) (omega (arith, l, within)) (begun v l) a n ∙ (ap (λ (x : List Bool). f (x ++ a)) (slot_bits v l) ∙ ap f (append_assoc (bits_of t number) (bits_of j v) a));
    beside = λ u l o. merged_out p s d f h g m u l (not_begins (begins (take s p) (bits_of s u)) (other u l o));
  }
    where
      within : first + 2 ^ j ≤ 2 ^ s
      within = let m : (number + 1) * 2 ^ j ≤ 2 ^ t * 2 ^ j = mul_mono (2 ^ j) (number + 1) (2 ^ t) (omega (arith, low)) in omega (arith, m, at, wide)

      begun : (v : ℕ) → v < 2 ^ j → begins (take s p) (bits_of s (first + v)) ≡ true
      begun v l = ap (λ (x : List Bool). begins x (bits_of s (first + v))) front ∙ (ap (begins (bits_of t number)) (slot_bits v l) ∙ begins_append (bits_of t number) (bits_of j v))

-- ---- what becomes of all words
module _ (nodes nodes2 : Space Node) (nb nb2 : Held) (leaves leaves2 : Space ℕ) (lb lb2 : Held) (s j first d e : ℕ) (f g : List Bool → ℕ) (p : List Bool) (many : first + 2 ^ j ≤ 2 ^ s) (is : (h : ℕ → List Bool → ℕ) (q : List Bool → ℕ) → IsSpliced p s d f h q → IsPartOf s j first d q g h) (same : e ≡ d) where
  module _ (words words2 : ℕ → ℕ) (re : ReplacesWords nodes nb leaves lb words nodes2 nb2 leaves2 lb2 words2 first j e g) where
    row : (k : ℕ) (h : ℕ → List Bool → ℕ) (x y : List Array) (m m2 : ℕ) → d ≤ 6 * k → WordRow k (2 ^ s) nodes leaves words d h (nb.replaced ++ x) (lb.replaced ++ y) m m2 → WordRow k (2 ^ s) nodes2 leaves2 words2 d (slots_under first j g h) (nb2.replaced ++ x) (lb2.replaced ++ y) m m2
    row k h x y m m2 few r =
        subst (λ (n : ℕ). WordRow k (2 ^ s) nodes2 leaves2 words2 n (slots_under first j g h) (nb2.replaced ++ x) (lb2.replaced ++ y) m m2) same
        (re k (2 ^ s) h x y m m2 many (omega (arith, few, same)) (subst (λ (n : ℕ). WordRow k (2 ^ s) nodes leaves words n h (nb.replaced ++ x) (lb.replaced ++ y) m m2) (sym same) r))

    pub part_rebuilds : Rebuilds nodes nb leaves lb words nodes2 nb2 leaves2 lb2 words2 p s d f
    part_rebuilds k h q x y m m2 few merges r =
        row_alike k (2 ^ s) d nodes2 leaves2 words2 (slots_under first j g h) (λ u. part (bits_of s u) q) (nb2.replaced ++ x) (lb2.replaced ++ y) m m2 (part_under s j first d q g h (is h q merges))
        (row k h x y m m2 few r)

    pub part_aside : SetsAside nodes nb leaves lb words nodes2 nb2 leaves2 lb2 s d
    part_aside k h x y m m2 few r =
        let q = row k h x y m m2 few r in (
          part_right (is_out nodes2.free) (gather (λ u. arrays_of_word k nodes2.cells (words2 u)) (2 ^ s)) (nb2.replaced ++ x) q.nodes_apart,
          part_right (is_out leaves2.free) (gather (λ u. leaf_arrays_of k nodes2.cells (words2 u)) (2 ^ s)) (lb2.replaced ++ y) q.leaves_apart,
        )

  module _ (words : List ℕ) where
    stand : (k : ℕ) (h : ℕ → List Bool → ℕ) → StandFor k s d 0 nodes leaves words h → StandFor k j e first nodes leaves words (λ v. h (first + v))
    stand k h w v l =
        let at : 0 + (first + v) ≡ first + v = omega arith in
        subst (λ (n : ℕ). WordIn (slice_index words (first + v)) k nodes.cells (is_out nodes.free) leaves.cells (is_out leaves.free) n (h (first + v))) (sym same)
        (subst (λ (n : ℕ). WordIn (slice_index words n) k nodes.cells (is_out nodes.free) leaves.cells (is_out leaves.free) d (h (first + v))) at (w (first + v) (omega (arith, l, many))))

    asked : (k : ℕ) (h : ℕ → List Bool → ℕ) (q : List Bool → ℕ) → IsSpliced p s d f h q → slots_asks k j e g (λ v. h (first + v)) ≡ slots_asks k s d q h
    asked k h q merges = ap (λ n. slots_asks k j n g (λ v. h (first + v))) same ∙ sym (part_asks s j first d q g h (is h q merges) k)

    pub part_met : MeetsSlots nodes leaves words nodes2 leaves2 first j e g → MeetsRenewal nodes leaves words nodes2 leaves2 p s d f
    part_met met k h q few merges w = subst (λ (x : List Ask). MeetsInTurn nodes.order leaves.order x (nodes.free, leaves.free) (nodes2.free, leaves2.free)) (asked k h q merges) (met k (λ v. h (first + v)) (omega (arith, few, same)) (stand k h w))

    pub part_refused : (r : Refusal) → MeetsNotSlots nodes leaves words first j e g r → MeetsNotRenewal nodes leaves words p s d f r
    part_refused r out k h q few merges w = subst (λ (x : List Ask). IsOutOfBlocks nodes.order leaves.order x (nodes.free, leaves.free) r) (asked k h q merges) (out k (λ v. h (first + v)) (omega (arith, few, same)) (stand k h w))

  module _ (words : List ℕ) (stores : List Store) where
    pub part_kept : KeepsSlots nodes leaves words [] stores first j e g → AreStores words stores (first + 2 ^ j) → KeepsRenewal nodes leaves words stores p s d f
    part_kept kept are k h q merges w u l al = by (cases_lt u first) (cases_lt u (first + 2 ^ j))
      where
        inside : (v : ℕ) → v < 2 ^ j → first + v ≡ u → stored stores words u ≡ slice_index words u
        inside v low at =
            let same_part : SameAnswers e (part (bits_of j v) g) (h u) = λ a n. sym ((is h q merges).inside v low a (n ∙ same)) ∙ (ap (λ i. part (bits_of s i) q a) at ∙ al a (n ∙ same)) in
            let zero_first : 0 + u ≡ first + v = omega (arith, at) in
            let stands = subst (λ (n : ℕ). WordIn (slice_index words (first + v)) k nodes.cells (is_out nodes.free) leaves.cells (is_out leaves.free) n (h u)) (sym same)
            (subst (λ (n : ℕ). WordIn (slice_index words n) k nodes.cells (is_out nodes.free) leaves.cells (is_out leaves.free) d (h u)) zero_first (w u l)) in
            ap (λ i. stored stores words i) (sym at) ∙ (kept.each v low k (h u) stands same_part ∙ ap (λ i. slice_index words i) at)

        by : (u < first) ⊎ (first ≤ u) → (u < first + 2 ^ j) ⊎ (first + 2 ^ j ≤ u) → stored stores words u ≡ slice_index words u
        by (inl a) y = kept.before u a
        by (inr a) (inl b) = inside (u - first) (omega (arith, a, b)) (omega (arith, a))
        by (inr a) (inr b) = stored_beyond stores words (first + 2 ^ j) u are.below b

-- ---- the number of a prefix's first bits
-- the bits that are asked for, where the prefix has them, or all that it has
cut_front : (w len s t n : ℕ) → t ≤ len → t ≤ s → (t < s → t ≡ len) → take s (take len (bits_of w n)) ≡ take t (take len (bits_of w n))
cut_front w len s t n a b least = elim (cases_lt t s) [
  | inl c ↦ let few : length (take len (bits_of w n)) ≤ t = let e = least c in let m = length-take len (bits_of w n) in omega (arith, e, m) in take_all s (take len (bits_of w n)) (omega (arith, few, b)) ∙ sym (take_all t (take len (bits_of w n)) few)
  | inr c ↦ ap (λ i. take i (take len (bits_of w n))) (let e : s ≡ t = omega (arith, b, c) in e)
]

pub least_none : (len s t : ℕ) → t ≡ min len s → t ≡ 0 → (len ≡ 0) ⊎ (s ≡ 0)
least_none zero s t e z = inl refl
least_none (suc len) zero t e z = inr refl
least_none (suc len) (suc s) t e z = absurd (omega (arith, e, z))

pub no_bits : (w len s n : ℕ) → (len ≡ 0) ⊎ (s ≡ 0) → take s (take len (bits_of w n)) ≡ []
no_bits w len s n (inl e) = ap (λ i. take s (take i (bits_of w n))) e ∙ nothing s
  where
    nothing : (i : ℕ) → take i (take 0 (bits_of w n)) ≡ []
    nothing zero = refl
    nothing (suc i) = refl
no_bits w len s n (inr e) = ap (λ i. take i (take len (bits_of w n))) e

pub front_bits : (w len t n : ℕ) → t ≤ len → len ≤ w → take t (take len (bits_of w n)) ≡ bits_of t (n / 2 ^ (w - t))
front_bits w len t n a b = take-take t len (bits_of w n) a ∙ bits_take w t n (omega (arith, a, b))

pub front_small : (w t n : ℕ) → t ≤ w → n < 2 ^ w → n / 2 ^ (w - t) < 2 ^ t
front_small w t n le l =
    let q = n / 2 ^ (w - t) in
    let below = div-mul-le_self n (2 ^ (w - t)) in
    let parts : t + (w - t) ≡ w = omega (arith, le) in
    let wide : 2 ^ w ≡ 2 ^ t * 2 ^ (w - t) = ap (λ (k : ℕ). 2 ^ k) (sym parts) ∙ pow-add 2 t (w - t) in
    elim (cases_lt q (2 ^ t)) [
      | inl c ↦ c
      | inr c ↦ let m : 2 ^ t * 2 ^ (w - t) ≤ q * 2 ^ (w - t) = mul_mono (2 ^ (w - t)) (2 ^ t) q c in absurd (omega (arith, m, below, l, wide))
    ]

-- as the code has them
module _ (w len s t n number j first d : ℕ) (short : t ≤ len) (within : len ≤ w) (few : t ≤ s) (below : n < 2 ^ w) (is : number ≡ n / 2 ^ (w - t)) (left : j ≡ s - t) where
  small : number < 2 ^ t
  small = let l = front_small w t n (omega (arith, short, within)) below in omega (arith, is, l)

  pub number_at : s ≤ 18 → number * 2 ^ j % 4294967296 ≡ number * 2 ^ j
  number_at most =
      let m : (number + 1) * 2 ^ j ≤ 2 ^ t * 2 ^ j = mul_mono (2 ^ j) (number + 1) (2 ^ t) (omega (arith, small)) in
      let sum : t + j ≡ s = omega (arith, left, few) in
      let wide : 2 ^ s ≡ 2 ^ t * 2 ^ j = ap (λ (k : ℕ). 2 ^ k) (sym sum) ∙ pow-add 2 t j in
      let top : 2 ^ s ≤ 2 ^ 18 = pow_mono {i = s} {j = 18} most in
      omega (arith, m, wide, top)

  pub number_fits : s ≤ 18 → number < 4294967296
  number_fits most = let top : 2 ^ t ≤ 2 ^ 18 = pow_mono {i = t} {j = 18} (omega (arith, few, most)) in omega (arith, small, top)

  pub number_many : first ≡ number * 2 ^ j → first + 2 ^ j ≤ 2 ^ s
  number_many at =
      let m : (number + 1) * 2 ^ j ≤ 2 ^ t * 2 ^ j = mul_mono (2 ^ j) (number + 1) (2 ^ t) (omega (arith, small)) in
      let sum : t + j ≡ s = omega (arith, left, few) in
      let wide : 2 ^ s ≡ 2 ^ t * 2 ^ j = ap (λ (k : ℕ). 2 ^ k) (sym sum) ∙ pow-add 2 t j in
      omega (arith, m, wide, at)

  pub number_part : (f g : List Bool → ℕ) (h : ℕ → List Bool → ℕ) (q : List Bool → ℕ) → (t < s → t ≡ len) → first ≡ number * 2 ^ j → g ≡ part (bits_of t number) f → IsSpliced (take len (bits_of w n)) s d f h q → IsPartOf s j first d q g h
  number_part f g h q least at eg merges =
      let front : take s (take len (bits_of w n)) ≡ bits_of t number = cut_front w len s t n short few least ∙ (front_bits w len t n short within ∙ ap (bits_of t) (sym is)) in
      subst (λ (x : List Bool → ℕ). IsPartOf s j first d q x h) (sym eg)
      (prefix_part s t j number first d f (take len (bits_of w n)) h (omega (arith, left, few)) small at front q merges)

-- ---- the same, of a list of stores that was empty
module _ (nodes nodes2 : Space Node) (nb nb2 : Held) (leaves leaves2 : Space ℕ) (lb lb2 : Held) (s j first d e : ℕ) (f g : List Bool → ℕ) (p : List Bool) (many : first + 2 ^ j ≤ 2 ^ s) (is : (h : ℕ → List Bool → ℕ) (q : List Bool → ℕ) → IsSpliced p s d f h q → IsPartOf s j first d q g h) (same : e ≡ d) (words : List ℕ) (before stores : List Store) (none : before ≡ []) where
  pub all_rebuilds : ReplacesWords nodes nb leaves lb (stored before words) nodes2 nb2 leaves2 lb2 (stored stores words) first j e g → Rebuilds nodes nb leaves lb (stored [] words) nodes2 nb2 leaves2 lb2 (stored stores words) p s d f
  all_rebuilds re = part_rebuilds nodes nodes2 nb nb2 leaves leaves2 lb lb2 s j first d e f g p many is same (stored [] words) (stored stores words) (subst (λ (x : List Store). ReplacesWords nodes nb leaves lb (stored x words) nodes2 nb2 leaves2 lb2 (stored stores words) first j e g) none re)

  pub all_aside : ReplacesWords nodes nb leaves lb (stored before words) nodes2 nb2 leaves2 lb2 (stored stores words) first j e g → SetsAside nodes nb leaves lb (stored [] words) nodes2 nb2 leaves2 lb2 s d
  all_aside re = part_aside nodes nodes2 nb nb2 leaves leaves2 lb lb2 s j first d e f g p many is same (stored [] words) (stored stores words) (subst (λ (x : List Store). ReplacesWords nodes nb leaves lb (stored x words) nodes2 nb2 leaves2 lb2 (stored stores words) first j e g) none re)

  pub all_kept : KeepsSlots nodes leaves words before stores first j e g → AreStores words stores (first + 2 ^ j) → KeepsRenewal nodes leaves words stores p s d f
  all_kept kept are = part_kept nodes nodes2 nb nb2 leaves leaves2 lb lb2 s j first d e f g p many is same words stores (subst (λ (x : List Store). KeepsSlots nodes leaves words x stores first j e g) none kept) are

pub few_words : (s n : ℕ) → s ≤ 18 → n ≡ 2 ^ s → n ≤ 262144
few_words s n l e = let top : 2 ^ s ≤ 2 ^ 18 = pow_mono {i = s} {j = 18} l in omega (arith, e, top)
