-- A whole trie: filled, or refused, or cleared.
use Rattle.std.proofs.Common.{◌≡◌, ℕ, zero, suc, ◌+◌, ◌-◌, ◌*◌, ◌/◌, ◌%◌, ◌^◌, ◌<◌, ◌≤◌, List, [], Bool, true, Option, Some, length, get_or, refl, sym, ap, ◌∙◌, arith, subst, inl, inr, replicate}
use Rattle.std.specs.Prelude.{Result, Ok, Err, OnOk, OnErr}
use Rattle.std.proofs.lemmas.Bool.{cases_lt}
use Rattle.std.proofs.lemmas.List.{length-replicate}
use Rattle.std.proofs.lemmas.Nat.{one_shl}
use Rattle.std.proofs.Math.Pow.{pow_mono}
use Rattle.table_model.specs.Bits.{bits_of}
use Rattle.table_model.specs.Width.{width}
use Rattle.table_model.specs.declared.family.Family.{Family}
use Rattle.table_model.specs.declared.family.Family.TheVariants.{V4, V6}
use Rattle.table_model.specs.Entries.{Entries}
use Rattle.buddy_arena.specs.Space.{Space, IsSized, empty}
use Rattle.buddy_arena.proofs.Others.{one_whole}
use Rattle.buddy_arena.proofs.Totals.{total_whole, total_le}
use Rattle.fib_addr.specs.Answers.{one_answer, part, all_answers}
use Rattle.poptrie_build.specs.Strides.{Region, strides, address}
use Rattle.fib_addr.specs.Views.{addr_as}
use Rattle.fib_addr.specs.declared.addr.Addr.{Addr}
use Rattle.poptrie_build.specs.Keys.{widened}
use Rattle.poptrie_build.specs.Need.{need_in_u64, trie_nodes, trie_leaves}
use Rattle.poptrie_build.specs.Stands.{BySlot, Stands, TrieStands}
use Rattle.poptrie_build.specs.Led.{StandsWhole}
use Rattle.buddy_arena.specs.Places.{count_free, is_out, IsFresh}
use Rattle.buddy_arena.specs.Arrays.{AreApart}
use Rattle.poptrie_build.specs.Arrays.{word_arrays, word_leaf_arrays}
use Rattle.poptrie_build.proofs.Wording.{none_apart}
use Rattle.poptrie_build.specs.Build.{WordsIn}
use Rattle.poptrie_build.specs.Tries.{Shown, StandsFor, StandsForAnswers, IsTooMuch, rest}
use Rattle.poptrie_build.specs.declared.node.Node.{Node}
use Rattle.poptrie_build.proofs.Bits.{bits_take}
use Rattle.poptrie_build.proofs.Address.{shl_shr, bits_mod}
use Rattle.fib_addr.proofs.OneAnswer.{one_answer_from}
use Rattle.poptrie_build.proofs.Carry.{map_slot, stands_at}
use Rattle.poptrie_build.proofs.Directing.{no_trie_nodes, no_trie_leaves}

pub words_stand : (s k d : ℕ) (f : List Bool → ℕ) (words : List ℕ) (nodes : List Node) (N : ℕ → Bool) (leaves : List ℕ) (L : ℕ → Bool) → length words ≡ 2 ^ s → WordsIn s words k nodes N leaves L d f → TrieStands s words k nodes leaves d f
words_stand s k d f words nodes N leaves L n w = record {
  words = n;
  each = λ v l. map_slot (one_answer d (part (bits_of s v) f)) _ _ _ _ (λ t. (t.0, stands_at k nodes N leaves L (get_or words v 0) d (part (bits_of s v) f) t.2 t.3)) (λ h t. t) (w v l);
}

module _ {T : Type 0} (s : Space T) (o : ℕ) (fill : T) (e : s ≡ empty o fill) where
  pub all_free : count_free s ≡ 2 ^ o
  all_free = ap count_free e ∙ total_whole (2 ^ o)

  pub all_fresh : IsFresh s
  all_fresh = subst (λ (t : Space T). IsFresh t) (sym e) (one_whole o (replicate (2 ^ o) true) refl)

  pub all_sized : o < 31 → IsSized s
  all_sized l = subst (λ (t : Space T). IsSized t) (sym e) (record { small = l; places = length-replicate (2 ^ o) true; cells = length-replicate (2 ^ o) fill })

pub too_many_nodes : (n l hn hl need have : ℕ) → need ≡ need_in_u64 n → have ≡ hn → have < need → IsTooMuch 0 need have n l hn hl
too_many_nodes n l hn hl need have e h g = inl (refl, e, h, omega (arith, e, g))

pub too_many_leaves : (n l o hl some have need place : ℕ) → o < 31 → some ≡ need_in_u64 n → have ≡ 2 ^ o → some ≤ have → need ≡ need_in_u64 l → place ≡ hl → (n ≤ 2 ^ o → l ≤ hl → ⊥) → IsTooMuch 1 need place n l (2 ^ o) hl
too_many_leaves n l o hl some have need place s e h g f p r =
    let m : 2 ^ o ≤ 2 ^ 30 = pow_mono {i = o} {j = 30} (omega arith) in
    let fits : n ≤ 2 ^ o = omega (arith, e, h, g) in
    inr (refl, fits, f, p, elim (cases_lt hl l) [ inl a ↦ omega (arith, p) | inr b ↦ absurd (r fits b) ])

-- ---- no hop anywhere
none_everywhere : (f : Family) (d : ℕ) → one_answer d (all_answers f []) ≡ Some 0
none_everywhere f d = one_answer_from d (all_answers f []) 0 (λ a l. refl)

replicate_at : (n i x d : ℕ) → i < n → get_or (replicate n x) i d ≡ x
replicate_at zero i x d h = absurd (omega arith)
replicate_at (suc n) zero x d h = refl
replicate_at (suc n) (suc i) x d h = replicate_at n i x d (omega arith)

wide : (f : Family) → 32 ≤ width f
wide V4 = omega arith
wide V6 = omega arith

pub stands_none : (t : Shown) (o p : ℕ) (x : Node) (y : ℕ) → t.direct_bits ≤ 18 → t.words ≡ replicate (2 ^ t.direct_bits) 2147483648 → t.nodes ≡ empty o x → t.leaves ≡ empty p y → StandsFor t []
stands_none t o p x y few w n l =
    let f = t.family in
    let s = t.direct_bits in
    let d = rest f s in
    let sum : s + d ≡ width f = omega (arith, few, wide f) in
    let long : length t.words ≡ 2 ^ s = ap length w ∙ length-replicate (2 ^ s) 2147483648 in
    let high : (i : ℕ) → i < length t.words → 2147483648 ≤ get_or t.words i 0 = λ i l. (let e : get_or t.words i 0 ≡ 2147483648 = ap (λ q. get_or q i 0) w ∙ replicate_at (2 ^ s) i 2147483648 0 (omega (arith, l, long)) in omega (arith, e)) in
    record {
      words = record {
        words = ap length w ∙ length-replicate (2 ^ s) 2147483648;
        each = λ v h.
            subst (λ (z : Option ℕ). BySlot z ((get_or t.words v 0 < 2 ^ 31) × Stands (strides d) t.nodes.cells t.leaves.cells (get_or t.words v 0) d (part (bits_of s v) (all_answers f []))) (λ g. (g < 2 ^ 16) × (get_or t.words v 0 ≡ 2 ^ 31 + g))) (sym (one_answer_from d (part (bits_of s v) (all_answers f [])) 0 (λ a m. refl)))
            (omega arith, ap (λ q. get_or q v 0) w ∙ replicate_at (2 ^ s) v 2147483648 0 h);
      };
      nodes_apart = λ k. (none_apart (is_out t.nodes.free) k t.nodes.cells t.words high).0;
      leaves_apart = λ k. (none_apart (is_out t.leaves.free) k t.nodes.cells t.words high).1;
      nodes = omega (arith, all_free t.nodes o x n, ap (λ (q : Space Node). q.order) n, ap (λ (j : ℕ). 2 ^ j) (ap (λ (q : Space Node). q.order) n), no_trie_nodes s (strides d) d (width f) 0 (all_answers f []) sum (none_everywhere f (width f)));
      leaves = omega (arith, all_free t.leaves p y l, ap (λ (q : Space ℕ). q.order) l, ap (λ (j : ℕ). 2 ^ j) (ap (λ (q : Space ℕ). q.order) l), no_trie_leaves s (strides d) d (width f) 0 (all_answers f []) sum (none_everywhere f (width f)));
    }

-- enough strides
pub strides_do : (d : ℕ) → d ≤ 6 * strides d
strides_do d = omega arith

pub need_told : (x n h : ℕ) → x + n ≡ h → h < 18446744073709551615 → h - x ≡ need_in_u64 n
need_told x n h e l = omega (arith, e, l)

pub few_places : (o : ℕ) → o < 31 → 2 ^ o < 18446744073709551615
few_places o h = let m : 2 ^ o ≤ 2 ^ 30 = pow_mono {i = o} {j = 30} (omega arith) in omega arith

-- ---- an address as a key
pub key_is : (w b : ℕ) → w ≤ 128 → address w (b * 2 ^ (128 - w) % 2 ^ 128) ≡ bits_of w b
key_is w b h =
    let j = 128 - w in
    let e : w + j ≡ 128 = omega arith in
    bits_take 128 w (b * 2 ^ j % 2 ^ 128) h
    ∙ (ap (λ n. bits_of w (b * 2 ^ j % 2 ^ n / 2 ^ j)) (sym e)
    ∙ (ap (bits_of w) (shl_shr j w b) ∙ bits_mod w b w (omega arith)))

pub address_is : (a : Addr) (w n : ℕ) → width a.family ≡ w → w ≤ 128 → n ≡ width a.family → address n (widened w a.bits) ≡ (addr_as a).bits
address_is a w n f h e =
    ap (λ m. address m (widened w a.bits)) (e ∙ f)
    ∙ (key_is w a.bits h ∙ ap (λ m. bits_of m a.bits) (sym f))

pub wide_enough : (f : Family) (s : ℕ) → s ≤ 18 → s + rest f s ≡ width f
wide_enough f s h = omega (arith, h, wide f)

pub at_most_128 : (f : Family) → width f ≤ 128
at_most_128 V4 = omega arith
at_most_128 V6 = omega arith

-- ---- what was built
pub stands_for_answers : (f : Family) (s : ℕ) (words : List ℕ) (n : Space Node) (l : Space ℕ) (b : ℕ) (g : List Bool → ℕ) (on ol : ℕ) → b ≡ width f → n.order ≡ on → l.order ≡ ol → ((k : ℕ) → b - s ≤ 6 * k → TrieStands s words k n.cells l.cells (b - s) g) →
    ((k : ℕ) → b - s ≤ 6 * k → count_free n + trie_nodes s k (b - s) g ≡ 2 ^ on) → ((k : ℕ) → b - s ≤ 6 * k → count_free l + trie_leaves s k (b - s) g ≡ 2 ^ ol) → ((k : ℕ) → AreApart (is_out n.free) (word_arrays k n.cells words)) → ((k : ℕ) → AreApart (is_out l.free) (word_leaf_arrays k n.cells words)) → StandsForAnswers (record { family = f; direct_bits = s; words = words; nodes = n; leaves = l }) g
stands_for_answers f s words n l b g on ol eb en el t cn cl an al =
    let d : b - s ≡ rest f s = ap (λ x. x - s) eb in
    let k = strides (rest f s) in
    let le : b - s ≤ 6 * k = omega (arith, strides_do (rest f s), d) in
    record {
      words = subst (λ (x : ℕ). TrieStands s words k n.cells l.cells x g) d (t k le);
      nodes_apart = an;
      leaves_apart = al;
      nodes = ap (λ x. count_free n + x) (sym (ap (λ x. trie_nodes s k x g) d)) ∙ (cn k le ∙ ap (λ (x : ℕ). 2 ^ x) (sym en));
      leaves = ap (λ x. count_free l + x) (sym (ap (λ x. trie_leaves s k x g) d)) ∙ (cl k le ∙ ap (λ (x : ℕ). 2 ^ x) (sym el));
    }

pub stands_built : (f : Family) (s : ℕ) (words : List ℕ) (n : Space Node) (l : Space ℕ) (L : Entries) (b : ℕ) (g : List Bool → ℕ) (on ol : ℕ) → b ≡ width f → g ≡ all_answers f L → n.order ≡ on → l.order ≡ ol → ((k : ℕ) → b - s ≤ 6 * k → TrieStands s words k n.cells l.cells (b - s) g) →
    ((k : ℕ) → b - s ≤ 6 * k → count_free n + trie_nodes s k (b - s) g ≡ 2 ^ on) → ((k : ℕ) → b - s ≤ 6 * k → count_free l + trie_leaves s k (b - s) g ≡ 2 ^ ol) → ((k : ℕ) → AreApart (is_out n.free) (word_arrays k n.cells words)) → ((k : ℕ) → AreApart (is_out l.free) (word_leaf_arrays k n.cells words)) → StandsFor (record { family = f; direct_bits = s; words = words; nodes = n; leaves = l }) L
stands_built f s words n l L b g on ol eb eg en el t cn cl an al =
    subst (λ (x : List Bool → ℕ). StandsForAnswers (record { family = f; direct_bits = s; words = words; nodes = n; leaves = l }) x) eg (stands_for_answers f s words n l b g on ol eb en el t cn cl an al)

abbrev pub region_of : Family → ℕ → Entries → Region
region_of f s L = record { strides = strides (rest f s); bits = rest f s; answers = all_answers f L }

-- what a trie stands for as a region's answers
abbrev pub region_for : Shown → (List Bool → ℕ) → Region
region_for t f = record { strides = strides (rest t.family t.direct_bits); bits = rest t.family t.direct_bits; answers = f }

pub whole_as : (t : Shown) (f : List Bool → ℕ) (words : List ℕ) → words ≡ t.words → t.direct_bits ≤ 18 → StandsForAnswers t f → StandsWhole t.direct_bits words t.nodes.cells t.leaves.cells (region_for t f)
whole_as t f words e few s = subst (λ (w : List ℕ). StandsWhole t.direct_bits w t.nodes.cells t.leaves.cells (region_for t f)) (sym e) (record { bits = omega (arith, wide_enough t.family t.direct_bits few, at_most_128 t.family); stands = s.words })

pub free_at_most : {T : Type 0} (s : Space T) → IsSized s → count_free s ≤ 2 ^ s.order
free_at_most s z = omega (arith, total_le s.free, z.places)

pub slots_are : (s : ℕ) (words : List ℕ) → s ≤ 18 → words ≡ replicate (1 * 2 ^ s % 18446744073709551616) 2147483648 → words ≡ replicate (2 ^ s) 2147483648
slots_are s words h e = e ∙ ap (λ n. replicate n 2147483648) (one_shl s 64 (omega arith))

-- ---- the answers of a call that gives nothing or an error
pub all_ok : {E A B C D F G : Type 0} (r : Result (Unit {0}) E) → OnOk r A → OnOk r B → OnOk r C → OnOk r D → OnOk r F → (A → B → C → D → F → G) → OnOk r G
all_ok (Ok x) a b c d f g = g a b c d f
all_ok (Err e) a b c d f g = tt

pub all_err : {E A B C G : Type 0} (r : Result (Unit {0}) E) → OnErr r A → OnErr r B → OnErr r C → (A → B → C → G) → OnErr r G
all_err (Ok x) a b c g = tt
all_err (Err e) a b c g = g a b c

pub all_either : {E A B C D F H I J G : Type 0} (r : Result (Unit {0}) E) → OnOk r A → OnOk r B → OnOk r C → OnOk r D → OnOk r F → OnErr r H → OnErr r I → OnErr r J → (A → B → C → D → F → G) → (H → I → J → G) → G
all_either (Ok x) a b c d f h i j g k = g a b c d f
all_either (Err e) a b c d f h i j g k = k h i j

-- a node a stride at most
pub few_strides : (v d e : ℕ) → 6 * v ≤ d + 5 → d ≡ e → v ≤ strides e
few_strides v d e h s = omega (arith, h, s)

pub empty_again : {T : Type 0} (s : Space T) (n m : ℕ) (x y : T) → s ≡ empty n x → n ≡ m → x ≡ y → s ≡ empty m y
empty_again s n m x y e o f = e ∙ ap (λ i. empty i x) o ∙ ap (empty m) f
