-- The slots that are stored are those at which an address gets another answer.
use Rattle.std.proofs.Common.{◌≡◌, ◌≢◌, ℕ, zero, suc, ◌+◌, ◌-◌, ◌^◌, ◌<◌, List, [], ◌∷◌, ◌++◌, Bool, true, false, cond, nat_eq, Option, Some, None, length, drop, refl, sym, ap, ◌∙◌, arith, subst}
use Rattle.std.specs.Prelude.{◌||◌, slice_index}
use Rattle.std.specs.List.{AllByRecursion}
use Rattle.std.proofs.lemmas.Bool.{eqb-true, eqb-false, eq-eqb, ne_eqb}
use Rattle.std.proofs.lemmas.List.{length-append, length-drop, take-append-drop, take_at}
use Rattle.table_model.specs.Bits.{bits_of}
use Rattle.table_model.specs.Width.{width}
use Rattle.table_model.specs.declared.family.Family.{Family}
use Rattle.table_model.proofs.BitLaws.{length-bits_of}
use Rattle.table_model.specs.Entries.{Entries, match_in}
use Rattle.fib_addr.specs.Answers.{part, one_answer, all_answers}
use Rattle.fib_addr.proofs.OneAnswer.{one_answer_is}
use Rattle.poptrie_build.specs.Bits.{rank_of}
use Rattle.poptrie_build.specs.Strides.{slots, slot, mixed}
use Rattle.poptrie_build.specs.Stands.{BySlot, IsLeaf, node_at}
use Rattle.poptrie_build.specs.Build.{StandsIn, WordIn}
use Rattle.poptrie_build.specs.Tries.{rest}
use Rattle.poptrie_build.specs.declared.node.Node.{Node}
use Rattle.path_copying.specs.declared.slots.Store.{Store as Stored}
use Rattle.path_copying.specs.Alike.{SameAnswers}
use Rattle.path_copying.specs.Stores.{stored, AreStores}
use Rattle.path_copying.proofs.Same.{same_hops, whole_alike}
use Rattle.poptrie_set.specs.Lives.{stores_cover, stores_of}
use Rattle.poptrie_set.specs.Prepares.{SameAt}

-- ---- a node stands for one list of answers
pub node_one : (k : ℕ) (nodes : List Node) (N : ℕ → Bool) (leaves : List ℕ) (L : ℕ → Bool) (n : Node) (d : ℕ) (f g : List Bool → ℕ) → StandsIn k nodes N leaves L n d f → StandsIn k nodes N leaves L n d g → SameAnswers d f g
unfolding StandsIn
node_one zero nodes N leaves L n d f g s t = absurd s
node_one (suc k) nodes N leaves L n d f g s t =
    whole_alike d f g 64 (omega arith) (record { each = λ u l. by u (λ x y. node_one k nodes N leaves L (node_at nodes (n.base1 + rank_of n.vector (u + 1) - 1)) (d - 6) (slot d f u) (slot d g u) x y) (slots d f u) (slots d g u) refl refl (sym (s.1.nodes u l) ∙ t.1.nodes u l) (s.2 u l) (t.2 u l) })
  where
    by : (u : ℕ) → (StandsIn k nodes N leaves L (node_at nodes (n.base1 + rank_of n.vector (u + 1) - 1)) (d - 6) (slot d f u) → StandsIn k nodes N leaves L (node_at nodes (n.base1 + rank_of n.vector (u + 1) - 1)) (d - 6) (slot d g u) → SameAnswers (d - 6) (slot d f u) (slot d g u)) → (x y : Option ℕ) → slots d f u ≡ x → slots d g u ≡ y → mixed (slots d f u) ≡ mixed (slots d g u) →
        BySlot x ((N (n.base1 + rank_of n.vector (u + 1) - 1) ≡ true) × (n.base1 + rank_of n.vector (u + 1) - 1 < length nodes) × StandsIn k nodes N leaves L (node_at nodes (n.base1 + rank_of n.vector (u + 1) - 1)) (d - 6) (slot d f u)) (λ h. (L (n.base0 + rank_of n.leafvec (u + 1) - 1) ≡ true) × IsLeaf leaves (n.base0 + rank_of n.leafvec (u + 1) - 1) h) →
        BySlot y ((N (n.base1 + rank_of n.vector (u + 1) - 1) ≡ true) × (n.base1 + rank_of n.vector (u + 1) - 1 < length nodes) × StandsIn k nodes N leaves L (node_at nodes (n.base1 + rank_of n.vector (u + 1) - 1)) (d - 6) (slot d g u)) (λ h. (L (n.base0 + rank_of n.leafvec (u + 1) - 1) ≡ true) × IsLeaf leaves (n.base0 + rank_of n.leafvec (u + 1) - 1) h) → SameAnswers (d - 6) (slot d f u) (slot d g u)
    by u again None None e q m a b = again a.2 b.2
    by u again (Some h) (Some i) e q m a b = let is : i ≡ h = sym b.1.1 ∙ a.1.1 in same_hops d u h f g e (q ∙ ap Some is)
    by u again None (Some i) e q m a b = let x : mixed (slots d f u) ≡ 1 = ap mixed e in let y : mixed (slots d g u) ≡ 0 = ap mixed q in absurd (omega (arith, m, x, y))
    by u again (Some h) None e q m a b = let x : mixed (slots d f u) ≡ 0 = ap mixed e in let y : mixed (slots d g u) ≡ 1 = ap mixed q in absurd (omega (arith, m, x, y))

pub word_one : (k : ℕ) (nodes : List Node) (N : ℕ → Bool) (leaves : List ℕ) (L : ℕ → Bool) (w d : ℕ) (f g : List Bool → ℕ) → WordIn w k nodes N leaves L d f → WordIn w k nodes N leaves L d g → SameAnswers d f g
word_one k nodes N leaves L w d f g s t = by (one_answer d f) (one_answer d g) refl refl s t
  where
    by : (x y : Option ℕ) → one_answer d f ≡ x → one_answer d g ≡ y → BySlot x ((w < 2 ^ 31) × (N w ≡ true) × (w < length nodes) × StandsIn k nodes N leaves L (node_at nodes w) d f) (λ h. (h < 2 ^ 16) × (w ≡ 2 ^ 31 + h)) → BySlot y ((w < 2 ^ 31) × (N w ≡ true) × (w < length nodes) × StandsIn k nodes N leaves L (node_at nodes w) d g) (λ h. (h < 2 ^ 16) × (w ≡ 2 ^ 31 + h)) → SameAnswers d f g
    by None None e q a b = node_one k nodes N leaves L (node_at nodes w) d f g a.3 b.3
    by (Some h) (Some i) e q a b = let is : i ≡ h = omega (arith, a.1, b.1) in λ x l. one_answer_is d f h e x l ∙ sym (one_answer_is d g h (q ∙ ap Some is) x l)
    by None (Some i) e q a b = absurd (omega (arith, a.0, b.1))
    by (Some h) None e q a b = absurd (omega (arith, a.1, b.0))

-- ---- a store changes its word
covered_changed : (stores : List Stored) (words : List ℕ) (v : ℕ) → AllByRecursion (λ (s : Stored). slice_index words s.slot ≢ s.word) stores → stores_cover (stores_of stores) v ≡ true → stored stores words v ≡ slice_index words v → ⊥
covered_changed [] words v a c e = cc
covered_changed (s ∷ stores) words v a c e = by (covered_changed stores words v a.1) (nat_eq s.slot v) refl c
  where
    by : (stores_cover (stores_of stores) v ≡ true → stored stores words v ≡ slice_index words v → ⊥) → (b : Bool) → nat_eq s.slot v ≡ b → (b || stores_cover (stores_of stores) v) ≡ true → ⊥
    by again true q t =
        let is : s.slot ≡ v = eqb-true s.slot v q in
        a.0 (ap (λ i. slice_index words i) is ∙ (sym e ∙ ap (λ (b : Bool). let r : ℕ = cond b s.word (stored stores words v) in r) (eq-eqb v s.slot (sym is))))
    by again false q t = again t (sym (ap (λ (b : Bool). let r : ℕ = cond b s.word (stored stores words v) in r) (ne_eqb v s.slot (λ z. eqb-false s.slot v q (sym z)))) ∙ e)

-- ---- the addresses of a slot
pub same_alike : (f : Family) (s : ℕ) (L M : Entries) (v : ℕ) → s + rest f s ≡ width f → SameAt f s L M v → SameAnswers (rest f s) (part (bits_of s v) (all_answers f M)) (part (bits_of s v) (all_answers f L))
same_alike f s L M v e same a n =
    let b = bits_of s v in
    let n2 = length-bits_of s v in
    same (record { family = f; bits = b ++ a }) (length-append b a ∙ omega (arith, n, n2, e)) refl (take_at b a s n2)

pub alike_same_at : (f : Family) (s : ℕ) (L M : Entries) (v : ℕ) → s + rest f s ≡ width f → SameAnswers (rest f s) (part (bits_of s v) (all_answers f M)) (part (bits_of s v) (all_answers f L)) → SameAt f s L M v
alike_same_at f s L M v e al a is family front =
    let parts : bits_of s v ++ drop s a.bits ≡ a.bits = ap (λ (x : List Bool). x ++ drop s a.bits) (sym front) ∙ take-append-drop s a.bits in
    let wide : length a.bits ≡ width f = is ∙ ap width family in
    let long : length (drop s a.bits) ≡ rest f s = length-drop s a.bits ∙ omega (arith, wide, e) in
    let at : match_in M (record { family = f; bits = bits_of s v ++ drop s a.bits }) ≡ match_in L (record { family = f; bits = bits_of s v ++ drop s a.bits }) = al (drop s a.bits) long in
    subst (λ (g : Family). match_in M (record { family = g; bits = a.bits }) ≡ match_in L (record { family = g; bits = a.bits })) (sym family)
    (subst (λ (x : List Bool). match_in M (record { family = f; bits = x }) ≡ match_in L (record { family = f; bits = x })) parts at)

pub stored_there : (stores : List Stored) (words : List ℕ) (end v : ℕ) → AreStores words stores end → stored stores words v ≡ slice_index words v → stores_cover (stores_of stores) v ≡ false
stored_there stores words end v are e = by (stores_cover (stores_of stores) v) refl
  where
    by : (b : Bool) → stores_cover (stores_of stores) v ≡ b → stores_cover (stores_of stores) v ≡ false
    by true c = absurd (covered_changed stores words v are.changed c e)
    by false c = c
