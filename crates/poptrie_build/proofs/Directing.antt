-- The direct words of a region, from those of its halves.
use Rattle.std.proofs.Common.{◌≡◌, ◌≢◌, ℕ, zero, suc, ◌+◌, ◌-◌, ◌^◌, ◌<◌, ◌≤◌, List, [], ◌∷◌, ◌++◌, Bool, true, false, Option, Some, None, length, get_or, refl, sym, ap, ◌∙◌, arith, subst, inl, inr, set, min}
use Rattle.std.proofs.lemmas.Bool.{cases_lt}
use Rattle.std.proofs.Math.ListN.{length-set}
use Rattle.std.proofs.lemmas.List.{get_or_append_left, get_or-append_right, get_or-set_same, get_or-set_other}
use Rattle.std.proofs.Math.Pow.{pow_mono}
use Rattle.table_model.specs.Bits.{bits_of}
use Rattle.table_model.proofs.BitLaws.{length-bits_of}
use Rattle.buddy_arena.specs.Space.{Space, IsSized}
use Rattle.fib_addr.specs.Answers.{part, one_answer}
use Rattle.poptrie_build.specs.Strides.{mixed}
use Rattle.buddy_arena.specs.Powers.{up, up_from}
use Rattle.poptrie_build.specs.Need.{need_in_u64, need_nodes, need_leaves, trie_nodes, trie_leaves}
use Rattle.poptrie_build.specs.Stands.{BySlot, node_at, blank}
use Rattle.buddy_arena.specs.Places.{Keeps, TakesPlaces, since}
use Rattle.poptrie_build.specs.Build.{StandsIn, WordIn, WordsIn}
use Rattle.poptrie_build.specs.declared.node.Node.{Node}
use Rattle.fib_addr.proofs.OneAnswer.{one_answer_part}
use Rattle.table_model.specs.Sets.{side}
use Rattle.poptrie_build.proofs.Slotting.{double, low_bits, high_bits}
use Rattle.poptrie_build.proofs.Carry.{Carries, map_slot, carry}
use Rattle.buddy_arena.proofs.Parting.{since_now, since_not}
use Rattle.poptrie_build.proofs.Going.{since_from, not_before, apart, apart2}
use Rattle.poptrie_build.proofs.Counting.{no_nodes, no_leaves}

-- ---- what is kept
pub keeps_both : {A : Type 0} (e : A) (c0 c1 c2 : List A) (o0 o1 o2 : ℕ → Bool) → Keeps e c0 o0 c1 o1 → Keeps e c1 o1 c2 o2 → Keeps e c0 o0 c2 o2
keeps_both e c0 c1 c2 o0 o1 o2 a b = record {
  still = λ i o. b.still i (a.still i o);
  same = λ i o. b.same i (a.still i o) ∙ a.same i o;
  long = b.long ∙ a.long;
}

pub keeps_all : {A : Type 0} (e : A) (c c2 : List A) (o o2 : ℕ → Bool) → c2 ≡ c → ((i : ℕ) → o i ≡ true → o2 i ≡ true) → Keeps e c o c2 o2
keeps_all e c c2 o o2 h s = record { still = s; same = λ i q. ap (λ x. get_or x i e) h; long = ap length h }

-- a place that was not out is written
pub keeps_put : {A : Type 0} (e : A) (c0 c1 c2 : List A) (o0 o1 o2 : ℕ → Bool) (p : ℕ) (x : A) → o0 p ≡ false → Keeps e c0 o0 c1 o1 → c2 ≡ set c1 p x → o2 ≡ o1 → Keeps e c0 o0 c2 o2
keeps_put e c0 c1 c2 o0 o1 o2 p x out k h s = record {
  still = λ i q. ap (λ (o : ℕ → Bool). o i) s ∙ k.still i q;
  same = λ i q. ap (λ y. get_or y i e) h ∙ (get_or-set_other c1 p i x e (apart2 o0 i p q out) ∙ k.same i q);
  long = ap length h ∙ (length-set c1 p x ∙ k.long);
}

-- what came out early came out, and lies still
early : {A : Type 0} (e : A) (c1 c2 : List A) (o0 o1 o2 : ℕ → Bool) → Keeps e c1 o1 c2 o2 → Carries e c1 (since o0 o1) c2 (since o0 o2)
early e c1 c2 o0 o1 o2 k = record {
  inside = λ i q. since_from (o0 i) (o2 i) (k.still i (since_now (o0 i) (o1 i) q)) (since_not (o0 i) (o1 i) q);
  same = λ i q. k.same i (since_now (o0 i) (o1 i) q);
  long = k.long;
}

late : {A : Type 0} (e : A) (c : List A) (o0 o1 o2 : ℕ → Bool) → ((i : ℕ) → o0 i ≡ true → o1 i ≡ true) → Carries e c (since o1 o2) c (since o0 o2)
late e c o0 o1 o2 s = record {
  inside = λ i q. since_from (o0 i) (o2 i) (since_now (o1 i) (o2 i) q) (not_before (o0 i) (o1 i) (s i) (since_not (o1 i) (o2 i) q));
  same = λ i q. refl;
  long = refl;
}

carry_word : (word k : ℕ) (nodes after : List Node) (N M : ℕ → Bool) (leaves rest : List ℕ) (L R : ℕ → Bool) (d : ℕ) (f : List Bool → ℕ) → Carries blank nodes N after M → Carries 0 leaves L rest R → WordIn word k nodes N leaves L d f → WordIn word k after M rest R d f
carry_word word k nodes after N M leaves rest L R d f n l w =
    map_slot (one_answer d f) _ _ _ _
    (λ t. (t.0, n.inside word t.1, omega (arith, n.long, t.2), subst (λ (m : Node). StandsIn k after M rest R m d f) (sym (n.same word t.1)) (carry k nodes after N M leaves rest L R (node_at nodes word) d f n l t.3)))
    (λ h t. t) w

-- ---- a uniform region
pub words_same : (b j h k : ℕ) (f : List Bool → ℕ) (words : List ℕ) (nodes : List Node) (N : ℕ → Bool) (leaves : List ℕ) (L : ℕ → Bool) → j ≤ b → h < 2 ^ 16 → one_answer b f ≡ Some h → ((v : ℕ) → v < 2 ^ j → get_or words v 0 ≡ 2147483648 + h) → WordsIn j words k nodes N leaves L (b - j) f
words_same b j h k f words nodes N leaves L le small e w v l =
    let p = bits_of j v in
    let n : length p + (b - j) ≡ b = omega (arith, length-bits_of j v) in
    subst (λ (x : Option ℕ). BySlot x ((get_or words v 0 < 2 ^ 31) × (N (get_or words v 0) ≡ true) × (get_or words v 0 < length nodes) × StandsIn k nodes N leaves L (node_at nodes (get_or words v 0)) (b - j) (part p f)) (λ g. (g < 2 ^ 16) × (get_or words v 0 ≡ 2 ^ 31 + g)))
    (sym (one_answer_part b (b - j) f h p n e)) (small, w v l)

side_same : (b d h : ℕ) (bit : Bool) (f : List Bool → ℕ) → suc b ≡ d → one_answer d f ≡ Some h → one_answer b (side bit f) ≡ Some h
side_same b d h bit f s e = one_answer_part d b f h (bit ∷ []) (omega arith) e

pub no_trie_nodes : (j k d b h : ℕ) (f : List Bool → ℕ) → j + d ≡ b → one_answer b f ≡ Some h → trie_nodes j k d f ≡ 0
unfolding trie_nodes
no_trie_nodes zero k d b h f s e =
    let same : d ≡ b = omega arith in
    let o : one_answer d f ≡ Some h = ap (λ n. one_answer n f) same ∙ e in
    omega (arith, ap mixed o, no_nodes k d h f o)
no_trie_nodes (suc j) k d b h f s e = omega (arith, no_trie_nodes j k d (j + d) h (side false f) refl (side_same (j + d) b h false f (omega arith) e), no_trie_nodes j k d (j + d) h (side true f) refl (side_same (j + d) b h true f (omega arith) e))

pub no_trie_leaves : (j k d b h : ℕ) (f : List Bool → ℕ) → j + d ≡ b → one_answer b f ≡ Some h → trie_leaves j k d f ≡ 0
unfolding trie_leaves
no_trie_leaves zero k d b h f s e = let same : d ≡ b = omega arith in no_leaves k d h f (ap (λ n. one_answer n f) same ∙ e)
no_trie_leaves (suc j) k d b h f s e = omega (arith, no_trie_leaves j k d (j + d) h (side false f) refl (side_same (j + d) b h false f (omega arith) e), no_trie_leaves j k d (j + d) h (side true f) refl (side_same (j + d) b h true f (omega arith) e))

-- ---- two halves
pub words_halves : (j d k : ℕ) (f : List Bool → ℕ) (low high : List ℕ) (n1 n2 : List Node) (N0 N1 N2 : ℕ → Bool) (l1 l2 : List ℕ) (L0 L1 L2 : ℕ → Bool) → length low ≡ 2 ^ j → ((i : ℕ) → N0 i ≡ true → N1 i ≡ true) → ((i : ℕ) → L0 i ≡ true → L1 i ≡ true) → Keeps blank n1 N1 n2 N2 → Keeps 0 l1 L1 l2 L2 →
    WordsIn j low k n1 (since N0 N1) l1 (since L0 L1) d (side false f) → WordsIn j high k n2 (since N1 N2) l2 (since L1 L2) d (side true f) → WordsIn (suc j) (low ++ high) k n2 (since N0 N2) l2 (since L0 L2) d f
words_halves j d k f low high n1 n2 N0 N1 N2 l1 l2 L0 L1 L2 n sn sl kn kl a b v l =
    elim (cases_lt v (2 ^ j)) [
      | inl h ↦
          subst (λ (p : List Bool). WordIn (get_or (low ++ high) v 0) k n2 (since N0 N2) l2 (since L0 L2) d (part p f)) (sym (low_bits j v h))
          (subst (λ (w : ℕ). WordIn w k n2 (since N0 N2) l2 (since L0 L2) d (part (bits_of j v) (side false f))) (sym (get_or_append_left low high 0 v (omega arith)))
          (carry_word (get_or low v 0) k n1 n2 (since N0 N1) (since N0 N2) l1 l2 (since L0 L1) (since L0 L2) d (part (bits_of j v) (side false f)) (early blank n1 n2 N0 N1 N2 kn) (early 0 l1 l2 L0 L1 L2 kl) (a v h)))
      | inr h ↦
          let u = v - 2 ^ j in
          let is : v ≡ 2 ^ j + u = omega arith in
          let m : u < 2 ^ j = omega (arith, double j) in
          subst (λ (p : List Bool). WordIn (get_or (low ++ high) v 0) k n2 (since N0 N2) l2 (since L0 L2) d (part p f)) (sym (ap (bits_of (suc j)) is ∙ high_bits j u m))
          (subst (λ (w : ℕ). WordIn w k n2 (since N0 N2) l2 (since L0 L2) d (part (bits_of j u) (side true f))) (sym (get_or-append_right low high (2 ^ j) v 0 n h))
          (carry_word (get_or high u 0) k n2 n2 (since N1 N2) (since N0 N2) l2 l2 (since L1 L2) (since L0 L2) d (part (bits_of j u) (side true f)) (late blank n2 N0 N1 N2 sn) (late 0 l2 L0 L1 L2 sl) (b u m)))
    ]

-- ---- one node
up_one : up 1 ≡ 1
unfolding up up_from
up_one = refl

pub word_node : (b k p : ℕ) (f : List Bool → ℕ) (node : Node) (n2 n3 : List Node) (N0 N1 N2 N3 : ℕ → Bool) (l2 : List ℕ) (L0 L2 : ℕ → Bool) (len : ℕ) → one_answer b f ≡ None → TakesPlaces p (up 1) N0 N1 len → len ≡ length n2 → len ≤ 2 ^ 31 → ((i : ℕ) → N0 i ≡ true → N1 i ≡ true) → ((i : ℕ) → N1 i ≡ true → N2 i ≡ true) → n3 ≡ set n2 p node → N3 ≡ N2 →
    StandsIn k n2 (since N1 N2) l2 (since L0 L2) node b f → WordIn p k n3 (since N0 N3) l2 (since L0 L2) b f
word_node b k p f node n2 n3 N0 N1 N2 N3 l2 L0 L2 len none t long small s01 s12 c s s2 =
    let z : p + 0 ≡ p = omega arith in
    let one : 0 < up 1 = omega (arith, up_one) in
    let was : N0 p ≡ false = ap N0 (sym z) ∙ t.were 0 one in
    let is : N1 p ≡ true = ap N1 (sym z) ∙ t.are 0 one in
    let lt : p < len = omega (arith, t.within, up_one) in
    subst (λ (x : Option ℕ). BySlot x ((p < 2 ^ 31) × (since N0 N3 p ≡ true) × (p < length n3) × StandsIn k n3 (since N0 N3) l2 (since L0 L2) (node_at n3 p) b f) (λ g. (g < 2 ^ 16) × (p ≡ 2 ^ 31 + g))) (sym none) (
      omega arith,
      since_from (N0 p) (N3 p) (ap (λ (o : ℕ → Bool). o p) s ∙ s12 p is) was,
      omega (arith, ap length c, length-set n2 p node, long),
      subst (λ (m : Node). StandsIn k n3 (since N0 N3) l2 (since L0 L2) m b f) (sym (ap (λ x. node_at x p) c ∙ get_or-set_same n2 p node blank (omega arith)))
          (carry k n2 n3 (since N1 N2) (since N0 N3) l2 l2 (since L0 L2) (since L0 L2) node b f
          (record {
            inside = λ i q. since_from (N0 i) (N3 i) (ap (λ (o : ℕ → Bool). o i) s ∙ since_now (N1 i) (N2 i) q) (not_before (N0 i) (N1 i) (s01 i) (since_not (N1 i) (N2 i) q));
            same = λ i q. ap (λ x. get_or x i blank) c ∙ get_or-set_other n2 p i node blank (apart N1 i p (since_not (N1 i) (N2 i) q) is);
            long = ap length c ∙ length-set n2 p node;
          })
          (record { inside = λ i q. q; same = λ i q. refl; long = refl })
          s2),
    )

pub one_nodes : (k d x y z : ℕ) (f : List Bool → ℕ) → one_answer d f ≡ None → y + up 1 ≡ z → x + need_nodes k d f ≡ y → x + trie_nodes 0 k d f ≡ z
unfolding trie_nodes
one_nodes k d x y z f none t e = omega (arith, up_one, ap mixed none)

pub one_leaves : (k d x z : ℕ) (f : List Bool → ℕ) → x + need_leaves k d f ≡ z → x + trie_leaves 0 k d f ≡ z
unfolding trie_leaves
one_leaves k d x z f e = e

pub one_refused : (k d x : ℕ) (f : List Bool → ℕ) → one_answer d f ≡ None → x < up 1 → trie_nodes 0 k d f ≤ x → ⊥
unfolding trie_nodes
one_refused k d x f none l h = omega (arith, up_one, ap mixed none)

pub one_fits : (k d x y : ℕ) (f : List Bool → ℕ) → one_answer d f ≡ None → y + up 1 ≡ x → trie_nodes 0 k d f ≤ x → need_nodes k d f ≤ y
unfolding trie_nodes
one_fits k d x y f none e h = omega (arith, up_one, ap mixed none)

pub one_fits_leaves : (k d x : ℕ) (f : List Bool → ℕ) → trie_leaves 0 k d f ≤ x → need_leaves k d f ≤ x
unfolding trie_leaves
one_fits_leaves k d x f h = h

pub first_out : (p len : ℕ) (old new : ℕ → Bool) → TakesPlaces p (up 1) old new len → (old p ≡ false) × (new p ≡ true) × (p < len)
first_out p len old new t =
    let z : p + 0 ≡ p = omega arith in
    let one : 0 < up 1 = omega (arith, up_one) in
    (ap old (sym z) ∙ t.were 0 one, ap new (sym z) ∙ t.are 0 one, omega (arith, t.within, up_one))

pub small_len : {T : Type 0} (s : Space T) → IsSized s → length s.cells ≤ 2 ^ 31
small_len s z = let m : 2 ^ s.order ≤ 2 ^ 31 = pow_mono {i = s.order} {j = 31} (omega (arith, z.small)) in omega (arith, z.cells)

pub word_zero : (j b k word : ℕ) (f : List Bool → ℕ) (words : List ℕ) (nodes : List Node) (N : ℕ → Bool) (leaves : List ℕ) (L : ℕ → Bool) → j ≡ 0 → length words ≡ 2 ^ j → WordIn word k nodes N leaves L b f → WordsIn j (set words 0 word) k nodes N leaves L (b - j) f
unfolding bits_of
word_zero j b k word f words nodes N leaves L z n w v l =
    let one : 2 ^ j ≡ 1 = ap (λ i. 2 ^ i) z in
    let v0 : 0 ≡ v = omega arith in
    let d : b ≡ b - j = omega arith in
    subst (λ (i : ℕ). WordIn (get_or (set words 0 word) i 0) k nodes N leaves L (b - j) (part (bits_of j i) f)) v0
    (subst (λ (x : ℕ). WordIn x k nodes N leaves L (b - j) (part (bits_of j 0) f)) (sym (get_or-set_same words 0 word 0 (omega arith)))
    (subst (λ (i : ℕ). WordIn word k nodes N leaves L (b - j) (part (bits_of i 0) f)) (sym z)
    (subst (λ (x : ℕ). WordIn word k nodes N leaves L x f) d w)))

-- ---- halves as the code has them
module _ (j b e e2 k : ℕ) (f g h : List Bool → ℕ) (some : j ≢ 0) (le : j ≤ b) (eb : e + 1 ≡ b) (eb2 : e2 + 1 ≡ b) (ge : g ≡ side false f) (he : h ≡ side true f) where
  d1 : e - (j - 1) ≡ b - j
  d1 = omega arith

  d2 : e2 - (j - 1) ≡ b - j
  d2 = omega arith

  up_j : suc (j - 1) ≡ j
  up_j = omega arith

  pub split_nodes : trie_nodes j k (b - j) f ≡ trie_nodes (j - 1) k (e - (j - 1)) g + trie_nodes (j - 1) k (e2 - (j - 1)) h
  unfolding trie_nodes
  split_nodes =
      sym (ap (λ i. trie_nodes i k (b - j) f) up_j)
      ∙ sym (ap (λ x. x + trie_nodes (j - 1) k (e2 - (j - 1)) h) (ap (λ x. trie_nodes (j - 1) k x g) d1 ∙ ap (trie_nodes (j - 1) k (b - j)) ge) ∙ ap (λ x. trie_nodes (j - 1) k (b - j) (side false f) + x) (ap (λ x. trie_nodes (j - 1) k x h) d2 ∙ ap (trie_nodes (j - 1) k (b - j)) he))

  pub split_leaves : trie_leaves j k (b - j) f ≡ trie_leaves (j - 1) k (e - (j - 1)) g + trie_leaves (j - 1) k (e2 - (j - 1)) h
  unfolding trie_leaves
  split_leaves =
      sym (ap (λ i. trie_leaves i k (b - j) f) up_j)
      ∙ sym (ap (λ x. x + trie_leaves (j - 1) k (e2 - (j - 1)) h) (ap (λ x. trie_leaves (j - 1) k x g) d1 ∙ ap (trie_leaves (j - 1) k (b - j)) ge) ∙ ap (λ x. trie_leaves (j - 1) k (b - j) (side false f) + x) (ap (λ x. trie_leaves (j - 1) k x h) d2 ∙ ap (trie_leaves (j - 1) k (b - j)) he))

  pub split_words : (low high : List ℕ) (n1 n2 : List Node) (N0 N1 N2 : ℕ → Bool) (l1 l2 : List ℕ) (L0 L1 L2 : ℕ → Bool) → length low ≡ 2 ^ (j - 1) → ((i : ℕ) → N0 i ≡ true → N1 i ≡ true) → ((i : ℕ) → L0 i ≡ true → L1 i ≡ true) → Keeps blank n1 N1 n2 N2 → Keeps 0 l1 L1 l2 L2 →
      WordsIn (j - 1) low k n1 (since N0 N1) l1 (since L0 L1) (e - (j - 1)) g → WordsIn (j - 1) high k n2 (since N1 N2) l2 (since L1 L2) (e2 - (j - 1)) h → WordsIn j (low ++ high) k n2 (since N0 N2) l2 (since L0 L2) (b - j) f
  split_words low high n1 n2 N0 N1 N2 l1 l2 L0 L1 L2 n sn sl kn kl x y =
      subst (λ (i : ℕ). WordsIn i (low ++ high) k n2 (since N0 N2) l2 (since L0 L2) (b - j) f) up_j
      (words_halves (j - 1) (b - j) k f low high n1 n2 N0 N1 N2 l1 l2 L0 L1 L2 n sn sl kn kl
      (subst (λ (t : ℕ). WordsIn (j - 1) low k n1 (since N0 N1) l1 (since L0 L1) t (side false f)) d1 (subst (λ (t : List Bool → ℕ). WordsIn (j - 1) low k n1 (since N0 N1) l1 (since L0 L1) (e - (j - 1)) t) ge x))
      (subst (λ (t : ℕ). WordsIn (j - 1) high k n2 (since N1 N2) l2 (since L1 L2) t (side true f)) d2 (subst (λ (t : List Bool → ℕ). WordsIn (j - 1) high k n2 (since N1 N2) l2 (since L1 L2) (e2 - (j - 1)) t) he y)))

module _ (j b e k x : ℕ) (f g : List Bool → ℕ) (some : j ≢ 0) (le : j ≤ b) (eb : e + 1 ≡ b) (ge : g ≡ side false f) where
  pub low_nodes : trie_nodes j k (b - j) f ≤ x → trie_nodes (j - 1) k (e - (j - 1)) g ≤ x
  low_nodes h = omega (arith, split_nodes j b e e k f g (side true f) some le eb eb ge refl)

  pub low_leaves : trie_leaves j k (b - j) f ≤ x → trie_leaves (j - 1) k (e - (j - 1)) g ≤ x
  low_leaves h = omega (arith, split_leaves j b e e k f g (side true f) some le eb eb ge refl)

-- ---- needs as they are told
pub zero_nodes : (j k b d x : ℕ) (f : List Bool → ℕ) → j ≡ 0 → d ≡ b - j → one_answer b f ≡ None → x ≡ need_in_u64 (need_nodes k b f) → min (x + 1) 18446744073709551615 ≡ need_in_u64 (trie_nodes j k d f)
unfolding trie_nodes
zero_nodes j k b d x f z e none i =
    let s : d ≡ b = omega arith in
    let t : trie_nodes j k d f ≡ mixed (one_answer b f) + need_nodes k b f = ap (λ n. trie_nodes n k d f) z ∙ ap (λ n. mixed (one_answer n f) + need_nodes k n f) s in
    omega (arith, i, t, ap mixed none)

pub zero_leaves : (j k b d x : ℕ) (f : List Bool → ℕ) → j ≡ 0 → d ≡ b - j → x ≡ need_in_u64 (need_leaves k b f) → x ≡ need_in_u64 (trie_leaves j k d f)
unfolding trie_leaves
zero_leaves j k b d x f z e i =
    let s : d ≡ b = omega arith in
    i ∙ ap need_in_u64 (sym (ap (λ n. trie_leaves n k d f) z ∙ ap (λ n. need_leaves k n f) s))

pub told_none : (n : ℕ) → n ≡ 0 → 0 ≡ need_in_u64 n
told_none n e = omega (arith, e)

pub told_sum : (n a b x y : ℕ) → n ≡ a + b → x ≡ need_in_u64 a → y ≡ need_in_u64 b → min (x + y) 18446744073709551615 ≡ need_in_u64 n
told_sum n a b x y e i j = omega (arith, e, i, j)

-- a call that was refused says nothing of what stands
pub never : {A : Type 0} → false ≡ true → A
never e = absurd (let n : ⊥ = cc in n)
