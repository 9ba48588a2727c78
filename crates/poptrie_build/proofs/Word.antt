-- The direct word of a key.
use Rattle.std.proofs.Common.{◌≡◌, ℕ, ◌+◌, ◌-◌, ◌*◌, ◌/◌, ◌%◌, ◌^◌, ◌<◌, ◌≤◌, List, Bool, Option, Some, None, length, get_or, refl, sym, ap, ◌∙◌, arith, subst, inl, inr}
use Rattle.std.specs.Prelude.{◌⊎◌}
use Rattle.std.proofs.Math.Pow.{pow_mono}
use Rattle.std.proofs.lemmas.Nat.{shr-shr}
use Rattle.fib_addr.specs.Answers.{part, one_answer}
use Rattle.poptrie_build.specs.Strides.{Region, trie_visits, address}
use Rattle.poptrie_build.specs.Stands.{Stands, BySlot, TrieStands, WordStands}
use Rattle.poptrie_build.specs.declared.node.Node.{Node}
use Rattle.poptrie_build.proofs.Bits.{bits_take, short}
use Rattle.poptrie_build.proofs.Address.{length_address, whole}
use Rattle.fib_addr.proofs.OneAnswer.{one_answer_is}
use Rattle.poptrie_build.proofs.Visits.{visits_none}
use Rattle.poptrie_build.proofs.Walk.{below_visits}

pub slot_within : (s : ℕ) (direct : List ℕ) (k : ℕ) (nodes : List Node) (leaves : List ℕ) (d : ℕ) (f : List Bool → ℕ) (key : ℕ) → s + d ≤ 128 → key < 2 ^ 128 → TrieStands s direct k nodes leaves d f → key / 2 ^ (128 - s) < length direct
slot_within s direct k nodes leaves d f key h l t = let b = short key s l (omega arith) in let e = t.words in omega arith

pub slot_small : (s key : ℕ) → s < 32 → key < 2 ^ 128 → key / 2 ^ (128 - s) < 2 ^ 31
slot_small s key h l = let b = short key s l (omega arith) in let m : 2 ^ s ≤ 2 ^ 31 = pow_mono {i = s} {j = 31} (omega arith) in omega arith

word_is : (s : ℕ) (direct : List ℕ) (k : ℕ) (nodes : List Node) (leaves : List ℕ) (d : ℕ) (f : List Bool → ℕ) (key : ℕ) → s + d ≤ 128 → key < 2 ^ 128 → TrieStands s direct k nodes leaves d f → WordStands (get_or direct (key / 2 ^ (128 - s)) 0) k nodes leaves d (part (address s key) f)
word_is s direct k nodes leaves d f key h l t =
    subst (λ (p : List Bool). WordStands (get_or direct (key / 2 ^ (128 - s)) 0) k nodes leaves d (part p f)) (sym (bits_take 128 s key (omega arith))) (t.each (key / 2 ^ (128 - s)) (short key s l (omega arith)))

by_word : (x : Option ℕ) (P : Type 0) (Q : ℕ → Type 0) → BySlot x P Q → ((x ≡ None) × P) ⊎ ((h : ℕ) × (x ≡ Some h) × Q h)
by_word None P Q b = inl (refl, b)
by_word (Some h) P Q b = inr (h, refl, b)

pub record Hop (word s k d : ℕ) (f : List Bool → ℕ) (key : ℕ) : Type 0 where
  pub small : word - 2 ^ 31 < 2 ^ 16
  pub hop : word - 2 ^ 31 ≡ f (address (s + d) key)
  pub none : 0 ≡ trie_visits s k d f (address (s + d) key)

pub direct_hop : (s : ℕ) (direct : List ℕ) (nodes : List Node) (leaves : List ℕ) (region : Region) (key : ℕ) → s + region.bits ≤ 128 → key < 2 ^ 128 → TrieStands s direct region.strides nodes leaves region.bits region.answers → 2 ^ 31 ≤ get_or direct (key / 2 ^ (128 - s)) 0 →
    Hop (get_or direct (key / 2 ^ (128 - s)) 0) s region.strides region.bits region.answers key
direct_hop s direct nodes leaves region key h l t big =
    by (by_word (one_answer region.bits (part (address s key) region.answers)) _ _ (word_is s direct region.strides nodes leaves region.bits region.answers key h l t))
  where
    by : ((one_answer region.bits (part (address s key) region.answers) ≡ None) × ((get_or direct (key / 2 ^ (128 - s)) 0 < 2 ^ 31) × Stands region.strides nodes leaves (get_or direct (key / 2 ^ (128 - s)) 0) region.bits (part (address s key) region.answers))) ⊎ ((h : ℕ) × (one_answer region.bits (part (address s key) region.answers) ≡ Some h) × ((h < 2 ^ 16) × (get_or direct (key / 2 ^ (128 - s)) 0 ≡ 2 ^ 31 + h))) → Hop (get_or direct (key / 2 ^ (128 - s)) 0) s region.strides region.bits region.answers key
    by (inl (n, (small, st))) = absurd (omega arith)
    by (inr (g, e, (small, w))) =
        let d = region.bits in
        let rest = address d (key * 2 ^ s % 2 ^ 128) in
        let len : length rest ≡ d = length_address d (key * 2 ^ s % 2 ^ 128) (omega arith) in
        let one : part (address s key) region.answers rest ≡ g = one_answer_is d (part (address s key) region.answers) g e rest len in
        let is : get_or direct (key / 2 ^ (128 - s)) 0 - 2 ^ 31 ≡ g = omega arith in
        record {
          small = omega arith;
          hop = is ∙ (sym one ∙ ap region.answers (whole s d key h));
          none = sym (visits_none region.strides d (part (address s key) region.answers) g rest len e) ∙ below_visits region s key h;
        }

pub direct_node : (s : ℕ) (direct : List ℕ) (nodes : List Node) (leaves : List ℕ) (region : Region) (key : ℕ) → s + region.bits ≤ 128 → key < 2 ^ 128 → TrieStands s direct region.strides nodes leaves region.bits region.answers → get_or direct (key / 2 ^ (128 - s)) 0 < 2 ^ 31 →
    Stands region.strides nodes leaves (get_or direct (key / 2 ^ (128 - s)) 0) region.bits (part (address s key) region.answers)
direct_node s direct nodes leaves region key h l t small =
    elim (by_word (one_answer region.bits (part (address s key) region.answers)) _ _ (word_is s direct region.strides nodes leaves region.bits region.answers key h l t)) [
      | inl (n, (b, st)) ↦ st
      | inr (g, e, (b, w)) ↦ absurd (omega arith)
    ]

-- ---- at the slot that i is
pub within_at : (i s : ℕ) (direct : List ℕ) (k : ℕ) (nodes : List Node) (leaves : List ℕ) (d : ℕ) (f : List Bool → ℕ) (key : ℕ) → i ≡ key / 2 ^ (128 - s) → s + d ≤ 128 → key < 2 ^ 128 → TrieStands s direct k nodes leaves d f → i < length direct
within_at i s direct k nodes leaves d f key e h l t = subst (λ (j : ℕ). j < length direct) (sym e) (slot_within s direct k nodes leaves d f key h l t)

pub small_at : (i s key : ℕ) → i ≡ key / 2 ^ (128 - s) → s < 32 → key < 2 ^ 128 → i < 2 ^ 31
small_at i s key e h l = subst (λ (j : ℕ). j < 2 ^ 31) (sym e) (slot_small s key h l)

pub hop_at : (i s : ℕ) (direct : List ℕ) (nodes : List Node) (leaves : List ℕ) (region : Region) (key : ℕ) → i ≡ key / 2 ^ (128 - s) → s + region.bits ≤ 128 → key < 2 ^ 128 → TrieStands s direct region.strides nodes leaves region.bits region.answers → 2 ^ 31 ≤ get_or direct i 0 → Hop (get_or direct i 0) s region.strides region.bits region.answers key
hop_at i s direct nodes leaves region key e h l t = subst (λ (j : ℕ). 2 ^ 31 ≤ get_or direct j 0 → Hop (get_or direct j 0) s region.strides region.bits region.answers key) (sym e) (direct_hop s direct nodes leaves region key h l t)

pub stands_at_word : (i s : ℕ) (direct : List ℕ) (nodes : List Node) (leaves : List ℕ) (region : Region) (key : ℕ) → i ≡ key / 2 ^ (128 - s) → s + region.bits ≤ 128 → key < 2 ^ 128 → TrieStands s direct region.strides nodes leaves region.bits region.answers → get_or direct i 0 < 2 ^ 31 → Stands region.strides nodes leaves (get_or direct i 0) region.bits (part (address s key) region.answers)
stands_at_word i s direct nodes leaves region key e h l t = subst (λ (j : ℕ). get_or direct j 0 < 2 ^ 31 → Stands region.strides nodes leaves (get_or direct j 0) region.bits (part (address s key) region.answers)) (sym e) (direct_node s direct nodes leaves region key h l t)

-- the slot by two shifts, which serves for no direct bits too
pub slot_by : (s key : ℕ) → s < 128 → key / 2 / 2 ^ (127 - s) ≡ key / 2 ^ (128 - s)
slot_by s key h = let e : 1 + (127 - s) ≡ 128 - s = omega arith in shr-shr key 1 (127 - s) ∙ ap (λ n. key / 2 ^ n) e

pub small_by : (s key : ℕ) → s < 32 → key < 2 ^ 128 → key / 2 / 2 ^ (127 - s) < 2 ^ 31
small_by s key h l = subst (λ (i : ℕ). i < 2 ^ 31) (sym (slot_by s key (omega arith))) (slot_small s key h l)

-- the node that a word is told to be
pub stands_at_root : (root i s : ℕ) (direct : List ℕ) (nodes : List Node) (leaves : List ℕ) (region : Region) (key : ℕ) → root ≡ get_or direct i 0 → i ≡ key / 2 ^ (128 - s) → s + region.bits ≤ 128 → key < 2 ^ 128 → TrieStands s direct region.strides nodes leaves region.bits region.answers → get_or direct i 0 < 2 ^ 31 → Stands region.strides nodes leaves root region.bits (part (address s key) region.answers)
stands_at_root root i s direct nodes leaves region key is e h l t small = subst (λ (n : ℕ). Stands region.strides nodes leaves n region.bits (part (address s key) region.answers)) (sym is) (stands_at_word i s direct nodes leaves region key e h l t small)

-- the hop that it is told to be
pub is_hop : (w hop s k d : ℕ) (f : List Bool → ℕ) (key : ℕ) → (w < 2 ^ 31 + 2 ^ 16 → w ≡ 2 ^ 31 + hop) → 2 ^ 31 ≤ w → Hop w s k d f key → hop ≡ f (address (s + d) key)
is_hop w hop s k d f key told big h =
    let small : w - 2 ^ 31 < 2 ^ 16 = h.small in
    let e : w ≡ 2 ^ 31 + hop = told (omega (arith, small)) in
    let is : hop ≡ w - 2 ^ 31 = omega (arith, e) in
    is ∙ h.hop
