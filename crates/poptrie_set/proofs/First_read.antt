-- The direct word of an address, and what it leads to.
use Rattle.std.proofs.Common.{◌≡◌, ℕ, zero, suc, ◌+◌, ◌-◌, ◌*◌, ◌/◌, ◌^◌, ◌<◌, ◌≤◌, List, ◌++◌, Bool, true, false, cond, length, take, drop, get_or, refl, sym, ap, ◌∙◌, arith, subst}
use Rattle.std.proofs.lemmas.List.{take-append-drop}
use Rattle.table_model.specs.Bits.{bits_of}
use Rattle.table_model.specs.Width.{width}
use Rattle.table_model.specs.declared.family.Family.{Family}
use Rattle.fib_addr.specs.declared.addr.Addr.{Addr}
use Rattle.fib_addr.specs.Views.{addr_as}
use Rattle.table_model.specs.Entries.{Entries, match_in}
use Rattle.fib_addr.specs.Answers.{all_answers, part}
use Rattle.poptrie_build.specs.Keys.{key_as}
use Rattle.poptrie_build.specs.Strides.{strides, visits, trie_visits, address}
use Rattle.poptrie_build.specs.Stands.{TrieStands}
use Rattle.poptrie_build.specs.Tries.{rest, visits_of}
use Rattle.poptrie_build.specs.declared.node.Node.{Node}
use Rattle.poptrie_build.proofs.Bits.{short}
use Rattle.poptrie_build.proofs.Filled.{region_of, key_is, at_most_128}
use Rattle.poptrie_build.proofs.Walk.{default_same}
use Rattle.poptrie_build.proofs.Word.{direct_hop, slot_by}
use Rattle.poptrie_set.specs.Rooms.{safe}
use Rattle.poptrie_set.specs.Lives.{Seen, ShowsIn, Store, stores_cover}
use Rattle.poptrie_set.specs.Reading.{ReadsOn, LeadsOn, LeadsIn, bits_after}
use Rattle.poptrie_set.specs.declared.reading.At.{At}
use Rattle.poptrie_set.specs.declared.reading.At.TheVariants as at
use Rattle.poptrie_set.specs.First.{slot_of, published_in}
use Rattle.poptrie_set.proofs.Key_bits.{wide, slot_bits_of, slot_key, slot_below, length_rest, drop_next}
use Rattle.poptrie_set.proofs.First_go.{reads_before, reads_after}

-- ---- the answers and the visits of an address
module _ (f : Family) (s : ℕ) (E : Entries) (a : Addr) (fam : a.family ≡ f) (few : s ≤ 32) where
  pub sum : s + rest f s ≡ width f
  sum = omega (arith, few, wide f)

  pub within : s + rest f s ≤ 128
  within = omega (arith, sum, at_most_128 f)

  bits_are : address (s + rest f s) (key_as a) ≡ (addr_as a).bits
  bits_are = ap (λ n. address n (key_as a)) (sum ∙ ap width (sym fam)) ∙ key_is (width a.family) a.bits (at_most_128 a.family)

  pub hop_are : all_answers f E (address (s + rest f s) (key_as a)) ≡ match_in E (addr_as a)
  hop_are = ap (all_answers f E) bits_are ∙ ap (λ (g : Family). all_answers g E (addr_as a).bits) (sym fam)

  pub visits_are : trie_visits s (strides (rest f s)) (rest f s) (all_answers f E) (address (s + rest f s) (key_as a)) ≡ visits_of s E (addr_as a)
  visits_are = ap (trie_visits s (strides (rest f s)) (rest f s) (all_answers f E)) bits_are ∙ ap (λ (g : Family). trie_visits s (strides (rest g s)) (rest g s) (all_answers g E) (addr_as a).bits) (sym fam)

  slot_part : (bits : List Bool) → part (bits_of s (slot_of s a)) (all_answers f E) bits ≡ part (take s (addr_as a).bits) (all_answers f E) bits
  slot_part bits = ap (λ p. part p (all_answers f E) bits) (slot_bits_of a s few)

  none : s + 6 * 0 ≡ s
  none = omega arith

  pub reads_are : (nodes : List Node) (N : ℕ → Bool) (leaves : List ℕ) (L : ℕ → Bool) (word : ℕ) → ReadsOn (visits (strides (rest f s)) (rest f s) (part (bits_of s (slot_of s a)) (all_answers f E)) (bits_after s 0 a)) nodes N leaves L word (bits_after s 0 a) (part (bits_of s (slot_of s a)) (all_answers f E) (bits_after s 0 a)) → ReadsOn (visits_of s E (addr_as a)) nodes N leaves L word (bits_after s 0 a) (match_in E (addr_as a))
  reads_are nodes N leaves L word r =
      let bits = (addr_as a).bits in
      let visits_is : visits (strides (rest f s)) (rest f s) (part (bits_of s (slot_of s a)) (all_answers f E)) (bits_after s 0 a) ≡ visits_of s E (addr_as a) =
      ap (λ (p : List Bool). visits (strides (rest f s)) (rest f s) (part p (all_answers f E)) (bits_after s 0 a)) (slot_bits_of a s few)
      ∙ (ap (λ (n : ℕ). visits (strides (rest f s)) (rest f s) (part (take s bits) (all_answers f E)) (drop n bits)) none
      ∙ ap (λ (g : Family). trie_visits s (strides (rest g s)) (rest g s) (all_answers g E) bits) (sym fam)) in
      let hop_is : part (bits_of s (slot_of s a)) (all_answers f E) (bits_after s 0 a) ≡ match_in E (addr_as a) =
      slot_part (bits_after s 0 a)
      ∙ (ap (λ (n : ℕ). all_answers f E (take s bits ++ drop n bits)) none
      ∙ (ap (all_answers f E) (take-append-drop s bits)
      ∙ ap (λ (g : Family). all_answers g E bits) (sym fam))) in
      subst (λ (v : ℕ). ReadsOn v nodes N leaves L word (bits_after s 0 a) (match_in E (addr_as a))) visits_is
      (subst (λ (h : ℕ). ReadsOn (visits (strides (rest f s)) (rest f s) (part (bits_of s (slot_of s a)) (all_answers f E)) (bits_after s 0 a)) nodes N leaves L word (bits_after s 0 a) h) hop_is r)

  pub hop_read : (direct : List ℕ) (nodes : List Node) (leaves : List ℕ) → TrieStands s direct (strides (rest f s)) nodes leaves (rest f s) (all_answers f E) → key_as a < 2 ^ 128 → 2 ^ 31 ≤ get_or direct (slot_of s a) 0 → (get_or direct (slot_of s a) 0 - 2 ^ 31 < 2 ^ 16) × (get_or direct (slot_of s a) 0 - 2 ^ 31 ≡ match_in E (addr_as a)) × (visits_of s E (addr_as a) ≡ 0)
  hop_read direct nodes leaves t small big =
      let slot = slot_key a s few small in
      let h = direct_hop s direct nodes leaves (region_of f s E) (key_as a) within small t (subst (λ (v : ℕ). 2 ^ 31 ≤ get_or direct v 0) slot big) in
      subst (λ (v : ℕ). (get_or direct v 0 - 2 ^ 31 < 2 ^ 16) × (get_or direct v 0 - 2 ^ 31 ≡ match_in E (addr_as a)) × (visits_of s E (addr_as a) ≡ 0)) (sym slot) (h.small, h.hop ∙ hop_are, sym (h.none ∙ visits_are))

-- ---- the word that is published
made_some : (n : ℕ) (xs : List Store) (v : ℕ) → stores_cover (take n xs) v ≡ true → (m : ℕ) × (n ≡ suc m)
made_some zero xs v e = cc
made_some (suc m) xs v e = (m, refl)

module _ (l : Seen) (L M : Entries) (sh : ShowsIn l L M) (a : Addr) (fam : a.family ≡ l.family) (few : l.direct_bits ≤ 32) (small : key_as a < 2 ^ 128) where
  abbrev v : ℕ
  v = slot_of l.direct_bits a

  below : v < 2 ^ l.direct_bits
  below = slot_below a l.direct_bits few small

  ahead : length (bits_after l.direct_bits 0 a) ≡ rest l.family l.direct_bits
  ahead = length_rest a l.direct_bits few ∙ ap (λ (f : Family). rest f l.direct_bits) fam

  pub node_starts : (word : ℕ) → word ≡ get_or l.words v 0 → word < 2 ^ 31 → (since : ℕ) → ReadsOn (visits_of l.direct_bits (published_in l L M a) (addr_as a)) l.nodes.space.cells (safe l.nodes l.made since) l.leaves.space.cells (safe l.leaves l.made since) word (bits_after l.direct_bits 0 a) (match_in (published_in l L M a) (addr_as a))
  node_starts word is low since = by (stores_cover (take l.made l.stores) v) refl
    where
      by : (c : Bool) → stores_cover (take l.made l.stores) v ≡ c → ReadsOn (visits_of l.direct_bits (cond c M L) (addr_as a)) l.nodes.space.cells (safe l.nodes l.made since) l.leaves.space.cells (safe l.leaves l.made since) word (bits_after l.direct_bits 0 a) (match_in (cond c M L) (addr_as a))
      by false e =
          let w : word ≡ get_or sh.0 v 0 = is ∙ sh.2.unstored v below e in
          subst (λ (x : ℕ). ReadsOn (visits_of l.direct_bits L (addr_as a)) l.nodes.space.cells (safe l.nodes l.made since) l.leaves.space.cells (safe l.leaves l.made since) x (bits_after l.direct_bits 0 a) (match_in L (addr_as a))) (sym w)
          (reads_are l.family l.direct_bits L a fam few l.nodes.space.cells (safe l.nodes l.made since) l.leaves.space.cells (safe l.leaves l.made since) (get_or sh.0 v 0) (reads_before l L M sh.0 sh.1 sh.2 since v (bits_after l.direct_bits 0 a) below ahead (omega (arith, w))))
      by true e =
          let w : word ≡ get_or sh.1 v 0 = is ∙ sh.2.stored v below e in
          let m = made_some l.made l.stores v e in
          subst (λ (n : ℕ). ReadsOn (visits_of l.direct_bits M (addr_as a)) l.nodes.space.cells (safe l.nodes n since) l.leaves.space.cells (safe l.leaves n since) word (bits_after l.direct_bits 0 a) (match_in M (addr_as a))) (sym m.1)
          (subst (λ (x : ℕ). ReadsOn (visits_of l.direct_bits M (addr_as a)) l.nodes.space.cells (safe l.nodes (suc m.0) since) l.leaves.space.cells (safe l.leaves (suc m.0) since) x (bits_after l.direct_bits 0 a) (match_in M (addr_as a))) (sym w)
          (reads_are l.family l.direct_bits M a fam few l.nodes.space.cells (safe l.nodes (suc m.0) since) l.leaves.space.cells (safe l.leaves (suc m.0) since) (get_or sh.1 v 0) (reads_after l L M sh.0 sh.1 sh.2 since v (bits_after l.direct_bits 0 a) below ahead m.0 (omega (arith, w)))))

  pub hop_starts : (word : ℕ) → word ≡ get_or l.words v 0 → 2 ^ 31 ≤ word → (word - 2 ^ 31 < 2 ^ 16) × (word - 2 ^ 31 ≡ match_in (published_in l L M a) (addr_as a)) × (visits_of l.direct_bits (published_in l L M a) (addr_as a) ≡ 0)
  hop_starts word is big = by (stores_cover (take l.made l.stores) v) refl
    where
      by : (c : Bool) → stores_cover (take l.made l.stores) v ≡ c → (word - 2 ^ 31 < 2 ^ 16) × (word - 2 ^ 31 ≡ match_in (cond c M L) (addr_as a)) × (visits_of l.direct_bits (cond c M L) (addr_as a) ≡ 0)
      by false e =
          let w : word ≡ get_or sh.0 v 0 = is ∙ sh.2.unstored v below e in
          subst (λ (x : ℕ). (x - 2 ^ 31 < 2 ^ 16) × (x - 2 ^ 31 ≡ match_in L (addr_as a)) × (visits_of l.direct_bits L (addr_as a) ≡ 0)) (sym w)
          (hop_read l.family l.direct_bits L a fam few sh.0 l.nodes.space.cells l.leaves.space.cells sh.2.before.words small (omega (arith, w)))
      by true e =
          let w : word ≡ get_or sh.1 v 0 = is ∙ sh.2.stored v below e in
          subst (λ (x : ℕ). (x - 2 ^ 31 < 2 ^ 16) × (x - 2 ^ 31 ≡ match_in M (addr_as a)) × (visits_of l.direct_bits M (addr_as a) ≡ 0)) (sym w)
          (hop_read l.family l.direct_bits M a fam few sh.1 l.nodes.space.cells l.leaves.space.cells sh.2.after.words small (omega (arith, w)))

-- the word that the code reads is that of the address's slot
pub word_read : (s : ℕ) (words : List ℕ) (key : ℕ) (a : Addr) (word : ℕ) → s ≤ 18 → key ≡ key_as a → word ≡ get_or words (key / 2 / 2 ^ (127 - s)) word → length words ≡ 2 ^ s → key < 2 ^ 128 → word ≡ get_or words (slot_of s a) 0
word_read s words key a word few k r len small =
    let same = slot_by s key (omega arith) in
    let b = short key s small (omega arith) in
    let slot = slot_key a s (omega (arith, few)) (subst (λ (x : ℕ). x < 2 ^ 128) k small) in
    r
    ∙ (ap (λ (i : ℕ). get_or words i word) same
    ∙ (default_same words (key / 2 ^ (128 - s)) word 0 (omega arith)
    ∙ (ap (λ (k : ℕ). get_or words (k / 2 ^ (128 - s)) 0) k
    ∙ ap (λ (i : ℕ). get_or words i 0) (sym slot))))

-- ---- the next one
pub leads_at : (r : At) (left : ℕ) (nodes : List Node) (N : ℕ → Bool) (leaves : List ℕ) (L : ℕ → Bool) (s stride : ℕ) (a : Addr) (h : ℕ) → LeadsOn r left nodes N leaves L stride (bits_after s stride a) h → LeadsIn r left nodes N leaves L s stride a h
leads_at (at.Node i t) left nodes N leaves L s stride a h l = (l.0, (l.1.0, l.1.1, subst (λ (b : List Bool). ReadsOn l.1.0 nodes N leaves L i b h) (drop_next s stride a ∙ ap (λ n. bits_after s n a) (sym l.0)) l.1.2))
leads_at (at.Answer g) left nodes N leaves L s stride a h l = l
