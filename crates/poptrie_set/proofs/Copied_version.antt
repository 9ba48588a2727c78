-- The new version beside the old one, once the words of all slots are made anew.
use Rattle.std.proofs.Common.{◌≡◌, ℕ, ◌+◌, ◌*◌, ◌^◌, ◌<◌, ◌≤◌, List, [], ◌∷◌, ◌++◌, Bool, true, false, cond, nat_eq, length, get_or, set, refl, sym, ap, ◌∙◌, arith, subst, inl, inr}
use Rattle.std.specs.Prelude.{slice_index, ◌⊎◌, ◌||◌}
use Rattle.std.specs.List.{AllByRecursion}
use Rattle.std.proofs.Math.ListN.{length-set}
use Rattle.std.proofs.lemmas.List.{get_or-set_other, get_or-set_same}
use Rattle.std.proofs.lemmas.Bool.{cases_eq, cases_lt, eq-eqb, ne_eqb, eqb-false}
use Rattle.table_model.specs.Bits.{bits_of}
use Rattle.table_model.specs.declared.family.Family.{Family}
use Rattle.table_model.specs.Entries.{Entries}
use Rattle.buddy_arena.specs.Space.{Space}
use Rattle.buddy_arena.specs.Places.{count_free, is_out, since}
use Rattle.buddy_arena.specs.Arrays.{Array, AreApart, places_of}
use Rattle.buddy_arena.specs.Blocks.{Held, blocks_of}
use Rattle.buddy_arena.proofs.Parting.{part_right}
use Rattle.fib_addr.specs.Answers.{all_answers, part}
use Rattle.poptrie_build.specs.Strides.{strides}
use Rattle.poptrie_build.specs.Stands.{TrieStands, blank}
use Rattle.poptrie_build.specs.Arrays.{word_arrays, word_leaf_arrays}
use Rattle.poptrie_build.specs.Tries.{rest, node_need, leaf_need}
use Rattle.poptrie_build.specs.declared.node.Node.{Node}
use Rattle.poptrie_build.proofs.Filled.{words_stand, strides_do}
use Rattle.path_copying.specs.declared.slots.Store.{Store}
use Rattle.path_copying.specs.Changes.{Gains}
use Rattle.path_copying.specs.Words.{WordRow}
use Rattle.path_copying.specs.Stores.{stored, SlotsAscend, AreStores}
use Rattle.path_copying.proofs.Deeper.{word_deeper, trie_nodes_deeper, trie_leaves_deeper, words_fewer, word_leaves_fewer}
use Rattle.path_copying.proofs.Held.{words_held}
use Rattle.path_copying.proofs.Like.{like_under}
use Rattle.path_copying.proofs.Whole.{row_of, trie_of, nodes_of, leaves_of, nodes_filled, leaves_filled}
use Rattle.path_copying.proofs.Word_row.{words_same}
use Rattle.poptrie_set.specs.Renewals.{IsSpliced, Rebuilds}
use Rattle.poptrie_set.specs.Version.{IsVersion}
use Rattle.poptrie_set.specs.Lives.{Seen, Beside, stores_cover, stores_of}
use Rattle.poptrie_set.specs.Lives.{Store as Stored}
use Rattle.poptrie_set.proofs.Kept.{Grows}
use Rattle.poptrie_set.proofs.Prepared.{prepared, prepare_shows}

-- ---- the words once all are stored
abbrev pub applied : List Store → List ℕ → List ℕ
applied [] words = words
applied (s ∷ stores) words = set (applied stores words) s.slot s.word

pub applied_long : (stores : List Store) (words : List ℕ) → length (applied stores words) ≡ length words
applied_long [] words = refl
applied_long (s ∷ stores) words = length-set (applied stores words) s.slot s.word ∙ applied_long stores words

pub applied_at : (stores : List Store) (words : List ℕ) (u : ℕ) → u < length words → slice_index (applied stores words) u ≡ stored stores words u
applied_at [] words u l = refl
applied_at (s ∷ stores) words u l =
    elim (cases_eq u s.slot) [
      | inl e ↦
          let long = applied_long stores words in
          ap (λ i. get_or (set (applied stores words) s.slot s.word) i 0) e ∙ (get_or-set_same (applied stores words) s.slot s.word 0 (omega (arith, l, e, long)) ∙ sym (ap (λ (b : Bool). let r : ℕ = cond b s.word (stored stores words u) in r) (eq-eqb u s.slot e)))
      | inr ne ↦ get_or-set_other (applied stores words) s.slot u s.word 0 ne ∙ (applied_at stores words u l ∙ sym (ap (λ (b : Bool). let r : ℕ = cond b s.word (stored stores words u) in r) (ne_eqb u s.slot ne)))
    ]

-- the words of a version are a row, over any number of strides that is enough
pub version_row : (f : Family) (s : ℕ) (nodes : Space Node) (leaves : Space ℕ) (direct : List ℕ) (L : Entries) (x y : List Array) → IsVersion f s nodes leaves direct L x y → (k : ℕ) → strides (rest f s) ≤ k → WordRow k (2 ^ s) nodes leaves (stored [] direct) (rest f s) (λ u. part (bits_of s u) (all_answers f L)) x y (2 ^ nodes.order) (2 ^ leaves.order)
version_row f s nodes leaves direct L x y v k le =
    let d = rest f s in
    let most = strides d in
    let enough : d ≤ 6 * most = omega (arith, strides_do d) in
    let held = words_held s most direct nodes.cells leaves.cells (is_out nodes.free) (is_out leaves.free) d (all_answers f L) v.words (part_right (is_out nodes.free) x _ (v.nodes_apart most)) (part_right (is_out leaves.free) y _ (v.leaves_apart most)) in
    let deep : TrieStands s direct k nodes.cells leaves.cells d (all_answers f L) = words_stand s k d (all_answers f L) direct nodes.cells (is_out nodes.free) leaves.cells (is_out leaves.free) v.words.words (λ u l. word_deeper most k nodes.cells (is_out nodes.free) leaves.cells (is_out leaves.free) (slice_index direct u) d (part (bits_of s u) (all_answers f L)) le (held u l)) in
    row_of k s d nodes leaves direct (all_answers f L) x y (2 ^ nodes.order) (2 ^ leaves.order) deep (v.nodes_apart k) (v.leaves_apart k)
    (omega (arith, v.nodes_fill, trie_nodes_deeper s most k d (all_answers f L) enough le))
    (omega (arith, v.leaves_fill, trie_leaves_deeper s most k d (all_answers f L) enough le))

-- ---- the words made anew
module _ (f : Family) (s : ℕ) (nodes nodes2 : Space Node) (nb nb2 : Held) (leaves leaves2 : Space ℕ) (lb lb2 : Held) (direct : List ℕ) (stores : List Store) (L M : Entries) (x y : List Array) (v : IsVersion f s nodes leaves direct L x y) (gn : Gains blank nodes nb nodes2 nb2) (gl : Gains 0 leaves lb leaves2 lb2) (rn : nb.replaced ≡ []) (rl : lb.replaced ≡ [])
    (p : List Bool) (F : List Bool → ℕ) (merges : IsSpliced p s (rest f s) F (λ u. part (bits_of s u) (all_answers f L)) (all_answers f M)) (re : Rebuilds nodes nb leaves lb (stored [] direct) nodes2 nb2 leaves2 lb2 (stored stores direct) p s (rest f s) F) where
  abbrev d : ℕ
  d = rest f s

  abbrev most : ℕ
  most = strides d

  enough : d ≤ 6 * most
  enough = omega (arith, strides_do d)

  -- over any number of strides that is enough
  new_row : (k : ℕ) → most ≤ k → WordRow k (2 ^ s) nodes2 leaves2 (λ u. slice_index (applied stores direct) u) d (λ u. part (bits_of s u) (all_answers f M)) (nb2.replaced ++ x) (lb2.replaced ++ y) (2 ^ nodes.order) (2 ^ leaves.order)
  new_row k le =
      let h : ℕ → List Bool → ℕ = λ u. part (bits_of s u) (all_answers f L) in
      let row = subst (λ (z : List Array). WordRow k (2 ^ s) nodes leaves (stored [] direct) d h (z ++ x) (lb.replaced ++ y) (2 ^ nodes.order) (2 ^ leaves.order)) (sym rn) (subst (λ (z : List Array). WordRow k (2 ^ s) nodes leaves (stored [] direct) d h x (z ++ y) (2 ^ nodes.order) (2 ^ leaves.order)) (sym rl) (version_row f s nodes leaves direct L x y v k le)) in
      words_same k (2 ^ s) d nodes2 leaves2 (stored stores direct) (λ u. slice_index (applied stores direct) u) (λ u. part (bits_of s u) (all_answers f M)) (λ u. part (bits_of s u) (all_answers f M)) (nb2.replaced ++ x) (lb2.replaced ++ y) (2 ^ nodes.order) (2 ^ leaves.order)
      (λ u l. applied_at stores direct u (omega (arith, l, v.words.words)))
      (λ u l. refl)
      (re k h (all_answers f M) x y (2 ^ nodes.order) (2 ^ leaves.order) (omega (arith, enough, le)) merges row)

  new_long : length (applied stores direct) ≡ 2 ^ s
  new_long = applied_long stores direct ∙ v.words.words

  wide_nodes : (k : ℕ) → most ≤ k → AreApart (is_out nodes2.free) ((nb2.replaced ++ x) ++ word_arrays k nodes2.cells (applied stores direct))
  wide_nodes k l = nodes_of k s d nodes2 leaves2 (applied stores direct) (all_answers f M) (nb2.replaced ++ x) (lb2.replaced ++ y) (2 ^ nodes.order) (2 ^ leaves.order) new_long (new_row k l)

  new_nodes : (k : ℕ) → (k < most) ⊎ (most ≤ k) → AreApart (is_out nodes2.free) ((nb2.replaced ++ x) ++ word_arrays k nodes2.cells (applied stores direct))
  new_nodes k (inl l) = (like_under (nb2.replaced ++ x) _ _ (words_fewer most k nodes2.cells (applied stores direct) (omega (arith, l)))).apart (is_out nodes2.free) (wide_nodes most (omega arith))
  new_nodes k (inr l) = wide_nodes k l

  wide_leaves : (k : ℕ) → most ≤ k → AreApart (is_out leaves2.free) ((lb2.replaced ++ y) ++ word_leaf_arrays k nodes2.cells (applied stores direct))
  wide_leaves k l = leaves_of k s d nodes2 leaves2 (applied stores direct) (all_answers f M) (nb2.replaced ++ x) (lb2.replaced ++ y) (2 ^ nodes.order) (2 ^ leaves.order) new_long (new_row k l)

  new_leaves : (k : ℕ) → (k < most) ⊎ (most ≤ k) → AreApart (is_out leaves2.free) ((lb2.replaced ++ y) ++ word_leaf_arrays k nodes2.cells (applied stores direct))
  new_leaves k (inl l) = (like_under (lb2.replaced ++ y) _ _ (word_leaves_fewer most k nodes2.cells (applied stores direct) (omega (arith, l)))).apart (is_out leaves2.free) (wide_leaves most (omega arith))
  new_leaves k (inr l) = wide_leaves k l

  pub copied_version : IsVersion f s nodes2 leaves2 (applied stores direct) M (nb2.replaced ++ x) (lb2.replaced ++ y)
  copied_version =
      let row = new_row most (omega arith) in
      record {
        words = trie_of most s d nodes2 leaves2 (applied stores direct) (all_answers f M) (nb2.replaced ++ x) (lb2.replaced ++ y) (2 ^ nodes.order) (2 ^ leaves.order) new_long row;
        nodes_apart = λ k. new_nodes k (cases_lt k most);
        leaves_apart = λ k. new_leaves k (cases_lt k most);
        nodes_fill = nodes_filled most s d nodes2 leaves2 (applied stores direct) (all_answers f M) (nb2.replaced ++ x) (lb2.replaced ++ y) (2 ^ nodes.order) (2 ^ leaves.order) new_long row ∙ ap (λ (n : ℕ). 2 ^ n) (sym gn.order);
        leaves_fill = leaves_filled most s d nodes2 leaves2 (applied stores direct) (all_answers f M) (nb2.replaced ++ x) (lb2.replaced ++ y) (2 ^ nodes.order) (2 ^ leaves.order) new_long row ∙ ap (λ (n : ℕ). 2 ^ n) (sym gl.order);
      }

-- ---- an update that is ready
pub gains_grow : {T : Type 0} (e : T) (s t : Space T) (a b : Held) → a.taken ≡ [] → Gains e s a t b → Grows e s t b.taken
gains_grow e s t a b none g =
    let is : g.more ≡ b.taken = sym (g.taken ∙ ap (λ (x : List Array). x ++ g.more) none) in
    record {
      keeps = g.keeps;
      order = g.order;
      apart = subst (λ (x : List Array). AreApart (since (is_out s.free) (is_out t.free)) x) is g.apart;
      left = ap (λ (x : List Array). count_free t + places_of x) (sym is) ∙ g.left;
    }

pub not_covered : (stores : List Store) (words : List ℕ) (v : ℕ) → stores_cover (stores_of stores) v ≡ false → stored stores words v ≡ slice_index words v
not_covered [] words v e = refl
not_covered (s ∷ stores) words v e = by (not_covered stores words v) (nat_eq s.slot v) refl e
  where
    by : (stores_cover (stores_of stores) v ≡ false → stored stores words v ≡ slice_index words v) → (b : Bool) → nat_eq s.slot v ≡ b → (b || stores_cover (stores_of stores) v) ≡ false → stored (s ∷ stores) words v ≡ slice_index words v
    by again true q c = cc
    by again false q c = ap (λ (b : Bool). let r : ℕ = cond b s.word (stored stores words v) in r) (ne_eqb v s.slot (λ z. eqb-false s.slot v q (sym z))) ∙ again c

first_due : (stores : List Store) (words : List ℕ) → SlotsAscend stores → AllByRecursion (λ (s : Store). stored stores words s.slot ≡ s.word) stores
first_due [] words a = tt
first_due (s ∷ stores) words a = (
  ap (λ (b : Bool). let r : ℕ = cond b s.word (stored stores words s.slot) in r) (eq-eqb s.slot s.slot refl),
  later stores a.0 (first_due stores words a.1),
)
  where
    later : (rest : List Store) → AllByRecursion (λ (t : Store). s.slot < t.slot) rest → AllByRecursion (λ (t : Store). stored stores words t.slot ≡ t.word) rest → AllByRecursion (λ (t : Store). stored (s ∷ stores) words t.slot ≡ t.word) rest
    later [] l d = tt
    later (t ∷ rest) l d = (
      (let less = l.0 in ap (λ (b : Bool). let r : ℕ = cond b s.word (stored stores words t.slot) in r) (ne_eqb t.slot s.slot (λ e. absurd (omega (arith, less, e)))) ∙ d.0),
      later rest l.1 d.1,
    )

due_told : (n : ℕ) (stores : List Store) (words : List ℕ) (rest : List Store) → length words ≡ n → AllByRecursion (λ (s : Store). s.slot < n) rest → AllByRecursion (λ (s : Store). stored stores words s.slot ≡ s.word) rest → AllByRecursion (λ (s : Stored). (s.0 < n) × (slice_index (applied stores words) s.0 ≡ s.1)) (stores_of rest)
due_told n stores words [] l a b = tt
due_told n stores words (s ∷ rest) l a b = ((a.0, (let low = a.0 in applied_at stores words s.slot (omega (arith, l, low)) ∙ b.0)), due_told n stores words rest l a.1 b.1)

-- both versions stand, as long as what is replaced has no more places than the old version needs
pub copied_shows : (l : Seen) (nodes2 : Space Node) (leaves2 : Space ℕ) (nb nb2 lb lb2 : Held) (stores : List Store) (L M : Entries) → IsVersion l.family l.direct_bits l.nodes.space l.leaves.space l.words L (blocks_of l.nodes.retired) (blocks_of l.leaves.retired) → nb.taken ≡ [] → lb.taken ≡ [] → nb.replaced ≡ [] → lb.replaced ≡ [] → Gains blank l.nodes.space nb nodes2 nb2 → Gains 0 l.leaves.space lb leaves2 lb2 →
    (p : List Bool) (F : List Bool → ℕ) → IsSpliced p l.direct_bits (rest l.family l.direct_bits) F (λ u. part (bits_of l.direct_bits u) (all_answers l.family L)) (all_answers l.family M) → Rebuilds l.nodes.space nb l.leaves.space lb (stored [] l.words) nodes2 nb2 leaves2 lb2 (stored stores l.words) p l.direct_bits (rest l.family l.direct_bits) F → AreStores l.words stores (2 ^ l.direct_bits) → places_of nb2.replaced ≤ node_need l.family l.direct_bits L → places_of lb2.replaced ≤ leaf_need l.family l.direct_bits L →
    Beside (prepared l nodes2 leaves2 nb2.taken nb2.replaced lb2.taken lb2.replaced (stores_of stores) (applied stores l.words) L M) L M l.words (applied stores l.words)
copied_shows l nodes2 leaves2 nb nb2 lb lb2 stores L M v tn tl rn rl gn gl p F merges re are few few2 =
    prepare_shows l nodes2 leaves2 nb2.taken nb2.replaced lb2.taken lb2.replaced (stores_of stores) (applied stores l.words) L M v (gains_grow blank l.nodes.space nodes2 nb nb2 tn gn) (gains_grow 0 l.leaves.space leaves2 lb lb2 tl gl)
    (copied_version l.family l.direct_bits l.nodes.space nodes2 nb nb2 l.leaves.space leaves2 lb lb2 l.words stores L M (blocks_of l.nodes.retired) (blocks_of l.leaves.retired) v gn gl rn rl p F merges re)
    few few2
    (λ i low c. sym (applied_at stores l.words i (omega (arith, low, v.words.words)) ∙ not_covered stores l.words i c))
    (due_told (2 ^ l.direct_bits) stores l.words stores v.words.words are.below (first_due stores l.words are.in_order))
