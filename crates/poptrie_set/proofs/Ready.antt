-- An update that was made ready beside all that is out, or wasn't.
use Rattle.std.proofs.Common.{◌≡◌, ℕ, suc, ◌+◌, ◌*◌, ◌^◌, ◌<◌, ◌≤◌, List, [], ◌++◌, Bool, true, false, cond, take, length, get_or, refl, sym, ap, ◌∙◌, arith, subst, Result, Ok, Err}
use Rattle.std.specs.Prelude.{◌↔◌, ◌∷◌, OnOk, OnErr, IfErr, slice_index, ◌&&◌}
use Rattle.std.specs.List.{AllByRecursion}
use Rattle.std.proofs.lemmas.List.{length-append, take_at}
use Rattle.table_model.specs.Bits.{bits_of, begins}
use Rattle.table_model.specs.Address.{Address, Prefix, same_family}
use Rattle.table_model.specs.Width.{width}
use Rattle.table_model.specs.declared.family.Family.{Family}
use Rattle.table_model.specs.declared.family.Family.TheVariants.{V4, V6}
use Rattle.table_model.proofs.BitLaws.{length-bits_of}
use Rattle.table_model.proofs.SamePrefix.{same_family_itself}
use Rattle.table_model.specs.Entries.{Entries, match_in}
use Rattle.buddy_arena.specs.Space.{Space, IsSized}
use Rattle.buddy_arena.specs.Space as arena
use Rattle.buddy_arena.specs.Places.{is_out}
use Rattle.buddy_arena.specs.Arrays.{Array, AreApart, places_of}
use Rattle.buddy_arena.specs.Blocks.{Held, Retired, AreHeldIn, blocks_of, cancelled}
use Rattle.buddy_arena.proofs.Sets.{places_append}
use Rattle.fib_addr.specs.Answers.{part, all_answers}
use Rattle.poptrie_build.specs.Build.{WordIn}
use Rattle.poptrie_build.specs.Strides.{strides}
use Rattle.poptrie_build.specs.Stands.{blank}
use Rattle.poptrie_build.specs.Need.{trie_nodes, trie_leaves}
use Rattle.poptrie_build.specs.Tries.{rest, node_need, leaf_need}
use Rattle.poptrie_build.specs.declared.node.Node.{Node}
use Rattle.poptrie_build.proofs.Filled.{strides_do}
use Rattle.path_copying.specs.declared.slots.Store.{Store as Stored}
use Rattle.path_copying.specs.declared.blocks.Refusal.{Refusal}
use Rattle.path_copying.specs.Changes.{Gains}
use Rattle.path_copying.specs.Words.{WordRow}
use Rattle.path_copying.specs.Stores.{stored, SlotsAscend, AreStores}
use Rattle.path_copying.specs.Asks.{Ask, StandFor, MeetsInTurn, IsOutOfBlocks}
use Rattle.path_copying.proofs.Retiring.{asks_left, slots_places}
use Rattle.path_copying.proofs.Word_row.{word_stays}
use Rattle.poptrie_set.specs.Version.{IsVersion}
use Rattle.poptrie_set.specs.Lives.{Seen, Store, ShowsIn, ShowsSome, IsLive, IsQuiet, stores_cover, stores_of}
use Rattle.poptrie_set.specs.Fits.{Reader, FitsIn}
use Rattle.poptrie_set.specs.Past.{PastIn, retired_at}
use Rattle.poptrie_set.specs.Renewals.{merged, IsSpliced, Rebuilds, SetsAside, MeetsRenewal, MeetsNotRenewal, KeepsRenewal, GivesAllBack}
use Rattle.poptrie_set.specs.Reasons.{Explains, IsReason}
use Rattle.poptrie_set.specs.Prepares.{AgreeOutside, MergesSlots, SameAt, AreInOrder, StoresJust, asks_of}
use Rattle.poptrie_set.specs.declared.reasons.NotReady.{NotReady}
use Rattle.poptrie_set.specs.declared.reasons.NotReady.TheVariants as why
use Rattle.poptrie_set.proofs.Copied_version.{applied, version_row, copied_version, copied_shows, gains_grow, not_covered}
use Rattle.poptrie_set.proofs.Changed_slots.{word_one, same_alike, alike_same_at, stored_there}
use Rattle.poptrie_set.specs.Cells.{KeepsCells, KeepsCellsOf}
use Rattle.poptrie_set.specs.Undone.{IsReadyFrom, IsAsBefore}
use Rattle.poptrie_set.proofs.Taken_back.{room_taken}
use Rattle.poptrie_set.proofs.Fitting.{fits_all, prepare_fits}
use Rattle.poptrie_set.proofs.Unwritten.{grown_cells}
use Rattle.poptrie_set.proofs.Kept.{Grows, version_grown}
use Rattle.poptrie_set.proofs.Lived.{seen_as}
use Rattle.poptrie_set.proofs.Prepared.{quiet_version}
use Rattle.poptrie_set.proofs.Read_on.{reads_again}
use Rattle.poptrie_set.proofs.Restored.{taken_held}
use Rattle.poptrie_set.proofs.Some_table.{slots_table, slots_answers}
use Rattle.poptrie_set.proofs.Safe.{safe_out}
use Rattle.poptrie_set.specs.Rooms.{safe}

-- ---- of results
pub ok_map : {T E A B : Type 0} (r : Result T E) → OnOk r A → (A → B) → OnOk r B
ok_map (Ok x) a f = f a
ok_map (Err e) a f = tt

pub err_map : {T E A B : Type 0} (r : Result T E) → OnErr r A → (A → B) → OnErr r B
err_map (Ok x) a f = tt
err_map (Err e) a f = f a

pub if_err_map : {T E : Type 0} (r : Result T E) (P Q : E → Type 0) → IfErr r P → ((e : E) → P e → Q e) → IfErr r Q
if_err_map (Ok x) P Q a f = tt
if_err_map (Err e) P Q a f = f e a

-- ---- the order of stores
after : (n : ℕ) (xs : List Stored) → AllByRecursion (λ (t : Stored). n < t.slot) xs → AllByRecursion (λ (t : Store). n < t.0) (stores_of xs)
after n [] a = tt
after n (x ∷ xs) a = (a.0, after n xs a.1)

in_order : (xs : List Stored) → SlotsAscend xs → AreInOrder (stores_of xs)
in_order [] a = tt
in_order (x ∷ xs) a = (after x.slot xs a.0, in_order xs a.1)

-- ---- the addresses outside a prefix
begins_not : (f g : Family) (p a : List Bool) → f ≡ g → begins p a ≡ false → (same_family f g && begins p a) ≡ false
begins_not f g p a e n = ap (λ (h : Family). same_family f h && begins p a) (sym e) ∙ (ap (λ (b : Bool). b && begins p a) (same_family_itself f) ∙ n)

wide : (f : Family) (s : ℕ) → s ≤ 18 → s + rest f s ≡ width f
wide V4 s l = omega (arith, l)
wide V6 s l = omega (arith, l)

cut_begins : (p x a : List Bool) → begins p (x ++ a) ≡ true → begins (take (length x) p) x ≡ true
cut_begins [] [] a e = refl
cut_begins [] (b ∷ x) a e = refl
cut_begins (c ∷ p) [] a e = refl
cut_begins (true ∷ p) (true ∷ x) a e = cut_begins p x a e
cut_begins (false ∷ p) (false ∷ x) a e = cut_begins p x a e
cut_begins (true ∷ p) (false ∷ x) a e = cc
cut_begins (false ∷ p) (true ∷ x) a e = cc

begins_less : (s : ℕ) (p x a : List Bool) → length x ≡ s → begins (take s p) x ≡ false → begins p (x ++ a) ≡ false
begins_less s p x a n e = by (begins p (x ++ a)) refl
  where
    by : (b : Bool) → begins p (x ++ a) ≡ b → begins p (x ++ a) ≡ false
    by true q = let t : begins (take s p) x ≡ true = subst (λ (i : ℕ). begins (take i p) x ≡ true) n (cut_begins p x a q) in cc
    by false q = q

-- the second table's answers are those of a region in the slots that the prefix meets, and elsewhere those of the first
pub agree_merged : (f : Family) (s : ℕ) (p : Prefix) (F : List Bool → ℕ) (L M : Entries) → p.family ≡ f → s ≤ 18 → F ≡ all_answers f M → AgreeOutside p L M → IsSpliced p.bits s (rest f s) F (λ u. part (bits_of s u) (all_answers f L)) (all_answers f M)
agree_merged f s p F L M e few is agree u l a n = by (begins (take s p.bits) (bits_of s u)) refl
  where
    long : length (bits_of s u ++ a) ≡ width f
    long = length-append (bits_of s u) a ∙ omega (arith, length-bits_of s u, n, wide f s few)

    by : (c : Bool) → begins (take s p.bits) (bits_of s u) ≡ c → all_answers f M (bits_of s u ++ a) ≡ cond c (part (bits_of s u) F) (part (bits_of s u) (all_answers f L)) a
    by true q = ap (λ (g : List Bool → ℕ). g (bits_of s u ++ a)) (sym is)
    by false q = agree (record { family = f; bits = bits_of s u ++ a }) long (sym e) (begins_not p.family f p.bits (bits_of s u ++ a) e (begins_less s p.bits (bits_of s u) a (length-bits_of s u) q))

-- a table that takes the slots that the prefix meets from the second one
pub merged_by : (f : Family) (s : ℕ) (p : Prefix) (F : List Bool → ℕ) (L M N : Entries) → p.family ≡ f → s ≤ 18 → F ≡ all_answers f M → MergesSlots p s L M N → IsSpliced p.bits s (rest f s) F (λ u. part (bits_of s u) (all_answers f L)) (all_answers f N)
merged_by f s p F L M N e few is merges u l a n = by (begins (take s p.bits) (bits_of s u)) refl
  where
    at : Address
    at = record { family = f; bits = bits_of s u ++ a }

    long : length (bits_of s u ++ a) ≡ width f
    long = length-append (bits_of s u) a ∙ omega (arith, length-bits_of s u, n, wide f s few)

    got : match_in N at ≡ match_in (cond (begins (take s p.bits) (bits_of s u)) M L) at
    got = subst (λ (x : List Bool). match_in N at ≡ match_in (cond (begins (take s p.bits) x) M L) at) (take_at (bits_of s u) a s (length-bits_of s u)) (merges at long (sym e))

    by : (c : Bool) → begins (take s p.bits) (bits_of s u) ≡ c → all_answers f N (bits_of s u ++ a) ≡ cond c (part (bits_of s u) F) (part (bits_of s u) (all_answers f L)) a
    by true q = got ∙ (ap (λ (b : Bool). match_in (cond b M L) at) q ∙ ap (λ (g : List Bool → ℕ). g (bits_of s u ++ a)) (sym is))
    by false q = got ∙ ap (λ (b : Bool). match_in (cond b M L) at) q

-- ---- the words of a version stand
words_stand_for : (f : Family) (s : ℕ) (nodes : Space Node) (leaves : Space ℕ) (direct : List ℕ) (L : Entries) (x y : List Array) → IsVersion f s nodes leaves direct L x y → StandFor (strides (rest f s)) s (rest f s) 0 nodes leaves direct (λ u. part (bits_of s u) (all_answers f L))
words_stand_for f s nodes leaves direct L x y ver v l =
    let row = version_row f s nodes leaves direct L x y ver (strides (rest f s)) (omega arith) in
    let at : v ≡ 0 + v = omega arith in
    subst (λ (i : ℕ). WordIn (slice_index direct i) (strides (rest f s)) nodes.cells (is_out nodes.free) leaves.cells (is_out leaves.free) (rest f s) (part (bits_of s v) (all_answers f L))) at (row.stands v l)

-- ---- made ready
-- what became of the words in a renewal
pub record Renewed (nodes nodes2 : Space Node) (nb nb2 : Held) (leaves leaves2 : Space ℕ) (lb lb2 : Held) (words : List ℕ) (made : List Stored) (bits : List Bool) (s d : ℕ) (f : List Bool → ℕ) : Type 0 where
  pub stores : AreStores words made (2 ^ s)
  pub rebuilds : Rebuilds nodes nb leaves lb (stored [] words) nodes2 nb2 leaves2 lb2 (stored made words) bits s d f
  pub aside : SetsAside nodes nb leaves lb (stored [] words) nodes2 nb2 leaves2 lb2 s d
  pub kept : KeepsRenewal nodes leaves words made bits s d f
  pub met : MeetsRenewal nodes leaves words nodes2 leaves2 bits s d f

module _ (f : Family) (s : ℕ) (words : List ℕ) (nodes nodes2 : Space Node) (leaves leaves2 : Space ℕ) (nb nb2 lb lb2 : Held) (p : Bool) (none stores : List Stored) (made : ℕ) where
  abbrev l : Seen
  l = seen_as f s words nodes leaves nb lb p none made

  abbrev shape : List Retired → List Retired → ℕ → ℕ → Seen
  shape r r2 t m = record { family = f; direct_bits = s; words = words; nodes = record { space = nodes2; taken = nb2.taken; replaced = nb2.replaced; retired = r }; leaves = record { space = leaves2; taken = lb2.taken; replaced = lb2.replaced; retired = r2 }; pending = true; stores = stores_of stores; made = m; time = t }

  abbrev pub ready : Seen
  ready = shape nb.retired lb.retired nb.time 0

  pub ready_is : nb2.retired ≡ nb.retired → lb2.retired ≡ lb.retired → nb2.time ≡ nb.time → made ≡ 0 → seen_as f s words nodes2 leaves2 nb2 lb2 true stores made ≡ ready
  ready_is a b t m =
      ap (λ (r : List Retired). shape r lb2.retired nb2.time made) a
      ∙ (ap (λ (r : List Retired). shape nb.retired r nb2.time made) b
      ∙ (ap (λ (n : ℕ). shape nb.retired lb.retired n made) t
      ∙ ap (λ (n : ℕ). shape nb.retired lb.retired nb.time n) m))

  module _ (gn : Gains blank nodes nb nodes2 nb2) (gl : Gains 0 leaves lb leaves2 lb2) (q : IsQuiet none made nb lb) where
    pub ready_fits : (os : List Reader) → FitsIn l os → FitsIn ready os
    ready_fits os fits = prepare_fits l os fits nodes2 leaves2 nb2.taken nb2.replaced lb2.taken lb2.replaced (stores_of stores) (gains_grow blank nodes nodes2 nb nb2 q.nodes_taken gn) (gains_grow 0 leaves leaves2 lb lb2 q.leaves_taken gl)

    pub ready_cells : (since : ℕ) → KeepsCells since l ready
    ready_cells since = grown_cells l nodes2 leaves2 since nb2.taken nb2.replaced lb2.taken lb2.replaced (stores_of stores) (gains_grow blank nodes nodes2 nb nb2 q.nodes_taken gn) (gains_grow 0 leaves leaves2 lb lb2 q.leaves_taken gl)

    pub ready_from : IsSized nodes → IsSized leaves → IsReadyFrom l ready
    ready_from sn sl = record {
      sizes = (refl, refl, gn.order, gl.order);
      words = refl;
      time = refl;
      nodes = room_taken blank nodes nodes2 nb nb2 sn q.nodes_taken gn;
      leaves = room_taken 0 leaves leaves2 lb lb2 sl q.leaves_taken gl;
    }

    quiet : (L M : Entries) → ShowsIn l L M → IsVersion f s nodes leaves words L (blocks_of nb.retired) (blocks_of lb.retired)
    quiet L M sh = quiet_version l L M sh.0 sh.1 sh.2 (ap stores_of q.no_stores) q.nodes_taken q.leaves_taken

    -- what it was in its renewal
    module _ (d : ℕ) (ed : d ≡ rest f s) where
      pub ready_held : SetsAside nodes nb leaves lb (stored [] words) nodes2 nb2 leaves2 lb2 s d → (L M : Entries) → ShowsIn l L M → AreApart (is_out nodes2.free) (nb2.replaced ++ blocks_of nb2.retired) × AreApart (is_out leaves2.free) (lb2.replaced ++ blocks_of lb2.retired)
      ready_held aside L M sh =
          let k = strides (rest f s) in
          let h : ℕ → List Bool → ℕ = λ u. part (bits_of s u) (all_answers f L) in
          let row = version_row f s nodes leaves words L (blocks_of nb.retired) (blocks_of lb.retired) (quiet L M sh) k (omega arith) in
          let row2 = subst (λ (n : ℕ). WordRow k (2 ^ s) nodes leaves (stored [] words) n h (nb.replaced ++ blocks_of nb.retired) (lb.replaced ++ blocks_of lb.retired) (2 ^ nodes.order) (2 ^ leaves.order)) (sym ed)
          (subst (λ (z : List Array). WordRow k (2 ^ s) nodes leaves (stored [] words) (rest f s) h (z ++ blocks_of nb.retired) (lb.replaced ++ blocks_of lb.retired) (2 ^ nodes.order) (2 ^ leaves.order)) (sym q.nodes_replaced)
          (subst (λ (z : List Array). WordRow k (2 ^ s) nodes leaves (stored [] words) (rest f s) h (blocks_of nb.retired) (z ++ blocks_of lb.retired) (2 ^ nodes.order) (2 ^ leaves.order)) (sym q.leaves_replaced) row)) in
          let both = aside k h (blocks_of nb.retired) (blocks_of lb.retired) (2 ^ nodes.order) (2 ^ leaves.order) (omega (arith, ed, strides_do (rest f s))) row2 in (
            subst (λ (z : List Retired). AreApart (is_out nodes2.free) (nb2.replaced ++ blocks_of z)) (sym gn.retired) both.0,
            subst (λ (z : List Retired). AreApart (is_out leaves2.free) (lb2.replaced ++ blocks_of z)) (sym gl.retired) both.1,
          )

      module _ (F : List Bool → ℕ) (bits : List Bool) (L M : Entries) (sh : ShowsIn l L L) (merges : IsSpliced bits s (rest f s) F (λ u. part (bits_of s u) (all_answers f L)) (all_answers f M)) (met : MeetsRenewal nodes leaves words nodes2 leaves2 bits s d F) where
        pub ready_asks : MeetsInTurn nodes.order leaves.order (asks_of f s L M) (nodes.free, leaves.free) (nodes2.free, leaves2.free)
        ready_asks =
            let m : MeetsRenewal nodes leaves words nodes2 leaves2 bits s (rest f s) F = subst (λ (n : ℕ). MeetsRenewal nodes leaves words nodes2 leaves2 bits s n F) ed met in
            m (strides (rest f s)) (λ u. part (bits_of s u) (all_answers f L)) (all_answers f M) (omega (arith, strides_do (rest f s))) merges (words_stand_for f s nodes leaves words L (blocks_of nb.retired) (blocks_of lb.retired) (quiet L L sh))

        pub ready_shows : AreStores words stores (2 ^ s) → Rebuilds nodes nb leaves lb (stored [] words) nodes2 nb2 leaves2 lb2 (stored stores words) bits s d F → ShowsIn ready L M
        ready_shows are re0 =
            let re : Rebuilds nodes nb leaves lb (stored [] words) nodes2 nb2 leaves2 lb2 (stored stores words) bits s (rest f s) F = subst (λ (n : ℕ). Rebuilds nodes nb leaves lb (stored [] words) nodes2 nb2 leaves2 lb2 (stored stores words) bits s n F) ed re0 in
            let v = quiet L L sh in
            let w = copied_version f s nodes nodes2 nb nb2 leaves leaves2 lb lb2 words stores L M (blocks_of nb.retired) (blocks_of lb.retired) v gn gl q.nodes_replaced q.leaves_replaced bits F merges re in
            let left = asks_left nodes.order leaves.order (asks_of f s L M) (nodes.free, leaves.free) (nodes2.free, leaves2.free) ready_asks in
            let asked = slots_places (strides (rest f s)) s (rest f s) (all_answers f M) (λ u. part (bits_of s u) (all_answers f L)) in
            let size : 2 ^ nodes2.order ≡ 2 ^ nodes.order = ap (λ (n : ℕ). 2 ^ n) gn.order in
            let size2 : 2 ^ leaves2.order ≡ 2 ^ leaves.order = ap (λ (n : ℕ). 2 ^ n) gl.order in
            let few : places_of nb2.replaced ≤ node_need f s L = omega (arith, v.nodes_fill, w.nodes_fill, size, left.0, asked.0, places_append nb2.replaced (blocks_of nb.retired)) in
            let few2 : places_of lb2.replaced ≤ leaf_need f s L = omega (arith, v.leaves_fill, w.leaves_fill, size2, left.1, asked.1, places_append lb2.replaced (blocks_of lb.retired)) in (
              words,
              applied stores words,
              copied_shows l nodes2 leaves2 nb nb2 lb lb2 stores L M v q.nodes_taken q.leaves_taken q.nodes_replaced q.leaves_replaced gn gl bits F merges re are few few2,
            )

        ready_just : s ≤ 18 → AreStores words stores (2 ^ s) → Rebuilds nodes nb leaves lb (stored [] words) nodes2 nb2 leaves2 lb2 (stored stores words) bits s d F → KeepsRenewal nodes leaves words stores bits s d F → (v : ℕ) → v < 2 ^ s → (stores_cover (stores_of stores) v ≡ false) ↔ SameAt f s L M v
        ready_just few are re0 kept0 v low = (from_word, to_word)
          where
            ver : IsVersion f s nodes leaves words L (blocks_of nb.retired) (blocks_of lb.retired)
            ver = quiet L L sh

            from_word : stores_cover (stores_of stores) v ≡ false → SameAt f s L M v
            from_word c =
                let re : Rebuilds nodes nb leaves lb (stored [] words) nodes2 nb2 leaves2 lb2 (stored stores words) bits s (rest f s) F = subst (λ (n : ℕ). Rebuilds nodes nb leaves lb (stored [] words) nodes2 nb2 leaves2 lb2 (stored stores words) bits s n F) ed re0 in
                let row = version_row f s nodes leaves words L (blocks_of nb.retired) (blocks_of lb.retired) ver (strides (rest f s)) (omega arith) in
                let row2 = subst (λ (z : List Array). WordRow (strides (rest f s)) (2 ^ s) nodes leaves (stored [] words) (rest f s) (λ u. part (bits_of s u) (all_answers f L)) (z ++ blocks_of nb.retired) (lb.replaced ++ blocks_of lb.retired) (2 ^ nodes.order) (2 ^ leaves.order)) (sym q.nodes_replaced)
                (subst (λ (z : List Array). WordRow (strides (rest f s)) (2 ^ s) nodes leaves (stored [] words) (rest f s) (λ u. part (bits_of s u) (all_answers f L)) (blocks_of nb.retired) (z ++ blocks_of lb.retired) (2 ^ nodes.order) (2 ^ leaves.order)) (sym q.leaves_replaced) row) in
                let new = (re (strides (rest f s)) (λ u. part (bits_of s u) (all_answers f L)) (all_answers f M) (blocks_of nb.retired) (blocks_of lb.retired) (2 ^ nodes.order) (2 ^ leaves.order) (omega (arith, strides_do (rest f s))) merges row2).stands v low in
                let old = word_stays (strides (rest f s)) nodes nodes2 leaves leaves2 (slice_index words v) (rest f s) (part (bits_of s v) (all_answers f L)) gn.keeps gl.keeps (row.stands v low) in
                let new2 = subst (λ (w : ℕ). WordIn w (strides (rest f s)) nodes2.cells (is_out nodes2.free) leaves2.cells (is_out leaves2.free) (rest f s) (part (bits_of s v) (all_answers f M))) (not_covered stores words v c) new in
                alike_same_at f s L M v (wide f s few) (word_one (strides (rest f s)) nodes2.cells (is_out nodes2.free) leaves2.cells (is_out leaves2.free) (slice_index words v) (rest f s) (part (bits_of s v) (all_answers f M)) (part (bits_of s v) (all_answers f L)) new2 old)

            to_word : SameAt f s L M v → stores_cover (stores_of stores) v ≡ false
            to_word same =
                let kept : KeepsRenewal nodes leaves words stores bits s (rest f s) F = subst (λ (n : ℕ). KeepsRenewal nodes leaves words stores bits s n F) ed kept0 in
                stored_there stores words (2 ^ s) v are
                (kept (strides (rest f s)) (λ u. part (bits_of s u) (all_answers f L)) (all_answers f M) merges (words_stand_for f s nodes leaves words L (blocks_of nb.retired) (blocks_of lb.retired) (quiet L L sh)) v low (same_alike f s L M v (wide f s few) same))

        pub ready_changes : s ≤ 18 → AreStores words stores (2 ^ s) → Rebuilds nodes nb leaves lb (stored [] words) nodes2 nb2 leaves2 lb2 (stored stores words) bits s d F → KeepsRenewal nodes leaves words stores bits s d F → StoresJust f s L M (stores_of stores)
        ready_changes few are re kept = record { in_order = in_order stores are.in_order; just = ready_just few are re kept }

      -- whatever the region's answers are, the new version's are those of some table
      pub ready_some : (F : List Bool → ℕ) (bits : List Bool) (L : Entries) → s ≤ 18 → ShowsIn l L L → MeetsRenewal nodes leaves words nodes2 leaves2 bits s d F → AreStores words stores (2 ^ s) → Rebuilds nodes nb leaves lb (stored [] words) nodes2 nb2 leaves2 lb2 (stored stores words) bits s d F → ShowsSome ready
      ready_some F bits L few sh met are re =
          let h : ℕ → List Bool → ℕ = merged bits s F (λ u. part (bits_of s u) (all_answers f L)) in
          record { before = L; after = slots_table f s h; shows = ready_shows F bits L (slots_table f s h) sh (λ u low. slots_answers f s h u (wide f s few) low) met are re }

    -- what every live trie keeps
    pub ready_kept : IsLive s words nodes leaves nb lb p none made → AreStores words stores (2 ^ s) → AreApart (is_out nodes2.free) (nb2.replaced ++ blocks_of nb2.retired) × AreApart (is_out leaves2.free) (lb2.replaced ++ blocks_of lb2.retired) → AreApart (is_out nodes.free) (blocks_of nb.retired) → AreApart (is_out leaves.free) (blocks_of lb.retired) → IsLive s words nodes2 leaves2 nb2 lb2 true stores made
    ready_kept k are held a b = record {
      few = k.few;
      many = k.many;
      nodes_sized = gn.sized;
      leaves_sized = gl.sized;
      nodes_held = record { with_taken = taken_held blank nodes nodes2 nb nb2 q.nodes_taken gn a; with_replaced = held.0 };
      leaves_held = record { with_taken = taken_held 0 leaves leaves2 lb lb2 q.leaves_taken gl b; with_replaced = held.1 };
      times = gl.time ∙ (k.times ∙ sym gn.time);
      slots = are.below;
      counted = omega (arith, q.none_made);
      quiet = λ e. cc;
    }

-- ---- refused
grows_none : {T : Type 0} (e : T) (s t : Space T) → GivesAllBack e s t → Grows e s t []
unfolding AreApart
grows_none e s t r = record { keeps = r.keeps; order = r.order; apart = tt; left = omega (arith, ap arena.free_count r.free) }

version_restored : (f : Family) (s : ℕ) (nodes nodes2 : Space Node) (leaves leaves2 : Space ℕ) (words : List ℕ) (L : Entries) (x y : List Array) → GivesAllBack blank nodes nodes2 → GivesAllBack 0 leaves leaves2 → IsVersion f s nodes leaves words L x y → IsVersion f s nodes2 leaves2 words L x y
version_restored f s nodes nodes2 leaves leaves2 words L x y a b v = version_grown f s nodes nodes2 leaves leaves2 words L x y [] [] v (grows_none blank nodes nodes2 a) (grows_none 0 leaves leaves2 b)

module _ (f : Family) (s : ℕ) (words : List ℕ) (nodes nodes2 : Space Node) (leaves leaves2 : Space ℕ) (nb nb2 lb lb2 : Held) (p : Bool) (none stores : List Stored) (made : ℕ) (rn : GivesAllBack blank nodes nodes2) (rl : GivesAllBack 0 leaves leaves2) (en : nb2 ≡ nb) (el : lb2 ≡ lb) (es : stores ≡ none) where
  pub back_is : seen_as f s words nodes2 leaves2 nb2 lb2 p stores made ≡ seen_as f s words nodes2 leaves2 nb lb p none made
  back_is =
      ap (λ (h : Held). seen_as f s words nodes2 leaves2 h lb2 p stores made) en
      ∙ (ap (λ (h : Held). seen_as f s words nodes2 leaves2 nb h p stores made) el
      ∙ ap (λ (x : List Stored). seen_as f s words nodes2 leaves2 nb lb p x made) es)

  pub back_shows : (L M : Entries) → ShowsIn (seen_as f s words nodes leaves nb lb p none made) L M → ShowsIn (seen_as f s words nodes2 leaves2 nb2 lb2 p stores made) L M
  back_shows L M (old, new, b) =
      subst (λ (m : Seen). ShowsIn m L M) (sym back_is) (
        old,
        new,
        record {
          before = version_restored f s nodes nodes2 leaves leaves2 old L (nb.taken ++ blocks_of nb.retired) (lb.taken ++ blocks_of lb.retired) rn rl b.before;
          after = version_restored f s nodes nodes2 leaves leaves2 new M (nb.replaced ++ blocks_of nb.retired) (lb.replaced ++ blocks_of lb.retired) rn rl b.after;
          nodes_few = b.nodes_few;
          leaves_few = b.leaves_few;
          made = b.made;
          words = b.words;
          stored = b.stored;
          unstored = b.unstored;
          shared = b.shared;
          due = b.due;
        },
      )

  same_safe : {T : Type 0} (e : T) (s t : Space T) (taken replaced : List Array) (retired : List Retired) (since i : ℕ) → t.free ≡ s.free → safe (record { space = s; taken = taken; replaced = replaced; retired = retired }) made since i ≡ true → safe (record { space = t; taken = taken; replaced = replaced; retired = retired }) made since i ≡ true
  same_safe e s t taken replaced retired since i q h = subst (λ (z : List Bool). safe (record { space = record t { free = z }; taken = taken; replaced = replaced; retired = retired }) made since i ≡ true) (sym q) h

  pub back_fits : (os : List Reader) → FitsIn (seen_as f s words nodes leaves nb lb p none made) os → FitsIn (seen_as f s words nodes2 leaves2 nb2 lb2 p stores made) os
  back_fits os fits =
      let l = seen_as f s words nodes leaves nb lb p none made in
      let m = seen_as f s words nodes2 leaves2 nb lb p none made in
      subst (λ (z : Seen). FitsIn z os) (sym back_is)
      (fits_all l m os
      (λ o r. (
        r.0,
        reads_again o.left nodes.cells nodes2.cells _ _ leaves.cells leaves2.cells _ _ o.node o.bits o.answer
            (record { inside = λ i z. same_safe blank nodes nodes2 nb.taken nb.replaced nb.retired o.since i rn.free z; same = λ i z. rn.keeps.same i (safe_out l.nodes made o.since i z); long = rn.keeps.long })
            (record { inside = λ i z. same_safe 0 leaves leaves2 lb.taken lb.replaced lb.retired o.since i rl.free z; same = λ i z. rl.keeps.same i (safe_out l.leaves made o.since i z); long = rl.keeps.long }) r.1,
      )) fits)

  pub back_cells : (since : ℕ) → KeepsCells since (seen_as f s words nodes leaves nb lb p none made) (seen_as f s words nodes2 leaves2 nb2 lb2 p stores made)
  back_cells since t from le =
      let l = seen_as f s words nodes leaves nb lb p none made in
      subst (λ (z : Seen). KeepsCellsOf t l z) (sym back_is)
      (record {
        nodes = λ i z. (same_safe blank nodes nodes2 nb.taken nb.replaced nb.retired t i rn.free z, rn.keeps.same i (safe_out l.nodes made t i z));
        leaves = λ i z. (same_safe 0 leaves leaves2 lb.taken lb.replaced lb.retired t i rl.free z, rl.keeps.same i (safe_out l.leaves made t i z));
      })

  pub back_before : IsAsBefore (seen_as f s words nodes leaves nb lb p none made) (seen_as f s words nodes2 leaves2 nb2 lb2 p stores made)
  back_before =
      let l = seen_as f s words nodes leaves nb lb p none made in
      subst (λ (z : Seen). IsAsBefore l z) (sym back_is)
      (record {
        sizes = (refl, refl, rn.order, rl.order);
        words = refl;
        time = refl;
        nodes = record { free = rn.free; held = rn.keeps.same; order = rn.order; fill = rn.fill; retired = refl };
        leaves = record { free = rl.free; held = rl.keeps.same; order = rl.order; fill = rl.fill; retired = refl };
      })

  pub back_kept : IsLive s words nodes leaves nb lb p none made → IsLive s words nodes2 leaves2 nb2 lb2 p stores made
  back_kept k =
      subst (λ (h : Held). IsLive s words nodes2 leaves2 h lb2 p stores made) (sym en)
      (subst (λ (h : Held). IsLive s words nodes2 leaves2 nb h p stores made) (sym el)
      (subst (λ (x : List Stored). IsLive s words nodes2 leaves2 nb lb p x made) (sym es)
      (record {
        few = k.few;
        many = k.many;
        nodes_sized = rn.sized;
        leaves_sized = rl.sized;
        nodes_held = subst (λ (z : List Bool). AreHeldIn (is_out z) nb) (sym rn.free) k.nodes_held;
        leaves_held = subst (λ (z : List Bool). AreHeldIn (is_out z) lb) (sym rl.free) k.leaves_held;
        times = k.times;
        slots = k.slots;
        counted = k.counted;
        quiet = k.quiet;
      })))

-- ---- why
pub reason_is : (e : NotReady) (r : Refusal) (asks : List Ask) (s : Space Node) (t : Space ℕ) (n l : ℕ) → Explains e r n l (2 ^ s.order) (2 ^ t.order) → IsOutOfBlocks s.order t.order asks (s.free, t.free) r → IsReason e asks s t n l
reason_is why.Memory r asks s t n l x o = tt
reason_is (why.TooMuch f) r asks s t n l x o = x
reason_is (why.NodesOut f) r asks s t n l x o = (x.1, x.2, subst (λ (z : Refusal). IsOutOfBlocks s.order t.order asks (s.free, t.free) z) x.0 o)
reason_is (why.LeavesOut f) r asks s t n l x o = (x.1, x.2, subst (λ (z : Refusal). IsOutOfBlocks s.order t.order asks (s.free, t.free) z) x.0 o)

-- nothing is pending, and no block is held but the retired ones
pub quiet_held : (stores : List Stored) (made : ℕ) (a b : Held) → IsQuiet stores made a b → (a ≡ cancelled a) × (b ≡ cancelled b)
quiet_held stores made a b q = (
  ap (λ (x : List Array). record a { taken = x }) q.nodes_taken ∙ ap (λ (x : List Array). record a { taken = []; replaced = x }) q.nodes_replaced,
  ap (λ (x : List Array). record b { taken = x }) q.leaves_taken ∙ ap (λ (x : List Array). record b { taken = []; replaced = x }) q.leaves_replaced,
)

pub undone : (a b c : Held) → a ≡ cancelled a → c ≡ cancelled b → b.retired ≡ a.retired → b.time ≡ a.time → c ≡ a
undone a b c q e r t = e ∙ (ap (λ (x : List Retired). record b { taken = []; replaced = []; retired = x }) r ∙ (ap (λ (n : ℕ). record { taken = []; replaced = []; retired = a.retired; time = n }) t ∙ sym q))

pub past_same : (l m : Seen) (ns ls : List ℕ) → m.time ≡ l.time → m.nodes.retired ≡ l.nodes.retired → m.leaves.retired ≡ l.leaves.retired → PastIn l ns ls → PastIn m ns ls
past_same l m ns ls e a b p = record {
  node_ends = p.node_ends ∙ sym e;
  leaf_ends = p.leaf_ends ∙ sym e;
  nodes = λ t. subst (λ (r : List Retired). retired_at (suc t) r ≤ get_or ns t 0) (sym a) (p.nodes t);
  leaves = λ t. subst (λ (r : List Retired). retired_at (suc t) r ≤ get_or ls t 0) (sym b) (p.leaves t);
}

pub both_ok : {T E A B C : Type 0} (r : Result T E) → OnOk r A → OnOk r B → (A → B → C) → OnOk r C
both_ok (Ok x) a b f = f a b
both_ok (Err e) a b f = tt

pub err_both : {T E A : Type 0} (r : Result T E) (P Q : E → Type 0) → OnErr r A → IfErr r P → ((e : E) → A → P e → Q e) → IfErr r Q
err_both (Ok x) P Q a p f = tt
err_both (Err e) P Q a p f = f e a p

-- the reason of a refused renewal
pub refused_reason : (f : Family) (s : ℕ) (words : List ℕ) (nodes : Space Node) (leaves : Space ℕ) (L M : Entries) (x y : List Array) (d o p : ℕ) (F : List Bool → ℕ) (bits : List Bool) (e : NotReady) (r : Refusal) → IsVersion f s nodes leaves words L x y → d ≡ rest f s → F ≡ all_answers f M → IsSpliced bits s (rest f s) F (λ u. part (bits_of s u) (all_answers f L)) (all_answers f M) → o ≡ nodes.order → p ≡ leaves.order →
    ((k : ℕ) → d ≤ 6 * k → Explains e r (trie_nodes s k d F) (trie_leaves s k d F) (2 ^ o) (2 ^ p)) → MeetsNotRenewal nodes leaves words bits s d F r → IsReason e (asks_of f s L M) nodes leaves (node_need f s M) (leaf_need f s M)
refused_reason f s words nodes leaves L M x y d o p F bits e r ver ed eF merges eo ep ex out0 =
    let k = strides (rest f s) in
    let few : d ≤ 6 * strides (rest f s) = omega (arith, ed, strides_do (rest f s)) in
    let ex2 : Explains e r (node_need f s M) (leaf_need f s M) (2 ^ nodes.order) (2 ^ leaves.order) =
    subst (λ (n : ℕ). Explains e r (node_need f s M) (leaf_need f s M) (2 ^ nodes.order) (2 ^ n)) ep
    (subst (λ (n : ℕ). Explains e r (node_need f s M) (leaf_need f s M) (2 ^ n) (2 ^ p)) eo
    (subst (λ (n : ℕ). Explains e r (trie_nodes s (strides (rest f s)) n (all_answers f M)) (trie_leaves s (strides (rest f s)) n (all_answers f M)) (2 ^ o) (2 ^ p)) ed
    (subst (λ (g : List Bool → ℕ). Explains e r (trie_nodes s (strides (rest f s)) d g) (trie_leaves s (strides (rest f s)) d g) (2 ^ o) (2 ^ p)) eF (ex (strides (rest f s)) few)))) in
    let out : MeetsNotRenewal nodes leaves words bits s (rest f s) F r = subst (λ (n : ℕ). MeetsNotRenewal nodes leaves words bits s n F r) ed out0 in
    reason_is e r (asks_of f s L M) nodes leaves (node_need f s M) (leaf_need f s M) ex2 (out (strides (rest f s)) (λ u. part (bits_of s u) (all_answers f L)) (all_answers f M) (omega (arith, strides_do (rest f s))) merges (words_stand_for f s nodes leaves words L x y ver))
