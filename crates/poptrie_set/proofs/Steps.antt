-- What an update's steps do to what is shown.
use Rattle.std.proofs.Common.{◌≡◌, ◌≢◌, ℕ, zero, suc, ◌^◌, ◌<◌, List, [], ◌∷◌, ◌++◌, Bool, true, false, length, take, get_or, eq-eqb, refl, sym, ap, ◌∙◌, arith, subst, inl, inr, set}
use Rattle.std.specs.Prelude.{◌||◌, nat_eq}
use Rattle.std.specs.List.{AllByRecursion}
use Rattle.std.proofs.Math.ListN.{length-set}
use Rattle.std.proofs.Math.Seq.{take-suc}
use Rattle.std.proofs.lemmas.List.{append_assoc, take_all, get_or-set_other, get_or-set_same}
use Rattle.std.proofs.lemmas.Grind.{same_number_lists}
use Rattle.std.proofs.lemmas.Bool.{eqb-true}
use Rattle.table_model.specs.declared.family.Family.{Family}
use Rattle.table_model.specs.Entries.{Entries}
use Rattle.buddy_arena.specs.Space.{Space}
use Rattle.poptrie_build.specs.Stands.{TrieStands}
use Rattle.poptrie_build.specs.Strides.{strides}
use Rattle.poptrie_build.specs.Tries.{rest}
use Rattle.fib_addr.specs.Answers.{all_answers}
use Rattle.buddy_arena.specs.Places.{is_out}
use Rattle.buddy_arena.specs.Arrays.{Array, AreApart}
use Rattle.poptrie_build.specs.Arrays.{word_arrays, word_leaf_arrays}
use Rattle.poptrie_build.specs.declared.node.Node.{Node}
use Rattle.buddy_arena.specs.Blocks.{Retired, blocks_of, at_end, GivesBack}
use Rattle.poptrie_set.specs.Rooms.{room_at_end, quiet_room}
use Rattle.poptrie_set.specs.Version.{IsVersion}
use Rattle.poptrie_set.specs.Lives.{Seen, Store, stores_cover, Beside}
use Rattle.buddy_arena.proofs.Sets.{apart_less, front_back, places_append, either}

-- ---- blocks that are given back
module _ (f : Family) (s : ℕ) (nodes nodes2 : Space Node) (leaves leaves2 : Space ℕ) (direct : List ℕ) (L : Entries) (gone beside gone2 beside2 : List Array) where
  pub version_given : IsVersion f s nodes leaves direct L (gone ++ beside) (gone2 ++ beside2) → GivesBack gone nodes nodes2 → GivesBack gone2 leaves leaves2 → IsVersion f s nodes2 leaves2 direct L beside beside2
  version_given v a b = record {
    words = subst (λ (c : List Node). TrieStands s direct (strides (rest f s)) c leaves2.cells (rest f s) (all_answers f L)) (sym a.cells) (subst (λ (c : List ℕ). TrieStands s direct (strides (rest f s)) nodes.cells c (rest f s) (all_answers f L)) (sym b.cells) v.words);
    nodes_apart = λ k.
        subst (λ (c : List Node). AreApart (is_out nodes2.free) (beside ++ word_arrays k c direct)) (sym a.cells)
        (apart_less (is_out nodes.free) (is_out nodes2.free) gone (beside ++ word_arrays k nodes.cells direct) a.still (subst (λ (x : List Array). AreApart (is_out nodes.free) x) (append_assoc gone beside _) (v.nodes_apart k)));
    leaves_apart = λ k.
        subst (λ (c : List Node). AreApart (is_out leaves2.free) (beside2 ++ word_leaf_arrays k c direct)) (sym a.cells)
        (apart_less (is_out leaves.free) (is_out leaves2.free) gone2 (beside2 ++ word_leaf_arrays k nodes.cells direct) b.still (subst (λ (x : List Array). AreApart (is_out leaves.free) x) (append_assoc gone2 beside2 _) (v.leaves_apart k)));
    nodes_fill = let e = places_append gone beside in omega (arith, a.left, v.nodes_fill, e) ∙ ap (λ (n : ℕ). 2 ^ n) (sym a.order);
    leaves_fill = let e = places_append gone2 beside2 in omega (arith, b.left, v.leaves_fill, e) ∙ ap (λ (n : ℕ). 2 ^ n) (sym b.order);
  }

-- the other blocks in another order
module _ (f : Family) (s : ℕ) (nodes : Space Node) (leaves : Space ℕ) (direct : List ℕ) (L : Entries) (xs ys us vs : List Array) where
  pub version_turned : IsVersion f s nodes leaves direct L (xs ++ ys) (us ++ vs) → IsVersion f s nodes leaves direct L (ys ++ xs) (vs ++ us)
  version_turned v = record {
    words = v.words;
    nodes_apart = λ k. front_back (is_out nodes.free) xs ys (word_arrays k nodes.cells direct) (v.nodes_apart k);
    leaves_apart = λ k. front_back (is_out leaves.free) us vs (word_leaf_arrays k nodes.cells direct) (v.leaves_apart k);
    nodes_fill = let a = places_append xs ys in let b = places_append ys xs in omega (arith, v.nodes_fill, a, b);
    leaves_fill = let a = places_append us vs in let b = places_append vs us in omega (arith, v.leaves_fill, a, b);
  }

-- ---- a word is stored
covers_append : (xs ys : List Store) (v : ℕ) → stores_cover (xs ++ ys) v ≡ (stores_cover xs v || stores_cover ys v)
covers_append [] ys v = refl
covers_append (x ∷ xs) ys v = ap (λ b. nat_eq x.0 v || b) (covers_append xs ys v) ∙ assoc (nat_eq x.0 v) (stores_cover xs v) (stores_cover ys v)
  where
    assoc : (a b c : Bool) → (a || (b || c)) ≡ ((a || b) || c)
    assoc true b c = refl
    assoc false b c = refl

covers_next : (stores : List Store) (made v : ℕ) → made < length stores → stores_cover (take (suc made) stores) v ≡ (stores_cover (take made stores) v || (nat_eq (get_or stores made (0, 0)).0 v || false))
covers_next stores made v l = ap (λ (x : List Store). stores_cover x v) (take-suc stores made (0, 0) l) ∙ covers_append (take made stores) (get_or stores made (0, 0) ∷ []) v

at_store : (P : Store → Type 0) (stores : List Store) (i : ℕ) → i < length stores → AllByRecursion P stores → P (get_or stores i (0, 0))
at_store P [] i l a = absurd (omega arith)
at_store P (s ∷ rest) zero l a = a.0
at_store P (s ∷ rest) (suc i) l a = at_store P rest i (omega arith) a.1

neither : (a b : Bool) → (a || (b || false)) ≡ false → (a ≡ false) × (b ≡ false)
neither false false e = (refl, refl)
neither false true e = cc
neither true b e = cc

apart_eq : (a b : ℕ) → nat_eq a b ≡ false → b ≢ a
apart_eq a b e p = let q : nat_eq a b ≡ nat_eq a a = ap (nat_eq a) p in let r = eq-eqb a a refl in cc

module _ (l : Seen) (L M : Entries) (old new : List ℕ) (b : Beside l L M old new) (more : l.made < length l.stores) where
  abbrev now : Store
  now = get_or l.stores l.made (0, 0)

  abbrev pub stored_next : Seen
  stored_next = record l { words = set l.words now.0 now.1; made = suc l.made }

  due : (now.0 < 2 ^ l.direct_bits) × (get_or new now.0 0 ≡ now.1)
  due = at_store _ l.stores l.made more b.due

  pub store_shows : Beside stored_next L M old new
  store_shows = record {
    before = b.before;
    after = b.after;
    nodes_few = b.nodes_few;
    leaves_few = b.leaves_few;
    made = omega arith;
    words = length-set l.words now.0 now.1 ∙ b.words;
    stored = λ v h c.
        elim (either (stores_cover (take l.made l.stores) v) _ (sym (covers_next l.stores l.made v more) ∙ c)) [
          | inl e ↦ by v h e
          | inr e ↦ mine v (once (nat_eq now.0 v) e)
        ];
    unstored = λ v h c.
        let n = neither (stores_cover (take l.made l.stores) v) (nat_eq now.0 v) (sym (covers_next l.stores l.made v more) ∙ c) in
        get_or-set_other l.words now.0 v now.1 0 (apart_eq now.0 v n.1) ∙ b.unstored v h n.0;
    shared = b.shared;
    due = b.due;
  }
    where
      once : (x : Bool) → (x || false) ≡ true → x ≡ true
      once true e = refl
      once false e = cc

      mine : (v : ℕ) → nat_eq now.0 v ≡ true → get_or (set l.words now.0 now.1) v 0 ≡ get_or new v 0
      mine v e = let p : now.0 ≡ v = eqb-true now.0 v e in subst (λ (i : ℕ). get_or (set l.words now.0 now.1) i 0 ≡ get_or new i 0) p (get_or-set_same l.words now.0 now.1 0 (omega (arith, due.0, b.words)) ∙ sym due.1)

      by : (v : ℕ) → v < 2 ^ l.direct_bits → stores_cover (take l.made l.stores) v ≡ true → get_or (set l.words now.0 now.1) v 0 ≡ get_or new v 0
      by v h e = two (nat_eq now.0 v) refl
        where
          two : (x : Bool) → nat_eq now.0 v ≡ x → get_or (set l.words now.0 now.1) v 0 ≡ get_or new v 0
          two true p = mine v p
          two false p = get_or-set_other l.words now.0 v now.1 0 (apart_eq now.0 v p) ∙ b.stored v h e

-- ---- an end
covers_all : (stores : List Store) (made v : ℕ) → made ≡ length stores → stores_cover (take made stores) v ≡ stores_cover stores v
covers_all stores made v e = ap (λ (x : List Store). stores_cover x v) (take_whole stores made e)
  where
    take_whole : (xs : List Store) (n : ℕ) → n ≡ length xs → take n xs ≡ xs
    take_whole xs n e = take_all n xs (omega arith)

pub blocks_append : (xs : List Retired) (t : ℕ) (ys : List Array) → blocks_of (xs ++ at_end t ys) ≡ blocks_of xs ++ ys
blocks_append [] t ys = blocks_end t ys
  where
    blocks_end : (t : ℕ) (ys : List Array) → blocks_of (at_end t ys) ≡ ys
    blocks_end t [] = refl
    blocks_end t (y ∷ ys) = ap (λ (r : List Array). y ∷ r) (blocks_end t ys)
blocks_append (x ∷ xs) t ys = ap (λ (r : List Array). x.block ∷ r) (blocks_append xs t ys)

abbrev pub at_its_end : Seen → Seen
at_its_end l = record l { nodes = room_at_end l.nodes (suc l.time); leaves = room_at_end l.leaves (suc l.time); pending = false; stores = []; made = 0; time = suc l.time }

module _ (l : Seen) (L M : Entries) (old new : List ℕ) (b : Beside l L M old new) (all : l.made ≡ length l.stores) where
  words_new : l.words ≡ new
  words_new = same_number_lists l.words new (b.words ∙ sym b.after.words.words) (λ v h. by v (omega (arith, h, b.words)) (stores_cover (take l.made l.stores) v) refl)
    where
      by : (v : ℕ) → v < 2 ^ l.direct_bits → (c : Bool) → stores_cover (take l.made l.stores) v ≡ c → get_or l.words v 0 ≡ get_or new v 0
      by v h true e = b.stored v h e
      by v h false e = b.unstored v h e ∙ b.shared v h (sym (covers_all l.stores l.made v all) ∙ e)

  ended : IsVersion l.family l.direct_bits l.nodes.space l.leaves.space new M (blocks_of (l.nodes.retired ++ at_end (suc l.time) l.nodes.replaced)) (blocks_of (l.leaves.retired ++ at_end (suc l.time) l.leaves.replaced))
  ended =
      let v = version_turned l.family l.direct_bits l.nodes.space l.leaves.space new M l.nodes.replaced (blocks_of l.nodes.retired) l.leaves.replaced (blocks_of l.leaves.retired) b.after in
      subst (λ (x : List Array). IsVersion l.family l.direct_bits l.nodes.space l.leaves.space new M x (blocks_of (l.leaves.retired ++ at_end (suc l.time) l.leaves.replaced))) (sym (blocks_append l.nodes.retired (suc l.time) l.nodes.replaced))
      (subst (λ (x : List Array). IsVersion l.family l.direct_bits l.nodes.space l.leaves.space new M (blocks_of l.nodes.retired ++ l.nodes.replaced) x) (sym (blocks_append l.leaves.retired (suc l.time) l.leaves.replaced)) v)

  pub end_shows : Beside (at_its_end l) M M new new
  end_shows = record {
    before = ended;
    after = ended;
    nodes_few = omega arith;
    leaves_few = omega arith;
    made = omega arith;
    words = b.words;
    stored = λ v h e. cc;
    unstored = λ v h e. ap (λ (w : List ℕ). get_or w v 0) words_new;
    shared = λ v h e. refl;
    due = tt;
  }

-- ---- at_its_cancel before a store was made, and all that it took is given back
abbrev pub at_its_cancel : Seen → Space Node → Space ℕ → Seen
at_its_cancel l nodes leaves = record l { nodes = quiet_room nodes l.nodes.retired; leaves = quiet_room leaves l.leaves.retired; pending = false; stores = []; made = 0 }

module _ (l : Seen) (nodes : Space Node) (leaves : Space ℕ) (L M : Entries) (old new : List ℕ) (b : Beside l L M old new) (none : l.made ≡ 0) where
  pub cancel_shows : GivesBack l.nodes.taken l.nodes.space nodes → GivesBack l.leaves.taken l.leaves.space leaves → Beside (at_its_cancel l nodes leaves) L L old old
  cancel_shows x y =
      let v = version_given l.family l.direct_bits l.nodes.space nodes l.leaves.space leaves old L l.nodes.taken (blocks_of l.nodes.retired) l.leaves.taken (blocks_of l.leaves.retired) b.before x y in
      record {
        before = v;
        after = v;
        nodes_few = omega arith;
        leaves_few = omega arith;
        made = omega arith;
        words = b.words;
        stored = λ i h e. cc;
        unstored = λ i h e. b.unstored i h (ap (λ (n : ℕ). stores_cover (take n l.stores) i) none);
        shared = λ i h e. refl;
        due = tt;
      }
