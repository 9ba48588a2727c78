-- A live trie of which nothing is pending: as it was filled, and as blocks are given back.
use Rattle.std.proofs.Common.{◌≡◌, ℕ, suc, ◌+◌, ◌^◌, ◌<◌, ◌≤◌, List, [], ◌∷◌, ◌++◌, Bool, true, false, length, get_or, refl, sym, ap, ◌∙◌, arith, subst}
use Rattle.table_model.specs.declared.family.Family.{Family}
use Rattle.table_model.specs.Entries.{Entries}
use Rattle.std.specs.List.{AllByRecursion}
use Rattle.std.proofs.lemmas.List.{length-replicate}
use Rattle.buddy_arena.specs.Space.{Space, IsSized, empty}
use Rattle.buddy_arena.specs.Places.{is_out}
use Rattle.buddy_arena.specs.Arrays.{Array, AreApart}
use Rattle.buddy_arena.specs.Blocks.{Held, Retired, GivesBack, AreHeldIn, blocks_of, early, late, released, nothing_held}
use Rattle.poptrie_build.specs.Tries.{Shown, StandsFor, StandsForAnswers, rest}
use Rattle.poptrie_build.specs.declared.node.Node.{Node}
use Rattle.poptrie_set.specs.Rooms.{quiet_room}
use Rattle.poptrie_set.specs.Version.{IsVersion}
use Rattle.poptrie_set.specs.Lives.{Seen, ShowsIn, ShowsSome, IsLive}
use Rattle.poptrie_set.specs.Fits.{Reader, IsOldestOf, until}
use Rattle.poptrie_set.specs.declared.trie_set.Oldest.{Oldest}
use Rattle.poptrie_set.specs.declared.trie_set.Oldest.TheVariants as oldest
use Rattle.poptrie_set.specs.Past.{PastIn, retired_at}
use Rattle.path_copying.specs.declared.slots.Store.{Store as Stored}
use Rattle.poptrie_set.proofs.Steps.{version_given}
use Rattle.poptrie_set.proofs.Passed.{late_past}
use Rattle.poptrie_set.proofs.Lived.{seen_as}
use Rattle.poptrie_set.proofs.Some_table.{table_for, stands_for_table}
use Rattle.table_model.specs.Width.{width}

-- ---- filled
abbrev pub fresh : Shown → ℕ → Seen
fresh t time = record { family = t.family; direct_bits = t.direct_bits; words = t.words; nodes = quiet_room t.nodes []; leaves = quiet_room t.leaves []; pending = false; stores = []; made = 0; time = time }

version_of : (t : Shown) (L : Entries) → StandsFor t L → IsVersion t.family t.direct_bits t.nodes t.leaves t.words L [] []
version_of t L s = record {
  words = s.words;
  nodes_apart = λ k. s.nodes_apart k;
  leaves_apart = λ k. s.leaves_apart k;
  nodes_fill = omega (arith, s.nodes);
  leaves_fill = omega (arith, s.leaves);
}

pub fresh_shows : (t : Shown) (time : ℕ) (L : Entries) → StandsFor t L → ShowsIn (fresh t time) L L
fresh_shows t time L s =
    let v = version_of t L s in (
      t.words,
      t.words,
      record {
        before = v;
        after = v;
        nodes_few = omega arith;
        leaves_few = omega arith;
        made = omega arith;
        words = s.words.words;
        stored = λ v h e. cc;
        unstored = λ v h e. refl;
        shared = λ v h e. refl;
        due = tt;
      },
    )

module _ (f : Family) (s : ℕ) (words : List ℕ) (nodes : Space Node) (leaves : Space ℕ) (a b : Held) (p : Bool) (stores : List Stored) (made t u : ℕ) where
  pub fresh_is : a ≡ nothing_held t → b ≡ nothing_held u → p ≡ false → stores ≡ [] → made ≡ 0 → seen_as f s words nodes leaves a b p stores made ≡ fresh (record { family = f; direct_bits = s; words = words; nodes = nodes; leaves = leaves }) t
  fresh_is ea eb ep es em =
      ap (λ (h : Held). seen_as f s words nodes leaves h b p stores made) ea
      ∙ (ap (λ (h : Held). seen_as f s words nodes leaves (nothing_held t) h p stores made) eb
      ∙ (ap (λ (x : Bool). seen_as f s words nodes leaves (nothing_held t) (nothing_held u) x stores made) ep
      ∙ (ap (λ (x : List Stored). seen_as f s words nodes leaves (nothing_held t) (nothing_held u) false x made) es
      ∙ ap (λ (m : ℕ). seen_as f s words nodes leaves (nothing_held t) (nothing_held u) false [] m) em)))

-- nothing is retired
pub past_cleared : (l m : Seen) (ns ls : List ℕ) → m.time ≡ l.time → m.nodes.retired ≡ [] → m.leaves.retired ≡ [] → PastIn l ns ls → PastIn m ns ls
past_cleared l m ns ls e a b p = record {
  node_ends = p.node_ends ∙ sym e;
  leaf_ends = p.leaf_ends ∙ sym e;
  nodes = λ t. subst (λ (r : List Retired). retired_at (suc t) r ≤ get_or ns t 0) (sym a) (omega arith);
  leaves = λ t. subst (λ (r : List Retired). retired_at (suc t) r ≤ get_or ls t 0) (sym b) (omega arith);
}

-- ---- given back
abbrev pub at_its_release : Seen → Space Node → Space ℕ → ℕ → Seen
at_its_release l nodes leaves since = record l { nodes = quiet_room nodes (late since l.nodes.retired); leaves = quiet_room leaves (late since l.leaves.retired) }

blocks_join : (xs ys : List Retired) → blocks_of (xs ++ ys) ≡ blocks_of xs ++ blocks_of ys
blocks_join [] ys = refl
blocks_join (x ∷ xs) ys = ap (λ (r : List Array). x.block ∷ r) (blocks_join xs ys)

module _ (l : Seen) (nodes : Space Node) (leaves : Space ℕ) (since : ℕ) (taken : l.nodes.taken ≡ []) (replaced : l.nodes.replaced ≡ []) (taken2 : l.leaves.taken ≡ []) (replaced2 : l.leaves.replaced ≡ []) (first : l.nodes.retired ≡ early since l.nodes.retired ++ late since l.nodes.retired) (first2 : l.leaves.retired ≡ early since l.leaves.retired ++ late since l.leaves.retired)
    (gives : GivesBack (blocks_of (early since l.nodes.retired)) l.nodes.space nodes) (gives2 : GivesBack (blocks_of (early since l.leaves.retired)) l.leaves.space leaves) where
  given : (words : List ℕ) (E : Entries) (xs ys : List Array) → xs ≡ [] → ys ≡ [] → IsVersion l.family l.direct_bits l.nodes.space l.leaves.space words E (xs ++ blocks_of l.nodes.retired) (ys ++ blocks_of l.leaves.retired) → IsVersion l.family l.direct_bits nodes leaves words E (blocks_of (late since l.nodes.retired)) (blocks_of (late since l.leaves.retired))
  given words E xs ys ex ey v =
      let parts : xs ++ blocks_of l.nodes.retired ≡ blocks_of (early since l.nodes.retired) ++ blocks_of (late since l.nodes.retired) = ap (λ (x : List Array). x ++ blocks_of l.nodes.retired) ex ∙ (ap blocks_of first ∙ blocks_join (early since l.nodes.retired) (late since l.nodes.retired)) in
      let parts2 : ys ++ blocks_of l.leaves.retired ≡ blocks_of (early since l.leaves.retired) ++ blocks_of (late since l.leaves.retired) = ap (λ (x : List Array). x ++ blocks_of l.leaves.retired) ey ∙ (ap blocks_of first2 ∙ blocks_join (early since l.leaves.retired) (late since l.leaves.retired)) in
      version_given l.family l.direct_bits l.nodes.space nodes l.leaves.space leaves words E (blocks_of (early since l.nodes.retired)) (blocks_of (late since l.nodes.retired)) (blocks_of (early since l.leaves.retired)) (blocks_of (late since l.leaves.retired))
      (subst (λ (x : List Array). IsVersion l.family l.direct_bits l.nodes.space l.leaves.space words E x (blocks_of (early since l.leaves.retired) ++ blocks_of (late since l.leaves.retired))) parts
      (subst (λ (x : List Array). IsVersion l.family l.direct_bits l.nodes.space l.leaves.space words E (xs ++ blocks_of l.nodes.retired) x) parts2 v)) gives gives2

  pub release_shows : (L M : Entries) → ShowsIn l L M → ShowsIn (at_its_release l nodes leaves since) L M
  release_shows L M sh = (
    sh.0,
    sh.1,
    record {
      before = given sh.0 L l.nodes.taken l.leaves.taken taken taken2 sh.2.before;
      after = given sh.1 M l.nodes.replaced l.leaves.replaced replaced replaced2 sh.2.after;
      nodes_few = omega arith;
      leaves_few = omega arith;
      made = sh.2.made;
      words = sh.2.words;
      stored = sh.2.stored;
      unstored = sh.2.unstored;
      shared = sh.2.shared;
      due = sh.2.due;
    },
  )

pub release_past : (l : Seen) (nodes : Space Node) (leaves : Space ℕ) (since : ℕ) (ns ls : List ℕ) → PastIn l ns ls → PastIn (at_its_release l nodes leaves since) ns ls
release_past l nodes leaves since ns ls p = record {
  node_ends = p.node_ends;
  leaf_ends = p.leaf_ends;
  nodes = λ t. omega (arith, late_past since (suc t) l.nodes.retired, p.nodes t);
  leaves = λ t. omega (arith, late_past since (suc t) l.leaves.retired, p.leaves t);
}

module _ (f : Family) (s : ℕ) (words : List ℕ) (nodes nodes2 : Space Node) (leaves leaves2 : Space ℕ) (a b a2 b2 : Held) (p : Bool) (stores : List Stored) (made since : ℕ) where
  pub release_is : a2 ≡ released since a → b2 ≡ released since b → a.taken ≡ [] → a.replaced ≡ [] → b.taken ≡ [] → b.replaced ≡ [] → seen_as f s words nodes2 leaves2 a2 b2 p stores made ≡ at_its_release (seen_as f s words nodes leaves a b p stores made) nodes2 leaves2 since
  release_is ea eb t r t2 r2 =
      ap (λ (h : Held). seen_as f s words nodes2 leaves2 h b2 p stores made) ea
      ∙ (ap (λ (h : Held). seen_as f s words nodes2 leaves2 (released since a) h p stores made) eb
      ∙ (ap (λ (x : List Array). seen_as f s words nodes2 leaves2 (record (released since a) { taken = x }) (released since b) p stores made) t
      ∙ (ap (λ (x : List Array). seen_as f s words nodes2 leaves2 (record (released since a) { taken = []; replaced = x }) (released since b) p stores made) r
      ∙ (ap (λ (x : List Array). seen_as f s words nodes2 leaves2 (record (released since a) { taken = []; replaced = [] }) (record (released since b) { taken = x }) p stores made) t2
      ∙ ap (λ (x : List Array). seen_as f s words nodes2 leaves2 (record (released since a) { taken = []; replaced = [] }) (record (released since b) { taken = []; replaced = x }) p stores made) r2))))

-- ---- what is kept
none_held : (N : ℕ → Bool) (t : ℕ) → AreHeldIn N (nothing_held t)
unfolding AreApart
none_held N t = record { with_taken = tt; with_replaced = tt }

pub empty_sized : {T : Type 0} (s : Space T) (o : ℕ) (x : T) → o < 31 → s ≡ empty o x → IsSized s
empty_sized s o x l e =
    let order : s.order ≡ o = ap (λ q. q.order) e in
    record {
      small = omega (arith, order);
      places = ap (λ q. length q.free) e ∙ (length-replicate (2 ^ o) true ∙ ap (λ (n : ℕ). 2 ^ n) (sym order));
      cells = ap (λ q. length q.cells) e ∙ (length-replicate (2 ^ o) x ∙ ap (λ (n : ℕ). 2 ^ n) (sym order));
    }

pub fresh_kept : (s : ℕ) (words : List ℕ) (nodes : Space Node) (leaves : Space ℕ) (a b : Held) (p : Bool) (stores : List Stored) (made t u : ℕ) → s ≤ 18 → length words ≡ 2 ^ s → IsSized nodes → IsSized leaves → a ≡ nothing_held t → b ≡ nothing_held u → u ≡ t → stores ≡ [] → made ≡ 0 → IsLive s words nodes leaves a b p stores made
fresh_kept s words nodes leaves a b p stores made t u few many sn sl ea eb et es em =
    subst (λ (h : Held). IsLive s words nodes leaves h b p stores made) (sym ea)
    (subst (λ (h : Held). IsLive s words nodes leaves (nothing_held t) h p stores made) (sym eb)
    (subst (λ (x : List Stored). IsLive s words nodes leaves (nothing_held t) (nothing_held u) p x made) (sym es)
    (subst (λ (m : ℕ). IsLive s words nodes leaves (nothing_held t) (nothing_held u) p [] m) (sym em)
    (record {
      few = few;
      many = many;
      nodes_sized = sn;
      leaves_sized = sl;
      nodes_held = none_held (is_out nodes.free) t;
      leaves_held = none_held (is_out leaves.free) u;
      times = et;
      slots = tt;
      counted = omega arith;
      quiet = λ _. record { no_stores = refl; none_made = refl; nodes_taken = refl; nodes_replaced = refl; leaves_taken = refl; leaves_replaced = refl };
    }))))

-- ---- the oldest lookup
pub since_all : (o : Oldest) (os : List Reader) (time : ℕ) → IsOldestOf o os → AllByRecursion (λ (x : Reader). until o time ≤ x.since) os
since_all oldest.Nobody os time e = subst (λ (xs : List Reader). AllByRecursion (λ (x : Reader). time ≤ x.since) xs) (sym e) tt
since_all (oldest.Started cursor since) os time a = a

-- what was retired is given back
pub release_keeps : (s : ℕ) (words : List ℕ) (nodes nodes2 : Space Node) (leaves leaves2 : Space ℕ) (a b a2 b2 : Held) (p : Bool) (stores : List Stored) (made since : ℕ) → a2 ≡ released since a → b2 ≡ released since b → IsSized nodes2 → IsSized leaves2 → AreHeldIn (is_out nodes2.free) a2 → AreHeldIn (is_out leaves2.free) b2 → IsLive s words nodes leaves a b p stores made → IsLive s words nodes2 leaves2 a2 b2 p stores made
release_keeps s words nodes nodes2 leaves leaves2 a b a2 b2 p stores made since ea eb sn sl hn hl l = record {
  few = l.few;
  many = l.many;
  nodes_sized = sn;
  leaves_sized = sl;
  nodes_held = hn;
  leaves_held = hl;
  times = ap (λ (h : Held). h.time) eb ∙ (l.times ∙ sym (ap (λ (h : Held). h.time) ea));
  slots = l.slots;
  counted = l.counted;
  quiet = λ e. record {
    no_stores = (l.quiet e).no_stores;
    none_made = (l.quiet e).none_made;
    nodes_taken = ap (λ (h : Held). h.taken) ea ∙ (l.quiet e).nodes_taken;
    nodes_replaced = ap (λ (h : Held). h.replaced) ea ∙ (l.quiet e).nodes_replaced;
    leaves_taken = ap (λ (h : Held). h.taken) eb ∙ (l.quiet e).leaves_taken;
    leaves_replaced = ap (λ (h : Held). h.replaced) eb ∙ (l.quiet e).leaves_replaced;
  };
}

-- a trie of any answers shows some table
pub fresh_some : (t : Shown) (time : ℕ) (g : List Bool → ℕ) → t.direct_bits + rest t.family t.direct_bits ≡ width t.family → StandsForAnswers t g → ShowsSome (fresh t time)
fresh_some t time g whole st = record { before = table_for t.family g; after = table_for t.family g; shows = fresh_shows t time (table_for t.family g) (stands_for_table t g whole st) }
