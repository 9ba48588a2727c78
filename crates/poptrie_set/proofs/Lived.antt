-- The calls of a live trie, as steps of what it is seen as.
use Rattle.std.proofs.Common.{◌≡◌, ℕ, zero, suc, ◌+◌, ◌^◌, ◌<◌, ◌≤◌, List, [], ◌∷◌, ◌++◌, Bool, true, false, length, get_or, refl, sym, ap, ◌∙◌, arith, subst, set}
use Rattle.std.specs.List.{AllByRecursion}
use Rattle.table_model.specs.declared.family.Family.{Family}
use Rattle.table_model.specs.Entries.{Entries}
use Rattle.std.proofs.Math.ListN.{length-set}
use Rattle.buddy_arena.specs.Space.{Space, IsSized}
use Rattle.buddy_arena.specs.Places.{is_out}
use Rattle.buddy_arena.specs.Arrays.{Array, AreApart}
use Rattle.buddy_arena.specs.Blocks.{Held, AreHeldIn, GivesBack, blocks_of, ended, cancelled}
use Rattle.buddy_arena.proofs.Sets.{swap}
use Rattle.poptrie_build.specs.Tries.{node_need, leaf_need}
use Rattle.poptrie_build.specs.declared.node.Node.{Node}
use Rattle.poptrie_set.specs.Rooms.{Room, room_of, room_at_end}
use Rattle.poptrie_set.specs.Lives.{Seen, Store, Beside, ShowsIn, IsLive, stores_of}
use Rattle.poptrie_set.specs.Fits.{Reader, FitsIn}
use Rattle.poptrie_set.specs.Past.{PastIn}
use Rattle.path_copying.specs.declared.slots.Store.{Store as Stored}
use Rattle.poptrie_set.proofs.Steps.{store_shows, end_shows, cancel_shows, at_its_end, at_its_cancel, blocks_append}
use Rattle.poptrie_set.proofs.Fitting.{store_fits}
use Rattle.poptrie_set.proofs.Passed.{end_past}

pub length_stores : (xs : List Stored) → length (stores_of xs) ≡ length xs
length_stores [] = refl
length_stores (x ∷ xs) = let e = length_stores xs in omega arith

pub store_at : (xs : List Stored) (i : ℕ) (d : Stored) → i < length xs → get_or (stores_of xs) i (0, 0) ≡ ((get_or xs i d).slot, (get_or xs i d).word)
store_at [] i d l = absurd (omega arith)
store_at (x ∷ xs) zero d l = refl
store_at (x ∷ xs) (suc i) d l = store_at xs i d (omega arith)

pub slot_fits : (n : ℕ) (xs : List Stored) (i : ℕ) (d : Stored) → i < length xs → AllByRecursion (λ (s : Stored). s.slot < n) xs → (get_or xs i d).slot < n
slot_fits n [] i d l f = absurd (omega arith)
slot_fits n (x ∷ xs) zero d l f = f.0
slot_fits n (x ∷ xs) (suc i) d l f = slot_fits n xs i d (omega arith) f.1

-- the trie after its next store
abbrev pub after_store : Seen → ℕ → ℕ → Seen
after_store l slot word = record l { words = set l.words slot word; made = l.made + 1 }

module _ (l : Seen) (slot word : ℕ) (more : l.made < length l.stores) (at : get_or l.stores l.made (0, 0) ≡ (slot, word)) where
  pub store_step : (L M : Entries) → ShowsIn l L M → ShowsIn (after_store l slot word) L M
  store_step L M sh =
      let b = store_shows l L M sh.0 sh.1 sh.2 more in
      let m : suc l.made ≡ l.made + 1 = omega arith in (
        sh.0,
        sh.1,
        subst (λ (k : ℕ). Beside (record l { words = set l.words slot word; made = k }) L M sh.0 sh.1) m
            (subst (λ (p : Store). Beside (record l { words = set l.words p.0 p.1; made = suc l.made }) L M sh.0 sh.1) at b),
      )

pub store_keeps_fits : (l : Seen) (slot word : ℕ) (os : List Reader) → FitsIn l os → FitsIn (after_store l slot word) os
store_keeps_fits l slot word os f =
    let m : suc l.made ≡ l.made + 1 = omega arith in
    subst (λ (k : ℕ). FitsIn (record l { words = set l.words slot word; made = k }) os) m (store_fits l os f (set l.words slot word))

-- ---- what it is seen as after an end and after a cancel
module _ (f : Family) (s : ℕ) (words : List ℕ) where
  abbrev pub seen_as : Space Node → Space ℕ → Held → Held → Bool → List Stored → ℕ → Seen
  seen_as nodes leaves a b p stores made = record { family = f; direct_bits = s; words = words; nodes = room_of nodes a; leaves = room_of leaves b; pending = p; stores = stores_of stores; made = made; time = a.time }

  module _ (nodes : Space Node) (leaves : Space ℕ) (a b a2 b2 : Held) (p : Bool) (stores none : List Stored) (made : ℕ) where
    pub end_is : a2 ≡ ended a → b2 ≡ ended b → none ≡ [] → b.time ≡ a.time → seen_as nodes leaves a2 b2 false none 0 ≡ at_its_end (seen_as nodes leaves a b p stores made)
    end_is ea eb en et =
        ap (λ (h : Held). seen_as nodes leaves h b2 false none 0) ea
        ∙ (ap (λ (h : Held). seen_as nodes leaves (ended a) h false none 0) eb
        ∙ (ap (λ (x : List Stored). seen_as nodes leaves (ended a) (ended b) false x 0) en
        ∙ ap (λ (t : ℕ). record (at_its_end (seen_as nodes leaves a b p stores made)) { leaves = room_at_end (room_of leaves b) (suc t) }) et))

    module _ (nodes2 : Space Node) (leaves2 : Space ℕ) where
      pub cancel_is : a2 ≡ cancelled a → b2 ≡ cancelled b → none ≡ [] → made ≡ 0 → seen_as nodes2 leaves2 a2 b2 false none made ≡ at_its_cancel (seen_as nodes leaves a b p stores made) nodes2 leaves2
      cancel_is ea eb en em =
          ap (λ (h : Held). seen_as nodes2 leaves2 h b2 false none made) ea
          ∙ (ap (λ (h : Held). seen_as nodes2 leaves2 (cancelled a) h false none made) eb
          ∙ (ap (λ (x : List Stored). seen_as nodes2 leaves2 (cancelled a) (cancelled b) false x made) en
          ∙ ap (λ (m : ℕ). seen_as nodes2 leaves2 (cancelled a) (cancelled b) false [] m) em))

-- ---- the relations over these steps
pub end_step : (l : Seen) → length l.stores ≤ l.made → l.made ≤ length l.stores → (L M : Entries) → ShowsIn l L M → ShowsIn (at_its_end l) M M
end_step l a b L M sh = (sh.1, sh.1, end_shows l L M sh.0 sh.1 sh.2 (omega arith))

pub cancel_step : (l : Seen) (nodes : Space Node) (leaves : Space ℕ) → l.made ≡ 0 → GivesBack l.nodes.taken l.nodes.space nodes → GivesBack l.leaves.taken l.leaves.space leaves → (L M : Entries) → ShowsIn l L M → ShowsIn (at_its_cancel l nodes leaves) L L
cancel_step l nodes leaves z x y L M sh = (sh.0, sh.0, cancel_shows l nodes leaves L M sh.0 sh.1 sh.2 z x y)

pub past_step : (l : Seen) (L M : Entries) (ns ls : List ℕ) → ShowsIn l L M → PastIn l ns ls → PastIn (at_its_end l) (ns ++ node_need l.family l.direct_bits L ∷ []) (ls ++ leaf_need l.family l.direct_bits L ∷ [])
past_step l L M ns ls sh p = end_past l L M sh.0 sh.1 sh.2 ns ls p

-- ---- what is kept
-- of blocks that are apart, in another order
held_ended : (N : ℕ → Bool) (h : Held) → AreHeldIn N h → AreHeldIn N (ended h)
held_ended N h a =
    let turned = swap N h.replaced (blocks_of h.retired) a.with_replaced in
    let p = subst (λ (x : List Array). AreApart N x) (sym (blocks_append h.retired (suc h.time) h.replaced)) turned in
    record { with_taken = p; with_replaced = p }

pub end_keeps : (s : ℕ) (words : List ℕ) (nodes : Space Node) (leaves : Space ℕ) (a b a2 b2 : Held) (p : Bool) (stores none : List Stored) (made : ℕ) → a2 ≡ ended a → b2 ≡ ended b → none ≡ [] → IsLive s words nodes leaves a b p stores made → IsLive s words nodes leaves a2 b2 false none 0
end_keeps s words nodes leaves a b a2 b2 p stores none made ea eb en l =
    subst (λ (h : Held). IsLive s words nodes leaves h b2 false none 0) (sym ea)
    (subst (λ (h : Held). IsLive s words nodes leaves (ended a) h false none 0) (sym eb)
    (subst (λ (x : List Stored). IsLive s words nodes leaves (ended a) (ended b) false x 0) (sym en)
    (record {
      few = l.few;
      many = l.many;
      nodes_sized = l.nodes_sized;
      leaves_sized = l.leaves_sized;
      nodes_held = held_ended (is_out nodes.free) a l.nodes_held;
      leaves_held = held_ended (is_out leaves.free) b l.leaves_held;
      times = ap suc l.times;
      slots = tt;
      counted = omega arith;
      quiet = λ _. record { no_stores = refl; none_made = refl; nodes_taken = refl; nodes_replaced = refl; leaves_taken = refl; leaves_replaced = refl };
    })))

-- the next store
pub store_keeps : (s : ℕ) (words : List ℕ) (nodes : Space Node) (leaves : Space ℕ) (a b : Held) (p : Bool) (stores : List Stored) (made slot word : ℕ) → p ≡ true → made < length stores → IsLive s words nodes leaves a b p stores made → IsLive s (set words slot word) nodes leaves a b p stores (made + 1)
store_keeps s words nodes leaves a b p stores made slot word pending more l = record {
  few = l.few;
  many = length-set words slot word ∙ l.many;
  nodes_sized = l.nodes_sized;
  leaves_sized = l.leaves_sized;
  nodes_held = l.nodes_held;
  leaves_held = l.leaves_held;
  times = l.times;
  slots = l.slots;
  counted = omega (arith, more);
  quiet = λ e. cc;
}

-- the end of an update that changed nothing here
pub tick_keeps : (s : ℕ) (words : List ℕ) (nodes : Space Node) (leaves : Space ℕ) (a b a2 b2 : Held) (p : Bool) (stores : List Stored) (made : ℕ) → a2 ≡ ended a → b2 ≡ ended b → p ≡ false → IsLive s words nodes leaves a b p stores made → IsLive s words nodes leaves a2 b2 p stores made
tick_keeps s words nodes leaves a b a2 b2 p stores made ea eb quiet l =
    subst (λ (h : Held). IsLive s words nodes leaves h b2 p stores made) (sym ea)
    (subst (λ (h : Held). IsLive s words nodes leaves (ended a) h p stores made) (sym eb)
    (record {
      few = l.few;
      many = l.many;
      nodes_sized = l.nodes_sized;
      leaves_sized = l.leaves_sized;
      nodes_held = held_ended (is_out nodes.free) a l.nodes_held;
      leaves_held = held_ended (is_out leaves.free) b l.leaves_held;
      times = ap suc l.times;
      slots = l.slots;
      counted = l.counted;
      quiet = λ e. record { no_stores = (l.quiet e).no_stores; none_made = (l.quiet e).none_made; nodes_taken = refl; nodes_replaced = refl; leaves_taken = refl; leaves_replaced = refl };
    }))

-- of both versions nothing changes but the blocks beside them
pub same_shows : (l : Seen) (nodes : Room Node) (leaves : Room ℕ) (t : ℕ) → nodes ≡ l.nodes → leaves ≡ l.leaves → (L M : Entries) → ShowsIn l L M → ShowsIn (record l { nodes = nodes; leaves = leaves; time = t }) L M
same_shows l nodes leaves t en el L M (old, new, b) =
    subst (λ (x : Room Node). ShowsIn (record l { nodes = x; leaves = leaves; time = t }) L M) (sym en)
    (subst (λ (x : Room ℕ). ShowsIn (record l { leaves = x; time = t }) L M) (sym el) (
      old,
      new,
      record {
        before = b.before;
        after = b.after;
        nodes_few = b.nodes_few;
        leaves_few = b.leaves_few;
        made = b.made;
        words = b.words;
        stored = b.stored;
        unstored = b.unstored;
        shared = b.shared;
        due = b.due;
      },
    ))

-- a cancel before a store was made
pub cancel_keeps : (s : ℕ) (words : List ℕ) (nodes nodes2 : Space Node) (leaves leaves2 : Space ℕ) (a b a2 b2 : Held) (p : Bool) (stores none : List Stored) (made : ℕ) → made ≡ 0 → none ≡ [] → a2 ≡ cancelled a → b2 ≡ cancelled b → IsSized nodes2 → IsSized leaves2 → AreHeldIn (is_out nodes2.free) a2 → AreHeldIn (is_out leaves2.free) b2 → IsLive s words nodes leaves a b p stores made → IsLive s words nodes2 leaves2 a2 b2 false none made
cancel_keeps s words nodes nodes2 leaves leaves2 a b a2 b2 p stores none made z en ea eb sn sl hn hl l = record {
  few = l.few;
  many = l.many;
  nodes_sized = sn;
  leaves_sized = sl;
  nodes_held = hn;
  leaves_held = hl;
  times = ap (λ (h : Held). h.time) eb ∙ (l.times ∙ sym (ap (λ (h : Held). h.time) ea));
  slots = subst (λ (x : List Stored). AllByRecursion (λ (t : Stored). t.slot < 2 ^ s) x) (sym en) tt;
  counted = omega (arith, z);
  quiet = λ e. record { no_stores = en; none_made = z; nodes_taken = ap (λ (h : Held). h.taken) ea; nodes_replaced = ap (λ (h : Held). h.replaced) ea; leaves_taken = ap (λ (h : Held). h.taken) eb; leaves_replaced = ap (λ (h : Held). h.replaced) eb };
}
