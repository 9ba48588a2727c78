-- What is out stays as it was while blocks are taken and written: the versions that stand go on standing.
use Rattle.std.proofs.Common.{◌≡◌, ℕ, ◌+◌, ◌^◌, List, ◌++◌, Bool, true, get_or, sym, ap, ◌∙◌, arith, subst}
use Rattle.std.proofs.lemmas.List.{append_assoc}
use Rattle.table_model.specs.Bits.{bits_of}
use Rattle.table_model.specs.declared.family.Family.{Family}
use Rattle.table_model.specs.Entries.{Entries}
use Rattle.buddy_arena.specs.Space.{Space}
use Rattle.poptrie_build.specs.Strides.{strides}
use Rattle.fib_addr.specs.Answers.{part, one_answer, all_answers}
use Rattle.poptrie_build.specs.Stands.{blank, node_at}
use Rattle.buddy_arena.specs.Places.{Keeps, is_out, count_free, since}
use Rattle.poptrie_build.specs.Build.{WordsIn, StandsIn}
use Rattle.buddy_arena.specs.Arrays.{Array, AreApart, places_of}
use Rattle.poptrie_build.specs.Arrays.{word_arrays, word_leaf_arrays}
use Rattle.poptrie_build.specs.Tries.{rest}
use Rattle.poptrie_build.specs.declared.node.Node.{Node}
use Rattle.poptrie_build.proofs.Carry.{Carries, carry, map_slot}
use Rattle.poptrie_build.proofs.Filled.{words_stand}
use Rattle.buddy_arena.proofs.Parting.{since_now, since_not, apart_append, part_right}
use Rattle.poptrie_build.proofs.Wording.{words_kept}
use Rattle.poptrie_set.specs.Version.{IsVersion}
use Rattle.buddy_arena.proofs.Sets.{places_append}
use Rattle.path_copying.proofs.Held.{words_held}

pub words_carried : (s k : ℕ) (words : List ℕ) (nodes after : List Node) (N M : ℕ → Bool) (leaves others : List ℕ) (L R : ℕ → Bool) (d : ℕ) (f : List Bool → ℕ) → Carries blank nodes N after M → Carries 0 leaves L others R → WordsIn s words k nodes N leaves L d f → WordsIn s words k after M others R d f
words_carried s k words nodes after N M leaves others L R d f a b w v l =
    map_slot (one_answer d (part (bits_of s v) f)) _ _ _ _
    (λ t.
    let w = get_or words v 0 in (
      t.0,
      a.inside w t.1,
      omega (arith, t.2, a.long),
      subst (λ (n : Node). StandsIn k after M others R n d (part (bits_of s v) f)) (sym (a.same w t.1)) (carry k nodes after N M leaves others L R (node_at nodes w) d (part (bits_of s v) f) a b t.3),
    ))
    (λ h t. t)
    (w v l)

pub carried : {A : Type 0} (e : A) (cells after : List A) (N M : ℕ → Bool) → Keeps e cells N after M → Carries e cells N after M
carried e cells after N M k = record { inside = k.still; same = k.same; long = k.long }

-- what an arena gains
pub record Grows {T : Type 0} (empty : T) (old new : Space T) (more : List Array) : Type 0 where
  pub keeps : Keeps empty old.cells (is_out old.free) new.cells (is_out new.free)
  pub order : new.order ≡ old.order
  pub apart : AreApart (since (is_out old.free) (is_out new.free)) more
  pub left : count_free new + places_of more ≡ count_free old

pub more_apart : (old new : ℕ → Bool) (more xs : List Array) → ((i : ℕ) → old i ≡ true → new i ≡ true) → AreApart (since old new) more → AreApart old xs → AreApart new (more ++ xs)
more_apart old new more xs s a b = apart_append (since old new) old new more xs (λ i q. since_not (old i) (new i) q) (λ i q. since_now (old i) (new i) q) s a b

module _ (f : Family) (s : ℕ) (nodes nodes2 : Space Node) (leaves leaves2 : Space ℕ) (direct : List ℕ) (L : Entries) (beside beside2 more more2 : List Array) (v : IsVersion f s nodes leaves direct L beside beside2) (a : Grows blank nodes nodes2 more) (b : Grows 0 leaves leaves2 more2) where
  arrays_same : (k : ℕ) → (word_arrays k nodes2.cells direct ≡ word_arrays k nodes.cells direct) × (word_leaf_arrays k nodes2.cells direct ≡ word_leaf_arrays k nodes.cells direct)
  arrays_same k = words_kept k (is_out nodes.free) nodes.cells nodes2.cells (λ i q. a.keeps.same i q) direct (part_right (is_out nodes.free) beside _ (v.nodes_apart k))

  pub version_grown : IsVersion f s nodes2 leaves2 direct L (more ++ beside) (more2 ++ beside2)
  version_grown = record {
    words =
        let k = strides (rest f s) in
        words_stand s k (rest f s) (all_answers f L) direct nodes2.cells (is_out nodes2.free) leaves2.cells (is_out leaves2.free) v.words.words
        (words_carried s k direct nodes.cells nodes2.cells (is_out nodes.free) (is_out nodes2.free) leaves.cells leaves2.cells (is_out leaves.free) (is_out leaves2.free) (rest f s) (all_answers f L) (carried blank _ _ _ _ a.keeps) (carried 0 _ _ _ _ b.keeps)
        (words_held s k direct nodes.cells leaves.cells (is_out nodes.free) (is_out leaves.free) (rest f s) (all_answers f L) v.words (part_right (is_out nodes.free) beside _ (v.nodes_apart k)) (part_right (is_out leaves.free) beside2 _ (v.leaves_apart k))));
    nodes_apart = λ k.
        subst (λ (x : List Array). AreApart (is_out nodes2.free) ((more ++ beside) ++ x)) (sym (arrays_same k).0)
        (subst (λ (x : List Array). AreApart (is_out nodes2.free) x) (sym (append_assoc more beside _)) (more_apart (is_out nodes.free) (is_out nodes2.free) more _ a.keeps.still a.apart (v.nodes_apart k)));
    leaves_apart = λ k.
        subst (λ (x : List Array). AreApart (is_out leaves2.free) ((more2 ++ beside2) ++ x)) (sym (arrays_same k).1)
        (subst (λ (x : List Array). AreApart (is_out leaves2.free) x) (sym (append_assoc more2 beside2 _)) (more_apart (is_out leaves.free) (is_out leaves2.free) more2 _ b.keeps.still b.apart (v.leaves_apart k)));
    nodes_fill = let e = places_append more beside in omega (arith, a.left, v.nodes_fill, e) ∙ ap (λ (n : ℕ). 2 ^ n) (sym a.order);
    leaves_fill = let e = places_append more2 beside2 in omega (arith, b.left, v.leaves_fill, e) ∙ ap (λ (n : ℕ). 2 ^ n) (sym b.order);
  }
