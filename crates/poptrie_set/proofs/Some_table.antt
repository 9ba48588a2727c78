-- Whatever answers the addresses get, they get them from some table.
use Rattle.std.proofs.Common.{◌≡◌, ℕ, ◌+◌, ◌^◌, ◌<◌, List, [], ◌++◌, Bool, length, take, drop, sym, ap, ◌∙◌, arith}
use Rattle.std.proofs.Math.Nat.{mod-eq_of_lt}
use Rattle.std.proofs.Math.Seq.{drop-append_seam}
use Rattle.std.proofs.lemmas.List.{length-append, take_at}
use Rattle.table_model.specs.Bits.{bits_of, value_of}
use Rattle.table_model.specs.Width.{width}
use Rattle.table_model.specs.declared.family.Family.{Family}
use Rattle.table_model.specs.Entries.{Entries, of_table}
use Rattle.table_model.specs.Sets.{agg}
use Rattle.table_model.specs.Table.{Table, lpm}
use Rattle.table_model.proofs.BitLaws.{length-bits_of, value-bits_of}
use Rattle.table_model.proofs.Both.{family_is}
use Rattle.table_model.proofs.Cost.{agg_answers}
use Rattle.fib_addr.specs.Answers.{part, all_answers}
use Rattle.poptrie_build.specs.Strides.{strides}
use Rattle.poptrie_build.specs.Tries.{Shown, StandsFor, StandsForAnswers, rest}
use Rattle.path_copying.specs.Alike.{SameAnswers}
use Rattle.path_copying.proofs.Alike_row.{row_alike}
use Rattle.path_copying.proofs.Whole.{row_of, trie_of, nodes_filled, leaves_filled}
use Rattle.std.specs.Prelude.{slice_index}

-- a table of these answers: the least one
abbrev pub table_for : Family → (List Bool → ℕ) → Entries
table_for f g = of_table f (agg (width f) g [] 0)

pub table_answers : (f : Family) (g : List Bool → ℕ) (a : List Bool) → length a ≡ width f → all_answers f (table_for f g) a ≡ g a
table_answers f g a n = ap (λ (T : Table). lpm T a 0) (family_is f (agg (width f) g [] 0)) ∙ agg_answers (width f) g [] 0 a n

-- the answers of 2 ^ s slots as those of all addresses
abbrev slotwise : ℕ → (ℕ → List Bool → ℕ) → List Bool → ℕ
slotwise s h a = h (value_of (take s a)) (drop s a)

abbrev pub slots_table : Family → ℕ → (ℕ → List Bool → ℕ) → Entries
slots_table f s h = table_for f (slotwise s h)

pub slots_answers : (f : Family) (s : ℕ) (h : ℕ → List Bool → ℕ) (u : ℕ) → s + rest f s ≡ width f → u < 2 ^ s → SameAnswers (rest f s) (part (bits_of s u) (all_answers f (slots_table f s h))) (h u)
slots_answers f s h u whole low a n =
    let b = bits_of s u in
    let long : length b ≡ s = length-bits_of s u in
    let slot : value_of (take s (b ++ a)) ≡ u = ap value_of (take_at b a s long) ∙ (value-bits_of s u ∙ mod-eq_of_lt low) in
    let left : drop s (b ++ a) ≡ a = ap (λ i. drop i (b ++ a)) (sym long) ∙ drop-append_seam b a in
    table_answers f (slotwise s h) (b ++ a) (length-append b a ∙ omega (arith, long, n, whole))
    ∙ (ap (λ v. h v (drop s (b ++ a))) slot ∙ ap (h u) left)

-- a trie of any answers is one of a table
pub stands_for_table : (t : Shown) (g : List Bool → ℕ) → t.direct_bits + rest t.family t.direct_bits ≡ width t.family → StandsForAnswers t g → StandsFor t (table_for t.family g)
stands_for_table t g whole st =
    let s = t.direct_bits in
    let d = rest t.family s in
    let k = strides d in
    let h : List Bool → ℕ = all_answers t.family (table_for t.family g) in
    let row = row_of k s d t.nodes t.leaves t.words g [] [] (2 ^ t.nodes.order) (2 ^ t.leaves.order) st.words (st.nodes_apart k) (st.leaves_apart k) (omega (arith, st.nodes)) (omega (arith, st.leaves)) in
    let row2 = row_alike k (2 ^ s) d t.nodes t.leaves (λ u. slice_index t.words u) (λ u. part (bits_of s u) g) (λ u. part (bits_of s u) h) [] [] (2 ^ t.nodes.order) (2 ^ t.leaves.order) (λ u l a n. table_answers t.family g (bits_of s u ++ a) (length-append (bits_of s u) a ∙ omega (arith, length-bits_of s u, n, whole))) row in
    record {
      words = trie_of k s d t.nodes t.leaves t.words h [] [] (2 ^ t.nodes.order) (2 ^ t.leaves.order) st.words.words row2;
      nodes_apart = st.nodes_apart;
      leaves_apart = st.leaves_apart;
      nodes = omega (arith, nodes_filled k s d t.nodes t.leaves t.words h [] [] (2 ^ t.nodes.order) (2 ^ t.leaves.order) st.words.words row2);
      leaves = omega (arith, leaves_filled k s d t.nodes t.leaves t.words h [] [] (2 ^ t.nodes.order) (2 ^ t.leaves.order) st.words.words row2);
    }
