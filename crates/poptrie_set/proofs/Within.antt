-- The direct words before an update, for a new table that differs within a prefix.
use Rattle.std.proofs.Common.{◌≡◌, ℕ, ◌+◌, ◌-◌, ◌*◌, ◌^◌, ◌<◌, ◌≤◌, List, [], ◌++◌, Bool, true, false, length, drop, sym, ap, ◌∙◌, arith, subst}
use Rattle.std.specs.Prelude.{slice_index}
use Rattle.std.proofs.lemmas.List.{append_assoc}
use Rattle.std.proofs.lemmas.Nat.{shr_high}
use Rattle.table_model.specs.Address.{Prefix}
use Rattle.table_model.specs.Bits.{bits_of, begins}
use Rattle.table_model.specs.Entries.{Entries}
use Rattle.table_model.specs.Width.{width}
use Rattle.table_model.specs.declared.family.Family.{Family}
use Rattle.table_model.proofs.BitLaws.{length-bits_of, bits_low, bits_split}
use Rattle.buddy_arena.specs.Arrays.{Array}
use Rattle.buddy_arena.specs.Places.{is_out}
use Rattle.buddy_arena.specs.Space.{Space}
use Rattle.fib_addr.specs.Answers.{part, all_answers}
use Rattle.fib_addr.specs.Views.{prefix_as}
use Rattle.fib_addr.specs.declared.prefix.Prefix as code_prefix
use Rattle.poptrie_build.specs.Build.{WordIn}
use Rattle.poptrie_build.specs.Strides.{strides}
use Rattle.poptrie_build.specs.Tries.{rest}
use Rattle.poptrie_build.specs.declared.node.Node.{Node}
use Rattle.path_copying.specs.Ways.{bits_left, AgreeBeside, IsOldWord}
use Rattle.path_copying.specs.declared.way.Way.{Way}
use Rattle.path_copying.proofs.Beside.{beside_part, drop_drop, left_way}
use Rattle.poptrie_set.specs.Prepares.{KeepsOutside}
use Rattle.poptrie_set.specs.Version.{IsVersion}
use Rattle.poptrie_set.proofs.Copied_version.{version_row}
use Rattle.poptrie_set.proofs.Key_bits.{wide}

-- ---- the words of a version, for answers that are its entries' outside a prefix
pub words_within : (f : Family) (s : ℕ) (nodes : Space Node) (leaves : Space ℕ) (direct : List ℕ) (L : Entries) (x y : List Array) (d : ℕ) (p : Prefix) (F : List Bool → ℕ) → d ≡ rest f s → s ≤ 18 → p.family ≡ f → IsVersion f s nodes leaves direct L x y → KeepsOutside p L F → (v : ℕ) → v < 2 ^ s → IsOldWord nodes leaves (slice_index direct v) (drop s p.bits) d (part (bits_of s v) F)
words_within f s nodes leaves direct L x y d p F e few family ver keeps v l =
    let row = version_row f s nodes leaves direct L x y ver (strides (rest f s)) (omega arith) in
    subst (λ (n : ℕ). IsOldWord nodes leaves (slice_index direct v) (drop s p.bits) n (part (bits_of s v) F)) (sym e)
    (strides (rest f s), part (bits_of s v) (all_answers f L), row.stands v l, subst (λ (n : ℕ). AgreeBeside (drop n p.bits) (rest f s) (part (bits_of s v) F) (part (bits_of s v) (all_answers f L))) long (beside_part (bits_of s v) p.bits (rest f s) F (all_answers f L) agree))
  where
    long : length (bits_of s v) ≡ s
    long = length-bits_of s v

    agree : AgreeBeside p.bits (length (bits_of s v) + rest f s) F (all_answers f L)
    agree a n q =
        let all : length (bits_of s v) + rest f s ≡ width f = omega (arith, long, few, wide f) in
        keeps a (n ∙ (all ∙ ap width (sym family))) q ∙ ap (λ (g : Family). all_answers g L a) family

-- no address is outside the prefix of all
pub whole_keeps : (p : Prefix) (L : Entries) (F : List Bool → ℕ) → p.bits ≡ [] → KeepsOutside p L F
whole_keeps p L F e a n q = let all : true ≡ false = ap (λ (x : List Bool). begins x a) (sym e) ∙ q in cc

-- ---- the way to the prefix, from all addresses
pub left_whole : (w : Way) (p : code_prefix.Prefix) → w.prefix ≡ p → w.bits ≡ width p.family → bits_left w ≡ (prefix_as p).bits
left_whole w p e b =
    ap (λ (x : code_prefix.Prefix). drop (width x.family - w.bits) (prefix_as x).bits) e
    ∙ (let z : width p.family - w.bits ≡ 0 = omega (arith, b) in ap (λ n. drop n (prefix_as p).bits) z)

pub left_after : (w w2 : Way) (p : code_prefix.Prefix) (t j s : ℕ) → w.prefix ≡ p → w.bits ≡ width p.family → w2.prefix ≡ w.prefix → w2.bits ≡ w.bits - t → t ≤ w.bits → t + j ≡ s → drop j (bits_left w2) ≡ drop s (prefix_as p).bits
left_after w w2 p t j s e b e2 b2 l sum =
    ap (drop j) (left_way w w2 t e2 b2 l ∙ ap (drop t) (left_whole w p e b))
    ∙ (drop_drop t j (prefix_as p).bits ∙ ap (λ n. drop n (prefix_as p).bits) sum)

-- ---- the words of a part's slots
pub part_words : (nodes : Space Node) (leaves : Space ℕ) (words : List ℕ) (s t j number first : ℕ) (p q : List Bool) (d e : ℕ) (f g : List Bool → ℕ) → t + j ≡ s → first ≡ number * 2 ^ j → first + 2 ^ j ≤ 2 ^ s → q ≡ p → e ≡ d → g ≡ part (bits_of t number) f →
    ((v : ℕ) → v < 2 ^ s → IsOldWord nodes leaves (slice_index words v) p d (part (bits_of s v) f)) → (v : ℕ) → v < 2 ^ j → IsOldWord nodes leaves (slice_index words (first + v)) q e (part (bits_of j v) g)
part_words nodes leaves words s t j number first p q d e f g sum at many eq ee eg old v l =
    let was = old (first + v) (omega (arith, many, l)) in (
      was.0,
      was.1,
      subst (λ (n : ℕ). WordIn (slice_index words (first + v)) was.0 nodes.cells (is_out nodes.free) leaves.cells (is_out leaves.free) n was.1) (sym ee) was.2,
      λ a n out.
          ap (λ (h : List Bool → ℕ). h (bits_of j v ++ a)) eg
          ∙ (ap f (sym (append_assoc (bits_of t number) (bits_of j v) a))
          ∙ (ap (λ (b : List Bool). f (b ++ a)) (sym bits)
          ∙ was.3 a (n ∙ ee) (ap (λ (x : List Bool). begins x a) (sym eq) ∙ out))),
    )
  where
    bits : bits_of s (first + v) ≡ bits_of t number ++ bits_of j v
    bits =
        let is : first + v ≡ number * 2 ^ j + v = omega (arith, at) in
        ap (λ n. bits_of n (first + v)) (sym sum)
        ∙ (ap (bits_of (t + j)) is
        ∙ (bits_split t j (number * 2 ^ j + v)
        ∙ (ap (λ n. bits_of t n ++ bits_of j (number * 2 ^ j + v)) (shr_high number j v l) ∙ ap (λ (b : List Bool). bits_of t number ++ b) (bits_low j number v l))))
