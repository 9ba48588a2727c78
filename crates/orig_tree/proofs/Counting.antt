-- Nodes are counted.
use Rattle.std.proofs.Common.{◌≡◌, ◌≢◌, ℕ, zero, suc, ◌+◌, ◌-◌, ◌^◌, List, [], ◌∷◌, ◌++◌, map, length, Bool, true, false, cond, refl, sym, ap, ◌∙◌, arith, Option, Some, None, nat_eq, min}
use Rattle.std.specs.Int.{bit_at}
use Rattle.std.specs.List.{filter}
use Rattle.std.proofs.lemmas.List.{length-append}
use Rattle.table_model.specs.Bits.{begins, bits_of}
use Rattle.orig_tree.specs.Walk.{Walks, walks_of}
use Rattle.orig_tree.specs.Arena.{cell_at, half_place, from_half, walks_at, walks_by}
use Rattle.orig_tree.specs.Within.{nodes_in, told}
use Rattle.orig_tree.specs.declared.node.Node.{Node}
use Rattle.orig_tree.proofs.Arena.{side_half}
use Rattle.orig_tree.proofs.Steps.{side_of}
use Rattle.orig_tree.proofs.Paths.{no_bits, first_bit}

deeper_all : (b : Bool) (a : List (List Bool)) → length (map (λ p. b ∷ p) a) ≡ length a
deeper_all b [] = refl
deeper_all b (q ∷ a) = ap suc (deeper_all b a)

pub count_level : (route entry : Option ℕ) (low high : Walks) → length (walks_of route entry low high).nodes ≡ 1 + (length low.nodes + length high.nodes)
count_level route entry low high =
    let all : length (walks_of route entry low high).nodes ≡ suc (length (map (λ p. false ∷ p) low.nodes ++ map (λ p. true ∷ p) high.nodes)) = refl in
    omega (arith, all, length-append (map (λ p. false ∷ p) low.nodes) (map (λ p. true ∷ p) high.nodes), deeper_all false low.nodes, deeper_all true high.nodes)

told_sum : (m a b x y z : ℕ) → x ≡ min a m → y ≡ min b m → z ≡ min (min (x + y) m + 1) m → z ≡ min (1 + (a + b)) m
told_sum m a b x y z e f g = omega (arith, e, f, g)

pub count_end : (cells : List Node) (i depth : ℕ) → depth ≡ 0 → 1 ≡ told (length (walks_at (suc depth) cells i).nodes)
unfolding walks_at
count_end cells i zero z =
    let n = cell_at cells i in
    let F = walks_at zero cells in
    let all = count_level n.route.hop n.entry.hop (from_half F (half_place n false)) (from_half F (half_place n true)) in
    one_told (length (walks_by F n).nodes) (length (from_half F (half_place n false)).nodes) (length (from_half F (half_place n true)).nodes) all (none (half_place n false)) (none (half_place n true))
  where
    none : (o : Option ℕ) → length (from_half (walks_at zero cells) o).nodes ≡ 0
    none None = refl
    none (Some j) = refl

    one_told : (n a b : ℕ) → n ≡ 1 + (a + b) → a ≡ 0 → b ≡ 0 → 1 ≡ told n
    one_told n a b e f g = omega (arith, e, f, g)
count_end cells i (suc d) z = absurd (omega (arith, z))

nodes_none : (b c : Bool) (p : List Bool) (a : List (List Bool)) → (b ≡ c → ⊥) → nodes_in (b ∷ p) (map (λ q. c ∷ q) a) ≡ 0
nodes_none b c p [] ne = refl
nodes_none true true p (q ∷ a) ne = absurd (ne refl)
nodes_none true false p (q ∷ a) ne = nodes_none true false p a ne
nodes_none false true p (q ∷ a) ne = nodes_none false true p a ne
nodes_none false false p (q ∷ a) ne = absurd (ne refl)

by_test : (t : Bool) (x y : List Bool) (a b : List (List Bool)) → length a ≡ length b → length (cond t (x ∷ a) a) ≡ length (cond t (y ∷ b) b)
by_test true x y a b e = ap suc e
by_test false x y a b e = e

nodes_same : (b : Bool) (p : List Bool) (a : List (List Bool)) → nodes_in (b ∷ p) (map (λ q. b ∷ q) a) ≡ nodes_in p a
nodes_same b p [] = refl
nodes_same true p (q ∷ a) = by_test (begins p q) (true ∷ q) q (filter (λ r. begins (true ∷ p) r) (map (λ r. true ∷ r) a)) (filter (λ r. begins p r) a) (nodes_same true p a)
nodes_same false p (q ∷ a) = by_test (begins p q) (false ∷ q) q (filter (λ r. begins (false ∷ p) r) (map (λ r. false ∷ r) a)) (filter (λ r. begins p r) a) (nodes_same false p a)

nodes_both : (p : List Bool) (a b : List (List Bool)) → nodes_in p (a ++ b) ≡ nodes_in p a + nodes_in p b
nodes_both p [] b = omega arith
nodes_both p (q ∷ a) b = by_bit (begins p q) (nodes_both p a b)
  where
    by_bit : (t : Bool) → nodes_in p (a ++ b) ≡ nodes_in p a + nodes_in p b → length (cond t (q ∷ filter (λ r. begins p r) (a ++ b)) (filter (λ r. begins p r) (a ++ b))) ≡ length (cond t (q ∷ filter (λ r. begins p r) a) (filter (λ r. begins p r) a)) + nodes_in p b
    by_bit true e = omega (arith, e)
    by_bit false e = e

pub nodes_half : (b : Bool) (p : List Bool) (route entry : Option ℕ) (low high : Walks) → nodes_in (b ∷ p) (walks_of route entry low high).nodes ≡ nodes_in p (side_of b low high).nodes
nodes_half true p route entry low high =
    omega (arith, nodes_both (true ∷ p) (map (λ q. false ∷ q) low.nodes) (map (λ q. true ∷ q) high.nodes), nodes_none true false p low.nodes (λ e. cc), nodes_same true p high.nodes)
nodes_half false p route entry low high =
    omega (arith, nodes_both (false ∷ p) (map (λ q. false ∷ q) low.nodes) (map (λ q. true ∷ q) high.nodes), nodes_none false true p high.nodes (λ e. cc), nodes_same false p low.nodes)

module _ (cells : List Node) (i m depth : ℕ) (n : Node) (at : n ≡ cell_at cells i) (dm : suc m ≡ depth) where
  pub count_node : (lo ho : Option ℕ) (low high sum all : ℕ) → lo ≡ half_place n false → ho ≡ half_place n true →
      low ≡ told (length (from_half (walks_at (suc m) cells) lo).nodes) → high ≡ told (length (from_half (walks_at (suc m) cells) ho).nodes) →
      sum ≡ told (low + high) → all ≡ told (sum + 1) → all ≡ told (length (walks_at (suc depth) cells i).nodes)
  unfolding walks_at
  count_node lo ho low high sum all le he l h s a =
      let F = walks_at (suc m) cells in
      let x = (from_half F (half_place (cell_at cells i) false)).nodes in
      let y = (from_half F (half_place (cell_at cells i) true)).nodes in
      let l' : low ≡ told (length x) = l ∙ ap (λ o. told (length (from_half F o).nodes)) (le ∙ ap (λ n. half_place n false) at) in
      let h' : high ≡ told (length y) = h ∙ ap (λ o. told (length (from_half F o).nodes)) (he ∙ ap (λ n. half_place n true) at) in
      told_sum (2 ^ 64 - 1) (length x) (length y) low high all l' h' (a ∙ ap (λ k. told (k + 1)) s)
      ∙ (ap told (sym (count_level (cell_at cells i).route.hop (cell_at cells i).entry.hop (from_half F (half_place (cell_at cells i) false)) (from_half F (half_place (cell_at cells i) true))))
      ∙ ap (λ d. told (length (walks_at (suc d) cells i).nodes)) dm)

  pub within_is : (left q : ℕ) (b : Bool) (o : Option ℕ) → left ≢ 0 → b ≡ nat_eq (bit_at q (left - 1)) 1 → o ≡ half_place n b →
      nodes_in (bits_of (left - 1) q) (from_half (walks_at (suc m) cells) o).nodes ≡ nodes_in (bits_of left q) (walks_at (suc depth) cells i).nodes
  unfolding walks_at
  within_is left q b o z bit oe =
      let F = walks_at (suc m) cells in
      let nd = cell_at cells i in
      let P = bits_of (left - 1) q in
      ap (λ y. nodes_in P (from_half F y).nodes) (oe ∙ ap (λ n. half_place n b) at)
      ∙ (ap (λ (w : Walks). nodes_in P w.nodes) (side_half F nd b)
      ∙ (sym (nodes_half b P nd.route.hop nd.entry.hop (from_half F (half_place nd false)) (from_half F (half_place nd true)))
      ∙ (ap (λ p. nodes_in p (walks_by F nd).nodes) (sym (first_bit left q b z bit))
      ∙ ap (λ d. nodes_in (bits_of left q) (walks_at (suc d) cells i).nodes) dm)))

  pub within_step : (left q : ℕ) (b : Bool) (o : Option ℕ) (all : ℕ) → left ≢ 0 → b ≡ nat_eq (bit_at q (left - 1)) 1 → o ≡ half_place n b → all ≡ told (nodes_in (bits_of (left - 1) q) (from_half (walks_at (suc m) cells) o).nodes) →
      all ≡ told (nodes_in (bits_of left q) (walks_at (suc depth) cells i).nodes)
  within_step left q b o all z bit oe a = a ∙ ap told (within_is left q b o z bit oe)

pub all_in : (a : List (List Bool)) → nodes_in [] a ≡ length a
all_in [] = refl
all_in (q ∷ a) = ap suc (all_in a)

pub within_end : (nodes : List (List Bool)) (left q all : ℕ) → left ≡ 0 → all ≡ told (length nodes) → all ≡ told (nodes_in (bits_of left q) nodes)
within_end nodes left q all z a = a ∙ (ap told (sym (all_in nodes)) ∙ ap (λ p. told (nodes_in p nodes)) (sym (no_bits left q z)))

pub none_in : (cells : List Node) (m : ℕ) (o : Option ℕ) (p : List Bool) → o ≡ None → 0 ≡ told (nodes_in p (from_half (walks_at (suc m) cells) o).nodes)
none_in cells m o p e = ap (λ y. told (nodes_in p (from_half (walks_at (suc m) cells) y).nodes)) (sym e)
