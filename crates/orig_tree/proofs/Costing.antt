-- How many sets a change of a route computes.
use Rattle.std.proofs.Common.{◌≡◌, ◌≢◌, ℕ, suc, ◌+◌, ◌-◌, ◌≤◌, List, [], ◌∷◌, length, Bool, true, false, sym, ap, ◌∙◌, subst, arith, Option, Some, None, nat_eq}
use Rattle.std.specs.Int.{bit_at}
use Rattle.table_model.specs.Bits.{bits_of}
use Rattle.table_model.specs.Width.{width}
use Rattle.table_model.specs.declared.family.Family.{Family}
use Rattle.table_model.proofs.BitLaws.{length-bits_of}
use Rattle.orig_tree.specs.Arena.{cell_at, half_place, from_half, walks_at, whole}
use Rattle.orig_tree.specs.Within.{nodes_in}
use Rattle.orig_tree.specs.Steps.{new_nodes, new_behind, new_from}
use Rattle.orig_tree.specs.declared.node.Node.{Node}
use Rattle.orig_tree.proofs.Paths.{no_bits, first_bit}
use Rattle.orig_tree.proofs.Counting.{count_level, within_is, all_in}

-- ---- within the path

pub one_kept : (cells : List Node) (i d s0 s1 : ℕ) → s1 ≤ s0 + 1 → s1 ≤ s0 + length (walks_at (suc d) cells i).nodes
unfolding walks_at
one_kept cells i d s0 s1 l =
    let n = cell_at cells i in
    omega (arith, l, count_level n.route.hop n.entry.hop (from_half (walks_at d cells) (half_place n false)) (from_half (walks_at d cells) (half_place n true)))

pub both_kept : (cells : List Node) (i m depth : ℕ) (n : Node) (lo ho : Option ℕ) (s0 s1 s2 s3 : ℕ) → n ≡ cell_at cells i → suc m ≡ depth → lo ≡ half_place n false → ho ≡ half_place n true →
    s1 ≤ s0 + length (from_half (walks_at (suc m) cells) lo).nodes → s2 ≤ s1 + length (from_half (walks_at (suc m) cells) ho).nodes → s3 ≤ s2 + 1 → s3 ≤ s0 + length (walks_at (suc depth) cells i).nodes
unfolding walks_at
both_kept cells i m depth n lo ho s0 s1 s2 s3 at dm le he a b c =
    let F = walks_at (suc m) cells in
    let x = cell_at cells i in
    let low = ap (λ o. length (from_half F o).nodes) (le ∙ ap (λ y. half_place y false) at) in
    let high = ap (λ o. length (from_half F o).nodes) (he ∙ ap (λ y. half_place y true) at) in
    subst (λ (d : ℕ). s3 ≤ s0 + length (walks_at (suc d) cells i).nodes) dm
    (omega (arith, a, b, c, low, high, count_level x.route.hop x.entry.hop (from_half F (half_place x false)) (from_half F (half_place x true))))

-- ---- on the way to it

-- how many nodes are new below a node, told from its half
pub new_is : (cells : List Node) (i left q : ℕ) (b : Bool) (n : Node) (o : Option ℕ) → n ≡ cell_at cells i → left ≢ 0 → b ≡ nat_eq (bit_at q (left - 1)) 1 → o ≡ half_place n b → new_nodes cells (bits_of left q) i ≡ new_behind cells (bits_of (left - 1) q) o
unfolding new_nodes
new_is cells i left q b n o at z bit half =
    ap (λ p. new_nodes cells p i) (first_bit left q b z bit) ∙ ap (λ y. new_behind cells (bits_of (left - 1) q) y) (sym (half ∙ ap (λ y. half_place y b) at))

behind_most : (p : List Bool) (f : ℕ → ℕ) → ((j : ℕ) → f j ≤ length p) → (o : Option ℕ) → new_from f p o ≤ suc (length p)
behind_most p f l None = omega arith
behind_most p f l (Some j) = omega (arith, l j)

pub new_most : (cells : List Node) (p : List Bool) (i : ℕ) → new_nodes cells p i ≤ length p
unfolding new_nodes
new_most cells [] i = omega arith
new_most cells (b ∷ p) i = behind_most p (λ j. new_nodes cells p j) (λ j. new_most cells p j) (half_place (cell_at cells i) b)

pub way_end : (cells : List Node) (i left q s0 s1 : ℕ) (nodes : List (List Bool)) → left ≡ 0 → s1 ≤ s0 + length nodes → s1 + new_nodes cells (bits_of left q) i ≤ s0 + left + 1 + nodes_in (bits_of left q) nodes
unfolding new_nodes
way_end cells i left q s0 s1 nodes z l =
    let e = no_bits left q z in
    let no : new_nodes cells (bits_of left q) i ≡ 0 = ap (λ p. new_nodes cells p i) e in
    let all : nodes_in (bits_of left q) nodes ≡ length nodes = ap (λ p. nodes_in p nodes) e ∙ all_in nodes in
    omega (arith, l, no, all)

pub way_step : (cells : List Node) (i m depth left q : ℕ) (b : Bool) (n : Node) (o : Option ℕ) (s0 s1 s2 : ℕ) → n ≡ cell_at cells i → suc m ≡ depth → left ≢ 0 → b ≡ nat_eq (bit_at q (left - 1)) 1 → o ≡ half_place n b →
    s1 + new_behind cells (bits_of (left - 1) q) o ≤ s0 + (left - 1) + 1 + nodes_in (bits_of (left - 1) q) (from_half (walks_at (suc m) cells) o).nodes → s2 ≤ s1 + 1 →
    s2 + new_nodes cells (bits_of left q) i ≤ s0 + left + 1 + nodes_in (bits_of left q) (walks_at (suc depth) cells i).nodes
way_step cells i m depth left q b n o s0 s1 s2 at dm z bit half l t =
    omega (arith, l, t, z, new_is cells i left q b n o at z bit half, within_is cells i m depth n at dm left q b o z bit half)

pub way_new : (cells : List Node) (left q s : ℕ) (o : Option ℕ) (nodes : List (List Bool)) → o ≡ None → s + new_behind cells (bits_of left q) o ≤ s + left + 1 + nodes_in (bits_of left q) nodes
way_new cells left q s o nodes e =
    let all : new_behind cells (bits_of left q) o ≡ suc (length (bits_of left q)) = ap (λ y. new_behind cells (bits_of left q) y) e in
    omega (arith, all, length-bits_of left q)

-- ---- nodes are made

pub made_below : (cells : List Node) (i left q j : ℕ) (b : Bool) (n : Node) (o : Option ℕ) (s0 s1 : ℕ) → n ≡ cell_at cells i → left ≢ 0 → b ≡ nat_eq (bit_at q (left - 1)) 1 → o ≡ half_place n b → o ≡ Some j →
    s1 ≤ s0 + new_nodes cells (bits_of (left - 1) q) j → s1 ≤ s0 + new_nodes cells (bits_of left q) i
made_below cells i left q j b n o s0 s1 at z bit half e l =
    omega (arith, l, new_is cells i left q b n o at z bit half, ap (λ y. new_behind cells (bits_of (left - 1) q) y) e)

pub made_new : (cells mid : List Node) (i left q j : ℕ) (b : Bool) (n : Node) (o : Option ℕ) (s0 s1 s2 : ℕ) → n ≡ cell_at cells i → left ≢ 0 → b ≡ nat_eq (bit_at q (left - 1)) 1 → o ≡ half_place n b → o ≡ None →
    s1 ≤ s0 + 1 → s2 ≤ s1 + new_nodes mid (bits_of (left - 1) q) j → s2 ≤ s0 + new_nodes cells (bits_of left q) i
made_new cells mid i left q j b n o s0 s1 s2 at z bit half e t l =
    let all : new_behind cells (bits_of (left - 1) q) o ≡ suc (length (bits_of (left - 1) q)) = ap (λ y. new_behind cells (bits_of (left - 1) q) y) e in
    omega (arith, l, t, new_is cells i left q b n o at z bit half, all, new_most mid (bits_of (left - 1) q) j)

-- ---- the whole tree

pub cost_laid : (f : Family) (p : List Bool) (depth len s0 s1 s2 : ℕ) (old mid : List Node) → depth ≡ width f → mid ≡ old → s1 + new_nodes mid p 0 ≤ s0 + len + 1 + nodes_in p (walks_at (suc depth) mid 0).nodes → s2 ≤ s1 + new_nodes mid p 0 →
    s2 ≤ s0 + len + 1 + nodes_in p (whole f old).nodes
cost_laid f p depth len s0 s1 s2 old mid w e l t =
    let same : nodes_in p (walks_at (suc depth) mid 0).nodes ≡ nodes_in p (whole f old).nodes = ap (λ d. nodes_in p (walks_at (suc d) mid 0).nodes) w ∙ ap (λ cs. nodes_in p (whole f cs).nodes) e in
    omega (arith, l, t, same)
