-- What is seen of a node of the array, and of its halves.
use Rattle.std.proofs.Common.{◌≡◌, ◌≢◌, ℕ, zero, suc, ◌-◌, List, [], Bool, true, false, refl, sym, ap, ◌∙◌, arith, Option, None}
use Rattle.table_model.specs.Table.{root, half}
use Rattle.orig_tree.specs.Walk.{Walks, rows_of, labelled}
use Rattle.orig_tree.specs.Arena.{cell_at, half_place, from_half, walks_by, walks_at}
use Rattle.orig_tree.specs.declared.node.Node.{Node}
use Rattle.orig_tree.specs.declared.node.Label.{Label}
use Rattle.orig_tree.proofs.Steps.{rows_nothing, level_half, level_root}
use Rattle.orig_tree.proofs.Arena.{side_half}
use Rattle.orig_tree.specs.declared.node.Label.TheVariants.{Route, Entry}

pub none_rows : (b : Bool) (l : ℕ) (cells : List Node) (i : ℕ) → l ≡ 0 → ([] ≡ half b (walks_at l cells i).routes) × ([] ≡ half b (walks_at l cells i).entries)
unfolding walks_at
none_rows b zero cells i e = (refl, refl)
none_rows b (suc l) cells i e = absurd (omega arith)

pub half_rows : (b : Bool) (l : ℕ) (cells : List Node) (i : ℕ) (n : Node) (o : Option ℕ) → l ≢ 0 → n ≡ cell_at cells i → o ≡ half_place n b →
    ((from_half (walks_at (l - 1) cells) o).routes ≡ half b (walks_at l cells i).routes) × ((from_half (walks_at (l - 1) cells) o).entries ≡ half b (walks_at l cells i).entries)
unfolding walks_at
half_rows b zero cells i n o z at h = absurd (z refl)
half_rows b (suc d) cells i n o z at h =
    let f = walks_at d cells in
    let is : suc d - 1 ≡ d = omega arith in
    let m = cell_at cells i in
    let low = from_half f (half_place m false) in
    let high = from_half f (half_place m true) in
    let there : from_half (walks_at (suc d - 1) cells) o ≡ from_half f (half_place m b) = ap (λ x. from_half (walks_at x cells) o) is ∙ ap (from_half f) (h ∙ ap (λ x. half_place x b) at) in
    let side = there ∙ side_half f m b in
    (ap (λ (w : Walks). w.routes) side ∙ sym (level_half b Route m.route.hop m.entry.hop low high), ap (λ (w : Walks). w.entries) side ∙ sym (level_half b Entry m.route.hop m.entry.hop low high))

pub no_hop : (label : Label) (l : ℕ) (cells : List Node) (i : ℕ) → l ≡ 0 → None ≡ root (rows_of label (walks_at l cells i))
unfolding walks_at
no_hop label zero cells i e = sym (ap root (rows_nothing label))
no_hop label (suc l) cells i e = absurd (omega arith)

pub own_hop : (label : Label) (l : ℕ) (cells : List Node) (i : ℕ) (n : Node) (o : Option ℕ) → l ≢ 0 → n ≡ cell_at cells i → o ≡ labelled label n.route.hop n.entry.hop → o ≡ root (rows_of label (walks_at l cells i))
unfolding walks_at
own_hop label zero cells i n o z at h = absurd (z refl)
own_hop label (suc d) cells i n o z at h =
    let f = walks_at d cells in
    let low = from_half f (half_place n false) in
    let high = from_half f (half_place n true) in
    h ∙ sym (ap (λ x. root (rows_of label (walks_by f x))) (sym at) ∙ level_root label n.route.hop n.entry.hop low high)
