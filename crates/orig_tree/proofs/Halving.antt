-- Halves that stay where they were.
use Rattle.std.proofs.Common.{◌≡◌, ℕ, ◌<◌, ◌≤◌, List, length, Bool, true, false, ◌⊎◌, inl, inr, refl, sym, ap, ◌∙◌, subst, arith, Option, slice_set}
use Rattle.std.proofs.lemmas.Bool.{cases_order}
use Rattle.std.proofs.lemmas.List.{get_or-set_same, get_or-set_other, set_past}
use Rattle.orig_tree.specs.Arena.{blank_cell, cell_at, half_place, retold, HalvesStay}
use Rattle.orig_tree.specs.declared.cover.Cover.{Cover}
use Rattle.orig_tree.specs.declared.node.Node.{Node}
use Rattle.orig_tree.specs.declared.node.Label.{Label}
use Rattle.orig_tree.specs.declared.node.Label.TheVariants.{Route, Entry}

pub halves_same : (cells : List Node) → HalvesStay cells cells
halves_same cells j b = refl

pub halves_after : (a b c : List Node) → HalvesStay a b → HalvesStay b c → HalvesStay a c
halves_after a b c f g j d = g j d ∙ f j d

-- a node is put at its place
halves_put : (old mid : List Node) (i : ℕ) (m : Node) → HalvesStay old mid → ((b : Bool) → half_place m b ≡ half_place (cell_at old i) b) → HalvesStay old (slice_set mid i m)
halves_put old mid i m f g j b = elim (cases_order j i) [
  | inl e ↦ at_it (cases_order i (length mid)) e
  | inr n ↦ ap (λ (x : Node). half_place x b) (get_or-set_other mid i j m blank_cell (other n)) ∙ f j b
]
  where
    Kept : List Node → ℕ → Type 0
    Kept cs k = half_place (cell_at cs k) b ≡ half_place (cell_at old k) b

    other : (j < i) ⊎ (i < j) → j ≡ i → ⊥
    other (inl l) e = omega (arith, l, e)
    other (inr l) e = omega (arith, l, e)

    here : i < length mid → j ≡ i → Kept (slice_set mid i m) j
    here l e = subst (λ (k : ℕ). Kept (slice_set mid i m) k) (sym e) (ap (λ (x : Node). half_place x b) (get_or-set_same mid i m blank_cell l) ∙ g b)

    past : length mid ≤ i → Kept (slice_set mid i m) j
    past l = subst (λ (cs : List Node). Kept cs j) (sym (set_past mid i m l)) (f j b)

    at_it : (i ≡ length mid) ⊎ ((i < length mid) ⊎ (length mid < i)) → j ≡ i → Kept (slice_set mid i m) j
    at_it (inl l) e = past (omega (arith, l))
    at_it (inr (inl l)) e = here l e
    at_it (inr (inr l)) e = past (omega (arith, l))

-- one label is told again
pub halves_retold : (old mid new : List Node) (i : ℕ) (label : Label) (hop : Option ℕ) (low high : Cover) (n m : Node) → n ≡ cell_at old i → m ≡ retold label hop low high n → new ≡ slice_set mid i m → HalvesStay old mid → HalvesStay old new
halves_retold old mid new i label hop low high n m at r s f =
    subst (λ (cs : List Node). HalvesStay old cs) (sym s)
    (halves_put old mid i m f (λ b. ap (λ x. half_place x b) r ∙ (same_half label b ∙ ap (λ x. half_place x b) at)))
  where
    same_half : (label : Label) (b : Bool) → half_place (retold label hop low high n) b ≡ half_place n b
    same_half Route true = refl
    same_half Route false = refl
    same_half Entry true = refl
    same_half Entry false = refl
