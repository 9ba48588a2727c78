-- A node is put at its place, and a place is given back.
use Rattle.std.proofs.Common.{◌≡◌, ◌≢◌, ℕ, suc, ◌<◌, List, [], ◌∷◌, ◌++◌, length, Bool, true, false, refl, sym, ap, ◌∙◌, subst, arith, slice_set}
use Rattle.std.proofs.lemmas.List.{get_or-set_same, get_or-set_other, length-set}
use Rattle.table_model.specs.Bits.{begins}
use Rattle.table_model.specs.Sets.{side}
use Rattle.orig_tree.specs.Arena.{Owner, At, Spare, Nowhere, blank_cell, cell_at, half_place, IfHalf, IsTree, SpareFrom, HasSpares, KeepsOthers}
use Rattle.orig_tree.specs.Bests.{IsRegionBest, AreBest}
use Rattle.orig_tree.specs.Drops.{spare_node}
use Rattle.orig_tree.specs.declared.node.Node.{Node}
use Rattle.orig_tree.specs.declared.best.Best.{Best}
use Rattle.orig_tree.proofs.Arena.{begins_self, below_it}
use Rattle.orig_tree.proofs.Rooms.{apart, renamed, re_here, re_other, spare_kept, spare_not, nowhere_not, at_same}
use Rattle.orig_tree.proofs.Standing.{both_half, best_carry}

pub outside_not : (p q : List Bool) → begins p q ≡ false → At q ≡ At p → ⊥
outside_not p q h u = let z : true ≡ false = sym (begins_self p) ∙ ap (begins p) (sym (at_same q p u)) ∙ h in cc

pub others_after : (p : List Bool) (a b c : List Node) (n m k : ℕ → Owner) → KeepsOthers p a b n m → KeepsOthers p b c m k → KeepsOthers p a c n k
others_after p a b c n m k x y = record {
  long = omega (arith, x.long, y.long);
  same = λ j q e h. let u = x.same j q e h in let v = y.same j q u.1 h in (v.0 ∙ u.0, v.1);
}

-- the node of path p is put at its place: the spare places and the other paths are as they were
pub put_held : (cells : List Node) (free i s : ℕ) (n : Node) (name : ℕ → Owner) (p : List Bool) → name i ≡ At p → HasSpares cells free name s → HasSpares (slice_set cells i n) free name s × KeepsOthers p cells (slice_set cells i n) name name
put_held cells free i s n name p at h =
    let new = slice_set cells i n in
    let long : length new ≡ length cells = length-set cells i n in (
      record {
        past = λ j l. h.past j (omega (arith, long, l));
        spare = spare_kept s cells new name name free (omega (arith, long)) (λ j r l v. (get_or-set_other cells i j n blank_cell (apart name j i (Spare r) (At p) v at (spare_not r p)), v)) h.spare;
      },
      record {
        long = omega (arith, long);
        same = λ j q f u. (get_or-set_other cells i j n blank_cell (apart name j i (At q) (At p) f at (outside_not p q u)), f);
      },
    )

-- and what it and the nodes below it keep stands
pub put_best : (d : ℕ) (cells : List Node) (i : ℕ) (n : Node) (name : ℕ → Owner) (p : List Bool) (S : ℕ → Best) (f : List Bool → ℕ) → name i ≡ At p → i < length cells →
    ((b : Bool) → IfHalf (λ j. IsTree d cells name j (p ++ (b ∷ []))) (half_place n b)) → IsRegionBest d f (S i) → ((b : Bool) → IfHalf (λ j. AreBest d cells S (side b f) j) (half_place n b)) → AreBest (suc d) (slice_set cells i n) S f i
unfolding AreBest
put_best d cells i n name p S f at l t s k =
    let new = slice_set cells i n in (
      s,
      λ b. subst (λ (x : Node). IfHalf (λ j. AreBest d new S (side b f) j) (half_place x b)) (sym (get_or-set_same cells i n blank_cell l))
          (both_half (λ j. IsTree d cells name j (p ++ (b ∷ []))) (λ j. AreBest d cells S (side b f) j) (λ j. AreBest d new S (side b f) j) (half_place n b)
          (λ j u v. best_carry d cells new S S name (side b f) j (p ++ (b ∷ [])) u (λ x q e h. (get_or-set_other cells i x n blank_cell (below_it name i x p q b at e h), refl)) v) (t b) (k b)),
    )

-- the place of path p is given back
pub given : (cells : List Node) (free j s : ℕ) (name : ℕ → Owner) (p : List Bool) → j ≢ 0 → name j ≡ At p → j < length cells → HasSpares cells free name s →
    HasSpares (slice_set cells j (spare_node free)) j (renamed name j (Spare s)) (suc s) × KeepsOthers p cells (slice_set cells j (spare_node free)) name (renamed name j (Spare s))
unfolding SpareFrom
given cells free j s name p z at l h =
    let b = spare_node free in
    let new = slice_set cells j b in
    let name2 = renamed name j (Spare s) in
    let long : length new ≡ length cells = length-set cells j b in
    let other : (k : ℕ) (x : Owner) → name k ≡ x → (x ≡ At p → ⊥) → (cell_at new k ≡ cell_at cells k) × (name2 k ≡ x) =
    λ k x y n. let c = apart name k j x (At p) y at n in (get_or-set_other cells j k b blank_cell c, re_other name j (Spare s) k c ∙ y) in
    let first : cell_at new j ≡ b = get_or-set_same cells j b blank_cell l in (
      record {
        past = λ k m. (other k Nowhere (h.past k (omega (arith, long, m))) (nowhere_not p)).1;
        spare = (
          z,
          re_here name j (Spare s),
          omega (arith, long, l),
          subst (λ (x : Node). SpareFrom s new name2 x.low) (sym first) (spare_kept s cells new name name2 free (omega (arith, long)) (λ k r m x. other k (Spare r) x (spare_not r p)) h.spare),
        );
      },
      record {
        long = omega (arith, long);
        same = λ k q x u. other k (At q) x (outside_not p q u);
      },
    )
