-- Nodes made down to a path.
use Rattle.std.proofs.Common.{inl, inr, ◌≡◌, ◌≢◌, ℕ, zero, suc, ◌+◌, ◌-◌, ◌<◌, ◌≤◌, List, [], ◌∷◌, ◌++◌, length, length-append, Bool, true, false, cond, refl, sym, ap, ◌∙◌, subst, arith, Option, Some, None, get_or, slice_set}
use Rattle.std.specs.Prelude.{nat_eq}
use Rattle.std.specs.Int.{bit_at}
use Rattle.std.proofs.lemmas.Bool.{eqb-true, eqb-false, cases_lt}
use Rattle.std.proofs.lemmas.List.{get_or-set_same, get_or-set_other, length-set, get_or_append_left}
use Rattle.table_model.specs.Bits.{bits_of, begins, same_bits}
use Rattle.table_model.specs.Regions.{join}
use Rattle.orig_tree.specs.Walk.{Walks, no_walks, walks_of, AreMadeTo, has_node}
use Rattle.orig_tree.specs.Cover.{IsCover}
use Rattle.orig_tree.specs.Slots.{AreCovers}
use Rattle.orig_tree.specs.Arena.{Owner, At, Spare, Nowhere, blank_cell, bare_cover_is, cell_at, half_place, from_half, walks_by, walks_at, IfHalf, link, IsNode, IsTree, SpareFrom, HasSpares, IsRoomier, GivesPlace, with_half, IsSplit, MakesRoom}
use Rattle.orig_tree.specs.Packed.{cover_in}
use Rattle.orig_tree.specs.declared.node.Node.{Node}
use Rattle.orig_tree.proofs.Covers.{bare_cover}
use Rattle.orig_tree.proofs.Paths.{first_bit}
use Rattle.orig_tree.proofs.Steps.{room_here, room_half, kept_high, kept_low, has_high, has_low}
use Rattle.orig_tree.proofs.Arena.{side_half, begins_front, begins_self, begins_less, begins_self_not, begins_other, Carries, carry, half_carried, placed}

-- ---- asking

pub end_node : (cells : List Node) (i left q d : ℕ) → left ≡ 0 → left < d → true ≡ has_node (bits_of left q) (walks_at d cells i).nodes
unfolding walks_at
end_node cells i left q zero z l = absurd (omega arith)
end_node cells i left q (suc d) z l =
    let n = cell_at cells i in
    sym (room_here (walks_by (walks_at d cells) n) n.route.hop n.entry.hop (from_half (walks_at d cells) (half_place n false)) (from_half (walks_at d cells) (half_place n true)) left q z refl)

half_has : (cells : List Node) (n : Node) (i left q : ℕ) (b : Bool) (o : Option ℕ) (d : ℕ) → n ≡ cell_at cells i → o ≡ half_place n b → left ≢ 0 → b ≡ nat_eq (bit_at q (left - 1)) 1 →
    has_node (bits_of (left - 1) q) (from_half (walks_at d cells) o).nodes ≡ has_node (bits_of left q) (walks_at (suc d) cells i).nodes
unfolding walks_at
half_has cells n i left q b o d at half z k =
    let f = walks_at d cells in
    ap (λ (w : Walks). has_node (bits_of (left - 1) q) w.nodes) (ap (from_half f) half ∙ side_half f n b)
    ∙ (room_half b n.route.hop n.entry.hop (from_half f (half_place n false)) (from_half f (half_place n true)) left q z k
    ∙ ap (λ (w : Walks). has_node (bits_of left q) w.nodes) (ap (walks_by f) at))

pub step_node : (cells : List Node) (n : Node) (i left q : ℕ) (b : Bool) (o : Option ℕ) (out : Bool) (d : ℕ) → n ≡ cell_at cells i → o ≡ half_place n b → left ≢ 0 → b ≡ nat_eq (bit_at q (left - 1)) 1 →
    ((e : ℕ) → left - 1 < e → out ≡ has_node (bits_of (left - 1) q) (from_half (walks_at e cells) o).nodes) → left < d → out ≡ has_node (bits_of left q) (walks_at d cells i).nodes
step_node cells n i left q b o out zero at half z k below l = absurd (omega arith)
step_node cells n i left q b o out (suc d) at half z k below l = below d (omega arith) ∙ half_has cells n i left q b o d at half z k

-- what holds where the half's path is a node holds where the node's is
pub held_half : (X : Type 0) (cells : List Node) (n : Node) (i left q : ℕ) (b : Bool) (o : Option ℕ) (d : ℕ) → n ≡ cell_at cells i → o ≡ half_place n b → left ≢ 0 → b ≡ nat_eq (bit_at q (left - 1)) 1 →
    ((e : ℕ) → left - 1 < e → has_node (bits_of (left - 1) q) (from_half (walks_at e cells) o).nodes ≡ true → X) → left < d → has_node (bits_of left q) (walks_at d cells i).nodes ≡ true → X
held_half X cells n i left q b o zero at half z k below l h = absurd (omega arith)
held_half X cells n i left q b o (suc d) at half z k below l h = below d (omega (arith, l, z)) (half_has cells n i left q b o d at half z k ∙ h)

pub no_node : (cells : List Node) (o : Option ℕ) (p : List Bool) (e : ℕ) → o ≡ None → false ≡ has_node p (from_half (walks_at e cells) o).nodes
no_node cells o p e h = sym (ap (λ u. has_node p (from_half (walks_at e cells) u).nodes) h)

-- ---- names

pub eq_is : (a b : ℕ) → a ≡ b → nat_eq a b ≡ true
eq_is a b e = (elim (nat_eq a b) as (λ t. nat_eq a b ≡ t → t ≡ true) [ true ↦ λ h. refl | false ↦ λ h. absurd (eqb-false a b h e) ]) refl

pub ne_is : (a b : ℕ) → a ≢ b → nat_eq a b ≡ false
ne_is a b n = (elim (nat_eq a b) as (λ t. nat_eq a b ≡ t → t ≡ false) [ true ↦ λ h. absurd (n (eqb-true a b h)) | false ↦ λ h. refl ]) refl

-- place k gets the name x, and all others keep theirs
abbrev pub renamed : (ℕ → Owner) → ℕ → Owner → ℕ → Owner
renamed name k x j = cond (nat_eq j k) x (name j)

pub re_here : (name : ℕ → Owner) (k : ℕ) (x : Owner) → renamed name k x k ≡ x
re_here name k x = ap (λ t. cond t x (name k)) (eq_is k k refl)

pub re_other : (name : ℕ → Owner) (k : ℕ) (x : Owner) (j : ℕ) → j ≢ k → renamed name k x j ≡ name j
re_other name k x j a = ap (λ t. cond t x (name j)) (ne_is j k a)

-- what has two names is two places
pub apart : (name : ℕ → Owner) (i j : ℕ) (x y : Owner) → name i ≡ x → name j ≡ y → (x ≡ y → ⊥) → i ≢ j
apart name i j x y a b n e = n (sym a ∙ ap name e ∙ b)

pub spare_kept : (k : ℕ) (old new : List Node) (name name' : ℕ → Owner) (f : ℕ) → length old ≤ length new →
    ((j m : ℕ) → m < k → name j ≡ Spare m → (cell_at new j ≡ cell_at old j) × (name' j ≡ Spare m)) → SpareFrom k old name f → SpareFrom k new name' f
unfolding SpareFrom
spare_kept zero old new name name' f l c s = s
spare_kept (suc k) old new name name' f l c s = (
  s.0,
  (c f k (omega arith) s.1).1,
  omega (arith, l, s.2),
  subst (λ (x : Node). SpareFrom k new name' x.low) (sym (c f k (omega arith) s.1).0) (spare_kept k old new name name' (cell_at old f).low l (λ j m h e. c j m (omega arith) e) s.3),
)

spare_at : (m k : ℕ) → Spare m ≡ Spare k → m ≡ k
spare_at m k e = cc

pub spare_not : (m : ℕ) (q : List Bool) → Spare m ≡ At q → ⊥
spare_not m q e = cc

pub nowhere_not : (q : List Bool) → Nowhere ≡ At q → ⊥
nowhere_not q e = cc

nowhere_spare : (m : ℕ) → Nowhere ≡ Spare m → ⊥
nowhere_spare m e = cc

-- a place that is someone's lies in the array
inside : (cells : List Node) (free n : ℕ) (name : ℕ → Owner) (j : ℕ) → HasSpares cells free name n → (name j ≡ Nowhere → ⊥) → j < length cells
inside cells free n name j h e = elim (cases_lt j (length cells)) [ inl l ↦ l | inr g ↦ absurd (e (h.past j (omega arith))) ]

-- the first spare place
pub spare_place : (old : List Node) (free next : ℕ) (name : ℕ → Owner) (n : ℕ) (r : List Bool) → free ≢ 0 → next ≡ (cell_at old free).low → HasSpares old free name n → GivesPlace r old old next name free
unfolding SpareFrom
spare_place old free next name zero r z x h = absurd (z h.spare)
spare_place old free next name (suc m) r z x h =
    let s = h.spare in
    let name2 = renamed name free (At r) in
    let other : (j : ℕ) (x : Owner) → name j ≡ x → (x ≡ Spare m → ⊥) → name2 j ≡ name j =
    λ j x e k. re_other name free (At r) j (apart name j free x (Spare m) e s.1 k) in
    record {
      name' = name2;
      spares = m;
      some = z;
      fresh = λ q e. spare_not m q (sym s.1 ∙ e);
      mine = re_here name free (At r);
      inside = s.2;
      held = record {
        past = λ j l. other j Nowhere (h.past j l) (nowhere_spare m) ∙ h.past j l;
        spare = subst (λ (y : ℕ). SpareFrom m old name2 y) (sym x) (spare_kept m old old name name2 (cell_at old free).low (omega arith) (λ j k l e. (refl, other j (Spare k) e (λ v. absurd (omega (arith, spare_at k m v))) ∙ e)) s.3);
      };
      long = omega arith;
      same = λ j q e. (refl, other j (At q) e (λ x. spare_not m q (sym x)) ∙ e);
    }

-- a new place at the end
pub new_place : (old new : List Node) (free k : ℕ) (a : List Node) (name : ℕ → Owner) (n : ℕ) (r : List Bool) → k ≢ 0 → k ≡ length old → new ≡ old ++ a → length a ≡ 1 → HasSpares old free name n → GivesPlace r old new free name k
new_place old new free k a name n r z at e la h =
    let long : length new ≡ length old + 1 = omega (arith, ap length e, length-append old a) in
    let name2 = renamed name k (At r) in
    let same : (j : ℕ) → j < length old → cell_at new j ≡ cell_at old j = λ j l. ap (λ x. get_or x j blank_cell) e ∙ get_or_append_left old a blank_cell j l in
    let other : (j : ℕ) → j < length old → name2 j ≡ name j = λ j l. re_other name k (At r) j (λ x. absurd (omega arith)) in
    record {
      name' = name2;
      spares = n;
      some = z;
      fresh = λ q e. nowhere_not q (sym (h.past k (omega (arith, at))) ∙ e);
      mine = re_here name k (At r);
      inside = omega arith;
      held = record {
        past = λ j l. re_other name k (At r) j (λ x. absurd (omega arith)) ∙ h.past j (omega arith);
        spare = spare_kept n old new name name2 free (omega arith) (λ j m l x. let w = inside old free n name j h (λ y. nowhere_spare m (sym y ∙ x)) in (same j w, other j w ∙ x)) h.spare;
      };
      long = omega arith;
      same = λ j q x. let w = inside old free n name j h (λ y. nowhere_not q (sym y ∙ x)) in (same j w, other j w ∙ x);
    }

-- ---- a half becomes a node

pub at_same : (p q : List Bool) → At p ≡ At q → p ≡ q
at_same p q e = cc

pub no_begin : (p q : List Bool) (b : Bool) → begins (p ++ (b ∷ [])) q ≡ true → begins p q ≡ false → ⊥
no_begin p q b h k = let x : true ≡ false = sym (begins_less p q b h) ∙ k in cc

-- the bits of two halves
pub both_not : (p q : List Bool) (b c : Bool) → b ≢ c → begins (p ++ (b ∷ [])) q ≡ true → begins (p ++ (c ∷ [])) q ≡ true → ⊥
both_not p q true true n h k = n refl
both_not p q true false n h k = begins_other p q h k
both_not p q false true n h k = begins_other p q k h
both_not p q false false n h k = n refl

pub no : (t : Bool) → (t ≡ true → ⊥) → t ≡ false
no true h = absurd (h refl)
no false h = refl

-- a node with no labels and no halves is in order
pub leaf_tree : (d : ℕ) (cells : List Node) (name : ℕ → Owner) (j : ℕ) (p : List Bool) → name j ≡ At p → j < length cells → cell_at cells j ≡ blank_cell →
    (walks_at (suc d) cells j ≡ walks_of None None no_walks no_walks) × IsTree (suc d) cells name j p
unfolding walks_at IsTree
leaf_tree d cells name j p e l b = (
  ap (walks_by (walks_at d cells)) b,
  (
    e,
    l,
    subst (λ (n : Node). IsNode (walks_at d cells) (λ b j. IsTree d cells name j (p ++ (b ∷ []))) n) (sym b) (record {
      covers = record { routes = bare_cover bare_cover_is refl refl; entries = bare_cover bare_cover_is refl refl };
      halves = λ b. elim b as (λ b. IfHalf (λ j. IsTree d cells name j (p ++ (b ∷ []))) (half_place blank_cell b)) [ true ↦ tt | false ↦ tt ];
    }),
  ),
)

pub covers_alike : (q r : List Bool) (n : Node) (low low' high high' : Walks) → IsRoomier q low low' → IsRoomier r high high' → AreCovers n.route n.entry low high → AreCovers n.route n.entry low' high'
covers_alike q r n low low' high high' a b c = record {
  routes = subst (λ x. IsCover (join n.route.hop x high'.routes) (cover_in n.route)) (sym a.routes) (subst (λ x. IsCover (join n.route.hop low.routes x) (cover_in n.route)) (sym b.routes) c.routes);
  entries = subst (λ x. IsCover (join n.entry.hop x high'.entries) (cover_in n.entry)) (sym a.entries) (subst (λ x. IsCover (join n.entry.hop low.entries x) (cover_in n.entry)) (sym b.entries) c.entries);
}

pub roomier_same : (q : List Bool) (a b : Walks) → b ≡ a → IsRoomier q a b
roomier_same q a b e = record { routes = ap (λ (w : Walks). w.routes) e; entries = ap (λ (w : Walks). w.entries) e; kept = λ p h. ap (λ (w : Walks). has_node p w.nodes) e ∙ h; made = λ p h. inl (ap (λ (w : Walks). has_node p w.nodes) (sym e) ∙ h) }

pub roomier_trans : (q : List Bool) (a b c : Walks) → IsRoomier q a b → IsRoomier q b c → IsRoomier q a c
roomier_trans q a b c x y = record {
  routes = y.routes ∙ x.routes;
  entries = y.entries ∙ x.entries;
  kept = λ p h. y.kept p (x.kept p h);
  made = λ p h. elim (y.made p h) [ inl o ↦ x.made p o | inr o ↦ inr o ];
}

itself : (q p : List Bool) → has_node p (walks_of None None no_walks no_walks).nodes ≡ true → begins p q ≡ true
unfolding same_bits
itself q [] h = refl
itself q (b ∷ p) h = cc

-- a new node is on each way
pub roomier_nothing : (q : List Bool) (a : Walks) → a ≡ walks_of None None no_walks no_walks → IsRoomier q no_walks a
roomier_nothing q a e = record {
  routes = ap (λ (w : Walks). w.routes) e;
  entries = ap (λ (w : Walks). w.entries) e;
  kept = λ p h. cc;
  made = λ p h. inr (itself q p (ap (λ (w : Walks). has_node p w.nodes) (sym e) ∙ h));
}

-- one half has more room, and the other is as it was
pub roomier_high : (q : List Bool) (route entry : Option ℕ) (low low' high high' : Walks) → low' ≡ low → IsRoomier q high high' → IsRoomier (true ∷ q) (walks_of route entry low high) (walks_of route entry low' high')
roomier_high q route entry low low' high high' e b =
    subst (λ (x : Walks). IsRoomier (true ∷ q) (walks_of route entry low high) (walks_of route entry x high')) (sym e) (record {
      routes = ap (λ x. join route low.routes x) b.routes;
      entries = ap (λ x. join entry low.entries x) b.entries;
      kept = kept_high route entry low high high' (walks_of route entry low high) refl b.kept;
      made = made;
    })
  where
    made : AreMadeTo (true ∷ q) (walks_of route entry low high).nodes (walks_of route entry low high').nodes
    made [] h = inr refl
    made (true ∷ p) h = elim (b.made p (sym (has_high p route entry low high') ∙ h)) [ inl x ↦ inl (has_high p route entry low high ∙ x) | inr y ↦ inr y ]
    made (false ∷ p) h = inl (has_low p route entry low high ∙ (sym (has_low p route entry low high') ∙ h))

pub roomier_low : (q : List Bool) (route entry : Option ℕ) (low low' high high' : Walks) → IsRoomier q low low' → high' ≡ high → IsRoomier (false ∷ q) (walks_of route entry low high) (walks_of route entry low' high')
roomier_low q route entry low low' high high' a e =
    subst (λ (x : Walks). IsRoomier (false ∷ q) (walks_of route entry low high) (walks_of route entry low' x)) (sym e) (record {
      routes = ap (λ x. join route x high.routes) a.routes;
      entries = ap (λ x. join entry x high.entries) a.entries;
      kept = kept_low route entry low high low' (walks_of route entry low high) refl a.kept;
      made = made;
    })
  where
    made : AreMadeTo (false ∷ q) (walks_of route entry low high).nodes (walks_of route entry low' high).nodes
    made [] h = inr refl
    made (false ∷ p) h = elim (a.made p (sym (has_low p route entry low' high) ∙ h)) [ inl x ↦ inl (has_low p route entry low high ∙ x) | inr y ↦ inr y ]
    made (true ∷ p) h = inl (has_high p route entry low high ∙ (sym (has_high p route entry low' high) ∙ h))

pub link_some : (j : ℕ) → j ≢ 0 → link j ≡ Some j
link_some zero z = absurd (z refl)
link_some (suc j) z = refl

half_with : (n : Node) (j : ℕ) (b : Bool) → j ≢ 0 → half_place (with_half n j b) b ≡ Some j
half_with n j true z = link_some j z
half_with n j false z = link_some j z

-- the half that was there is where it was
with_other : (n : Node) (j : ℕ) (b c : Bool) → b ≢ c → half_place (with_half n j b) c ≡ half_place n c
with_other n j true true ne = absurd (ne refl)
with_other n j true false ne = refl
with_other n j false true ne = refl
with_other n j false false ne = absurd (ne refl)

module _ (e i j free : ℕ) (old mid : List Node) (n : Node) (name : ℕ → Owner) (p : List Bool) (b : Bool) (at : n ≡ cell_at old i) (gone : half_place n b ≡ None) (g : GivesPlace (p ++ (b ∷ [])) old mid free name j) where
  -- the array with the new node, before its parent tells of it
  abbrev mid2 : List Node
  mid2 = slice_set mid j blank_cell

  long2 : length mid2 ≡ length mid
  long2 = length-set mid j blank_cell

  child : (walks_at (suc e) mid2 j ≡ walks_of None None no_walks no_walks) × IsTree (suc e) mid2 g.name' j (p ++ (b ∷ []))
  child = leaf_tree e mid2 g.name' j (p ++ (b ∷ [])) g.mine (omega (arith, long2, g.inside)) (get_or-set_same mid j blank_cell blank_cell g.inside)

  other : (c : Bool) → b ≢ c → IfHalf (λ j. IsTree (suc e) old name j (p ++ (c ∷ []))) (half_place n c) →
      (from_half (walks_at (suc e) mid2) (half_place n c) ≡ from_half (walks_at (suc e) old) (half_place n c)) × IfHalf (λ j. IsTree (suc e) mid2 g.name' j (p ++ (c ∷ []))) (half_place n c)
  other c ne t =
      let car : Carries (p ++ (c ∷ [])) old mid2 name g.name' = record {
        long = omega (arith, long2, g.long);
        same = λ x q f h. (
          get_or-set_other mid j x blank_cell blank_cell (apart g.name' x j (At q) (At (p ++ (b ∷ []))) (g.same x q f).1 g.mine
              (λ y. both_not p (p ++ (b ∷ [])) b c ne (begins_self (p ++ (b ∷ []))) (ap (begins (p ++ (c ∷ []))) (sym (at_same q (p ++ (b ∷ [])) y)) ∙ h))) ∙ (g.same x q f).0,
          (g.same x q f).1,
        );
      } in
      half_carried (suc e) old mid2 name g.name' (p ++ (c ∷ [])) (half_place n c) (λ x s. carry (suc e) old mid2 name g.name' x (p ++ (c ∷ [])) car s) t

  spares_kept : (new : List Node) → length new ≡ length mid → ((x : ℕ) (m : ℕ) → g.name' x ≡ Spare m → cell_at new x ≡ cell_at mid x) → HasSpares new free g.name' g.spares
  spares_kept new l s = record {
    past = λ x h. g.held.past x (omega (arith, l, h));
    spare = spare_kept g.spares mid new g.name' g.name' free (omega (arith, l)) (λ x m k y. (s x m y, y)) g.held.spare;
  }

  pub split_done : IsTree (suc (suc e)) old name i p → IsSplit (suc (suc e)) b old (slice_set mid2 i (with_half n j b)) free name i p j
  unfolding walks_at IsTree
  split_done t =
      let m = with_half n j b in
      let new = slice_set mid2 i m in
      let Old = walks_at (suc e) old in
      let W = walks_at (suc e) mid2 in
      let S : Bool → ℕ → Type 0 = λ b x. IsTree (suc e) mid2 g.name' x (p ++ (b ∷ [])) in
      let k : IsNode Old (λ b x. IsTree (suc e) old name x (p ++ (b ∷ []))) n = subst (λ (y : Node). IsNode Old (λ b x. IsTree (suc e) old name x (p ++ (b ∷ []))) y) (sym at) t.2 in
      let here = g.same i p t.0 in
      let within : i < length mid2 = omega (arith, long2, g.long, t.1) in
      let is = link_some j g.some in
      let mine : (r : List Bool) → IsRoomier r no_walks (from_half W (link j)) = λ r. roomier_nothing r (from_half W (link j)) (ap (from_half W) is ∙ child.0) in
      let tree : IfHalf (S b) (link j) = subst (λ (o : Option ℕ). IfHalf (S b) o) (sym is) child.1 in
      let Q : Bool → Type 0 = λ x. b ≡ x → ((r : List Bool) → IsRoomier (x ∷ r) (walks_by Old n) (walks_by W (with_half n j x))) × IsNode W S (with_half n j x) in
      let made = (elim b as Q [
        | true ↦ λ q.
            let rest = other false (λ x. let y : true ≡ false = sym q ∙ x in cc) (k.halves false) in
            let was : from_half Old (half_place n true) ≡ no_walks = ap (from_half Old) (ap (half_place n) (sym q) ∙ gone) in
            let highs : (r : List Bool) → IsRoomier r (from_half Old (half_place n true)) (from_half W (link j)) = λ r. subst (λ x. IsRoomier r x (from_half W (link j))) (sym was) (mine r) in (
              λ r. roomier_high r n.route.hop n.entry.hop _ _ _ _ rest.0 (highs r),
              record {
                covers = covers_alike [] [] n _ _ _ _ (roomier_same [] _ _ rest.0) (highs []) k.covers;
                halves = λ c. elim c as (λ c. IfHalf (S c) (half_place (with_half n j true) c)) [ true ↦ subst (λ x. IfHalf (S x) (link j)) q tree | false ↦ rest.1 ];
              },
            )
        | false ↦ λ q.
            let rest = other true (λ x. let y : false ≡ true = sym q ∙ x in cc) (k.halves true) in
            let was : from_half Old (half_place n false) ≡ no_walks = ap (from_half Old) (ap (half_place n) (sym q) ∙ gone) in
            let lows : (r : List Bool) → IsRoomier r (from_half Old (half_place n false)) (from_half W (link j)) = λ r. subst (λ x. IsRoomier r x (from_half W (link j))) (sym was) (mine r) in (
              λ r. roomier_low r n.route.hop n.entry.hop _ _ _ _ (lows r) rest.0,
              record {
                covers = covers_alike [] [] n _ _ _ _ (lows []) (roomier_same [] _ _ rest.0) k.covers;
                halves = λ c. elim c as (λ c. IfHalf (S c) (half_place (with_half n j false) c)) [ true ↦ rest.1 | false ↦ subst (λ x. IfHalf (S x) (link j)) q tree ];
              },
            )
      ]) refl in
      let x = placed (suc e) mid2 i m g.name' p here.1 within made.1 in
      let same : (x : ℕ) (y : Owner) → g.name' x ≡ y → (y ≡ At p → ⊥) → (y ≡ At (p ++ (b ∷ [])) → ⊥) → cell_at new x ≡ cell_at mid x =
      λ x y f u v. get_or-set_other mid2 i x m blank_cell (apart g.name' x i y (At p) f here.1 u) ∙ get_or-set_other mid j x blank_cell blank_cell (apart g.name' x j y (At (p ++ (b ∷ []))) f g.mine v) in
      record {
        name' = g.name';
        spares = g.spares;
        tree = x.1;
        held = spares_kept new (length-set mid2 i m ∙ long2) (λ x k f. same x (Spare k) f (spare_not k p) (spare_not k (p ++ (b ∷ []))));
        keeps = record {
          long = omega (arith, length-set mid2 i m, long2, g.long);
          same = λ x q f h. (
            same x (At q) (g.same x q f).1
                (λ u. let z : true ≡ false = sym (begins_self p) ∙ ap (begins p) (sym (at_same q p u)) ∙ h in cc)
                (λ u. let z : true ≡ false = sym (begins_front p (b ∷ [])) ∙ ap (begins p) (sym (at_same q (p ++ (b ∷ [])) u)) ∙ h in cc)
                ∙ (g.same x q f).0,
            (g.same x q f).1,
          );
        };
        walks = λ r. roomier_trans _ _ _ _ (roomier_same _ _ _ (ap (walks_by Old) at)) (roomier_trans _ _ _ _ (made.0 r) (roomier_same _ _ _ x.0));
        half = ap (λ y. half_place y b) (get_or-set_same mid2 i m blank_cell within) ∙ half_with n j b g.some;
        blank = get_or-set_other mid2 i j m blank_cell (apart g.name' j i (At (p ++ (b ∷ []))) (At p) g.mine here.1 (λ u. let z : true ≡ false = sym (begins_self (p ++ (b ∷ []))) ∙ ap (begins (p ++ (b ∷ []))) (at_same (p ++ (b ∷ [])) p u) ∙ begins_self_not p b in cc))
            ∙ get_or-set_same mid j blank_cell blank_cell g.inside;
        fresh = g.fresh;
        other = λ c ne. ap (λ y. half_place y c) (get_or-set_same mid2 i m blank_cell within) ∙ (with_other n j b c ne ∙ ap (λ y. half_place y c) at);
        rest = λ x r c ne f h.
            same x (At r) (g.same x r f).1
            (λ u. let z : true ≡ false = sym h ∙ ap (begins (p ++ (c ∷ []))) (at_same r p u) ∙ begins_self_not p c in cc)
            (λ u. both_not p (p ++ (b ∷ [])) b c ne (begins_self (p ++ (b ∷ []))) (ap (begins (p ++ (c ∷ []))) (sym (at_same r (p ++ (b ∷ [])) u)) ∙ h))
            ∙ (g.same x r f).0;
      }

pub tree_name : (d : ℕ) (cells : List Node) (name : ℕ → Owner) (i : ℕ) (p : List Bool) → IsTree d cells name i p → name i ≡ At p
unfolding IsTree
tree_name zero cells name i p t = absurd t
tree_name (suc d) cells name i p t = t.0

pub room_end : (old : List Node) (free i left q d : ℕ) (name : ℕ → Owner) (n : ℕ) (p : List Bool) → left ≡ 0 → left < d → IsTree d old name i p → HasSpares old free name n → MakesRoom d (bits_of left q) old old free name i p
room_end old free i left q d name n p z l t h = record {
  name' = name;
  spares = n;
  tree = t;
  held = h;
  keeps = record { long = omega arith; same = λ j r e k. (refl, e) };
  walks = roomier_same _ _ _ refl;
  there = sym (end_node old i left q d z l);
}

-- room below a half is room below the node
pub room_below : (old new : List Node) (free i j left q d : ℕ) (name : ℕ → Owner) (p : List Bool) (b : Bool) → left ≢ 0 → b ≡ nat_eq (bit_at q (left - 1)) 1 → half_place (cell_at old i) b ≡ Some j →
    IsTree (suc d) old name i p → MakesRoom d (bits_of (left - 1) q) old new free name j (p ++ (b ∷ [])) → MakesRoom (suc d) (bits_of left q) old new free name i p
unfolding walks_at IsTree
room_below old new free i j left q d name p b z y some t r =
    let n = cell_at old i in
    let Old = walks_at d old in
    let W = walks_at d new in
    let here = r.keeps.same i p t.0 (begins_self_not p b) in
    let k = t.2 in
    let other : (c : Bool) → b ≢ c → (from_half W (half_place n c) ≡ from_half Old (half_place n c)) × IfHalf (λ j. IsTree d new r.name' j (p ++ (c ∷ []))) (half_place n c) =
    λ c ne.
    let car : Carries (p ++ (c ∷ [])) old new name r.name' = record { long = r.keeps.long; same = λ x v f h. r.keeps.same x v f (no (begins (p ++ (b ∷ [])) v) (λ u. both_not p v b c ne u h)) } in
    half_carried d old new name r.name' (p ++ (c ∷ [])) (half_place n c) (λ x s. carry d old new name r.name' x (p ++ (c ∷ [])) car s) (k.halves c)
    in
    let mine : (o : Option ℕ) → o ≡ Some j → IsRoomier (bits_of (left - 1) q) (from_half Old o) (from_half W o) × (has_node (bits_of (left - 1) q) (from_half W o).nodes ≡ true) × IfHalf (λ j. IsTree d new r.name' j (p ++ (b ∷ []))) o =
    λ o e. subst (λ (v : Option ℕ). IsRoomier (bits_of (left - 1) q) (from_half Old v) (from_half W v) × (has_node (bits_of (left - 1) q) (from_half W v).nodes ≡ true) × IfHalf (λ j. IsTree d new r.name' j (p ++ (b ∷ []))) v) (sym e) (r.walks, r.there, r.tree) in
    let S : Bool → ℕ → Type 0 = λ c j. IsTree d new r.name' j (p ++ (c ∷ [])) in
    let Q : Bool → Type 0 = λ x. b ≡ x → IsRoomier (x ∷ bits_of (left - 1) q) (walks_by Old n) (walks_by W n) × (has_node (bits_of left q) (walks_by W n).nodes ≡ true) × IsNode W S n in
    let made = (elim b as Q [
      | true ↦ λ e.
          let m = mine (half_place n true) (ap (half_place n) (sym e) ∙ some) in
          let rest = other false (λ x. let v : true ≡ false = sym e ∙ x in cc) in (
            roomier_high (bits_of (left - 1) q) n.route.hop n.entry.hop _ _ _ _ rest.0 m.0,
            sym (room_half true n.route.hop n.entry.hop (from_half W (half_place n false)) (from_half W (half_place n true)) left q z (sym e ∙ y)) ∙ m.1,
            record {
              covers = covers_alike [] _ n _ _ _ _ (roomier_same [] _ _ rest.0) m.0 k.covers;
              halves = λ c. elim c as (λ c. IfHalf (S c) (half_place n c)) [ true ↦ subst (λ x. IfHalf (λ j. IsTree d new r.name' j (p ++ (x ∷ []))) (half_place n true)) e m.2 | false ↦ rest.1 ];
            },
          )
      | false ↦ λ e.
          let m = mine (half_place n false) (ap (half_place n) (sym e) ∙ some) in
          let rest = other true (λ x. let v : false ≡ true = sym e ∙ x in cc) in (
            roomier_low (bits_of (left - 1) q) n.route.hop n.entry.hop _ _ _ _ m.0 rest.0,
            sym (room_half false n.route.hop n.entry.hop (from_half W (half_place n false)) (from_half W (half_place n true)) left q z (sym e ∙ y)) ∙ m.1,
            record {
              covers = covers_alike _ [] n _ _ _ _ m.0 (roomier_same [] _ _ rest.0) k.covers;
              halves = λ c. elim c as (λ c. IfHalf (S c) (half_place n c)) [ true ↦ rest.1 | false ↦ subst (λ x. IfHalf (λ j. IsTree d new r.name' j (p ++ (x ∷ []))) (half_place n false)) e m.2 ];
            },
          )
    ]) refl in
    record {
      name' = r.name';
      spares = r.spares;
      tree = (here.1, omega (arith, t.1, r.keeps.long), subst (λ (x : Node). IsNode W S x) (sym here.0) made.2);
      held = r.held;
      keeps = record { long = r.keeps.long; same = λ x v f h. r.keeps.same x v f (no (begins (p ++ (b ∷ [])) v) (λ u. no_begin p v b u h)) };
      walks = subst (λ v. IsRoomier v (walks_by Old n) (walks_by W (cell_at new i))) (sym (first_bit left q b z y)) (roomier_trans _ _ _ _ made.0 (roomier_same _ _ _ (ap (walks_by W) here.0)));
      there = ap (λ (x : Node). has_node (bits_of left q) (walks_by W x).nodes) here.0 ∙ made.1;
    }

pub some_room : (old new : List Node) (n : Node) (o : Option ℕ) (free i j left q d : ℕ) (name : ℕ → Owner) (p : List Bool) (b : Bool) → left ≢ 0 → b ≡ nat_eq (bit_at q (left - 1)) 1 → n ≡ cell_at old i → o ≡ half_place n b → o ≡ Some j → left < d →
    IsTree d old name i p → ((e : ℕ) (v : List Bool) → left - 1 < e → IsTree e old name j v → MakesRoom e (bits_of (left - 1) q) old new free name j v) → MakesRoom d (bits_of left q) old new free name i p
unfolding IsTree
some_room old new n o free i j left q zero name p b z y at h some l t f = absurd t
some_room old new n o free i j left q (suc d) name p b z y at h some l t f =
    let is : half_place (cell_at old i) b ≡ Some j = ap (λ x. half_place x b) (sym at) ∙ sym h ∙ some in
    room_below old new free i j left q d name p b z y is t (f d (p ++ (b ∷ [])) (omega arith) (subst (λ (v : Option ℕ). IfHalf (λ x. IsTree d old name x (p ++ (b ∷ []))) v) is (t.2.halves b)))

-- room after a half became a node is room
pub split_room : (old mid new : List Node) (free1 free i j left q d : ℕ) (name : ℕ → Owner) (p : List Bool) (b : Bool) → left ≢ 0 → b ≡ nat_eq (bit_at q (left - 1)) 1 →
    (s : IsSplit d b old mid free1 name i p j) → MakesRoom d (bits_of left q) mid new free s.name' i p → MakesRoom d (bits_of left q) old new free name i p
split_room old mid new free1 free i j left q d name p b z y s r = record {
  name' = r.name';
  spares = r.spares;
  tree = r.tree;
  held = r.held;
  keeps = record { long = omega (arith, s.keeps.long, r.keeps.long); same = λ x v g h. let a = s.keeps.same x v g h in let c = r.keeps.same x v a.1 h in (c.0 ∙ a.0, c.1) };
  walks = roomier_trans _ _ _ _ (subst (λ v. IsRoomier v (walks_at d old i) (walks_at d mid i)) (sym (first_bit left q b z y)) (s.walks (bits_of (left - 1) q))) r.walks;
  there = r.there;
}

pub none_room : (old mid new : List Node) (free1 free i j left q d : ℕ) (name : ℕ → Owner) (p : List Bool) (b : Bool) → left ≢ 0 → b ≡ nat_eq (bit_at q (left - 1)) 1 → left < d →
    IsSplit d b old mid free1 name i p j →
    ((e : ℕ) (name1 : ℕ → Owner) (n : ℕ) (v : List Bool) → left - 1 < e → IsTree e mid name1 j v → HasSpares mid free1 name1 n → MakesRoom e (bits_of (left - 1) q) mid new free name1 j v) → MakesRoom d (bits_of left q) old new free name i p
none_room old mid new free1 free i j left q d name p b z y l s f =
    split_room old mid new free1 free i j left q d name p b z y s
    (some_room mid new (cell_at mid i) (half_place (cell_at mid i) b) free i j left q d s.name' p b z y refl refl s.half l s.tree (λ e v m t. f e s.name' s.spares v m t s.held))

pub split_is : (old mid new : List Node) (n leaf m : Node) (i j free d : ℕ) (name : ℕ → Owner) (p : List Bool) (b : Bool) → n ≡ cell_at old i → half_place n b ≡ None → 1 < d → IsTree d old name i p → GivesPlace (p ++ (b ∷ [])) old mid free name j →
    leaf ≡ blank_cell → m ≡ with_half n j b → new ≡ slice_set (slice_set mid j leaf) i m → IsSplit d b old new free name i p j
split_is old mid new n leaf m i j free zero name p b at gone l t g x y z = absurd (omega arith)
split_is old mid new n leaf m i j free (suc zero) name p b at gone l t g x y z = absurd (omega arith)
split_is old mid new n leaf m i j free (suc (suc e)) name p b at gone l t g x y z =
    let is : new ≡ slice_set (slice_set mid j blank_cell) i (with_half n j b) = z ∙ ap (λ v. slice_set (slice_set mid j v) i m) x ∙ ap (λ v. slice_set (slice_set mid j blank_cell) i v) y in
    subst (λ (v : List Node). IsSplit (suc (suc e)) b old v free name i p j) (sym is) (split_done e i j free old mid n name p b at gone g t)

pub room_there : (old : List Node) (free i left q d : ℕ) (name : ℕ → Owner) (n : ℕ) (p : List Bool) → true ≡ has_node (bits_of left q) (walks_at d old i).nodes → IsTree d old name i p → HasSpares old free name n → MakesRoom d (bits_of left q) old old free name i p
room_there old free i left q d name n p z t h = record {
  name' = name;
  spares = n;
  tree = t;
  held = h;
  keeps = record { long = omega arith; same = λ j r e k. (refl, e) };
  walks = roomier_same _ _ _ refl;
  there = sym z;
}
