-- What places stand for after a write, and one level of each walk down the array.
use Rattle.std.proofs.Common.{◌≡◌, ◌≢◌, ℕ, zero, suc, ◌-◌, ◌<◌, ◌≤◌, List, [], ◌∷◌, ◌++◌, length, Bool, true, false, refl, sym, ap, ◌∙◌, subst, arith, Option, Some, None, slice_set}
use Rattle.std.specs.Prelude.{nat_eq}
use Rattle.std.specs.Int.{bit_at}
use Rattle.std.specs.Option.{unwrap_or}
use Rattle.std.proofs.lemmas.List.{get_or-set_same, get_or-set_other, length-set}
use Rattle.table_model.specs.Bits.{bits_of, begins}
use Rattle.table_model.specs.Table.{Table, lpm}
use Rattle.table_model.specs.Regions.{above, join}
use Rattle.orig_tree.specs.Views.{FitsWidth}
use Rattle.orig_tree.specs.Walk.{Walks, no_walks, walks_of, rows_of, edited, CanEdit, labelled}
use Rattle.orig_tree.specs.Cover.{IsCover, covered, only_of}
use Rattle.orig_tree.specs.Slots.{AreCovers, Retold}
use Rattle.orig_tree.specs.Uniform.{IsUniform}
use Rattle.orig_tree.specs.Arena.{Owner, At, Spare, Nowhere, blank_cell, cell_at, half_place, from_half, walks_by, walks_at, IfHalf, IsNode, IsTree, is_below, ChangesBelow, retold, cover_of, cover_at, bare_cover_is, IsSet}
use Rattle.orig_tree.specs.Packed.{opened, packed}
use Rattle.orig_tree.specs.declared.cover.Cover.{Cover}
use Rattle.orig_tree.specs.declared.cover.Hops.{Hops}
use Rattle.orig_tree.specs.declared.cover.Hops.TheVariants.{Zero, One, Many}
use Rattle.orig_tree.specs.declared.node.Node.{Node}
use Rattle.orig_tree.specs.declared.node.Label.{Label}
use Rattle.orig_tree.specs.declared.node.Label.TheVariants.{Route, Entry}
use Rattle.orig_tree.proofs.Covers.{bare_cover, cover_level}
use Rattle.orig_tree.proofs.Once.{one_cover}
use Rattle.orig_tree.proofs.Steps.{rows_nothing, side_of, answer_here, answer_half, assign_high, assign_low, allowed_high, allowed_low, edited_nothing}
use Rattle.orig_tree.proofs.Above.{above_half}
use Rattle.orig_tree.proofs.Kept.{uniform_here, uniform_high_step, uniform_low_step, told_covers, told_covers_high, told_covers_here, told_here, told_high, told_low}

-- ---- paths

pub begins_front : (p q : List Bool) → begins p (p ++ q) ≡ true
begins_front [] q = refl
begins_front (true ∷ p) q = begins_front p q
begins_front (false ∷ p) q = begins_front p q

pub begins_self : (p : List Bool) → begins p p ≡ true
begins_self [] = refl
begins_self (true ∷ p) = begins_self p
begins_self (false ∷ p) = begins_self p

pub begins_less : (p q : List Bool) (b : Bool) → begins (p ++ (b ∷ [])) q ≡ true → begins p q ≡ true
begins_less [] q b h = refl
begins_less (true ∷ p) [] b h = cc
begins_less (false ∷ p) [] b h = cc
begins_less (true ∷ p) (true ∷ q) b h = begins_less p q b h
begins_less (true ∷ p) (false ∷ q) b h = cc
begins_less (false ∷ p) (true ∷ q) b h = cc
begins_less (false ∷ p) (false ∷ q) b h = begins_less p q b h

pub begins_self_not : (p : List Bool) (b : Bool) → begins (p ++ (b ∷ [])) p ≡ false
begins_self_not [] true = refl
begins_self_not [] false = refl
begins_self_not (true ∷ p) b = begins_self_not p b
begins_self_not (false ∷ p) b = begins_self_not p b

pub begins_other : (p q : List Bool) → begins (p ++ (true ∷ [])) q ≡ true → begins (p ++ (false ∷ [])) q ≡ true → ⊥
begins_other [] [] h k = cc
begins_other [] (true ∷ q) h k = cc
begins_other [] (false ∷ q) h k = cc
begins_other (true ∷ p) [] h k = cc
begins_other (false ∷ p) [] h k = cc
begins_other (true ∷ p) (true ∷ q) h k = begins_other p q h k
begins_other (true ∷ p) (false ∷ q) h k = cc
begins_other (false ∷ p) (true ∷ q) h k = cc
begins_other (false ∷ p) (false ∷ q) h k = begins_other p q h k

not_true : (t : Bool) → (t ≡ true → ⊥) → t ≡ false
not_true true h = absurd (h refl)
not_true false h = refl

pub is_in_deeper : (p : List Bool) (b : Bool) (x : Owner) → is_below p x ≡ false → is_below (p ++ (b ∷ [])) x ≡ false
is_in_deeper p b (At q) h = not_true (begins (p ++ (b ∷ [])) q) (λ e. let c : true ≡ false = sym (begins_less p q b e) ∙ h in cc)
is_in_deeper p b (Spare n) h = refl
is_in_deeper p b Nowhere h = refl

-- ---- reading

-- what the half of a bit stands for
pub side_half : (f : ℕ → Walks) (n : Node) (b : Bool) → from_half f (half_place n b) ≡ side_of b (from_half f (half_place n false)) (from_half f (half_place n true))
side_half f n false = refl
side_half f n true = refl

module _ (label : Label) (cells : List Node) (n : Node) (i left q : ℕ) (b : Bool) (o : Option ℕ) (at : n ≡ cell_at cells i) (half : o ≡ half_place n b) where
  pub answer_step : (inherited hop out d : ℕ) → left ≢ 0 → b ≡ nat_eq (bit_at q (left - 1)) 1 → hop ≡ unwrap_or (labelled label n.route.hop n.entry.hop) inherited →
      ((e : ℕ) → left - 1 < e → out ≡ lpm (rows_of label (from_half (walks_at e cells) o)) (bits_of (left - 1) q) hop) →
      left < d → out ≡ lpm (rows_of label (walks_at d cells i)) (bits_of left q) inherited
  unfolding walks_at
  answer_step inherited hop out zero z k h below l = absurd (omega arith)
  answer_step inherited hop out (suc d) z k h below l =
      let f = walks_at d cells in
      answer_half label n.route.hop n.entry.hop (from_half f (half_place n false)) (from_half f (half_place n true)) _ left q inherited hop out b (ap (walks_by f) at) z k h
      (below d (omega arith) ∙ ap (λ w. lpm (rows_of label w) (bits_of (left - 1) q) hop) (ap (from_half f) half ∙ side_half f n b))

  pub above_step : (inherited hop out d : ℕ) → left ≢ 0 → b ≡ nat_eq (bit_at q (left - 1)) 1 → hop ≡ unwrap_or n.entry.hop inherited →
      ((e : ℕ) → left - 1 < e → out ≡ above (bits_of (left - 1) q) (from_half (walks_at e cells) o).entries hop) →
      left < d → out ≡ above (bits_of left q) (walks_at d cells i).entries inherited
  unfolding walks_at
  above_step inherited hop out zero z k h below l = absurd (omega arith)
  above_step inherited hop out (suc d) z k h below l =
      let f = walks_at d cells in
      above_half n.route.hop n.entry.hop (from_half f (half_place n false)) (from_half f (half_place n true)) _ left q inherited hop out b (ap (walks_by f) at) z k h
      (below d (omega arith) ∙ ap (λ (w : Walks). above (bits_of (left - 1) q) w.entries hop) (ap (from_half f) half ∙ side_half f n b))

pub answer_at_end : (label : Label) (cells : List Node) (n : Node) (i left q inherited hop d : ℕ) → n ≡ cell_at cells i → left ≡ 0 → hop ≡ unwrap_or (labelled label n.route.hop n.entry.hop) inherited →
    left < d → hop ≡ lpm (rows_of label (walks_at d cells i)) (bits_of left q) inherited
unfolding walks_at
answer_at_end label cells n i left q inherited hop zero at z h l = absurd (omega arith)
answer_at_end label cells n i left q inherited hop (suc d) at z h l =
    let f = walks_at d cells in
    answer_here label n.route.hop n.entry.hop (from_half f (half_place n false)) (from_half f (half_place n true)) _ left q inherited hop (ap (walks_by f) at) z h

pub no_rows : (label : Label) (cells : List Node) (o : Option ℕ) (p : List Bool) (hop e : ℕ) → o ≡ None → hop ≡ lpm (rows_of label (from_half (walks_at e cells) o)) p hop
no_rows label cells o p hop e h = sym (ap (λ u. lpm (rows_of label (from_half (walks_at e cells) u)) p hop) h ∙ ap (λ r. lpm r p hop) (rows_nothing label))

pub no_entries : (cells : List Node) (o : Option ℕ) (p : List Bool) (hop e : ℕ) → o ≡ None → hop ≡ above p (from_half (walks_at e cells) o).entries hop
no_entries cells o p hop e h = sym (ap (λ u. above p (from_half (walks_at e cells) u).entries hop) h)

-- ---- covers

pub cover_tree : (label : Label) (d : ℕ) (cells : List Node) (name : ℕ → Owner) (i : ℕ) (p : List Bool) → IsTree d cells name i p → IsCover (rows_of label (walks_at d cells i)) (cover_of label (cell_at cells i))
unfolding walks_at IsTree
cover_tree label zero cells name i p t = absurd t
cover_tree Route (suc d) cells name i p t = t.2.covers.routes
cover_tree Entry (suc d) cells name i p t = t.2.covers.entries

bare_rows : (label : Label) → IsCover (rows_of label no_walks) bare_cover_is
bare_rows Route = bare_cover bare_cover_is refl refl
bare_rows Entry = bare_cover bare_cover_is refl refl

pub cover_half : (label : Label) (d : ℕ) (cells : List Node) (name : ℕ → Owner) (p : List Bool) (o : Option ℕ) → IfHalf (λ j. IsTree d cells name j p) o → IsCover (rows_of label (from_half (walks_at d cells) o)) (cover_at cells label o)
cover_half label d cells name p None t = bare_rows label
cover_half label d cells name p (Some j) t = cover_tree label d cells name j p t

pub uniform_at_end : (label : Label) (cells : List Node) (n : Node) (c : Cover) (i left q inherited : ℕ) (result : Option ℕ) (d : ℕ) (name : ℕ → Owner) (p : List Bool) (m : ℕ) → n ≡ cell_at cells i → c ≡ cover_of label n → left ≡ 0 → result ≡ only_of c inherited →
    IsTree d cells name i p → left ≤ m → FitsWidth m (rows_of label (walks_at d cells i)) → IsUniform m (rows_of label (walks_at d cells i)) inherited (bits_of left q) result
uniform_at_end label cells n c i left q inherited result d name p m at k z r t l f =
    uniform_here label (walks_at d cells i) c left q inherited result
    (subst (λ (x : Cover). IsCover (rows_of label (walks_at d cells i)) x) (sym (k ∙ ap (cover_of label) at)) (cover_tree label d cells name i p t)) z r m l f

no_uniform : (label : Label) (d : ℕ) (cells : List Node) (o : Option ℕ) (hop left q : ℕ) → o ≡ None → (n : ℕ) → left ≤ n → FitsWidth n (rows_of label (from_half (walks_at d cells) o)) → IsUniform n (rows_of label (from_half (walks_at d cells) o)) hop (bits_of left q) (Some hop)
no_uniform label d cells o hop left q e n l f a la b = ap (λ r. lpm r a hop) (ap (λ u. rows_of label (from_half (walks_at d cells) u)) e ∙ rows_nothing label)

module _ (label : Label) (cells : List Node) (n : Node) (i left q : ℕ) (b : Bool) (o : Option ℕ) (at : n ≡ cell_at cells i) (half : o ≡ half_place n b) where
  pub uniform_step : (inherited hop : ℕ) (result : Option ℕ) (d : ℕ) (name : ℕ → Owner) (p : List Bool) (m : ℕ) → left ≢ 0 → b ≡ nat_eq (bit_at q (left - 1)) 1 → hop ≡ unwrap_or (labelled label n.route.hop n.entry.hop) inherited →
      ((e : ℕ) (r : List Bool) → left - 1 < e → IfHalf (λ j. IsTree e cells name j r) o → (k : ℕ) → left - 1 ≤ k → FitsWidth k (rows_of label (from_half (walks_at e cells) o)) → IsUniform k (rows_of label (from_half (walks_at e cells) o)) hop (bits_of (left - 1) q) result) →
      left < d → IsTree d cells name i p → left ≤ m → FitsWidth m (rows_of label (walks_at d cells i)) → IsUniform m (rows_of label (walks_at d cells i)) inherited (bits_of left q) result
  unfolding walks_at IsTree
  uniform_step inherited hop result zero name p m z k h below l t u f = absurd t
  uniform_step inherited hop result (suc d) name p m z k h below l t u f =
      let g = walks_at d cells in
      let w : walks_by g n ≡ walks_by g (cell_at cells i) = ap (walks_by g) at in
      let P : Bool → Type 0 = λ x. x ≡ nat_eq (bit_at q (left - 1)) 1 → o ≡ half_place n x → IsUniform m (rows_of label (walks_by g (cell_at cells i))) inherited (bits_of left q) result in
      let there : (x : Bool) → o ≡ half_place n x → IfHalf (λ j. IsTree d cells name j (p ++ (x ∷ []))) o = λ x e. subst (λ (y : Option ℕ). IfHalf (λ j. IsTree d cells name j (p ++ (x ∷ []))) y) (sym (e ∙ ap (λ v. half_place v x) at)) (t.2.halves x) in
      (elim b as P [
        | true ↦ λ x y. uniform_high_step label n.route.hop n.entry.hop (from_half g (half_place n false)) (from_half g (half_place n true)) _ left q inherited hop result w z x h
            (subst (λ (v : Option ℕ). (k : ℕ) → left - 1 ≤ k → FitsWidth k (rows_of label (from_half g v)) → IsUniform k (rows_of label (from_half g v)) hop (bits_of (left - 1) q) result) y (below d (p ++ (true ∷ [])) (omega arith) (there true y))) m u f
        | false ↦ λ x y. uniform_low_step label n.route.hop n.entry.hop (from_half g (half_place n false)) (from_half g (half_place n true)) _ left q inherited hop result w z x h
            (subst (λ (v : Option ℕ). (k : ℕ) → left - 1 ≤ k → FitsWidth k (rows_of label (from_half g v)) → IsUniform k (rows_of label (from_half g v)) hop (bits_of (left - 1) q) result) y (below d (p ++ (false ∷ [])) (omega arith) (there false y))) m u f
      ]) k half

  pub uniform_none : (inherited hop : ℕ) (d : ℕ) (name : ℕ → Owner) (p : List Bool) (m : ℕ) → left ≢ 0 → b ≡ nat_eq (bit_at q (left - 1)) 1 → hop ≡ unwrap_or (labelled label n.route.hop n.entry.hop) inherited →
      o ≡ None → left < d → IsTree d cells name i p → left ≤ m → FitsWidth m (rows_of label (walks_at d cells i)) → IsUniform m (rows_of label (walks_at d cells i)) inherited (bits_of left q) (Some hop)
  uniform_none inherited hop d name p m z k h e l t u f = uniform_step inherited hop (Some hop) d name p m z k h (λ x r v y. no_uniform label x cells o hop (left - 1) q e) l t u f

-- ---- what is kept

-- the places of path p and below it hold what they held, and are whose they were
pub record Carries (p : List Bool) (old new : List Node) (name name' : ℕ → Owner) : Type 0 where
  pub long : length old ≤ length new
  pub same : (j : ℕ) (q : List Bool) → name j ≡ At q → begins p q ≡ true → (cell_at new j ≡ cell_at old j) × (name' j ≡ At q)

pub deeper : (p : List Bool) (b : Bool) (old new : List Node) (name name' : ℕ → Owner) → Carries p old new name name' → Carries (p ++ (b ∷ [])) old new name name'
deeper p b old new name name' c = record { long = c.long; same = λ j q n h. c.same j q n (begins_less p q b h) }

pub half_carried : (d : ℕ) (old new : List Node) (name name' : ℕ → Owner) (r : List Bool) (o : Option ℕ) →
    ((j : ℕ) → IsTree d old name j r → (walks_at d new j ≡ walks_at d old j) × IsTree d new name' j r) →
    IfHalf (λ j. IsTree d old name j r) o → (from_half (walks_at d new) o ≡ from_half (walks_at d old) o) × IfHalf (λ j. IsTree d new name' j r) o
half_carried d old new name name' r None c t = (refl, tt)
half_carried d old new name name' r (Some j) c t = c j t

-- a node whose halves are carried over
pub node_carried : (d : ℕ) (old new : List Node) (name name' : ℕ → Owner) (p : List Bool) (n : Node) →
    ((b : Bool) (j : ℕ) → IsTree d old name j (p ++ (b ∷ [])) → (walks_at d new j ≡ walks_at d old j) × IsTree d new name' j (p ++ (b ∷ []))) →
    IsNode (walks_at d old) (λ b j. IsTree d old name j (p ++ (b ∷ []))) n →
    (walks_by (walks_at d new) n ≡ walks_by (walks_at d old) n) × IsNode (walks_at d new) (λ b j. IsTree d new name' j (p ++ (b ∷ []))) n
node_carried d old new name name' p n c k =
    let low = half_carried d old new name name' (p ++ (false ∷ [])) (half_place n false) (c false) (k.halves false) in
    let high = half_carried d old new name name' (p ++ (true ∷ [])) (half_place n true) (c true) (k.halves true) in
    let W : Walks → Walks → Type 0 = λ x y. AreCovers n.route n.entry x y in (
      ap (λ x. walks_of n.route.hop n.entry.hop x (from_half (walks_at d new) (half_place n true))) low.0 ∙ ap (λ x. walks_of n.route.hop n.entry.hop (from_half (walks_at d old) (half_place n false)) x) high.0,
      record {
        covers = subst (λ (x : Walks). W x (from_half (walks_at d new) (half_place n true))) (sym low.0) (subst (λ (x : Walks). W (from_half (walks_at d old) (half_place n false)) x) (sym high.0) k.covers);
        halves = λ b. elim b as (λ b. IfHalf (λ j. IsTree d new name' j (p ++ (b ∷ []))) (half_place n b)) [ true ↦ high.1 | false ↦ low.1 ];
      },
    )

pub carry : (d : ℕ) (old new : List Node) (name name' : ℕ → Owner) (i : ℕ) (p : List Bool) → Carries p old new name name' → IsTree d old name i p → (walks_at d new i ≡ walks_at d old i) × IsTree d new name' i p
unfolding walks_at IsTree
carry zero old new name name' i p c t = absurd t
carry (suc d) old new name name' i p c t =
    let e = c.same i p t.0 (begins_self p) in
    let k = node_carried d old new name name' p (cell_at old i) (λ b j s. carry d old new name name' j (p ++ (b ∷ [])) (deeper p b old new name name' c) s) t.2 in (
      ap (walks_by (walks_at d new)) e.0 ∙ k.0,
      (e.1, omega (arith, c.long, t.1), subst (λ (m : Node). IsNode (walks_at d new) (λ b j. IsTree d new name' j (p ++ (b ∷ []))) m) (sym e.0) k.1),
    )

at_path : (p q : List Bool) → At p ≡ At q → p ≡ q
at_path p q e = cc

-- another place than that of a node is below it
pub below_it : (name : ℕ → Owner) (i j : ℕ) (p q : List Bool) (b : Bool) → name i ≡ At p → name j ≡ At q → begins (p ++ (b ∷ [])) q ≡ true → j ≢ i
below_it name i j p q b e f h s =
    let g : q ≡ p = at_path q p (sym f ∙ ap name s ∙ e) in
    let x : true ≡ false = sym h ∙ ap (begins (p ++ (b ∷ []))) g ∙ begins_self_not p b in
    cc

-- a node is put at its place
pub placed : (d : ℕ) (cells : List Node) (i : ℕ) (n : Node) (name : ℕ → Owner) (p : List Bool) → name i ≡ At p → i < length cells →
    IsNode (walks_at d cells) (λ b j. IsTree d cells name j (p ++ (b ∷ []))) n →
    (walks_at (suc d) (slice_set cells i n) i ≡ walks_by (walks_at d cells) n) × IsTree (suc d) (slice_set cells i n) name i p
unfolding walks_at IsTree
placed d cells i n name p e l k =
    let new = slice_set cells i n in
    let long : length new ≡ length cells = length-set cells i n in
    let c : (b : Bool) → Carries (p ++ (b ∷ [])) cells new name name = λ b. record { long = omega (arith, long); same = λ j q f h. (get_or-set_other cells i j n blank_cell (below_it name i j p q b e f h), f) } in
    let is : cell_at new i ≡ n = get_or-set_same cells i n blank_cell l in
    let m = node_carried d cells new name name p n (λ b j s. carry d cells new name name j (p ++ (b ∷ [])) (c b) s) k in (
      ap (walks_by (walks_at d new)) is ∙ m.0,
      (e, omega (arith, long), subst (λ (x : Node). IsNode (walks_at d new) (λ b j. IsTree d new name j (p ++ (b ∷ []))) x) (sym is) m.1),
    )

pub put_keeps : (old mid : List Node) (i : ℕ) (n : Node) (name : ℕ → Owner) (p : List Bool) → name i ≡ At p → length mid ≡ length old → ((j : ℕ) → is_below p (name j) ≡ false → cell_at mid j ≡ cell_at old j) → ChangesBelow p old (slice_set mid i n) name
put_keeps old mid i n name p e l k = record {
  long = length-set mid i n ∙ l;
  same = λ j h. get_or-set_other mid i j n blank_cell (λ s. let x : true ≡ false = sym (begins_self p) ∙ ap (is_below p) (sym e) ∙ ap (λ y. is_below p (name y)) (sym s) ∙ h in cc) ∙ k j h;
}

-- ---- a label is set

half_retold : (label : Label) (hop : Option ℕ) (cl ch : Cover) (n : Node) (b : Bool) → half_place (retold label hop cl ch n) b ≡ half_place n b
half_retold Route hop cl ch n true = refl
half_retold Route hop cl ch n false = refl
half_retold Entry hop cl ch n true = refl
half_retold Entry hop cl ch n false = refl

-- a cover is the one that is kept
opened_packed : (c : Cover) (h : Hops) → c.hops ≡ h → opened (packed c h) ≡ c
opened_packed c Zero e = ap (λ (h : Hops). let x : Cover = record { passes = c.passes; hops = h } in x) (sym e)
opened_packed c (One g) e = ap (λ (h : Hops). let x : Cover = record { passes = c.passes; hops = h } in x) (sym e)
opened_packed c Many e = ap (λ (h : Hops). let x : Cover = record { passes = c.passes; hops = h } in x) (sym e)

pub cover_packed : (L : Table) (c : Cover) → IsCover L c → IsCover L (opened (packed c c.hops))
cover_packed L c k = subst (λ (x : Cover). IsCover L x) (sym (opened_packed c c.hops refl)) k

retold_is : (label : Label) (hop : Option ℕ) (cl ch : Cover) (n : Node) (low high : Walks) → IsCover (rows_of label low) cl → IsCover (rows_of label high) ch →
    Retold label hop n.route n.entry (retold label hop cl ch n).route (retold label hop cl ch n).entry low high
retold_is Route hop cl ch n low high a b = (refl, cover_packed (join hop low.routes high.routes) (covered hop cl ch) (cover_level hop low.routes high.routes cl ch a b), refl)
retold_is Entry hop cl ch n low high a b = (refl, cover_packed (join hop low.entries high.entries) (covered hop cl ch) (cover_level hop low.entries high.entries cl ch a b), refl)

pub renode : (label : Label) (hop : Option ℕ) (cl ch : Cover) (n : Node) (walks : ℕ → Walks) (S : Bool → ℕ → Type 0) →
    AreCovers (retold label hop cl ch n).route (retold label hop cl ch n).entry (from_half walks (half_place n false)) (from_half walks (half_place n true)) →
    ((b : Bool) → IfHalf (S b) (half_place n b)) →
    (walks_by walks (retold label hop cl ch n) ≡ walks_of (retold label hop cl ch n).route.hop (retold label hop cl ch n).entry.hop (from_half walks (half_place n false)) (from_half walks (half_place n true)))
    × IsNode walks S (retold label hop cl ch n)
renode Route hop cl ch n walks S c k = (refl, record { covers = c; halves = λ b. elim b as (λ b. IfHalf (S b) (half_place (retold Route hop cl ch n) b)) [ true ↦ k true | false ↦ k false ] })
renode Entry hop cl ch n walks S c k = (refl, record { covers = c; halves = λ b. elim b as (λ b. IfHalf (S b) (half_place (retold Entry hop cl ch n) b)) [ true ↦ k true | false ↦ k false ] })

pub tree_named : (d : ℕ) (cells : List Node) (name : ℕ → Owner) (i : ℕ) (p : List Bool) → IsTree d cells name i p → name i ≡ At p
unfolding IsTree
tree_named zero cells name i p t = absurd t
tree_named (suc d) cells name i p t = t.0

stored_cover : (label : Label) (n : Node) (low high : Walks) → AreCovers n.route n.entry low high → IsCover (join (labelled label n.route.hop n.entry.hop) (rows_of label low) (rows_of label high)) (cover_of label n)
stored_cover Route n low high c = c.routes
stored_cover Entry n low high c = c.entries

pub tree_long : (d : ℕ) (cells : List Node) (name : ℕ → Owner) (i : ℕ) (p : List Bool) → IsTree d cells name i p → i < length cells
unfolding IsTree
tree_long zero cells name i p t = absurd t
tree_long (suc d) cells name i p t = t.1

-- a node whose covers serve still
kept_told : (label : Label) (n : Node) (low high : Walks) → IsCover (join (labelled label n.route.hop n.entry.hop) (rows_of label low) (rows_of label high)) (cover_of label n) →
    Retold label (labelled label n.route.hop n.entry.hop) n.route n.entry n.route n.entry low high
kept_told Route n low high c = (refl, c, refl)
kept_told Entry n low high c = (refl, c, refl)

module _ (label : Label) (q left : ℕ) (hop : Option ℕ) (old : List Node) (i : ℕ) (n : Node) (at : n ≡ cell_at old i) where
  pub set_here : (new : List Node) (n' : Node) (d : ℕ) (name : ℕ → Owner) (p : List Bool) → left ≡ 0 →
      n' ≡ retold label hop (cover_at old label (half_place n false)) (cover_at old label (half_place n true)) n → new ≡ slice_set old i n' →
      IsTree d old name i p → IsSet d label (bits_of left q) hop old new name i p
  unfolding walks_at IsTree
  set_here new n' zero name p z r s t = absurd t
  set_here new n' (suc d) name p z r s t =
      let f = walks_at d old in
      let low = from_half f (half_place n false) in
      let high = from_half f (half_place n true) in
      let cl = cover_at old label (half_place n false) in
      let ch = cover_at old label (half_place n true) in
      let m = retold label hop cl ch n in
      let k : IsNode f (λ b j. IsTree d old name j (p ++ (b ∷ []))) n = subst (λ (x : Node). IsNode f (λ b j. IsTree d old name j (p ++ (b ∷ []))) x) (sym at) t.2 in
      let told : Retold label hop n.route n.entry m.route m.entry low high = retold_is label hop cl ch n low high (cover_half label d old name (p ++ (false ∷ [])) (half_place n false) (k.halves false)) (cover_half label d old name (p ++ (true ∷ [])) (half_place n true) (k.halves true)) in
      let g = renode label hop cl ch n f (λ b j. IsTree d old name j (p ++ (b ∷ []))) (told_covers_here label hop n.route n.entry m.route m.entry low high k.covers told) k.halves in
      let x = placed d old i m name p t.0 t.1 g.1 in
      let e : new ≡ slice_set old i m = s ∙ ap (slice_set old i) r in
      subst (λ (y : List Node). IsSet (suc d) label (bits_of left q) hop old y name i p) (sym e) (record {
        walks = x.0 ∙ g.0 ∙ told_here label hop n.route n.entry m.route m.entry low high (walks_by f (cell_at old i)) left q z (ap (walks_by f) at) told;
        tree = x.1;
        keeps = put_keeps old old i m name p t.0 refl (λ j h. refl);
      })

  -- a half isn't a node: there is nothing to take away
  pub set_none : (b : Bool) (d : ℕ) (name : ℕ → Owner) (p : List Bool) → left ≢ 0 → b ≡ nat_eq (bit_at q (left - 1)) 1 → half_place n b ≡ None →
      IsTree d old name i p → CanEdit (bits_of left q) hop (walks_at d old i).nodes → IsSet d label (bits_of left q) hop old old name i p
  unfolding walks_at IsTree
  set_none b zero name p z k e t a = absurd t
  set_none b (suc d) name p z k e t a =
      let f = walks_at d old in
      let low = from_half f (half_place n false) in
      let high = from_half f (half_place n true) in
      let w : walks_by f n ≡ walks_by f (cell_at old i) = ap (walks_by f) at in
      let P : Bool → Type 0 = λ x. x ≡ nat_eq (bit_at q (left - 1)) 1 → half_place n x ≡ None → walks_by f (cell_at old i) ≡ edited label (bits_of left q) hop (walks_by f (cell_at old i)) in
      let none : (x : Bool) → half_place n x ≡ None → CanEdit (bits_of (left - 1) q) hop (from_half f (half_place n x)).nodes → from_half f (half_place n x) ≡ edited label (bits_of (left - 1) q) hop (from_half f (half_place n x)) =
      λ x y v. subst (λ (o : Option ℕ). from_half f o ≡ edited label (bits_of (left - 1) q) hop (from_half f o)) (sym y) (edited_nothing label hop (bits_of (left - 1) q) (subst (λ (o : Option ℕ). CanEdit (bits_of (left - 1) q) hop (from_half f o).nodes) y v)) in
      record {
        walks = (elim b as P [
          | true ↦ λ x y. sym w ∙ assign_high label hop n.route.hop n.entry.hop low high _ high left q z x w (none true y (allowed_high hop n.route.hop n.entry.hop low high _ left q z x w a))
          | false ↦ λ x y. sym w ∙ assign_low label hop n.route.hop n.entry.hop low high _ low left q z x w (none false y (allowed_low hop n.route.hop n.entry.hop low high _ left q z x w a))
        ]) k e;
        tree = t;
        keeps = record { long = refl; same = λ j h. refl };
      }

  -- the other half keeps what it stands for
  other_half : (b c : Bool) (mid : List Node) (d : ℕ) (name : ℕ → Owner) (p : List Bool) → ((r : List Bool) → begins (p ++ (b ∷ [])) r ≡ true → begins (p ++ (c ∷ [])) r ≡ true → ⊥) → ChangesBelow (p ++ (b ∷ [])) old mid name → IfHalf (λ j. IsTree d old name j (p ++ (c ∷ []))) (half_place n c) →
      (from_half (walks_at d mid) (half_place n c) ≡ from_half (walks_at d old) (half_place n c)) × IfHalf (λ j. IsTree d mid name j (p ++ (c ∷ []))) (half_place n c)
  other_half b c mid d name p apart k t =
      let car : Carries (p ++ (c ∷ [])) old mid name name = record { long = omega (arith, k.long); same = λ j r f h. (k.same j (ap (is_below (p ++ (b ∷ []))) f ∙ not_true (begins (p ++ (b ∷ [])) r) (λ e. apart r e h)), f) } in
      half_carried d old mid name name (p ++ (c ∷ [])) (half_place n c) (λ j s. carry d old mid name name j (p ++ (c ∷ [])) car s) t

  the_half : (b : Bool) (j : ℕ) (mid : List Node) (d : ℕ) (name : ℕ → Owner) (p : List Bool) (r : List Bool) → half_place n b ≡ Some j → IsSet d label r hop old mid name j (p ++ (b ∷ [])) →
      (from_half (walks_at d mid) (half_place n b) ≡ edited label r hop (from_half (walks_at d old) (half_place n b))) × IfHalf (λ j. IsTree d mid name j (p ++ (b ∷ []))) (half_place n b)
  the_half b j mid d name p r e s = (
    ap (from_half (walks_at d mid)) e ∙ s.walks ∙ sym (ap (λ o. edited label r hop (from_half (walks_at d old) o)) e),
    subst (λ (o : Option ℕ). IfHalf (λ j. IsTree d mid name j (p ++ (b ∷ []))) o) (sym e) s.tree,
  )

  -- the half beside the way has the cover that it had
  other_cover : (b c : Bool) (mid : List Node) (d : ℕ) (name : ℕ → Owner) (p : List Bool) → ((r : List Bool) → begins (p ++ (b ∷ [])) r ≡ true → begins (p ++ (c ∷ [])) r ≡ true → ⊥) → ChangesBelow (p ++ (b ∷ [])) old mid name →
      (o : Option ℕ) → IfHalf (λ j. IsTree d old name j (p ++ (c ∷ []))) o → cover_at mid label o ≡ cover_at old label o
  other_cover b c mid d name p apart k None t = refl
  other_cover b c mid d name p apart k (Some j) t =
      ap (cover_of label) (k.same j (ap (is_below (p ++ (b ∷ []))) (tree_named d old name j (p ++ (c ∷ [])) t) ∙ not_true (begins (p ++ (b ∷ [])) (p ++ (c ∷ []))) (λ e. apart (p ++ (c ∷ [])) e (begins_self (p ++ (c ∷ []))))))

  -- the half on the way has the cover that it had: so has the node, and it stays
  pub set_stop : (mid : List Node) (b : Bool) (k : ℕ) (d : ℕ) (name : ℕ → Owner) (p : List Bool) → left ≢ 0 → b ≡ nat_eq (bit_at q (left - 1)) 1 → half_place n b ≡ Some k →
      ((e : ℕ) (v : List Bool) → suc e ≡ d → left - 1 < e → IsTree e old name k v → CanEdit (bits_of (left - 1) q) hop (walks_at e old k).nodes → IsSet e label (bits_of (left - 1) q) hop old mid name k v × (cover_of label (cell_at mid k) ≡ cover_of label (cell_at old k))) →
      left < d → IsTree d old name i p → CanEdit (bits_of left q) hop (walks_at d old i).nodes → IsSet d label (bits_of left q) hop old mid name i p × (cover_of label (cell_at mid i) ≡ cover_of label (cell_at old i))
  unfolding walks_at IsTree
  set_stop mid b k zero name p z y e below l t a = absurd t
  set_stop mid b k (suc d) name p z y e below l t a =
      let f = walks_at d old in
      let g = walks_at d mid in
      let low = from_half f (half_place n false) in
      let high = from_half f (half_place n true) in
      let low' = from_half g (half_place n false) in
      let high' = from_half g (half_place n true) in
      let own = labelled label n.route.hop n.entry.hop in
      let cl = cover_at old label (half_place n false) in
      let ch = cover_at old label (half_place n true) in
      let w : walks_by f n ≡ walks_by f (cell_at old i) = ap (walks_by f) at in
      let kn : IsNode f (λ b j. IsTree d old name j (p ++ (b ∷ []))) n = subst (λ (x : Node). IsNode f (λ b j. IsTree d old name j (p ++ (b ∷ []))) x) (sym at) t.2 in
      let there : (x : Bool) → half_place n x ≡ Some k → CanEdit (bits_of (left - 1) q) hop (from_half f (half_place n x)).nodes → IsSet d label (bits_of (left - 1) q) hop old mid name k (p ++ (x ∷ [])) × (cover_of label (cell_at mid k) ≡ cover_of label (cell_at old k)) =
      λ x h v. below d (p ++ (x ∷ [])) refl (omega arith) (subst (λ (o : Option ℕ). IfHalf (λ j. IsTree d old name j (p ++ (x ∷ []))) o) h (kn.halves x)) (subst (λ (o : Option ℕ). CanEdit (bits_of (left - 1) q) hop (from_half f o).nodes) h v) in
      let is : cover_of label n ≡ covered own cl ch =
      one_cover (join own (rows_of label low) (rows_of label high)) (cover_of label n) (covered own cl ch) (stored_cover label n low high kn.covers)
      (cover_level own (rows_of label low) (rows_of label high) cl ch (cover_half label d old name (p ++ (false ∷ [])) (half_place n false) (kn.halves false)) (cover_half label d old name (p ++ (true ∷ [])) (half_place n true) (kn.halves true))) in
      let told : cover_at mid label (half_place n false) ≡ cl → cover_at mid label (half_place n true) ≡ ch → ((x : Bool) → IfHalf (λ j. IsTree d mid name j (p ++ (x ∷ []))) (half_place n x)) → Retold label own n.route n.entry n.route n.entry low' high' =
      λ u v h. kept_told label n low' high' (subst (λ (x : Cover). IsCover (join own (rows_of label low') (rows_of label high')) x)
      (ap (λ x. covered own x (cover_at mid label (half_place n true))) u ∙ (ap (covered own cl) v ∙ sym is))
      (cover_level own (rows_of label low') (rows_of label high') (cover_at mid label (half_place n false)) (cover_at mid label (half_place n true)) (cover_half label d mid name (p ++ (false ∷ [])) (half_place n false) (h false)) (cover_half label d mid name (p ++ (true ∷ [])) (half_place n true) (h true)))) in
      let same : (x : Bool) → ChangesBelow (p ++ (x ∷ [])) old mid name → cell_at mid i ≡ cell_at old i = λ x c. c.same i (ap (is_below (p ++ (x ∷ []))) t.0 ∙ begins_self_not p x) in
      let done : (x : Bool) → ChangesBelow (p ++ (x ∷ [])) old mid name → AreCovers n.route n.entry low' high' → ((x : Bool) → IfHalf (λ j. IsTree d mid name j (p ++ (x ∷ []))) (half_place n x)) → walks_of n.route.hop n.entry.hop low' high' ≡ edited label (bits_of left q) hop (walks_by f (cell_at old i)) →
      IsSet (suc d) label (bits_of left q) hop old mid name i p × (cover_of label (cell_at mid i) ≡ cover_of label (cell_at old i)) =
      λ x c v h u. (
        record {
          walks = ap (walks_by g) (same x c ∙ sym at) ∙ u;
          tree = (
            t.0,
            omega (arith, c.long, t.1),
            subst (λ (y : Node). IsNode g (λ b j. IsTree d mid name j (p ++ (b ∷ []))) y) (at ∙ sym (same x c))
                (record { covers = v; halves = h }),
          );
          keeps = record { long = c.long; same = λ j r. c.same j (is_in_deeper p x (name j) r) };
        },
        ap (cover_of label) (same x c),
      ) in
      let P : Bool → Type 0 = λ x. x ≡ nat_eq (bit_at q (left - 1)) 1 → half_place n x ≡ Some k → IsSet (suc d) label (bits_of left q) hop old mid name i p × (cover_of label (cell_at mid i) ≡ cover_of label (cell_at old i)) in
      (elim b as P [
        | true ↦ λ x h.
            let c = there true h (allowed_high hop n.route.hop n.entry.hop low high _ left q z x w a) in
            let mine = the_half true k mid d name p (bits_of (left - 1) q) h c.0 in
            let rest = other_half true false mid d name p (λ v u o. begins_other p v u o) c.0.keeps (kn.halves false) in
            let halves : (x : Bool) → IfHalf (λ j. IsTree d mid name j (p ++ (x ∷ []))) (half_place n x) = λ x. elim x as (λ x. IfHalf (λ j. IsTree d mid name j (p ++ (x ∷ []))) (half_place n x)) [ true ↦ mine.1 | false ↦ rest.1 ] in
            let v = told (other_cover true false mid d name p (λ v u o. begins_other p v u o) c.0.keeps (half_place n false) (kn.halves false)) (ap (cover_at mid label) h ∙ (c.1 ∙ sym (ap (cover_at old label) h))) halves in
            done true c.0.keeps (told_covers_high (bits_of (left - 1) q) hop label own n.route n.entry n.route n.entry low' high high' (subst (λ (u : Walks). AreCovers n.route n.entry u high) (sym rest.0) kn.covers) mine.0 v) halves
            (told_high label hop own n.route n.entry n.route n.entry low' high _ high' left q z x (ap (λ u. walks_of n.route.hop n.entry.hop u high) rest.0 ∙ w) refl mine.0 v)
        | false ↦ λ x h.
            let c = there false h (allowed_low hop n.route.hop n.entry.hop low high _ left q z x w a) in
            let mine = the_half false k mid d name p (bits_of (left - 1) q) h c.0 in
            let rest = other_half false true mid d name p (λ v u o. begins_other p v o u) c.0.keeps (kn.halves true) in
            let halves : (x : Bool) → IfHalf (λ j. IsTree d mid name j (p ++ (x ∷ []))) (half_place n x) = λ x. elim x as (λ x. IfHalf (λ j. IsTree d mid name j (p ++ (x ∷ []))) (half_place n x)) [ true ↦ rest.1 | false ↦ mine.1 ] in
            let v = told (ap (cover_at mid label) h ∙ (c.1 ∙ sym (ap (cover_at old label) h))) (other_cover false true mid d name p (λ v u o. begins_other p v o u) c.0.keeps (half_place n true) (kn.halves true)) halves in
            done false c.0.keeps (told_covers (bits_of (left - 1) q) hop label own n.route n.entry n.route n.entry low low' high high' kn.covers mine.0 rest.0 v) halves
            (told_low label hop own n.route n.entry n.route n.entry low high' _ low' left q z x (ap (λ u. walks_of n.route.hop n.entry.hop low u) rest.0 ∙ w) refl mine.0 v)
      ]) y e

  module _ (own : Option ℕ) (mid new : List Node) (n' : Node) (own_is : own ≡ labelled label n.route.hop n.entry.hop)
      (r : n' ≡ retold label own (cover_at mid label (half_place n false)) (cover_at mid label (half_place n true)) n) (s : new ≡ slice_set mid i n') where
    set_after : (d : ℕ) (name : ℕ → Owner) (p : List Bool) → name i ≡ At p → i < length mid →
        ((b : Bool) → IfHalf (λ j. IsTree d mid name j (p ++ (b ∷ []))) (half_place n b)) →
        (let m = retold label own (cover_at mid label (half_place n false)) (cover_at mid label (half_place n true)) n in
        let low = from_half (walks_at d mid) (half_place n false) in
        let high = from_half (walks_at d mid) (half_place n true) in
        (Retold label own n.route n.entry m.route m.entry low high → AreCovers m.route m.entry low high) →
        Retold label own n.route n.entry m.route m.entry low high
        × (walks_at (suc d) new i ≡ walks_of m.route.hop m.entry.hop low high)
        × IsTree (suc d) new name i p)
    set_after d name p f l h c =
        let low = from_half (walks_at d mid) (half_place n false) in
        let high = from_half (walks_at d mid) (half_place n true) in
        let cl = cover_at mid label (half_place n false) in
        let ch = cover_at mid label (half_place n true) in
        let m = retold label own cl ch n in
        let told : Retold label own n.route n.entry m.route m.entry low high = retold_is label own cl ch n low high (cover_half label d mid name (p ++ (false ∷ [])) (half_place n false) (h false)) (cover_half label d mid name (p ++ (true ∷ [])) (half_place n true) (h true)) in
        let g = renode label own cl ch n (walks_at d mid) (λ b j. IsTree d mid name j (p ++ (b ∷ []))) (c told) h in
        let x = placed d mid i m name p f l g.1 in
        let e : new ≡ slice_set mid i m = s ∙ ap (slice_set mid i) r in
        (told, ap (λ y. walks_at (suc d) y i) e ∙ x.0 ∙ g.0, subst (λ (y : List Node). IsTree (suc d) y name i p) (sym e) x.1)

    pub set_below : (b : Bool) (k : ℕ) (d : ℕ) (name : ℕ → Owner) (p : List Bool) → left ≢ 0 → b ≡ nat_eq (bit_at q (left - 1)) 1 → half_place n b ≡ Some k →
        ((e : ℕ) (v : List Bool) → suc e ≡ d → left - 1 < e → IsTree e old name k v → CanEdit (bits_of (left - 1) q) hop (walks_at e old k).nodes → IsSet e label (bits_of (left - 1) q) hop old mid name k v) →
        left < d → IsTree d old name i p → CanEdit (bits_of left q) hop (walks_at d old i).nodes → IsSet d label (bits_of left q) hop old new name i p
    unfolding walks_at IsTree
    set_below b k zero name p z y e below l t a = absurd t
    set_below b k (suc d) name p z y e below l t a =
        let f = walks_at d old in
        let g = walks_at d mid in
        let low = from_half f (half_place n false) in
        let high = from_half f (half_place n true) in
        let cl = cover_at mid label (half_place n false) in
        let ch = cover_at mid label (half_place n true) in
        let m = retold label own cl ch n in
        let w : walks_by f n ≡ walks_by f (cell_at old i) = ap (walks_by f) at in
        let kn : IsNode f (λ b j. IsTree d old name j (p ++ (b ∷ []))) n = subst (λ (x : Node). IsNode f (λ b j. IsTree d old name j (p ++ (b ∷ []))) x) (sym at) t.2 in
        let there : (x : Bool) → half_place n x ≡ Some k → CanEdit (bits_of (left - 1) q) hop (from_half f (half_place n x)).nodes → IsSet d label (bits_of (left - 1) q) hop old mid name k (p ++ (x ∷ [])) =
        λ x h v. below d (p ++ (x ∷ [])) refl (omega arith) (subst (λ (o : Option ℕ). IfHalf (λ j. IsTree d old name j (p ++ (x ∷ []))) o) h (kn.halves x)) (subst (λ (o : Option ℕ). CanEdit (bits_of (left - 1) q) hop (from_half f o).nodes) h v) in
        let done : (x : Bool) → ChangesBelow (p ++ (x ∷ [])) old mid name → walks_at (suc d) new i ≡ edited label (bits_of left q) hop (walks_by f (cell_at old i)) → IsTree (suc d) new name i p → IsSet (suc d) label (bits_of left q) hop old new name i p =
        λ x c v u. record {
          walks = v;
          tree = u;
          keeps = subst (λ (o : List Node). ChangesBelow p old o name) (sym s) (put_keeps old mid i n' name p t.0 c.long (λ j h. c.same j (is_in_deeper p x (name j) h)));
        } in
        let P : Bool → Type 0 = λ x. x ≡ nat_eq (bit_at q (left - 1)) 1 → half_place n x ≡ Some k → IsSet (suc d) label (bits_of left q) hop old new name i p in
        (elim b as P [
          | true ↦ λ x h.
              let c = there true h (allowed_high hop n.route.hop n.entry.hop low high _ left q z x w a) in
              let mine = the_half true k mid d name p (bits_of (left - 1) q) h c in
              let rest = other_half true false mid d name p (λ v u o. begins_other p v u o) c.keeps (kn.halves false) in
              let after = from_half g (half_place n true) in
              let v = set_after d name p t.0 (omega (arith, c.keeps.long, t.1)) (λ x. elim x as (λ x. IfHalf (λ j. IsTree d mid name j (p ++ (x ∷ []))) (half_place n x)) [ true ↦ mine.1 | false ↦ rest.1 ])
              (λ told. told_covers_high (bits_of (left - 1) q) hop label own n.route n.entry m.route m.entry (from_half g (half_place n false)) high after (subst (λ (u : Walks). AreCovers n.route n.entry u high) (sym rest.0) kn.covers) mine.0 told) in
              done true c.keeps (v.1 ∙ told_high label hop own n.route n.entry m.route m.entry (from_half g (half_place n false)) high _ after left q z x (ap (λ u. walks_of n.route.hop n.entry.hop u high) rest.0 ∙ w) own_is mine.0 v.0) v.2
          | false ↦ λ x h.
              let c = there false h (allowed_low hop n.route.hop n.entry.hop low high _ left q z x w a) in
              let mine = the_half false k mid d name p (bits_of (left - 1) q) h c in
              let rest = other_half false true mid d name p (λ v u o. begins_other p v o u) c.keeps (kn.halves true) in
              let after = from_half g (half_place n false) in
              let v = set_after d name p t.0 (omega (arith, c.keeps.long, t.1)) (λ x. elim x as (λ x. IfHalf (λ j. IsTree d mid name j (p ++ (x ∷ []))) (half_place n x)) [ true ↦ rest.1 | false ↦ mine.1 ])
              (λ told. told_covers (bits_of (left - 1) q) hop label own n.route n.entry m.route m.entry low after high (from_half g (half_place n true)) kn.covers mine.0 rest.0 told) in
              done false c.keeps (v.1 ∙ told_low label hop own n.route n.entry m.route m.entry low (from_half g (half_place n true)) _ after left q z x (ap (λ u. walks_of n.route.hop n.entry.hop low u) rest.0 ∙ w) own_is mine.0 v.0) v.2
        ]) y e

-- a node that was put has the cover that it was given
pub renewed : (label : Label) (old mid new : List Node) (i : ℕ) (n m : Node) → n ≡ cell_at old i → i < length mid → new ≡ slice_set mid i m → cover_of label m ≡ cover_of label n → cover_of label (cell_at new i) ≡ cover_of label (cell_at old i)
renewed label old mid new i n m at l s e = ap (cover_of label) (ap (λ (cs : List Node). cell_at cs i) s ∙ get_or-set_same mid i m blank_cell l) ∙ (e ∙ ap (cover_of label) at)
