-- A label is set at a path where nodes are made down to it, in one walk.
use Rattle.std.proofs.Common.{◌≡◌, ◌≢◌, ℕ, zero, suc, ◌-◌, ◌<◌, ◌≤◌, List, [], ◌∷◌, ◌++◌, Bool, true, false, refl, sym, ap, ◌∙◌, subst, arith, Option, Some, None, nat_eq, slice_set}
use Rattle.std.specs.Int.{bit_at}
use Rattle.std.specs.Option.{unwrap_or}
use Rattle.table_model.specs.Bits.{bits_of}
use Rattle.table_model.specs.Table.{lpm}
use Rattle.orig_tree.specs.Edits.{edit}
use Rattle.orig_tree.specs.Walk.{Walks, CanEdit, labelled, has_node, edited}
use Rattle.table_model.specs.Width.{width}
use Rattle.table_model.specs.declared.family.Family.{Family}
use Rattle.orig_tree.specs.Arena.{whole, IsArena, Owner, At, cell_at, half_place, from_half, walks_at, IsTree, HasSpares, IsSet, IsSplit, HalvesStay, is_below, ChangesBelow, cover_at, cover_of, retold}
use Rattle.orig_tree.specs.Bests.{IsRegionBest, AreBest, IsLaid, KeepsBest, laid}
use Rattle.orig_tree.specs.Placed.{Climbs, IsPlaced, route_set, told_again}
use Rattle.orig_tree.specs.declared.node.Node.{Node}
use Rattle.orig_tree.specs.declared.node.Label.{Label}
use Rattle.orig_tree.specs.declared.node.Label.TheVariants.{Entry}
use Rattle.orig_tree.specs.declared.best.Best.{Best}
use Rattle.orig_tree.proofs.Arena.{set_here, set_below, set_stop, renewed, tree_long, begins_self_not}
use Rattle.orig_tree.proofs.Rooms.{room_end, room_below, roomier_same, split_room}
use Rattle.orig_tree.proofs.Roots.{set_at}
use Rattle.orig_tree.proofs.Steps.{allowed_high, allowed_low}
use Rattle.orig_tree.proofs.Standing.{best_same, best_stay, best_alike}
use Rattle.orig_tree.proofs.Halving.{halves_same, halves_after, halves_retold}
use Rattle.orig_tree.proofs.Growing.{laid_answers, grown_end, grown_at, split_grown, tree_side}

pub placed_end : (label : Label) (left q hop : ℕ) (n m : Node) (old new : List Node) (free i d c : ℕ) (name : ℕ → Owner) (p : List Bool) (f : List Bool → ℕ) (S : ℕ → Best) (more : Bool) → n ≡ cell_at old i → left ≡ 0 →
    m ≡ retold label (Some hop) (cover_at old label (half_place n false)) (cover_at old label (half_place n true)) n → new ≡ slice_set old i m → (more ≡ false → cover_of label m ≡ cover_of label n) →
    left < d → IsTree d old name i p → HasSpares old free name c → IsPlaced d label (bits_of left q) hop old new free name i p f S S more
placed_end label left q hop n m old new free i d c name p f S more at z r s same l t h = record {
  middle = old;
  room = room_end old free i left q d name c p z l t h;
  set = λ name1 v u. (set_here label q left (Some hop) old i n at new m d name1 v z r s u, λ e. renewed label old old new i n m at (tree_long d old name i p t) s (same e));
  stay = halves_retold old old new i label (Some hop) _ _ n m at r s (halves_same old);
  grown = λ k. grown_end d old name i p f S k;
}

-- the node's halves stay where its cover is told again
pub climb_halves : (label : Label) (old new : List Node) (i : ℕ) (changed more : Bool) → Climbs label changed more old new i → HalvesStay old new
climb_halves label old new i false more (e, g) = subst (λ (cs : List Node). HalvesStay old cs) (sym e) (halves_same old)
climb_halves label old new i true more (e, g) = halves_retold old old new i label _ _ _ (cell_at old i) (told_again label old (cell_at old i)) refl refl e (halves_same old)

-- what may be set at the node's path may be set below the half
pub may_below : (hop : Option ℕ) (cells : List Node) (i j left q : ℕ) (b : Bool) (d : ℕ) → left ≢ 0 → b ≡ nat_eq (bit_at q (left - 1)) 1 → half_place (cell_at cells i) b ≡ Some j →
    CanEdit (bits_of left q) hop (walks_at (suc d) cells i).nodes → CanEdit (bits_of (left - 1) q) hop (walks_at d cells j).nodes
unfolding walks_at
may_below hop cells i j left q b d z bit half a =
    let f = walks_at d cells in
    let n = cell_at cells i in
    let low = from_half f (half_place n false) in
    let high = from_half f (half_place n true) in
    let P : Bool → Type 0 = λ x. x ≡ nat_eq (bit_at q (left - 1)) 1 → half_place n x ≡ Some j → CanEdit (bits_of (left - 1) q) hop (f j).nodes in
    (elim b as P [
      | true ↦ λ x h. subst (λ (o : Option ℕ). CanEdit (bits_of (left - 1) q) hop (from_half f o).nodes) h (allowed_high hop n.route.hop n.entry.hop low high _ left q z x refl a)
      | false ↦ λ x h. subst (λ (o : Option ℕ). CanEdit (bits_of (left - 1) q) hop (from_half f o).nodes) h (allowed_low hop n.route.hop n.entry.hop low high _ left q z x refl a)
    ]) bit half

-- the label is set below the half, and the node's cover is told again where the half's has changed
climbed : (label : Label) (q left : ℕ) (hop : Option ℕ) (mid below new : List Node) (i j : ℕ) (b changed more : Bool) (d : ℕ) (name : ℕ → Owner) (p : List Bool) →
    left ≢ 0 → b ≡ nat_eq (bit_at q (left - 1)) 1 → half_place (cell_at mid i) b ≡ Some j → left < suc d → IsTree (suc d) mid name i p → CanEdit (bits_of left q) hop (walks_at (suc d) mid i).nodes →
    ((v : List Bool) → IsTree d mid name j v → IsSet d label (bits_of (left - 1) q) hop mid below name j v × (changed ≡ false → cover_of label (cell_at below j) ≡ cover_of label (cell_at mid j))) →
    Climbs label changed more below new i → IsSet (suc d) label (bits_of left q) hop mid new name i p × (more ≡ false → cover_of label (cell_at new i) ≡ cover_of label (cell_at mid i))
unfolding IsTree
climbed label q left hop mid below new i j b false more d name p z bit half l t there f (e, g) =
    let s = set_stop label q left hop mid i (cell_at mid i) refl below b j (suc d) name p z bit half
    (λ e v is m u a. subst (λ (x : ℕ). IsTree x mid name j v → IsSet x label (bits_of (left - 1) q) hop mid below name j v × (cover_of label (cell_at below j) ≡ cover_of label (cell_at mid j))) (omega (arith, is)) (λ w. let y = f v w in (y.0, y.1 refl)) u) l t there in
    subst (λ (cs : List Node). IsSet (suc d) label (bits_of left q) hop mid cs name i p × (more ≡ false → cover_of label (cell_at cs i) ≡ cover_of label (cell_at mid i))) (sym e) (s.0, λ w. s.1)
climbed label q left hop mid below new i j b true more d name p z bit half l t there f (e, g) =
    let n = cell_at mid i in
    let keeps : ChangesBelow (p ++ (b ∷ [])) mid below name = (f (p ++ (b ∷ [])) (tree_side d mid name i j p b half t)).0.keeps in
    let same : cell_at below i ≡ n = keeps.same i (ap (is_below (p ++ (b ∷ []))) t.0 ∙ begins_self_not p b) in
    let put : new ≡ slice_set below i (told_again label below n) = e ∙ ap (λ x. slice_set below i (told_again label below x)) same in (
      set_below label q left hop mid i n refl (labelled label n.route.hop n.entry.hop) below new (told_again label below n) refl refl put b j (suc d) name p z bit half
          (λ e v is m u a. subst (λ (x : ℕ). IsTree x mid name j v → IsSet x label (bits_of (left - 1) q) hop mid below name j v) (omega (arith, is)) (λ w. (f v w).0) u) l t there,
      λ w. renewed label mid below new i n (told_again label below n) refl (omega (arith, keeps.long, t.1)) put
          (ap (λ x. cover_of label (told_again label below x)) (sym same) ∙ (g w ∙ ap (cover_of label) same)),
    )

-- the same at any depth, if what holds below the half is known where the label may be set there
pub set_climbed : (label : Label) (q left : ℕ) (hop : Option ℕ) (mid below new : List Node) (i j : ℕ) (b changed more : Bool) (d : ℕ) (name : ℕ → Owner) (p : List Bool) →
    left ≢ 0 → b ≡ nat_eq (bit_at q (left - 1)) 1 → half_place (cell_at mid i) b ≡ Some j → left < d → IsTree d mid name i p → CanEdit (bits_of left q) hop (walks_at d mid i).nodes →
    ((e : ℕ) (v : List Bool) → left - 1 < e → IsTree e mid name j v → CanEdit (bits_of (left - 1) q) hop (walks_at e mid j).nodes → IsSet e label (bits_of (left - 1) q) hop mid below name j v × (changed ≡ false → cover_of label (cell_at below j) ≡ cover_of label (cell_at mid j))) →
    Climbs label changed more below new i → IsSet d label (bits_of left q) hop mid new name i p × (more ≡ false → cover_of label (cell_at new i) ≡ cover_of label (cell_at mid i))
unfolding IsTree
set_climbed label q left hop mid below new i j b changed more zero name p z bit half l t there f climbs = absurd t
set_climbed label q left hop mid below new i j b changed more (suc d) name p z bit half l t there f climbs =
    climbed label q left hop mid below new i j b changed more d name p z bit half l t there (λ v u. f d v (omega (arith, l, z)) u (may_below hop mid i j left q b d z bit half there)) climbs

pub placed_some : (label : Label) (left q h low hop : ℕ) (b changed more : Bool) (set : Option ℕ) (n : Node) (old below new : List Node) (free free' i j d c : ℕ) (o : Option ℕ) (name : ℕ → Owner) (p : List Bool) (S S' : ℕ → Best) →
    n ≡ cell_at old i → left ≢ 0 → b ≡ nat_eq (bit_at q (left - 1)) 1 → low ≡ unwrap_or n.route.hop h → o ≡ half_place n b → o ≡ Some j → left < d → IsTree d old name i p → HasSpares old free name c →
    ((e : ℕ) (name1 : ℕ → Owner) (k : ℕ) (v : List Bool) → left - 1 < e → IsTree e old name1 j v → HasSpares old free name1 k → IsPlaced e label (bits_of (left - 1) q) hop old below free' name1 j v (laid_answers set (bits_of (left - 1) q) low (walks_at e old j)) S S' changed) →
    Climbs label changed more below new i → IsPlaced d label (bits_of left q) hop old new free' name i p (laid_answers set (bits_of left q) h (walks_at d old i)) S S' more
unfolding IsTree
placed_some label left q h low hop b changed more set n old below new free free' i j zero c o name p S S' at z bit low_is o_is some l t held f climbs = absurd t
placed_some label left q h low hop b changed more set n old below new free free' i j (suc d) c o name p S S' at z bit low_is o_is some l t held f climbs =
    let is : half_place (cell_at old i) b ≡ Some j = ap (λ x. half_place x b) (sym at) ∙ sym o_is ∙ some in
    let y = f d name c (p ++ (b ∷ [])) (omega (arith, l, z)) (tree_side d old name i j p b is t) held in
    let room = room_below old y.middle free' i j left q d name p b z bit is t y.room in
    let half : half_place (cell_at y.middle i) b ≡ Some j = ap (λ x. half_place x b) (y.room.keeps.same i p t.0 (begins_self_not p b)).0 ∙ is in
    record {
      middle = y.middle;
      room = room;
      set = λ name1 v u. climbed label q left (Some hop) y.middle below new i j b changed more d name1 v z bit half l u room.there (λ w x. y.set name1 w x) climbs;
      stay = halves_after y.middle below new y.stay (climb_halves label below new i changed more climbs);
      grown = λ k. grown_at left q h low b set n old i at z bit low_is y.middle free' j d name p S S' is t y.room y.grown k;
    }

pub placed_none : (label : Label) (left q h low hop : ℕ) (b changed more : Bool) (set : Option ℕ) (n : Node) (old mid below new : List Node) (free1 free' i j d : ℕ) (name : ℕ → Owner) (p : List Bool) (S S1 S' : ℕ → Best) (x : Best) →
    n ≡ cell_at old i → left ≢ 0 → b ≡ nat_eq (bit_at q (left - 1)) 1 → low ≡ unwrap_or n.route.hop h → half_place n b ≡ None → left < d → IsTree d old name i p →
    IsSplit d b old mid free1 name i p j → ((k : ℕ) (r : List Bool) → name k ≡ At r → k ≢ j → S1 k ≡ S k) → S1 j ≡ x → ((e q : ℕ) → left - 1 ≤ e → IsRegionBest e (λ a. lpm (edit (bits_of (left - 1) q) set []) a low) x) →
    ((e : ℕ) (name1 : ℕ → Owner) (k : ℕ) (v : List Bool) → left - 1 < e → IsTree e mid name1 j v → HasSpares mid free1 name1 k → IsPlaced e label (bits_of (left - 1) q) hop mid below free' name1 j v (laid_answers set (bits_of (left - 1) q) low (walks_at e mid j)) S1 S' changed) →
    Climbs label changed more below new i → IsPlaced d label (bits_of left q) hop old new free' name i p (laid_answers set (bits_of left q) h (walks_at d old i)) S S' more
placed_none label left q h low hop b changed more set n old mid below new free1 free' i j d name p S S1 S' x at z bit low_is gone l t s same here fr f climbs =
    let at_mid : low ≡ unwrap_or (cell_at mid i).route.hop h = (split_grown left q h low b set n old mid mid free1 i j d name p S S1 S1 x at z bit low_is gone l t s same here fr).0 in
    let y = placed_some label left q h low hop b changed more set (cell_at mid i) mid below new free1 free' i j d s.spares (half_place (cell_at mid i) b) s.name' p S1 S' refl z bit at_mid refl s.half l s.tree s.held f climbs in
    record {
      middle = y.middle;
      room = split_room old mid y.middle free1 free' i j left q d name p b z bit s y.room;
      set = y.set;
      stay = y.stay;
      grown = λ k. (split_grown left q h low b set n old mid y.middle free1 i j d name p S S1 S' x at z bit low_is gone l t s same here fr).1 y.grown k;
    }

-- the spare places begin where they did
pub placed_free : (d : ℕ) (label : Label) (q : List Bool) (hop : ℕ) (old new : List Node) (free free' : ℕ) (name : ℕ → Owner) (i : ℕ) (p : List Bool) (f : List Bool → ℕ) (S S1 S' : ℕ → Best) (more : Bool) → free' ≡ free → S' ≡ S1 →
    IsPlaced d label q hop old new free name i p f S S1 more → IsPlaced d label q hop old new free' name i p f S S' more
placed_free d label q hop old new free free' name i p f S S1 S' more e k y =
    subst (λ (x : ℕ). IsPlaced d label q hop old new x name i p f S S' more) (sym e) (subst (λ (K : ℕ → Best). IsPlaced d label q hop old new free name i p f S K more) (sym k) y)

-- what was reserved is what there was
pub placed_same : (d : ℕ) (label : Label) (q : List Bool) (h hop : ℕ) (set : Option ℕ) (old mid new : List Node) (free free1 free' : ℕ) (name : ℕ → Owner) (i c : ℕ) (p : List Bool) (S S1 S' : ℕ → Best) (more : Bool) → mid ≡ old → free1 ≡ free → ((j : ℕ) → S1 j ≡ S j) →
    (IsTree d mid name i p → HasSpares mid free1 name c → IsPlaced d label q hop mid new free' name i p (laid_answers set q h (walks_at d mid i)) S1 S' more) →
    IsTree d old name i p → HasSpares old free name c → IsPlaced d label q hop old new free' name i p (laid_answers set q h (walks_at d old i)) S S' more
placed_same d label q h hop set old mid new free free1 free' name i c p S S1 S' more e g s f t held =
    let f1 = subst (λ (cs : List Node). IsTree d cs name i p → HasSpares cs free1 name c → IsPlaced d label q hop cs new free' name i p (laid_answers set q h (walks_at d cs i)) S1 S' more) e f in
    let y = f1 t (subst (λ (x : ℕ). HasSpares old x name c) (sym g) held) in
    record {
      middle = y.middle;
      room = y.room;
      set = y.set;
      stay = y.stay;
      grown = λ k. let w = y.grown (best_same d old S S1 (laid_answers set q h (walks_at d old i)) i s k) in record { best = w.best; keeps = λ j r v b. w.keeps j r v b ∙ s j };
    }

-- ---- the whole tree

abbrev pub Places : Label → ℕ → ℕ → ℕ → List Node → ℕ → List Node → ℕ → (ℕ → Best) → (ℕ → Best) → Bool → Type 0
Places label hop q len old free new free' S S' more =
    (d : ℕ) (name : ℕ → Owner) (n : ℕ) (r : List Bool) → len < d → IsTree d old name 0 r → HasSpares old free name n →
    IsPlaced d label (bits_of len q) hop old new free' name 0 r (λ a. lpm (laid (route_set label hop) (bits_of len q) (walks_at d old 0).routes) a 0) S S' more

pub placed_whole : (f : Family) (label : Label) (q len hop free free' : ℕ) (old new : List Node) (S S' : ℕ → Best) (more : Bool) → len ≤ width f → IsArena f old free → Places label hop q len old free new free' S S' more →
    IsArena f new free' × IsLaid label (bits_of len q) hop (whole f old) (whole f new)
    × (AreBest (suc (width f)) old S (λ a. lpm (laid (route_set label hop) (bits_of len q) (whole f old).routes) a 0) 0 → AreBest (suc (width f)) new S' (λ a. lpm (laid (route_set label hop) (bits_of len q) (whole f old).routes) a 0) 0)
placed_whole f label q len hop free free' old new S S' more few a made =
    let y = made (suc (width f)) a.name a.spares [] (omega (arith, few)) a.tree a.held in
    let m : IsArena f y.middle free' = record { name = y.room.name'; spares = y.room.spares; tree = y.room.tree; held = y.room.held } in
    let s = set_at f label (bits_of len q) free' free' (Some hop) y.middle new refl m (y.set y.room.name' [] y.room.tree).0 in (
      s.1,
      record { middle = whole f y.middle; room = y.room.walks; there = y.room.there; set = s.0 },
      λ k. best_stay (suc (width f)) y.middle new S' (λ a. lpm (laid (route_set label hop) (bits_of len q) (whole f old).routes) a 0) 0 y.stay (y.grown k).best,
    )

-- an entry changes nothing of what is kept
pub is_entered : (f : Family) (q len hop free free' : ℕ) (old new : List Node) (S S' : ℕ → Best) (more : Bool) → len ≤ width f → IsArena f old free → KeepsBest f old S → Places Entry hop q len old free new free' S S' more →
    IsArena f new free' × KeepsBest f new S' × IsLaid Entry (bits_of len q) hop (whole f old) (whole f new)
is_entered f q len hop free free' old new S S' more few a k made =
    let y = placed_whole f Entry q len hop free free' old new S S' more few a made in (
      y.0,
      best_alike (suc (width f)) new S' (λ a. lpm (whole f old).routes a 0) (λ a. lpm (whole f new).routes a 0) 0 (λ a u. ap (λ R. lpm R a 0) (sym (ap (λ (w : Walks). w.routes) y.1.set ∙ y.1.room.routes))) (y.2 k),
      y.1,
    )

-- an entry at a path that is a node
pub entered_there : (q : List Bool) (hop : ℕ) (old new : Walks) → has_node q old.nodes ≡ true → new ≡ edited Entry q (Some hop) old → IsLaid Entry q hop old new
entered_there q hop old new h e = record { middle = old; room = roomier_same q old old refl; there = h; set = e }
