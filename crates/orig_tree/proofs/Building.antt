-- Nodes that are built in one walk over routes that stand in order.
use Rattle.std.proofs.Common.{◌≡◌, ◌≢◌, ℕ, zero, suc, ◌-◌, ◌<◌, ◌≤◌, List, [], ◌∷◌, ◌++◌, length, Bool, true, false, refl, sym, ap, ◌∙◌, subst, arith, Option, Some, None, slice_set, append_assoc}
use Rattle.std.specs.Option.{unwrap_or}
use Rattle.std.proofs.lemmas.List.{get_or-set_other, length-set}
use Rattle.table_model.specs.Address.{IsPrefix, Prefix}
use Rattle.table_model.specs.Halves.{half_at}
use Rattle.table_model.specs.Width.{width}
use Rattle.table_model.specs.declared.family.Family.{Family}
use Rattle.table_model.specs.Table.{Table, lpm, inherit, here}
use Rattle.std.specs.List.{AllByRecursion}
use Rattle.std.specs.Map.{keys_of}
use Rattle.table_model.specs.Entries.{Entries, of_table}
use Rattle.table_model.proofs.Cut.{lpm_nil}
use Rattle.table_model.specs.Regions.{join, lift}
use Rattle.table_model.specs.Sets.{side}
use Rattle.fib_addr.specs.Views.{prefix_as}
use Rattle.fib_addr.specs.declared.prefix.Prefix as code
use Rattle.orig_tree.specs.Walk.{Walks}
use Rattle.orig_tree.specs.Cover.{IsCover, covered}
use Rattle.orig_tree.specs.Packed.{bare_slot, cover_in}
use Rattle.orig_tree.specs.Arena.{Owner, At, blank_cell, bare_cover_is, half_place, from_half, walks_by, walks_at, IfHalf, IsNode, IsTree, HasSpares, GivesPlace, link, cover_at, retold, whole, IsArena}
use Rattle.orig_tree.specs.Bests.{IsRegionBest, best_one, best_behind, AreBest, KeepsBest}
use Rattle.orig_tree.specs.Merged.{with_rows, IsMerged, Merges, Lays}
use Rattle.orig_tree.specs.Built.{with_halves, OnlyAdds, answers_of, IsBuilt, HalfBuilt, Builds, BuildsHalf}
use Rattle.orig_tree.specs.declared.node.Node.{Node}
use Rattle.orig_tree.specs.declared.node.Label.TheVariants.{Route}
use Rattle.orig_tree.specs.declared.best.Best.{Best}
use Rattle.orig_tree.proofs.Arena.{Carries, carry, half_carried, cover_half, cover_packed, placed, below_it}
use Rattle.orig_tree.proofs.Covers.{bare_cover, cover_level}
use Rattle.orig_tree.proofs.Rooms.{new_place, link_some, apart}
use Rattle.orig_tree.proofs.Standing.{stands_one, stands_alike, both_half, best_carry, best_alike, if_half}
use Rattle.orig_tree.proofs.Settling.{outside_not, put_held, put_best}
use Rattle.orig_tree.proofs.Steps.{given_is}
use Rattle.orig_tree.proofs.Growing.{within_it}
use Rattle.orig_tree.proofs.Mending.{own_route, half_gets}
use Rattle.orig_tree.proofs.Telling.{lift_join, seen_append, half_longer}
use Rattle.orig_tree.proofs.Weaving.{rows_append, rows_low, rows_high}
use Rattle.orig_tree.proofs.Loading.{lays_front}
use Rattle.orig_tree.proofs.Places.{in_place_nil}

-- ---- a node that has no place yet

-- The array after the halves of the region of path p were built from the routes T: the node n, which has no place yet, stands for
-- them, and x is what it is to keep.
record IsMade (d : ℕ) (T : Table) (old new : List Node) (free : ℕ) (name : ℕ → Owner) (p : List Bool) (h : ℕ) (kept kept' : ℕ → Best) (n : Node) (x : Best) : Type 0 where
  name' : ℕ → Owner
  spares : ℕ
  held : HasSpares new free name' spares
  adds : OnlyAdds old new name name' kept kept'
  node : IsNode (walks_at d new) (λ b j. IsTree d new name' j (p ++ (b ∷ []))) n
  routes : (walks_by (walks_at d new) n).routes ≡ with_rows T []
  entries : (walks_by (walks_at d new) n).entries ≡ []
  stands : IsRegionBest d (answers_of T h) x
  best : (b : Bool) → IfHalf (λ j. AreBest d new kept' (side b (answers_of T h)) j) (half_place n b)

-- the same of the region of the prefix p, with so many levels below it, for which a front of the routes was taken
pub record Makes (h levels : ℕ) (p : Prefix) (old new : List Node) (free free' : ℕ) (kept kept' : ℕ → Best) (routes rest : Entries) (n : Node) (x : Best) : Type 0 where
  taken : Table
  front : routes ≡ of_table p.family (lift p.bits taken) ++ rest
  made : (d : ℕ) (name : ℕ → Owner) (m : ℕ) (r : List Bool) → levels ≤ d → HasSpares old free name m → IsMade d taken old new free' name r h kept kept' n x

-- ---- nodes are added

adds_none : (cells : List Node) (name : ℕ → Owner) (S : ℕ → Best) → OnlyAdds cells cells name name S S
adds_none cells name S = record { long = omega arith; same = λ j q e. (refl, e, refl) }

adds_after : (a b c : List Node) (n m k : ℕ → Owner) (S S1 S' : ℕ → Best) → OnlyAdds a b n m S S1 → OnlyAdds b c m k S1 S' → OnlyAdds a c n k S S'
adds_after a b c n m k S S1 S' x y = record {
  long = omega (arith, x.long, y.long);
  same = λ j q e. let u = x.same j q e in let v = y.same j q u.1 in (v.0 ∙ u.0, v.1, v.2 ∙ u.2);
}

carries : (p : List Bool) (old new : List Node) (name name' : ℕ → Owner) (S S' : ℕ → Best) → OnlyAdds old new name name' S S' → Carries p old new name name'
carries p old new name name' S S' x = record { long = x.long; same = λ j q e h. let u = x.same j q e in (u.0, u.1) }

-- ---- a node, from its halves

-- the rows of a node's own route and its halves'
rows_node : (own : Option ℕ) (T U : Table) → with_rows (join own T U) [] ≡ join own (with_rows T []) (with_rows U [])
rows_node own T U =
    rows_append (here own) (lift (false ∷ []) T ++ lift (true ∷ []) U) []
    ∙ (ap (with_rows (lift (false ∷ []) T ++ lift (true ∷ []) U)) (alone own)
    ∙ (rows_append (lift (false ∷ []) T) (lift (true ∷ []) U) (join own [] [])
    ∙ (ap (with_rows (lift (true ∷ []) U)) (rows_low T own [] []) ∙ rows_high U own (with_rows T []) [])))
  where
    alone : (o : Option ℕ) → with_rows (here o) [] ≡ join o [] []
    alone None = refl
    alone (Some g) = refl

-- a node with this route, no entry and these halves
module _ (own : Option ℕ) (new : List Node) (d : ℕ) (name : ℕ → Owner) (p : List Bool) (k n : Node) (bare : k.entry ≡ bare_slot) (is : n ≡ retold Route own (cover_at new Route (half_place k false)) (cover_at new Route (half_place k true)) k) where
  abbrev Low : Walks
  Low = from_half (walks_at d new) (half_place k false)

  abbrev High : Walks
  High = from_half (walks_at d new) (half_place k true)

  abbrev Told : Node
  Told = retold Route own (cover_at new Route (half_place k false)) (cover_at new Route (half_place k true)) k

  told_routes : (walks_by (walks_at d new) n).routes ≡ join own Low.routes High.routes
  told_routes = ap (λ (x : Node). (walks_by (walks_at d new) x).routes) is

  told_entries : Low.entries ≡ [] → High.entries ≡ [] → (walks_by (walks_at d new) n).entries ≡ []
  told_entries l h =
      ap (λ (x : Node). (walks_by (walks_at d new) x).entries) is
      ∙ (ap (λ s. join s.hop Low.entries High.entries) bare ∙ (ap (λ z. join None z High.entries) l ∙ ap (λ z. join None [] z) h))

  told_halves : (b : Bool) → half_place n b ≡ half_place k b
  told_halves true = ap (λ x. half_place x true) is
  told_halves false = ap (λ x. half_place x false) is

  told_node : Low.entries ≡ [] → High.entries ≡ [] → ((b : Bool) → IfHalf (λ j. IsTree d new name j (p ++ (b ∷ []))) (half_place k b)) → IsNode (walks_at d new) (λ b j. IsTree d new name j (p ++ (b ∷ []))) n
  told_node l h t =
      let In : Bool → ℕ → Type 0 = λ b j. IsTree d new name j (p ++ (b ∷ [])) in
      let cl = cover_at new Route (half_place k false) in
      let ch = cover_at new Route (half_place k true) in
      let none : IsCover [] (cover_in bare_slot) = bare_cover bare_cover_is refl refl in
      let entries : IsCover (join k.entry.hop Low.entries High.entries) (cover_in k.entry) =
      subst (λ s. IsCover (join s.hop Low.entries High.entries) (cover_in s)) (sym bare)
      (subst (λ (z : Table). IsCover (join None z High.entries) (cover_in bare_slot)) (sym l) (subst (λ (z : Table). IsCover (join None [] z) (cover_in bare_slot)) (sym h) none)) in
      subst (λ (x : Node). IsNode (walks_at d new) In x) (sym is) (record {
        covers = record {
          routes = cover_packed (join own Low.routes High.routes) (covered own cl ch) (cover_level own Low.routes High.routes cl ch
              (cover_half Route d new name (p ++ (false ∷ [])) (half_place k false) (t false)) (cover_half Route d new name (p ++ (true ∷ [])) (half_place k true) (t true)));
          entries = entries;
        };
        halves = λ b. elim b as (λ b. IfHalf (In b) (half_place Told b)) [ true ↦ t true | false ↦ t false ];
      })

-- a region that has its own route alone, or none
made_alone : (d : ℕ) (own : Option ℕ) (cells : List Node) (free m : ℕ) (name : ℕ → Owner) (p : List Bool) (h hop : ℕ) (S : ℕ → Best) (n : Node) (x : Best) → n ≡ retold Route own bare_cover_is bare_cover_is blank_cell → hop ≡ unwrap_or own h → x ≡ best_one hop → HasSpares cells free name m →
    IsMade d (here own) cells cells free name p h S S n x
made_alone d own cells free m name p h hop S n x e hop_is one held =
    let W = walks_at d cells in
    let rows : (walks_by W n).routes ≡ with_rows (here own) [] = told_routes own cells d name p blank_cell n refl e ∙ sym (rows_node own [] []) ∙ ap (λ z. with_rows z []) (tail own) in
    let gets : (a : List Bool) → length a ≡ d → answers_of (here own) h a ≡ hop = λ a l. ap (λ R. lpm R a h) (sym rows) ∙ (ap (λ (y : Node). lpm (walks_by W y).routes a h) e ∙ (all W a ∙ (given_is own h ∙ sym hop_is))) in
    record {
      name' = name;
      spares = m;
      held = held;
      adds = adds_none cells name S;
      node = told_node own cells d name p blank_cell n refl e refl refl (λ b. elim b as (λ b. IfHalf (λ j. IsTree d cells name j (p ++ (b ∷ []))) (half_place blank_cell b)) [ true ↦ tt | false ↦ tt ]);
      routes = rows;
      entries = told_entries own cells d name p blank_cell n refl e refl refl;
      stands = subst (λ (y : Best). IsRegionBest d (answers_of (here own) h) y) (sym one) (stands_one d hop (answers_of (here own) h) gets);
      best = λ b. subst (λ (y : Node). IfHalf (λ j. AreBest d cells S (side b (answers_of (here own) h)) j) (half_place y b)) (sym e)
          (elim b as (λ b. IfHalf (λ j. AreBest d cells S (side b (answers_of (here own) h)) j) (half_place (retold Route own bare_cover_is bare_cover_is blank_cell) b)) [ true ↦ tt | false ↦ tt ]);
    }
  where
    tail : (o : Option ℕ) → join o [] [] ≡ here o
    tail None = refl
    tail (Some g) = refl

    all : (W : ℕ → Walks) (a : List Bool) → lpm (walks_by W (retold Route own bare_cover_is bare_cover_is blank_cell)).routes a h ≡ inherit own h
    all W [] = lpm_nil (walks_by W (retold Route own bare_cover_is bare_cover_is blank_cell)).routes h ∙ ap (λ o. inherit o h) (own_route W (retold Route own bare_cover_is bare_cover_is blank_cell))
    all W (true ∷ a) = half_gets W (retold Route own bare_cover_is bare_cover_is blank_cell) true h a
    all W (false ∷ a) = half_gets W (retold Route own bare_cover_is bare_cover_is blank_cell) false h a

-- the half that was built first, once the other is built too
kept_half : (e : ℕ) (T : Table) (old mid new : List Node) (free : ℕ) (name name' : ℕ → Owner) (p : List Bool) (h : ℕ) (S S1 S' : ℕ → Best) (o : Option ℕ) → (y : HalfBuilt e T old mid free name p h S S1 o) → OnlyAdds mid new y.name' name' S1 S' →
    IfHalf (λ j. IsTree (suc e) new name' j p) o × ((from_half (walks_at (suc e) new) o) ≡ from_half (walks_at (suc e) mid) o) × IfHalf (λ j. AreBest (suc e) new S' (answers_of T h) j) o × (best_behind S' o (best_one h) ≡ best_behind S1 o (best_one h))
unfolding IsTree
kept_half e T old mid new free name name' p h S S1 S' o y x =
    let c = half_carried (suc e) mid new y.name' name' p o (λ j t. carry (suc e) mid new y.name' name' j p (carries p mid new y.name' name' S1 S' x) t) y.tree in (
      c.1,
      c.0,
      both_half (λ j. IsTree (suc e) mid y.name' j p) (λ j. AreBest (suc e) mid S1 (answers_of T h) j) (λ j. AreBest (suc e) new S' (answers_of T h) j) o
          (λ j t k. best_carry (suc e) mid new S1 S' y.name' (answers_of T h) j p t (λ z q f u. let v = x.same z q f in (v.0, v.2)) k) y.tree y.best,
      same o y.tree,
    )
  where
    same : (o : Option ℕ) → IfHalf (λ j. IsTree (suc e) mid y.name' j p) o → best_behind S' o (best_one h) ≡ best_behind S1 o (best_one h)
    same None t = refl
    same (Some j) t = (x.same j p t.0).2

module _ (e : ℕ) (own : Option ℕ) (T U : Table) (old mid new : List Node) (free1 free' : ℕ) (name : ℕ → Owner) (p : List Bool) (h hop : ℕ) (S S1 S' : ℕ → Best) (k n : Node) (x : Best) where
  made_node : k.entry ≡ bare_slot → n ≡ retold Route own (cover_at new Route (half_place k false)) (cover_at new Route (half_place k true)) k → hop ≡ unwrap_or own h →
      (y : HalfBuilt e T old mid free1 name (p ++ (false ∷ [])) hop S S1 (half_place k false)) → HalfBuilt e U mid new free' y.name' (p ++ (true ∷ [])) hop S1 S' (half_place k true) →
      ((d : ℕ) (f : List Bool → ℕ) → IsRegionBest d (side false f) (best_behind S' (half_place k false) (best_one hop)) → IsRegionBest d (side true f) (best_behind S' (half_place k true) (best_one hop)) → IsRegionBest (suc d) f x) →
      IsMade (suc e) (join own T U) old new free' name p h S S' n x
  made_node bare is hop_is y z joined =
      let All = join own T U in
      let D = suc e in
      let W = walks_at D new in
      let lo = half_place k false in
      let ho = half_place k true in
      let f = answers_of All h in
      let l = kept_half e T old mid new free1 name z.name' (p ++ (false ∷ [])) hop S S1 S' lo y z.adds in
      let low_rows : (from_half W lo).routes ≡ with_rows T [] = ap (λ (w : Walks). w.routes) l.1 ∙ y.routes in
      let low_entries : (from_half W lo).entries ≡ [] = ap (λ (w : Walks). w.entries) l.1 ∙ y.entries in
      let rows : (walks_by W n).routes ≡ with_rows All [] =
      told_routes own new D z.name' p k n bare is ∙ (ap (λ L. join own L (from_half W ho).routes) low_rows ∙ (ap (λ M. join own (with_rows T []) M) z.routes ∙ sym (rows_node own T U))) in
      let halves = told_halves own new D z.name' p k n bare is in
      let gets : (b : Bool) (R : Table) → (from_half W (half_place k b)).routes ≡ with_rows R [] → (a : List Bool) → answers_of R hop a ≡ side b f a =
      λ b R r a. sym (ap (λ Q. lpm Q (b ∷ a) h) (sym rows) ∙ (half_gets W n b h a
      ∙ (ap (λ o. lpm (from_half W o).routes a (inherit n.route.hop h)) (halves b)
      ∙ (ap (λ Q. lpm Q a (inherit n.route.hop h)) r
      ∙ ap (λ g. lpm (with_rows R []) a g) (ap (λ (m : Node). inherit m.route.hop h) is ∙ (given_is own h ∙ sym hop_is)))))) in
      let trees : (b : Bool) → IfHalf (λ j. IsTree D new z.name' j (p ++ (b ∷ []))) (half_place k b) = λ b. elim b as (λ b. IfHalf (λ j. IsTree D new z.name' j (p ++ (b ∷ []))) (half_place k b)) [ true ↦ z.tree | false ↦ l.0 ] in
      let low_best = if_half (λ j. AreBest D new S' (answers_of T hop) j) (λ j. AreBest D new S' (side false f) j) lo (λ j v. best_alike D new S' (answers_of T hop) (side false f) j (λ a u. gets false T low_rows a) v) l.2 in
      let high_best = if_half (λ j. AreBest D new S' (answers_of U hop) j) (λ j. AreBest D new S' (side true f) j) ho (λ j v. best_alike D new S' (answers_of U hop) (side true f) j (λ a u. gets true U z.routes a) v) z.best in
      let bests : (b : Bool) → IfHalf (λ j. AreBest D new S' (side b f) j) (half_place k b) = λ b. elim b as (λ b. IfHalf (λ j. AreBest D new S' (side b f) j) (half_place k b)) [ true ↦ high_best | false ↦ low_best ] in
      record {
        name' = z.name';
        spares = z.spares;
        held = z.held;
        adds = adds_after old mid new name y.name' z.name' S S1 S' y.adds z.adds;
        node = told_node own new D z.name' p k n bare is low_entries z.entries trees;
        routes = rows;
        entries = told_entries own new D z.name' p k n bare is low_entries z.entries;
        stands = joined e f
            (stands_alike e (answers_of T hop) (side false f) (best_behind S' lo (best_one hop)) (λ a u. gets false T low_rows a) (subst (λ (v : Best). IsRegionBest e (answers_of T hop) v) (sym l.3) y.stands))
            (stands_alike e (answers_of U hop) (side true f) (best_behind S' ho (best_one hop)) (λ a u. gets true U z.routes a) z.stands);
        best = λ b. subst (λ (o : Option ℕ). IfHalf (λ j. AreBest D new S' (side b f) j) o) (sym (halves b)) (bests b);
      }

-- ---- a half

half_bare : (d : ℕ) (cells : List Node) (free m : ℕ) (name : ℕ → Owner) (p : List Bool) (h : ℕ) (S : ℕ → Best) → HasSpares cells free name m → HalfBuilt d [] cells cells free name p h S S None
half_bare d cells free m name p h S held = record {
  name' = name;
  spares = m;
  held = held;
  adds = adds_none cells name S;
  tree = tt;
  routes = refl;
  entries = refl;
  stands = stands_one d h (answers_of [] h) (λ a l. refl);
  best = tt;
}

-- ---- a node that was made is put at its place

put_built : (d : ℕ) (T : Table) (old mid new : List Node) (free free' : ℕ) (name : ℕ → Owner) (i : ℕ) (p : List Bool) (h : ℕ) (S S1 S' : ℕ → Best) (n : Node) → name i ≡ At p → i < length old → new ≡ slice_set mid i n → ((j : ℕ) → j ≢ i → S' j ≡ S1 j) → free' ≡ free →
    IsMade d T old mid free name p h S S1 n (S' i) → IsBuilt d T old new free' name i p h S S'
unfolding AreBest
put_built d T old mid new free free' name i p h S S1 S' n own inside put others fr b =
    subst (λ (y : ℕ). IsBuilt d T old new y name i p h S S') (sym fr) (subst (λ (cs : List Node). IsBuilt d T old cs free name i p h S S') (sym put) here)
  where
    mine : b.name' i ≡ At p
    mine = (b.adds.same i p own).1

    at : (walks_at (suc d) (slice_set mid i n) i ≡ walks_by (walks_at d mid) n) × IsTree (suc d) (slice_set mid i n) b.name' i p
    at = placed d mid i n b.name' p mine (omega (arith, inside, b.adds.long)) b.node

    halves : (s : Bool) → IfHalf (λ j. AreBest d mid S' (side s (answers_of T h)) j) (half_place n s)
    halves s = both_half (λ j. IsTree d mid b.name' j (p ++ (s ∷ []))) (λ j. AreBest d mid S1 (side s (answers_of T h)) j) (λ j. AreBest d mid S' (side s (answers_of T h)) j) (half_place n s)
        (λ j u v. best_carry d mid mid S1 S' b.name' (side s (answers_of T h)) j (p ++ (s ∷ [])) u (λ z q w e. (refl, others z (below_it b.name' i z p q s mine w e))) v) (b.node.halves s) (b.best s)

    here : IsBuilt d T old (slice_set mid i n) free name i p h S S'
    here = record {
      name' = b.name';
      spares = b.spares;
      held = (put_held mid free i b.spares n b.name' p mine b.held).0;
      fills = record {
        long = omega (arith, b.adds.long, length-set mid i n);
        same = λ j q e z. let w = b.adds.same j q e in (get_or-set_other mid i j n blank_cell z ∙ w.0, w.1, others j z ∙ w.2);
      };
      tree = at.1;
      routes = ap (λ (w : Walks). w.routes) at.0 ∙ b.routes;
      entries = ap (λ (w : Walks). w.entries) at.0 ∙ b.entries;
      best = put_best d mid i n b.name' p S' (answers_of T h) mine (omega (arith, inside, b.adds.long)) b.node.halves b.stands halves;
    }

-- a half takes its place before it is built
half_built : (d : ℕ) (T : Table) (old opened new : List Node) (free free' m : ℕ) (name : ℕ → Owner) (p : List Bool) (h : ℕ) (S S0 S' : ℕ → Best) (k : ℕ) → k ≡ length old → k ≢ 0 → opened ≡ old ++ (blank_cell ∷ []) → ((j : ℕ) → S0 j ≡ S j) → HasSpares old free name m →
    ((name1 : ℕ → Owner) (m1 : ℕ) → name1 k ≡ At p → k < length opened → HasSpares opened free name1 m1 → IsBuilt d T opened new free' name1 k p h S0 S') → HalfBuilt d T old new free' name p h S S' (link k)
unfolding AreBest
half_built d T old opened new free free' m name p h S S0 S' k at some is kept held built =
    let g = new_place old opened free k (blank_cell ∷ []) name m p some at is refl held in
    subst (λ (o : Option ℕ). HalfBuilt d T old new free' name p h S S' o) (sym (link_some k some)) (by_place g (built g.name' g.spares g.mine g.inside g.held))
  where
    by_place : (g : GivesPlace p old opened free name k) → IsBuilt d T opened new free' g.name' k p h S0 S' → HalfBuilt d T old new free' name p h S S' (Some k)
    by_place g b = record {
      name' = b.name';
      spares = b.spares;
      held = b.held;
      adds = record {
        long = omega (arith, g.long, b.fills.long);
        same = λ j q e.
            let l : j < length old = within_it old free m j name q held e in
            let v = g.same j q e in
            let w = b.fills.same j q v.1 (λ y. omega (arith, l, y, at)) in
            (w.0 ∙ v.0, w.1, w.2 ∙ kept j);
      };
      tree = b.tree;
      routes = b.routes;
      entries = b.entries;
      stands = b.best.0;
      best = b.best;
    }

-- ---- what is taken from the front of a list

pub makes_alone : (h levels hop : ℕ) (P : Prefix) (own : Option ℕ) (cells : List Node) (free : ℕ) (S : ℕ → Best) (E R : Entries) (n : Node) (x : Best) → E ≡ of_table P.family (lift P.bits (here own)) ++ R → n ≡ retold Route own bare_cover_is bare_cover_is blank_cell →
    hop ≡ unwrap_or own h → x ≡ best_one hop → Makes h levels P cells cells free free S S E R n x
makes_alone h levels hop P own cells free S E R n x front is hop_is one = record {
  taken = here own;
  front = front;
  made = λ d name m r l held. made_alone d own cells free m name r h hop S n x is hop_is one held;
}

makes_node : (h hop : ℕ) (p : code.Prefix) (own : Option ℕ) (old mid new : List Node) (free free1 free' : ℕ) (S S1 S' : ℕ → Best) (E A B R : Entries) (k n : Node) (x : Best) → p.len < width p.family →
    E ≡ of_table p.family (lift (prefix_as p).bits (here own)) ++ A → k.entry ≡ bare_slot → n ≡ retold Route own (cover_at new Route (half_place k false)) (cover_at new Route (half_place k true)) k → hop ≡ unwrap_or own h →
    BuildsHalf hop (width p.family - p.len - 1) (half_at false (prefix_as p)) old mid free free1 S S1 A B (half_place k false) → BuildsHalf hop (width p.family - p.len - 1) (half_at true (prefix_as p)) mid new free1 free' S1 S' B R (half_place k true) →
    ((d : ℕ) (f : List Bool → ℕ) → IsRegionBest d (side false f) (best_behind S' (half_place k false) (best_one hop)) → IsRegionBest d (side true f) (best_behind S' (half_place k true) (best_one hop)) → IsRegionBest (suc d) f x) →
    Makes h (width p.family - p.len) (prefix_as p) old new free free' S S' E R n x
makes_node h hop p own old mid new free free1 free' S S1 S' E A B R k n x longer front bare is hop_is y z joined =
    let f = p.family in
    let q = (prefix_as p).bits in
    let T = y.taken in
    let U = z.taken in
    let O = of_table f (lift q (here own)) in
    let X = of_table f (lift (q ++ (false ∷ [])) T) in
    let Y = of_table f (lift (q ++ (true ∷ [])) U) in
    let whole : of_table f (lift q (join own T U)) ≡ O ++ (X ++ Y) =
    ap (of_table f) (lift_join q own T U) ∙ (seen_append f (lift q (here own)) (lift (q ++ (false ∷ [])) T ++ lift (q ++ (true ∷ [])) U) ∙ ap (λ v. O ++ v) (seen_append f (lift (q ++ (false ∷ [])) T) (lift (q ++ (true ∷ [])) U))) in
    record {
      taken = join own T U;
      front = front ∙ (ap (λ v. O ++ v) (y.front ∙ (ap (λ v. X ++ v) z.front ∙ sym (append_assoc X Y R))) ∙ (sym (append_assoc O (X ++ Y) R) ∙ ap (λ v. v ++ R) (sym whole)));
      made = λ d name m r l held. by_depth d name m r l held;
    }
  where
    by_depth : (d : ℕ) (name : ℕ → Owner) (m : ℕ) (r : List Bool) → width p.family - p.len ≤ d → HasSpares old free name m → IsMade d (join own y.taken z.taken) old new free' name r h S S' n x
    by_depth zero name m r l held = absurd (omega (arith, l, longer))
    by_depth (suc e) name m r l held =
        let low = y.built e name m (r ++ (false ∷ [])) (omega (arith, l)) held in
        let high = z.built e low.name' low.spares (r ++ (true ∷ [])) (omega (arith, l)) low.held in
        made_node e own y.taken z.taken old mid new free1 free' name r h hop S S1 S' k n x bare is hop_is low high joined

pub makes_over : (h hop : ℕ) (p : code.Prefix) (own : Option ℕ) (old mid new : List Node) (free free1 free' : ℕ) (S S1 S' : ℕ → Best) (E A B R : Entries) (low high : ℕ) (n : Node) (x : Best) → p.len < width p.family → E ≡ of_table p.family (lift (prefix_as p).bits (here own)) ++ A →
    n ≡ retold Route own (cover_at new Route (link low)) (cover_at new Route (link high)) (with_halves low high) → hop ≡ unwrap_or own h →
    BuildsHalf hop (width p.family - p.len - 1) (half_at false (prefix_as p)) old mid free free1 S S1 A B (link low) → BuildsHalf hop (width p.family - p.len - 1) (half_at true (prefix_as p)) mid new free1 free' S1 S' B R (link high) →
    ((d : ℕ) (f : List Bool → ℕ) → IsRegionBest d (side false f) (best_behind S' (link low) (best_one hop)) → IsRegionBest d (side true f) (best_behind S' (link high) (best_one hop)) → IsRegionBest (suc d) f x) →
    Makes h (width p.family - p.len) (prefix_as p) old new free free' S S' E R n x
makes_over h hop p own old mid new free free1 free' S S1 S' E A B R low high n x longer front is hop_is y z joined = makes_node h hop p own old mid new free free1 free' S S1 S' E A B R (with_halves low high) n x longer front refl is hop_is y z joined

pub builds_bare : (h levels : ℕ) (P : Prefix) (cells : List Node) (free : ℕ) (S : ℕ → Best) (E : Entries) → BuildsHalf h levels P cells cells free free S S E E None
builds_bare h levels P cells free S E = record { taken = []; front = refl; built = λ d name m r l held. half_bare d cells free m name r h S held }

pub builds_at : (h levels : ℕ) (P : Prefix) (i : ℕ) (old mid new : List Node) (free free1 free' : ℕ) (S S1 S' : ℕ → Best) (E R : Entries) (n : Node) → new ≡ slice_set mid i n → ((j : ℕ) → j ≢ i → S' j ≡ S1 j) → free' ≡ free1 →
    Makes h levels P old mid free free1 S S1 E R n (S' i) → Builds h levels P i old new free free' S S' E R
builds_at h levels P i old mid new free free1 free' S S1 S' E R n put others fr y = record {
  taken = y.taken;
  front = y.front;
  built = λ d name m r l own inside held. put_built d y.taken old mid new free1 free' name i r h S S1 S' n own inside put others fr (y.made d name m r l held);
}

pub builds_half : (h : ℕ) (p q : code.Prefix) (b : Bool) (old opened new : List Node) (free free0 free' : ℕ) (S S0 S' : ℕ → Best) (E R : Entries) (k : ℕ) → p.len < width p.family → prefix_as q ≡ half_at b (prefix_as p) → k ≡ length old → k ≢ 0 → opened ≡ old ++ (blank_cell ∷ []) → free0 ≡ free → ((j : ℕ) → S0 j ≡ S j) →
    Builds h (width q.family - q.len) (prefix_as q) k opened new free0 free' S0 S' E R → BuildsHalf h (width p.family - p.len - 1) (half_at b (prefix_as p)) old new free free' S S' E R (link k)
builds_half h p q b old opened new free free0 free' S S0 S' E R k longer half at some is as_free kept y =
    let low : width q.family - q.len ≡ width p.family - p.len - 1 = omega (arith, longer, half_longer p q b half, ap (λ (v : Prefix). width v.family) half) in
    record {
      taken = y.taken;
      front = subst (λ (v : Prefix). E ≡ of_table v.family (lift v.bits y.taken) ++ R) half y.front;
      built = λ d name m r l held. half_built d y.taken old opened new free free' m name r h S S0 S' k at some is kept held
          (λ name1 m1 own inside held1. y.built d name1 m1 r (omega (arith, l, low)) own inside (subst (λ v. HasSpares opened v name1 m1) (sym as_free) held1));
    }

-- ---- the whole tree

bare_routes : (d : ℕ) → (walks_at (suc d) (blank_cell ∷ []) 0).routes ≡ []
unfolding walks_at
bare_routes d = refl

own_place : (e : ℕ) (cells : List Node) (name : ℕ → Owner) (i : ℕ) (r : List Bool) → IsTree (suc e) cells name i r → name i ≡ At r
unfolding IsTree
own_place e cells name i r t = t.0

module _ (f : Family) (p : code.Prefix) (free free' : ℕ) (S S' : ℕ → Best) (is : prefix_as p ≡ record { family = f; bits = [] }) where
  rooted : (e : ℕ) (T : Table) (old new : List Node) (name : ℕ → Owner) (r : List Bool) → old ≡ blank_cell ∷ [] → name 0 ≡ At r → IsBuilt e T old new free' name 0 r 0 S S' → IsMerged (suc e) Route T old new free' name 0 r 0 S S' × AreBest (suc e) new S' (λ a. lpm (walks_at (suc e) new 0).routes a 0) 0
  unfolding walks_at
  rooted e T old new name r bare own b =
      let none : walks_at (suc e) old 0 ≡ walks_at (suc e) (blank_cell ∷ []) 0 = ap (λ (cs : List Node). walks_at (suc e) cs 0) bare in (
        record {
          name' = b.name';
          spares = b.spares;
          tree = b.tree;
          held = b.held;
          keeps = record { long = b.fills.long; same = λ j q u out. let w = b.fills.same j q u (apart name j 0 (At q) (At r) u own (outside_not r q out)) in (w.0, w.1) };
          rows = b.routes ∙ ap (with_rows T) (sym (ap (λ (w : Walks). w.routes) none));
          other = b.entries ∙ sym (ap (λ (w : Walks). w.entries) none);
          grown = λ u k. cc;
        },
        best_alike (suc e) new S' (answers_of T 0) (λ a. lpm (walks_at (suc e) new 0).routes a 0) 0 (λ a u. ap (λ R. lpm R a 0) (sym b.routes)) b.best,
      )

  pub built_whole : (old new : List Node) (E R : Entries) → AllByRecursion IsPrefix (keys_of E) → old ≡ blank_cell ∷ [] → IsArena f old free → Builds 0 (width p.family - p.len) (prefix_as p) 0 old new free free' S S' E R →
      Lays f Route old new free' S S' E R × KeepsBest f new S'
  built_whole old new E R prefixes bare a y =
      let levels : width p.family - p.len ≤ width f = omega (arith, ap (λ (v : Prefix). width v.family) is) in
      let b = y.built (width f) a.name a.spares [] levels (own_place (width f) old a.name 0 [] a.tree) inside a.held in
      let w : Merges Route 0 (width p.family - p.len) (prefix_as p) old new free free' S S' 0 E R = record {
        taken = y.taken;
        front = y.front;
        merged = λ d name m r l t held. by_depth d name m r l t held;
      } in (
        lays_front f p Route old new free free' S S' E R prefixes is a (in_place_nil f (whole f old).routes (no_routes bare)) w,
        (rooted (width f) y.taken old new a.name [] bare (own_place (width f) old a.name 0 [] a.tree) b).1,
      )
    where
      inside : 0 < length old
      inside = omega (arith, ap length bare)

      by_depth : (d : ℕ) (name : ℕ → Owner) (m : ℕ) (r : List Bool) → width p.family - p.len < d → IsTree d old name 0 r → HasSpares old free name m → IsMerged d Route y.taken old new free' name 0 r 0 S S'
      by_depth zero name m r l t held = absurd (omega (arith, l))
      by_depth (suc e) name m r l t held = (rooted e y.taken old new name r bare (own_place e old name 0 r t) (y.built e name m r (omega (arith, l)) (own_place e old name 0 r t) inside held)).0

      no_routes : old ≡ blank_cell ∷ [] → (whole f old).routes ≡ []
      no_routes e = ap (λ (cs : List Node). (whole f cs).routes) e ∙ bare_routes (width f)
