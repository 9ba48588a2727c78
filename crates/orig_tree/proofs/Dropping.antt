-- One level of the walks that give nodes back.
use Rattle.std.proofs.Common.{inl, inr, ◌⊎◌, ◌≡◌, ◌≢◌, ℕ, zero, suc, ◌+◌, ◌-◌, ◌<◌, ◌≤◌, List, [], ◌∷◌, ◌++◌, length, Bool, true, false, ◌||◌, cond, nat_eq, refl, sym, ap, ◌∙◌, subst, arith, Option, Some, None, is_some, slice_set}
use Rattle.std.specs.Int.{bit_at}
use Rattle.table_model.specs.Bits.{bits_of, begins}
use Rattle.table_model.specs.Regions.{join}
use Rattle.table_model.specs.Sets.{side}
use Rattle.orig_tree.specs.Walk.{Walks, no_walks, walks_of, has_node}
use Rattle.orig_tree.specs.Cover.{IsCover}
use Rattle.orig_tree.specs.Slots.{AreCovers}
use Rattle.orig_tree.specs.Trims.{IsTrimmed, IsPruned, KeepsRoot, has_labels, bare}
use Rattle.orig_tree.specs.Arena.{Owner, At, Spare, cell_at, half_place, link, from_half, walks_by, walks_at, IfHalf, IsNode, IsTree, HasSpares, KeepsOthers}
use Rattle.orig_tree.specs.Bests.{AreBest}
use Rattle.orig_tree.specs.Drops.{with_halves, spare_node, what_stays, HalfKept, HalfTrimmed, NodeTrimmed, BothKept}
use Rattle.orig_tree.specs.Packed.{cover_in}
use Rattle.orig_tree.specs.declared.node.Node.{Node}
use Rattle.orig_tree.specs.declared.best.Best.{Best}
use Rattle.orig_tree.proofs.Paths.{no_bits}
use Rattle.orig_tree.proofs.Arena.{begins_self_not, Carries, carry, half_carried, placed, tree_long}
use Rattle.orig_tree.proofs.Rooms.{both_not, no, no_begin, tree_name, end_node, link_some, renamed}
use Rattle.orig_tree.proofs.Standing.{both_half, best_carry}
use Rattle.orig_tree.proofs.Settling.{others_after, put_held, put_best, given}
use Rattle.orig_tree.proofs.Trimming.{used, pruned, pruned_nothing, pruned_kept, pruned_bare, labels_low, labels_high, labels_own, trimmed_high, trimmed_low, kept_by_high, kept_by_low, kept_beside_high, kept_beside_low}

-- no half is below the last level
pub no_level : (d depth : ℕ) (cells : List Node) (name : ℕ → Owner) (half : ℕ) (p : List Bool) → d ≤ depth → depth ≡ 0 → half ≢ 0 → IfHalf (λ j. IsTree d cells name j p) (link half) → ⊥
unfolding IsTree
no_level zero depth cells name half p l z e t = subst (λ (o : Option ℕ). IfHalf (λ j. IsTree 0 cells name j p) o) (link_some half e) t
no_level (suc d) depth cells name half p l z e t = absurd (omega (arith, l, z))

pub half_tree : (d : ℕ) (cells : List Node) (name : ℕ → Owner) (half : ℕ) (p : List Bool) → half ≢ 0 → IfHalf (λ j. IsTree d cells name j p) (link half) → IsTree d cells name half p
half_tree d cells name half p z t = subst (λ (o : Option ℕ). IfHalf (λ j. IsTree d cells name j p) o) (link_some half z) t

-- there is no half
pub half_none : (d : ℕ) (r : List Bool) (cells : List Node) (free : ℕ) (name : ℕ → Owner) (spares half : ℕ) (p : List Bool) → half ≡ 0 → HasSpares cells free name spares → HalfTrimmed d r cells cells free name (link half) p false
half_none d r cells free name spares half p z h =
    subst (λ (k : ℕ). HalfTrimmed d r cells cells free name (link k) p false) (sym z) (record {
      kept = record { name' = name; spares = spares; tree = tt; held = h; keeps = record { long = omega arith; same = λ j q e k. (refl, e) }; routes = refl; entries = refl; best = λ S f k. tt };
      pruned = pruned_nothing r no_walks no_walks refl refl;
      keeps = λ h. cc;
    })

-- the half stays
pub half_stays : (d : ℕ) (r : List Bool) (old new : List Node) (free : ℕ) (name : ℕ → Owner) (half : ℕ) (p : List Bool) (stays : Bool) → half ≢ 0 → stays ≡ true → NodeTrimmed d r old new free name half p stays → HalfTrimmed d r old new free name (link half) p true
half_stays d r old new free name half p stays z s t =
    let by = t.stays_by s in
    subst (λ (o : Option ℕ). HalfTrimmed d r old new free name o p true) (sym (link_some half z)) (record {
      kept = record { name' = t.name'; spares = t.spares; tree = t.tree; held = t.held; keeps = t.keeps; routes = t.routes; entries = t.entries; best = λ S f k. t.best S f k };
      pruned = pruned_kept r (walks_at d old half) (walks_at d new half) t.trimmed by;
      keeps = λ h. by;
    })

-- the half goes, and its place is given back
pub half_goes : (d : ℕ) (r : List Bool) (old mid new : List Node) (free free' : ℕ) (name : ℕ → Owner) (half : ℕ) (p : List Bool) (stays : Bool) → half ≢ 0 → stays ≡ false → NodeTrimmed d r old mid free name half p stays →
    new ≡ slice_set mid half (spare_node free) → free' ≡ half → HalfTrimmed d r old new free' name (link half) p false
half_goes d r old mid new free free' name half p stays z s t e x =
    let gone = t.bare s in
    let fin = slice_set mid half (spare_node free) in
    let name2 = renamed t.name' half (Spare t.spares) in
    let g = given mid free half t.spares t.name' p z (tree_name d mid t.name' half p t.tree) (tree_long d mid t.name' half p t.tree) t.held in
    subst (λ (cs : List Node). HalfTrimmed d r old cs free' name (link half) p false) (sym e) (subst (λ (k : ℕ). HalfTrimmed d r old fin k name (link half) p false) (sym x)
    (subst (λ (o : Option ℕ). HalfTrimmed d r old fin half name o p false) (sym (link_some half z)) (record {
      kept = record {
        name' = name2;
        spares = suc t.spares;
        tree = tt;
        held = g.0;
        keeps = others_after p old mid fin name t.name' name2 t.keeps g.1;
        routes = ap (λ (w : Walks). w.routes) (sym gone) ∙ t.routes;
        entries = ap (λ (w : Walks). w.entries) (sym gone) ∙ t.entries;
        best = λ S f k. tt;
      };
      pruned = pruned_bare r (walks_at d old half) (walks_at d mid half) no_walks t.trimmed gone refl;
      keeps = λ h. cc;
    })))

abbrev unchanged : (d : ℕ) (cells : List Node) (free : ℕ) (name : ℕ → Owner) (spares : ℕ) (half : Option ℕ) (p : List Bool) → IfHalf (λ j. IsTree d cells name j p) half → HasSpares cells free name spares → HalfKept d cells cells free name half p true
unchanged d cells free name spares half p t h = record { name' = name; spares = spares; tree = t; held = h; keeps = record { long = omega arith; same = λ j q e k. (refl, e) }; routes = refl; entries = refl; best = λ S f k. k }

stays_link : (half : ℕ) (stays : Bool) → link (cond stays half 0) ≡ what_stays stays (link half)
stays_link half true = refl
stays_link half false = refl

goes_none : (W : ℕ → Walks) (o : Option ℕ) (stays : Bool) → stays ≡ false → from_half W (what_stays stays o) ≡ no_walks
goes_none W o stays e = ap (λ t. from_half W (what_stays t o)) e

covers_rows : (n : Node) (low low' high high' : Walks) → low'.routes ≡ low.routes → low'.entries ≡ low.entries → high'.routes ≡ high.routes → high'.entries ≡ high.entries → AreCovers n.route n.entry low high → AreCovers n.route n.entry low' high'
covers_rows n low low' high high' a b c d k = record {
  routes = subst (λ x. IsCover (join n.route.hop x high'.routes) (cover_in n.route)) (sym a) (subst (λ x. IsCover (join n.route.hop low.routes x) (cover_in n.route)) (sym c) k.routes);
  entries = subst (λ x. IsCover (join n.entry.hop x high'.entries) (cover_in n.entry)) (sym b) (subst (λ x. IsCover (join n.entry.hop low.entries x) (cover_in n.entry)) (sym d) k.entries);
}

carries : (p : List Bool) (b c : Bool) (old new : List Node) (name name' : ℕ → Owner) → b ≢ c → KeepsOthers (p ++ (b ∷ [])) old new name name' → Carries (p ++ (c ∷ [])) old new name name'
carries p b c old new name name' ne k = record { long = k.long; same = λ j q e h. k.same j q e (no (begins (p ++ (b ∷ [])) q) (λ u. both_not p q b c ne u h)) }

half_best : (d : ℕ) (old new : List Node) (name name' : ℕ → Owner) (S : ℕ → Best) (f : List Bool → ℕ) (r : List Bool) (o : Option ℕ) → Carries r old new name name' → IfHalf (λ j. IsTree d old name j r) o → IfHalf (λ j. AreBest d old S f j) o → IfHalf (λ j. AreBest d new S f j) o
half_best d old new name name' S f r o c t k = both_half (λ j. IsTree d old name j r) (λ j. AreBest d old S f j) (λ j. AreBest d new S f j) o (λ j u v. best_carry d old new S S name f j r u (λ x q e h. ((c.same x q e h).0, refl)) v) t k

module _ (d : ℕ) (old : List Node) (i : ℕ) (name : ℕ → Owner) (p : List Bool) (n : Node) where
  -- the upper half after the lower one was walked
  pub upper_after : (mid : List Node) (free : ℕ) (low : Bool) (L : HalfKept d old mid free name (half_place n false) (p ++ (false ∷ [])) low) → IfHalf (λ j. IsTree d old name j (p ++ (true ∷ []))) (half_place n true) →
      (from_half (walks_at d mid) (half_place n true) ≡ from_half (walks_at d old) (half_place n true)) × IfHalf (λ j. IsTree d mid L.name' j (p ++ (true ∷ []))) (half_place n true)
  upper_after mid free low L t = half_carried d old mid name L.name' (p ++ (true ∷ [])) (half_place n true) (λ j s. carry d old mid name L.name' j (p ++ (true ∷ [])) (carries p false true old mid name L.name' (λ e. cc) L.keeps) s) t

  pub both_kept : (mid new : List Node) (free1 free2 : ℕ) (low high : Bool) → name i ≡ At p → i < length old → IsNode (walks_at d old) (λ b j. IsTree d old name j (p ++ (b ∷ []))) n →
      (L : HalfKept d old mid free1 name (half_place n false) (p ++ (false ∷ [])) low) (H : HalfKept d mid new free2 L.name' (half_place n true) (p ++ (true ∷ [])) high) →
      BothKept d old new free2 name i p n low high (from_half (walks_at d mid) (what_stays low (half_place n false))) (from_half (walks_at d new) (what_stays high (half_place n true)))
  both_kept mid new free1 free2 low high here inside k L H =
      let lo = what_stays low (half_place n false) in
      let hi = what_stays high (half_place n true) in
      let m = with_halves n low high in
      let up = upper_after mid free1 low L (k.halves true) in
      let back = carries p true false mid new L.name' H.name' (λ e. cc) H.keeps in
      let down = half_carried d mid new L.name' H.name' (p ++ (false ∷ [])) lo (λ j s. carry d mid new L.name' H.name' j (p ++ (false ∷ [])) back s) L.tree in
      let New = walks_at d new in
      let kl : half_place m false ≡ lo = stays_link n.low low in
      let kh : half_place m true ≡ hi = stays_link n.high high in
      let el : from_half New (half_place m false) ≡ from_half (walks_at d mid) lo = ap (from_half New) kl ∙ down.0 in
      let eh : from_half New (half_place m true) ≡ from_half New hi = ap (from_half New) kh in
      let past : (j : ℕ) (q : List Bool) → name j ≡ At q → begins (p ++ (false ∷ [])) q ≡ false → begins (p ++ (true ∷ [])) q ≡ false → (cell_at new j ≡ cell_at old j) × (H.name' j ≡ At q) =
      λ j q e a b. let x = L.keeps.same j q e a in let y = H.keeps.same j q x.1 b in (y.0 ∙ x.0, y.1) in
      record {
        name' = H.name';
        spares = H.spares;
        here = (past i p here (begins_self_not p false) (begins_self_not p true)).1;
        inside = omega (arith, inside, L.keeps.long, H.keeps.long);
        node = record {
          covers = covers_rows n _ _ _ _ (ap (λ (w : Walks). w.routes) el ∙ L.routes) (ap (λ (w : Walks). w.entries) el ∙ L.entries)
              (ap (λ (w : Walks). w.routes) eh ∙ H.routes ∙ ap (λ (w : Walks). w.routes) up.0) (ap (λ (w : Walks). w.entries) eh ∙ H.entries ∙ ap (λ (w : Walks). w.entries) up.0) k.covers;
          halves = λ b. elim b as (λ b. IfHalf (λ j. IsTree d new H.name' j (p ++ (b ∷ []))) (half_place m b)) [
            | true ↦ subst (λ (o : Option ℕ). IfHalf (λ j. IsTree d new H.name' j (p ++ (true ∷ []))) o) (sym kh) H.tree
            | false ↦ subst (λ (o : Option ℕ). IfHalf (λ j. IsTree d new H.name' j (p ++ (false ∷ []))) o) (sym kl) down.1
          ];
        };
        held = H.held;
        keeps = record {
          long = omega (arith, L.keeps.long, H.keeps.long);
          same = λ j q e h. past j q e (no (begins (p ++ (false ∷ [])) q) (λ u. no_begin p q false u h)) (no (begins (p ++ (true ∷ [])) q) (λ u. no_begin p q true u h));
        };
        walks = ap (λ x. walks_of n.route.hop n.entry.hop x (from_half New (half_place m true))) el ∙ ap (λ x. walks_of n.route.hop n.entry.hop (from_half (walks_at d mid) lo) x) eh;
        best = λ S f b. elim b as (λ b. IfHalf (λ j. AreBest d old S (side b f) j) (half_place n b) → IfHalf (λ j. AreBest d new S (side b f) j) (half_place m b)) [
          | true ↦ λ x. subst (λ (o : Option ℕ). IfHalf (λ j. AreBest d new S (side true f) j) o) (sym kh)
              (H.best S (side true f) (half_best d old mid name L.name' S (side true f) (p ++ (true ∷ [])) (half_place n true) (carries p false true old mid name L.name' (λ e. cc) L.keeps) (k.halves true) x))
          | false ↦ λ x. subst (λ (o : Option ℕ). IfHalf (λ j. AreBest d new S (side false f) j) o) (sym kl)
              (half_best d mid new L.name' H.name' S (side false f) (p ++ (false ∷ [])) lo back L.tree (L.best S (side false f) x))
        ];
      }

  -- the node is told which halves stay
  node_done : (new fin : List Node) (free2 free3 : ℕ) (low high stays : Bool) (lower upper : Walks) (r : List Bool) → n ≡ cell_at old i → (b : BothKept d old new free2 name i p n low high lower upper) →
      fin ≡ slice_set new i (with_halves n low high) → free3 ≡ free2 → IsTrimmed r (walks_by (walks_at d old) n) (walks_of n.route.hop n.entry.hop lower upper) →
      lower.routes ≡ (from_half (walks_at d old) (half_place n false)).routes → lower.entries ≡ (from_half (walks_at d old) (half_place n false)).entries →
      upper.routes ≡ (from_half (walks_at d old) (half_place n true)).routes → upper.entries ≡ (from_half (walks_at d old) (half_place n true)).entries →
      (stays ≡ true → KeepsRoot r (walks_by (walks_at d old) n) (walks_of n.route.hop n.entry.hop lower upper)) → (stays ≡ false → walks_of n.route.hop n.entry.hop lower upper ≡ bare) →
      NodeTrimmed (suc d) r old fin free3 name i p stays
  unfolding walks_at AreBest
  node_done new fin free2 free3 low high stays lower upper r at b s g t lr le ur ue by gone =
      let m = with_halves n low high in
      let put = slice_set new i m in
      let x = placed d new i m b.name' p b.here b.inside b.node in
      let y = put_held new free2 i b.spares m b.name' p b.here b.held in
      let w : walks_at (suc d) put i ≡ walks_of n.route.hop n.entry.hop lower upper = x.0 ∙ b.walks in
      let was : walks_by (walks_at d old) n ≡ walks_by (walks_at d old) (cell_at old i) = ap (walks_by (walks_at d old)) at in
      subst (λ (cs : List Node). NodeTrimmed (suc d) r old cs free3 name i p stays) (sym s) (subst (λ (k : ℕ). NodeTrimmed (suc d) r old put k name i p stays) (sym g) (record {
        name' = b.name';
        spares = b.spares;
        tree = x.1;
        held = y.0;
        keeps = others_after p old new put name b.name' b.name' b.keeps y.1;
        routes = ap (λ (x : Walks). x.routes) w ∙ ap (λ x. join n.route.hop x upper.routes) lr ∙ ap (λ x. join n.route.hop (from_half (walks_at d old) (half_place n false)).routes x) ur ∙ ap (λ (x : Walks). x.routes) was;
        entries = ap (λ (x : Walks). x.entries) w ∙ ap (λ x. join n.entry.hop x upper.entries) le ∙ ap (λ x. join n.entry.hop (from_half (walks_at d old) (half_place n false)).entries x) ue ∙ ap (λ (x : Walks). x.entries) was;
        best = λ S f k. put_best d new i m b.name' p S f b.here b.inside b.node.halves k.0 (λ c. b.best S f c (subst (λ (x : Node). IfHalf (λ j. AreBest d old S (side c f) j) (half_place x c)) (sym at) (k.1 c)));
        trimmed = subst (λ (x : Walks). IsTrimmed r x (walks_at (suc d) put i)) was (subst (λ (x : Walks). IsTrimmed r (walks_by (walks_at d old) n) x) (sym w) t);
        stays_by = λ h. subst (λ (x : Walks). KeepsRoot r x (walks_at (suc d) put i)) was (subst (λ (x : Walks). KeepsRoot r (walks_by (walks_at d old) n) x) (sym w) (by h));
        bare = λ h. w ∙ gone h;
      }))

cases_some : (o : Option ℕ) → is_some o ≡ false → o ≡ None
cases_some None e = refl
cases_some (Some h) e = cc

no_labels : (route entry : Option ℕ) → (is_some route || is_some entry) ≡ false → walks_of route entry no_walks no_walks ≡ bare
no_labels None None e = refl
no_labels (Some g) entry e = cc
no_labels None (Some h) e = cc

none_stays : (low high own : Bool) → false ≡ (low || (high || own)) → (low ≡ false) × (high ≡ false) × (own ≡ false)
none_stays true high own e = cc
none_stays false true own e = cc
none_stays false false true e = cc
none_stays false false false e = (refl, refl, refl)

-- which of them stays
who_stays : (low high own : Bool) → true ≡ (low || (high || own)) → (low ≡ true) ⊎ ((high ≡ true) ⊎ (own ≡ true))
who_stays true high own e = inl refl
who_stays false true own e = inr (inl refl)
who_stays false false true e = inr (inr refl)
who_stays false false false e = cc

-- a half that is a node has a node at its root
half_there : (d : ℕ) (cells : List Node) (name : ℕ → Owner) (p : List Bool) (o : Option ℕ) → IfHalf (λ j. IsTree d cells name j p) o → is_some o ≡ true → has_node [] (from_half (walks_at d cells) o).nodes ≡ true
unfolding IsTree
half_there d cells name p None t e = cc
half_there zero cells name p (Some j) t e = absurd t
half_there (suc d) cells name p (Some j) t e = ap (λ r. has_node r (walks_at (suc d) cells j).nodes) (sym (no_bits 0 0 refl)) ∙ sym (end_node cells j 0 0 (suc d) refl (omega arith))

-- what a node has where something stays
some_stays : (low high own : Bool) (route entry : Option ℕ) (lower upper : Walks) → true ≡ (low || (high || own)) → own ≡ (is_some route || is_some entry) → (low ≡ true → has_labels lower ≡ true) → (high ≡ true → has_labels upper ≡ true) → has_labels (walks_of route entry lower upper) ≡ true
some_stays true high own route entry lower upper e o a b = labels_low route entry lower upper (a refl)
some_stays false true own route entry lower upper e o a b = labels_high route entry lower upper (b refl)
some_stays false false own route entry lower upper e o a b = labels_own route entry lower upper (sym o ∙ sym e)

bare_stays : (low high own : Bool) (route entry : Option ℕ) (lower upper : Walks) → false ≡ (low || (high || own)) → own ≡ (is_some route || is_some entry) → (low ≡ false → lower ≡ no_walks) → (high ≡ false → upper ≡ no_walks) → walks_of route entry lower upper ≡ bare
bare_stays low high own route entry lower upper e o a b =
    let k = none_stays low high own e in
    ap (λ x. walks_of route entry x upper) (a k.0) ∙ ap (λ x. walks_of route entry no_walks x) (b k.1) ∙ no_labels route entry (sym o ∙ k.2)

module _ (old : List Node) (free i depth : ℕ) (n : Node) (own stays : Bool) (low high : Bool) (at : n ≡ cell_at old i) (own_is : own ≡ (is_some n.route.hop || is_some n.entry.hop)) (stays_is : stays ≡ (low || (high || own))) where
  pub prune_node : (mid new fin : List Node) (free1 free2 free3 : ℕ) →
      ((e : ℕ) (name : ℕ → Owner) (spares : ℕ) (p : List Bool) → e ≤ depth → IfHalf (λ j. IsTree e old name j p) (half_place n false) → HasSpares old free name spares → HalfTrimmed e [] old mid free1 name (half_place n false) p low) →
      ((e : ℕ) (name : ℕ → Owner) (spares : ℕ) (p : List Bool) → e ≤ depth → IfHalf (λ j. IsTree e mid name j p) (half_place n true) → HasSpares mid free1 name spares → HalfTrimmed e [] mid new free2 name (half_place n true) p high) →
      fin ≡ slice_set new i (with_halves n low high) → free3 ≡ free2 →
      (d : ℕ) (name : ℕ → Owner) (spares : ℕ) (p : List Bool) → d ≤ depth + 1 → IsTree d old name i p → HasSpares old free name spares → NodeTrimmed d [] old fin free3 name i p stays
  unfolding IsTree
  prune_node mid new fin free1 free2 free3 lows highs put same zero name spares p l t h = absurd t
  prune_node mid new fin free1 free2 free3 lows highs put same (suc d) name spares p l t h =
      let Old = walks_at d old in
      let k : IsNode Old (λ b j. IsTree d old name j (p ++ (b ∷ []))) n = subst (λ (x : Node). IsNode Old (λ b j. IsTree d old name j (p ++ (b ∷ []))) x) (sym at) t.2 in
      let L = lows d name spares (p ++ (false ∷ [])) (omega arith) (k.halves false) h in
      let up = upper_after d old i name p n mid free1 low L.kept (k.halves true) in
      let H = highs d L.kept.name' L.kept.spares (p ++ (true ∷ [])) (omega arith) up.1 L.kept.held in
      let both = both_kept d old i name p n mid new free1 free2 low high t.0 t.1 k L.kept H.kept in
      let lower = from_half (walks_at d mid) (what_stays low (half_place n false)) in
      let upper = from_half (walks_at d new) (what_stays high (half_place n true)) in
      node_done d old i name p n new fin free2 free3 low high stays lower upper [] at both put same
      (pruned n.route.hop n.entry.hop (from_half Old (half_place n false)) (from_half Old (half_place n true)) lower upper (walks_by Old n) refl L.pruned (subst (λ (x : Walks). IsPruned [] x upper) up.0 H.pruned))
      L.kept.routes L.kept.entries (H.kept.routes ∙ ap (λ (x : Walks). x.routes) up.0) (H.kept.entries ∙ ap (λ (x : Walks). x.entries) up.0)
      (λ e. inl (some_stays low high own n.route.hop n.entry.hop lower upper (sym e ∙ stays_is) own_is (λ h. used lower.routes lower.entries _ [] (L.keeps h)) (λ h. used upper.routes upper.entries _ [] (H.keeps h))))
      (λ e. bare_stays low high own n.route.hop n.entry.hop lower upper (sym e ∙ stays_is) own_is (goes_none (walks_at d mid) (half_place n false) low) (goes_none (walks_at d new) (half_place n true) high))

  pub trim_node_high : (q left : ℕ) (new fin : List Node) (free2 free3 : ℕ) → left ≢ 0 → true ≡ nat_eq (bit_at q (left - 1)) 1 → low ≡ is_some (half_place n false) →
      ((e : ℕ) (name : ℕ → Owner) (spares : ℕ) (p : List Bool) → e ≤ depth → IfHalf (λ j. IsTree e old name j p) (half_place n true) → HasSpares old free name spares → HalfTrimmed e (bits_of (left - 1) q) old new free2 name (half_place n true) p high) →
      fin ≡ slice_set new i (with_halves n true high) → free3 ≡ free2 →
      (d : ℕ) (name : ℕ → Owner) (spares : ℕ) (p : List Bool) → d ≤ depth + 1 → IsTree d old name i p → HasSpares old free name spares → NodeTrimmed d (bits_of left q) old fin free3 name i p stays
  unfolding IsTree
  trim_node_high q left new fin free2 free3 z y low_is highs put same zero name spares p l t h = absurd t
  trim_node_high q left new fin free2 free3 z y low_is highs put same (suc d) name spares p l t h =
      let Old = walks_at d old in
      let k : IsNode Old (λ b j. IsTree d old name j (p ++ (b ∷ []))) n = subst (λ (x : Node). IsNode Old (λ b j. IsTree d old name j (p ++ (b ∷ []))) x) (sym at) t.2 in
      let L = unchanged d old free name spares (half_place n false) (p ++ (false ∷ [])) (k.halves false) h in
      let H = highs d name spares (p ++ (true ∷ [])) (omega arith) (k.halves true) h in
      let both = both_kept d old i name p n old new free free2 true high t.0 t.1 k L H.kept in
      let lower = from_half Old (half_place n false) in
      let upper = from_half (walks_at d new) (what_stays high (half_place n true)) in
      node_done d old i name p n new fin free2 free3 true high stays lower upper (bits_of left q) at both put same
      (trimmed_high n.route.hop n.entry.hop lower (from_half Old (half_place n true)) upper (walks_by Old n) left q z y refl H.pruned)
      refl refl H.kept.routes H.kept.entries
      (λ e. elim (who_stays low high own (sym e ∙ stays_is)) [
        | inl l ↦ kept_beside_high n.route.hop n.entry.hop lower (from_half Old (half_place n true)) upper (walks_by Old n) left q z y refl (half_there d old name (p ++ (false ∷ [])) (half_place n false) (k.halves false) (sym low_is ∙ l))
        | inr o ↦ elim o [
          | inl u ↦ kept_by_high n.route.hop n.entry.hop lower (from_half Old (half_place n true)) upper (walks_by Old n) left q z y refl (H.keeps u)
          | inr v ↦ inl (labels_own n.route.hop n.entry.hop lower upper (sym own_is ∙ v))
        ]
      ])
      (λ e. bare_stays low high own n.route.hop n.entry.hop lower upper (sym e ∙ stays_is) own_is (λ u. ap (from_half Old) (cases_some (half_place n false) (sym low_is ∙ u))) (goes_none (walks_at d new) (half_place n true) high))

  pub trim_node_low : (q left : ℕ) (new fin : List Node) (free2 free3 : ℕ) → left ≢ 0 → false ≡ nat_eq (bit_at q (left - 1)) 1 → high ≡ is_some (half_place n true) →
      ((e : ℕ) (name : ℕ → Owner) (spares : ℕ) (p : List Bool) → e ≤ depth → IfHalf (λ j. IsTree e old name j p) (half_place n false) → HasSpares old free name spares → HalfTrimmed e (bits_of (left - 1) q) old new free2 name (half_place n false) p low) →
      fin ≡ slice_set new i (with_halves n low true) → free3 ≡ free2 →
      (d : ℕ) (name : ℕ → Owner) (spares : ℕ) (p : List Bool) → d ≤ depth + 1 → IsTree d old name i p → HasSpares old free name spares → NodeTrimmed d (bits_of left q) old fin free3 name i p stays
  unfolding IsTree
  trim_node_low q left new fin free2 free3 z y high_is lows put same zero name spares p l t h = absurd t
  trim_node_low q left new fin free2 free3 z y high_is lows put same (suc d) name spares p l t h =
      let Old = walks_at d old in
      let k : IsNode Old (λ b j. IsTree d old name j (p ++ (b ∷ []))) n = subst (λ (x : Node). IsNode Old (λ b j. IsTree d old name j (p ++ (b ∷ []))) x) (sym at) t.2 in
      let L = lows d name spares (p ++ (false ∷ [])) (omega arith) (k.halves false) h in
      let up = upper_after d old i name p n new free2 low L.kept (k.halves true) in
      let H = unchanged d new free2 L.kept.name' L.kept.spares (half_place n true) (p ++ (true ∷ [])) up.1 L.kept.held in
      let both = both_kept d old i name p n new new free2 free2 low true t.0 t.1 k L.kept H in
      let lower = from_half (walks_at d new) (what_stays low (half_place n false)) in
      let upper = from_half (walks_at d new) (half_place n true) in
      let there = from_half Old (half_place n true) in
      node_done d old i name p n new fin free2 free3 low true stays lower upper (bits_of left q) at both put same
      (subst (λ (x : Walks). IsTrimmed (bits_of left q) (walks_by Old n) (walks_of n.route.hop n.entry.hop lower x)) (sym up.0)
      (trimmed_low n.route.hop n.entry.hop (from_half Old (half_place n false)) there lower (walks_by Old n) left q z y refl L.pruned))
      L.kept.routes L.kept.entries (ap (λ (x : Walks). x.routes) up.0) (ap (λ (x : Walks). x.entries) up.0)
      (λ e. subst (λ (x : Walks). KeepsRoot (bits_of left q) (walks_by Old n) (walks_of n.route.hop n.entry.hop lower x)) (sym up.0)
      (elim (who_stays low high own (sym e ∙ stays_is)) [
        | inl l ↦ kept_by_low n.route.hop n.entry.hop (from_half Old (half_place n false)) there lower (walks_by Old n) left q z y refl (L.keeps l)
        | inr o ↦ elim o [
          | inl u ↦ kept_beside_low n.route.hop n.entry.hop (from_half Old (half_place n false)) there lower (walks_by Old n) left q z y refl (half_there d old name (p ++ (true ∷ [])) (half_place n true) (k.halves true) (sym high_is ∙ u))
          | inr v ↦ inl (labels_own n.route.hop n.entry.hop lower there (sym own_is ∙ v))
        ]
      ]))
      (λ e. bare_stays low high own n.route.hop n.entry.hop lower upper (sym e ∙ stays_is) own_is (goes_none (walks_at d new) (half_place n false) low) (λ u. ap (from_half (walks_at d new)) (cases_some (half_place n true) (sym high_is ∙ u))))

pub trim_end : (d : ℕ) (old new : List Node) (free : ℕ) (name : ℕ → Owner) (i : ℕ) (p : List Bool) (left q : ℕ) (stays : Bool) → left ≡ 0 → NodeTrimmed d [] old new free name i p stays → NodeTrimmed d (bits_of left q) old new free name i p stays
trim_end d old new free name i p left q stays z t = subst (λ (r : List Bool). NodeTrimmed d r old new free name i p stays) (sym (no_bits left q z)) t
