-- Entries that are set one after the other, in one walk.
use Rattle.std.proofs.Common.{◌≡◌, ◌≢◌, ℕ, zero, suc, ◌-◌, ◌<◌, ◌≤◌, List, [], ◌∷◌, ◌++◌, length, Bool, true, false, ◌&&◌, cond, refl, sym, ap, ◌∙◌, subst, arith, Option, Some, None, nat_eq, slice_set, append_assoc, get_or, take, drop}
use Rattle.std.proofs.lemmas.Bool.{eqb-true}
use Rattle.std.proofs.lemmas.List.{take_all}
use Rattle.std.specs.Option.{unwrap_or}
use Rattle.std.specs.Int.{bit_at}
use Rattle.table_model.specs.Address.{Prefix}
use denote.Enum.Bare.{sameb}
use Rattle.table_model.specs.contracts.family.Family.{the_type}
use Rattle.table_model.specs.declared.family.Family.{Family}
use Rattle.table_model.specs.declared.family.Family.TheVariants.{V4, V6}
use Rattle.table_model.specs.Bits.{begins, bits_of}
use Rattle.table_model.specs.Halves.{half_at}
use Rattle.table_model.specs.Width.{width}
use Rattle.table_model.specs.Table.{Table, lpm, inherit}
use Rattle.table_model.specs.Entries.{Entries, of_table}
use Rattle.table_model.proofs.Cut.{entry}
use Rattle.table_model.specs.Regions.{join, lift}
use Rattle.table_model.specs.Sets.{side}
use Rattle.fib_addr.specs.Views.{prefix_as}
use Rattle.fib_addr.specs.declared.prefix.Prefix as code
use Rattle.fib_addr.specs.declared.entry.Entry as code_entry
use Rattle.orig_tree.specs.Edits.{put}
use Rattle.orig_tree.specs.Walk.{Walks, rows_of, edited, labelled}
use Rattle.orig_tree.specs.Cover.{IsCover, covered}
use Rattle.orig_tree.specs.Slots.{AreCovers}
use Rattle.orig_tree.specs.Arena.{Owner, At, cell_at, half_place, from_half, walks_by, walks_at, IfHalf, IsTree, HasSpares, IsSet, IsSplit, is_below, KeepsOthers, HalvesStay, cover_at, retold}
use Rattle.orig_tree.specs.Bests.{best_one, AreBest}
use Rattle.orig_tree.specs.Placed.{Climbs, told_again}
use Rattle.orig_tree.specs.Merged.{beside, with_rows, IsMerged, IsHalfMade, Merges}
use Rattle.orig_tree.specs.Packed.{cover_in}
use Rattle.orig_tree.specs.declared.cover.Cover.{Cover}
use Rattle.orig_tree.specs.declared.node.Node.{Node}
use Rattle.orig_tree.specs.declared.node.Label.{Label}
use Rattle.orig_tree.specs.declared.node.Label.TheVariants.{Route, Entry}
use Rattle.orig_tree.specs.declared.best.Best.{Best}
use Rattle.orig_tree.proofs.Lists.{edit_low, edit_high}
use Rattle.orig_tree.proofs.Paths.{no_bits}
use Rattle.orig_tree.proofs.Steps.{rows_level, given_is}
use Rattle.orig_tree.proofs.Covers.{cover_level}
use Rattle.orig_tree.proofs.Telling.{lift_append, lift_lift, seen_append, told_own, half_longer}
use Rattle.orig_tree.proofs.Arena.{begins_self_not, half_carried, carry, cover_half, cover_packed, renode, placed, set_here}
use Rattle.orig_tree.proofs.Rooms.{no, no_begin, both_not, spare_kept}
use Rattle.orig_tree.proofs.Halving.{halves_same, halves_retold}
use Rattle.orig_tree.proofs.Standing.{stands_one, best_alike, best_stay, best_same}
use Rattle.orig_tree.proofs.Mending.{half_gets}
use Rattle.orig_tree.proofs.Heading.{both_true}
use Rattle.orig_tree.proofs.Settling.{others_after, put_held}
use Rattle.orig_tree.proofs.Growing.{grown_end, grown_alike, grown_below, tree_side, split_grown}

-- ---- tables

pub rows_append : (T U R : Table) → with_rows (T ++ U) R ≡ with_rows U (with_rows T R)
rows_append [] U R = refl
rows_append (e ∷ T) U R = rows_append T U (put e.prefix e.hop R)

pub rows_low : (T : Table) (o : Option ℕ) (L M : Table) → with_rows (lift (false ∷ []) T) (join o L M) ≡ join o (with_rows T L) M
rows_low [] o L M = refl
rows_low (e ∷ T) o L M = ap (with_rows (lift (false ∷ []) T)) (edit_low e.prefix (Some e.hop) o L M) ∙ rows_low T o (put e.prefix e.hop L) M

pub rows_high : (T : Table) (o : Option ℕ) (L M : Table) → with_rows (lift (true ∷ []) T) (join o L M) ≡ join o L (with_rows T M)
rows_high [] o L M = refl
rows_high (e ∷ T) o L M = ap (with_rows (lift (true ∷ []) T)) (edit_high e.prefix (Some e.hop) o L M) ∙ rows_high T o L (put e.prefix e.hop M)

pub rows_edited : (label : Label) (q : List Bool) (h : ℕ) (w : Walks) → rows_of label (edited label q (Some h) w) ≡ put q h (rows_of label w)
rows_edited Route q h w = refl
rows_edited Entry q h w = refl

pub beside_edited : (label : Label) (q : List Bool) (o : Option ℕ) (w : Walks) → rows_of (beside label) (edited label q o w) ≡ rows_of (beside label) w
beside_edited Route q o w = refl
beside_edited Entry q o w = refl

-- where entries are set the other label is the routes'
pub routes_by : (label : Label) → label ≡ Entry → (a b : Walks) → rows_of (beside label) a ≡ rows_of (beside label) b → a.routes ≡ b.routes
routes_by Route u a b e = cc
routes_by Entry u a b e = e

pub rows_alike : (label : Label) (a b : Walks) → a.routes ≡ b.routes → a.entries ≡ b.entries → rows_of label a ≡ rows_of label b
rows_alike Route a b r e = r
rows_alike Entry a b r e = e

-- ---- one after the other

pub merged_none : (d : ℕ) (label : Label) (cells : List Node) (free n : ℕ) (name : ℕ → Owner) (i : ℕ) (p : List Bool) (h : ℕ) (S : ℕ → Best) → IsTree d cells name i p → HasSpares cells free name n → IsMerged d label [] cells cells free name i p h S S
merged_none d label cells free n name i p h S t held = record {
  name' = name;
  spares = n;
  tree = t;
  held = held;
  keeps = record { long = omega arith; same = λ j q e u. (refl, e) };
  rows = refl;
  other = refl;
  grown = λ e k. grown_end d cells name i p (λ a. lpm (walks_at d cells i).routes a h) S k;
}

pub merged_after : (d : ℕ) (label : Label) (T U : Table) (old mid new : List Node) (free free' : ℕ) (name : ℕ → Owner) (i : ℕ) (p : List Bool) (h : ℕ) (S S1 S' : ℕ → Best) →
    (x : IsMerged d label T old mid free name i p h S S1) → IsMerged d label U mid new free' x.name' i p h S1 S' → IsMerged d label (T ++ U) old new free' name i p h S S'
merged_after d label T U old mid new free free' name i p h S S1 S' x y = record {
  name' = y.name';
  spares = y.spares;
  tree = y.tree;
  held = y.held;
  keeps = others_after p old mid new name x.name' y.name' x.keeps y.keeps;
  rows = y.rows ∙ (ap (with_rows U) x.rows ∙ sym (rows_append T U (rows_of label (walks_at d old i))));
  other = y.other ∙ x.other;
  grown = λ e k.
      let a = x.grown e k in
      let same = routes_by label e (walks_at d mid i) (walks_at d old i) x.other in
      let b = y.grown e (best_alike d mid S1 (λ a. lpm (walks_at d old i).routes a h) (λ a. lpm (walks_at d mid i).routes a h) i (λ a u. ap (λ R. lpm R a h) (sym same)) a.best) in
      record {
        best = best_alike d new S' (λ a. lpm (walks_at d mid i).routes a h) (λ a. lpm (walks_at d old i).routes a h) i (λ a u. ap (λ R. lpm R a h) same) b.best;
        keeps = λ j r v out. b.keeps j r (x.keeps.same j r v out).1 out ∙ a.keeps j r v out;
      };
}

-- a label is set at a path that is a node
pub merged_set : (d : ℕ) (label : Label) (q : List Bool) (hop : ℕ) (old new : List Node) (free n : ℕ) (name : ℕ → Owner) (i : ℕ) (p : List Bool) (h : ℕ) (S : ℕ → Best) → HalvesStay old new → HasSpares old free name n →
    IsSet d label q (Some hop) old new name i p → IsMerged d label (entry q hop ∷ []) old new free name i p h S S
merged_set d label q hop old new free n name i p h S stay held s = record {
  name' = name;
  spares = n;
  tree = s.tree;
  held = record {
    past = λ j l. held.past j (omega (arith, l, s.keeps.long));
    spare = spare_kept n old new name name free (omega (arith, s.keeps.long)) (λ j m l e. (s.keeps.same j (ap (is_below p) e), e)) held.spare;
  };
  keeps = record { long = omega (arith, s.keeps.long); same = λ j r e out. (s.keeps.same j (ap (is_below p) e ∙ out), e) };
  rows = ap (rows_of label) s.walks ∙ rows_edited label q hop (walks_at d old i);
  other = ap (rows_of (beside label)) s.walks ∙ beside_edited label q (Some hop) (walks_at d old i);
  grown = λ e k. grown_end d new name i p (λ a. lpm (walks_at d old i).routes a h) S (best_stay d old new S (λ a. lpm (walks_at d old i).routes a h) i stay k);
}

-- ---- a half is opened

pub opened_some : (d : ℕ) (b : Bool) (cells : List Node) (free n : ℕ) (name : ℕ → Owner) (i : ℕ) (p : List Bool) (h : ℕ) (S : ℕ → Best) (j : ℕ) → half_place (cell_at cells i) b ≡ Some j → IsTree d cells name i p → HasSpares cells free name n →
    IsHalfMade d b cells cells free name i p h S S j
opened_some d b cells free n name i p h S j is t held = record { merged = λ label. merged_none d label cells free n name i p h S t held; half = is }

one_bit : (b : Bool) → b ≡ nat_eq (bit_at (cond b 1 0) 0) 1
one_bit true = refl
one_bit false = refl

pub opened_none : (d : ℕ) (b : Bool) (n : Node) (old mid : List Node) (free : ℕ) (name : ℕ → Owner) (i : ℕ) (p : List Bool) (h hop : ℕ) (S S1 : ℕ → Best) (j : ℕ) → n ≡ cell_at old i → hop ≡ unwrap_or n.route.hop h → half_place n b ≡ None → 1 < d → IsTree d old name i p →
    IsSplit d b old mid free name i p j → ((k : ℕ) (r : List Bool) → name k ≡ At r → k ≢ j → S1 k ≡ S k) → S1 j ≡ best_one hop → IsHalfMade d b old mid free name i p h S S1 j
opened_none d b n old mid free name i p h hop S S1 j at hop_is gone l t s same fresh =
    let walks = s.walks [] in
    record {
      merged = λ label. record {
        name' = s.name';
        spares = s.spares;
        tree = s.tree;
        held = s.held;
        keeps = s.keeps;
        rows = rows_alike label (walks_at d mid i) (walks_at d old i) walks.routes walks.entries;
        other = rows_alike (beside label) (walks_at d mid i) (walks_at d old i) walks.routes walks.entries;
        grown = λ e k. (split_grown 1 (cond b 1 0) h hop b None n old mid mid free i j d name p S S1 S1 (best_one hop) at (λ z. omega (arith, z)) (one_bit b) hop_is gone l t s same fresh (λ e q m. stands_one e hop (λ a. hop) (λ a u. refl))).1
            (λ v. grown_end d mid s.name' i p (λ a. lpm (walks_at d mid i).routes a h) S1 v) k;
      };
      half = s.half;
    }

-- what was reserved is what there was
pub opened_same : (d : ℕ) (b : Bool) (old mid new : List Node) (free : ℕ) (name : ℕ → Owner) (i : ℕ) (p : List Bool) (h : ℕ) (S S1 S' : ℕ → Best) (j : ℕ) → mid ≡ old → ((k : ℕ) → S1 k ≡ S k) → IsHalfMade d b mid new free name i p h S1 S' j → IsHalfMade d b old new free name i p h S S' j
opened_same d b old mid new free name i p h S S1 S' j e s x =
    let y = subst (λ (cs : List Node). IsHalfMade d b cs new free name i p h S1 S' j) e x in
    record {
      merged = λ label.
          let w = y.merged label in
          record {
            name' = w.name';
            spares = w.spares;
            tree = w.tree;
            held = w.held;
            keeps = w.keeps;
            rows = w.rows;
            other = w.other;
            grown = λ u k.
                let g = w.grown u (best_same d old S S1 (λ a. lpm (walks_at d old i).routes a h) i s k) in
                record { best = g.best; keeps = λ z r v out. g.keeps z r v out ∙ s z };
          };
      half = y.half;
    }

-- ---- below a half

-- a node with one label told again, once its halves' tables of that label have changed
covers_merged : (label : Label) (own : Option ℕ) (cl ch : Cover) (n : Node) (low high low' high' : Walks) → rows_of (beside label) low' ≡ rows_of (beside label) low → rows_of (beside label) high' ≡ rows_of (beside label) high →
    AreCovers n.route n.entry low high → IsCover (rows_of label low') cl → IsCover (rows_of label high') ch → AreCovers (retold label own cl ch n).route (retold label own cl ch n).entry low' high'
covers_merged Route own cl ch n low high low' high' a b c l r = record {
  routes = cover_packed (join own low'.routes high'.routes) (covered own cl ch) (cover_level own low'.routes high'.routes cl ch l r);
  entries = subst (λ (x : Table). IsCover (join n.entry.hop x high'.entries) (cover_in n.entry)) (sym a) (subst (λ (x : Table). IsCover (join n.entry.hop low.entries x) (cover_in n.entry)) (sym b) c.entries);
}
covers_merged Entry own cl ch n low high low' high' a b c l r = record {
  routes = subst (λ (x : Table). IsCover (join n.route.hop x high'.routes) (cover_in n.route)) (sym a) (subst (λ (x : Table). IsCover (join n.route.hop low.routes x) (cover_in n.route)) (sym b) c.routes);
  entries = cover_packed (join own low'.entries high'.entries) (covered own cl ch) (cover_level own low'.entries high'.entries cl ch l r);
}

own_retold : (label : Label) (own : Option ℕ) (cl ch : Cover) (n : Node) → labelled label (retold label own cl ch n).route.hop (retold label own cl ch n).entry.hop ≡ own
own_retold Route own cl ch n = refl
own_retold Entry own cl ch n = refl

beside_retold : (label : Label) (own : Option ℕ) (cl ch : Cover) (n : Node) → labelled (beside label) (retold label own cl ch n).route.hop (retold label own cl ch n).entry.hop ≡ labelled (beside label) n.route.hop n.entry.hop
beside_retold Route own cl ch n = refl
beside_retold Entry own cl ch n = refl

module _ (d : ℕ) (label : Label) (T : Table) (mid below : List Node) (free : ℕ) (name : ℕ → Owner) (i j : ℕ) (p : List Bool) (b : Bool) (h hop : ℕ) (S S' : ℕ → Best) where
  pub merged_half : (new : List Node) → IsTree (suc d) mid name i p → half_place (cell_at mid i) b ≡ Some j → hop ≡ unwrap_or (cell_at mid i).route.hop h → IsMerged d label T mid below free name j (p ++ (b ∷ [])) hop S S' →
      new ≡ slice_set below i (told_again label below (cell_at below i)) → IsMerged (suc d) label (lift (b ∷ []) T) mid new free name i p h S S'
  unfolding walks_at IsTree AreBest
  merged_half new t is hop_is y e =
      let n = cell_at mid i in
      let Old = walks_at d mid in
      let W = walks_at d below in
      let at = y.keeps.same i p t.0 (begins_self_not p b) in
      let own = labelled label n.route.hop n.entry.hop in
      let cl = cover_at below label (half_place n false) in
      let ch = cover_at below label (half_place n true) in
      let m = retold label own cl ch n in
      let put_is : new ≡ slice_set below i m = e ∙ ap (λ (x : Node). slice_set below i (told_again label below x)) at.0 in
      let low = from_half Old (half_place n false) in
      let high = from_half Old (half_place n true) in
      let low' = from_half W (half_place n false) in
      let high' = from_half W (half_place n true) in
      let In : Bool → ℕ → Type 0 = λ c x. IsTree d below y.name' x (p ++ (c ∷ [])) in
      let rest : (c : Bool) → b ≢ c → (from_half W (half_place n c) ≡ from_half Old (half_place n c)) × IfHalf (In c) (half_place n c) =
      λ c ne. half_carried d mid below name y.name' (p ++ (c ∷ [])) (half_place n c) (λ x s. carry d mid below name y.name' x (p ++ (c ∷ []))
      (record { long = y.keeps.long; same = λ x v f u. y.keeps.same x v f (no (begins (p ++ (b ∷ [])) v) (λ w. both_not p v b c ne w u)) }) s) (t.2.halves c) in
      let Mine : Bool → Option ℕ → Type 0 = λ c o. (rows_of label (from_half W o) ≡ with_rows T (rows_of label (from_half Old o))) × (rows_of (beside label) (from_half W o) ≡ rows_of (beside label) (from_half Old o)) × IfHalf (In c) o in
      let mine : Mine b (half_place n b) = subst (λ (o : Option ℕ). Mine b o) (sym is) (y.rows, y.other, y.tree) in
      let Both : Type 0 = (join own (rows_of label low') (rows_of label high') ≡ with_rows (lift (b ∷ []) T) (join own (rows_of label low) (rows_of label high)))
      × (rows_of (beside label) low' ≡ rows_of (beside label) low) × (rows_of (beside label) high' ≡ rows_of (beside label) high) × ((c : Bool) → IfHalf (In c) (half_place n c)) in
      let both : Both = sides b mine rest in
      let covers = covers_merged label own cl ch n low high low' high' both.1 both.2 t.2.covers
      (cover_half label d below y.name' (p ++ (false ∷ [])) (half_place n false) (both.3 false)) (cover_half label d below y.name' (p ++ (true ∷ [])) (half_place n true) (both.3 true)) in
      let g = renode label own cl ch n W In covers both.3 in
      let x = placed d below i m y.name' p at.1 (omega (arith, t.1, y.keeps.long)) g.1 in
      let ph = put_held below free i y.spares m y.name' p at.1 y.held in
      let inner : KeepsOthers p mid below name y.name' = record { long = y.keeps.long; same = λ z v f u. y.keeps.same z v f (no (begins (p ++ (b ∷ [])) v) (λ w. no_begin p v b w u)) } in
      let f : List Bool → ℕ = λ a. lpm (walks_by Old n).routes a h in
      subst (λ (cs : List Node). IsMerged (suc d) label (lift (b ∷ []) T) mid cs free name i p h S S') (sym put_is) (record {
        name' = y.name';
        spares = y.spares;
        tree = x.1;
        held = ph.0;
        keeps = others_after p mid below (slice_set below i m) name y.name' y.name' inner ph.1;
        rows = ap (rows_of label) (x.0 ∙ g.0) ∙ (rows_level label m.route.hop m.entry.hop low' high' ∙ (ap (λ o. join o (rows_of label low') (rows_of label high')) (own_retold label own cl ch n) ∙ (both.0 ∙ ap (with_rows (lift (b ∷ []) T)) (sym (rows_level label n.route.hop n.entry.hop low high)))));
        other = ap (rows_of (beside label)) (x.0 ∙ g.0) ∙ (rows_level (beside label) m.route.hop m.entry.hop low' high'
            ∙ (ap (λ o. join o (rows_of (beside label) low') (rows_of (beside label) high')) (beside_retold label own cl ch n)
            ∙ (ap (λ L. join (labelled (beside label) n.route.hop n.entry.hop) L (rows_of (beside label) high')) both.1
            ∙ (ap (λ M. join (labelled (beside label) n.route.hop n.entry.hop) (rows_of (beside label) low) M) both.2 ∙ sym (rows_level (beside label) n.route.hop n.entry.hop low high)))));
        grown = λ u k.
            let gets : (a : List Bool) → lpm (Old j).routes a hop ≡ side b f a = λ a. sym (half_gets Old n b h a ∙ (ap (λ o. lpm (from_half Old o).routes a (inherit n.route.hop h)) is ∙ ap (λ z. lpm (Old j).routes a z) (given_is n.route.hop h ∙ sym hop_is))) in
            let mine_best : AreBest d mid S (side b f) j = subst (λ (o : Option ℕ). IfHalf (λ z. AreBest d mid S (side b f) z) o) is (k.1 b) in
            let a = y.grown u (best_alike d mid S (side b f) (λ a. lpm (Old j).routes a hop) j (λ a l. sym (gets a)) mine_best) in
            let w = grown_below d mid below i j name y.name' p b f S S' is t y.keeps k (grown_alike d below name j (p ++ (b ∷ [])) (λ a. lpm (Old j).routes a hop) (side b f) S S' gets a) in
            record {
              best = best_stay (suc d) below (slice_set below i m) S' f i (halves_retold below below (slice_set below i m) i label own cl ch (cell_at below i) m refl (ap (retold label own cl ch) (sym at.0)) refl (halves_same below)) w.best;
              keeps = w.keeps;
            };
      })
    where
      sides : (c : Bool) → (let n = cell_at mid i in
          (rows_of label (from_half (walks_at d below) (half_place n c)) ≡ with_rows T (rows_of label (from_half (walks_at d mid) (half_place n c)))) × (rows_of (beside label) (from_half (walks_at d below) (half_place n c)) ≡ rows_of (beside label) (from_half (walks_at d mid) (half_place n c))) × IfHalf (λ z. IsTree d below y.name' z (p ++ (c ∷ []))) (half_place n c) →
          ((e : Bool) → c ≢ e → (from_half (walks_at d below) (half_place n e) ≡ from_half (walks_at d mid) (half_place n e)) × IfHalf (λ z. IsTree d below y.name' z (p ++ (e ∷ []))) (half_place n e)) →
          (join (labelled label n.route.hop n.entry.hop) (rows_of label (from_half (walks_at d below) (half_place n false))) (rows_of label (from_half (walks_at d below) (half_place n true)))
          ≡ with_rows (lift (c ∷ []) T) (join (labelled label n.route.hop n.entry.hop) (rows_of label (from_half (walks_at d mid) (half_place n false))) (rows_of label (from_half (walks_at d mid) (half_place n true)))))
          × (rows_of (beside label) (from_half (walks_at d below) (half_place n false)) ≡ rows_of (beside label) (from_half (walks_at d mid) (half_place n false)))
          × (rows_of (beside label) (from_half (walks_at d below) (half_place n true)) ≡ rows_of (beside label) (from_half (walks_at d mid) (half_place n true)))
          × ((e : Bool) → IfHalf (λ z. IsTree d below y.name' z (p ++ (e ∷ []))) (half_place n e)))
      sides true m r =
          let n = cell_at mid i in
          let own = labelled label n.route.hop n.entry.hop in
          let o = r false (λ z. cc) in (
            ap (λ L. join own L (rows_of label (from_half (walks_at d below) (half_place n true)))) (ap (rows_of label) o.0)
                ∙ (ap (join own (rows_of label (from_half (walks_at d mid) (half_place n false)))) m.0 ∙ sym (rows_high T own (rows_of label (from_half (walks_at d mid) (half_place n false))) (rows_of label (from_half (walks_at d mid) (half_place n true))))),
            ap (rows_of (beside label)) o.0,
            m.1,
            λ e. elim e as (λ e. IfHalf (λ z. IsTree d below y.name' z (p ++ (e ∷ []))) (half_place n e)) [ true ↦ m.2 | false ↦ o.1 ],
          )
      sides false m r =
          let n = cell_at mid i in
          let own = labelled label n.route.hop n.entry.hop in
          let o = r true (λ z. cc) in (
            ap (λ L. join own L (rows_of label (from_half (walks_at d below) (half_place n true)))) m.0
                ∙ (ap (join own (with_rows T (rows_of label (from_half (walks_at d mid) (half_place n false))))) (ap (rows_of label) o.0) ∙ sym (rows_low T own (rows_of label (from_half (walks_at d mid) (half_place n false))) (rows_of label (from_half (walks_at d mid) (half_place n true))))),
            m.1,
            ap (rows_of (beside label)) o.0,
            λ e. elim e as (λ e. IfHalf (λ z. IsTree d below y.name' z (p ++ (e ∷ []))) (half_place n e)) [ true ↦ o.1 | false ↦ m.2 ],
          )

-- ---- what is taken from the front of a list

pub merges_none : (label : Label) (h levels : ℕ) (p : Prefix) (cells : List Node) (free : ℕ) (S : ℕ → Best) (i : ℕ) (E : Entries) → Merges label h levels p cells cells free free S S i E E
merges_none label h levels p cells free S i E = record { taken = []; front = refl; merged = λ d name n r l t held. merged_none d label cells free n name i r h S t held }

pub merges_after : (label : Label) (h levels : ℕ) (p : Prefix) (old mid new : List Node) (free free1 free' : ℕ) (S S1 S' : ℕ → Best) (i : ℕ) (E D F : Entries) → Merges label h levels p old mid free free1 S S1 i E D → Merges label h levels p mid new free1 free' S1 S' i D F →
    Merges label h levels p old new free free' S S' i E F
merges_after label h levels p old mid new free free1 free' S S1 S' i E D F x y = record {
  taken = x.taken ++ y.taken;
  front = x.front ∙ (ap (λ z. of_table p.family (lift p.bits x.taken) ++ z) y.front ∙ (sym (append_assoc (of_table p.family (lift p.bits x.taken)) (of_table p.family (lift p.bits y.taken)) F)
      ∙ ap (λ z. z ++ F) (sym (ap (of_table p.family) (lift_append p.bits x.taken y.taken) ∙ seen_append p.family (lift p.bits x.taken) (lift p.bits y.taken)))));
  merged = λ d name n r l t held.
      let a = x.merged d name n r l t held in
      merged_after d label x.taken y.taken old mid new free1 free' name i r h S S1 S' a (y.merged d a.name' a.spares r l a.tree a.held);
}

pub first_rest : (E : List code_entry.Entry) (x : code_entry.Entry) → 1 ≤ length E → x ≡ get_or E 0 x → E ≡ x ∷ take (length E - 1) (drop 1 E)
first_rest [] x l e = absurd (omega arith)
first_rest (y ∷ E) x l e = ap (λ z. z ∷ E) (sym e) ∙ ap (λ F. x ∷ F) (sym (take_all (length (y ∷ E) - 1) E (omega arith)))

same_families : (f g : Family) → sameb the_type f g ≡ true → f ≡ g
same_families V4 V4 e = refl
same_families V6 V6 e = refl
same_families V4 V6 e = cc
same_families V6 V4 e = cc

pub same_code : (p q : code.Prefix) → true ≡ (nat_eq p.bits q.bits && (sameb the_type p.family q.family && nat_eq p.len q.len)) → prefix_as p ≡ prefix_as q
same_code p q e =
    let a = both_true (nat_eq p.bits q.bits) (sameb the_type p.family q.family && nat_eq p.len q.len) (sym e) in
    let b = both_true (sameb the_type p.family q.family) (nat_eq p.len q.len) a.1 in
    ap (λ f. let x : Prefix = record { family = f; bits = take p.len (bits_of (width f) p.bits) } in x) (same_families p.family q.family b.0)
    ∙ (ap (λ n. let x : Prefix = record { family = q.family; bits = take p.len (bits_of (width q.family) n) } in x) (eqb-true p.bits q.bits a.0)
    ∙ ap (λ l. let x : Prefix = record { family = q.family; bits = take l (bits_of (width q.family) q.bits) } in x) (eqb-true p.len q.len b.1))

-- the first entry is the node's own
pub merges_own : (label : Label) (h levels : ℕ) (p : Prefix) (n : Node) (m : Node) (old new : List Node) (free free' : ℕ) (S : ℕ → Best) (i hop : ℕ) (E : Entries) → n ≡ cell_at old i → m ≡ retold label (Some hop) (cover_at old label (half_place n false)) (cover_at old label (half_place n true)) n →
    new ≡ slice_set old i m → free' ≡ free → Merges label h levels p old new free free' S S i ((p, hop) ∷ E) E
merges_own label h levels p n m old new free free' S i hop E at r s fr =
    subst (λ (x : ℕ). Merges label h levels p old new free x S S i ((p, hop) ∷ E) E) (sym fr) (record {
      taken = entry [] hop ∷ [];
      front = ap (λ z. z ++ E) (told_own p (Some hop));
      merged = λ d name c v l t held. merged_set d label [] hop old new free c name i v h S (halves_retold old old new i label (Some hop) _ _ n m at r s (halves_same old)) held (subst (λ (q : List Bool). IsSet d label q (Some hop) old new name i v) (no_bits 0 0 refl) (set_here label 0 0 (Some hop) old i n at new m d name v refl r s t));
    })

pub merges_half : (label : Label) (h hop : ℕ) (p q : code.Prefix) (b more : Bool) (old mid below new : List Node) (free free1 free2 free' : ℕ) (S S1 S' : ℕ → Best) (i j : ℕ) (E D : Entries) → p.len < width p.family → prefix_as q ≡ half_at b (prefix_as p) →
    ((d : ℕ) (name : ℕ → Owner) (n : ℕ) (r : List Bool) → 1 < d → IsTree d old name i r → HasSpares old free name n → IsHalfMade d b old mid free1 name i r h S S1 j) → hop ≡ unwrap_or (cell_at mid i).route.hop h →
    Merges label hop (width q.family - q.len) (prefix_as q) mid below free1 free2 S1 S' j E D → Climbs label true more below new i → free' ≡ free2 →
    Merges label h (width p.family - p.len) (prefix_as p) old new free free' S S' i E D
merges_half label h hop p q b more old mid below new free free1 free2 free' S S1 S' i j E D longer half opens hop_is y climbs fr =
    let P = prefix_as p in
    let len = half_longer p q b half in
    let fam = ap (λ (x : Prefix). width x.family) half in
    subst (λ (x : ℕ). Merges label h (width p.family - p.len) P old new free x S S' i E D) (sym fr) (record {
      taken = lift (b ∷ []) y.taken;
      front = y.front ∙ ap (λ z. z ++ D) (ap (λ (x : Prefix). of_table x.family (lift x.bits y.taken)) half ∙ ap (of_table P.family) (sym (lift_lift P.bits (b ∷ []) y.taken)));
      merged = λ d name n r l t held. by_depth d name n r l t held (omega (arith, longer, l));
    })
  where
    by_depth : (d : ℕ) (name : ℕ → Owner) (n : ℕ) (r : List Bool) → width p.family - p.len < d → IsTree d old name i r → HasSpares old free name n → 1 < d → IsMerged d label (lift (b ∷ []) y.taken) old new free2 name i r h S S'
    by_depth zero name n r l t held m = absurd (omega (arith, m))
    by_depth (suc d) name n r l t held m =
        let o = opens (suc d) name n r m t held in
        let w = o.merged label in
        let in_half = tree_side d mid w.name' i j r b o.half w.tree in
        let u = y.merged d w.name' w.spares (r ++ (b ∷ [])) (omega (arith, l, longer, half_longer p q b half, ap (λ (x : Prefix). width x.family) half)) in_half w.held in
        merged_after (suc d) label [] (lift (b ∷ []) y.taken) old mid new free1 free2 name i r h S S1 S' w (merged_half d label y.taken mid below free2 w.name' i j r b h hop S1 S' new w.tree o.half hop_is u climbs.0)
