-- The whole tree where a route is set or taken away, with what is kept.
use Rattle.std.proofs.Common.{◌≡◌, ℕ, suc, ◌+◌, ◌<◌, ◌≤◌, List, [], ◌∷◌, length, Bool, true, false, refl, sym, ap, ◌∙◌, subst, arith, Option, Some, None}
use Rattle.table_model.specs.Bits.{bits_of}
use Rattle.table_model.specs.Width.{width}
use Rattle.table_model.specs.declared.family.Family.{Family}
use Rattle.table_model.specs.Table.{lpm}
use Rattle.table_model.specs.Sets.{side}
use Rattle.orig_tree.specs.Edits.{edit}
use Rattle.orig_tree.specs.Walk.{Walks, no_walks, walks_of, edited, CanEdit, has_node}
use Rattle.orig_tree.specs.Arena.{Owner, blank_cell, cell_at, half_place, IfHalf, walks_at, IsTree, HasSpares, MakesRoom, IsRoomier, HalvesStay, whole, IsArena}
use Rattle.orig_tree.specs.Bests.{IsRegionBest, best_one, AreBest, changed, laid, Untouched, IsMended, IsGrown, KeepsBest, IsLaid}
use Rattle.orig_tree.specs.declared.node.Node.{Node}
use Rattle.orig_tree.specs.declared.node.Label.TheVariants.{Route}
use Rattle.orig_tree.specs.declared.best.Best.{Best}
use Rattle.orig_tree.specs.declared.best.Change.{Change}
use Rattle.orig_tree.proofs.Roots.{same_whole, room_whole}
use Rattle.orig_tree.proofs.Standing.{stands_one, best_same, best_alike, best_stay, best_carry}
use Rattle.orig_tree.proofs.Growing.{within_it}
use Rattle.orig_tree.proofs.Undoing.{Assigns, put_in}
use Rattle.orig_tree.proofs.Placing.{Places, placed_whole}

-- ---- the root alone

pub root_keeps : (f : Family) (cells : List Node) (kept : ℕ → Best) → cells ≡ blank_cell ∷ [] → whole f cells ≡ walks_of None None no_walks no_walks → ((i : ℕ) → kept i ≡ best_one 0) → KeepsBest f cells kept
unfolding AreBest
root_keeps f cells kept e w k = (
  subst (λ (x : Best). IsRegionBest (width f) (λ a. lpm (whole f cells).routes a 0) x) (sym (k 0)) (stands_one (width f) 0 (λ a. lpm (whole f cells).routes a 0) (λ a l. ap (λ (x : Walks). lpm x.routes a 0) w)),
  λ b. subst (λ (cs : List Node). IfHalf (λ j. AreBest (width f) cells kept (side b (λ a. lpm (whole f cells).routes a 0)) j) (half_place (cell_at cs 0) b)) (sym e) (no_half b),
)
  where
    no_half : (b : Bool) → IfHalf (λ j. AreBest (width f) cells kept (side b (λ a. lpm (whole f cells).routes a 0)) j) (half_place blank_cell b)
    no_half true = tt
    no_half false = tt

-- ---- room

pub stays : (f : Family) (old new : List Node) (S S' : ℕ → Best) → new ≡ old → ((j : ℕ) → S' j ≡ S j) → KeepsBest f old S → KeepsBest f new S'
stays f old new S S' e s k = subst (λ (cs : List Node). KeepsBest f cs S') (sym e) (best_same (suc (width f)) old S S' (λ a. lpm (whole f old).routes a 0) 0 s k)

abbrev pub GrowsNodes : List Bool → ℕ → List Node → ℕ → List Node → ℕ → Type 0
GrowsNodes p len old free new free' =
    (d : ℕ) (name : ℕ → Owner) (n : ℕ) (r : List Bool) → len < d → IsTree d old name 0 r → HasSpares old free name n → MakesRoom d p old new free' name 0 r

abbrev pub GrowsBest : Option ℕ → List Bool → ℕ → List Node → ℕ → List Node → (ℕ → Best) → (ℕ → Best) → Type 0
GrowsBest set p len old free new S S' =
    (d : ℕ) (name : ℕ → Owner) (n : ℕ) (r : List Bool) → len < d → IsTree d old name 0 r → HasSpares old free name n →
    AreBest d old S (λ a. lpm (laid set p (walks_at d old 0).routes) a 0) 0 → IsGrown d new name 0 r (λ a. lpm (laid set p (walks_at d old 0).routes) a 0) S S'

module _ (f : Family) (q len : ℕ) (few : len ≤ width f) (old mid : List Node) (free free1 : ℕ) (S S1 : ℕ → Best) (a : IsArena f old free) (same : mid ≡ old) (frees : free1 ≡ free) (bests : (j : ℕ) → S1 j ≡ S j) (k : KeepsBest f old S) where
  p : List Bool
  p = bits_of len q

  a1 : IsArena f mid free1
  a1 = (same_whole f q len free free1 old mid a same frees).2

  k1 : KeepsBest f mid S1
  k1 = stays f old mid S S1 same bests k

  pub made_room : (new : List Node) (free' : ℕ) (S' : ℕ → Best) → GrowsNodes (bits_of len q) len mid free1 new free' → GrowsBest None (bits_of len q) len mid free1 new S1 S' →
      IsRoomier (bits_of len q) (whole f old) (whole f new) × (has_node (bits_of len q) (whole f new).nodes ≡ true) × IsArena f new free' × KeepsBest f new S'
  made_room new free' S' gn gb =
      let r = room_whole f q len free1 free' mid new few a1 gn in
      let g = gb (suc (width f)) a1.name a1.spares [] (omega (arith, few)) a1.tree a1.held k1 in (
        subst (λ (w : Walks). IsRoomier (bits_of len q) w (whole f new)) (ap (whole f) same) r.0,
        r.1,
        r.2,
        best_alike (suc (width f)) new S' (λ a. lpm (whole f mid).routes a 0) (λ a. lpm (whole f new).routes a 0) 0 (λ a l. ap (λ R. lpm R a 0) (sym r.0.routes)) g.best,
      )

  -- ---- a route

  abbrev Plans : Option ℕ → ℕ → List Change → List Change → Best → Type 0
  Plans set depth O C x =
      (name : ℕ → Owner) (r : List Bool) → IsTree (suc depth) mid name 0 r → AreBest (suc depth) mid S1 (λ a. lpm (walks_at (suc depth) mid 0).routes a 0) 0 → Untouched r name S1 (changed O S1) →
      IsMended depth mid name 0 r (λ a. lpm (edit (bits_of len q) set (walks_at (suc depth) mid 0).routes) a 0) (changed O S1) (changed C S1) x

  after_plan : (set : Option ℕ) (depth n : ℕ) (O C : List Change) (x : Best) (S2 : ℕ → Best) → depth ≡ width f → O ≡ [] → length mid ≤ n + 1 → Plans set depth O C x → ((j : ℕ) → j ≤ n → S2 j ≡ changed C S1 j) →
      AreBest (suc (width f)) mid S2 (λ a. lpm (edit (bits_of len q) set (whole f mid).routes) a 0) 0
  after_plan set depth n O C x S2 w o l plan made =
      let plan' = subst (λ (D : ℕ). Plans set D O C x) w plan in
      let m = plan' a1.name [] a1.tree k1 (λ j r e b. ap (λ cs. changed cs S1 j) o) in
      best_carry (suc (width f)) mid mid (changed C S1) S2 a1.name (λ a. lpm (edit (bits_of len q) set (whole f mid).routes) a 0) 0 [] a1.tree
      (λ j r e b. (refl, made j (omega (arith, l, within_it mid free1 a1.spares j a1.name r a1.held e)))) m.best

  pub is_laid : (hop depth n : ℕ) (O C : List Change) (x : Best) (S2 S3 : ℕ → Best) (done new : List Node) (free2 free' : ℕ) (more : Bool) → done ≡ mid → free2 ≡ free1 → depth ≡ width f → O ≡ [] → length mid ≤ n + 1 → Plans (Some hop) depth O C x → ((j : ℕ) → j ≤ n → S2 j ≡ changed C S1 j) →
      Places Route hop q len done free2 new free' S2 S3 more → IsArena f new free' × KeepsBest f new S3 × IsLaid Route (bits_of len q) hop (whole f old) (whole f new)
  is_laid hop depth n O C x S2 S3 done new free2 free' more stays frees w o l plan made placed =
      let k2 = after_plan (Some hop) depth n O C x S2 w o l plan made in
      let at = subst (λ (x : ℕ). Places Route hop q len mid x new free' S2 S3 more) frees (subst (λ (cs : List Node). Places Route hop q len cs free2 new free' S2 S3 more) stays placed) in
      let y = placed_whole f Route q len hop free1 free' mid new S2 S3 more few a1 at in (
        y.0,
        best_alike (suc (width f)) new S3 (λ a. lpm (edit (bits_of len q) (Some hop) (whole f mid).routes) a 0) (λ a. lpm (whole f new).routes a 0) 0
            (λ a u. ap (λ R. lpm R a 0) (sym (ap (λ (w : Walks). w.routes) y.1.set ∙ ap (edit (bits_of len q) (Some hop)) y.1.room.routes))) (y.2 k2),
        subst (λ (w : Walks). IsLaid Route (bits_of len q) hop w (whole f new)) (ap (whole f) same) y.1,
      )

  pub is_altered : (o : Option ℕ) (depth n : ℕ) (O C : List Change) (x : Best) (S2 S3 : ℕ → Best) (done new : List Node) (free2 free' : ℕ) → done ≡ mid → free2 ≡ free1 → S3 ≡ S2 → CanEdit (bits_of len q) o (whole f mid).nodes → depth ≡ width f → O ≡ [] → length mid ≤ n + 1 → Plans o depth O C x →
      ((j : ℕ) → j ≤ n → S2 j ≡ changed C S1 j) → free' ≡ free2 → Assigns o len q done new → HalvesStay done new → IsArena f new free' × KeepsBest f new S3 × (whole f new ≡ edited Route (bits_of len q) o (whole f mid))
  is_altered o depth n O C x S2 S3 done new free2 free' stays frees kept w0 w z l plan made g assigned stay =
      let y = put_in f q len o free1 free' mid new S2 few (g ∙ frees) a1 w0 (after_plan o depth n O C x S2 w z l plan made) (subst (λ (cs : List Node). Assigns o len q cs new) stays assigned) (subst (λ (cs : List Node). HalvesStay cs new) stays stay) in
      (y.0, subst (λ (K : ℕ → Best). KeepsBest f new K) (sym kept) y.1, y.2)

-- ---- what changes no route

pub stays_by : (f : Family) (old new : List Node) (S : ℕ → Best) → HalvesStay old new → (whole f new).routes ≡ (whole f old).routes → KeepsBest f old S → KeepsBest f new S
stays_by f old new S h e k =
    best_alike (suc (width f)) new S (λ a. lpm (whole f old).routes a 0) (λ a. lpm (whole f new).routes a 0) 0 (λ a l. ap (λ R. lpm R a 0) (sym e)) (best_stay (suc (width f)) old new S (λ a. lpm (whole f old).routes a 0) 0 h k)
