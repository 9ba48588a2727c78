-- A region that keeps what it kept, though a route below it changes.
use Rattle.std.proofs.Common.{◌≡◌, ◌≢◌, ℕ, suc, ◌+◌, ◌-◌, List, [], ◌∷◌, ◌++◌, Bool, true, false, cond, not, refl, sym, ap, ◌∙◌, subst, arith, Option, Some, None, nat_eq}
use Rattle.std.proofs.lemmas.Bool.{eqb-true}
use Rattle.std.specs.Int.{bit_at}
use Rattle.std.specs.Option.{unwrap_or}
use Rattle.table_model.specs.Bits.{bits_of}
use Rattle.table_model.specs.Table.{lpm, inherit}
use Rattle.table_model.specs.Sets.{side, set_of, is_in, joint, apart}
use Rattle.table_model.proofs.Sets.{same_joint}
use Rattle.table_model.proofs.Cost.{set_more, k_more}
use Rattle.fib_addr.specs.HopSets.{SameHops}
use Rattle.orig_tree.specs.Edits.{edit}
use Rattle.orig_tree.specs.Arena.{Owner, At, cell_at, half_place, from_half, IfHalf, IsTree, walks_at, walks_by}
use Rattle.orig_tree.specs.Bests.{IsRegionBest, best_one, best_behind, AreBest, put_at, changed, Untouched, IsMended, HalfMended}
use Rattle.orig_tree.specs.declared.node.Node.{Node}
use Rattle.orig_tree.specs.declared.best.Best.{Best}
use Rattle.orig_tree.specs.declared.best.Change.{Change}
use Rattle.orig_tree.proofs.Arena.{begins_self, begins_self_not}
use Rattle.orig_tree.proofs.Rooms.{tree_name}
use Rattle.orig_tree.proofs.Steps.{given_is}
use Rattle.orig_tree.proofs.Standing.{stands_one, stands_alike, stands_by}
use Rattle.orig_tree.proofs.Mending.{half_gets, changed_push, put_here, mended_same, untouched_half, trees_of, olds_of, plan_node}

-- ---- what is put together of two halves is so whatever they get

joint_by : (low high x : Best) (d : ℕ) (f : List Bool → ℕ) → IsRegionBest d (side false f) low → IsRegionBest d (side true f) high → IsRegionBest (suc d) f x → SameHops x.hops (joint low.hops high.hops) × (x.k ≡ low.k + high.k + apart low.hops high.hops)
joint_by low high x d f s t u =
    let same = same_joint low.hops high.hops (set_of d (side false f)) (set_of d (side true f)) s.hops t.hops in
    (λ h. u.hops h ∙ (ap (is_in h) (set_more d f) ∙ sym (same.0 h)), omega (arith, u.cost, k_more d f, s.cost, t.cost, same.1))

again : (b : Bool) (near far x : Best) (m : ℕ) (f : List Bool → ℕ) → IsRegionBest m (side b f) near → IsRegionBest m (side (not b) f) far → IsRegionBest (suc m) f x →
    (d : ℕ) (g : List Bool → ℕ) → IsRegionBest d (side b g) near → IsRegionBest d (side (not b) g) far → IsRegionBest (suc d) g x
again false near far x m f s t u d g v w = let j = joint_by near far x m f s t u in stands_by near far x d g j.0 j.1 v w
again true near far x m f s t u d g v w = let j = joint_by far near x m f t s u in stands_by far near x d g j.0 j.1 w v

half_kept : (cells : List Node) (m hop : ℕ) (o : Option ℕ) (S : ℕ → Best) → IfHalf (λ j. AreBest (suc m) cells S (λ a. lpm (walks_at (suc m) cells j).routes a hop) j) o → IsRegionBest m (λ a. lpm (from_half (walks_at (suc m) cells) o).routes a hop) (best_behind S o (best_one hop))
unfolding AreBest
half_kept cells m hop None S k = stands_one m hop (λ a. hop) (λ a l. refl)
half_kept cells m hop (Some j) S k = k.0

root_kept : (d : ℕ) (cells : List Node) (S : ℕ → Best) (f : List Bool → ℕ) (i : ℕ) → AreBest (suc d) cells S f i → IsRegionBest d f (S i)
unfolding AreBest
root_kept d cells S f i k = k.0

same_put : (K : ℕ → Best) (i : ℕ) (x : Best) → K i ≡ x → (y : ℕ) → K y ≡ put_at K i x y
same_put K i x e y = by_place (nat_eq y i) refl
  where
    by_place : (w : Bool) → nat_eq y i ≡ w → K y ≡ cond w x (K y)
    by_place true g = ap K (eqb-true y i g) ∙ e
    by_place false g = refl

-- ---- a node on the way to a path whose route changes

module _ (cells : List Node) (i : ℕ) (n : Node) (at : n ≡ cell_at cells i) (m depth : ℕ) (dm : suc m ≡ depth) (b : Bool) (no fo : Option ℕ) (ne : no ≡ half_place n b) (fe : fo ≡ half_place n (not b))
    (left q inherited hop : ℕ) (set : Option ℕ) (z : left ≢ 0) (bit : b ≡ nat_eq (bit_at q (left - 1)) 1) (hop_is : hop ≡ unwrap_or n.route.hop inherited) where
  abbrev Told : (ℕ → Best) → List Change → List Change → Best → Type 0
  Told S O L near =
      (name : ℕ → Owner) (p : List Bool) → IfHalf (λ j. IsTree (suc m) cells name j p) no → IfHalf (λ j. AreBest (suc m) cells S (λ a. lpm (walks_at (suc m) cells j).routes a hop) j) no → Untouched p name S (changed O S) →
      HalfMended m cells name no p (λ a. lpm (edit (bits_of (left - 1) q) set (from_half (walks_at (suc m) cells) no).routes) a hop) (changed O S) (changed L S) near

  olds : (c : Bool) (o : Option ℕ) → o ≡ half_place n c → (S : ℕ → Best) → AreBest (suc (suc m)) cells S (λ a. lpm (walks_at (suc (suc m)) cells i).routes a inherited) i →
      IfHalf (λ j. AreBest (suc m) cells S (λ a. lpm (walks_at (suc m) cells j).routes a hop) j) o
  olds c o e S k = subst (λ (h : ℕ). IfHalf (λ j. AreBest (suc m) cells S (λ a. lpm (walks_at (suc m) cells j).routes a h) j) o) (given_is n.route.hop inherited ∙ sym hop_is) (olds_of cells i n at m (suc m) refl (half_place n false) (half_place n true) refl refl S c o inherited e k)

  -- what a half kept stands for it
  old_half : (c : Bool) (o : Option ℕ) → o ≡ half_place n c → (S : ℕ → Best) → AreBest (suc (suc m)) cells S (λ a. lpm (walks_at (suc (suc m)) cells i).routes a inherited) i →
      IsRegionBest m (side c (λ a. lpm (walks_at (suc (suc m)) cells i).routes a inherited)) (best_behind S o (best_one hop))
  unfolding walks_at
  old_half c o e S k =
      let G = walks_at (suc m) cells in
      let nd = cell_at cells i in
      let own : inherit nd.route.hop inherited ≡ hop = ap (λ (x : Node). inherit x.route.hop inherited) (sym at) ∙ (given_is n.route.hop inherited ∙ sym hop_is) in
      stands_alike m (λ a. lpm (from_half G o).routes a hop) (side c (λ a. lpm (walks_by G nd).routes a inherited)) (best_behind S o (best_one hop))
      (λ a l. sym (half_gets G nd c inherited a ∙ (ap (λ h. lpm (from_half G (half_place nd c)).routes a h) own ∙ ap (λ y. lpm (from_half G y).routes a hop) (sym (e ∙ ap (λ y. half_place y c) at)))))
      (half_kept cells m hop o S (olds c o e S k))

  -- what the region comes to is what it kept
  pub plan_same : (S : ℕ → Best) (O L : List Change) (near far x : Best) → Told S O L near → far ≡ best_behind S fo (best_one hop) →
      ((d : ℕ) (f : List Bool → ℕ) → IsRegionBest d (side b f) near → IsRegionBest d (side (not b) f) far → IsRegionBest (suc d) f x) → x ≡ S i →
      (name : ℕ → Owner) (p : List Bool) → IsTree (suc depth) cells name i p → AreBest (suc depth) cells S (λ a. lpm (walks_at (suc depth) cells i).routes a inherited) i → Untouched p name S (changed O S) →
      IsMended depth cells name i p (λ a. lpm (edit (bits_of left q) set (walks_at (suc depth) cells i).routes) a inherited) (changed O S) (changed L S) (S i)
  plan_same S O L near far x cn fr j xs name p t k u =
      let f : List Bool → ℕ = λ a. lpm (edit (bits_of left q) set (walks_at (suc depth) cells i).routes) a inherited in
      let c : Change = record { place = i; best = x } in
      let N = L ++ c ∷ [] in
      let t' : IsTree (suc (suc m)) cells name i p = subst (λ (D : ℕ). IsTree (suc D) cells name i p) (sym dm) t in
      let k' : AreBest (suc (suc m)) cells S (λ a. lpm (walks_at (suc (suc m)) cells i).routes a inherited) i = subst (λ (D : ℕ). AreBest (suc D) cells S (λ a. lpm (walks_at (suc D) cells i).routes a inherited) i) (sym dm) k in
      let half = cn name (p ++ (b ∷ [])) (trees_of cells i n at m (suc m) refl (half_place n false) (half_place n true) refl refl name p b no ne t') (olds b no ne S k') (untouched_half name p b S (changed O S) u) in
      let here : name i ≡ At p = tree_name (suc depth) cells name i p t in
      let stays : changed L S i ≡ S i = half.keeps i p here (begins_self_not p b) ∙ u i p here (begins_self p) in
      let pushed : changed N S ≡ put_at (changed L S) i x = changed_push L c S in
      subst (λ (y : Best). IsMended depth cells name i p f (changed O S) (changed L S) y) stays
      (mended_same depth cells name i p f (changed O S) (changed N S) (changed L S) x
      (λ y. same_put (changed L S) i x (stays ∙ sym xs) y ∙ sym (ap (λ (K : ℕ → Best). K y) pushed))
      (ap (λ (K : ℕ → Best). K i) pushed ∙ put_here (changed L S) i x)
      (plan_node cells i n at m depth dm b no fo ne fe left q inherited hop set z bit hop_is S O L N near far x cn fr j refl name p t k u))

  -- one half keeps what it kept: so does the region
  pub plan_stays : (S : ℕ → Best) (O L : List Change) (near : Best) → Told S O L near → near ≡ best_behind S no (best_one hop) →
      (name : ℕ → Owner) (p : List Bool) → IsTree (suc depth) cells name i p → AreBest (suc depth) cells S (λ a. lpm (walks_at (suc depth) cells i).routes a inherited) i → Untouched p name S (changed O S) →
      IsMended depth cells name i p (λ a. lpm (edit (bits_of left q) set (walks_at (suc depth) cells i).routes) a inherited) (changed O S) (changed L S) (S i)
  plan_stays S O L near cn ns name p t k u =
      let f : List Bool → ℕ = λ a. lpm (walks_at (suc (suc m)) cells i).routes a inherited in
      let k' : AreBest (suc (suc m)) cells S f i = subst (λ (D : ℕ). AreBest (suc D) cells S (λ a. lpm (walks_at (suc D) cells i).routes a inherited) i) (sym dm) k in
      plan_same S O L near (best_behind S fo (best_one hop)) (S i) cn refl
      (again b near (best_behind S fo (best_one hop)) (S i) m f (subst (λ (y : Best). IsRegionBest m (side b f) y) (sym ns) (old_half b no ne S k')) (old_half (not b) fo fe S k') (root_kept (suc m) cells S f i k'))
      refl name p t k u
