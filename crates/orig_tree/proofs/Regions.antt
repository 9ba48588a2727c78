-- What a region keeps.
use Rattle.std.proofs.Common.{◌≡◌, ◌≢◌, ℕ, zero, suc, ◌-◌, List, [], ◌∷◌, ◌++◌, length, Bool, true, false, cond, ◌||◌, refl, sym, ap, ◌∙◌, subst, arith, Option, Some, None, nat_eq}
use Rattle.std.proofs.lemmas.Bool.{eqb-true}
use Rattle.std.specs.Option.{unwrap_or}
use Rattle.table_model.specs.Table.{Table, root, half, inherit, lpm}
use Rattle.table_model.specs.Sets.{side, set_of, k_of, is_in, smallest, apart, one_if_empty}
use Rattle.table_model.proofs.Sets.{same_smallest, filled, in_first}
use Rattle.table_model.proofs.Cost.{set_uniform, set_filled, k_uniform}
use Rattle.fib_addr.specs.HopSets.{SameHops}
use Rattle.orig_tree.specs.Walk.{Walks}
use Rattle.orig_tree.specs.Arena.{Owner, IsTree, IsArena, cover_of, cell_at, half_place, from_half, IfHalf, walks_at, walks_by}
use Rattle.orig_tree.specs.Bests.{IsRegionBest, AreBest}
use Rattle.orig_tree.specs.Spots.{Spot, spot_answers, spot_at, IsSpot, IsRooted, spot_rows, EachFixed}
use Rattle.orig_tree.specs.Cover.{ShowsHop, Within, SomeGets, IsCover, only_of}
use Rattle.orig_tree.specs.Uniform.{IsUniform}
use Rattle.orig_tree.proofs.Kept.{uniform_only}
use Rattle.orig_tree.proofs.Fitting.{walk_fits}
use Rattle.orig_tree.specs.declared.cover.Cover.{Cover}
use Rattle.orig_tree.specs.declared.node.Label.{Label}
use Rattle.orig_tree.specs.Walk.{rows_of}
use Rattle.orig_tree.specs.Views.{FitsWidth}
use Rattle.orig_tree.proofs.Arena.{cover_tree}
use Rattle.std.proofs.Common.{replicate, not}
use Rattle.std.specs.Prelude.{IfSome, IfNone}
use Rattle.std.proofs.lemmas.List.{length-replicate}
use Rattle.orig_tree.specs.declared.node.Node.{Node}
use Rattle.orig_tree.specs.declared.best.Best.{Best}
use Rattle.orig_tree.proofs.Steps.{given_is, level_root, level_half}
use Rattle.orig_tree.specs.declared.node.Label.TheVariants.{Route, Entry}
use Rattle.orig_tree.proofs.Arena.{side_half}
use Rattle.orig_tree.proofs.Mending.{own_route, half_gets}
use Rattle.orig_tree.proofs.Standing.{best_alike}
use Rattle.table_model.specs.Bits.{bits_of}
use Rattle.table_model.specs.Width.{width}
use Rattle.table_model.specs.declared.family.Family.{Family}
use Rattle.std.specs.Int.{bit_at}
use Rattle.table_model.specs.Table.{cut}
use Rattle.table_model.specs.Entries.{Entries, of_table, of_family}
use Rattle.table_model.proofs.Cut.{lpm_cut}
use Rattle.table_model.specs.Sets.{answers}
use Rattle.table_model.proofs.Both.{family_is}
use Rattle.orig_tree.specs.Arena.{whole}
use Rattle.orig_tree.specs.Bests.{KeepsBest}
use Rattle.orig_tree.proofs.Paths.{no_bits, first_bit}
use Rattle.orig_tree.proofs.Counting.{count_level, nodes_half, all_in}
use Rattle.orig_tree.specs.Within.{nodes_in}
use Rattle.std.specs.Prelude.{◌+◌}

-- ---- where a region costs nothing, its addresses get one hop

same_one : (x y : ℕ) → apart (x ∷ []) (y ∷ []) ≡ 0 → y ≡ x
same_one x y e = by_test (nat_eq y x) refl
  where
    by_test : (b : Bool) → nat_eq y x ≡ b → y ≡ x
    by_test true q = eqb-true y x q
    by_test false q = let z : 1 ≡ 0 = sym (ap (λ (b : Bool). one_if_empty (cond (b || false) (x ∷ []) [])) q) ∙ e in absurd (omega (arith, z))

pub costs_nothing : (d : ℕ) (f : List Bool → ℕ) → k_of d f ≡ 0 → (x : ℕ) × ((a : List Bool) → length a ≡ d → f a ≡ x)
unfolding k_of
costs_nothing zero f e = (f [], λ a l. by_list a l)
  where
    by_list : (a : List Bool) → length a ≡ 0 → f a ≡ f []
    by_list [] l = refl
    by_list (b ∷ a) l = absurd (omega arith)
costs_nothing (suc d) f e =
    let low = costs_nothing d (side false f) (omega (arith, e)) in
    let high = costs_nothing d (side true f) (omega (arith, e)) in
    let gap : apart (set_of d (side false f)) (set_of d (side true f)) ≡ 0 = omega (arith, e) in
    let one : high.0 ≡ low.0 = same_one low.0 high.0 (sym (ap (λ S. apart S (set_of d (side true f))) (set_uniform d (side false f) low.0 low.1) ∙ ap (apart (low.0 ∷ [])) (set_uniform d (side true f) high.0 high.1)) ∙ gap) in
    (low.0, λ a l. by_bit low.0 high.0 one low.1 high.1 a l)
  where
    by_bit : (x y : ℕ) → y ≡ x → ((a : List Bool) → length a ≡ d → f (false ∷ a) ≡ x) → ((a : List Bool) → length a ≡ d → f (true ∷ a) ≡ y) → (a : List Bool) → length a ≡ suc d → f a ≡ x
    by_bit x y e l h [] n = absurd (omega arith)
    by_bit x y e l h (false ∷ a) n = l a (omega arith)
    by_bit x y e l h (true ∷ a) n = h a (omega arith) ∙ e

filled_same : (S T : List ℕ) → SameHops S T → filled T ≡ true → filled S ≡ true
filled_same [] [] s f = cc
filled_same [] (g ∷ T) s f = let e : false ≡ true = s g ∙ in_first g g T refl in cc
filled_same (x ∷ S) T s f = refl

pub least_is : (d : ℕ) (f : List Bool → ℕ) (x : Best) → IsRegionBest d f x → smallest x.hops ≡ smallest (set_of d f)
least_is d f x s = same_smallest x.hops (set_of d f) (filled_same x.hops (set_of d f) s.hops (set_filled d f)) (set_filled d f) s.hops

-- ---- a region of the array

pub spot_stands : (cells : List Node) (kept : ℕ → Best) (o : Option ℕ) (i bits hop : ℕ) → o ≡ Some i → IsSpot cells kept o bits hop → IsRegionBest bits (spot_answers (spot_at cells o bits hop)) (kept i)
unfolding AreBest
spot_stands cells kept o i bits hop e k =
    subst (λ (y : Option ℕ). IsRegionBest bits (spot_answers (spot_at cells y bits hop)) (kept i)) (sym e)
    (subst (λ (y : Option ℕ). IsSpot cells kept y bits hop) e k).0

-- where there is no node
pub bare_spot : (cells : List Node) (o : Option ℕ) (bits hop : ℕ) → o ≡ None → (a : List Bool) → spot_answers (spot_at cells o bits hop) a ≡ hop
bare_spot cells o bits hop e a = ap (λ y. spot_answers (spot_at cells y bits hop) a) e

pub bare_k : (cells : List Node) (o : Option ℕ) (bits hop : ℕ) → o ≡ None → k_of bits (spot_answers (spot_at cells o bits hop)) ≡ 0
bare_k cells o bits hop e = k_uniform bits (spot_answers (spot_at cells o bits hop)) hop (λ a l. bare_spot cells o bits hop e a)

pub bare_set : (cells : List Node) (o : Option ℕ) (bits hop : ℕ) → o ≡ None → set_of bits (spot_answers (spot_at cells o bits hop)) ≡ hop ∷ []
bare_set cells o bits hop e = set_uniform bits (spot_answers (spot_at cells o bits hop)) hop (λ a l. bare_spot cells o bits hop e a)

-- ---- one half

half_nothing : (b : Bool) → half b [] ≡ []
half_nothing b = refl

module _ (cells : List Node) (o : Option ℕ) (bits m hop : ℕ) (z : suc m ≡ bits) (b : Bool) where
  -- of a region that is no node
  pub no_half : (w : ℕ) → o ≡ None → w ≡ m →
      ((spot_at cells None w hop).routes ≡ half b (spot_at cells o bits hop).routes) × ((spot_at cells None w hop).entries ≡ half b (spot_at cells o bits hop).entries) × (hop ≡ inherit (root (spot_at cells o bits hop).routes) hop)
  no_half w e y = (
    sym (ap (λ y. half b (spot_at cells y bits hop).routes) e),
    sym (ap (λ y. half b (spot_at cells y bits hop).entries) e),
    sym (ap (λ y. inherit (root (spot_at cells y bits hop).routes) hop) e),
  )

  -- of a node
  pub some_half : (w i hop' : ℕ) (n : Node) (h : Option ℕ) → o ≡ Some i → w ≡ m → n ≡ cell_at cells i → h ≡ half_place n b → hop' ≡ unwrap_or n.route.hop hop →
      ((spot_at cells h w hop').routes ≡ half b (spot_at cells o bits hop).routes) × ((spot_at cells h w hop').entries ≡ half b (spot_at cells o bits hop).entries) × (hop' ≡ inherit (root (spot_at cells o bits hop).routes) hop)
  unfolding walks_at
  some_half w i hop' n h e y at g k =
      let F = walks_at (suc m) cells in
      let nd = cell_at cells i in
      let there : from_half (walks_at (suc w) cells) h ≡ from_half F (half_place nd b) = ap (λ x. from_half (walks_at (suc x) cells) h) y ∙ ap (from_half F) (g ∙ ap (λ x. half_place x b) at) in
      let is : from_half (walks_at (suc bits) cells) o ≡ walks_by F nd = ap (λ x. from_half (walks_at (suc x) cells) o) (sym z) ∙ ap (from_half (walks_at (suc (suc m)) cells)) e in
      let side = there ∙ side_half F nd b in (
        ap (λ (x : Walks). x.routes) side ∙ sym (level_half b Route nd.route.hop nd.entry.hop (from_half F (half_place nd false)) (from_half F (half_place nd true))) ∙ sym (ap (λ (x : Walks). half b x.routes) is),
        ap (λ (x : Walks). x.entries) side ∙ sym (level_half b Entry nd.route.hop nd.entry.hop (from_half F (half_place nd false)) (from_half F (half_place nd true))) ∙ sym (ap (λ (x : Walks). half b x.entries) is),
        k ∙ (sym (given_is n.route.hop hop) ∙ (ap (λ (x : Node). inherit x.route.hop hop) at ∙ sym (ap (λ (x : Walks). inherit (root x.routes) hop) is ∙ ap (λ y. inherit y hop) (own_route F nd)))),
      )

  pub half_spot : (kept : ℕ → Best) (w i hop' : ℕ) (n : Node) (h : Option ℕ) → o ≡ Some i → w ≡ m → n ≡ cell_at cells i → h ≡ half_place n b → hop' ≡ unwrap_or n.route.hop hop → IsSpot cells kept o bits hop → IsSpot cells kept h w hop'
  unfolding AreBest walks_at
  half_spot kept w i hop' n h e y at g k s =
      let nd = cell_at cells i in
      let s1 : AreBest (suc (suc m)) cells kept (λ a. lpm (walks_at (suc (suc m)) cells i).routes a hop) i = subst (λ (x : ℕ). AreBest (suc x) cells kept (λ a. lpm (walks_at (suc x) cells i).routes a hop) i) (sym z) (subst (λ (x : Option ℕ). IsSpot cells kept x bits hop) e s) in
      let hop_is : inherit nd.route.hop hop ≡ hop' = ap (λ (x : Node). inherit x.route.hop hop) (sym at) ∙ (given_is n.route.hop hop ∙ sym k) in
      subst (λ (x : ℕ). IsSpot cells kept h x hop') (sym y)
      (subst (λ (x : Option ℕ). IsSpot cells kept x m hop') (sym (g ∙ ap (λ x. half_place x b) at)) (by_half (half_place nd b) hop_is refl (s1.1 b)))
    where
      by_half : (x : Option ℕ) → inherit (cell_at cells i).route.hop hop ≡ hop' → x ≡ half_place (cell_at cells i) b → IfHalf (λ j. AreBest (suc m) cells kept (side b (λ a. lpm (walks_by (walks_at (suc m) cells) (cell_at cells i)).routes a hop)) j) x → IsSpot cells kept x m hop'
      by_half None v q t = tt
      by_half (Some j) v q t =
          best_alike (suc m) cells kept (side b (λ a. lpm (walks_by (walks_at (suc m) cells) (cell_at cells i)).routes a hop)) (λ a. lpm (walks_at (suc m) cells j).routes a hop') j
          (λ a l. half_gets (walks_at (suc m) cells) (cell_at cells i) b hop a ∙ (ap (λ h. lpm (from_half (walks_at (suc m) cells) (half_place (cell_at cells i) b)).routes a h) v ∙ ap (λ y. lpm (from_half (walks_at (suc m) cells) y).routes a hop') (sym q))) t

pub entry_root : (cells : List Node) (o : Option ℕ) (i bits hop : ℕ) (n : Node) → o ≡ Some i → n ≡ cell_at cells i → n.entry.hop ≡ root (spot_at cells o bits hop).entries
unfolding walks_at
entry_root cells o i bits hop n e at =
    let F = walks_at bits cells in
    ap (λ (x : Node). x.entry.hop) at ∙ (sym (level_root Entry (cell_at cells i).route.hop (cell_at cells i).entry.hop (from_half F (half_place (cell_at cells i) false)) (from_half F (half_place (cell_at cells i) true))) ∙ ap (λ y. root (spot_at cells y bits hop).entries) (sym e))

pub in_one : (g h : ℕ) (b : Bool) (S : List ℕ) → b ≡ nat_eq g h → S ≡ g ∷ [] → b ≡ is_in h S
in_one g h b S e s = e ∙ (by_bit (nat_eq g h) ∙ ap (is_in h) (sym s))
  where
    by_bit : (t : Bool) → t ≡ (t || false)
    by_bit true = refl
    by_bit false = refl

-- ---- down to a path

-- a step down: what is below the half is below the region
pub below_step : (s t : Spot) (left q : ℕ) (b : Bool) → left ≢ 0 → b ≡ nat_eq (bit_at q (left - 1)) 1 → t.routes ≡ half b s.routes → t.entries ≡ half b s.entries → t.hop ≡ inherit (root s.routes) s.hop →
    ((a : List Bool) → spot_answers t (bits_of (left - 1) q ++ a) ≡ spot_answers s (bits_of left q ++ a)) × (cut (bits_of (left - 1) q) t.entries ≡ cut (bits_of left q) s.entries)
below_step s t left q b z bit routes entries hop =
    let P = bits_of (left - 1) q in (
      λ a. ap (λ R. lpm R (P ++ a) t.hop) routes ∙ (ap (lpm (half b s.routes) (P ++ a)) hop ∙ (sym (lpm_cut s.routes b (P ++ a) s.hop) ∙ ap (λ p. spot_answers s (p ++ a)) (sym (first_bit left q b z bit)))),
      ap (cut P) entries ∙ ap (λ p. cut p s.entries) (sym (first_bit left q b z bit)),
    )

pub below_end : (s : Spot) (left q : ℕ) → left ≡ 0 → ((a : List Bool) → spot_answers s a ≡ spot_answers s (bits_of left q ++ a)) × (s.entries ≡ cut (bits_of left q) s.entries)
below_end s left q z = (λ a. ap (λ p. spot_answers s (p ++ a)) (sym (no_bits left q z)), ap (λ p. cut p s.entries) (sym (no_bits left q z)))

pub whole_spot : (f : Family) (cells : List Node) (kept : ℕ → Best) (w : ℕ) → w ≡ width f → KeepsBest f cells kept → IsSpot cells kept (Some 0) w 0
whole_spot f cells kept w e k = subst (λ (n : ℕ). IsSpot cells kept (Some 0) n 0) (sym e) k

-- the region of a prefix of the tree
pub region_is : (f : Family) (cells : List Node) (w : ℕ) (r : Spot) (p q : List Bool) (RS ES : Entries) → w ≡ width f → p ≡ q → of_table f (whole f cells).routes ≡ RS → of_table f (whole f cells).entries ≡ ES →
    ((a : List Bool) → spot_answers r a ≡ spot_answers (spot_at cells (Some 0) w 0) (p ++ a)) → r.entries ≡ cut p (spot_at cells (Some 0) w 0).entries →
    ((a : List Bool) → spot_answers r a ≡ answers (of_family f RS) q a) × (r.entries ≡ cut q (of_family f ES))
region_is f cells w r p q RS ES e b v k g h =
    let R : (whole f cells).routes ≡ of_family f RS = sym (family_is f (whole f cells).routes) ∙ ap (of_family f) v in
    let E : (whole f cells).entries ≡ of_family f ES = sym (family_is f (whole f cells).entries) ∙ ap (of_family f) k in (
      λ a. g a ∙ (ap (λ n. lpm (walks_at (suc n) cells 0).routes (p ++ a) 0) e ∙ (ap (λ T. lpm T (p ++ a) 0) R ∙ ap (λ x. lpm (of_family f RS) (x ++ a) 0) b)),
      h ∙ (ap (λ n. cut p (walks_at (suc n) cells 0).entries) e ∙ (ap (cut p) E ∙ ap (λ x. cut x (of_family f ES)) b)),
    )

pub region_of : (f g : Family) (cells : List Node) (w : ℕ) (r : Spot) (p q : List Bool) (RS ES : Entries) → f ≡ g → w ≡ width f → p ≡ q → of_table f (whole f cells).routes ≡ RS → of_table f (whole f cells).entries ≡ ES →
    ((a : List Bool) → spot_answers r a ≡ spot_answers (spot_at cells (Some 0) w 0) (p ++ a)) → r.entries ≡ cut p (spot_at cells (Some 0) w 0).entries →
    ((a : List Bool) → spot_answers r a ≡ answers (of_family g RS) q a) × (r.entries ≡ cut q (of_family g ES))
region_of f g cells w r p q RS ES m e b v k h i =
    subst (λ (x : Family). ((a : List Bool) → spot_answers r a ≡ answers (of_family x RS) q a) × (r.entries ≡ cut q (of_family x ES))) m (region_is f cells w r p q RS ES e b v k h i)

-- ---- the nodes there

-- of a region that is a node
pub spot_nodes : (cells : List Node) (o : Option ℕ) (i bits hop : ℕ) → o ≡ Some i → (s : Spot) → spot_at cells o bits hop ≡ s → length s.nodes ≡ 1 + (nodes_in (false ∷ []) s.nodes + nodes_in (true ∷ []) s.nodes)
unfolding walks_at
spot_nodes cells o i bits hop e s v =
    let F = walks_at bits cells in
    let nd = cell_at cells i in
    let low = from_half F (half_place nd false) in
    let high = from_half F (half_place nd true) in
    let is : s.nodes ≡ (walks_by F nd).nodes = sym (ap (λ (x : Spot). x.nodes) v) ∙ ap (λ y. (from_half (walks_at (suc bits) cells) y).nodes) e in
    let all : length s.nodes ≡ 1 + (length low.nodes + length high.nodes) = ap length is ∙ count_level nd.route.hop nd.entry.hop low high in
    let a : nodes_in (false ∷ []) s.nodes ≡ length low.nodes = ap (λ x. nodes_in (false ∷ []) x) is ∙ (nodes_half false [] nd.route.hop nd.entry.hop low high ∙ all_in low.nodes) in
    let b : nodes_in (true ∷ []) s.nodes ≡ length high.nodes = ap (λ x. nodes_in (true ∷ []) x) is ∙ (nodes_half true [] nd.route.hop nd.entry.hop low high ∙ all_in high.nodes) in
    omega (arith, all, a, b)

-- and of its halves
pub half_nodes : (cells : List Node) (o h : Option ℕ) (i bits m w hop hop' : ℕ) (b : Bool) (n : Node) → o ≡ Some i → suc m ≡ bits → w ≡ m → n ≡ cell_at cells i → h ≡ half_place n b → (s : Spot) → spot_at cells o bits hop ≡ s → (p : List Bool) →
    nodes_in p (spot_at cells h w hop').nodes ≡ nodes_in (b ∷ p) s.nodes
unfolding walks_at
half_nodes cells o h i bits m w hop hop' b n e z y at g s v p =
    let F = walks_at (suc m) cells in
    let nd = cell_at cells i in
    let there : from_half (walks_at (suc w) cells) h ≡ from_half F (half_place nd b) = ap (λ x. from_half (walks_at (suc x) cells) h) y ∙ ap (from_half F) (g ∙ ap (λ x. half_place x b) at) in
    let is : from_half (walks_at (suc bits) cells) o ≡ walks_by F nd = ap (λ x. from_half (walks_at (suc x) cells) o) (sym z) ∙ ap (from_half (walks_at (suc (suc m)) cells)) e in
    ap (λ (x : Walks). nodes_in p x.nodes) (there ∙ side_half F nd b)
    ∙ (sym (nodes_half b p nd.route.hop nd.entry.hop (from_half F (half_place nd false)) (from_half F (half_place nd true)))
    ∙ (sym (ap (λ (x : Walks). nodes_in (b ∷ p) x.nodes) is) ∙ ap (λ (x : Spot). nodes_in (b ∷ p) x.nodes) v))

-- of a region that is none
pub no_nodes : (cells : List Node) (o : Option ℕ) (bits w hop hop' : ℕ) (b : Bool) → o ≡ None → (s : Spot) → spot_at cells o bits hop ≡ s → (p : List Bool) → nodes_in p (spot_at cells None w hop').nodes ≡ nodes_in (b ∷ p) s.nodes
no_nodes cells o bits w hop hop' b e s v p = sym (ap (λ y. nodes_in (b ∷ p) (from_half (walks_at (suc bits) cells) y).nodes) e) ∙ ap (λ (x : Spot). nodes_in (b ∷ p) x.nodes) v

-- within a path
pub below_nodes : (nodes below : List (List Bool)) (left q : ℕ) (b : Bool) → left ≢ 0 → b ≡ nat_eq (bit_at q (left - 1)) 1 → ((p : List Bool) → nodes_in p below ≡ nodes_in (b ∷ p) nodes) → nodes_in (bits_of (left - 1) q) below ≡ nodes_in (bits_of left q) nodes
below_nodes nodes below left q b z bit f = f (bits_of (left - 1) q) ∙ ap (λ p. nodes_in p nodes) (sym (first_bit left q b z bit))

pub here_nodes : (nodes : List (List Bool)) (left q : ℕ) → left ≡ 0 → length nodes ≡ nodes_in (bits_of left q) nodes
here_nodes nodes left q z = sym (ap (λ p. nodes_in p nodes) (no_bits left q z) ∙ all_in nodes)

-- ---- whether a region is filled

-- the rows of a node's region
rows_spot : (label : Label) (cells : List Node) (j bits hop : ℕ) → rows_of label (walks_at (suc bits) cells j) ≡ spot_rows label (spot_at cells (Some j) bits hop)
rows_spot Route cells j bits hop = refl
rows_spot Entry cells j bits hop = refl

fixed_by : (L : Table) (a : List Bool) (x : Option ℕ) (c : Cover) → ShowsHop L a x → Within c x → c.passes ≡ false → (g h : ℕ) → lpm L a g ≡ lpm L a h
fixed_by L a None c s w n g h = let e : true ≡ false = sym w ∙ n in cc
fixed_by L a (Some k) c s w n g h = s g ∙ sym (s h)

cover_fixed : (d : ℕ) (L : Table) (c : Cover) → IsCover L c → FitsWidth d L → c.passes ≡ false → EachFixed d L
cover_fixed d L c k f n a l g h = let x = k.each d f a l in fixed_by L a x.0 c x.1 x.2 n g h

cover_passed : (d : ℕ) (L : Table) (c : Cover) → IsCover L c → FitsWidth d L → c.passes ≡ true → SomeGets d L None
cover_passed d L c k f n = k.passed d f n

spot_cover : (label : Label) (cells : List Node) (o : Option ℕ) (i bits hop : ℕ) → o ≡ Some i → IsRooted cells o bits → IsCover (spot_rows label (spot_at cells o bits hop)) (cover_of label (cell_at cells i))
spot_cover label cells o i bits hop e r =
    let t = subst (λ (x : Option ℕ). IsRooted cells x bits) e r in
    subst (λ (x : Option ℕ). IsCover (spot_rows label (spot_at cells x bits hop)) (cover_of label (cell_at cells i))) (sym e)
    (subst (λ (x : Table). IsCover x (cover_of label (cell_at cells i))) (rows_spot label cells i bits hop) (cover_tree label (suc bits) cells t.0 i t.1 t.2))

turned : (b c : Bool) → b ≡ not c → b ≡ true → c ≡ false
turned b true e t = sym t ∙ e
turned b false e t = refl

turned_back : (b c : Bool) → b ≡ not c → b ≡ false → c ≡ true
turned_back b true e t = refl
turned_back b false e t = sym t ∙ e

module _ (label : Label) (cells : List Node) (o : Option ℕ) (i bits hop : ℕ) (n : Node) (c : Cover) (b : Bool) (e : o ≡ Some i) (at : n ≡ cell_at cells i) (k : c ≡ cover_of label n) (v : b ≡ not c.passes) (r : IsRooted cells o bits) where
  the_cover : IsCover (spot_rows label (spot_at cells o bits hop)) c
  the_cover = subst (λ (x : Cover). IsCover (spot_rows label (spot_at cells o bits hop)) x) (sym (k ∙ ap (cover_of label) at)) (spot_cover label cells o i bits hop e r)

  pub spot_fixed : b ≡ true → FitsWidth bits (spot_rows label (spot_at cells o bits hop)) → EachFixed bits (spot_rows label (spot_at cells o bits hop))
  spot_fixed t f = cover_fixed bits (spot_rows label (spot_at cells o bits hop)) c the_cover f (turned b c.passes v t)

  pub spot_passed : b ≡ false → FitsWidth bits (spot_rows label (spot_at cells o bits hop)) → SomeGets bits (spot_rows label (spot_at cells o bits hop)) None
  spot_passed t f = cover_passed bits (spot_rows label (spot_at cells o bits hop)) c the_cover f (turned_back b c.passes v t)

-- ---- the one hop of a region's addresses

one_gets : (o : Option ℕ) (d : ℕ) (R : Table) (hop : ℕ) → IsUniform d R hop [] o → IfSome o (λ h. (a : List Bool) → length a ≡ d → lpm R a hop ≡ h)
one_gets None d R hop u = tt
one_gets (Some h) d R hop u = λ a l. u a l refl

two_cost : (o : Option ℕ) (d : ℕ) (R : Table) (hop : ℕ) → IsUniform d R hop [] o → IfNone o (k_of d (λ a. lpm R a hop) ≢ 0)
two_cost None d R hop (a, b, la, lb, pa, pb, n) = λ z. let one = costs_nothing d (λ a. lpm R a hop) z in n (one.1 a la ∙ sym (one.1 b lb))
two_cost (Some h) d R hop u = tt

pub where_none : (o : Option ℕ) (P : Type 0) → P → IfNone o P
where_none None P p = p
where_none (Some h) P p = tt

module _ (cells : List Node) (o : Option ℕ) (i bits hop : ℕ) (n : Node) (c : Cover) (result : Option ℕ) (e : o ≡ Some i) (at : n ≡ cell_at cells i) (k : c ≡ cover_of Route n) (v : result ≡ only_of c hop) (r : IsRooted cells o bits) where
  -- as the cover of its node tells it
  spot_uniform : IsUniform bits (spot_at cells o bits hop).routes hop [] result
  spot_uniform =
      let is : result ≡ only_of (cover_of Route (cell_at cells i)) hop = v ∙ ap (λ (x : Cover). only_of x hop) (k ∙ ap (cover_of Route) at) in
      let fits : FitsWidth bits (spot_at cells o bits hop).routes = subst (λ (y : Option ℕ). FitsWidth bits (spot_at cells y bits hop).routes) (sym e) (walk_fits bits cells i) in
      subst (λ (x : Option ℕ). IsUniform bits (spot_at cells o bits hop).routes hop [] x) (sym is)
      (uniform_only bits hop (spot_at cells o bits hop).routes (cover_of Route (cell_at cells i)) (spot_cover Route cells o i bits hop e r) fits)

  pub spot_one : IfSome result (λ h. (a : List Bool) → length a ≡ bits → spot_answers (spot_at cells o bits hop) a ≡ h)
  spot_one = one_gets result bits (spot_at cells o bits hop).routes hop spot_uniform

  pub spot_two : IfNone result (k_of bits (spot_answers (spot_at cells o bits hop)) ≢ 0)
  spot_two = two_cost result bits (spot_at cells o bits hop).routes hop spot_uniform

bare_rows : (label : Label) (cells : List Node) (bits hop : ℕ) → spot_rows label (spot_at cells None bits hop) ≡ []
bare_rows Route cells bits hop = refl
bare_rows Entry cells bits hop = refl

pub bare_passed : (label : Label) (cells : List Node) (o : Option ℕ) (bits hop : ℕ) → o ≡ None → SomeGets bits (spot_rows label (spot_at cells o bits hop)) None
bare_passed label cells o bits hop e =
    subst (λ (L : Table). SomeGets bits L None) (sym (ap (λ y. spot_rows label (spot_at cells y bits hop)) e ∙ bare_rows label cells bits hop))
    (replicate bits true, length-replicate bits true, λ g. refl)

-- ---- the nodes of a region are in order

rooted_node : (cells : List Node) (m i : ℕ) (b : Bool) → (name : ℕ → Owner) × (p : List Bool) × IsTree (suc (suc m)) cells name i p → IsRooted cells (half_place (cell_at cells i) b) m
unfolding IsTree
rooted_node cells m i b t = by_half (half_place (cell_at cells i) b) (t.2.2.halves b)
  where
    by_half : (x : Option ℕ) → IfHalf (λ j. IsTree (suc m) cells t.0 j (t.1 ++ (b ∷ []))) x → IsRooted cells x m
    by_half None y = tt
    by_half (Some j) y = (t.0, t.1 ++ (b ∷ []), y)

pub half_rooted : (cells : List Node) (o : Option ℕ) (bits m w i : ℕ) (b : Bool) (n : Node) (h : Option ℕ) → suc m ≡ bits → o ≡ Some i → w ≡ m → n ≡ cell_at cells i → h ≡ half_place n b → IsRooted cells o bits → IsRooted cells h w
half_rooted cells o bits m w i b n h z e y at g r =
    subst (λ (x : ℕ). IsRooted cells h x) (sym y)
    (subst (λ (x : Option ℕ). IsRooted cells x m) (sym (g ∙ ap (λ x. half_place x b) at))
    (rooted_node cells m i b (subst (λ (x : ℕ). IsRooted cells (Some i) x) (sym z) (subst (λ (x : Option ℕ). IsRooted cells x bits) e r))))

pub whole_rooted : (f : Family) (cells : List Node) (free w : ℕ) → w ≡ width f → IsArena f cells free → IsRooted cells (Some 0) w
whole_rooted f cells free w e a = subst (λ (n : ℕ). IsRooted cells (Some 0) n) (sym e) (a.name, [], a.tree)
