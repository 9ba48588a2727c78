-- A change of a route that is taken back.
use Rattle.std.proofs.Common.{get_or, take, drop, slice_set, ◌≡◌, ℕ, zero, suc, ◌+◌, ◌<◌, ◌≤◌, List, [], ◌∷◌, ◌++◌, length, Bool, true, false, cond, refl, sym, ap, ◌∙◌, subst, arith, Option, Some, None, nat_eq}
use Rattle.std.proofs.lemmas.Bool.{eqb-true}
use Rattle.std.proofs.lemmas.List.{take_more_set, take_all, drop_all, append-nil}
use Rattle.table_model.specs.Bits.{bits_of}
use Rattle.table_model.specs.Width.{width}
use Rattle.table_model.specs.declared.family.Family.{Family}
use Rattle.table_model.proofs.BitLaws.{length-bits_of}
use Rattle.table_model.proofs.SamePrefix.{same_bits_itself}
use Rattle.table_model.specs.Table.{Table, lpm, root, half}
use Rattle.table_model.specs.Entries.{of_table}
use Rattle.table_model.specs.Regions.{join, entry_at}
use Rattle.table_model.proofs.Join.{root_join, low_join, high_join}
use Rattle.table_model.proofs.Same.{cut_nil}
use Rattle.fib_addr.specs.declared.prefix.Prefix as code
use Rattle.orig_tree.specs.Edits.{edit}
use Rattle.orig_tree.specs.Views.{InPlace}
use Rattle.orig_tree.specs.Walk.{Walks, edited, CanEdit, has_node}
use Rattle.orig_tree.specs.Arena.{Owner, cell_at, half_place, from_half, walks_at, IsTree, IsSet, HalvesStay, whole, IsArena}
use Rattle.orig_tree.specs.Bests.{AreBest, put_at, back, KeepsBest}
use Rattle.orig_tree.specs.Undos.{undone, routes_before, UndoesChange, CanUndo}
use Rattle.orig_tree.specs.declared.node.Node.{Node}
use Rattle.orig_tree.specs.declared.node.Label.TheVariants.{Route}
use Rattle.orig_tree.specs.declared.best.Best.{Best}
use Rattle.orig_tree.specs.declared.best.Change.{Change}
use Rattle.orig_tree.specs.declared.undo.Undo.{Undo}
use Rattle.orig_tree.proofs.Lists.{edit_low, edit_high, edit_own}
use Rattle.orig_tree.proofs.Roots.{set_whole}
use Rattle.orig_tree.proofs.Standing.{best_alike, best_stay, best_carry, best_same}
use Rattle.orig_tree.proofs.Growing.{within_it}

-- ---- a route put back

nothing_back : (p : List Bool) (s : Option ℕ) → edit p (entry_at p []) (edit p s []) ≡ []
nothing_back p s = ap (λ o. edit p o (edit p s [])) (ap root (cut_nil p)) ∙ by_set s
  where
    by_set : (s : Option ℕ) → edit p None (edit p s []) ≡ []
    by_set None = refl
    by_set (Some h) = ap (λ (b : Bool). cond b [] (record { prefix = p; hop = h } ∷ [])) (same_bits_itself p)

-- the route at p as it was, put back, gives the routes as they were
pub edit_back : (d : ℕ) (cells : List Node) (i : ℕ) (p : List Bool) (s : Option ℕ) → length p < d → edit p (entry_at p (walks_at d cells i).routes) (edit p s (walks_at d cells i).routes) ≡ (walks_at d cells i).routes
unfolding walks_at
edit_back zero cells i p s l = absurd (omega (arith, l))
edit_back (suc d) cells i [] s l =
    let n = cell_at cells i in
    let o = n.route.hop in
    let L = (from_half (walks_at d cells) (half_place n false)).routes in
    let M = (from_half (walks_at d cells) (half_place n true)).routes in
    ap (edit [] (root (join o L M))) (edit_own s o L M) ∙ (edit_own (root (join o L M)) s L M ∙ ap (λ x. join x L M) (root_join o L M))
edit_back (suc d) cells i (false ∷ p) s l =
    let n = cell_at cells i in
    let o = n.route.hop in
    let L = (from_half (walks_at d cells) (half_place n false)).routes in
    let M = (from_half (walks_at d cells) (half_place n true)).routes in
    ap (edit (false ∷ p) (entry_at p (half false (join o L M)))) (edit_low p s o L M)
    ∙ (edit_low p (entry_at p (half false (join o L M))) o (edit p s L) M
    ∙ ap (λ K. join o K M) (ap (λ K. edit p (entry_at p K) (edit p s L)) (low_join o L M) ∙ half_back (λ j. edit_back d cells j p s (omega (arith, l))) (half_place n false)))
  where
    half_back : ((j : ℕ) → edit p (entry_at p (walks_at d cells j).routes) (edit p s (walks_at d cells j).routes) ≡ (walks_at d cells j).routes) → (h : Option ℕ) → edit p (entry_at p (from_half (walks_at d cells) h).routes) (edit p s (from_half (walks_at d cells) h).routes) ≡ (from_half (walks_at d cells) h).routes
    half_back ih None = nothing_back p s
    half_back ih (Some j) = ih j
edit_back (suc d) cells i (true ∷ p) s l =
    let n = cell_at cells i in
    let o = n.route.hop in
    let L = (from_half (walks_at d cells) (half_place n false)).routes in
    let M = (from_half (walks_at d cells) (half_place n true)).routes in
    ap (edit (true ∷ p) (entry_at p (half true (join o L M)))) (edit_high p s o L M)
    ∙ (edit_high p (entry_at p (half true (join o L M))) o L (edit p s M)
    ∙ ap (λ K. join o L K) (ap (λ K. edit p (entry_at p K) (edit p s M)) (high_join o L M) ∙ half_back (λ j. edit_back d cells j p s (omega (arith, l))) (half_place n true)))
  where
    half_back : ((j : ℕ) → edit p (entry_at p (walks_at d cells j).routes) (edit p s (walks_at d cells j).routes) ≡ (walks_at d cells j).routes) → (h : Option ℕ) → edit p (entry_at p (from_half (walks_at d cells) h).routes) (edit p s (from_half (walks_at d cells) h).routes) ≡ (from_half (walks_at d cells) h).routes
    half_back ih None = nothing_back p s
    half_back ih (Some j) = ih j

-- ---- changes taken back

pub back_push : (cs : List Change) (c : Change) (kept : ℕ → Best) → back (cs ++ c ∷ []) kept ≡ back cs (put_at kept c.place c.best)
back_push [] c kept = refl
back_push (e ∷ cs) c kept = ap (λ k. put_at k e.place e.best) (back_push cs c kept)

pub back_alike : (cs : List Change) (S T : ℕ → Best) (n : ℕ) → ((j : ℕ) → j ≤ n → S j ≡ T j) → (j : ℕ) → j ≤ n → back cs S j ≡ back cs T j
back_alike [] S T n e j l = e j l
back_alike (c ∷ cs) S T n e j l = ap (cond (nat_eq j c.place) c.best) (back_alike cs S T n e j l)

-- one more change is made, and what was kept is noted in its stead
pub back_step : (items : List Change) (k n : ℕ) (d y : Change) (S T : ℕ → Best) (goal : ℕ → Best) → k < length items → ((j : ℕ) → j ≤ n → T j ≡ put_at S (get_or items k d).place (get_or items k d).best j) →
    y.place ≡ (get_or items k d).place → ((get_or items k d).place ≤ n → y.best ≡ S (get_or items k d).place) → ((j : ℕ) → j ≤ n → back (take k items) S j ≡ goal j) →
    (j : ℕ) → j ≤ n → back (take (k + 1) (slice_set items k y)) T j ≡ goal j
back_step items k n d y S T goal l t p x g j m =
    ap (λ cs. back cs T j) (take_more_set items k y l)
    ∙ (ap (λ K. K j) (back_push (take k items) y T)
    ∙ (back_alike (take k items) (put_at T y.place y.best) S n (λ i w. by_place i w (nat_eq i y.place) refl) j m ∙ g j m))
  where
    c : Change
    c = get_or items k d

    by_place : (i : ℕ) → i ≤ n → (b : Bool) → nat_eq i y.place ≡ b → cond b y.best (T i) ≡ S i
    by_place i w true h =
        let e : i ≡ c.place = eqb-true i y.place h ∙ p in
        x (omega (arith, e, w)) ∙ sym (ap S e)
    by_place i w false h = t i w ∙ ap (λ (b : Bool). cond b c.best (S i)) (ap (nat_eq i) (sym p) ∙ h)

-- all changes are made
pub all_made : (xs items : List Change) (n k : ℕ) → length xs ≡ length items → n ≡ length items → length xs ≤ k → take n (xs ++ drop (length xs) items) ≡ take k xs
all_made xs items n k e f l =
    ap (λ ys. take n (xs ++ ys)) (drop_all (length xs) items (omega (arith, e)))
    ∙ (ap (take n) (append-nil xs) ∙ (take_all n xs (omega (arith, e, f)) ∙ sym (take_all k xs l)))

-- ---- the whole tree

abbrev pub Assigns : Option ℕ → ℕ → ℕ → List Node → List Node → Type 0
Assigns set len q old new =
    (d : ℕ) (name : ℕ → Owner) (p : List Bool) → len < d → IsTree d old name 0 p → CanEdit (bits_of len q) set (walks_at d old 0).nodes → IsSet d Route (bits_of len q) set old new name 0 p

-- a route is changed where what is kept stands for the change already
pub put_in : (f : Family) (q len : ℕ) (set : Option ℕ) (free free' : ℕ) (old new : List Node) (S : ℕ → Best) → len ≤ width f → free' ≡ free → IsArena f old free → CanEdit (bits_of len q) set (whole f old).nodes →
    AreBest (suc (width f)) old S (λ a. lpm (edit (bits_of len q) set (whole f old).routes) a 0) 0 → Assigns set len q old new → HalvesStay old new →
    IsArena f new free' × KeepsBest f new S × (whole f new ≡ edited Route (bits_of len q) set (whole f old))
put_in f q len set free free' old new S few g a w k assigned stay =
    let F = λ (x : List Bool). lpm (edit (bits_of len q) set (whole f old).routes) x 0 in
    let s = set_whole f Route q len free free' set old new few g a w assigned in (
      s.1,
      best_alike (suc (width f)) new S F (λ x. lpm (whole f new).routes x 0) 0 (λ x u. ap (λ R. lpm R x 0) (sym (ap (λ (y : Walks). y.routes) s.0))) (best_stay (suc (width f)) old new S F 0 stay k),
      s.0,
    )

-- what was kept is there again, and the route
pub taken_back : (f : Family) (R : Table) (u : Undo) (n free free1 free' : ℕ) (old mid new : List Node) (S S2 S3 : ℕ → Best) → UndoesChange f R old S u → mid ≡ old → free1 ≡ free → free' ≡ free1 → S3 ≡ S2 → IsArena f old free → length old ≤ n + 1 →
    ((j : ℕ) → j ≤ n → S2 j ≡ back u.changes.items S j) → Assigns u.hop u.path.left u.path.bits mid new → HalvesStay mid new →
    IsArena f new free' × KeepsBest f new S3 × (whole f new ≡ edited Route (bits_of u.path.left u.path.bits) u.hop (whole f old))
taken_back f R u n free free1 free' old mid new S S2 S3 t stays frees g kept a l made assigned stay =
    let F = λ (x : List Bool). lpm R x 0 in
    let k = best_carry (suc (width f)) old old (back u.changes.items S) S2 a.name F 0 [] a.tree (λ j r e b. (refl, made j (omega (arith, l, within_it old free a.spares j a.name r a.held e)))) t.best in
    let y = put_in f u.path.bits u.path.left u.hop free free' old new S2 t.few (g ∙ frees) a t.allowed
    (best_alike (suc (width f)) old S2 F (λ x. lpm (undone u (whole f old).routes) x 0) 0 (λ x z. ap (λ K. lpm K x 0) (sym t.routes)) k)
    (subst (λ (cs : List Node). Assigns u.hop u.path.left u.path.bits cs new) stays assigned) (subst (λ (cs : List Node). HalvesStay cs new) stays stay) in
    (y.0, subst (λ (K : ℕ → Best). KeepsBest f new K) (sym kept) y.1, y.2)

pub if_allowed : (p : List Bool) (o : Option ℕ) (nodes : List (List Bool)) → has_node p nodes ≡ true → CanEdit p o nodes
if_allowed p None nodes h = tt
if_allowed p (Some g) nodes h = h

-- the change that was made can be taken back
pub takes_back : (f : Family) (u : Undo) (set : Option ℕ) (n free : ℕ) (old new : List Node) (S S2 : ℕ → Best) → u.path.left ≤ width f → u.hop ≡ entry_at (bits_of u.path.left u.path.bits) (whole f old).routes → IsArena f old free → KeepsBest f old S → length old ≤ n + 1 →
    ((j : ℕ) → j ≤ n → back u.changes.items S2 j ≡ S j) → HalvesStay old new → whole f new ≡ edited Route (bits_of u.path.left u.path.bits) set (whole f old) → has_node (bits_of u.path.left u.path.bits) (whole f old).nodes ≡ true → UndoesChange f (whole f old).routes new S2 u
takes_back f u set n free old new S S2 few own a k l made stay w there =
    let p = bits_of u.path.left u.path.bits in
    let F = λ (x : List Bool). lpm (whole f old).routes x 0 in
    record {
      routes =
          ap (edit p u.hop) (ap (λ (y : Walks). y.routes) w)
          ∙ (ap (λ o. edit p o (edit p set (whole f old).routes)) own ∙ edit_back (suc (width f)) old 0 p set (omega (arith, few, length-bits_of u.path.left u.path.bits)));
      best = best_stay (suc (width f)) old new (back u.changes.items S2) F 0 stay
          (best_carry (suc (width f)) old old S (back u.changes.items S2) a.name F 0 [] a.tree (λ j r e b. (refl, made j (omega (arith, l, within_it old free a.spares j a.name r a.held e)))) k);
      few = few;
      allowed = if_allowed p u.hop (whole f new).nodes (ap (λ (y : Walks). has_node p y.nodes) w ∙ there);
    }

pub can_undo : (f : Family) (R : Table) (cells : List Node) (S : ℕ → Best) (u : Undo) → UndoesChange f R cells S u → InPlace (of_table f R) → CanUndo f cells S (Some u)
can_undo f R cells S u t i = (
  record { routes = refl; best = subst (λ (K : Table). AreBest (suc (width f)) cells (back u.changes.items S) (λ a. lpm K a 0) 0) (sym t.routes) t.best; few = t.few; allowed = t.allowed },
  subst (λ (K : Table). InPlace (of_table f K)) (sym t.routes) i,
)

pub kept_if : (was : Bool) (f : Family) (R : Table) (cells : List Node) (S : ℕ → Best) (u : Undo) → (was ≡ true → UndoesChange f R cells S u) → InPlace (of_table f R) → CanUndo f cells S (cond was (Some u) None)
kept_if true f R cells S u t i = can_undo f R cells S u (t refl) i
kept_if false f R cells S u t i = tt

-- where no route changes, it can still be taken back
pub can_stay : (f : Family) (old new : List Node) (S : ℕ → Best) (o : Option Undo) → HalvesStay old new → (whole f new).routes ≡ (whole f old).routes → (whole f new).nodes ≡ (whole f old).nodes → CanUndo f old S o → CanUndo f new S o
can_stay f old new S None h r m c = tt
can_stay f old new S (Some u) h r m c =
    let R = undone u (whole f old).routes in
    let same : undone u (whole f new).routes ≡ R = ap (undone u) r in
    can_undo f R new S u
    (record {
      routes = same;
      best = best_stay (suc (width f)) old new (back u.changes.items S) (λ a. lpm R a 0) 0 h c.0.best;
      few = c.0.few;
      allowed = subst (λ (x : List (List Bool)). CanEdit (bits_of u.path.left u.path.bits) u.hop x) (sym m) c.0.allowed;
    }) c.1

back_same : (cs : List Change) (S T : ℕ → Best) → ((j : ℕ) → T j ≡ S j) → (j : ℕ) → back cs T j ≡ back cs S j
back_same [] S T e j = e j
back_same (c ∷ cs) S T e j = ap (cond (nat_eq j c.place) c.best) (back_same cs S T e j)

-- and where nothing does
pub can_same : (f : Family) (old new : List Node) (S T : ℕ → Best) (o : Option Undo) → new ≡ old → ((j : ℕ) → T j ≡ S j) → CanUndo f old S o → CanUndo f new T o
can_same f old new S T None e s c = tt
can_same f old new S T (Some u) e s c =
    subst (λ (cs : List Node). CanUndo f cs T (Some u)) (sym e)
    (record { routes = refl; best = best_same (suc (width f)) old (back u.changes.items S) (back u.changes.items T) (λ a. lpm (undone u (whole f old).routes) a 0) 0 (back_same u.changes.items S T s) c.0.best; few = c.0.few; allowed = c.0.allowed }, c.1)

pub before_none : (o : Option Undo) (R : Table) → o ≡ None → routes_before o R ≡ R
before_none o R e = ap (λ x. routes_before x R) e

pub undone_same : (was : Bool) (f : Family) (S R : Table) (u : Undo) → was ≡ true → undone u S ≡ R → of_table f (routes_before (cond was (Some u) None) S) ≡ of_table f R
undone_same was f S R u w e = ap (λ (b : Bool). of_table f (routes_before (cond b (Some u) None) S)) w ∙ ap (of_table f) e

pub few_bits : (p : code.Prefix) (f : Family) → p.family ≡ f → p.len ≤ width f
few_bits p f e = omega (arith, p.fits, ap width e)

pub true_not : true ≡ false → ⊥
true_not e = cc
