-- The rows of regions.
use Rattle.std.proofs.Common.{◌≡◌, ◌≢◌, ℕ, zero, suc, ◌-◌, List, [], ◌∷◌, ◌++◌, Bool, true, false, cond, Option, Some, None, length, refl, sym, ap, subst, ◌∙◌, arith, append_assoc}
use Rattle.std.specs.Prelude.{Box, IfNone}
use Rattle.std.specs.declared.alloc.Global.{Global}
use Rattle.table_model.specs.Address.{Prefix}
use Rattle.table_model.specs.Halves.{half_at}
use Rattle.fib_addr.specs.Views.{prefix_as}
use Rattle.fib_addr.specs.declared.prefix.Prefix as code
use Rattle.table_model.specs.Table.{Table, root, half, inherit}
use Rattle.table_model.specs.Sets.{side, k_of}
use Rattle.fib_addr.specs.Answers.{one_answer, same_hop}
use Rattle.cert_model.specs.Rows.{CertRow, leaf_row, join_row, leaf_or}
use Rattle.fib_addr.proofs.OneAnswer.{one_answer_from}
use Rattle.orig_tree.specs.Spots.{Spot, spot_answers}
use Rattle.ortc.proofs.Alike.{half_answers, two_answers}
use Rattle.moves_model.specs.Sets.{k_over, inner_set, inner_k, near_k}
use Rattle.moves_model.specs.Demands.{is_bare}
use Rattle.moves_model.specs.Rows.{leaf_answer, near_region_rows}
use Rattle.moves_model.proofs.Regions.{inner_alike}
use Rattle.fib_moves.specs.declared.needs.RegionNeeds.{RegionNeeds}
use Rattle.fib_moves.specs.Needs.{Knows}

one_alike : (d : ℕ) (f g : List Bool → ℕ) → ((a : List Bool) → length a ≡ d → f a ≡ g a) → one_answer d f ≡ one_answer d g
unfolding one_answer
one_alike zero f g e = ap Some (e [] refl)
one_alike (suc d) f g e =
    ap (λ x. same_hop x (one_answer d (side true f))) (one_alike d (side false f) (side false g) (λ a l. e (false ∷ a) (ap suc l)))
    ∙ ap (same_hop (one_answer d (side false g))) (one_alike d (side true f) (side true g) (λ a l. e (true ∷ a) (ap suc l)))

k_alike : (d : ℕ) (f g : List Bool → ℕ) (T : Table) → ((a : List Bool) → length a ≡ d → f a ≡ g a) → near_k d f T ≡ near_k d g T
k_alike d f g T e = let x = inner_alike d f g T e in ap (λ S. k_over (root T) S (inner_k d f T)) x.0 ∙ ap (k_over (root T) (inner_set d g T)) x.1

pub rows_alike : (d : ℕ) (f g : List Bool → ℕ) (T : Table) (p : Prefix) → ((a : List Bool) → length a ≡ d → f a ≡ g a) → near_region_rows d f T p ≡ near_region_rows d g T p
unfolding near_region_rows
rows_alike zero f g T p e = ap (λ h. leaf_row p h ∷ []) (e [] refl)
rows_alike (suc d) f g T p e =
    ap (λ o. leaf_or (cond (is_bare T) o None) p (near_region_rows d (side false f) (half false T) (half_at false p) ++ (near_region_rows d (side true f) (half true T) (half_at true p) ++ (join_row p (near_k (suc d) f T) ∷ [])))) (one_alike (suc d) f g e)
    ∙ (ap (λ x. leaf_or (leaf_answer (suc d) g T) p (x ++ (near_region_rows d (side true f) (half true T) (half_at true p) ++ (join_row p (near_k (suc d) f T) ∷ [])))) (rows_alike d (side false f) (side false g) (half false T) (half_at false p) (λ a l. e (false ∷ a) (ap suc l)))
    ∙ (ap (λ x. leaf_or (leaf_answer (suc d) g T) p (near_region_rows d (side false g) (half false T) (half_at false p) ++ (x ++ (join_row p (near_k (suc d) f T) ∷ [])))) (rows_alike d (side true f) (side true g) (half true T) (half_at true p) (λ a l. e (true ∷ a) (ap suc l)))
    ∙ ap (λ k. leaf_or (leaf_answer (suc d) g T) p (near_region_rows d (side false g) (half false T) (half_at false p) ++ (near_region_rows d (side true g) (half true T) (half_at true p) ++ (join_row p k ∷ [])))) (k_alike (suc d) f g T e)))

rows_leaf : (d : ℕ) (f : List Bool → ℕ) (T : Table) (h : ℕ) (p : Prefix) → is_bare T ≡ true → ((a : List Bool) → length a ≡ d → f a ≡ h) → near_region_rows d f T p ≡ leaf_row p h ∷ []
unfolding near_region_rows
rows_leaf zero f T h p b e = ap (λ x. leaf_row p x ∷ []) (e [] refl)
rows_leaf (suc d) f T h p b e =
    let rest = near_region_rows d (side false f) (half false T) (half_at false p) ++ (near_region_rows d (side true f) (half true T) (half_at true p) ++ (join_row p (near_k (suc d) f T) ∷ [])) in
    ap (λ (x : Bool). leaf_or (cond x (one_answer (suc d) f) None) p rest) b ∙ ap (λ o. leaf_or o p rest) (one_answer_from (suc d) f h e)

rows_join : (d : ℕ) (f : List Bool → ℕ) (T : Table) (p : Prefix) → leaf_answer (suc d) f T ≡ None
    → near_region_rows (suc d) f T p ≡ near_region_rows d (side false f) (half false T) (half_at false p) ++ (near_region_rows d (side true f) (half true T) (half_at true p) ++ (join_row p (near_k (suc d) f T) ∷ []))
unfolding near_region_rows
rows_join d f T p e = ap (λ o. leaf_or o p (near_region_rows d (side false f) (half false T) (half_at false p) ++ (near_region_rows d (side true f) (half true T) (half_at true p) ++ (join_row p (near_k (suc d) f T) ∷ [])))) e

-- what a half's rows are
rows_half : (p q : code.Prefix) (s t : Spot) (b : Bool) (e : ℕ) → suc t.bits ≡ s.bits → suc e ≡ s.bits → t.routes ≡ half b s.routes → t.entries ≡ half b s.entries → t.hop ≡ inherit (root s.routes) s.hop → prefix_as q ≡ half_at b (prefix_as p)
    → near_region_rows t.bits (spot_answers t) t.entries (prefix_as q) ≡ near_region_rows e (side b (spot_answers s)) (half b s.entries) (half_at b (prefix_as p))
rows_half p q s t b e n m r l h k =
    let is : t.bits ≡ e = omega (arith, n, m) in
    rows_alike t.bits (spot_answers t) (side b (spot_answers s)) t.entries (prefix_as q) (λ a u. half_answers s t b r h a)
    ∙ (ap (λ d. near_region_rows d (side b (spot_answers s)) t.entries (prefix_as q)) is
    ∙ (ap (λ L. near_region_rows e (side b (spot_answers s)) L (prefix_as q)) l ∙ ap (near_region_rows e (side b (spot_answers s)) (half b s.entries)) k))

-- ---- what is listed

pub listed_leaf : (p : Prefix) (s : Spot) (h : ℕ) (X Y : List CertRow) → is_bare s.entries ≡ true → ((a : List Bool) → length a ≡ s.bits → spot_answers s a ≡ h) → Y ≡ X ++ leaf_row p h ∷ [] → Y ≡ X ++ near_region_rows s.bits (spot_answers s) s.entries p
listed_leaf p s h X Y b e y = y ∙ ap (λ rows. X ++ rows) (sym (rows_leaf s.bits (spot_answers s) s.entries h p b e))

pub listed_join : (p q r : code.Prefix) (s low high : Spot) (k : ℕ) (X Y Z W : List CertRow) → s.bits ≢ 0 → leaf_answer s.bits (spot_answers s) s.entries ≡ None → k ≡ near_k s.bits (spot_answers s) s.entries
    → suc low.bits ≡ s.bits → low.routes ≡ half false s.routes → low.entries ≡ half false s.entries → low.hop ≡ inherit (root s.routes) s.hop
    → suc high.bits ≡ s.bits → high.routes ≡ half true s.routes → high.entries ≡ half true s.entries → high.hop ≡ inherit (root s.routes) s.hop
    → prefix_as q ≡ half_at false (prefix_as p) → prefix_as r ≡ half_at true (prefix_as p)
    → Y ≡ X ++ near_region_rows low.bits (spot_answers low) low.entries (prefix_as q) → Z ≡ Y ++ near_region_rows high.bits (spot_answers high) high.entries (prefix_as r) → W ≡ Z ++ join_row (prefix_as p) k ∷ []
    → W ≡ X ++ near_region_rows s.bits (spot_answers s) s.entries (prefix_as p)
listed_join p q r s low high k X Y Z W some one ke ln lr le lh hn hr he hh eq er y z w =
    let f = spot_answers s in
    let T = s.entries in
    let P = prefix_as p in
    let e = s.bits - 1 in
    let n : suc e ≡ s.bits = omega (arith, some) in
    let A = near_region_rows e (side false f) (half false T) (half_at false P) in
    let B = near_region_rows e (side true f) (half true T) (half_at true P) in
    let C : List CertRow = join_row P (near_k (suc e) f T) ∷ [] in
    let y' : Y ≡ X ++ A = y ∙ ap (λ rows. X ++ rows) (rows_half p q s low false e ln n lr le lh eq) in
    let z' : Z ≡ Y ++ B = z ∙ ap (λ rows. Y ++ rows) (rows_half p r s high true e hn n hr he hh er) in
    let w' : W ≡ Z ++ C = w ∙ ap (λ x. Z ++ join_row P x ∷ []) (ke ∙ ap (λ d. near_k d f T) (sym n)) in
    let none : leaf_answer (suc e) f T ≡ None = ap (λ d. leaf_answer d f T) n ∙ one in
    w' ∙ (ap (λ x. x ++ C) (z' ∙ ap (λ x. x ++ B) y') ∙ (append_assoc (X ++ A) B C ∙ (append_assoc X A (B ++ C)
    ∙ (ap (λ rows. X ++ rows) (sym (rows_join e f T P none)) ∙ ap (λ d. X ++ near_region_rows d f T P) n))))

-- ---- leaves

pub no_leaf : (d : ℕ) (f : List Bool → ℕ) (T : Table) (s : Option (Box RegionNeeds Global)) (b : Box RegionNeeds Global) → Knows d f T s → s ≡ Some b → (leaf_answer d f T ≡ None) × (d ≢ 0)
no_leaf d f T s b x e = by_depth d f (subst (Knows d f T) e x)
  where
    by_depth : (d : ℕ) (f : List Bool → ℕ) → Knows d f T (Some b) → (leaf_answer d f T ≡ None) × (d ≢ 0)
    by_depth zero f x = absurd x
    by_depth (suc d) f x = (ap (λ (y : Bool). cond y (one_answer (suc d) f) None) x.0, λ z. omega (arith, z))

pub two_leaves : (d : ℕ) (f : List Bool → ℕ) (T : Table) → k_of d f ≢ 0 → leaf_answer d f T ≡ None
two_leaves d f T n = ap (λ o. cond (is_bare T) o None) (two_answers d f n) ∙ same (is_bare T)
  where
    nothing : Option ℕ
    nothing = None

    same : (b : Bool) → cond b nothing nothing ≡ nothing
    same true = refl
    same false = refl

pub if_none : {X : Type 0} (o : Option X) (P Q : Type 0) → (P → Q) → IfNone o P → IfNone o Q
if_none None P Q f x = f x
if_none (Some y) P Q f x = tt
