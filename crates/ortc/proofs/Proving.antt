-- The rows of regions.
use Rattle.std.proofs.Common.{◌≡◌, ◌≢◌, ℕ, zero, suc, ◌+◌, ◌-◌, List, [], ◌∷◌, ◌++◌, Bool, true, false, None, length, refl, sym, ap, subst, ◌∙◌, arith}
use Rattle.table_model.specs.Address.{Prefix}
use Rattle.table_model.specs.Width.{width}
use Rattle.table_model.specs.Halves.{half_at}
use Rattle.table_model.specs.declared.family.Family.{Family}
use Rattle.fib_addr.specs.Views.{prefix_as}
use Rattle.fib_addr.specs.declared.prefix.Prefix as code
use Rattle.table_model.specs.Table.{root, half, inherit}
use Rattle.table_model.specs.Entries.{Entries, of_family}
use Rattle.table_model.specs.Sets.{side, set_of, k_of, answers}
use Rattle.table_model.specs.Least.{Least, bound}
use Rattle.ortc.specs.Proved.{ProveLeast}
use Rattle.cert_model.specs.Rows.{CertRow, leaf_row, join_row, bound_row, leaf_or, region_rows, whole_prefix, family_rows}
use Rattle.cert_model.specs.Right.{bound_by}
use Rattle.fib_addr.proofs.OneAnswer.{one_answer_from}
use Rattle.cert_model.proofs.Postorder.{have_bound, few}
use Rattle.orig_tree.proofs.Telling.{whole_len}
use Rattle.orig_tree.specs.Spots.{Spot, spot_answers}
use Rattle.table_model.proofs.Cost.{set_alike, k_alike}
use Rattle.table_model.proofs.Laws.{bound_law}
use Rattle.fib_addr.specs.Answers.{one_answer}
use Rattle.ortc.proofs.Alike.{rows_alike, two_answers, some_bit, half_answers}

-- the rows of a region with one answer
rows_leaf : (d : ℕ) (f : List Bool → ℕ) (h : ℕ) (p : Prefix) → ((a : List Bool) → length a ≡ d → f a ≡ h) → region_rows d f p ≡ leaf_row p h ∷ []
unfolding region_rows
rows_leaf zero f h p e = ap (λ x. leaf_row p x ∷ []) (e [] refl)
rows_leaf (suc d) f h p e =
    ap (λ o. leaf_or o p (region_rows d (side false f) (half_at false p) ++ (region_rows d (side true f) (half_at true p) ++ (join_row p (k_of (suc d) f) ∷ [])))) (one_answer_from (suc d) f h e)

-- and with more than one
rows_join : (d : ℕ) (f : List Bool → ℕ) (p : Prefix) → one_answer (suc d) f ≡ None → region_rows (suc d) f p ≡ region_rows d (side false f) (half_at false p) ++ (region_rows d (side true f) (half_at true p) ++ (join_row p (k_of (suc d) f) ∷ []))
unfolding region_rows
rows_join d f p e = ap (λ o. leaf_or o p (region_rows d (side false f) (half_at false p) ++ (region_rows d (side true f) (half_at true p) ++ (join_row p (k_of (suc d) f) ∷ [])))) e

-- the region of the whole space
fresh_proved : (f : Family) (p : code.Prefix) (R : Entries) (s : Spot) (W : List CertRow) → prefix_as p ≡ record { family = f; bits = [] } → s.bits + p.len ≡ width f
    → ((a : List Bool) → spot_answers s a ≡ answers (of_family f R) (prefix_as p).bits a)
    → W ≡ region_rows s.bits (spot_answers s) (prefix_as p) ++ bound_row p.family (bound_by (set_of s.bits (spot_answers s)) (k_of s.bits (spot_answers s))) ∷ []
    → W ≡ family_rows f R
fresh_proved f p R s W e b g w =
    let T = of_family f R in
    let n : s.bits ≡ width f = omega (arith, whole_len f p e, b) in
    let z : width f ≡ width f - 0 = omega arith in
    let G : List Bool → ℕ = answers T (prefix_as p).bits in
    let alike : (a : List Bool) → length a ≡ s.bits → spot_answers s a ≡ G a = λ a u. g a in
    w ∙ (ap (λ x. x ++ bound_row p.family (bound_by (set_of s.bits (spot_answers s)) (k_of s.bits (spot_answers s))) ∷ []) (rows_alike s.bits (spot_answers s) G (prefix_as p) alike)
    ∙ (ap (λ S. region_rows s.bits G (prefix_as p) ++ bound_row p.family (bound_by S (k_of s.bits (spot_answers s))) ∷ []) (set_alike s.bits (spot_answers s) G alike)
    ∙ (ap (λ k. region_rows s.bits G (prefix_as p) ++ bound_row p.family (bound_by (set_of s.bits G) k) ∷ []) (k_alike s.bits (spot_answers s) G alike)
    ∙ (ap (λ (x : Prefix). region_rows s.bits (answers T x.bits) x ++ bound_row x.family (bound_by (set_of s.bits (answers T x.bits)) (k_of s.bits (answers T x.bits))) ∷ []) e
    ∙ (ap (λ d. region_rows d (answers T []) (whole_prefix f) ++ bound_row f (bound_by (set_of d (answers T [])) (k_of d (answers T []))) ∷ []) n
    ∙ ap (λ d. region_rows (width f) (answers T []) (whole_prefix f) ++ bound_row f (bound_by (set_of d (answers T [])) (k_of d (answers T []))) ∷ []) z)))))

-- what a half's rows are
rows_half : (p q : code.Prefix) (s t : Spot) (b : Bool) (e : ℕ) → suc t.bits ≡ s.bits → suc e ≡ s.bits → t.routes ≡ half b s.routes → t.hop ≡ inherit (root s.routes) s.hop → prefix_as q ≡ half_at b (prefix_as p)
    → region_rows t.bits (spot_answers t) (prefix_as q) ≡ region_rows e (side b (spot_answers s)) (half_at b (prefix_as p))
rows_half p q s t b e n m r h k =
    let is : t.bits ≡ e = omega (arith, n, m) in
    rows_alike t.bits (spot_answers t) (side b (spot_answers s)) (prefix_as q) (λ a u. half_answers s t b r h a) ∙ (ap (λ d. region_rows d (side b (spot_answers s)) (prefix_as q)) is ∙ ap (region_rows e (side b (spot_answers s))) k)

-- ---- who takes the rows

module _ {S : Type 0} (Takes : S → List CertRow → S → Type 0) where
  -- of a region with one answer
  pub handed_leaf : (p : Prefix) (d : ℕ) (f : List Bool → ℕ) (h : ℕ) (X Y : S) → ((a : List Bool) → length a ≡ d → f a ≡ h) → Takes X (leaf_row p h ∷ []) Y → Takes X (region_rows d f p) Y
  handed_leaf p d f h X Y u y = subst (λ rows. Takes X rows Y) (sym (rows_leaf d f h p u)) y

  module _ (joins : (a b c : S) (rows more : List CertRow) → Takes a rows b → Takes b more c → Takes a (rows ++ more) c) where
    -- of any other region
    pub handed_join : (p q r : code.Prefix) (s low high : Spot) (k : ℕ) (X Y Z W : S) → k_of s.bits (spot_answers s) ≢ 0 → k ≡ k_of s.bits (spot_answers s)
        → suc low.bits ≡ s.bits → low.routes ≡ half false s.routes → low.hop ≡ inherit (root s.routes) s.hop
        → suc high.bits ≡ s.bits → high.routes ≡ half true s.routes → high.hop ≡ inherit (root s.routes) s.hop
        → prefix_as q ≡ half_at false (prefix_as p) → prefix_as r ≡ half_at true (prefix_as p)
        → Takes X (region_rows low.bits (spot_answers low) (prefix_as q)) Y
        → Takes Y (region_rows high.bits (spot_answers high) (prefix_as r)) Z
        → Takes Z (join_row (prefix_as p) k ∷ []) W
        → Takes X (region_rows s.bits (spot_answers s) (prefix_as p)) W
    handed_join p q r s low high k X Y Z W some ke ln lr lh hn hr hh eq er y z w =
        let f = spot_answers s in
        let P = prefix_as p in
        let e = s.bits - 1 in
        let n : suc e ≡ s.bits = omega (arith, some_bit s.bits f some) in
        let one : one_answer (suc e) f ≡ None = ap (λ d. one_answer d f) n ∙ two_answers s.bits f some in
        let A = region_rows e (side false f) (half_at false P) in
        let B = region_rows e (side true f) (half_at true P) in
        let C : List CertRow = join_row P (k_of (suc e) f) ∷ [] in
        let first = subst (λ rows. Takes X rows Y) (rows_half p q s low false e ln n lr lh eq) y in
        let second = subst (λ rows. Takes Y rows Z) (rows_half p r s high true e hn n hr hh er) z in
        let last = subst (λ x. Takes Z (join_row P x ∷ []) W) (ke ∙ ap (λ d. k_of d f) (sym n)) w in
        subst (λ d. Takes X (region_rows d f P) W) n (subst (λ rows. Takes X rows W) (sym (rows_join e f P one)) (joins X Y W A (B ++ C) first (joins Y Z W B C second last)))

    -- of the whole space, and the bound
    pub handed_all : (f : Family) (p : code.Prefix) (R : Entries) (s : Spot) (n : ℕ) (X Y Z : S) → prefix_as p ≡ record { family = f; bits = [] } → s.bits + p.len ≡ width f
        → ((a : List Bool) → spot_answers s a ≡ answers (of_family f R) (prefix_as p).bits a)
        → n ≡ bound_by (set_of s.bits (spot_answers s)) (k_of s.bits (spot_answers s))
        → Takes X (region_rows s.bits (spot_answers s) (prefix_as p)) Y
        → Takes Y (bound_row p.family n ∷ []) Z
        → Takes X (family_rows f R) Z
    handed_all f p R s n X Y Z e b g is rows bound =
        let all : List CertRow = region_rows s.bits (spot_answers s) (prefix_as p) ++ bound_row p.family n ∷ [] in
        subst (λ xs. Takes X xs Z) (fresh_proved f p R s all e b g (ap (λ x. region_rows s.bits (spot_answers s) (prefix_as p) ++ bound_row p.family x ∷ []) is)) (joins X Y Z (region_rows s.bits (spot_answers s) (prefix_as p)) (bound_row p.family n ∷ []) rows bound)

-- they prove a least table least
as_many : (f : Family) (R T : Entries) → Least (width f) (of_family f R) (of_family f T) → length (of_family f T) ≡ bound (width f) (of_family f R)
as_many f R T l = omega (arith, few R T f l, bound_law (width f) (of_family f R) (of_family f T) l.0)

pub certified : (f : Family) (R T : Entries) (rows : List CertRow) → rows ≡ family_rows f R → Least (width f) (of_family f R) (of_family f T) → ProveLeast f R T rows
certified f R T rows e l = (l.0, region_rows (width f) (answers (of_family f R) []) (whole_prefix f), bound (width f) (of_family f R), e, have_bound R f, as_many f R T l)
