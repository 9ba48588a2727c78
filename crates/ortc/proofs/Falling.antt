-- The downward pass.
use Rattle.std.proofs.Common.{◌≡◌, ◌≢◌, ◌+◌, ℕ, zero, suc, ◌-◌, List, [], ◌∷◌, ◌++◌, Bool, true, false, cond, Option, Some, None, length, nat_eq, refl, sym, ap, ◌∙◌, arith, subst, inl, inr, ◌||◌, map}
use Rattle.std.proofs.lemmas.Bool.{ne_eqb, eqb-true, eq-eqb, cases_Bool}
use Rattle.std.specs.List.Sorted.{IsStrictlySortedBy}
use Rattle.std.specs.Map.{keys_of}
use Rattle.std.specs.Option.{option_to_list}
use Rattle.table_model.specs.Order.{prefix_cmp}
use Rattle.table_model.specs.Address.{Prefix}
use Rattle.table_model.specs.Width.{width}
use Rattle.table_model.specs.Halves.{half_at}
use Rattle.table_model.specs.declared.family.Family.{Family}
use Rattle.fib_addr.specs.Views.{prefix_as}
use Rattle.fib_addr.proofs.Parts.{length_prefix}
use Rattle.fib_addr.specs.declared.prefix.Prefix as code
use Rattle.table_model.specs.Table.{Table, root, half, here, inherit, cut}
use Rattle.table_model.specs.Entries.{Entries, of_family, of_table}
use Rattle.table_model.proofs.Cut.{entry}
use Rattle.table_model.specs.Regions.{lift, join}
use Rattle.table_model.specs.Sets.{side, set_of, own, pick, agg, answers}
use Rattle.table_model.specs.Least.{aggregate, IsAggregate, Least, LeastWithin}
use Rattle.table_model.proofs.Sets.{in_first, in_single, in_pick}
use Rattle.table_model.proofs.Cost.{set_uniform}
use Rattle.table_model.proofs.Laws.{fresh_law, aggregate_least}
use Rattle.table_model.proofs.Patch.{aggregate_is}
use Rattle.table_model.proofs.Both.{family_is, sorted_aggregate}
use Rattle.orig_tree.proofs.Telling as telling
use Rattle.orig_tree.specs.Spots.{Spot, spot_answers}
use Rattle.ortc.proofs.Alike.{agg_alike, half_answers}

-- ---- a uniform region

own_same : (x : ℕ) (o : Option ℕ) → own (x ∷ []) o x ≡ None
own_same x o = ap (λ (b : Bool). cond b None (Some (pick (x ∷ []) o))) (in_first x x [] refl)

absent : (b : Bool) → b ≡ false → (b || false) ≡ false
absent true e = cc
absent false e = refl

own_other : (x h : ℕ) (o : Option ℕ) → (x ≡ h → ⊥) → own (x ∷ []) o h ≡ Some x
own_other x h o n =
    ap (λ (b : Bool). cond b None (Some (pick (x ∷ []) o))) (absent (nat_eq x h) (ne_eqb x h n))
    ∙ ap Some (sym (in_single x (pick (x ∷ []) o) (in_pick (x ∷ []) o refl)))

uniform_step : (o : Option ℕ) (A B : Table) → A ≡ [] → B ≡ [] → join o A B ≡ here o
uniform_step None A B a b = ap (λ x. lift (false ∷ []) x ++ lift (true ∷ []) B) a ∙ ap (λ x. lift (true ∷ []) x) b
uniform_step (Some g) A B a b = ap (λ x. entry [] g ∷ (lift (false ∷ []) x ++ lift (true ∷ []) B)) a ∙ ap (λ x. entry [] g ∷ lift (true ∷ []) x) b

-- below a uniform region that inherits its hop there are no entries
agg_same : (d : ℕ) (f : List Bool → ℕ) (L : Table) (x : ℕ) → ((a : List Bool) → length a ≡ d → f a ≡ x) → agg d f L x ≡ []
unfolding agg set_of
agg_same zero f L x u = ap (λ S. join (own S (root L) x) [] []) (set_uniform zero f x u) ∙ ap (λ o. join o [] []) (own_same x (root L))
agg_same (suc d) f L x u =
    let low : (a : List Bool) → length a ≡ d → f (false ∷ a) ≡ x = λ a l. u (false ∷ a) (ap suc l) in
    let high : (a : List Bool) → length a ≡ d → f (true ∷ a) ≡ x = λ a l. u (true ∷ a) (ap suc l) in
    let e : own (set_of (suc d) f) (root L) x ≡ None = ap (λ S. own S (root L) x) (set_uniform (suc d) f x u) ∙ own_same x (root L) in
    ap (λ o. join o (agg d (side false f) (half false L) (inherit o x)) (agg d (side true f) (half true L) (inherit o x))) e
    ∙ uniform_step None _ _ (agg_same d (side false f) (half false L) x low) (agg_same d (side true f) (half true L) x high)

-- and where it inherits another there is its own
agg_other : (d : ℕ) (f : List Bool → ℕ) (L : Table) (x h : ℕ) → ((a : List Bool) → length a ≡ d → f a ≡ x) → (x ≡ h → ⊥) → agg d f L h ≡ entry [] x ∷ []
unfolding agg set_of
agg_other zero f L x h u n = ap (λ S. join (own S (root L) h) [] []) (set_uniform zero f x u) ∙ ap (λ o. join o [] []) (own_other x h (root L) n)
agg_other (suc d) f L x h u n =
    let low : (a : List Bool) → length a ≡ d → f (false ∷ a) ≡ x = λ a l. u (false ∷ a) (ap suc l) in
    let high : (a : List Bool) → length a ≡ d → f (true ∷ a) ≡ x = λ a l. u (true ∷ a) (ap suc l) in
    let e : own (set_of (suc d) f) (root L) h ≡ Some x = ap (λ S. own S (root L) h) (set_uniform (suc d) f x u) ∙ own_other x h (root L) n in
    ap (λ o. join o (agg d (side false f) (half false L) (inherit o h)) (agg d (side true f) (half true L) (inherit o h))) e
    ∙ uniform_step (Some x) _ _ (agg_same d (side false f) (half false L) x low) (agg_same d (side true f) (half true L) x high)

pub leaf_agg : (d : ℕ) (f : List Bool → ℕ) (L : Table) (x h : ℕ) → ((a : List Bool) → length a ≡ d → f a ≡ x) → here (cond (nat_eq x h) None (Some x)) ≡ agg d f L h
leaf_agg d f L x h u =
    elim (cases_Bool (nat_eq x h)) [
      | inl e ↦ ap (λ (b : Bool). here (cond b None (Some x))) e ∙ sym (ap (agg d f L) (sym (eqb-true x h e)) ∙ agg_same d f L x u)
      | inr e ↦ ap (λ (b : Bool). here (cond b None (Some x))) e ∙ sym (agg_other d f L x h u (λ q. let z : nat_eq x h ≡ true = eq-eqb x h q in cc))
    ]

-- the entries of a region with one answer
leaf_told : (p : code.Prefix) (d : ℕ) (f : List Bool → ℕ) (L : Table) (x h : ℕ) (o : Option ℕ) → ((a : List Bool) → length a ≡ d → f a ≡ x) → o ≡ cond (nat_eq x h) None (Some x)
    → map (λ k. (prefix_as p, k)) (option_to_list o) ≡ of_table p.family (lift (prefix_as p).bits (agg d f L h))
leaf_told p d f L x h o u e = telling.told_own (prefix_as p) o ∙ ap (λ z. of_table p.family (lift (prefix_as p).bits z)) (ap here e ∙ leaf_agg d f L x h u)

-- ---- a region of two halves

agg_level : (e : ℕ) (f : List Bool → ℕ) (L : Table) (h : ℕ) → (let o = own (set_of (suc e) f) (root L) h in agg (suc e) f L h ≡ join o (agg e (side false f) (half false L) (inherit o h)) (agg e (side true f) (half true L) (inherit o h)))
unfolding agg
agg_level e f L h = refl

agg_suc : (d e : ℕ) (f : List Bool → ℕ) (L : Table) (h hop : ℕ) (o : Option ℕ) → suc e ≡ d → o ≡ own (set_of d f) (root L) h → hop ≡ inherit o h
    → agg d f L h ≡ join o (agg e (side false f) (half false L) hop) (agg e (side true f) (half true L) hop)
agg_suc d e f L h hop o n k i =
    subst (λ (m : ℕ). o ≡ own (set_of m f) (root L) h → agg m f L h ≡ join o (agg e (side false f) (half false L) hop) (agg e (side true f) (half true L) hop)) n (λ q. one_level e f L h hop o q i) k
  where
    one_level : (e : ℕ) (f : List Bool → ℕ) (L : Table) (h hop : ℕ) (o : Option ℕ) → o ≡ own (set_of (suc e) f) (root L) h → hop ≡ inherit o h → agg (suc e) f L h ≡ join o (agg e (side false f) (half false L) hop) (agg e (side true f) (half true L) hop)
    one_level e f L h hop o k i = agg_level e f L h ∙ sym (ap (λ x. join o (agg e (side false f) (half false L) x) (agg e (side true f) (half true L) x)) i ∙ ap (λ y. join y (agg e (side false f) (half false L) (inherit y h)) (agg e (side true f) (half true L) (inherit y h))) k)

-- what a half's entries are told as
half_told : (p q : code.Prefix) (s t : Spot) (b : Bool) (e hop : ℕ) → suc t.bits ≡ s.bits → suc e ≡ s.bits → t.routes ≡ half b s.routes → t.entries ≡ half b s.entries → t.hop ≡ inherit (root s.routes) s.hop → prefix_as q ≡ half_at b (prefix_as p)
    → of_table q.family (lift (prefix_as q).bits (agg t.bits (spot_answers t) t.entries hop)) ≡ of_table p.family (lift ((prefix_as p).bits ++ (b ∷ [])) (agg e (side b (spot_answers s)) (half b s.entries) hop))
half_told p q s t b e hop n m r l h k =
    let is : t.bits ≡ e = omega (arith, n, m) in
    ap (λ (x : Prefix). of_table x.family (lift x.bits (agg t.bits (spot_answers t) t.entries hop))) k
    ∙ ap (λ T. of_table p.family (lift ((prefix_as p).bits ++ (b ∷ [])) T))
    (agg_alike t.bits (spot_answers t) (side b (spot_answers s)) t.entries hop (λ a u. half_answers s t b r h a) ∙ (ap (λ d. agg d (side b (spot_answers s)) t.entries hop) is ∙ ap (λ E. agg e (side b (spot_answers s)) E hop) l))

-- ---- who takes the entries

module _ {S : Type 0} (Takes : S → Entries → S → Type 0) where
  -- of a region with one answer
  pub handed_leaf : (p : code.Prefix) (d : ℕ) (f : List Bool → ℕ) (L : Table) (x h : ℕ) (o : Option ℕ) (X Y : S) → ((a : List Bool) → length a ≡ d → f a ≡ x) → o ≡ cond (nat_eq x h) None (Some x)
      → Takes X (map (λ k. (prefix_as p, k)) (option_to_list o)) Y → Takes X (of_table p.family (lift (prefix_as p).bits (agg d f L h))) Y
  handed_leaf p d f L x h o X Y u e y = subst (λ entries. Takes X entries Y) (leaf_told p d f L x h o u e) y

  module _ (joins : (a b c : S) (entries more : Entries) → Takes a entries b → Takes b more c → Takes a (entries ++ more) c) where
    -- of any other region: its own, and those of its halves
    pub handed_join : (p q r : code.Prefix) (s low high : Spot) (h hop : ℕ) (o : Option ℕ) (X Y Z W : S) → s.bits ≢ 0
        → o ≡ own (set_of s.bits (spot_answers s)) (root s.entries) h → hop ≡ inherit o h
        → suc low.bits ≡ s.bits → low.routes ≡ half false s.routes → low.entries ≡ half false s.entries → low.hop ≡ inherit (root s.routes) s.hop
        → suc high.bits ≡ s.bits → high.routes ≡ half true s.routes → high.entries ≡ half true s.entries → high.hop ≡ inherit (root s.routes) s.hop
        → prefix_as q ≡ half_at false (prefix_as p) → prefix_as r ≡ half_at true (prefix_as p)
        → Takes X (map (λ k. (prefix_as p, k)) (option_to_list o)) Y
        → Takes Y (of_table q.family (lift (prefix_as q).bits (agg low.bits (spot_answers low) low.entries hop))) Z
        → Takes Z (of_table r.family (lift (prefix_as r).bits (agg high.bits (spot_answers high) high.entries hop))) W
        → Takes X (of_table p.family (lift (prefix_as p).bits (agg s.bits (spot_answers s) s.entries h))) W
    handed_join p q r s low high h hop o X Y Z W some ow i ln lr le lh hn hr he hh eq er y z w =
        let e = s.bits - 1 in
        let n : suc e ≡ s.bits = omega (arith, some) in
        let P = (prefix_as p).bits in
        let m = p.family in
        let A = agg e (side false (spot_answers s)) (half false s.entries) hop in
        let B = agg e (side true (spot_answers s)) (half true s.entries) hop in
        let O = of_table m (lift P (here o)) in
        let C = of_table m (lift (P ++ (false ∷ [])) A) in
        let D = of_table m (lift (P ++ (true ∷ [])) B) in
        let whole : of_table m (lift P (agg s.bits (spot_answers s) s.entries h)) ≡ O ++ (C ++ D) =
        ap (λ x. of_table m (lift P x)) (agg_suc s.bits e (spot_answers s) s.entries h hop o n ow i)
        ∙ (ap (of_table m) (telling.lift_join P o A B) ∙ (telling.seen_append m (lift P (here o)) (lift (P ++ (false ∷ [])) A ++ lift (P ++ (true ∷ [])) B)
        ∙ ap (λ x. O ++ x) (telling.seen_append m (lift (P ++ (false ∷ [])) A) (lift (P ++ (true ∷ [])) B))))
        in
        let first = subst (λ entries. Takes X entries Y) (telling.told_own (prefix_as p) o) y in
        let second = subst (λ entries. Takes Y entries Z) (half_told p q s low false e hop ln n lr le lh eq) z in
        let last = subst (λ entries. Takes Z entries W) (half_told p r s high true e hop hn n hr he hh er) w in
        subst (λ entries. Takes X entries W) (sym whole) (joins X Y W O (C ++ D) first (joins Y Z W C D second last))

-- ---- the region of a prefix

within_is : (p : code.Prefix) (f : Family) (h : ℕ) (R E : Table) (s : Spot) → p.family ≡ f → s.bits + p.len ≡ width f
    → ((a : List Bool) → spot_answers s a ≡ answers R (prefix_as p).bits a) → s.entries ≡ cut (prefix_as p).bits E
    → of_table p.family (lift (prefix_as p).bits (agg s.bits (spot_answers s) s.entries h)) ≡ of_table f (aggregate (width f) R (prefix_as p).bits h E)
within_is p f h R E s m n g k =
    let P = (prefix_as p).bits in
    let l : s.bits ≡ width f - length P = omega (arith, n, ap width m, length_prefix (width p.family) p.len p.bits p.fits) in
    ap (λ z. of_table z (lift P (agg s.bits (spot_answers s) s.entries h))) m
    ∙ ap (λ T. of_table f (lift P T)) (agg_alike s.bits (spot_answers s) (answers R P) s.entries h (λ a u. g a) ∙ (ap (λ T. agg s.bits (answers R P) T h) k ∙ ap (λ z. agg z (answers R P) (cut P E) h) l))

-- behind no entries
pub within_told : (p : code.Prefix) (f : Family) (h : ℕ) (R E : Table) (X W : Entries) (s : Spot) → p.family ≡ f → X ≡ [] → s.bits + p.len ≡ width f
    → ((a : List Bool) → spot_answers s a ≡ answers R (prefix_as p).bits a) → s.entries ≡ cut (prefix_as p).bits E
    → W ≡ X ++ of_table p.family (lift (prefix_as p).bits (agg s.bits (spot_answers s) s.entries h))
    → W ≡ of_table f (aggregate (width f) R (prefix_as p).bits h E)
within_told p f h R E X W s m x n g k t =
    t ∙ (ap (λ z. z ++ of_table p.family (lift (prefix_as p).bits (agg s.bits (spot_answers s) s.entries h))) x ∙ within_is p f h R E s m n g k)

-- and a least table of the region
pub within_least : (p : code.Prefix) (f : Family) (h : ℕ) (R E : Table) (W : Entries) → p.family ≡ f
    → W ≡ of_table f (aggregate (width f) R (prefix_as p).bits h E) → LeastWithin (width f) R (prefix_as p).bits h (of_family f W)
within_least p f h R E W m e =
    let P = (prefix_as p).bits in
    subst (λ (T : Table). LeastWithin (width f) R P h T) (sym (ap (of_family f) e ∙ family_is f (aggregate (width f) R P h E)))
    (aggregate_least (width f) R P h E (omega (arith, ap width m, length_prefix (width p.family) p.len p.bits p.fits, p.fits)))

-- the one that the best hops fix
pub within_best : (p : code.Prefix) (f : Family) (h : ℕ) (R E : Table) (W : Entries) → p.family ≡ f
    → W ≡ of_table f (aggregate (width f) R (prefix_as p).bits h E) → IsAggregate (width f) R (prefix_as p).bits h E (of_family f W)
within_best p f h R E W m e =
    let P = (prefix_as p).bits in
    subst (λ (T : Table). IsAggregate (width f) R P h E T) (sym (ap (of_family f) e ∙ family_is f (aggregate (width f) R P h E)))
    (aggregate_is (width f) R P h E (omega (arith, ap width m, length_prefix (width p.family) p.len p.bits p.fits, p.fits)))

-- in the order of prefixes
pub within_sorted : (p : code.Prefix) (f : Family) (h : ℕ) (R E : Table) (W : Entries) → p.family ≡ f
    → W ≡ of_table f (aggregate (width f) R (prefix_as p).bits h E) → IsStrictlySortedBy prefix_cmp (keys_of W)
within_sorted p f h R E W m e =
    subst (λ (T : Entries). IsStrictlySortedBy prefix_cmp (keys_of T)) (sym e)
    (sorted_aggregate f R E (prefix_as p).bits h (omega (arith, ap width m, length_prefix (width p.family) p.len p.bits p.fits, p.fits)))

-- ---- the whole space

-- who takes the entries of its region takes the least table
pub handed_all : {S : Type 0} (Takes : S → Entries → S → Type 0) (f : Family) (p : code.Prefix) (h : ℕ) (R E : Table) (s : Spot) (X Y : S) → prefix_as p ≡ record { family = f; bits = [] } → h ≡ 0 → s.bits + p.len ≡ width f
    → ((a : List Bool) → spot_answers s a ≡ answers R (prefix_as p).bits a) → s.entries ≡ cut (prefix_as p).bits E
    → Takes X (of_table p.family (lift (prefix_as p).bits (agg s.bits (spot_answers s) s.entries h))) Y
    → Takes X (of_table f (aggregate (width f) R [] 0 E)) Y
handed_all Takes f p h R E s X Y e z n g k t =
    let m : p.family ≡ f = ap (λ (x : Prefix). x.family) e in
    subst (λ entries. Takes X entries Y)
    (within_is p f h R E s m n g k ∙ (ap (λ (x : Prefix). of_table f (aggregate (width f) R x.bits h E)) e ∙ ap (λ z. of_table f (aggregate (width f) R [] z E)) z)) t

pub fresh_least : (f : Family) (R old : Table) (W : Entries) → W ≡ of_table f (aggregate (width f) R [] 0 old) → Least (width f) R (of_family f W)
fresh_least f R old W e =
    subst (λ (T : Table). Least (width f) R T) (sym (ap (of_family f) e ∙ family_is f (aggregate (width f) R [] 0 old))) (fresh_law (width f) R old).1

pub fresh_best : (f : Family) (R old : Table) (W : Entries) → W ≡ of_table f (aggregate (width f) R [] 0 old) → IsAggregate (width f) R [] 0 old (of_family f W)
fresh_best f R old W e =
    subst (λ (T : Table). IsAggregate (width f) R [] 0 old T) (sym (ap (of_family f) e ∙ family_is f (aggregate (width f) R [] 0 old))) (aggregate_is (width f) R [] 0 old (omega arith))

pub fresh_sorted : (f : Family) (R old : Table) (W : Entries) → W ≡ of_table f (aggregate (width f) R [] 0 old) → IsStrictlySortedBy prefix_cmp (keys_of W)
fresh_sorted f R old W e = subst (λ (T : Entries). IsStrictlySortedBy prefix_cmp (keys_of T)) (sym e) (sorted_aggregate f R old [] 0 (omega arith))
