-- Tables in order, and kept tables.
use Rattle.std.proofs.Common.{◌≡◌, ℕ, zero, suc, ◌-◌, List, [], ◌∷◌, ◌++◌, Bool, true, false, Option, Some, None, length, refl, sym, ap, ◌∙◌}
use Rattle.std.specs.List.{AllByRecursion}
use Rattle.std.specs.List.Sorted.{IsStrictlySortedBy}
use Rattle.std.specs.declared.cmp.Ordering.TheVariants.{Less}
use Rattle.table_model.specs.Order.{path_cmp}
use Rattle.table_model.specs.Table.{Table, lpm, IsTable, Alike, root, inherit, half, here}
use Rattle.table_model.specs.Bits.{begins}
use Rattle.table_model.specs.Regions.{lift, join}
use Rattle.table_model.specs.Sets.{side, set_of, own, agg, answers}
use Rattle.table_model.specs.Regions.{SameOutside, SameEntries}
use Rattle.table_model.specs.Least.{aggregate}
use Rattle.table_model.specs.Regions.{prefixes_of, InOrder}
use Rattle.table_model.specs.Kept.{Kept, snapshot, repair}
use Rattle.table_model.proofs.Cut.{entry, lpm_cut, lpm_nil}
use Rattle.table_model.proofs.Patch.{patch_table, patch_alike, table_half, no_half, same_root, same_half}
use Rattle.table_model.proofs.Laws.{fresh_law}
use Rattle.table_model.proofs.Same.{same_answers}

-- ---- order

-- p comes before each entry of the table
abbrev Before : List Bool → Table → Type 0
Before p L = AllByRecursion (λ q. path_cmp p q ≡ Less) (prefixes_of L)

before_append : (p : List Bool) (L M : Table) → Before p L → Before p M → Before p (L ++ M)
before_append p [] M a b = b
before_append p (e ∷ L) M a b = (a.0, before_append p L M a.1 b)

order_append : (L M : Table) → InOrder L → InOrder M → AllByRecursion (λ e. Before e.prefix M) L → InOrder (L ++ M)
unfolding IsStrictlySortedBy
order_append [] M a b c = b
order_append (e ∷ L) M a b c = (before_append e.prefix L M a.0 c.0, order_append L M a.1 b c.1)

path_under : (p q r : List Bool) → path_cmp (p ++ q) (p ++ r) ≡ path_cmp q r
path_under [] q r = refl
path_under (true ∷ p) q r = path_under p q r
path_under (false ∷ p) q r = path_under p q r

before_lift : (p q : List Bool) (L : Table) → Before q L → Before (p ++ q) (lift p L)
before_lift p q [] a = tt
before_lift p q (e ∷ L) a = (path_under p q e.prefix ∙ a.0, before_lift p q L a.1)

pub order_lift : (p : List Bool) (L : Table) → InOrder L → InOrder (lift p L)
unfolding IsStrictlySortedBy
order_lift p [] a = tt
order_lift p (e ∷ L) a = (before_lift p e.prefix L a.0, order_lift p L a.1)

order_here : (o : Option ℕ) → InOrder (here o)
unfolding IsStrictlySortedBy
order_here None = tt
order_here (Some g) = (tt, tt)

root_before : (b : Bool) (L : Table) → Before [] (lift (b ∷ []) L)
root_before b [] = tt
root_before b (e ∷ L) = (refl, root_before b L)

here_first : (o : Option ℕ) (L M : Table) → AllByRecursion (λ e. Before e.prefix (lift (false ∷ []) L ++ lift (true ∷ []) M)) (here o)
here_first None L M = tt
here_first (Some g) L M = (before_append [] (lift (false ∷ []) L) (lift (true ∷ []) M) (root_before false L) (root_before true M), tt)

low_before : (p : List Bool) (M : Table) → Before (false ∷ p) (lift (true ∷ []) M)
low_before p [] = tt
low_before p (e ∷ M) = (refl, low_before p M)

low_first : (L M : Table) → AllByRecursion (λ e. Before e.prefix (lift (true ∷ []) M)) (lift (false ∷ []) L)
low_first [] M = tt
low_first (e ∷ L) M = (low_before e.prefix M, low_first L M)

pub order_join : (o : Option ℕ) (L M : Table) → InOrder L → InOrder M → InOrder (join o L M)
order_join o L M a b =
    order_append (here o) (lift (false ∷ []) L ++ lift (true ∷ []) M) (order_here o)
    (order_append (lift (false ∷ []) L) (lift (true ∷ []) M) (order_lift (false ∷ []) L a) (order_lift (true ∷ []) M b) (low_first L M)) (here_first o L M)

pub agg_order : (d : ℕ) (f : List Bool → ℕ) (old : Table) (h : ℕ) → InOrder (agg d f old h)
unfolding agg IsStrictlySortedBy
agg_order zero f old h = order_join (own (set_of zero f) (root old) h) [] [] tt tt
agg_order (suc d) f old h =
    let o = own (set_of (suc d) f) (root old) h in
    order_join o _ _ (agg_order d (side false f) (half false old) (inherit o h)) (agg_order d (side true f) (half true old) (inherit o h))

pub aggregate_order : (w : ℕ) (R : Table) (p : List Bool) (h : ℕ) (old : Table) → InOrder (aggregate w R p h old)
aggregate_order w R p h old = order_lift p _ (agg_order (w - length p) (answers R p) _ h)

-- a table in order is its parts joined
after_root : (p : List Bool) (L : Table) → Before p L → root L ≡ None
after_root p [] a = refl
after_root p (e ∷ L) a = not_here p e.prefix e.hop a.0 (after_root p L a.1)
  where
    not_here : (p q : List Bool) (g : ℕ) → path_cmp p q ≡ Less → root L ≡ None → root (entry q g ∷ L) ≡ None
    not_here [] [] g k ih = cc
    not_here (b ∷ p) [] g k ih = cc
    not_here p (b ∷ q) g k ih = ih

after_high : (p : List Bool) (L : Table) → Before (true ∷ p) L → half false L ≡ []
after_high p [] a = refl
after_high p (e ∷ L) a = not_low e.prefix e.hop a.0 (after_high p L a.1)
  where
    not_low : (q : List Bool) (g : ℕ) → path_cmp (true ∷ p) q ≡ Less → half false L ≡ [] → half false (entry q g ∷ L) ≡ []
    not_low [] g k ih = ih
    not_low (true ∷ q) g k ih = ih
    not_low (false ∷ q) g k ih = cc

parts_step : (p : List Bool) (g : ℕ) (L : Table) → Before p L → L ≡ join (root L) (half false L) (half true L)
    → entry p g ∷ L ≡ join (root (entry p g ∷ L)) (half false (entry p g ∷ L)) (half true (entry p g ∷ L))
parts_step [] g L a ih = ap (λ x. entry [] g ∷ x) (ih ∙ ap (λ o. join o (half false L) (half true L)) (after_root [] L a))
parts_step (false ∷ p) g L a ih =
    ap (λ x. entry (false ∷ p) g ∷ x) (ih ∙ ap (λ o. join o (half false L) (half true L)) (after_root (false ∷ p) L a))
    ∙ ap (λ o. join o (entry p g ∷ half false L) (half true L)) (sym (after_root (false ∷ p) L a))
parts_step (true ∷ p) g L a ih =
    ap (λ x. entry (true ∷ p) g ∷ x) (ih ∙ (ap (λ o. join o (half false L) (half true L)) (after_root (true ∷ p) L a) ∙ ap (λ x. join None x (half true L)) (after_high p L a)))
    ∙ (ap (λ x. join None x (entry p g ∷ half true L)) (sym (after_high p L a)) ∙ ap (λ o. join o (half false L) (entry p g ∷ half true L)) (sym (after_root (true ∷ p) L a)))

pub in_order_parts : (L : Table) → InOrder L → L ≡ join (root L) (half false L) (half true L)
unfolding IsStrictlySortedBy
in_order_parts [] a = refl
in_order_parts (e ∷ L) a = parts_step e.prefix e.hop L a.0 (in_order_parts L a.1)

-- halves stay in order
half_before : (b : Bool) (p : List Bool) (L : Table) → Before (b ∷ p) L → Before p (half b L)
half_before b p [] a = tt
half_before b p (e ∷ L) a = one b e.prefix e.hop a.0 (half_before b p L a.1)
  where
    one : (b : Bool) (q : List Bool) (g : ℕ) → path_cmp (b ∷ p) q ≡ Less → Before p (half b L) → Before p (half b (entry q g ∷ L))
    one true [] g k ih = ih
    one false [] g k ih = ih
    one true (true ∷ q) g k ih = (k, ih)
    one false (false ∷ q) g k ih = (k, ih)
    one true (false ∷ q) g k ih = ih
    one false (true ∷ q) g k ih = ih

pub half_order : (b : Bool) (L : Table) → InOrder L → InOrder (half b L)
unfolding IsStrictlySortedBy
half_order b [] a = tt
half_order b (e ∷ L) a = one b e.prefix e.hop a.0 (half_order b L a.1)
  where
    one : (b : Bool) (q : List Bool) (g : ℕ) → Before q L → InOrder (half b L) → InOrder (half b (entry q g ∷ L))
    one true [] g k ih = ih
    one false [] g k ih = ih
    one true (true ∷ q) g k ih = (half_before true q L k, ih)
    one false (false ∷ q) g k ih = (half_before false q L k, ih)
    one true (false ∷ q) g k ih = ih
    one false (true ∷ q) g k ih = ih

-- tables in order with the same entries are one list
pub order_one : (w : ℕ) (L M : Table) → IsTable w L → IsTable w M → InOrder L → InOrder M → SameEntries L M → L ≡ M
order_one zero L M h k a b s =
    in_order_parts L a
    ∙ (ap (λ x. join (root L) x (half true L)) (no_half false L h.1 ∙ sym (no_half false M k.1))
    ∙ (ap (λ x. join (root L) (half false M) x) (no_half true L h.1 ∙ sym (no_half true M k.1)) ∙ (ap (λ o. join o (half false M) (half true M)) (s []) ∙ sym (in_order_parts M b))))
order_one (suc w) L M h k a b s =
    in_order_parts L a
    ∙ (ap (λ x. join (root L) x (half true L)) (order_one w (half false L) (half false M) (table_half false w L h) (table_half false w M k) (half_order false L a) (half_order false M b) (λ q. s (false ∷ q)))
    ∙ (ap (λ x. join (root L) (half false M) x) (order_one w (half true L) (half true M) (table_half true w L h) (table_half true w M k) (half_order true L a) (half_order true M b) (λ q. s (true ∷ q)))
    ∙ (ap (λ o. join o (half false M) (half true M)) (s []) ∙ sym (in_order_parts M b))))

-- routes that change within p answer as before elsewhere
pub answers_outside : (p a : List Bool) (L M : Table) (h : ℕ) → begins p a ≡ false → SameOutside p L M → lpm L a h ≡ lpm M a h
answers_outside [] a L M h n s = cc
answers_outside (b ∷ p) [] L M h n s = lpm_nil L h ∙ (ap (λ o. inherit o h) (same_root b p L M s) ∙ sym (lpm_nil M h))
answers_outside (true ∷ p) (true ∷ a) L M h n s =
    lpm_cut L true a h ∙ (ap (λ o. lpm (half true L) a (inherit o h)) (same_root true p L M s) ∙ (answers_outside p a (half true L) (half true M) (inherit (root M) h) n (same_half true p L M s) ∙ sym (lpm_cut M true a h)))
answers_outside (true ∷ p) (false ∷ a) L M h n s =
    lpm_cut L false a h ∙ (ap (λ o. lpm (half false L) a (inherit o h)) (same_root true p L M s) ∙ (same_answers a (half false L) (half false M) (inherit (root M) h) (λ q. s (false ∷ q) refl) ∙ sym (lpm_cut M false a h)))
answers_outside (false ∷ p) (true ∷ a) L M h n s =
    lpm_cut L true a h ∙ (ap (λ o. lpm (half true L) a (inherit o h)) (same_root false p L M s) ∙ (same_answers a (half true L) (half true M) (inherit (root M) h) (λ q. s (true ∷ q) refl) ∙ sym (lpm_cut M true a h)))
answers_outside (false ∷ p) (false ∷ a) L M h n s =
    lpm_cut L false a h ∙ (ap (λ o. lpm (half false L) a (inherit o h)) (same_root false p L M s) ∙ (answers_outside p a (half false L) (half false M) (inherit (root M) h) n (same_half false p L M s) ∙ sym (lpm_cut M false a h)))

-- a kept table answers as the routes
pub kept_law : (w : ℕ) (R T : Table) → Kept w R T → IsTable w T × Alike w R T
kept_law w R T (snapshot {R = R'} old) = let f = fresh_law w R' old in (f.0, f.1.0)
kept_law w S T (repair {R = R} {S = S'} {T = T'} p l s k) =
    let h = kept_law w R T' k in
    (patch_table w T' S' p l h.0, patch_alike w T' S' p (λ a n o. sym (h.1 a n) ∙ answers_outside p a R S' 0 o s))
