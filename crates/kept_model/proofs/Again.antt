-- A pass over what a pass gave.
use Rattle.std.proofs.Common.{◌≡◌, ℕ, zero, suc, List, [], ◌∷◌, Bool, true, false, cond, length, Option, Some, None, refl, sym, ap, ◌∙◌}
use Rattle.table_model.specs.Table.{Table, half, root, inherit}
use Rattle.table_model.specs.Regions.{join, entry_at, SameEntries}
use Rattle.table_model.specs.Sets.{is_in, smallest, pick, own, side, set_of, agg}
use Rattle.table_model.proofs.Join.{root_join, low_join, high_join}
use Rattle.table_model.proofs.Cost.{set_alike}
use Rattle.kept_model.specs.Stays.{Stays}

-- ---- one entry

same_cond : (b : Bool) (g : ℕ) → cond b g g ≡ g
same_cond true g = refl
same_cond false g = refl

pick_again : (S : List ℕ) (old : Option ℕ) → pick S (Some (pick S old)) ≡ pick S old
pick_again S None = same_cond (is_in (smallest S) S) (smallest S)
pick_again S (Some g) = by_test (is_in g S) refl
  where
    by_test : (b : Bool) → is_in g S ≡ b → pick S (Some (cond (is_in g S) g (smallest S))) ≡ cond (is_in g S) g (smallest S)
    by_test true e =
        ap (λ (b : Bool). pick S (Some (cond b g (smallest S)))) e ∙ (ap (λ (b : Bool). cond b g (smallest S)) e ∙ sym (ap (λ (b : Bool). cond b g (smallest S)) e))
    by_test false e =
        ap (λ (b : Bool). pick S (Some (cond b g (smallest S)))) e ∙ (same_cond (is_in (smallest S) S) (smallest S) ∙ sym (ap (λ (b : Bool). cond b g (smallest S)) e))

pub own_again : (S : List ℕ) (old : Option ℕ) (h : ℕ) → own S (own S old h) h ≡ own S old h
own_again S old h = by_test (is_in h S)
  where
    by_test : (b : Bool) → cond b None (Some (pick S (cond b None (Some (pick S old))))) ≡ cond b None (Some (pick S old))
    by_test true = refl
    by_test false = ap Some (pick_again S old)

-- ---- a region

join_alike : (o p : Option ℕ) (L M N K : Table) → o ≡ p → L ≡ M → N ≡ K → join o L N ≡ join p M K
join_alike o p L M N K e f g = ap (λ x. join x L N) e ∙ (ap (λ x. join p x N) f ∙ ap (λ x. join p M x) g)

-- the pass is known by the answers, and by what stands in the old table at each prefix
pub agg_same : (d : ℕ) (f g : List Bool → ℕ) (L M : Table) (h : ℕ) → ((a : List Bool) → length a ≡ d → f a ≡ g a) → SameEntries L M → agg d f L h ≡ agg d g M h
unfolding agg
agg_same zero f g L M h e s = ap (λ S. join (own S (root L) h) [] []) (set_alike zero f g e) ∙ ap (λ o. join (own (set_of zero g) o h) [] []) (s [])
agg_same (suc d) f g L M h e s =
    let o = own (set_of (suc d) f) (root L) h in
    let n = own (set_of (suc d) g) (root M) h in
    let is : o ≡ n = ap (λ S. own S (root L) h) (set_alike (suc d) f g e) ∙ ap (λ x. own (set_of (suc d) g) x h) (s []) in
    join_alike o n (agg d (side false f) (half false L) (inherit o h)) (agg d (side false g) (half false M) (inherit n h)) (agg d (side true f) (half true L) (inherit o h)) (agg d (side true g) (half true M) (inherit n h)) is
    (ap (λ x. agg d (side false f) (half false L) (inherit x h)) is ∙ agg_same d (side false f) (side false g) (half false L) (half false M) (inherit n h) (λ a l. e (false ∷ a) (ap suc l)) (λ q. s (false ∷ q)))
    (ap (λ x. agg d (side true f) (half true L) (inherit x h)) is ∙ agg_same d (side true f) (side true g) (half true L) (half true M) (inherit n h) (λ a l. e (true ∷ a) (ap suc l)) (λ q. s (true ∷ q)))

pub agg_again : (d : ℕ) (f : List Bool → ℕ) (L : Table) (h : ℕ) → agg d f (agg d f L h) h ≡ agg d f L h
unfolding agg
agg_again zero f L h =
    let o = own (set_of zero f) (root L) h in
    ap (λ x. join (own (set_of zero f) x h) [] []) (root_join o [] []) ∙ ap (λ x. join x [] []) (own_again (set_of zero f) (root L) h)
agg_again (suc d) f L h =
    let S = set_of (suc d) f in
    let o = own S (root L) h in
    let lo = agg d (side false f) (half false L) (inherit o h) in
    let hi = agg d (side true f) (half true L) (inherit o h) in
    let same : own S (root (join o lo hi)) h ≡ o = ap (λ x. own S x h) (root_join o lo hi) ∙ own_again S (root L) h in
    join_alike (own S (root (join o lo hi)) h) o (agg d (side false f) (half false (join o lo hi)) (inherit (own S (root (join o lo hi)) h) h)) lo (agg d (side true f) (half true (join o lo hi)) (inherit (own S (root (join o lo hi)) h) h)) hi same
    (ap (λ x. agg d (side false f) x (inherit (own S (root (join o lo hi)) h) h)) (low_join o lo hi) ∙ (ap (λ x. agg d (side false f) lo (inherit x h)) same ∙ agg_again d (side false f) (half false L) (inherit o h)))
    (ap (λ x. agg d (side true f) x (inherit (own S (root (join o lo hi)) h) h)) (high_join o lo hi) ∙ (ap (λ x. agg d (side true f) hi (inherit x h)) same ∙ agg_again d (side true f) (half true L) (inherit o h)))

pub stays_again : (d : ℕ) (f : List Bool → ℕ) (L : Table) (h : ℕ) → Stays d f (agg d f L h) h
stays_again d f L h q = ap (entry_at q) (agg_again d f L h)

-- the halves of a pass
agg_low : (d : ℕ) (f : List Bool → ℕ) (L : Table) (h : ℕ) → half false (agg (suc d) f L h) ≡ agg d (side false f) (half false L) (inherit (root (agg (suc d) f L h)) h)
unfolding agg
agg_low d f L h =
    let o = own (set_of (suc d) f) (root L) h in
    let lo = agg d (side false f) (half false L) (inherit o h) in
    let hi = agg d (side true f) (half true L) (inherit o h) in
    low_join o lo hi ∙ ap (λ x. agg d (side false f) (half false L) (inherit x h)) (sym (root_join o lo hi))

agg_high : (d : ℕ) (f : List Bool → ℕ) (L : Table) (h : ℕ) → half true (agg (suc d) f L h) ≡ agg d (side true f) (half true L) (inherit (root (agg (suc d) f L h)) h)
unfolding agg
agg_high d f L h =
    let o = own (set_of (suc d) f) (root L) h in
    let lo = agg d (side false f) (half false L) (inherit o h) in
    let hi = agg d (side true f) (half true L) (inherit o h) in
    high_join o lo hi ∙ ap (λ x. agg d (side true f) (half true L) (inherit x h)) (sym (root_join o lo hi))

pub agg_half : (b : Bool) (d : ℕ) (f : List Bool → ℕ) (L : Table) (h : ℕ) → half b (agg (suc d) f L h) ≡ agg d (side b f) (half b L) (inherit (root (agg (suc d) f L h)) h)
agg_half false d f L h = agg_low d f L h
agg_half true d f L h = agg_high d f L h

pub stays_half : (d : ℕ) (f : List Bool → ℕ) (L : Table) (h : ℕ) (b : Bool) → Stays (suc d) f L h → Stays d (side b f) (half b L) (inherit (root L) h)
stays_half d f L h b s q =
    ap (λ (o : Option ℕ). entry_at q (agg d (side b f) (half b L) (inherit o h))) (sym (s [])) ∙ (ap (entry_at q) (sym (agg_half b d f L h)) ∙ s (b ∷ q))
