-- Regions with the same answers.
use Rattle.std.proofs.Common.{◌≡◌, ◌≢◌, ℕ, zero, suc, List, [], ◌∷◌, ◌++◌, Bool, true, false, Option, Some, None, length, refl, sym, ap, ◌∙◌, arith}
use Rattle.table_model.specs.Address.{Prefix}
use Rattle.table_model.specs.Halves.{half_at}
use Rattle.table_model.specs.Table.{Table, root, half, inherit, lpm}
use Rattle.table_model.proofs.Cut.{lpm_cut}
use Rattle.table_model.specs.Regions.{join}
use Rattle.table_model.specs.Sets.{side, set_of, k_of, own, agg}
use Rattle.table_model.proofs.Cost.{set_alike, k_uniform, k_alike}
use Rattle.fib_addr.specs.Answers.{one_answer, same_hop}
use Rattle.cert_model.specs.Rows.{leaf_row, join_row, leaf_or, region_rows}
use Rattle.fib_addr.proofs.OneAnswer.{one_answer_is}
use Rattle.orig_tree.specs.Spots.{Spot, spot_answers}

pub agg_alike : (d : ℕ) (f g : List Bool → ℕ) (L : Table) (h : ℕ) → ((a : List Bool) → length a ≡ d → f a ≡ g a) → agg d f L h ≡ agg d g L h
unfolding agg
agg_alike zero f g L h e = ap (λ S. join (own S (root L) h) [] []) (set_alike zero f g e)
agg_alike (suc d) f g L h e =
    let o = own (set_of (suc d) g) (root L) h in
    ap (λ S. join (own S (root L) h) (agg d (side false f) (half false L) (inherit (own S (root L) h) h)) (agg d (side true f) (half true L) (inherit (own S (root L) h) h))) (set_alike (suc d) f g e)
    ∙ (ap (λ A. join o A (agg d (side true f) (half true L) (inherit o h))) (agg_alike d (side false f) (side false g) (half false L) (inherit o h) (λ a l. e (false ∷ a) (ap suc l)))
    ∙ ap (λ B. join o (agg d (side false g) (half false L) (inherit o h)) B) (agg_alike d (side true f) (side true g) (half true L) (inherit o h) (λ a l. e (true ∷ a) (ap suc l))))

one_alike : (d : ℕ) (f g : List Bool → ℕ) → ((a : List Bool) → length a ≡ d → f a ≡ g a) → one_answer d f ≡ one_answer d g
unfolding one_answer
one_alike zero f g e = ap Some (e [] refl)
one_alike (suc d) f g e =
    ap (λ x. same_hop x (one_answer d (side true f))) (one_alike d (side false f) (side false g) (λ a l. e (false ∷ a) (ap suc l)))
    ∙ ap (same_hop (one_answer d (side false g))) (one_alike d (side true f) (side true g) (λ a l. e (true ∷ a) (ap suc l)))

pub rows_alike : (d : ℕ) (f g : List Bool → ℕ) (p : Prefix) → ((a : List Bool) → length a ≡ d → f a ≡ g a) → region_rows d f p ≡ region_rows d g p
unfolding region_rows
rows_alike zero f g p e = ap (λ h. leaf_row p h ∷ []) (e [] refl)
rows_alike (suc d) f g p e =
    ap (λ o. leaf_or o p (region_rows d (side false f) (half_at false p) ++ (region_rows d (side true f) (half_at true p) ++ (join_row p (k_of (suc d) f) ∷ [])))) (one_alike (suc d) f g e)
    ∙ (ap (λ x. leaf_or (one_answer (suc d) g) p (x ++ (region_rows d (side true f) (half_at true p) ++ (join_row p (k_of (suc d) f) ∷ [])))) (rows_alike d (side false f) (side false g) (half_at false p) (λ a l. e (false ∷ a) (ap suc l)))
    ∙ (ap (λ x. leaf_or (one_answer (suc d) g) p (region_rows d (side false g) (half_at false p) ++ (x ++ (join_row p (k_of (suc d) f) ∷ [])))) (rows_alike d (side true f) (side true g) (half_at true p) (λ a l. e (true ∷ a) (ap suc l)))
    ∙ ap (λ k. leaf_or (one_answer (suc d) g) p (region_rows d (side false g) (half_at false p) ++ (region_rows d (side true g) (half_at true p) ++ (join_row p k ∷ [])))) (k_alike (suc d) f g e)))

-- a region that costs something has two answers
pub two_answers : (d : ℕ) (f : List Bool → ℕ) → k_of d f ≢ 0 → one_answer d f ≡ None
two_answers d f n = by_answer (one_answer d f) refl
  where
    by_answer : (o : Option ℕ) → one_answer d f ≡ o → one_answer d f ≡ None
    by_answer None e = e
    by_answer (Some h) e = absurd (n (k_uniform d f h (one_answer_is d f h e)))

-- and it has a bit left
pub some_bit : (d : ℕ) (f : List Bool → ℕ) → k_of d f ≢ 0 → d ≢ 0
unfolding k_of
some_bit zero f n = absurd (n refl)
some_bit (suc d) f n = λ e. omega (arith, e)

-- the answers of a half
pub half_answers : (s t : Spot) (b : Bool) → t.routes ≡ half b s.routes → t.hop ≡ inherit (root s.routes) s.hop → (a : List Bool) → spot_answers t a ≡ side b (spot_answers s) a
half_answers s t b r h a = ap (λ R. lpm R a t.hop) r ∙ (ap (lpm (half b s.routes) a) h ∙ sym (lpm_cut s.routes b a s.hop))
