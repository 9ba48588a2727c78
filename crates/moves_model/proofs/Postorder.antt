-- The rows that routes and an old table have are right.
use Rattle.std.proofs.Common.{◌≡◌, ℕ, zero, suc, ◌+◌, ◌-◌, ◌<◌, List, [], ◌∷◌, ◌++◌, Bool, true, false, cond, Option, Some, None, length, refl, sym, ap, ◌∙◌, arith, subst, append_assoc, length-append, append-nil}
use Rattle.std.specs.Prelude.{◌&&◌}
use Rattle.table_model.specs.Width.{width}
use Rattle.table_model.specs.Address.{Prefix, IsPrefix}
use Rattle.table_model.specs.Halves.{half_at}
use Rattle.table_model.specs.declared.family.Family.{Family}
use Rattle.table_model.specs.Table.{Table, IsTable, lpm, root, half, cut}
use Rattle.table_model.specs.Entries.{Entries, of_family}
use Rattle.table_model.specs.Sets.{side, answers}
use Rattle.table_model.proofs.Patch.{table_half, no_half, cut_cut}
use Rattle.fib_addr.specs.Answers.{one_answer}
use Rattle.cert_model.specs.Rows.{CertRow, leaf_row, join_row, whole_prefix, leaf_or}
use Rattle.cert_model.proofs.Regions.{get_all}
use Rattle.fib_addr.proofs.OneAnswer.{one_answer_is}
use Rattle.moves_model.specs.Sets.{Allowed, these, set_over, k_over, inner_set, inner_k, near_set, near_k}
use Rattle.moves_model.specs.Nearest.{near_bound}
use Rattle.moves_model.specs.Demands.{change_bound, Demand, join_demand, none_below, is_bare, has_no_entries, DemandsRead, HaveChangeBound}
use Rattle.moves_model.specs.Rows.{leaf_answer, near_region_rows}
use Rattle.moves_model.proofs.Regions.{set_at, k_at, set_with, k_with, leaf_at, join_at, inner_alike}

module _ (R T : Entries) where
  abbrev table_of : Prefix → List Bool → ℕ
  table_of p a = lpm (of_family p.family R) (p.bits ++ a) 0

  -- the old entries within p
  abbrev old_in : Prefix → Table
  old_in p = cut p.bits (of_family p.family T)

  abbrev item_at : Prefix → Demand
  item_at p = record { prefix = p; hops = set_with (width p.family) (of_family p.family R) (of_family p.family T) p.bits; k = k_with (width p.family) (of_family p.family R) (of_family p.family T) p.bits }

  abbrev item_of : Prefix → Allowed → ℕ → Demand
  item_of p S m = record { prefix = p; hops = set_over (root (old_in p)) S; k = k_over (root (old_in p)) S m }

  item_is : (p : Prefix) (S : Allowed) (m : ℕ) → set_at (width p.family) (of_family p.family R) (of_family p.family T) p.bits ≡ S → k_at (width p.family) (of_family p.family R) (of_family p.family T) p.bits ≡ m → item_at p ≡ item_of p S m
  item_is p S m e f = ap (λ x. item_of p x (k_at (width p.family) (of_family p.family R) (of_family p.family T) p.bits)) e ∙ ap (item_of p S) f

  reads_leaf : (p : Prefix) (h : ℕ) (more : List CertRow) (st end : List Demand) → IsPrefix p → none_below T p ≡ true → ((a : List Bool) → length (p.bits ++ a) ≡ width p.family → table_of p a ≡ h)
      → DemandsRead R T more (item_at p ∷ st) end → DemandsRead R T (leaf_row p h ∷ more) st end
  reads_leaf p h more st end s n e r =
      let x = leaf_at (width p.family) (of_family p.family R) (of_family p.family T) p.bits h s n e in
      (s, get_all R p h e, n, subst (λ (i : Demand). DemandsRead R T more (i ∷ st) end) (item_is p (these (h ∷ [])) 0 x.0 x.1) r)

  reads_join : (p : Prefix) (more : List CertRow) (st end : List Demand) → length p.bits < width p.family → DemandsRead R T more (item_at p ∷ st) end
      → DemandsRead R T (join_row p (item_at p).k ∷ more) (item_at (half_at true p) ∷ item_at (half_at false p) ∷ st) end
  reads_join p more st end s r =
      let x = join_at (width p.family) (of_family p.family R) (of_family p.family T) p.bits s in
      let i : item_at p ≡ join_demand T p (item_at (half_at false p)) (item_at (half_at true p)) = item_is p _ _ x.0 x.1 in
      (s, refl, refl, ap (λ (y : Demand). y.k) i, subst (λ (y : Demand). DemandsRead R T more (y ∷ st) end) i r)

  -- rows that put the region p on the stack
  abbrev Pushes : Prefix → List CertRow → Type 0
  Pushes p rows = (more : List CertRow) (st end : List Demand) → DemandsRead R T more (item_at p ∷ st) end → DemandsRead R T (rows ++ more) st end

  pushes_leaf : (p : Prefix) (h : ℕ) → IsPrefix p → none_below T p ≡ true → ((a : List Bool) → length (p.bits ++ a) ≡ width p.family → table_of p a ≡ h) → Pushes p (leaf_row p h ∷ [])
  pushes_leaf p h s n e more st end r = reads_leaf p h more st end s n e r

  pushes_join : (p : Prefix) (low high : List CertRow) (k : ℕ) → length p.bits < width p.family → k ≡ (item_at p).k
      → Pushes (half_at false p) low → Pushes (half_at true p) high → Pushes p (low ++ (high ++ (join_row p k ∷ [])))
  pushes_join p low high k s e l h more st end r =
      let last : DemandsRead R T (join_row p k ∷ more) (item_at (half_at true p) ∷ item_at (half_at false p) ∷ st) end =
      subst (λ (n : ℕ). DemandsRead R T (join_row p n ∷ more) (item_at (half_at true p) ∷ item_at (half_at false p) ∷ st) end) (sym e) (reads_join p more st end s r)
      in
      subst (λ (rows : List CertRow). DemandsRead R T rows st end)
      (sym (append_assoc low (high ++ (join_row p k ∷ [])) more ∙ ap (λ x. low ++ x) (append_assoc high (join_row p k ∷ []) more)))
      (l (high ++ (join_row p k ∷ more)) st end (h (join_row p k ∷ more) (item_at (half_at false p) ∷ st) end last))

  pushes_either : (p : Prefix) (o : Option ℕ) (rows : List CertRow) → IsPrefix p
      → ((h : ℕ) → o ≡ Some h → (none_below T p ≡ true) × ((a : List Bool) → length (p.bits ++ a) ≡ width p.family → table_of p a ≡ h)) → Pushes p rows → Pushes p (leaf_or o p rows)
  pushes_either p (Some h) rows s e r = pushes_leaf p h s (e h refl).0 (e h refl).1
  pushes_either p None rows s e r = r

  half_answer : (p : Prefix) (b : Bool) (a : List Bool) → table_of (half_at b p) a ≡ table_of p (b ∷ a)
  half_answer p b a = ap (λ x. lpm (of_family p.family R) x 0) (append_assoc p.bits (b ∷ []) a)

  half_old : (p : Prefix) (b : Bool) (L : Table) → L ≡ old_in p → half b L ≡ old_in (half_at b p)
  half_old p b L e = ap (half b) e ∙ sym (cut_cut p.bits (b ∷ []) (of_family p.family T))

  bare_is : (L : Table) → half false L ≡ [] → half true L ≡ [] → is_bare L ≡ true
  bare_is L e f = both_empty (half false L) (half true L) e f
    where
      both_empty : (A B : Table) → A ≡ [] → B ≡ [] → (has_no_entries A && has_no_entries B) ≡ true
      both_empty [] [] e f = refl
      both_empty (x ∷ A) B e f = cc
      both_empty [] (x ∷ B) e f = cc

  answer_of : (b : Bool) (o : Option ℕ) (h : ℕ) → cond b o None ≡ Some h → (b ≡ true) × (o ≡ Some h)
  answer_of true o h e = (refl, e)
  answer_of false o h e = cc

  -- the rows of a region put it on the stack
  pub region_pushes : (d : ℕ) (f : List Bool → ℕ) (L : Table) (p : Prefix) → length p.bits + d ≡ width p.family → IsTable d L → L ≡ old_in p → ((a : List Bool) → length a ≡ d → f a ≡ table_of p a) → Pushes p (near_region_rows d f L p)
  unfolding near_region_rows
  region_pushes zero f L p s t i e = pushes_leaf p (f []) (omega arith) (ap is_bare (sym i) ∙ bare_is L (no_half false L t.1) (no_half true L t.1)) alone
    where
      alone : (a : List Bool) → length (p.bits ++ a) ≡ width p.family → table_of p a ≡ f []
      alone [] n = sym (e [] refl)
      alone (b ∷ a) n = absurd (omega (arith, length-append p.bits (b ∷ a)))
  region_pushes (suc d) f L p s t i e =
      let w = width p.family in
      let g = answers (of_family p.family R) p.bits in
      let deep : w - length p.bits ≡ suc d = omega arith in
      let x = inner_alike (suc d) f g L e in
      let xs : inner_set (suc d) f L ≡ set_at w (of_family p.family R) (of_family p.family T) p.bits = x.0 ∙ (ap (inner_set (suc d) g) i ∙ ap (λ y. inner_set y g (old_in p)) (sym deep)) in
      let xk : inner_k (suc d) f L ≡ k_at w (of_family p.family R) (of_family p.family T) p.bits = x.1 ∙ (ap (inner_k (suc d) g) i ∙ ap (λ y. inner_k y g (old_in p)) (sym deep)) in
      let k : near_k (suc d) f L ≡ (item_at p).k =
      ap (λ y. k_over (root y) (inner_set (suc d) f L) (inner_k (suc d) f L)) i
      ∙ (ap (λ y. k_over (root (old_in p)) y (inner_k (suc d) f L)) xs ∙ ap (k_over (root (old_in p)) (set_at w (of_family p.family R) (of_family p.family T) p.bits)) xk) in
      pushes_either p (leaf_answer (suc d) f L) _ (omega arith)
      (λ h o.
      let z = answer_of (is_bare L) (one_answer (suc d) f) h o in
      (ap is_bare (sym i) ∙ z.0, λ a n. let l : length a ≡ suc d = omega (arith, length-append p.bits a) in sym (e a l) ∙ one_answer_is (suc d) f h z.1 a l))
      (pushes_join p (near_region_rows d (side false f) (half false L) (half_at false p)) (near_region_rows d (side true f) (half true L) (half_at true p)) (near_k (suc d) f L) (omega arith) k
      (region_pushes d (side false f) (half false L) (half_at false p) (omega (arith, length-append p.bits (false ∷ []))) (table_half false d L t) (half_old p false L i) (λ a n. e (false ∷ a) (ap suc n) ∙ sym (half_answer p false a)))
      (region_pushes d (side true f) (half true L) (half_at true p) (omega (arith, length-append p.bits (true ∷ []))) (table_half true d L t) (half_old p true L i) (λ a n. e (true ∷ a) (ap suc n) ∙ sym (half_answer p true a))))

  abbrev pub rows_in : Family → List CertRow
  rows_in f = near_region_rows (width f) (answers (of_family f R) []) (of_family f T) (whole_prefix f)

  pub have_bound : (f : Family) → IsTable (width f) (of_family f T) → HaveChangeBound R T f (rows_in f) (near_bound (width f) (of_family f R) (of_family f T))
  have_bound f t =
      let z : width f ≡ width f - 0 = omega arith in
      let end : List Demand = item_at (whole_prefix f) ∷ [] in
      let r : DemandsRead R T (rows_in f ++ []) [] end = region_pushes (width f) (answers (of_family f R) []) (of_family f T) (whole_prefix f) (omega arith) t refl (λ a l. refl) [] [] end refl in (
        (item_at (whole_prefix f)).hops,
        (item_at (whole_prefix f)).k,
        subst (λ (rows : List CertRow). DemandsRead R T rows [] end) (append-nil (rows_in f)) r,
        ap (λ d. change_bound (near_set d (answers (of_family f R) []) (of_family f T)) (near_k d (answers (of_family f R) []) (of_family f T))) z,
      )
