-- The rows that routes have are right, and prove each least table least.
use Rattle.std.proofs.Common.{◌≡◌, ℕ, zero, suc, ◌+◌, ◌-◌, ◌<◌, ◌≤◌, List, [], ◌∷◌, ◌++◌, Bool, true, false, Option, Some, None, length, refl, sym, ap, ◌∙◌, arith, subst, append_assoc, length-append, append-nil}
use Rattle.std.specs.List.{IsDistinct}
use Rattle.std.specs.Map.{keys_of}
use Rattle.table_model.specs.Width.{width}
use Rattle.table_model.specs.Address.{Prefix, IsPrefix, same_prefix}
use Rattle.table_model.specs.Halves.{half_at}
use Rattle.table_model.specs.declared.family.Family.{Family}
use Rattle.table_model.specs.declared.family.Family.TheVariants.{V4, V6}
use Rattle.table_model.specs.Table.{lpm}
use Rattle.table_model.specs.Entries.{Entries, of_family, AlikeInBoth}
use Rattle.table_model.specs.Sets.{side, k_of, answers}
use Rattle.table_model.specs.Least.{Least, set_at, k_at, bound}
use Rattle.table_model.specs.Both.{LeastInBoth}
use Rattle.table_model.proofs.Laws.{set_join, k_join, set_leaf, k_leaf, fresh_law}
use Rattle.table_model.proofs.Cost.{k_alike}
use Rattle.fib_addr.specs.Answers.{one_answer}
use Rattle.cert_model.specs.Rows.{CertRow, leaf_row, join_row, bound_row, whole_prefix, leaf_or, region_rows, certificate_of}
use Rattle.cert_model.specs.Right.{Item, leaf_item, join_item, StackReads, HaveBound, IsCertificate}
use Rattle.cert_model.proofs.Regions.{get_all}
use Rattle.fib_addr.proofs.OneAnswer.{one_answer_is}

abbrev table_of : Entries → Prefix → List Bool → ℕ
table_of R p a = lpm (of_family p.family R) (p.bits ++ a) 0

abbrev item_at : Entries → Prefix → Item
item_at R p = record { prefix = p; hops = set_at (width p.family) (of_family p.family R) p.bits; k = k_at (width p.family) (of_family p.family R) p.bits }

reads_leaf : (R : Entries) (p : Prefix) (h : ℕ) (more : List CertRow) (st end : List Item) → IsPrefix p → ((a : List Bool) → length (p.bits ++ a) ≡ width p.family → table_of R p a ≡ h)
    → StackReads R more (item_at R p ∷ st) end → StackReads R (leaf_row p h ∷ more) st end
reads_leaf R p h more st end s e r =
    let i : item_at R p ≡ leaf_item p h =
    ap (λ x. let i : Item = record { prefix = p; hops = x; k = k_at (width p.family) (of_family p.family R) p.bits } in i) (set_leaf (width p.family) (of_family p.family R) p.bits h s e)
    ∙ ap (λ n. let i : Item = record { prefix = p; hops = h ∷ []; k = n } in i) (k_leaf (width p.family) (of_family p.family R) p.bits h s e)
    in
    (s, get_all R p h e, subst (λ (i : Item). StackReads R more (i ∷ st) end) i r)

reads_join : (R : Entries) (p : Prefix) (more : List CertRow) (st end : List Item) → length p.bits < width p.family → StackReads R more (item_at R p ∷ st) end
    → StackReads R (join_row p (k_at (width p.family) (of_family p.family R) p.bits) ∷ more) (item_at R (half_at true p) ∷ item_at R (half_at false p) ∷ st) end
reads_join R p more st end s r =
    let k = k_join (width p.family) (of_family p.family R) p.bits s in
    let low = item_at R (half_at false p) in
    let high = item_at R (half_at true p) in
    let i : item_at R p ≡ join_item p low high =
    ap (λ x. let i : Item = record { prefix = p; hops = x; k = k_at (width p.family) (of_family p.family R) p.bits } in i) (set_join (width p.family) (of_family p.family R) p.bits s)
    ∙ ap (λ n. let i : Item = record { prefix = p; hops = (join_item p low high).hops; k = n } in i) k
    in
    (s, refl, refl, k, subst (λ (i : Item). StackReads R more (i ∷ st) end) i r)

-- rows that put the region p on the stack
abbrev Pushes : Entries → Prefix → List CertRow → Type 0
Pushes R p rows = (more : List CertRow) (st end : List Item) → StackReads R more (item_at R p ∷ st) end → StackReads R (rows ++ more) st end

pushes_leaf : (R : Entries) (p : Prefix) (h : ℕ) → IsPrefix p → ((a : List Bool) → length (p.bits ++ a) ≡ width p.family → table_of R p a ≡ h) → Pushes R p (leaf_row p h ∷ [])
pushes_leaf R p h s e more st end r = reads_leaf R p h more st end s e r

pushes_join : (R : Entries) (p : Prefix) (low high : List CertRow) (k : ℕ) → length p.bits < width p.family → k ≡ k_at (width p.family) (of_family p.family R) p.bits
    → Pushes R (half_at false p) low → Pushes R (half_at true p) high → Pushes R p (low ++ (high ++ (join_row p k ∷ [])))
pushes_join R p low high k s e l h more st end r =
    let last : StackReads R (join_row p k ∷ more) (item_at R (half_at true p) ∷ item_at R (half_at false p) ∷ st) end =
    subst (λ (n : ℕ). StackReads R (join_row p n ∷ more) (item_at R (half_at true p) ∷ item_at R (half_at false p) ∷ st) end) (sym e) (reads_join R p more st end s r)
    in
    subst (λ (rows : List CertRow). StackReads R rows st end)
    (sym (append_assoc low (high ++ (join_row p k ∷ [])) more ∙ ap (λ x. low ++ x) (append_assoc high (join_row p k ∷ []) more)))
    (l (high ++ (join_row p k ∷ more)) st end (h (join_row p k ∷ more) (item_at R (half_at false p) ∷ st) end last))

pushes_either : (R : Entries) (p : Prefix) (o : Option ℕ) (rows : List CertRow) → IsPrefix p
    → ((h : ℕ) → o ≡ Some h → (a : List Bool) → length (p.bits ++ a) ≡ width p.family → table_of R p a ≡ h) → Pushes R p rows → Pushes R p (leaf_or o p rows)
pushes_either R p (Some h) rows s e r = pushes_leaf R p h s (e h refl)
pushes_either R p None rows s e r = r

half_answer : (R : Entries) (p : Prefix) (b : Bool) (a : List Bool) → table_of R (half_at b p) a ≡ table_of R p (b ∷ a)
half_answer R p b a = ap (λ x. lpm (of_family p.family R) x 0) (append_assoc p.bits (b ∷ []) a)

-- the rows of a region put it on the stack
pub region_pushes : (R : Entries) (d : ℕ) (f : List Bool → ℕ) (p : Prefix) → length p.bits + d ≡ width p.family → ((a : List Bool) → length a ≡ d → f a ≡ table_of R p a) → Pushes R p (region_rows d f p)
unfolding region_rows
region_pushes R zero f p s e = pushes_leaf R p (f []) (omega arith) alone
  where
    alone : (a : List Bool) → length (p.bits ++ a) ≡ width p.family → table_of R p a ≡ f []
    alone [] n = sym (e [] refl)
    alone (b ∷ a) n = absurd (omega (arith, length-append p.bits (b ∷ a)))
region_pushes R (suc d) f p s e =
    let w = width p.family in
    let deep : w - length p.bits ≡ suc d = omega arith in
    let k : k_of (suc d) f ≡ k_at w (of_family p.family R) p.bits =
    k_alike (suc d) f (answers (of_family p.family R) p.bits) e ∙ ap (λ x. k_of x (answers (of_family p.family R) p.bits)) (sym deep) in
    pushes_either R p (one_answer (suc d) f) _ (omega arith)
    (λ h o a n. let l : length a ≡ suc d = omega (arith, length-append p.bits a) in sym (e a l) ∙ one_answer_is (suc d) f h o a l)
    (pushes_join R p (region_rows d (side false f) (half_at false p)) (region_rows d (side true f) (half_at true p)) (k_of (suc d) f) (omega arith) k
    (region_pushes R d (side false f) (half_at false p) (omega (arith, length-append p.bits (false ∷ []))) (λ a n. e (false ∷ a) (ap suc n) ∙ sym (half_answer R p false a)))
    (region_pushes R d (side true f) (half_at true p) (omega (arith, length-append p.bits (true ∷ []))) (λ a n. e (true ∷ a) (ap suc n) ∙ sym (half_answer R p true a))))

abbrev rows_in : Entries → Family → List CertRow
rows_in R f = region_rows (width f) (answers (of_family f R) []) (whole_prefix f)

pub have_bound : (R : Entries) (f : Family) → HaveBound R f (rows_in R f) (bound (width f) (of_family f R))
have_bound R f =
    let end : List Item = item_at R (whole_prefix f) ∷ [] in
    let r : StackReads R (rows_in R f ++ []) [] end = region_pushes R (width f) (answers (of_family f R) []) (whole_prefix f) (omega arith) (λ a l. refl) [] [] end refl in
    ((item_at R (whole_prefix f)).hops, (item_at R (whole_prefix f)).k, subst (λ (rows : List CertRow). StackReads R rows [] end) (append-nil (rows_in R f)) r, refl)

pub few : (R T : Entries) (f : Family) → Least (width f) (of_family f R) (of_family f T) → length (of_family f T) ≤ bound (width f) (of_family f R)
few R T f l = let fresh = fresh_law (width f) (of_family f R) [] in omega (arith, l.1 _ fresh.0 fresh.1.0, fresh.2)

alike_both : (R T : Entries) → LeastInBoth R T → AlikeInBoth R T
alike_both R T l a n = (l a.family).0 a.bits n

pub completeness_law : (R T : Entries) → IsDistinct same_prefix (keys_of R) → IsDistinct same_prefix (keys_of T) → LeastInBoth R T → IsCertificate R T (certificate_of R)
completeness_law R T r t l = record {
  routes_once = r;
  table_once = t;
  alike = alike_both R T l;
  rows_v4 = rows_in R V4;
  rows_v6 = rows_in R V6;
  bound_v4 = bound 32 (of_family V4 R);
  bound_v6 = bound 128 (of_family V6 R);
  parts = append_assoc (rows_in R V4) (bound_row V4 (bound 32 (of_family V4 R)) ∷ []) (rows_in R V6 ++ (bound_row V6 (bound 128 (of_family V6 R)) ∷ []));
  right_v4 = have_bound R V4;
  right_v6 = have_bound R V6;
  few_v4 = few R T V4 (l V4);
  few_v6 = few R T V6 (l V6);
}
