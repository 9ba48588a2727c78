-- Right rows have the sets and the k of their regions, so their bound is the least.
use Rattle.std.proofs.Common.{◌≡◌, ℕ, ◌≤◌, List, [], ◌∷◌, true, false, length, sym, ap, ◌∙◌, arith, subst}
use Rattle.std.specs.List.{AllByRecursion}
use Rattle.table_model.specs.Width.{width}
use Rattle.table_model.specs.Address.{Address, Prefix}
use Rattle.table_model.specs.Halves.{half_at}
use Rattle.table_model.specs.declared.family.Family.{Family}
use Rattle.table_model.specs.declared.family.Family.TheVariants.{V4, V6}
use Rattle.table_model.specs.Table.{Alike}
use Rattle.table_model.specs.Entries.{Entries, of_family, AlikeInBoth}
use Rattle.table_model.specs.Sets.{joint, apart}
use Rattle.table_model.specs.Least.{Least, set_at, k_at, bound}
use Rattle.table_model.specs.Both.{LeastInBoth}
use Rattle.table_model.proofs.Laws.{set_join, k_join, set_leaf, k_leaf, bound_law}
use Rattle.cert_model.specs.Rows.{CertRow, leaf_row, join_row, bound_row, whole_prefix}
use Rattle.cert_model.specs.Right.{IsRight, leaf, join, bound_by, Item, leaf_item, join_item, StackReads, HaveBound, IsCertificate}
use Rattle.cert_model.proofs.Regions.{get_bits}

abbrev set_in : Entries → Prefix → List ℕ
set_in R p = set_at (width p.family) (of_family p.family R) p.bits

abbrev k_in : Entries → Prefix → ℕ
k_in R p = k_at (width p.family) (of_family p.family R) p.bits

pub right_set : {R : Entries} {p : Prefix} {S : List ℕ} {k : ℕ} → IsRight R p S k → set_in R p ≡ S
right_set {R = R} (leaf {p = p} {h = h} s g) = set_leaf (width p.family) (of_family p.family R) p.bits h s (get_bits R p h g)
right_set {R = R} (join {p = p} {S = S} {T = T} n l r) =
    set_join (width p.family) (of_family p.family R) p.bits n ∙ (ap (λ x. joint x (set_in R (half_at true p))) (right_set l) ∙ ap (joint S) (right_set r))

pub right_k : {R : Entries} {p : Prefix} {S : List ℕ} {k : ℕ} → IsRight R p S k → k_in R p ≡ k
right_k {R = R} (leaf {p = p} {h = h} s g) = k_leaf (width p.family) (of_family p.family R) p.bits h s (get_bits R p h g)
right_k {R = R} (join {p = p} {S = S} {T = T} n l r) =
    let gap : apart (set_in R (half_at false p)) (set_in R (half_at true p)) ≡ apart S T = ap (λ x. apart x (set_in R (half_at true p))) (right_set l) ∙ ap (apart S) (right_set r) in
    omega (arith, k_join (width p.family) (of_family p.family R) p.bits n, right_k l, right_k r, gap)

pub right_bound : (R : Entries) (f : Family) (S : List ℕ) (k : ℕ) → IsRight R (whole_prefix f) S k → bound (width f) (of_family f R) ≡ bound_by S k
right_bound R f S k r = ap (λ x. bound_by x (k_in R (whole_prefix f))) (right_set r) ∙ ap (bound_by S) (right_k r)

pub certificate_law : (R T : Entries) (f : Family) (S : List ℕ) (k : ℕ) → IsRight R (whole_prefix f) S k → Alike (width f) (of_family f R) (of_family f T) → length (of_family f T) ≤ bound_by S k
    → Least (width f) (of_family f R) (of_family f T)
certificate_law R T f S k r e n = let b : bound (width f) (of_family f R) ≡ bound_by S k = right_bound R f S k r in (e, λ L t g. omega (arith, bound_law (width f) (of_family f R) L g))

-- ---- rows that are read are right

abbrev IsRightItem : Entries → Item → Type 0
IsRightItem R i = IsRight R i.prefix i.hops i.k

reads_right : (R : Entries) (rows : List CertRow) (st end : List Item) → AllByRecursion (IsRightItem R) st → StackReads R rows st end → AllByRecursion (IsRightItem R) end
reads_right R [] st end a r = subst (AllByRecursion (IsRightItem R)) r a
reads_right R (leaf_row p h ∷ rows) st end a r = reads_right R rows (leaf_item p h ∷ st) end (leaf r.0 r.1, a) r.2
reads_right R (join_row p n ∷ rows) [] end a r = absurd r
reads_right R (join_row p n ∷ rows) (i ∷ []) end a r = absurd r
reads_right R (join_row p n ∷ rows) (high ∷ low ∷ st) end a r =
    let l : IsRight R (half_at false p) low.hops low.k = subst (λ (q : Prefix). IsRight R q low.hops low.k) r.1 a.1.0 in
    let h : IsRight R (half_at true p) high.hops high.k = subst (λ (q : Prefix). IsRight R q high.hops high.k) r.2 a.0 in
    reads_right R rows (join_item p low high ∷ st) end (join r.0 l h, a.1.1) r.4
reads_right R (bound_row f n ∷ rows) st end a r = absurd r

-- the bound that right rows lead to is the least table's size
pub bound_is : (R : Entries) (f : Family) (rows : List CertRow) (n : ℕ) → HaveBound R f rows n → bound (width f) (of_family f R) ≡ n
bound_is R f rows n (S, k, r, b) =
    let end : List Item = record { prefix = whole_prefix f; hops = S; k = k } ∷ [] in
    right_bound R f S k (reads_right R rows [] end tt r).0 ∙ sym b

alike_in : (R T : Entries) (f : Family) → AlikeInBoth R T → Alike (width f) (of_family f R) (of_family f T)
alike_in R T f e a n = let x : Address = record { family = f; bits = a } in e x n

least_in : (R T : Entries) (f : Family) (rows : List CertRow) (n : ℕ) → AlikeInBoth R T → HaveBound R f rows n → length (of_family f T) ≤ n → Least (width f) (of_family f R) (of_family f T)
least_in R T f rows n e h few =
    let b : bound (width f) (of_family f R) ≡ n = bound_is R f rows n h in
    (alike_in R T f e, λ L t g. omega (arith, bound_law (width f) (of_family f R) L g))

pub soundness_law : (R T : Entries) (rows : List CertRow) → IsCertificate R T rows → LeastInBoth R T
soundness_law R T rows c V4 = least_in R T V4 c.rows_v4 c.bound_v4 c.alike c.right_v4 c.few_v4
soundness_law R T rows c V6 = least_in R T V6 c.rows_v6 c.bound_v6 c.alike c.right_v6 c.few_v6
