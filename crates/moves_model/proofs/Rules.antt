-- Right rows have the sets and the k of their regions, so their bound is that of the changes.
use Rattle.std.proofs.Common.{◌≡◌, ℕ, ◌+◌, ◌-◌, ◌≤◌, List, [], ◌∷◌, true, false, sym, ap, ◌∙◌, arith, subst}
use Rattle.std.specs.List.{AllByRecursion}
use Rattle.table_model.specs.Width.{width}
use Rattle.table_model.specs.Address.{Prefix}
use Rattle.table_model.specs.Halves.{half_at}
use Rattle.table_model.specs.declared.family.Family.{Family}
use Rattle.table_model.specs.Table.{Table, Alike}
use Rattle.table_model.specs.Entries.{Entries, of_family}
use Rattle.cert_model.specs.Rows.{CertRow, leaf_row, join_row, bound_row, whole_prefix}
use Rattle.cert_model.proofs.Regions.{get_bits}
use Rattle.table_model.specs.Sets.{answers}
use Rattle.moves_model.specs.Dist.{distance}
use Rattle.moves_model.specs.Sets.{Allowed, these, allowed_by_both, gap, set_over, k_over, near_set, near_k}
use Rattle.moves_model.specs.Nearest.{near_bound}
use Rattle.moves_model.proofs.Near.{bound_law}
use Rattle.moves_model.specs.Demands.{NeedsChanges, leaf, join, change_bound, Demand, leaf_demand, join_demand, old_at, DemandsRead, HaveChangeBound}
use Rattle.moves_model.proofs.Regions.{set_at, k_at, set_with, k_with, leaf_at, join_at}

module _ (R T : Entries) where
  abbrev set_in : Prefix → Allowed
  set_in p = set_with (width p.family) (of_family p.family R) (of_family p.family T) p.bits

  abbrev k_in : Prefix → ℕ
  k_in p = k_with (width p.family) (of_family p.family R) (of_family p.family T) p.bits

  over : (p : Prefix) (S : Allowed) (m : ℕ) → set_at (width p.family) (of_family p.family R) (of_family p.family T) p.bits ≡ S → k_at (width p.family) (of_family p.family R) (of_family p.family T) p.bits ≡ m
      → (set_in p ≡ set_over (old_at T p) S) × (k_in p ≡ k_over (old_at T p) S m)
  over p S m e f = (
    ap (set_over (old_at T p)) e,
    ap (λ x. k_over (old_at T p) x (k_at (width p.family) (of_family p.family R) (of_family p.family T) p.bits)) e ∙ ap (k_over (old_at T p) S) f,
  )

  pub right_is : {p : Prefix} {S : Allowed} {k : ℕ} → NeedsChanges R T p S k → (set_in p ≡ S) × (k_in p ≡ k)
  right_is (leaf {p = p} {h = h} s g n) =
      let x = leaf_at (width p.family) (of_family p.family R) (of_family p.family T) p.bits h s n (get_bits R p h g) in
      over p (these (h ∷ [])) 0 x.0 x.1
  right_is (join {p = p} {S = S} {Q = Q} {k = k} {l = l} n low high) =
      let x = join_at (width p.family) (of_family p.family R) (of_family p.family T) p.bits n in
      let a = right_is low in
      let b = right_is high in
      let g : gap (set_in (half_at false p)) (set_in (half_at true p)) ≡ gap S Q = ap (λ y. gap y (set_in (half_at true p))) a.0 ∙ ap (gap S) b.0 in
      over p (allowed_by_both S Q) (k + l + gap S Q) (x.0 ∙ (ap (λ y. allowed_by_both y (set_in (half_at true p))) a.0 ∙ ap (allowed_by_both S) b.0)) (x.1 ∙ omega (arith, a.1, b.1, g))

  -- ---- rows that are read are right

  abbrev IsRightItem : Demand → Type 0
  IsRightItem i = NeedsChanges R T i.prefix i.hops i.k

  reads_right : (rows : List CertRow) (st end : List Demand) → AllByRecursion IsRightItem st → DemandsRead R T rows st end → AllByRecursion IsRightItem end
  reads_right [] st end a r = subst (AllByRecursion IsRightItem) r a
  reads_right (leaf_row p h ∷ rows) st end a r = reads_right rows (leaf_demand T p h ∷ st) end (leaf r.0 r.1 r.2, a) r.3
  reads_right (join_row p n ∷ rows) [] end a r = absurd r
  reads_right (join_row p n ∷ rows) (i ∷ []) end a r = absurd r
  reads_right (join_row p n ∷ rows) (high ∷ low ∷ st) end a r =
      let l : NeedsChanges R T (half_at false p) low.hops low.k = subst (λ (q : Prefix). NeedsChanges R T q low.hops low.k) r.1 a.1.0 in
      let h : NeedsChanges R T (half_at true p) high.hops high.k = subst (λ (q : Prefix). NeedsChanges R T q high.hops high.k) r.2 a.0 in
      reads_right rows (join_demand T p low high ∷ st) end (join r.0 l h, a.1.1) r.4
  reads_right (bound_row f n ∷ rows) st end a r = absurd r

  pub bound_is : (f : Family) (rows : List CertRow) (n : ℕ) → HaveChangeBound R T f rows n → near_bound (width f) (of_family f R) (of_family f T) ≡ n
  bound_is f rows n (S, k, r, b) =
      let end : List Demand = record { prefix = whole_prefix f; hops = S; k = k } ∷ [] in
      let x = right_is (reads_right rows [] end tt r).0 in
      let z : width f ≡ width f - 0 = omega arith in
      ap (λ d. change_bound (near_set d (answers (of_family f R) []) (of_family f T)) (near_k d (answers (of_family f R) []) (of_family f T))) z
      ∙ (ap (λ y. change_bound y (k_in (whole_prefix f))) x.0 ∙ (ap (change_bound S) x.1 ∙ sym b))

  -- no table that answers as the routes differs from the old one at fewer prefixes
  pub bound_holds : (f : Family) (rows : List CertRow) (n : ℕ) (U : Table) → HaveChangeBound R T f rows n → Alike (width f) (of_family f R) U → n ≤ distance (of_family f T) U
  bound_holds f rows n U h e = omega (arith, bound_is f rows n h, bound_law (width f) (of_family f R) (of_family f T) U e)
