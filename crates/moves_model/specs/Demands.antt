-- What rows must be that prove at how few prefixes an old table must change to answer as routes do, whoever wrote them. R are
-- the routes and T is the old table. The rows are those of a certificate of leastness (`cert_model`), and say something else: a
-- join's k is how many changes its region needs.
use Rattle.std.specs.Prelude.{◌≡◌, ℕ, ◌+◌, ◌<◌, List, [], ◌∷◌, Bool, true, false, cond, length, Option, ◌&&◌}
use Rattle.table_model.specs.Width.{width}
use Rattle.table_model.specs.Address.{Prefix, IsPrefix}
use Rattle.table_model.specs.Halves.{half_at}
use Rattle.table_model.specs.declared.family.Family.{Family}
use Rattle.table_model.specs.Table.{Table, half, cut}
use Rattle.table_model.specs.Entries.{Entries, of_family}
use Rattle.table_model.specs.Uniform.{AllGet}
use Rattle.table_model.specs.Regions.{entry_at}
use Rattle.cert_model.specs.Rows.{CertRow, leaf_row, join_row, bound_row, whole_prefix}
use Rattle.moves_model.specs.Sets.{Allowed, these, is_allowed, allowed_by_both, gap, set_over, k_over}

abbrev pub has_no_entries : Table → Bool
has_no_entries [] = true
has_no_entries (e ∷ L) = false

-- whether the table has no entry but at the empty prefix
abbrev pub is_bare : Table → Bool
is_bare L = has_no_entries (half false L) && has_no_entries (half true L)

-- whether no entry of T stands strictly within the prefix
abbrev pub none_below : Entries → Prefix → Bool
none_below T p = is_bare (cut p.bits (of_family p.family T))

-- the hop of T's entry at the prefix, if there is one
abbrev pub old_at : Entries → Prefix → Option ℕ
old_at T p = entry_at p.bits (of_family p.family T)

-- The region p may inherit one of S, and needs k changes then, by rules. A leaf has the one hop of its addresses and k 0, and no old
-- entry stands strictly within it; a join has what its halves have together. If an old entry stands at the region itself, it
-- may inherit any hop, and its k is one more if that entry's hop wasn't allowed.
pub data NeedsChanges (R T : Entries) : Prefix → Allowed → ℕ → Type 0 where
  leaf : {p : Prefix} {h : ℕ} → IsPrefix p → AllGet R p h → none_below T p ≡ true → NeedsChanges R T p (set_over (old_at T p) (these (h ∷ []))) (k_over (old_at T p) (these (h ∷ [])) 0)
  join : {p : Prefix} {S Q : Allowed} {k l : ℕ} → length p.bits < width p.family → NeedsChanges R T (half_at false p) S k → NeedsChanges R T (half_at true p) Q l
      → NeedsChanges R T p (set_over (old_at T p) (allowed_by_both S Q)) (k_over (old_at T p) (allowed_by_both S Q) (k + l + gap S Q))

-- the bound of a family whose whole space has this set and k: one more if no hop, number 0, isn't allowed
abbrev pub change_bound : Allowed → ℕ → ℕ
change_bound S k = cond (is_allowed 0 S) k (k + 1)

-- what stands on the stack: a region with the hops that it may inherit, and how many changes it needs then
pub record Demand : Type 0 where
  pub prefix : Prefix
  pub hops : Allowed
  pub k : ℕ

-- the demand of a region whose own entry should be one of S, or what it inherits without one, with m changes strictly within
abbrev pub demand_over : Entries → Prefix → Allowed → ℕ → Demand
demand_over T p S m = record { prefix = p; hops = set_over (old_at T p) S; k = k_over (old_at T p) S m }

-- what a leaf row puts on the stack
abbrev pub leaf_demand : Entries → Prefix → ℕ → Demand
leaf_demand T p h = demand_over T p (these (h ∷ [])) 0

-- what a join row puts there in place of both halves
abbrev pub join_demand : Entries → Prefix → Demand → Demand → Demand
join_demand T p low high = demand_over T p (allowed_by_both low.hops high.hops) (low.k + high.k + gap low.hops high.hops)

-- The rows are leaf and join rows that are right, and lead from the one stack to the other: a leaf is put on top, a join takes
-- its halves from the top, the upper first, and puts itself there.
abbrev pub DemandsRead : Entries → Entries → List CertRow → List Demand → List Demand → Type 0
DemandsRead R T [] st end = st ≡ end
DemandsRead R T (leaf_row p h ∷ rows) st end = IsPrefix p × AllGet R p h × (none_below T p ≡ true) × DemandsRead R T rows (leaf_demand T p h ∷ st) end
DemandsRead R T (join_row p n ∷ rows) (high ∷ low ∷ st) end =
    (length p.bits < width p.family) × (low.prefix ≡ half_at false p) × (high.prefix ≡ half_at true p) × (n ≡ (join_demand T p low high).k) × DemandsRead R T rows (join_demand T p low high ∷ st) end
DemandsRead R T (join_row p n ∷ rows) (i ∷ []) end = ⊥
DemandsRead R T (join_row p n ∷ rows) [] end = ⊥
DemandsRead R T (bound_row f n ∷ rows) st end = ⊥

-- the rows lead from nothing to the whole region of the family, and this is its bound
abbrev pub HaveChangeBound : Entries → Entries → Family → List CertRow → ℕ → Type 0
HaveChangeBound R T f rows n = (S : Allowed) × (k : ℕ) × DemandsRead R T rows [] (record { prefix = whole_prefix f; hops = S; k = k } ∷ []) × (n ≡ change_bound S k)
