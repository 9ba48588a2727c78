-- What a certificate must be, whoever wrote it.
use Rattle.std.specs.Prelude.{◌≡◌, ℕ, ◌+◌, ◌<◌, ◌≤◌, List, [], ◌∷◌, ◌++◌, true, false, cond, length}
use Rattle.std.specs.List.{IsDistinct}
use Rattle.std.specs.Map.{keys_of}
use Rattle.table_model.specs.Width.{width}
use Rattle.table_model.specs.Address.{Prefix, IsPrefix, same_prefix}
use Rattle.table_model.specs.Halves.{half_at}
use Rattle.table_model.specs.declared.family.Family.{Family}
use Rattle.table_model.specs.declared.family.Family.TheVariants.{V4, V6}
use Rattle.table_model.specs.Entries.{Entries, of_family, AlikeInBoth}
use Rattle.table_model.specs.Uniform.{AllGet}
use Rattle.table_model.specs.Sets.{is_in, joint, apart}
use Rattle.cert_model.specs.Rows.{CertRow, leaf_row, join_row, bound_row, whole_prefix}

-- The set and the k of a region, by rules. A leaf has the one hop of its addresses, and k 0. A join has the common hops of
-- its halves and the sum of their k, or, if there are none, all their hops and one more.
pub data IsRight (R : Entries) : Prefix → List ℕ → ℕ → Type 0 where
  leaf : {p : Prefix} {h : ℕ} → IsPrefix p → AllGet R p h → IsRight R p (h ∷ []) 0
  join : {p : Prefix} {S T : List ℕ} {k l : ℕ} → length p.bits < width p.family → IsRight R (half_at false p) S k → IsRight R (half_at true p) T l
      → IsRight R p (joint S T) (k + l + apart S T)

-- the bound of a family whose whole region has this set and k
abbrev pub bound_by : List ℕ → ℕ → ℕ
bound_by S k = cond (is_in 0 S) k (k + 1)

-- what stands on the stack: a region with its set and its k
pub record Item : Type 0 where
  pub prefix : Prefix
  pub hops : List ℕ
  pub k : ℕ

-- what a leaf row puts on the stack
abbrev pub leaf_item : Prefix → ℕ → Item
leaf_item p h = record { prefix = p; hops = h ∷ []; k = 0 }

-- the k of a region whose halves stand on the stack
abbrev pub joint_k : Item → Item → ℕ
joint_k low high = low.k + high.k + apart low.hops high.hops

-- what a join row puts on the stack in place of both halves
abbrev pub join_item : Prefix → Item → Item → Item
join_item p low high = record { prefix = p; hops = joint low.hops high.hops; k = joint_k low high }

-- The rows are leaf and join rows that are right for the routes, and lead from the one stack to the other: a leaf is put on
-- top, a join takes its halves from the top, the upper first, and puts itself there.
abbrev pub StackReads : Entries → List CertRow → List Item → List Item → Type 0
StackReads R [] st end = st ≡ end
StackReads R (leaf_row p h ∷ rows) st end = IsPrefix p × AllGet R p h × StackReads R rows (leaf_item p h ∷ st) end
StackReads R (join_row p n ∷ rows) (high ∷ low ∷ st) end =
    (length p.bits < width p.family) × (low.prefix ≡ half_at false p) × (high.prefix ≡ half_at true p) × (n ≡ joint_k low high) × StackReads R rows (join_item p low high ∷ st) end
StackReads R (join_row p n ∷ rows) (i ∷ []) end = ⊥
StackReads R (join_row p n ∷ rows) [] end = ⊥
StackReads R (bound_row f n ∷ rows) st end = ⊥

-- the rows lead from nothing to the whole region of the family, and this is its bound
abbrev pub HaveBound : Entries → Family → List CertRow → ℕ → Type 0
HaveBound R f rows n = (S : List ℕ) × (k : ℕ) × StackReads R rows [] (record { prefix = whole_prefix f; hops = S; k = k } ∷ []) × (n ≡ bound_by S k)

-- The rows prove the table T least for the routes R: neither has a prefix twice, both answer alike, and the rows are right
-- for the routes: those of IPv4 with its bound, then those of IPv6 with its bound, and no more. In each family the table has
-- at most as many entries as the bound.
pub record IsCertificate (R T : Entries) (rows : List CertRow) : Type 0 where
  pub routes_once : IsDistinct same_prefix (keys_of R)
  pub table_once : IsDistinct same_prefix (keys_of T)
  pub alike : AlikeInBoth R T
  pub rows_v4 : List CertRow
  pub rows_v6 : List CertRow
  pub bound_v4 : ℕ
  pub bound_v6 : ℕ
  pub parts : rows ≡ rows_v4 ++ (bound_row V4 bound_v4 ∷ (rows_v6 ++ (bound_row V6 bound_v6 ∷ [])))
  pub right_v4 : HaveBound R V4 rows_v4 bound_v4
  pub right_v6 : HaveBound R V6 rows_v6 bound_v6
  pub few_v4 : length (of_family V4 T) ≤ bound_v4
  pub few_v6 : length (of_family V6 T) ≤ bound_v6
