-- A certificate stays one with other numbers for the hops.
use Rattle.std.proofs.Common.{◌≡◌, ℕ, ◌+◌, ◌-◌, List, [], ◌∷◌, ◌++◌, Bool, true, false, cond, Option, Some, None, length, nat_eq, map, replicate, refl, sym, ap, subst, ◌∙◌, arith, length-append}
use Rattle.std.specs.Prelude.{◌||◌, nat_lt, option_map}
use Rattle.std.specs.List.{AllByRecursion, IsDistinct}
use Rattle.std.specs.Map.{keys_of}
use Rattle.std.proofs.lemmas.Bool.{eqb-true, eq-eqb, ne_eqb}
use Rattle.std.proofs.lemmas.List.{map-append, length-map, length-replicate}
use Rattle.table_model.specs.Bits.{begins}
use Rattle.table_model.specs.Width.{width}
use Rattle.table_model.specs.Address.{Address, Prefix, IsPrefix, same_family, same_prefix}
use Rattle.table_model.specs.declared.family.Family.{Family}
use Rattle.table_model.specs.declared.family.Family.TheVariants.{V4, V6}
use Rattle.table_model.specs.Table.{Entry, Table, longer, longest, hop_or, containing, lpm}
use Rattle.table_model.specs.Entries.{Entries, of_family, match_in}
use Rattle.table_model.specs.Uniform.{AllGet}
use Rattle.table_model.specs.Least.{candidates}
use Rattle.table_model.proofs.Laws.{lpm_candidate}
use Rattle.table_model.specs.Sets.{is_in, common, or_else, joint, one_if_empty, apart}
use Rattle.cert_model.specs.Rows.{CertRow, leaf_row, join_row, bound_row, whole_prefix}
use Rattle.cert_model.specs.Right.{Item, leaf_item, join_item, joint_k, StackReads, HaveBound, IsCertificate}
use Rattle.cert_model.specs.Renamed.{renamed, renamed_row, renamed_rows, hops_of_entries, KeepsApart}
use Rattle.cert_model.proofs.Regions.{get_bits}

-- ---- tables

abbrev entry_to : (ℕ → ℕ) → Entry → Entry
entry_to to e = record { prefix = e.prefix; hop = to e.hop }

abbrev table_to : (ℕ → ℕ) → Table → Table
table_to to L = map (entry_to to) L

family_to : (to : ℕ → ℕ) (f : Family) (L : Entries) → of_family f (renamed to L) ≡ table_to to (of_family f L)
family_to to f [] = refl
family_to to f (e ∷ L) = by_test (same_family f e.0.family) (family_to to f L)
  where
    by_test : (b : Bool) → of_family f (renamed to L) ≡ table_to to (of_family f L)
        → cond b (record { prefix = e.0.bits; hop = to e.1 } ∷ of_family f (renamed to L)) (of_family f (renamed to L)) ≡ table_to to (cond b (record { prefix = e.0.bits; hop = e.1 } ∷ of_family f L) (of_family f L))
    by_test true ih = ap (λ xs. let e : Entry = record { prefix = e.0.bits; hop = to e.1 } in e ∷ xs) ih
    by_test false ih = ih

containing_to : (to : ℕ → ℕ) (a : List Bool) (L : Table) → containing a (table_to to L) ≡ table_to to (containing a L)
containing_to to a [] = refl
containing_to to a (e ∷ L) = by_test (begins e.prefix a) (containing_to to a L)
  where
    by_test : (b : Bool) → containing a (table_to to L) ≡ table_to to (containing a L)
        → cond b (entry_to to e ∷ containing a (table_to to L)) (containing a (table_to to L)) ≡ table_to to (cond b (e ∷ containing a L) (containing a L))
    by_test true ih = ap (λ xs. entry_to to e ∷ xs) ih
    by_test false ih = ih

longer_to : (to : ℕ → ℕ) (e : Entry) (o : Option Entry) → longer (entry_to to e) (option_map (entry_to to) o) ≡ entry_to to (longer e o)
longer_to to e None = refl
longer_to to e (Some f) = by_test (nat_lt (length e.prefix) (length f.prefix))
  where
    by_test : (b : Bool) → cond b (entry_to to f) (entry_to to e) ≡ entry_to to (cond b f e)
    by_test true = refl
    by_test false = refl

longest_to : (to : ℕ → ℕ) (L : Table) → longest (table_to to L) ≡ option_map (entry_to to) (longest L)
longest_to to [] = refl
longest_to to (e ∷ L) = ap (λ o. Some (longer (entry_to to e) o)) (longest_to to L) ∙ ap Some (longer_to to e (longest L))

hop_to : (to : ℕ → ℕ) (h : ℕ) (o : Option Entry) → hop_or (to h) (option_map (entry_to to) o) ≡ to (hop_or h o)
hop_to to h None = refl
hop_to to h (Some e) = refl

lpm_to : (to : ℕ → ℕ) (L : Table) (a : List Bool) (h : ℕ) → lpm (table_to to L) a (to h) ≡ to (lpm L a h)
lpm_to to L a h =
    ap (λ xs. hop_or (to h) (longest xs)) (containing_to to a L)
    ∙ (ap (hop_or (to h)) (longest_to to (containing a L)) ∙ hop_to to h (longest (containing a L)))

-- the answer of the renamed table is the renamed answer
match_to : (to : ℕ → ℕ) (L : Entries) (a : Address) → to 0 ≡ 0 → match_in (renamed to L) a ≡ to (match_in L a)
match_to to L a z =
    ap (λ xs. lpm xs a.bits 0) (family_to to a.family L)
    ∙ (ap (lpm (table_to to (of_family a.family L)) a.bits) (sym z) ∙ lpm_to to (of_family a.family L) a.bits 0)

keys_to : (to : ℕ → ℕ) (L : Entries) → keys_of (renamed to L) ≡ keys_of L
keys_to to [] = refl
keys_to to (e ∷ L) = ap (λ ks. e.0 ∷ ks) (keys_to to L)

size_to : (to : ℕ → ℕ) (f : Family) (L : Entries) → length (of_family f (renamed to L)) ≡ length (of_family f L)
size_to to f L = ap length (family_to to f L) ∙ length-map (of_family f L) (entry_to to)

get_to : (to : ℕ → ℕ) (R : Entries) (p : Prefix) (h : ℕ) → to 0 ≡ 0 → AllGet R p h → AllGet (renamed to R) p (to h)
get_to to R p h z g a l c = match_to to R a z ∙ ap to (g a l c)

-- ---- sets of hops that are kept apart

-- all hops of the set are of these
abbrev Among : List ℕ → List ℕ → Type 0
Among hops S = AllByRecursion (λ h. is_in h hops ≡ true) S

same_test : (to : ℕ → ℕ) (hops : List ℕ) (g h : ℕ) → KeepsApart to hops → is_in g hops ≡ true → is_in h hops ≡ true → nat_eq (to g) (to h) ≡ nat_eq g h
same_test to hops g h k x y = by_test (nat_eq g h) refl
  where
    by_test : (b : Bool) → nat_eq g h ≡ b → nat_eq (to g) (to h) ≡ b
    by_test true e = eq-eqb (to g) (to h) (ap to (eqb-true g h e))
    by_test false e = ne_eqb (to g) (to h) (λ s. let t : nat_eq g h ≡ true = eq-eqb g h (k g h x y s) in let no : true ≡ false = sym t ∙ e in absurd cc)

in_to : (to : ℕ → ℕ) (hops : List ℕ) (h : ℕ) (S : List ℕ) → KeepsApart to hops → is_in h hops ≡ true → Among hops S → is_in (to h) (map to S) ≡ is_in h S
in_to to hops h [] k x a = refl
in_to to hops h (g ∷ S) k x a = ap (λ b. b || is_in (to h) (map to S)) (same_test to hops g h k a.0 x) ∙ ap (λ b. nat_eq g h || b) (in_to to hops h S k x a.1)

common_to : (to : ℕ → ℕ) (hops S T : List ℕ) → KeepsApart to hops → Among hops S → Among hops T → common (map to S) (map to T) ≡ map to (common S T)
common_to to hops [] T k a b = refl
common_to to hops (g ∷ S) T k a b =
    ap (λ t. cond t (to g ∷ common (map to S) (map to T)) (common (map to S) (map to T))) (in_to to hops g T k a.0 b) ∙ by_test (is_in g T) (common_to to hops S T k a.1 b)
  where
    by_test : (t : Bool) → common (map to S) (map to T) ≡ map to (common S T)
        → cond t (to g ∷ common (map to S) (map to T)) (common (map to S) (map to T)) ≡ map to (cond t (g ∷ common S T) (common S T))
    by_test true ih = ap (λ xs. to g ∷ xs) ih
    by_test false ih = ih

or_else_to : (to : ℕ → ℕ) (S T : List ℕ) → or_else (map to S) (map to T) ≡ map to (or_else S T)
or_else_to to [] T = refl
or_else_to to (g ∷ S) T = refl

empty_to : (to : ℕ → ℕ) (S : List ℕ) → one_if_empty (map to S) ≡ one_if_empty S
empty_to to [] = refl
empty_to to (g ∷ S) = refl

joint_to : (to : ℕ → ℕ) (hops S T : List ℕ) → KeepsApart to hops → Among hops S → Among hops T → joint (map to S) (map to T) ≡ map to (joint S T)
joint_to to hops S T k a b =
    ap (λ xs. or_else xs (map to S ++ map to T)) (common_to to hops S T k a b)
    ∙ (ap (or_else (map to (common S T))) (sym (map-append to S T)) ∙ or_else_to to (common S T) (S ++ T))

apart_to : (to : ℕ → ℕ) (hops S T : List ℕ) → KeepsApart to hops → Among hops S → Among hops T → apart (map to S) (map to T) ≡ apart S T
apart_to to hops S T k a b = ap one_if_empty (common_to to hops S T k a b) ∙ empty_to to (common S T)

among_both : {A : Type 0} (P : A → Type 0) (S T : List A) → AllByRecursion P S → AllByRecursion P T → AllByRecursion P (S ++ T)
among_both P [] T a b = b
among_both P (g ∷ S) T a b = (a.0, among_both P S T a.1 b)

among_common : (hops S T : List ℕ) → Among hops S → Among hops (common S T)
among_common hops [] T a = tt
among_common hops (g ∷ S) T a = by_test (is_in g T) (among_common hops S T a.1)
  where
    by_test : (t : Bool) → Among hops (common S T) → Among hops (cond t (g ∷ common S T) (common S T))
    by_test true ih = (a.0, ih)
    by_test false ih = ih

among_else : (hops S T : List ℕ) → Among hops S → Among hops T → Among hops (or_else S T)
among_else hops [] T a b = b
among_else hops (g ∷ S) T a b = a

among_joint : (hops S T : List ℕ) → Among hops S → Among hops T → Among hops (joint S T)
among_joint hops S T a b = among_else hops (common S T) (S ++ T) (among_common hops S T a) (among_both (λ h. is_in h hops ≡ true) S T a b)

-- ---- rows

abbrev item_to : (ℕ → ℕ) → Item → Item
item_to to i = record { prefix = i.prefix; hops = map to i.hops; k = i.k }

abbrev AreAmong : List ℕ → List Item → Type 0
AreAmong hops st = AllByRecursion (λ i. Among hops i.hops) st

k_to : (to : ℕ → ℕ) (hops : List ℕ) (low high : Item) → KeepsApart to hops → Among hops low.hops → Among hops high.hops → joint_k (item_to to low) (item_to to high) ≡ joint_k low high
k_to to hops low high k a b = ap (λ (n : ℕ). low.k + high.k + n) (apart_to to hops low.hops high.hops k a b)

join_to : (to : ℕ → ℕ) (hops : List ℕ) (p : Prefix) (low high : Item) → KeepsApart to hops → Among hops low.hops → Among hops high.hops
    → join_item p (item_to to low) (item_to to high) ≡ item_to to (join_item p low high)
join_to to hops p low high k a b =
    ap (λ xs. let i : Item = record { prefix = p; hops = xs; k = joint_k (item_to to low) (item_to to high) } in i) (joint_to to hops low.hops high.hops k a b)
    ∙ ap (λ n. let i : Item = record { prefix = p; hops = map to (joint low.hops high.hops); k = n } in i) (k_to to hops low high k a b)

-- ---- the hops of leaves

-- none and a family's hops are among those of both
of_both : (f : Family) (R : Entries) (h : ℕ) → is_in h (candidates (of_family f R)) ≡ true → is_in h (hops_of_entries R) ≡ true
of_both f R h = under (nat_eq 0 h) (is_in h (map (λ e. e.hop) (of_family f R))) (is_in h (map (λ e. e.1) R)) (of_all R)
  where
    under : (b c d : Bool) → (c ≡ true → d ≡ true) → (b || c) ≡ true → (b || d) ≡ true
    under true c d i e = refl
    under false c d i e = i e

    later : (b c : Bool) → c ≡ true → (b || c) ≡ true
    later true c e = refl
    later false c e = e

    one_more : (x : Prefix × ℕ) (L : Entries) (s : Bool) → is_in h (map (λ e. e.hop) (cond s (record { prefix = x.0.bits; hop = x.1 } ∷ of_family f L) (of_family f L))) ≡ true
        → (is_in h (map (λ e. e.hop) (of_family f L)) ≡ true → is_in h (map (λ e. e.1) L) ≡ true) → (nat_eq x.1 h || is_in h (map (λ e. e.1) L)) ≡ true
    one_more x L true e ih = under (nat_eq x.1 h) (is_in h (map (λ e. e.hop) (of_family f L))) (is_in h (map (λ e. e.1) L)) ih e
    one_more x L false e ih = later (nat_eq x.1 h) (is_in h (map (λ e. e.1) L)) (ih e)

    of_all : (L : Entries) → is_in h (map (λ e. e.hop) (of_family f L)) ≡ true → is_in h (map (λ e. e.1) L) ≡ true
    of_all [] e = e
    of_all (x ∷ L) e = one_more x L (same_family f x.0.family) e (of_all L)

-- the hop of a leaf is an answer of the routes
leaf_answered : (R : Entries) (p : Prefix) (h : ℕ) → IsPrefix p → AllGet R p h → is_in h (hops_of_entries R) ≡ true
leaf_answered R p h s g =
    let n : ℕ = width p.family - length p.bits in
    let a : List Bool = replicate n false in
    let l : length (p.bits ++ a) ≡ width p.family = omega (arith, s, length-replicate n false, length-append p.bits a) in
    of_both p.family R h (ap (λ x. is_in x (candidates (of_family p.family R))) (sym (get_bits R p h g a l)) ∙ lpm_candidate (of_family p.family R) (p.bits ++ a))

-- ---- rows that are read

-- renamed rows lead from a renamed stack to a renamed stack
reads_to : (to : ℕ → ℕ) (R : Entries) (rows : List CertRow) (st end : List Item) → to 0 ≡ 0 → KeepsApart to (hops_of_entries R) → AreAmong (hops_of_entries R) st
    → StackReads R rows st end → StackReads (renamed to R) (renamed_rows to rows) (map (item_to to) st) (map (item_to to) end) × AreAmong (hops_of_entries R) end
reads_to to R [] st end z k a r = (ap (map (item_to to)) r, subst (AreAmong (hops_of_entries R)) r a)
reads_to to R (leaf_row p h ∷ rows) st end z k a r =
    let more = reads_to to R rows (leaf_item p h ∷ st) end z k ((leaf_answered R p h r.0 r.1, tt), a) r.2 in
    ((r.0, get_to to R p h z r.1, more.0), more.1)
reads_to to R (join_row p n ∷ rows) [] end z k a r = absurd r
reads_to to R (join_row p n ∷ rows) (i ∷ []) end z k a r = absurd r
reads_to to R (join_row p n ∷ rows) (high ∷ low ∷ st) end z k a r =
    let hops : List ℕ = hops_of_entries R in
    let more = reads_to to R rows (join_item p low high ∷ st) end z k (among_joint hops low.hops high.hops a.1.0 a.0, a.1.1) r.4 in
    let next : StackReads (renamed to R) (renamed_rows to rows) (join_item p (item_to to low) (item_to to high) ∷ map (item_to to) st) (map (item_to to) end) =
    subst (λ (i : Item). StackReads (renamed to R) (renamed_rows to rows) (i ∷ map (item_to to) st) (map (item_to to) end)) (sym (join_to to hops p low high k a.1.0 a.0)) more.0
    in
    ((r.0, r.1, r.2, r.3 ∙ sym (k_to to hops low high k a.1.0 a.0), next), more.1)
reads_to to R (bound_row f n ∷ rows) st end z k a r = absurd r

bound_to : (to : ℕ → ℕ) (R : Entries) (f : Family) (rows : List CertRow) (n : ℕ) → to 0 ≡ 0 → KeepsApart to (hops_of_entries R) → HaveBound R f rows n → HaveBound (renamed to R) f (renamed_rows to rows) n
bound_to to R f rows n z k (S, m, r, b) =
    let end : List Item = record { prefix = whole_prefix f; hops = S; k = m } ∷ [] in
    let read = reads_to to R rows [] end z k tt r in
    let none : is_in 0 (map to S) ≡ is_in 0 S = ap (λ x. is_in x (map to S)) (sym z) ∙ in_to to (hops_of_entries R) 0 S k refl read.1.0 in
    (map to S, m, read.0, b ∙ ap (λ t. cond t m (m + 1)) (sym none))

-- ---- the whole

pub renaming_law : (to : ℕ → ℕ) (R T : Entries) (rows : List CertRow) → to 0 ≡ 0 → KeepsApart to (hops_of_entries R) → IsCertificate R T rows
    → IsCertificate (renamed to R) (renamed to T) (renamed_rows to rows)
renaming_law to R T rows z k c =
    let last : List CertRow = bound_row V6 c.bound_v6 ∷ [] in
    record {
      routes_once = subst (λ (ks : List Prefix). IsDistinct same_prefix ks) (sym (keys_to to R)) c.routes_once;
      table_once = subst (λ (ks : List Prefix). IsDistinct same_prefix ks) (sym (keys_to to T)) c.table_once;
      alike = λ a l. match_to to R a z ∙ (ap to (c.alike a l) ∙ sym (match_to to T a z));
      rows_v4 = renamed_rows to c.rows_v4;
      rows_v6 = renamed_rows to c.rows_v6;
      bound_v4 = c.bound_v4;
      bound_v6 = c.bound_v6;
      parts = ap (renamed_rows to) c.parts ∙ (map-append (renamed_row to) c.rows_v4 (bound_row V4 c.bound_v4 ∷ (c.rows_v6 ++ last))
          ∙ ap (λ xs. renamed_rows to c.rows_v4 ++ (bound_row V4 c.bound_v4 ∷ xs)) (map-append (renamed_row to) c.rows_v6 last));
      right_v4 = bound_to to R V4 c.rows_v4 c.bound_v4 z k c.right_v4;
      right_v6 = bound_to to R V6 c.rows_v6 c.bound_v6 z k c.right_v6;
      few_v4 = omega (arith, size_to to V4 T, c.few_v4);
      few_v6 = omega (arith, size_to to V6 T, c.few_v6);
    }
