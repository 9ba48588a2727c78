-- No step of an update writes a cell that a lookup can reach in either set.
use Rattle.std.proofs.Common.{◌≡◌, ℕ, suc, ◌-◌, ◌<◌, ◌≤◌, Bool, true, false, cond, nat_eq, get_or, refl, sym, ap, ◌∙◌, arith, subst}
use Rattle.std.specs.Prelude.{nat_lt}
use Rattle.std.proofs.lemmas.Bool.{ltb-true, lt-ltb, ne_eqb, eqb-true}
use Rattle.buddy_arena.specs.Places.{is_out}
use Rattle.buddy_arena.proofs.Sets.{both, both_left}
use Rattle.poptrie_build.specs.Stands.{blank, node_at}
use Rattle.poptrie_set.specs.Rooms.{Room, safe}
use Rattle.poptrie_set.specs.Lives.{Seen}
use Rattle.poptrie_set.specs.Cells.{KeepsCells, KeepsCellsOf}
use Rattle.poptrie_set.proofs.Safe.{safe_out}
use Rattle.poptrie_update.specs.Lives.{Living}
use Rattle.poptrie_update.specs.Cells.{safe_beside, KeepsReached, KeepsAllReached}
use Rattle.poptrie_update.specs.declared.live.Other.{Other}
use Rattle.poptrie_update.specs.declared.live.Other.TheVariants as other

abbrev pub pair_of : Seen → Seen → Other → ℕ → Living
pair_of s o state n = record { selected = s; other = o; state = state; number = n }

-- ---- one arena of the other set
abbrev KeepsBeside : {T : Type 0} → T → ℕ → Other → Room T → Other → Room T → Type 0
KeepsBeside e t state r state2 r2 = (i : ℕ) → safe_beside state r t i ≡ true → (safe_beside state2 r2 t i ≡ true) × (get_or r2.space.cells i e ≡ get_or r.space.cells i e)

same_beside : {T : Type 0} (e : T) (t : ℕ) (state : Other) (r r2 : Room T) → r2 ≡ r → KeepsBeside e t state r state r2
same_beside e t state r r2 q = subst (λ x. KeepsBeside e t state r state x) (sym q) (λ i s. (s, refl))

-- no lookup is in a set that was retired by its start
freed_beside : {T : Type 0} (e : T) (t end : ℕ) (r r2 : Room T) → end ≤ t → KeepsBeside e t (other.Retired end) r other.Free r2
freed_beside e t end r r2 low i s = absurd (omega (arith, low, ltb-true t end (both_left (nat_lt t end) (is_out r.space.free i) s)))

retired_beside : {T : Type 0} (e : T) (t end : ℕ) (r r2 : Room T) → t < end → r2 ≡ r → KeepsBeside e t other.Replaced r (other.Retired end) r2
retired_beside e t end r r2 low q = subst (λ x. KeepsBeside e t other.Replaced r (other.Retired end) x) (sym q) (λ i s. (both (nat_lt t end) (is_out r.space.free i) (lt-ltb t end low) s, refl))

-- ---- both sets
pub record BesideKept (t : ℕ) (state : Other) (o : Seen) (state2 : Other) (q : Seen) : Type 0 where
  pub nodes : KeepsBeside blank t state o.nodes state2 q.nodes
  pub leaves : KeepsBeside 0 t state o.leaves state2 q.leaves

pub kept_same : (t : ℕ) (state : Other) (o q : Seen) → q.nodes ≡ o.nodes → q.leaves ≡ o.leaves → BesideKept t state o state q
kept_same t state o q en el = record { nodes = same_beside blank t state o.nodes q.nodes en; leaves = same_beside 0 t state o.leaves q.leaves el }

kept_freed : (t end : ℕ) (o q : Seen) → end ≤ t → BesideKept t (other.Retired end) o other.Free q
kept_freed t end o q low = record { nodes = freed_beside blank t end o.nodes q.nodes low; leaves = freed_beside 0 t end o.leaves q.leaves low }

kept_retired : (t end : ℕ) (o q : Seen) → t < end → q.nodes ≡ o.nodes → q.leaves ≡ o.leaves → BesideKept t other.Replaced o (other.Retired end) q
kept_retired t end o q low en el = record { nodes = retired_beside blank t end o.nodes q.nodes low en; leaves = retired_beside 0 t end o.leaves q.leaves low el }

-- no lookup is in a set that is free, or has what is to be selected
kept_free : (t : ℕ) (o q : Seen) (state : Other) → BesideKept t other.Free o state q
kept_free t o q state = record { nodes = λ i s. cc; leaves = λ i s. cc }

kept_built : (t : ℕ) (o q : Seen) (state : Other) → BesideKept t other.Built o state q
kept_built t o q state = record { nodes = λ i s. cc; leaves = λ i s. cc }

module _ (n t : ℕ) (s s2 o q : Seen) (state state2 : Other) (m : ℕ) (k : KeepsCellsOf t s s2) (b : BesideKept t state o state2 q) where
  kept_reached : KeepsReached n t (pair_of s o state m) (pair_of s2 q state2 m)
  kept_reached = record { nodes = node (nat_eq n m); leaves = leaf (nat_eq n m) }
    where
      node : (x : Bool) (i : ℕ) → cond x (safe s.nodes s.made t i) (safe_beside state o.nodes t i) ≡ true → (cond x (safe s2.nodes s2.made t i) (safe_beside state2 q.nodes t i) ≡ true) × (node_at (cond x s2 q).nodes.space.cells i ≡ node_at (cond x s o).nodes.space.cells i)
      node true i h = k.nodes i h
      node false i h = b.nodes i h

      leaf : (x : Bool) (i : ℕ) → cond x (safe s.leaves s.made t i) (safe_beside state o.leaves t i) ≡ true → (cond x (safe s2.leaves s2.made t i) (safe_beside state2 q.leaves t i) ≡ true) × (get_or (cond x s2 q).leaves.space.cells i 0 ≡ get_or (cond x s o).leaves.space.cells i 0)
      leaf true i h = k.leaves i h
      leaf false i h = b.leaves i h

-- ---- the steps
pub reached_still : (since : ℕ) (l : Living) → KeepsAllReached since l l
reached_still since l n t from le = record { nodes = λ i s. (s, refl); leaves = λ i s. (s, refl) }

pub reached_both : (since : ℕ) (l m k : Living) → m.selected.time ≡ l.selected.time → KeepsAllReached since l m → KeepsAllReached 0 m k → KeepsAllReached since l k
reached_both since l m k e a b n t from le =
    let x = a n t from le in
    let y = b n t (omega arith) (omega (arith, le, e)) in
    record {
      nodes = λ i s. let p = x.nodes i s in let q = y.nodes i p.0 in (q.0, q.1 ∙ p.1);
      leaves = λ i s. let p = x.leaves i s in let q = y.leaves i p.0 in (q.0, q.1 ∙ p.1);
    }

-- the selected set makes a step, and the other one is as it was
pub reached_selected : (since : ℕ) (s s2 o : Seen) (state : Other) (m : ℕ) → KeepsCells since s s2 → KeepsAllReached since (pair_of s o state m) (pair_of s2 o state m)
reached_selected since s s2 o state m k n t from le = kept_reached n t s s2 o o state state m (k t from le) (kept_same t state o o refl refl)

pub reached_ended : (s s2 o q : Seen) (state : Other) (m : ℕ) → KeepsCells 0 s s2 → q.nodes ≡ o.nodes → q.leaves ≡ o.leaves → KeepsAllReached 0 (pair_of s o state m) (pair_of s2 q state m)
reached_ended s s2 o q state m k en el n t from le = kept_reached n t s s2 o q state state m (k t from le) (kept_same t state o q en el)

-- the other set is given back, or was free and is built, or what was built there is forgotten
pub reached_freed : (since end : ℕ) (s s2 o q : Seen) (m : ℕ) → end ≤ since → KeepsCells since s s2 → KeepsAllReached since (pair_of s o (other.Retired end) m) (pair_of s2 q other.Free m)
reached_freed since end s s2 o q m low k n t from le = kept_reached n t s s2 o q (other.Retired end) other.Free m (k t from le) (kept_freed t end o q (omega (arith, low, from)))

same_set : (t : ℕ) (s : Seen) → KeepsCellsOf t s s
same_set t s = record { nodes = λ i h. (h, refl); leaves = λ i h. (h, refl) }

pub reached_free : (s o q : Seen) (state : Other) (m : ℕ) → KeepsAllReached 0 (pair_of s o other.Free m) (pair_of s q state m)
reached_free s o q state m n t from le = kept_reached n t s s o q other.Free state m (same_set t s) (kept_free t o q state)

pub reached_forgotten : (s o q : Seen) (m : ℕ) → KeepsAllReached 0 (pair_of s o other.Built m) (pair_of s q other.Free m)
reached_forgotten s o q m n t from le = kept_reached n t s s o q other.Built other.Free m (same_set t s) (kept_built t o q other.Free)

-- the end of an update that stored the selector
pub reached_retired : (s s2 o q : Seen) (m end : ℕ) → KeepsCells 0 s s2 → q.nodes ≡ o.nodes → q.leaves ≡ o.leaves → end ≡ suc s.time → KeepsAllReached 0 (pair_of s o other.Replaced m) (pair_of s2 q (other.Retired end) m)
reached_retired s s2 o q m end k en el e n t from le = kept_reached n t s s2 o q other.Replaced (other.Retired end) m (k t from le) (kept_retired t end o q (omega (arith, le, e)) en el)

-- the selector is stored: what a lookup may read in the set that it replaces is out there
pub reached_swapped : (s o : Seen) (m k : ℕ) → m ≤ 1 → k ≡ 1 - m → KeepsAllReached 0 (pair_of s o other.Built m) (pair_of o s other.Replaced k)
reached_swapped s o m k few e n t from le = record { nodes = node (nat_eq n m) refl; leaves = leaf (nat_eq n m) refl }
  where
    turned : nat_eq n m ≡ true → nat_eq n k ≡ false
    turned q = ap (λ (j : ℕ). nat_eq n j) e ∙ ne_eqb n (1 - m) (λ p. omega (arith, eqb-true n m q, p, few))

    node : (x : Bool) → nat_eq n m ≡ x → (i : ℕ) → cond x (safe s.nodes s.made t i) false ≡ true → (cond (nat_eq n k) (safe o.nodes o.made t i) (is_out s.nodes.space.free i) ≡ true) × (node_at (cond (nat_eq n k) o s).nodes.space.cells i ≡ node_at (cond x s o).nodes.space.cells i)
    node true q i h = subst (λ (y : Bool). (cond y (safe o.nodes o.made t i) (is_out s.nodes.space.free i) ≡ true) × (node_at (cond y o s).nodes.space.cells i ≡ node_at s.nodes.space.cells i)) (sym (turned q)) (safe_out s.nodes s.made t i h, refl)
    node false q i h = cc

    leaf : (x : Bool) → nat_eq n m ≡ x → (i : ℕ) → cond x (safe s.leaves s.made t i) false ≡ true → (cond (nat_eq n k) (safe o.leaves o.made t i) (is_out s.leaves.space.free i) ≡ true) × (get_or (cond (nat_eq n k) o s).leaves.space.cells i 0 ≡ get_or (cond x s o).leaves.space.cells i 0)
    leaf true q i h = subst (λ (y : Bool). (cond y (safe o.leaves o.made t i) (is_out s.leaves.space.free i) ≡ true) × (get_or (cond y o s).leaves.space.cells i 0 ≡ get_or s.leaves.space.cells i 0)) (sym (turned q)) (safe_out s.leaves s.made t i h, refl)
    leaf false q i h = cc
