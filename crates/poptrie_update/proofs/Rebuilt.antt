-- An update whose trie is built in the other set, as it is told of the set before.
use Rattle.std.proofs.Common.{◌≡◌, ℕ, ◌^◌, ◌≤◌, List, Bool, false, Result, Ok, Err, refl, sym, ap, subst}
use Rattle.std.specs.Prelude.{OnOk, IfOk}
use Rattle.table_model.specs.declared.family.Family.{Family}
use Rattle.table_model.specs.Entries.{Entries}
use Rattle.poptrie_build.specs.Tries.{node_need, leaf_need, IsTooMuch}
use Rattle.path_copying.specs.Asks.{RunsOut}
use Rattle.path_copying.specs.declared.blocks.Refusal.{Refusal}
use Rattle.path_copying.specs.declared.blocks.Refusal.TheVariants as refusal
use Rattle.poptrie_set.specs.Lives.{Seen, HasSizesOf}
use Rattle.poptrie_set.specs.Prepares.{AsksRunOut, asks_of}
use Rattle.poptrie_set.specs.declared.reasons.NotReady.{NotReady as NotBeside}
use Rattle.poptrie_set.specs.declared.reasons.NotReady.TheVariants as beside
use Rattle.poptrie_set.specs.declared.trie_set.Oldest.{Oldest}
use Rattle.poptrie_update.specs.Lives.{Living, stores_made, made_of}
use Rattle.poptrie_update.specs.Pendings.{IsTokenOf, IsTokenBy, IsSelectorOf}
use Rattle.poptrie_update.specs.Prepares.{RunsShort, IsNotBeside, refusal_in}
use Rattle.poptrie_update.specs.declared.live.Other.{Other}
use Rattle.poptrie_update.specs.declared.live.Other.TheVariants as other
use Rattle.poptrie_update.specs.declared.pending.Pending.{Pending}
use Rattle.poptrie_update.specs.declared.pending.Stores.{Stores}
use Rattle.poptrie_update.specs.declared.pending.Stores.TheVariants as stores
use Rattle.poptrie_update.specs.declared.pending.NotReady.{NotReady}
use Rattle.poptrie_update.specs.declared.pending.NotReady.TheVariants as why

pub if_ok_both : {T E A : Type 0} (r : Result T E) (P Q : T → Type 0) → OnOk r A → IfOk r P → ((x : T) → A → P x → Q x) → IfOk r Q
if_ok_both (Ok x) P Q a p f = f x a p
if_ok_both (Err e) P Q a p f = tt

pub if_ok_map : {T E : Type 0} (r : Result T E) (P Q : T → Type 0) → IfOk r P → ((x : T) → P x → Q x) → IfOk r Q
if_ok_map (Ok x) P Q p f = f x p
if_ok_map (Err e) P Q p f = tt

pub if_ok_all : {T E A B : Type 0} (r : Result T E) (P Q : T → Type 0) → OnOk r A → OnOk r B → IfOk r P → ((x : T) → A → B → P x → Q x) → IfOk r Q
if_ok_all (Ok x) P Q a b p f = f x a b p
if_ok_all (Err e) P Q a b p f = tt

-- ---- the token of the selector
pub selector_token : (p : Pending) (l : Living) → p.stores ≡ stores.Selector false → l.state ≡ other.Built → IsTokenOf p l × (made_of l ≡ 0)
selector_token p l e b = (
  subst (λ (x : Stores). IsTokenBy x l) (sym e) (subst (λ (x : Other). IsSelectorOf false x) (sym b) refl),
  ap (λ (x : Other). stores_made x l.selected.made) b,
)

-- ---- what is told of a set of the same sizes in which the same places are free
module _ (s t : Seen) (sizes : HasSizesOf s t) (nodes : t.nodes.space.free ≡ s.nodes.space.free) (leaves : t.leaves.space.free ≡ s.leaves.space.free) (L M : Entries) where
  moved : (P : Family → ℕ → ℕ → ℕ → List Bool → List Bool → Type 0) → P s.family s.direct_bits s.nodes.space.order s.leaves.space.order s.nodes.space.free s.leaves.space.free → P t.family t.direct_bits t.nodes.space.order t.leaves.space.order t.nodes.space.free t.leaves.space.free
  moved P x =
      subst (λ (f : Family). P f t.direct_bits t.nodes.space.order t.leaves.space.order t.nodes.space.free t.leaves.space.free) (sym sizes.0)
      (subst (λ (n : ℕ). P s.family n t.nodes.space.order t.leaves.space.order t.nodes.space.free t.leaves.space.free) (sym sizes.1)
      (subst (λ (n : ℕ). P s.family s.direct_bits n t.leaves.space.order t.nodes.space.free t.leaves.space.free) (sym sizes.2)
      (subst (λ (n : ℕ). P s.family s.direct_bits s.nodes.space.order n t.nodes.space.free t.leaves.space.free) (sym sizes.3)
      (subst (λ (z : List Bool). P s.family s.direct_bits s.nodes.space.order s.leaves.space.order z t.leaves.space.free) (sym nodes)
      (subst (λ (z : List Bool). P s.family s.direct_bits s.nodes.space.order s.leaves.space.order s.nodes.space.free z) (sym leaves) x)))))

  pub run_out_moved : (w : NotBeside) → AsksRunOut s L M w → AsksRunOut t L M w
  run_out_moved beside.Memory x = tt
  run_out_moved (beside.TooMuch e) x = moved (λ f d o p z y. IsTooMuch e.arena e.need e.have (node_need f d M) (leaf_need f d M) (2 ^ o) (2 ^ p)) x
  run_out_moved (beside.NodesOut e) x = moved (λ f d o p z y. (node_need f d M ≤ 2 ^ o) × (leaf_need f d M ≤ 2 ^ p) × RunsOut o p (asks_of f d L M) (z, y) (refusal.Nodes e)) x
  run_out_moved (beside.LeavesOut e) x = moved (λ f d o p z y. (node_need f d M ≤ 2 ^ o) × (leaf_need f d M ≤ 2 ^ p) × RunsOut o p (asks_of f d L M) (z, y) (refusal.Leaves e)) x

  pub short_moved : (first : Refusal) → RunsShort s L M s.nodes.space s.leaves.space first → RunsShort t L M t.nodes.space t.leaves.space first
  short_moved first r = let x = moved (λ f d o p z y. (node_need f d M ≤ 2 ^ o) × (leaf_need f d M ≤ 2 ^ p) × RunsOut o p (asks_of f d L M) (z, y) first) (r.nodes_fit, r.leaves_fit, r.refused) in record { nodes_fit = x.0; leaves_fit = x.1; refused = x.2 }

  pub not_beside_moved : (who : Oldest) (state : Other) (number : ℕ) (o : Seen) (e : NotReady) → IsNotBeside who e (record { selected = s; other = o; state = state; number = number }) L M → IsNotBeside who e (record { selected = t; other = o; state = state; number = number }) L M
  not_beside_moved who state number o why.Memory x = tt
  not_beside_moved who state number o (why.TooMuch e) x = moved (λ f d m p z y. IsTooMuch e.arena e.need e.have (node_need f d M) (leaf_need f d M) (2 ^ m) (2 ^ p)) x
  not_beside_moved who state number o (why.Pinned need cursor arena largest) x = (x.0, x.1, x.2, x.3, x.4, short_moved (refusal_in arena x.0) x.5)

pub back_sizes : (s t : Seen) → HasSizesOf s t → HasSizesOf t s
back_sizes s t z = (sym z.0, sym z.1, sym z.2, sym z.3)
