-- An update that was made ready once what may be given back was, or why it wasn't, as it is told of what was before.
use Rattle.std.proofs.Common.{◌≡◌, ℕ, ◌^◌, ◌<◌, ◌≤◌, Bool, true, false, cond, refl, sym, ap, ◌∙◌, subst}
use Rattle.std.specs.Prelude.{nat_le}
use Rattle.std.proofs.lemmas.Bool.{leb-true, leb-false}
use Rattle.table_model.specs.declared.family.Family.{Family}
use Rattle.table_model.specs.Entries.{Entries}
use Rattle.buddy_arena.specs.Space.{Space}
use Rattle.poptrie_build.specs.Tries.{node_need, leaf_need, IsTooMuch}
use Rattle.poptrie_build.specs.declared.node.Node.{Node}
use Rattle.path_copying.specs.Asks.{MeetsInTurn, RunsOut}
use Rattle.path_copying.specs.declared.blocks.Refusal.{Refusal}
use Rattle.poptrie_set.specs.Fits.{until}
use Rattle.poptrie_set.specs.Prepares.{asks_of, GaveBack}
use Rattle.poptrie_set.specs.declared.trie_set.Oldest.{Oldest}
use Rattle.poptrie_update.specs.Lives.{Living, HasShapeOf, freed}
use Rattle.poptrie_update.specs.Prepares.{IsFreeBy, IsRetiredAfter, RunsShort, IsBeside, IsNotBeside, IsMade, IsMadeIn, IsNotReady, refusal_in}
use Rattle.poptrie_update.specs.declared.live.Other.{Other}
use Rattle.poptrie_update.specs.declared.live.Other.TheVariants as other
use Rattle.poptrie_update.specs.declared.pending.Pending.{Pending}
use Rattle.poptrie_update.specs.declared.pending.Stores.{Stores}
use Rattle.poptrie_update.specs.declared.pending.Stores.TheVariants as stores
use Rattle.poptrie_update.specs.declared.pending.NotReady.{NotReady}
use Rattle.poptrie_update.specs.declared.pending.NotReady.TheVariants as why

-- ---- when the other set is given back
pub free_by : (since : ℕ) (state : Other) → freed since state ≡ other.Free → IsFreeBy since state
free_by since other.Free e = tt
free_by since (other.Retired end) e = by (nat_le end since) refl e
  where
    by : (b : Bool) → nat_le end since ≡ b → cond b other.Free (other.Retired end) ≡ other.Free → end ≤ since
    by true x e = leb-true end since x
    by false x e = cc
free_by since other.Built e = cc
free_by since other.Replaced e = cc

pub retired_after : (since end : ℕ) (state : Other) → freed since state ≡ other.Retired end → IsRetiredAfter since state
retired_after since end other.Free e = cc
retired_after since end (other.Retired t) e = by (nat_le t since) refl e
  where
    by : (b : Bool) → nat_le t since ≡ b → cond b other.Free (other.Retired t) ≡ other.Retired end → since < t
    by true x e = cc
    by false x e = leb-false t since x
retired_after since end other.Built e = cc
retired_after since end other.Replaced e = cc

module _ (old mid : Living) (shape : HasShapeOf old mid) (L M : Entries) where
  -- of sets of the same sizes the same is asked
  asked : (P : Family → ℕ → Type 0) → P mid.selected.family mid.selected.direct_bits → P old.selected.family old.selected.direct_bits
  asked P x = subst (λ (f : Family). P f old.selected.direct_bits) shape.0 (subst (λ (n : ℕ). P mid.selected.family n) shape.1 x)

  short : (nodes : Space Node) (leaves : Space ℕ) (first : Refusal) → RunsShort mid.selected L M nodes leaves first → RunsShort old.selected L M nodes leaves first
  short nodes leaves first r =
      let x = asked (λ f d. (node_need f d M ≤ 2 ^ nodes.order) × (leaf_need f d M ≤ 2 ^ leaves.order) × RunsOut nodes.order leaves.order (asks_of f d L M) (nodes.free, leaves.free) first) (r.nodes_fit, r.leaves_fit, r.refused) in
      record { nodes_fit = x.0; leaves_fit = x.1; refused = x.2 }

  pub made_in : (since : ℕ) (new : Living) (p : Stores) → mid.state ≡ freed since old.state → IsBeside p mid new L M → IsMadeIn since p old new L M mid.selected.nodes.space mid.selected.leaves.space
  made_in since new (stores.Words w) e x = (x.0 ∙ e, asked (λ f d. MeetsInTurn mid.selected.nodes.space.order mid.selected.leaves.space.order (asks_of f d L M) (mid.selected.nodes.space.free, mid.selected.leaves.space.free) (new.selected.nodes.space.free, new.selected.leaves.space.free)) x.1)
  made_in since new (stores.Selector stored) e x = (free_by since old.state (sym e ∙ x.0), (x.1.0, short mid.selected.nodes.space mid.selected.leaves.space x.1.0 x.1.1))

  pub is_made : (since : ℕ) (new : Living) (p : Pending) → mid.state ≡ freed since old.state → GaveBack since old.selected mid.selected.nodes.space mid.selected.leaves.space → IsBeside p.stores mid new L M → IsMade since p old new L M
  is_made since new p e given x = (mid.selected.nodes.space, mid.selected.leaves.space, given, made_in since new p.stores e x)

  pub is_refused : (who : Oldest) (time : ℕ) (e : NotReady) → mid.state ≡ freed (until who time) old.state → GaveBack (until who time) old.selected mid.selected.nodes.space mid.selected.leaves.space → IsNotBeside who e mid L M → IsNotReady who e old L M
  is_refused who time why.Memory es given x = tt
  is_refused who time (why.TooMuch t) es given x =
      subst (λ (n : ℕ). IsTooMuch t.arena t.need t.have (node_need old.selected.family old.selected.direct_bits M) (leaf_need old.selected.family old.selected.direct_bits M) (2 ^ old.selected.nodes.space.order) (2 ^ n)) shape.3
      (subst (λ (n : ℕ). IsTooMuch t.arena t.need t.have (node_need old.selected.family old.selected.direct_bits M) (leaf_need old.selected.family old.selected.direct_bits M) (2 ^ n) (2 ^ mid.selected.leaves.space.order)) shape.2
      (asked (λ f d. IsTooMuch t.arena t.need t.have (node_need f d M) (leaf_need f d M) (2 ^ mid.selected.nodes.space.order) (2 ^ mid.selected.leaves.space.order)) x))
  is_refused who time (why.Pinned need cursor arena largest) es given (e, biggest, (since, end, started, held), few, many, r) =
      let at : until who time ≡ since = ap (λ (w : Oldest). until w time) started in (
        e,
        biggest,
        (
          since,
          started,
          retired_after since end old.state (ap (λ (n : ℕ). freed n old.state) (sym at) ∙ (sym es ∙ held)),
          few,
          many,
          (mid.selected.nodes.space, mid.selected.leaves.space, subst (λ (n : ℕ). GaveBack n old.selected mid.selected.nodes.space mid.selected.leaves.space) at given, short mid.selected.nodes.space mid.selected.leaves.space (refusal_in arena e) r),
        ),
      )
