-- What stands in places that are kept goes on standing.
use Rattle.std.proofs.Common.{◌≡◌, ℕ, zero, suc, ◌+◌, ◌-◌, ◌<◌, List, Bool, true, Option, Some, None, length, get_or, sym, ◌∙◌, arith, subst}
use Rattle.poptrie_build.specs.Bits.{rank_of}
use Rattle.poptrie_build.specs.Strides.{slots, slot}
use Rattle.poptrie_build.specs.Stands.{Stands, BySlot, node_at, blank}
use Rattle.poptrie_build.specs.Build.{StandsIn}
use Rattle.poptrie_build.specs.declared.node.Node.{Node}

-- the places N hold in `after` what they held
pub record Carries {A : Type 0} (empty : A) (cells : List A) (N : ℕ → Bool) (after : List A) (M : ℕ → Bool) : Type 0 where
  pub inside : (i : ℕ) → N i ≡ true → M i ≡ true
  pub same : (i : ℕ) → N i ≡ true → get_or after i empty ≡ get_or cells i empty
  pub long : length after ≡ length cells

pub map_slot : (x : Option ℕ) (P P2 : Type 0) (Q Q2 : ℕ → Type 0) → (P → P2) → ((h : ℕ) → Q h → Q2 h) → BySlot x P Q → BySlot x P2 Q2
map_slot None P P2 Q Q2 p q b = p b
map_slot (Some h) P P2 Q Q2 p q b = q h b

pub carry : (k : ℕ) (nodes after : List Node) (N M : ℕ → Bool) (leaves rest : List ℕ) (L R : ℕ → Bool) (node : Node) (d : ℕ) (f : List Bool → ℕ) → Carries blank nodes N after M → Carries 0 leaves L rest R → StandsIn k nodes N leaves L node d f → StandsIn k after M rest R node d f
unfolding StandsIn
carry zero nodes after N M leaves rest L R node d f n l s = absurd s
carry (suc k) nodes after N M leaves rest L R node d f n l s = (
  s.0,
  s.1,
  λ v b. map_slot (slots d f v) _ _ _ _
      (λ t. (
        n.inside (node.base1 + rank_of node.vector (v + 1) - 1) t.0,
        omega (arith, n.long, t.1),
        subst (λ (m : Node). StandsIn k after M rest R m (d - 6) (slot d f v)) (sym (n.same (node.base1 + rank_of node.vector (v + 1) - 1) t.0)) (carry k nodes after N M leaves rest L R (node_at nodes (node.base1 + rank_of node.vector (v + 1) - 1)) (d - 6) (slot d f v) n l t.2),
      ))
      (λ h t. (
        l.inside (node.base0 + rank_of node.leafvec (v + 1) - 1) t.0,
        (omega (arith, l.long, t.1.0), l.same (node.base0 + rank_of node.leafvec (v + 1) - 1) t.0 ∙ t.1.1),
      ))
      (s.2 v b),
)

-- a node in the arrays stands where its content does
pub stands_at : (k : ℕ) (nodes : List Node) (N : ℕ → Bool) (leaves : List ℕ) (L : ℕ → Bool) (i d : ℕ) (f : List Bool → ℕ) → i < length nodes → StandsIn k nodes N leaves L (node_at nodes i) d f → Stands k nodes leaves i d f
unfolding StandsIn Stands
stands_at zero nodes N leaves L i d f h s = absurd s
stands_at (suc k) nodes N leaves L i d f h s = (
  h,
  s.0,
  s.1,
  λ v b. map_slot (slots d f v) _ _ _ _
      (λ t. stands_at k nodes N leaves L ((node_at nodes i).base1 + rank_of (node_at nodes i).vector (v + 1) - 1) (d - 6) (slot d f v) t.1 t.2)
      (λ h2 t. t.1)
      (s.2 v b),
)
