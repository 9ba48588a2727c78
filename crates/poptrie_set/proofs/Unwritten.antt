-- No step of an update writes a cell that a lookup can reach.
use Rattle.std.proofs.Common.{◌≡◌, ℕ, suc, ◌+◌, List, [], true, get_or, set, refl, sym, ap, arith, subst}
use Rattle.buddy_arena.specs.Space.{Space}
use Rattle.buddy_arena.specs.Arrays.{Array}
use Rattle.buddy_arena.specs.Blocks.{GivesBack, early, blocks_of}
use Rattle.poptrie_build.specs.Stands.{blank}
use Rattle.poptrie_build.specs.declared.node.Node.{Node}
use Rattle.poptrie_set.specs.Rooms.{Room, safe}
use Rattle.poptrie_set.specs.Lives.{Seen, Store}
use Rattle.poptrie_set.specs.Cells.{KeepsCellsOf, KeepsCells}
use Rattle.poptrie_set.proofs.Kept.{Grows}
use Rattle.poptrie_set.proofs.Safe.{store_safe, end_safe, cancel_safe, release_safe, grown_safe, safe_out}
use Rattle.poptrie_set.proofs.Steps.{at_its_end, at_its_cancel}
use Rattle.poptrie_set.proofs.Lived.{after_store}
use Rattle.poptrie_set.proofs.Quiet.{at_its_release}

module _ (l : Seen) where
  pub still_cells : (since : ℕ) → KeepsCells since l l
  still_cells since t from le = record { nodes = λ i s. (s, refl); leaves = λ i s. (s, refl) }

  stored : (t : ℕ) (words : List ℕ) → KeepsCellsOf t l (record l { words = words; made = suc l.made })
  stored t words = record { nodes = λ i s. (store_safe l.nodes l.made t i s, refl); leaves = λ i s. (store_safe l.leaves l.made t i s, refl) }

  pub store_cells : (since slot word : ℕ) → KeepsCells since l (after_store l slot word)
  store_cells since slot word t from le =
      let m : suc l.made ≡ l.made + 1 = omega arith in
      subst (λ (k : ℕ). KeepsCellsOf t l (record l { words = set l.words slot word; made = k })) m (stored t (set l.words slot word))

  pub end_cells : (since : ℕ) → KeepsCells since l (at_its_end l)
  end_cells since t from le = record {
    nodes = λ i s. (end_safe l.nodes l.made t (suc l.time) i (omega (arith, le)) s, refl);
    leaves = λ i s. (end_safe l.leaves l.made t (suc l.time) i (omega (arith, le)) s, refl);
  }

  -- nothing was taken or replaced
  pub tick_cells : (since : ℕ) (nodes : Room Node) (leaves : Room ℕ) (u : ℕ) → nodes ≡ l.nodes → leaves ≡ l.leaves → KeepsCells since l (record l { nodes = nodes; leaves = leaves; time = u })
  tick_cells since nodes leaves u en el t from le =
      subst (λ (x : Room Node). KeepsCellsOf t l (record l { nodes = x; leaves = leaves; time = u })) (sym en)
      (subst (λ (x : Room ℕ). KeepsCellsOf t l (record l { leaves = x; time = u })) (sym el)
      (record { nodes = λ i s. (s, refl); leaves = λ i s. (s, refl) }))

  module _ (nodes : Space Node) (leaves : Space ℕ) where
    pub cancel_cells : (since : ℕ) → l.made ≡ 0 → GivesBack l.nodes.taken l.nodes.space nodes → GivesBack l.leaves.taken l.leaves.space leaves → KeepsCells since l (at_its_cancel l nodes leaves)
    cancel_cells since z a b t from le = record {
      nodes = λ i s. (cancel_safe l.nodes nodes t i a (subst (λ (m : ℕ). safe l.nodes m t i ≡ true) z s), ap (λ x. get_or x i blank) a.cells);
      leaves = λ i s. (cancel_safe l.leaves leaves t i b (subst (λ (m : ℕ). safe l.leaves m t i ≡ true) z s), ap (λ x. get_or x i 0) b.cells);
    }

    -- what is retired at an end no later than every open lookup's start is given back
    pub release_cells : (since : ℕ) → l.nodes.taken ≡ [] → l.leaves.taken ≡ [] → GivesBack (blocks_of (early since l.nodes.retired)) l.nodes.space nodes → GivesBack (blocks_of (early since l.leaves.retired)) l.leaves.space leaves → KeepsCells since l (at_its_release l nodes leaves since)
    release_cells since n1 n2 a b t from le = record {
      nodes = λ i s. (release_safe since t from l.nodes nodes a n1 l.made i s, ap (λ x. get_or x i blank) a.cells);
      leaves = λ i s. (release_safe since t from l.leaves leaves b n2 l.made i s, ap (λ x. get_or x i 0) b.cells);
    }

    -- blocks are taken and written for an update
    pub grown_cells : (since : ℕ) (taken replaced taken2 replaced2 : List Array) (stores : List Store) → Grows blank l.nodes.space nodes taken → Grows 0 l.leaves.space leaves taken2 → KeepsCells since l (record l { nodes = record { space = nodes; taken = taken; replaced = replaced; retired = l.nodes.retired }; leaves = record { space = leaves; taken = taken2; replaced = replaced2; retired = l.leaves.retired }; pending = true; stores = stores; made = 0 })
    grown_cells since taken replaced taken2 replaced2 stores a b t from le = record {
      nodes = λ i s. (grown_safe l.nodes nodes taken replaced l.made t i a.keeps.still a.apart s, a.keeps.same i (safe_out l.nodes l.made t i s));
      leaves = λ i s. (grown_safe l.leaves leaves taken2 replaced2 l.made t i b.keeps.still b.apart s, b.keeps.same i (safe_out l.leaves l.made t i s));
    }
