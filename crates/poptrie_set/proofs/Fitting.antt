-- Every step of an update keeps what the open lookups read.
use Rattle.std.proofs.Common.{◌≡◌, ℕ, suc, ◌≤◌, List, [], ◌∷◌, Bool, true, length, get_or, refl, ap, arith, subst}
use Rattle.std.specs.List.{AllByRecursion}
use Rattle.buddy_arena.specs.Space.{Space}
use Rattle.poptrie_build.specs.Stands.{blank}
use Rattle.buddy_arena.specs.Arrays.{Array}
use Rattle.poptrie_build.specs.declared.node.Node.{Node}
use Rattle.poptrie_build.proofs.Carry.{Carries}
use Rattle.buddy_arena.specs.Blocks.{GivesBack, early, late, blocks_of}
use Rattle.poptrie_set.specs.Rooms.{safe}
use Rattle.poptrie_set.specs.Lives.{Seen, Store}
use Rattle.poptrie_set.specs.Fits.{Reader, ReadsIn, FitsIn}
use Rattle.poptrie_set.proofs.Read_on.{reads_again}
use Rattle.poptrie_set.proofs.Kept.{Grows}
use Rattle.poptrie_set.proofs.Safe.{store_safe, end_safe, cancel_safe, release_safe, grown_safe, safe_out}
use Rattle.poptrie_set.proofs.Steps.{at_its_end, at_its_cancel}

pub fits_all : (l m : Seen) (os : List Reader) → ((o : Reader) → ReadsIn l o → ReadsIn m o) → FitsIn l os → FitsIn m os
fits_all l m [] h f = tt
fits_all l m (o ∷ os) h f = (h o f.0, fits_all l m os h f.1)

same_cells : {A : Type 0} (e : A) (cells after : List A) (N M : ℕ → Bool) → after ≡ cells → ((i : ℕ) → N i ≡ true → M i ≡ true) → Carries e cells N after M
same_cells e cells after N M q h = record { inside = h; same = λ i o. ap (λ x. get_or x i e) q; long = ap length q }

module _ (l : Seen) (os : List Reader) (f : FitsIn l os) where
  pub store_fits : (words : List ℕ) → FitsIn (record l { words = words; made = suc l.made }) os
  store_fits words = fits_all l (record l { words = words; made = suc l.made }) os
      (λ o r. (
        r.0,
        reads_again o.left l.nodes.space.cells l.nodes.space.cells _ _ l.leaves.space.cells l.leaves.space.cells _ _ o.node o.bits o.answer
            (same_cells blank _ _ (safe l.nodes l.made o.since) (safe l.nodes (suc l.made) o.since) refl (λ i s. store_safe l.nodes l.made o.since i s))
            (same_cells 0 _ _ (safe l.leaves l.made o.since) (safe l.leaves (suc l.made) o.since) refl (λ i s. store_safe l.leaves l.made o.since i s)) r.1,
      )) f

  pub end_fits : FitsIn (at_its_end l) os
  end_fits = fits_all l (at_its_end l) os
      (λ o r. (
        omega (arith, r.0),
        reads_again o.left l.nodes.space.cells l.nodes.space.cells _ _ l.leaves.space.cells l.leaves.space.cells _ _ o.node o.bits o.answer
            (same_cells blank _ _ (safe l.nodes l.made o.since) (safe (at_its_end l).nodes 0 o.since) refl (λ i s. end_safe l.nodes l.made o.since (suc l.time) i (omega (arith, r.0)) s))
            (same_cells 0 _ _ (safe l.leaves l.made o.since) (safe (at_its_end l).leaves 0 o.since) refl (λ i s. end_safe l.leaves l.made o.since (suc l.time) i (omega (arith, r.0)) s)) r.1,
      )) f

  module _ (nodes : Space Node) (leaves : Space ℕ) where
    pub cancel_fits : l.made ≡ 0 → GivesBack l.nodes.taken l.nodes.space nodes → GivesBack l.leaves.taken l.leaves.space leaves → FitsIn (at_its_cancel l nodes leaves) os
    cancel_fits z a b = fits_all l (at_its_cancel l nodes leaves) os
        (λ o r. (
          r.0,
          reads_again o.left l.nodes.space.cells nodes.cells _ _ l.leaves.space.cells leaves.cells _ _ o.node o.bits o.answer
              (same_cells blank _ _ (safe l.nodes l.made o.since) (safe (record { space = nodes; taken = []; replaced = []; retired = l.nodes.retired }) 0 o.since) a.cells (λ i s. cancel_safe l.nodes nodes o.since i a (subst (λ (m : ℕ). safe l.nodes m o.since i ≡ true) z s)))
              (same_cells 0 _ _ (safe l.leaves l.made o.since) (safe (record { space = leaves; taken = []; replaced = []; retired = l.leaves.retired }) 0 o.since) b.cells (λ i s. cancel_safe l.leaves leaves o.since i b (subst (λ (m : ℕ). safe l.leaves m o.since i ≡ true) z s))) r.1,
        )) f

    -- what is retired at an end no later than every open lookup's start is given back
    pub release_fits : (since : ℕ) → AllByRecursion (λ (o : Reader). since ≤ o.since) os → l.nodes.taken ≡ [] → l.leaves.taken ≡ [] → GivesBack (blocks_of (early since l.nodes.retired)) l.nodes.space nodes → GivesBack (blocks_of (early since l.leaves.retired)) l.leaves.space leaves → FitsIn (record l { nodes = record { space = nodes; taken = []; replaced = []; retired = late since l.nodes.retired }; leaves = record { space = leaves; taken = []; replaced = []; retired = late since l.leaves.retired } }) os
    release_fits since all n1 n2 a b = go os all f
      where
        one : (o : Reader) → since ≤ o.since → ReadsIn l o → ReadsIn (record l { nodes = record { space = nodes; taken = []; replaced = []; retired = late since l.nodes.retired }; leaves = record { space = leaves; taken = []; replaced = []; retired = late since l.leaves.retired } }) o
        one o le r = (r.0, reads_again o.left l.nodes.space.cells nodes.cells _ _ l.leaves.space.cells leaves.cells _ _ o.node o.bits o.answer (same_cells blank _ _ (safe l.nodes l.made o.since) (safe (record { space = nodes; taken = []; replaced = []; retired = late since l.nodes.retired }) l.made o.since) a.cells (λ i s. release_safe since o.since le l.nodes nodes a n1 l.made i s)) (same_cells 0 _ _ (safe l.leaves l.made o.since) (safe (record { space = leaves; taken = []; replaced = []; retired = late since l.leaves.retired }) l.made o.since) b.cells (λ i s. release_safe since o.since le l.leaves leaves b n2 l.made i s)) r.1)

        go : (xs : List Reader) → AllByRecursion (λ (o : Reader). since ≤ o.since) xs → FitsIn l xs → FitsIn (record l { nodes = record { space = nodes; taken = []; replaced = []; retired = late since l.nodes.retired }; leaves = record { space = leaves; taken = []; replaced = []; retired = late since l.leaves.retired } }) xs
        go [] x y = tt
        go (o ∷ xs) x y = (one o x.0 y.0, go xs x.1 y.1)

    -- blocks are taken and written for an update
    pub prepare_fits : (taken replaced taken2 replaced2 : List Array) (stores : List Store) → Grows blank l.nodes.space nodes taken → Grows 0 l.leaves.space leaves taken2 → FitsIn (record l { nodes = record { space = nodes; taken = taken; replaced = replaced; retired = l.nodes.retired }; leaves = record { space = leaves; taken = taken2; replaced = replaced2; retired = l.leaves.retired }; pending = true; stores = stores; made = 0 }) os
    prepare_fits taken replaced taken2 replaced2 stores a b = fits_all l (record l { nodes = record { space = nodes; taken = taken; replaced = replaced; retired = l.nodes.retired }; leaves = record { space = leaves; taken = taken2; replaced = replaced2; retired = l.leaves.retired }; pending = true; stores = stores; made = 0 }) os
        (λ o r. (
          r.0,
          reads_again o.left l.nodes.space.cells nodes.cells _ _ l.leaves.space.cells leaves.cells _ _ o.node o.bits o.answer
              (record { inside = λ i s. grown_safe l.nodes nodes taken replaced l.made o.since i a.keeps.still a.apart s; same = λ i s. a.keeps.same i (safe_out l.nodes l.made o.since i s); long = a.keeps.long })
              (record { inside = λ i s. grown_safe l.leaves leaves taken2 replaced2 l.made o.since i b.keeps.still b.apart s; same = λ i s. b.keeps.same i (safe_out l.leaves l.made o.since i s); long = b.keeps.long }) r.1,
        )) f
