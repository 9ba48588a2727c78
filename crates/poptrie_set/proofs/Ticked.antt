-- An end of an update that changed nothing here, and a trie that is cleared.
use Rattle.std.proofs.Common.{◌≡◌, ℕ, suc, ◌≤◌, List, [], ◌∷◌, ◌++◌, get_or, sym, ap, ◌∙◌, arith, append-nil, subst}
use Rattle.std.proofs.lemmas.List.{length-append}
use Rattle.buddy_arena.specs.Space.{Space}
use Rattle.buddy_arena.specs.Arrays.{Array}
use Rattle.buddy_arena.specs.Blocks.{Held, Retired, ended, at_end}
use Rattle.poptrie_build.specs.declared.node.Node.{Node}
use Rattle.poptrie_set.specs.Rooms.{Room, room_of}
use Rattle.poptrie_set.specs.Lives.{Seen}
use Rattle.poptrie_set.specs.Fits.{Reader, FitsIn}
use Rattle.poptrie_set.specs.Past.{PastIn, retired_at}
use Rattle.poptrie_set.proofs.Fitting.{fits_all}
use Rattle.poptrie_set.proofs.Passed.{one_end}

-- nothing was taken or replaced
pub same_room : {T : Type 0} (s : Space T) (a a2 : Held) → a.taken ≡ [] → a.replaced ≡ [] → a2 ≡ ended a → room_of s a2 ≡ room_of s a
same_room s a a2 et er e =
    ap (λ (h : Held). room_of s h) e
    ∙ (ap (λ (x : List Array). room_of s (record a { taken = []; replaced = []; retired = a.retired ++ at_end (suc a.time) x })) er
    ∙ (ap (λ (x : List Retired). room_of s (record a { taken = []; replaced = []; retired = x })) (append-nil a.retired)
    ∙ (ap (λ (x : List Array). room_of s (record a { taken = []; replaced = x })) (sym er)
    ∙ ap (λ (x : List Array). room_of s (record a { taken = x })) (sym et))))

-- time goes on
module _ (l : Seen) (nodes : Room Node) (leaves : Room ℕ) (t : ℕ) (en : nodes ≡ l.nodes) (el : leaves ≡ l.leaves) (et : t ≡ suc l.time) where
  pub tick_fits : (os : List Reader) → FitsIn l os → FitsIn (record l { nodes = nodes; leaves = leaves; time = t }) os
  tick_fits os f =
      subst (λ (x : Room Node). FitsIn (record l { nodes = x; leaves = leaves; time = t }) os) (sym en)
      (subst (λ (x : Room ℕ). FitsIn (record l { leaves = x; time = t }) os) (sym el)
      (fits_all l (record l { time = t }) os (λ o r. (omega (arith, r.0, et), r.1)) f))

  pub tick_past : (n m : ℕ) (ns ls : List ℕ) → PastIn l ns ls → PastIn (record l { nodes = nodes; leaves = leaves; time = t }) (ns ++ n ∷ []) (ls ++ m ∷ [])
  tick_past n m ns ls p =
      let none : (r : List Retired) → r ++ at_end (suc l.time) [] ≡ r = append-nil in
      record {
        node_ends = length-append ns (n ∷ []) ∙ omega (arith, p.node_ends, et);
        leaf_ends = length-append ls (m ∷ []) ∙ omega (arith, p.leaf_ends, et);
        nodes = λ u. subst (λ (r : List Retired). retired_at (suc u) r ≤ get_or (ns ++ n ∷ []) u 0) (none l.nodes.retired ∙ ap (λ (x : Room Node). x.retired) (sym en)) (one_end l.time n ns l.nodes.retired [] p.node_ends p.nodes (omega arith) u);
        leaves = λ u. subst (λ (r : List Retired). retired_at (suc u) r ≤ get_or (ls ++ m ∷ []) u 0) (none l.leaves.retired ∙ ap (λ (x : Room ℕ). x.retired) (sym el)) (one_end l.time m ls l.leaves.retired [] p.leaf_ends p.leaves (omega arith) u);
      }
