use Rattle.std.proofs.Common.{◌≡◌, sym, ap, subst, false}
use Rattle.poptrie_set.specs.Lives.{Seen}
use Rattle.poptrie_set.specs.Fits.{FitsIn}
use Rattle.poptrie_set.specs.Past.{PastIn}
use Rattle.poptrie_set.specs.Rooms.{room_of}
use Rattle.poptrie_set.proofs.Lived.{seen_as, tick_keeps, same_shows}
use Rattle.poptrie_set.proofs.Ticked.{same_room, tick_fits, tick_past}
use Rattle.poptrie_set.specs.Cells.{KeepsCells}
use Rattle.poptrie_set.proofs.Unwritten.{tick_cells}
use Rattle.poptrie_set.proofs.trie_set.TrieSet.tick.Goals as goal

pub invariant_of-self : goal.invariant_of-self
invariant_of-self c =
    let none : c.self.inside.pending ≡ false = subst (λ (l : Seen). l.pending ≡ false) (sym c.self.view_is) c.requires.quiet in
    let q = c.self.invariant.0.quiet none in
    let some = c.self.invariant.1 in (
      tick_keeps c.self.inside.direct_bits c.self.inside.words.items c.self.inside.arenas.nodes c.self.inside.arenas.leaves c.self.inside.arenas.node_blocks c.self.inside.arenas.leaf_blocks c.end.new.self c.end-2.new.self c.self.inside.pending c.self.inside.stores.items c.self.inside.made c.end.ensures c.end-2.ensures none c.self.invariant.0,
      record {
        before = some.before;
        after = some.after;
        shows = same_shows (seen_as c.self.inside.family c.self.inside.direct_bits c.self.inside.words.items c.self.inside.arenas.nodes c.self.inside.arenas.leaves c.self.inside.arenas.node_blocks c.self.inside.arenas.leaf_blocks c.self.inside.pending c.self.inside.stores.items c.self.inside.made) (room_of c.self.inside.arenas.nodes c.end.new.self) (room_of c.self.inside.arenas.leaves c.end-2.new.self) c.end.new.self.time (same_room c.self.inside.arenas.nodes c.self.inside.arenas.node_blocks c.end.new.self q.nodes_taken q.nodes_replaced c.end.ensures) (same_room c.self.inside.arenas.leaves c.self.inside.arenas.leaf_blocks c.end-2.new.self q.leaves_taken q.leaves_replaced c.end-2.ensures) some.before some.after some.shows;
      },
    )

pub returns-clause-fits : goal.returns-clause-fits
returns-clause-fits c = λ os f.
    let none : c.self.inside.pending ≡ false = subst (λ (l : Seen). l.pending ≡ false) (sym c.self.view_is) c.requires.quiet in
    let q = c.self.invariant.0.quiet none in
    let l = seen_as c.self.inside.family c.self.inside.direct_bits c.self.inside.words.items c.self.inside.arenas.nodes c.self.inside.arenas.leaves c.self.inside.arenas.node_blocks c.self.inside.arenas.leaf_blocks c.self.inside.pending c.self.inside.stores.items c.self.inside.made in
    tick_fits l (room_of c.self.inside.arenas.nodes c.end.new.self) (room_of c.self.inside.arenas.leaves c.end-2.new.self) c.end.new.self.time (same_room c.self.inside.arenas.nodes c.self.inside.arenas.node_blocks c.end.new.self q.nodes_taken q.nodes_replaced c.end.ensures) (same_room c.self.inside.arenas.leaves c.self.inside.arenas.leaf_blocks c.end-2.new.self q.leaves_taken q.leaves_replaced c.end-2.ensures) (ap (λ h. h.time) c.end.ensures) os (subst (λ (x : Seen). FitsIn x os) (sym c.self.view_is) f)

pub returns-clause-past : goal.returns-clause-past
returns-clause-past c = λ n m ns ls p.
    let none : c.self.inside.pending ≡ false = subst (λ (l : Seen). l.pending ≡ false) (sym c.self.view_is) c.requires.quiet in
    let q = c.self.invariant.0.quiet none in
    let l = seen_as c.self.inside.family c.self.inside.direct_bits c.self.inside.words.items c.self.inside.arenas.nodes c.self.inside.arenas.leaves c.self.inside.arenas.node_blocks c.self.inside.arenas.leaf_blocks c.self.inside.pending c.self.inside.stores.items c.self.inside.made in
    tick_past l (room_of c.self.inside.arenas.nodes c.end.new.self) (room_of c.self.inside.arenas.leaves c.end-2.new.self) c.end.new.self.time (same_room c.self.inside.arenas.nodes c.self.inside.arenas.node_blocks c.end.new.self q.nodes_taken q.nodes_replaced c.end.ensures) (same_room c.self.inside.arenas.leaves c.self.inside.arenas.leaf_blocks c.end-2.new.self q.leaves_taken q.leaves_replaced c.end-2.ensures) (ap (λ h. h.time) c.end.ensures) n m ns ls (subst (λ (x : Seen). PastIn x ns ls) (sym c.self.view_is) p)

pub returns-clause-cells : goal.returns-clause-cells
returns-clause-cells c =
    let none : c.self.inside.pending ≡ false = subst (λ (l : Seen). l.pending ≡ false) (sym c.self.view_is) c.requires.quiet in
    let q = c.self.invariant.0.quiet none in
    let l = seen_as c.self.inside.family c.self.inside.direct_bits c.self.inside.words.items c.self.inside.arenas.nodes c.self.inside.arenas.leaves c.self.inside.arenas.node_blocks c.self.inside.arenas.leaf_blocks c.self.inside.pending c.self.inside.stores.items c.self.inside.made in
    let nodes = room_of c.self.inside.arenas.nodes c.end.new.self in
    let leaves = room_of c.self.inside.arenas.leaves c.end-2.new.self in
    let m = record l { nodes = nodes; leaves = leaves; time = c.end.new.self.time } in
    subst (λ (x : Seen). KeepsCells 0 x m) c.self.view_is
    (tick_cells l 0 nodes leaves c.end.new.self.time (same_room c.self.inside.arenas.nodes c.self.inside.arenas.node_blocks c.end.new.self q.nodes_taken q.nodes_replaced c.end.ensures) (same_room c.self.inside.arenas.leaves c.self.inside.arenas.leaf_blocks c.end-2.new.self q.leaves_taken q.leaves_replaced c.end-2.ensures))
