-- An update that was made ready and is forgotten: all is as before it was made ready.
use Rattle.std.proofs.Common.{◌≡◌, ℕ, ◌^◌, [], true, get_or, refl, sym, ap, ◌∙◌, arith}
use Rattle.buddy_arena.specs.Space.{Space, IsSized}
use Rattle.buddy_arena.specs.Places.{is_out, since}
use Rattle.buddy_arena.specs.Blocks.{Held, GivesBack}
use Rattle.buddy_arena.proofs.Parting.{since_not}
use Rattle.buddy_arena.proofs.Sets.{among_in, not_among}
use Rattle.poptrie_build.specs.Stands.{blank}
use Rattle.poptrie_build.specs.declared.node.Node.{Node}
use Rattle.path_copying.specs.Changes.{Gains}
use Rattle.poptrie_set.specs.Rooms.{Room, quiet_room, room_of}
use Rattle.poptrie_set.specs.Lives.{Seen}
use Rattle.poptrie_set.specs.Undone.{TakesFree, IsReadyFrom, IsSameRoom, IsAsBefore}
use Rattle.poptrie_set.proofs.Restored.{same_free}
use Rattle.poptrie_set.proofs.Steps.{at_its_cancel}
use Rattle.poptrie_set.proofs.Copied_version.{gains_grow}

-- ---- one arena
-- what was taken is given back
room_back : {T : Type 0} (e : T) (b m : Room T) (space : Space T) → IsSized m.space → IsSized space → TakesFree e b m → GivesBack m.taken m.space space → IsSameRoom e b (quiet_room space m.retired)
room_back e b m space sized sized2 t g =
    let still : (i : ℕ) → is_out b.space.free i ≡ true → is_out space.free i ≡ true = λ i q. g.still i (t.keeps.still i q) (not_among m.taken i (λ z. let f = since_not (is_out b.space.free i) (is_out m.space.free i) (among_in (since (is_out b.space.free) (is_out m.space.free)) m.taken i t.apart z) in cc)) in
    let size : 2 ^ space.order ≡ 2 ^ m.space.order = ap (λ (n : ℕ). 2 ^ n) g.order in
    record {
      free = sym (same_free b.space.free space.free (omega (arith, t.places, sized.places, sized2.places, size)) still (omega (arith, t.left, g.left)));
      held = λ i q. ap (λ x. get_or x i e) g.cells ∙ t.keeps.same i q;
      order = g.order ∙ t.order;
      fill = g.fill ∙ t.fill;
      retired = t.retired;
    }

-- what a copy gained
pub room_taken : {T : Type 0} (e : T) (s m : Space T) (a b : Held) → IsSized s → a.taken ≡ [] → Gains e s a m b → TakesFree e (room_of s a) (record { space = m; taken = b.taken; replaced = b.replaced; retired = a.retired })
room_taken e s m a b sized none g =
    let w = gains_grow e s m a b none g in
    let size : 2 ^ m.order ≡ 2 ^ s.order = ap (λ (n : ℕ). 2 ^ n) g.order in
    record { keeps = w.keeps; places = omega (arith, sized.places, g.sized.places, size); order = w.order; fill = g.fill; apart = w.apart; left = w.left; retired = refl }

-- ---- a set
module _ (l : Seen) (nodes : Space Node) (leaves : Space ℕ) (b : Seen) where
  pub set_back : IsSized l.nodes.space → IsSized nodes → IsSized l.leaves.space → IsSized leaves → GivesBack l.nodes.taken l.nodes.space nodes → GivesBack l.leaves.taken l.leaves.space leaves → IsReadyFrom b l → IsAsBefore b (at_its_cancel l nodes leaves)
  set_back ns ns2 ls ls2 gn gl r =
      let n = room_back blank b.nodes l.nodes nodes ns ns2 r.nodes gn in
      let m = room_back 0 b.leaves l.leaves leaves ls ls2 r.leaves gl in
      record { sizes = (r.sizes.0, r.sizes.1, n.order, m.order); words = r.words; time = r.time; nodes = n; leaves = m }
