-- A look-up that holds what the next event would need.
use Rattle.std.proofs.Common.{◌≡◌, ℕ, zero, suc, ◌+◌, ◌-◌, ◌*◌, ◌^◌, ◌<◌, ◌≤◌, List, drop, true, false, Some, None, refl, sym, ap, ◌∙◌, arith, subst, inl, inr}
use Rattle.std.specs.Prelude.{◌⊎◌}
use Rattle.table_model.specs.declared.family.Family.{Family}
use Rattle.table_model.specs.Entries.{Entries}
use Rattle.buddy_arena.specs.Space.{Space}
use Rattle.buddy_arena.specs.declared.arena.Full.{Full}
use Rattle.poptrie_build.specs.Tries.{node_need, leaf_need}
use Rattle.poptrie_build.specs.declared.node.Node.{Node}
use Rattle.path_copying.specs.Asks.{RunsOut}
use Rattle.path_copying.specs.declared.blocks.Refusal.TheVariants as refusal
use Rattle.poptrie_set.specs.Lives.{Seen, ShowsIn}
use Rattle.poptrie_set.specs.Past.{PastIn}
use Rattle.poptrie_set.specs.Prepares.{asks_of, GaveBack}
use Rattle.poptrie_set.specs.declared.trie_set.Oldest.{Oldest}
use Rattle.poptrie_set.specs.declared.trie_set.Oldest.TheVariants as oldest
use Rattle.poptrie_update.specs.Lives.{Living, Shows, ShowsBy}
use Rattle.poptrie_update.specs.Prepares.{IsRetiredAfter, RunsShort, refusal_in, IsPinned}
use Rattle.poptrie_update.specs.declared.live.Other.{Other}
use Rattle.poptrie_update.specs.declared.live.Other.TheVariants as other
use Rattle.poptrie_update.specs.Cursors.{Dues, IsFirst}
use Rattle.poptrie_set.specs.Crowds.{IsStill, sum}
use Rattle.step_script.specs.Machine.{World, State, Lookup, changes_family, changes_before, IsCrowded, MayPin}
use Rattle.router_steps.specs.Paused.{FamilyLive, needs_before, IsSameLookup, IsFamilyState}
use Rattle.fib_router.proofs.Alike.{node_need_alike, leaf_need_alike}
use Rattle.router_steps.proofs.Needs.{needs_since}
use Rattle.router_steps.proofs.Opened.{some_both, both_some}

after_start : (since time : ℕ) (o : Other) → IsRetiredAfter since o → ((end : ℕ) → o ≡ other.Retired end → end ≤ time) → since < time
after_start since time other.Free r h = absurd r
after_start since time (other.Retired end) r h = omega (arith, r, h end refl)
after_start since time other.Built r h = absurd r
after_start since time other.Replaced r h = absurd r

shown_in : (since : ℕ) (o : Other) (s t : Seen) (L M : Entries) → IsRetiredAfter since o → ShowsBy o s t L M → ShowsIn s L M
shown_in since other.Free s t L M r sh = absurd r
shown_in since (other.Retired end) s t L M r sh = sh
shown_in since other.Built s t L M r sh = absurd r
shown_in since other.Replaced s t L M r sh = absurd r

pub node_need_of : (l : Living) (f : Family) (d : ℕ) (L : Entries) → l.selected.family ≡ f → l.selected.direct_bits ≡ d → node_need l.selected.family l.selected.direct_bits L ≡ node_need f d L
node_need_of l f d L e q = ap (λ (g : Family). node_need g l.selected.direct_bits L) e ∙ ap (λ (s : ℕ). node_need f s L) q

pub leaf_need_of : (l : Living) (f : Family) (d : ℕ) (L : Entries) → l.selected.family ≡ f → l.selected.direct_bits ≡ d → leaf_need l.selected.family l.selected.direct_bits L ≡ leaf_need f d L
leaf_need_of l f d L e q = ap (λ (g : Family). leaf_need g l.selected.direct_bits L) e ∙ ap (λ (s : ℕ). leaf_need f s L) q

-- the sums of needs since a look-up's start
crowded_since : (w : World) (f : Family) (need : Entries → ℕ) (order from now since : ℕ) (old new : ℕ) → ((n : ℕ) → changes_family f (w.changed n) ≡ false → need (w.routes (suc n)) ≡ need (w.routes n)) → from ≤ now → since ≡ changes_before w f from → old ≡ need (w.routes now) → new ≡ need (w.routes (suc now)) → 2 ^ order ≤ 64 * (sum (drop since (needs_before w f need now)) + old + new) → IsCrowded w f need order from now
crowded_since w f need order from now since old new stays h e o n c =
    let gap : from + (now - from) ≡ now = omega (arith, h) in
    let q : sum (drop since (needs_before w f need now)) ≡ sum (drop (changes_before w f from) (needs_before w f need now)) = ap (λ (k : ℕ). sum (drop k (needs_before w f need now))) e in
    (now - from, gap, omega (arith, c, q, o, n, needs_since w f need stays from (now - from) now gap))

module _ (w : World) (f : Family) (s : State) (p : FamilyLive) (due : Dues) (h : IsFamilyState w f s p due) (own : changes_family f (w.changed s.ended) ≡ true) (quiet : s.begun ≡ None) (first : Oldest) (is : IsFirst first p.cursors) (still : IsStill p.live.selected) (over : (end : ℕ) → p.live.state ≡ other.Retired end → end ≤ p.live.selected.time) (shown : Shows p.live (w.routes s.ended) (w.routes s.ended))
    (nodes_crowded : (s : Seen) (L M : Entries) (ns ls : List ℕ) (since : ℕ) (nodes : Space Node) (leaves : Space ℕ) (e : Full) → IsStill s → ShowsIn s L L → PastIn s ns ls → GaveBack since s nodes leaves → RunsOut nodes.order leaves.order (asks_of s.family s.direct_bits L M) (nodes.free, leaves.free) (refusal.Nodes e) → 2 ^ s.nodes.space.order ≤ 64 * (sum (drop since ns) + node_need s.family s.direct_bits L + node_need s.family s.direct_bits M))
    (leaves_crowded : (s : Seen) (L M : Entries) (ns ls : List ℕ) (since : ℕ) (nodes : Space Node) (leaves : Space ℕ) (e : Full) → IsStill s → ShowsIn s L L → PastIn s ns ls → GaveBack since s nodes leaves → RunsOut nodes.order leaves.order (asks_of s.family s.direct_bits L M) (nodes.free, leaves.free) (refusal.Leaves e) → 2 ^ s.leaves.space.order ≤ 64 * (sum (drop since ls) + leaf_need s.family s.direct_bits L + leaf_need s.family s.direct_bits M)) where
  node_stays : (n : ℕ) → changes_family f (w.changed n) ≡ false → node_need f w.direct (w.routes (suc n)) ≡ node_need f w.direct (w.routes n)
  node_stays n e = node_need_alike f w.direct (w.routes (suc n)) (w.routes n) (h.world.stays n e)

  leaf_stays : (n : ℕ) → changes_family f (w.changed n) ≡ false → leaf_need f w.direct (w.routes (suc n)) ≡ leaf_need f w.direct (w.routes n)
  leaf_stays n e = leaf_need_alike f w.direct (w.routes (suc n)) (w.routes n) (h.world.stays n e)

  node_need_is : (E : Entries) → node_need p.live.selected.family p.live.selected.direct_bits E ≡ node_need f w.direct E
  node_need_is E = node_need_of p.live f w.direct E h.trie.family h.trie.direct

  leaf_need_is : (E : Entries) → leaf_need p.live.selected.family p.live.selected.direct_bits E ≡ leaf_need f w.direct E
  leaf_need_is E = leaf_need_of p.live f w.direct E h.trie.family h.trie.direct

  -- the arena that a block is refused in is crowded
  one_crowded : (k : Lookup) (since arena : ℕ) (e : Full) (nodes : Space Node) (leaves : Space ℕ) → k.since ≤ s.ended → since ≡ changes_before w f k.since → IsRetiredAfter since p.live.state → arena ≤ 1 → GaveBack since p.live.selected nodes leaves → RunsOut nodes.order leaves.order (asks_of p.live.selected.family p.live.selected.direct_bits (w.routes s.ended) (w.routes (suc s.ended))) (nodes.free, leaves.free) (refusal_in arena e) → IsCrowded w f (node_need f w.direct) w.nodes k.since s.ended ⊎ IsCrowded w f (leaf_need f w.direct) w.leaves k.since s.ended
  one_crowded k since zero e nodes leaves began q retired few gave out =
      inl (subst (λ (o : ℕ). IsCrowded w f (node_need f w.direct) o k.since s.ended) h.trie.node_order
      (crowded_since w f (node_need f w.direct) p.live.selected.nodes.space.order k.since s.ended since _ _ node_stays began q (node_need_is (w.routes s.ended)) (node_need_is (w.routes (suc s.ended)))
      (nodes_crowded p.live.selected (w.routes s.ended) (w.routes (suc s.ended)) _ _ since nodes leaves e still (shown_in since p.live.state p.live.selected p.live.other (w.routes s.ended) (w.routes s.ended) retired shown) h.trie.past gave out)))
  one_crowded k since (suc arena) e nodes leaves began q retired few gave out =
      inr (subst (λ (o : ℕ). IsCrowded w f (leaf_need f w.direct) o k.since s.ended) h.trie.leaf_order
      (crowded_since w f (leaf_need f w.direct) p.live.selected.leaves.space.order k.since s.ended since _ _ leaf_stays began q (leaf_need_is (w.routes s.ended)) (leaf_need_is (w.routes (suc s.ended)))
      (leaves_crowded p.live.selected (w.routes s.ended) (w.routes (suc s.ended)) _ _ since nodes leaves e still (shown_in since p.live.state p.live.selected p.live.other (w.routes s.ended) (w.routes s.ended) retired shown) h.trie.past gave out)))

  pub pinned_in : (need cursor arena : ℕ) (e : Full) → IsPinned first p.live (w.routes s.ended) (w.routes (suc s.ended)) need cursor arena e → (k : Lookup) × MayPin w s f cursor k
  pinned_in need cursor arena e pin = (
    k,
    record {
      held = both.1;
      family = own;
      oldest = λ m j q.
          let b = both_some w f _ _ _ j (h.same m) q in
          omega (arith, began.1 m b.0 b.1, b.2.since, at);
      first = λ m j q t.
          let b = both_some w f _ _ _ j (h.same m) q in
          began.2 m b.0 b.1 (b.2.since ∙ (t ∙ sym at));
      since = omega (arith, after_start since p.live.selected.time p.live.state pin.2 over, at, h.trie.time);
      fits = (omega (arith, short.nodes_fit, node_need_is (w.routes (suc s.ended)), node_places), omega (arith, short.leaves_fit, leaf_need_is (w.routes (suc s.ended)), leaf_places));
      crowded = one_crowded k since arena e pin.5.0 pin.5.1 (h.started cursor k both.1) at pin.2 pin.3 pin.5.2 short.refused;
    },
  )
    where
      since : ℕ
      since = pin.0

      began : IsFirst (oldest.Started cursor since) p.cursors
      began = subst (λ (o : Oldest). IsFirst o p.cursors) pin.1 is

      both : (k : Lookup) × (s.lookups f cursor ≡ Some k) × IsSameLookup w f k began.0.0 (due cursor)
      both = some_both w f _ _ _ began.0.0 (h.same cursor) began.0.1

      k : Lookup
      k = both.0

      at : since ≡ changes_before w f k.since
      at = sym began.0.2 ∙ both.2.since

      short : RunsShort p.live.selected (w.routes s.ended) (w.routes (suc s.ended)) pin.5.0 pin.5.1 (refusal_in arena e)
      short = pin.5.3

      node_places : 2 ^ pin.5.0.order ≡ 2 ^ w.nodes
      node_places = ap (λ (o : ℕ). 2 ^ o) (pin.5.2.nodes.order ∙ h.trie.node_order)

      leaf_places : 2 ^ pin.5.1.order ≡ 2 ^ w.leaves
      leaf_places = ap (λ (o : ℕ). 2 ^ o) (pin.5.2.leaves.order ∙ h.trie.leaf_order)
