-- The next event is made ready, or isn't.
use Rattle.std.proofs.Common.{◌≡◌, ℕ, suc, Bool, true, false, cond, Option, None, refl, sym, ap, ◌∙◌, arith, subst}
use Rattle.table_model.specs.declared.family.Family.{Family}
use Rattle.table_model.specs.Entries.{Entries}
use Rattle.poptrie_set.specs.declared.trie_set.Oldest.{Oldest}
use Rattle.poptrie_update.specs.Lives.{Living, Shows, is_pending, made_of}
use Rattle.poptrie_update.specs.Cursors.{Dues, FitsAll, IsFirst}
use Rattle.poptrie_update.proofs.Opened.{since_fits}
use Rattle.step_script.specs.Machine.{World, State, Begun, changes_family}
use Rattle.router_steps.specs.Paused.{FamilyLive, shown_after, stores_in, IsBegun, IsFamilyState}
use Rattle.router_steps.specs.Calls.{begun_with}
use Rattle.fib_router.specs.Lives.{Readies}

module _ (w : World) (f : Family) (s : State) (p : FamilyLive) (due : Dues) (h : IsFamilyState w f s p due) (none : s.begun ≡ None) where
  pub shown : Shows p.live (w.routes s.ended) (w.routes s.ended)
  shown = subst (λ (b : Option Begun). Shows p.live (w.routes s.ended) (w.routes (shown_after w f s.ended b))) none h.trie.shows

  fits_on : (first : Oldest) (r : Living) → IsFirst first p.cursors → Readies first p.live r → FitsAll r p.cursors due
  fits_on first r is k = since_fits first p.live r p.cursors due is (record { shape = k.shape; time = omega (arith, k.time); reads = k.fits }) h.fits

  pub begun_in : (first : Oldest) (r : Living) → changes_family f (w.changed s.ended) ≡ true → IsFirst first p.cursors → Readies first p.live r → is_pending r ≡ true → made_of r ≡ 0 → Shows r (w.routes s.ended) (w.routes (suc s.ended)) → IsFamilyState w f (begun_with (stores_in r.state r.selected) s) (record { live = r; cursors = p.cursors }) due
  begun_in first r own is k waits made sh = record {
    world = h.world;
    trie = record {
      family = k.shape.0 ∙ h.trie.family;
      direct = k.shape.1 ∙ h.trie.direct;
      few = h.trie.few;
      node_order = k.shape.2 ∙ h.trie.node_order;
      leaf_order = k.shape.3 ∙ h.trie.leaf_order;
      time = k.time ∙ h.trie.time;
      shows = subst (λ (n : ℕ). Shows r (w.routes s.ended) (w.routes n)) (sym own_next) sh;
      past = k.past _ _ h.trie.past;
      begun = ((λ o. record { pending = waits; stores = refl; made = sym made }), (λ o. let z = own in absurd (cc)));
    };
    fits = fits_on first r is k;
    same = h.same;
    started = h.started;
    many = h.many;
  }
    where
      own_next : cond (changes_family f (w.changed s.ended)) (suc s.ended) s.ended ≡ suc s.ended
      own_next = ap (λ (c : Bool). cond c (suc s.ended) s.ended) own

  -- all stays but for what was given back
  pub still_in : (first : Oldest) (r : Living) → IsFirst first p.cursors → Readies first p.live r → is_pending r ≡ false → ((L M : Entries) → Shows p.live L M → Shows r L M) → IsFamilyState w f s (record { live = r; cursors = p.cursors }) due
  still_in first r is k quiet sh = record {
    world = h.world;
    trie = record {
      family = k.shape.0 ∙ h.trie.family;
      direct = k.shape.1 ∙ h.trie.direct;
      few = h.trie.few;
      node_order = k.shape.2 ∙ h.trie.node_order;
      leaf_order = k.shape.3 ∙ h.trie.leaf_order;
      time = k.time ∙ h.trie.time;
      shows = sh _ _ h.trie.shows;
      past = k.past _ _ h.trie.past;
      begun = subst (λ (b : Option Begun). IsBegun w f s.ended r b) (sym none) quiet;
    };
    fits = fits_on first r is k;
    same = h.same;
    started = h.started;
    many = h.many;
  }
