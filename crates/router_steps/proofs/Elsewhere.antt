-- Steps that concern the other family.
use Rattle.std.proofs.Common.{◌≡◌, ℕ, suc, ◌+◌, ◌≤◌, List, [], ◌∷◌, ◌++◌, Bool, true, false, cond, Option, Some, None, refl, sym, ap, ◌∙◌, arith, subst}
use Rattle.std.proofs.lemmas.List.{append-nil}
use Rattle.table_model.specs.declared.family.Family.{Family}
use Rattle.table_model.specs.Entries.{Entries}
use Rattle.fib_addr.specs.Answers.{all_answers}
use Rattle.poptrie_build.specs.Tries.{node_need, leaf_need}
use Rattle.poptrie_update.specs.Lives.{Living, Shows, Past, is_pending, is_selecting}
use Rattle.poptrie_update.specs.Cursors.{lookup_of}
use Rattle.step_script.specs.Machine.{World, State, Begun, Lookup, changes_family, changes_before}
use Rattle.router_steps.specs.Paused.{FamilyLive, IsWorld, is_own, shown_after, needs_before, AreSame, IsBegun, IsTrieAt, IsAt}
use Rattle.router_steps.specs.Calls.{IsElsewhere, ended_with}
use Rattle.fib_router.proofs.Alike.{live_alike}

module _ (w : World) (f : Family) (n : ℕ) (other : changes_family f (w.changed n) ≡ false) where
  pub not_own : (b : Option Begun) → is_own w f n b ≡ false
  not_own None = refl
  not_own (Some x) = other

  pub shown_now : (b : Option Begun) → shown_after w f n b ≡ n
  shown_now b = ap (λ (c : Bool). cond c (suc n) n) (not_own b)

  quiet : (l : Living) (b : Option Begun) → IsBegun w f n l b → is_pending l ≡ false
  quiet l None h = h
  quiet l (Some x) h = h.1 other

  still : (l : Living) (c : Option Begun) → is_pending l ≡ false → IsBegun w f n l c
  still l None q = q
  still l (Some x) q = ((λ e. absurd (cc)), (λ e. q))

  pub trie_elsewhere : (l : Living) (b c : Option Begun) → IsTrieAt w f n b l → IsTrieAt w f n c l
  trie_elsewhere l b c h = record {
    family = h.family;
    direct = h.direct;
    few = h.few;
    node_order = h.node_order;
    leaf_order = h.leaf_order;
    time = h.time;
    shows = subst (λ (m : ℕ). Shows l (w.routes n) (w.routes m)) (shown_now b ∙ sym (shown_now c)) h.shows;
    past = h.past;
    begun = still l c (quiet l b h.begun);
  }

  later : changes_before w f n ≡ changes_before w f (suc n)
  unfolding changes_before
  later = let z : changes_before w f n ≡ 0 + changes_before w f n = omega arith in z ∙ ap (λ (b : Bool). cond b 1 0 + changes_before w f n) (sym other)

  grown : (need : Entries → ℕ) → needs_before w f need n ≡ needs_before w f need (suc n)
  unfolding needs_before
  grown need = sym (append-nil (needs_before w f need n)) ∙ ap (λ (b : Bool). needs_before w f need n ++ cond b (need (w.routes n) ∷ []) []) (sym other)

  -- the event ends
  module _ (k : IsWorld w f) where
    idle : (l : Living) → is_pending l ≡ false → is_selecting l.state ≡ false
    idle l q = by (is_selecting l.state) refl
      where
        by : (i : Bool) → is_selecting l.state ≡ i → is_selecting l.state ≡ false
        by false e = e
        by true e = let z : is_pending l ≡ true = ap (λ (b : Bool). cond b true l.selected.pending) e in absurd (cc)

    as_before : (g : Family) → g ≡ f → all_answers g (w.routes n) ≡ all_answers g (w.routes (suc n))
    as_before g e = subst (λ (h : Family). all_answers h (w.routes n) ≡ all_answers h (w.routes (suc n))) (sym e) (sym (k.stays n other))

    pub trie_over : (l : Living) (b : Option Begun) → IsTrieAt w f n b l → IsTrieAt w f (suc n) None l
    trie_over l b h = record {
      family = h.family;
      direct = h.direct;
      few = h.few;
      node_order = h.node_order;
      leaf_order = h.leaf_order;
      time = h.time ∙ later;
      shows = live_alike l.state l.selected l.other (w.routes n) (w.routes n) (w.routes (suc n)) (w.routes (suc n)) (idle l (quiet l b h.begun)) (as_before l.selected.family h.family) (as_before l.selected.family h.family) (subst (λ (m : ℕ). Shows l (w.routes n) (w.routes m)) (shown_now b) h.shows);
      past = subst (λ (ns : List ℕ). Past l ns (needs_before w f (leaf_need f w.direct) (suc n))) (grown (node_need f w.direct)) (subst (λ (ls : List ℕ). Past l (needs_before w f (node_need f w.direct) n) ls) (grown (leaf_need f w.direct)) h.past);
      begun = quiet l b h.begun;
    }

pub over_at : (w : World) (f : Family) (s : State) (p : FamilyLive) → changes_family f (w.changed s.ended) ≡ false → IsAt w f s p → IsAt w f (ended_with s) p
over_at w f s p other at = (
  at.0,
  record {
    world = at.1.world;
    trie = trie_over w f s.ended other at.1.world p.live s.begun at.1.trie;
    fits = at.1.fits;
    same = at.1.same;
    started = λ n k e. omega (arith, at.1.started n k e);
    many = at.1.many;
  },
)

-- with the same number of events
elsewhere_in : (w : World) (f : Family) (n : ℕ) (b c : Option Begun) (l : Living) → (changes_family f (w.changed n) ≡ true → c ≡ b) → IsTrieAt w f n b l → IsTrieAt w f n c l
elsewhere_in w f n b c l same h = by (changes_family f (w.changed n)) refl
  where
    by : (i : Bool) → changes_family f (w.changed n) ≡ i → IsTrieAt w f n c l
    by true e = subst (λ (x : Option Begun). IsTrieAt w f n x l) (sym (same e)) h
    by false e = trie_elsewhere w f n e l b c h

pub elsewhere_at : (w : World) (f : Family) (s t : State) (p : FamilyLive) → IsElsewhere w f s t → IsAt w f s p → IsAt w f t p
elsewhere_at w f s t p e at = (
  at.0,
  record {
    world = at.1.world;
    trie = trie;
    fits = at.1.fits;
    same = λ n. subst (λ (x : Option Lookup). AreSame w f x (lookup_of p.cursors n) (at.0 n)) (sym (e.lookups n)) (at.1.same n);
    started = λ n k q. let h = at.1.started n k (sym (e.lookups n) ∙ q) in subst (λ (m : ℕ). k.since ≤ m) (sym e.ended) h;
    many = at.1.many;
  },
)
  where
    trie : IsTrieAt w f t.ended t.begun p.live
    trie = subst (λ (m : ℕ). IsTrieAt w f m t.begun p.live) (sym e.ended) (elsewhere_in w f s.ended s.begun t.begun p.live e.begun at.1.trie)
