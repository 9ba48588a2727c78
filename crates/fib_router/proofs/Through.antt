-- A family's live trie through an event.
use Rattle.std.proofs.Common.{◌≡◌, ℕ, suc, ◌+◌, ◌^◌, ◌<◌, ◌≤◌, List, [], ◌∷◌, Bool, true, false, cond, Some, None, refl, sym, ap, ◌∙◌, arith, subst}
use Rattle.std.specs.Prelude.{◌&&◌}
use Rattle.table_model.specs.Address.{Address, Prefix, same_family}
use Rattle.table_model.specs.declared.family.Family.{Family}
use Rattle.table_model.specs.Table.{Table, lpm}
use Rattle.table_model.specs.Entries.{Entries}
use Rattle.route_model.specs.Events.{Elem}
use Rattle.kept_model.specs.Feed.{entries_of, hops_after}
use Rattle.fib_addr.specs.Answers.{all_answers}
use Rattle.poptrie_set.specs.Prepares.{AgreeOutside, KeepsOutside}
use Rattle.poptrie_update.specs.Lives.{Living, Shows, HasShapeOf, is_pending, is_selecting}
use Rattle.poptrie_update.specs.Pendings.{IsTokenBy, IsTokenOf, IsSelectorOf}
use Rattle.poptrie_update.specs.declared.live.Other.{Other}
use Rattle.poptrie_update.specs.declared.live.Other.TheVariants as other
use Rattle.poptrie_update.specs.declared.pending.Pending.{Pending}
use Rattle.poptrie_update.specs.declared.pending.Stores as code_stores
use Rattle.poptrie_update.specs.declared.pending.Stores.TheVariants as stores
use Rattle.route_tries.specs.Parts.{AreAlikeOutside}
use Rattle.route_tries.specs.Sizes.{Sizes, sizes_as}
use Rattle.route_tries.specs.declared.sizes.Sizes as code_sizes
use Rattle.fib_engine.specs.Held.{EngineState, engine_routes}
use Rattle.fib_engine.specs.Stands.{TakesElem, routes_after}
use Rattle.fib_engine.specs.Tables.{only}
use Rattle.fib_engine.proofs.Holding.{of_only}
use Rattle.fib_router.specs.Lives.{IsFilledWith, IsLiveOf}
use Rattle.fib_router.proofs.Alike.{live_alike}

-- ---- the token
pending_by : (x : code_stores.Stores) (l : Living) → IsTokenBy x l → is_pending l ≡ true
pending_by (stores.Words w) l t = ap (λ (b : Bool). cond b true l.selected.pending) t.1 ∙ t.0.0
pending_by (stores.Selector stored) l t = ap (λ (b : Bool). cond b true l.selected.pending) (selecting l.state t)
  where
    selecting : (o : Other) → IsSelectorOf stored o → is_selecting o ≡ true
    selecting other.Free t = absurd t
    selecting (other.Retired end) t = absurd t
    selecting other.Built t = refl
    selecting other.Replaced t = refl

pub is_waiting : (p : Pending) (l : Living) → IsTokenOf p l → is_pending l ≡ true
is_waiting p l t = pending_by p.stores l t

no_selector : (l : Living) → is_pending l ≡ false → is_selecting l.state ≡ false
no_selector l q = by (is_selecting l.state) q
  where
    by : (b : Bool) → cond b true l.selected.pending ≡ false → b ≡ false
    by true e = absurd (cc)
    by false e = refl

-- ---- answers
pub answers_only : (f : Family) (E : Entries) → all_answers f (only f E) ≡ all_answers f E
answers_only f E = ap {B = List Bool → ℕ} (λ (T : Table) a. lpm T a 0) (of_only f E)

pub answers_known : (f : Family) (E M : Entries) → only f E ≡ only f M → all_answers f E ≡ all_answers f M
answers_known f E M e = sym (answers_only f E) ∙ (ap (all_answers f) e ∙ answers_only f M)

pub agree_outside : (p : Prefix) (L M : Entries) → AreAlikeOutside p L M → AgreeOutside p L M
agree_outside p L M o a is fam out = sym (o a out)

pub keeps_outside : (p : Prefix) (L M : Entries) (F : List Bool → ℕ) → F ≡ all_answers p.family M → AreAlikeOutside p L M → KeepsOutside p L F
keeps_outside p L M F e o a is out =
    ap (λ (g : List Bool → ℕ). g a) e ∙ sym (o (record { family = p.family; bits = a }) (ap (λ (b : Bool). same_family p.family p.family && b) out ∙ by (same_family p.family p.family)))
  where
    by : (b : Bool) → (b && false) ≡ false
    by true = refl
    by false = refl

-- where nothing is pending, a trie shows what has the same answers
same_shows : (f : Family) (l : Living) (L M E F : Entries) → l.selected.family ≡ f → is_pending l ≡ false → all_answers f L ≡ all_answers f E → all_answers f M ≡ all_answers f F → Shows l L M → Shows l E F
same_shows f l L M E F fam q d e sh =
    live_alike l.state l.selected l.other L M E F (no_selector l q) (subst (λ (g : Family). all_answers g L ≡ all_answers g E) (sym fam) d) (subst (λ (g : Family). all_answers g M ≡ all_answers g F) (sym fam) e) sh

-- once an event is taken the routes are those after it
pub routes_taken : (e : Elem) (old new : EngineState) → TakesElem e old new → engine_routes new ≡ routes_after e old
routes_taken e old new t = ap (λ (hs : List Address). entries_of hs new.candidates) t.hops ∙ ap (entries_of (hops_after old.hops (e ∷ []))) t.candidates

-- ---- before any event
pub filled_of : (f : Family) (z : code_sizes.Sizes) (held : EngineState) (L : Entries) (l : Living) → IsFilledWith f z L l → all_answers f L ≡ all_answers f (engine_routes held) → sizes_as z ≡ held.sizes → IsLiveOf f held None l
filled_of f z held L l i a e = record {
  family = i.family;
  direct = i.direct ∙ ap (λ (s : Sizes). s.direct) e;
  nodes = i.nodes ∙ ap (λ (s : Sizes). s.nodes) e;
  leaves = i.leaves ∙ ap (λ (s : Sizes). s.leaves) e;
  time = omega (arith, i.time);
  counted = λ x z. absurd (cc);
  shows = i.shows (engine_routes held) a;
  quiet = λ z. i.quiet;
  same = λ q. refl;
}

-- it isn't made ready, but for what is given back
pub still_of : (f : Family) (held : EngineState) (l r : Living) → HasShapeOf l r → r.selected.time ≡ l.selected.time → is_pending r ≡ false → Shows r (engine_routes held) (engine_routes held) → IsLiveOf f held None l → IsLiveOf f held None r
still_of f held l r s t q sh i = record {
  family = s.0 ∙ i.family;
  direct = s.1 ∙ i.direct;
  nodes = s.2 ∙ i.nodes;
  leaves = s.3 ∙ i.leaves;
  time = subst (λ (n : ℕ). n ≤ held.events) (sym t) i.time;
  counted = i.counted;
  shows = sh;
  quiet = λ z. q;
  same = λ q. refl;
}

-- ---- through one
module _ (f : Family) (held : EngineState) (e : Elem) where
  abbrev L : Entries
  L = engine_routes held

  abbrev M : Entries
  M = routes_after e held

  -- its update is made ready
  pub begun_of : (l r : Living) → held.events + 1 < 2 ^ 64 → HasShapeOf l r → r.selected.time ≡ l.selected.time → is_pending r ≡ true → Shows r L M → IsLiveOf f held None l → IsLiveOf f held (Some e) r
  begun_of l r few s t w sh i = record {
    family = s.0 ∙ i.family;
    direct = s.1 ∙ i.direct;
    nodes = s.2 ∙ i.nodes;
    leaves = s.3 ∙ i.leaves;
    time = subst (λ (n : ℕ). n ≤ held.events) (sym t) i.time;
    counted = λ x z. few;
    shows = sh;
    quiet = λ z. absurd (cc);
    same = λ q. absurd (cc);
  }

  -- the event is the other family's, or changes no chosen hop
  pub begun_elsewhere : (l : Living) → held.events + 1 < 2 ^ 64 → all_answers f L ≡ all_answers f M → IsLiveOf f held None l → IsLiveOf f held (Some e) l
  begun_elsewhere l few a i = record {
    family = i.family;
    direct = i.direct;
    nodes = i.nodes;
    leaves = i.leaves;
    time = i.time;
    counted = λ x z. few;
    shows = same_shows f l L L L M i.family (i.quiet refl) refl a i.shows;
    quiet = λ z. absurd (cc);
    same = λ q. a;
  }

  -- a store is made
  pub stored_of : (l r : Living) → HasShapeOf l r → r.selected.time ≡ l.selected.time → is_pending r ≡ true → Shows r L M → IsLiveOf f held (Some e) l → IsLiveOf f held (Some e) r
  stored_of l r s t w sh i = record {
    family = s.0 ∙ i.family;
    direct = s.1 ∙ i.direct;
    nodes = s.2 ∙ i.nodes;
    leaves = s.3 ∙ i.leaves;
    time = subst (λ (n : ℕ). n ≤ held.events) (sym t) i.time;
    counted = i.counted;
    shows = sh;
    quiet = λ z. absurd (cc);
    same = λ q. absurd (cc);
  }

  -- it is cancelled
  pub cancelled_of : (l r : Living) → HasShapeOf l r → r.selected.time ≡ l.selected.time → is_pending r ≡ false → Shows r L L → IsLiveOf f held (Some e) l → IsLiveOf f held None r
  cancelled_of l r s t q sh i = record {
    family = s.0 ∙ i.family;
    direct = s.1 ∙ i.direct;
    nodes = s.2 ∙ i.nodes;
    leaves = s.3 ∙ i.leaves;
    time = subst (λ (n : ℕ). n ≤ held.events) (sym t) i.time;
    counted = λ x z. absurd (cc);
    shows = sh;
    quiet = λ z. q;
    same = λ q. refl;
  }

  pub cancelled_elsewhere : (l : Living) → is_pending l ≡ false → IsLiveOf f held (Some e) l → IsLiveOf f held None l
  cancelled_elsewhere l q i = record {
    family = i.family;
    direct = i.direct;
    nodes = i.nodes;
    leaves = i.leaves;
    time = i.time;
    counted = λ x z. absurd (cc);
    shows = same_shows f l L M L L i.family q refl (sym (i.same q)) i.shows;
    quiet = λ z. q;
    same = λ q. refl;
  }

  -- it ends
  module _ (new : EngineState) (t : TakesElem e held new) where
    pub ended_of : (l r : Living) → HasShapeOf l r → r.selected.time ≡ suc l.selected.time → is_pending r ≡ false → Shows r M M → IsLiveOf f held (Some e) l → IsLiveOf f new None r
    ended_of l r s time q sh i = record {
      family = s.0 ∙ i.family;
      direct = s.1 ∙ (i.direct ∙ ap (λ (z : Sizes). z.direct) (sym t.sizes));
      nodes = s.2 ∙ (i.nodes ∙ ap (λ (z : Sizes). z.nodes) (sym t.sizes));
      leaves = s.3 ∙ (i.leaves ∙ ap (λ (z : Sizes). z.leaves) (sym t.sizes));
      time = omega (arith, time, i.time, t.events);
      counted = λ x z. absurd (cc);
      shows = subst (λ (E : Entries). Shows r E E) (sym (routes_taken e held new t)) sh;
      quiet = λ z. q;
      same = λ q. refl;
    }

    pub ended_elsewhere : (l : Living) → is_pending l ≡ false → IsLiveOf f held (Some e) l → IsLiveOf f new None l
    ended_elsewhere l q i = record {
      family = i.family;
      direct = i.direct ∙ ap (λ (z : Sizes). z.direct) (sym t.sizes);
      nodes = i.nodes ∙ ap (λ (z : Sizes). z.nodes) (sym t.sizes);
      leaves = i.leaves ∙ ap (λ (z : Sizes). z.leaves) (sym t.sizes);
      time = omega (arith, i.time, t.events);
      counted = λ x z. absurd (cc);
      shows = subst (λ (E : Entries). Shows l E E) (sym (routes_taken e held new t)) (same_shows f l L M M M i.family q (i.same q) refl i.shows);
      quiet = λ z. q;
      same = λ q. refl;
    }
