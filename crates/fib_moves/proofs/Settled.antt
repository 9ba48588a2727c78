-- Regions that are right as they are.
use Rattle.std.proofs.Common.{◌≡◌, ◌≢◌, ℕ, zero, suc, List, [], ◌∷◌, ◌++◌, Bool, true, false, ◌&&◌, ◌||◌, cond, Option, Some, None, length, map, nat_eq, is_some, refl, sym, ap, subst, ◌∙◌, arith, length-append, inl, inr}
use Rattle.std.specs.Option.{option_to_list}
use Rattle.std.proofs.lemmas.Bool.{eq-eqb, eqb-true}
use Rattle.std.proofs.lemmas.List.{append-nil}
use Rattle.table_model.specs.Address.{Prefix}
use Rattle.table_model.specs.Table.{Table, IsTable, root, half, here, inherit}
use Rattle.table_model.specs.Regions.{entry_at}
use Rattle.table_model.specs.Sets.{side}
use Rattle.table_model.proofs.Same.{cut_nil}
use Rattle.kept_model.specs.Parts.{ArePart}
use Rattle.fib_addr.specs.Views.{entry_as}
use Rattle.orig_tree.specs.Spots.{Spot, spot_answers}
use Rattle.orig_tree.specs.Walk.{behind}
use Rattle.orig_tree.proofs.Telling as telling
use Rattle.ortc.proofs.Alike.{half_answers}
use Rattle.moves_model.specs.Sets.{any, these, is_allowed, near_set, near_of}
use Rattle.moves_model.specs.Nearest.{AnswersAs}
use Rattle.moves_model.proofs.Keeps.{set_gives, stays}
use Rattle.moves_model.specs.Way.{fills, allowed_beside, FilledGive}
use Rattle.moves_model.proofs.Aside.{near_aside, aside_bare, aside_comes, aside_below}
use Rattle.moves_model.proofs.Within.{filled_half, filled_here}
use Rattle.fib_moves.specs.Views.{SameAllowed}
use Rattle.fib_moves.specs.declared.place.Place.{Place}
use Rattle.fib_moves.specs.declared.down.Differing.{Differing}
use Rattle.fib_moves.specs.Passes.{ListsDiffering}
use Rattle.fib_moves.proofs.Passing.{here_table}
use Rattle.fib_moves.specs.Found.{HalvesGive, settled_entry}

-- ---- which are

-- a route of its own fills a region
route_fills : (d : ℕ) (R : Table) → is_some (root R) ≡ true → fills d R ≡ true
unfolding fills
route_fills zero R e = e
route_fills (suc d) R e = ap (λ b. b || (fills d (half false R) && fills d (half true R))) e

pub settled_gives : (d : ℕ) (f : List Bool → ℕ) (R T : Table) (h : ℕ) (b : Bool) → FilledGive d f R T h → b ≡ is_some (root R) → b ≡ true → AnswersAs d f T h
settled_gives d f R T h b g e t = filled_here d f R T h g (route_fills d R (sym e ∙ t))

filled_alike : (d : ℕ) (f g : List Bool → ℕ) (R T : Table) (h : ℕ) → ((a : List Bool) → length a ≡ d → f a ≡ g a) → FilledGive d f R T h → FilledGive d g R T h
filled_alike d f g R T h e x q l c a m = x q l c a m ∙ e (q ++ a) (omega (arith, l, m, length-append q a))

-- from equal parts
filled_same : (d : ℕ) (f g : List Bool → ℕ) (R S T U : Table) (h k : ℕ) → ((a : List Bool) → length a ≡ d → f a ≡ g a) → R ≡ S → T ≡ U → h ≡ k → FilledGive d f R T h → FilledGive d g S U k
filled_same d f g R S T U h k e r t z x =
    filled_alike d f g S U k e
    (subst (λ (y : ℕ). FilledGive d f S U y) z (subst (λ (L : Table). FilledGive d f S L h) t (subst (λ (L : Table). FilledGive d f L T h) r x)))

pub halves_give : (p : Place) (h : ℕ) → FilledGive p.region.bits (spot_answers p.region) (behind p.node).routes p.region.entries h → HalvesGive p h
halves_give p h g b d e =
    filled_half b d (spot_answers p.region) (behind p.node).routes p.region.entries h
    (subst (λ (n : ℕ). FilledGive n (spot_answers p.region) (behind p.node).routes p.region.entries h) (sym e) g)

-- of a half
pub half_gives : (p q : Place) (b : Bool) (h k : ℕ) (o : Option ℕ) → HalvesGive p h → suc q.region.bits ≡ p.region.bits → q.region.routes ≡ half b p.region.routes → q.region.entries ≡ half b p.region.entries
    → q.region.hop ≡ inherit (root p.region.routes) p.region.hop → (behind q.node).routes ≡ half b (behind p.node).routes → k ≡ inherit o h → o ≡ root p.region.entries
    → FilledGive q.region.bits (spot_answers q.region) (behind q.node).routes q.region.entries k
half_gives p q b h k o g n r l hop m e f =
    filled_same q.region.bits (side b (spot_answers p.region)) (spot_answers q.region) _ (behind q.node).routes _ q.region.entries _ k
    (λ a u. sym (half_answers p.region q.region b r hop a)) (sym m) (sym l) (sym (e ∙ ap (λ z. inherit z h) f)) (g b q.region.bits n)

-- of the event's prefix
pub event_gives : (p : Place) (h k : ℕ) (f : List Bool → ℕ) (S T : Table) → ((b : Bool) (d : ℕ) → suc d ≡ p.region.bits → FilledGive d (side b f) (half b S) (half b T) (inherit (root T) k))
    → ((a : List Bool) → spot_answers p.region a ≡ f a) → (behind p.node).routes ≡ S → p.region.entries ≡ T → h ≡ k → HalvesGive p h
event_gives p h k f S T g a r l e b d n =
    filled_same d (side b f) (side b (spot_answers p.region)) (half b S) (half b (behind p.node).routes) (half b T) (half b p.region.entries) (inherit (root T) k) (inherit (root p.region.entries) h)
    (λ x u. sym (a (b ∷ x))) (ap (half b) (sym r)) (ap (half b) (sym l)) (ap (λ L. inherit (root L) k) (sym l) ∙ ap (inherit (root p.region.entries)) (sym e)) (g b d n)

-- ---- the hops that they may inherit

pub settled_any : (d : ℕ) (f : List Bool → ℕ) (T : Table) (h : ℕ) (b : Bool) → AnswersAs d f T h → b ≡ fills d T → b ≡ true → SameAllowed any (near_set d f T)
settled_any d f T h b g e t = subst (SameAllowed any) (sym (near_aside d f T h g ∙ ap (λ (x : Bool). cond x any (these (h ∷ []))) (sym e ∙ t))) tt

pub settled_these : (d : ℕ) (f : List Bool → ℕ) (T : Table) (h : ℕ) (b : Bool) (S : List ℕ) → AnswersAs d f T h → b ≡ fills d T → b ≡ false → S ≡ h ∷ [] → SameAllowed (these S) (near_set d f T)
settled_these d f T h b S g e t s =
    subst (SameAllowed (these S)) (sym (near_aside d f T h g ∙ (ap (λ (x : Bool). cond x any (these (h ∷ []))) (sym e ∙ t) ∙ ap these (sym s)))) (λ x. refl)

-- ---- the entry that they get

abbrev entry_if : Bool → ℕ → Option ℕ
entry_if b h = cond b None (Some h)

pub settled_same : (d : ℕ) (T : Table) (h g : ℕ) → h ≡ g → None ≡ settled_entry d T h g
settled_same d T h g e = by_fills (fills d T)
  where
    by_fills : (b : Bool) → None ≡ cond (is_allowed g (cond b any (these (h ∷ [])))) None (Some h)
    by_fills true = refl
    by_fills false = sym (ap (λ (x : Bool). cond (x || false) None (Some h)) (eq-eqb h g e))

pub settled_filled : (d : ℕ) (T : Table) (h g : ℕ) (b : Bool) → b ≡ fills d T → b ≡ true → None ≡ settled_entry d T h g
settled_filled d T h g b e t = ap (λ (x : Bool). cond (is_allowed g (cond x any (these (h ∷ [])))) None (Some h)) (sym t ∙ e)

pub settled_new : (d : ℕ) (T : Table) (h g : ℕ) (b : Bool) → h ≢ g → b ≡ fills d T → b ≡ false → Some h ≡ settled_entry d T h g
settled_new d T h g b n e t =
    sym (ap (λ (x : Bool). cond (is_allowed g (cond x any (these (h ∷ [])))) None (Some h)) (sym e ∙ t)
    ∙ by_test (nat_eq h g) refl)
  where
    by_test : (x : Bool) → nat_eq h g ≡ x → cond (nat_eq h g || false) None (Some h) ≡ Some h
    by_test true y = absurd (n (eqb-true h g y))
    by_test false y = ap (λ (z : Bool). cond (z || false) None (Some h)) y

nowhere : (q : List Bool) → entry_at q [] ≡ None
nowhere q = ap root (cut_nil q)

module _ (s : Spot) (h g : ℕ) (t : IsTable s.bits s.entries) (x : AnswersAs s.bits (spot_answers s) s.entries h) where
  settled_part : (b : Bool) → is_allowed g (allowed_beside s.bits s.entries h) ≡ b → ArePart s.entries (near_of s.bits (spot_answers s) s.entries g) [] (here (entry_if b h))
  settled_part true e q = inr (nowhere q, nowhere q, sym (stays s.bits (spot_answers s) s.entries g t (set_gives s.bits (spot_answers s) s.entries g h x (ap (is_allowed g) (near_aside s.bits (spot_answers s) s.entries h x) ∙ e)) q))
  settled_part false e [] = inl (sym (aside_bare s.bits (spot_answers s) s.entries g h x e), sym (aside_comes s.bits (spot_answers s) s.entries g h x e))
  settled_part false e (true ∷ q) = inr (nowhere q, nowhere q, sym (aside_below s.bits (spot_answers s) s.entries g h t x e true q))
  settled_part false e (false ∷ q) = inr (nowhere q, nowhere q, sym (aside_below s.bits (spot_answers s) s.entries g h t x e false q))

  pub settled_listed : (p : Prefix) (o : Option ℕ) (before after : Differing) → o ≡ settled_entry s.bits s.entries h g → map entry_as after.had.items ≡ map entry_as before.had.items
      → map entry_as after.gets.items ≡ map entry_as before.gets.items ++ map (λ k. (p, k)) (option_to_list o) → ListsDiffering p s g before after
  settled_listed p o before after e y z = record {
    had = [];
    gets = here o;
    old = y ∙ sym (append-nil (map entry_as before.had.items));
    new = z ∙ ap (λ L. map entry_as before.gets.items ++ L) (telling.told_own p o);
    had_table = (tt, tt);
    gets_table = here_table s.bits o;
    part = subst (λ (u : Option ℕ). ArePart s.entries (near_of s.bits (spot_answers s) s.entries g) [] (here u)) (sym e) (settled_part (is_allowed g (allowed_beside s.bits s.entries h)) refl);
  }
