-- What is known while a plan's prefix is held.
use Rattle.std.proofs.Common.{◌≡◌, ◌⊎◌, ℕ, List, [], ◌∷◌, Bool, true, false, Option, Some, None, refl, sym, ap, subst, ◌∙◌, inl, inr}
use Rattle.std.specs.Prelude.{option_map}
use Rattle.std.specs.Option.{ForSome}
use Rattle.table_model.specs.Bits.{same_bits}
use Rattle.table_model.specs.Address.{Prefix}
use Rattle.table_model.specs.Width.{width}
use Rattle.table_model.specs.declared.family.Family.{Family}
use Rattle.table_model.specs.Table.{Table, half}
use Rattle.table_model.specs.Entries.{Entries, of_family}
use Rattle.table_model.specs.Regions.{entry_at}
use Rattle.table_model.specs.Sets.{answers}
use Rattle.table_model.proofs.SamePrefix.{same_bits_are, same_bits_itself}
use Rattle.kept_model.specs.Patched.{after_snapshot}
use Rattle.kept_model.specs.Stays.{Settled, is_wide_mark, HasMarks, IsMarked, GetsMark}
use Rattle.kept_model.proofs.Settling.{settled_more, settled_after, settled_mended}
use Rattle.fib_addr.specs.Views.{prefix_as}
use Rattle.fib_addr.specs.declared.prefix.Prefix as code_prefix
use Rattle.fib_addr.specs.declared.entry.Hop as code_hop
use Rattle.orig_tree.specs.Views.{Labels, InPlace}
use Rattle.smalta_keep.specs.KnownBelow.{IsSettled, IsKnown}
use Rattle.smalta_keep.specs.Known.{IsOfFamily, IsTouchedAt, IsEased, AreWide, AreNoted, AreLeftHeld, KnownAt, IsKnownHeld, StaysAt, SameBeside, held_place}
use Rattle.smalta_keep.specs.Views.{with_planned, place_in}
use Rattle.smalta_keep.proofs.Knowing.{beside_planned, known_after, known_made, known_planned, known_wide, more_at, more_both, touched_both}

abbrev Route : Type 0
Route = Option (code_prefix.Prefix × code_hop.Hop)

-- ---- a table of marks with one more

same_or : (p r : List Bool) → (r ≡ p) ⊎ (r ≡ p → ⊥)
same_or p r = by_test (same_bits r p) refl
  where
    by_test : (b : Bool) → same_bits r p ≡ b → (r ≡ p) ⊎ (r ≡ p → ⊥)
    by_test true e = inl (same_bits_are r p e)
    by_test false e = inr (λ i. let z : true ≡ false = sym (ap (λ q. same_bits q p) i ∙ same_bits_itself p) ∙ e in absurd cc)

some_none : (h : ℕ) → Some h ≡ None → ⊥
some_none h e = cc

-- p has a wide mark before all others
abbrev first_marked : List Bool → Table → Table
first_marked p T = record { prefix = p; hop = 1 } ∷ T

first_here : (p : List Bool) (T : Table) → entry_at p (first_marked p T) ≡ Some 1
first_here [] T = refl
first_here (true ∷ p) T = first_here p (half true T)
first_here (false ∷ p) T = first_here p (half false T)

first_else : (p r : List Bool) (T : Table) → (r ≡ p → ⊥) → entry_at r (first_marked p T) ≡ entry_at r T
first_else [] [] T n = absurd (n refl)
first_else [] (true ∷ r) T n = refl
first_else [] (false ∷ r) T n = refl
first_else (true ∷ p) [] T n = refl
first_else (false ∷ p) [] T n = refl
first_else (true ∷ p) (true ∷ r) T n = first_else p r (half true T) (λ e. n (ap (λ q. true ∷ q) e))
first_else (true ∷ p) (false ∷ r) T n = refl
first_else (false ∷ p) (true ∷ r) T n = refl
first_else (false ∷ p) (false ∷ r) T n = first_else p r (half false T) (λ e. n (ap (λ q. false ∷ q) e))

first_marks : (p : List Bool) (T : Table) → IsMarked p T (first_marked p T)
first_marks p T = record {
  kept = record { there = λ r e. there r (same_or p r) e; wide = λ r e. wide r (same_or p r) e };
  marked = ap is_wide_mark (first_here p T);
}
  where
    is_here : (r : List Bool) → r ≡ p → entry_at r (first_marked p T) ≡ Some 1
    is_here r i = ap (λ q. entry_at q (first_marked p T)) i ∙ first_here p T

    there : (r : List Bool) → (r ≡ p) ⊎ (r ≡ p → ⊥) → entry_at r (first_marked p T) ≡ None → entry_at r T ≡ None
    there r (inl i) e = absurd (some_none 1 (sym (is_here r i) ∙ e))
    there r (inr n) e = sym (first_else p r T n) ∙ e

    wide : (r : List Bool) → (r ≡ p) ⊎ (r ≡ p → ⊥) → is_wide_mark (entry_at r (first_marked p T)) ≡ false → is_wide_mark (entry_at r T) ≡ false
    wide r (inl i) e = let z : true ≡ false = sym (ap is_wide_mark (is_here r i)) ∙ e in absurd cc
    wide r (inr n) e = ap is_wide_mark (sym (first_else p r T n)) ∙ e

-- p counted as marked in any way, and is marked wide then
held_marks : (p : List Bool) (M N O : Table) → GetsMark p M N → IsMarked p N O → HasMarks M O
held_marks p M N O g y = record { there = λ r e. there r (same_or p r) e; wide = λ r e. wide r (same_or p r) e }
  where
    is_wide : (r : List Bool) → r ≡ p → is_wide_mark (entry_at r O) ≡ true
    is_wide r i = ap (λ q. is_wide_mark (entry_at q O)) i ∙ y.marked

    there : (r : List Bool) → (r ≡ p) ⊎ (r ≡ p → ⊥) → entry_at r O ≡ None → entry_at r M ≡ None
    there r (inl i) e = let z : true ≡ false = sym (is_wide r i) ∙ ap is_wide_mark e in absurd cc
    there r (inr n) e = sym (g.others r n) ∙ y.kept.there r e

    wide : (r : List Bool) → (r ≡ p) ⊎ (r ≡ p → ⊥) → is_wide_mark (entry_at r O) ≡ false → is_wide_mark (entry_at r M) ≡ false
    wide r (inl i) e = let z : true ≡ false = sym (is_wide r i) ∙ e in absurd cc
    wide r (inr n) e = ap is_wide_mark (sym (g.others r n)) ∙ y.kept.wide r e

-- ---- a plan's prefix is held

same_entries : (f : Family) (E F : Entries) (q : List Bool) → F ≡ E → entry_at q (of_family f E) ≡ entry_at q (of_family f F)
same_entries f E F q e = ap (λ (X : Entries). entry_at q (of_family f X)) (sym e)

held_made : (p : Prefix) (k l : Labels) (t u : Option Labels) → p.family ≡ k.family → IsEased p t u → IsKnown k t → l.family ≡ k.family → SameBeside (Some p) k.family k.routes l.routes → l.entries ≡ k.entries → IsKnownHeld (Some p) l u
held_made p k l t None i a x f r e = tt
held_made p k l None (Some n) i a x f r e = absurd a
held_made p k l (Some m) (Some n) i a x f r e =
    let g = k.family in
    let T = of_family g m.entries in
    let M = first_marked p.bits T in
    let s : Settled (width g) (answers (of_family g l.routes) []) (of_family g l.entries) 0 M =
    settled_after (width g) p.bits (of_family g k.routes) (of_family g l.routes) (of_family g k.entries) (of_family g l.entries) T M 0 r (λ q n. same_entries g k.entries l.entries q e) (first_marks p.bits T) x.1
    in
    let y : GetsMark p.bits T (of_family g n.entries) = subst (λ (z : Family). GetsMark p.bits (of_family z m.entries) (of_family z n.entries)) x.0 a.1 in
    let z : GetsMark p.bits M (of_family g n.entries) = record { marked = y.marked; others = λ q j. y.others q j ∙ sym (first_else p.bits q T j) } in (
      a.0 ∙ (x.0 ∙ sym f),
      i ∙ sym f,
      M,
      subst (λ (h : Family). GetsMark p.bits M (of_family h n.entries)) (sym f) z,
      subst (λ (h : Family). Settled (width h) (answers (of_family h l.routes) []) (of_family h l.entries) 0 M) (sym f) s,
    )

pub known_noted : (due fewest : Bool) (route : Route) (k l : Labels) (t u : Option Labels) → InPlace k.routes → ForSome route (λ r. r.0.family ≡ k.family) → AreNoted due fewest (place_in route) t u → IsKnown k t → l.family ≡ k.family → l.routes ≡ with_planned route k.routes → l.entries ≡ k.entries
    → IsKnownHeld (held_place due fewest (place_in route)) l u
known_noted true fewest route k l t u r w a x f s e = known_planned route k l u r (known_wide (place_in route) k t u a x) f s e
known_noted false true route k l t u r w a x f s e = known_planned route k l u r (known_wide (place_in route) k t u a x) f s e
known_noted false false None k l t u r w a x f s e = known_planned None k l u r (subst (λ (v : Option Labels). KnownAt None k v) (sym a) x) f s e
known_noted false false (Some h) k l t u r w a x f s e = held_made (prefix_as h.0) k l t u (w h refl) a x f (beside_planned (Some h) k.family k.routes l.routes r s) e

-- the prefix by which the code holds it
pub held_as : (due fewest : Bool) (o : Option code_prefix.Prefix) → option_map prefix_as (held_place due fewest o) ≡ held_place due fewest (option_map prefix_as o)
held_as true fewest o = refl
held_as false true o = refl
held_as false false o = refl

-- two marks that are wide, one after the other
pub wide_twice : (o at : Option Prefix) (t u v : Option Labels) → IsTouchedAt o t u → IsTouchedAt at u v → AreWide o t v
wide_twice None at t u v x y = more_both t u v (more_at None t u x) (more_at at u v y)
wide_twice (Some p) at t u v x y = touched_both p at t u v x y

-- ---- it is held no more

-- it is marked wide
pub held_kept : (at : Option Prefix) (k : Labels) (t u : Option Labels) → IsTouchedAt at t u → IsKnownHeld at k t → IsKnown k u
held_kept None k t u a x = subst (λ (v : Option Labels). IsKnown k v) (sym a) x
held_kept (Some p) k t None a x = tt
held_kept (Some p) k None (Some n) a x = absurd a
held_kept (Some p) k (Some m) (Some n) a x =
    let g = k.family in
    let y : IsMarked p.bits (of_family g m.entries) (of_family g n.entries) = subst (λ (z : Family). IsMarked p.bits (of_family z m.entries) (of_family z n.entries)) x.0 a.1 in
    (a.0 ∙ x.0, settled_more (width g) (answers (of_family g k.routes) []) (of_family g k.entries) 0 x.2 (of_family g n.entries) (held_marks p.bits x.2 (of_family g m.entries) (of_family g n.entries) x.3 y) x.4)

-- the repair there is made
held_done : (at : Option Prefix) (k l : Labels) (t : Option Labels) → IsKnownHeld at k t → l.family ≡ k.family → l.routes ≡ k.routes → SameBeside at k.family k.entries l.entries → StaysAt at k.family k.routes l.entries → IsKnown l t
held_done None k l t x f s b y = known_after None k l t f s b x
held_done (Some p) k l None x f s b y = tt
held_done (Some p) k l (Some n) x f s b y =
    let g = k.family in
    let z : IsSettled g k.routes l.entries n.entries = settled_mended (width g) p.bits (of_family g k.routes) (of_family g k.entries) (of_family g l.entries) x.2 (of_family g n.entries) 0 b x.3 y x.4 in
    (x.0 ∙ sym f, subst (λ (h : Family). IsSettled h l.routes l.entries n.entries) (sym f) (subst (λ (S : Entries). IsSettled g S l.entries n.entries) (sym s) z))

pub known_left : (due fewest : Bool) (at held : Option Prefix) (k l : Labels) (N : Entries) (t u : Option Labels) → AreLeftHeld due fewest k.family at held t u → IsKnownHeld held k t → l.family ≡ k.family → l.routes ≡ k.routes → SameBeside at k.family k.entries N
    → (fewest ≡ false → StaysAt at k.family k.routes N) → l.entries ≡ after_snapshot k.family k.routes due N → IsKnown l u
known_left due fewest at held k l N t u (inl a) x f s b y e = known_made due fewest at k l N a.0 u a.2 (held_kept held k t a.0 a.1 x) f s b y e
known_left due fewest at held k l N t u (inr a) x f s b y e =
    let is : l.entries ≡ N = e ∙ ap (λ (d : Bool). after_snapshot k.family k.routes d N) a.0 in
    subst (λ (v : Option Labels). IsKnown l v) (sym a.3)
    (held_done at k l t (subst (λ (o : Option Prefix). IsKnownHeld o k t) a.2 x) f s (subst (λ (T : Entries). SameBeside at k.family k.entries T) (sym is) b) (subst (λ (T : Entries). StaysAt at k.family k.routes T) (sym is) (y a.1)))

-- ---- families

pub held_family : (o : Option code_prefix.Prefix) (k : Labels) (u : Option Labels) → IsKnownHeld (option_map prefix_as o) k u → ForSome o (λ p. IsOfFamily p.family u)
held_family None k u x = λ p s. cc
held_family (Some q) k None x = λ p s. tt
held_family (Some q) k (Some n) x = λ p s. let same : q ≡ p = cc in subst (λ (z : code_prefix.Prefix). z.family ≡ n.family) same (x.1 ∙ sym x.0)

pub touched_family : (at : Option Prefix) (o : Option code_prefix.Prefix) (t u : Option Labels) → IsTouchedAt at t u → ForSome o (λ p. IsOfFamily p.family t) → ForSome o (λ p. IsOfFamily p.family u)
touched_family None o t u a x = subst (λ (v : Option Labels). ForSome o (λ p. IsOfFamily p.family v)) (sym a) x
touched_family (Some p) o t None a x = λ q s. tt
touched_family (Some p) o None (Some n) a x = absurd a
touched_family (Some p) o (Some m) (Some n) a x = λ q s. x q s ∙ sym a.0

pub held_reach : (o : Option code_prefix.Prefix) (h : Option Prefix) (k : Labels) (u : Option Labels) → ForSome o (λ p. p.family ≡ k.family) → IsKnownHeld h k u → ForSome o (λ p. IsOfFamily p.family u)
held_reach o None k None x y = λ p s. tt
held_reach o None k (Some n) x y = λ p s. x p s ∙ sym y.0
held_reach o (Some q) k None x y = λ p s. tt
held_reach o (Some q) k (Some n) x y = λ p s. x p s ∙ sym y.0
