-- A region in which the old table gives the answers: what it may inherit.
use Rattle.std.proofs.Common.{◌≡◌, ℕ, zero, suc, List, [], ◌∷◌, Bool, true, false, ◌&&◌, ◌||◌, cond, Option, Some, None, is_some, refl, sym, ap, ◌∙◌}
use Rattle.std.proofs.lemmas.Bool.{eq-eqb}
use Rattle.table_model.specs.Table.{Table, IsTable, root, half, inherit}
use Rattle.table_model.proofs.Cut.{lpm_nil}
use Rattle.table_model.specs.Sets.{or_else, joint, side}
use Rattle.moves_model.specs.Sets.{Allowed, any, these, is_allowed, allowed_by_both, set_over, new_entry, inner_set, near_set, near_of}
use Rattle.moves_model.specs.Nearest.{AnswersAs}
use Rattle.table_model.specs.Regions.{entry_at}
use Rattle.table_model.proofs.Join.{low_join, high_join}
use Rattle.table_model.proofs.Patch.{no_half}
use Rattle.moves_model.proofs.Keeps.{gives_half, set_gives, gives_set, comes, comes_below, root_near}
use Rattle.moves_model.specs.Way.{fills, allowed_beside}

joint_one : (h : ℕ) → joint (h ∷ []) (h ∷ []) ≡ h ∷ []
joint_one h = ap (λ (b : Bool). or_else (cond (b || false) (h ∷ []) []) (h ∷ h ∷ [])) (eq-eqb h h refl)

both_aside : (b c : Bool) (h : ℕ) → allowed_by_both (cond b any (these (h ∷ []))) (cond c any (these (h ∷ []))) ≡ cond (b && c) any (these (h ∷ []))
both_aside true c h = refl
both_aside false true h = refl
both_aside false false h = ap these (joint_one h)

-- with an entry of its own it may inherit any hop, without one what its halves may
aside_own : (o : Option ℕ) (b : Bool) (h : ℕ) (S : Allowed) → S ≡ cond b any (these (inherit o h ∷ [])) → set_over o S ≡ cond (is_some o || b) any (these (h ∷ []))
aside_own None b h S e = e
aside_own (Some t) b h S e = refl

pub near_aside : (d : ℕ) (f : List Bool → ℕ) (T : Table) (h : ℕ) → AnswersAs d f T h → near_set d f T ≡ allowed_beside d T h
unfolding inner_set fills
near_aside zero f T h g = by_own (root T) refl
  where
    by_own : (o : Option ℕ) → root T ≡ o → set_over o (these (f [] ∷ [])) ≡ cond (is_some o) any (these (h ∷ []))
    by_own None r = ap (λ x. these (x ∷ [])) (sym (g [] refl) ∙ (lpm_nil T h ∙ ap (λ o. inherit o h) r))
    by_own (Some t) r = refl
near_aside (suc d) f T h g =
    let x = inherit (root T) h in
    aside_own (root T) (fills d (half false T) && fills d (half true T)) h _
    (ap (λ S. allowed_by_both S (near_set d (side true f) (half true T))) (near_aside d (side false f) (half false T) x (gives_half false d f T h g))
    ∙ (ap (λ S. allowed_by_both (allowed_beside d (half false T) x) S) (near_aside d (side true f) (half true T) x (gives_half true d f T h g))
    ∙ both_aside (fills d (half false T)) (fills d (half true T)) x))

-- so it may inherit any hop where all its addresses are within entries
pub gives_covered : (d : ℕ) (f : List Bool → ℕ) (T : Table) (g h : ℕ) → fills d T ≡ true → AnswersAs d f T h → AnswersAs d f T g
gives_covered d f T g h c x = set_gives d f T g h x (ap (is_allowed g) (near_aside d f T h x ∙ ap (λ (b : Bool). cond b any (these (h ∷ []))) c))

-- ---- under a hop that it may not inherit

apart : (b : Bool) → b ≡ true → b ≡ false → ⊥
apart b e n = cc

refused : (d : ℕ) (f : List Bool → ℕ) (T : Table) (g h : ℕ) → AnswersAs d f T h → is_allowed g (allowed_beside d T h) ≡ false → AnswersAs d f T g → ⊥
refused d f T g h x n y = apart (is_allowed g (allowed_beside d T h)) (ap (is_allowed g) (sym (near_aside d f T h x)) ∙ (gives_set d f T g y).0) n

pub aside_bare : (d : ℕ) (f : List Bool → ℕ) (T : Table) (g h : ℕ) → AnswersAs d f T h → is_allowed g (allowed_beside d T h) ≡ false → root T ≡ None
aside_bare d f T g h x n = by_root (root T) refl
  where
    by_root : (o : Option ℕ) → root T ≡ o → o ≡ None
    by_root None r = refl
    by_root (Some t) r = absurd (apart (is_allowed g (allowed_beside d T h)) (ap (is_allowed g) (sym (near_aside d f T h x)) ∙ ap (λ o. is_allowed g (set_over o (inner_set d f T))) r) n)

pub aside_comes : (d : ℕ) (f : List Bool → ℕ) (T : Table) (g h : ℕ) → AnswersAs d f T h → is_allowed g (allowed_beside d T h) ≡ false → root (near_of d f T g) ≡ Some h
aside_comes d f T g h x n = root_near d f T g ∙ comes d f T g h x (refused d f T g h x n)

pub aside_below : (d : ℕ) (f : List Bool → ℕ) (T : Table) (g h : ℕ) → IsTable d T → AnswersAs d f T h → is_allowed g (allowed_beside d T h) ≡ false → (b : Bool) (q : List Bool) → entry_at (b ∷ q) (near_of d f T g) ≡ entry_at (b ∷ q) T
unfolding near_of
aside_below zero f T g h t x n false q = ap (entry_at q) (low_join (new_entry (inner_set zero f T) (root T) g) [] [] ∙ sym (no_half false T t.1))
aside_below zero f T g h t x n true q = ap (entry_at q) (high_join (new_entry (inner_set zero f T) (root T) g) [] [] ∙ sym (no_half true T t.1))
aside_below (suc d) f T g h t x n b q = comes_below b d f T g h t x (refused (suc d) f T g h x n) q
