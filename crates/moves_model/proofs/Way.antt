-- The way to the event's prefix: the sets there, and what the downward pass does.
use Rattle.std.proofs.Common.{◌≡◌, ℕ, zero, suc, ◌-◌, ◌≤◌, List, [], ◌∷◌, ◌++◌, Bool, true, false, not, ◌&&◌, ◌||◌, cond, Option, Some, None, length, nat_eq, is_none, refl, sym, ap, ◌∙◌, arith}
use Rattle.table_model.specs.Table.{Table, lpm, IsTable, root, half, inherit, cut}
use Rattle.table_model.proofs.Cut.{lpm_cut}
use Rattle.table_model.specs.Regions.{entry_at, SameEntries}
use Rattle.table_model.specs.Sets.{is_in, common, or_else, side}
use Rattle.table_model.proofs.Join.{root_join, low_join, high_join}
use Rattle.table_model.proofs.Patch.{table_half, begins_same, begins_other}
use Rattle.std.proofs.lemmas.Bool.{and_parts}
use Rattle.std.proofs.lemmas.List.Folds.{list_any-append}
use Rattle.table_model.proofs.Sets.{in_common, in_first, in_single}
use Rattle.moves_model.specs.Sets.{Allowed, any, these, is_allowed, allowed_by_both, least_allowed, set_over, new_entry, inner_set, near_set, near_of}
use Rattle.moves_model.specs.Nearest.{AnswersAs}
use Rattle.moves_model.proofs.Allowed.{has_hop, holds_new}
use Rattle.moves_model.proofs.Near.{set_hop}
use Rattle.moves_model.proofs.Keeps.{stays, root_near}
use Rattle.moves_model.specs.Way.{fills, allowed_beside, GivesBeside, allowed_at, is_clear, way_entry, join_by, pass_to}
use Rattle.moves_model.proofs.Aside.{near_aside, gives_covered}

-- ---- beside and on the way

pub gives_beside : (b : Bool) (p : List Bool) (d : ℕ) (f : List Bool → ℕ) (T : Table) (h : ℕ) → GivesBeside (b ∷ p) (suc d) f T h → AnswersAs d (side (not b) f) (half (not b) T) (inherit (root T) h)
gives_beside b p d f T h g a l = sym (lpm_cut T (not b) a h) ∙ g (not b ∷ a) (ap suc l) (begins_other b p a)

pub gives_on : (b : Bool) (p : List Bool) (d : ℕ) (f : List Bool → ℕ) (T : Table) (h : ℕ) → GivesBeside (b ∷ p) (suc d) f T h → GivesBeside p d (side b f) (half b T) (inherit (root T) h)
gives_on b p d f T h g a l n = sym (lpm_cut T b a h) ∙ g (b ∷ a) (ap suc l) (begins_same b p a ∙ n)

-- ---- two sets of which one is 'any', or one hop

both_any : (S : Allowed) → allowed_by_both S any ≡ S
both_any any = refl
both_any (these S) = refl

held_left : (x : ℕ) (S : List ℕ) (b : Bool) → is_in x (or_else (cond b (x ∷ []) []) (x ∷ S)) ≡ true
held_left x S true = in_first x x [] refl
held_left x S false = in_first x x S refl

pub holds_left : (x : ℕ) (S : Allowed) → is_allowed x (allowed_by_both (these (x ∷ [])) S) ≡ true
holds_left x any = in_first x x [] refl
holds_left x (these S) = held_left x S (is_in x S)

or_true : (b c : Bool) → c ≡ true → (b || c) ≡ true
or_true true c e = refl
or_true false c e = e

held_right : (x : ℕ) (S c : List ℕ) → common S (x ∷ []) ≡ c → is_in x (or_else c (S ++ (x ∷ []))) ≡ true
held_right x S [] e = list_any-append (λ g. nat_eq g x) S (x ∷ []) ∙ or_true (is_in x S) (is_in x (x ∷ [])) (in_first x x [] refl)
held_right x S (g ∷ c) e =
    let i : (is_in g S && is_in g (x ∷ [])) ≡ true = sym (in_common g S (x ∷ [])) ∙ (ap (is_in g) e ∙ in_first g g c refl) in
    in_first g x c (sym (in_single x g (and_parts (is_in g S) (is_in g (x ∷ [])) i).1))

pub holds_right : (x : ℕ) (S : Allowed) → is_allowed x (allowed_by_both S (these (x ∷ []))) ≡ true
holds_right x any = in_first x x [] refl
holds_right x (these S) = held_right x S (common S (x ∷ [])) refl

-- the hops of the half of first bit b and of the other
abbrev both_by : Bool → Allowed → Allowed → Allowed
both_by false S T = allowed_by_both S T
both_by true S T = allowed_by_both T S

by_any : (b : Bool) (S : Allowed) → both_by b S any ≡ S
by_any false S = both_any S
by_any true S = refl

by_one : (b : Bool) (x : ℕ) (S : Allowed) → is_allowed x (both_by b S (these (x ∷ []))) ≡ true
by_one false x S = holds_right x S
by_one true x S = holds_left x S

-- ---- the sets on the way

inner_by : (b : Bool) (d : ℕ) (f : List Bool → ℕ) (T : Table) → inner_set (suc d) f T ≡ both_by b (near_set d (side b f) (half b T)) (near_set d (side (not b) f) (half (not b) T))
unfolding inner_set
inner_by false d f T = refl
inner_by true d f T = refl

inner_aside : (b : Bool) (p : List Bool) (d : ℕ) (f : List Bool → ℕ) (T : Table) (h : ℕ) → GivesBeside (b ∷ p) (suc d) f T h
    → inner_set (suc d) f T ≡ both_by b (near_set d (side b f) (half b T)) (allowed_beside d (half (not b) T) (inherit (root T) h))
inner_aside b p d f T h g = inner_by b d f T ∙ ap (both_by b (near_set d (side b f) (half b T))) (near_aside d (side (not b) f) (half (not b) T) (inherit (root T) h) (gives_beside b p d f T h g))

none_is : (o : Option ℕ) → is_none o ≡ true → o ≡ None
none_is None e = refl
none_is (Some t) e = absurd cc

-- what a clear way is
pub record IsClear (b : Bool) (p : List Bool) (d : ℕ) (T : Table) : Type 0 where
  pub bare : root (half b T) ≡ None
  pub beside : fills d (half (not b) T) ≡ true
  pub rest : is_clear p d (half b T) ≡ true

pub clear_parts : (b : Bool) (p : List Bool) (d : ℕ) (T : Table) → is_clear (b ∷ p) (suc d) T ≡ true → IsClear b p d T
unfolding is_clear
clear_parts b p d T e =
    let x = and_parts (is_none (root (half b T))) (fills d (half (not b) T) && is_clear p d (half b T)) e in
    let y = and_parts (fills d (half (not b) T)) (is_clear p d (half b T)) x.1 in
    record { bare = none_is (root (half b T)) x.0; beside = y.0; rest = y.1 }

pub set_here : (d : ℕ) (f : List Bool → ℕ) (T : Table) → allowed_at d f T [] ≡ inner_set d f T
set_here d f T = let e : d - 0 ≡ d = omega arith in ap (λ n. inner_set n f T) e

pub set_on : (b : Bool) (p : List Bool) (d : ℕ) (f : List Bool → ℕ) (T : Table) → allowed_at (suc d) f T (b ∷ p) ≡ allowed_at d (side b f) (half b T) p
set_on b p d f T = let e : suc d - suc (length p) ≡ d - length p = omega arith in ap (λ n. inner_set n (λ a. f (b ∷ (p ++ a))) (cut p (half b T))) e

-- where the way is clear, the set is that at p
pub clear_set : (p : List Bool) (d : ℕ) (f : List Bool → ℕ) (T : Table) (h : ℕ) → length p ≤ d → GivesBeside p d f T h → is_clear p d T ≡ true → inner_set d f T ≡ allowed_at d f T p
clear_set [] d f T h l g c = sym (set_here d f T)
clear_set (b ∷ p) zero f T h l g c = absurd (omega arith)
clear_set (b ∷ p) (suc d) f T h l g c =
    let x = inherit (root T) h in
    let k = clear_parts b p d T c in
    inner_aside b p d f T h g
    ∙ (ap (λ (y : Bool). both_by b (near_set d (side b f) (half b T)) (cond y any (these (x ∷ [])))) k.beside
    ∙ (by_any b (near_set d (side b f) (half b T))
    ∙ (ap (λ o. set_over o (inner_set d (side b f) (half b T))) k.bare
    ∙ (clear_set p d (side b f) (half b T) x (omega (arith, l)) (gives_on b p d f T h g) k.rest
    ∙ sym (set_on b p d f T)))))

-- and where it isn't, it has what T gives there
pub open_set : (p : List Bool) (d : ℕ) (f : List Bool → ℕ) (T : Table) (h : ℕ) → length p ≤ d → GivesBeside p d f T h → is_clear p d T ≡ false → is_allowed (inherit (root T) h) (inner_set d f T) ≡ true
unfolding is_clear
open_set [] d f T h l g c = absurd cc
open_set (b ∷ p) zero f T h l g c = absurd (omega arith)
open_set (b ∷ p) (suc d) f T h l g c =
    ap (is_allowed (inherit (root T) h)) (inner_aside b p d f T h g)
    ∙ by_cover (fills d (half (not b) T)) refl (λ n. open_set p d (side b f) (half b T) (inherit (root T) h) (omega (arith, l)) (gives_on b p d f T h g) n)
  where
    x : ℕ
    x = inherit (root T) h

    S : Allowed
    S = near_set d (side b f) (half b T)

    no_clear : (o : Option ℕ) (v : Bool) → o ≡ None → v ≡ true → (is_none o && (v && is_clear p d (half b T))) ≡ false → is_clear p d (half b T) ≡ false
    no_clear None true e i n = n
    no_clear (Some t) v e i n = absurd cc
    no_clear None false e i n = absurd cc

    by_root : (o : Option ℕ) → root (half b T) ≡ o → fills d (half (not b) T) ≡ true
        → (is_clear p d (half b T) ≡ false → is_allowed (inherit (root (half b T)) x) (inner_set d (side b f) (half b T)) ≡ true)
        → is_allowed x (set_over o (inner_set d (side b f) (half b T))) ≡ true
    by_root (Some t) r v ih = refl
    by_root None r v ih =
        ap (λ o. is_allowed (inherit o x) (inner_set d (side b f) (half b T))) (sym r)
        ∙ ih (no_clear (root (half b T)) (fills d (half (not b) T)) r v c)

    by_cover : (v : Bool) → fills d (half (not b) T) ≡ v
        → (is_clear p d (half b T) ≡ false → is_allowed (inherit (root (half b T)) x) (inner_set d (side b f) (half b T)) ≡ true)
        → is_allowed x (both_by b S (cond v any (these (x ∷ [])))) ≡ true
    by_cover false v ih = by_one b x S
    by_cover true v ih = ap (is_allowed x) (by_any b S) ∙ by_root (root (half b T)) refl v ih

-- ---- the pass

same_by : (b : Bool) (L M : Table) → root L ≡ root M → SameEntries (half b L) (half b M) → SameEntries (half (not b) L) (half (not b) M) → SameEntries L M
same_by b L M r x y [] = r
same_by false L M r x y (false ∷ q) = x q
same_by false L M r x y (true ∷ q) = y q
same_by true L M r x y (true ∷ q) = x q
same_by true L M r x y (false ∷ q) = y q

pub root_by : (b : Bool) (o : Option ℕ) (L M : Table) → root (join_by b o L M) ≡ o
root_by false o L M = root_join o L M
root_by true o L M = root_join o M L

pub half_by : (b : Bool) (o : Option ℕ) (L M : Table) → half b (join_by b o L M) ≡ L
half_by false o L M = low_join o L M
half_by true o L M = high_join o M L

pub other_by : (b : Bool) (o : Option ℕ) (L M : Table) → half (not b) (join_by b o L M) ≡ M
other_by false o L M = high_join o L M
other_by true o L M = low_join o M L

pub half_near : (b : Bool) (d : ℕ) (f : List Bool → ℕ) (T : Table) (g : ℕ) → half b (near_of (suc d) f T g) ≡ near_of d (side b f) (half b T) (inherit (new_entry (inner_set (suc d) f T) (root T) g) g)
unfolding near_of
half_near false d f T g = low_join (new_entry (inner_set (suc d) f T) (root T) g) _ _
half_near true d f T g = high_join (new_entry (inner_set (suc d) f T) (root T) g) _ _

-- what the pass brings to a region on the way: what T does, or where the way is clear and T has no entry a hop of the set
pub data Comes (p : List Bool) (d : ℕ) (f : List Bool → ℕ) (T : Table) (h g : ℕ) : Type 0 where
  old : g ≡ h → Comes p d f T h g
  new : is_clear p d T ≡ true → root T ≡ None → is_allowed g (allowed_at d f T p) ≡ true → Comes p d f T h g

stays_root : (S : Allowed) (o : Option ℕ) (h : ℕ) → is_allowed (inherit o h) S ≡ true → new_entry S o h ≡ o
stays_root S None h e = ap (λ (b : Bool). cond b None (Some (least_allowed S))) e
stays_root S (Some t) h e = ap (λ (b : Bool). cond b (Some t) (cond (is_allowed h S) None (Some (least_allowed S)))) e

apart : (b : Bool) → b ≡ true → b ≡ false → ⊥
apart b e n = cc

-- where the way isn't clear, what comes is what T has there
open_old : (p : List Bool) (d : ℕ) (f : List Bool → ℕ) (T : Table) (h g : ℕ) → is_clear p d T ≡ false → Comes p d f T h g → g ≡ h
open_old p d f T h g n (old e) = e
open_old p d f T h g n (new c r i) = absurd (apart (is_clear p d T) c n)

-- one step down
pub record IsStep (b : Bool) (p : List Bool) (d : ℕ) (f : List Bool → ℕ) (T : Table) (h g : ℕ) (o : Option ℕ) : Type 0 where
  pub entry : new_entry (inner_set (suc d) f T) (root T) g ≡ o
  pub beside : AnswersAs d (side (not b) f) (half (not b) T) (inherit o g)
  pub comes : Comes p d (side b f) (half b T) (inherit (root T) h) (inherit o g)

clear_step : (b : Bool) (p : List Bool) (d : ℕ) (f : List Bool → ℕ) (T : Table) (h g : ℕ) → length p ≤ d → GivesBeside (b ∷ p) (suc d) f T h → is_clear (b ∷ p) (suc d) T ≡ true
    → IsStep b p d f T h g (new_entry (allowed_at (suc d) f T (b ∷ p)) (root T) g)
clear_step b p d f T h g l y c =
    let k = clear_parts b p d T c in
    let e : inner_set (suc d) f T ≡ allowed_at (suc d) f T (b ∷ p) = clear_set (b ∷ p) (suc d) f T h (omega (arith, l)) y c in
    let o = new_entry (allowed_at (suc d) f T (b ∷ p)) (root T) g in
    let s : has_hop (allowed_at (suc d) f T (b ∷ p)) ≡ true = ap has_hop (sym e) ∙ set_hop (suc d) f T in
    record {
      entry = ap (λ S. new_entry S (root T) g) e;
      beside = gives_covered d (side (not b) f) (half (not b) T) (inherit o g) (inherit (root T) h) k.beside (gives_beside b p d f T h y);
      comes = new k.rest k.bare (ap (is_allowed (inherit o g)) (sym (set_on b p d f T)) ∙ holds_new (allowed_at (suc d) f T (b ∷ p)) (root T) g s);
    }

open_step : (b : Bool) (p : List Bool) (d : ℕ) (f : List Bool → ℕ) (T : Table) (h g : ℕ) → length p ≤ d → GivesBeside (b ∷ p) (suc d) f T h → is_clear (b ∷ p) (suc d) T ≡ false → g ≡ h
    → IsStep b p d f T h g (root T)
open_step b p d f T h g l y c e = record {
  entry = stays_root (inner_set (suc d) f T) (root T) g (ap (λ z. is_allowed (inherit (root T) z) (inner_set (suc d) f T)) e ∙ open_set (b ∷ p) (suc d) f T h (omega (arith, l)) y c);
  beside = λ a m. ap (λ z. lpm (half (not b) T) a (inherit (root T) z)) e ∙ gives_beside b p d f T h y a m;
  comes = old (ap (inherit (root T)) e);
}

pub step : (b : Bool) (p : List Bool) (d : ℕ) (f : List Bool → ℕ) (T : Table) (h g : ℕ) → length p ≤ d → GivesBeside (b ∷ p) (suc d) f T h → Comes (b ∷ p) (suc d) f T h g
    → IsStep b p d f T h g (way_entry (b ∷ p) (suc d) f T g)
step b p d f T h g l y k = by_clear (is_clear (b ∷ p) (suc d) T) refl
  where
    by_clear : (c : Bool) → is_clear (b ∷ p) (suc d) T ≡ c → IsStep b p d f T h g (cond c (new_entry (allowed_at (suc d) f T (b ∷ p)) (root T) g) (root T))
    by_clear true c = clear_step b p d f T h g l y c
    by_clear false c = open_step b p d f T h g l y c (open_old (b ∷ p) (suc d) f T h g c k)

pub same_pass : (p : List Bool) (d : ℕ) (f : List Bool → ℕ) (T : Table) (h g : ℕ) → length p ≤ d → IsTable d T → GivesBeside p d f T h → Comes p d f T h g → SameEntries (near_of d f T g) (pass_to p d f T g)
unfolding pass_to
same_pass [] d f T h g l t y k q = refl
same_pass (b ∷ p) zero f T h g l t y k q = absurd (omega arith)
same_pass (b ∷ p) (suc d) f T h g l t y k q =
    let o = way_entry (b ∷ p) (suc d) f T g in
    let s = step b p d f T h g (omega (arith, l)) y k in
    let L = pass_to p d (side b f) (half b T) (inherit o g) in
    let M = half (not b) T in
    same_by b (near_of (suc d) f T g) (join_by b o L M)
    (root_near (suc d) f T g ∙ (s.entry ∙ sym (root_by b o L M)))
    (λ r. ap (entry_at r) (half_near b d f T g ∙ ap (λ x. near_of d (side b f) (half b T) (inherit x g)) s.entry)
    ∙ (same_pass p d (side b f) (half b T) (inherit (root T) h) (inherit o g) (omega (arith, l)) (table_half b d T t) (gives_on b p d f T h y) s.comes r
    ∙ ap (entry_at r) (sym (half_by b o L M))))
    (λ r. ap (entry_at r) (half_near (not b) d f T g ∙ ap (λ x. near_of d (side (not b) f) (half (not b) T) (inherit x g)) s.entry)
    ∙ (stays d (side (not b) f) (half (not b) T) (inherit o g) (table_half (not b) d T t) s.beside r
    ∙ ap (entry_at r) (sym (other_by b o L M))))
    q
