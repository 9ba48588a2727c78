-- Regions in which an old table answers as the routes: they need no change under what they inherit there, and one where they
-- come to inherit another hop that some address would get.
use Rattle.std.proofs.Common.{◌≡◌, ◌≢◌, ℕ, zero, suc, ◌+◌, List, [], ◌∷◌, Bool, true, false, cond, Option, Some, None, nat_eq, refl, sym, ap, ◌∙◌, arith}
use Rattle.std.proofs.lemmas.Bool.{eqb-true, eq-eqb}
use Rattle.table_model.specs.Table.{Entry, Table, lpm, longest, hop_or, containing, IsTable, root, half, inherit}
use Rattle.table_model.proofs.Cut.{lpm_cut, lpm_nil}
use Rattle.table_model.specs.Regions.{join, entry_at, SameEntries}
use Rattle.table_model.specs.Sets.{side}
use Rattle.table_model.proofs.Join.{root_join, low_join, high_join}
use Rattle.table_model.proofs.Sets.{in_single, miss_single}
use Rattle.table_model.proofs.Patch.{table_half, no_half}
use Rattle.moves_model.specs.Sets.{Allowed, these, is_allowed, allowed_by_both, gap, least_allowed, set_over, new_entry, inner_set, inner_k, near_set, near_k, near_of}
use Rattle.moves_model.specs.Nearest.{AnswersAs}
use Rattle.moves_model.proofs.Allowed.{lacks, both_without, both_of, holds_least, over_cost}
use Rattle.moves_model.proofs.Near.{set_hop}

pub gives_half : (b : Bool) (d : ℕ) (f : List Bool → ℕ) (T : Table) (h : ℕ) → AnswersAs (suc d) f T h → AnswersAs d (side b f) (half b T) (inherit (root T) h)
gives_half b d f T h g a l = sym (lpm_cut T b a h) ∙ g (b ∷ a) (ap suc l)

pub gives_join : (d : ℕ) (f : List Bool → ℕ) (T : Table) (h : ℕ) → AnswersAs d (side false f) (half false T) (inherit (root T) h) → AnswersAs d (side true f) (half true T) (inherit (root T) h) → AnswersAs (suc d) f T h
gives_join d f T h x y [] l = absurd (omega arith)
gives_join d f T h x y (false ∷ a) l = lpm_cut T false a h ∙ x a (omega arith)
gives_join d f T h x y (true ∷ a) l = lpm_cut T true a h ∙ y a (omega arith)

-- no change is needed
pub keeps_cost : (d : ℕ) (f : List Bool → ℕ) (T : Table) (h : ℕ) → AnswersAs d f T h → inner_k d f T + lacks (inherit (root T) h) (inner_set d f T) ≡ 0
unfolding inner_k inner_set
keeps_cost zero f T h g =
    let i : inherit (root T) h ≡ f [] = sym (lpm_nil T h) ∙ g [] refl in
    omega (arith, ap (λ x. lacks x (these (f [] ∷ []))) i, miss_single (f []))
keeps_cost (suc d) f T h g =
    let x = inherit (root T) h in
    let low = half false T in
    let high = half true T in
    omega (
      arith,
      keeps_cost d (side false f) low x (gives_half false d f T h g),
      keeps_cost d (side true f) high x (gives_half true d f T h g),
      over_cost (root low) (inner_set d (side false f) low) (inner_k d (side false f) low) x,
      over_cost (root high) (inner_set d (side true f) high) (inner_k d (side true f) high) x,
      both_without (near_set d (side false f) low) (near_set d (side true f) high) x,
    )

abbrev zero_if : Bool → ℕ
zero_if b = cond b 0 1

lacks_none : (b : Bool) → zero_if b ≡ 0 → b ≡ true
lacks_none true e = refl
lacks_none false e = absurd (omega arith)

pub keeps_set : (d : ℕ) (f : List Bool → ℕ) (T : Table) (h : ℕ) → AnswersAs d f T h → is_allowed (inherit (root T) h) (inner_set d f T) ≡ true
keeps_set d f T h g = lacks_none (is_allowed (inherit (root T) h) (inner_set d f T)) (omega (arith, keeps_cost d f T h g))

gives_last : (f : List Bool → ℕ) (T : Table) (h : ℕ) → is_allowed (inherit (root T) h) (these (f [] ∷ [])) ≡ true → AnswersAs zero f T h
gives_last f T h e [] l = lpm_nil T h ∙ sym (in_single (f []) (inherit (root T) h) e)
gives_last f T h e (b ∷ a) l = absurd (omega arith)

-- where no change is needed under h, the table gives the answers
no_sum : (a b : ℕ) → a + b ≡ 0 → b ≡ 0
no_sum a b e = omega arith

pub kept_gives : (d : ℕ) (f : List Bool → ℕ) (T : Table) (h : ℕ) → inner_k d f T + lacks (inherit (root T) h) (inner_set d f T) ≡ 0 → AnswersAs d f T h
unfolding inner_k inner_set
kept_gives zero f T h e = gives_last f T h (lacks_none (is_allowed (inherit (root T) h) (these (f [] ∷ []))) (no_sum 0 (lacks (inherit (root T) h) (these (f [] ∷ []))) e))
kept_gives (suc d) f T h e =
    let x = inherit (root T) h in
    let low = half false T in
    let high = half true T in
    let S = near_set d (side false f) low in
    let Q = near_set d (side true f) high in
    let i : is_allowed x (allowed_by_both S Q) ≡ true = lacks_none (is_allowed x (allowed_by_both S Q)) (no_sum (near_k d (side false f) low + near_k d (side true f) high + gap S Q) (lacks x (allowed_by_both S Q)) e) in
    let z : lacks x S + lacks x Q ≡ gap S Q = both_of S Q x i in
    gives_join d f T h
    (kept_gives d (side false f) low x (omega (arith, z, e, over_cost (root low) (inner_set d (side false f) low) (inner_k d (side false f) low) x)))
    (kept_gives d (side true f) high x (omega (arith, z, e, over_cost (root high) (inner_set d (side true f) high) (inner_k d (side true f) high) x)))

-- the pass leaves it
stays_root : (S : Allowed) (o : Option ℕ) (h : ℕ) → is_allowed (inherit o h) S ≡ true → new_entry S o h ≡ o
stays_root S None h e = ap (λ (b : Bool). cond b None (Some (least_allowed S))) e
stays_root S (Some t) h e = ap (λ (b : Bool). cond b (Some t) (cond (is_allowed h S) None (Some (least_allowed S)))) e

half_root : (o : Option ℕ) (L M T : Table) → root (join o L M) ≡ o
half_root o L M T = root_join o L M

pub stays : (d : ℕ) (f : List Bool → ℕ) (T : Table) (h : ℕ) → IsTable d T → AnswersAs d f T h → SameEntries (near_of d f T h) T
unfolding near_of
stays zero f T h t g [] = root_join (new_entry (inner_set zero f T) (root T) h) [] [] ∙ stays_root (inner_set zero f T) (root T) h (keeps_set zero f T h g)
stays zero f T h t g (false ∷ q) = ap (entry_at q) (low_join (new_entry (inner_set zero f T) (root T) h) [] [] ∙ sym (no_half false T t.1))
stays zero f T h t g (true ∷ q) = ap (entry_at q) (high_join (new_entry (inner_set zero f T) (root T) h) [] [] ∙ sym (no_half true T t.1))
stays (suc d) f T h t g [] = root_join (new_entry (inner_set (suc d) f T) (root T) h) _ _ ∙ stays_root (inner_set (suc d) f T) (root T) h (keeps_set (suc d) f T h g)
stays (suc d) f T h t g (false ∷ q) =
    let o = new_entry (inner_set (suc d) f T) (root T) h in
    let e : o ≡ root T = stays_root (inner_set (suc d) f T) (root T) h (keeps_set (suc d) f T h g) in
    ap (entry_at q) (low_join o _ _ ∙ ap (λ x. near_of d (side false f) (half false T) (inherit x h)) e)
    ∙ stays d (side false f) (half false T) (inherit (root T) h) (table_half false d T t) (gives_half false d f T h g) q
stays (suc d) f T h t g (true ∷ q) =
    let o = new_entry (inner_set (suc d) f T) (root T) h in
    let e : o ≡ root T = stays_root (inner_set (suc d) f T) (root T) h (keeps_set (suc d) f T h g) in
    ap (entry_at q) (high_join o _ _ ∙ ap (λ x. near_of d (side true f) (half true T) (inherit x h)) e)
    ∙ stays d (side true f) (half true T) (inherit (root T) h) (table_half true d T t) (gives_half true d f T h g) q

-- ---- under another hop

-- an address that gets the same under two hops gets it under any
within_one : (x : Option Entry) (g h k : ℕ) → g ≢ h → hop_or g x ≡ hop_or h x → hop_or k x ≡ hop_or h x
within_one None g h k n e = absurd (n e)
within_one (Some y) g h k n e = refl

pub gives_any : (d : ℕ) (f : List Bool → ℕ) (T : Table) (g h k : ℕ) → g ≢ h → AnswersAs d f T g → AnswersAs d f T h → AnswersAs d f T k
gives_any d f T g h k n x y a l = within_one (longest (containing a T)) g h k n (x a l ∙ sym (y a l)) ∙ y a l

-- Where the region gives the answers under h and not under g, it has no entry of its own, and gets one of h: below it all stays.
-- (An own entry would leave nothing that is inherited to matter.)
gives_own : (d : ℕ) (f : List Bool → ℕ) (T : Table) (t g h : ℕ) → root T ≡ Some t → AnswersAs d f T h → AnswersAs d f T g
gives_own d f T t g h r x [] l = lpm_nil T g ∙ (ap (λ o. inherit o g) r ∙ sym (ap (λ o. inherit o h) r)) ∙ sym (lpm_nil T h) ∙ x [] l
gives_own d f T t g h r x (b ∷ a) l = lpm_cut T b a g ∙ (ap (λ o. lpm (half b T) a (inherit o g)) r ∙ sym (ap (λ o. lpm (half b T) a (inherit o h)) r)) ∙ sym (lpm_cut T b a h) ∙ x (b ∷ a) l

no_entry : (d : ℕ) (f : List Bool → ℕ) (T : Table) (g h : ℕ) (o : Option ℕ) → root T ≡ o → AnswersAs d f T h → (AnswersAs d f T g → ⊥) → o ≡ None
no_entry d f T g h None r x n = refl
no_entry d f T g h (Some t) r x n = absurd (n (gives_own d f T t g h r x))

-- with no entry at the root, the hops that it may inherit are those under which it gives the answers
holds_gives : (d : ℕ) (f : List Bool → ℕ) (T : Table) (g h : ℕ) → root T ≡ None → AnswersAs d f T h → is_allowed g (inner_set d f T) ≡ true → AnswersAs d f T g
holds_gives d f T g h r x e =
    kept_gives d f T g
    (let z : lacks (inherit (root T) g) (inner_set d f T) ≡ 0 = ap (λ o. lacks (inherit o g) (inner_set d f T)) r ∙ ap (λ (b : Bool). cond b 0 1) e in omega (arith, z, keeps_cost d f T h x))

not_held : (b : Bool) → (b ≡ true → ⊥) → b ≡ false
not_held true n = absurd (n refl)
not_held false n = refl

pub least_is : (d : ℕ) (f : List Bool → ℕ) (T : Table) (g h : ℕ) → AnswersAs d f T h → (AnswersAs d f T g → ⊥) → least_allowed (inner_set d f T) ≡ h
least_is d f T g h x n = by_test (nat_eq (least_allowed (inner_set d f T)) h) refl
  where
    k : ℕ
    k = least_allowed (inner_set d f T)

    r : root T ≡ None
    r = no_entry d f T g h (root T) refl x n

    y : AnswersAs d f T k
    y = holds_gives d f T k h r x (holds_least (inner_set d f T) (set_hop d f T))

    by_test : (b : Bool) → nat_eq k h ≡ b → k ≡ h
    by_test true e = eqb-true k h e
    by_test false e = absurd (n (gives_any d f T k h g (λ s. other (eq-eqb k h s)) y x))
      where
        other : nat_eq k h ≡ true → ⊥
        other z = let w : true ≡ false = sym z ∙ e in absurd cc

-- its new entry
pub comes : (d : ℕ) (f : List Bool → ℕ) (T : Table) (g h : ℕ) → AnswersAs d f T h → (AnswersAs d f T g → ⊥) → new_entry (inner_set d f T) (root T) g ≡ Some h
comes d f T g h x n =
    let r = no_entry d f T g h (root T) refl x n in
    let no : is_allowed g (inner_set d f T) ≡ false = not_held (is_allowed g (inner_set d f T)) (λ e. n (holds_gives d f T g h r x e)) in
    ap (λ o. new_entry (inner_set d f T) o g) r ∙ (ap (λ (b : Bool). cond b None (Some (least_allowed (inner_set d f T)))) no ∙ ap Some (least_is d f T g h x n))

-- and all below stays
pub comes_below : (b : Bool) (d : ℕ) (f : List Bool → ℕ) (T : Table) (g h : ℕ) → IsTable (suc d) T → AnswersAs (suc d) f T h → (AnswersAs (suc d) f T g → ⊥) → SameEntries (half b (near_of (suc d) f T g)) (half b T)
unfolding near_of
comes_below b d f T g h t x n =
    let o = new_entry (inner_set (suc d) f T) (root T) g in
    let e : o ≡ Some h = comes (suc d) f T g h x n in
    let r : root T ≡ None = no_entry (suc d) f T g h (root T) refl x n in
    by_half b o e r
  where
    by_half : (b : Bool) (o : Option ℕ) → o ≡ Some h → root T ≡ None
        → SameEntries (half b (join o (near_of d (side false f) (half false T) (inherit o g)) (near_of d (side true f) (half true T) (inherit o g)))) (half b T)
    by_half false o e r q =
        ap (entry_at q) (low_join o _ _ ∙ ap (λ y. near_of d (side false f) (half false T) (inherit y g)) e)
        ∙ stays d (side false f) (half false T) h (table_half false d T t) (λ a l. ap (λ y. lpm (half false T) a (inherit y h)) (sym r) ∙ gives_half false d f T h x a l) q
    by_half true o e r q =
        ap (entry_at q) (high_join o _ _ ∙ ap (λ y. near_of d (side true f) (half true T) (inherit y g)) e)
        ∙ stays d (side true f) (half true T) h (table_half true d T t) (λ a l. ap (λ y. lpm (half true T) a (inherit y h)) (sym r) ∙ gives_half true d f T h x a l) q

-- ---- what such a region may inherit

-- any hop with an entry of its own, else just those under which it gives the answers
pub set_gives : (d : ℕ) (f : List Bool → ℕ) (T : Table) (g h : ℕ) → AnswersAs d f T h → is_allowed g (near_set d f T) ≡ true → AnswersAs d f T g
set_gives d f T g h x e = by_root (root T) refl e
  where
    by_root : (o : Option ℕ) → root T ≡ o → is_allowed g (set_over o (inner_set d f T)) ≡ true → AnswersAs d f T g
    by_root None r z = holds_gives d f T g h r x z
    by_root (Some t) r z = gives_own d f T t g h r x

pub gives_set : (d : ℕ) (f : List Bool → ℕ) (T : Table) (g : ℕ) → AnswersAs d f T g → (is_allowed g (near_set d f T) ≡ true) × (near_k d f T ≡ 0)
gives_set d f T g x =
    let z = over_cost (root T) (inner_set d f T) (inner_k d f T) g in
    (lacks_none (is_allowed g (near_set d f T)) (omega (arith, z, keeps_cost d f T g x)), omega (arith, z, keeps_cost d f T g x))

pub root_near : (d : ℕ) (f : List Bool → ℕ) (T : Table) (h : ℕ) → root (near_of d f T h) ≡ new_entry (inner_set d f T) (root T) h
unfolding near_of
root_near zero f T h = root_join (new_entry (inner_set zero f T) (root T) h) [] []
root_near (suc d) f T h = root_join (new_entry (inner_set (suc d) f T) (root T) h) _ _
