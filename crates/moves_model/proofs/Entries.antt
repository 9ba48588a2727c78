-- The pass to the event's prefix, prefix by prefix.
use Rattle.std.proofs.Common.{◌≡◌, ◌≢◌, ℕ, zero, suc, ◌-◌, ◌≤◌, List, [], ◌∷◌, ◌++◌, Bool, true, false, not, cond, Option, Some, None, length, refl, sym, ap, ◌∙◌, arith}
use Rattle.table_model.specs.Bits.{begins}
use Rattle.table_model.specs.Table.{Table, longest, hop_or, root, half, inherit, cut}
use Rattle.table_model.specs.Regions.{entry_at, above}
use Rattle.table_model.specs.Sets.{side}
use Rattle.table_model.proofs.Above.{above_cut, none_above}
use Rattle.table_model.proofs.Patch.{begins_same}
use Rattle.moves_model.specs.Sets.{Allowed, is_allowed, least_allowed, new_entry, near_of}
use Rattle.moves_model.proofs.Allowed.{has_hop, holds_new}
use Rattle.moves_model.proofs.Near.{set_hop}
use Rattle.moves_model.specs.Way.{allowed_at, is_clear, turn, way_entry, join_by, pass_to, comes_to}
use Rattle.moves_model.proofs.Way.{clear_parts, set_on, root_by, half_by, other_by}

set_has : (p : List Bool) (d : ℕ) (f : List Bool → ℕ) (T : Table) → has_hop (allowed_at d f T p) ≡ true
set_has p d f T = set_hop (d - length p) (λ a. f (p ++ a)) (cut p T)

no_entry : (S : Allowed) (g : ℕ) → is_allowed g S ≡ true → new_entry S None g ≡ None
no_entry S g e = ap (λ (b : Bool). cond b None (Some (least_allowed S))) e

-- an entry in the half of first bit b, in the other half, or at the root
by_bit : (b : Bool) (P : List Bool → Type 0) → P [] → ((q : List Bool) → P (b ∷ q)) → ((q : List Bool) → P (not b ∷ q)) → (q : List Bool) → P q
by_bit b P r x y [] = r
by_bit false P r x y (false ∷ q) = x q
by_bit false P r x y (true ∷ q) = y q
by_bit true P r x y (true ∷ q) = x q
by_bit true P r x y (false ∷ q) = y q

half_entry : (b : Bool) (q : List Bool) (o : Option ℕ) (L M : Table) → entry_at (b ∷ q) (join_by b o L M) ≡ entry_at q L
half_entry b q o L M = ap (entry_at q) (half_by b o L M)

other_entry : (b : Bool) (q : List Bool) (o : Option ℕ) (L M : Table) → entry_at (not b ∷ q) (join_by b o L M) ≡ entry_at q M
other_entry b q o L M = ap (entry_at q) (other_by b o L M)

-- ---- below the turn

-- where the way is clear, without an entry and with a hop of the set inherited, nothing changes on it
clear_entry : (b : Bool) (p : List Bool) (d : ℕ) (f : List Bool → ℕ) (T : Table) (g : ℕ) → is_clear (b ∷ p) (suc d) T ≡ true → root T ≡ None → is_allowed g (allowed_at (suc d) f T (b ∷ p)) ≡ true → way_entry (b ∷ p) (suc d) f T g ≡ None
clear_entry b p d f T g c r i =
    ap (λ (x : Bool). cond x (new_entry (allowed_at (suc d) f T (b ∷ p)) (root T) g) (root T)) c
    ∙ (ap (λ o. new_entry (allowed_at (suc d) f T (b ∷ p)) o g) r ∙ no_entry (allowed_at (suc d) f T (b ∷ p)) g i)

pub kept_clear : (p : List Bool) (d : ℕ) (f : List Bool → ℕ) (T : Table) (g : ℕ) → length p ≤ d → is_clear p d T ≡ true → root T ≡ None → is_allowed g (allowed_at d f T p) ≡ true → (q : List Bool) → begins p q ≡ false → entry_at q (pass_to p d f T g) ≡ entry_at q T
unfolding pass_to
kept_clear [] d f T g l c r i q n = absurd cc
kept_clear (b ∷ p) zero f T g l c r i q n = absurd (omega arith)
kept_clear (b ∷ p) (suc d) f T g l c r i q n =
    let o = way_entry (b ∷ p) (suc d) f T g in
    let e : o ≡ None = clear_entry b p d f T g c r i in
    let k = clear_parts b p d T c in
    let L = pass_to p d (side b f) (half b T) (inherit o g) in
    let M = half (not b) T in
    by_bit b (λ q. begins (b ∷ p) q ≡ false → entry_at q (join_by b o L M) ≡ entry_at q T)
    (λ m. root_by b o L M ∙ (e ∙ sym r))
    (λ s m. half_entry b s o L M ∙ (ap (λ x. entry_at s (pass_to p d (side b f) (half b T) (inherit x g))) e
    ∙ kept_clear p d (side b f) (half b T) g (omega (arith, l)) k.rest k.bare (ap (is_allowed g) (sym (set_on b p d f T)) ∙ i) s (sym (begins_same b p s) ∙ m)))
    (λ s m. other_entry b s o L M)
    q n

pub within_clear : (p : List Bool) (d : ℕ) (f : List Bool → ℕ) (T : Table) (g : ℕ) → length p ≤ d → is_clear p d T ≡ true → root T ≡ None → is_allowed g (allowed_at d f T p) ≡ true
    → cut p (pass_to p d f T g) ≡ near_of (d - length p) (λ a. f (p ++ a)) (cut p T) g
unfolding pass_to
within_clear [] d f T g l c r i = let e : d ≡ d - 0 = omega arith in ap (λ n. near_of n f T g) e
within_clear (b ∷ p) zero f T g l c r i = absurd (omega arith)
within_clear (b ∷ p) (suc d) f T g l c r i =
    let o = way_entry (b ∷ p) (suc d) f T g in
    let e : o ≡ None = clear_entry b p d f T g c r i in
    let k = clear_parts b p d T c in
    let L = pass_to p d (side b f) (half b T) (inherit o g) in
    let z : d - length p ≡ suc d - suc (length p) = omega arith in
    ap (cut p) (half_by b o L (half (not b) T))
    ∙ (ap (λ x. cut p (pass_to p d (side b f) (half b T) (inherit x g))) e
    ∙ (within_clear p d (side b f) (half b T) g (omega (arith, l)) k.rest k.bare (ap (is_allowed g) (sym (set_on b p d f T)) ∙ i)
    ∙ ap (λ n. near_of n (λ a. f (b ∷ (p ++ a))) (cut p (half b T)) g) z))

-- ---- at the turn and above it

-- what a region comes to give in which the way is clear
abbrev turned : List Bool → ℕ → (List Bool → ℕ) → Table → ℕ → ℕ
turned p d f T h = inherit (new_entry (allowed_at d f T p) (root T) h) h

-- what comes to the next region where the way is clear
turned_held : (b : Bool) (p : List Bool) (d : ℕ) (f : List Bool → ℕ) (T : Table) (h : ℕ) → is_allowed (turned (b ∷ p) (suc d) f T h) (allowed_at d (side b f) (half b T) p) ≡ true
turned_held b p d f T h = ap (is_allowed (turned (b ∷ p) (suc d) f T h)) (sym (set_on b p d f T)) ∙ holds_new (allowed_at (suc d) f T (b ∷ p)) (root T) h (set_has (b ∷ p) (suc d) f T)

way_clear : (p : List Bool) (d : ℕ) (f : List Bool → ℕ) (T : Table) (h : ℕ) → is_clear p d T ≡ true → way_entry p d f T h ≡ new_entry (allowed_at d f T p) (root T) h
way_clear p d f T h c = ap (λ (x : Bool). cond x (new_entry (allowed_at d f T p) (root T) h) (root T)) c

way_open : (p : List Bool) (d : ℕ) (f : List Bool → ℕ) (T : Table) (h : ℕ) → is_clear p d T ≡ false → way_entry p d f T h ≡ root T
way_open p d f T h c = ap (λ (x : Bool). cond x (new_entry (allowed_at d f T p) (root T) h) (root T)) c

pub turn_clear : (b : Bool) (p : List Bool) (d : ℕ) (T : Table) → is_clear (b ∷ p) (suc d) T ≡ true → turn (b ∷ p) (suc d) T ≡ []
unfolding turn
turn_clear b p d T c = ap (λ (x : Bool). cond x [] (b ∷ turn p d (half b T))) c

pub turn_open : (b : Bool) (p : List Bool) (d : ℕ) (T : Table) → is_clear (b ∷ p) (suc d) T ≡ false → turn (b ∷ p) (suc d) T ≡ b ∷ turn p d (half b T)
unfolding turn
turn_open b p d T c = ap (λ (x : Bool). cond x [] (b ∷ turn p d (half b T))) c

pub comes_clear : (b : Bool) (p : List Bool) (d : ℕ) (f : List Bool → ℕ) (T : Table) (h : ℕ) → is_clear (b ∷ p) (suc d) T ≡ true → comes_to (b ∷ p) (suc d) f T h ≡ turned (b ∷ p) (suc d) f T h
unfolding comes_to
comes_clear b p d f T h c = ap (λ (x : Bool). cond x (turned (b ∷ p) (suc d) f T h) (comes_to p d (side b f) (half b T) (inherit (root T) h))) c

pub comes_open : (b : Bool) (p : List Bool) (d : ℕ) (f : List Bool → ℕ) (T : Table) (h : ℕ) → is_clear (b ∷ p) (suc d) T ≡ false → comes_to (b ∷ p) (suc d) f T h ≡ comes_to p d (side b f) (half b T) (inherit (root T) h)
unfolding comes_to
comes_open b p d f T h c = ap (λ (x : Bool). cond x (turned (b ∷ p) (suc d) f T h) (comes_to p d (side b f) (half b T) (inherit (root T) h))) c

-- nothing changes outside p but at the turn
pub kept_off : (p : List Bool) (d : ℕ) (f : List Bool → ℕ) (T : Table) (h : ℕ) → length p ≤ d → (q : List Bool) → begins p q ≡ false → q ≢ turn p d T → entry_at q (pass_to p d f T h) ≡ entry_at q T
unfolding pass_to
kept_off [] d f T h l q n x = absurd cc
kept_off (b ∷ p) zero f T h l q n x = absurd (omega arith)
kept_off (b ∷ p) (suc d) f T h l q n x =
    by_clear (is_clear (b ∷ p) (suc d) T) refl (λ s m y. kept_off p d (side b f) (half b T) (inherit (root T) h) (omega (arith, l)) s m y)
  where
    o : Option ℕ
    o = way_entry (b ∷ p) (suc d) f T h

    L : Table
    L = pass_to p d (side b f) (half b T) (inherit o h)

    by_clear : (c : Bool) → is_clear (b ∷ p) (suc d) T ≡ c
        → ((s : List Bool) → begins p s ≡ false → s ≢ turn p d (half b T) → entry_at s (pass_to p d (side b f) (half b T) (inherit (root T) h)) ≡ entry_at s (half b T))
        → entry_at q (join_by b o L (half (not b) T)) ≡ entry_at q T
    by_clear true c ih =
        let k = clear_parts b p d T c in
        by_bit b (λ q. begins (b ∷ p) q ≡ false → q ≢ turn (b ∷ p) (suc d) T → entry_at q (join_by b o L (half (not b) T)) ≡ entry_at q T)
        (λ m y. absurd (y (sym (turn_clear b p d T c))))
        (λ s m y. half_entry b s o L (half (not b) T) ∙ (ap (λ z. entry_at s (pass_to p d (side b f) (half b T) (inherit z h))) (way_clear (b ∷ p) (suc d) f T h c)
        ∙ kept_clear p d (side b f) (half b T) (turned (b ∷ p) (suc d) f T h) (omega (arith, l)) k.rest k.bare (turned_held b p d f T h) s (sym (begins_same b p s) ∙ m)))
        (λ s m y. other_entry b s o L (half (not b) T))
        q n x
    by_clear false c ih =
        by_bit b (λ q. begins (b ∷ p) q ≡ false → q ≢ turn (b ∷ p) (suc d) T → entry_at q (join_by b o L (half (not b) T)) ≡ entry_at q T)
        (λ m y. root_by b o L (half (not b) T) ∙ way_open (b ∷ p) (suc d) f T h c)
        (λ s m y. half_entry b s o L (half (not b) T) ∙ (ap (λ z. entry_at s (pass_to p d (side b f) (half b T) (inherit z h))) (way_open (b ∷ p) (suc d) f T h c)
        ∙ ih s (sym (begins_same b p s) ∙ m) (λ e. y (ap (λ t. b ∷ t) e ∙ sym (turn_open b p d T c)))))
        (λ s m y. other_entry b s o L (half (not b) T))
        q n x

pub above_nil : (T : Table) (h : ℕ) → above [] T h ≡ h
above_nil T h = ap (λ x. hop_or h (longest x)) (none_above T)

-- the set makes r's entry in U, of that in T and what is inherited there
abbrev pub Turned : Allowed → Table → ℕ → Table → List Bool → Type 0
Turned S T h U r = entry_at r U ≡ new_entry S (entry_at r T) (above r T h)

-- at the turn, where that isn't p, stands what p's set makes of it
pub at_turn : (p : List Bool) (d : ℕ) (f : List Bool → ℕ) (T : Table) (h : ℕ) → length p ≤ d → begins p (turn p d T) ≡ false
    → entry_at (turn p d T) (pass_to p d f T h) ≡ new_entry (allowed_at d f T p) (entry_at (turn p d T) T) (above (turn p d T) T h)
unfolding pass_to
at_turn [] d f T h l n = absurd cc
at_turn (b ∷ p) zero f T h l n = absurd (omega arith)
at_turn (b ∷ p) (suc d) f T h l n =
    by_clear (is_clear (b ∷ p) (suc d) T) refl (λ m. at_turn p d (side b f) (half b T) (inherit (root T) h) (omega (arith, l)) m)
  where
    o : Option ℕ
    o = way_entry (b ∷ p) (suc d) f T h

    L : Table
    L = pass_to p d (side b f) (half b T) (inherit o h)

    by_clear : (c : Bool) → is_clear (b ∷ p) (suc d) T ≡ c
        → (begins p (turn p d (half b T)) ≡ false
        → entry_at (turn p d (half b T)) (pass_to p d (side b f) (half b T) (inherit (root T) h))
        ≡ new_entry (allowed_at d (side b f) (half b T) p) (entry_at (turn p d (half b T)) (half b T)) (above (turn p d (half b T)) (half b T) (inherit (root T) h)))
        → Turned (allowed_at (suc d) f T (b ∷ p)) T h (join_by b o L (half (not b) T)) (turn (b ∷ p) (suc d) T)
    by_clear true c ih =
        rw (turn_clear b p d T c)
        (root_by b o L (half (not b) T) ∙ (way_clear (b ∷ p) (suc d) f T h c ∙ ap (new_entry (allowed_at (suc d) f T (b ∷ p)) (root T)) (sym (above_nil T h))))
    by_clear false c ih =
        let r = turn p d (half b T) in
        let m : begins p r ≡ false = sym (begins_same b p r) ∙ (ap (begins (b ∷ p)) (sym (turn_open b p d T c)) ∙ n) in
        rw (turn_open b p d T c)
        (half_entry b r o L (half (not b) T)
        ∙ (ap (λ z. entry_at r (pass_to p d (side b f) (half b T) (inherit z h))) (way_open (b ∷ p) (suc d) f T h c)
        ∙ (ih m
        ∙ (ap (λ S. new_entry S (entry_at r (half b T)) (above r (half b T) (inherit (root T) h))) (sym (set_on b p d f T))
        ∙ ap (new_entry (allowed_at (suc d) f T (b ∷ p)) (entry_at r (half b T))) (sym (above_cut b r T h))))))

-- within p it is the pass over p's region alone
pub at_within : (p : List Bool) (d : ℕ) (f : List Bool → ℕ) (T : Table) (h : ℕ) → length p ≤ d
    → cut p (pass_to p d f T h) ≡ near_of (d - length p) (λ a. f (p ++ a)) (cut p T) (comes_to p d f T h)
unfolding pass_to comes_to
at_within [] d f T h l = let e : d ≡ d - 0 = omega arith in ap (λ n. near_of n f T h) e
at_within (b ∷ p) zero f T h l = absurd (omega arith)
at_within (b ∷ p) (suc d) f T h l =
    ap (cut p) (half_by b o (pass_to p d (side b f) (half b T) (inherit o h)) (half (not b) T))
    ∙ (by_clear (is_clear (b ∷ p) (suc d) T) refl (at_within p d (side b f) (half b T) (inherit (root T) h) (omega (arith, l)))
    ∙ (let z : d - length p ≡ suc d - suc (length p) = omega arith in ap (λ n. near_of n (λ a. f (b ∷ (p ++ a))) (cut p (half b T)) (comes_to (b ∷ p) (suc d) f T h)) z))
  where
    o : Option ℕ
    o = way_entry (b ∷ p) (suc d) f T h

    by_clear : (c : Bool) → is_clear (b ∷ p) (suc d) T ≡ c
        → cut p (pass_to p d (side b f) (half b T) (inherit (root T) h)) ≡ near_of (d - length p) (λ a. f (b ∷ (p ++ a))) (cut p (half b T)) (comes_to p d (side b f) (half b T) (inherit (root T) h))
        → cut p (pass_to p d (side b f) (half b T) (inherit o h)) ≡ near_of (d - length p) (λ a. f (b ∷ (p ++ a))) (cut p (half b T)) (comes_to (b ∷ p) (suc d) f T h)
    by_clear true c ih =
        let k = clear_parts b p d T c in
        ap (λ z. cut p (pass_to p d (side b f) (half b T) (inherit z h))) (way_clear (b ∷ p) (suc d) f T h c)
        ∙ (within_clear p d (side b f) (half b T) (turned (b ∷ p) (suc d) f T h) (omega (arith, l)) k.rest k.bare (turned_held b p d f T h)
        ∙ ap (near_of (d - length p) (λ a. f (b ∷ (p ++ a))) (cut p (half b T))) (sym (comes_clear b p d f T h c)))
    by_clear false c ih =
        ap (λ z. cut p (pass_to p d (side b f) (half b T) (inherit z h))) (way_open (b ∷ p) (suc d) f T h c)
        ∙ (ih ∙ ap (near_of (d - length p) (λ a. f (b ∷ (p ++ a))) (cut p (half b T))) (sym (comes_open b p d f T h c)))
