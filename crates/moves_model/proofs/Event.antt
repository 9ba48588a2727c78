-- The nearest table after one event.
use Rattle.std.proofs.Common.{◌≡◌, ◌≢◌, ◌⊎◌, inl, inr, ℕ, zero, suc, ◌-◌, ◌≤◌, List, [], ◌∷◌, ◌++◌, Bool, true, false, cond, length, drop, refl, sym, ap, ◌∙◌, arith}
use Rattle.table_model.specs.Bits.{begins}
use Rattle.table_model.specs.Table.{Table, IsTable, Alike, root, half, inherit, cut}
use Rattle.table_model.specs.Regions.{entry_at, above, SameEntries, SameOutside}
use Rattle.table_model.specs.Sets.{side, answers}
use Rattle.table_model.proofs.Above.{above_cut}
use Rattle.table_model.proofs.Patch.{cut_cut, begins_same, begins_trans}
use Rattle.table_model.proofs.Order.{answers_outside}
use Rattle.moves_model.specs.Sets.{Allowed, new_entry, near_of}
use Rattle.moves_model.specs.Nearest.{nearest}
use Rattle.moves_model.specs.Way.{is_clear, allowed_at, turn, pass_to, comes_to, AlikeBeside, turn_entry, event_hop}
use Rattle.moves_model.proofs.Way.{old, same_pass, set_on}
use Rattle.moves_model.proofs.Entries.{kept_off, at_turn, at_within, turn_clear, turn_open, comes_clear, comes_open, above_nil}

-- ---- the turn is on the way

pub turn_on : (p : List Bool) (d : ℕ) (T : Table) → begins (turn p d T) p ≡ true
unfolding turn
turn_on [] d T = refl
turn_on (b ∷ p) zero T = refl
turn_on (b ∷ p) (suc d) T = by_clear (is_clear (b ∷ p) (suc d) T) (turn_on p d (half b T))
  where
    by_clear : (c : Bool) → begins (turn p d (half b T)) p ≡ true → begins (cond c [] (b ∷ turn p d (half b T))) (b ∷ p) ≡ true
    by_clear true e = refl
    by_clear false e = begins_same b (turn p d (half b T)) p ∙ e

-- what comes to p, told from the turn r
abbrev Landed : Allowed → Table → ℕ → List Bool → List Bool → ℕ
Landed S T h p r = cond (begins p r) (above r T h) (inherit (new_entry S (entry_at r T) (above r T h)) (above r T h))

begins_nil : (b : Bool) (p : List Bool) → begins (b ∷ p) [] ≡ false
begins_nil true p = refl
begins_nil false p = refl

landed_root : (S : Allowed) (T : Table) (h : ℕ) (b : Bool) (p : List Bool) → Landed S T h (b ∷ p) [] ≡ inherit (new_entry S (root T) h) h
landed_root S T h b p =
    ap (λ (x : Bool). cond x (above [] T h) (inherit (new_entry S (root T) (above [] T h)) (above [] T h))) (begins_nil b p)
    ∙ ap (λ x. inherit (new_entry S (root T) x) x) (above_nil T h)

landed_on : (S : Allowed) (T : Table) (h : ℕ) (b : Bool) (p r : List Bool) → Landed S T h (b ∷ p) (b ∷ r) ≡ Landed S (half b T) (inherit (root T) h) p r
landed_on S T h b p r =
    ap (λ (x : Bool). cond x (above (b ∷ r) T h) (inherit (new_entry S (entry_at (b ∷ r) T) (above (b ∷ r) T h)) (above (b ∷ r) T h))) (begins_same b p r)
    ∙ ap (λ x. cond (begins p r) x (inherit (new_entry S (entry_at r (half b T)) x) x)) (above_cut b r T h)

pub comes_is : (p : List Bool) (d : ℕ) (f : List Bool → ℕ) (T : Table) (h : ℕ) → length p ≤ d → comes_to p d f T h ≡ Landed (allowed_at d f T p) T h p (turn p d T)
unfolding comes_to turn
comes_is [] d f T h l = sym (above_nil T h)
comes_is (b ∷ p) zero f T h l = absurd (omega arith)
comes_is (b ∷ p) (suc d) f T h l = by_clear (is_clear (b ∷ p) (suc d) T) refl (comes_is p d (side b f) (half b T) (inherit (root T) h) (omega (arith, l)))
  where
    S : Allowed
    S = allowed_at (suc d) f T (b ∷ p)

    by_clear : (c : Bool) → is_clear (b ∷ p) (suc d) T ≡ c
        → comes_to p d (side b f) (half b T) (inherit (root T) h) ≡ Landed (allowed_at d (side b f) (half b T) p) (half b T) (inherit (root T) h) p (turn p d (half b T))
        → comes_to (b ∷ p) (suc d) f T h ≡ Landed (allowed_at (suc d) f T (b ∷ p)) T h (b ∷ p) (turn (b ∷ p) (suc d) T)
    by_clear true c ih = comes_clear b p d f T h c ∙ (sym (landed_root (allowed_at (suc d) f T (b ∷ p)) T h b p) ∙ ap (Landed (allowed_at (suc d) f T (b ∷ p)) T h (b ∷ p)) (sym (turn_clear b p d T c)))
    by_clear false c ih =
        let r = turn p d (half b T) in
        comes_open b p d f T h c
        ∙ (ih
        ∙ (ap (λ S. Landed S (half b T) (inherit (root T) h) p r) (sym (set_on b p d f T))
        ∙ (sym (landed_on (allowed_at (suc d) f T (b ∷ p)) T h b p r)
        ∙ ap (Landed (allowed_at (suc d) f T (b ∷ p)) T h (b ∷ p)) (sym (turn_open b p d T c)))))

-- ---- the whole

pub as_pass : (w : ℕ) (R T : Table) (p : List Bool) → length p ≤ w → IsTable w T → AlikeBeside w p R T → SameEntries (nearest w R T) (pass_to p w (answers R []) T 0)
as_pass w R T p l t y q = same_pass p w (answers R []) T 0 0 l t y (old refl) q

pub event_off : (w : ℕ) (R T : Table) (p q : List Bool) → length p ≤ w → IsTable w T → AlikeBeside w p R T → begins p q ≡ false → q ≢ turn p w T → entry_at q (nearest w R T) ≡ entry_at q T
event_off w R T p q l t y n x = as_pass w R T p l t y q ∙ kept_off p w (answers R []) T 0 l q n x

pub event_turn : (w : ℕ) (R T : Table) (p : List Bool) → length p ≤ w → IsTable w T → AlikeBeside w p R T → begins p (turn p w T) ≡ false → entry_at (turn p w T) (nearest w R T) ≡ turn_entry w R p T
event_turn w R T p l t y n = as_pass w R T p l t y (turn p w T) ∙ at_turn p w (answers R []) T 0 l n

pub event_within : (w : ℕ) (R T : Table) (p : List Bool) → length p ≤ w → IsTable w T → AlikeBeside w p R T → SameEntries (cut p (nearest w R T)) (near_of (w - length p) (answers R p) (cut p T) (event_hop w R p T))
event_within w R T p l t y q =
    ap root (sym (cut_cut p q (nearest w R T)))
    ∙ (as_pass w R T p l t y (p ++ q)
    ∙ (ap root (cut_cut p q (pass_to p w (answers R []) T 0))
    ∙ (ap (entry_at q) (at_within p w (answers R []) T 0 l)
    ∙ ap (λ h. entry_at q (near_of (w - length p) (answers R p) (cut p T) h)) (comes_is p w (answers R []) T 0 l))))

-- ---- where it changed

begins_self : (p : List Bool) → begins p p ≡ true
begins_self [] = refl
begins_self (b ∷ p) = begins_same b p p ∙ begins_self p

never : (b : Bool) → b ≡ true → b ≡ false → ⊥
never b e n = cc

not_true : (b : Bool) → (b ≡ true → ⊥) → b ≡ false
not_true true n = absurd (n refl)
not_true false n = refl

pub event_mark : (w : ℕ) (R T : Table) (p : List Bool) → length p ≤ w → IsTable w T → AlikeBeside w p R T → SameOutside (turn p w T) (nearest w R T) T
event_mark w R T p l t y q n =
    event_off w R T p q l t y
    (not_true (begins p q) (λ e. never (begins (turn p w T) q) (begins_trans (turn p w T) p q (turn_on p w T) e) n))
    (λ e. never (begins (turn p w T) q) (ap (begins (turn p w T)) e ∙ begins_self (turn p w T)) n)

-- two lists of bits are one or not
pub same_or : (q r : List Bool) → (q ≡ r) ⊎ (q ≢ r)
same_or [] [] = inl refl
same_or [] (b ∷ r) = inr (λ e. cc)
same_or (b ∷ q) [] = inr (λ e. cc)
same_or (true ∷ q) (true ∷ r) = elim (same_or q r) [
  | inl e ↦ inl (ap (λ x. true ∷ x) e)
  | inr n ↦ inr (λ e. n (ap (drop 1) e))
]
same_or (false ∷ q) (false ∷ r) = elim (same_or q r) [
  | inl e ↦ inl (ap (λ x. false ∷ x) e)
  | inr n ↦ inr (λ e. n (ap (drop 1) e))
]
same_or (true ∷ q) (false ∷ r) = inr (λ e. cc)
same_or (false ∷ q) (true ∷ r) = inr (λ e. cc)

-- all changes are within p if the turn's entry stays
pub event_kept : (w : ℕ) (R T : Table) (p : List Bool) → length p ≤ w → IsTable w T → AlikeBeside w p R T → entry_at (turn p w T) (nearest w R T) ≡ entry_at (turn p w T) T → SameOutside p (nearest w R T) T
event_kept w R T p l t y k q n = elim (same_or q (turn p w T)) [
  | inl x ↦ ap (λ r. entry_at r (nearest w R T)) x ∙ (k ∙ ap (λ r. entry_at r T) (sym x))
  | inr x ↦ event_off w R T p q l t y n x
]

-- T alike to the routes before a change within p is alike to those after it beside p
pub alike_beside : (w : ℕ) (R S T : Table) (p : List Bool) → Alike w R T → SameOutside p R S → AlikeBeside w p S T
alike_beside w R S T p e s a l n = sym (e a l) ∙ answers_outside p a R S 0 n s
