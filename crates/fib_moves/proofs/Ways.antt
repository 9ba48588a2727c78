-- The way down to an event's prefix.
use Rattle.std.proofs.Common.{◌≡◌, ◌≢◌, ℕ, suc, ◌+◌, ◌-◌, ◌≤◌, List, [], ◌∷◌, ◌++◌, Bool, true, false, not, cond, None, length, refl, sym, ap, subst, ◌∙◌, arith, append_assoc, length-append, nat_eq}
use Rattle.std.specs.Int.{bit_at}
use Rattle.table_model.specs.Bits.{bits_of}
use Rattle.table_model.specs.Address.{Prefix}
use Rattle.table_model.specs.Width.{width}
use Rattle.table_model.specs.Halves.{half_at}
use Rattle.table_model.specs.declared.family.Family.{Family}
use Rattle.table_model.specs.Table.{Table, IsTable, root, half, inherit, cut}
use Rattle.table_model.specs.Regions.{entry_at, above}
use Rattle.table_model.proofs.Above.{above_cut}
use Rattle.table_model.proofs.Patch.{cut_cut}
use Rattle.fib_addr.specs.Views.{prefix_as}
use Rattle.fib_addr.specs.declared.prefix.Prefix as code
use Rattle.orig_tree.specs.Cover.{SomeGets}
use Rattle.orig_tree.specs.Walk.{behind}
use Rattle.orig_tree.specs.Spots.{EachFixed}
use Rattle.orig_tree.specs.Views.{FitsWidth}
use Rattle.orig_tree.proofs.Paths.{no_bits, first_bit}
use Rattle.table_model.proofs.BitLaws.{length-bits_of}
use Rattle.fib_addr.proofs.Parts.{length_prefix}
use Rattle.std.specs.Prelude.{is_some, ◌||◌}
use Rattle.orig_tree.proofs.Telling.{half_longer}
use Rattle.moves_model.specs.Way.{fills, is_blocked, turn, turn_by}
use Rattle.moves_model.proofs.Entries.{above_nil}
use Rattle.moves_model.proofs.Within.{covers_all, covers_not, above_below}
use Rattle.moves_model.proofs.Loop.{turn_start, turn_step, turn_end}
use Rattle.fib_moves.specs.declared.way.Way.{Way}
use Rattle.fib_moves.specs.declared.way.LastBlocked.{LastBlocked}
use Rattle.fib_moves.specs.Ways.{turn_after, IsStep, IsWay, IsGone}

pub filled_is : (b : Bool) (d : ℕ) (T : Table) → IsTable d T → (b ≡ true → FitsWidth d T → EachFixed d T) → (b ≡ false → FitsWidth d T → SomeGets d T None) → b ≡ fills d T
filled_is true d T t x y = sym (covers_all d T (x refl t.1))
filled_is false d T t x y = let z = y refl t.1 in sym (covers_not d T z.0 z.1 z.2)

-- ---- one step

record IsTurn (f : Family) (T : Table) (t : LastBlocked) : Type 0 where
  old : t.old ≡ entry_at (prefix_as t.prefix).bits T
  inherited : t.inherited ≡ above (prefix_as t.prefix).bits T 0
  family : t.prefix.family ≡ f

module _ (f : Family) (R T : Table) (q : List Bool) (b : Bool) (x y : Way) (w : IsWay f R T q x) (s : IsStep b x y) where
  at_is : prefix_as y.at ≡ record { family = f; bits = q ++ (b ∷ []) }
  at_is = s.at ∙ ap (half_at b) w.at

  routes_is : (behind y.place.node).routes ≡ cut (q ++ (b ∷ [])) R
  routes_is = s.routes ∙ (ap (half b) w.routes ∙ sym (cut_cut q (b ∷ []) R))

  entries_is : y.place.region.entries ≡ cut (q ++ (b ∷ [])) T
  entries_is = s.entries ∙ (ap (half b) w.entries ∙ sym (cut_cut q (b ∷ []) T))

  comes_is : y.comes ≡ above (q ++ (b ∷ [])) T 0
  comes_is =
      s.comes
      ∙ (ap (λ L. inherit (root L) x.comes) w.entries
      ∙ (ap (inherit (root (cut q T))) w.comes
      ∙ (sym (above_nil (half b (cut q T)) (inherit (root (cut q T)) (above q T 0)))
      ∙ (sym (above_cut b [] (cut q T) (above q T 0)) ∙ sym (above_below q (b ∷ []) T 0)))))

  turned : (c : Bool) → IsTurn f T (turn_after b c x y)
  turned true = record {
    old = ap root (entries_is ∙ ap (λ (p : Prefix). cut p.bits T) (sym at_is));
    inherited = comes_is ∙ ap (λ (p : Prefix). above p.bits T 0) (sym at_is);
    family = ap (λ (p : Prefix). p.family) at_is;
  }
  turned false = record { old = w.old; inherited = w.inherited; family = w.family }

  turned_bits : (c : Bool) → (prefix_as (turn_after b c x y).prefix).bits ≡ cond c (q ++ (b ∷ [])) (prefix_as x.turn.prefix).bits
  turned_bits true = ap (λ (p : Prefix). p.bits) at_is
  turned_bits false = refl

  longer : y.at.len ≡ x.at.len + 1
  longer = half_longer x.at y.at b s.at

  bits_is : y.place.region.bits + y.at.len ≡ width f
  bits_is = omega (arith, longer, s.bits, w.bits)

  new_turn : IsTurn f T y.turn
  new_turn = subst (λ (t : LastBlocked). IsTurn f T t) (sym s.turn) (turned (is_blocked b y.place.region.bits x.place.region.entries))

  turn_goes : (r : List Bool) (d : ℕ) → d + y.at.len ≡ width f → turn_by (q ++ (b ∷ [])) (prefix_as y.turn.prefix).bits r d (cut (q ++ (b ∷ [])) T) ≡ turn_by [] [] ((q ++ (b ∷ [])) ++ r) (width f) T
  turn_goes r d e =
      let n : y.place.region.bits ≡ d = omega (arith, e, bits_is) in
      let bits : (prefix_as y.turn.prefix).bits ≡ cond (is_blocked b d (cut q T)) (q ++ (b ∷ [])) (prefix_as x.turn.prefix).bits =
      ap (λ (t : LastBlocked). (prefix_as t.prefix).bits) s.turn
      ∙ (turned_bits (is_blocked b y.place.region.bits x.place.region.entries)
      ∙ (ap (λ k. cond (is_blocked b k x.place.region.entries) (q ++ (b ∷ [])) (prefix_as x.turn.prefix).bits) n ∙ ap (λ L. cond (is_blocked b d L) (q ++ (b ∷ [])) (prefix_as x.turn.prefix).bits) w.entries)) in
      ap (λ z. turn_by (q ++ (b ∷ [])) z r d (cut (q ++ (b ∷ [])) T)) bits
      ∙ (ap (turn_by (q ++ (b ∷ [])) (cond (is_blocked b d (cut q T)) (q ++ (b ∷ [])) (prefix_as x.turn.prefix).bits) r d) (cut_cut q (b ∷ []) T)
      ∙ (sym (turn_step q (prefix_as x.turn.prefix).bits b r d (cut q T))
      ∙ (w.turn (b ∷ r) (suc d) (omega (arith, e, longer)) ∙ ap (λ z. turn_by [] [] z (width f) T) (sym (append_assoc q (b ∷ []) r)))))

  pub step_way : IsWay f R T (q ++ (b ∷ [])) y
  step_way = record {
    place = s.place;
    at = at_is;
    bits = bits_is;
    routes = routes_is;
    entries = entries_is;
    comes = comes_is;
    old = new_turn.old;
    inherited = new_turn.inherited;
    family = new_turn.family;
    turn = turn_goes;
  }

pub gone_on : (f : Family) (R T : Table) (p : List Bool) (left q : ℕ) (b : Bool) (x y : Way) → left ≢ 0 → b ≡ nat_eq (bit_at q (left - 1)) 1 → IsGone f R T p (bits_of left q) x → IsStep b x y → IsGone f R T p (bits_of (left - 1) q) y
gone_on f R T p left q b x y n e g s = record {
  front = g.front ++ (b ∷ []);
  way = step_way f R T g.front b x y g.way s;
  rest = append_assoc g.front (b ∷ []) (bits_of (left - 1) q) ∙ (ap (λ z. g.front ++ z) (sym (first_bit left q b n e)) ∙ g.rest);
}

append_none : (p : List Bool) → p ++ [] ≡ p
append_none [] = refl
append_none (b ∷ p) = ap (λ z. b ∷ z) (append_none p)

pub gone_all : (f : Family) (R T : Table) (p r : List Bool) (left q : ℕ) (x : Way) → left ≡ 0 → p ≡ r → IsGone f R T p (bits_of left q) x → IsWay f R T r x
gone_all f R T p r left q x e v g =
    subst (λ (z : List Bool). IsWay f R T z x) (sym (append_none g.front) ∙ (ap (λ z. g.front ++ z) (sym (no_bits left q e)) ∙ (g.rest ∙ v))) g.way

-- the turn at the way's end
pub way_turn : (f : Family) (R T : Table) (p : List Bool) (x : Way) → IsWay f R T p x → (prefix_as x.turn.prefix).bits ≡ turn p (width f) T
way_turn f R T p x w =
    sym (turn_end p (prefix_as x.turn.prefix).bits x.place.region.bits (cut p T))
    ∙ (w.turn [] x.place.region.bits w.bits ∙ (ap (λ z. turn_by [] [] z (width f) T) (append_none p) ∙ sym (turn_start p (width f) T)))

-- ---- what the code tells

pub breaks_is : (b r : Bool) (L M T : Table) (d e : ℕ) → r ≡ (is_some (root L) || not (fills e M)) → L ≡ half b T → M ≡ half (not b) T → e ≡ d → r ≡ is_blocked b d T
breaks_is b r L M T d e x l m n =
    x ∙ (ap (λ A. is_some (root A) || not (fills e M)) l ∙ (ap (λ A. is_some (root (half b T)) || not (fills e A)) m ∙ ap (λ k. is_some (root (half b T)) || not (fills k (half (not b) T))) n))

pub turn_told : (b c r : Bool) (x y : Way) → r ≡ c → r ≡ is_blocked b y.place.region.bits x.place.region.entries → y.turn ≡ turn_after b c x y → y.turn ≡ turn_after b (is_blocked b y.place.region.bits x.place.region.entries) x y
turn_told b c r x y e f t = t ∙ ap (λ z. turn_after b z x y) (sym e ∙ f)

pub gone_more : (f : Family) (R T : Table) (p : List Bool) (left q : ℕ) (x : Way) → length p ≤ width f → left ≢ 0 → IsGone f R T p (bits_of left q) x → x.place.region.bits ≢ 0
gone_more f R T p left q x l n g z =
    let a : x.at.len ≡ length g.front = sym (length_prefix (width x.at.family) x.at.len x.at.bits x.at.fits) ∙ ap (λ (p : Prefix). length p.bits) g.way.at in
    let m : length g.front + left ≡ length p = ap (λ k. length g.front + k) (sym (length-bits_of left q)) ∙ (sym (length-append g.front (bits_of left q)) ∙ ap length g.rest) in
    n (omega (arith, a, m, l, z, g.way.bits))

pub long_enough : (f : Family) (p : code.Prefix) (q : ℕ) → p.family ≡ f → length (bits_of p.len q) ≤ width f
long_enough f p q e = omega (arith, length-bits_of p.len q, p.fits, ap width e)
