-- Both live tries as one of them is made ready, stored, ended or cancelled.
use Rattle.std.proofs.Common.{◌≡◌, ℕ, suc, ◌+◌, ◌^◌, ◌<◌, ◌≤◌, List, Bool, true, false, Option, Some, None, Result, Ok, Err, refl, sym, ap, ◌∙◌, arith, subst}
use Rattle.std.specs.Prelude.{IfOk, OnOk, OnErr}
use Rattle.table_model.specs.Address.{same_family}
use Rattle.table_model.specs.declared.family.Family.{Family}
use Rattle.table_model.specs.declared.family.Family.TheVariants.{V4, V6}
use Rattle.table_model.specs.Entries.{Entries}
use Rattle.route_model.specs.Events.{Elem}
use Rattle.fib_addr.specs.Answers.{all_answers}
use Rattle.poptrie_set.specs.declared.trie_set.Oldest.{Oldest}
use Rattle.poptrie_build.specs.declared.filling.TrieFull.{TrieFull}
use Rattle.poptrie_update.specs.Lives.{Living, Shows, HasShapeOf, is_pending, made_of}
use Rattle.poptrie_update.specs.Pendings.{IsTokenOf}
use Rattle.poptrie_update.specs.Prepares.{IsNotReady}
use Rattle.poptrie_update.specs.declared.pending.NotReady.{NotReady}
use Rattle.poptrie_update.specs.declared.pending.NotReady.TheVariants as why
use Rattle.poptrie_update.specs.declared.pending.Pending.{Pending}
use Rattle.route_tries.specs.Sizes.{Sizes, shortage, sizes_as}
use Rattle.route_tries.specs.declared.sizes.Sizes as code_sizes
use Rattle.fib_engine.specs.Held.{EngineState, engine_routes}
use Rattle.fib_engine.specs.Staged.{routes_once}
use Rattle.fib_engine.specs.Stands.{TakesElem}
use Rattle.fib_engine.specs.Tables.{only}
use Rattle.fib_router.specs.Errors.{IsHeldUp, IsSaidOf}
use Rattle.fib_router.specs.Lives.{AreLives, HasRoomIn, IsFilledWith, IsLiveOf, IsNewLive, IsPendingOf, live_of}
use Rattle.fib_router.specs.declared.error.NotBegun.{NotBegun}
use Rattle.fib_router.specs.declared.lives.Lives as code_lives
use Rattle.fib_router.proofs.Room.{not_too_much, room_alike, room_of}
use Rattle.fib_router.proofs.Through.{answers_only, begun_elsewhere, begun_of, cancelled_elsewhere, cancelled_of, ended_elsewhere, ended_of, filled_of, is_waiting, still_of, stored_of}

-- ---- room
pub places_of : (f g : Family) (z : code_sizes.Sizes) (y : Sizes) (E R : Entries) → sizes_as z ≡ y → shortage y E ≡ None → g ≡ f → R ≡ only f E → HasRoomIn g z R
places_of f g z y E R sizes fits fam is =
    subst (λ (h : Family). HasRoomIn h z R) (sym fam) (room_alike f (sizes_as z) E R (ap (λ (s : Sizes). shortage s E) sizes ∙ fits) (ap (all_answers f) is ∙ answers_only f E))

-- a trie that was filled with a family's routes
pub filled_in : (f g : Family) (z : code_sizes.Sizes) (held : EngineState) (R : Entries) (l : Living) → sizes_as z ≡ held.sizes → g ≡ f → R ≡ only f (engine_routes held) → IsFilledWith g z R l → IsLiveOf f held None l
filled_in f g z held R l sizes fam is filled =
    filled_of f z held R l (subst (λ (h : Family). IsFilledWith h z R l) fam filled) (ap (all_answers f) is ∙ answers_only f (engine_routes held)) sizes

pub new_in : (f g : Family) (z : code_sizes.Sizes) (held : EngineState) (R : Entries) (l : Living) → sizes_as z ≡ held.sizes → g ≡ f → R ≡ only f (engine_routes held) → IsFilledWith g z R l → IsNewLive f held l
new_in f g z held R l sizes fam is filled = record {
  live = filled_in f g z held R l sizes fam is filled;
  few = subst (λ (y : Sizes). y.direct ≤ 18) sizes filled.few;
  time = filled.time;
  past = filled.past;
}

-- ---- what the region of a tree answers
pub region_is : (f g h : Family) (R E : Entries) (a : List Bool → ℕ) → a ≡ all_answers g R → g ≡ f → R ≡ only f E → h ≡ f → a ≡ all_answers h E
region_is f g h R E a answers fam is live =
    answers ∙ (ap (λ (k : Family). all_answers k R) fam ∙ (ap (all_answers f) is ∙ (answers_only f E ∙ ap (λ (k : Family). all_answers k E) (sym live))))

-- ---- why one isn't made ready
pub hindered_by : (who : Oldest) (w : NotReady) (e : NotBegun) (l : Living) (L M : Entries) → IsSaidOf w e → IsNotReady who w l L M → IsHeldUp who e l L M
hindered_by who why.Memory e l L M said r = subst (λ (x : NotBegun). IsHeldUp who x l L M) (sym said) tt
hindered_by who (why.TooMuch t) e l L M said r = absurd said
hindered_by who (why.Pinned need cursor arena largest) e l L M said r = subst (λ (x : NotBegun). IsHeldUp who x l L M) (sym said) r

-- tries of the new routes have room
pub fits_now : (f : Family) (held : EngineState) (l : Living) (L M : Entries) (who : Oldest) (w : NotReady) → IsLiveOf f held None l → shortage held.sizes M ≡ None → IsNotReady who w l L M → (t : TrieFull) → w ≡ why.TooMuch t → ⊥
fits_now f held l L M who w i fits r t is =
    not_too_much f held.sizes.direct held.sizes.nodes held.sizes.leaves l.selected M t i.family i.direct i.nodes i.leaves (room_of f held.sizes M fits) (subst (λ (x : NotReady). IsNotReady who x l L M) is r)

-- ---- through begin
own_begun : (f : Family) (held : EngineState) (o : Option Elem) (l r : Living) → (o ≡ None → ⊥) → held.events + 1 < 2 ^ 64 → HasShapeOf l r → r.selected.time ≡ l.selected.time → is_pending r ≡ true → Shows r (engine_routes held) (routes_once o held) → IsLiveOf f held None l → IsLiveOf f held o r
own_begun f held None l r given few s t w sh i = absurd (given refl)
own_begun f held (Some e) l r given few s t w sh i = begun_of f held e l r few s t w sh i

other_begun : (f : Family) (held : EngineState) (o : Option Elem) (l : Living) → held.events + 1 < 2 ^ 64 → all_answers f (engine_routes held) ≡ all_answers f (routes_once o held) → IsLiveOf f held None l → IsLiveOf f held o l
other_begun f held None l few a i = i
other_begun f held (Some e) l few a i = begun_elsewhere f held e l few a i

module _ (held : EngineState) (o : Option Elem) (old : code_lives.Lives) (rest : AreLives held None old) (live : Living) where
  abbrev low : code_lives.Lives
  low = record { v4 = live; v6 = old.v6 }

  abbrev high : code_lives.Lives
  high = record { v4 = old.v4; v6 = live }

  abbrev HasToken : Pending → Type 0
  HasToken p = IsTokenOf p live × (made_of live ≡ 0)

  module _ (given : o ≡ None → ⊥) (few : held.events + 1 < 2 ^ 64) where
    pub ready_low : (r : Result Pending NotBegun) → all_answers V6 (engine_routes held) ≡ all_answers V6 (routes_once o held) → HasShapeOf old.v4 live → live.selected.time ≡ old.v4.selected.time → IfOk r HasToken → OnOk r (Shows live (engine_routes held) (routes_once o held)) → OnOk r (AreLives held o low)
    ready_low (Ok p) same s t token sh = (own_begun V4 held o old.v4 live given few s t (is_waiting p live token.0) sh rest.0, other_begun V6 held o old.v6 few same rest.1)
    ready_low (Err e) same s t token sh = tt

    pub ready_high : (r : Result Pending NotBegun) → all_answers V4 (engine_routes held) ≡ all_answers V4 (routes_once o held) → HasShapeOf old.v6 live → live.selected.time ≡ old.v6.selected.time → IfOk r HasToken → OnOk r (Shows live (engine_routes held) (routes_once o held)) → OnOk r (AreLives held o high)
    ready_high (Ok p) same s t token sh = (other_begun V4 held o old.v4 few same rest.0, own_begun V6 held o old.v6 live given few s t (is_waiting p live token.0) sh rest.1)
    ready_high (Err e) same s t token sh = tt

  pub still_low : (r : Result Pending NotBegun) → HasShapeOf old.v4 live → live.selected.time ≡ old.v4.selected.time → OnErr r (is_pending live ≡ false) → OnErr r (Shows live (engine_routes held) (engine_routes held)) → OnErr r (AreLives held None low)
  still_low (Ok p) s t q sh = tt
  still_low (Err e) s t q sh = (still_of V4 held old.v4 live s t q sh rest.0, rest.1)

  pub still_high : (r : Result Pending NotBegun) → HasShapeOf old.v6 live → live.selected.time ≡ old.v6.selected.time → OnErr r (is_pending live ≡ false) → OnErr r (Shows live (engine_routes held) (engine_routes held)) → OnErr r (AreLives held None high)
  still_high (Ok p) s t q sh = tt
  still_high (Err e) s t q sh = (rest.0, still_of V6 held old.v6 live s t q sh rest.1)

-- an event that changes no chosen hop
pub begun_both : (held : EngineState) (o : Option Elem) (t : code_lives.Lives) → held.events + 1 < 2 ^ 64 → ((f : Family) → all_answers f (engine_routes held) ≡ all_answers f (routes_once o held)) → AreLives held None t → AreLives held o t
begun_both held o t few same r = (other_begun V4 held o t.v4 few (same V4) r.0, other_begun V6 held o t.v6 few (same V6) r.1)

pub ended_both : (held new : EngineState) (e : Elem) (t : code_lives.Lives) → TakesElem e held new → is_pending t.v4 ≡ false → is_pending t.v6 ≡ false → AreLives held (Some e) t → AreLives new None t
ended_both held new e t takes q r l = (ended_elsewhere V4 held e new takes t.v4 q l.0, ended_elsewhere V6 held e new takes t.v6 r l.1)

pub cancelled_both : (held : EngineState) (e : Elem) (t : code_lives.Lives) → is_pending t.v4 ≡ false → is_pending t.v6 ≡ false → AreLives held (Some e) t → AreLives held None t
cancelled_both held e t q r l = (cancelled_elsewhere V4 held e t.v4 q l.0, cancelled_elsewhere V6 held e t.v6 r l.1)

-- its ends are few
pub early : (f : Family) (held : EngineState) (o : Option Elem) (e : Elem) (t : code_lives.Lives) → o ≡ Some e → AreLives held o t → (live_of f t).selected.time < 18446744073709551615
early V4 held o e t is l = let few = l.0.counted e is in omega (arith, few, l.0.time)
early V6 held o e t is l = let few = l.1.counted e is in omega (arith, few, l.1.time)

-- ---- by the family of the update
pub apart_from : (g f h : Family) → f ≡ h → same_family h g ≡ false → same_family f g ≡ false
apart_from g f h e n = ap (λ (k : Family). same_family k g) e ∙ n

pub made_in_live : (r : Result Pending NotBegun) (live : Living) → IfOk r (λ p. IsTokenOf p live × (made_of live ≡ 0)) → OnOk r (made_of live ≡ 0)
made_in_live (Ok p) live t = t.1
made_in_live (Err e) live t = tt

pub pending_low : (old : code_lives.Lives) (live : Living) (f : Family) (r : Result Pending NotBegun) → f ≡ V4 → is_pending old.v6 ≡ false → IfOk r (λ p. IsTokenOf p live × (made_of live ≡ 0)) → IfOk r (λ p. IsPendingOf f p (record { v4 = live; v6 = old.v6 }))
pending_low old live f (Ok p) e q t = subst (λ (k : Family). IsPendingOf k p (record { v4 = live; v6 = old.v6 })) (sym e) (t.0, q)
pending_low old live f (Err x) e q t = tt

pub pending_high : (old : code_lives.Lives) (live : Living) (f : Family) (r : Result Pending NotBegun) → f ≡ V6 → is_pending old.v4 ≡ false → IfOk r (λ p. IsTokenOf p live × (made_of live ≡ 0)) → IfOk r (λ p. IsPendingOf f p (record { v4 = old.v4; v6 = live }))
pending_high old live f (Ok p) e q t = subst (λ (k : Family). IsPendingOf k p (record { v4 = old.v4; v6 = live })) (sym e) (t.0, q)
pending_high old live f (Err x) e q t = tt

-- ---- stores
pub stored_low : (held : EngineState) (e : Elem) (old : code_lives.Lives) (live : Living) (p : Pending) → IsTokenOf p live → HasShapeOf old.v4 live → live.selected.time ≡ old.v4.selected.time → ((L M : Entries) → Shows old.v4 L M → Shows live L M) → AreLives held (Some e) old → AreLives held (Some e) (record { v4 = live; v6 = old.v6 })
stored_low held e old live p token s t sh l = (stored_of V4 held e old.v4 live s t (is_waiting p live token) (sh _ _ l.0.shows) l.0, l.1)

pub stored_high : (held : EngineState) (e : Elem) (old : code_lives.Lives) (live : Living) (p : Pending) → IsTokenOf p live → HasShapeOf old.v6 live → live.selected.time ≡ old.v6.selected.time → ((L M : Entries) → Shows old.v6 L M → Shows live L M) → AreLives held (Some e) old → AreLives held (Some e) (record { v4 = old.v4; v6 = live })
stored_high held e old live p token s t sh l = (l.0, stored_of V6 held e old.v6 live s t (is_waiting p live token) (sh _ _ l.1.shows) l.1)

-- ---- the end
module _ {A B : Type 0} (old : code_lives.Lives) (live : Living) where
  pub ended_low : (r : Result A B) → is_pending old.v6 ≡ false → HasShapeOf old.v4 live → OnOk r (live.selected.time ≡ suc old.v4.selected.time) → OnOk r (is_pending live ≡ false) → OnOk r ((L M : Entries) → Shows old.v4 L M → Shows live M M)
      → OnOk r ((e : Elem) (was is : EngineState) → TakesElem e was is → AreLives was (Some e) old → AreLives is None (record { v4 = live; v6 = old.v6 }))
  ended_low (Ok a) rest s t q sh = λ e was is takes l. (ended_of V4 was e is takes old.v4 live s t q (sh _ _ l.0.shows) l.0, ended_elsewhere V6 was e is takes old.v6 rest l.1)
  ended_low (Err b) rest s t q sh = tt

  pub ended_high : (r : Result A B) → is_pending old.v4 ≡ false → HasShapeOf old.v6 live → OnOk r (live.selected.time ≡ suc old.v6.selected.time) → OnOk r (is_pending live ≡ false) → OnOk r ((L M : Entries) → Shows old.v6 L M → Shows live M M)
      → OnOk r ((e : Elem) (was is : EngineState) → TakesElem e was is → AreLives was (Some e) old → AreLives is None (record { v4 = old.v4; v6 = live }))
  ended_high (Ok a) rest s t q sh = λ e was is takes l. (ended_elsewhere V4 was e is takes old.v4 rest l.0, ended_of V6 was e is takes old.v6 live s t q (sh _ _ l.1.shows) l.1)
  ended_high (Err b) rest s t q sh = tt

  -- it is forgotten
  pub cancelled_low : (r : Result A B) → is_pending old.v6 ≡ false → HasShapeOf old.v4 live → live.selected.time ≡ old.v4.selected.time → OnOk r (is_pending live ≡ false) → OnOk r ((L M : Entries) → Shows old.v4 L M → Shows live L L)
      → OnOk r ((held : EngineState) (e : Elem) → AreLives held (Some e) old → AreLives held None (record { v4 = live; v6 = old.v6 }))
  cancelled_low (Ok a) rest s t q sh = λ held e l. (cancelled_of V4 held e old.v4 live s t q (sh _ _ l.0.shows) l.0, cancelled_elsewhere V6 held e old.v6 rest l.1)
  cancelled_low (Err b) rest s t q sh = tt

  pub cancelled_high : (r : Result A B) → is_pending old.v4 ≡ false → HasShapeOf old.v6 live → live.selected.time ≡ old.v6.selected.time → OnOk r (is_pending live ≡ false) → OnOk r ((L M : Entries) → Shows old.v6 L M → Shows live L L)
      → OnOk r ((held : EngineState) (e : Elem) → AreLives held (Some e) old → AreLives held None (record { v4 = old.v4; v6 = live }))
  cancelled_high (Ok a) rest s t q sh = λ held e l. (cancelled_elsewhere V4 held e old.v4 rest l.0, cancelled_of V6 held e old.v6 live s t q (sh _ _ l.1.shows) l.1)
  cancelled_high (Err b) rest s t q sh = tt
