-- What a family's live trie keeps through the steps of an event, and the other one.
use Rattle.std.proofs.Common.{◌≡◌, ℕ, suc, List, [], ◌∷◌, ◌++◌, Bool, true, false, Option, Some, None, refl, sym, subst}
use Rattle.std.specs.Prelude.{IfOk, OnOk, Result, Ok, Err}
use Rattle.table_model.specs.Address.{Prefix, same_family}
use Rattle.table_model.specs.declared.family.Family.{Family}
use Rattle.table_model.specs.declared.family.Family.TheVariants.{V4, V6}
use Rattle.table_model.specs.Entries.{Entries}
use Rattle.poptrie_set.specs.Prepares.{StoresJust}
use Rattle.poptrie_update.specs.Cells.{KeepsAllReached}
use Rattle.poptrie_update.specs.Lives.{HasShapeOf, Living, Past, Shows, is_pending, is_selecting, made_of, stores_left}
use Rattle.poptrie_update.specs.Fits.{Fits, Open}
use Rattle.poptrie_update.specs.Pendings.{IsTokenBy, IsTokenOf, IsSelectorOf}
use Rattle.poptrie_update.specs.Prepares.{IsAtRest, IsCancelled, StoresBy}
use Rattle.poptrie_build.specs.Tries.{node_need, leaf_need}
use Rattle.poptrie_update.specs.declared.live.Other.{Other}
use Rattle.poptrie_update.specs.declared.live.Other.TheVariants as other
use Rattle.poptrie_update.specs.declared.pending.Pending.{Pending}
use Rattle.poptrie_update.specs.declared.pending.Stores as code_stores
use Rattle.poptrie_update.specs.declared.pending.Stores.TheVariants as stores
use Rattle.fib_router.specs.Lives.{AreLives, GoesBy, IsForgotten, IsPendingOf, IsReadyFor, Readies, StoresJustBy, live_of}
use Rattle.fib_router.specs.Router.{IsPendingIn, IsRestingFor, Routing}
use Rattle.fib_router.specs.declared.error.NotBegun.{NotBegun}
use Rattle.fib_router.specs.declared.error.NotBegun.TheVariants as error
use Rattle.fib_router.specs.Errors.{as_not_begun}
use Rattle.fib_engine.specs.declared.error.EngineError.{EngineError}
use Rattle.fib_engine.specs.declared.error.EngineError.TheVariants as engine
use Rattle.route_model.specs.Events.{Elem}
use Rattle.kept_model.specs.Kept.{changed_at}
use Rattle.poptrie_set.specs.declared.trie_set.Oldest.{Oldest}
use Rattle.fib_engine.specs.Held.{EngineState}
use Rattle.fib_router.specs.declared.lives.Lives as code_lives
use Rattle.fib_router.proofs.Through.{is_waiting}

-- ---- what is stored
just_by : (o : Other) (l : Living) (L M : Entries) → (is_selecting o ≡ false → StoresJust l.selected.family l.selected.direct_bits L M l.selected.stores) → StoresJustBy o l L M
just_by other.Free l L M h = h refl
just_by (other.Retired end) l L M h = h refl
just_by other.Built l L M h = tt
just_by other.Replaced l L M h = tt

selects_by : (o : Other) (stored : Bool) (l : Living) (L M : Entries) → IsSelectorOf stored o → StoresJustBy o l L M
selects_by other.Free stored l L M t = absurd t
selects_by (other.Retired end) stored l L M t = absurd t
selects_by other.Built stored l L M t = tt
selects_by other.Replaced stored l L M t = tt

pub stores_by : (x : code_stores.Stores) (l : Living) (L M : Entries) → IsTokenBy x l → StoresBy x l L M → StoresJustBy l.state l L M
stores_by (stores.Words w) l L M t s = just_by l.state l L M (λ e. s)
stores_by (stores.Selector stored) l L M t s = selects_by l.state stored l L M t

-- ---- the other family
pub low_other : (old : code_lives.Lives) (live : Living) (f g : Family) → f ≡ V4 → same_family f g ≡ false → live_of g (record { v4 = live; v6 = old.v6 }) ≡ live_of g old
low_other old live f V4 e apart = let z : same_family V4 V4 ≡ false = subst (λ (k : Family). same_family k V4 ≡ false) e apart in absurd (cc)
low_other old live f V6 e apart = refl

pub high_other : (old : code_lives.Lives) (live : Living) (f g : Family) → f ≡ V6 → same_family f g ≡ false → live_of g (record { v4 = old.v4; v6 = live }) ≡ live_of g old
high_other old live f V4 e apart = refl
high_other old live f V6 e apart = let z : same_family V6 V6 ≡ false = subst (λ (k : Family). same_family k V6 ≡ false) e apart in absurd (cc)

-- which family's update is pending
pub own_pending : (f g : Family) (p : Pending) (t : code_lives.Lives) → IsPendingOf f p t → is_pending (live_of g t) ≡ true → g ≡ f
own_pending V4 V4 p t h e = refl
own_pending V6 V6 p t h e = refl
own_pending V4 V6 p t h e = let z : is_pending t.v6 ≡ false = h.1 in absurd (cc)
own_pending V6 V4 p t h e = let z : is_pending t.v4 ≡ false = h.1 in absurd (cc)

pub other_pending : (f g : Family) (p : Pending) (t : code_lives.Lives) → IsPendingOf f p t → is_pending (live_of g t) ≡ false → same_family f g ≡ false
other_pending V4 V6 p t h e = refl
other_pending V6 V4 p t h e = refl
other_pending V4 V4 p t h e = let z : is_pending t.v4 ≡ true = is_waiting p t.v4 h.0 in absurd (cc)
other_pending V6 V6 p t h e = let z : is_pending t.v6 ≡ true = is_waiting p t.v6 h.0 in absurd (cc)

-- ---- an update is made ready
pub ready_live : (r : Result Pending NotBegun) (l : Living) (L M : Entries) → IfOk r (λ p. IsTokenOf p l × (made_of l ≡ 0)) → OnOk r (Shows l L M) → OnOk r (StoresJustBy l.state l L M) → OnOk r (IsReadyFor L M l)
ready_live (Ok p) l L M t sh st = record { pending = is_waiting p l t.0; made = t.1; shows = sh; stores = st }
ready_live (Err e) l L M t sh st = tt

-- ---- the end, or it is forgotten
pub goes_by : {A B : Type 0} (r : Result A B) (l n : Living) → HasShapeOf l n → OnOk r (n.selected.time ≡ suc l.selected.time) → OnOk r (stores_left l ≡ 0) → OnOk r (is_pending n ≡ false) → OnOk r ((os : List Open) → Fits l os → Fits n os) → OnOk r ((L M : Entries) → Shows l L M → Shows n M M)
    → OnOk r ((L M : Entries) (ns ls : List ℕ) → Shows l L M → Past l ns ls → Past n (ns ++ node_need l.selected.family l.selected.direct_bits L ∷ []) (ls ++ leaf_need l.selected.family l.selected.direct_bits L ∷ [])) → OnOk r (GoesBy l n)
goes_by (Ok a) l n s t all q fits sh past = record { shape = s; time = t; all = all; quiet = q; fits = fits; shows = sh; past = past }
goes_by (Err b) l n s t all q fits sh past = tt

pub forgotten : {A B : Type 0} (r : Result A B) (l n : Living) → HasShapeOf l n → n.selected.time ≡ l.selected.time → OnOk r (made_of l ≡ 0) → OnOk r (is_pending n ≡ false) → OnOk r ((os : List Open) → Fits l os → Fits n os) → OnOk r ((L M : Entries) → Shows l L M → Shows n L L) → OnOk r (IsCancelled l n) → ((ns ls : List ℕ) → Past l ns ls → Past n ns ls) → OnOk r (IsForgotten l n)
forgotten (Ok a) l n s t none q fits sh undone past = record { carries = record { shape = s; time = t; fits = fits; past = past }; none = none; quiet = q; shows = sh; undone = undone }
forgotten (Err b) l n s t none q fits sh undone past = tt

-- ---- of each family
pub each_own : (P : Living → Living → Type 0) (f : Family) (p : Pending) (old new : code_lives.Lives) → IsPendingOf f p old → P (live_of f old) (live_of f new) → (g : Family) → is_pending (live_of g old) ≡ true → P (live_of g old) (live_of g new)
each_own P f p old new token own g e = subst (λ (k : Family). P (live_of k old) (live_of k new)) (sym (own_pending f g p old token e)) own

pub each_other : (f : Family) (p : Pending) (old new : code_lives.Lives) → IsPendingOf f p old → ((g : Family) → same_family f g ≡ false → live_of g new ≡ live_of g old) → (g : Family) → is_pending (live_of g old) ≡ false → live_of g new ≡ live_of g old
each_other f p old new token other g e = other g (other_pending f g p old token e)

pub none_pending : (t : code_lives.Lives) → IsPendingIn None t → (g : Family) → is_pending (live_of g t) ≡ true → ⊥
none_pending t q V4 e = let z : is_pending t.v4 ≡ false = q.0 in absurd (cc)
none_pending t q V6 e = let z : is_pending t.v6 ≡ false = q.1 in absurd (cc)

pub each_by : (P : Living → Living → Type 0) → ((l : Living) → P l l) → (f : Family) (old new : code_lives.Lives) → P (live_of f old) (live_of f new) → ((g : Family) → same_family f g ≡ false → live_of g new ≡ live_of g old) → (g : Family) → P (live_of g old) (live_of g new)
each_by P self V4 old new own other V4 = own
each_by P self V6 old new own other V6 = own
each_by P self V4 old new own other V6 = subst (P old.v6) (sym (other V6 refl)) (self old.v6)
each_by P self V6 old new own other V4 = subst (P old.v4) (sym (other V4 refl)) (self old.v4)

pub readies_self : (who : Oldest) (l : Living) → Readies who l l
readies_self who l = record { shape = (refl, refl, refl, refl); time = refl; fits = λ os i h. h; past = λ ns ls h. h }

pub reached_self : (since : ℕ) (l : Living) → KeepsAllReached since l l
reached_self since l = λ n t low high. record { nodes = λ i e. (e, refl); leaves = λ i e. (e, refl) }

pub quiet_each : (held : EngineState) (t : code_lives.Lives) → AreLives held None t → (g : Family) → is_pending (live_of g t) ≡ false
quiet_each held t l V4 = l.0.quiet refl
quiet_each held t l V6 = l.1.quiet refl

-- ---- at rest
pub not_resting : (x : Elem) (r : Routing) (e : EngineError) → IsRestingFor x r (as_not_begun e)
not_resting x r engine.HopsFull = tt
not_resting x r (engine.TrieFull t) = tt
not_resting x r engine.NoMemory = tt

some_same : {X : Type 0} (o : Option X) (x y : X) → o ≡ Some x → o ≡ Some y → y ≡ x
some_same o x y a b = cc

pub resting_by : (e : Elem) (r : Routing) (why : NotBegun) (q : Prefix) → changed_at r.held.candidates e ≡ Some q → IsAtRest (live_of q.family r.lives) → IsRestingFor e r why
resting_by e r error.HopsFull q is h = tt
resting_by e r (error.TrieFull t) q is h = tt
resting_by e r (error.Pinned need cursor arena largest) q is h = λ p same. subst (λ (x : Prefix). IsAtRest (live_of x.family r.lives)) (sym (some_same (changed_at r.held.candidates e) q p is same)) h
resting_by e r error.NoMemory q is h = tt

-- that prefix alone
pub same_there : (e : Elem) (r : Routing) (q p : Prefix) → changed_at r.held.candidates e ≡ Some q → changed_at r.held.candidates e ≡ Some p → p ≡ q
same_there e r q p is same = some_same (changed_at r.held.candidates e) q p is same
