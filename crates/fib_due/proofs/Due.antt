-- What is due, part by part.
use Rattle.std.proofs.Common.{◌≡◌, ℕ, List, [], ◌∷◌, ◌++◌, Option, Some, None, Result, Ok, Err, inl, inr, refl, sym, ap, ◌∙◌, subst}
use Rattle.std.specs.Prelude.{option_to_list}
use Rattle.octet_fields.specs.Field.{◌>>=◌}
use Rattle.table_model.specs.Address.{Address, Prefix}
use Rattle.printed_text.specs.Rows.{Vrp}
use Rattle.fib_words.specs.Commands.{Named}
use Rattle.fib_due.specs.declared.outcome.Outcome.{Outcome}
use Rattle.fib_due.specs.declared.outcome.Outcome.TheVariants.{Done, CheckNo, Differ, MovesNo, Usage, ReadFault, WriteFault, NoMemory, TooLarge, Malformed, HopsFull, TrieFull, BadLine, PeersFull, PathTooLong}
use Rattle.fib_due.specs.declared.outcome.MrtInput.TheVariants.{Dump, Updates}
use Rattle.fib_due.specs.Stops.{Stop, Untold, Refused, LongPath, IsDueIfTold, FailsDue, outcome_at, with_room}
use Rattle.route_tries.specs.Sizes.{Shortage, Sizes, shortage, shortage_as}
use Rattle.route_tries.specs.declared.sizes.TrieFull.{TrieFull as CodeFull}
use Rattle.fib_due.specs.Refusals.{Short, routes_by}
use Rattle.fib_due.specs.Due.{Feed, Printed, asks_at, vrps_at, feed_at, feeds_at, limits_of, load_at, printed, sizes_of, told_at}
use Rattle.fib_due.specs.Ends.{OneRose, ReadsBy, ReadsNames, after, feeds_behind, feeds_named, reads_named}
use Rattle.fib_addr.specs.Views.{prefix_as}

long_not_ok : {X : Type 0} (p : Prefix) (n : ℕ) (x : X) → Err (LongPath p n) ≡ Ok x → ⊥
long_not_ok p n x e = cc

refused_not_ok : {X : Type 0} (o : Outcome) (x : X) → Err (Refused o) ≡ Ok x → ⊥
refused_not_ok o x e = cc

ok_not_stop : {X : Type 0} (x : X) (stop : Stop) → Ok x ≡ Err stop → ⊥
ok_not_stop x stop e = cc

abbrev fine : {X : Type 0} → X → Result X Stop
fine x = Ok x

same_ok : {X : Type 0} (x y : X) → fine x ≡ fine y → x ≡ y
same_ok x y e = cc

-- ---- one part after another

pub is_then : {X Y : Type 0} (d : Result X Stop) (f : X → Result Y Stop) (x : X) (y : Y) → IsDueIfTold d (Ok x) → IsDueIfTold (f x) (Ok y) → IsDueIfTold (d >>= f) (Ok y)
is_then (Err Untold) f x y i j = tt
is_then (Err (Refused o)) f x y i j = absurd (refused_not_ok o x i)
is_then (Err (LongPath p n)) f x y i j = absurd (long_not_ok p n x i)
is_then {Y = Y} (Ok z) f x y i j = subst (λ w. IsDueIfTold (f w) (fine y)) (sym (same_ok z x i)) j

-- the refusal that is due, of whatever else was due
pub retyped : (A B : Type 0) (stop other : Stop) → IsDueIfTold {Y = A} (Err stop) (Err other) → IsDueIfTold {Y = B} (Err stop) (Err other)
retyped A B Untold other i = tt
retyped A B (Refused o) other i = let same : Refused o ≡ other = cc in ap (λ (s : Stop). Err s) same
retyped A B (LongPath p n) other i = let same : LongPath p n ≡ other = cc in ap (λ (s : Stop). Err s) same

-- an error that is due of one result is due of another where each refusal is
pub fails_by : {A B : Type 0} (d : Result A Stop) (e : Result B Stop) → ((stop : Stop) → IsDueIfTold d (Err stop) → IsDueIfTold e (Err stop)) → (o : Outcome) → FailsDue o d → FailsDue o e
fails_by d e g Done f = absurd f
fails_by d e g (CheckNo x) f = absurd f
fails_by d e g (Differ x) f = absurd f
fails_by d e g (MovesNo x) f = absurd f
fails_by d e g WriteFault f = absurd f
fails_by d e g NoMemory f = tt
fails_by d e g ReadFault f = tt
fails_by d e g Usage f = g (Refused Usage) f
fails_by d e g (TooLarge input) f = g (Refused (TooLarge input)) f
fails_by d e g (Malformed input number rule) f = g (Refused (Malformed input number rule)) f
fails_by d e g (HopsFull event) f = g (Refused (HopsFull event)) f
fails_by d e g (TrieFull event need have arena) f = g (Refused (TrieFull event need have arena)) f
fails_by d e g (BadLine input line why) f = g (Refused (BadLine input line why)) f
fails_by d e g (PeersFull peers) f = g (Refused (PeersFull peers)) f
fails_by d e g (PathTooLong p n) f = g (LongPath (prefix_as p) n) f

fails_untold : {X : Type 0} (Y : Type 0) (o : Outcome) (d : Result X Stop) → FailsDue o d → FailsDue {Y = Y} o (Err Untold)
fails_untold Y o d f = fails_by d (Err Untold) (λ p i. tt) o f

pub fails_then : {X Y : Type 0} (o : Outcome) (d : Result X Stop) (f : X → Result Y Stop) (x : X) → IsDueIfTold d (Ok x) → FailsDue o (f x) → FailsDue o (d >>= f)
fails_then {Y = Y} o (Err Untold) f x i j = fails_untold Y o (f x) j
fails_then o (Err (Refused p)) f x i j = absurd (refused_not_ok p x i)
fails_then o (Err (LongPath p n)) f x i j = absurd (long_not_ok p n x i)
fails_then o (Ok z) f x i j = subst (λ w. FailsDue o (f w)) (sym (same_ok z x i)) j

abbrev stopped : {X : Type 0} → Outcome → Result X Stop
stopped o = Err (Refused o)

pub is_first : {X Y : Type 0} (other : Stop) (d : Result X Stop) (f : X → Result Y Stop) → IsDueIfTold d (Err other) → IsDueIfTold (d >>= f) (Err other)
is_first {X = X} {Y = Y} other (Err stop) f i = retyped X Y stop other i
is_first other (Ok z) f i = absurd (ok_not_stop z other i)

pub fails_first : {X Y : Type 0} (o : Outcome) (d : Result X Stop) (f : X → Result Y Stop) → FailsDue o d → FailsDue o (d >>= f)
fails_first o d f j = fails_by d (d >>= f) (λ p i. is_first p d f i) o j

-- ---- the dump, and then the updates

abbrev pub Content : Type 0
Content = List ℕ → Option (List ℕ)

-- the tries of the dump's routes have room, or the load ends there
room : {A : Type 0} (o : Option Shortage) (x : A) → o ≡ None → with_room o x ≡ Ok x
room None x e = refl
room (Some s) x e = absurd cc

no_room : {A : Type 0} (o : Option Shortage) (s : Shortage) (x : A) → o ≡ Some s → with_room o x ≡ stopped (outcome_at 0 (Short s))
no_room None s x e = absurd cc
no_room (Some t) s x e = let same : t ≡ s = cc in ap (λ u. stopped (outcome_at 0 (Short u))) same

-- a dump that isn't accepted
pub load_refused : (z : Sizes) (content : Content) (vrps : List Vrp) (name : List ℕ) (o : Outcome) → FailsDue o (feed_at z content vrps Dump [] (Some name)) → FailsDue o (load_at z content vrps name)
unfolding load_at
load_refused z content vrps name o f = fails_first o (feed_at z content vrps Dump [] (Some name)) _ f

-- one whose routes' tries have room
pub load_due : (z : Sizes) (content : Content) (vrps : List Vrp) (name : List ℕ) (load : Feed) → IsDueIfTold (feed_at z content vrps Dump [] (Some name)) (Ok load) → shortage z (routes_by load.elems) ≡ None → IsDueIfTold (load_at z content vrps name) (Ok load)
unfolding load_at
load_due z content vrps name load i e =
    is_then (feed_at z content vrps Dump [] (Some name)) (λ l. with_room (shortage z (routes_by l.elems)) l) load load i (subst (λ d. IsDueIfTold d (fine load)) (sym (room (shortage z (routes_by load.elems)) load e)) refl)

is_refusal : {X : Type 0} (o : Outcome) (d : Result X Stop) → d ≡ stopped o → IsDueIfTold d (stopped o)
is_refusal o d e = rw e refl

-- and one whose tries lack places
pub load_short : (z : Sizes) (content : Content) (vrps : List Vrp) (name : List ℕ) (load : Feed) (full : CodeFull) → IsDueIfTold (feed_at z content vrps Dump [] (Some name)) (Ok load) → shortage z (routes_by load.elems) ≡ Some (shortage_as full) → FailsDue (TrieFull 0 full.need full.have full.arena) (load_at z content vrps name)
unfolding load_at
load_short z content vrps name load full i e =
    let o = TrieFull 0 full.need full.have full.arena in
    let here : FailsDue {Y = Feed} o (with_room (shortage z (routes_by load.elems)) load) = is_refusal o _ (no_room (shortage z (routes_by load.elems)) (shortage_as full) load e) in
    fails_then o (feed_at z content vrps Dump [] (Some name)) (λ l. with_room (shortage z (routes_by l.elems)) l) load i here

pub dump_fails : (content : Content) (vrps : List Vrp) (named : Named) (o : Outcome) → FailsDue o (feed_at (sizes_of named) content vrps Dump [] (Some named.dump)) → FailsDue o (feeds_at content vrps named)
unfolding feeds_at
dump_fails content vrps named o f = fails_first o (load_at (sizes_of named) content vrps named.dump) _ (load_refused (sizes_of named) content vrps named.dump o f)

abbrev pub due_feed : Content → List Vrp → Named → Result Feed Stop
due_feed content vrps named = feed_at (sizes_of named) content vrps Dump [] (Some named.dump)

pub load_fits : (content : Content) (vrps : List Vrp) (named : Named) (load : Feed) → IsDueIfTold (due_feed content vrps named) (Ok load) → shortage (sizes_of named) (routes_by load.elems) ≡ None → IsDueIfTold (load_at (sizes_of named) content vrps named.dump) (Ok load)
load_fits content vrps named load i e = load_due (sizes_of named) content vrps named.dump load i e

-- a load that lacks places is refused
pub load_lacks : (content : Content) (vrps : List Vrp) (named : Named) (load : Feed) (full : CodeFull) → IsDueIfTold (due_feed content vrps named) (Ok load) → shortage (sizes_of named) (routes_by load.elems) ≡ Some (shortage_as full) → FailsDue (TrieFull 0 full.need full.have full.arena) (feeds_at content vrps named)
unfolding feeds_at
load_lacks content vrps named load full i e =
    fails_first (TrieFull 0 full.need full.have full.arena) (load_at (sizes_of named) content vrps named.dump) _ (load_short (sizes_of named) content vrps named.dump load full i e)

abbrev due_updates : Content → List Vrp → Named → Feed → Result Feed Stop
due_updates content vrps named load = feed_at (sizes_of named) content vrps Updates load.elems named.updates

pub updates_fail : (content : Content) (vrps : List Vrp) (named : Named) (o : Outcome) (load : Feed) → IsDueIfTold (load_at (sizes_of named) content vrps named.dump) (Ok load) → FailsDue o (due_updates content vrps named load) → FailsDue o (feeds_at content vrps named)
unfolding feeds_at
updates_fail content vrps named o load i f =
    fails_then o (load_at (sizes_of named) content vrps named.dump) (λ load. due_updates content vrps named load >>= λ updates. Ok (load, updates)) load i (fails_first o (due_updates content vrps named load) (λ updates. Ok (load, updates)) f)

pub feeds_due : (content : Content) (vrps : List Vrp) (named : Named) (load updates : Feed) → IsDueIfTold (load_at (sizes_of named) content vrps named.dump) (Ok load) → IsDueIfTold (due_updates content vrps named load) (Ok updates) → IsDueIfTold (feeds_at content vrps named) (Ok (load, updates))
unfolding feeds_at
feeds_due content vrps named load updates i j =
    is_then (load_at (sizes_of named) content vrps named.dump) (λ load. due_updates content vrps named load >>= λ updates. Ok (load, updates)) load (load, updates) i
    (is_then (due_updates content vrps named load) (λ updates. Ok (load, updates)) updates (load, updates) j refl)

-- what is told of them

pub feeds_fail : {Y : Type 0} (content : Content) (vrps : List Vrp) (named : Named) (asks : List Address) (f : Printed → Result Y Stop) (o : Outcome) → FailsDue o (feeds_at content vrps named) → FailsDue o (told_at content vrps named asks >>= f)
unfolding told_at
feeds_fail content vrps named asks f o j = fails_first o (told_at content vrps named asks) f (fails_first o (feeds_at content vrps named) (λ feeds. Ok (printed (limits_of named) feeds.0 feeds.1 asks)) j)

pub all_due : {Y : Type 0} (content : Content) (vrps : List Vrp) (named : Named) (asks : List Address) (view : Printed → Y) (feeds : Feed × Feed) (y : Y) → IsDueIfTold (feeds_at content vrps named) (Ok feeds) → y ≡ view (printed (limits_of named) feeds.0 feeds.1 asks) → IsDueIfTold (told_at content vrps named asks >>= λ p. Ok (view p)) (Ok y)
unfolding told_at
all_due content vrps named asks view feeds y i e =
    is_then (told_at content vrps named asks) (λ p. Ok (view p)) (printed (limits_of named) feeds.0 feeds.1 asks) y
    (is_then (feeds_at content vrps named) (λ feeds. Ok (printed (limits_of named) feeds.0 feeds.1 asks)) feeds (printed (limits_of named) feeds.0 feeds.1 asks) i refl)
    (ap fine (sym e))

-- ---- the inputs that are read

pub after_is : {X : Type 0} (d : Result X Stop) (x : X) (names : List (List ℕ)) → IsDueIfTold d (Ok x) → after d names ≡ names
after_is (Err Untold) x names i = refl
after_is (Err (Refused o)) x names i = absurd (refused_not_ok o x i)
after_is (Err (LongPath p n)) x names i = absurd (long_not_ok p n x i)
after_is (Ok y) x names i = refl

pub reads_more : (cause more : Type 0) (before now : List ℕ → ℕ) (o : Outcome) → (cause → more) → ReadsBy cause before now o → ReadsBy more before now o
reads_more cause more before now ReadFault f r = f r
reads_more cause more before now Done f r = r
reads_more cause more before now (CheckNo x) f r = r
reads_more cause more before now (Differ x) f r = r
reads_more cause more before now (MovesNo x) f r = r
reads_more cause more before now (PeersFull peers) f r = r
reads_more cause more before now (PathTooLong p n) f r = r
reads_more cause more before now WriteFault f r = r
reads_more cause more before now NoMemory f r = r
reads_more cause more before now Usage f r = r
reads_more cause more before now (TooLarge input) f r = r
reads_more cause more before now (Malformed input number rule) f r = r
reads_more cause more before now (HopsFull event) f r = r
reads_more cause more before now (TrieFull event need have arena) f r = r
reads_more cause more before now (BadLine input line why) f r = r

pub updates_read : (content : Content) (vrps : List Vrp) (named : Named) (load : Feed) (before mid now : List ℕ → ℕ) (o : Outcome) → IsDueIfTold (load_at (sizes_of named) content vrps named.dump) (Ok load) → mid ≡ before → ReadsBy (OneRose (option_to_list named.updates) mid now) mid now o
    → ReadsBy (OneRose (feeds_named content vrps named) before now) before now o
updates_read content vrps named load before mid now o i same r =
    let at : ReadsBy (OneRose (option_to_list named.updates) before now) before now o = subst (λ b. ReadsBy (OneRose (option_to_list named.updates) b now) b now o) same r in
    reads_more (OneRose (option_to_list named.updates) before now) (OneRose (feeds_named content vrps named) before now) before now o
    (λ rose. inr (subst (λ names. OneRose names before now) (sym (after_is (load_at (sizes_of named) content vrps named.dump) load (option_to_list named.updates) i)) rose)) at

rose_behind : (xs ys : List (List ℕ)) (before now : List ℕ → ℕ) → OneRose ys before now → OneRose (xs ++ ys) before now
rose_behind [] ys before now r = r
rose_behind (x ∷ xs) ys before now r = inr (rose_behind xs ys before now r)

after_rose : {X : Type 0} (d : Result X Stop) (names : List (List ℕ)) (before now : List ℕ → ℕ) → OneRose (after d names) before now → OneRose names before now
after_rose (Ok x) names before now r = r
after_rose (Err Untold) names before now r = r
after_rose (Err (Refused o)) names before now r = absurd r
after_rose (Err (LongPath p n)) names before now r = absurd r

-- those behind the list of VRPs that was read are those behind the one that is due
list_rose : (content : Content) (named : Named) (vrps : List Vrp) (before now : List ℕ → ℕ) (d : Result (List Vrp) Stop) → IsDueIfTold d (Ok vrps) → OneRose (feeds_named content vrps named) before now → OneRose (feeds_behind content named d) before now
list_rose content named vrps before now (Ok x) i r = subst (λ v. OneRose (feeds_named content v named) before now) (sym (same_ok x vrps i)) r
list_rose content named vrps before now (Err Untold) i (inl r) = inl r
list_rose content named vrps before now (Err Untold) i (inr r) = inr (after_rose (load_at (sizes_of named) content vrps named.dump) (option_to_list named.updates) before now r)
list_rose content named vrps before now (Err (Refused o)) i r = absurd (refused_not_ok o vrps i)
list_rose content named vrps before now (Err (LongPath p n)) i r = absurd (long_not_ok p n vrps i)

-- the inputs of a run behind its asks and its list of VRPs
pub run_read : {X : Type 0} (content : Content) (named : Named) (asks : List Address) (vrps : List Vrp) (before mid last now : List ℕ → ℕ) (result : Result X Outcome) → IsDueIfTold (asks_at content named.asks) (Ok asks) → IsDueIfTold (vrps_at content named.vrps) (Ok vrps) → mid ≡ before → last ≡ mid
    → ReadsNames (feeds_named content vrps named) last now result → ReadsNames (reads_named content named) before now result
run_read content named asks vrps before mid last now (Ok x) i j m l r = r ∙ (l ∙ m)
run_read content named asks vrps before mid last now (Err o) i j m l r =
    let behind : List (List ℕ) = feeds_behind content named (vrps_at content named.vrps) in
    let names : List (List ℕ) = option_to_list named.vrps ++ behind in
    let at : ReadsBy (OneRose (feeds_named content vrps named) before now) before now o = subst (λ b. ReadsBy (OneRose (feeds_named content vrps named) b now) b now o) (l ∙ m) r in
    reads_more (OneRose (feeds_named content vrps named) before now) (OneRose (reads_named content named) before now) before now o
    (λ rose. rose_behind (option_to_list named.asks) (after (asks_at content named.asks) names) before now
    (subst (λ ns. OneRose ns before now) (sym (after_is (asks_at content named.asks) asks names i)) (rose_behind (option_to_list named.vrps) behind before now (list_rose content named vrps before now (vrps_at content named.vrps) j rose)))) at
