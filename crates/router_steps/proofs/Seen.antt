-- The versions of open lookups, through the steps.
use Rattle.std.proofs.Common.{◌≡◌, ℕ, zero, suc, ◌≤◌, Bool, true, false, cond, Option, Some, None, nat_eq, refl, ap, subst, arith}
use Rattle.std.specs.Prelude.{◌&&◌, nat_lt}
use Rattle.std.proofs.lemmas.Bool.{lt-ltb}
use Rattle.table_model.specs.Address.{Address, same_family}
use Rattle.table_model.specs.declared.family.Family.{Family}
use Rattle.step_script.specs.Machine as machine
use Rattle.step_script.specs.Machine.{World, State, Lookup, Stores, changes_family, covers, direct_slot, is_stored, published, version_at, version_of, with_lookup, words, selector}
use Rattle.router_steps.specs.Runs.{HasSeen, seen_by}

-- ---- a store that covers a slot was made
covered : (st : Stores) (made v : ℕ) → covers st made v ≡ true → nat_lt 0 made ≡ true
covered (words slots) zero v e = absurd (cc)
covered (words slots) (suc made) v e = lt-ltb 0 (suc made) (omega arith)
covered selector made v e = e

pub least_seen : (n : ℕ) (o : Option machine.Begun) → n ≤ seen_by n o
least_seen n None = omega arith
least_seen n (Some b) = by_test (nat_lt 0 b.made)
  where
    by_test : (t : Bool) → n ≤ cond t (suc n) n
    by_test true = omega arith
    by_test false = omega arith

pub most_seen : (n : ℕ) (b : machine.Begun) → seen_by n (Some b) ≤ suc n
most_seen n b = by_test (nat_lt 0 b.made)
  where
    by_test : (t : Bool) → cond t (suc n) n ≤ suc n
    by_test true = omega arith
    by_test false = omega arith

both_of : (a b : Bool) → a && b ≡ true → b ≡ true
both_of true b e = e
both_of false b e = absurd (cc)

published_seen : (w : World) (n : ℕ) (o : Option machine.Begun) (lookups : Family → ℕ → Option Lookup) (a : Address) → published w (record { ended = n; begun = o; lookups = lookups }) a ≤ seen_by n o
published_seen w n None lookups a = omega arith
published_seen w n (Some b) lookups a = by_test (changes_family a.family (w.changed n) && covers b.stores b.made (direct_slot w a)) refl
  where
    by_test : (t : Bool) → (changes_family a.family (w.changed n) && covers b.stores b.made (direct_slot w a)) ≡ t → cond t (suc n) n ≤ seen_by n (Some b)
    by_test true e = let m : nat_lt 0 b.made ≡ true = covered b.stores b.made (direct_slot w a) (both_of (changes_family a.family (w.changed n)) (covers b.stores b.made (direct_slot w a)) e) in let q : seen_by n (Some b) ≡ suc n = ap (λ (c : Bool). cond c (suc n) n) m in omega (arith, q)
    by_test false e = least_seen n (Some b)

pub version_seen : (w : World) (s : State) (f : Family) (n : ℕ) (k : Lookup) → HasSeen s → s.lookups f n ≡ Some k → version_of w s k ≤ seen_by s.ended s.begun
version_seen w s f n k seen held = by_version k.version refl
  where
    by_version : (v : Option ℕ) → k.version ≡ v → version_at w s k v ≤ seen_by s.ended s.begun
    by_version None e = published_seen w s.ended s.begun s.lookups k.addr
    by_version (Some m) e = seen f n k m held e

-- ---- a lookup changes
lookup_seen : (s : State) (f : Family) (n : ℕ) (x : Option Lookup) → HasSeen s → ((k : Lookup) (m : ℕ) → x ≡ Some k → k.version ≡ Some m → m ≤ seen_by s.ended s.begun) → HasSeen (record s { lookups = with_lookup f n x s.lookups })
lookup_seen s f n x seen here g c k m held v = by_test (same_family f g && nat_eq n c) held
  where
    by_test : (t : Bool) → cond t x (s.lookups g c) ≡ Some k → m ≤ seen_by s.ended s.begun
    by_test true e = here k m e v
    by_test false e = seen g c k m e v

pub opened_seen : (s : State) (f : Family) (n : ℕ) (a : Address) → HasSeen s → HasSeen (record s { lookups = with_lookup f n (Some (record { addr = a; since = s.ended; gone = 0; version = None })) s.lookups })
opened_seen s f n a seen = lookup_seen s f n (Some (record { addr = a; since = s.ended; gone = 0; version = None })) seen (λ k m e v. let q : None ≡ Some m = version_is k m e v in absurd (cc))
  where
    version_is : (k : Lookup) (m : ℕ) → Some (record { addr = a; since = s.ended; gone = 0; version = None }) ≡ Some k → k.version ≡ Some m → None ≡ Some m
    version_is k m e v = cc

pub went_seen : (w : World) (s : State) (f : Family) (n : ℕ) (k : Lookup) → s.lookups f n ≡ Some k → HasSeen s → HasSeen (record s { lookups = with_lookup f n (Some (record k { gone = suc k.gone; version = Some (version_of w s k) })) s.lookups })
went_seen w s f n k held seen = lookup_seen s f n (Some (record k { gone = suc k.gone; version = Some (version_of w s k) })) seen (λ j m e v. subst (λ (i : ℕ). i ≤ seen_by s.ended s.begun) (version_is j m e v) (version_seen w s f n k seen held))
  where
    version_is : (j : Lookup) (m : ℕ) → Some (record k { gone = suc k.gone; version = Some (version_of w s k) }) ≡ Some j → j.version ≡ Some m → version_of w s k ≡ m
    version_is j m e v = cc

pub answered_seen : (s : State) (f : Family) (n : ℕ) → HasSeen s → HasSeen (record s { lookups = with_lookup f n None s.lookups })
answered_seen s f n seen = lookup_seen s f n None seen (λ k m e v. absurd (cc))

-- ---- an event
pub later_seen : (n m : ℕ) (o p : Option machine.Begun) (lookups : Family → ℕ → Option Lookup) → seen_by n o ≤ seen_by m p → HasSeen (record { ended = n; begun = o; lookups = lookups }) → HasSeen (record { ended = m; begun = p; lookups = lookups })
later_seen n m o p lookups le seen g c k v held is = let h = seen g c k v held is in omega (arith, h, le)
