-- The open look-ups, in the machine and in the code.
use Rattle.std.proofs.Common.{◌≡◌, ℕ, suc, ◌+◌, ◌<◌, ◌≤◌, Bool, true, cond, Option, Some, None, set, length, nat_eq, refl, sym, ap, ◌∙◌, arith, subst, inl, inr}
use Rattle.std.specs.Prelude.{◌&&◌, ◌≢◌, Result, Ok, Err, OnErr, IfOk}
use Rattle.std.proofs.lemmas.Bool.{cases_eq, eq-eqb, ne_eqb}
use Rattle.std.proofs.lemmas.List.{get_or-set_same, get_or-set_other, length-set}
use Rattle.table_model.specs.Address.{same_family}
use Rattle.table_model.specs.declared.family.Family.{Family}
use Rattle.table_model.specs.declared.family.Family.TheVariants.{V4, V6}
use Rattle.table_model.specs.Entries.{match_in}
use Rattle.fib_addr.specs.Hops.{hop_at}
use Rattle.fib_addr.specs.declared.addr.Addr.{Addr}
use Rattle.fib_addr.specs.declared.entry.Hop.{Hop}
use Rattle.fib_addr.specs.Views.{addr_as}
use Rattle.poptrie_build.specs.Tries.{visits_of}
use Rattle.poptrie_update.specs.Cursors.{OpenLookups, Due, Dues, with_due, lookup_of, FitsAll, IsStarted, IsFull, GoesAsDue}
use Rattle.poptrie_update.proofs.Opened.{some_below, with_due_here, with_due_other}
use Rattle.poptrie_update.specs.declared.cursors.Lookup as code_lookup
use Rattle.poptrie_update.specs.declared.cursors.Stage.TheVariants as stage
use Rattle.step_script.specs.Rows.{printed_number, opened, full}
use Rattle.step_script.specs.Machine.{World, State, Lookup, with_lookup, version_of, Opens as OpensIn}
use Rattle.router_steps.specs.Paused.{FamilyLive, IsSameLookup, AreSame, IsFamilyState, IsAt}
use Rattle.router_steps.specs.Calls.{GoesTo, open_row}

same_self : (f : Family) → same_family f f ≡ true
same_self V4 = refl
same_self V6 = refl

-- ---- a look-up changes in the machine
lookup_here : (f : Family) (n : ℕ) (x : Option Lookup) (lookups : Family → ℕ → Option Lookup) → with_lookup f n x lookups f n ≡ x
lookup_here f n x lookups = ap (λ (b : Bool). cond (b && nat_eq n n) x (lookups f n)) (same_self f) ∙ ap (λ (b : Bool). cond b x (lookups f n)) (eq-eqb n n refl)

lookup_other : (f : Family) (n m : ℕ) (x : Option Lookup) (lookups : Family → ℕ → Option Lookup) → (n ≡ m → ⊥) → with_lookup f n x lookups f m ≡ lookups f m
lookup_other f n m x lookups h = ap (λ (b : Bool). cond (b && nat_eq n m) x (lookups f m)) (same_self f) ∙ ap (λ (b : Bool). cond b x (lookups f m)) (ne_eqb n m h)

started_set : (f : Family) (n since : ℕ) (x : Option Lookup) (lookups : Family → ℕ → Option Lookup) → ((k : Lookup) → x ≡ Some k → k.since ≤ since) → ((m : ℕ) (k : Lookup) → lookups f m ≡ Some k → k.since ≤ since) → (m : ℕ) (k : Lookup) → with_lookup f n x lookups f m ≡ Some k → k.since ≤ since
started_set f n since x lookups here all m k e = elim (cases_eq n m) [
  | inl q ↦ here k (sym (lookup_here f n x lookups) ∙ (ap (with_lookup f n x lookups f) q ∙ e))
  | inr q ↦ all m k (sym (lookup_other f n m x lookups q) ∙ e)
]

-- ---- the same in the code
same_set : (w : World) (f : Family) (lookups : Family → ℕ → Option Lookup) (cs : OpenLookups) (due after : Dues) (n : ℕ) (x : Option Lookup) (y : Option code_lookup.Lookup) → n < length cs → ((m : ℕ) → (m ≡ n → ⊥) → after m ≡ due m) → AreSame w f x y (after n) → ((m : ℕ) → AreSame w f (lookups f m) (lookup_of cs m) (due m)) → (m : ℕ) → AreSame w f (with_lookup f n x lookups f m) (lookup_of (set cs n y) m) (after m)
same_set w f lookups cs due after n x y below stay here all m = elim (cases_eq n m) [
  | inl q ↦ subst (λ (j : ℕ). AreSame w f (with_lookup f n x lookups f j) (lookup_of (set cs n y) j) (after j)) q
      (subst (λ (z : Option code_lookup.Lookup). AreSame w f (with_lookup f n x lookups f n) z (after n)) (sym (get_or-set_same cs n y None below))
      (subst (λ (z : Option Lookup). AreSame w f z y (after n)) (sym (lookup_here f n x lookups)) here))
  | inr q ↦ subst (λ (d : Due). AreSame w f (with_lookup f n x lookups f m) (lookup_of (set cs n y) m) d) (sym (stay m (λ e. q (sym e))))
      (subst (λ (z : Option code_lookup.Lookup). AreSame w f (with_lookup f n x lookups f m) z (due m)) (sym (get_or-set_other cs n m y None (λ e. q (sym e))))
      (subst (λ (z : Option Lookup). AreSame w f z (lookup_of cs m) (due m)) (sym (lookup_other f n m x lookups q)) (all m)))
]

pub none_both : (w : World) (f : Family) (x : Option Lookup) (y : Option code_lookup.Lookup) (d : Due) → AreSame w f x y d → y ≡ None → x ≡ None
none_both w f None y d a e = refl
none_both w f (Some k) None d a e = absurd a
none_both w f (Some k) (Some c) d a e = cc

pub both_none : (w : World) (f : Family) (x : Option Lookup) (y : Option code_lookup.Lookup) (d : Due) → AreSame w f x y d → x ≡ None → y ≡ None
both_none w f x None d a e = refl
both_none w f None (Some c) d a e = absurd a
both_none w f (Some k) (Some c) d a e = cc

pub some_both : (w : World) (f : Family) (x : Option Lookup) (y : Option code_lookup.Lookup) (d : Due) (c : code_lookup.Lookup) → AreSame w f x y d → y ≡ Some c → (k : Lookup) × (x ≡ Some k) × IsSameLookup w f k c d
some_both w f None None d c a e = cc
some_both w f None (Some b) d c a e = absurd a
some_both w f (Some k) None d c a e = absurd a
some_both w f (Some k) (Some b) d c a e = let q : b ≡ c = cc in (k, refl, subst (λ (z : code_lookup.Lookup). IsSameLookup w f k z d) q a)

pub both_some : (w : World) (f : Family) (x : Option Lookup) (y : Option code_lookup.Lookup) (d : Due) (k : Lookup) → AreSame w f x y d → x ≡ Some k → (c : code_lookup.Lookup) × (y ≡ Some c) × IsSameLookup w f k c d
both_some w f None None d k a e = cc
both_some w f None (Some b) d k a e = absurd a
both_some w f (Some j) None d k a e = absurd a
both_some w f (Some j) (Some b) d k a e = let q : j ≡ k = cc in (b, refl, subst (λ (z : Lookup). IsSameLookup w f z b d) q a)

-- ---- a look-up is opened
begins : (w : World) (s : State) (p : FamilyLive) (a : Addr) (after : OpenLookups) (n : ℕ) → ((due : Dues) → FitsAll p.live p.cursors due → FitsAll p.live after due) → IsStarted p.live a p.cursors after n → IsAt w a.family s p → (t : State) × OpensIn s (addr_as a) (opened (printed_number a.family n)) t × IsAt w a.family t (record { live = p.live; cursors = after })
begins w s p a after n fits is at = (
  t,
  (n, refl, is.few, none_both w f _ _ _ (h.same n) is.free, taken, refl),
  (
    due,
    record {
      world = h.world;
      trie = h.trie;
      fits = fits due h.fits;
      same = subst (λ (cs : OpenLookups). (m : ℕ) → AreSame w f (t.lookups f m) (lookup_of cs m) (due m)) (sym is.now) (same_set w f s.lookups p.cursors due due n (Some k) (Some c) below (λ m e. refl) (record { addr = refl; since = h.trie.time; stage = (refl, refl) }) h.same);
      started = started_set f n s.ended (Some k) s.lookups here h.started;
      many = ap (λ (cs : OpenLookups). length cs) is.now ∙ (length-set p.cursors n (Some c) ∙ h.many);
    },
  ),
)
  where
    f : Family
    f = a.family

    due : Dues
    due = at.0

    h : IsFamilyState w a.family s p at.0
    h = at.1

    k : Lookup
    k = record { addr = addr_as a; since = s.ended; gone = 0; version = None }

    c : code_lookup.Lookup
    c = record { addr = a; since = p.live.selected.time; stage = stage.Word }

    t : State
    t = record s { lookups = with_lookup a.family n (Some k) s.lookups }

    below : n < length p.cursors
    below = omega (arith, is.few, h.many)

    taken : (m : ℕ) → m < n → s.lookups a.family m ≢ None
    taken m l e = is.least m l (both_none w f _ _ _ (h.same m) e)

    here : (j : Lookup) → Some k ≡ Some j → j.since ≤ s.ended
    here j e = let q : k ≡ j = cc in subst (λ (x : Lookup). x.since ≤ s.ended) q (omega arith)

pub opened_at : (w : World) (f : Family) (s : State) (p : FamilyLive) (a : Addr) (after : OpenLookups) (n : ℕ) → a.family ≡ f → ((due : Dues) → FitsAll p.live p.cursors due → FitsAll p.live after due) → IsStarted p.live a p.cursors after n → IsAt w f s p → (t : State) × OpensIn s (addr_as a) (opened (printed_number f n)) t × IsAt w f t (record { live = p.live; cursors = after })
opened_at w f s p a after n fam fits is at = subst (λ (g : Family). (t : State) × OpensIn s (addr_as a) (opened (printed_number g n)) t × IsAt w g t (record { live = p.live; cursors = after })) fam (begins w s p a after n fits is (subst (λ (g : Family). IsAt w g s p) (sym fam) at))

-- none is
pub full_at : (w : World) (f : Family) (s : State) (p : FamilyLive) (a : Addr) → a.family ≡ f → IsFull p.cursors → IsAt w f s p → (t : State) × OpensIn s (addr_as a) full t × IsAt w f t p
full_at w f s p a fam is at = (s, ((λ m l e. is m l (both_none w f _ _ _ (at.1.same m) (ap (λ (g : Family). s.lookups g m) (sym fam) ∙ e))), refl), at)

-- as the code tells
pub open_at : {E : Type 0} (w : World) (f : Family) (s : State) (p : FamilyLive) (a : Addr) (after : OpenLookups) (r : Result ℕ E) → a.family ≡ p.live.selected.family → ((due : Dues) → FitsAll p.live p.cursors due → FitsAll p.live after due) → IfOk r (IsStarted p.live a p.cursors after) → OnErr r (IsFull p.cursors × (after ≡ p.cursors)) → IsAt w f s p → (t : State) × OpensIn s (addr_as a) (open_row f r) t × IsAt w f t (record { live = p.live; cursors = after })
open_at w f s p a after (Ok n) fam fits is none at = opened_at w f s p a after n (fam ∙ at.1.trie.family) fits is at
open_at w f s p a after (Err e) fam fits is none at = subst (λ (cs : OpenLookups). (t : State) × OpensIn s (addr_as a) full t × IsAt w f t (record { live = p.live; cursors = cs })) (sym none.1) (full_at w f s p a (fam ∙ at.1.trie.family) none.0 at)

-- ---- a look-up goes on
-- with this due of it after the go, in the version that it has then
pub goes_at : (w : World) (f : Family) (s : State) (p : FamilyLive) (due : Dues) (n : ℕ) (k : Lookup) (c : code_lookup.Lookup) (d : Due) (r : Option Hop) (after : OpenLookups) → IsFamilyState w f s p due → s.lookups f n ≡ Some k → lookup_of p.cursors n ≡ Some c → IsSameLookup w f k c (due n) → d.answer ≡ match_in (w.routes (version_of w s k)) k.addr → k.gone + d.left ≡ visits_of w.direct (w.routes (version_of w s k)) k.addr → GoesAsDue r d n p.live p.cursors after due → (t : State) × GoesTo {E = Unit {0}} w s f n (Ok r) t × IsAt w f t (record { live = p.live; cursors = after })
goes_at w f s p due n k c d (Some g) after h held is same answer gone goes = (
  t,
  (k, held, goes.1 ∙ answer, (refl, (k, held, omega (arith, gone, goes.0), ap (hop_at w.hops) (goes.1 ∙ answer), refl))),
  (
    due,
    record {
      world = h.world;
      trie = h.trie;
      fits = goes.3;
      same = subst (λ (cs : OpenLookups). (m : ℕ) → AreSame w f (t.lookups f m) (lookup_of cs m) (due m)) (sym goes.2) (same_set w f s.lookups p.cursors due due n None None (some_below p.cursors n c is) (λ m e. refl) tt h.same);
      started = started_set f n s.ended None s.lookups (λ j e. absurd (cc)) h.started;
      many = ap (λ (cs : OpenLookups). length cs) goes.2 ∙ (length-set p.cursors n None ∙ h.many);
    },
  ),
)
  where
    t : State
    t = record s { lookups = with_lookup f n None s.lookups }
goes_at w f s p due n k c d None after h held is same answer gone goes = (
  t,
  (refl, (k, held, omega (arith, gone, goes.0), refl)),
  (
    with_due n d due,
    record {
      world = h.world;
      trie = h.trie;
      fits = goes.2;
      same = subst (λ (cs : OpenLookups). (m : ℕ) → AreSame w f (t.lookups f m) (lookup_of cs m) (with_due n d due m)) (sym now) (same_set w f s.lookups p.cursors due (with_due n d due) n (Some j) (Some b) (some_below p.cursors n c is) (with_due_other n d due) here h.same);
      started = started_set f n s.ended (Some j) s.lookups since h.started;
      many = ap (λ (cs : OpenLookups). length cs) now ∙ (length-set p.cursors n (Some b) ∙ h.many);
    },
  ),
)
  where
    j : Lookup
    j = record k { gone = suc k.gone; version = Some (version_of w s k) }

    b : code_lookup.Lookup
    b = record { addr = c.addr; since = c.since; stage = stage.Node goes.1.2.0 goes.1.2.1 goes.1.2.2 }

    was : goes.1.0 ≡ c
    was = let o = goes.1.1 in let q : Some goes.1.0 ≡ Some c = sym o ∙ is in cc

    now : after ≡ set p.cursors n (Some b)
    now = goes.1.2.3 ∙ ap (λ (x : code_lookup.Lookup). set p.cursors n (Some (record { addr = x.addr; since = x.since; stage = stage.Node goes.1.2.0 goes.1.2.1 goes.1.2.2 }))) was

    t : State
    t = record s { lookups = with_lookup f n (Some j) s.lookups }

    here : IsSameLookup w f j b (with_due n d due n)
    here = subst (λ (x : Due). IsSameLookup w f j b x) (sym (with_due_here n d due)) (record { addr = same.addr; since = same.since; stage = (version_of w s k, refl, answer, omega (arith, gone)) })

    since : (i : Lookup) → Some j ≡ Some i → i.since ≤ s.ended
    since i e = let q : j ≡ i = cc in subst (λ (x : Lookup). x.since ≤ s.ended) q (h.started n k held)
