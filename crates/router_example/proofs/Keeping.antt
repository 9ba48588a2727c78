-- What stays of lookups beside a router's events.
use Rattle.std.proofs.Common.{◌≡◌, Bool, true, false, Option, Some, None, refl, sym, ap, ◌∙◌, arith, subst}
use Rattle.std.specs.Prelude.{if◌then◌else◌}
use Rattle.table_model.specs.Address.{Prefix, same_family}
use Rattle.table_model.specs.declared.family.Family.{Family}
use Rattle.table_model.specs.declared.family.Family.TheVariants.{V4, V6}
use Rattle.table_model.specs.Entries.{Entries}
use Rattle.route_model.specs.Events.{Elem, elem_prefix}
use Rattle.route_model.specs.Choice.{Candidates, after_elem, chosen_for}
use Rattle.kept_model.specs.Kept.{changed_at, is_other}
use Rattle.poptrie_set.specs.declared.trie_set.Oldest.{Oldest}
use Rattle.poptrie_update.specs.Lives.{Living, Shows, is_pending}
use Rattle.poptrie_update.specs.Reads.{IsShowing}
use Rattle.poptrie_update.specs.Cursors.{Dues, FitsAll, IsFirst, OpenLookups}
use Rattle.poptrie_update.proofs.Opened.{kept_fits, since_fits}
use Rattle.fib_engine.specs.Held.{engine_routes}
use Rattle.fib_engine.specs.Stands.{routes_after}
use Rattle.fib_router.specs.Lives.{GoesBy, IsReadyFor, Readies, StoresNext, live_of}
use Rattle.fib_router.specs.Router.{Routing}
use Rattle.router_example.specs.Beside.{GoOnBeside, GoOn, IsTrieOf, lookups_of}
use Rattle.router_example.specs.declared.lookups.Lookups.{Lookups}

-- ---- one family
record IsBeside (f : Family) (l : Living) (cs : OpenLookups) : Type 0 where
  pub trie : IsTrieOf f l
  pub on : GoOn l cs

in_family : (f : Family) (r : Routing) (t : Lookups) → GoOnBeside r t → IsBeside f (live_of f r.lives) (lookups_of f t)
in_family V4 r t b = record { trie = b.trie4; on = b.on4 }
in_family V6 r t b = record { trie = b.trie6; on = b.on6 }

both : (r : Routing) (t : Lookups) → ((f : Family) → IsBeside f (live_of f r.lives) (lookups_of f t)) → GoOnBeside r t
both r t b = record { trie4 = (b V4).trie; trie6 = (b V6).trie; on4 = (b V4).on; on6 = (b V6).on }

same_live : (f : Family) (l m : Living) (cs : OpenLookups) → m ≡ l → IsBeside f l cs → IsBeside f m cs
same_live f l m cs e b = subst (λ (x : Living). IsBeside f x cs) (sym e) b

by_pending : (f : Family) (l m : Living) (cs : OpenLookups) → (is_pending l ≡ true → IsBeside f m cs) → (is_pending l ≡ false → m ≡ l) → IsBeside f l cs → IsBeside f m cs
by_pending f l m cs own other b = by_case (is_pending l) refl
  where
    by_case : (p : Bool) → is_pending l ≡ p → IsBeside f m cs
    by_case true e = own e
    by_case false e = same_live f l m cs (other e) b

-- ---- a store
stored_one : (f : Family) (l m : Living) (cs : OpenLookups) (done : Bool) → StoresNext done l m → IsBeside f l cs → IsBeside f m cs
stored_one f l m cs done s b = record {
  trie = record { family = s.carries.shape.0 ∙ b.trie.family; showing = (b.trie.showing.0, b.trie.showing.1, s.shows b.trie.showing.0 b.trie.showing.1 b.trie.showing.2) };
  on = (b.on.0, kept_fits l m cs b.on.0 (record { shape = s.carries.shape; time = omega (arith, s.carries.time); reads = s.carries.fits }) b.on.1);
}

pub stored : (old new : Routing) (t : Lookups) (done : Bool)
    → ((f : Family) → is_pending (live_of f old.lives) ≡ true → StoresNext done (live_of f old.lives) (live_of f new.lives))
    → ((f : Family) → is_pending (live_of f old.lives) ≡ false → live_of f new.lives ≡ live_of f old.lives)
    → GoOnBeside old t → GoOnBeside new t
stored old new t done own other b =
    both new t (λ f. let x = in_family f old t b in by_pending f (live_of f old.lives) (live_of f new.lives) (lookups_of f t) (λ e. stored_one f (live_of f old.lives) (live_of f new.lives) (lookups_of f t) done (own f e) x) (other f) x)

-- ---- an end
ended_one : (f : Family) (l m : Living) (cs : OpenLookups) → GoesBy l m → IsBeside f l cs → IsBeside f m cs
ended_one f l m cs g b = record {
  trie = record { family = g.shape.0 ∙ b.trie.family; showing = (b.trie.showing.1, b.trie.showing.1, g.shows b.trie.showing.0 b.trie.showing.1 b.trie.showing.2) };
  on = (b.on.0, kept_fits l m cs b.on.0 (record { shape = g.shape; time = omega (arith, g.time); reads = g.fits }) b.on.1);
}

pub ended : (old new : Routing) (t : Lookups)
    → ((f : Family) → is_pending (live_of f old.lives) ≡ true → GoesBy (live_of f old.lives) (live_of f new.lives))
    → ((f : Family) → is_pending (live_of f old.lives) ≡ false → live_of f new.lives ≡ live_of f old.lives)
    → GoOnBeside old t → GoOnBeside new t
ended old new t own other b =
    both new t (λ f. let x = in_family f old t b in by_pending f (live_of f old.lives) (live_of f new.lives) (lookups_of f t) (λ e. ended_one f (live_of f old.lives) (live_of f new.lives) (lookups_of f t) (own f e) x) (other f) x)

-- ---- a begin, refused or not
changed_there : (held : Candidates) (e : Elem) (p : Prefix) → changed_at held e ≡ Some p → elem_prefix e ≡ p
changed_there held e p is = by_test (is_other (chosen_for held (elem_prefix e)) (chosen_for (after_elem held e) (elem_prefix e))) is
  where
    by_test : (b : Bool) → (if b then Some (elem_prefix e) else None) ≡ Some p → elem_prefix e ≡ p
    by_test true q = cc
    by_test false q = absurd (cc)

family_is : (f g : Family) → same_family f g ≡ true → f ≡ g
family_is V4 V4 e = refl
family_is V6 V6 e = refl
family_is V4 V6 e = absurd (cc)
family_is V6 V4 e = absurd (cc)

module _ (who : Oldest) (e : Elem) (old new : Routing) (t : Lookups)
    (first : IsFirst who (lookups_of (elem_prefix e).family t))
    (readies : (f : Family) → Readies who (live_of f old.lives) (live_of f new.lives))
    (other : (f : Family) → ((p : Prefix) → changed_at old.held.candidates e ≡ Some p → same_family p.family f ≡ false) → live_of f new.lives ≡ live_of f old.lives)
    (shown : (f : Family) (p : Prefix) → changed_at old.held.candidates e ≡ Some p → p.family ≡ f → IsShowing (live_of f new.lives))
    (b : GoOnBeside old t)
  where
    own : (f : Family) (p : Prefix) → changed_at old.held.candidates e ≡ Some p → p.family ≡ f → IsBeside f (live_of f new.lives) (lookups_of f t)
    own f p is fam =
        let x = in_family f old t b in
        let r = readies f in
        let s = shown f p is fam in
        let at : IsFirst who (lookups_of f t) = subst (λ (g : Family). IsFirst who (lookups_of g t)) (ap (λ (y : Prefix). y.family) (changed_there old.held.candidates e p is) ∙ fam) first in
        record {
          trie = record { family = r.shape.0 ∙ x.trie.family; showing = s };
          on = (x.on.0, since_fits who (live_of f old.lives) (live_of f new.lives) (lookups_of f t) x.on.0 at (record { shape = r.shape; time = omega (arith, r.time); reads = r.fits }) x.on.1);
        }

    apart : (f : Family) → live_of f new.lives ≡ live_of f old.lives → IsBeside f (live_of f new.lives) (lookups_of f t)
    apart f same = same_live f (live_of f old.lives) (live_of f new.lives) (lookups_of f t) same (in_family f old t b)

    by_family : (f : Family) (p : Prefix) (is : changed_at old.held.candidates e ≡ Some p) (s : Bool) → same_family p.family f ≡ s → IsBeside f (live_of f new.lives) (lookups_of f t)
    by_family f p is true s = own f p is (family_is p.family f s)
    by_family f p is false s = apart f (other f (λ q i. let z : p ≡ q = sym (changed_there old.held.candidates e p is) ∙ changed_there old.held.candidates e q i in subst (λ (y : Prefix). same_family y.family f ≡ false) z s))

    by_change : (f : Family) (o : Option Prefix) → changed_at old.held.candidates e ≡ o → IsBeside f (live_of f new.lives) (lookups_of f t)
    by_change f None is = apart f (other f (λ p i. let z : None ≡ Some p = sym is ∙ i in absurd (cc)))
    by_change f (Some p) is = by_family f p is (same_family p.family f) refl

    tried : GoOnBeside new t
    tried = both new t (λ f. by_change f (changed_at old.held.candidates e) refl)

module _ (who : Oldest) (e : Elem) (old new : Routing) (t : Lookups)
    (first : IsFirst who (lookups_of (elem_prefix e).family t))
    (readies : (f : Family) → Readies who (live_of f old.lives) (live_of f new.lives))
    (other : (f : Family) → ((p : Prefix) → changed_at old.held.candidates e ≡ Some p → same_family p.family f ≡ false) → live_of f new.lives ≡ live_of f old.lives)
    (b : GoOnBeside old t)
  where
    pub begun_beside : ((p : Prefix) → changed_at old.held.candidates e ≡ Some p → IsReadyFor (engine_routes old.held) (routes_after e old.held) (live_of p.family new.lives)) → GoOnBeside new t
    begun_beside ready = tried who e old new t first readies other shown b
      where
        shown : (f : Family) (p : Prefix) → changed_at old.held.candidates e ≡ Some p → p.family ≡ f → IsShowing (live_of f new.lives)
        shown f p is fam = (engine_routes old.held, routes_after e old.held, subst (λ (g : Family). Shows (live_of g new.lives) (engine_routes old.held) (routes_after e old.held)) fam (ready p is).shows)

    pub refused_beside : ((f : Family) (L M : Entries) → Shows (live_of f old.lives) L M → Shows (live_of f new.lives) L M) → GoOnBeside new t
    refused_beside kept = tried who e old new t first readies other shown b
      where
        shown : (f : Family) (p : Prefix) → changed_at old.held.candidates e ≡ Some p → p.family ≡ f → IsShowing (live_of f new.lives)
        shown f p is fam = let x = in_family f old t b in (x.trie.showing.0, x.trie.showing.1, kept f x.trie.showing.0 x.trie.showing.1 x.trie.showing.2)

-- ---- before the first event
none_due : Dues
none_due n = record { answer = 0; left = 0 }

pub none_open : (r : Routing) (t : Lookups) → ((l : Living) (due : Dues) → FitsAll l t.v4 due) → ((l : Living) (due : Dues) → FitsAll l t.v6 due) → IsTrieOf V4 r.lives.v4 → IsTrieOf V6 r.lives.v6 → GoOnBeside r t
none_open r t fits4 fits6 t4 t6 = record { trie4 = t4; trie6 = t6; on4 = (none_due, fits4 r.lives.v4 none_due); on6 = (none_due, fits6 r.lives.v6 none_due) }
