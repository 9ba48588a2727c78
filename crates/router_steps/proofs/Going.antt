-- An open look-up goes on.
use Rattle.std.proofs.Common.{◌≡◌, ℕ, suc, ◌+◌, Option, Some, None, refl, sym, ap, ◌∙◌, arith, subst}
use Rattle.std.specs.Prelude.{Result, Ok, Err, OnOk, OnErr, IfOk}
use Rattle.table_model.specs.declared.family.Family.{Family}
use Rattle.table_model.specs.Entries.{Entries, match_in}
use Rattle.fib_addr.specs.declared.entry.Hop.{Hop}
use Rattle.fib_addr.specs.Views.{addr_as}
use Rattle.poptrie_build.specs.Tries.{visits_of}
use Rattle.poptrie_update.specs.Lives.{Shows}
use Rattle.poptrie_update.specs.Reads.{published_entries}
use Rattle.poptrie_update.specs.Cursors.{OpenLookups, Dues, due_of, lookup_of, FitsAll, GoesAsDue, GoesFurther}
use Rattle.poptrie_update.specs.declared.cursors.Lookup as code_lookup
use Rattle.poptrie_update.specs.declared.cursors.Stage.{Stage}
use Rattle.poptrie_update.specs.declared.cursors.Stage.TheVariants as stage
use Rattle.step_script.specs.Machine as machine
use Rattle.step_script.specs.Machine.{World, State, Lookup, version_at, version_of}
use Rattle.router_steps.specs.Paused.{FamilyLive, shown_after, IsStage, IsSameLookup, IsFamilyState, IsAt}
use Rattle.router_steps.specs.Calls.{GoesTo}
use Rattle.router_steps.proofs.Opened.{none_both, some_both, goes_at}
use Rattle.router_steps.proofs.Trie.{published_is}

module _ (w : World) (f : Family) (s : State) (p : FamilyLive) (due : Dues) (h : IsFamilyState w f s p due) (n : ℕ) (c : code_lookup.Lookup) (is : lookup_of p.cursors n ≡ Some c) (k : Lookup) (held : s.lookups f n ≡ Some k) (same : IsSameLookup w f k c (due n)) (r : Option Hop) (after : OpenLookups) where
  abbrev Ends : Type 0
  Ends = (t : State) × GoesTo {E = Unit {0}} w s f n (Ok r) t × IsAt w f t (record { live = p.live; cursors = after })

  first : c.stage ≡ stage.Word → GoesAsDue r (due_of p.live.selected.direct_bits (published_entries p.live (w.routes s.ended) (w.routes (shown_after w f s.ended s.begun)) c.addr) c.addr) n p.live p.cursors after due → Ends
  first e g = goes_at w f s p due n k c (due_of p.live.selected.direct_bits E c.addr) r after h held is same answer (omega (arith, at.0, visits)) g
    where
      E : Entries
      E = published_entries p.live (w.routes s.ended) (w.routes (shown_after w f s.ended s.begun)) c.addr

      at : (k.gone ≡ 0) × (k.version ≡ None)
      at = subst (λ (x : Stage). IsStage w k x (due n)) e same.stage

      v : version_of w s k ≡ machine.published w s (addr_as c.addr)
      v = ap (version_at w s k) at.1 ∙ ap (machine.published w s) same.addr

      entries : E ≡ w.routes (version_of w s k)
      entries = published_is w f s.ended s.begun s.lookups p.live c.addr (omega (arith, h.trie.few)) ((h.fits.going n c is).family ∙ h.trie.family) h.trie ∙ ap w.routes (sym v)

      answer : match_in E (addr_as c.addr) ≡ match_in (w.routes (version_of w s k)) k.addr
      answer = ap (λ (x : Entries). match_in x (addr_as c.addr)) entries ∙ ap (match_in (w.routes (version_of w s k))) (sym same.addr)

      visits : visits_of p.live.selected.direct_bits E (addr_as c.addr) ≡ visits_of w.direct (w.routes (version_of w s k)) k.addr
      visits = ap (λ (d : ℕ). visits_of d E (addr_as c.addr)) h.trie.direct ∙ (ap (λ (x : Entries). visits_of w.direct x (addr_as c.addr)) entries ∙ ap (visits_of w.direct (w.routes (version_of w s k))) (sym same.addr))

  further : (i set t : ℕ) → c.stage ≡ stage.Node i set t → GoesFurther r (due n) n p.live p.cursors after due → Ends
  further i set t e g = goes_at w f s p due n k c (record { answer = (due n).answer; left = g.0 }) r after h held is same answer gone g.2
    where
      at : (m : ℕ) × (k.version ≡ Some m) × ((due n).answer ≡ match_in (w.routes m) k.addr) × (k.gone + (due n).left ≡ suc (visits_of w.direct (w.routes m) k.addr))
      at = subst (λ (x : Stage). IsStage w k x (due n)) e same.stage

      v : at.0 ≡ version_of w s k
      v = sym (ap (version_at w s k) at.1)

      answer : (due n).answer ≡ match_in (w.routes (version_of w s k)) k.addr
      answer = at.2 ∙ ap (λ (m : ℕ). match_in (w.routes m) k.addr) v

      gone : k.gone + g.0 ≡ visits_of w.direct (w.routes (version_of w s k)) k.addr
      gone = let q : visits_of w.direct (w.routes at.0) k.addr ≡ visits_of w.direct (w.routes (version_of w s k)) k.addr = ap (λ (m : ℕ). visits_of w.direct (w.routes m) k.addr) v in omega (arith, at.3, g.1, q)

  pub on_it : (c.stage ≡ stage.Word → (L M : Entries) (d : Dues) → Shows p.live L M → FitsAll p.live p.cursors d → GoesAsDue r (due_of p.live.selected.direct_bits (published_entries p.live L M c.addr) c.addr) n p.live p.cursors after d) → ((c.stage ≡ stage.Word → ⊥) → (d : Dues) → FitsAll p.live p.cursors d → GoesFurther r (d n) n p.live p.cursors after d) → Ends
  on_it word node = by c.stage refl
    where
      by : (x : Stage) → c.stage ≡ x → Ends
      by stage.Word e = first e (word e _ _ due h.trie.shows h.fits)
      by (stage.Node i set t) e = further i set t e (node (λ q. let z : stage.Node i set t ≡ stage.Word = sym e ∙ q in cc) due h.fits)

same_go : (E : Type 0) (w : World) (f : Family) (s : State) (n : ℕ) (r : Option Hop) (t : State) → GoesTo {E = Unit {0}} w s f n (Ok r) t → GoesTo {E = E} w s f n (Ok r) t
same_go E w f s n None t g = g
same_go E w f s n (Some h) t g = g

-- as the code tells
pub go_at : {E : Type 0} (w : World) (f : Family) (s : State) (p : FamilyLive) (n : ℕ) (r : Result (Option Hop) E) (after : OpenLookups)
    → OnErr r ((lookup_of p.cursors n ≡ None) × (after ≡ p.cursors))
    → OnOk r ((c : code_lookup.Lookup) × (lookup_of p.cursors n ≡ Some c))
    → IfOk r (λ r. (c : code_lookup.Lookup) → lookup_of p.cursors n ≡ Some c → c.stage ≡ stage.Word → (L M : Entries) (d : Dues) → Shows p.live L M → FitsAll p.live p.cursors d → GoesAsDue r (due_of p.live.selected.direct_bits (published_entries p.live L M c.addr) c.addr) n p.live p.cursors after d)
    → IfOk r (λ r. (c : code_lookup.Lookup) → lookup_of p.cursors n ≡ Some c → (c.stage ≡ stage.Word → ⊥) → (d : Dues) → FitsAll p.live p.cursors d → GoesFurther r (d n) n p.live p.cursors after d)
    → IsAt w f s p → (t : State) × GoesTo w s f n r t × IsAt w f t (record { live = p.live; cursors = after })
go_at w f s p n (Err e) after none is word node at = (s, (refl, none_both w f _ _ _ (at.1.same n) none.0, refl), subst (λ (cs : OpenLookups). IsAt w f s (record { live = p.live; cursors = cs })) (sym none.1) at)
go_at {E = E} w f s p n (Ok r) after none is word node at =
    let k = some_both w f _ _ _ is.0 (at.1.same n) is.1 in
    let y = on_it w f s p at.0 at.1 n is.0 is.1 k.0 k.1 k.2 r after (word is.0 is.1) (node is.0 is.1) in
    (y.0, same_go E w f s n r y.0 y.1, y.2)
