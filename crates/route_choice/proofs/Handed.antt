-- Candidates that are handed on one by one.
use Rattle.std.proofs.Common.{◌≡◌, List, [], ◌∷◌, ◌++◌, refl, sym, ap, ◌∙◌, subst}
use Rattle.std.specs.Prelude.{map}
use Rattle.std.specs.List.{AllByRecursion}
use Rattle.route_model.specs.Choice.{Place, PathAttrs, Candidates}
use Rattle.fib_addr.specs.declared.prefix.Prefix as code
use Rattle.fib_prefix.specs.Views.{IsOfOctets, cand_as}
use Rattle.fib_prefix.specs.declared.event.Cand.{Cand}
use Rattle.fib_prefix.specs.declared.event.Via.{Via}
use Rattle.adj_rib_in.specs.declared.keys.PathAttrs as attrs
use Rattle.adj_rib_in.specs.Paths.{Paths}
use Rattle.adj_rib_in.specs.Ways.{Ways}
use Rattle.fib_prefix.specs.Taken.{TakesCands}
use Rattle.route_choice.specs.Walks.{by_way, by_ways, held_at, held_for}
use Rattle.route_choice.proofs.AllCandidates.{all_octets, held_more, held_none}

-- once the rest is taken, the whole is
abbrev pub Completes : {S : Type 0} → (S → List Cand → S → Type 0) → S → Candidates → S → Candidates → Type 0
Completes {S = S} takes start whole now rest = (end : S) → TakesCands takes now rest end → TakesCands takes start whole end

-- what a sink offers of candidates behind candidates
abbrev pub Joins : {S : Type 0} → (S → List Cand → S → Type 0) → Type 0
Joins {S = S} takes = (a b c : S) (cands more : List Cand) → takes a cands b → takes b more c → takes a (cands ++ more) c

both_are : (cands more : List Cand) (held rest : Candidates) → map cand_as cands ≡ held → map cand_as more ≡ rest → map cand_as (cands ++ more) ≡ held ++ rest
both_are cands more held rest e h = joined cands ∙ (ap (λ xs. xs ++ map cand_as more) e ∙ ap (λ xs. held ++ xs) h)
  where
    joined : (cs : List Cand) → map cand_as (cs ++ more) ≡ map cand_as cs ++ map cand_as more
    joined [] = refl
    joined (c ∷ cs) = ap (λ xs. cand_as c ∷ xs) (joined cs)

module _ {S : Type 0} (takes : S → List Cand → S → Type 0) where
  pub took_one : (before now : S) (c : Cand) (x : Place × PathAttrs) → cand_as c ≡ x → takes before (c ∷ []) now → TakesCands takes before (x ∷ []) now
  took_one before now c x e t = record { cands = c ∷ []; are = ap (λ y. y ∷ []) e; took = t }

  pub took_none : (a : S) → takes a [] a → TakesCands takes a [] a
  took_none a t = record { cands = []; are = refl; took = t }

  pub took_as : (a b : S) (held other : Candidates) → held ≡ other → TakesCands takes a held b → TakesCands takes a other b
  took_as a b held other e t = subst (λ cs. TakesCands takes a cs b) e t

  pub took_then : Joins takes → (a b c : S) (held rest : Candidates) → TakesCands takes a held b → TakesCands takes b rest c → TakesCands takes a (held ++ rest) c
  took_then joins a b c held rest t u = record { cands = t.cands ++ u.cands; are = both_are t.cands u.cands held rest t.are u.are; took = joins a b c t.cands u.cands t.took u.took }

  pub took_octets : (a b : S) (held : Candidates) → TakesCands takes a held b → AllByRecursion IsOfOctets held
  took_octets a b held t = subst (AllByRecursion IsOfOctets) t.are (all_octets t.cands)

  -- ---- walks

  pub way_handed : Joins takes → (p : code.Prefix) (start now next : S) (whole : Candidates) (it rest : Ways) (e : Via × attrs.PathAttrs) → it ≡ e ∷ rest → TakesCands takes now (by_way p e ∷ []) next → Completes takes start whole now (by_ways p it) → Completes takes start whole next (by_ways p rest)
  way_handed joins p start now next whole it rest e i one h = λ end t. h end (took_as now end _ _ (ap (by_ways p) (sym i)) (took_then joins now next end (by_way p e ∷ []) (by_ways p rest) one t))

  pub ways_handed : (p : code.Prefix) (start now : S) (whole : Candidates) (it : Ways) → it ≡ [] → takes now [] now → Completes takes start whole now (by_ways p it) → TakesCands takes start whole now
  ways_handed p start now whole it i none h = h now (took_as now now [] _ (ap (by_ways p) (sym i)) (took_none now none))

  pub prefix_handed : Joins takes → (paths : Paths) (start now next : S) (whole : Candidates) (p : code.Prefix) (it rest : List code.Prefix) → it ≡ p ∷ rest → TakesCands takes now (held_at paths p) next → Completes takes start whole now (held_for paths it) → Completes takes start whole next (held_for paths rest)
  prefix_handed joins paths start now next whole p it rest i one h = λ end t. h end (took_as now end _ _ (sym (held_more paths p rest) ∙ ap (held_for paths) (sym i)) (took_then joins now next end (held_at paths p) (held_for paths rest) one t))

  pub prefixes_handed : (paths : Paths) (start now : S) (whole : Candidates) (it : List code.Prefix) → it ≡ [] → takes now [] now → Completes takes start whole now (held_for paths it) → TakesCands takes start whole now
  prefixes_handed paths start now whole it i none h = h now (took_as now now [] _ (sym (held_none paths) ∙ ap (held_for paths) (sym i)) (took_none now none))
