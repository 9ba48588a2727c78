-- What a plan's repair leaves as it is from then on.
use Rattle.std.proofs.Common.{◌≡◌, Bool, true, false, Option, Some, None, refl, sym, subst, ◌∙◌}
use Rattle.std.specs.Prelude.{option_map}
use Rattle.std.specs.Option.{ForSome}
use Rattle.table_model.specs.Address.{Prefix, IsPrefix}
use Rattle.table_model.specs.declared.family.Family.{Family}
use Rattle.kept_model.specs.Patched.{after_repair}
use Rattle.fib_addr.specs.Views.{prefix_as}
use Rattle.fib_addr.specs.declared.prefix.Prefix as code_prefix
use Rattle.fib_addr.specs.declared.entry.Hop as code_hop
use Rattle.fib_delta.proofs.Held.{is_prefix}
use Rattle.orig_tree.specs.Views.{Labels, InPlace}
use Rattle.smalta_keep.specs.Known.{StaysAt}
use Rattle.smalta_keep.specs.Plans.{repaired_table}
use Rattle.smalta_keep.specs.Views.{place_in}
use Rattle.smalta_keep.proofs.Knowing.{patch_stays}

abbrev Route : Type 0
Route = Option (code_prefix.Prefix × code_hop.Hop)

pub route_family : (route : Route) (o : Option code_prefix.Prefix) (f : Family) → o ≡ option_map (λ r. r.0) route → ForSome route (λ r. r.0.family ≡ f) → ForSome o (λ p. p.family ≡ f)
route_family route o f e x = subst (λ (a : Option code_prefix.Prefix). ForSome a (λ p. p.family ≡ f)) (sym e) (here route x)
  where
    here : (route : Route) → ForSome route (λ r. r.0.family ≡ f) → ForSome (option_map (λ r. r.0) route) (λ p. p.family ≡ f)
    here None x = λ p s. cc
    here (Some r) x = λ p s. let same : r.0 ≡ p = cc in subst (λ (q : code_prefix.Prefix). q.family ≡ f) same (x r refl)

pub family_of : (route : Route) (f : Family) → ForSome route (λ r. r.0.family ≡ f) → ForSome (place_in route) (λ p. (p.family ≡ f) × IsPrefix p)
family_of None f x = λ p s. cc
family_of (Some r) f x = λ p s. let same : prefix_as r.0 ≡ p = cc in subst (λ (q : Prefix). (q.family ≡ f) × IsPrefix q) same (x r refl, is_prefix r.0)

pub settled_moves : (route : Route) (fewest : Bool) (k : Labels) (reach : Option code_prefix.Prefix) (place : Option Prefix) → place ≡ place_in route → (fewest ≡ false → option_map prefix_as reach ≡ place) → ForSome (place_in route) (λ p. (p.family ≡ k.family) × IsPrefix p)
    → InPlace k.entries → fewest ≡ false → StaysAt (option_map prefix_as reach) k.family k.routes (repaired_table fewest k (place_in route))
settled_moves route true k reach place s r x t e = let z : true ≡ false = e in absurd cc
settled_moves route false k reach place s r x t e = subst (λ (at : Option Prefix). StaysAt at k.family k.routes (after_repair k.routes (place_in route) k.entries)) (sym (r e ∙ s)) (patch_stays (place_in route) k.family k.routes k.entries x t)
