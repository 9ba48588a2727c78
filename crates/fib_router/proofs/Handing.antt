-- The token of the event that is begun, as it is handed back.
use Rattle.std.proofs.Common.{◌≡◌, ◌<◌, Option, Some, None, sym, ap, ◌∙◌, subst}
use Rattle.table_model.specs.declared.family.Family.{Family}
use Rattle.poptrie_update.specs.Lives.{made_of, stores_left}
use Rattle.poptrie_update.specs.declared.pending.Pending.{Pending}
use Rattle.fib_router.specs.Lives.{live_of}
use Rattle.fib_router.specs.Router.{Routing, stores_left_by, stores_left_of, stores_made_by, stores_made_in}
use Rattle.fib_router.specs.declared.lives.Lives as code_lives
use Rattle.fib_router.specs.declared.router.Begun.{Begun}

pub handed_back : (b : Begun) (f : Family) (p q : Pending) → b.pending ≡ Some (f, q) → p ≡ q → (let c : Begun = record { planned = b.planned; pending = Some (f, p) } in c) ≡ b
handed_back b f p q is e =
    ap (λ (x : Pending). let c : Begun = record { planned = b.planned; pending = Some (f, x) } in c) e ∙ ap (λ (o : Option (Family × Pending)). let c : Begun = record { planned = b.planned; pending = o } in c) (sym is)

module _ (b : Begun) (r : Routing) (t : code_lives.Lives) (lives : t ≡ r.lives) where
  pub some_left : (f : Family) (q : Pending) → b.pending ≡ Some (f, q) → 0 < stores_left (live_of f t) → 0 < stores_left_of b r
  some_left f q is l = subst (λ (o : Option (Family × Pending)). 0 < stores_left_by o r.lives) (sym is) (subst (λ (x : code_lives.Lives). 0 < stores_left (live_of f x)) lives l)

  pub some_made : (f : Family) (q : Pending) → b.pending ≡ Some (f, q) → 0 < made_of (live_of f t) → 0 < stores_made_in b r
  some_made f q is l = subst (λ (o : Option (Family × Pending)). 0 < stores_made_by o r.lives) (sym is) (subst (λ (x : code_lives.Lives). 0 < made_of (live_of f x)) lives l)

  pub none_left : (f : Family) (q : Pending) → b.pending ≡ Some (f, q) → stores_left (live_of f t) ≡ 0 → stores_left_of b r ≡ 0
  none_left f q is l = ap (λ (o : Option (Family × Pending)). stores_left_by o r.lives) is ∙ (ap (λ (x : code_lives.Lives). stores_left (live_of f x)) (sym lives) ∙ l)

  pub none_made : (f : Family) (q : Pending) → b.pending ≡ Some (f, q) → made_of (live_of f t) ≡ 0 → stores_made_in b r ≡ 0
  none_made f q is l = ap (λ (o : Option (Family × Pending)). stores_made_by o r.lives) is ∙ (ap (λ (x : code_lives.Lives). made_of (live_of f x)) (sym lives) ∙ l)

  pub nothing_left : b.pending ≡ None → stores_left_of b r ≡ 0
  nothing_left is = ap (λ (o : Option (Family × Pending)). stores_left_by o r.lives) is

  pub nothing_made : b.pending ≡ None → stores_made_in b r ≡ 0
  nothing_made is = ap (λ (o : Option (Family × Pending)). stores_made_by o r.lives) is
