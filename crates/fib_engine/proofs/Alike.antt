-- What an elementary event leaves is one state.
use Rattle.std.proofs.Common.{◌≡◌, ◌+◌, ℕ, List, Bool, Option, sym, ap, ◌∙◌}
use Rattle.table_model.specs.Address.{Address}
use Rattle.table_model.specs.Entries.{Entries}
use Rattle.route_model.specs.Events.{Elem}
use Rattle.route_model.specs.Choice.{Candidates}
use Rattle.moves_model.specs.Moved.{table_by}
use Rattle.route_tries.specs.Sizes.{Sizes}
use Rattle.fib_engine.specs.Held.{EngineState}
use Rattle.fib_engine.specs.Stands.{TakesElem}

-- states with the same fields are the same
alike : (x y : EngineState) → x.every ≡ y.every → x.fewest ≡ y.fewest → x.sizes ≡ y.sizes → x.candidates ≡ y.candidates → x.hops ≡ y.hops → x.table ≡ y.table → x.loaded ≡ y.loaded → x.events ≡ y.events → x.moves ≡ y.moves → x ≡ y
alike x y every fewest sizes candidates hops table loaded events moves =
    ap (λ (z : ℕ). let s : EngineState = record x { every = z } in s) every
    ∙ (ap (λ (z : Bool). let s : EngineState = record x { every = y.every; fewest = z } in s) fewest
    ∙ (ap (λ (z : Sizes). let s : EngineState = record x { every = y.every; fewest = y.fewest; sizes = z } in s) sizes
    ∙ (ap (λ (z : Candidates). let s : EngineState = record y { candidates = z; hops = x.hops; table = x.table; loaded = x.loaded; events = x.events; moves = x.moves } in s) candidates
    ∙ (ap (λ (z : List Address). let s : EngineState = record y { hops = z; table = x.table; loaded = x.loaded; events = x.events; moves = x.moves } in s) hops
    ∙ (ap (λ (z : Entries). let s : EngineState = record y { table = z; loaded = x.loaded; events = x.events; moves = x.moves } in s) table
    ∙ (ap (λ (z : Bool). let s : EngineState = record y { loaded = z; events = x.events; moves = x.moves } in s) loaded
    ∙ (ap (λ (z : ℕ). let s : EngineState = record y { events = z; moves = x.moves } in s) events
    ∙ ap (λ (z : Option ℕ). let s : EngineState = record y { moves = z } in s) moves)))))))

pub one_state : (elem : Elem) (old new other : EngineState) → TakesElem elem old new → TakesElem elem old other → new ≡ other
one_state elem old new other a b =
    let hops : new.hops ≡ other.hops = a.hops ∙ sym b.hops in
    alike new other (a.every ∙ sym b.every) (a.fewest ∙ sym b.fewest) (a.sizes ∙ sym b.sizes) (a.candidates ∙ sym b.candidates) hops
    (a.table ∙ (ap (λ (hs : List Address). table_by old.fewest old.every hs (old.events + 1) old.candidates old.table elem) hops ∙ sym b.table))
    (a.loaded ∙ sym b.loaded) (a.events ∙ sym b.events) (a.moves ∙ sym b.moves)
