-- How far the counts of an input go: an input has few enough octets for all of them to have 64 bits.
use Rattle.std.specs.Prelude.{◌≡◌, ℕ, ◌+◌, ◌*◌, ◌^◌, ◌≤◌, ◌<◌, List, length}
use Rattle.route_model.specs.Events.{Event}
use Rattle.route_model.specs.Choice.{Candidates, after_elems, elems_after}
use Rattle.fib_run.specs.declared.feed.Counts.{Counts}

-- after these candidates, and after n elementary events, those of these events are counted in 64 bits
abbrev pub CountsFit : Candidates → List Event → ℕ → Type 0
CountsFit held events count = count + length (elems_after held events) < 2 ^ 64

-- these events were taken after these candidates: their elementary events were counted, and the candidates are those after them
pub record CountsOn (held : Candidates) (events : List Event) (before after : ℕ) (now : Candidates) : Type 0 where
  pub count : after ≡ before + length (elems_after held events)
  pub candidates : now ≡ after_elems held (elems_after held events)

-- The counts of an input of at most `octets` octets, taken after these candidates: no more records, no more skipped ones and no more treated messages than octets, and no more elementary events and candidates after them than the candidates before and two for each octet.
pub record AreBounded (octets : ℕ) (held : Candidates) (counts : Counts) (now : Candidates) : Type 0 where
  pub records : counts.records ≤ octets
  pub skipped : counts.skipped ≤ octets
  pub treated : counts.treated ≤ octets
  pub events : counts.events + length now ≤ length held + 2 * octets

-- the sums of the counts of two inputs have 64 bits
pub record AddUp (load updates : Counts) : Type 0 where
  pub records : load.records + updates.records < 2 ^ 64
  pub skipped : load.skipped + updates.skipped < 2 ^ 64
  pub treated : load.treated + updates.treated < 2 ^ 64
  pub events : load.events + updates.events < 2 ^ 64
