-- A step that has no more fields.
use Rattle.std.proofs.Common.{◌≡◌, ◌≢◌, ℕ, List, [], ◌∷◌, Err, refl}
use Rattle.printed_text.specs.Reading.{bad_count}
use Rattle.step_script.specs.Script.{Step, fieldless}

pub bare_more : (step : Step) (fields : List (List ℕ)) → fields ≢ [] → fieldless step fields ≡ Err bad_count
bare_more step [] n = absurd (n refl)
bare_more step (x ∷ more) n = refl
