use Rattle.kept_model.proofs.Places.{in_places, each_at}
use Rattle.kept_model.proofs.between_laws.places_law.Goals as goal

pub returns : goal.returns
returns c = record { order = in_places; each = each_at }
