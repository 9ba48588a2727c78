use Rattle.route_model.proofs.Choices.{one_is_chosen, one_alone, chosen_is_held, least_path, least_via}
use Rattle.route_model.proofs.choice_law.Goals as goal

pub returns : goal.returns
returns c = record { one = one_is_chosen; alone = one_alone; candidate = chosen_is_held; least_path = least_path; least_via = least_via }
