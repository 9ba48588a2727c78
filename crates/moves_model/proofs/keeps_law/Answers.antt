use Rattle.std.proofs.Common.{◌∙◌, add-one}
use Rattle.moves_model.proofs.Keeps.{set_gives, gives_set, stays, comes, comes_below, root_near}
use Rattle.moves_model.proofs.keeps_law.Goals as goal

pub returns : goal.returns
returns c = record {
  set = λ d f T g h x. (λ e. set_gives d f T g h x e, λ y. (gives_set d f T g y).0);
  free = λ d f T h x. (gives_set d f T h x).1;
  stays = stays;
  comes = λ d f T g h x n. root_near d f T g ∙ comes d f T g h x n;
  below = λ b d f T g h. rw add-one (comes_below b d f T g h);
}
