use Rattle.std.proofs.Common.{ap, ◌∙◌}
use Rattle.moves_model.specs.Sets.{is_allowed}
use Rattle.moves_model.proofs.Keeps.{gives_set, set_gives, stays}
use Rattle.moves_model.proofs.Aside.{near_aside, aside_bare, aside_comes, aside_below}
use Rattle.moves_model.proofs.event_laws.aside_law.Goals as goal

pub returns : goal.returns
returns c = record {
  set = near_aside;
  free = λ d f T h x. (gives_set d f T h x).1;
  stays = λ d f T g h t x e. stays d f T g t (set_gives d f T g h x (ap (is_allowed g) (near_aside d f T h x) ∙ e));
  comes = λ d f T g h x n. (aside_bare d f T g h x n, aside_comes d f T g h x n);
  below = λ d f T g h b q t x n. aside_below d f T g h t x n b q;
}
