use Rattle.kept_model.proofs.Numbers.{hops_more, stays, one_more_at_most, room, full_in_front, full_behind, routes_numbered, chosen_numbered, hops_distinct, entries_have, entries_back, entries_stay, change_stays}
use Rattle.kept_model.proofs.feed_laws.numbers_law.Goals as goal

pub returns : goal.returns
returns c = record {
  more = hops_more;
  stays = stays;
  one_more = one_more_at_most;
  room = room;
  full_in_front = full_in_front;
  full_behind = full_behind;
  routes = routes_numbered;
  distinct = hops_distinct;
  entries = entries_have;
  back = entries_back;
  chosen = chosen_numbered;
  entries_stay = entries_stay;
  change_stays = change_stays;
}
