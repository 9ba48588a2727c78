use Rattle.std.proofs.Common.{◌≡◌, ◌++◌, ap, ◌∙◌}
use Rattle.std.proofs.lemmas.List.Filters.{dedup_is}
use Rattle.route_choice.specs.Walks.{row_prefixes, rank_prefixes}
use Rattle.route_choice.proofs.AllPrefixes.{same, have_all, have_rows, have_ranks, once_sorted}
use Rattle.route_choice.proofs.prefixes.all_prefixes.Goals as goal

pub returns-clause-rows : goal.returns-clause-rows
returns-clause-rows c =
    let all : c.add_ranks.new.prefixes.items ≡ row_prefixes c.args.flat.now.rows.items ++ rank_prefixes c.args.ranks.now.keys = c.in_ok-add_ranks.ensures ∙ ap (λ xs. xs ++ rank_prefixes c.args.ranks.now.keys) (c.in_ok-add_rows.ensures ∙ ap (λ xs. xs ++ row_prefixes c.args.flat.now.rows.items) c.in_ok-prefixes.ensures.items) in
    have_rows c.args.flat.now.rows.items c.args.ranks.now.keys c.add_ranks.new.prefixes.items c.dedup.new.self.items all (have_all c.add_ranks.new.prefixes.items c.sort.new.self.items c.dedup.new.self.items c.sort.ensures.permutation (dedup_is same _ _ c.dedup.ensures.filtered))

pub returns-clause-ranks : goal.returns-clause-ranks
returns-clause-ranks c =
    let all : c.add_ranks.new.prefixes.items ≡ row_prefixes c.args.flat.now.rows.items ++ rank_prefixes c.args.ranks.now.keys = c.in_ok-add_ranks.ensures ∙ ap (λ xs. xs ++ rank_prefixes c.args.ranks.now.keys) (c.in_ok-add_rows.ensures ∙ ap (λ xs. xs ++ row_prefixes c.args.flat.now.rows.items) c.in_ok-prefixes.ensures.items) in
    have_ranks c.args.flat.now.rows.items c.args.ranks.now.keys c.add_ranks.new.prefixes.items c.dedup.new.self.items all (have_all c.add_ranks.new.prefixes.items c.sort.new.self.items c.dedup.new.self.items c.sort.ensures.permutation (dedup_is same _ _ c.dedup.ensures.filtered))

pub returns-clause-sorted : goal.returns-clause-sorted
returns-clause-sorted c = once_sorted c.sort.new.self.items c.dedup.new.self.items c.in_ok-sort.ensures.sorted (dedup_is same _ _ c.dedup.ensures.filtered)
