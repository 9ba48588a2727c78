use Rattle.std.proofs.Common.{length, subst}
use Rattle.std.specs.List.Sorted.{IsBinarySearchResult, IsSearchInRange}
use Rattle.fib_prefix.specs.Order.{code_peer_cmp}
use Rattle.mrt_write.proofs.Indices.{none_found, place_found}
use Rattle.mrt_write.proofs.index.index_of.Goals as goal

pub returns-in-Ok : goal.returns-in-Ok
returns-in-Ok c =
    place_found c.args.list.now c.args.peer.now c.in-Ok.place c.requires.sorted (subst (λ r. IsSearchInRange r (length c.args.list.now)) c.in-Ok.is c.binary_search.ensures.bound) (subst (λ r. IsBinarySearchResult (λ y. code_peer_cmp y c.args.peer.now) c.args.list.now r) c.in-Ok.is c.binary_search.ensures.position)

pub returns-in-Err : goal.returns-in-Err
returns-in-Err c =
    none_found c.args.list.now c.args.peer.now c.in-Err.field-0 c.requires.sorted (subst (λ r. IsBinarySearchResult (λ y. code_peer_cmp y c.args.peer.now) c.args.list.now r) c.in-Err.is c.binary_search.ensures.position)
