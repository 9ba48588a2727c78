use Rattle.std.proofs.Common.{ap, ◌∙◌}
use Rattle.fib_prefix.specs.declared.event.Via.{Via}
use Rattle.fib_addr.specs.declared.prefix.Prefix.{Prefix}
use Rattle.adj_rib_in.specs.Keys.{PathKeyView}
use Rattle.adj_rib_in.specs.Paths.{rank_at}
use Rattle.adj_rib_in.proofs.Packs.{rank_packed}
use Rattle.adj_rib_in.proofs.keys.PathKey.rank.Goals as goal

pub returns : goal.returns
returns c =
    let s = c.self.inside in
    let v : Via = record { peer = record { addr = record { family = s.peer_family; bits = s.peer_bits; below = s.peer_below }; asn = s.asn }; id = s.id } in
    let p : Prefix = record { family = s.family; bits = s.bits; len = s.len; fits = s.fits; below = s.below; cleared = s.cleared } in
    rank_packed v p c.args.path _ _ _ _ ∙ ap (λ (k : PathKeyView). rank_at k c.args.path) c.self.view_is
