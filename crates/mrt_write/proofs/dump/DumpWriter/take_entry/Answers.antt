use Rattle.std.proofs.Common.{◌∷◌, map, Option, ap, ◌∙◌, subst}
use Rattle.fib_addr.specs.Views.{prefix_as}
use Rattle.fib_prefix.specs.Views.{cand_as, peer_as}
use Rattle.mrt_write.specs.Holds.{LeadsTo}
use Rattle.mrt_write.specs.declared.growing.Open.{Open}
use Rattle.mrt_write.proofs.Closing.{open_starts}
use Rattle.mrt_write.proofs.dump.DumpWriter.take_entry.Goals as goal

pub returns-in_ok-opened-in-None-clause-puts : goal.returns-in_ok-opened-in-None-clause-puts
returns-in_ok-opened-in-None-clause-puts c = λ entry rest whole w.
    let cand = cand_as c.args.cand.now in
    let peers = map peer_as c.args.self.now.peers.items in
    let ids = c.args.self.now.ids in
    let out = c.args.self.now.out.items in
    let is = c.in_ok-opened-in-None.ensures in
    record {
      there = w.there.1;
      short = w.short.1;
      leads = open_starts peers ids c.in_ok-opened-in-None.field-0 out cand rest whole is.0 (ap (λ p. prefix_as p) is.1) is.2 (is.3 ∙ (c.deref-in-None.ensures.value ∙ entry))
          (subst (λ (o : Option Open). LeadsTo peers ids o out (cand ∷ rest) whole) c.in-None.is w.leads);
    }
