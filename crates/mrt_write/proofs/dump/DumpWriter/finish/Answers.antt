use Rattle.std.proofs.Common.{[], map, Option, ◌∙◌, subst}
use Rattle.fib_prefix.specs.Views.{peer_as}
use Rattle.mrt_write.specs.Holds.{LeadsTo}
use Rattle.mrt_write.specs.declared.growing.Open.{Open}
use Rattle.mrt_write.proofs.Closing.{none_ends, open_ends}
use Rattle.mrt_write.proofs.dump.DumpWriter.finish.Goals.{in-Some+in_ok-put_rib, in_default}
use Rattle.mrt_write.proofs.dump.DumpWriter.finish.Goals as goal

pub returns : goal.returns
returns c = λ whole h.
    let peers = map peer_as c.args.self.peers.items in
    let ids = c.args.self.ids in
    let out = c.args.self.out.items in
    elim c.match-open.branch [
      | in-Some+in_ok-put_rib w ↦
          rw w.out-is (open_ends peers ids w.in-Some.open out w.put_rib.new.out.items whole (subst (λ (o : Option Open). LeadsTo peers ids o out [] whole) w.in-Some.is h.leads)
          (λ p e1 e2 e3. w.in_ok-put_rib.ensures peers p e1 e2 (w.deref.ensures.value ∙ e3)))
      | in_default w ↦ rw w.out-is (none_ends peers ids out whole (subst (λ (o : Option Open). LeadsTo peers ids o out [] whole) w.in_default.is h.leads))
    ]
