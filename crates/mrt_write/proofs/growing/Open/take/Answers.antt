use Rattle.std.proofs.Common.{ap, sym, ◌∙◌, ◌+◌, ◌%◌, ◌^◌, ◌++◌, refl, length}
use Rattle.fib_prefix.specs.Views.{cand_as}
use Rattle.mrt_write.specs.declared.growing.Open.{Open}
use Rattle.wire_model.proofs.Written.{last_put}
use Rattle.mrt_write.proofs.Written.{on_ok}
use Rattle.mrt_write.proofs.Closing.{open_grows, open_closes}
use Rattle.mrt_write.proofs.growing.Open.take.Goals as goal

pub returns-then-has_room-clause-takes : goal.returns-then-has_room-clause-takes
returns-then-has_room-clause-takes c =
    let old : Open = c.args.self.now in
    let new : Open = record { number = old.number; prefix = old.prefix; count = old.count + 1; entries = c.extend_from_slice.new.self } in
    let entry = c.args.entry.now in
    on_ok c.extend_from_slice.result (last_put c.extend_from_slice.result new.entries.items old.entries.items entry (old.entries.items ++ entry) c.extend_from_slice.ensures.items refl)
    (λ items peers rest whole e o. open_grows peers c.args.ids old new c.args.out.now.items (cand_as c.args.cand.now) entry rest whole refl refl refl items e
    (λ p e1 e2 e3 e4. sym c.if-has_room.true ∙ c.has_room.ensures.fits peers c.args.ids p e1 e2 (e3 ∙ ap length (sym c.deref-octets.ensures.value)) e4) o)

pub returns-clause-takes : goal.returns-clause-takes
returns-clause-takes c =
    let old : Open = c.args.self.now in
    let new : Open = record { number = (old.number + 1) % 2 ^ 32; prefix = c.args.cand.now.prefix; count = 1; entries = c.extend_from_slice-2.new.self } in
    let entry = c.args.entry.now in
    on_ok c.extend_from_slice-2.result (last_put c.extend_from_slice-2.result new.entries.items c.clear.new.self.items entry entry c.extend_from_slice-2.ensures.items (ap (λ xs. xs ++ entry) c.clear.ensures.items))
    (λ items peers rest whole e o. open_closes peers c.args.ids old new c.args.out.now.items c.put_rib.new.out.items (cand_as c.args.cand.now) entry rest whole refl refl refl items e
    (λ p e1 e2 e3 e4. sym c.if-has_room.false ∙ c.has_room.ensures.fits peers c.args.ids p e1 e2 (e3 ∙ ap length (sym c.deref-octets.ensures.value)) e4)
    (λ p e1 e2 e3. c.in_ok-put_rib.ensures peers p e1 e2 (c.deref.ensures.value ∙ e3)) o)
