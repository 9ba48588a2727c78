use Rattle.std.proofs.Common.{ℕ, sym, subst}
use Rattle.buddy_arena.specs.Space.{IsOut, Apart}
use Rattle.buddy_arena.proofs.Others.{taken_apart}
use Rattle.lookup_tests.proofs.arena.order_three.Goals as goal

pub give_three-requires-clause-outs : goal.give_three-requires-clause-outs
give_three-requires-clause-outs g c =
    let a1 = subst (λ (k : ℕ). IsOut c.take.new.self.order c.take.new.self.free c.in-Ok.first.place k) (sym c.in-Ok.ensures.ok.0) c.in-Ok.ensures.out in
    let a2 = c.take-in-Ok.ensures.still c.in-Ok.first.place c.in-Ok.first.order a1 in
    let a3 = c.take-in-Ok-take.ensures.still c.in-Ok.first.place c.in-Ok.first.order a2 in
    let a4 = c.take-in-Ok-take-2.ensures.still c.in-Ok.first.place c.in-Ok.first.order a3 in
    let a5 = c.take-in-Ok-take-2-2.ensures.still c.in-Ok.first.place c.in-Ok.first.order a4 in
    let b2 = subst (λ (k : ℕ). IsOut c.take-in-Ok.new.self.order c.take-in-Ok.new.self.free c.in-Ok-take.second.place k) (sym c.in-Ok-take.ensures.ok.0) c.in-Ok-take.ensures.out in
    let b3 = c.take-in-Ok-take.ensures.still c.in-Ok-take.second.place c.in-Ok-take.second.order b2 in
    let b4 = c.take-in-Ok-take-2.ensures.still c.in-Ok-take.second.place c.in-Ok-take.second.order b3 in
    let b5 = c.take-in-Ok-take-2-2.ensures.still c.in-Ok-take.second.place c.in-Ok-take.second.order b4 in
    let c4 = subst (λ (k : ℕ). IsOut c.take-in-Ok-take-2.new.self.order c.take-in-Ok-take-2.new.self.free c.in-Ok-take-2.third.place k) (sym c.in-Ok-take-2.ensures.ok.0) c.in-Ok-take-2.ensures.out in
    let c5 = c.take-in-Ok-take-2-2.ensures.still c.in-Ok-take-2.third.place c.in-Ok-take-2.third.order c4 in
    (a5, b5, c5)

pub give_three-requires-clause-apart : goal.give_three-requires-clause-apart
give_three-requires-clause-apart g c =
    let a1 = subst (λ (k : ℕ). IsOut c.take.new.self.order c.take.new.self.free c.in-Ok.first.place k) (sym c.in-Ok.ensures.ok.0) c.in-Ok.ensures.out in
    let a2 = c.take-in-Ok.ensures.still c.in-Ok.first.place c.in-Ok.first.order a1 in
    let a3 = c.take-in-Ok-take.ensures.still c.in-Ok.first.place c.in-Ok.first.order a2 in
    let a4 = c.take-in-Ok-take-2.ensures.still c.in-Ok.first.place c.in-Ok.first.order a3 in
    let a5 = c.take-in-Ok-take-2-2.ensures.still c.in-Ok.first.place c.in-Ok.first.order a4 in
    let b2 = subst (λ (k : ℕ). IsOut c.take-in-Ok.new.self.order c.take-in-Ok.new.self.free c.in-Ok-take.second.place k) (sym c.in-Ok-take.ensures.ok.0) c.in-Ok-take.ensures.out in
    let b3 = c.take-in-Ok-take.ensures.still c.in-Ok-take.second.place c.in-Ok-take.second.order b2 in
    let b4 = c.take-in-Ok-take-2.ensures.still c.in-Ok-take.second.place c.in-Ok-take.second.order b3 in
    let b5 = c.take-in-Ok-take-2-2.ensures.still c.in-Ok-take.second.place c.in-Ok-take.second.order b4 in
    let c4 = subst (λ (k : ℕ). IsOut c.take-in-Ok-take-2.new.self.order c.take-in-Ok-take-2.new.self.free c.in-Ok-take-2.third.place k) (sym c.in-Ok-take-2.ensures.ok.0) c.in-Ok-take-2.ensures.out in
    let c5 = c.take-in-Ok-take-2-2.ensures.still c.in-Ok-take-2.third.place c.in-Ok-take-2.third.order c4 in
    (subst (λ (m : ℕ). Apart c.in-Ok.first.place c.in-Ok.first.order c.in-Ok-take.second.place m) (sym c.in-Ok-take.ensures.ok.0) (taken_apart c.take.new.self.order c.take-in-Ok.new.self.order c.take.new.self.free c.take-in-Ok.new.self.free c.in-Ok-take.second.place 1 c.in-Ok.first.place c.in-Ok.first.order c.in-Ok-take.ensures.kept.0 c.take.ensures.sized.places c.in-Ok-take.ensures.ok.1 c.in-Ok-take.ensures.out a1), subst (λ (m : ℕ). Apart c.in-Ok.first.place c.in-Ok.first.order c.in-Ok-take-2.third.place m) (sym c.in-Ok-take-2.ensures.ok.0) (taken_apart c.take-in-Ok-take.new.self.order c.take-in-Ok-take-2.new.self.order c.take-in-Ok-take.new.self.free c.take-in-Ok-take-2.new.self.free c.in-Ok-take-2.third.place 1 c.in-Ok.first.place c.in-Ok.first.order c.in-Ok-take-2.ensures.kept.0 c.take-in-Ok-take.ensures.sized.places c.in-Ok-take-2.ensures.ok.1 c.in-Ok-take-2.ensures.out a3), subst (λ (m : ℕ). Apart c.in-Ok-take.second.place c.in-Ok-take.second.order c.in-Ok-take-2.third.place m) (sym c.in-Ok-take-2.ensures.ok.0) (taken_apart c.take-in-Ok-take.new.self.order c.take-in-Ok-take-2.new.self.order c.take-in-Ok-take.new.self.free c.take-in-Ok-take-2.new.self.free c.in-Ok-take-2.third.place 1 c.in-Ok-take.second.place c.in-Ok-take.second.order c.in-Ok-take-2.ensures.kept.0 c.take-in-Ok-take.ensures.sized.places c.in-Ok-take-2.ensures.ok.1 c.in-Ok-take-2.ensures.out b3))
