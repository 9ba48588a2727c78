use Rattle.std.proofs.Common.{◌≡◌, arith, sym, ap, ◌∙◌, subst}
use Rattle.table_model.specs.Width.{width}
use Rattle.table_model.specs.declared.family.Family.{Family}
use Rattle.fib_addr.specs.Views.{addr_as}
use Rattle.fib_addr.specs.Answers.{all_answers}
use Rattle.poptrie_build.specs.Strides.{trie_visits, strides}
use Rattle.poptrie_build.specs.Tries.{Shown, StandsForAnswers, rest}
use Rattle.poptrie_build.proofs.Filled.{few_strides, whole_as, region_for, wide_enough}
use Rattle.poptrie_build.proofs.trie.Trie.lookup.Goals as goal

pub find_addr-requires : goal.find_addr-requires
find_addr-requires g c =
    let i = c.self.inside in
    let t : Shown = record { family = i.family; direct_bits = i.direct_bits; words = i.words.items; nodes = i.nodes; leaves = i.leaves } in
    let h = c.self.invariant.1 in
    record {
      most = omega (arith, c.self.invariant.0.few);
      whole = record { region = region_for t h.answers; whole = whole_as t h.answers c.deref.result.now c.deref.ensures.value c.self.invariant.0.few h.stands };
      nodes_sized = c.self.invariant.0.nodes;
      leaves_sized = c.self.invariant.0.leaves;
    }

pub returns-clause-hop : goal.returns-clause-hop
returns-clause-hop g c = λ E s.
    let i = c.self.inside in
    let t : Shown = record { family = i.family; direct_bits = i.direct_bits; words = i.words.items; nodes = i.nodes; leaves = i.leaves } in
    let same : c.args.addr.now.family ≡ i.family = c.requires.family ∙ ap (λ (x : Shown). x.family) (sym c.self.view_is) in
    let f = all_answers i.family E in
    let st : StandsForAnswers t f = subst (λ (x : Shown). StandsForAnswers x (all_answers x.family E)) (sym c.self.view_is) s in
    c.find_addr.ensures.hop (region_for t f) (whole_as t f c.deref.result.now c.deref.ensures.value c.self.invariant.0.few st) (wide_enough i.family i.direct_bits c.self.invariant.0.few ∙ ap width (sym same))
    ∙ ap (λ (x : Family). all_answers x E (addr_as c.args.addr.now).bits) (sym same)

pub returns-clause-visits : goal.returns-clause-visits
returns-clause-visits g c = λ E s.
    let i = c.self.inside in
    let t : Shown = record { family = i.family; direct_bits = i.direct_bits; words = i.words.items; nodes = i.nodes; leaves = i.leaves } in
    let same : c.args.addr.now.family ≡ i.family = c.requires.family ∙ ap (λ (x : Shown). x.family) (sym c.self.view_is) in
    let f = all_answers i.family E in
    let st : StandsForAnswers t f = subst (λ (x : Shown). StandsForAnswers x (all_answers x.family E)) (sym c.self.view_is) s in
    c.find_addr.ensures.visits (region_for t f) (whole_as t f c.deref.result.now c.deref.ensures.value c.self.invariant.0.few st) (wide_enough i.family i.direct_bits c.self.invariant.0.few ∙ ap width (sym same))
    ∙ (ap (λ (x : Family). trie_visits i.direct_bits (strides (rest x i.direct_bits)) (rest x i.direct_bits) (all_answers x E) (addr_as c.args.addr.now).bits) (sym same)
    ∙ ap (λ (x : Shown). trie_visits x.direct_bits (strides (rest c.args.addr.now.family x.direct_bits)) (rest c.args.addr.now.family x.direct_bits) (all_answers c.args.addr.now.family E) (addr_as c.args.addr.now).bits) c.self.view_is)

pub returns-clause-few : goal.returns-clause-few
returns-clause-few g c =
    let i = c.self.inside in
    let t : Shown = record { family = i.family; direct_bits = i.direct_bits; words = i.words.items; nodes = i.nodes; leaves = i.leaves } in
    let h = c.self.invariant.1 in
    few_strides c.find_addr.result.visits _ _ (c.find_addr.ensures.few (region_for t h.answers) (whole_as t h.answers c.deref.result.now c.deref.ensures.value c.self.invariant.0.few h.stands)) (ap (λ (s : Shown). rest s.family s.direct_bits) c.self.view_is)
