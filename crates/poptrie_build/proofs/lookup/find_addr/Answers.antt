use Rattle.std.proofs.Common.{arith, ◌+◌, ap, ◌∙◌}
use Rattle.table_model.specs.Width.{width}
use Rattle.poptrie_build.specs.Strides.{trie_visits}
use Rattle.poptrie_build.proofs.Filled.{address_is}
use Rattle.poptrie_build.proofs.lookup.find_addr.Goals as goal

pub returns-in-V4-clause-hop : goal.returns-in-V4-clause-hop
returns-in-V4-clause-hop g c = λ r s e. c.find.ensures.hop r s ∙ ap r.answers (address_is c.args.addr.now 32 (c.args.direct_bits + r.bits) (ap width c.in-V4.is) (omega arith) e)

pub returns-in-V4-clause-visits : goal.returns-in-V4-clause-visits
returns-in-V4-clause-visits g c = λ r s e. c.find.ensures.visits r s ∙ ap (trie_visits c.args.direct_bits r.strides r.bits r.answers) (address_is c.args.addr.now 32 (c.args.direct_bits + r.bits) (ap width c.in-V4.is) (omega arith) e)

pub returns-in-V6-clause-hop : goal.returns-in-V6-clause-hop
returns-in-V6-clause-hop g c = λ r s e. c.find-in-V6.ensures.hop r s ∙ ap r.answers (address_is c.args.addr.now 128 (c.args.direct_bits + r.bits) (ap width c.in-V6.is) (omega arith) e)

pub returns-in-V6-clause-visits : goal.returns-in-V6-clause-visits
returns-in-V6-clause-visits g c = λ r s e. c.find-in-V6.ensures.visits r s ∙ ap (trie_visits c.args.direct_bits r.strides r.bits r.answers) (address_is c.args.addr.now 128 (c.args.direct_bits + r.bits) (ap width c.in-V6.is) (omega arith) e)
