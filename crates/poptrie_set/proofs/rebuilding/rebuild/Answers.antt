use Rattle.std.proofs.Common.{rules, ℕ, List, Bool, ◌≡◌, ◌+◌, ◌-◌, ◌*◌, ◌/◌, ◌%◌, ◌^◌, ◌<◌, ◌≤◌, refl, sym, ap, ◌∙◌, arith}
use Rattle.std.specs.Prelude.{drop, slice_index}
use Rattle.table_model.specs.Width.{width}
use Rattle.fib_addr.specs.Views.{prefix_as}
use Rattle.table_model.specs.Bits.{bits_of}
use Rattle.fib_addr.specs.Answers.{part}
use Rattle.path_copying.specs.Ways.{bits_left}
use Rattle.path_copying.proofs.Old_words.{old_word_at}
use Rattle.poptrie_set.proofs.Key_bits.{wide}
use Rattle.poptrie_set.proofs.Within.{left_after, left_whole, part_words}
use Rattle.path_copying.specs.Asks.{MeetsNotSlots}
use Rattle.path_copying.proofs.Slot_copy.{stores_more}
use Rattle.poptrie_set.specs.Renewals.{IsSpliced, MeetsNotRenewal}
use Rattle.path_copying.proofs.Alike_row.{IsPartOf}
use Rattle.poptrie_set.proofs.Ready.{ok_map, if_err_map, both_ok}
use Rattle.poptrie_set.proofs.Renewed.{whole_part, no_bits, least_none, all_rebuilds, all_aside, all_kept, part_met, part_refused, number_at, number_fits, number_many, number_part, few_words}
use Rattle.poptrie_set.proofs.rebuilding.rebuild.Goals as goal

pub returns-then-len-eq0-clause-rebuilds : goal.returns-then-len-eq0-clause-rebuilds
returns-then-len-eq0-clause-rebuilds g c =
    let d = g.R.Region.bits c.args.region.now - c.args.direct_bits in
    let f = g.R.Region.answers c.args.region.now in
    let p = (prefix_as c.args.prefix.now).bits in
    let short = no_bits (width c.args.prefix.now.family) c.args.prefix.now.len c.args.direct_bits c.args.prefix.now.bits (least_none c.args.prefix.now.len c.args.direct_bits c.min-len.result (omega (arith, c.min-len.ensures)) (omega (arith, c.if-len-eq0.true))) in
    ok_map c.copy_slots.result c.copy_slots.ensures.replaces (λ re. all_rebuilds c.args.arenas.now.nodes c.copy_slots.new.arenas.nodes c.args.arenas.now.node_blocks c.copy_slots.new.arenas.node_blocks c.args.arenas.now.leaves c.copy_slots.new.arenas.leaves c.args.arenas.now.leaf_blocks c.copy_slots.new.arenas.leaf_blocks c.args.direct_bits c.args.direct_bits 0 d d f f p (omega arith) (λ h q m. whole_part p c.args.direct_bits d f h q short m) refl c.args.words.now c.args.stores.now.items c.copy_slots.new.stores.items c.requires.none re)

pub returns-then-len-eq0-clause-aside : goal.returns-then-len-eq0-clause-aside
returns-then-len-eq0-clause-aside g c =
    let d = g.R.Region.bits c.args.region.now - c.args.direct_bits in
    let f = g.R.Region.answers c.args.region.now in
    let p = (prefix_as c.args.prefix.now).bits in
    let short = no_bits (width c.args.prefix.now.family) c.args.prefix.now.len c.args.direct_bits c.args.prefix.now.bits (least_none c.args.prefix.now.len c.args.direct_bits c.min-len.result (omega (arith, c.min-len.ensures)) (omega (arith, c.if-len-eq0.true))) in
    ok_map c.copy_slots.result c.copy_slots.ensures.replaces (λ re. all_aside c.args.arenas.now.nodes c.copy_slots.new.arenas.nodes c.args.arenas.now.node_blocks c.copy_slots.new.arenas.node_blocks c.args.arenas.now.leaves c.copy_slots.new.arenas.leaves c.args.arenas.now.leaf_blocks c.copy_slots.new.arenas.leaf_blocks c.args.direct_bits c.args.direct_bits 0 d d f f p (omega arith) (λ h q m. whole_part p c.args.direct_bits d f h q short m) refl c.args.words.now c.args.stores.now.items c.copy_slots.new.stores.items c.requires.none re)

pub returns-then-len-eq0-clause-kept : goal.returns-then-len-eq0-clause-kept
returns-then-len-eq0-clause-kept g c =
    let d = g.R.Region.bits c.args.region.now - c.args.direct_bits in
    let f = g.R.Region.answers c.args.region.now in
    let p = (prefix_as c.args.prefix.now).bits in
    let short = no_bits (width c.args.prefix.now.family) c.args.prefix.now.len c.args.direct_bits c.args.prefix.now.bits (least_none c.args.prefix.now.len c.args.direct_bits c.min-len.result (omega (arith, c.min-len.ensures)) (omega (arith, c.if-len-eq0.true))) in
    both_ok c.copy_slots.result c.copy_slots.ensures.kept c.copy_slots.ensures.stores (λ kept are. all_kept c.args.arenas.now.nodes c.copy_slots.new.arenas.nodes c.args.arenas.now.node_blocks c.copy_slots.new.arenas.node_blocks c.args.arenas.now.leaves c.copy_slots.new.arenas.leaves c.args.arenas.now.leaf_blocks c.copy_slots.new.arenas.leaf_blocks c.args.direct_bits c.args.direct_bits 0 d d f f p (omega arith) (λ h q m. whole_part p c.args.direct_bits d f h q short m) refl c.args.words.now c.args.stores.now.items c.copy_slots.new.stores.items c.requires.none kept are)

pub returns-then-len-eq0-clause-met : goal.returns-then-len-eq0-clause-met
returns-then-len-eq0-clause-met g c =
    let d = g.R.Region.bits c.args.region.now - c.args.direct_bits in
    let f = g.R.Region.answers c.args.region.now in
    let p = (prefix_as c.args.prefix.now).bits in
    let short = no_bits (width c.args.prefix.now.family) c.args.prefix.now.len c.args.direct_bits c.args.prefix.now.bits (least_none c.args.prefix.now.len c.args.direct_bits c.min-len.result (omega (arith, c.min-len.ensures)) (omega (arith, c.if-len-eq0.true))) in
    ok_map c.copy_slots.result c.copy_slots.ensures.met (λ m. part_met c.args.arenas.now.nodes c.copy_slots.new.arenas.nodes c.args.arenas.now.node_blocks c.copy_slots.new.arenas.node_blocks c.args.arenas.now.leaves c.copy_slots.new.arenas.leaves c.args.arenas.now.leaf_blocks c.copy_slots.new.arenas.leaf_blocks c.args.direct_bits c.args.direct_bits 0 d d f f p (omega arith) (λ h q m. whole_part p c.args.direct_bits d f h q short m) refl c.args.words.now m)

pub returns-then-len-eq0-clause-stores : goal.returns-then-len-eq0-clause-stores
returns-then-len-eq0-clause-stores g c =
    let d = g.R.Region.bits c.args.region.now - c.args.direct_bits in
    let f = g.R.Region.answers c.args.region.now in
    let p = (prefix_as c.args.prefix.now).bits in
    ok_map c.copy_slots.result c.copy_slots.ensures.stores (λ are. stores_more c.args.words.now c.copy_slots.new.stores.items (0 + 2 ^ c.args.direct_bits) (2 ^ c.args.direct_bits) (omega arith) are)

pub returns-then-len-eq0-clause-refused : goal.returns-then-len-eq0-clause-refused
returns-then-len-eq0-clause-refused g c =
    let d = g.R.Region.bits c.args.region.now - c.args.direct_bits in
    let f = g.R.Region.answers c.args.region.now in
    let p = (prefix_as c.args.prefix.now).bits in
    let short = no_bits (width c.args.prefix.now.family) c.args.prefix.now.len c.args.direct_bits c.args.prefix.now.bits (least_none c.args.prefix.now.len c.args.direct_bits c.min-len.result (omega (arith, c.min-len.ensures)) (omega (arith, c.if-len-eq0.true))) in
    if_err_map c.copy_slots.result (λ r. MeetsNotSlots c.args.arenas.now.nodes c.args.arenas.now.leaves c.args.words.now 0 c.args.direct_bits d f r) (λ r. MeetsNotRenewal c.args.arenas.now.nodes c.args.arenas.now.leaves c.args.words.now p c.args.direct_bits d f r) c.copy_slots.ensures.refused
    (λ r out. part_refused c.args.arenas.now.nodes c.copy_slots.new.arenas.nodes c.args.arenas.now.node_blocks c.copy_slots.new.arenas.node_blocks c.args.arenas.now.leaves c.copy_slots.new.arenas.leaves c.args.arenas.now.leaf_blocks c.copy_slots.new.arenas.leaf_blocks c.args.direct_bits c.args.direct_bits 0 d d f f p (omega arith) (λ h q m. whole_part p c.args.direct_bits d f h q short m) refl c.args.words.now r out)

pub returns-clause-rebuilds : goal.returns-clause-rebuilds
returns-clause-rebuilds g c =
    let d = g.R.Region.bits c.args.region.now - c.args.direct_bits in
    let f = g.R.Region.answers c.args.region.now in
    let p = (prefix_as c.args.prefix.now).bits in
    let w = width c.args.prefix.now.family in
    let len = c.args.prefix.now.len in
    let t = c.min-len.result in
    let n = c.args.prefix.now.bits in
    let number = c.args.prefix.now.bits / 2 ^ (c.width-bits.result - c.min-len.result) in
    let wide = c.width-bits.ensures in
    let least = c.min-len.ensures in
    let j = c.args.direct_bits - c.min-len.result in
    let first = number * 2 ^ j % 4294967296 in
    let short : t ≤ len = omega (arith, least) in
    let few : t ≤ c.args.direct_bits = omega (arith, least) in
    let is : number ≡ n / 2 ^ (w - t) = ap (λ m. n / 2 ^ (m - t)) wide in
    let at : first ≡ number * 2 ^ j = number_at w len c.args.direct_bits t n number j first d short c.args.prefix.now.fits few c.args.prefix.now.below is refl c.requires.few in
    let many = number_many w len c.args.direct_bits t n number j first d short c.args.prefix.now.fits few c.args.prefix.now.below is refl at in
    let x = g.R.Region.answers c.part_of.result in
    let e = g.R.Region.bits c.part_of.result - j in
    let same : e ≡ d = omega (arith, c.part_of.ensures.bits, few, c.requires.bits, c.requires.few, c.args.prefix.now.fits, short) in
    let part : (h : ℕ → List Bool → ℕ) (q : List Bool → ℕ) → IsSpliced (prefix_as c.args.prefix.now).bits c.args.direct_bits (g.R.Region.bits c.args.region.now - c.args.direct_bits) (g.R.Region.answers c.args.region.now) h q → IsPartOf c.args.direct_bits (c.args.direct_bits - c.min-len.result) (c.args.prefix.now.bits / 2 ^ (c.width-bits.result - c.min-len.result) * 2 ^ (c.args.direct_bits - c.min-len.result) % 4294967296) (g.R.Region.bits c.args.region.now - c.args.direct_bits) q (g.R.Region.answers c.part_of.result) h = λ h q a. number_part w len c.args.direct_bits t n number j first d short c.args.prefix.now.fits few c.args.prefix.now.below is refl f x h q (λ l. omega (arith, least, l)) at c.part_of.ensures.answers a in
    ok_map c.copy_slots-2.result c.copy_slots-2.ensures.replaces (λ re. all_rebuilds c.args.arenas.now.nodes c.copy_slots-2.new.arenas.nodes c.args.arenas.now.node_blocks c.copy_slots-2.new.arenas.node_blocks c.args.arenas.now.leaves c.copy_slots-2.new.arenas.leaves c.args.arenas.now.leaf_blocks c.copy_slots-2.new.arenas.leaf_blocks c.args.direct_bits j first d e f x p many part same c.args.words.now c.args.stores.now.items c.copy_slots-2.new.stores.items c.requires.none re)

pub returns-clause-aside : goal.returns-clause-aside
returns-clause-aside g c =
    let d = g.R.Region.bits c.args.region.now - c.args.direct_bits in
    let f = g.R.Region.answers c.args.region.now in
    let p = (prefix_as c.args.prefix.now).bits in
    let w = width c.args.prefix.now.family in
    let len = c.args.prefix.now.len in
    let t = c.min-len.result in
    let n = c.args.prefix.now.bits in
    let number = c.args.prefix.now.bits / 2 ^ (c.width-bits.result - c.min-len.result) in
    let wide = c.width-bits.ensures in
    let least = c.min-len.ensures in
    let j = c.args.direct_bits - c.min-len.result in
    let first = number * 2 ^ j % 4294967296 in
    let short : t ≤ len = omega (arith, least) in
    let few : t ≤ c.args.direct_bits = omega (arith, least) in
    let is : number ≡ n / 2 ^ (w - t) = ap (λ m. n / 2 ^ (m - t)) wide in
    let at : first ≡ number * 2 ^ j = number_at w len c.args.direct_bits t n number j first d short c.args.prefix.now.fits few c.args.prefix.now.below is refl c.requires.few in
    let many = number_many w len c.args.direct_bits t n number j first d short c.args.prefix.now.fits few c.args.prefix.now.below is refl at in
    let x = g.R.Region.answers c.part_of.result in
    let e = g.R.Region.bits c.part_of.result - j in
    let same : e ≡ d = omega (arith, c.part_of.ensures.bits, few, c.requires.bits, c.requires.few, c.args.prefix.now.fits, short) in
    let part : (h : ℕ → List Bool → ℕ) (q : List Bool → ℕ) → IsSpliced (prefix_as c.args.prefix.now).bits c.args.direct_bits (g.R.Region.bits c.args.region.now - c.args.direct_bits) (g.R.Region.answers c.args.region.now) h q → IsPartOf c.args.direct_bits (c.args.direct_bits - c.min-len.result) (c.args.prefix.now.bits / 2 ^ (c.width-bits.result - c.min-len.result) * 2 ^ (c.args.direct_bits - c.min-len.result) % 4294967296) (g.R.Region.bits c.args.region.now - c.args.direct_bits) q (g.R.Region.answers c.part_of.result) h = λ h q a. number_part w len c.args.direct_bits t n number j first d short c.args.prefix.now.fits few c.args.prefix.now.below is refl f x h q (λ l. omega (arith, least, l)) at c.part_of.ensures.answers a in
    ok_map c.copy_slots-2.result c.copy_slots-2.ensures.replaces (λ re. all_aside c.args.arenas.now.nodes c.copy_slots-2.new.arenas.nodes c.args.arenas.now.node_blocks c.copy_slots-2.new.arenas.node_blocks c.args.arenas.now.leaves c.copy_slots-2.new.arenas.leaves c.args.arenas.now.leaf_blocks c.copy_slots-2.new.arenas.leaf_blocks c.args.direct_bits j first d e f x p many part same c.args.words.now c.args.stores.now.items c.copy_slots-2.new.stores.items c.requires.none re)

pub returns-clause-kept : goal.returns-clause-kept
returns-clause-kept g c =
    let d = g.R.Region.bits c.args.region.now - c.args.direct_bits in
    let f = g.R.Region.answers c.args.region.now in
    let p = (prefix_as c.args.prefix.now).bits in
    let w = width c.args.prefix.now.family in
    let len = c.args.prefix.now.len in
    let t = c.min-len.result in
    let n = c.args.prefix.now.bits in
    let number = c.args.prefix.now.bits / 2 ^ (c.width-bits.result - c.min-len.result) in
    let wide = c.width-bits.ensures in
    let least = c.min-len.ensures in
    let j = c.args.direct_bits - c.min-len.result in
    let first = number * 2 ^ j % 4294967296 in
    let short : t ≤ len = omega (arith, least) in
    let few : t ≤ c.args.direct_bits = omega (arith, least) in
    let is : number ≡ n / 2 ^ (w - t) = ap (λ m. n / 2 ^ (m - t)) wide in
    let at : first ≡ number * 2 ^ j = number_at w len c.args.direct_bits t n number j first d short c.args.prefix.now.fits few c.args.prefix.now.below is refl c.requires.few in
    let many = number_many w len c.args.direct_bits t n number j first d short c.args.prefix.now.fits few c.args.prefix.now.below is refl at in
    let x = g.R.Region.answers c.part_of.result in
    let e = g.R.Region.bits c.part_of.result - j in
    let same : e ≡ d = omega (arith, c.part_of.ensures.bits, few, c.requires.bits, c.requires.few, c.args.prefix.now.fits, short) in
    let part : (h : ℕ → List Bool → ℕ) (q : List Bool → ℕ) → IsSpliced (prefix_as c.args.prefix.now).bits c.args.direct_bits (g.R.Region.bits c.args.region.now - c.args.direct_bits) (g.R.Region.answers c.args.region.now) h q → IsPartOf c.args.direct_bits (c.args.direct_bits - c.min-len.result) (c.args.prefix.now.bits / 2 ^ (c.width-bits.result - c.min-len.result) * 2 ^ (c.args.direct_bits - c.min-len.result) % 4294967296) (g.R.Region.bits c.args.region.now - c.args.direct_bits) q (g.R.Region.answers c.part_of.result) h = λ h q a. number_part w len c.args.direct_bits t n number j first d short c.args.prefix.now.fits few c.args.prefix.now.below is refl f x h q (λ l. omega (arith, least, l)) at c.part_of.ensures.answers a in
    both_ok c.copy_slots-2.result c.copy_slots-2.ensures.kept c.copy_slots-2.ensures.stores (λ kept are. all_kept c.args.arenas.now.nodes c.copy_slots-2.new.arenas.nodes c.args.arenas.now.node_blocks c.copy_slots-2.new.arenas.node_blocks c.args.arenas.now.leaves c.copy_slots-2.new.arenas.leaves c.args.arenas.now.leaf_blocks c.copy_slots-2.new.arenas.leaf_blocks c.args.direct_bits j first d e f x p many part same c.args.words.now c.args.stores.now.items c.copy_slots-2.new.stores.items c.requires.none kept are)

pub returns-clause-met : goal.returns-clause-met
returns-clause-met g c =
    let d = g.R.Region.bits c.args.region.now - c.args.direct_bits in
    let f = g.R.Region.answers c.args.region.now in
    let p = (prefix_as c.args.prefix.now).bits in
    let w = width c.args.prefix.now.family in
    let len = c.args.prefix.now.len in
    let t = c.min-len.result in
    let n = c.args.prefix.now.bits in
    let number = c.args.prefix.now.bits / 2 ^ (c.width-bits.result - c.min-len.result) in
    let wide = c.width-bits.ensures in
    let least = c.min-len.ensures in
    let j = c.args.direct_bits - c.min-len.result in
    let first = number * 2 ^ j % 4294967296 in
    let short : t ≤ len = omega (arith, least) in
    let few : t ≤ c.args.direct_bits = omega (arith, least) in
    let is : number ≡ n / 2 ^ (w - t) = ap (λ m. n / 2 ^ (m - t)) wide in
    let at : first ≡ number * 2 ^ j = number_at w len c.args.direct_bits t n number j first d short c.args.prefix.now.fits few c.args.prefix.now.below is refl c.requires.few in
    let many = number_many w len c.args.direct_bits t n number j first d short c.args.prefix.now.fits few c.args.prefix.now.below is refl at in
    let x = g.R.Region.answers c.part_of.result in
    let e = g.R.Region.bits c.part_of.result - j in
    let same : e ≡ d = omega (arith, c.part_of.ensures.bits, few, c.requires.bits, c.requires.few, c.args.prefix.now.fits, short) in
    let part : (h : ℕ → List Bool → ℕ) (q : List Bool → ℕ) → IsSpliced (prefix_as c.args.prefix.now).bits c.args.direct_bits (g.R.Region.bits c.args.region.now - c.args.direct_bits) (g.R.Region.answers c.args.region.now) h q → IsPartOf c.args.direct_bits (c.args.direct_bits - c.min-len.result) (c.args.prefix.now.bits / 2 ^ (c.width-bits.result - c.min-len.result) * 2 ^ (c.args.direct_bits - c.min-len.result) % 4294967296) (g.R.Region.bits c.args.region.now - c.args.direct_bits) q (g.R.Region.answers c.part_of.result) h = λ h q a. number_part w len c.args.direct_bits t n number j first d short c.args.prefix.now.fits few c.args.prefix.now.below is refl f x h q (λ l. omega (arith, least, l)) at c.part_of.ensures.answers a in
    ok_map c.copy_slots-2.result c.copy_slots-2.ensures.met (λ m. part_met c.args.arenas.now.nodes c.copy_slots-2.new.arenas.nodes c.args.arenas.now.node_blocks c.copy_slots-2.new.arenas.node_blocks c.args.arenas.now.leaves c.copy_slots-2.new.arenas.leaves c.args.arenas.now.leaf_blocks c.copy_slots-2.new.arenas.leaf_blocks c.args.direct_bits j first d e f x p many part same c.args.words.now m)

pub returns-clause-stores : goal.returns-clause-stores
returns-clause-stores g c =
    let d = g.R.Region.bits c.args.region.now - c.args.direct_bits in
    let f = g.R.Region.answers c.args.region.now in
    let p = (prefix_as c.args.prefix.now).bits in
    let w = width c.args.prefix.now.family in
    let len = c.args.prefix.now.len in
    let t = c.min-len.result in
    let n = c.args.prefix.now.bits in
    let number = c.args.prefix.now.bits / 2 ^ (c.width-bits.result - c.min-len.result) in
    let wide = c.width-bits.ensures in
    let least = c.min-len.ensures in
    let j = c.args.direct_bits - c.min-len.result in
    let first = number * 2 ^ j % 4294967296 in
    let short : t ≤ len = omega (arith, least) in
    let few : t ≤ c.args.direct_bits = omega (arith, least) in
    let is : number ≡ n / 2 ^ (w - t) = ap (λ m. n / 2 ^ (m - t)) wide in
    let at : first ≡ number * 2 ^ j = number_at w len c.args.direct_bits t n number j first d short c.args.prefix.now.fits few c.args.prefix.now.below is refl c.requires.few in
    let many = number_many w len c.args.direct_bits t n number j first d short c.args.prefix.now.fits few c.args.prefix.now.below is refl at in
    let x = g.R.Region.answers c.part_of.result in
    let e = g.R.Region.bits c.part_of.result - j in
    let same : e ≡ d = omega (arith, c.part_of.ensures.bits, few, c.requires.bits, c.requires.few, c.args.prefix.now.fits, short) in
    let part : (h : ℕ → List Bool → ℕ) (q : List Bool → ℕ) → IsSpliced (prefix_as c.args.prefix.now).bits c.args.direct_bits (g.R.Region.bits c.args.region.now - c.args.direct_bits) (g.R.Region.answers c.args.region.now) h q → IsPartOf c.args.direct_bits (c.args.direct_bits - c.min-len.result) (c.args.prefix.now.bits / 2 ^ (c.width-bits.result - c.min-len.result) * 2 ^ (c.args.direct_bits - c.min-len.result) % 4294967296) (g.R.Region.bits c.args.region.now - c.args.direct_bits) q (g.R.Region.answers c.part_of.result) h = λ h q a. number_part w len c.args.direct_bits t n number j first d short c.args.prefix.now.fits few c.args.prefix.now.below is refl f x h q (λ l. omega (arith, least, l)) at c.part_of.ensures.answers a in
    ok_map c.copy_slots-2.result c.copy_slots-2.ensures.stores (λ are. stores_more c.args.words.now c.copy_slots-2.new.stores.items (first + 2 ^ j) (2 ^ c.args.direct_bits) many are)

pub returns-clause-refused : goal.returns-clause-refused
returns-clause-refused g c =
    let d = g.R.Region.bits c.args.region.now - c.args.direct_bits in
    let f = g.R.Region.answers c.args.region.now in
    let p = (prefix_as c.args.prefix.now).bits in
    let w = width c.args.prefix.now.family in
    let len = c.args.prefix.now.len in
    let t = c.min-len.result in
    let n = c.args.prefix.now.bits in
    let number = c.args.prefix.now.bits / 2 ^ (c.width-bits.result - c.min-len.result) in
    let wide = c.width-bits.ensures in
    let least = c.min-len.ensures in
    let j = c.args.direct_bits - c.min-len.result in
    let first = number * 2 ^ j % 4294967296 in
    let short : t ≤ len = omega (arith, least) in
    let few : t ≤ c.args.direct_bits = omega (arith, least) in
    let is : number ≡ n / 2 ^ (w - t) = ap (λ m. n / 2 ^ (m - t)) wide in
    let at : first ≡ number * 2 ^ j = number_at w len c.args.direct_bits t n number j first d short c.args.prefix.now.fits few c.args.prefix.now.below is refl c.requires.few in
    let many = number_many w len c.args.direct_bits t n number j first d short c.args.prefix.now.fits few c.args.prefix.now.below is refl at in
    let x = g.R.Region.answers c.part_of.result in
    let e = g.R.Region.bits c.part_of.result - j in
    let same : e ≡ d = omega (arith, c.part_of.ensures.bits, few, c.requires.bits, c.requires.few, c.args.prefix.now.fits, short) in
    let part : (h : ℕ → List Bool → ℕ) (q : List Bool → ℕ) → IsSpliced (prefix_as c.args.prefix.now).bits c.args.direct_bits (g.R.Region.bits c.args.region.now - c.args.direct_bits) (g.R.Region.answers c.args.region.now) h q → IsPartOf c.args.direct_bits (c.args.direct_bits - c.min-len.result) (c.args.prefix.now.bits / 2 ^ (c.width-bits.result - c.min-len.result) * 2 ^ (c.args.direct_bits - c.min-len.result) % 4294967296) (g.R.Region.bits c.args.region.now - c.args.direct_bits) q (g.R.Region.answers c.part_of.result) h = λ h q a. number_part w len c.args.direct_bits t n number j first d short c.args.prefix.now.fits few c.args.prefix.now.below is refl f x h q (λ l. omega (arith, least, l)) at c.part_of.ensures.answers a in
    if_err_map c.copy_slots-2.result (λ r. MeetsNotSlots c.args.arenas.now.nodes c.args.arenas.now.leaves c.args.words.now first j e x r) (λ r. MeetsNotRenewal c.args.arenas.now.nodes c.args.arenas.now.leaves c.args.words.now p c.args.direct_bits d f r) c.copy_slots-2.ensures.refused
    (λ r out. part_refused c.args.arenas.now.nodes c.copy_slots-2.new.arenas.nodes c.args.arenas.now.node_blocks c.copy_slots-2.new.arenas.node_blocks c.args.arenas.now.leaves c.copy_slots-2.new.arenas.leaves c.args.arenas.now.leaf_blocks c.copy_slots-2.new.arenas.leaf_blocks c.args.direct_bits j first d e f x p many part same c.args.words.now r out)

pub copy_slots-requires-clause-few : goal.copy_slots-requires-clause-few
copy_slots-requires-clause-few g c =
    few_words c.args.direct_bits _ c.requires.few c.requires.many

pub copy_slots-requires-2-clause-few : goal.copy_slots-requires-2-clause-few
copy_slots-requires-2-clause-few g c =
    few_words c.args.direct_bits _ c.requires.few c.requires.many

pub copy_slots-requires-clause-words : goal.copy_slots-requires-clause-words
copy_slots-requires-clause-words g c =
    λ v low.
    let p = (prefix_as c.args.within.now).bits in
    let first : 0 + v ≡ v = omega arith in
    old_word_at c.args.arenas.now.nodes c.args.arenas.now.leaves (slice_index c.args.words.now v) (slice_index c.args.words.now (0 + v)) (drop c.args.direct_bits p) (drop c.args.direct_bits (bits_left c.to-way.result)) (g.R.Region.bits c.args.region.now - c.args.direct_bits) (g.R.Region.bits c.args.region.now - c.args.direct_bits) (part (bits_of c.args.direct_bits v) (g.R.Region.answers c.args.region.now)) (part (bits_of c.args.direct_bits v) (g.R.Region.answers c.args.region.now))
    (ap (λ i. slice_index c.args.words.now i) first) (ap (drop c.args.direct_bits) (left_whole c.to-way.result c.args.within.now c.to-way.ensures.prefix c.to-way.ensures.bits)) refl refl (c.requires.words v low)

pub copy_slots-requires-clause-way : goal.copy_slots-requires-clause-way
copy_slots-requires-clause-way g c = c.to-way.ensures.bits ∙ (ap width c.requires.family ∙ sym c.requires.bits)

pub copy_slots-requires-clause-depth : goal.copy_slots-requires-clause-depth
copy_slots-requires-clause-depth g c = omega (arith, c.requires.few, wide c.args.within.now.family, c.to-way.ensures.bits)

pub below-requires : goal.below-requires
below-requires g c = omega (arith, c.requires.few, wide c.args.within.now.family, c.to-way.ensures.bits, c.min-len.ensures)

pub copy_slots-requires-2-clause-way : goal.copy_slots-requires-2-clause-way
copy_slots-requires-2-clause-way g c =
    let way = c.to-way.ensures.bits ∙ (ap width c.requires.family ∙ sym c.requires.bits) in
    omega (arith, way, c.below.ensures.bits, c.part_of.ensures.bits)

pub copy_slots-requires-2-clause-depth : goal.copy_slots-requires-2-clause-depth
copy_slots-requires-2-clause-depth g c = omega (arith, c.requires.few, wide c.args.within.now.family, c.to-way.ensures.bits, c.below.ensures.bits, c.min-len.ensures)

pub overflow_cast-number-2 : goal.overflow_cast-number-2
overflow_cast-number-2 g c =
    let w = width c.args.prefix.now.family in
    let len = c.args.prefix.now.len in
    let t = c.min-len.result in
    let n = c.args.prefix.now.bits in
    let number = c.args.prefix.now.bits / 2 ^ (c.width-bits.result - c.min-len.result) in
    let wide : c.width-bits.result ≡ w = c.width-bits.ensures in
    let least = c.min-len.ensures in
    let j = c.args.direct_bits - c.min-len.result in
    let first = number * 2 ^ j % 4294967296 in
    let short : t ≤ len = omega (arith, least) in
    let few : t ≤ c.args.direct_bits = omega (arith, least) in
    let is : number ≡ n / 2 ^ (w - t) = ap (λ m. n / 2 ^ (m - t)) wide in
    let h : number < 4294967296 = number_fits w len c.args.direct_bits t n number j 0 0 short c.args.prefix.now.fits few c.args.prefix.now.below is refl c.requires.few in
    search (rules, h)

pub copy_slots-requires-2-clause-many : goal.copy_slots-requires-2-clause-many
copy_slots-requires-2-clause-many g c =
    let d : ℕ = 0 in
    let w = width c.args.prefix.now.family in
    let len = c.args.prefix.now.len in
    let t = c.min-len.result in
    let n = c.args.prefix.now.bits in
    let number = c.args.prefix.now.bits / 2 ^ (c.width-bits.result - c.min-len.result) in
    let wide = c.width-bits.ensures in
    let least = c.min-len.ensures in
    let j = c.args.direct_bits - c.min-len.result in
    let first = number * 2 ^ j % 4294967296 in
    let short : t ≤ len = omega (arith, least) in
    let few : t ≤ c.args.direct_bits = omega (arith, least) in
    let is : number ≡ n / 2 ^ (w - t) = ap (λ m. n / 2 ^ (m - t)) wide in
    let at : first ≡ number * 2 ^ j = number_at w len c.args.direct_bits t n number j first d short c.args.prefix.now.fits few c.args.prefix.now.below is refl c.requires.few in
    let many = number_many w len c.args.direct_bits t n number j first d short c.args.prefix.now.fits few c.args.prefix.now.below is refl at in
    omega (arith, many, c.requires.many)

pub copy_slots-requires-2-clause-words : goal.copy_slots-requires-2-clause-words
copy_slots-requires-2-clause-words g c =
    λ v low.
    let d : ℕ = 0 in
    let w = width c.args.prefix.now.family in
    let len = c.args.prefix.now.len in
    let t = c.min-len.result in
    let n = c.args.prefix.now.bits in
    let number = c.args.prefix.now.bits / 2 ^ (c.width-bits.result - c.min-len.result) in
    let wide_is = c.width-bits.ensures in
    let least = c.min-len.ensures in
    let j = c.args.direct_bits - c.min-len.result in
    let first = number * 2 ^ j % 4294967296 in
    let short : t ≤ len = omega (arith, least) in
    let few : t ≤ c.args.direct_bits = omega (arith, least) in
    let is : number ≡ n / 2 ^ (w - t) = ap (λ m. n / 2 ^ (m - t)) wide_is in
    let at : first ≡ number * 2 ^ j = number_at w len c.args.direct_bits t n number j first d short c.args.prefix.now.fits few c.args.prefix.now.below is refl c.requires.few in
    let many = number_many w len c.args.direct_bits t n number j first d short c.args.prefix.now.fits few c.args.prefix.now.below is refl at in
    let same : g.R.Region.bits c.part_of.result - j ≡ g.R.Region.bits c.args.region.now - c.args.direct_bits = omega (arith, c.part_of.ensures.bits, few) in
    let sum : t + j ≡ c.args.direct_bits = omega (arith, few) in
    let left = left_after c.to-way.result c.below.result c.args.within.now t j c.args.direct_bits c.to-way.ensures.prefix c.to-way.ensures.bits c.below.ensures.prefix c.below.ensures.bits (omega (arith, few, c.requires.few, wide c.args.within.now.family, c.to-way.ensures.bits)) sum in
    part_words c.args.arenas.now.nodes c.args.arenas.now.leaves c.args.words.now c.args.direct_bits t j number first (drop c.args.direct_bits (prefix_as c.args.within.now).bits) (drop j (bits_left c.below.result)) (g.R.Region.bits c.args.region.now - c.args.direct_bits) (g.R.Region.bits c.part_of.result - j) (g.R.Region.answers c.args.region.now) (g.R.Region.answers c.part_of.result) sum at many left same c.part_of.ensures.answers c.requires.words v low
