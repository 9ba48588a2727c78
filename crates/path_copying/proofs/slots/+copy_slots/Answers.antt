use Rattle.std.proofs.Common.{rules, arith, ℕ, suc, ◌≡◌, ◌≢◌, ◌+◌, ◌-◌, ◌*◌, ◌%◌, ◌^◌, ◌<◌, ◌≤◌, refl, ap, ◌∙◌}
use Rattle.std.specs.Prelude.{slice_index, List, [], ◌∷◌, ◌++◌}
use Rattle.std.proofs.lemmas.Nat.{one_shl}
use Rattle.poptrie_build.specs.Stands.{blank}
use Rattle.poptrie_build.proofs.Slotting.{double}
use Rattle.path_copying.specs.declared.slots.Store.{Store}
use Rattle.std.specs.Prelude.{drop}
use Rattle.table_model.specs.Bits.{bits_of}
use Rattle.fib_addr.specs.Answers.{part}
use Rattle.path_copying.specs.Ways.{bits_left}
use Rattle.path_copying.proofs.Beside.{left_way}
use Rattle.path_copying.proofs.Old_words.{old_here, old_high, old_low, old_word_gained}
use Rattle.path_copying.specs.Stores.{stored}
use Rattle.path_copying.proofs.Gaining.{gains_then}
use Rattle.std.proofs.lemmas.Result.{err_from_is_err_and}
use Rattle.std.specs.Prelude.{true}
use Rattle.table_model.specs.Sets.{side}
use Rattle.path_copying.specs.Asks.{MeetsNotSlots}
use Rattle.path_copying.proofs.Kept_word.{kept_stored, kept_same, kept_halves}
use Rattle.path_copying.proofs.Word_asked.{slot_met, slot_refused, halves_met, low_refused, high_refused}
use Rattle.path_copying.proofs.Slot_copy.{on_ok, if_err, stores_more, stores_one, slot_stored, slot_same, halves_copied}
use Rattle.path_copying.proofs.slots.+copy_slots.Goals as goal

-- half the slots
half_is : (j : ℕ) → j ≢ 0 → 2 ^ j ≡ 2 ^ (j - 1) + 2 ^ (j - 1)
half_is j n = let e : j ≡ suc (j - 1) = omega (arith, n) in ap (λ (i : ℕ). 2 ^ i) e ∙ double (j - 1)

next_is : (first j : ℕ) → j ≤ 18 → first + 1 * 2 ^ (j - 1) % 4294967296 ≡ first + 2 ^ (j - 1)
next_is first j l = ap (λ n. first + n) (one_shl (j - 1) 32 (omega (arith, l)))

pub returns-in_ok-reserve-clause-stores : goal.returns-in_ok-reserve-clause-stores
returns-in_ok-reserve-clause-stores g t c =
    let one : 2 ^ c.args.depth ≡ 1 = ap (λ (i : ℕ). 2 ^ i) c.if-depth-eq0.true in
    stores_one c.args.words.now c.args.stores.now.items c.push_reserved.new.self.items c.args.first c.in_ok-new.new (c.args.first + 2 ^ c.args.depth) (c.push_reserved.ensures.items ∙ ap (λ (x : List Store). x ++ record { slot = c.args.first; word = c.in_ok-new.new } ∷ []) c.reserve.ensures.items) c.if-new-word.true (omega (arith, one)) c.requires.stores

pub returns-in_ok-reserve-clause-replaces : goal.returns-in_ok-reserve-clause-replaces
returns-in_ok-reserve-clause-replaces g t c =
    slot_stored c.args.arenas.now.nodes c.copy_word.new.arenas.nodes c.args.arenas.now.node_blocks c.copy_word.new.arenas.node_blocks c.args.arenas.now.leaves c.copy_word.new.arenas.leaves c.args.arenas.now.leaf_blocks c.copy_word.new.arenas.leaf_blocks c.args.words.now c.args.stores.now.items c.push_reserved.new.self.items c.args.first c.in_ok-new.new (g.R.Region.bits c.args.region.now) (g.R.Region.answers c.args.region.now)
    c.args.depth (g.R.Region.bits c.args.region.now - c.args.depth) c.if-depth-eq0.true (omega (arith, c.if-depth-eq0.true)) c.requires.stores (c.push_reserved.ensures.items ∙ ap (λ (x : List Store). x ++ record { slot = c.args.first; word = c.in_ok-new.new } ∷ []) c.reserve.ensures.items)
    c.copy_word.ensures.nodes.keeps c.copy_word.ensures.leaves.keeps c.in_ok-new.ensures.replaces

pub returns-else-new-word-clause-replaces : goal.returns-else-new-word-clause-replaces
returns-else-new-word-clause-replaces g t c =
    slot_same c.args.arenas.now.nodes c.copy_word.new.arenas.nodes c.args.arenas.now.node_blocks c.copy_word.new.arenas.node_blocks c.args.arenas.now.leaves c.copy_word.new.arenas.leaves c.args.arenas.now.leaf_blocks c.copy_word.new.arenas.leaf_blocks c.args.words.now c.args.stores.now.items c.args.stores.now.items c.args.first c.in_ok-new.new (g.R.Region.bits c.args.region.now) (g.R.Region.answers c.args.region.now)
    c.args.depth (g.R.Region.bits c.args.region.now - c.args.depth) c.if-depth-eq0.true (omega (arith, c.if-depth-eq0.true)) c.requires.stores refl c.if-new-word.false
    c.copy_word.ensures.nodes.keeps c.copy_word.ensures.leaves.keeps c.in_ok-new.ensures.replaces

pub returns-clause-stores : goal.returns-clause-stores
returns-clause-stores g t c =
    let b = half_is c.args.depth c.if-depth-eq0.false in
    let n = next_is c.args.first c.args.depth c.requires.shallow in
    on_ok c.copy_slots-2.result c.copy_slots-2.ensures.stores (λ s. stores_more c.args.words.now c.copy_slots-2.new.stores.items _ (c.args.first + 2 ^ c.args.depth) (omega (arith, b, n)) s)

pub returns-clause-replaces : goal.returns-clause-replaces
returns-clause-replaces g t c =
    let n = next_is c.args.first c.args.depth c.requires.shallow in
    on_ok c.copy_slots-2.result c.copy_slots-2.ensures.replaces
    (λ r. halves_copied c.args.arenas.now.nodes c.copy_slots.new.arenas.nodes c.copy_slots-2.new.arenas.nodes c.args.arenas.now.node_blocks c.copy_slots.new.arenas.node_blocks c.copy_slots-2.new.arenas.node_blocks c.args.arenas.now.leaves c.copy_slots.new.arenas.leaves c.copy_slots-2.new.arenas.leaves c.args.arenas.now.leaf_blocks c.copy_slots.new.arenas.leaf_blocks c.copy_slots-2.new.arenas.leaf_blocks
    (stored c.args.stores.now.items c.args.words.now) (stored c.copy_slots.new.stores.items c.args.words.now) (stored c.copy_slots-2.new.stores.items c.args.words.now) c.args.first (c.args.first + 1 * 2 ^ (c.args.depth - 1) % 4294967296) c.args.depth (c.args.depth - 1)
    (g.R.Region.bits c.args.region.now - c.args.depth) (g.R.Region.bits c.half.result - (c.args.depth - 1)) (g.R.Region.bits c.half-2.result - (c.args.depth - 1)) (g.R.Region.answers c.args.region.now) (g.R.Region.answers c.half.result) (g.R.Region.answers c.half-2.result)
    (omega (arith, c.if-depth-eq0.false)) n (omega (arith, c.half.ensures.bits, c.if-depth-eq0.false)) (omega (arith, c.half-2.ensures.bits, c.if-depth-eq0.false)) c.half.ensures.answers c.half-2.ensures.answers c.in_ok-copy_slots.ensures.replaces r)

pub returns-else-new-word-clause-stores : goal.returns-else-new-word-clause-stores
returns-else-new-word-clause-stores g t c = stores_more c.args.words.now c.args.stores.now.items c.args.first (c.args.first + 2 ^ c.args.depth) (omega arith) c.requires.stores

pub overflow_shl-below : goal.overflow_shl-below
overflow_shl-below g t c = omega (arith, c.requires.shallow)

pub overflow_add-first : goal.overflow_add-first
overflow_add-first g t c =
    let a = next_is c.args.first c.args.depth c.requires.shallow in
    let b = half_is c.args.depth c.if-depth-eq0.false in
    let h : c.args.first + 1 * 2 ^ (c.args.depth - 1) % 4294967296 < 4294967296 = omega (arith, a, b, c.requires.many, c.requires.few) in
    search (rules, h)

pub copy_slots-requires : goal.copy_slots-requires
copy_slots-requires g t c κs within =
    let b = half_is c.args.depth c.if-depth-eq0.false in
    let less : c.args.depth - 1 < c.args.depth = omega (arith, c.if-depth-eq0.false) in (
      search (rules, less),
      (
        search rules,
        (
          omega (arith, c.requires.way, c.below.ensures.bits, c.half.ensures.bits),
          (
            omega (arith, c.requires.depth, c.below.ensures.bits),
            (
              omega (arith, c.requires.shallow),
              (
                c.requires.few,
                (
                  omega (arith, b, c.requires.many),
                  (
                    c.requires.nodes_sized,
                    (
                      c.requires.leaves_sized,
                      (
                        c.requires.nodes_time,
                        (
                          c.requires.leaves_time,
                          (old_low c.args.arenas.now.nodes c.args.arenas.now.leaves c.args.words.now c.args.first c.args.depth (c.args.depth - 1) (bits_left c.args.way.now) (bits_left c.below.result) (g.R.Region.bits c.args.region.now) (g.R.Region.bits c.half.result) (g.R.Region.answers c.args.region.now) (g.R.Region.answers c.half.result) (omega (arith, c.if-depth-eq0.false)) (left_way c.args.way.now c.below.result 1 c.below.ensures.prefix c.below.ensures.bits (omega (arith, c.if-depth-eq0.false, c.requires.depth))) c.half.ensures.bits c.half.ensures.answers c.requires.words, c.requires.stores),
                        ),
                      ),
                    ),
                  ),
                ),
              ),
            ),
          ),
        ),
      ),
    )

pub returns-clause-nodes : goal.returns-clause-nodes
returns-clause-nodes g t c = gains_then blank c.args.arenas.now.nodes c.copy_slots.new.arenas.nodes c.copy_slots-2.new.arenas.nodes c.args.arenas.now.node_blocks c.copy_slots.new.arenas.node_blocks c.copy_slots-2.new.arenas.node_blocks c.copy_slots.ensures.nodes c.copy_slots-2.ensures.nodes

pub returns-clause-leaves : goal.returns-clause-leaves
returns-clause-leaves g t c = gains_then 0 c.args.arenas.now.leaves c.copy_slots.new.arenas.leaves c.copy_slots-2.new.arenas.leaves c.args.arenas.now.leaf_blocks c.copy_slots.new.arenas.leaf_blocks c.copy_slots-2.new.arenas.leaf_blocks c.copy_slots.ensures.leaves c.copy_slots-2.ensures.leaves

pub copy_slots-requires-2 : goal.copy_slots-requires-2
copy_slots-requires-2 g t c κs within =
    let b = half_is c.args.depth c.if-depth-eq0.false in
    let n = next_is c.args.first c.args.depth c.requires.shallow in
    let less : c.args.depth - 1 < c.args.depth = omega (arith, c.if-depth-eq0.false) in (
      search (rules, less),
      (
        search rules,
        (
          omega (arith, c.requires.way, c.below-2.ensures.bits, c.half-2.ensures.bits),
          (
            omega (arith, c.requires.depth, c.below-2.ensures.bits),
            (
              omega (arith, c.requires.shallow),
              (
                c.requires.few,
                (
                  omega (arith, b, n, c.requires.many),
                  (
                    c.copy_slots.ensures.nodes.sized,
                    (
                      c.copy_slots.ensures.leaves.sized,
                      (
                        omega (arith, c.copy_slots.ensures.nodes.time, c.requires.nodes_time),
                        (
                          omega (arith, c.copy_slots.ensures.leaves.time, c.requires.leaves_time),
                          (
                            old_high c.copy_slots.new.arenas.nodes c.copy_slots.new.arenas.leaves c.args.words.now c.args.first c.args.depth (c.args.depth - 1) (bits_left c.args.way.now) (bits_left c.below-2.result) (g.R.Region.bits c.args.region.now) (g.R.Region.bits c.half-2.result) (g.R.Region.answers c.args.region.now) (g.R.Region.answers c.half-2.result) (omega (arith, c.if-depth-eq0.false)) (left_way c.args.way.now c.below-2.result 1 c.below-2.ensures.prefix c.below-2.ensures.bits (omega (arith, c.if-depth-eq0.false, c.requires.depth))) c.half-2.ensures.bits (c.args.first + 1 * 2 ^ (c.args.depth - 1) % 4294967296) n c.half-2.ensures.answers
                                (λ v l. old_word_gained c.args.arenas.now.nodes c.copy_slots.new.arenas.nodes c.args.arenas.now.node_blocks c.copy_slots.new.arenas.node_blocks c.args.arenas.now.leaves c.copy_slots.new.arenas.leaves c.args.arenas.now.leaf_blocks c.copy_slots.new.arenas.leaf_blocks (slice_index c.args.words.now (c.args.first + v)) (drop c.args.depth (bits_left c.args.way.now)) (g.R.Region.bits c.args.region.now - c.args.depth) (part (bits_of c.args.depth v) (g.R.Region.answers c.args.region.now)) c.copy_slots.ensures.nodes c.copy_slots.ensures.leaves (c.requires.words v l)),
                            stores_more c.args.words.now c.copy_slots.new.stores.items (c.args.first + 2 ^ (c.args.depth - 1)) (c.args.first + 1 * 2 ^ (c.args.depth - 1) % 4294967296) (omega (arith, n)) c.in_ok-copy_slots.ensures.stores,
                          ),
                        ),
                      ),
                    ),
                  ),
                ),
              ),
            ),
          ),
        ),
      ),
    )

pub returns-in_err-new-clause-refused : goal.returns-in_err-new-clause-refused
returns-in_err-new-clause-refused g t c =
    let out = slot_refused c.args.arenas.now.nodes c.args.arenas.now.leaves c.args.words.now c.args.first c.args.depth (g.R.Region.bits c.args.region.now) (g.R.Region.bits c.args.region.now - c.args.depth) (g.R.Region.answers c.args.region.now) c.in_err-new.field-0.0 c.if-depth-eq0.true (omega (arith, c.if-depth-eq0.true)) c.in_err-new.ensures.refused in
    let p = err_from_is_err_and c.from_residual.result c.from_residual.ensures.1 in
    rw (p.1, p.2) out

pub returns-in_err-reserve-clause-refused : goal.returns-in_err-reserve-clause-refused
returns-in_err-reserve-clause-refused g t c =
    let p = err_from_is_err_and c.from_residual-in_err-reserve.result c.from_residual-in_err-reserve.ensures.1 in
    rw (p.1, p.2) (λ k h few s. tt)

pub returns-in_ok-reserve-clause-met : goal.returns-in_ok-reserve-clause-met
returns-in_ok-reserve-clause-met g t c = slot_met c.args.arenas.now.nodes c.copy_word.new.arenas.nodes c.args.arenas.now.leaves c.copy_word.new.arenas.leaves c.args.words.now c.args.first c.args.depth (g.R.Region.bits c.args.region.now) (g.R.Region.bits c.args.region.now - c.args.depth) (g.R.Region.answers c.args.region.now) c.if-depth-eq0.true (omega (arith, c.if-depth-eq0.true)) c.in_ok-new.ensures.met

pub returns-else-new-word-clause-met : goal.returns-else-new-word-clause-met
returns-else-new-word-clause-met g t c = slot_met c.args.arenas.now.nodes c.copy_word.new.arenas.nodes c.args.arenas.now.leaves c.copy_word.new.arenas.leaves c.args.words.now c.args.first c.args.depth (g.R.Region.bits c.args.region.now) (g.R.Region.bits c.args.region.now - c.args.depth) (g.R.Region.answers c.args.region.now) c.if-depth-eq0.true (omega (arith, c.if-depth-eq0.true)) c.in_ok-new.ensures.met

pub returns-in_err-copy_slots-clause-refused : goal.returns-in_err-copy_slots-clause-refused
returns-in_err-copy_slots-clause-refused g t c =
    let out = low_refused c.args.arenas.now.nodes c.args.arenas.now.nodes c.args.arenas.now.leaves c.args.arenas.now.leaves c.args.words.now c.args.first (c.args.first + 2 ^ (c.args.depth - 1)) c.args.depth (c.args.depth - 1)
    (g.R.Region.bits c.args.region.now - c.args.depth) (g.R.Region.bits c.half.result - (c.args.depth - 1)) (g.R.Region.bits c.args.region.now - c.args.depth) (g.R.Region.answers c.args.region.now) (g.R.Region.answers c.half.result) (side true (g.R.Region.answers c.args.region.now))
    (omega (arith, c.if-depth-eq0.false)) refl (omega (arith, c.half.ensures.bits, c.if-depth-eq0.false)) refl c.half.ensures.answers refl c.in_err-copy_slots.field-0.0 c.in_err-copy_slots.ensures.refused in
    let p = err_from_is_err_and c.from_residual-in_err-copy_slots.result c.from_residual-in_err-copy_slots.ensures.1 in
    rw (p.1, p.2) out

pub returns-clause-met : goal.returns-clause-met
returns-clause-met g t c =
    let n = next_is c.args.first c.args.depth c.requires.shallow in
    on_ok c.copy_slots-2.result c.copy_slots-2.ensures.met
    (λ m. halves_met c.args.arenas.now.nodes c.copy_slots.new.arenas.nodes c.args.arenas.now.leaves c.copy_slots.new.arenas.leaves c.args.words.now c.args.first (c.args.first + 1 * 2 ^ (c.args.depth - 1) % 4294967296) c.args.depth (c.args.depth - 1)
    (g.R.Region.bits c.args.region.now - c.args.depth) (g.R.Region.bits c.half.result - (c.args.depth - 1)) (g.R.Region.bits c.half-2.result - (c.args.depth - 1)) (g.R.Region.answers c.args.region.now) (g.R.Region.answers c.half.result) (g.R.Region.answers c.half-2.result)
    (omega (arith, c.if-depth-eq0.false)) n (omega (arith, c.half.ensures.bits, c.if-depth-eq0.false)) (omega (arith, c.half-2.ensures.bits, c.if-depth-eq0.false)) c.half.ensures.answers c.half-2.ensures.answers
    c.copy_slots-2.new.arenas.nodes c.copy_slots-2.new.arenas.leaves c.copy_slots.ensures.nodes.keeps c.copy_slots.ensures.leaves.keeps c.copy_slots.ensures.nodes.order c.copy_slots.ensures.leaves.order c.in_ok-copy_slots.ensures.met m)

pub returns-clause-refused : goal.returns-clause-refused
returns-clause-refused g t c =
    let n = next_is c.args.first c.args.depth c.requires.shallow in
    if_err c.copy_slots-2.result (λ e. MeetsNotSlots c.copy_slots.new.arenas.nodes c.copy_slots.new.arenas.leaves c.args.words.now (c.args.first + 1 * 2 ^ (c.args.depth - 1) % 4294967296) (c.args.depth - 1) (g.R.Region.bits c.half-2.result - (c.args.depth - 1)) (g.R.Region.answers c.half-2.result) e)
    (λ e. MeetsNotSlots c.args.arenas.now.nodes c.args.arenas.now.leaves c.args.words.now c.args.first c.args.depth (g.R.Region.bits c.args.region.now - c.args.depth) (g.R.Region.answers c.args.region.now) e) c.copy_slots-2.ensures.refused
    (λ e m. high_refused c.args.arenas.now.nodes c.copy_slots.new.arenas.nodes c.args.arenas.now.leaves c.copy_slots.new.arenas.leaves c.args.words.now c.args.first (c.args.first + 1 * 2 ^ (c.args.depth - 1) % 4294967296) c.args.depth (c.args.depth - 1)
    (g.R.Region.bits c.args.region.now - c.args.depth) (g.R.Region.bits c.half.result - (c.args.depth - 1)) (g.R.Region.bits c.half-2.result - (c.args.depth - 1)) (g.R.Region.answers c.args.region.now) (g.R.Region.answers c.half.result) (g.R.Region.answers c.half-2.result)
    (omega (arith, c.if-depth-eq0.false)) n (omega (arith, c.half.ensures.bits, c.if-depth-eq0.false)) (omega (arith, c.half-2.ensures.bits, c.if-depth-eq0.false)) c.half.ensures.answers c.half-2.ensures.answers
    e c.copy_slots.ensures.nodes.keeps c.copy_slots.ensures.leaves.keeps c.copy_slots.ensures.nodes.order c.copy_slots.ensures.leaves.order c.in_ok-copy_slots.ensures.met m)

pub returns-in_ok-reserve-clause-kept : goal.returns-in_ok-reserve-clause-kept
returns-in_ok-reserve-clause-kept g t c =
    kept_stored c.args.arenas.now.nodes c.args.arenas.now.leaves c.args.words.now c.args.stores.now.items c.push_reserved.new.self.items c.args.first c.in_ok-new.new (g.R.Region.bits c.args.region.now) (g.R.Region.answers c.args.region.now) c.in_ok-new.ensures.kept
    c.args.depth (g.R.Region.bits c.args.region.now - c.args.depth) c.if-depth-eq0.true (omega (arith, c.if-depth-eq0.true)) c.requires.stores (c.push_reserved.ensures.items ∙ ap (λ (x : List Store). x ++ record { slot = c.args.first; word = c.in_ok-new.new } ∷ []) c.reserve.ensures.items)

pub returns-else-new-word-clause-kept : goal.returns-else-new-word-clause-kept
returns-else-new-word-clause-kept g t c =
    kept_same c.args.arenas.now.nodes c.args.arenas.now.leaves c.args.words.now c.args.stores.now.items c.args.stores.now.items c.args.first c.in_ok-new.new (g.R.Region.bits c.args.region.now) (g.R.Region.answers c.args.region.now) c.in_ok-new.ensures.kept
    c.args.depth (g.R.Region.bits c.args.region.now - c.args.depth) c.if-depth-eq0.true (omega (arith, c.if-depth-eq0.true)) c.requires.stores refl c.if-new-word.false

pub returns-clause-kept : goal.returns-clause-kept
returns-clause-kept g t c =
    let n = next_is c.args.first c.args.depth c.requires.shallow in
    on_ok c.copy_slots-2.result c.copy_slots-2.ensures.kept
    (λ k. kept_halves c.args.arenas.now.nodes c.copy_slots.new.arenas.nodes c.args.arenas.now.leaves c.copy_slots.new.arenas.leaves c.args.words.now c.args.stores.now.items c.copy_slots.new.stores.items c.copy_slots-2.new.stores.items c.args.first (c.args.first + 1 * 2 ^ (c.args.depth - 1) % 4294967296) c.args.depth (c.args.depth - 1)
    (g.R.Region.bits c.args.region.now - c.args.depth) (g.R.Region.bits c.half.result - (c.args.depth - 1)) (g.R.Region.bits c.half-2.result - (c.args.depth - 1)) (g.R.Region.answers c.args.region.now) (g.R.Region.answers c.half.result) (g.R.Region.answers c.half-2.result)
    (omega (arith, c.if-depth-eq0.false)) n (omega (arith, c.half.ensures.bits, c.if-depth-eq0.false)) (omega (arith, c.half-2.ensures.bits, c.if-depth-eq0.false)) c.half.ensures.answers c.half-2.ensures.answers
    c.copy_slots.ensures.nodes.keeps c.copy_slots.ensures.leaves.keeps c.in_ok-copy_slots.ensures.kept k)

pub copy_word-requires-clause-word : goal.copy_word-requires-clause-word
copy_word-requires-clause-word g t c = old_here c.args.arenas.now.nodes c.args.arenas.now.leaves c.args.words.now c.args.first (bits_left c.args.way.now) (g.R.Region.bits c.args.region.now) (g.R.Region.answers c.args.region.now) c.args.depth c.if-depth-eq0.true c.requires.words
