-- An update that was made ready had no cause to wait for a lookup.
use Rattle.std.proofs.Common.{◌≡◌, ℕ, zero, suc, ◌^◌, List, [], ◌∷◌, Bool, true, false, Result, Ok, Err, sym, ap, ◌∙◌, arith, subst, inl, inr}
use Rattle.std.specs.Prelude.{IfOk, OnOk}
use Rattle.std.proofs.Math.Pow.{pow-lt}
use Rattle.std.proofs.lemmas.Bool.{cases_lt}
use Rattle.table_model.specs.Entries.{Entries}
use Rattle.buddy_arena.specs.Space.{Free, IsLeastFrom, Space, blocks, first_block, marked}
use Rattle.buddy_arena.specs.declared.arena.Full.{Full}
use Rattle.poptrie_build.specs.declared.node.Node.{Node}
use Rattle.path_copying.specs.Asks.{Ask, Frees, MeetsAsk, MeetsInTurn, MeetsNeed, RefusesAsk, RefusesBlock, RunsOut}
use Rattle.path_copying.specs.declared.blocks.Refusal.{Refusal}
use Rattle.path_copying.specs.declared.blocks.Refusal.TheVariants as refusal
use Rattle.poptrie_set.specs.Fits.{until}
use Rattle.poptrie_set.specs.Prepares.{asks_of, GaveBack}
use Rattle.poptrie_set.specs.declared.trie_set.Oldest.{Oldest}
use Rattle.poptrie_update.specs.Lives.{Living}
use Rattle.poptrie_update.specs.Prepares.{IsFreeBy, IsMadeIn, IsRetiredAfter, IsToWait, RunsShort, refusal_in}
use Rattle.poptrie_update.specs.declared.live.Other.{Other}
use Rattle.poptrie_update.specs.declared.live.Other.TheVariants as other
use Rattle.poptrie_update.specs.declared.pending.Stores.{Stores}
use Rattle.poptrie_update.specs.declared.pending.Stores.TheVariants as stores

pub on_ok : {A B Q : Type 0} (r : Result A B) (P : A → Type 0) → IfOk r P → ((a : A) → P a → Q) → OnOk r Q
on_ok (Ok a) P h f = f a h
on_ok (Err b) P h f = tt

-- ---- a block that is asked for
same_power : (i j : ℕ) → 2 ^ i ≡ 2 ^ j → i ≡ j
same_power i j e =
    elim (cases_lt i j) [
      | inl h ↦ absurd (let p = pow-lt {i = i} {j = j} h in omega (arith, p, e))
      | inr h ↦ elim (cases_lt j i) [ inl g ↦ absurd (let p = pow-lt {i = j} {j = i} g in omega (arith, p, e)) | inr g ↦ omega (arith, h, g) ]
    ]

same_least : (k m n : ℕ) (bs : List Free) → IsLeastFrom k m bs → IsLeastFrom k n bs → m ≡ n
same_least k m n bs a b =
    elim (cases_lt m n) [
      | inl h ↦ (let e : false ≡ true = sym (b.least m a.from h) ∙ a.there in cc)
      | inr h ↦ elim (cases_lt n m) [ inl g ↦ (let e : false ≡ true = sym (a.least n b.from g) ∙ b.there in cc) | inr g ↦ omega (arith, h, g) ]
    ]

-- the same one comes out
same_block : (order need : ℕ) (old a b : List Bool) → MeetsNeed order need old a → MeetsNeed order need old b → a ≡ b
same_block order need old a b x y =
    let k = same_power x.1 y.1 (x.2 ∙ sym y.2) in
    let m = same_least x.1 x.3.chosen.0 y.3.chosen.0 (blocks order old) x.3.chosen.1 (subst (λ (i : ℕ). IsLeastFrom i y.3.chosen.0 (blocks order old)) (sym k) y.3.chosen.1) in
    let place : x.0 ≡ y.0 = x.3.chosen.2 ∙ (ap (λ (i : ℕ). first_block i (blocks order old)) m ∙ sym y.3.chosen.2) in
    x.3.free ∙ (ap (λ (p : ℕ). marked p (2 ^ x.1) false old) place ∙ (ap (λ (i : ℕ). marked y.0 (2 ^ i) false old) k ∙ sym y.3.free))

-- it isn't refused
block_met : (order need : ℕ) (old new : List Bool) (e : Full) → MeetsNeed order need old new → RefusesBlock order need old e → ⊥
block_met order need old new e x r =
    let k = same_power x.1 e.order (x.2 ∙ sym r.0) in
    let f : true ≡ false = sym x.3.chosen.1.there ∙ r.1 x.3.chosen.0 (omega (arith, x.3.chosen.1.from, k)) in
    cc

-- ---- all that are asked for
same_frees : (s t : Frees) → s.0 ≡ t.0 → s.1 ≡ t.1 → s ≡ t
same_frees s t a b = ap (λ (x : List Bool). let p : Frees = (x, s.1) in p) a ∙ ap (λ (x : List Bool). let p : Frees = (t.0, x) in p) b

same_ask : (n l : ℕ) (a : Ask) (s t u : Frees) → MeetsAsk n l a s t → MeetsAsk n l a s u → t ≡ u
same_ask n l (zero, need) s t u x y = same_frees t u (same_block n need s.0 t.0 u.0 x.0 y.0) (x.1 ∙ sym y.1)
same_ask n l (suc a, need) s t u x y = same_frees t u (x.1 ∙ sym y.1) (same_block l need s.1 t.1 u.1 x.0 y.0)

ask_met : (n l : ℕ) (a : Ask) (s u : Frees) (e : Refusal) → MeetsAsk n l a s u → RefusesAsk n l a s e → ⊥
ask_met n l (zero, need) s u (refusal.Nodes e) m r = block_met n need s.0 u.0 e m.0 r
ask_met n l (zero, need) s u (refusal.Leaves e) m r = absurd r
ask_met n l (zero, need) s u refusal.Memory m r = absurd r
ask_met n l (suc a, need) s u (refusal.Nodes e) m r = absurd r
ask_met n l (suc a, need) s u (refusal.Leaves e) m r = block_met l need s.1 u.1 e m.0 r
ask_met n l (suc a, need) s u refusal.Memory m r = absurd r

all_met : (n l : ℕ) (xs : List Ask) (s t : Frees) (e : Refusal) → MeetsInTurn n l xs s t → RunsOut n l xs s e → ⊥
unfolding MeetsInTurn RunsOut
all_met n l [] s t e m r = r
all_met n l (a ∷ xs) s t e m r =
    elim r [
      | inl h ↦ ask_met n l a s m.0 e m.1 h
      | inr h ↦ all_met n l xs m.0 t e m.2 (subst (λ (x : Frees). RunsOut n l xs x e) (same_ask n l a s h.0 m.0 h.1 m.1) h.2)
    ]

-- ---- an update
not_retired : (since : ℕ) (state : Other) → IsFreeBy since state → IsRetiredAfter since state → ⊥
not_retired since other.Free f r = r
not_retired since (other.Retired end) f r = omega (arith, f, r)
not_retired since other.Built f r = r
not_retired since other.Replaced f r = r

made_unpinned : (since : ℕ) (x : Stores) (old new : Living) (L M : Entries) (nodes nodes2 : Space Node) (leaves leaves2 : Space ℕ) (first : Refusal) → IsMadeIn since x old new L M nodes leaves → nodes2.order ≡ nodes.order → leaves2.order ≡ leaves.order → nodes2.free ≡ nodes.free → leaves2.free ≡ leaves.free → IsRetiredAfter since old.state → RunsShort old.selected L M nodes2 leaves2 first → ⊥
made_unpinned since (stores.Words w) old new L M nodes nodes2 leaves leaves2 first made n l fn fl retired short =
    let asks = asks_of old.selected.family old.selected.direct_bits L M in
    all_met nodes.order leaves.order asks (nodes.free, leaves.free) (new.selected.nodes.space.free, new.selected.leaves.space.free) first made.1
    (subst (λ (i : ℕ). RunsOut i leaves.order asks (nodes.free, leaves.free) first) n
    (subst (λ (i : ℕ). RunsOut nodes2.order i asks (nodes.free, leaves.free) first) l
    (subst (λ (x : List Bool). RunsOut nodes2.order leaves2.order asks (x, leaves.free) first) fn
    (subst (λ (x : List Bool). RunsOut nodes2.order leaves2.order asks (nodes2.free, x) first) fl short.refused))))
made_unpinned since (stores.Selector stored) old new L M nodes nodes2 leaves leaves2 first made n l fn fl retired short = not_retired since old.state made.0 retired

module _ (who : Oldest) (time : ℕ) (old new : Living) (L M : Entries) (nodes : Space Node) (leaves : Space ℕ) (given : GaveBack (until who time) old.selected nodes leaves)
    (just : (ns : Space Node) (ls : Space ℕ) → GaveBack (until who time) old.selected ns ls → (ns.free ≡ nodes.free) × (ls.free ≡ leaves.free)) where
  pub unpinned : (x : Stores) → IsMadeIn (until who time) x old new L M nodes leaves → IsToWait who old L M → ⊥
  unpinned x made (need, cursor, arena, e, (since, started, retired, few, many, (ns, ls, gave, short))) =
      let at : since ≡ until who time = sym (ap (λ (w : Oldest). until w time) started) in
      let back = subst (λ (n : ℕ). GaveBack n old.selected ns ls) at gave in
      let same = just ns ls back in
      made_unpinned (until who time) x old new L M nodes ns leaves ls (refusal_in arena e) made (back.nodes.order ∙ sym given.nodes.order) (back.leaves.order ∙ sym given.leaves.order) same.0 same.1 (subst (λ (n : ℕ). IsRetiredAfter n old.state) at retired) short
