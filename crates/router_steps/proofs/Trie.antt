-- The trie and its pending update, in a state of the machine.
use Rattle.std.proofs.Common.{◌≡◌, ℕ, suc, ◌+◌, ◌-◌, ◌≤◌, List, [], ◌∷◌, Bool, true, false, cond, Option, Some, None, map, length, refl, sym, ap, ◌∙◌, arith}
use Rattle.std.specs.Prelude.{◌&&◌}
use Rattle.table_model.specs.declared.family.Family.{Family}
use Rattle.table_model.specs.Entries.{Entries}
use Rattle.fib_addr.specs.declared.addr.Addr.{Addr}
use Rattle.fib_addr.specs.Views.{addr_as}
use Rattle.poptrie_set.specs.Lives.{Seen, Store}
use Rattle.poptrie_set.specs.First.{slot_of}
use Rattle.poptrie_update.specs.Lives.{Living, Shows, ShowsBy, KeepsBy, is_pending, stores_left, left_by, made_of, stores_made}
use Rattle.poptrie_update.specs.Reads.{covers_by, published_entries}
use Rattle.poptrie_update.specs.declared.live.Other.{Other}
use Rattle.poptrie_update.specs.declared.live.Other.TheVariants as other
use Rattle.step_script.specs.Machine as machine
use Rattle.step_script.specs.Machine.{World, Begun, Stores, count_of, changes_family}
use Rattle.router_steps.specs.Paused.{shown_after, stores_in, IsUnderWay, IsBegun, IsTrieAt}
use Rattle.router_steps.proofs.Slots.{slot_is, covers_is}

-- ---- the event that is begun
pub own_begun : (w : World) (f : Family) (n : ℕ) (l : Living) (b : Option Begun) → IsBegun w f n l b → is_pending l ≡ true → (x : Begun) × (b ≡ Some x) × (changes_family f (w.changed n) ≡ true) × IsUnderWay l x
own_begun w f n l None h e = absurd (cc)
own_begun w f n l (Some x) h e = by (changes_family f (w.changed n)) refl
  where
    by : (i : Bool) → changes_family f (w.changed n) ≡ i → (y : Begun) × (Some x ≡ Some y) × (changes_family f (w.changed n) ≡ true) × IsUnderWay l y
    by true q = (x, refl, q, h.0 q)
    by false q = let z : is_pending l ≡ false = h.1 q in absurd (cc)

-- ---- its stores
map_length : (s : List Store) → length (map (λ (x : ℕ × ℕ). x.0) s) ≡ length s
map_length [] = refl
map_length (x ∷ s) = ap suc (map_length s)

counted_by : (o : Other) (s r : Seen) (L M : Entries) → ShowsBy o s r L M → left_by o (length s.stores - s.made) + stores_made o s.made ≡ count_of (stores_in o s)
counted_by other.Free s r L M sh = omega (arith, sh.2.made, map_length s.stores)
counted_by (other.Retired end) s r L M sh = omega (arith, sh.2.made, map_length s.stores)
counted_by other.Built s r L M sh = refl
counted_by other.Replaced s r L M sh = refl

pub counted : (l : Living) (L M : Entries) → Shows l L M → stores_left l + made_of l ≡ count_of (stores_in l.state l.selected)
counted l L M sh = counted_by l.state l.selected l.other L M sh

pub kept_stores : (o : Other) (old new : Living) → KeepsBy o old new → stores_in new.state new.selected ≡ stores_in o old.selected
kept_stores other.Free old new k = ap (λ (x : Other). stores_in x new.selected) k.0 ∙ ap (λ (x : List Store). machine.words (map (λ (y : ℕ × ℕ). y.0) x)) k.1
kept_stores (other.Retired end) old new k = ap (λ (x : Other). stores_in x new.selected) k.0 ∙ ap (λ (x : List Store). machine.words (map (λ (y : ℕ × ℕ). y.0) x)) k.1
kept_stores other.Built old new k = ap (λ (x : Other). stores_in x new.selected) k
kept_stores other.Replaced old new k = ap (λ (x : Other). stores_in x new.selected) k

-- ---- what is published
pick : (c d i : Bool) (n : ℕ) (routes : ℕ → Entries) → (i ≡ true → c ≡ d) → cond c (routes (cond i (suc n) n)) (routes n) ≡ routes (cond (i && d) (suc n) n)
pick true d false n routes h = refl
pick false d false n routes h = refl
pick true true true n routes h = refl
pick false false true n routes h = refl
pick true false true n routes h = let q = h refl in absurd (cc)
pick false true true n routes h = let q = h refl in absurd (cc)

pub published_is : (w : World) (f : Family) (n : ℕ) (b : Option Begun) (lookups : Family → ℕ → Option machine.Lookup) (l : Living) (a : Addr) → w.direct ≤ 32 → a.family ≡ f → IsTrieAt w f n b l → published_entries l (w.routes n) (w.routes (shown_after w f n b)) a ≡ w.routes (machine.published w (record { ended = n; begun = b; lookups = lookups }) (addr_as a))
published_is w f n None lookups l a few fam h = pick (covers_by l.state l.selected (slot_of l.selected.direct_bits a)) false false n w.routes (λ e. absurd (cc))
published_is w f n (Some b) lookups l a few fam h =
    pick (covers_by l.state l.selected (slot_of l.selected.direct_bits a)) (machine.covers b.stores b.made (machine.direct_slot w (addr_as a))) (changes_family f (w.changed n)) n w.routes same
    ∙ ap (λ (g : Family). w.routes (cond (changes_family g (w.changed n) && machine.covers b.stores b.made (machine.direct_slot w (addr_as a))) (suc n) n)) (sym fam)
  where
    same : changes_family f (w.changed n) ≡ true → covers_by l.state l.selected (slot_of l.selected.direct_bits a) ≡ machine.covers b.stores b.made (machine.direct_slot w (addr_as a))
    same e =
        let u = h.begun.0 e in
        covers_is l.state l.selected (slot_of l.selected.direct_bits a)
        ∙ (ap (λ (x : Stores). machine.covers x (made_of l) (slot_of l.selected.direct_bits a)) (sym u.stores)
        ∙ (ap (λ (m : ℕ). machine.covers b.stores m (slot_of l.selected.direct_bits a)) (sym u.made)
        ∙ (ap (λ (d : ℕ). machine.covers b.stores b.made (slot_of d a)) h.direct
        ∙ ap (machine.covers b.stores b.made) (slot_is w.direct a few))))
