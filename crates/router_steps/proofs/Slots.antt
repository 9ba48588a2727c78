-- Slots of addresses, and the stores that cover them.
use Rattle.std.proofs.Common.{◌≡◌, ℕ, zero, suc, ◌-◌, ◌≤◌, List, [], ◌∷◌, Bool, take, map, nat_eq, refl, sym, ap, ◌∙◌, inl, inr}
use Rattle.std.specs.Prelude.{◌||◌}
use Rattle.std.specs.List.{list_any}
use Rattle.std.proofs.lemmas.Bool.{cases_eq, eq-eqb, ne_eqb}
use Rattle.table_model.specs.Bits.{value_of}
use Rattle.fib_addr.specs.declared.addr.Addr.{Addr}
use Rattle.fib_addr.specs.Views.{addr_as}
use Rattle.poptrie_set.specs.Lives.{Seen, Store, stores_cover}
use Rattle.poptrie_set.specs.First.{slot_of}
use Rattle.poptrie_update.specs.Lives.{stores_made}
use Rattle.poptrie_update.specs.Reads.{covers_by}
use Rattle.poptrie_update.specs.declared.live.Other.{Other}
use Rattle.poptrie_update.specs.declared.live.Other.TheVariants as other
use Rattle.step_script.specs.Machine as machine
use Rattle.router_steps.specs.Paused.{stores_in}

-- ---- the slot of an address is the number that its first bits are
pub slot_is : (s : ℕ) (a : Addr) → s ≤ 32 → slot_of s a ≡ value_of (take s (addr_as a).bits)
slot_is s a h = refl

-- ---- what covers it
pub eq_comm : (n m : ℕ) → nat_eq n m ≡ nat_eq m n
eq_comm n m = elim (cases_eq n m) [
  | inl e ↦ eq-eqb n m e ∙ sym (eq-eqb m n (sym e))
  | inr e ↦ ne_eqb n m e ∙ sym (ne_eqb m n (λ q. e (sym q)))
]

pub covers_words : (made : ℕ) (stores : List Store) (v : ℕ) → stores_cover (take made stores) v ≡ list_any (nat_eq v) (take made (map (λ (x : ℕ × ℕ). x.0) stores))
covers_words zero stores v = refl
covers_words (suc made) [] v = refl
covers_words (suc made) (x ∷ stores) v = ap (λ (b : Bool). b || stores_cover (take made stores) v) (eq_comm x.0 v) ∙ ap (λ (b : Bool). nat_eq v x.0 || b) (covers_words made stores v)

pub covers_is : (o : Other) (s : Seen) (v : ℕ) → covers_by o s v ≡ machine.covers (stores_in o s) (stores_made o s.made) v
covers_is other.Free s v = covers_words s.made s.stores v
covers_is (other.Retired end) s v = covers_words s.made s.stores v
covers_is other.Built s v = refl
covers_is other.Replaced s v = refl
